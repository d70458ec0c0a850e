-- The first five lines, one behind the other.
use native.Mathlib.Omega.{arith}
use Rattle.sheet_writer.specs.Writing.{top_text}
use Rattle.text_pages.proofs.Pages.{wrote_on, wrote_within}
use Rattle.sheet_picks.proofs.sheet.put_top.Goals as goal

pub returns : goal.returns
unfolding top_text
returns c =
    let short = c.requires.name_len_bound in
    let wide = c.requires.in_bounds in
    let one = c.put_line-head_at.ensures.room (omega arith) in
    let two = wrote_on one (omega arith) c.put_number_line-turn_at.ensures in
    let three = wrote_on two (omega arith) c.put_number_line-rule_at.ensures in
    let four = wrote_on three (omega arith) c.put_line-files_at.ensures in
    wrote_within (wrote_on four (omega arith) c.put_number_line.ensures) _ (omega arith)
