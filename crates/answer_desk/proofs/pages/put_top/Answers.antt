-- The first five lines, one behind the other.
use Rattle.std.proofs.Common.{arith}
use Rattle.text_pages.proofs.Pages.{wrote_on, wrote_within}
use Rattle.answer_desk.specs.Answers.{boarded_top}
use Rattle.answer_desk.proofs.pages.put_top.Goals as goal

pub returns : goal.returns
unfolding boarded_top
returns c =
    let wide = c.requires in
    let one = c.put_pair_line-sum_at.ensures.room (omega arith) in
    let two = wrote_on one (omega arith) c.put_number_line-finish_at.ensures in
    let three = wrote_on two (omega arith) c.put_number_line-end_at.ensures in
    let four = wrote_on three (omega arith) c.put_number_line-detours_at.ensures in
    wrote_within (wrote_on four (omega arith) c.put_number_line.ensures) _ (omega arith)
