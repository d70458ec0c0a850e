-- Six lines one behind the other.
use Rattle.std.proofs.Common.{arith}
use Rattle.sheet_writer.specs.PlanSheet.{plan_top}
use Rattle.text_pages.proofs.Pages.{wrote_on, wrote_within}
use Rattle.sheet_writer.proofs.plan.put_plan_top.Goals as goal

pub returns : goal.returns
unfolding plan_top
returns c =
    let short = c.requires.name_len_bound in
    let wide = c.requires.in_bounds in
    let one = c.put_line-sum_at.ensures.room (omega arith) in
    let two = wrote_on one (omega arith) c.put_number_line-reads_at.ensures in
    let three = wrote_on two (omega arith) c.put_number_line-finish_at.ensures in
    let four = wrote_on three (omega arith) c.put_number_line-end_at.ensures in
    let five = wrote_on four (omega arith) c.put_number_line-detours_at.ensures in
    wrote_within (wrote_on five (omega arith) c.put_number_line.ensures) _ (omega arith)
