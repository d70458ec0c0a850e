-- The first lines, the detours and the times.
use Rattle.std.proofs.Common.{arith}
use Rattle.sheet_writer.specs.PlanSheet.{plan_lines}
use Rattle.text_pages.proofs.Pages.{wrote_both, wrote_within}
use Rattle.sheet_writer.proofs.plan.put_plan.Goals as goal

pub returns : goal.returns
unfolding plan_lines
returns c =
    let two = wrote_both c.put_plan_top-detour_at.ensures c.put_pairs-time_at.ensures in
    wrote_within (wrote_both two c.put_triples.ensures) _ (omega (arith, c.requires.few, c.requires.wants))
