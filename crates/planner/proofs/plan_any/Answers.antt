-- A list that is refused is handed on as the answer; one that is written is priced.
use Rattle.runs.specs.Run.{run_of}
use Rattle.planner.specs.Rows.{rows_of}
use Rattle.planner.proofs.Refusals.{plan_passes, is_named, run_planned}
use Rattle.planner.proofs.Priced.{planned_so}
use Rattle.planner.proofs.plan_any.Goals as goal

pub returns-in-Ok : goal.returns-in-Ok
returns-in-Ok c =
    let a = c.args in
    let r = run_of a.starts.now a.lengths.now a.aggregates.now a.numbers.now a.counts.now a.head a.turn in
    let rows = rows_of a.froms.now a.tos.now a.times.now a.legs.now a.room.now in
    let l = c.in-Ok.ensures in
    let ok = plan_passes r rows _ _ l in
    run_planned r rows _ _ l _ _
    (planned_so r rows ok.run ok.times ok.legs _ _ _ _ (is_named r rows _ _ l) _ _ _ c.price_any.ensures.value c.price_any.ensures.legs_value)
