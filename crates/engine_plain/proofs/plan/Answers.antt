-- A list that is refused is handed on as the answer; one that is written is priced.
use Rattle.runs.specs.Run.{run_of}
use Rattle.engine_plain.specs.Plain.{plain_rows}
use Rattle.engine_plain.proofs.Planned.{plain_passes, is_listed, run_planned, planned_so}
use Rattle.engine_plain.proofs.plan.Goals as goal

pub returns-in-Ok : goal.returns-in-Ok
returns-in-Ok c =
    let a = c.args in
    let r = run_of a.starts.now a.lengths.now a.aggregates.now a.numbers.now a.counts.now a.head a.turn in
    let rows = plain_rows a.froms.now a.tos.now a.times.now a.legs.now in
    let l = c.in-Ok.ensures in
    let ok = plain_passes r rows _ _ _ l in
    run_planned r rows _ _ _ l _ _
    (planned_so r rows ok.run ok.times ok.legs _ _ _ (is_listed r rows _ _ _ l) _ _ _ c.price.ensures.value c.price.ensures.legs_value)
