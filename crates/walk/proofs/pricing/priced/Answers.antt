-- The legs that the rows hold are the list's, and the loops walk them.
use Rattle.runs.specs.Run.{run_of}
use Rattle.walk.specs.Rows.{read_rows}
use Rattle.walk.proofs.Priced.{walk_numbers}
use Rattle.walk.proofs.pricing.priced.Goals as goal

pub returns-clause-value : goal.returns-clause-value
returns-clause-value c =
    let a = c.args in
    let p = c.requires.priceable in
    let r = c.fill_reads-sum.ensures in
    (walk_numbers (run_of a.starts.now a.lengths.now a.aggregates.now a.numbers.now a.counts.now a.head a.turn) a.froms.now a.tos.now (read_rows a.times.now a.legs.now) p _
    (c.sweep_end-reach.ensures a.head a.counts.now p.equal p.behind) _ r.value _ r.times_after _ r.legs_after _ c.walk_end-last.ensures).0
