-- Demand 3: no movement beats the reported sum. The planner's list is least, so the law of plans on movements applies to the two runs. The walk of that
-- list is itself a movement, of just that sum.
use mathlib.Core.Path.{◌≡◌, refl}
use native.Mathlib.Nat.{le_refl}
use Rattle.runs.specs.Run.{Run, stops_of}
use Rattle.walk.specs.Detours.{legs_of}
use Rattle.runs.proofs.Judged.{accepted_run}
use Rattle.runs.proofs.Stops.{accepted_sound}
use Rattle.least.proofs.Unbeaten.{SameTable, same_table, covers_of_reads, no_movement_beats}
use Rattle.least.proofs.Wanted.{reads_no_more}
use Rattle.demands.specs.Demand2.{list_in}
use Rattle.demands.specs.Demand3.{Demand3}
use Rattle.demands.specs.Movements.{NoLessByFile, Demand3ByFile, Demand3Same, Demand3Attained}
use Rattle.demands.proofs.Judged.{nothing_judged, judged_nothing}
use Rattle.demands.proofs.Planned.{plan_in_rows, run_accepted, reported_sum}
use Rattle.demands.proofs.Demand2.{demand2_walk}

-- Runs over one tape table have their files at the same places.
pub one_table : (first second : Run) → first.starts ≡ second.starts → first.lengths ≡ second.lengths → first.aggregates ≡ second.aggregates → SameTable (stops_of first) (stops_of second)
one_table first second s l a = rw (s, l, a) (same_table second.starts second.lengths second.aggregates first.numbers first.counts second.numbers second.counts)

pub demand3 : Demand3
demand3 first second before answer after nothing plans accepts asks gs moves serves =
    let accepted = nothing_judged first nothing in
    let plan = plan_in_rows second before answer after plans accepts in
    let passes = run_accepted second before answer after plans accepts in
    let sound = accepted_sound second passes in
    rw
    (reported_sum second plan.list answer plan.says)
    (no_movement_beats first.turn first.head second.turn second.head (stops_of first) (stops_of second) (accepted_sound first accepted) sound asks.head asks.turn
    (covers_of_reads second.head (stops_of first) (stops_of second) sound asks.reads (one_table first second asks.starts asks.lengths asks.aggregates))
    gs moves serves plan.list plan.least)

-- Reads counted by file.
pub no_less_by_file : NoLessByFile
no_less_by_file first second nothing nothing' asks =
    let good = accepted_run first (nothing_judged first nothing) in
    let good' = accepted_run second (nothing_judged second nothing') in
    record {
      starts = asks.starts;
      lengths = asks.lengths;
      aggregates = asks.aggregates;
      reads = reads_no_more first second good good' asks.starts asks.aggregates asks.reads;
      turn = asks.turn;
      head = asks.head;
    }

pub demand3_by_file : Demand3ByFile
demand3_by_file first second before answer after nothing plans accepts asks gs moves serves =
    let second-nothing = judged_nothing second (run_accepted second before answer after plans accepts) in
    demand3 first second before answer after nothing plans accepts (no_less_by_file first second nothing second-nothing asks) gs moves serves

pub demand3_same : Demand3Same
demand3_same r before answer after plans accepts gs moves serves =
    demand3 r r before answer after (judged_nothing r (run_accepted r before answer after plans accepts)) plans accepts
    (record { starts = refl; lengths = refl; aggregates = refl; reads = λ f. le_refl _; turn = le_refl _; head = le_refl _ })
    gs moves serves

-- The legs of the list in the rows.
pub demand3_attained : Demand3Attained
demand3_attained r before answer after plans accepts =
    let walk = demand2_walk r before answer after plans accepts in
    record { legs = legs_of (stops_of r) (list_in answer after); moves = walk.moves; serves = walk.serves; is = walk.sum }
