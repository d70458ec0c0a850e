-- What follows of demand 3: the same where reads are counted by file as handed in; that no movement at all beats the plan of a run; and that some
-- movement comes up to it, so that the bound is the best there is.
use Rattle.std.specs.Prelude.{ℕ, ◌≤◌, ◌≡◌, List}
use Rattle.refusals.specs.declared.Refusal.TheVariants.{Accepted}
use Rattle.walk.specs.declared.Answer.{Answer}
use Rattle.walk.specs.declared.Leg.{Leg}
use Rattle.runs.specs.Run.{Run, stops_of}
use Rattle.walk.specs.Walk.{head_at, Moves, ServesAll, sum_of}
use Rattle.least.specs.Wants.{reads_of_file}
use Rattle.planner.specs.Plan.{Plans}
use Rattle.planner.specs.Rows.{Rows}
use Rattle.demands.specs.RefusalTable.{NothingApplies}
use Rattle.demands.specs.Demand3.{AsksNoLess}

-- As `AsksNoLess`, with at least as many reads of every file as handed in. A run may ask for no less by its stops and not by its files: where an aggregate
-- has two members, and each run wants another of them.
pub record AsksNoLessByFile (first second : Run) : Type 0 where
  pub starts : first.starts ≡ second.starts
  pub lengths : first.lengths ≡ second.lengths
  pub aggregates : first.aggregates ≡ second.aggregates
  pub reads : (f : ℕ) → reads_of_file second.numbers second.counts f ≤ reads_of_file first.numbers first.counts f
  pub turn : second.turn ≤ first.turn
  pub head : second.head ≤ first.head

-- Of accepted runs the one follows from the other. So every statement that asks for the first holds where the second does.
abbrev pub NoLessByFile : Type 0
NoLessByFile = (first second : Run) → NothingApplies first → NothingApplies second → AsksNoLessByFile first second → AsksNoLess first second

abbrev pub Demand3ByFile : Type 0
Demand3ByFile =
    (first second : Run) (before : Rows) (answer : Answer) (after : Rows)
    → NothingApplies first
    → Plans second before answer after
    → answer.refusal ≡ Accepted
    → AsksNoLessByFile first second
    → (gs : List Leg)
    → Moves first.head gs
    → ServesAll gs (stops_of first)
    → answer.sum ≤ sum_of first.turn (head_at first.head) gs (stops_of first)

-- No movement at all beats the plan of a run.
abbrev pub Demand3Same : Type 0
Demand3Same =
    (r : Run) (before : Rows) (answer : Answer) (after : Rows)
    → Plans r before answer after
    → answer.refusal ≡ Accepted
    → (gs : List Leg)
    → Moves r.head gs
    → ServesAll gs (stops_of r)
    → answer.sum ≤ sum_of r.turn (head_at r.head) gs (stops_of r)

-- And the sum reported is that of a movement of the run's head that serves all its reads.
pub record Attained (r : Run) (sum : ℕ) : Type 0 where
  pub legs : List Leg
  pub moves : Moves r.head legs
  pub serves : ServesAll legs (stops_of r)
  pub is : sum ≡ sum_of r.turn (head_at r.head) legs (stops_of r)

abbrev pub Demand3Attained : Type 0
Demand3Attained =
    (r : Run) (before : Rows) (answer : Answer) (after : Rows)
    → Plans r before answer after
    → answer.refusal ≡ Accepted
    → Attained r answer.sum
