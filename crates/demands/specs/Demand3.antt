-- Demand 3, over the table as joined: no movement that serves at least these reads, at no lower turn price, from no further left, has a smaller sum
-- than we report. What follows of it is in Movements.
use Rattle.std.specs.Prelude.{ℕ, ◌≤◌, ◌≡◌, List}
use Rattle.refusals.specs.declared.Refusal.TheVariants.{Accepted}
use Rattle.walk.specs.declared.Answer.{Answer}
use Rattle.walk.specs.declared.Leg.{Leg}
use Rattle.runs.specs.Run.{Run, stops_of}
use Rattle.walk.specs.Walk.{head_at, Moves, ServesAll, sum_of}
use Rattle.least.specs.Wants.{reads_of}
use Rattle.planner.specs.Plan.{Plans}
use Rattle.planner.specs.Rows.{Rows}
use Rattle.demands.specs.RefusalTable.{NothingApplies}

-- The first run asks for no less than the second: the same tape table with the same aggregates, at least as many reads of every stop, by its name, a
-- turn price no lower, a head no further left.
pub record AsksNoLess (first second : Run) : Type 0 where
  pub starts : first.starts ≡ second.starts
  pub lengths : first.lengths ≡ second.lengths
  pub aggregates : first.aggregates ≡ second.aggregates
  pub reads : (f : ℕ) → reads_of (stops_of second) f ≤ reads_of (stops_of first) f
  pub turn : second.turn ≤ first.turn
  pub head : second.head ≤ first.head

-- Every movement of the first run's head that serves all its reads has a sum, over those reads, no smaller than the planner reports for the second.
abbrev pub Demand3 : Type 0
Demand3 =
    (first second : Run) (before : Rows) (answer : Answer) (after : Rows)
    → NothingApplies first
    → Plans second before answer after
    → answer.refusal ≡ Accepted
    → AsksNoLess first second
    → (gs : List Leg)
    → Moves first.head gs
    → ServesAll gs (stops_of first)
    → answer.sum ≤ sum_of first.turn (head_at first.head) gs (stops_of first)
