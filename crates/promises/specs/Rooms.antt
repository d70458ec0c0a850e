-- The working room behind a plan: zero in the words that the plan took, by the run's stops and reads, and the later words as they were.
use Rattle.std.specs.Prelude.{ℕ, ◌+◌, ◌*◌, ◌≡◌, List, ◌++◌, drop, replicate}
use Rattle.runs.specs.Run.{Run, total}
use Rattle.demands.specs.RefusalTable.{HasStops}

pub record RoomOfPlan (run : Run) (room room' : List ℕ) : Type 0 where
  pub stops : ℕ
  pub are : HasStops run stops
  pub left : room' ≡ replicate (stops * stops * (total run.counts + 1)) 0 ++ drop (stops * stops * (total run.counts + 1)) room
