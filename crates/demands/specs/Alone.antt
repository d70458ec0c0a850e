-- Request L10: where no file lies in an aggregate, everything is what it was before there were any.
use Rattle.std.specs.Prelude.{ℕ, ◌≡◌, List}
use Rattle.runs.specs.Run.{stops_of, want_stops_of}
use Rattle.runs.specs.Judging.{judge_of}
use Rattle.runs.specs.Alone.{alone_of, lone_stops, judge_alone}
use Rattle.demands.specs.RefusalTable.{NothingApplies}

-- The run with a row of zeros is judged by the table, the wants and the head alone (`judge_alone`); and where it is accepted, its stops are one for
-- each want, with that file's own number, start and end (`lone_stops`), before and after joining. Every answer is made of these.
pub record AsBefore (starts lengths numbers counts : List ℕ) (head turn : ℕ) : Type 0 where
  pub verdict : judge_of (alone_of starts lengths numbers counts head turn) ≡ judge_alone starts lengths numbers counts head turn
  pub stops : NothingApplies (alone_of starts lengths numbers counts head turn)
      → (stops_of (alone_of starts lengths numbers counts head turn) ≡ lone_stops starts lengths numbers counts)
      × (want_stops_of (alone_of starts lengths numbers counts head turn) ≡ lone_stops starts lengths numbers counts)

abbrev pub AloneAsBefore : Type 0
AloneAsBefore = (starts lengths numbers counts : List ℕ) (head turn : ℕ) → AsBefore starts lengths numbers counts head turn
