-- What a sheet of a month comes to (L13), by conditions: the refusal that `plan` would print, or what its least list gives. Its longest time is said in MonthLongest.
use Rattle.std.specs.Prelude.{ℕ, ◌+◌, ◌≡◌, List, [], replicate}
use Rattle.refusals.specs.declared.Refusal.TheVariants.{Accepted}
use Rattle.runs.specs.Run.{Run, total, stops_of}
use Rattle.runs.specs.Lists.{Detour}
use Rattle.least.specs.Least.{list_sum, LeastForRun}
use Rattle.sheet_reader.specs.Sheet.{sheet_run}
use Rattle.answer_outcome.specs.declared.Outcome.{Outcome}
use Rattle.answer_outcome.specs.Outcomes.{OutcomeOf}
use Rattle.demands.specs.RefusalTable.{FirstThatApplies}
use Rattle.promises.specs.Answers.{AnswerApplies, RoomApplies, room_order}

-- The plan of a run by its least list: the reads, the sum, and by how much the sum of the empty list is larger.
pub record PlanComesTo (r : Run) (list : List Detour) (o : Outcome) : Type 0 where
  pub reads : o.reads ≡ total r.counts
  pub sum : o.sum ≡ list_sum r.turn r.head (stops_of r) list
  pub saved : list_sum r.turn r.head (stops_of r) [] ≡ o.sum + o.saved

-- Of a refused sheet every other number is 0, and no tape is named.
abbrev pub NoNumbers : Outcome → Type 0
NoNumbers o = o ≡ record { refusal = o.refusal; reads = 0; sum = 0; saved = 0; time = 0; file = 0; letters = 0; tape = replicate 16 0 }

pub record ComesTo (sheet : List ℕ) (o : Outcome) : Type 0 where
  pub place : ℕ
  pub first : FirstThatApplies (AnswerApplies RoomApplies sheet) room_order o.refusal place
  pub refused : (o.refusal ≡ Accepted → ⊥) → NoNumbers o
  pub planned : o.refusal ≡ Accepted → (list : List Detour) → LeastForRun (sheet_run sheet) list → PlanComesTo (sheet_run sheet) list o

abbrev pub SheetsComeTo : Type 0
SheetsComeTo = (sheet : List ℕ) (o : Outcome) → OutcomeOf sheet o → ComesTo sheet o
