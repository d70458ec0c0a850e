-- What contracts of private functions cite.
use Rattle.std.specs.Prelude.{ℕ, ◌≡◌, true, false, List, length, take}
use Rattle.refusals.specs.Refusals.{is_refusal, first_of}
use Rattle.runs.specs.Run.{Run}
use Rattle.runs.specs.Lists.{Detour}
use Rattle.walk.specs.Price.{priced_answer, priced_times}
use Rattle.least.specs.Least.{LeastForRun}
use Rattle.answer_plan.specs.Recall.{run_checks}
use Rattle.answer_outcome.specs.declared.Outcome.{Outcome}
use Rattle.answer_outcome.specs.declared.Timed.{Timed}
use Rattle.answer_outcome.specs.Outcomes.{Ends}

-- The least list with its numbers, and its times in the first entries of the row.
pub record TimedList (run : Run) (t : Timed) : Type 0 where
  pub passes : is_refusal (first_of (run_checks run)).refusal ≡ false
  pub list : List Detour
  pub least : LeastForRun run list
  pub says : t.plan ≡ priced_answer run list
  pub timed : take (length run.numbers) t.times ≡ priced_times run list

-- A plan: it says itself whether it is refused.
pub record TimedPlan (run : Run) (t : Timed) : Type 0 where
  pub refused : is_refusal t.plan.refusal ≡ true → (first_of (run_checks run)).refusal ≡ t.plan.refusal
  pub planned : is_refusal t.plan.refusal ≡ false → TimedList run t
  pub long : length t.times ≡ 64

-- The outcome of a run and a tape name.
abbrev pub RunOutcome : List ℕ → Run → Outcome → Type 0
RunOutcome name run o = Ends (first_of (run_checks run)) name run o
