-- What an accepted answer of the planner says: the run is accepted, there is a least list, and it is the one in the rows.
use mathlib.Core.Path.{◌≡◌, refl, sym, ap, ap₂, ◌∙◌}
use mathlib.Core.Bool.{Bool, true, false}
use mathlib.Core.List.{List, [], ◌∷◌, map}
use lib.ListN.{length, take, drop, length-map}
use lib.Seq.{take_at}
use lib.Dec.{ltb}
use Rattle.refusals.specs.declared.Refusal.TheVariants.{Accepted, ShortRow, ShortRoom}
use Rattle.walk.specs.declared.Answer.{Answer}
use Rattle.refusals.specs.Refusals.{is_refusal, refuse_if}
use Rattle.runs.specs.Run.{Run, stops_of}
use Rattle.runs.specs.Judging.{judge_of}
use Rattle.runs.specs.Lists.{Detour, list_of}
use Rattle.walk.specs.Price.{priced_answer}
use Rattle.refusals.proofs.Verdicts.{refuses, all_accept}
use Rattle.least.specs.Least.{list_sum}
use Rattle.engine_stops.proofs.Halves.{list_of_halves}
use Rattle.planner.specs.Plan.{room_for, Plans, Planned, plan_verdict, short_rows, rows_with}
use Rattle.planner.specs.Rows.{Rows}
use Rattle.demands.specs.Demand2.{list_in}

-- The rows of an accepted plan hold its list's starts and ends.
module _ (r : Run) (list : List Detour) (before : Rows) (answer : Answer) (after : Rows) (says : answer ≡ priced_answer r list) (rows : after ≡ rows_with r list before) where
  pub starts_in_rows : take answer.detours after.froms ≡ map (λ d. d.from) list
  unfolding priced_answer
  starts_in_rows = rw (says, rows) (take_at (map (λ d. d.from) list) (drop (length list) before.froms) (length list) (length-map list (λ d. d.from)))

  pub ends_in_rows : take answer.detours after.tos ≡ map (λ d. d.to) list
  unfolding priced_answer
  ends_in_rows = rw (says, rows) (take_at (map (λ d. d.to) list) (drop (length list) before.tos) (length list) (length-map list (λ d. d.to)))

  pub list_in_rows : list_in answer after ≡ list
  list_in_rows = ap₂ list_of starts_in_rows ends_in_rows ∙ list_of_halves list

pub reported_sum : (r : Run) (list : List Detour) (answer : Answer) → answer ≡ priced_answer r list → answer.sum ≡ list_sum r.turn r.head (stops_of r) list
unfolding priced_answer
reported_sum r list answer says = rw says

-- The planner accepts only a run that the judging accepts.
pub verdict_accepts_run : (r : Run) (rows : Rows) → refuses (plan_verdict r rows) ≡ false → refuses (judge_of r) ≡ false
unfolding plan_verdict
verdict_accepts_run r rows e =
    (all_accept (judge_of r ∷ refuse_if (short_rows (length r.numbers) (length (stops_of r)) rows) ShortRow ∷ refuse_if (ltb (length rows.room) (room_for r)) ShortRoom ∷ []) e).0

module _ (r : Run) (before : Rows) (answer : Answer) (after : Rows) (plans : Plans r before answer after) (accepts : answer.refusal ≡ Accepted) where
  pub not_refused : refuses (plan_verdict r before) ≡ false
  not_refused = go (refuses (plan_verdict r before)) refl
    where
      go : (b : Bool) → refuses (plan_verdict r before) ≡ b → refuses (plan_verdict r before) ≡ false
      go true e = ap is_refusal (sym (ap (λ a. a.refusal) (plans.refused e).says) ∙ accepts)
      go false e = e

  pub plan_in_rows : Planned r before answer after
  plan_in_rows = plans.planned not_refused

  pub run_accepted : refuses (judge_of r) ≡ false
  run_accepted = verdict_accepts_run r before not_refused
