-- What the planner leaves in the rows: nothing where it refuses, else the least list and the room cleared; and the list of a sheet's run by value.
use Prim.Native.Nat.{ℕ, ◌-◌}
use mathlib.Core.Path.{◌≡◌, refl, sym, ap, ◌∙◌}
use mathlib.Core.Bool.{Bool, true, false}
use mathlib.Core.List.{List, [], ◌++◌}
use native.Mathlib.Omega.{arith}
use lib.ListN.{length, drop, replicate}
use borrow.Author.Tests.{le-ltb}
use Rattle.refusals.specs.declared.Verdict.{Verdict}
use Rattle.refusals.specs.Refusals.{is_refusal, first_of}
use Rattle.refusals.proofs.Verdicts.{refuses, first_refuses, first_passes, all_accept}
use Rattle.runs.specs.Run.{Run, stops_of}
use Rattle.runs.specs.Alone.{zeros}
use Rattle.runs.specs.AnyHead.{judge_any_of, lifted}
use Rattle.runs.proofs.AnyHead.{accepted_any}
use Rattle.runs.proofs.Stops.{stops_few}
use Rattle.walk.specs.declared.Answer.{Answer}
use Rattle.walk.specs.Price.{refusal_answer}
use Rattle.walk.specs.AnyHead.{priced_any_answer}
use Rattle.planner.specs.Plan.{room_for}
use Rattle.planner.specs.AnyHead.{PlansAny, plan_any_verdict}
use Rattle.planner.specs.Rows.{Rows}
use Rattle.sheet_runs.specs.declared.SheetRun.{SheetRun}
use Rattle.sheet_runs.specs.SheetRuns.{run_held}
use Rattle.answer_plan.specs.declared.PlannedList.{PlannedList}
use Rattle.answer_plan.specs.PlannedLists.{in_list}
use Rattle.answer_plan.proofs.Planned.{listed_in, by_value, same_value, unlisted, run_listed}
use Rattle.answer_any.specs.AnyRun.{any_checks, room_after}
use Rattle.answer_any.specs.AnyLists.{RunListedAny}
use Rattle.answer_any.specs.Private.{RowsPlanned}

-- The room under a verdict.
pub room_kept : (v : Verdict) (run : Run) (room : List ℕ) → refuses v ≡ true → room_after v run room ≡ room
unfolding room_after
room_kept v run room e = rw e

pub room_cleared : (v : Verdict) (run : Run) (room : List ℕ) → refuses v ≡ false → room_after v run room ≡ replicate (room_for run) 0 ++ drop (room_for run) room
unfolding room_after
room_cleared v run room e = rw e

-- The rows that the planner is lent, but for the room.
pub record Lent (rows : Rows) : Type 0 where
  pub froms : length rows.froms ≡ 63
  pub tos : length rows.tos ≡ 63
  pub times : length rows.times ≡ 64
  pub legs : length rows.legs ≡ 64

module _ (run : Run) (rows : Rows) (lent : Lent rows) where
  -- No row is too short.
  any_verdict_here : plan_any_verdict run rows ≡ first_of (any_checks (length rows.room) run)
  unfolding plan_any_verdict
  any_verdict_here = go (is_refusal (judge_any_of run).refusal) refl
    where
      go : (b : Bool) → is_refusal (judge_any_of run).refusal ≡ b → plan_any_verdict run rows ≡ first_of (any_checks (length rows.room) run)
      go true e = rw e
      go false e =
          let good = (accepted_any run e).run in
          let few = good.wants.few in
          let stops = stops_few (lifted run) good in
          rw (e, le-ltb (length rows.times) (length run.numbers) (omega (arith, few, lent.times)), le-ltb (length rows.legs) (length run.numbers) (omega (arith, few, lent.legs)), le-ltb (length rows.froms) (length (stops_of run) - 1) (omega (arith, few, stops, lent.froms)), le-ltb (length rows.tos) (length (stops_of run) - 1) (omega (arith, few, stops, lent.tos)))

  -- The planner's answer and its list by value, where it was lent rows of zeros for that.
  module _ (zf : rows.froms ≡ zeros 63) (zt : rows.tos ≡ zeros 63) (a : Answer) (after : Rows) (plans : PlansAny run rows a after) where
    abbrev v : Verdict
    v = first_of (any_checks (length rows.room) run)

    room_is : (b : Bool) → refuses v ≡ b → after.room ≡ room_after v run rows.room
    room_is true e = ap (λ x. x.room) (plans.refused (ap refuses any_verdict_here ∙ e)).kept ∙ sym (room_kept v run rows.room e)
    room_is false e = ap (λ x. x.room) (plans.planned (ap refuses any_verdict_here ∙ e)).rows ∙ sym (room_cleared v run rows.room e)

    pub rows_planned : RowsPlanned run rows.room (by_value a after.froms after.tos) after.room
    unfolding priced_any_answer
    rows_planned =
        record {
          listed =
              record {
                refused = λ e.
                    let p = plans.refused (ap refuses any_verdict_here ∙ e) in
                    same_value (p.says ∙ ap refusal_answer any_verdict_here) (ap (λ x. x.froms) p.kept ∙ zf) (ap (λ x. x.tos) p.kept ∙ zt);
                planned = λ e.
                    let p = plans.planned (ap refuses any_verdict_here ∙ e) in
                    record {
                      list = p.list;
                      least = p.least;
                      says =
                          same_value p.says (listed_in (λ d. d.from) p.list rows.froms after.froms zf (ap (λ x. x.froms) p.rows))
                          (listed_in (λ d. d.to) p.list rows.tos after.tos zt (ap (λ x. x.tos) p.rows));
                    };
              };
          cleared = room_is (refuses v) refl;
        }

-- The list of a sheet's run by value: none on its own refusal, else that of the run that it holds.
module _ (r : SheetRun) (room : List ℕ) (f : Bool) (f-is : f ≡ is_refusal r.verdict.refusal) where
  pub any_unlisted : f ≡ true → (l : PlannedList) → l ≡ in_list r.verdict [] → RunListedAny r room l room
  any_unlisted e l is =
      let refuses-so : refuses r.verdict ≡ true = sym f-is ∙ e in
      let whole = first_refuses r.verdict (any_checks (length room) (run_held r)) refuses-so in
      record {
        listed = unlisted (any_checks (length room)) r f f-is e l is;
        cleared = sym (room_kept _ (run_held r) room (ap refuses (sym whole) ∙ refuses-so));
      }

  pub any_listed : f ≡ false → (run : Run) → run ≡ run_held r → (l : PlannedList) (room' : List ℕ) → RowsPlanned run room l room' → RunListedAny r room l room'
  any_listed e run is l room' p =
      record {
        listed = run_listed (any_checks (length room)) r f f-is e run is l p.listed;
        cleared =
            p.cleared ∙ ap (λ x. room_after (first_of (any_checks (length room) x)) x room) is
            ∙ ap (λ v. room_after v (run_held r) room) (sym (first_passes r.verdict (any_checks (length room) (run_held r)) (sym f-is ∙ e)));
      }

-- What passes the checks has passed the judging.
pub any_judged : (words : ℕ) (run : Run) → refuses (first_of (any_checks words run)) ≡ false → refuses (judge_any_of run) ≡ false
any_judged words run e = (all_accept (any_checks words run) e).0
