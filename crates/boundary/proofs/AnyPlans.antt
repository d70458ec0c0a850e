-- The call of the planner for a head anywhere: 8 for the row of sums too, and else the planner's own answer.
use Prim.Native.Nat.{ℕ, ◌+◌, ◌*◌, ◌≤◌, ◌<◌}
use mathlib.Core.Path.{◌≡◌, refl, sym, ap, ◌∙◌}
use mathlib.Core.Bool.{Bool, true, false, true≢false, or-true, or-false}
use mathlib.Core.Logic.{⊎_elim}
use mathlib.Core.List.{List, [], ◌∷◌}
use native.Mathlib.Omega.{arith}
use lib.ListN.{length}
use lib.Dec.{ltb}
use borrow.Author.Tests.{lt-ltb, le-ltb}
use Rattle.refusals.specs.declared.Refusal.TheVariants.{ShortRow, ShortRoom}
use Rattle.refusals.specs.declared.Verdict.{Verdict}
use Rattle.refusals.specs.Refusals.{number_of, refuse_if, first_of}
use Rattle.refusals.proofs.Verdicts.{refuses}
use Rattle.runs.specs.Run.{Run, stops_of}
use Rattle.runs.specs.AnyHead.{judge_any_of}
use Rattle.runs.proofs.Search.{true_or_false}
use Rattle.walk.specs.declared.Answer.{Answer}
use Rattle.walk.specs.AnyHead.{priced_any_answer}
use Rattle.walk.proofs.Places.{place_most, first_near, if_near}
use Rattle.planner.proofs.Determined.{planned_any_once}
use Rattle.planner.specs.Plan.{short_rows, room_for}
use Rattle.planner.specs.AnyHead.{PlansAny, plan_any_verdict}
use Rattle.planner.specs.Rows.{Rows}
use Rattle.boundary.proofs.Calls.{code_accepts}
use Rattle.boundary.proofs.AnyPlaces.{judge_any_near}
use Rattle.boundary.specs.Boundary.{code_of, sums_with, plan_any_call, PlanAnyCalled}
use Rattle.boundary.specs.Private.{code_unless}

plan_near : (r : Run) (rows : Rows) → (plan_any_verdict r rows).place ≤ place_most
unfolding plan_any_verdict
plan_near r rows =
    first_near
    (judge_any_of r ∷ refuse_if (short_rows (length r.numbers) (length (stops_of r)) rows) ShortRow ∷ refuse_if (ltb (length rows.room) (room_for r)) ShortRoom ∷ [])
    (judge_any_near r, λ e. (if_near (short_rows (length r.numbers) (length (stops_of r)) rows) ShortRow, λ d. (if_near (ltb (length rows.room) (room_for r)) ShortRoom, λ c. tt)))

module _ (r : Run) (rows : Rows) (sums : List ℕ) where
  sums_first : ltb (length sums) 4 ≡ true → plan_any_call r rows sums ≡ first_of (judge_any_of r ∷ record { refusal = ShortRow; place = 0 } ∷ [])
  unfolding plan_any_call
  sums_first s = rw (s, or-true)

  call_is_plan : ltb (length sums) 4 ≡ false → plan_any_call r rows sums ≡ plan_any_verdict r rows
  unfolding plan_any_call plan_any_verdict
  call_is_plan s = rw (s, or-false)

  -- A refused call, whatever the reason: code and kept rows.
  refused_call_here : (v : Verdict) (code : ℕ) → plan_any_call r rows sums ≡ v → refuses v ≡ true → code ≡ code_of v → PlanAnyCalled r rows sums code rows sums
  refused_call_here v code is h e =
      record {
        refused = λ g. record { says = rw is e; kept = refl; kept_sums = refl };
        planned = λ g. absurd (true≢false (sym h ∙ (rw is at g)));
      }

  pub any_sums_refused : length sums < 4 → (code : ℕ) → code ≡ code_unless (judge_any_of r) 8 → PlanAnyCalled r rows sums code rows sums
  any_sums_refused short code code_is =
      let is = sums_first (lt-ltb (length sums) 4 short) in
      ⊎_elim
      (λ (h : refuses (judge_any_of r) ≡ true). refused_call_here (judge_any_of r) code (is ∙ rw h refl) h (rw h at code_is))
      (λ (h : refuses (judge_any_of r) ≡ false). refused_call_here (record { refusal = ShortRow; place = 0 }) code (is ∙ rw h refl) refl (omega (arith, rw h at code_is)))
      (true_or_false (refuses (judge_any_of r)))

  -- Past that the call is judged as the planner judges.
  module _ (long : 4 ≤ length sums) (a : Answer) (after : Rows) (plans : PlansAny r rows a after) where
    same : plan_any_call r rows sums ≡ plan_any_verdict r rows
    same = call_is_plan (le-ltb (length sums) 4 long)

    pub any_plan_placed : a.place ≤ place_most
    unfolding priced_any_answer
    any_plan_placed =
        ⊎_elim
        (λ h. rw (plans.refused h).says (plan_near r rows))
        (λ h. rw (plans.planned h).says (omega arith))
        (true_or_false (refuses (plan_any_verdict r rows)))

    module _ (code : ℕ) (code_is : code ≡ number_of a.refusal + 256 * a.place) where
      accepted_code : refuses (plan_any_verdict r rows) ≡ false → code ≡ 0
      unfolding priced_any_answer
      accepted_code h = rw (plans.planned h).says at code_is

      refused_code_here : refuses (plan_any_verdict r rows) ≡ true → code ≡ code_of (plan_any_verdict r rows)
      refused_code_here h = rw (plans.refused h).says at code_is

      pub any_plan_refused : (code ≡ 0 → ⊥) → PlanAnyCalled r rows sums code after sums
      any_plan_refused some =
          let h : refuses (plan_any_verdict r rows) ≡ true = ⊎_elim (λ g. g) (λ g. absurd (some (accepted_code g))) (true_or_false (refuses (plan_any_verdict r rows))) in
          rw (plans.refused h).kept (refused_call_here (plan_any_verdict r rows) code same h (refused_code_here h))

      pub any_plan_filled : code ≡ 0 → (out : List ℕ) → out ≡ sums_with a sums → PlanAnyCalled r rows sums code after out
      any_plan_filled none out is =
          let h : refuses (plan_any_verdict r rows) ≡ false
          = ⊎_elim (λ g. code_accepts (plan_any_verdict r rows) (sym (refused_code_here g) ∙ none)) (λ g. g) (true_or_false (refuses (plan_any_verdict r rows)))
          in
          record {
            refused = λ g. absurd (true≢false (sym (rw same at g) ∙ h));
            planned = λ g. record { says = none; answer = a; planned = plans.planned h; sums_are = is };
          }

-- Two results of a call that fit its contract are equal, rows and sums too.
module _ (r : Run) (before : Rows) (sums : List ℕ) (code code' : ℕ) (after after' : Rows) (out out' : List ℕ) where
  pub call_any_determined : PlanAnyCalled r before sums code after out → PlanAnyCalled r before sums code' after' out' → (code ≡ code') × ((after ≡ after') × (out ≡ out'))
  call_any_determined p q = go (refuses (plan_any_call r before sums)) refl
    where
      go : (b : Bool) → refuses (plan_any_call r before sums) ≡ b → (code ≡ code') × ((after ≡ after') × (out ≡ out'))
      go true e =
          let c = p.refused e in
          let d = q.refused e in
          (c.says ∙ sym d.says, (c.kept ∙ sym d.kept, c.kept_sums ∙ sym d.kept_sums))
      go false e =
          let c = p.planned e in
          let d = q.planned e in
          let same = planned_any_once r before c.answer d.answer after after' c.planned d.planned in
          (c.says ∙ sym d.says, (same.1, c.sums_are ∙ ap (λ a. sums_with a sums) same.0 ∙ sym d.sums_are))
