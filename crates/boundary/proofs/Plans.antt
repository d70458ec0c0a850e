-- The planner's call: 14 after 7, 8 for the row of sums too, and else the planner's own answer.
use Prim.Native.Nat.{ℕ, ◌+◌, ◌*◌, ◌≤◌, ◌<◌}
use mathlib.Core.Path.{◌≡◌, refl, sym, ap, ◌∙◌}
use mathlib.Core.Bool.{Bool, true, false, true≢false, or-true, or-false}
use mathlib.Core.Logic.{⊎_elim}
use mathlib.Core.List.{List, [], ◌∷◌}
use native.Mathlib.Omega.{arith}
use lib.ListN.{length}
use lib.Dec.{ltb}
use borrow.Author.Tests.{lt-ltb, le-ltb, eq-eqb, ne_eqb}
use Rattle.refusals.specs.declared.Refusal.{Refusal}
use Rattle.refusals.specs.declared.Refusal.TheVariants.{ShortRow, ShortRoom, BadRule}
use Rattle.refusals.specs.declared.Verdict.{Verdict}
use Rattle.walk.specs.declared.Answer.{Answer}
use Rattle.refusals.specs.Refusals.{number_of, is_refusal, refuse_if, first_of}
use Rattle.runs.specs.Run.{Run, stops_of}
use Rattle.runs.specs.Judging.{judge_of}
use Rattle.walk.specs.Price.{refusal_answer, priced_answer}
use Rattle.runs.proofs.Search.{true_or_false}
use Rattle.std.specs.Prelude.{Ok, Err}
use Rattle.refusals.specs.Refusals.{checked}
use Rattle.refusals.proofs.Checked.{passed, stopped}
use Rattle.refusals.proofs.Verdicts.{refuses, test_says}
use Rattle.walk.proofs.Places.{place_most, judge_near, first_near, if_near}
use Rattle.planner.proofs.Determined.{planned_once}
use Rattle.planner.specs.Plan.{Plans, plan_verdict, short_rows, room_for}
use Rattle.planner.specs.Rows.{Rows}
use Rattle.boundary.proofs.Calls.{code_accepts}
use Rattle.boundary.specs.Boundary.{code_of, sums_with, least_rule, bad_rule, plan_call, PlanCalled}
use Rattle.boundary.specs.Private.{code_unless}

-- The checks of the call: with a bad rule or a short row of sums only the run is looked at before it, else all that the planner judges.
module _ (r : Run) (rule : ℕ) (rows : Rows) (sums : List ℕ) where
  rule_first : bad_rule rule ≡ true → plan_call r rule rows sums ≡ first_of (judge_of r ∷ record { refusal = BadRule; place = 0 } ∷ [])
  unfolding plan_call
  rule_first g = rw g

  sums_first : bad_rule rule ≡ false → ltb (length sums) 4 ≡ true → plan_call r rule rows sums ≡ first_of (judge_of r ∷ record { refusal = ShortRow; place = 0 } ∷ [])
  unfolding plan_call
  sums_first g s = rw (g, s, or-true)

  call_is_plan : bad_rule rule ≡ false → ltb (length sums) 4 ≡ false → plan_call r rule rows sums ≡ plan_verdict r rows
  unfolding plan_call plan_verdict
  call_is_plan g s = rw (g, s, or-false)

plan_near : (r : Run) (rows : Rows) → (plan_verdict r rows).place ≤ place_most
unfolding plan_verdict
plan_near r rows =
    first_near
    (judge_of r ∷ refuse_if (short_rows (length r.numbers) (length (stops_of r)) rows) ShortRow ∷ refuse_if (ltb (length rows.room) (room_for r)) ShortRoom ∷ [])
    (judge_near r, λ e. (if_near (short_rows (length r.numbers) (length (stops_of r)) rows) ShortRow, λ d. (if_near (ltb (length rows.room) (room_for r)) ShortRoom, λ c. tt)))

-- A refused call, whatever the reason: code and kept rows.
pub refused_call : (r : Run) (rule : ℕ) (rows : Rows) (sums : List ℕ) (v : Verdict) (code : ℕ)
    → plan_call r rule rows sums ≡ v → refuses v ≡ true → code ≡ code_of v → PlanCalled r rule rows sums code rows sums
refused_call r rule rows sums v code is h e =
    record {
      refused = λ g. record { says = rw is e; kept = refl; kept_sums = refl };
      planned = λ g. absurd (true≢false (sym h ∙ (rw is at g)));
    }

rule_bad : (rule : ℕ) → (rule ≡ least_rule → ⊥) → bad_rule rule ≡ true
rule_bad rule n = rw (ne_eqb rule least_rule n)

rule_good : (rule : ℕ) → rule ≡ least_rule → bad_rule rule ≡ false
rule_good rule e = rw (eq-eqb rule least_rule e)

-- A run that the judging refuses: its code. Of any other the number.
module _ (r : Run) (number : ℕ) where
  pub run_placed : (e : Verdict) → Err e ≡ checked (judge_of r) → (a : Answer) → a ≡ refusal_answer e → a.place ≤ place_most
  run_placed e said a a-is = let s = stopped (judge_of r) e said in rw (a-is, ← s.is) (judge_near r)

  pub run_code : (e : Verdict) → Err e ≡ checked (judge_of r) → (a : Answer) → a ≡ refusal_answer e → (code : ℕ) → code ≡ number_of a.refusal + 256 * a.place
      → code ≡ code_unless (judge_of r) number
  run_code e said a a-is code code_is = let s = stopped (judge_of r) e said in rw s.so (rw (a-is, ← s.is) at code_is)

  pub own_number_lem : (u : Unit) → Ok u ≡ checked (judge_of r) → number ≡ code_unless (judge_of r) number
  own_number_lem u said = rw (passed (judge_of r) u said)

module _ (r : Run) (rule : ℕ) (rows : Rows) (sums : List ℕ) where
  early : (k : Refusal) → is_refusal k ≡ true → plan_call r rule rows sums ≡ first_of (judge_of r ∷ record { refusal = k; place = 0 } ∷ [])
      → (code : ℕ) → code ≡ code_unless (judge_of r) (number_of k) → PlanCalled r rule rows sums code rows sums
  early k some is code code_is =
      ⊎_elim
      (λ (h : refuses (judge_of r) ≡ true). refused_call r rule rows sums (judge_of r) code (is ∙ rw h refl) h (rw h at code_is))
      (λ (h : refuses (judge_of r) ≡ false). refused_call r rule rows sums (record { refusal = k; place = 0 }) code (is ∙ rw (h, some) refl) some (omega (arith, rw h at code_is)))
      (true_or_false (refuses (judge_of r)))

  pub rule_refused : (rule ≡ least_rule → ⊥) → (code : ℕ) → code ≡ code_unless (judge_of r) 14 → PlanCalled r rule rows sums code rows sums
  rule_refused n = early BadRule refl (rule_first r rule rows sums (rule_bad rule n))

  pub sums_refused : rule ≡ least_rule → length sums < 4 → (code : ℕ) → code ≡ code_unless (judge_of r) 8 → PlanCalled r rule rows sums code rows sums
  sums_refused e h = early ShortRow refl (sums_first r rule rows sums (rule_good rule e) (lt-ltb (length sums) 4 h))

  -- Past these the call is judged as the planner judges.
  module _ (e : rule ≡ least_rule) (long : 4 ≤ length sums) (a : Answer) (after : Rows) (plans : Plans r rows a after) where
    same : plan_call r rule rows sums ≡ plan_verdict r rows
    same = call_is_plan r rule rows sums (rule_good rule e) (le-ltb (length sums) 4 long)

    pub plan_placed : a.place ≤ place_most
    unfolding priced_answer
    plan_placed =
        ⊎_elim
        (λ h. rw (plans.refused h).says (plan_near r rows))
        (λ h. rw (plans.planned h).says (omega arith))
        (true_or_false (refuses (plan_verdict r rows)))

    module _ (code : ℕ) (code_is : code ≡ number_of a.refusal + 256 * a.place) where
      accepted_code : refuses (plan_verdict r rows) ≡ false → code ≡ 0
      unfolding priced_answer
      accepted_code h = rw (plans.planned h).says at code_is

      refused_code_here : refuses (plan_verdict r rows) ≡ true → code ≡ code_of (plan_verdict r rows)
      refused_code_here h = rw (plans.refused h).says at code_is

      pub plan_refused : (code ≡ 0 → ⊥) → PlanCalled r rule rows sums code after sums
      plan_refused some =
          let h : refuses (plan_verdict r rows) ≡ true = ⊎_elim (λ g. g) (λ g. absurd (some (accepted_code g))) (true_or_false (refuses (plan_verdict r rows))) in
          rw (plans.refused h).kept (refused_call r rule rows sums (plan_verdict r rows) code same h (refused_code_here h))

      pub plan_filled : code ≡ 0 → (out : List ℕ) → out ≡ sums_with a sums → PlanCalled r rule rows sums code after out
      plan_filled none out is =
          let h : refuses (plan_verdict r rows) ≡ false
          = ⊎_elim (λ g. code_accepts (plan_verdict r rows) (sym (refused_code_here g) ∙ none)) (λ g. g) (true_or_false (refuses (plan_verdict r rows)))
          in
          record {
            refused = λ g. absurd (true≢false (sym (rw same at g) ∙ h));
            planned = λ g. record { says = none; answer = a; planned = plans.planned h; sums_are = is };
          }

-- Two results of a call that fit its contract are equal, rows and sums too.
module _ (r : Run) (rule : ℕ) (before : Rows) (sums : List ℕ) (code code' : ℕ) (after after' : Rows) (out out' : List ℕ) where
  pub call_determined : PlanCalled r rule before sums code after out → PlanCalled r rule before sums code' after' out' → (code ≡ code') × ((after ≡ after') × (out ≡ out'))
  call_determined p q = go (refuses (plan_call r rule before sums)) refl
    where
      go : (b : Bool) → refuses (plan_call r rule before sums) ≡ b → (code ≡ code') × ((after ≡ after') × (out ≡ out'))
      go true e =
          let c = p.refused e in
          let d = q.refused e in
          (c.says ∙ sym d.says, (c.kept ∙ sym d.kept, c.kept_sums ∙ sym d.kept_sums))
      go false e =
          let c = p.planned e in
          let d = q.planned e in
          let same = planned_once r before c.answer d.answer after after' c.planned d.planned in
          (c.says ∙ sym d.says, (same.1, c.sums_are ∙ ap (λ a. sums_with a sums) same.0 ∙ sym d.sums_are))
