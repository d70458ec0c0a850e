-- Demand 1 at the C boundary: each call's code names the first of the table that applies, and a refusal changes no row.
-- The conditions that pricer and planner share with their calls are reworded from Demand1.
use Prim.Native.Nat.{ℕ, ◌+◌, ◌*◌, ◌≤◌, ◌<◌}
use mathlib.Core.Path.{◌≡◌, refl, sym, ap, ◌∙◌}
use mathlib.Core.Bool.{Bool, true, false, ◌||◌}
use mathlib.Core.Logic.{◌⊎◌, inl, inr, ⊎_elim}
use mathlib.Core.List.{List, [], ◌∷◌}
use native.Mathlib.Omega.{arith}
use lib.ListN.{length}
use lib.Dec.{ltb, eqb}
use Rattle.refusals.specs.declared.Refusal.{Refusal}
use Rattle.refusals.specs.declared.Refusal.TheVariants.{Accepted, BadEntry, ShortRow, ShortRoom, BadRule}
use Rattle.refusals.specs.Refusals.{number_of, accepted, refuse_if, first_of}
use Rattle.runs.specs.Run.{Run, stops_of}
use Rattle.runs.specs.Judging.{judge_of}
use Rattle.runs.specs.Lists.{list_verdict}
use Rattle.walk.specs.Price.{short_read_rows, price_verdict}
use Rattle.walk.specs.Rows.{ReadRows}
use Rattle.refusals.proofs.Verdicts.{none_refuses, refuses, number_small}
use Rattle.runs.proofs.Judged.{GoodRun, accepted_run}
use Rattle.planner.specs.Plan.{room_for, short_rows}
use Rattle.planner.specs.Rows.{Rows}
use Rattle.boundary.specs.Boundary.{short_sums, price_call, price_reads, price_sums, PriceCalled, least_rule, bad_rule, plan_call, PlanCalled}
use Rattle.demands.specs.RefusalTable.{RunApplies, ListIsBad, FirstThatApplies, none, here, later}
use Rattle.demands.specs.Judged.{run_order}
use Rattle.demands.specs.Demand1.{PriceApplies, PlanApplies, price_order}
use Rattle.demands.specs.Calls.{PriceCallApplies, PlanCallApplies, plan_call_order, PlanCallAnswers, Demand1PriceCall, Demand1PlanCall, RefusedForItsRule}
use Rattle.demands.proofs.Tests.{tells_equal, tells_below, tells_not, tells_either}
use Rattle.demands.proofs.Checks.{decides_if, decides_reworded, Finds, finds_none, finds_first, first_of_joined, AllOfRun, behind_front, past_front, some_reworded}
use Rattle.demands.proofs.Judged.{run_finds, run_small, none_of_run, some_of_run}
use Rattle.demands.proofs.Listed.{decides_list}
use Rattle.demands.proofs.Demand1.{tells_reads, price_of_run, price_list, ReadsShort, short_reads, reads_short, plan_of_run, IsShort, short_row, row_short, short_room, room_short, tells_short}

-- Two checks for 8, one after the other, are one check.
pub one_check : (a b : Bool) → first_of (refuse_if a ShortRow ∷ refuse_if b ShortRow ∷ []) ≡ first_of (refuse_if (a || b) ShortRow ∷ [])
one_check true b = refl
one_check false b = refl

-- The pricer's call.
module _ (r : Run) (froms tos : List ℕ) (rows : ReadRows) (sums : List ℕ) where
  abbrev AtPrice : Refusal → ℕ → Type 0
  AtPrice = PriceCallApplies r froms tos rows sums

  price_call_run : (k : Refusal) (p : ℕ) → number_of k ≤ 7 → AtPrice k p → RunApplies r k p
  price_call_run k p l (PriceCallApplies.price h) = price_of_run r froms tos rows k p l h
  price_call_run k p l (PriceCallApplies.short_sums h) = absurd (omega arith)

  price_call_list : (p : ℕ) → AtPrice BadEntry p → ListIsBad r froms tos p
  price_call_list p (PriceCallApplies.price h) = price_list r froms tos rows p h

  abbrev EitherShort : Type 0
  EitherShort = ReadsShort r froms tos rows ⊎ (length sums < 4)

  short_price_call : (p : ℕ) → (p ≡ 0) × EitherShort → AtPrice ShortRow p
  short_price_call p h = rw h.0 (⊎_elim (λ s. PriceCallApplies.price (short_reads r froms tos rows 0 (refl, s))) PriceCallApplies.short_sums h.1)

  price_call_short : (p : ℕ) → AtPrice ShortRow p → (p ≡ 0) × EitherShort
  price_call_short p (PriceCallApplies.price h) = let s = reads_short r froms tos rows p h in (s.0, inl s.1)
  price_call_short p (PriceCallApplies.short_sums h) = (refl, inr h)

  price_call_finds : Finds AtPrice price_order (price_call r froms tos rows sums)
  unfolding price_call price_verdict
  price_call_finds =
      let list = list_verdict (stops_of r) froms tos in
      let a = short_read_rows (length r.numbers) rows in
      let row = refuse_if a ShortRow in
      let four = refuse_if (short_sums sums) ShortRow in
      rw
      (first_of_joined (judge_of r ∷ list ∷ row ∷ []) (four ∷ []))
      (run_finds r AtPrice (λ k p h. PriceCallApplies.price (PriceApplies.run h)) price_call_run (BadEntry ∷ ShortRow ∷ []) (list ∷ row ∷ four ∷ [])
      (λ e. finds_first AtPrice (row ∷ four ∷ []) refl
      (decides_reworded (λ p h. PriceCallApplies.price (PriceApplies.bad_list h)) price_call_list (decides_list r (accepted_run r e) froms tos (sym (accepted_run r e).wants.equal)))
      (λ b. rw (one_check a (short_sums sums))
      (finds_first AtPrice [] refl
      (decides_reworded short_price_call price_call_short
      (decides_if _ ShortRow (tells_either a (short_sums sums) (tells_reads (length r.numbers) rows) (tells_below (length sums) 4))))
      (λ c. finds_none AtPrice)))))

  price_call_accepted : refuses (price_call r froms tos rows sums) ≡ false → price_call r froms tos rows sums ≡ accepted
  unfolding price_call
  price_call_accepted e = none_refuses (price_verdict r froms tos rows ∷ refuse_if (short_sums sums) ShortRow ∷ []) e

  module _ (code : ℕ) (rowsOut : ReadRows) (sumsOut : List ℕ) (called : PriceCalled r froms tos rows sums code rowsOut sumsOut) where
    price_call_kept : (b : Bool) → refuses (price_call r froms tos rows sums) ≡ b → ((price_call r froms tos rows sums).refusal ≡ Accepted → ⊥)
        → (rowsOut ≡ rows) × (sumsOut ≡ sums)
    unfolding price_reads price_sums
    price_call_kept true e n = (rw e at called.reads_are, rw e at called.sums_are)
    price_call_kept false e n = absurd (n (ap (λ v. v.refusal) (price_call_accepted e)))

pub demand1_price_call : Demand1PriceCall
demand1_price_call r froms tos rows sums code rowsOut sumsOut called =
    let v = price_call r froms tos rows sums in
    record {
      kind = v.refusal;
      place = v.place;
      says = called.says;
      first = price_call_finds r froms tos rows sums;
      kept = price_call_kept r froms tos rows sums code rowsOut sumsOut called (refuses v) refl;
    }

-- The planner's call.
module _ (r : Run) (rule : ℕ) (rows : Rows) (sums : List ℕ) where
  abbrev AtPlan : Refusal → ℕ → Type 0
  AtPlan = PlanCallApplies r rule rows sums

  plan_call_run : (k : Refusal) (p : ℕ) → number_of k ≤ 7 → AtPlan k p → RunApplies r k p
  plan_call_run k p l (PlanCallApplies.plan h) = plan_of_run r rows k p l h
  plan_call_run k p l (PlanCallApplies.bad_rule h) = absurd (omega arith)
  plan_call_run k p l (PlanCallApplies.short_sums h) = absurd (omega arith)

  plan_call_rule : (p : ℕ) → AtPlan BadRule p → (p ≡ 0) × (rule ≡ 1 → ⊥)
  plan_call_rule p (PlanCallApplies.plan (PlanApplies.run h)) = absurd (omega (arith, run_small r h))
  plan_call_rule p (PlanCallApplies.bad_rule h) = (refl, λ e. omega (arith, e, h))

  module _ (good : GoodRun r) where
    short_plan_call : (p : ℕ) → (p ≡ 0) × (IsShort r rows ⊎ (length sums < 4)) → AtPlan ShortRow p
    short_plan_call p h = rw h.0 (⊎_elim (λ s. PlanCallApplies.plan (short_row r rows good 0 (refl, s))) PlanCallApplies.short_sums h.1)

    plan_call_short : (p : ℕ) → AtPlan ShortRow p → (p ≡ 0) × (IsShort r rows ⊎ (length sums < 4))
    plan_call_short p (PlanCallApplies.plan h) = let s = row_short r rows good p h in (s.0, inl s.1)
    plan_call_short p (PlanCallApplies.short_sums h) = (refl, inr h)

    plan_call_room : (p : ℕ) → AtPlan ShortRoom p → (p ≡ 0) × (length rows.room < room_for r)
    plan_call_room p (PlanCallApplies.plan h) = room_short r rows good p h

  plan_call_finds : Finds AtPlan plan_call_order (plan_call r rule rows sums)
  unfolding plan_call
  plan_call_finds =
      let rows_short = short_rows (length r.numbers) (length (stops_of r)) rows in
      let short = refuse_if (rows_short || short_sums sums) ShortRow in
      let room = refuse_if (ltb (length rows.room) (room_for r)) ShortRoom in
      run_finds r AtPlan (λ k p h. PlanCallApplies.plan (PlanApplies.run h)) plan_call_run (BadRule ∷ ShortRow ∷ ShortRoom ∷ []) (refuse_if (bad_rule rule) BadRule ∷ short ∷ room ∷ [])
      (λ a. finds_first AtPlan (short ∷ room ∷ []) refl
      (decides_reworded (λ p h. rw h.0 (PlanCallApplies.bad_rule h.1)) plan_call_rule
      (decides_if (bad_rule rule) BadRule (tells_not (eqb rule least_rule) (tells_equal rule least_rule))))
      (λ b. finds_first AtPlan (room ∷ []) refl
      (decides_reworded (short_plan_call (accepted_run r a)) (plan_call_short (accepted_run r a))
      (decides_if (rows_short || short_sums sums) ShortRow (tells_either rows_short (short_sums sums) (tells_short r rows) (tells_below (length sums) 4))))
      (λ c. finds_first AtPlan [] refl
      (decides_reworded (λ p h. PlanCallApplies.plan (short_room r rows (accepted_run r a) p h)) (plan_call_room (accepted_run r a)) (decides_if _ ShortRoom (tells_below (length rows.room) (room_for r))))
      (λ d. finds_none AtPlan))))

  plan_call_accepted : refuses (plan_call r rule rows sums) ≡ false → plan_call r rule rows sums ≡ accepted
  unfolding plan_call
  plan_call_accepted e =
      let short = short_rows (length r.numbers) (length (stops_of r)) rows || short_sums sums in
      let room = ltb (length rows.room) (room_for r) in
      none_refuses (judge_of r ∷ refuse_if (bad_rule rule) BadRule ∷ refuse_if short ShortRow ∷ refuse_if room ShortRoom ∷ []) e

  module _ (code : ℕ) (after : Rows) (out : List ℕ) (called : PlanCalled r rule rows sums code after out) where
    plan_call_says : (b : Bool) → refuses (plan_call r rule rows sums) ≡ b → PlanCallAnswers r rule rows sums code after out
    plan_call_says true e =
        let v = plan_call r rule rows sums in
        let call = called.refused e in
        record { kind = v.refusal; place = v.place; says = call.says; first = plan_call_finds; kept = λ n. (call.kept, call.kept_sums) }
    plan_call_says false e =
        record {
          kind = Accepted;
          place = 0;
          says = (called.planned e).says;
          first = rw (plan_call_accepted e) at plan_call_finds;
          kept = λ n. absurd (n refl);
        }

pub demand1_plan_call : Demand1PlanCall
demand1_plan_call r rule before sums code after out called = plan_call_says r rule before sums code after out called (refuses (plan_call r rule before sums)) refl

-- 14 exactly where the rule alone is refused.
run_first : AllOfRun run_order
run_first = (omega arith, (omega arith, (omega arith, (omega arith, (omega arith, (omega arith, (omega arith, tt)))))))

module _ (r : Run) (rule : ℕ) (rows : Rows) (sums : List ℕ) where
  abbrev BehindRun : Refusal → ℕ → Type 0
  BehindRun = FirstThatApplies (AtPlan r rule rows sums) (BadRule ∷ ShortRow ∷ ShortRoom ∷ [])

  rule_is_bad : {kind : Refusal} {place : ℕ} → BehindRun kind place → number_of kind ≡ 14 → rule ≡ 1 → ⊥
  rule_is_bad (here h) n = (plan_call_rule r rule rows sums _ h).1
  rule_is_bad (later good (here h)) n = absurd (omega arith)
  rule_is_bad (later good (later long (here h))) n = absurd (omega arith)
  rule_is_bad (later good (later long (later big none))) n = absurd (omega arith)

  rule_is_told : {kind : Refusal} {place : ℕ} → (rule ≡ 1 → ⊥) → BehindRun kind place → number_of kind + 256 * place ≡ 14
  rule_is_told n (here h) = omega (arith, (plan_call_rule r rule rows sums _ h).0)
  rule_is_told n (later good rest) = absurd (good 0 (PlanCallApplies.bad_rule n))

pub refused_for_its_rule : RefusedForItsRule
refused_for_its_rule r rule before sums code after out called =
    let answers = demand1_plan_call r rule before sums code after out called in
    let at = AtPlan r rule before sums in (
      λ e.
          let fourteen : number_of answers.kind ≡ 14 = omega (arith, e, answers.says, number_small answers.kind) in
          let behind = behind_front at run_order run_first (omega (arith, fourteen)) answers.first in
          record {
            good_run = λ k p h. behind.0 (some_reworded (RunApplies r) at run_order run_first (λ k p l h. PlanCallApplies.plan (PlanApplies.run h)) (some_of_run r k p h));
            bad_rule = rule_is_bad r rule before sums behind.1 fourteen;
          },
      λ alone.
          answers.says
          ∙ rule_is_told r rule before sums alone.bad_rule
          (past_front at run_order (λ s. none_of_run r run_order alone.good_run (some_reworded at (RunApplies r) run_order run_first (plan_call_run r rule before sums) s)) answers.first),
    )
