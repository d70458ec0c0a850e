-- A head anywhere at the C boundary: what pricer and planner say, reworded for their calls.
use Prim.Native.Nat.{ℕ, ◌≤◌, ◌<◌}
use mathlib.Core.Path.{◌≡◌, refl, sym, ap, subst, ◌∙◌}
use mathlib.Core.Bool.{Bool, true, false, ◌||◌, true≢false}
use mathlib.Core.Logic.{◌⊎◌, ◌↔◌, inl, inr, ⊎_elim}
use mathlib.Core.List.{List, [], ◌∷◌}
use native.Mathlib.Omega.{arith}
use lib.ListN.{length}
use lib.Dec.{ltb}
use Rattle.refusals.specs.declared.Refusal.{Refusal}
use Rattle.refusals.specs.declared.Refusal.TheVariants.{Accepted, BadEntry, ShortRow, ShortRoom}
use Rattle.refusals.specs.Refusals.{number_of, accepted, refuse_if}
use Rattle.refusals.proofs.Verdicts.{none_refuses, refuses, all_accept, accepts_if}
use Rattle.runs.specs.Run.{Run, stops_of}
use Rattle.runs.specs.Lists.{Detour, list_of}
use Rattle.runs.specs.AnyHead.{judge_any_of, list_verdict_any}
use Rattle.runs.proofs.Search.{or_false_both}
use Rattle.runs.proofs.AnyHead.{GoodAnyRun, accepted_any}
use Rattle.walk.specs.declared.Answer.{Answer}
use Rattle.walk.specs.Price.{short_read_rows}
use Rattle.walk.specs.AnyHead.{priced_any_answer, price_any_verdict}
use Rattle.walk.specs.Rows.{ReadRows}
use Rattle.planner.specs.Plan.{room_for, short_rows}
use Rattle.planner.specs.AnyHead.{PlansAny, plan_any_verdict}
use Rattle.planner.specs.Rows.{Rows}
use Rattle.boundary.specs.Boundary.{short_sums, sums_with, price_any_call, price_any_reads, price_any_sums, PriceAnyCalled, plan_any_call, PlanAnyCalled, CallAnyPlanned}
use Rattle.boundary.proofs.Calls.{code_accepts}
use Rattle.demands.specs.RefusalTable.{FirstThatApplies, SomeApplies}
use Rattle.demands.specs.Demand1.{price_order, plan_order}
use Rattle.demands.specs.AnyHead.{RunAppliesAny, ListIsBadAny, PriceAnyApplies, PlanAnyApplies}
use Rattle.demands.specs.Calls.{in_sums}
use Rattle.demands.specs.AnyCalls.{PriceAnyCallApplies, PlanAnyCallApplies, PlanAnyCallAnswers, Demand1PriceAnyCall, Demand1PlanAnyCall, PlanAnyCallWalks, Demand2PriceAnyCall, Demand2PlanAnyCall, Demand3PlanAnyCall}
use Rattle.demands.proofs.Tests.{tells_below, tells_either}
use Rattle.demands.proofs.Checks.{refused_iff, decides_if, decides_reworded, Finds, finds_none, finds_first, first_of_joined}
use Rattle.demands.proofs.Demand1.{tells_reads, IsShort, tells_short}
use Rattle.demands.proofs.Calls.{one_check}
use Rattle.demands.proofs.AnyJudged.{run_any_finds, decides_list_any}
use Rattle.demands.proofs.AnyHead.{price_of_run, price_list, ReadsShort, short_reads, reads_short, plan_of_run, short_row, row_short, short_room, room_short, price_of_list_any, demand2_walk_any, demand2_least_any, demand3_any}

-- The pricer's call.
module _ (r : Run) (froms tos : List ℕ) (rows : ReadRows) (sums : List ℕ) where
  abbrev AtPrice : Refusal → ℕ → Type 0
  AtPrice = PriceAnyCallApplies r froms tos rows sums

  price_call_run : (k : Refusal) (p : ℕ) → number_of k ≤ 7 → AtPrice k p → RunAppliesAny r k p
  price_call_run k p l (PriceAnyCallApplies.price h) = price_of_run r froms tos rows k p l h
  price_call_run k p l (PriceAnyCallApplies.short_sums h) = absurd (omega arith)

  price_call_list : (p : ℕ) → AtPrice BadEntry p → ListIsBadAny r froms tos p
  price_call_list p (PriceAnyCallApplies.price h) = price_list r froms tos rows p h

  abbrev EitherShort : Type 0
  EitherShort = ReadsShort r froms tos rows ⊎ (length sums < 4)

  short_price_call : (p : ℕ) → (p ≡ 0) × EitherShort → AtPrice ShortRow p
  short_price_call p h = rw h.0 (⊎_elim (λ s. PriceAnyCallApplies.price (short_reads r froms tos rows 0 (refl, s))) PriceAnyCallApplies.short_sums h.1)

  price_call_short : (p : ℕ) → AtPrice ShortRow p → (p ≡ 0) × EitherShort
  price_call_short p (PriceAnyCallApplies.price h) = let s = reads_short r froms tos rows p h in (s.0, inl s.1)
  price_call_short p (PriceAnyCallApplies.short_sums h) = (refl, inr h)

  price_call_finds : Finds AtPrice price_order (price_any_call r froms tos rows sums)
  unfolding price_any_call price_any_verdict
  price_call_finds =
      let list = list_verdict_any r.head (stops_of r) froms tos in
      let a = short_read_rows (length r.numbers) rows in
      let row = refuse_if a ShortRow in
      let four = refuse_if (short_sums sums) ShortRow in
      rw
      (first_of_joined (judge_any_of r ∷ list ∷ row ∷ []) (four ∷ []))
      (run_any_finds r AtPrice (λ k p h. PriceAnyCallApplies.price (PriceAnyApplies.run h)) price_call_run (BadEntry ∷ ShortRow ∷ []) (list ∷ row ∷ four ∷ [])
      (λ e. finds_first AtPrice (row ∷ four ∷ []) refl
      (decides_reworded (λ p h. PriceAnyCallApplies.price (PriceAnyApplies.bad_list h)) price_call_list (decides_list_any r (accepted_any r e) froms tos))
      (λ b. rw (one_check a (short_sums sums))
      (finds_first AtPrice [] refl
      (decides_reworded short_price_call price_call_short
      (decides_if _ ShortRow (tells_either a (short_sums sums) (tells_reads (length r.numbers) rows) (tells_below (length sums) 4))))
      (λ c. finds_none AtPrice)))))

  price_call_accepted : refuses (price_any_call r froms tos rows sums) ≡ false → price_any_call r froms tos rows sums ≡ accepted
  unfolding price_any_call
  price_call_accepted e = none_refuses (price_any_verdict r froms tos rows ∷ refuse_if (short_sums sums) ShortRow ∷ []) e

  pub price_any_passes : refuses (price_any_call r froms tos rows sums) ≡ false → refuses (price_any_verdict r froms tos rows) ≡ false
  unfolding price_any_call
  price_any_passes e = (all_accept (price_any_verdict r froms tos rows ∷ refuse_if (short_sums sums) ShortRow ∷ []) e).0

  module _ (code : ℕ) (rowsOut : ReadRows) (sumsOut : List ℕ) (called : PriceAnyCalled r froms tos rows sums code rowsOut sumsOut) where
    price_call_kept : (b : Bool) → refuses (price_any_call r froms tos rows sums) ≡ b → ((price_any_call r froms tos rows sums).refusal ≡ Accepted → ⊥)
        → (rowsOut ≡ rows) × (sumsOut ≡ sums)
    unfolding price_any_reads price_any_sums
    price_call_kept true e n = (rw e at called.reads_are, rw e at called.sums_are)
    price_call_kept false e n = absurd (n (ap (λ v. v.refusal) (price_call_accepted e)))

pub demand1_price_any_call : Demand1PriceAnyCall
demand1_price_any_call r froms tos rows sums code rowsOut sumsOut called =
    let v = price_any_call r froms tos rows sums in
    record {
      kind = v.refusal;
      place = v.place;
      says = called.says;
      first = price_call_finds r froms tos rows sums;
      kept = price_call_kept r froms tos rows sums code rowsOut sumsOut called (refuses v) refl;
      both = refused_iff (AtPrice r froms tos rows sums) (price_call_finds r froms tos rows sums) (refl, (refl, (refl, (refl, (refl, (refl, (refl, (refl, (refl, tt)))))))));
    }

-- The row of sums holds the numbers of an accepted answer.
sums_hold : (r : Run) (list : List Detour) (answer : Answer) (sums out : List ℕ) → answer ≡ priced_any_answer r list → out ≡ sums_with answer sums → answer ≡ in_sums out
unfolding priced_any_answer
sums_hold r list answer sums out says fills = rw (fills, says)

pub demand2_price_any_call : Demand2PriceAnyCall
unfolding price_any_reads price_any_sums priced_any_answer
demand2_price_any_call r froms tos rows sums code rowsOut sumsOut called zero-code =
    let e = code_accepts (price_any_call r froms tos rows sums) (sym called.says ∙ zero-code) in
    let fills : sumsOut ≡ sums_with (priced_any_answer r (list_of froms tos)) sums = rw e at called.sums_are in
    let both = price_of_list_any r froms tos rows (price_any_passes r froms tos rows sums e) (priced_any_answer r (list_of froms tos)) rowsOut refl (rw e at called.reads_are) in
    record {
      four = rw fills (omega arith);
      even = both.0;
      walk = rw fills both.1;
    }

-- The planner's call.
module _ (r : Run) (rows : Rows) (sums : List ℕ) where
  abbrev AtPlan : Refusal → ℕ → Type 0
  AtPlan = PlanAnyCallApplies r rows sums

  plan_call_run : (k : Refusal) (p : ℕ) → number_of k ≤ 7 → AtPlan k p → RunAppliesAny r k p
  plan_call_run k p l (PlanAnyCallApplies.plan h) = plan_of_run r rows k p l h
  plan_call_run k p l (PlanAnyCallApplies.short_sums h) = absurd (omega arith)

  module _ (good : GoodAnyRun r) where
    short_plan_call : (p : ℕ) → (p ≡ 0) × (IsShort r rows ⊎ (length sums < 4)) → AtPlan ShortRow p
    short_plan_call p h = rw h.0 (⊎_elim (λ s. PlanAnyCallApplies.plan (short_row r rows good 0 (refl, s))) PlanAnyCallApplies.short_sums h.1)

    plan_call_short : (p : ℕ) → AtPlan ShortRow p → (p ≡ 0) × (IsShort r rows ⊎ (length sums < 4))
    plan_call_short p (PlanAnyCallApplies.plan h) = let s = row_short r rows good p h in (s.0, inl s.1)
    plan_call_short p (PlanAnyCallApplies.short_sums h) = (refl, inr h)

    plan_call_room : (p : ℕ) → AtPlan ShortRoom p → (p ≡ 0) × (length rows.room < room_for r)
    plan_call_room p (PlanAnyCallApplies.plan h) = room_short r rows good p h

  plan_call_finds : Finds AtPlan plan_order (plan_any_call r rows sums)
  unfolding plan_any_call
  plan_call_finds =
      let rows_short = short_rows (length r.numbers) (length (stops_of r)) rows in
      let short = refuse_if (rows_short || short_sums sums) ShortRow in
      let room = refuse_if (ltb (length rows.room) (room_for r)) ShortRoom in
      run_any_finds r AtPlan (λ k p h. PlanAnyCallApplies.plan (PlanAnyApplies.run h)) plan_call_run (ShortRow ∷ ShortRoom ∷ []) (short ∷ room ∷ [])
      (λ a. finds_first AtPlan (room ∷ []) refl
      (decides_reworded (short_plan_call (accepted_any r a)) (plan_call_short (accepted_any r a))
      (decides_if (rows_short || short_sums sums) ShortRow (tells_either rows_short (short_sums sums) (tells_short r rows) (tells_below (length sums) 4))))
      (λ b. finds_first AtPlan [] refl
      (decides_reworded (λ p h. PlanAnyCallApplies.plan (short_room r rows (accepted_any r a) p h)) (plan_call_room (accepted_any r a)) (decides_if _ ShortRoom (tells_below (length rows.room) (room_for r))))
      (λ c. finds_none AtPlan)))

  plan_call_accepted : refuses (plan_any_call r rows sums) ≡ false → plan_any_call r rows sums ≡ accepted
  unfolding plan_any_call
  plan_call_accepted e =
      let short = short_rows (length r.numbers) (length (stops_of r)) rows || short_sums sums in
      let room = ltb (length rows.room) (room_for r) in
      none_refuses (judge_any_of r ∷ refuse_if short ShortRow ∷ refuse_if room ShortRoom ∷ []) e

  plan_call_both : {kind : Refusal} {place : ℕ} → FirstThatApplies AtPlan plan_order kind place → (kind ≡ Accepted → ⊥) ↔ SomeApplies AtPlan plan_order
  plan_call_both first = refused_iff AtPlan first (refl, (refl, (refl, (refl, (refl, (refl, (refl, (refl, (refl, tt)))))))))

  module _ (code : ℕ) (after : Rows) (out : List ℕ) (called : PlanAnyCalled r rows sums code after out) where
    plan_call_says : (b : Bool) → refuses (plan_any_call r rows sums) ≡ b → PlanAnyCallAnswers r rows sums code after out
    plan_call_says true e =
        let v = plan_any_call r rows sums in
        let call = called.refused e in
        record { kind = v.refusal; place = v.place; says = call.says; first = plan_call_finds; kept = λ n. (call.kept, call.kept_sums); both = plan_call_both plan_call_finds }
    plan_call_says false e =
        let first : FirstThatApplies AtPlan plan_order Accepted 0 = rw (plan_call_accepted e) at plan_call_finds in
        record { kind = Accepted; place = 0; says = (called.planned e).says; first = first; kept = λ n. absurd (n refl); both = plan_call_both first }

pub demand1_plan_any_call : Demand1PlanAnyCall
demand1_plan_any_call r before sums code after out called = plan_call_says r before sums code after out called (refuses (plan_any_call r before sums)) refl

-- A call that gives back 0: what it leaves is an answer of the planner.
module _ (r : Run) (before : Rows) (sums : List ℕ) (code : ℕ) (after : Rows) (out : List ℕ) (called : PlanAnyCalled r before sums code after out) (zero-code : code ≡ 0) where
  call_accepted : (b : Bool) → refuses (plan_any_call r before sums) ≡ b → refuses (plan_any_call r before sums) ≡ false
  call_accepted true e = code_accepts (plan_any_call r before sums) (sym (called.refused e).says ∙ zero-code)
  call_accepted false e = e

  pub any_call : CallAnyPlanned r before sums code after out
  any_call = called.planned (call_accepted (refuses (plan_any_call r before sums)) refl)

  plan_passes_here : refuses (plan_any_verdict r before) ≡ false
  unfolding plan_any_verdict plan_any_call
  plan_passes_here =
      let short = short_rows (length r.numbers) (length (stops_of r)) before in
      let room = ltb (length before.room) (room_for r) in
      let all =
      all_accept (judge_any_of r ∷ refuse_if (short || short_sums sums) ShortRow ∷ refuse_if room ShortRoom ∷ [])
      (call_accepted (refuses (plan_any_call r before sums)) refl)
      in
      rw (
        all.0,
        (or_false_both short (short_sums sums) (accepts_if _ ShortRow refl all.1.0)).0,
        accepts_if room ShortRoom refl all.1.1.0,
      )

  in_sums_here : any_call.answer ≡ in_sums out
  in_sums_here = sums_hold r any_call.planned.list any_call.answer sums out any_call.planned.says any_call.sums_are

  pub any_answered : PlansAny r before (in_sums out) after
  any_answered =
      subst (λ a. PlansAny r before a after) in_sums_here
      (record { refused = λ e. absurd (true≢false (sym e ∙ plan_passes_here)); planned = λ e. any_call.planned })

  call_walks : PlanAnyCallWalks r after out
  call_walks =
      record {
        four = rw any_call.sums_are (omega arith);
        walk = demand2_walk_any r before (in_sums out) after any_answered refl;
        least = demand2_least_any r before (in_sums out) after any_answered refl;
      }

pub demand2_plan_any_call : Demand2PlanAnyCall
demand2_plan_any_call r before sums code after out called e = call_walks r before sums code after out called e

pub demand3_plan_any_call : Demand3PlanAnyCall
demand3_plan_any_call first second before sums code after out accepted called e asks gs moves serves =
    demand3_any first second before (in_sums out) after accepted (any_answered second before sums code after out called e) refl asks gs moves serves
