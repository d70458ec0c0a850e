-- Demand 1: the pricer's and the planner's answers are the first of the table that applies, both ways, and a refusal changes nothing.
-- What each check decides is in Judged (1 to 7) and Listed (10).
use Prim.Native.Nat.{ℕ, ◌-◌, ◌≤◌, ◌<◌}
use mathlib.Core.Path.{◌≡◌, refl, sym, ap}
use mathlib.Core.Bool.{Bool, true, false, ◌||◌}
use mathlib.Core.Logic.{◌⊎◌, inl, inr, ⊎_elim}
use mathlib.Core.List.{List, [], ◌∷◌}
use native.Mathlib.Omega.{arith}
use lib.ListN.{length}
use lib.Dec.{ltb}
use Rattle.refusals.specs.declared.Refusal.{Refusal}
use Rattle.refusals.specs.declared.Refusal.TheVariants.{BadEntry, ShortRow, ShortRoom}
use Rattle.refusals.specs.declared.Verdict.{Verdict}
use Rattle.walk.specs.declared.Answer.{Answer}
use Rattle.refusals.specs.Refusals.{number_of, accepted, refuse_if}
use Rattle.runs.specs.Run.{Run, stops_of}
use Rattle.runs.specs.Judging.{judge_of}
use Rattle.runs.specs.Lists.{list_verdict}
use Rattle.walk.specs.Price.{refusal_answer, priced_answer, short_read_rows, price_verdict, price_answer, price_rows}
use Rattle.walk.specs.Rows.{ReadRows}
use Rattle.refusals.proofs.Verdicts.{none_refuses, refuses}
use Rattle.runs.proofs.Judged.{GoodRun, accepted_run}
use Rattle.walk.proofs.Priced.{price_accepted}
use Rattle.planner.specs.Plan.{room_for, Plans, short_rows, plan_verdict}
use Rattle.planner.specs.Rows.{Rows, reads_in}
use Rattle.demands.specs.RefusalTable.{RunApplies, ListIsBad, none, here, later}
use Rattle.demands.specs.Judged.{ListJudged}
use Rattle.demands.specs.Demand1.{OnlyPlace, ByTheTable, PriceApplies, PlanApplies, price_order, plan_order, Demand1Price, Demand1Plan, Demand1PriceIff, Demand1PlanIff}
use Rattle.demands.proofs.Tests.{Tells, tells_below, tells_either, tells_regrouped}
use Rattle.demands.proofs.Checks.{Decides, refused, passed, refused_iff, decides_if, decides_reworded, Finds, finds_none, finds_first}
use Rattle.demands.proofs.Judged.{run_finds, run_small, nothing_judged}
use Rattle.demands.proofs.Counted.{has_stops, stops_one}
use Rattle.demands.proofs.Listed.{decides_list}

-- A refusal's answer.
pub refusal_only_place : (v : Verdict) → OnlyPlace (refusal_answer v)
refusal_only_place v = refl

-- A row for times or legs that is short.
pub tells_reads : (k : ℕ) (rows : ReadRows) → Tells (short_read_rows k rows) ((length rows.times < k) ⊎ (length rows.legs < k))
tells_reads k rows = tells_either (ltb (length rows.times) k) (ltb (length rows.legs) k) (tells_below (length rows.times) k) (tells_below (length rows.legs) k)

-- A list by itself.
pub list_judged : ListJudged
list_judged r nothing froms tos = go (decides_list r good froms tos (sym good.wants.equal))
  where
    good : GoodRun r
    good = accepted_run r (nothing_judged r nothing)

    go : Decides BadEntry (ListIsBad r froms tos) (list_verdict (stops_of r) froms tos) → Finds (λ kind. ListIsBad r froms tos) (BadEntry ∷ []) (list_verdict (stops_of r) froms tos)
    go (refused p e h) = rw e (here h)
    go (passed e n) = rw e (later n none)

-- The pricer.
module _ (r : Run) (froms tos : List ℕ) (rows : ReadRows) where
  pub price_of_run : (k : Refusal) (p : ℕ) → number_of k ≤ 7 → PriceApplies r froms tos rows k p → RunApplies r k p
  price_of_run k p l (PriceApplies.run h) = h
  price_of_run k p l (PriceApplies.bad_list h) = absurd (omega arith)
  price_of_run k p l (PriceApplies.short_times h) = absurd (omega arith)
  price_of_run k p l (PriceApplies.short_legs h) = absurd (omega arith)

  pub price_list : (p : ℕ) → PriceApplies r froms tos rows BadEntry p → ListIsBad r froms tos p
  price_list p (PriceApplies.run h) = absurd (omega (arith, run_small r h))
  price_list p (PriceApplies.bad_list h) = h

  abbrev pub ReadsShort : Type 0
  ReadsShort = (length rows.times < length r.numbers) ⊎ (length rows.legs < length r.numbers)

  pub short_reads : (p : ℕ) → (p ≡ 0) × ReadsShort → PriceApplies r froms tos rows ShortRow p
  short_reads p h = rw h.0 (⊎_elim PriceApplies.short_times PriceApplies.short_legs h.1)

  pub reads_short : (p : ℕ) → PriceApplies r froms tos rows ShortRow p → (p ≡ 0) × ReadsShort
  reads_short p (PriceApplies.run h) = absurd (omega (arith, run_small r h))
  reads_short p (PriceApplies.short_times h) = (refl, inl h)
  reads_short p (PriceApplies.short_legs h) = (refl, inr h)

  price_finds : Finds (PriceApplies r froms tos rows) price_order (price_verdict r froms tos rows)
  unfolding price_verdict
  price_finds =
      let short = refuse_if (short_read_rows (length r.numbers) rows) ShortRow in
      run_finds r (PriceApplies r froms tos rows) (λ k p. PriceApplies.run) price_of_run (BadEntry ∷ ShortRow ∷ []) (list_verdict (stops_of r) froms tos ∷ short ∷ [])
      (λ a. finds_first (PriceApplies r froms tos rows) (short ∷ []) refl
      (decides_reworded (λ p. PriceApplies.bad_list) price_list (decides_list r (accepted_run r a) froms tos (sym (accepted_run r a).wants.equal)))
      (λ b. finds_first (PriceApplies r froms tos rows) [] refl
      (decides_reworded short_reads reads_short (decides_if _ ShortRow (tells_reads (length r.numbers) rows)))
      (λ c. finds_none (PriceApplies r froms tos rows))))

  price_says : (b : Bool) → refuses (price_verdict r froms tos rows) ≡ b → ByTheTable (PriceApplies r froms tos rows) price_order rows (price_answer r froms tos rows) (price_rows r froms tos rows)
  unfolding price_answer price_rows priced_answer
  price_says true e = rw e (record { first = price_finds; kept = λ n. (refusal_only_place (price_verdict r froms tos rows), refl) })
  price_says false e = rw e (record { first = rw (price_accepted r froms tos rows e) at price_finds; kept = λ n. absurd (n refl) })

pub demand1_price : Demand1Price
demand1_price r froms tos rows answer out says fills = rw (says, fills) (price_says r froms tos rows (refuses (price_verdict r froms tos rows)) refl)

pub price_refused_iff : Demand1PriceIff
price_refused_iff r froms tos rows answer says =
    refused_iff (PriceApplies r froms tos rows) (demand1_price r froms tos rows answer (price_rows r froms tos rows) says refl).first (refl, (refl, (refl, (refl, (refl, (refl, (refl, (refl, (refl, tt)))))))))

-- The planner.
module _ (r : Run) (rows : Rows) where
  pub plan_of_run : (k : Refusal) (p : ℕ) → number_of k ≤ 7 → PlanApplies r rows k p → RunApplies r k p
  plan_of_run k p l (PlanApplies.run h) = h
  plan_of_run k p l (PlanApplies.short_times h) = absurd (omega arith)
  plan_of_run k p l (PlanApplies.short_legs h) = absurd (omega arith)
  plan_of_run k p l (PlanApplies.short_starts s h) = absurd (omega arith)
  plan_of_run k p l (PlanApplies.short_ends s h) = absurd (omega arith)
  plan_of_run k p l (PlanApplies.short_room s h) = absurd (omega arith)

  abbrev pub IsShort : Type 0
  IsShort = ((length rows.times < length r.numbers) ⊎ (length rows.legs < length r.numbers)) ⊎ ((length rows.froms < length (stops_of r) - 1) ⊎ (length rows.tos < length (stops_of r) - 1))

  -- Of a run that 1 to 7 accept, the stops are those of the definition.
  module _ (good : GoodRun r) where
    pub short_row : (p : ℕ) → (p ≡ 0) × IsShort → PlanApplies r rows ShortRow p
    short_row p h =
        rw h.0
        (⊎_elim (⊎_elim PlanApplies.short_times PlanApplies.short_legs)
        (⊎_elim (PlanApplies.short_starts (has_stops r good)) (PlanApplies.short_ends (has_stops r good)))
        h.1)

    pub row_short : (p : ℕ) → PlanApplies r rows ShortRow p → (p ≡ 0) × IsShort
    row_short p (PlanApplies.run h) = absurd (omega (arith, run_small r h))
    row_short p (PlanApplies.short_times h) = (refl, inl (inl h))
    row_short p (PlanApplies.short_legs h) = (refl, inl (inr h))
    row_short p (PlanApplies.short_starts s h) = (refl, inr (inl (rw (stops_one r good s) at h)))
    row_short p (PlanApplies.short_ends s h) = (refl, inr (inr (rw (stops_one r good s) at h)))

    pub short_room : (p : ℕ) → (p ≡ 0) × (length rows.room < room_for r) → PlanApplies r rows ShortRoom p
    short_room p h = rw h.0 (PlanApplies.short_room (has_stops r good) h.1)

    pub room_short : (p : ℕ) → PlanApplies r rows ShortRoom p → (p ≡ 0) × (length rows.room < room_for r)
    room_short p (PlanApplies.run h) = absurd (omega (arith, run_small r h))
    room_short p (PlanApplies.short_room s h) = (refl, rw (stops_one r good s) at h)

  pub tells_short : Tells (short_rows (length r.numbers) (length (stops_of r)) rows) IsShort
  tells_short =
      let k = length r.numbers in
      let stops = length (stops_of r) in
      let reads = short_read_rows k (reads_in rows) in
      let froms = ltb (length rows.froms) (stops - 1) in
      let tos = ltb (length rows.tos) (stops - 1) in
      tells_regrouped
      (tells_either (reads || froms) tos
      (tells_either reads froms (tells_reads k (reads_in rows)) (tells_below (length rows.froms) (stops - 1)))
      (tells_below (length rows.tos) (stops - 1)))

  plan_finds : Finds (PlanApplies r rows) plan_order (plan_verdict r rows)
  unfolding plan_verdict
  plan_finds =
      let short = short_rows (length r.numbers) (length (stops_of r)) rows in
      let room = refuse_if (ltb (length rows.room) (room_for r)) ShortRoom in
      run_finds r (PlanApplies r rows) (λ k p. PlanApplies.run) plan_of_run (ShortRow ∷ ShortRoom ∷ []) (refuse_if short ShortRow ∷ room ∷ [])
      (λ a. finds_first (PlanApplies r rows) (room ∷ []) refl (decides_reworded (short_row (accepted_run r a)) (row_short (accepted_run r a)) (decides_if short ShortRow tells_short))
      (λ b. finds_first (PlanApplies r rows) [] refl
      (decides_reworded (short_room (accepted_run r a)) (room_short (accepted_run r a)) (decides_if _ ShortRoom (tells_below (length rows.room) (room_for r))))
      (λ c. finds_none (PlanApplies r rows))))

  plan_accepted : refuses (plan_verdict r rows) ≡ false → plan_verdict r rows ≡ accepted
  unfolding plan_verdict
  plan_accepted e =
      none_refuses (judge_of r ∷ refuse_if (short_rows (length r.numbers) (length (stops_of r)) rows) ShortRow ∷ refuse_if (ltb (length rows.room) (room_for r)) ShortRoom ∷ []) e

  module _ (answer : Answer) (after : Rows) (plans : Plans r rows answer after) where
    plan_says : (b : Bool) → refuses (plan_verdict r rows) ≡ b → ByTheTable (PlanApplies r rows) plan_order rows answer after
    unfolding priced_answer
    plan_says true e =
        let refusal = plans.refused e in
        rw (refusal.says, refusal.kept) (record { first = plan_finds; kept = λ n. (refusal_only_place (plan_verdict r rows), refl) })
    plan_says false e =
        let plan = plans.planned e in
        record { first = rw plan.says (rw (plan_accepted e) at plan_finds); kept = λ n. absurd (n (ap (λ a. a.refusal) plan.says)) }

pub demand1_plan : Demand1Plan
demand1_plan r before answer after plans = plan_says r before answer after plans (refuses (plan_verdict r before)) refl

pub plan_refused_iff : Demand1PlanIff
plan_refused_iff r before answer after plans =
    refused_iff (PlanApplies r before) (demand1_plan r before answer after plans).first (refl, (refl, (refl, (refl, (refl, (refl, (refl, (refl, (refl, tt)))))))))
