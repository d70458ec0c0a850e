-- A head anywhere: the three demands, that 01's functions answer alike, and the head left of everything wanted.
use Prim.Native.Nat.{ℕ, suc, ◌+◌, ◌-◌, ◌*◌, ◌≤◌, ◌<◌}
use mathlib.Core.Path.{◌≡◌, refl, sym, ap, ap₂, ◌∙◌}
use mathlib.Core.Bool.{Bool, true, false, ◌||◌, true≢false}
use mathlib.Core.Logic.{◌⊎◌, inl, inr, ⊎_elim}
use mathlib.Core.List.{List, [], ◌∷◌, map}
use native.Mathlib.Omega.{arith}
use native.Mathlib.Nat.{le_refl}
use lib.ListN.{length, get_or, take, drop, length-map}
use lib.Seq.{take_at}
use lib.Dec.{ltb}
use Rattle.refusals.specs.declared.Refusal.{Refusal}
use Rattle.refusals.specs.declared.Refusal.TheVariants.{Accepted, HeadPlace, BadEntry, ShortRow, ShortRoom}
use Rattle.refusals.specs.declared.Verdict.{Verdict}
use Rattle.refusals.specs.Refusals.{number_of, is_refusal, accepted, refuse_if, first_of}
use Rattle.refusals.proofs.Verdicts.{none_refuses, refuses, first_refuses, all_accept}
use Rattle.runs.specs.Run.{Run, Stop, stops_of, want_stops_of}
use Rattle.runs.specs.Rows.{stop_at}
use Rattle.runs.specs.Judging.{judge_of}
use Rattle.runs.specs.Lists.{Detour, list_of, WellFormed}
use Rattle.runs.specs.AnyHead.{judge_any_of, WellFormedAny, list_verdict_any, lifted}
use Rattle.runs.proofs.Search.{true_or_false}
use Rattle.runs.proofs.Stops.{run_sound, wants_length}
use Rattle.runs.proofs.Sound.{Sound}
use Rattle.runs.proofs.Formed.{formed_entries, entries_none}
use Rattle.runs.proofs.AnyHead.{GoodAnyRun, accepted_any, judge_any_same}
use Rattle.walk.specs.declared.Answer.{Answer}
use Rattle.walk.specs.declared.Leg.{Leg}
use Rattle.walk.specs.Walk.{head_at, Moves, ServesAll, time_of, times_of, legs_for, sum_of}
use Rattle.walk.specs.Price.{refusal_answer, short_read_rows, price_verdict, price_answer}
use Rattle.walk.specs.AnyHead.{legs_any_of, run_legs, priced_any_answer, read_any_rows_with, price_any_verdict, price_any_answer, price_any_rows}
use Rattle.walk.specs.Rows.{ReadRows}
use Rattle.walk.proofs.Filling.{one_each}
use Rattle.walk.proofs.Joins.{run_sum_joined}
use Rattle.walk.proofs.Walks.{any_walkable}
use Rattle.walk.proofs.Priced.{price_any_accepted}
use Rattle.walk.proofs.AnyHead.{any_even, any_good, any_formed, price_any_same}
use Rattle.engine_stops.proofs.Halves.{list_of_halves, halves_even}
use Rattle.figures.proofs.AnyHead.{list_any_accepted, list_any_formed}
use Rattle.least.specs.AnyHead.{LeastAnyFor, list_sum_any}
use Rattle.least.proofs.LeastAny.{any_served, no_detour_left, read_at_once}
use Rattle.least.proofs.Unbeaten.{Covers, covers_of_reads}
use Rattle.least.proofs.UnbeatenAny.{no_movement_beats_any, no_read_before}
use Rattle.least.proofs.Wanted.{reads_no_more}
use Rattle.planner.specs.Plan.{Plans, room_for, short_rows, plan_verdict}
use Rattle.planner.specs.AnyHead.{PlansAny, PlannedAny, plan_any_verdict, rows_any_with}
use Rattle.planner.specs.Rows.{Rows, reads_in}
use Rattle.planner.proofs.Determined.{plan_any_determined, plan_determined}
use Rattle.planner.proofs.Same.{verdict_same, plan_same}
use Rattle.demands.specs.RefusalTable.{HasStops}
use Rattle.demands.specs.Demand1.{ByTheTable, price_order, plan_order}
use Rattle.demands.specs.Demand2.{list_in}
use Rattle.demands.specs.AnyLegs.{AreLegsOf}
use Rattle.demands.specs.AnyHead.{RunAppliesAny, ListIsBadAny, PriceAnyApplies, PlanAnyApplies, Demand1PriceAny, Demand1PriceAnyIff, Demand1PlanAny, Demand1PlanAnyIff, IsFormedAny, LegsAreMade, LegsAreOne, IsWalkAnyOf, IsLeastAny, LeastAnyMeans, Demand2PriceAny, Demand2WalkAny, Demand2LeastAny, Demand2OneAny, NoLessAnyByFile, Demand3Any, Demand3AnySame, PriceAnySame, PlanAnySame, LeftOfAll}
use Rattle.demands.proofs.Tests.{tells_below}
use Rattle.demands.proofs.Checks.{Decides, refused, passed, refused_iff, decides_if, decides_reworded, Finds, finds_none, finds_first}
use Rattle.demands.proofs.Demand1.{refusal_only_place, tells_reads, IsShort, tells_short}
use Rattle.demands.proofs.Demand3.{one_table}
use Rattle.demands.proofs.Counted.{has_stops, stops_one}
use Rattle.demands.proofs.AnyLifted.{stops_down, stops_up}
use Rattle.demands.proofs.AnyLegs.{legs_made, legs_one}
use Rattle.demands.proofs.AnyJudged.{any_small, run_any_finds, nothing_judged_any, judged_nothing_any, start_named, stop_names, decides_list_any}

-- Demand 1: the pricer.
module _ (r : Run) (froms tos : List ℕ) (rows : ReadRows) where
  pub price_of_run : (k : Refusal) (p : ℕ) → number_of k ≤ 7 → PriceAnyApplies r froms tos rows k p → RunAppliesAny r k p
  price_of_run k p l (PriceAnyApplies.run h) = h
  price_of_run k p l (PriceAnyApplies.bad_list h) = absurd (omega arith)
  price_of_run k p l (PriceAnyApplies.short_times h) = absurd (omega arith)
  price_of_run k p l (PriceAnyApplies.short_legs h) = absurd (omega arith)

  pub price_list : (p : ℕ) → PriceAnyApplies r froms tos rows BadEntry p → ListIsBadAny r froms tos p
  price_list p (PriceAnyApplies.run h) = absurd (omega (arith, any_small r h))
  price_list p (PriceAnyApplies.bad_list h) = h

  abbrev pub ReadsShort : Type 0
  ReadsShort = (length rows.times < length r.numbers) ⊎ (length rows.legs < length r.numbers)

  pub short_reads : (p : ℕ) → (p ≡ 0) × ReadsShort → PriceAnyApplies r froms tos rows ShortRow p
  short_reads p h = rw h.0 (⊎_elim PriceAnyApplies.short_times PriceAnyApplies.short_legs h.1)

  pub reads_short : (p : ℕ) → PriceAnyApplies r froms tos rows ShortRow p → (p ≡ 0) × ReadsShort
  reads_short p (PriceAnyApplies.run h) = absurd (omega (arith, any_small r h))
  reads_short p (PriceAnyApplies.short_times h) = (refl, inl h)
  reads_short p (PriceAnyApplies.short_legs h) = (refl, inr h)

  price_finds : Finds (PriceAnyApplies r froms tos rows) price_order (price_any_verdict r froms tos rows)
  unfolding price_any_verdict
  price_finds =
      let short = refuse_if (short_read_rows (length r.numbers) rows) ShortRow in
      run_any_finds r (PriceAnyApplies r froms tos rows) (λ k p. PriceAnyApplies.run) price_of_run (BadEntry ∷ ShortRow ∷ []) (list_verdict_any r.head (stops_of r) froms tos ∷ short ∷ [])
      (λ a. finds_first (PriceAnyApplies r froms tos rows) (short ∷ []) refl
      (decides_reworded (λ p. PriceAnyApplies.bad_list) price_list (decides_list_any r (accepted_any r a) froms tos))
      (λ b. finds_first (PriceAnyApplies r froms tos rows) [] refl
      (decides_reworded short_reads reads_short (decides_if _ ShortRow (tells_reads (length r.numbers) rows)))
      (λ c. finds_none (PriceAnyApplies r froms tos rows))))

  price_says : (b : Bool) → refuses (price_any_verdict r froms tos rows) ≡ b → ByTheTable (PriceAnyApplies r froms tos rows) price_order rows (price_any_answer r froms tos rows) (price_any_rows r froms tos rows)
  unfolding price_any_answer price_any_rows priced_any_answer
  price_says true e = rw e (record { first = price_finds; kept = λ n. (refusal_only_place (price_any_verdict r froms tos rows), refl) })
  price_says false e = rw e (record { first = rw (price_any_accepted r froms tos rows e) at price_finds; kept = λ n. absurd (n refl) })

pub demand1_price_any : Demand1PriceAny
demand1_price_any r froms tos rows answer out says fills = rw (says, fills) (price_says r froms tos rows (refuses (price_any_verdict r froms tos rows)) refl)

pub price_any_refused_iff : Demand1PriceAnyIff
price_any_refused_iff r froms tos rows answer says =
    refused_iff (PriceAnyApplies r froms tos rows) (demand1_price_any r froms tos rows answer (price_any_rows r froms tos rows) says refl).first (refl, (refl, (refl, (refl, (refl, (refl, (refl, (refl, (refl, tt)))))))))

-- The rows of an accepted plan hold its list's starts and ends.
module _ (r : Run) (list : List Detour) (before : Rows) (answer : Answer) (after : Rows) (says : answer ≡ priced_any_answer r list) (rows : after ≡ rows_any_with r list before) where
  pub any_starts_in_rows : take answer.detours after.froms ≡ map (λ d. d.from) list
  unfolding priced_any_answer
  any_starts_in_rows = rw (says, rows) (take_at (map (λ d. d.from) list) (drop (length list) before.froms) (length list) (length-map list (λ d. d.from)))

  pub any_ends_in_rows : take answer.detours after.tos ≡ map (λ d. d.to) list
  unfolding priced_any_answer
  any_ends_in_rows = rw (says, rows) (take_at (map (λ d. d.to) list) (drop (length list) before.tos) (length list) (length-map list (λ d. d.to)))

  pub list_in_rows : list_in answer after ≡ list
  list_in_rows = ap₂ list_of any_starts_in_rows any_ends_in_rows ∙ list_of_halves list

-- The planner.
module _ (r : Run) (rows : Rows) where
  pub plan_of_run : (k : Refusal) (p : ℕ) → number_of k ≤ 7 → PlanAnyApplies r rows k p → RunAppliesAny r k p
  plan_of_run k p l (PlanAnyApplies.run h) = h
  plan_of_run k p l (PlanAnyApplies.short_times h) = absurd (omega arith)
  plan_of_run k p l (PlanAnyApplies.short_legs h) = absurd (omega arith)
  plan_of_run k p l (PlanAnyApplies.short_starts s h) = absurd (omega arith)
  plan_of_run k p l (PlanAnyApplies.short_ends s h) = absurd (omega arith)
  plan_of_run k p l (PlanAnyApplies.short_room s h) = absurd (omega arith)

  module _ (good : GoodAnyRun r) where
    stops : HasStops r (length (stops_of r))
    stops = stops_down r (has_stops (lifted r) good.run)

    one : {n : ℕ} → HasStops r n → n ≡ length (stops_of r)
    one s = stops_one (lifted r) good.run (stops_up r s)

    pub short_row : (p : ℕ) → (p ≡ 0) × IsShort r rows → PlanAnyApplies r rows ShortRow p
    short_row p h =
        rw h.0
        (⊎_elim (⊎_elim PlanAnyApplies.short_times PlanAnyApplies.short_legs)
        (⊎_elim (PlanAnyApplies.short_starts stops) (PlanAnyApplies.short_ends stops))
        h.1)

    pub row_short : (p : ℕ) → PlanAnyApplies r rows ShortRow p → (p ≡ 0) × IsShort r rows
    row_short p (PlanAnyApplies.run h) = absurd (omega (arith, any_small r h))
    row_short p (PlanAnyApplies.short_times h) = (refl, inl (inl h))
    row_short p (PlanAnyApplies.short_legs h) = (refl, inl (inr h))
    row_short p (PlanAnyApplies.short_starts s h) = (refl, inr (inl (rw (one s) at h)))
    row_short p (PlanAnyApplies.short_ends s h) = (refl, inr (inr (rw (one s) at h)))

    pub short_room : (p : ℕ) → (p ≡ 0) × (length rows.room < room_for r) → PlanAnyApplies r rows ShortRoom p
    short_room p h = rw h.0 (PlanAnyApplies.short_room stops h.1)

    pub room_short : (p : ℕ) → PlanAnyApplies r rows ShortRoom p → (p ≡ 0) × (length rows.room < room_for r)
    room_short p (PlanAnyApplies.run h) = absurd (omega (arith, any_small r h))
    room_short p (PlanAnyApplies.short_room s h) = (refl, rw (one s) at h)

  plan_finds : Finds (PlanAnyApplies r rows) plan_order (plan_any_verdict r rows)
  unfolding plan_any_verdict
  plan_finds =
      let short = short_rows (length r.numbers) (length (stops_of r)) rows in
      let room = refuse_if (ltb (length rows.room) (room_for r)) ShortRoom in
      run_any_finds r (PlanAnyApplies r rows) (λ k p. PlanAnyApplies.run) plan_of_run (ShortRow ∷ ShortRoom ∷ []) (refuse_if short ShortRow ∷ room ∷ [])
      (λ a. finds_first (PlanAnyApplies r rows) (room ∷ []) refl (decides_reworded (short_row (accepted_any r a)) (row_short (accepted_any r a)) (decides_if short ShortRow (tells_short r rows)))
      (λ b. finds_first (PlanAnyApplies r rows) [] refl
      (decides_reworded (short_room (accepted_any r a)) (room_short (accepted_any r a)) (decides_if _ ShortRoom (tells_below (length rows.room) (room_for r))))
      (λ c. finds_none (PlanAnyApplies r rows))))

  abbrev planChecks : List Verdict
  planChecks = judge_any_of r ∷ refuse_if (short_rows (length r.numbers) (length (stops_of r)) rows) ShortRow ∷ refuse_if (ltb (length rows.room) (room_for r)) ShortRoom ∷ []

  plan_accepted : refuses (plan_any_verdict r rows) ≡ false → plan_any_verdict r rows ≡ accepted
  unfolding plan_any_verdict
  plan_accepted e = none_refuses planChecks e

  pub run_passed : refuses (plan_any_verdict r rows) ≡ false → refuses (judge_any_of r) ≡ false
  unfolding plan_any_verdict
  run_passed e = (all_accept planChecks e).0

  module _ (answer : Answer) (after : Rows) (plans : PlansAny r rows answer after) where
    plan_says : (b : Bool) → refuses (plan_any_verdict r rows) ≡ b → ByTheTable (PlanAnyApplies r rows) plan_order rows answer after
    unfolding priced_any_answer
    plan_says true e =
        let refusal = plans.refused e in
        rw (refusal.says, refusal.kept) (record { first = plan_finds; kept = λ n. (refusal_only_place (plan_any_verdict r rows), refl) })
    plan_says false e =
        let plan = plans.planned e in
        record { first = rw plan.says (rw (plan_accepted e) at plan_finds); kept = λ n. absurd (n (ap (λ a. a.refusal) plan.says)) }

    -- What an accepted answer says.
    module _ (accepts : answer.refusal ≡ Accepted) where
      pub not_refused : refuses (plan_any_verdict r rows) ≡ false
      not_refused = go (refuses (plan_any_verdict r rows)) refl
        where
          go : (b : Bool) → refuses (plan_any_verdict r rows) ≡ b → refuses (plan_any_verdict r rows) ≡ false
          go true e = ap is_refusal (sym (ap (λ a. a.refusal) (plans.refused e).says) ∙ accepts)
          go false e = e

      pub planned : PlannedAny r rows answer after
      planned = plans.planned not_refused

      pub good_run : GoodAnyRun r
      good_run = accepted_any r (run_passed not_refused)

      run_nothing : refuses (judge_any_of r) ≡ false
      run_nothing = run_passed not_refused

      listed : list_in answer after ≡ planned.list
      listed = list_in_rows r planned.list rows answer after planned.says planned.rows

pub demand1_plan_any : Demand1PlanAny
demand1_plan_any r before answer after plans = plan_says r before answer after plans (refuses (plan_any_verdict r before)) refl

pub plan_any_refused_iff : Demand1PlanAnyIff
plan_any_refused_iff r before answer after plans =
    refused_iff (PlanAnyApplies r before) (demand1_plan_any r before answer after plans).first (refl, (refl, (refl, (refl, (refl, (refl, (refl, (refl, (refl, tt)))))))))

-- What 01 refuses by its judging.
verdict_of_run : (r : Run) (rows : Rows) → refuses (judge_of r) ≡ true → plan_verdict r rows ≡ judge_of r
unfolding plan_verdict
verdict_of_run r rows e = sym (first_refuses (judge_of r) (refuse_if (short_rows (length r.numbers) (length (stops_of r)) rows) ShortRow ∷ refuse_if (ltb (length rows.room) (room_for r)) ShortRoom ∷ []) e)

-- Demand 2. In an accepted run a list is well formed if and only if 10 does not apply to it.
module _ (r : Run) (good : GoodAnyRun r) (list : List Detour) where
  abbrev froms : List ℕ
  froms = map (λ d. d.from) list

  abbrev tos : List ℕ
  tos = map (λ d. d.to) list

  pub formed_list_any : IsFormedAny r list → WellFormedAny r.head (stops_of r) list
  formed_list_any n = go (decides_list_any r good froms tos)
    where
      go : Decides BadEntry (ListIsBadAny r froms tos) (list_verdict_any r.head (stops_of r) froms tos) → WellFormedAny r.head (stops_of r) list
      go (refused p e h) = absurd (n p h)
      go (passed e none) = rw (list_of_halves list) at (list_any_formed r.head (stops_of r) froms tos (ap refuses e))

  pub is_formed_any : WellFormedAny r.head (stops_of r) list → IsFormedAny r list
  is_formed_any w = go (decides_list_any r good froms tos)
    where
      go : Decides BadEntry (ListIsBadAny r froms tos) (list_verdict_any r.head (stops_of r) froms tos) → IsFormedAny r list
      go (refused p e h) = absurd (true≢false (sym (ap refuses e) ∙ list_any_accepted r.head (stops_of r) froms tos (halves_even (λ d. d.from) (λ d. d.to) list) (rw (list_of_halves list) w)))
      go (passed e none) = none

  -- Its legs are a movement.
  pub list_moves : WellFormedAny r.head (stops_of r) list → Moves r.head (run_legs r list)
  list_moves w =
      let even = halves_even (λ d. d.from) (λ d. d.to) list in
      let list-is : WellFormedAny r.head (stops_of r) (list_of froms tos) = rw (list_of_halves list) w in
      let good_list_lem = any_good r.head (stops_of r) froms tos (list_any_accepted r.head (stops_of r) froms tos even list-is) in
      rw (list_of_halves list) at (any_walkable (lifted r) good.run froms tos good_list_lem r.head good.near).moves

-- The legs of a list by their conditions.
pub legs_are_made : LegsAreMade
legs_are_made r nothing list v =
    let good = accepted_any r (nothing_judged_any r nothing) in
    legs_made r good list (formed_list_any r good list v)

pub legs_are_one : LegsAreOne
legs_are_one r nothing list v gs are =
    let good = accepted_any r (nothing_judged_any r nothing) in
    legs_one r good list (formed_list_any r good list v) gs are

-- The numbers, times and legs of a well-formed list's walk, in rows that have them in front.
priced_walk : (r : Run) (list : List Detour) (rows before : ReadRows) (answer : Answer) → GoodAnyRun r → answer ≡ priced_any_answer r list → rows ≡ read_any_rows_with r list before
    → WellFormedAny r.head (stops_of r) list → IsFormedAny r list → AreLegsOf r list (run_legs r list) → IsWalkAnyOf r list rows answer
unfolding priced_any_answer times_of legs_for
priced_walk r list rows before answer good says fills w formed made =
    let same : length r.counts ≡ length r.numbers = sym good.run.wants.equal in
    let size : (f : Stop → ℕ) → length (map f (want_stops_of r)) ≡ length r.numbers = λ f. one_each f (want_stops_of r) ∙ wants_length r.starts r.lengths r.aggregates r.numbers r.counts same in
    record {
      number = rw says;
      formed = formed;
      made = made;
      moves = list_moves r good list w;
      serves = any_served r.head (lifted r).head (stops_of r) (run_sound (lifted r) good.run) list;
      times = rw fills (take_at (times_of r.turn (head_at r.head) (run_legs r list) (want_stops_of r)) (drop (length r.numbers) before.times) (length r.numbers) (size _));
      legs = rw fills (take_at (legs_for (run_legs r list) (want_stops_of r)) (drop (length r.numbers) before.legs) (length r.numbers) (size _));
      sum = rw says;
      summed = rw says (run_sum_joined r.turn (head_at r.head) (run_legs r list) r);
      finish = rw says;
      end = rw says;
    }

well_walked : (r : Run) (list : List Detour) (rows before : ReadRows) (answer : Answer) → GoodAnyRun r → answer ≡ priced_any_answer r list → rows ≡ read_any_rows_with r list before
    → WellFormedAny r.head (stops_of r) list → IsWalkAnyOf r list rows answer
well_walked r list rows before answer good says fills w = priced_walk r list rows before answer good says fills w (is_formed_any r good list w) (legs_made r good list w)

-- An answer of the pricer that is no refusal comes of a verdict that is none.
pub price_any_accepts : (r : Run) (froms tos : List ℕ) (rows : ReadRows) (answer : Answer) → answer ≡ price_any_answer r froms tos rows → answer.refusal ≡ Accepted
    → refuses (price_any_verdict r froms tos rows) ≡ false
unfolding price_any_answer
price_any_accepts r froms tos rows answer says accepts =
    ⊎_elim
    (λ e. absurd (true≢false (sym e ∙ ap is_refusal (sym (ap (λ (a : Answer). a.refusal) (rw e at says)) ∙ accepts))))
    (λ e. e)
    (true_or_false (refuses (price_any_verdict r froms tos rows)))

pub price_any_good : (r : Run) (froms tos : List ℕ) (rows : ReadRows) (answer : Answer) → answer ≡ price_any_answer r froms tos rows → answer.refusal ≡ Accepted → GoodAnyRun r
unfolding price_any_verdict
price_any_good r froms tos rows answer says accepts =
    accepted_any r
    (all_accept (judge_any_of r ∷ list_verdict_any r.head (stops_of r) froms tos ∷ refuse_if (short_read_rows (length r.numbers) rows) ShortRow ∷ []) (price_any_accepts r froms tos rows answer says accepts)).0

-- What the pricer says of a list that it accepts.
pub price_of_list_any : (r : Run) (froms tos : List ℕ) (rows : ReadRows) → refuses (price_any_verdict r froms tos rows) ≡ false → (answer : Answer) (out : ReadRows)
    → answer ≡ priced_any_answer r (list_of froms tos) → out ≡ read_any_rows_with r (list_of froms tos) rows → (length froms ≡ length tos) × IsWalkAnyOf r (list_of froms tos) out answer
unfolding price_any_verdict
price_of_list_any r froms tos rows e answer out says fills =
    let checks = all_accept (judge_any_of r ∷ list_verdict_any r.head (stops_of r) froms tos ∷ refuse_if (short_read_rows (length r.numbers) rows) ShortRow ∷ []) e in (
      any_even r.head (stops_of r) froms tos checks.1.0,
      well_walked r (list_of froms tos) out rows answer (accepted_any r checks.0) says fills (list_any_formed r.head (stops_of r) froms tos checks.1.0),
    )

pub demand2_price_any : Demand2PriceAny
unfolding price_any_answer price_any_rows
demand2_price_any r froms tos rows answer out says fills accepts =
    let e = price_any_accepts r froms tos rows answer says accepts in
    price_of_list_any r froms tos rows e answer out (rw e at says) (rw e at fills)

pub demand2_walk_any : Demand2WalkAny
demand2_walk_any r before answer after plans accepts =
    let plan = planned r before answer after plans accepts in
    rw (listed r before answer after plans accepts)
    (well_walked r plan.list (reads_in after) (reads_in before) answer (good_run r before answer after plans accepts) plan.says (ap reads_in plan.rows) plan.least.formed)

reported : (r : Run) (list : List Detour) (answer : Answer) → answer ≡ priced_any_answer r list → answer.sum ≡ list_sum_any r.turn r.head (stops_of r) list
unfolding priced_any_answer
reported r list answer says = rw says

-- The least list is least over all walks of lists, given that well-formed lists have their legs and no others.
least_of_list : (r : Run) (list : List Detour) (answer : Answer) (after : Rows) → LeastAnyFor r.turn r.head (stops_of r) list → answer.sum ≡ list_sum_any r.turn r.head (stops_of r) list
    → list_in answer after ≡ list → ((other : List Detour) → IsFormedAny r other → WellFormedAny r.head (stops_of r) other)
    → ((other : List Detour) → IsFormedAny r other → (gs : List Leg) → AreLegsOf r other gs → gs ≡ run_legs r other) → IsLeastAny r answer after
least_of_list r list answer after least sum is formed one =
    let walks : (other : List Detour) → IsFormedAny r other → (gs : List Leg) → AreLegsOf r other gs → sum_of r.turn (head_at r.head) gs (stops_of r) ≡ list_sum_any r.turn r.head (stops_of r) other
    = λ other v gs are. ap (λ hs. sum_of r.turn (head_at r.head) hs (stops_of r)) (one other v gs are) in
    record {
      smallest = λ other v gs are. rw (sum, walks other v gs are) (least.smallest other (formed other v));
      first = λ other v gs are e. rw is (least.first other (formed other v) (sym (walks other v gs are) ∙ e ∙ sum));
    }

pub demand2_least_any : Demand2LeastAny
demand2_least_any r before answer after plans accepts =
    let plan = planned r before answer after plans accepts in
    let good = good_run r before answer after plans accepts in
    least_of_list r plan.list answer after plan.least (reported r plan.list answer plan.says) (listed r before answer after plans accepts)
    (formed_list_any r good) (λ other v gs are. legs_one r good other (formed_list_any r good other v) gs are)

pub least_any_means : LeastAnyMeans
least_any_means r nothing list least gs are =
    let good = accepted_any r (nothing_judged_any r nothing) in
    let walks : (other : List Detour) → WellFormedAny r.head (stops_of r) other → (hs : List Leg) → AreLegsOf r other hs → sum_of r.turn (head_at r.head) hs (stops_of r) ≡ list_sum_any r.turn r.head (stops_of r) other
    = λ other w hs fit. ap (λ ls. sum_of r.turn (head_at r.head) ls (stops_of r)) (legs_one r good other w hs fit) in
    let own = walks list least.formed gs are in
    record {
      formed = is_formed_any r good list least.formed;
      smallest = λ other v hs fit. let w = formed_list_any r good other v in rw (own, walks other w hs fit) (least.smallest other w);
      first = λ other v hs fit e. let w = formed_list_any r good other v in least.first other w (sym (walks other w hs fit) ∙ e ∙ own);
    }

pub demand2_one_any : Demand2OneAny
demand2_one_any r before answer answer' after after' plans plans' = plan_any_determined r before answer answer' after after' plans plans'

-- Demand 3.
unbeaten : (U U' m m' M M' : ℕ) (stops stops' : List Stop) → m' ≡ m → Sound stops M → Sound stops' M' → U' ≤ U → Covers stops stops' → (gs : List Leg) → Moves m gs → ServesAll gs stops
    → (list : List Detour) → LeastAnyFor U' m' stops' list → list_sum_any U' m' stops' list ≤ sum_of U (head_at m) gs stops
unbeaten U U' m m' M M' stops stops' e ok ok' hU covers gs moves serves list least =
    rw e (no_movement_beats_any U U' m M M' stops stops' ok ok' hU covers gs moves serves list (rw e at least))

pub demand3_any : Demand3Any
demand3_any first second before answer after nothing plans accepts asks gs moves serves =
    let good = accepted_any first (nothing_judged_any first nothing) in
    let good' = good_run second before answer after plans accepts in
    let plan = planned second before answer after plans accepts in
    let sound' = run_sound (lifted second) good'.run in
    rw (reported second plan.list answer plan.says)
    (unbeaten first.turn second.turn first.head second.head _ _ (stops_of first) (stops_of second) asks.head (run_sound (lifted first) good.run) sound' asks.turn
    (covers_of_reads _ (stops_of first) (stops_of second) sound' asks.reads (one_table first second asks.starts asks.lengths asks.aggregates))
    gs moves serves plan.list plan.least)

pub no_less_any_by_file : NoLessAnyByFile
no_less_any_by_file first second nothing nothing' asks head =
    let good = accepted_any first (nothing_judged_any first nothing) in
    let good' = accepted_any second (nothing_judged_any second nothing') in
    record {
      starts = asks.starts;
      lengths = asks.lengths;
      aggregates = asks.aggregates;
      reads = reads_no_more (lifted first) (lifted second) good.run good'.run asks.starts asks.aggregates asks.reads;
      turn = asks.turn;
      head = head;
    }

pub demand3_any_same : Demand3AnySame
demand3_any_same r before answer after plans accepts gs moves serves =
    demand3_any r r before answer after (judged_nothing_any r (run_nothing r before answer after plans accepts)) plans accepts
    (record { starts = refl; lengths = refl; aggregates = refl; reads = λ f. le_refl _; turn = le_refl _; head = refl })
    gs moves serves

-- As 01's.
pub price_as_01 : PriceAnySame
unfolding price_answer
price_as_01 r froms tos rows other =
    price_any_same r froms tos rows
    (λ is. let refuses-it : refuses (price_verdict r froms tos rows) ≡ true = ap is_refusal is in other (rw refuses-it is))

pub plan_as_01 : PlanAnySame
plan_as_01 r before answer answer' after after' plans plans' other = go (refuses (judge_of r)) refl
  where
    refused_alike : refuses (judge_of r) ≡ true → (answer' ≡ answer) × (after' ≡ after)
    refused_alike e =
        let whole : plan_verdict r before ≡ judge_of r = verdict_of_run r before e in
        let p = plans.refused (ap refuses whole ∙ e) in
        let judged = judge_any_same r (λ is. other (ap (λ a. a.refusal) p.says ∙ ap (λ v. v.refusal) whole ∙ is)) in
        let same = verdict_same r before judged in
        let q = plans'.refused (ap refuses (same ∙ whole) ∙ e) in
        (q.says ∙ ap refusal_answer same ∙ sym p.says, q.kept ∙ sym p.kept)

    go : (b : Bool) → refuses (judge_of r) ≡ b → (answer' ≡ answer) × (after' ≡ after)
    go true e = refused_alike e
    go false e =
        let both = plan_determined r before answer' answer after' after (plan_same r before e answer' after' plans') plans in
        (both.0, both.1)

-- The head left of everything.
module _ (m M : ℕ) where
  none_left : (ss : List Stop) → Sound ss M → ((i : ℕ) → i < length ss → m ≤ (stop_at ss i).start) → (list : List Detour) → WellFormedAny m ss list → length list ≡ 0
  none_left [] ok left list w = no_entries list (any_formed m [] list w)
    where
      no_entries : (list : List Detour) → WellFormed [] list → length list ≡ 0
      no_entries list v = entries_none [] M ok list (length list) (λ i l. formed_entries [] list v i l) refl
  none_left (s ∷ ss) ok left list w = ap length (no_detour_left m M s ss ok left list w)

  at_once : (ss : List Stop) → Sound ss M → ((i : ℕ) → i < length ss → m ≤ (stop_at ss i).start) → (list : List Detour) → WellFormedAny m ss list → (U i : ℕ) → i < length ss
      → time_of U (head_at m) (legs_any_of m ss list) (stop_at ss i) ≡ U + ((stop_at ss i).end - m)
  at_once [] ok left list w U i l = absurd (omega arith)
  at_once (s ∷ ss) ok left list w U i l =
      rw (no_detour_left m M s ss ok left list w) (omega (arith, read_at_once m M s ss ok left U i l, left i l, ok.extends i l))

pub left_of_all : LeftOfAll
unfolding priced_any_answer
left_of_all r before answer after plans accepts left =
    let plan = planned r before answer after plans accepts in
    let good = good_run r before answer after plans accepts in
    let sound = run_sound (lifted r) good.run in
    let starts : (i : ℕ) → i < length (stops_of r) → r.head ≤ (stop_at (stops_of r) i).start
    = λ i l. omega (arith, start_named r good i l, left (stop_at (stops_of r) i).file (stop_names r good i l)) in
    record {
      none = ap (λ a. a.detours) plan.says ∙ none_left r.head (lifted r).head (stops_of r) sound starts plan.list plan.least.formed;
      times = λ i l. rw (listed r before answer after plans accepts) (at_once r.head (lifted r).head (stops_of r) sound starts plan.list plan.least.formed r.turn i l);
      earliest = λ i l gs moves serves.
          omega (arith, no_read_before r.turn r.turn r.head (stop_at (stops_of r) i) (omega (arith, sound.extends i l)) (le_refl r.turn) gs moves serves, starts i l, sound.extends i l);
    }
