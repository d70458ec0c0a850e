-- Request L5: the plain engine's checks find the first that applies in its order; its list is the least and so is the planner's, so they are one,
-- and what holds of a plan holds of its answer.
use Prim.Native.Nat.{ℕ, ◌-◌, ◌≤◌, ◌<◌}
use mathlib.Core.Path.{◌≡◌, refl, sym, ap, ◌∙◌}
use mathlib.Core.Bool.{Bool, true, false, ◌||◌, true≢false}
use mathlib.Core.Logic.{◌⊎◌, inl, inr, ⊎_elim}
use mathlib.Core.List.{List, [], ◌∷◌, ◌++◌}
use native.Mathlib.Omega.{arith}
use native.Mathlib.Nat.{le_refl}
use lib.ListN.{length, take, drop, replicate, length-replicate}
use lib.Dec.{ltb}
use borrow.Author.Tests.{le-ltb}
use Rattle.refusals.specs.declared.Refusal.{Refusal}
use Rattle.refusals.specs.declared.Refusal.TheVariants.{Accepted, FileRows, BadFile, WantRows, OverEightWants, BadWant, TooManyReads, TurnPrice, HeadPlace, ShortRow, ShortRoom}
use Rattle.refusals.specs.declared.Verdict.{Verdict}
use Rattle.refusals.specs.Refusals.{number_of, is_refusal, accepted, refuse_if, first_of}
use Rattle.refusals.proofs.Verdicts.{refuses, none_refuses, all_accept, accepts_if}
use Rattle.runs.specs.Run.{Run, stops_of, want_stops_of, most_wants}
use Rattle.runs.specs.Judging.{table_checks, judge_of}
use Rattle.walk.specs.declared.Answer.{Answer}
use Rattle.walk.specs.Price.{refusal_answer, priced_answer, short_read_rows}
use Rattle.walk.specs.Walk.{head_at, times_of, legs_for}
use Rattle.walk.specs.Detours.{legs_of}
use Rattle.planner.specs.Plan.{room_for, plan_verdict, Planned, Plans}
use Rattle.planner.specs.Rows.{Rows}
use Rattle.planner.proofs.Determined.{plan_determined}
use Rattle.least.proofs.LeastList.{least_unique}
use Rattle.engine_plain.specs.Plain.{PlainRows, plain_reads, most_plain_wants, uneven_wants, short_plain_rows, plain_verdict, plain_rows_with, PlainPlanned, PlainPlans}
use Rattle.engine_plain.proofs.Checks.{late_behind}
use Rattle.engine_plain.proofs.Determined.{plain_determined}
use Rattle.runs.proofs.Judged.{GoodRun, accepted_run}
use Rattle.demands.specs.RefusalTable.{RunApplies, FirstThatApplies, here, later}
use Rattle.demands.specs.Demand1.{ByTheTable}
use Rattle.demands.specs.Demand2.{list_in, IsTheWalk, IsLeast}
use Rattle.demands.specs.Plain.{with_room, words_for, plain_order, PlainApplies, SameAnswer, PlainWalks, Demand1Plain, Demand1PlainIff, PlainAsPlanned, PlannerWithRoom, Demand2Plain, Demand2PlainOne, Demand3Plain}
use Rattle.demands.proofs.Counted.{has_stops, stops_one}
use Rattle.demands.proofs.Tests.{Tells, tells_below, tells_either, tells_regrouped}
use Rattle.demands.proofs.Checks.{refused_iff, decides_if, decides_reworded, Finds, finds_none, finds_first}
use Rattle.demands.proofs.Conditions.{rows_unfit}
use Rattle.demands.proofs.Judged.{table_finds, run_finds, run_small, want_rows_only}
use Rattle.demands.proofs.Demand1.{refusal_only_place, tells_reads}
use Rattle.demands.proofs.Planned.{plan_in_rows, list_in_rows}
use Rattle.demands.proofs.Demand2.{demand2_walk, demand2_least}
use Rattle.demands.proofs.Demand3.{demand3}

-- A condition that is not the one found can go from the front of the order.
drop_front : {applies : Refusal → ℕ → Type 0} {k kind : Refusal} {place : ℕ} {rest : List Refusal} → (k ≡ kind → ⊥) → FirstThatApplies applies (k ∷ rest) kind place → FirstThatApplies applies rest kind place
drop_front n (here h) = absurd (n refl)
drop_front n (later s f) = f

module _ (r : Run) (rows : PlainRows) where
  plain_of_run : (k : Refusal) (p : ℕ) → number_of k ≤ 7 → PlainApplies r rows k p → RunApplies r k p
  plain_of_run k p l (PlainApplies.run h) = h
  plain_of_run k p l (PlainApplies.over_eight h) = absurd (omega arith)
  plain_of_run k p l (PlainApplies.short_times h) = absurd (omega arith)
  plain_of_run k p l (PlainApplies.short_legs h) = absurd (omega arith)
  plain_of_run k p l (PlainApplies.short_starts s h) = absurd (omega arith)
  plain_of_run k p l (PlainApplies.short_ends s h) = absurd (omega arith)

  eight_over : (p : ℕ) → PlainApplies r rows OverEightWants p → (p ≡ 0) × (8 < length r.numbers)
  eight_over p (PlainApplies.run h) = absurd (omega (arith, run_small r h))
  eight_over p (PlainApplies.over_eight h) = (refl, h)

  abbrev IsShort : Type 0
  IsShort = ((length rows.times < length r.numbers) ⊎ (length rows.legs < length r.numbers)) ⊎ ((length rows.froms < length (stops_of r) - 1) ⊎ (length rows.tos < length (stops_of r) - 1))

  module _ (good : GoodRun r) where
    short_row : (p : ℕ) → (p ≡ 0) × IsShort → PlainApplies r rows ShortRow p
    short_row p h =
        rw h.0
        (⊎_elim (⊎_elim PlainApplies.short_times PlainApplies.short_legs)
        (⊎_elim (PlainApplies.short_starts (has_stops r good)) (PlainApplies.short_ends (has_stops r good)))
        h.1)

    row_short_here : (p : ℕ) → PlainApplies r rows ShortRow p → (p ≡ 0) × IsShort
    row_short_here p (PlainApplies.run h) = absurd (omega (arith, run_small r h))
    row_short_here p (PlainApplies.short_times h) = (refl, inl (inl h))
    row_short_here p (PlainApplies.short_legs h) = (refl, inl (inr h))
    row_short_here p (PlainApplies.short_starts s h) = (refl, inr (inl (rw (stops_one r good s) at h)))
    row_short_here p (PlainApplies.short_ends s h) = (refl, inr (inr (rw (stops_one r good s) at h)))

  tells_short_here : Tells (short_plain_rows (length r.numbers) (length (stops_of r)) rows) IsShort
  tells_short_here =
      let k = length r.numbers in
      let stops = length (stops_of r) in
      let reads = short_read_rows k (plain_reads rows) in
      let froms = ltb (length rows.froms) (stops - 1) in
      let tos = ltb (length rows.tos) (stops - 1) in
      tells_regrouped
      (tells_either (reads || froms) tos
      (tells_either reads froms (tells_reads k (plain_reads rows)) (tells_below (length rows.froms) (stops - 1)))
      (tells_below (length rows.tos) (stops - 1)))

  rows_check : Verdict
  rows_check = refuse_if (short_plain_rows (length r.numbers) (length (stops_of r)) rows) ShortRow

  -- Behind 24 the run's own checks find what they find, 1, 2 and 3 no longer among it.
  behind_finds : refuses (first_of (table_checks r.starts r.lengths r.aggregates)) ≡ false → uneven_wants r ≡ false
      → Finds (PlainApplies r rows) (BadWant ∷ TooManyReads ∷ TurnPrice ∷ HeadPlace ∷ ShortRow ∷ []) (first_of (judge_of r ∷ rows_check ∷ []))
  unfolding rows_check
  behind_finds t u =
      let late = late_behind r (short_plain_rows (length r.numbers) (length (stops_of r)) rows) t u in
      drop_front late.2
      (drop_front late.1
      (drop_front late.0
      (run_finds r (PlainApplies r rows) (λ k p. PlainApplies.run) plain_of_run (ShortRow ∷ []) (rows_check ∷ [])
      (λ a. finds_first (PlainApplies r rows) [] refl (decides_reworded (short_row (accepted_run r a)) (row_short_here (accepted_run r a)) (decides_if _ ShortRow tells_short_here)) (λ b. finds_none (PlainApplies r rows))))))

  plain_finds : Finds (PlainApplies r rows) plain_order (plain_verdict r rows)
  unfolding plain_verdict rows_check
  plain_finds =
      let over = refuse_if (ltb most_plain_wants (length r.numbers)) OverEightWants in
      table_finds r (PlainApplies r rows) (λ k p l. PlainApplies.run) (λ k p l h. plain_of_run k p (omega arith) h)
      (WantRows ∷ OverEightWants ∷ BadWant ∷ TooManyReads ∷ TurnPrice ∷ HeadPlace ∷ ShortRow ∷ []) (refuse_if (uneven_wants r) WantRows ∷ over ∷ judge_of r ∷ rows_check ∷ [])
      (λ t. finds_first (PlainApplies r rows) (over ∷ judge_of r ∷ rows_check ∷ []) refl
      (decides_reworded (λ p h. rw h.0 (PlainApplies.run (RunApplies.want_rows h.1))) (λ p h. want_rows_only r p (plain_of_run WantRows p (omega arith) h)) (decides_if (uneven_wants r) WantRows (rows_unfit most_wants (length r.numbers) (length r.counts))))
      (λ u. finds_first (PlainApplies r rows) (judge_of r ∷ rows_check ∷ []) refl
      (decides_reworded (λ p h. rw h.0 (PlainApplies.over_eight h.1)) eight_over (decides_if _ OverEightWants (tells_below 8 (length r.numbers))))
      (λ v. behind_finds t (accepts_if (uneven_wants r) WantRows refl u))))

  plain_accepted : refuses (plain_verdict r rows) ≡ false → plain_verdict r rows ≡ accepted
  unfolding plain_verdict rows_check
  plain_accepted e =
      none_refuses
      (first_of (table_checks r.starts r.lengths r.aggregates) ∷ refuse_if (uneven_wants r) WantRows ∷ refuse_if (ltb most_plain_wants (length r.numbers)) OverEightWants ∷ judge_of r ∷ rows_check ∷ []) e

  -- The engine accepts only a run that the judging accepts.
  pub plain_accepts_run : refuses (plain_verdict r rows) ≡ false → refuses (judge_of r) ≡ false
  unfolding plain_verdict rows_check
  plain_accepts_run e =
      (all_accept
      (first_of (table_checks r.starts r.lengths r.aggregates) ∷ refuse_if (uneven_wants r) WantRows ∷ refuse_if (ltb most_plain_wants (length r.numbers)) OverEightWants ∷ judge_of r ∷ rows_check ∷ []) e).1.1.1.0

  module _ (answer : Answer) (after : PlainRows) (plans : PlainPlans r rows answer after) where
    plain_says : (b : Bool) → refuses (plain_verdict r rows) ≡ b → ByTheTable (PlainApplies r rows) plain_order rows answer after
    unfolding priced_answer
    plain_says true e =
        let refusal = plans.refused e in
        rw (refusal.says, refusal.kept) (record { first = plain_finds; kept = λ n. (refusal_only_place (plain_verdict r rows), refl) })
    plain_says false e =
        let plan = plans.planned e in
        record { first = rw plan.says (rw (plain_accepted e) at plain_finds); kept = λ n. absurd (n (ap (λ a. a.refusal) plan.says)) }

    module _ (accepts : answer.refusal ≡ Accepted) where
      plain_passes : refuses (plain_verdict r rows) ≡ false
      plain_passes = go (refuses (plain_verdict r rows)) refl
        where
          go : (b : Bool) → refuses (plain_verdict r rows) ≡ b → refuses (plain_verdict r rows) ≡ false
          go true e = ap is_refusal (sym (ap (λ a. a.refusal) (plans.refused e).says) ∙ accepts)
          go false e = e

      plain_in_rows : PlainPlanned r rows answer after
      plain_in_rows = plans.planned plain_passes

      -- Lent a room of enough words too, the planner's contract holds of the same answer and rows.
      module _ (room : List ℕ) (enough : room_for r ≤ length room) where
        planner_passes : refuses (plan_verdict r (with_room rows room)) ≡ false
        unfolding plain_verdict plan_verdict rows_check
        planner_passes =
            let all = all_accept (first_of (table_checks r.starts r.lengths r.aggregates) ∷ refuse_if (uneven_wants r) WantRows ∷ refuse_if (ltb most_plain_wants (length r.numbers)) OverEightWants ∷ judge_of r ∷ rows_check ∷ []) plain_passes in
            rw (all.1.1.1.0, accepts_if (short_plain_rows (length r.numbers) (length (stops_of r)) rows) ShortRow refl all.1.1.1.1.0, le-ltb (length room) (room_for r) enough)

        as_plan : Plans r (with_room rows room) answer (with_room after (replicate (room_for r) 0 ++ drop (room_for r) room))
        as_plan =
            let p = plain_in_rows in
            record {
              refused = λ q. absurd (true≢false (sym q ∙ planner_passes));
              planned = λ q. record { list = p.list; least = p.least; says = p.says; rows = ap (λ x. with_room x (replicate (room_for r) 0 ++ drop (room_for r) room)) p.rows };
            }

      -- A room of just the words that are asked for.
      some_room_here : List ℕ
      some_room_here = replicate (room_for r) 0

      some_plan : Plans r (with_room rows some_room_here) answer (with_room after (replicate (room_for r) 0 ++ drop (room_for r) some_room_here))
      unfolding some_room_here
      some_plan = as_plan some_room_here (omega (arith, length-replicate {A = ℕ} (room_for r) 0))

      -- The list in the rows.
      plain_list : list_in answer (with_room after []) ≡ plain_in_rows.list
      plain_list =
          list_in_rows r plain_in_rows.list (with_room rows some_room_here) answer (with_room after (replicate (room_for r) 0 ++ drop (room_for r) some_room_here)) plain_in_rows.says
          (ap (λ x. with_room x (replicate (room_for r) 0 ++ drop (room_for r) some_room_here)) plain_in_rows.rows)

pub demand1_plain : Demand1Plain
demand1_plain r before answer after plans = plain_says r before answer after plans (refuses (plain_verdict r before)) refl

pub plain_refused_iff : Demand1PlainIff
plain_refused_iff r before answer after plans =
    refused_iff (PlainApplies r before) (demand1_plain r before answer after plans).first (refl, (refl, (refl, (refl, (refl, (refl, (refl, (refl, (refl, tt)))))))))

pub plain_as_planned : PlainAsPlanned
plain_as_planned r before answer after lent planned rows plans accepts plans' accepts' =
    record {
      answers = p.says ∙ ap (priced_answer r) one ∙ sym q.says;
      lists = lists_are;
      times = walk.times ∙ ap (λ l. times_of r.turn (head_at r.head) (legs_of (stops_of r) l) (want_stops_of r)) lists_are ∙ sym walk'.times;
      legs = walk.legs ∙ ap (λ l. legs_for (legs_of (stops_of r) l) (want_stops_of r)) lists_are ∙ sym walk'.legs;
    }
  where
    p : PlainPlanned r before answer after
    p = plain_in_rows r before answer after plans accepts

    q : Planned r lent planned rows
    q = plan_in_rows r lent planned rows plans' accepts'

    one : p.list ≡ q.list
    one = least_unique r.turn r.head (stops_of r) p.list q.list p.least q.least

    walk : IsTheWalk r answer (with_room after [])
    walk = demand2_walk r _ answer _ (some_plan r before answer after plans accepts) accepts

    walk' : IsTheWalk r planned rows
    walk' = demand2_walk r lent planned rows plans' accepts'

    lists_are : list_in answer (with_room after []) ≡ list_in planned rows
    lists_are = plain_list r before answer after plans accepts ∙ one ∙ sym (list_in_rows r q.list lent planned rows q.says q.rows)

pub planner_with_room : PlannerWithRoom
planner_with_room r before answer after stops room planned rows plans accepts has enough plans' =
    let passes = plain_accepts_run r before (plain_passes r before answer after plans accepts) in
    let words : words_for r stops ≡ room_for r = ap (words_for r) (stops_one r (accepted_run r passes) has) in
    rw words (plan_determined r (with_room before room) planned answer rows _ plans' (as_plan r before answer after plans accepts room (rw words at enough)))

pub demand2_plain : Demand2Plain
demand2_plain r before answer after plans accepts =
    let plan = some_plan r before answer after plans accepts in
    let least = demand2_least r _ answer _ plan accepts in
    record { walk = demand2_walk r _ answer _ plan accepts; least = record { smallest = least.smallest; first = least.first } }

pub demand2_plain_one : Demand2PlainOne
demand2_plain_one r before answer answer' after after' plans plans' = plain_determined r before answer answer' after after' plans plans'

pub demand3_plain : Demand3Plain
demand3_plain first second before answer after accepted plans accepts asks gs moves serves =
    demand3 first second _ answer _ accepted (some_plan second before answer after plans accepts) accepts asks gs moves serves
