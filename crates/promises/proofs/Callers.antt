-- What a caller in Rattle is told: short laws over those of the table, of the stops and of the month.
use Prim.Native.Nat.{ℕ, ◌+◌, ◌-◌, ◌^◌, ◌≤◌, ◌<◌}
use mathlib.Core.Path.{◌≡◌, refl, sym, ap, ◌∙◌, subst}
use mathlib.Core.Bool.{Bool, true, false, cond, ◌||◌, true≢false}
use mathlib.Core.Logic.{◌⊎◌, inl, inr, ⊎_elim, ◌↔◌}
use mathlib.Core.List.{List, [], ◌∷◌, ◌++◌, map}
use native.Mathlib.Omega.{arith}
use lib.ListN.{length, drop, length-map, get_or-append, get_or-map}
use lib.Seq.{drop_at, get_or-set_same, get_or-set_other}
use lib.Dec.{ltb}
use borrow.Author.Tests.{lt-ltb, le-ltb, le-leb}
use Rattle.refusals.specs.declared.Refusal.{Refusal}
use Rattle.refusals.specs.declared.Refusal.TheVariants.{Accepted, ShortRow}
use Rattle.refusals.specs.declared.Verdict.{Verdict}
use Rattle.refusals.specs.Refusals.{number_of, is_refusal, refuse_if, first_of}
use Rattle.refusals.proofs.Verdicts.{refuses, first_alone, none_refuses, all_accept}
use Rattle.runs.specs.Run.{Run, Stop, stops_of}
use Rattle.runs.specs.Judging.{judge_of, table_checks, wants_checks}
use Rattle.runs.specs.AnyHead.{head_any_checks, judge_any_of}
use Rattle.runs.proofs.Judged.{GoodRun, accepted_run}
use Rattle.engine_stops.specs.Joining.{JoinRows, short_join_rows, join_verdict, join_answer, join_rows_of}
use Rattle.sheet_writer.specs.Writing.{written_answer}
use Rattle.answer_outcome.specs.declared.Outcome.{Outcome}
use Rattle.answer_month.specs.declared.Month.{Month}
use Rattle.answer_month.specs.Month.{too_large, grown, refused_with, over_refused, with_refused, over_totals, with_totals, named_by, with_longest, added, added_all}
use Rattle.engine_stops.proofs.Said.{one_answer, same_verdict, same_number}
use Rattle.demands.specs.RefusalTable.{HasStops, RunApplies, FirstThatApplies}
use Rattle.demands.specs.AnyHead.{RunAppliesAny}
use Rattle.demands.proofs.Tests.{Tells, tells_below, tells_at_most, tells_true, tells_either, tells_holds}
use Rattle.demands.proofs.Checks.{decides_if, decides_reworded, Finds, finds_none, finds_first}
use Rattle.demands.proofs.Judged.{run_small, run_finds}
use Rattle.demands.proofs.AnyJudged.{run_any_finds}
use Rattle.demands.proofs.Counted.{has_stops, stops_one}
use Rattle.promises.specs.Callers.{BytesAreHanded, TextsAreHanded, TextIsHandedOut, JudgedAnyByTheTable, JoinApplies, join_order, HasOfEach, JoinAnswers, JoinTells, LongestIsFirst, Overflows, Grows, RefusedMore, TotalsMore, AcceptedMore, OutcomeIsAdded, AddedInTurn}
use Rattle.promises.proofs.Answers.{handed_lines}
use Rattle.promises.proofs.MonthTotals.{grown_fits}
use Rattle.promises.proofs.MonthLongest.{none_longer, first_longest, no_longest}

-- What is handed out.
pub bytes_are_handed : BytesAreHanded
bytes_are_handed v n = record { written = λ e. rw e; refused = λ e. rw e }

pub texts_are_handed : TextsAreHanded
unfolding written_answer
texts_are_handed v text = record { written = λ e. rw e; refused = λ e. rw e }

pub text_is_handed_out : TextIsHandedOut
text_is_handed_out = handed_lines

-- A run with its head anywhere.
pub judged_any_by_the_table : JudgedAnyByTheTable
unfolding judge_any_of
judged_any_by_the_table r =
    let checks : List Verdict = first_of (table_checks r.starts r.lengths r.aggregates) ∷ first_of (wants_checks (length r.starts) r.numbers r.counts) ∷ first_of (head_any_checks r.turn r.head) ∷ [] in
    rw (first_alone checks) at (run_any_finds r (RunAppliesAny r) (λ k p h. h) (λ k p l h. h) [] [] (λ a. finds_none (RunAppliesAny r)))

-- Stops in rows.
has_of_each : (number : Stop → ℕ) (stops : List Stop) (row : List ℕ) → number (record { file = 0; start = 0; end = 0; count = 0 }) ≡ 0 → HasOfEach number stops row (map number stops ++ drop (length stops) row)
has_of_each number stops row none =
    record {
      first = λ j l. get_or-append (map number stops) (drop (length stops) row) 0 j (rw (length-map stops number) l) ∙ (rw none at (get_or-map number stops j (record { file = 0; start = 0; end = 0; count = 0 })));
      behind = drop_at (map number stops) (drop (length stops) row) (length stops) (length-map stops number);
    }

module _ (r : Run) (rows : JoinRows) where
  join_of_run : (k : Refusal) (p : ℕ) → number_of k ≤ 7 → JoinApplies r rows k p → RunApplies r k p
  join_of_run k p l (JoinApplies.run h) = h
  join_of_run k p l (JoinApplies.short_firsts s h) = absurd (omega arith)
  join_of_run k p l (JoinApplies.short_lefts s h) = absurd (omega arith)
  join_of_run k p l (JoinApplies.short_spans s h) = absurd (omega arith)
  join_of_run k p l (JoinApplies.short_reads s h) = absurd (omega arith)

  abbrev many : ℕ
  many = length (stops_of r)

  abbrev IsShort : Type 0
  IsShort = (((length rows.firsts < many) ⊎ (length rows.lefts < many)) ⊎ (length rows.spans < many)) ⊎ (length rows.reads < many)

  tells_short_here : Tells (short_join_rows many rows) IsShort
  tells_short_here =
      let a = ltb (length rows.firsts) many in
      let b = ltb (length rows.lefts) many in
      let c = ltb (length rows.spans) many in
      tells_either (a || b || c) (ltb (length rows.reads) many)
      (tells_either (a || b) c (tells_either a b (tells_below _ many) (tells_below _ many)) (tells_below _ many))
      (tells_below _ many)

  module _ (good : GoodRun r) where
    short_there : (p : ℕ) → (p ≡ 0) × IsShort → JoinApplies r rows ShortRow p
    short_there p h =
        let all = has_stops r good in
        rw h.0 (⊎_elim (⊎_elim (⊎_elim (JoinApplies.short_firsts all) (JoinApplies.short_lefts all)) (JoinApplies.short_spans all)) (JoinApplies.short_reads all) h.1)

    short_back : (p : ℕ) → JoinApplies r rows ShortRow p → (p ≡ 0) × IsShort
    short_back p (JoinApplies.run h) = absurd (omega (arith, run_small r h))
    short_back p (JoinApplies.short_firsts s h) = (refl, inl (inl (inl (rw (stops_one r good s) at h))))
    short_back p (JoinApplies.short_lefts s h) = (refl, inl (inl (inr (rw (stops_one r good s) at h))))
    short_back p (JoinApplies.short_spans s h) = (refl, inl (inr (rw (stops_one r good s) at h)))
    short_back p (JoinApplies.short_reads s h) = (refl, inr (rw (stops_one r good s) at h))

  abbrev checks : List Verdict
  checks = judge_of r ∷ refuse_if (short_join_rows many rows) ShortRow ∷ []

  join_finds : Finds (JoinApplies r rows) join_order (first_of checks)
  join_finds =
      run_finds r (JoinApplies r rows) (λ k p. JoinApplies.run) join_of_run (ShortRow ∷ []) (refuse_if (short_join_rows many rows) ShortRow ∷ [])
      (λ a. finds_first (JoinApplies r rows) [] refl
      (decides_reworded (short_there (accepted_run r a)) (short_back (accepted_run r a)) (decides_if _ ShortRow tells_short_here))
      (λ b. finds_none (JoinApplies r rows)))

  join_says : (b : Bool) → refuses (first_of checks) ≡ b → JoinAnswers r rows (join_answer r rows) (join_rows_of r rows)
  unfolding join_verdict join_answer join_rows_of
  join_says true e =
      let never : (first_of checks).refusal ≡ Accepted → ⊥ = λ a. true≢false (sym e ∙ ap is_refusal a) in
      rw e
      (record {
        first = join_finds;
        kept = λ v said. (λ a. never (ap (λ x. x.refusal) (same_verdict said) ∙ a), refl);
        counted = λ n said. one_answer said;
        joined = λ n said. one_answer said;
      })
  join_says false e =
      rw e
      (record {
        first = subst (λ v. FirstThatApplies (JoinApplies r rows) join_order v.refusal v.place) (none_refuses checks e) join_finds;
        kept = λ v said. one_answer (sym said);
        counted = λ n said. subst (λ m. HasStops r m × (m ≡ length (stops_of r))) (same_number said) (has_stops r (accepted_run r (all_accept checks e).0), refl);
        joined = λ n said.
            record {
              firsts = has_of_each (λ s. s.file) (stops_of r) rows.firsts refl;
              lefts = has_of_each (λ s. s.start) (stops_of r) rows.lefts refl;
              spans = has_of_each (λ s. s.end - s.start) (stops_of r) rows.spans refl;
              reads = has_of_each (λ s. s.count) (stops_of r) rows.reads refl;
            };
      })

pub join_tells : JoinTells
join_tells r before answer after says fills = rw (says, fills) (join_says r before _ refl)

-- The longest of some times.
pub longest_is_first : LongestIsFirst
longest_is_first files times = record { longest = none_longer files times; some = first_longest files times; none = no_longest files times }

-- One outcome more.
pub grows : (total more : ℕ) → Grows total more (grown total more)
unfolding grown
grows total more = record { within = grown_fits total more; beyond = λ l. rw (le-leb (2 ^ 64) (total + more) l) }

both_ways : {P : Type 0} (b : Bool) → Tells b P → (b ≡ true) ↔ P
both_ways b t = (t.when_true, tells_holds b t)

over_so : (total more : ℕ) → Tells (too_large total more) (2 ^ 64 ≤ total + more)
over_so total more = tells_at_most (2 ^ 64) (total + more)

refused_more : (m : Month) (number : ℕ) → RefusedMore m number (with_refused m number)
unfolding with_refused
refused_more m number =
    let runs = refused_with m number in
    record {
      sheets = grows m.sheets 1;
      its_number = λ l. rw (get_or-set_same m.refused number (grown runs 1) 0 l) (grows runs 1);
      others = λ n other. get_or-set_other m.refused number n (grown runs 1) 0 other;
      accepted = refl;
      reads = refl;
      sum = refl;
      saved = refl;
      names = record { time = refl; file = refl; letters = refl; tape = refl };
      over = both_ways (over_refused m runs) (tells_either m.over (too_large m.sheets 1 || too_large runs 1) (tells_true m.over) (tells_either _ _ (over_so m.sheets 1) (over_so runs 1)));
    }

module _ (m : Month) (o : Outcome) where
  over_tells : Tells (over_totals m o) ((m.over ≡ true) ⊎ (((Overflows m.sheets 1 ⊎ Overflows m.accepted 1) ⊎ (Overflows m.reads o.reads ⊎ Overflows m.sum o.sum)) ⊎ Overflows m.saved o.saved))
  over_tells =
      tells_either m.over _ (tells_true m.over)
      (tells_either _ (too_large m.saved o.saved)
      (tells_either _ _ (tells_either _ _ (over_so m.sheets 1) (over_so m.accepted 1)) (tells_either _ _ (over_so m.reads o.reads) (over_so m.sum o.sum)))
      (over_so m.saved o.saved))

  -- The totals are the same with the longest time exchanged and without.
  totals_more : (b : Bool) → TotalsMore m o (cond b (named_by (with_totals m o) o) (with_totals m o))
  unfolding with_totals
  totals_more true =
      record { sheets = grows _ _; accepted = grows _ _; reads = grows _ _; sum = grows _ _; saved = grows _ _; refused = refl; over = both_ways (over_totals m o) over_tells }
  totals_more false =
      record { sheets = grows _ _; accepted = grows _ _; reads = grows _ _; sum = grows _ _; saved = grows _ _; refused = refl; over = both_ways (over_totals m o) over_tells }

  accepted_more : AcceptedMore m o (with_longest (with_totals m o) o)
  unfolding with_totals with_longest
  accepted_more =
      record {
        totals = totals_more (ltb m.time o.time);
        longer = λ l. rw (lt-ltb m.time o.time l) (record { time = refl; file = refl; letters = refl; tape = refl });
        no_longer = λ l. rw (le-ltb m.time o.time l) (record { time = refl; file = refl; letters = refl; tape = refl });
      }

pub outcome_is_added : OutcomeIsAdded
unfolding added
outcome_is_added m o = record { refused = λ e. rw e (refused_more m (number_of o.refusal)); accepted = λ e. rw e (accepted_more m o) }

pub added_in_turn : AddedInTurn
unfolding added_all
added_in_turn m [] o = (refl, refl)
added_in_turn m (r ∷ runs) o = (refl, (added_in_turn (added m r) runs o).1)
