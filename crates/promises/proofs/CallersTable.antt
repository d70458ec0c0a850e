-- The table engine's contract by conditions, and 10 over any stops: each test of an entry in the two rows is a rule.
use Prim.Native.Nat.{ℕ, ◌+◌, ◌-◌, ◌≤◌, ◌<◌}
use mathlib.Core.Path.{◌≡◌, refl, sym, ap, ◌∙◌, subst}
use mathlib.Core.Bool.{Bool, true, false, not, ◌||◌, true≢false}
use mathlib.Core.Logic.{◌⊎◌, inl, inr, ⊎_elim}
use mathlib.Core.List.{List, [], ◌∷◌, ◌++◌, map}
use native.Mathlib.Omega.{arith}
use lib.ListN.{length, get_or, drop}
use lib.Dec.{ltb, leb, eqb}
use borrow.Author.Tests.{eqb-true, eqb-false}
use Rattle.refusals.specs.declared.Refusal.{Refusal}
use Rattle.refusals.specs.declared.Refusal.TheVariants.{Accepted, FileRows, ShortRow, ShortRoom, BadEntry}
use Rattle.refusals.specs.declared.Verdict.{Verdict}
use Rattle.refusals.specs.Refusals.{number_of, is_refusal, refuse_if, refuse_at, first_of, first_where}
use Rattle.refusals.proofs.Verdicts.{refuses, none_refuses}
use Rattle.runs.specs.Run.{Run, Stop, most_wants}
use Rattle.runs.specs.Rows.{stop_at}
use Rattle.runs.specs.AnyHead.{judge_any_of}
use Rattle.runs.specs.Lists.{list_of, wanted, leftmost, bad_alone, bad_after, entry_of, bad_entry, first_bad_entry, list_verdict}
use Rattle.runs.specs.Private.{row_entry, row_clash}
use Rattle.runs.proofs.Search.{first_same, any_same}
use Rattle.runs.proofs.Entries.{length_list, entry_row}
use Rattle.runs.proofs.Stops.{wanted_at}
use Rattle.least.specs.AnyHead.{LeastAny}
use Rattle.std.specs.Prelude.{Result}
use Rattle.engine_stops.proofs.Said.{one_answer, same_verdict, same_number}
use Rattle.engine_table.specs.Listing.{ListRows, Lists, room_size, short_list_rows, listing_verdict}
use Rattle.engine_stops.proofs.Halves.{list_of_halves, half_long}
use Rattle.demands.specs.RefusalTable.{FirstThatApplies, none, here, later}
use Rattle.demands.specs.Demand1.{plan_order}
use Rattle.demands.specs.Formed.{IsStop}
use Rattle.demands.specs.AnyHead.{RunAppliesAny}
use Rattle.demands.proofs.Tests.{Tells, tells_below, tells_at_most, tells_not, tells_either, tells_regrouped, tells_some}
use Rattle.demands.proofs.Checks.{Decides, refused, passed, decides_if, decides_at, decides_alone, decides_reworded, Finds, finds_none, finds_first}
use Rattle.demands.proofs.Formed.{stop_wanted}
use Rattle.demands.proofs.AnyJudged.{any_small, run_any_finds}
use Rattle.promises.specs.CallersTable.{TableApplies, TableAnswers, TableTells, BreaksAlone, BreaksAfter, EntryBreaks, ListBreaks, AnyStopsJudged}

-- The table engine.
module _ (r : Run) (rows : ListRows) where
  abbrev wants : ℕ
  wants = length r.numbers

  -- At most 64 files: 1 to 7 are the run's own.
  of_run_here : (64 < length r.starts → ⊥) → (k : Refusal) (p : ℕ) → number_of k ≤ 7 → TableApplies r rows k p → RunAppliesAny r k p
  of_run_here few k p l (TableApplies.many_files h) = absurd (few h)
  of_run_here few k p l (TableApplies.run h) = h
  of_run_here few k p l (TableApplies.short_starts h) = absurd (omega arith)
  of_run_here few k p l (TableApplies.short_ends h) = absurd (omega arith)
  of_run_here few k p l (TableApplies.short_room h) = absurd (omega arith)

  abbrev IsShort : Type 0
  IsShort = (length rows.froms < wants - 1) ⊎ (length rows.tos < wants - 1)

  tells_short_here : Tells (short_list_rows wants rows) IsShort
  tells_short_here = tells_either (ltb (length rows.froms) (wants - 1)) (ltb (length rows.tos) (wants - 1)) (tells_below _ (wants - 1)) (tells_below _ (wants - 1))

  short_back : (p : ℕ) → TableApplies r rows ShortRow p → (p ≡ 0) × IsShort
  short_back p (TableApplies.run h) = absurd (omega (arith, any_small r h))
  short_back p (TableApplies.short_starts h) = (refl, inl h)
  short_back p (TableApplies.short_ends h) = (refl, inr h)

  room_back : (p : ℕ) → TableApplies r rows ShortRoom p → (p ≡ 0) × (length rows.room < room_size r)
  room_back p (TableApplies.run h) = absurd (omega (arith, any_small r h))
  room_back p (TableApplies.short_room h) = (refl, h)

  abbrev later-checks : List Verdict
  later-checks = refuse_if (short_list_rows wants rows) ShortRow ∷ refuse_if (ltb (length rows.room) (room_size r)) ShortRoom ∷ []

  later_find : Finds (TableApplies r rows) (ShortRow ∷ ShortRoom ∷ []) (first_of later-checks)
  later_find =
      finds_first (TableApplies r rows) (refuse_if (ltb (length rows.room) (room_size r)) ShortRoom ∷ []) refl
      (decides_reworded (λ p h. rw h.0 (⊎_elim TableApplies.short_starts TableApplies.short_ends h.1)) short_back (decides_if _ ShortRow tells_short_here))
      (λ a. finds_first (TableApplies r rows) [] refl
      (decides_reworded (λ p h. rw h.0 (TableApplies.short_room h.1)) room_back (decides_if _ ShortRoom (tells_below (length rows.room) (room_size r))))
      (λ b. finds_none (TableApplies r rows)))

  abbrev checks : List Verdict
  checks = refuse_if (ltb most_wants (length r.starts)) FileRows ∷ judge_any_of r ∷ later-checks

  table_finds_here : (b : Bool) → ltb most_wants (length r.starts) ≡ b → Finds (TableApplies r rows) plan_order (first_of checks)
  table_finds_here true e = rw e (here (TableApplies.many_files ((tells_below most_wants (length r.starts)).when_true e)))
  table_finds_here false e =
      rw e
      (run_any_finds r (TableApplies r rows) (λ k p. TableApplies.run) (of_run_here ((tells_below most_wants (length r.starts)).when_false e))
      (ShortRow ∷ ShortRoom ∷ []) later-checks (λ a. later_find))

  module _ (answer : Result ℕ Verdict) (after : ListRows) (h : Lists r rows answer after) where
    table_answers : (b : Bool) → refuses (first_of checks) ≡ b → TableAnswers r rows answer after
    unfolding listing_verdict
    table_answers true e =
        let p = h.refused e in
        record {
          first = rw p.says (table_finds_here _ refl);
          kept = λ v said. (λ a. true≢false (sym e ∙ ap is_refusal (ap (λ x. x.refusal) (same_verdict (sym p.says ∙ said)) ∙ a)), p.kept);
          listed = λ n said. one_answer (sym p.says ∙ said);
          cleared = λ n said. one_answer (sym p.says ∙ said);
        }
    table_answers false e =
        let p = h.listed e in
        let long = half_long (λ d. d.from) p.list in
        let also = half_long (λ d. d.to) p.list in
        record {
          first = rw p.says (subst (λ v. FirstThatApplies (TableApplies r rows) plan_order v.refusal v.place) (none_refuses checks e) (table_finds_here _ refl));
          kept = λ v said. one_answer (sym said ∙ p.says);
          listed = λ n said.
              record {
                froms = map (λ d. d.from) p.list;
                tos = map (λ d. d.to) p.list;
                on = (long ∙ sym also, subst (LeastAny r) (sym (list_of_halves p.list)) p.least);
                counted = same_number (sym said ∙ p.says) ∙ sym long;
                left = ap (λ x. x.froms) p.rows ∙ ap (λ n. map (λ d. d.from) p.list ++ drop n rows.froms) (sym long);
                right = ap (λ x. x.tos) p.rows ∙ ap (λ n. map (λ d. d.to) p.list ++ drop n rows.tos) (sym also);
              };
          cleared = λ n said. ap (λ x. x.room) p.rows;
        }

pub table_tells : TableTells
table_tells r before answer after h = table_answers r before answer after h _ refl

-- 10 over any stops.
stop_tells : (stops : List Stop) (f : ℕ) → Tells (wanted stops f) (IsStop stops f)
stop_tells stops f =
    record {
      when_true = λ e. let n = wanted_at stops f e in (n.index, n.within, n.is);
      when_false = λ e s. true≢false (sym (stop_wanted stops f s) ∙ e);
    }

leftmost_first : (stops : List Stop) → leftmost stops ≡ (stop_at stops 0).file
leftmost_first [] = refl
leftmost_first (s ∷ ss) = refl

alone_tells : (stops : List Stop) (from to : ℕ) → Tells (bad_alone stops (record { from = from; to = to })) (BreaksAlone stops from to)
alone_tells stops from to =
    let a = wanted stops from in
    let b = wanted stops to in
    rw (← leftmost_first stops)
    (tells_regrouped
    (tells_regrouped
    (tells_either (not a || not b || ltb to from) (leb from (leftmost stops))
    (tells_either (not a || not b) (ltb to from)
    (tells_either (not a) (not b) (tells_not a (stop_tells stops from)) (tells_not b (stop_tells stops to)))
    (tells_below to from))
    (tells_at_most from (leftmost stops)))))

after_tells : (earlierFrom earlierTo from to : ℕ) → Tells (bad_after (record { from = earlierFrom; to = earlierTo }) (record { from = from; to = to })) (BreaksAfter earlierFrom earlierTo from to)
after_tells earlierFrom earlierTo from to =
    tells_either (leb earlierFrom from) (not (ltb to earlierFrom || ltb earlierTo to)) (tells_at_most earlierFrom from)
    (tells_not (ltb to earlierFrom || ltb earlierTo to) (tells_either (ltb to earlierFrom) (ltb earlierTo to) (tells_below to earlierFrom) (tells_below earlierTo to)))

module _ (stops : List Stop) (froms tos : List ℕ) where
  abbrev breaks : ℕ → Bool
  breaks i = bad_alone stops (row_entry froms tos i) || row_clash froms tos i

  entry_tells : (i : ℕ) → Tells (breaks i) (EntryBreaks stops froms tos i)
  entry_tells i =
      tells_either (bad_alone stops (row_entry froms tos i)) (row_clash froms tos i)
      (alone_tells stops (get_or froms i 0) (get_or tos i 0))
      (tells_some
      (λ j. bad_after (row_entry froms tos j) (row_entry froms tos i))
      (λ j. BreaksAfter (get_or froms j 0) (get_or tos j 0) (get_or froms i 0) (get_or tos i 0))
      (λ j. after_tells (get_or froms j 0) (get_or tos j 0) (get_or froms i 0) (get_or tos i 0))
      i)

  module _ (even : length froms ≡ length tos) where
    entry_same : (i : ℕ) → i < length froms → bad_entry stops (list_of froms tos) i ≡ breaks i
    entry_same i l =
        rw (
          any_same
              (λ j. bad_after (entry_of (list_of froms tos) j) (entry_of (list_of froms tos) i))
              (λ j. bad_after (row_entry froms tos j) (row_entry froms tos i))
              i
              (λ j lj. rw (entry_row froms tos even j (omega arith), entry_row froms tos even i l)),
          entry_row froms tos even i l,
        )

    first_row_here : first_bad_entry stops (list_of froms tos) ≡ first_where breaks (length froms)
    unfolding first_bad_entry
    first_row_here = rw (length_list froms tos even) (first_same (bad_entry stops (list_of froms tos)) breaks (length froms) entry_same)

    decides_entries : Decides BadEntry (ListBreaks stops froms tos) (first_of (refuse_at (first_bad_entry stops (list_of froms tos)) BadEntry ∷ []))
    decides_entries =
        rw
        first_row_here
        (decides_alone refl
        (decides_reworded
        (λ p f. inr (even, f))
        (λ p h. ⊎_elim (λ u. absurd (u.1 even)) (λ f. f.1) h)
        (decides_at breaks (EntryBreaks stops froms tos) (length froms) entry_tells BadEntry)))

  decides_list_here : (b : Bool) → eqb (length froms) (length tos) ≡ b → Decides BadEntry (ListBreaks stops froms tos) (list_verdict stops froms tos)
  unfolding list_verdict
  decides_list_here true e = rw e (decides_entries (eqb-true (length froms) (length tos) e))
  decides_list_here false e = refused 0 (rw e) (inl (refl, eqb-false (length froms) (length tos) e))

  list_finds : Decides BadEntry (ListBreaks stops froms tos) (list_verdict stops froms tos) → Finds (λ kind. ListBreaks stops froms tos) (BadEntry ∷ []) (list_verdict stops froms tos)
  list_finds (refused p e h) = rw e (here h)
  list_finds (passed e n) = rw e (later n none)

pub any_stops_judged : AnyStopsJudged
any_stops_judged stops froms tos = list_finds stops froms tos (decides_list_here stops froms tos _ refl)
