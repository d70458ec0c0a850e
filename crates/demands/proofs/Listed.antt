-- Row 10 of the refusal table: the check of a detour list decides its condition, for an accepted run.
use Prim.Native.Nat.{ℕ, zero, suc, ◌-◌, ◌≤◌, ◌<◌}
use mathlib.Core.Path.{◌≡◌, refl, sym, ap, ◌∙◌}
use mathlib.Core.Bool.{Bool, true, false, not, ◌||◌, ◌&&◌, or-true, true≢false}
use mathlib.Core.Logic.{inl, inr, ⊎_elim}
use mathlib.Core.List.{List, [], ◌∷◌}
use native.Mathlib.Omega.{arith}
use lib.ListN.{length, get_or}
use lib.Dec.{leb, ltb, eqb}
use borrow.Author.Tests.{eqb-true, eqb-false, leb-true, le-leb, not-true}
use Rattle.refusals.specs.declared.Refusal.TheVariants.{BadEntry}
use Rattle.refusals.specs.Refusals.{refuse_at, first_of}
use Rattle.runs.specs.Run.{Run, goes_on, first_member, last_member, stops_of}
use Rattle.runs.specs.Lists.{list_of, bad_after, first_bad_entry, list_verdict}
use Rattle.runs.specs.Private.{some_between, row_named, row_entry, row_alone, row_clash, row_bad}
use Rattle.runs.proofs.Search.{true_or_false}
use Rattle.runs.proofs.Members.{and_true_both, goes_on_zero, goes_on_same, first_stays, first_below, last_above, member_first, same_last}
use Rattle.runs.proofs.Judged.{GoodRun}
use Rattle.runs.proofs.Entries.{first_bad_row}
use Rattle.demands.specs.RefusalTable.{IsFile, NamesStop, BadByItself, BadAgainst, EntryIsBad, ListIsBad}
use Rattle.demands.proofs.Tests.{Tells, tells_below, tells_at_most, tells_not, tells_either, tells_reworded, tells_regrouped, tells_some}
use Rattle.demands.proofs.Checks.{Decides, refused, decides_at, decides_alone, decides_reworded}
use Rattle.demands.proofs.Conditions.{together_first, first_together, named}

-- A number of the row that lies between two.
pub record Between (numbers : List ℕ) (low high : ℕ) : Type 0 where
  pub index : ℕ
  pub within : index < length numbers
  pub above : low ≤ get_or numbers index 0
  pub below : get_or numbers index 0 ≤ high

lies_between_lem : (numbers : List ℕ) (low high : ℕ) → some_between numbers low high ≡ true → Between numbers low high
unfolding some_between
lies_between_lem [] low high e = absurd (true≢false (sym e))
lies_between_lem (n ∷ ns) low high e = go (leb low n && leb n high) refl (lies_between_lem ns low high)
  where
    go : (b : Bool) → (leb low n && leb n high) ≡ b → (some_between ns low high ≡ true → Between ns low high) → Between (n ∷ ns) low high
    go true h rest = let both = and_true_both _ _ h in record { index = 0; within = omega arith; above = leb-true low n both.0; below = leb-true n high both.1 }
    go false h rest =
        let found = rest (rw h at e) in
        record { index = suc found.index; within = omega (arith, found.within); above = found.above; below = found.below }

between_lies : (numbers : List ℕ) (low high i : ℕ) → i < length numbers → low ≤ get_or numbers i 0 → get_or numbers i 0 ≤ high → some_between numbers low high ≡ true
unfolding some_between
between_lies [] low high i l a b = absurd (omega arith)
between_lies (n ∷ ns) low high zero l a b = rw (le-leb low n a, le-leb n high b)
between_lies (n ∷ ns) low high (suc i) l a b = rw (between_lies ns low high i (omega arith) a b, or-true)

-- An entry against an earlier one.
against : (earlierFrom earlierTo from to : ℕ) → Tells (bad_after (record { from = earlierFrom; to = earlierTo }) (record { from = from; to = to })) (BadAgainst earlierFrom earlierTo from to)
against earlierFrom earlierTo from to =
    tells_either (leb earlierFrom from) (not (ltb to earlierFrom || ltb earlierTo to)) (tells_at_most earlierFrom from)
    (tells_reworded
    (λ n. (not_left (λ l. n (inl l)), not_right (λ l. n (inr l))))
    (λ h. ⊎_elim (λ l. omega arith) (λ l. omega arith))
    (tells_not (ltb to earlierFrom || ltb earlierTo to) (tells_either (ltb to earlierFrom) (ltb earlierTo to) (tells_below to earlierFrom) (tells_below earlierTo to))))
  where
    not_left : (to < earlierFrom → ⊥) → earlierFrom ≤ to
    not_left n = omega arith

    not_right : (earlierTo < to → ⊥) → to ≤ earlierTo
    not_right n = omega arith

module _ (r : Run) (good : GoodRun r) where
  -- A number names a stop: the test looks at the neighbours, the condition at the numbers.
  wanted_file : (i : ℕ) → i < length r.numbers → IsFile r (get_or r.numbers i 0)
  wanted_file = named r good.files good.wants

  pub test_names : (f : ℕ) → row_named r.aggregates r.numbers f ≡ true → NamesStop r f
  test_names zero e =
      let both = and_true_both (not (goes_on r.aggregates (0 - 1))) (some_between r.numbers 0 0) e in
      let w = lies_between_lem r.numbers 0 0 both.1 in
      absurd (omega (arith, w.below, (wanted_file w.index w.within).least))
  test_names (suc i) e =
      let both = and_true_both (not (goes_on r.aggregates (suc i - 1))) (some_between r.numbers (suc i) (suc (last_member r.aggregates i))) e in
      let w = lies_between_lem r.numbers (suc i) (suc (last_member r.aggregates i)) both.1 in
      let at = wanted_file w.index w.within in
      let here : suc i - 1 ≡ i = omega arith in
      let begins : goes_on r.aggregates i ≡ false = rw here at (not-true (goes_on r.aggregates (suc i - 1)) both.0) in
      let own = first_stays r.aggregates i begins in
      let member = member_first r.aggregates i (get_or r.numbers w.index 0 - 1) (omega (arith, own, w.above)) (omega (arith, w.below, at.least)) in
      record {
        file = record { least = omega arith; most = omega (arith, w.above, at.most) };
        first = λ g a l t.
            let same = together_first r good.files g (suc i) a (record { least = omega arith; most = omega (arith, w.above, at.most) }) t in
            omega (arith, rw here at same, own, first_below r.aggregates (g - 1), a.least);
        wanted = record { want = w.index; within = w.within; together = first_together r good.files (suc i) (get_or r.numbers w.index 0) (omega arith) at.least (ap (first_member r.aggregates) here ∙ sym member) };
      }

  names_test : (f : ℕ) → NamesStop r f → row_named r.aggregates r.numbers f ≡ true
  names_test zero s = absurd (omega (arith, s.file.least))
  names_test (suc i) s =
      let here : suc i - 1 ≡ i = omega arith in
      let w = s.wanted in
      let at = wanted_file w.want w.within in
      let first = rw here at (together_first r good.files (suc i) (get_or r.numbers w.want 0) s.file at w.together) in
      let own = first_stays r.aggregates i (begins i s) in
      let last = same_last r.aggregates i (get_or r.numbers w.want 0 - 1) first in
      rw (
        here,
        begins i s,
        between_lies r.numbers (suc i) (suc (last_member r.aggregates i)) w.want w.within
            (omega (arith, own, first, first_below r.aggregates (get_or r.numbers w.want 0 - 1), at.least))
            (omega (arith, last, last_above r.aggregates (get_or r.numbers w.want 0 - 1), at.least)),
      )
    where
      begins : (i : ℕ) → NamesStop r (suc i) → goes_on r.aggregates i ≡ false
      begins zero s = goes_on_zero r.aggregates
      begins (suc i) s = ⊎_elim (λ on. absurd (no on)) (λ off. off) (true_or_false (goes_on r.aggregates (suc i)))
        where
          no : goes_on r.aggregates (suc i) ≡ true → ⊥
          no on =
              let up : suc (suc i) - 1 ≡ suc i = omega arith in
              let down : suc i - 1 ≡ i = omega arith in
              let same = goes_on_same r.aggregates i on in
              s.first (suc i) (record { least = omega arith; most = omega (arith, s.file.most) }) (omega arith) (inr (rw (up, down) same.0, rw up same.1))

  pub names_stop_lem : (f : ℕ) → Tells (row_named r.aggregates r.numbers f) (NamesStop r f)
  names_stop_lem f = record { when_true = test_names f; when_false = λ e s. true≢false (sym (names_test f s) ∙ e) }

  bad_by_itself_here : (from to : ℕ) → Tells (row_alone r.aggregates r.numbers from to) (BadByItself r from to)
  bad_by_itself_here from to =
      let a = row_named r.aggregates r.numbers from in
      let b = row_named r.aggregates r.numbers to in
      let first = get_or r.numbers 0 0 in
      tells_regrouped
      (tells_regrouped
      (tells_either (not a || not b || ltb to from) (leb from first)
      (tells_either (not a || not b) (ltb to from)
      (tells_either (not a) (not b) (tells_not a (names_stop_lem from)) (tells_not b (names_stop_lem to)))
      (tells_below to from))
      (tells_at_most from first)))

  module _ (froms tos : List ℕ) where
    pub entry_is_bad : (i : ℕ) → Tells (row_bad r.aggregates r.numbers froms tos i) (EntryIsBad r froms tos i)
    entry_is_bad i =
        tells_either (row_alone r.aggregates r.numbers (get_or froms i 0) (get_or tos i 0)) (row_clash froms tos i)
        (bad_by_itself_here (get_or froms i 0) (get_or tos i 0))
        (tells_some
        (λ j. bad_after (row_entry froms tos j) (row_entry froms tos i))
        (λ j. BadAgainst (get_or froms j 0) (get_or tos j 0) (get_or froms i 0) (get_or tos i 0))
        (λ j. against (get_or froms j 0) (get_or tos j 0) (get_or froms i 0) (get_or tos i 0))
        i)

    -- Rows of one length: the first bad entry decides.
    decides_entries : length froms ≡ length tos → length r.counts ≡ length r.numbers
        → Decides BadEntry (ListIsBad r froms tos) (first_of (refuse_at (first_bad_entry (stops_of r) (list_of froms tos)) BadEntry ∷ []))
    decides_entries even same =
        rw
        (first_bad_row r.starts r.lengths r.aggregates r.numbers r.counts same froms tos even)
        (decides_alone refl
        (decides_reworded
        (λ p f. inr (even, f))
        (λ p h. ⊎_elim (λ u. absurd (u.1 even)) (λ f. f.1) h)
        (decides_at (row_bad r.aggregates r.numbers froms tos) (EntryIsBad r froms tos) (length froms) entry_is_bad BadEntry)))

    pub decides_list : length r.counts ≡ length r.numbers → Decides BadEntry (ListIsBad r froms tos) (list_verdict (stops_of r) froms tos)
    unfolding list_verdict
    decides_list same = go (eqb (length froms) (length tos)) refl
      where
        go : (b : Bool) → eqb (length froms) (length tos) ≡ b → Decides BadEntry (ListIsBad r froms tos) (list_verdict (stops_of r) froms tos)
        go true e = rw e (decides_entries (eqb-true (length froms) (length tos) e) same)
        go false e = refused 0 (rw e) (inl (refl, eqb-false (length froms) (length tos) e))
