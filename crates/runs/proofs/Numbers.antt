-- Aggregate numbers: the loop that looks for a bad one; and in an accepted table entries belong together where they have the same number.
use Prim.Native.Nat.{ℕ, zero, suc, ◌+◌, ◌≤◌, ◌<◌}
use mathlib.Core.Path.{◌≡◌, refl, sym, ◌∙◌}
use mathlib.Core.Bool.{Bool, true, false, true≢false}
use mathlib.Core.Logic.{⊎_elim, ◌⊎◌, inl, inr}
use mathlib.Core.List.{List}
use native.Mathlib.Omega.{arith}
use native.Mathlib.Nat.{eq-or-lt_of_le}
use native.Mathlib.Decide.{dec_lt}
use lib.ListN.{length, get_or}
use lib.Dec.{eqb, ltb}
use borrow.Author.Tests.{ltb-false, lt-ltb, le-ltb, eq-eqb, ne_eqb}
use Rattle.refusals.specs.Refusals.{first_where}
use Rattle.runs.specs.Run.{goes_on, first_member, most_aggregates}
use Rattle.runs.specs.Lists.{any_below}
use Rattle.runs.specs.Judging.{returns, bad_number}
use Rattle.runs.specs.Private.{Spanned}
use Rattle.runs.proofs.Search.{first_none, first_more, first_here, or_false_both, true_or_false, any_here, below_or_here}
use Rattle.runs.proofs.Members.{goes_on_same, first_is, first_begins, first_on, first_below}

-- A number outside the bounds of those met was not met.
none_met : (aggregates : List ℕ) (a i : ℕ) → ((j : ℕ) → j < i → get_or aggregates j 0 ≡ a → ⊥) → any_below (λ j. eqb (get_or aggregates j 0) a) i ≡ false
unfolding any_below
none_met aggregates a zero other = refl
none_met aggregates a (suc i) other = rw (none_met aggregates a i (λ j l. other j (omega arith)), ne_eqb (get_or aggregates i 0) a (other i (omega arith)))

module _ (aggregates : List ℕ) (low high i : ℕ) (s : Spanned aggregates low high i) (some : get_or aggregates i 0 ≡ 0 → ⊥) where
  pub unmet_low : get_or aggregates i 0 < low → any_below (λ j. eqb (get_or aggregates j 0) (get_or aggregates i 0)) i ≡ false
  unmet_low l = none_met aggregates (get_or aggregates i 0) i (λ j h e. omega (arith, s.above j h (omega arith)))

  pub unmet_high : high < get_or aggregates i 0 → any_below (λ j. eqb (get_or aggregates j 0) (get_or aggregates i 0)) i ≡ false
  unmet_high l = none_met aggregates (get_or aggregates i 0) i (λ j h e. omega (arith, s.below j h (omega arith)))

-- The number at an index, as the code judges it.
module _ (aggregates : List ℕ) (i : ℕ) where
  pub number_over : most_aggregates < get_or aggregates i 0 → true ≡ bad_number aggregates i
  number_over l = rw (lt-ltb most_aggregates (get_or aggregates i 0) l)

  module _ (l : get_or aggregates i 0 ≤ most_aggregates) (some : get_or aggregates i 0 ≡ 0 → ⊥) where
    pub number_new : goes_on aggregates i ≡ false → (b : Bool) → b ≡ any_below (λ j. eqb (get_or aggregates j 0) (get_or aggregates i 0)) i → b ≡ bad_number aggregates i
    number_new e b met = rw (le-ltb most_aggregates (get_or aggregates i 0) l, ne_eqb (get_or aggregates i 0) 0 some, e) met

-- Before the entry at index i: no number before it is bad, and those met lie between the bounds.
pub record NumbersPassed (aggregates : List ℕ) (low high i : ℕ) : Type 0 where
  pub within : i ≤ length aggregates
  pub none : first_where (bad_number aggregates) i ≡ 0
  pub spanned : Spanned aggregates low high i

pub numbers_none : (aggregates : List ℕ) (low high : ℕ) → NumbersPassed aggregates low high 0
numbers_none aggregates low high =
    record {
      within = omega arith;
      none = first_none (bad_number aggregates);
      spanned = record { above = λ j l. absurd (omega arith); below = λ j l. absurd (omega arith) };
    }

spanned_more : (aggregates : List ℕ) (low high i less more : ℕ) → Spanned aggregates low high i
    → (less ≤ low) × (0 < get_or aggregates i 0 → less ≤ get_or aggregates i 0) → (high ≤ more) × (get_or aggregates i 0 ≤ more)
    → Spanned aggregates less more (suc i)
spanned_more aggregates low high i less more s a b =
    record {
      above = λ j l h. ⊎_elim (λ e. rw e (a.1 (rw e at h))) (λ lt. omega (arith, s.above j lt h, a.0)) (below_or_here i j l);
      below = λ j l h. ⊎_elim (λ e. rw e b.1) (λ lt. omega (arith, s.below j lt h, b.0)) (below_or_here i j l);
    }

module _ (aggregates : List ℕ) (low high i : ℕ) (p : NumbersPassed aggregates low high i) (l : i < length aggregates) (t : Bool) (test : t ≡ bad_number aggregates i) where
  pub bad_number_found : t ≡ true → i + 1 ≡ first_where (bad_number aggregates) (length aggregates)
  bad_number_found e = sym (first_here (bad_number aggregates) i (length aggregates) p.none (sym test ∙ e) l)

  pub number_passed : t ≡ false → (less more : ℕ) → (less ≤ low) × (0 < get_or aggregates i 0 → less ≤ get_or aggregates i 0) → (high ≤ more) × (get_or aggregates i 0 ≤ more)
      → NumbersPassed aggregates less more (i + 1)
  number_passed e less more a b =
      record {
        within = omega arith;
        none = first_more (bad_number aggregates) i p.none (sym test ∙ e);
        spanned = rw (native.Mathlib.Numerals.add-one) (spanned_more aggregates low high i less more p.spanned a b);
      }

-- A number that is not bad is within the limit, and does not return.
pub number_small : (aggregates : List ℕ) (i : ℕ) → bad_number aggregates i ≡ false → get_or aggregates i 0 ≤ most_aggregates
number_small aggregates i e = ltb-false most_aggregates (get_or aggregates i 0) (or_false_both (ltb most_aggregates (get_or aggregates i 0)) (returns aggregates i) e).0

pub number_goes_on : (aggregates : List ℕ) (i j : ℕ) → bad_number aggregates j ≡ false → i < j → get_or aggregates i 0 ≡ get_or aggregates j 0 → 0 < get_or aggregates j 0
    → goes_on aggregates j ≡ true
number_goes_on aggregates i j e l same some =
    ⊎_elim (λ on. on) (λ off. absurd (true≢false (sym (back off) ∙ (or_false_both (ltb most_aggregates (get_or aggregates j 0)) (returns aggregates j) e).1))) (true_or_false (goes_on aggregates j))
  where
    met : any_below (λ k. eqb (get_or aggregates k 0) (get_or aggregates j 0)) j ≡ true
    met = any_here (λ k. eqb (get_or aggregates k 0) (get_or aggregates j 0)) i j (eq-eqb _ _ same) l

    back : goes_on aggregates j ≡ false
        → returns aggregates j ≡ true
    back off = rw (ne_eqb (get_or aggregates j 0) 0 (omega arith), off, met)

-- Entries with the number of the one before all the way belong together.
module _ (aggregates : List ℕ) where
  pub on_same_number : (i j : ℕ) → i ≤ j → ((k : ℕ) → i < k → k ≤ j → goes_on aggregates k ≡ true) → get_or aggregates i 0 ≡ get_or aggregates j 0
  on_same_number i zero l on = let e : i ≡ 0 = omega arith in rw e refl
  on_same_number i (suc j) l on =
      let before = on_same_number i j in
      ⊎_elim
      (λ (same : i ≡ suc j). rw same refl)
      (λ (less : i < suc j). before (omega arith) (λ k a b. on k a (omega arith)) ∙ (goes_on_same aggregates j (on (suc j) less (omega arith))).0)
      (eq-or-lt_of_le l)

  -- In a table whose numbers are not bad, the entries between two of one number all go on.
  module _ (n : ℕ) (good : (i : ℕ) → i < n → bad_number aggregates i ≡ false) where
    same_number_on : (i j : ℕ) → j < n → i < j → get_or aggregates i 0 ≡ get_or aggregates j 0 → 0 < get_or aggregates j 0 → (k : ℕ) → i < k → k ≤ j → goes_on aggregates k ≡ true
    same_number_on i zero h l same some k a b = absurd (omega arith)
    same_number_on i (suc j) h l same some k a b =
        let before = same_number_on i j in
        let here = number_goes_on aggregates i (suc j) (good (suc j) h) l same some in
        let back = goes_on_same aggregates j here in
        ⊎_elim
        (λ (end : k ≡ suc j). rw end here)
        (λ (less : k < suc j). before (omega arith) (omega arith) (same ∙ sym back.0) (omega (arith, back.0)) k a (omega arith))
        (eq-or-lt_of_le b)

    -- So two entries have the same first member just where they are one entry or have the same number other than 0.
    same_first_later : (i j : ℕ) → j < n → i < j → get_or aggregates i 0 ≡ get_or aggregates j 0 → 0 < get_or aggregates j 0 → first_member aggregates i ≡ first_member aggregates j
    same_first_later i j h l same some =
        sym (first_is aggregates (first_member aggregates i) j (first_begins aggregates i) (omega (arith, first_below aggregates i)) on)
      where
        on : (k : ℕ) → first_member aggregates i < k → k ≤ j → goes_on aggregates k ≡ true
        on k a b = elim (dec_lt i k) [ yes y ↦ same_number_on i j h l same some k y b | no x ↦ first_on aggregates i k a (omega arith) ]

    pub same_number_first : (i j : ℕ) → i < n → j < n → get_or aggregates i 0 ≡ get_or aggregates j 0 → 0 < get_or aggregates j 0 → first_member aggregates i ≡ first_member aggregates j
    same_number_first i j a b same some =
        elim (dec_lt i j) [ yes l ↦ same_first_later i j b l same some | no h ↦ other h ]
      where
        other : ¬ (i < j) → first_member aggregates i ≡ first_member aggregates j
        other h =
            ⊎_elim
            (λ (e : j ≡ i). rw e refl)
            (λ (l : j < i). sym (same_first_later j i a l (sym same) (omega arith)))
            (eq-or-lt_of_le (down h))
          where
            down : ¬ (i < j) → j ≤ i
            down x = omega arith

  same_first_less : (i j : ℕ) → i < j → first_member aggregates i ≡ first_member aggregates j → (get_or aggregates i 0 ≡ get_or aggregates j 0) × (0 < get_or aggregates j 0)
  same_first_less i zero l e = absurd (omega arith)
  same_first_less i (suc j) l e =
      (on_same_number i (suc j) (omega arith) on, (goes_on_same aggregates j (on (suc j) l (omega arith))).1)
    where
      on : (k : ℕ) → i < k → k ≤ suc j → goes_on aggregates k ≡ true
      on k a b = first_on aggregates (suc j) k (omega (arith, first_below aggregates i)) b

  pub same_first_number : (i j : ℕ) → first_member aggregates i ≡ first_member aggregates j
      → (i ≡ j) ⊎ ((get_or aggregates i 0 ≡ get_or aggregates j 0) × (0 < get_or aggregates j 0))
  same_first_number i j e =
      elim (dec_lt i j) [ yes l ↦ inr (same_first_less i j l e) | no h ↦ other h ]
    where
      other : ¬ (i < j) → (i ≡ j) ⊎ ((get_or aggregates i 0 ≡ get_or aggregates j 0) × (0 < get_or aggregates j 0))
      other h = elim (dec_lt j i) [ yes l ↦ inr (turned l) | no k ↦ inl (omega arith) ]
        where
          turned : j < i → (get_or aggregates i 0 ≡ get_or aggregates j 0) × (0 < get_or aggregates j 0)
          turned l = let s = same_first_less j i l (sym e) in (sym s.0, omega (arith, s.0, s.1))
