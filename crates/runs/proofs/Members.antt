-- Aggregates as the neighbours make them: the first and the last entry of an entry's aggregate, what lies between, and that two aggregates
-- are the same or lie apart. Of any row of numbers.
use Prim.Native.Nat.{ℕ, zero, suc, ◌+◌, ◌-◌, ◌≤◌, ◌<◌}
use mathlib.Core.Path.{◌≡◌, refl, sym, ap, ◌∙◌}
use mathlib.Core.Bool.{Bool, true, false, not, ◌&&◌, true≢false}
use mathlib.Core.Logic.{⊎_elim, ◌⊎◌, inl, inr}
use mathlib.Core.List.{List}
use native.Mathlib.Omega.{arith}
use native.Mathlib.Nat.{eq-or-lt_of_le}
use native.Mathlib.Decide.{dec_lt}
use native.Mathlib.Numerals.{add-one}
use lib.ListN.{length, get_or, get_or-eq_default}
use lib.Dec.{eqb}
use borrow.Author.Tests.{eqb-true, eqb-false, not-true}
use Rattle.runs.specs.Run.{goes_on, first_member, last_within, last_member}
use Rattle.runs.proofs.Search.{true_or_false}

pub and_true_both : (a b : Bool) → (a && b) ≡ true → (a ≡ true) × (b ≡ true)
and_true_both true b e = (refl, e)
and_true_both false b e = absurd (true≢false (sym e))

module _ (aggregates : List ℕ) where
  -- An entry that goes on has the number of the one before it, and that is not 0.
  pub goes_on_same : (i : ℕ) → goes_on aggregates (suc i) ≡ true → (get_or aggregates i 0 ≡ get_or aggregates (suc i) 0) × (0 < get_or aggregates (suc i) 0)
  unfolding goes_on
  goes_on_same i e =
      let both = and_true_both (not (eqb (get_or aggregates (suc i) 0) 0)) (eqb (get_or aggregates i 0) (get_or aggregates (suc i) 0)) e in
      let some : get_or aggregates (suc i) 0 ≡ 0 → ⊥ = eqb-false (get_or aggregates (suc i) 0) 0 (not-true (eqb (get_or aggregates (suc i) 0) 0) both.0) in
      (eqb-true _ _ both.1, omega arith)

  -- The first entry does not go on, and none past the row.
  pub goes_on_zero : goes_on aggregates 0 ≡ false
  unfolding goes_on
  goes_on_zero = refl

  pub goes_on_past : (i : ℕ) → length aggregates ≤ i → goes_on aggregates i ≡ false
  unfolding goes_on
  goes_on_past zero l = refl
  goes_on_past (suc i) l = rw (get_or-eq_default aggregates 0 l)

  pub goes_on_within : (i : ℕ) → goes_on aggregates i ≡ true → i < length aggregates
  goes_on_within i e = elim (dec_lt i (length aggregates)) [ yes l ↦ l | no n ↦ absurd (true≢false (sym e ∙ goes_on_past i (omega arith))) ]

  -- An entry within the row goes on where the one before it has its number, other than 0.
  pub goes_on_row : (i : ℕ) → (i ≡ 0 → ⊥) → goes_on aggregates i ≡ (not (eqb (get_or aggregates i 0) 0) && eqb (get_or aggregates (i - 1) 0) (get_or aggregates i 0))
  unfolding goes_on
  goes_on_row zero some = absurd (some refl)
  goes_on_row (suc i) some = let e : suc i - 1 ≡ i = omega arith in rw e refl

  -- The first member: it does not go on, and all after it up to the entry do.
  pub first_goes : (i : ℕ) → goes_on aggregates (suc i) ≡ true → first_member aggregates (suc i) ≡ first_member aggregates i
  unfolding first_member
  first_goes i e = rw e

  pub first_stays : (i : ℕ) → goes_on aggregates i ≡ false → first_member aggregates i ≡ i
  unfolding first_member
  first_stays zero e = refl
  first_stays (suc i) e = rw e

  pub first_below : (i : ℕ) → first_member aggregates i ≤ i
  first_below zero = omega (arith, first_stays 0 goes_on_zero)
  first_below (suc i) =
      let before = first_below i in
      ⊎_elim (λ e. omega (arith, first_goes i e)) (λ e. omega (arith, first_stays (suc i) e)) (true_or_false (goes_on aggregates (suc i)))

  pub first_begins : (i : ℕ) → goes_on aggregates (first_member aggregates i) ≡ false
  first_begins zero = rw (first_stays 0 goes_on_zero) goes_on_zero
  first_begins (suc i) =
      let before = first_begins i in
      ⊎_elim (λ e. rw (first_goes i e) before) (λ e. rw (first_stays (suc i) e) e) (true_or_false (goes_on aggregates (suc i)))

  pub first_on : (i k : ℕ) → first_member aggregates i < k → k ≤ i → goes_on aggregates k ≡ true
  first_on zero k l h = absurd (omega arith)
  first_on (suc i) k l h =
      let before = first_on i k in
      ⊎_elim
      (λ e. ⊎_elim (λ (same : k ≡ suc i). rw same e) (λ (less : k < suc i). before (omega (arith, first_goes i e)) (omega arith)) (eq-or-lt_of_le h))
      (λ e. absurd (omega (arith, first_stays (suc i) e)))
      (true_or_false (goes_on aggregates (suc i)))

  -- It is the only entry of that kind.
  pub first_is : (m i : ℕ) → goes_on aggregates m ≡ false → m ≤ i → ((k : ℕ) → m < k → k ≤ i → goes_on aggregates k ≡ true) → first_member aggregates i ≡ m
  first_is m zero e l on = let z : m ≡ 0 = omega arith in rw z (first_stays 0 goes_on_zero)
  first_is m (suc i) e l on =
      let before = first_is m i e in
      ⊎_elim
      (λ (same : m ≡ suc i). rw same (first_stays (suc i) (rw same at e)))
      (λ (less : m < suc i). first_goes i (on (suc i) less (omega arith)) ∙ before (omega arith) (λ k a b. on k a (omega arith)))
      (eq-or-lt_of_le l)

  -- The last member: all after the entry up to it go on, and the next does not.
  last_below : (n i : ℕ) → i ≤ last_within aggregates n i
  unfolding last_within
  last_below zero i = omega arith
  last_below (suc n) i =
      let after = last_below n (suc i) in
      ⊎_elim (λ e. rw e (omega arith)) (λ e. rw e (omega arith)) (true_or_false (goes_on aggregates (suc i)))

  within_is_here : (n i j : ℕ) → i ≤ j → j ≤ i + n → ((k : ℕ) → i < k → k ≤ j → goes_on aggregates k ≡ true) → goes_on aggregates (suc j) ≡ false → last_within aggregates n i ≡ j
  unfolding last_within
  within_is_here zero i j l h on e = omega arith
  within_is_here (suc n) i j l h on e =
      let after = within_is_here n (suc i) j in
      ⊎_elim
      (λ (same : i ≡ j). rw (same, e))
      (λ (less : i < j). rw (on (suc i) (omega arith) less) (after less (omega arith) (λ k a b. on k (omega arith) b) e))
      (eq-or-lt_of_le l)

  pub last_is : (i j : ℕ) → i ≤ j → ((k : ℕ) → i < k → k ≤ j → goes_on aggregates k ≡ true) → goes_on aggregates (suc j) ≡ false → last_member aggregates i ≡ j
  last_is i j l on e = within_is_here (length aggregates) i j l few on e
    where
      few : j ≤ i + length aggregates
      few = ⊎_elim (λ (same : i ≡ j). omega arith) (λ (less : i < j). omega (arith, goes_on_within j (on j less (omega arith)))) (eq-or-lt_of_le l)

  within_on : (n i k : ℕ) → i < k → k ≤ last_within aggregates n i → goes_on aggregates k ≡ true
  unfolding last_within
  within_on zero i k l h = absurd (omega arith)
  within_on (suc n) i k l h =
      let after = within_on n (suc i) k in
      ⊎_elim
      (λ e. ⊎_elim (λ (same : suc i ≡ k). rw (← same) e) (λ (less : suc i < k). after less (rw e at h)) (eq-or-lt_of_le l))
      (λ e. let up : k ≤ i = rw e at h in absurd (omega arith))
      (true_or_false (goes_on aggregates (suc i)))

  -- The steps are enough.
  within_ends : (n i : ℕ) → length aggregates ≤ i + n → goes_on aggregates (suc (last_within aggregates n i)) ≡ false
  unfolding last_within
  within_ends zero i l = goes_on_past (suc i) (omega arith)
  within_ends (suc n) i l =
      let after = within_ends n (suc i) (omega arith) in
      ⊎_elim (λ e. rw e after) (λ e. rw e e) (true_or_false (goes_on aggregates (suc i)))

  pub last_above : (i : ℕ) → i ≤ last_member aggregates i
  last_above i = last_below (length aggregates) i

  pub last_on : (i k : ℕ) → i < k → k ≤ last_member aggregates i → goes_on aggregates k ≡ true
  last_on i k = within_on (length aggregates) i k

  pub last_ends : (i : ℕ) → goes_on aggregates (suc (last_member aggregates i)) ≡ false
  last_ends i = within_ends (length aggregates) i (omega arith)

  pub last_within_lem : (i : ℕ) → i < length aggregates → last_member aggregates i < length aggregates
  last_within_lem i l =
      ⊎_elim
      (λ (same : i ≡ last_member aggregates i). omega arith)
      (λ (less : i < last_member aggregates i). goes_on_within (last_member aggregates i) (last_on i (last_member aggregates i) less (omega arith)))
      (eq-or-lt_of_le (last_above i))

  pub last_past : (i : ℕ) → length aggregates ≤ i → last_member aggregates i ≡ i
  last_past i l = last_is i i (omega arith) (λ k a b. absurd (omega arith)) (goes_on_past (suc i) (omega arith))

  -- Its number fits a word where the entry's does.
  pub last_bound : (i : ℕ) → (last_member aggregates i < length aggregates) ⊎ (last_member aggregates i ≡ i)
  last_bound i = elim (dec_lt i (length aggregates)) [ yes l ↦ inl (last_within_lem i l) | no n ↦ inr (last_past i (omega arith)) ]

  -- All entries from the first member to the last have the same first and last.
  pub on_between : (i k : ℕ) → first_member aggregates i < k → k ≤ last_member aggregates i → goes_on aggregates k ≡ true
  on_between i k l h = elim (dec_lt i k) [ yes a ↦ last_on i k a h | no n ↦ first_on i k l (omega arith) ]

  pub member_first : (i j : ℕ) → first_member aggregates i ≤ j → j ≤ last_member aggregates i → first_member aggregates j ≡ first_member aggregates i
  member_first i j l h =
      first_is (first_member aggregates i) j (first_begins i) l (λ k a b. on_between i k a (omega arith))

  pub member_last : (i j : ℕ) → first_member aggregates i ≤ j → j ≤ last_member aggregates i → last_member aggregates j ≡ last_member aggregates i
  member_last i j l h =
      last_is j (last_member aggregates i) h (λ k a b. on_between i k (omega arith) b) (last_ends i)

  -- So an aggregate is known by its first entry.
  pub same_last : (i j : ℕ) → first_member aggregates i ≡ first_member aggregates j → last_member aggregates i ≡ last_member aggregates j
  same_last i j e = sym (member_last i (first_member aggregates i) (omega arith) (omega (arith, first_below i, last_above i))) ∙ ap (last_member aggregates) e ∙ member_last j (first_member aggregates j) (omega arith) (omega (arith, first_below j, last_above j))

  -- What lies between two entries of one aggregate is of it.
  pub between_first : (i k j : ℕ) → i ≤ k → k ≤ j → first_member aggregates i ≡ first_member aggregates j → first_member aggregates k ≡ first_member aggregates i
  between_first i k j a b e = member_first i k (omega (arith, first_below i)) (omega (arith, same_last i j e, last_above j))

  -- Of two entries the later is in the same aggregate, or its aggregate lies right of the other's end.
  pub same_or_apart : (i j : ℕ) → i ≤ j → (first_member aggregates i ≡ first_member aggregates j) ⊎ (last_member aggregates i < first_member aggregates j)
  same_or_apart i j l =
      elim (dec_lt (last_member aggregates i) (first_member aggregates j)) [
        | yes a ↦ inr a
        | no n ↦ inl (sym (meet n))
      ]
    where
      meet : ¬ (last_member aggregates i < first_member aggregates j) → first_member aggregates j ≡ first_member aggregates i
      meet n = elim (dec_lt (last_member aggregates i) j) [ yes a ↦ across a | no m ↦ member_first i j (omega (arith, first_below i)) (omega arith) ]
        where
          across : last_member aggregates i < j → first_member aggregates j ≡ first_member aggregates i
          across a = absurd (true≢false (sym (first_on j (suc (last_member aggregates i)) (omega arith) a) ∙ last_ends i))

-- Going left from an entry as long as entries go on, and right.
pub goes_on_some : (aggregates : List ℕ) (i : ℕ) → goes_on aggregates i ≡ true → 0 < i
goes_on_some aggregates zero on = absurd (true≢false (sym on ∙ goes_on_zero aggregates))
goes_on_some aggregates (suc i) on = omega arith

pub first_back : (aggregates : List ℕ) (i : ℕ) → goes_on aggregates i ≡ true → first_member aggregates (i - 1) ≡ first_member aggregates i
first_back aggregates zero on = absurd (true≢false (sym on ∙ goes_on_zero aggregates))
first_back aggregates (suc i) on = let k : suc i - 1 ≡ i = omega arith in rw k (sym (first_goes aggregates i on))

pub record GoneRight (aggregates : List ℕ) (i j : ℕ) : Type 0 where
  pub from : i ≤ j
  pub on : (k : ℕ) → i < k → k ≤ j → goes_on aggregates k ≡ true

pub gone_all : (aggregates : List ℕ) (i j : ℕ) → GoneRight aggregates i j → goes_on aggregates (j + 1) ≡ false → j ≡ last_member aggregates i
gone_all aggregates i j g e = sym (last_is aggregates i j g.from g.on (rw add-one at e))

gone_past : (aggregates : List ℕ) (i j : ℕ) → GoneRight aggregates i j → length aggregates ≤ j → j ≡ last_member aggregates i
gone_past aggregates i j g l = sym (last_is aggregates i j g.from g.on (goes_on_past aggregates (suc j) (omega arith)))

-- A walk to the end of the row began past it.
pub gone_nowhere : (aggregates : List ℕ) (i j : ℕ) → GoneRight aggregates i j → length aggregates ≤ j → i ≡ last_member aggregates i
gone_nowhere aggregates i j g l =
    elim (dec_lt i (length aggregates)) [
      | yes h ↦ absurd (omega (arith, gone_past aggregates i j g l, last_within_lem aggregates i h))
      | no n ↦ sym (last_past aggregates i (omega arith))
    ]
