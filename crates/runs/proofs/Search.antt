-- The first entry at which a test holds, as a loop finds it, and what that says of each entry; the same for "some entry".
use Prim.Native.Nat.{ℕ, zero, suc, ◌+◌, ◌≤◌, ◌<◌}
use mathlib.Core.Path.{◌≡◌, refl, ap, sym, ◌∙◌}
use mathlib.Core.Bool.{Bool, true, false, not, ◌||◌, or-true}
use mathlib.Core.Logic.{⊎_elim, ◌⊎◌, inl, inr}
use native.Mathlib.Omega.{arith}
use native.Mathlib.Nat.{eq-or-lt_of_le, le_of_suc-le-suc}
use native.Mathlib.Numerals.{add-one}
use native.Mathlib.Decide.{dec_lt}
use lib.Dec.{ltb, leb}
use borrow.Author.Tests.{lt-ltb, le-ltb, lt-leb, le-leb}
use mathlib.Core.List.{List, [], ◌∷◌}
use lib.ListN.{length, get_or, take}
use Rattle.std.specs.List.{fold, list_any}
use Rattle.std.proofs.lemmas.List.Folds.{list_any_more}
use Rattle.refusals.specs.Refusals.{first_where, one_more}
use Rattle.runs.specs.Lists.{any_below}
use Rattle.runs.specs.Private.{earlier_of}

-- Two tests of order agree where each order gives the other.
pub ltb_same : (a b c d : ℕ) → (a < b → c < d) → (c < d → a < b) → ltb a b ≡ ltb c d
ltb_same a b c d f g =
    elim (dec_lt a b) [ yes h ↦ lt-ltb a b h ∙ sym (lt-ltb c d (f h)) | no n ↦ le-ltb a b (omega arith) ∙ sym (le-ltb c d (other n)) ]
  where
    other : ¬ (a < b) → d ≤ c
    other n = elim (dec_lt c d) [ yes h ↦ absurd (n (g h)) | no k ↦ omega arith ]

pub leb_not_ltb : (a b : ℕ) → leb a b ≡ not (ltb b a)
leb_not_ltb a b = elim (dec_lt b a) [ yes h ↦ lt-leb a b h ∙ sym (ap not (lt-ltb b a h)) | no n ↦ le-leb a b (omega arith) ∙ sym (ap not (le-ltb b a (omega arith))) ]

pub true_or_false : (b : Bool) → (b ≡ true) ⊎ (b ≡ false)
true_or_false true = inl refl
true_or_false false = inr refl

-- A disjunction is false where each part is.
pub or_false_both : (a b : Bool) → (a || b) ≡ false → (a ≡ false) × (b ≡ false)
or_false_both true b e = absurd (mathlib.Core.Bool.true≢false e)
or_false_both false b e = (refl, e)

-- Of the entries before i and i itself.
pub below_or_here : (i j : ℕ) → j < suc i → (j ≡ i) ⊎ (j < i)
below_or_here i j l = eq-or-lt_of_le (le_of_suc-le-suc l)

module _ (bad : ℕ → Bool) where
  pub first_none : first_where bad 0 ≡ 0
  unfolding first_where
  first_none = refl

  pub first_more : (i : ℕ) → first_where bad i ≡ 0 → bad i ≡ false → first_where bad (i + 1) ≡ 0
  unfolding first_where
  first_more i none here = rw add-one (rw (none, here))

  first_at : (i : ℕ) → first_where bad i ≡ 0 → bad i ≡ true → first_where bad (suc i) ≡ suc i
  unfolding first_where
  first_at i none here = rw (none, here)

  first_stays_here : (p n : ℕ) → first_where bad n ≡ suc p → first_where bad (suc n) ≡ suc p
  unfolding first_where
  first_stays_here p n found = rw found

  first_kept : (i n : ℕ) → first_where bad (suc i) ≡ suc i → i < n → first_where bad n ≡ suc i
  first_kept i zero found l = absurd (omega arith)
  first_kept i (suc n) found l =
      ⊎_elim (λ e. rw (← e) found) (λ lt. first_stays_here i n (first_kept i n found lt)) (below_or_here n i l)

  -- The loop stops at the first entry at which the test holds.
  pub first_here : (i n : ℕ) → first_where bad i ≡ 0 → bad i ≡ true → i < n → first_where bad n ≡ i + 1
  first_here i n none here l = rw add-one (first_kept i n (first_at i none here) l)

  -- A loop that has gone through all of them has found none.
  pub first_done : (i n : ℕ) → first_where bad i ≡ 0 → i ≤ n → n ≤ i → 0 ≡ first_where bad n
  first_done i n none l r = let e : i ≡ n = omega arith in rw (← e, none)

  one_more_zero : (p : ℕ) (b : Bool) (n : ℕ) → one_more p b n ≡ 0 → (p ≡ 0) × (b ≡ false)
  one_more_zero zero true n e = absurd (omega arith)
  one_more_zero zero false n e = (refl, refl)
  one_more_zero (suc p) b n e = absurd (omega arith)

  -- Where the first is none, the test holds nowhere.
  pub first_zero : (n : ℕ) → first_where bad n ≡ 0 → (i : ℕ) → i < n → bad i ≡ false
  unfolding first_where
  first_zero zero e i l = absurd (omega arith)
  first_zero (suc n) e i l =
      let s = one_more_zero (first_where bad n) (bad n) n e in
      ⊎_elim (λ same. rw same s.1) (λ lt. first_zero n s.0 i lt) (below_or_here n i l)

  -- The first is one of the entries, and the test holds at none before it.
  pub first_within : (n : ℕ) → first_where bad n ≤ n
  unfolding first_where
  first_within zero = omega arith
  first_within (suc n) = grows (first_where bad n) (bad n) (first_within n)
    where
      grows : (p : ℕ) (b : Bool) → p ≤ n → one_more p b n ≤ suc n
      grows zero true l = omega arith
      grows zero false l = omega arith
      grows (suc p) b l = omega arith

  pub first_before : (n i : ℕ) → first_where bad n ≡ suc i → (j : ℕ) → j < i → bad j ≡ false
  unfolding first_where
  first_before zero i e j l = absurd (omega arith)
  first_before (suc n) i e j l = by_found (first_where bad n) refl (bad n) e (first_before n i)
    where
      by_found : (p : ℕ) → first_where bad n ≡ p → (b : Bool) → one_more p b n ≡ suc i → (first_where bad n ≡ suc i → (k : ℕ) → k < i → bad k ≡ false) → bad j ≡ false
      by_found zero none true h ih = first_zero n none j (omega arith)
      by_found zero none false h ih = absurd (omega arith)
      by_found (suc p) found b h ih = ih (found ∙ h) j l

  -- And the other way round.
  pub first_all : (n : ℕ) → ((i : ℕ) → i < n → bad i ≡ false) → first_where bad n ≡ 0
  unfolding first_where
  first_all zero h = refl
  first_all (suc n) h = rw (first_all n (λ i l. h i (omega arith)), h n (omega arith))

  pub any_none : any_below bad 0 ≡ false
  unfolding any_below
  any_none = refl

  pub any_more : (i : ℕ) → any_below bad i ≡ false → bad i ≡ false → any_below bad (i + 1) ≡ false
  unfolding any_below
  any_more i none here = rw add-one (rw (none, here))

  pub any_here : (i n : ℕ) → bad i ≡ true → i < n → any_below bad n ≡ true
  unfolding any_below
  any_here i zero here l = absurd (omega arith)
  any_here i (suc n) here l =
      ⊎_elim (λ e. rw (← e, here, or-true)) (λ lt. rw (any_here i n here lt)) (below_or_here n i l)

  pub any_zero : (n : ℕ) → any_below bad n ≡ false → (i : ℕ) → i < n → bad i ≡ false
  unfolding any_below
  any_zero zero e i l = absurd (omega arith)
  any_zero (suc n) e i l =
      let s = or_false_both (any_below bad n) (bad n) e in
      ⊎_elim (λ same. rw same s.1) (λ lt. any_zero n s.0 i lt) (below_or_here n i l)

-- The same over the first entries of a list.
pub any_taken : (test : ℕ → Bool) (xs : List ℕ) (i : ℕ) → i ≤ length xs → any_below (λ j. test (get_or xs j 0)) i ≡ list_any test (take i xs)
unfolding any_below
any_taken test xs zero l = refl
any_taken test xs (suc i) l = rw (any_taken test xs i (omega arith), ← add-one) (sym (list_any_more test xs i 0 (omega arith)))

-- A row that is gone through to its end, with what has been found so far.
folded_on : (test : ℕ → Bool) (met : Bool) (xs : List ℕ) → fold (λ met x. met || test x) met xs ≡ (met || list_any test xs)
folded_on test true [] = refl
folded_on test false [] = refl
folded_on test true (x ∷ xs) = folded_on test true xs
folded_on test false (x ∷ xs) = folded_on test (test x) xs

pub any_folded : (test : ℕ → Bool) (xs : List ℕ) → fold (λ met x. met || test x) false xs ≡ list_any test xs
any_folded test xs = folded_on test false xs

-- Tests that agree at every entry find the same.
pub first_same : (f g : ℕ → Bool) (n : ℕ) → ((i : ℕ) → i < n → f i ≡ g i) → first_where f n ≡ first_where g n
unfolding first_where
first_same f g zero h = refl
first_same f g (suc n) h = rw (first_same f g n (λ i l. h i (omega arith)), h n (omega arith))

pub any_same : (f g : ℕ → Bool) (n : ℕ) → ((i : ℕ) → i < n → f i ≡ g i) → any_below f n ≡ any_below g n
unfolding any_below
any_same f g zero h = refl
any_same f g (suc n) h = rw (any_same f g n (λ i l. h i (omega arith)), h n (omega arith))

-- The first at which either of two tests holds is the earlier of their firsts.
either_more : (p q n : ℕ) (a b : Bool) → p ≤ n → q ≤ n → one_more (earlier_of p q) (a || b) n ≡ earlier_of (one_more p a n) (one_more q b n)
either_more zero zero n true true l h = rw (le-ltb n n (omega arith))
either_more zero zero n true false l h = refl
either_more zero zero n false b l h = refl
either_more zero (suc q) n true b l h = rw (lt-ltb q n (omega arith))
either_more zero (suc q) n false b l h = refl
either_more (suc p) zero n a true l h = rw (le-ltb n p (omega arith))
either_more (suc p) zero n a false l h = refl
either_more (suc p) (suc q) n a b l h =
    ⊎_elim (λ (e : ltb q p ≡ true). rw e) (λ (e : ltb q p ≡ false). rw e) (true_or_false (ltb q p))

pub first_either : (f g : ℕ → Bool) (n : ℕ) → first_where (λ i. f i || g i) n ≡ earlier_of (first_where f n) (first_where g n)
unfolding first_where
first_either f g zero = refl
first_either f g (suc n) =
    rw (first_either f g n) (either_more (first_where f n) (first_where g n) n (f n) (g n) (first_within f n) (first_within g n))

-- The earlier of two places, as the code takes it.
pub earlier_none : (p q : ℕ) → q ≡ 0 → p ≡ earlier_of p q
earlier_none zero q e = sym e
earlier_none (suc p) zero e = refl
earlier_none (suc p) (suc q) e = absurd (omega arith)

pub earlier_second : (p q : ℕ) → (q ≡ 0 → ⊥) → q < p → q ≡ earlier_of p q
earlier_second zero q some l = refl
earlier_second (suc p) zero some l = absurd (some refl)
earlier_second (suc p) (suc q) some l = rw (lt-ltb q p (omega arith))

pub earlier_first : (p q : ℕ) → (q ≡ 0 → ⊥) → (p ≡ 0 → ⊥) → p ≤ q → p ≡ earlier_of p q
earlier_first zero q some found l = absurd (found refl)
earlier_first (suc p) zero some found l = absurd (some refl)
earlier_first (suc p) (suc q) some found l = rw (le-ltb q p (omega arith))
