-- The rules of a well-formed list as facts about its entries: of each by itself, and of any two, the earlier first.
use Prim.Native.Nat.{ℕ, zero, suc, ◌<◌}
use mathlib.Core.Path.{◌≡◌, refl, sym}
use mathlib.Core.Bool.{Bool, true, false, not, ◌||◌}
use mathlib.Core.Logic.{◌⊎◌, inl, inr, ⊎_elim}
use mathlib.Core.List.{List, [], ◌∷◌, ◌++◌}
use native.Mathlib.Omega.{arith}
use lib.Dec.{leb, ltb}
use lib.ListN.{length}
use borrow.Author.Tests.{ltb-true, leb-false, not-false, lt-ltb, lt-leb}
use Rattle.runs.specs.Run.{Stop}
use Rattle.runs.specs.Lists.{Detour, wanted, leftmost, bad_alone, bad_after, any_below, entry_of, bad_entry, first_bad_entry, WellFormed}
use Rattle.runs.proofs.Search.{true_or_false, or_false_both, first_zero, first_all, first_same, any_zero}

-- "Some entry" is false where each is.
module _ (bad : ℕ → Bool) where
  below_none : (n : ℕ) → ((i : ℕ) → i < n → bad i ≡ false) → any_below bad n ≡ false
  unfolding any_below
  below_none zero h = refl
  below_none (suc n) h = rw (below_none n (λ i l. h i (omega arith)), h n (omega arith))

-- Every entry, and every two entries, the earlier first.
abbrev pub All : (Detour → Type 0) → List Detour → Type 0
All P [] = Unit {0}
All P (d ∷ ds) = P d × All P ds

abbrev pub After : Detour → Detour → Type 0
After e d = (d.from < e.from) × ((d.to < e.from) ⊎ (e.to < d.to))

abbrev pub Ordered : List Detour → Type 0
Ordered [] = Unit {0}
Ordered (e ∷ ds) = All (After e) ds × Ordered ds

module _ (P Q : Detour → Type 0) where
  pub all_of : (xs : List Detour) → ((d : Detour) → P d → Q d) → All P xs → All Q xs
  all_of [] f v = tt
  all_of (x ∷ xs) f v = (f x v.0, all_of xs f v.1)

pub all_of_two : (P Q S : Detour → Type 0) (xs : List Detour) → ((d : Detour) → P d → Q d → S d) → All P xs → All Q xs → All S xs
all_of_two P Q S [] f v w = tt
all_of_two P Q S (x ∷ xs) f v w = (f x v.0 w.0, all_of_two P Q S xs f v.1 w.1)

module _ (P : Detour → Type 0) where
  pub all_append : (xs ys : List Detour) → All P xs → All P ys → All P (xs ++ ys)
  all_append [] ys v w = w
  all_append (x ∷ xs) ys v w = (v.0, all_append xs ys v.1 w)

  pub all_split : (xs ys : List Detour) → All P (xs ++ ys) → All P xs × All P ys
  all_split [] ys v = (tt, v)
  all_split (x ∷ xs) ys v = let w : All P xs × All P ys = all_split xs ys v.1 in ((v.0, w.0), w.1)

  pub all_of_index : (xs : List Detour) → ((i : ℕ) → i < length xs → P (entry_of xs i)) → All P xs
  all_of_index [] f = tt
  all_of_index (x ∷ xs) f = (f 0 (omega arith), all_of_index xs (λ i h. f (suc i) (omega arith)))

  pub index_of_all : (xs : List Detour) → All P xs → (i : ℕ) → i < length xs → P (entry_of xs i)
  index_of_all [] v i h = absurd (omega arith)
  index_of_all (x ∷ xs) v zero h = v.0
  index_of_all (x ∷ xs) v (suc i) h = index_of_all xs v.1 i (omega arith)

ordered_of_index : (xs : List Detour) → ((j i : ℕ) → j < i → i < length xs → After (entry_of xs j) (entry_of xs i)) → Ordered xs
ordered_of_index [] f = tt
ordered_of_index (x ∷ xs) f = (
  all_of_index (After x) xs (λ i h. f 0 (suc i) (omega arith) (omega arith)),
  ordered_of_index xs (λ j i l h. f (suc j) (suc i) (omega arith) (omega arith)),
)

index_of_ordered : (xs : List Detour) → Ordered xs → (j i : ℕ) → j < i → i < length xs → After (entry_of xs j) (entry_of xs i)
index_of_ordered [] v j i l h = absurd (omega arith)
index_of_ordered (x ∷ xs) v j zero l h = absurd (omega arith)
index_of_ordered (x ∷ xs) v zero (suc i) l h = index_of_all (After x) xs v.0 i (omega arith)
index_of_ordered (x ∷ xs) v (suc j) (suc i) l h = index_of_ordered xs v.1 j i (omega arith) (omega arith)

-- Two ordered parts, each entry of the second after each of the first.
pub ordered_append : (xs ys : List Detour) → Ordered xs → Ordered ys → All (λ x. All (After x) ys) xs → Ordered (xs ++ ys)
ordered_append [] ys v w c = w
ordered_append (x ∷ xs) ys v w c = (all_append (After x) xs ys v.0 c.0, ordered_append xs ys v.1 w c.1)

pub ordered_split : (xs ys : List Detour) → Ordered (xs ++ ys) → Ordered xs × Ordered ys × All (λ x. All (After x) ys) xs
ordered_split [] ys v = (tt, v, tt)
ordered_split (x ∷ xs) ys v =
    let w : Ordered xs × Ordered ys × All (λ z. All (After z) ys) xs = ordered_split xs ys v.1 in
    let t : All (After x) xs × All (After x) ys = all_split (After x) xs ys v.0 in
    ((t.0, w.0), w.1, (t.1, w.2))

-- An entry against an earlier one, as the test says it.
after_of_test : (e d : Detour) → bad_after e d ≡ false → After e d
after_of_test e d v =
    let t : (leb e.from d.from ≡ false) × (not (ltb d.to e.from || ltb e.to d.to) ≡ false) = or_false_both _ _ v in (
      leb-false e.from d.from t.0,
      ⊎_elim
          (λ f. inl (ltb-true d.to e.from f))
          (λ f. inr (ltb-true e.to d.to (let w : false || ltb e.to d.to ≡ true = rw f at (not-false (ltb d.to e.from || ltb e.to d.to) t.1) in w)))
          (true_or_false (ltb d.to e.from)),
    )

either_true : (a b : Bool) → (a ≡ true) ⊎ (b ≡ true) → not (a || b) ≡ false
either_true true b h = refl
either_true false true h = refl
either_true false false (inl e) = sym e
either_true false false (inr e) = sym e

test_of_after : (e d : Detour) → After e d → bad_after e d ≡ false
test_of_after e d v =
    rw (lt-leb e.from d.from v.0)
    (either_true (ltb d.to e.from) (ltb e.to d.to)
    (⊎_elim (λ h. inl (lt-ltb d.to e.from h)) (λ h. inr (lt-ltb e.to d.to h)) v.1))

-- The rules of a well-formed list: of each entry by itself, and of any two.
abbrev pub Alone : List Stop → Detour → Type 0
Alone stops d = bad_alone stops d ≡ false

module _ (stops : List Stop) (list : List Detour) where
  pub rules_of_formed : WellFormed stops list → All (Alone stops) list × Ordered list
  unfolding first_bad_entry
  rules_of_formed v =
      let t : (i : ℕ) → i < length list → (bad_alone stops (entry_of list i) ≡ false) × (any_below (λ j. bad_after (entry_of list j) (entry_of list i)) i ≡ false)
      = λ i h. or_false_both _ _ (first_zero (bad_entry stops list) (length list) v i h) in (
        all_of_index (Alone stops) list (λ i h. (t i h).0),
        ordered_of_index list (λ j i l h. after_of_test (entry_of list j) (entry_of list i) (any_zero (λ k. bad_after (entry_of list k) (entry_of list i)) i (t i h).1 j l)),
      )

  pub formed_of_rules : All (Alone stops) list → Ordered list → WellFormed stops list
  unfolding first_bad_entry
  formed_of_rules v w =
      first_all (bad_entry stops list) (length list)
      (λ i h.
      rw (index_of_all (Alone stops) list v i h)
      (below_none (λ j. bad_after (entry_of list j) (entry_of list i)) i (λ j l. test_of_after (entry_of list j) (entry_of list i) (index_of_ordered list w j i l h))))

-- The rules look at names alone.
pub formed_by_names : (ss ss' : List Stop) → ((f : ℕ) → wanted ss f ≡ wanted ss' f) → leftmost ss ≡ leftmost ss' → (list : List Detour) → first_bad_entry ss list ≡ first_bad_entry ss' list
unfolding first_bad_entry
formed_by_names ss ss' names first list =
    first_same (bad_entry ss list) (bad_entry ss' list) (length list)
    (λ i l. rw (names (entry_of list i).from, names (entry_of list i).to, first))
