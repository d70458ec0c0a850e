-- A list without one entry: which entries it has, and that it is well formed where the list is.
use Prim.Native.Nat.{ℕ, zero, suc, ◌+◌, ◌-◌, ◌≤◌, ◌<◌}
use mathlib.Core.Path.{◌≡◌, refl, ap, ◌∙◌}
use mathlib.Core.Bool.{Bool, false}
use mathlib.Core.List.{List, [], ◌∷◌, ◌++◌, append_assoc}
use native.Mathlib.Omega.{arith}
use native.Mathlib.Nat.{le_of_suc-le-suc}
use native.Mathlib.Numerals.{add-one}
use lib.ListN.{length, get_or, take, drop, length-append}
use lib.Seq.{take_at, drop_at, drop-drop, length-take-le}
use Rattle.runs.specs.Run.{Stop}
use Rattle.runs.specs.Lists.{Detour, list_of, bad_alone, bad_after, bad_entry, any_below, entry_of, first_bad_entry, WellFormed}
use Rattle.runs.specs.AnyHead.{past_head, bad_entry_any, first_bad_entry_any, WellFormedAny}
use Rattle.runs.proofs.Search.{first_zero, first_all, any_zero, or_false_both}
use Rattle.walk.proofs.AnyHead.{any_formed}
use Rattle.figures.specs.Figures.{without}

-- Where an entry of the shorter list stands in the longer one.
abbrev pub past : ℕ → ℕ → ℕ
past zero j = suc j
past (suc i) zero = zero
past (suc i) (suc j) = suc (past i j)

past_most : (i j : ℕ) → past i j ≤ suc j
past_most zero j = omega arith
past_most (suc i) zero = omega arith
past_most (suc i) (suc j) = omega (arith, past_most i j)

past_rises : (i k j : ℕ) → k < j → past i k < past i j
past_rises zero k j l = omega arith
past_rises (suc i) k zero l = absurd (omega arith)
past_rises (suc i) zero (suc j) l = omega arith
past_rises (suc i) (suc k) (suc j) l = omega (arith, past_rises i k j (le_of_suc-le-suc l))

module _ {A : Type 0} where
  pub without_at : (d : A) (i : ℕ) (l : List A) (j : ℕ) → get_or (without i l) j d ≡ get_or l (past i j) d
  unfolding without
  without_at d i [] j = refl
  without_at d zero (x ∷ l) j = refl
  without_at d (suc i) (x ∷ l) zero = refl
  without_at d (suc i) (x ∷ l) (suc j) = without_at d i l j

  pub without_length : (i : ℕ) (l : List A) → i < length l → suc (length (without i l)) ≡ length l
  unfolding without
  without_length i [] h = absurd (omega arith)
  without_length zero (x ∷ l) h = refl
  without_length (suc i) (x ∷ l) h = ap suc (without_length i l (le_of_suc-le-suc h))

-- The entries before it and those behind it, as the code copies them to the front of another row.
without_parts : (i : ℕ) (row : List ℕ) → i < length row → without i row ≡ take i row ++ drop (suc i) row
unfolding without
without_parts i [] l = absurd (omega arith)
without_parts zero (x ∷ row) l = refl
without_parts (suc i) (x ∷ row) l = ap (λ r. x ∷ r) (without_parts i row (le_of_suc-le-suc l))

pub copied_without : (row out before behind : List ℕ) (i : ℕ) → i < length row → length row ≤ length out → before ≡ take i row → behind ≡ drop (i + 1) row
    → take i (before ++ drop i out) ++ (behind ++ drop (length row - 1 - i) (drop i (before ++ drop i out))) ≡ without i row ++ drop (length row - 1) out
copied_without row out before behind i l fits before-is behind-is =
    let size : length before ≡ i = rw before-is (length-take-le i row (omega arith)) in
    let rest : i + (length row - 1 - i) ≡ length row - 1 = omega arith in
    rw (take_at before (drop i out) i size, drop_at before (drop i out) i size, before-is, behind-is, add-one, without_parts i row l, drop-drop, rest, append_assoc) refl

-- In the first entries of another row.
pub front_long : (row out₀ out : List ℕ) (i n : ℕ) → i < length row → n + 1 ≡ length row → out ≡ without i row ++ drop (length row - 1) out₀ → n ≤ length out
front_long row out₀ out i n l e is = omega (arith, e, ap length is, length-append (without i row) (drop (length row - 1) out₀), without_length i row l)

pub front_is : (row out₀ out : List ℕ) (i n : ℕ) → i < length row → n + 1 ≡ length row → out ≡ without i row ++ drop (length row - 1) out₀ → take n out ≡ without i row
front_is row out₀ out i n l e is = ap (take n) is ∙ take_at (without i row) (drop (length row - 1) out₀) n (omega (arith, e, without_length i row l))

-- Two rows without an entry hold the list without it.
pub without_list : (i : ℕ) (froms tos : List ℕ) → length froms ≡ length tos → list_of (without i froms) (without i tos) ≡ without i (list_of froms tos)
unfolding without list_of
without_list i [] tos e = refl
without_list i (a ∷ froms) [] e = absurd (omega arith)
without_list zero (a ∷ froms) (b ∷ tos) e = refl
without_list (suc i) (a ∷ froms) (b ∷ tos) e = ap (λ l. record { from = a; to = b } ∷ l) (without_list i froms tos (omega arith))

any_all : (bad : ℕ → Bool) (n : ℕ) → ((i : ℕ) → i < n → bad i ≡ false) → any_below bad n ≡ false
unfolding any_below
any_all bad zero h = refl
any_all bad (suc n) h = rw (any_all bad n (λ i l. h i (omega arith)), h n (omega arith))

-- A well-formed list without an entry is well formed: the rules speak of an entry by itself and of two entries in their order.
pub without_formed : (stops : List Stop) (list : List Detour) (i : ℕ) → i < length list → WellFormed stops list → WellFormed stops (without i list)
unfolding first_bad_entry
without_formed stops list i h formed = first_all (bad_entry stops (without i list)) (length (without i list)) each
  where
    at : (j : ℕ) → entry_of (without i list) j ≡ entry_of list (past i j)
    at j = without_at (record { from = 0; to = 0 }) i list j

    each : (j : ℕ) → j < length (without i list) → bad_entry stops (without i list) j ≡ false
    each j l =
        let was = first_zero (bad_entry stops list) (length list) formed (past i j) (omega (arith, past_most i j, without_length i list h)) in
        let both = or_false_both (bad_alone stops (entry_of list (past i j))) (any_below (λ k. bad_after (entry_of list k) (entry_of list (past i j))) (past i j)) was in
        let before : any_below (λ k. bad_after (entry_of (without i list) k) (entry_of (without i list) j)) j ≡ false =
        any_all _ j (λ k m. rw (at k, at j) (any_zero (λ n. bad_after (entry_of list n) (entry_of list (past i j))) (past i j) both.1 (past i k) (past_rises i k j m))) in
        rw (before, at j, both.0)

-- So it is for a head anywhere, of which the rules ask something of an entry by itself.
pub without_formed_any : (m : ℕ) (stops : List Stop) (list : List Detour) (i : ℕ) → i < length list → WellFormedAny m stops list → WellFormedAny m stops (without i list)
unfolding first_bad_entry_any first_bad_entry
without_formed_any m stops list i h formed = first_all (bad_entry_any m stops (without i list)) (length (without i list)) each
  where
    each : (j : ℕ) → j < length (without i list) → bad_entry_any m stops (without i list) j ≡ false
    each j l =
        let by-01 = first_zero (bad_entry stops (without i list)) (length (without i list)) (without_formed stops list i h (any_formed m stops list formed)) j l in
        let was = first_zero (bad_entry_any m stops list) (length list) formed (past i j) (omega (arith, past_most i j, without_length i list h)) in
        let clear : past_head m stops (entry_of list (past i j)).from ≡ false = (or_false_both (bad_entry stops list (past i j)) _ was).1 in
        rw (by-01, without_at (record { from = 0; to = 0 }) i list j, clear)
