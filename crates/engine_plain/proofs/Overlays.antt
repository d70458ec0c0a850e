-- Entries written over a row: the row's length stays, and what is written in parts is written whole.
use Prim.Native.Nat.{ℕ, zero, suc, ◌+◌, ◌≤◌, ◌<◌}
use native.Mathlib.Omega.{arith}
use mathlib.Core.Path.{◌≡◌, refl, sym, ap, ◌∙◌}
use mathlib.Core.List.{List, [], ◌∷◌, ◌++◌, map, map-append}
use lib.ListN.{length, drop, set, length-map, length-append}
use Rattle.runs.specs.Lists.{Detour}
use Rattle.engine_plain.specs.Private.{overlay, ListWritten}

pub overlay_length : (n : ℕ) (xs row : List ℕ) → length (overlay n xs row) ≡ length row
unfolding overlay
overlay_length zero [] row = refl
overlay_length zero (x ∷ xs) [] = refl
overlay_length zero (x ∷ xs) (y ∷ row) = ap suc (overlay_length zero xs row)
overlay_length (suc n) xs [] = refl
overlay_length (suc n) xs (y ∷ row) = ap suc (overlay_length n xs row)

pub overlay_none : (n : ℕ) (row : List ℕ) → overlay n [] row ≡ row
unfolding overlay
overlay_none zero row = refl
overlay_none (suc n) [] = refl
overlay_none (suc n) (y ∷ row) = ap (λ ys. y ∷ ys) (overlay_none n row)

overlay_nothing : (n : ℕ) (xs : List ℕ) → 0 < n → overlay n xs [] ≡ []
unfolding overlay
overlay_nothing zero xs h = absurd (omega arith)
overlay_nothing (suc n) xs h = refl

overlay_parts : (n : ℕ) (xs ys row : List ℕ) → overlay n (xs ++ ys) row ≡ overlay (n + length xs) ys (overlay n xs row)
unfolding overlay
overlay_parts zero [] ys row = refl
overlay_parts zero (x ∷ xs) ys [] = sym (overlay_nothing (0 + suc (length xs)) ys (omega arith))
overlay_parts zero (x ∷ xs) ys (z ∷ row) =
    let e : 0 + suc (length xs) ≡ suc (0 + length xs) = omega arith in
    rw e (ap (λ zs. x ∷ zs) (overlay_parts zero xs ys row))
overlay_parts (suc n) xs ys [] = sym (overlay_nothing (suc n + length xs) ys (omega arith))
overlay_parts (suc n) xs ys (z ∷ row) =
    let e : suc n + length xs ≡ suc (n + length xs) = omega arith in
    rw e (ap (λ zs. z ∷ zs) (overlay_parts n xs ys row))

overlay_one : (n x : ℕ) (row : List ℕ) → n < length row → overlay n (x ∷ []) row ≡ set row n x
unfolding overlay
overlay_one zero x [] h = absurd (omega arith)
overlay_one zero x (y ∷ row) h = refl
overlay_one (suc n) x [] h = absurd (omega arith)
overlay_one (suc n) x (y ∷ row) h = ap (λ ys. y ∷ ys) (overlay_one n x row (omega arith))

-- Entries, one more, and the rest.
overlay_more : (n at x : ℕ) (xs ys row : List ℕ) → at ≡ n + length xs → at < length row
    → overlay (at + 1) ys (set (overlay n xs row) at x) ≡ overlay n (xs ++ x ∷ ys) row
overlay_more n at x xs ys row e h =
    let here : overlay at (x ∷ []) (overlay n xs row) ≡ set (overlay n xs row) at x = overlay_one at x (overlay n xs row) (omega (arith, overlay_length n xs row)) in
    sym (ap (overlay (at + 1) ys) here) ∙ sym (overlay_parts at (x ∷ []) ys (overlay n xs row)) ∙ ap (λ m. overlay m (x ∷ ys) (overlay n xs row)) e ∙ sym (overlay_parts n xs (x ∷ ys) row)

-- From the beginning of a row that is long enough.
pub overlay_first : (xs row : List ℕ) → length xs ≤ length row → overlay 0 xs row ≡ xs ++ drop (length xs) row
unfolding overlay
overlay_first [] [] h = refl
overlay_first [] (y ∷ row) h = refl
overlay_first (x ∷ xs) [] h = absurd (omega arith)
overlay_first (x ∷ xs) (y ∷ row) h = ap (λ ys. x ∷ ys) (overlay_first xs row (omega arith))

pub written_none : (list : List Detour) (n : ℕ) (froms tos : List ℕ) → list ≡ [] → ListWritten list n n froms tos froms tos
written_none list n froms tos e =
    rw e (record { behind = omega arith; starts = sym (overlay_none n froms); ends = sym (overlay_none n tos) })

pub written_same : (l l' : List Detour) (n next : ℕ) (froms tos froms' tos' : List ℕ) → l ≡ l' → ListWritten l n next froms tos froms' tos' → ListWritten l' n next froms tos froms' tos'
written_same l l' n next froms tos froms' tos' e w = rw (← e) w

module _ (inner rest : List Detour) (d : Detour) (n at next : ℕ) (froms tos froms₁ tos₁ froms' tos' : List ℕ) (i : ListWritten inner n at froms tos froms₁ tos₁) where
  pub written_more : at < length froms → at < length tos → (list : List Detour) → list ≡ inner ++ d ∷ rest
      → ListWritten rest (at + 1) next (set froms₁ at d.from) (set tos₁ at d.to) froms' tos' → ListWritten list n next froms tos froms' tos'
  written_more h k list is r =
      record {
        behind = rw is (omega (arith, r.behind, i.behind, length-append inner (d ∷ rest)));
        starts = r.starts ∙ ap (λ row. overlay (at + 1) (map (λ d. d.from) rest) (set row at d.from)) i.starts
            ∙ overlay_more n at d.from (map (λ d. d.from) inner) (map (λ d. d.from) rest) froms (i.behind ∙ ap (λ m. n + m) (sym (length-map inner (λ d. d.from)))) h
            ∙ ap (λ xs. overlay n xs froms) (sym (ap (map (λ d. d.from)) is ∙ map-append (λ d. d.from) inner (d ∷ rest)));
        ends = r.ends ∙ ap (λ row. overlay (at + 1) (map (λ d. d.to) rest) (set row at d.to)) i.ends
            ∙ overlay_more n at d.to (map (λ d. d.to) inner) (map (λ d. d.to) rest) tos (i.behind ∙ ap (λ m. n + m) (sym (length-map inner (λ d. d.to)))) k
            ∙ ap (λ xs. overlay n xs tos) (sym (ap (map (λ d. d.to)) is ∙ map-append (λ d. d.to) inner (d ∷ rest)));
      }
