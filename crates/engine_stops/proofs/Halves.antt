-- A list as two rows, one of starts and one of ends: what its first entries are, and that rows of a well-formed list are accepted.
use Prim.Native.Nat.{ℕ, ◌≤◌, ◌<◌}
use mathlib.Core.Path.{◌≡◌, refl, sym, ap, ◌∙◌}
use mathlib.Core.Bool.{false}
use mathlib.Core.List.{List, [], ◌∷◌, ◌++◌, map}
use native.Mathlib.Omega.{arith}
use lib.ListN.{length, get_or, take, drop, length-map, length-append, get_or-append, get_or-map}
use lib.Seq.{take_at, drop_at}
use borrow.Author.Tests.{eq-eqb}
use Rattle.refusals.proofs.Verdicts.{refuses}
use Rattle.runs.specs.Run.{Stop}
use Rattle.runs.specs.Lists.{Detour, list_of, list_verdict, entry_of, WellFormed}

-- The rows of a well-formed list are accepted.
pub list_accepted : (stops : List Stop) (froms tos : List ℕ) → length froms ≡ length tos → WellFormed stops (list_of froms tos) → refuses (list_verdict stops froms tos) ≡ false
unfolding list_verdict
list_accepted stops froms tos e w = rw (eq-eqb (length froms) (length tos) e, w)

-- A list is what its starts and ends make.
pub list_of_halves : (list : List Detour) → list_of (map (λ d. d.from) list) (map (λ d. d.to) list) ≡ list
unfolding list_of
list_of_halves [] = refl
list_of_halves (d ∷ list) = ap (λ l. d ∷ l) (list_of_halves list)

pub half_long : (f : Detour → ℕ) (list : List Detour) → length (map f list) ≡ length list
half_long f list = length-map list f

pub halves_even : (f g : Detour → ℕ) (list : List Detour) → length (map f list) ≡ length (map g list)
halves_even f g list = half_long f list ∙ sym (half_long g list)

-- A list in a row: its first entries, the later ones, and each entry.
pub front : (f : Detour → ℕ) (list : List Detour) (n : ℕ) (row row' : List ℕ) → n ≡ length list → row' ≡ map f list ++ drop (length list) row → take n row' ≡ map f list
front f list n row row' e is = ap (take n) is ∙ take_at (map f list) (drop (length list) row) n (half_long f list ∙ sym e)

pub behind : (f : Detour → ℕ) (list : List Detour) (n : ℕ) (row row' : List ℕ) → n ≡ length list → row' ≡ map f list ++ drop (length list) row → drop n row' ≡ drop (length list) row
behind f list n row row' e is = ap (drop n) is ∙ drop_at (map f list) (drop (length list) row) n (half_long f list ∙ sym e)

pub holds_front : (f : Detour → ℕ) (list : List Detour) (n : ℕ) (row row' : List ℕ) → n ≡ length list → row' ≡ map f list ++ drop (length list) row → n ≤ length row'
holds_front f list n row row' e is = omega (arith, e, ap length is, length-append (map f list) (drop (length list) row), half_long f list)

pub entry_in : (f : Detour → ℕ) (list : List Detour) (row row' : List ℕ) → f (record { from = 0; to = 0 }) ≡ 0 → row' ≡ map f list ++ drop (length list) row
    → (i : ℕ) → i < length list → get_or row' i 0 ≡ f (entry_of list i)
entry_in f list row row' z is i l =
    ap (λ r. get_or r i 0) is ∙ get_or-append (map f list) (drop (length list) row) 0 i (omega (arith, half_long f list))
    ∙ (rw z at (get_or-map f list i (record { from = 0; to = 0 })))
