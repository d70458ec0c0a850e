-- The table of an accepted run: its files do not overlap, so starts and ends rise with the number; and the stops read off it.
use Prim.Native.Nat.{ℕ, zero, suc, ◌-◌, ◌≤◌, ◌<◌}
use mathlib.Core.Path.{◌≡◌, refl, sym}
use mathlib.Core.List.{List, [], ◌∷◌}
use mathlib.Core.Logic.{⊎_elim}
use native.Mathlib.Omega.{arith}
use native.Mathlib.Nat.{eq-or-lt_of_le}
use lib.ListN.{length, get_or}
use Rattle.std.specs.Prelude.{Some, None}
use Rattle.std.specs.List.{slice_get}
use Rattle.std.proofs.lemmas.Option.{slice_get-get_or, slice_get_within, get_or_from_slice_get}
use Rattle.runs.specs.Run.{end_at}
use Rattle.runs.specs.Judging.{right_end}
use Rattle.runs.specs.Alone.{lone_stops}
use Rattle.runs.specs.Judging.{bad_place}
use Rattle.runs.specs.Private.{SoundTable, InTable}
use Rattle.runs.proofs.Search.{first_zero}
use Rattle.runs.proofs.Accepted.{GoodFile, good_file}

-- Each file of a sound table is good.
pub table_file : (starts lengths : List ℕ) → SoundTable starts lengths → (i : ℕ) → i < length starts → GoodFile starts lengths i
table_file starts lengths t i l = good_file starts lengths i (first_zero (bad_place starts lengths) (length starts) t.sound i l)

pub named_file : (starts lengths : List ℕ) → SoundTable starts lengths → (f : ℕ) → InTable starts f → GoodFile starts lengths (f - 1)
named_file starts lengths t f n = table_file starts lengths t (f - 1) (omega arith)

-- The rightmost stop is the last one wanted.
pub right_end_last : (starts lengths : List ℕ) (n : ℕ) (ns cs : List ℕ) → length cs ≡ length (n ∷ ns)
    → right_end (lone_stops starts lengths (n ∷ ns) cs) ≡ end_at starts lengths (get_or (n ∷ ns) (length ns) 0 - 1)
unfolding right_end lone_stops
right_end_last starts lengths n ns [] e = absurd (omega arith)
right_end_last starts lengths n [] (c ∷ []) e = refl
right_end_last starts lengths n [] (c ∷ d ∷ cs) e = absurd (omega arith)
right_end_last starts lengths n (m ∷ ns) (c ∷ []) e = absurd (omega arith)
right_end_last starts lengths n (m ∷ ns) (c ∷ d ∷ cs) e = right_end_last starts lengths m ns (d ∷ cs) (omega arith)

pub right_end_none : (starts lengths cs : List ℕ) → right_end (lone_stops starts lengths [] cs) ≡ 0
unfolding right_end lone_stops
right_end_none starts lengths cs = refl

-- The same by the length of the row.
pub right_end_empty : (starts lengths ns cs : List ℕ) → length ns ≡ 0 → 0 ≡ right_end (lone_stops starts lengths ns cs)
right_end_empty starts lengths [] cs e = sym (right_end_none starts lengths cs)
right_end_empty starts lengths (n ∷ ns) cs e = absurd (omega arith)

pub right_end_row : (starts lengths ns cs : List ℕ) → (length ns ≡ 0 → ⊥) → length cs ≡ length ns
    → end_at starts lengths (get_or ns (length ns - 1) 0 - 1) ≡ right_end (lone_stops starts lengths ns cs)
right_end_row starts lengths [] cs some e = absurd (some refl)
right_end_row starts lengths (n ∷ ns) cs some e =
    let k : suc (length ns) - 1 ≡ length ns = omega arith in
    rw k (sym (right_end_last starts lengths n ns cs e))

-- Ends rise with the number, and a file starts left of where any file from it on ends.
pub ends_rise : (starts lengths : List ℕ) → SoundTable starts lengths → (i j : ℕ) → i ≤ j → j < length starts → end_at starts lengths i ≤ end_at starts lengths j
ends_rise starts lengths t i zero l h = let e : i ≡ 0 = omega arith in rw e (omega arith)
ends_rise starts lengths t i (suc j) l h =
    ⊎_elim
    (λ e. rw e (omega arith))
    (λ lt. let below = ends_rise starts lengths t i j (omega arith) (omega arith) in omega (arith, below, (table_file starts lengths t (suc j) h).after))
    (eq-or-lt_of_le l)

pub start_to_end : (starts lengths : List ℕ) → SoundTable starts lengths → (f g : ℕ) → InTable starts f → InTable starts g → f ≤ g
    → get_or starts (f - 1) 0 ≤ end_at starts lengths (g - 1)
start_to_end starts lengths t f g a b l =
    let rise = ends_rise starts lengths t (f - 1) (g - 1) (omega arith) (omega arith) in
    omega (arith, rise)

-- A file ends at or left of the start of any later one.
pub end_before_start : (starts lengths : List ℕ) → SoundTable starts lengths → (i j : ℕ) → i < j → j < length starts → end_at starts lengths i ≤ get_or starts j 0
end_before_start starts lengths t i zero l h = absurd (omega arith)
end_before_start starts lengths t i (suc j) l h =
    let rise = ends_rise starts lengths t i j (omega arith) (omega arith) in
    omega (arith, rise, (table_file starts lengths t (suc j) h).after)

-- The last number of a row, as `last` finds it.
pub last_none : (numbers : List ℕ) → None ≡ slice_get numbers (length numbers - 1) → length numbers ≡ 0
last_none [] e = refl
last_none (n ∷ numbers) e = absurd (cc (slice_get-get_or (n ∷ numbers) (length (n ∷ numbers) - 1) 0 (omega arith)))

pub record Last (starts numbers : List ℕ) (f : ℕ) : Type 0 where
  pub some : length numbers ≡ 0 → ⊥
  pub is : get_or numbers (length numbers - 1) 0 ≡ f
  pub in_table : InTable starts f

pub last_some : (starts numbers : List ℕ) (f : ℕ) → Some f ≡ slice_get numbers (length numbers - 1) → ((i : ℕ) → i < length numbers → InTable starts (get_or numbers i 0)) → Last starts numbers f
last_some starts numbers f e named =
    let within = slice_get_within numbers (length numbers - 1) f (sym e) in
    let at = get_or_from_slice_get numbers (length numbers - 1) f 0 (sym e) in
    record { some = λ none. omega arith; is = at; in_table = rw at at (named (length numbers - 1) within) }
