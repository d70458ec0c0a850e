-- The same notions read off the caller's rows, for the contracts of private functions. No public contract cites this file.
use Rattle.std.specs.Prelude.{ℕ, zero, suc, ◌-◌, ◌<◌, ◌≤◌, ◌≡◌, Bool, false, not, cond, ◌||◌, ◌&&◌, List, [], ◌∷◌, length, get_or, leb, ltb}
use Rattle.refusals.specs.Refusals.{first_where}
use Rattle.runs.specs.Run.{goes_on, last_member, Stop, want_stops}
use Rattle.runs.specs.Alone.{lone_stops}
use Rattle.runs.specs.Rows.{Lent}
use Rattle.runs.specs.Judging.{bad_place}
use Rattle.runs.specs.Lists.{Detour, bad_after, any_below}

-- A table of files that passed 1 and 2 by their places.
pub record SoundTable (starts lengths : List ℕ) : Type 0 where
  pub equal : length starts ≡ length lengths
  pub sound : first_where (bad_place starts lengths) (length starts) ≡ 0

-- A number that names a file of the table.
pub record InTable (starts : List ℕ) (f : ℕ) : Type 0 where
  pub least : 0 < f
  pub most : f ≤ length starts

-- The numbers other than 0 before an index lie between two bounds.
pub record Spanned (aggregates : List ℕ) (low high i : ℕ) : Type 0 where
  pub above : (j : ℕ) → j < i → 0 < get_or aggregates j 0 → low ≤ get_or aggregates j 0
  pub below : (j : ℕ) → j < i → 0 < get_or aggregates j 0 → get_or aggregates j 0 ≤ high

-- Of two places found, counted from 1, the earlier; 0 is none.
abbrev pub earlier_of : ℕ → ℕ → ℕ
earlier_of zero q = q
earlier_of (suc p) zero = suc p
earlier_of (suc p) (suc q) = cond (ltb q p) (suc q) (suc p)

-- The number of the last file of a file's aggregate.
abbrev pub last_file : List ℕ → ℕ → ℕ
last_file aggregates zero = 0
last_file aggregates (suc i) = suc (last_member aggregates i)

-- Whether a number of a row lies between two.
unfoldable pub some_between : List ℕ → ℕ → ℕ → Bool
some_between [] low high = false
some_between (n ∷ ns) low high = (leb low n && leb n high) || some_between ns low high

-- Whether a number names a stop: it is the first of its aggregate, and a file of that is wanted.
abbrev pub row_named : List ℕ → List ℕ → ℕ → Bool
row_named aggregates numbers f = not (goes_on aggregates (f - 1)) && some_between numbers f (last_file aggregates f)

-- The entry of a list at an index of its two rows.
abbrev pub row_entry : List ℕ → List ℕ → ℕ → Detour
row_entry froms tos i = record { from = get_or froms i 0; to = get_or tos i 0 }

abbrev pub row_alone : List ℕ → List ℕ → ℕ → ℕ → Bool
row_alone aggregates numbers from to =
    not (row_named aggregates numbers from) || not (row_named aggregates numbers to) || ltb to from || leb from (get_or numbers 0 0)

abbrev pub row_clash : List ℕ → List ℕ → ℕ → Bool
row_clash froms tos i = any_below (λ j. bad_after (row_entry froms tos j) (row_entry froms tos i)) i

abbrev pub row_bad : List ℕ → List ℕ → List ℕ → List ℕ → ℕ → Bool
row_bad aggregates numbers froms tos i = row_alone aggregates numbers (get_or froms i 0) (get_or tos i 0) || row_clash froms tos i

-- The stops that a function's parameters hold: of files in no aggregate, and of wants as handed in.
abbrev pub plain_stops_at : {S L N C : Type 0} → Lent S → Lent L → Lent N → Lent C → List Stop
plain_stops_at starts lengths numbers counts = lone_stops starts.entry.now lengths.entry.now numbers.entry.now counts.entry.now

abbrev pub want_stops_at : {S L A N C : Type 0} → Lent S → Lent L → Lent A → Lent N → Lent C → List Stop
want_stops_at starts lengths aggregates numbers counts =
    want_stops starts.entry.now lengths.entry.now aggregates.entry.now numbers.entry.now counts.entry.now
