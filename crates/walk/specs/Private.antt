-- The legs of a list read off the caller's rows, for the contracts of private functions. No public contract cites this file.
use Rattle.std.specs.Prelude.{ℕ, suc, ◌-◌, ◌<◌, ◌≤◌, ◌≡◌, Bool, false, cond, ◌||◌, ◌&&◌, List, [], ◌∷◌, ◌++◌, length, get_or, leb}
use Rattle.walk.specs.declared.Leg.{Leg}
use Rattle.runs.specs.Run.{Run, end_at, goes_on, first_member, last_member, first_file, total, most_wants, most_reads, last_place, highest_turn, Stop, want_stops_of}
use Rattle.runs.specs.Rows.{Row, Lent, stop_at}
use Rattle.runs.specs.Lists.{list_of}
use Rattle.runs.specs.AnyHead.{smaller}
use Rattle.walk.specs.Walk.{Moves, time_of, leg_for}
use Rattle.walk.specs.Detours.{sweep_end}
use Rattle.walk.specs.AnyHead.{run_legs}
use Rattle.runs.specs.Private.{SoundTable, InTable}
use Rattle.walk.specs.declared.Head.{Head}
use Rattle.walk.specs.declared.Read.{Read}

-- Where a file's aggregate starts and where it ends.
abbrev pub left_of : List ℕ → List ℕ → ℕ → ℕ
left_of starts aggregates f = get_or starts (first_member aggregates (f - 1)) 0

abbrev pub right_of : List ℕ → List ℕ → List ℕ → ℕ → ℕ
right_of starts lengths aggregates f = end_at starts lengths (last_member aggregates (f - 1))

-- Where a leg from there begins, the head being at m at first: no further right than that.
abbrev pub leg_start : ℕ → List ℕ → List ℕ → ℕ → ℕ
leg_start m starts aggregates f = smaller (left_of starts aggregates f) m

-- The legs of a list, read off the rows.
unfoldable pub detour_legs : ℕ → List ℕ → List ℕ → List ℕ → List ℕ → List ℕ → List Leg
detour_legs m starts lengths aggregates [] tos = []
detour_legs m starts lengths aggregates (a ∷ froms) [] = []
detour_legs m starts lengths aggregates (a ∷ froms) (b ∷ tos) =
    record { left = leg_start m starts aggregates a; right = right_of starts lengths aggregates b } ∷ detour_legs m starts lengths aggregates froms tos

-- The sweep ends at `reach`.
unfoldable pub sweep_legs : ℕ → List ℕ → List ℕ → List ℕ → ℕ → List Leg
sweep_legs m starts aggregates [] reach = []
sweep_legs m starts aggregates (n ∷ ns) reach = record { left = leg_start m starts aggregates n; right = reach } ∷ []

unfoldable pub row_legs : ℕ → List ℕ → List ℕ → List ℕ → List ℕ → List ℕ → List ℕ → ℕ → List Leg
row_legs m starts lengths aggregates numbers froms tos reach =
    detour_legs m starts lengths aggregates froms tos ++ sweep_legs m starts aggregates numbers reach

-- The same, of the parameters that hold the rows: in a `requires`, and in an `ensures`.
abbrev pub legs_in : ℕ → Row → Row → Row → Row → Row → Row → ℕ → List Leg
legs_in m starts lengths aggregates numbers froms tos reach =
    row_legs m starts.now lengths.now aggregates.now numbers.now froms.now tos.now reach

abbrev pub legs_at : {S L A N F E : Type 0} → ℕ → Lent S → Lent L → Lent A → Lent N → Lent F → Lent E → ℕ → List Leg
legs_at m starts lengths aggregates numbers froms tos reach =
    legs_in m starts.entry lengths.entry aggregates.entry numbers.entry froms.entry tos.entry reach

-- The detours of parameters that hold the rows.
abbrev pub detours_at : {S L A F E : Type 0} → ℕ → Lent S → Lent L → Lent A → Lent F → Lent E → List Leg
detours_at m starts lengths aggregates froms tos =
    detour_legs m starts.entry.now lengths.entry.now aggregates.entry.now froms.entry.now tos.entry.now

abbrev pub leg_at : List Leg → ℕ → Leg
leg_at gs i = get_or gs i (record { left = 0; right = 0 })

-- Whether a stop's name lies from the start to the end of a detour, by numbers alone.
unfoldable pub read_by_number : List ℕ → List ℕ → ℕ → Bool
read_by_number [] tos first = false
read_by_number (a ∷ froms) [] first = false
read_by_number (a ∷ froms) (b ∷ tos) first = (leb a first && leb first b) || read_by_number froms tos first

-- A sound table with an aggregate number for each file; two rows of one length whose numbers all name its files, each the first of its
-- aggregate; and with them a row of wants.
pub record Tabled (starts lengths aggregates : List ℕ) : Type 0 where
  pub sound : SoundTable starts lengths
  pub rows : length starts ≡ length aggregates

pub record ListFits (starts lengths aggregates froms tos : List ℕ) : Type 0 where
  pub table : Tabled starts lengths aggregates
  pub even : length froms ≡ length tos
  pub lefts : (i : ℕ) → i < length froms → InTable starts (get_or froms i 0)
  pub rights : (i : ℕ) → i < length froms → InTable starts (get_or tos i 0)
  pub named : (i : ℕ) → i < length froms → (goes_on aggregates (get_or froms i 0 - 1) ≡ false) × (goes_on aggregates (get_or tos i 0 - 1) ≡ false)

pub record RowsFit (starts lengths aggregates numbers froms tos : List ℕ) : Type 0 where
  pub list : ListFits starts lengths aggregates froms tos
  pub wants : (i : ℕ) → i < length numbers → InTable starts (get_or numbers i 0)

-- Every wanted aggregate left of where a detour starts begins left of the head: no detour starts right of the head's own stop.
abbrev pub Behind : ℕ → List ℕ → List ℕ → List ℕ → List ℕ → Type 0
Behind m starts aggregates numbers froms =
    (i j : ℕ) → i < length froms → j < length numbers → first_file aggregates (get_or numbers j 0) < get_or froms i 0 → left_of starts aggregates (get_or numbers j 0) < m

-- A walk within the limits: so many legs, each on the tape, from a head place at a turn price.
pub record Walkable (gs : List Leg) (head turn : ℕ) : Type 0 where
  pub moves : Moves head gs
  pub few : length gs ≤ most_wants
  pub on_tape : (i : ℕ) → i < length gs → (leg_at gs i).right ≤ last_place
  pub near : head ≤ last_place
  pub cheap : turn ≤ highest_turn

-- What walking a list asks of the rows: numbers that name files, legs within the limits, and their number.
pub record WalkFits (starts lengths aggregates numbers froms tos : List ℕ) (reach head turn many : ℕ) : Type 0 where
  pub fit : RowsFit starts lengths aggregates numbers froms tos
  pub within : Walkable (row_legs head starts lengths aggregates numbers froms tos reach) head turn
  pub all : many ≡ length (row_legs head starts lengths aggregates numbers froms tos reach)

-- What pricing a judged list asks of a run: the same, its reads counted, and legs that are the list's.
pub record Priceable (r : Run) (froms tos : List ℕ) : Type 0 where
  pub fit : RowsFit r.starts r.lengths r.aggregates r.numbers froms tos
  pub few : length froms ≤ length r.numbers
  pub behind : Behind r.head r.starts r.aggregates r.numbers froms
  pub equal : length r.counts ≡ length r.numbers
  pub counted : total r.counts ≤ most_reads
  pub within : Walkable (run_legs r (list_of froms tos)) r.head r.turn
  pub legs : (reach : ℕ) → reach ≡ sweep_end (detour_legs r.head r.starts r.lengths r.aggregates froms tos) (want_stops_of r)
      → run_legs r (list_of froms tos) ≡ row_legs r.head r.starts r.lengths r.aggregates r.numbers froms tos reach

-- When a movement reads a file, and which of its legs does.
abbrev pub read_of : ℕ → Head → List Leg → Stop → Read
read_of price h gs s = record { time = time_of price h gs s; leg = leg_for gs s }

-- Names that rise.
abbrev pub Ascending : List Stop → Type 0
Ascending ss = (i : ℕ) → suc i < length ss → (stop_at ss i).file < (stop_at ss (suc i)).file

-- The name of the head's own stop; where there is none, the largest word, which no name passes.
unfoldable pub own_name : ℕ → List Stop → ℕ
own_name m [] = 18446744073709551615
own_name m (s ∷ ss) = cond (leb m s.start) s.file (own_name m ss)
