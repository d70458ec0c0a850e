-- The table and the caller's rows, for the contracts of private functions. No public contract cites this file.
use Rattle.std.specs.Prelude.{ℕ, suc, ◌+◌, ◌-◌, ◌*◌, ◌≤◌, ◌<◌, ◌^◌, ◌≡◌, false, ◌||◌, ◌⊎◌, List, [], ◌∷◌, length, get_or, take, drop, ltb}
use Rattle.refusals.specs.declared.Refusal.TheVariants.{FileRows, ShortRow, ShortRoom}
use Rattle.refusals.specs.declared.Verdict.{Verdict}
use Rattle.refusals.specs.Refusals.{is_refusal, refuse_if, first_of}
use Rattle.runs.specs.Run.{Run, Stop, total, end_at, last_place, highest_turn, most_wants, most_reads}
use Rattle.runs.specs.Alone.{alone_of, lone_stops}
use Rattle.runs.specs.AnyHead.{smaller, judge_any_of}
use Rattle.runs.specs.Private.{InTable}
use Rattle.runs.specs.Lists.{Detour, list_of}
use Rattle.least.specs.Slopes.{Supported}
use Rattle.least.specs.Recurrence.{W, lower, value, candidate, choice, plan_detours, best, file_at, left_at, right_at, count_at}

-- The first of the engine's checks: 1 for over 64 files, then 1 to 7 of a head anywhere.
unfoldable pub judge_table_of : Run → Verdict
judge_table_of r = first_of (refuse_if (ltb most_wants (length r.starts)) FileRows ∷ judge_any_of r ∷ [])

-- The rows of an accepted run with a head anywhere, of no more files than a run has stops, and the number of its reads.
pub record AnyRun (starts lengths numbers counts : List ℕ) (head turn reads : ℕ) : Type 0 where
  pub few : length starts ≤ most_wants
  pub accepts : is_refusal (judge_any_of (alone_of starts lengths numbers counts head turn)).refusal ≡ false
  pub whole : reads ≡ total counts

-- The first n entries of a row hold what a function says.
pub record FirstHold (n : ℕ) (f : ℕ → ℕ) (row : List ℕ) : Type 0 where
  pub long : n ≤ length row
  pub each : (i : ℕ) → i < n → get_or row i 0 ≡ f i

-- Where a file starts as a head meets it, and how long it is from there to its end.
abbrev pub met_start : ℕ → List ℕ → ℕ → ℕ
met_start head starts i = smaller (get_or starts i 0) head

abbrev pub met_length : ℕ → List ℕ → List ℕ → ℕ → ℕ
met_length head starts lengths i = get_or lengths i 0 + (get_or starts i 0 - met_start head starts i)

-- Two rows that hold files as a head meets them.
pub record Met (head : ℕ) (starts lengths lefts spans : List ℕ) : Type 0 where
  pub as_many : length lefts ≡ length starts
  pub even : length spans ≡ length starts
  pub left : (i : ℕ) → i < length starts → get_or lefts i 0 ≡ met_start head starts i
  pub end : (i : ℕ) → i < length starts → end_at lefts spans i ≡ end_at starts lengths i

-- Rows of an accepted run as its head meets them, and the number of their reads. All that follows speaks of such rows.
pub record Judged (lefts spans numbers counts : List ℕ) (turn reads : ℕ) : Type 0 where
  pub starts : List ℕ
  pub lengths : List ℕ
  pub head : ℕ
  pub run : AnyRun starts lengths numbers counts head turn reads
  pub met : Met head starts lengths lefts spans

-- Where a stop starts and ends, read off the rows.
abbrev pub start_at : List ℕ → List ℕ → ℕ → ℕ
start_at starts numbers i = get_or starts (get_or numbers i 0 - 1) 0

abbrev pub stop_end : List ℕ → List ℕ → List ℕ → ℕ → ℕ
stop_end starts lengths numbers i = end_at starts lengths (get_or numbers i 0 - 1)

-- A stop of the rows.
pub record IsStop (starts numbers : List ℕ) (i : ℕ) : Type 0 where
  pub within : i < length numbers
  pub named : InTable starts (get_or numbers i 0)

pub record TripFits (starts lengths numbers : List ℕ) (turn c b : ℕ) : Type 0 where
  pub from : IsStop starts numbers c
  pub to : IsStop starts numbers b
  pub even : length starts ≡ length lengths
  pub onward : start_at starts numbers c ≤ stop_end starts lengths numbers b
  pub near : stop_end starts lengths numbers b ≤ last_place
  pub cheap : turn ≤ highest_turn

pub record EarlyFits (starts numbers counts : List ℕ) (a b : ℕ) : Type 0 where
  pub from : IsStop starts numbers a
  pub to : IsStop starts numbers b
  pub even : length numbers ≡ length counts
  pub onward : start_at starts numbers a ≤ start_at starts numbers b
  pub near : start_at starts numbers b ≤ last_place
  pub few : get_or counts b 0 ≤ most_reads

-- The reads of the first n counts.
unfoldable pub reads_in : List ℕ → ℕ → ℕ
reads_in counts n = W (λ i. get_or counts i 0) n

-- The first word of row (a, b), for k stops; and the size of the table.
abbrev pub row_at : ℕ → ℕ → ℕ → ℕ → ℕ
row_at k reads a b = (a * k + b) * (reads + 1)

abbrev pub table_size : ℕ → ℕ → ℕ
table_size k reads = k * k * (reads + 1)

pub record RowFits (k reads a b : ℕ) : Type 0 where
  pub left : a < k
  pub right : b < k
  pub few : k ≤ 64
  pub most : reads ≤ most_reads

-- No word but the n from `at` has changed.
pub record Kept (at n : ℕ) (before after : List ℕ) : Type 0 where
  pub same : length after ≡ length before
  pub below : (i : ℕ) → i < at → get_or after i 0 ≡ get_or before i 0
  pub above : (i : ℕ) → at + n ≤ i → get_or after i 0 ≡ get_or before i 0

-- And those hold what a function says.
pub record Written (at n : ℕ) (f : ℕ → ℕ) (before after : List ℕ) : Type 0 where
  pub kept : Kept at n before after
  pub words : (s : ℕ) → s < n → get_or after (at + s) 0 ≡ f s

-- Two runs of n words that do not meet.
abbrev pub Apart : ℕ → ℕ → ℕ → Type 0
Apart p q n = (p + n ≤ q) ⊎ (q + n ≤ p)

-- What the choice comes to for s reads skipped, by the words that it is made of.
abbrev pub choice_sum : ℕ → ℕ → ℕ → ℕ → List ℕ → ℕ → ℕ
choice_sum inner rest base slope room s = base + slope * s + get_or room (inner + s) 0 + get_or room (rest + s) 0

-- What a row needs to be made of another, a sum on top of each word; and of two others.
pub record SkipFits (cell from more n : ℕ) (room : List ℕ) : Type 0 where
  pub cell_in : cell + n ≤ length room
  pub from_in : from + n ≤ length room
  pub apart : Apart from cell n
  pub fits : (s : ℕ) → s < n → more + get_or room (from + s) 0 < 2 ^ 64

pub record LowerFits (cell inner rest base slope n : ℕ) (room : List ℕ) : Type 0 where
  pub cell_in : cell + n ≤ length room
  pub inner_in : inner + n ≤ length room
  pub rest_in : rest + n ≤ length room
  pub inner_apart : Apart inner cell n
  pub rest_apart : Apart rest cell n
  pub wait_fits : base + slope * n < 2 ^ 64
  pub fits : (s : ℕ) → s < n → choice_sum inner rest base slope room s < 2 ^ 64

abbrev pub lowered : ℕ → ℕ → ℕ → ℕ → ℕ → List ℕ → ℕ → ℕ
lowered cell inner rest base slope room s = lower (get_or room (cell + s) 0) (choice_sum inner rest base slope room s)

pub record WordFits (inner rest base slope s : ℕ) (room : List ℕ) : Type 0 where
  pub inner_in : inner + s < length room
  pub rest_in : rest + s < length room
  pub fits : choice_sum inner rest base slope room s < 2 ^ 64

-- A row is the lower edge of lines, and so is the sum of the two that a choice is made of. The tests of a block need room for n times a word.
pub record Edges (cell inner rest n : ℕ) (room : List ℕ) : Type 0 where
  pub row : Supported (λ s. get_or room (cell + s) 0) n
  pub sum : Supported (λ s. get_or room (inner + s) 0 + get_or room (rest + s) 0) n
  pub times_fit : (s : ℕ) → s < n → get_or room (cell + s) 0 * n < 2 ^ 64

-- The first r of n words are none that the choice lowers.
pub record Unlowered (cell inner rest base slope n : ℕ) (room : List ℕ) (r : ℕ) : Type 0 where
  pub within : r ≤ n
  pub stay : (s : ℕ) → s < r → get_or room (cell + s) 0 ≤ choice_sum inner rest base slope room s

-- A block of n words: r of them, and one at least.
pub record Block (n r : ℕ) : Type 0 where
  pub within : r ≤ n
  pub some : 0 < n → 0 < r

-- The words to lower after those that stay: a block where none stays.
pub record Falling (stay n r : ℕ) : Type 0 where
  pub within : r ≤ n
  pub some : stay ≡ 0 → 0 < n → 0 < r
  pub none : 0 < stay → r ≡ 0

-- The choice is laid over the first r of n words, and one at least.
pub record Laid (cell inner rest base slope n : ℕ) (room after : List ℕ) (r : ℕ) : Type 0 where
  pub within : r ≤ n
  pub some : 0 < r
  pub written : Written cell r (lowered cell inner rest base slope room) room after

-- What the words of the table are to be: the least that the window (a, b] can cost, and what a choice at stop b + 1 comes to.
abbrev pub worth : List Stop → ℕ → ℕ → ℕ → ℕ → ℕ
worth stops turn a b s = value (left_at stops) (right_at stops) (count_at stops) turn a b s

abbrev pub choice_worth : List Stop → ℕ → ℕ → ℕ → ℕ → ℕ → ℕ
choice_worth stops turn a b s c = candidate (left_at stops) (right_at stops) (count_at stops) turn (worth stops turn) a b s c

-- The reads of the first n stops.
abbrev pub reads_first : List Stop → ℕ → ℕ
reads_first stops n = W (count_at stops) n

-- Row (a, b) holds its worth, for every s that can be skipped right of b.
abbrev pub CellsHold : List Stop → ℕ → ℕ → ℕ → List ℕ → ℕ → ℕ → Type 0
CellsHold stops turn k reads room a b = (s : ℕ) → s + reads_first stops (suc b) ≤ reads → get_or room (row_at k reads a b + s) 0 ≡ worth stops turn a b s

-- The columns up to b are right.
abbrev pub Columns : List Stop → ℕ → ℕ → ℕ → List ℕ → ℕ → Type 0
Columns stops turn k reads room b = (a' b' : ℕ) → b' ≤ b → a' ≤ suc b' → CellsHold stops turn k reads room a' b'

-- The same but for the row of the empty window (b + 1, b].
abbrev pub Done : List Stop → ℕ → ℕ → ℕ → List ℕ → ℕ → Type 0
Done stops turn k reads room b = (a' b' : ℕ) → b' ≤ b → a' ≤ b → a' ≤ suc b' → CellsHold stops turn k reads room a' b'

-- Words past the table have not changed.
pub record Beyond (size : ℕ) (before after : List ℕ) : Type 0 where
  pub same : length after ≡ length before
  pub later : (i : ℕ) → size ≤ i → get_or after i 0 ≡ get_or before i 0

-- A row of the table that is to be filled: row (a, b + 1), for n numbers of reads skipped, where the columns up to b are right.
pub record RowTask (starts lengths numbers counts : List ℕ) (turn reads : ℕ) (room : List ℕ) (a b n : ℕ) : Type 0 where
  pub judged : Judged starts lengths numbers counts turn reads
  pub window : a ≤ b
  pub inside : b + 1 < length numbers
  pub big : table_size (length numbers) reads ≤ length room
  pub columns : Columns (lone_stops starts lengths numbers counts) turn (length numbers) reads room b
  pub span : n + reads_in counts (b + 2) ≤ reads + 1

-- A detour from c to stop b + 1, w reads standing left of c.
pub record DetourFrom (counts : List ℕ) (a b c w : ℕ) : Type 0 where
  pub after : a < c
  pub up_to : c ≤ b + 1
  pub left : w ≡ reads_in counts c

-- The n words of a row so far, from `cell`: a lower edge of lines, and none larger than a choice can come to.
pub record SoFar (cell n : ℕ) (room : List ℕ) : Type 0 where
  pub edge : Supported (λ s. get_or room (cell + s) 0) n
  pub small : (s : ℕ) → s < n → get_or room (cell + s) 0 ≤ 2 * (highest_turn + 2 * last_place) * most_reads

-- A column of the table that is to be filled: column b + 1, where those up to b are done.
pub record ColumnTask (starts lengths numbers counts : List ℕ) (turn reads : ℕ) (room : List ℕ) (b n : ℕ) : Type 0 where
  pub judged : Judged starts lengths numbers counts turn reads
  pub inside : b + 1 < length numbers
  pub big : table_size (length numbers) reads ≤ length room
  pub done : Done (lone_stops starts lengths numbers counts) turn (length numbers) reads room b
  pub span : n + reads_in counts (b + 2) ≡ reads + 1

-- The columns up to b are done, and words past the table are as they were.
pub record DoneUpTo (starts lengths numbers counts : List ℕ) (turn reads : ℕ) (before after : List ℕ) (b : ℕ) : Type 0 where
  pub done : Done (lone_stops starts lengths numbers counts) turn (length numbers) reads after b
  pub beyond : Beyond (table_size (length numbers) reads) before after

-- Every word of the table that reading off can ask for is right.
pub record Filled (starts lengths numbers counts : List ℕ) (turn reads : ℕ) (room : List ℕ) : Type 0 where
  pub judged : Judged starts lengths numbers counts turn reads
  pub big : table_size (length numbers) reads ≤ length room
  pub holds : (a b : ℕ) → a < length numbers → b < length numbers → a ≤ suc b → CellsHold (lone_stops starts lengths numbers counts) turn (length numbers) reads room a b

-- A window that reading off asks for: (a, b + 1], with s reads skipped right of it.
pub record Asked (starts lengths numbers counts : List ℕ) (turn reads : ℕ) (room : List ℕ) (a b s : ℕ) : Type 0 where
  pub filled : Filled starts lengths numbers counts turn reads room
  pub window : a ≤ b
  pub inside : b + 1 < length numbers
  pub span : s + reads_in counts (b + 2) ≤ reads

-- The choice that the least plan makes at stop b + 1, and its list for a window.
abbrev pub chosen : List Stop → ℕ → ℕ → ℕ → ℕ → ℕ
chosen stops turn a b s = choice (left_at stops) (right_at stops) (count_at stops) turn a b s

abbrev pub list_at : List Stop → ℕ → ℕ → ℕ → ℕ → List Detour
list_at stops turn a b s = plan_detours (file_at stops) (best (left_at stops) (right_at stops) (count_at stops) turn a b s) b

-- The first n entries of two rows hold a list, and the later ones are as they were.
pub record ListWritten (list : List Detour) (n : ℕ) (froms tos froms' tos' : List ℕ) : Type 0 where
  pub fits_from : n ≤ length froms'
  pub fits_to : n ≤ length tos'
  pub entries : list_of (take n froms') (take n tos') ≡ list
  pub later_from : drop n froms' ≡ drop n froms
  pub later_to : drop n tos' ≡ drop n tos

-- Rows long enough for so many wants.
pub record LongRows (wants froms tos : ℕ) : Type 0 where
  pub for_starts : wants ≤ froms + 1
  pub for_ends : wants ≤ tos + 1

-- 8, then 9, by the rows' lengths.
unfoldable pub list_rows_verdict : ℕ → ℕ → ℕ → ℕ → ℕ → Verdict
list_rows_verdict wants reads froms tos room =
    first_of
    (refuse_if (ltb froms (wants - 1) || ltb tos (wants - 1)) ShortRow
    ∷ refuse_if (ltb room (table_size wants reads)) ShortRoom
    ∷ [])
