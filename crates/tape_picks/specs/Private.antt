-- What the private functions ask and find. No public contract cites this file.
use Rattle.std.specs.Prelude.{ℕ, suc, ◌+◌, ◌-◌, ◌≤◌, ◌<◌, ◌≡◌, Bool, true, false, cond, Option, Some, None, List, [], ◌∷◌, ◌++◌, length, get_or, set, replicate, eqb, leb}
use Prim.Native.Char.{code}
use Rattle.text_order.specs.declared.Range.{Range}
use Rattle.text_order.specs.Order.{line_at, path_at, narrowed_in, narrowed_all}
use Rattle.text_order.specs.Promises.{PathsInOrder, RangeHolds}
use Rattle.tape_markup.specs.declared.Place.{Place}
use Rattle.tape_markup.specs.Places.{PlaceIn, tokens_at}
use Rattle.tape_markup.specs.Tree.{Forest, innermost, enclosing, most_open, tree_of}
use Rattle.tape_markup.specs.Promises.{depth}
use Rattle.tape_spans.specs.declared.Extent.{Extent}
use Rattle.tape_spans.specs.declared.Span.{Span}
use Rattle.tape_spans.specs.Spans.{no_span, span_with}
use Rattle.tape_files.specs.declared.ExtentSaid.{ExtentSaid}
use Rattle.tape_files.specs.Index.{Level, outside, in_index, in_directory, in_contents, every, is_good_extent, extents_of, index_files}
use Rattle.tape_files.specs.NamedFiles.{NamedFile, own_name, named_in, named_files}
use Rattle.tape_files.specs.Elements.{frames_at, inside, Left, level_at}
use Rattle.tape_files.specs.Values.{value_in, extent_of, extent_is_good}
use Rattle.tape_picks.specs.declared.Tape.{Tape}
use Rattle.tape_picks.specs.declared.Pick.{Pick}
use Rattle.tape_picks.specs.declared.walk.Walk.{Walk}
use Rattle.tape_picks.specs.declared.walk.Met.{Met}
use Rattle.tape_picks.specs.Picks.{files_named, no_pick, several_picks, one_pick, pick_of, answered_row}

-- What three rows hold of a line.
abbrev pub pick_in : List ℕ → List ℕ → List ℕ → ℕ → Pick
pick_in states starts ends line = record { state = get_or states line 0; start = get_or starts line 0; end = get_or ends line 0 }

-- One file more of a line's path.
unfoldable pub noted_pick : Pick → Span → Bool → Pick
noted_pick pick span here = cond here (cond (eqb pick.state 0) (one_pick span) several_picks) pick

-- Whether the path at a place of the order ends where a range does.
abbrev pub ends_at : List ℕ → List ℕ → ℕ → ℕ → Bool
ends_at starts ends line length = leb (get_or ends line 0 - get_or starts line 0) length

-- An order of so many lines: each of them stands in it once.
pub record OrderHeld (order : List ℕ) (count : ℕ) : Type 0 where
  pub room : count ≤ length order
  pub within : (k : ℕ) → k < count → get_or order k 0 < count
  pub apart : (j k : ℕ) → j < count → k < count → get_or order j 0 ≡ get_or order k 0 → j ≡ k
  pub found : (i : ℕ) → i < count → (j : ℕ) × (j < count) × (get_or order j 0 ≡ i)

-- Two and three rows with an entry for each line.
abbrev pub BothFit : ℕ → List ℕ → List ℕ → Type 0
BothFit count starts ends = (count ≤ length starts) × (count ≤ length ends)

abbrev pub AllFit : ℕ → List ℕ → List ℕ → List ℕ → Type 0
AllFit count states starts ends = (count ≤ length states) × BothFit count starts ends

-- A list whose paths stand in order, each between two positions.
pub record ListHeld (list starts ends order : List ℕ) (count : ℕ) : Type 0 where
  pub sorted : PathsInOrder (path_at list starts ends order) count
  pub lines : OrderHeld order count
  pub rows : BothFit count starts ends
  pub long : (k : ℕ) → k < count → length (path_at list starts ends order k) ≡ get_or ends (get_or order k 0) 0 - get_or starts (get_or order k 0) 0
  pub short : (k : ℕ) → k < count → length (path_at list starts ends order k) < 18446744073709551615

-- The rows before and after a file is noted at the places of a range: those that end there have one file more, all others are as they were.
pub record FileNoted (from to order : List ℕ) (count : ℕ) (range : Range) (span : Span) (before after : ℕ → Pick) : Type 0 where
  pub inside : (k : ℕ) → k < count → range.low ≤ k → k < range.high
      → after (get_or order k 0) ≡ noted_pick (before (get_or order k 0)) span (ends_at from to (get_or order k 0) range.length)
  pub outside : (k : ℕ) → k < count → ((range.low ≤ k) × (k < range.high) → ⊥) → after (get_or order k 0) ≡ before (get_or order k 0)

-- The range of a file with one extent more, with many more, and with none yet; none where one of them is bad.
abbrev pub said_extent : ExtentSaid → Extent
said_extent e = record { partition = value_in e.partition; block = value_in e.block; offset = value_in e.offset; count = value_in e.count }

unfoldable pub ranged_with : Tape → Option Span → ExtentSaid → Option Span
ranged_with tape None e = None
ranged_with tape (Some span) e = cond (extent_is_good e) (Some (span_with tape.unit tape.size tape.partition span (said_extent e))) None

unfoldable pub ranged_from : Tape → Option Span → List Forest → Option Span
ranged_from tape f [] = f
ranged_from tape f (extent ∷ extents) = ranged_from tape (ranged_with tape f (extent_of extent)) extents

abbrev pub no_file : Option Span
no_file = Some no_span

-- The range with a name, and below an element that is looked at.
unfoldable pub named_range : List ℕ → List ℕ → List ℕ → List ℕ → Range → Forest → Range
named_range list starts ends order range held = cond (leb range.high range.low) range (narrowed_all list starts ends order range (own_name held))

abbrev pub is_contents : Level → Bool
is_contents outside = false
is_contents in_index = false
is_contents in_directory = false
is_contents in_contents = true

abbrev pub slashed : List ℕ → List ℕ → List ℕ → List ℕ → Range → Range
slashed list starts ends order range = narrowed_in list starts ends order range (code "/")

unfoldable pub below_range : List ℕ → List ℕ → List ℕ → List ℕ → Range → ℕ → Forest → Range
below_range list starts ends order range depth held = cond (is_contents (level_at depth)) (slashed list starts ends order (named_range list starts ends order range held)) range

-- A walk at another place, past the end of an element, where it may be over, and in an element.
abbrev pub moved_to : Walk → Place → Walk
moved_to walk place = record { depth = walk.depth; place = place; ranges = walk.ranges }

abbrev pub out_at : Walk → Place → Walk
out_at walk place = record { depth = walk.depth - 1; place = place; ranges = walk.ranges }

unfoldable pub left_to : Walk → Place → Option Walk
left_to walk place = cond (eqb walk.depth 0) None (Some (out_at walk place))

abbrev pub entered_at : Walk → Place → Range → Walk
entered_at walk place range =
    record { depth = walk.depth + 1; place = place; ranges = set walk.ranges (walk.depth + 1) range }

abbrev pub no_range : Range
no_range = record { low = 0; high = 0; length = 0 }

abbrev pub passed_by : Option Walk → Met
passed_by walk = record { walk = walk; range = no_range; file = no_file }

-- The files from a place on, in the elements around it that are looked at, innermost first, with the path so far in each.
unfoldable pub named_under : List (List ℕ) → List Forest → List NamedFile
named_under [] left = []
named_under (own ∷ outer) left = named_in (innermost left) (level_at (length outer)) own ++ named_under outer (enclosing left)

unfoldable pub named_left : List ℕ → List (List ℕ) → Option Walk → List NamedFile
named_left text paths None = []
named_left text paths (Some walk) = named_under paths (frames_at text walk.place)

-- No more than 32 elements are open there or anywhere further on.
abbrev pub Shallow : List (List ℕ) → List Forest → Type 0
Shallow [] left = Unit {0}
Shallow (own ∷ outer) left = (length outer + depth (innermost left) ≤ most_open) × Shallow outer (enclosing left)

-- The range of each path so far.
abbrev pub RangesFor : (ℕ → List ℕ) → ℕ → List (List ℕ) → List Range → Type 0
RangesFor path count [] ranges = Unit {0}
RangesFor path count (own ∷ outer) ranges = RangeHolds path count own (get_or ranges (length outer) no_range) × RangesFor path count outer ranges

pub record WalkAt (text : List ℕ) (path : ℕ → List ℕ) (count : ℕ) (own : List ℕ) (outer : List (List ℕ)) (walk : Walk) : Type 0 where
  pub deep : walk.depth ≡ length outer
  pub within : PlaceIn text walk.place
  pub shallow : Shallow (own ∷ outer) (frames_at text walk.place)
  pub ranges : RangesFor path count (own ∷ outer) walk.ranges
  pub room : length walk.ranges ≡ 33

pub record SomeWalk (text : List ℕ) (path : ℕ → List ℕ) (count : ℕ) (walk : Walk) : Type 0 where
  pub own : List ℕ
  pub outer : List (List ℕ)
  pub at : WalkAt text path count own outer walk

-- How much is left of a walk: each element met takes a token, each left goes outwards.
unfoldable pub walk_size : List ℕ → Option Walk → ℕ
walk_size text None = 0
walk_size text (Some walk) = suc (length (tokens_at text walk.place) + length (tokens_at text walk.place) + walk.depth)

-- A file that is met, or none: the range of its path, and its range on the tape where its extents are good.
abbrev pub FileMet : (ℕ → List ℕ) → ℕ → Tape → List NamedFile → Met → Type 0
FileMet path count tape [] met = (met.range.high ≤ met.range.low) × (met.range.high ≤ count) × (met.file ≡ no_file)
FileMet path count tape (f ∷ []) met = RangeHolds path count f.path met.range × (met.file ≡ ranged_from tape no_file f.extents)
FileMet path count tape (f ∷ g ∷ more) met = ⊥

pub record MetAt (text : List ℕ) (path : ℕ → List ℕ) (count : ℕ) (tape : Tape) (paths : List (List ℕ)) (walk : Walk) (r : Met) : Type 0 where
  pub own : List ℕ
  pub outer : List (List ℕ)
  pub files : List NamedFile
  pub at : (next : Walk) → r.walk ≡ Some next → WalkAt text path count own outer next
  pub left : named_under paths (frames_at text walk.place) ≡ files ++ named_left text (own ∷ outer) r.walk
  pub met : FileMet path count tape files r
  pub fewer : walk_size text r.walk < walk_size text (Some walk)

-- A file read: the walk past its end, the range of its path, and what its extents come to.
pub record FileRead (text : List ℕ) (tape : Tape) (named : Range) (walk : Walk) (inner : Place) (r : Met) : Type 0 where
  pub after : Place
  pub walked : r.walk ≡ Some (moved_to walk after)
  pub left : Left text inner after
  pub range : r.range ≡ named
  pub file : r.file ≡ ranged_from tape no_file (extents_of (inside text inner))

abbrev pub MeetsAt : List ℕ → (ℕ → List ℕ) → ℕ → Tape → Walk → Met → Type 0
MeetsAt text path count tape walk r = (own : List ℕ) (outer : List (List ℕ)) → WalkAt text path count own outer walk → MetAt text path count tape (own ∷ outer) walk r

-- The walk before its first step: every path may begin so.
abbrev pub walk_start : ℕ → Walk
walk_start count = record { depth = 0; place = Place.Text 0; ranges = replicate 33 (record { low = 0; high = count; length = 0 }) }

-- No file is noted yet.
abbrev pub NoneNoted : List ℕ → ℕ → (ℕ → Pick) → Type 0
NoneNoted order count rows = (k : ℕ) → k < count → rows (get_or order k 0) ≡ no_pick

-- What the path of a line comes to in an index.
abbrev pub pick_at : Tape → List ℕ → List ℕ → Pick
pick_at tape index path = pick_of tape (files_named path (named_files (tree_of index)))

-- All files noted: whether all are good, and then what each line comes to.
pub record Gathered (tape : Tape) (index list starts ends order : List ℕ) (count : ℕ) (good : Bool) (rows : ℕ → Pick) : Type 0 where
  pub judged : good ≡ every (every is_good_extent) (index_files (tree_of index))
  pub notes : good ≡ true → (k : ℕ) → k < count → rows (get_or order k 0) ≡ pick_at tape index (path_at list starts ends order k)

-- The same handed over, by line.
pub record Searched (tape : Tape) (index list from to : List ℕ) (count : ℕ) (states starts ends : List ℕ) (good : Bool) (states' starts' ends' : List ℕ) : Type 0 where
  pub judged : good ≡ every (every is_good_extent) (index_files (tree_of index))
  pub state : states' ≡ answered_row (λ i. (pick_at tape index (line_at list from to i)).state) (cond good count 0) states
  pub start : starts' ≡ answered_row (λ i. (pick_at tape index (line_at list from to i)).start) (cond good count 0) starts
  pub end : ends' ≡ answered_row (λ i. (pick_at tape index (line_at list from to i)).end) (cond good count 0) ends
