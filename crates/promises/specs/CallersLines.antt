-- Readers of single lines for a caller in Rattle, at any byte of any text; and of a tape's table, in any two rows, neighbours that overlap and one file more.
use Rattle.std.specs.Prelude.{ℕ, suc, ◌+◌, ◌*◌, ◌^◌, ◌≤◌, ◌<◌, ◌≡◌, true, false, ◌⊎◌, ◌↔◌, List, [], ◌∷◌, ◌++◌, length, get_or, drop, Option, Some, None}
use Rattle.text_bytes.specs.Text.{line_feed}
use Rattle.text_lines.specs.declared.NumberLine.{NumberLine}
use Rattle.text_lines.specs.Found.{NumberLineFound}
use Rattle.sheet_reader.specs.declared.NameLine.{NameLine}
use Rattle.sheet_reader.specs.declared.RuleLine.{RuleLine}
use Rattle.sheet_reader.specs.Lines.{tape_key, turn_key, rule_key, sweep_text, least_text, is_turn_line, turn_in}
use Rattle.sheet_reader.specs.Found.{NameLineFound, RuleLineFound}
use Rattle.tape_ranges.specs.declared.File.{File}
use Rattle.tape_ranges.specs.declared.Tally.{Tally}
use Rattle.tape_ranges.specs.Ranges.{file_start, kept_tally, kept_row, ranges_from, neighbour_overlap}
use Rattle.demands.specs.Lines.{Name, NumberOrNothing, RuleName}
use Rattle.demands.specs.SheetLines.{PriceText}

-- From a byte of a text on stand this key, a value of this kind and an LF; the next line starts behind that.
pub record StandsAt (key : List ℕ) (Kind : List ℕ → Type 0) (text : List ℕ) (at next : ℕ) : Type 0 where
  pub value : List ℕ
  pub is : drop at text ≡ key ++ value ++ (line_feed ∷ drop next text)
  pub within : next ≤ length text
  pub kind : Kind value

-- No such line stands there, whatever follows it.
abbrev pub NoLineAt : List ℕ → (List ℕ → Type 0) → List ℕ → ℕ → Type 0
NoLineAt key Kind text at = (next : ℕ) → StandsAt key Kind text at next → ⊥

-- The price of a turn: nothing, which is the drives' own, or a number.
abbrev pub TurnLineTold : List ℕ → ℕ → Option NumberLine → Type 0
TurnLineTold text at (Some line) = StandsAt turn_key (λ value. NumberOrNothing value × PriceText line.number value) text at line.next
TurnLineTold text at None = NoLineAt turn_key NumberOrNothing text at

abbrev pub TurnLineIsRead : Type 0
TurnLineIsRead = (text : List ℕ) (at : ℕ) (line : Option NumberLine) → NumberLineFound is_turn_line turn_in text at line → TurnLineTold text at line

-- The rule: the retired one, or the least.
abbrev pub RuleLineTold : List ℕ → ℕ → Option RuleLine → Type 0
RuleLineTold text at (Some line) = StandsAt rule_key (λ value. ((value ≡ sweep_text) × (line.sweep ≡ true)) ⊎ ((value ≡ least_text) × (line.sweep ≡ false))) text at line.next
RuleLineTold text at None = NoLineAt rule_key RuleName text at

abbrev pub RuleLineIsRead : Type 0
RuleLineIsRead = (text : List ℕ) (at : ℕ) (line : Option RuleLine) → RuleLineFound text at line → RuleLineTold text at line

-- The tape's name, at the front of a text: where it ends, behind the five bytes of its key.
abbrev pub TapeLineTold : List ℕ → Option NameLine → Type 0
TapeLineTold text (Some line) = StandsAt tape_key (λ value. Name value × (line.end ≡ 5 + length value)) text 0 line.next
TapeLineTold text None = NoLineAt tape_key Name text 0

abbrev pub TapeLineIsRead : Type 0
TapeLineIsRead = (text : List ℕ) (line : Option NameLine) → NameLineFound text line → TapeLineTold text line

-- Two neighbours that both rows have: the earlier one ends behind the start of the later one.
pub record NeighboursOverlap (starts lengths : List ℕ) : Type 0 where
  pub earlier : ℕ
  pub first : suc earlier < length starts
  pub second : suc earlier < length lengths
  pub over : get_or starts (suc earlier) 0 < get_or starts earlier 0 + get_or lengths earlier 0

abbrev pub OverlapIsTold : Type 0
OverlapIsTold = (starts lengths : List ℕ) → (neighbour_overlap (ranges_from starts lengths) ≡ true) ↔ NeighboursOverlap starts lengths

-- A file that can be kept: it ends at 2 to the 40 or before, and both rows have an entry behind those in use.
pub record CanBeKept (tally : Tally) (start bytes : ℕ) (starts lengths : List ℕ) : Type 0 where
  pub near : start + bytes ≤ 2 ^ 40
  pub first : tally.kept < length starts
  pub second : tally.kept < length lengths

-- Its place among the entries in use: before the first that starts behind it.
pub record PlaceAmong (kept start : ℕ) (starts : List ℕ) (place : ℕ) : Type 0 where
  pub within : place ≤ kept
  pub earlier : (i : ℕ) → i < place → get_or starts i 0 ≤ start
  pub later : place < kept → start < get_or starts place 0

-- A value put in there: the entries in use from there on move up by one, every other one is as it was.
pub record PutIn (kept place value : ℕ) (row row' : List ℕ) : Type 0 where
  pub long : length row' ≡ length row
  pub before : (i : ℕ) → i < place → get_or row' i 0 ≡ get_or row i 0
  pub here : get_or row' place 0 ≡ value
  pub moved : (i : ℕ) → place ≤ i → i < kept → get_or row' (suc i) 0 ≡ get_or row i 0
  pub behind : (i : ℕ) → kept < i → get_or row' i 0 ≡ get_or row i 0

-- One file more in two rows.
pub record OneFileMore (tally : Tally) (start bytes : ℕ) (starts lengths : List ℕ) (tally' : Tally) (starts' lengths' : List ℕ) : Type 0 where
  pub place : ℕ
  pub among : PlaceAmong tally.kept start starts place
  pub left : PutIn tally.kept place start starts starts'
  pub right : PutIn tally.kept place bytes lengths lengths'
  pub counted : tally' ≡ record { good = tally.good; several = tally.several; far = tally.far; kept = suc tally.kept; empty = tally.empty; other = tally.other }

-- Else it is far, and both rows are as they were.
pub record NoFileMore (tally : Tally) (starts lengths : List ℕ) (tally' : Tally) (starts' lengths' : List ℕ) : Type 0 where
  pub left : starts' ≡ starts
  pub right : lengths' ≡ lengths
  pub told : tally' ≡ record { good = tally.good; several = tally.several; far = true; kept = tally.kept; empty = tally.empty; other = tally.other }

pub record FileTold (tally : Tally) (start bytes : ℕ) (starts lengths : List ℕ) (tally' : Tally) (starts' lengths' : List ℕ) : Type 0 where
  pub kept : CanBeKept tally start bytes starts lengths → OneFileMore tally start bytes starts lengths tally' starts' lengths'
  pub far : (CanBeKept tally start bytes starts lengths → ⊥) → NoFileMore tally starts lengths tally' starts' lengths'

-- A file starts at its block times the block size and its offset.
abbrev pub FileIsKept : Type 0
FileIsKept =
    (tally : Tally) (f : File) (size : ℕ) (starts lengths : List ℕ)
    → FileTold tally (f.block * size + f.offset) f.count starts lengths (kept_tally tally f size starts lengths)
    (kept_row tally f size starts lengths (file_start f size) starts) (kept_row tally f size starts lengths f.count lengths)

-- Two files of ten bytes each that touch; that overlap by a byte; and a third one without its length, which is no neighbour.
abbrev pub NeighboursWorked : Type 0
NeighboursWorked =
    (neighbour_overlap (ranges_from (0 ∷ 10 ∷ []) (10 ∷ 10 ∷ [])) ≡ false)
    × (neighbour_overlap (ranges_from (0 ∷ 9 ∷ []) (10 ∷ 10 ∷ [])) ≡ true)
    × (neighbour_overlap (ranges_from (0 ∷ 10 ∷ 15 ∷ []) (10 ∷ 10 ∷ [])) ≡ false)
