-- Row 11 of the refusal table as conditions: what must stand at each line of a run sheet, given the lines above it. Line i is the one
-- behind i others, so it has number i + 1.
use Rattle.std.specs.Prelude.{ℕ, suc, ◌+◌, ◌≤◌, ◌<◌, ◌≡◌, true, ◌⊎◌, ◌↔◌, List, [], ◌∷◌, ◌++◌}
use Rattle.text_bytes.specs.Text.{line_feed, comma, is_number, is_name, value_of}
use Rattle.text_lines.specs.Lines.{after_lines}
use Rattle.sheet_reader.specs.Lines.{tape_key, head_key, turn_key, rule_key, files_key, file_key, wants_key, want_key, sweep_text, least_text}
use Rattle.sheet_reader.specs.Sheet.{sheet_files, sheet_wants, first_bad_line}
use Rattle.demands.specs.RefusalTable.{FirstBad}

-- Behind i lines the sheet goes on with this key, a value of this kind and an LF. So no line that is missing or without LF is as described.
pub record Stands (key : List ℕ) (Kind : List ℕ → Type 0) (sheet : List ℕ) (i : ℕ) : Type 0 where
  pub value : List ℕ
  pub rest : List ℕ
  pub is : after_lines i sheet ≡ key ++ value ++ (line_feed ∷ rest)
  pub kind : Kind value

-- The kinds of values: a tape name; a number; a number, or nothing; a rule, the retired one or the least; a number up to a limit.
abbrev pub Name : List ℕ → Type 0
Name text = is_name text ≡ true

abbrev pub Number : List ℕ → Type 0
Number text = is_number text ≡ true

abbrev pub NumberOrNothing : List ℕ → Type 0
NumberOrNothing text = (text ≡ []) ⊎ Number text

abbrev pub RuleName : List ℕ → Type 0
RuleName text = (text ≡ sweep_text) ⊎ (text ≡ least_text)

abbrev pub UpTo : ℕ → List ℕ → Type 0
UpTo most text = Number text × (value_of text ≤ most)

-- A number, a comma and a value of another kind; so two numbers with a comma between them, and three with two commas.
pub record NumberAnd (Kind : List ℕ → Type 0) (text : List ℕ) : Type 0 where
  pub first : List ℕ
  pub others : List ℕ
  pub is : text ≡ first ++ (comma ∷ others)
  pub left : Number first
  pub right : Kind others

abbrev pub Pair : List ℕ → Type 0
Pair text = NumberAnd Number text

abbrev pub Triple : List ℕ → Type 0
Triple text = NumberAnd Pair text

-- Line i is bad: tape, head, turn, rule and files; as many file lines as it says; wants; as many want lines; then nothing.
pub data LineIsBad (sheet : List ℕ) (i : ℕ) : Type 0 where
  tape : i ≡ 0 → (Stands tape_key Name sheet i → ⊥) → LineIsBad sheet i
  head : i ≡ 1 → (Stands head_key Number sheet i → ⊥) → LineIsBad sheet i
  turn : i ≡ 2 → (Stands turn_key NumberOrNothing sheet i → ⊥) → LineIsBad sheet i
  rule : i ≡ 3 → (Stands rule_key RuleName sheet i → ⊥) → LineIsBad sheet i
  files : i ≡ 4 → (Stands files_key (UpTo 256) sheet i → ⊥) → LineIsBad sheet i
  file : 5 ≤ i → i < 5 + sheet_files sheet → (Stands file_key Triple sheet i → ⊥) → LineIsBad sheet i
  wants : i ≡ 5 + sheet_files sheet → (Stands wants_key (UpTo 64) sheet i → ⊥) → LineIsBad sheet i
  want : 6 + sheet_files sheet ≤ i → i < 6 + sheet_files sheet + sheet_wants sheet → (Stands want_key Pair sheet i → ⊥) → LineIsBad sheet i
  beyond : i ≡ 6 + sheet_files sheet + sheet_wants sheet → (after_lines i sheet ≡ [] → ⊥) → LineIsBad sheet i

-- The fourth line names this rule and no other.
abbrev pub Ruled : List ℕ → List ℕ → Type 0
Ruled text sheet = Stands rule_key (λ value. value ≡ text) sheet 3

-- The lines that are looked at, and one more for text behind the last.
abbrev pub lines_due : List ℕ → ℕ
lines_due sheet = 7 + sheet_files sheet + sheet_wants sheet

-- The search that the reader's contract speaks of finds line n exactly where it is the first bad line.
abbrev pub LinesByTheTable : Type 0
LinesByTheTable = (sheet : List ℕ) (n : ℕ) → (first_bad_line sheet ≡ suc n) ↔ FirstBad (LineIsBad sheet) (lines_due sheet) (suc n)
