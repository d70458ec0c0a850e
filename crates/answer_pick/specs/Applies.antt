-- What pick refuses, by conditions of their own, and which of them is answered: the first that applies, in the order of the refusals.
use Rattle.std.specs.Prelude.{ℕ, suc, ◌≤◌, ◌<◌, ◌≡◌, true, ◌⊎◌, List, [], ◌∷◌, length, get_or}
use Rattle.runs.specs.Run.{last_place}
use Rattle.text_bytes.specs.Text.{is_name}
use Rattle.text_lines.specs.Lines.{line_after}
use Rattle.text_paths.specs.Paths.{is_asked, line_count, most_lines, path_after}
use Rattle.tape_markup.specs.Markup.{tokens_of}
use Rattle.tape_markup.specs.Tree.{Forest, tree_of}
use Rattle.tape_markup.specs.Promises.{spelled, depth}
use Rattle.tape_files.specs.Index.{is_good_label, is_good_index, block_size_of}
use Rattle.tape_files.specs.Volumes.{other_volume}
use Rattle.tape_files.specs.NamedFiles.{NamedFile, named_files}
use Rattle.sheet_picks.specs.Entries.{most_entries, EntriesOf}
use Rattle.sheet_picks.specs.Sheets.{picked_sheet}
use Rattle.sheet_picks.specs.Names.{names_text}
use Rattle.answer_pick.specs.declared.Picked.{Picked}
use Rattle.answer_pick.specs.Picks.{tape_of, asked_span}
use Rattle.answer_pick.specs.Answer.{asked_starts, asked_ends, PickAnswered}
use Rattle.answer_pick.specs.Promises.{OnlyFile}

-- The first line that is so, counted from 1.
pub record FirstLineThat (is : ℕ → Type 0) (lines place : ℕ) : Type 0 where
  pub line : ℕ
  pub place_is : place ≡ suc line
  pub listed : line < lines
  pub here : is line
  pub none : (k : ℕ) → k < line → is k → ⊥

-- A line for which no file is the one of its path; one whose file has no bytes, or some in the other partition; one whose file ends beyond the limit.
abbrev pub HasNoFile : List ℕ → List ℕ → ℕ → Type 0
HasNoFile index list i = (f : NamedFile) → OnlyFile (named_files (tree_of index)) (path_after i list) f → ⊥

abbrev pub CannotBeRead : ℕ → List ℕ → List ℕ → List ℕ → ℕ → Type 0
CannotBeRead unit label index list i = ((asked_span (tape_of unit label) index list i).some ≡ true → ⊥) ⊎ ((asked_span (tape_of unit label) index list i).elsewhere ≡ true)

abbrev pub EndsTooFar : ℕ → List ℕ → List ℕ → List ℕ → ℕ → Type 0
EndsTooFar unit label index list i = last_place < (asked_span (tape_of unit label) index list i).end

-- 20, by what L1 asks of both texts: each says elements, at most 32 deep, and its values are good. And where positions count blocks, these have a size.
pub record TextsAreGood (unit : ℕ) (label index : List ℕ) : Type 0 where
  pub label_says : (forest : Forest) × (depth forest ≤ 32) × (spelled forest ≡ tokens_of label)
  pub index_says : (forest : Forest) × (depth forest ≤ 32) × (spelled forest ≡ tokens_of index)
  pub label_values : is_good_label (tree_of label) ≡ true
  pub index_values : is_good_index (tree_of index) ≡ true
  pub sized : (unit ≡ 0 → ⊥) → block_size_of (tree_of label) ≡ 0 → ⊥

-- Each number with its condition and its place.
pub data PickApplies (unit : ℕ) (name label index list firsts sheet named out names : List ℕ) : ℕ → ℕ → Type 0 where
  bad_name : (is_name name ≡ true → ⊥) → PickApplies unit name label index list firsts sheet named out names 13 0
  bad_text : (TextsAreGood unit label index → ⊥) → PickApplies unit name label index list firsts sheet named out names 20 0
  another_volume : other_volume (tree_of label) (tree_of index) ≡ true → PickApplies unit name label index list firsts sheet named out names 44 0
  bad_line : {place : ℕ} → FirstLineThat (λ i. is_asked (line_after i list) ≡ true → ⊥) (line_count list) place → PickApplies unit name label index list firsts sheet named out names 11 place
  many_lines : most_lines < line_count list → PickApplies unit name label index list firsts sheet named out names 5 0
  unknown_path : {place : ℕ} → FirstLineThat (HasNoFile index list) (line_count list) place → PickApplies unit name label index list firsts sheet named out names 41 place
  no_bytes : {place : ℕ} → FirstLineThat (CannotBeRead unit label index list) (line_count list) place → PickApplies unit name label index list firsts sheet named out names 42 place
  far_file : {place : ℕ} → FirstLineThat (EndsTooFar unit label index list) (line_count list) place → PickApplies unit name label index list firsts sheet named out names 23 place
  many_entries : most_entries < length firsts → PickApplies unit name label index list firsts sheet named out names 3 0
  short_row : (length out < length sheet) ⊎ (length names < length named) → PickApplies unit name label index list firsts sheet named out names 8 0

abbrev pub pick_order : List ℕ
pick_order = 13 ∷ 20 ∷ 44 ∷ 11 ∷ 5 ∷ 41 ∷ 42 ∷ 23 ∷ 3 ∷ 8 ∷ []

-- The first of an order of numbers that applies, with its place; 0 and place 0 where none does.
pub data FirstToApply (applies : ℕ → ℕ → Type 0) : List ℕ → ℕ → ℕ → Type 0 where
  none : FirstToApply applies [] 0 0
  here : {number place : ℕ} {rest : List ℕ} → applies number place → FirstToApply applies (number ∷ rest) number place
  later : {skipped number place : ℕ} {rest : List ℕ}
      → ((p : ℕ) → applies skipped p → ⊥) → FirstToApply applies rest number place → FirstToApply applies (skipped ∷ rest) number place

abbrev pub AppliesTo : (unit : ℕ) (name label index list head turn out names firsts lasts : List ℕ) → ℕ → ℕ → Type 0
AppliesTo unit name label index list head turn out names firsts lasts =
    PickApplies unit name label index list firsts (picked_sheet name (asked_starts unit label index list) firsts lasts head turn) (names_text list (asked_starts unit label index list) firsts lasts) out names

-- What is answered is the first that applies.
abbrev pub RefusesTheFirst : Type 0
RefusesTheFirst = (unit : ℕ) (name label index list head turn out names : List ℕ) (r : Picked) (out' names' : List ℕ)
    → (p : PickAnswered unit name label index list head turn out names r out' names')
    → FirstToApply (AppliesTo unit name label index list head turn out names p.firsts p.lasts) pick_order r.number r.place

-- Where none of the refusals before 3 applies, the entries that 3 counts are those of the files that are asked for.
abbrev pub EntriesArePicked : Type 0
EntriesArePicked = (unit : ℕ) (name label index list head turn out names : List ℕ) (r : Picked) (out' names' : List ℕ)
    → (p : PickAnswered unit name label index list head turn out names r out' names')
    → ((i place : ℕ) → i < 8 → AppliesTo unit name label index list head turn out names p.firsts p.lasts (get_or pick_order i 0) place → ⊥)
    → EntriesOf (asked_starts unit label index list) (asked_ends unit label index list) p.firsts p.lasts
