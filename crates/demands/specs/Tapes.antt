-- Demand 1 for the tape tables of LTFS indexes: the refusals 13, 20, 21, 23, 22 and 8, the first that applies, with place 0; after a refusal every
-- other number is 0 and the row holds what it held; else the row holds the sheet, and the numbers are its bytes and the files left out.
use Rattle.std.specs.Prelude.{ℕ, ◌+◌, ◌≤◌, ◌<◌, ◌≡◌, true, false, List, [], ◌∷◌, ◌++◌, length, drop, ltb}
use Rattle.refusals.specs.declared.Refusal.{Refusal}
use Rattle.refusals.specs.declared.Refusal.TheVariants.{Accepted, ShortRow, BadName, BadText, ManyExtents, Overlap, FarFile}
use Rattle.text_bytes.specs.Text.{is_name}
use Rattle.answer_ltfs.specs.declared.Report.{Report}
use Rattle.tape_markup.specs.Markup.{tokens_of}
use Rattle.tape_markup.specs.Tree.{Forest, tree_of}
use Rattle.tape_markup.specs.Promises.{spelled, depth}
use Rattle.tape_files.specs.Index.{some, is_good_label, is_good_index, data_partition_of, index_files}
use Rattle.answer_ltfs.specs.TapeTable.{in_several, is_empty_file, lies_elsewhere, how_many, some_overlap, ranges_in, tape_table, ltfs_sheet, ltfs_verdict, ltfs_report, ltfs_row}
use Rattle.demands.specs.RefusalTable.{FirstThatApplies}

abbrev pub tape_order : List Refusal
tape_order = BadName ∷ BadText ∷ ManyExtents ∷ FarFile ∷ Overlap ∷ ShortRow ∷ []

-- A text says elements: its tokens are the spelling of a forest that is at most 32 deep.
abbrev pub SaysElements : List ℕ → Type 0
SaysElements text = (forest : Forest) × (depth forest ≤ 32) × (spelled forest ≡ tokens_of text)

pub data TapeApplies (name label index row : List ℕ) : Refusal → ℕ → Type 0 where
  bad_name : is_name name ≡ false → TapeApplies name label index row BadName 0
  label_unbalanced : (SaysElements label → ⊥) → TapeApplies name label index row BadText 0
  index_unbalanced : (SaysElements index → ⊥) → TapeApplies name label index row BadText 0
  label_values : is_good_label (tree_of label) ≡ false → TapeApplies name label index row BadText 0
  index_values : is_good_index (tree_of index) ≡ false → TapeApplies name label index row BadText 0
  several : some in_several (index_files (tree_of index)) ≡ true → TapeApplies name label index row ManyExtents 0
  many : 256 < length (ranges_in label index) → TapeApplies name label index row FarFile 0
  far : some (λ range. ltb 1099511627776 (range.start + range.bytes)) (ranges_in label index) ≡ true → TapeApplies name label index row FarFile 0
  overlap : some_overlap (tape_table label index) ≡ true → TapeApplies name label index row Overlap 0
  short_row : length row < length (ltfs_sheet name label index) → TapeApplies name label index row ShortRow 0

pub record OnlyKind (answer : Report) : Type 0 where
  pub bytes : answer.bytes ≡ 0
  pub empty : answer.empty ≡ 0
  pub other : answer.other ≡ 0

-- Else the sheet stands in the row's first bytes, the later ones as they were, and the files left out are counted.
pub record SheetStands (name label index row : List ℕ) (answer : Report) (out : List ℕ) : Type 0 where
  pub bytes : answer.bytes ≡ length (ltfs_sheet name label index)
  pub written : out ≡ ltfs_sheet name label index ++ drop (length (ltfs_sheet name label index)) row
  pub empty : answer.empty ≡ how_many is_empty_file (index_files (tree_of index))
  pub other : answer.other ≡ how_many (lies_elsewhere (data_partition_of (tree_of label))) (index_files (tree_of index))

pub record TapeAnswers (name label index row : List ℕ) (answer : Report) (out : List ℕ) : Type 0 where
  pub first : FirstThatApplies (TapeApplies name label index row) tape_order answer.refusal answer.place
  pub kept : (answer.refusal ≡ Accepted → ⊥) → OnlyKind answer × (out ≡ row)
  pub sheet : answer.refusal ≡ Accepted → SheetStands name label index row answer out

abbrev pub Demand1Tape : Type 0
Demand1Tape =
    (name label index row : List ℕ) (answer : Report) (out : List ℕ)
    → answer ≡ ltfs_report (ltfs_verdict name label index row) name label index
    → out ≡ ltfs_row (ltfs_verdict name label index row) name label index row
    → TapeAnswers name label index row answer out
