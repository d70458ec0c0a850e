-- What is promised of picked files, beside the contract. Proved in proofs/Promised.
use Rattle.std.specs.Prelude.{ℕ, ◌^◌, ◌<◌, ◌≡◌, List, [], ◌++◌, length, get_or, take, drop}
use Rattle.runs.specs.Judging.{judge_of}
use Rattle.text_paths.specs.Paths.{line_count, path_after}
use Rattle.tape_markup.specs.Tree.{tree_of}
use Rattle.tape_files.specs.NamedFiles.{NamedFile, named_files}
use Rattle.tape_picks.specs.Picks.{file_span}
use Rattle.sheet_picks.specs.Sheets.{picked_run, picked_sheet}
use Rattle.sheet_picks.specs.Names.{names_text}
use Rattle.sheet_picks.specs.Promises.{Wanted, OnlyHeadOrPrice, ReadAgain}
use Rattle.answer_pick.specs.declared.Picked.{Picked}
use Rattle.answer_pick.specs.Picks.{tape_of, asked_span}
use Rattle.answer_pick.specs.Answer.{asked_starts, asked_ends, PickAnswered}

-- Two answers that fit are equal, with the rows that they leave.
abbrev pub PickIsOne : Type 0
PickIsOne = (unit : ℕ) (name label index list head turn out names : List ℕ) (r s : Picked) (out' names' out'' names'' : List ℕ)
    → PickAnswered unit name label index list head turn out names r out' names' → PickAnswered unit name label index list head turn out names s out'' names''
    → (r ≡ s) × (out' ≡ out'') × (names' ≡ names'')

-- The file of a path: it is one of the index's files, has that path, and no other has.
abbrev pub no_file : NamedFile
no_file = record { path = []; extents = [] }

pub record OnlyFile (files : List NamedFile) (path : List ℕ) (f : NamedFile) : Type 0 where
  pub which : ℕ
  pub listed : which < length files
  pub is : get_or files which no_file ≡ f
  pub named : f.path ≡ path
  pub alone : (k : ℕ) → k < length files → (get_or files k no_file).path ≡ path → k ≡ which

pub record FileOfLine (unit : ℕ) (label index list : List ℕ) (i : ℕ) : Type 0 where
  pub file : NamedFile
  pub only : OnlyFile (named_files (tree_of index)) (path_after i list) file
  pub range : asked_span (tape_of unit label) index list i ≡ file_span (tape_of unit label) file

-- Where nothing is refused, each line asks for one file and no other, with its range; and these files are such as a run takes.
abbrev pub LinesHaveFiles : Type 0
LinesHaveFiles = (unit : ℕ) (name label index list head turn out names : List ℕ) (r : Picked) (out' names' : List ℕ)
    → PickAnswered unit name label index list head turn out names r out' names' → r.number ≡ 0 → (i : ℕ) → i < line_count list → FileOfLine unit label index list i

abbrev pub PickedAreWanted : Type 0
PickedAreWanted = (unit : ℕ) (name label index list head turn out names : List ℕ) (r : Picked) (out' names' : List ℕ)
    → (p : PickAnswered unit name label index list head turn out names r out' names') → r.number ≡ 0
    → Wanted (asked_starts unit label index list) (asked_ends unit label index list) p.firsts p.lasts

-- What is told, and what stands in the rows: of a refusal nothing, and both rows as they were; else two texts in their first bytes, as many as are told, and the later bytes as
-- they were.
pub record PickTold (sheet named out names : List ℕ) (r : Picked) (out' names' : List ℕ) : Type 0 where
  pub refused : (r.number ≡ 0 → ⊥) → ((r.bytes ≡ 0) × (r.named ≡ 0)) × ((out' ≡ out) × (names' ≡ names))
  pub counted : r.number ≡ 0 → (r.bytes ≡ length sheet) × (r.named ≡ length named)
  pub written : r.number ≡ 0 → (out' ≡ sheet ++ drop (length sheet) out) × (names' ≡ named ++ drop (length named) names)

-- The texts are the sheet of the files' entries and the names in them.
abbrev pub PickTells : Type 0
PickTells = (unit : ℕ) (name label index list head turn out names : List ℕ) (r : Picked) (out' names' : List ℕ)
    → (p : PickAnswered unit name label index list head turn out names r out' names')
    → PickTold (picked_sheet name (asked_starts unit label index list) p.firsts p.lasts head turn) (names_text list (asked_starts unit label index list) p.firsts p.lasts) out names r out' names'

-- The sheet that was written reads back as the run of the entries, and 1 to 5 accept that run, whatever words were given as the head and the price.
abbrev pub PickReadsBack : Type 0
PickReadsBack = (unit : ℕ) (name label index list head turn out names : List ℕ) (r : Picked) (out' names' : List ℕ)
    → (p : PickAnswered unit name label index list head turn out names r out' names') → r.number ≡ 0 → get_or head 0 0 < 2 ^ 64 → get_or turn 0 0 < 2 ^ 64
    → ReadAgain name (take r.bytes out') (picked_run (asked_starts unit label index list) p.firsts p.lasts head turn)
    × OnlyHeadOrPrice (judge_of (picked_run (asked_starts unit label index list) p.firsts p.lasts head turn)).refusal
