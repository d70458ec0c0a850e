-- The request on mending (L11): what stands in the two rows; the reads of every file are kept; the wants written ascend, none repeats, none is 0, and the
-- reader of run sheets takes what is written; each want line's fate, by conditions of its own; every change is listed and nothing else; what is written
-- needs no second mending; the sheet of an accepted run is accepted and comes back.
use Rattle.std.specs.Prelude.{ℕ, suc, ◌+◌, ◌≤◌, ◌<◌, ◌≡◌, List, [], ◌++◌, length, take, drop, get_or}
use Rattle.refusals.specs.declared.Refusal.TheVariants.{Accepted}
use Rattle.runs.specs.Run.{total}
use Rattle.least.specs.Wants.{reads_of_file}
use Rattle.text_bytes.specs.Text.{bytes, decimal}
use Rattle.text_lines.specs.Lines.{line_after, value_text}
use Rattle.sheet_reader.specs.Lines.{turn_key}
use Rattle.sheet_reader.specs.Sheet.{sheet_files, sheet_name, sheet_run}
use Rattle.sheet_writer.specs.Writing.{sheet_text}
use Rattle.sheet_loose.specs.Loose.{loose_files, loose_wants, wants_said, first_bad_loose, wanted_files, wanted_counts}
use Rattle.answer_mend.specs.declared.Mended.{Mended}
use Rattle.answer_mend.specs.declared.wants.Fate.{Fate}
use Rattle.answer_mend.specs.declared.wants.Fate.TheVariants.{Stays, Moved, Added, Dropped}
use Rattle.answer_mend.specs.Wants.{fate_of}
use Rattle.answer_mend.specs.Mending.{mended_text, changes_text, SheetMended}
use Rattle.demands.specs.RefusalTable.{NothingApplies, SomeApplies}
use Rattle.promises.specs.TwoTexts.{EarlyApplies, early_order}

-- An accepted mending: the mended sheet and the changes stand in the first bytes of the rows, and the later bytes are as they were.
pub record InRows (sheet out notes : List ℕ) (answer : Mended) (out' notes' : List ℕ) : Type 0 where
  pub counted : (answer.bytes ≡ length (mended_text sheet)) × (answer.noted ≡ length (changes_text sheet))
  pub text : take answer.bytes out' ≡ mended_text sheet
  pub below : drop answer.bytes out' ≡ drop answer.bytes out
  pub changes : take answer.noted notes' ≡ changes_text sheet
  pub behind : drop answer.noted notes' ≡ drop answer.noted notes

abbrev pub MendedRows : Type 0
MendedRows =
    (sheet out notes : List ℕ) (answer : Mended) (out' notes' : List ℕ)
    → SheetMended sheet out notes answer out' notes'
    → answer.refusal ≡ Accepted
    → InRows sheet out notes answer out' notes'

-- The contract leaves no choice: two answers to one sheet are the same, and so are the rows.
abbrev pub MendingDetermined : Type 0
MendingDetermined =
    (sheet out notes : List ℕ) (r s : Mended) (out' out'' notes' notes'' : List ℕ)
    → SheetMended sheet out notes r out' notes'
    → SheetMended sheet out notes s out'' notes''
    → (r ≡ s) × ((out' ≡ out'') × (notes' ≡ notes''))

-- A sheet that was mended, and what came of it.
pub record WasMended (sheet text : List ℕ) : Type 0 where
  pub out : List ℕ
  pub notes : List ℕ
  pub answer : Mended
  pub out' : List ℕ
  pub notes' : List ℕ
  pub contract : SheetMended sheet out notes answer out' notes'
  pub accepted : answer.refusal ≡ Accepted
  pub text_is : take answer.bytes out' ≡ text

-- The total of the counts of a file's want lines on the old sheet is that of its want lines on the mended one, whatever the file; and so is the total
-- over all files.
pub record SameReads (old new : List ℕ) : Type 0 where
  pub each : (file : ℕ) → reads_of_file (wanted_files new) (wanted_counts new) file ≡ reads_of_file (wanted_files old) (wanted_counts old) file
  pub in_all : total (wanted_counts new) ≡ total (wanted_counts old)

abbrev pub ReadsKept : Type 0
ReadsKept = (sheet text : List ℕ) → WasMended sheet text → SameReads sheet text

-- The want lines of the mended sheet: files strictly ascending (so none repeats), no count 0; `files=` and `wants=` say how many lines follow.
pub record Orderly (files counts : List ℕ) : Type 0 where
  pub even : length files ≡ length counts
  pub ascending : (i j : ℕ) → i < j → j < length files → get_or files i 0 < get_or files j 0
  pub some : (i : ℕ) → i < length files → get_or counts i 0 ≡ 0 → ⊥

pub record SheetInOrder (text : List ℕ) : Type 0 where
  pub described : first_bad_loose text ≡ 0
  pub wants : Orderly (wanted_files text) (wanted_counts text)
  pub few : length (wanted_files text) ≤ 64
  pub files_said : sheet_files text ≡ loose_files text
  pub wants_said : wants_said text ≡ loose_wants text

abbrev pub MendedInOrder : Type 0
MendedInOrder = (sheet text : List ℕ) → WasMended sheet text → SheetInOrder text

-- So the reader of run sheets takes it: 12, 11 and 19 do not apply, and the wants that it reads are those lines.
pub record ReadAsARun (text : List ℕ) : Type 0 where
  pub taken : SomeApplies (EarlyApplies text) early_order → ⊥
  pub numbers : (sheet_run text).numbers ≡ wanted_files text
  pub counts : (sheet_run text).counts ≡ wanted_counts text

abbrev pub MendedIsRead : Type 0
MendedIsRead = (sheet text : List ℕ) → WasMended sheet text → ReadAsARun text

-- A line above that names the same file and is not dropped; one that names a higher file.
pub record SameFile (files counts : List ℕ) (line above : ℕ) : Type 0 where
  pub higher_up : above < line
  pub same : get_or files above 0 ≡ get_or files line 0
  pub some : get_or counts above 0 ≡ 0 → ⊥

pub record HigherFile (files : List ℕ) (line above : ℕ) : Type 0 where
  pub higher_up : above < line
  pub higher : get_or files line 0 < get_or files above 0

-- A want line's fate: dropped when its count is 0; else added when there is a line of the first kind; else moved when there is one of the second;
-- else it stays.
pub record FateBy (files counts : List ℕ) (line : ℕ) (fate : Fate) : Type 0 where
  pub dropped : get_or counts line 0 ≡ 0 → fate ≡ Dropped
  pub added : (get_or counts line 0 ≡ 0 → ⊥) → (above : ℕ) → SameFile files counts line above → fate ≡ Added
  pub moved : (get_or counts line 0 ≡ 0 → ⊥) → ((above : ℕ) → SameFile files counts line above → ⊥) → (above : ℕ) → HigherFile files line above → fate ≡ Moved
  pub stays : (get_or counts line 0 ≡ 0 → ⊥) → ((above : ℕ) → SameFile files counts line above → ⊥) → ((above : ℕ) → HigherFile files line above → ⊥) → fate ≡ Stays

abbrev pub FatesByConditions : Type 0
FatesByConditions = (files counts : List ℕ) (line : ℕ) → FateBy files counts line (fate_of files counts line)

-- A change as it is listed: the number of the old line, and what happened to it. Of a want line by its fate, of one that stays nothing.
abbrev pub listed_as : ℕ → List ℕ → List ℕ
listed_as n word = bytes "change=" ++ decimal n ++ (bytes "," ++ word ++ bytes "\n")

pub data FateSaid (n : ℕ) : Fate → List ℕ → Type 0 where
  nothing : FateSaid n Stays []
  moved : FateSaid n Moved (listed_as n (bytes "moved"))
  added : FateSaid n Added (listed_as n (bytes "added"))
  dropped : FateSaid n Dropped (listed_as n (bytes "dropped"))

-- What is listed of so many want lines, the first of which stands behind the line `above`: of none nothing; of one more what is listed of those before it, and
-- then of it, by its fate.
pub data FatesSaid (files counts : List ℕ) (above : ℕ) : ℕ → List ℕ → Type 0 where
  of_none : FatesSaid files counts above 0 []
  of_one_more : {line : ℕ} {fate : Fate} {before said : List ℕ}
      → FatesSaid files counts above line before
      → FateBy files counts line fate
      → FateSaid (above + (line + 1)) fate said
      → FatesSaid files counts above (suc line) (before ++ said)

-- A part of the changes names its line exactly when that changes, and is empty else.
pub record ListedWhen (Changes : Type 0) (part : List ℕ) (n : ℕ) (word : List ℕ) : Type 0 where
  pub something : Changes → part ≡ listed_as n word
  pub nothing : (Changes → ⊥) → part ≡ []

-- All that is listed, in the order of the old lines: the price when `turn=` is empty, the rule when its line is `rule=sweep`, a count when it is not the number of
-- lines that the mended sheet has below it; then the want lines.
pub record ChangesSaid (sheet text listed : List ℕ) : Type 0 where
  pub turn : List ℕ
  pub rule : List ℕ
  pub files : List ℕ
  pub wants : List ℕ
  pub fates : List ℕ
  pub whole : listed ≡ turn ++ rule ++ files ++ wants ++ fates
  pub turn_line : ListedWhen (value_text turn_key (line_after 2 sheet) ≡ []) turn 3 (bytes "turn")
  pub rule_line : ListedWhen (line_after 3 sheet ≡ bytes "rule=sweep") rule 4 (bytes "rule")
  pub files_line : ListedWhen (sheet_files sheet ≡ loose_files text → ⊥) files 5 (bytes "files")
  pub wants_line : ListedWhen (wants_said sheet ≡ loose_wants text → ⊥) wants (loose_files sheet + 6) (bytes "wants")
  pub want_lines : FatesSaid (wanted_files sheet) (wanted_counts sheet) (loose_files sheet + 6) (loose_wants sheet) fates

-- Of a sheet that was mended it stands in the row for the changes.
abbrev pub EveryChangeListed : Type 0
EveryChangeListed = (sheet text : List ℕ) (m : WasMended sheet text) → ChangesSaid sheet text (take m.answer.noted m.notes')

-- A mended sheet needs no second mending: given a row that takes it, it is accepted, comes out as it is, and no change is listed.
abbrev pub OnceIsEnough : Type 0
OnceIsEnough =
    (sheet text : List ℕ)
    → WasMended sheet text
    → (out notes : List ℕ) (answer : Mended) (out' notes' : List ℕ)
    → SheetMended text out notes answer out' notes'
    → length text ≤ length out
    → (answer ≡ record { refusal = Accepted; place = 0; bytes = length text; noted = 0 }) × (take (length text) out' ≡ text)

-- The sheet of an accepted run, to which none of 12, 11, 19 and 1 to 7 applies, comes back the same, byte for byte, apart from an empty turn price written out: what stands above the third line and
-- below it is as it was, and that price is the one change listed.
pub record SheetComesBack (sheet : List ℕ) : Type 0 where
  pub above : List ℕ
  pub back : List ℕ
  pub old : sheet ≡ above ++ ((bytes "turn=" ++ value_text turn_key (line_after 2 sheet) ++ bytes "\n") ++ back)
  pub new : mended_text sheet ≡ above ++ ((bytes "turn=" ++ decimal (sheet_run sheet).turn ++ bytes "\n") ++ back)
  pub given : (value_text turn_key (line_after 2 sheet) ≡ [] → ⊥) → mended_text sheet ≡ sheet
  pub listed : ListedWhen (value_text turn_key (line_after 2 sheet) ≡ []) (changes_text sheet) 3 (bytes "turn")

abbrev pub AcceptedComesBack : Type 0
AcceptedComesBack =
    (sheet : List ℕ)
    → (SomeApplies (EarlyApplies sheet) early_order → ⊥)
    → NothingApplies (sheet_run sheet)
    → SheetComesBack sheet

-- What comes back is the sheet that the writer writes for that run and that name.
abbrev pub AcceptedAsWritten : Type 0
AcceptedAsWritten =
    (sheet : List ℕ)
    → (SomeApplies (EarlyApplies sheet) early_order → ⊥)
    → NothingApplies (sheet_run sheet)
    → mended_text sheet ≡ sheet_text (sheet_name sheet) (sheet_run sheet)

-- And it is accepted, given rows that take both texts: 12, 11, 3 and 5 never apply to it. An empty price, written out, has five digits.
pub record Taken (sheet : List ℕ) (answer : Mended) : Type 0 where
  pub taken : answer ≡ record { refusal = Accepted; place = 0; bytes = length (mended_text sheet); noted = length (changes_text sheet) }
  pub given : (value_text turn_key (line_after 2 sheet) ≡ [] → ⊥) → answer ≡ record { refusal = Accepted; place = 0; bytes = length sheet; noted = 0 }
  pub left_out : value_text turn_key (line_after 2 sheet) ≡ [] → length (mended_text sheet) ≡ length sheet + 5

abbrev pub AcceptedTaken : Type 0
AcceptedTaken =
    (sheet : List ℕ)
    → (SomeApplies (EarlyApplies sheet) early_order → ⊥)
    → NothingApplies (sheet_run sheet)
    → (out notes : List ℕ) (answer : Mended) (out' notes' : List ℕ)
    → SheetMended sheet out notes answer out' notes'
    → length (mended_text sheet) ≤ length out
    → length (changes_text sheet) ≤ length notes
    → Taken sheet answer
