-- The request on mending (L11): what a sheet is refused for, each refusal by its own condition, in order: 12, 11 with its line, 3, 5; then 12 for the mended
-- sheet, and 8. What the mender leaves alone. Worked cases.
use Rattle.std.specs.Prelude.{ℕ, suc, ◌+◌, ◌≤◌, ◌<◌, ◌≡◌, ◌⊎◌, ◌↔◌, List, [], ◌∷◌, length, get_or}
use Rattle.refusals.specs.declared.Refusal.{Refusal}
use Rattle.refusals.specs.declared.Refusal.TheVariants.{Accepted, WantRows, TooManyReads, ShortRow, BadLine, LongSheet}
use Rattle.text_bytes.specs.Text.{bytes, value_of, decimal}
use Rattle.text_lines.specs.Lines.{after_lines, line_after, value_text}
use Rattle.sheet_reader.specs.Lines.{tape_key, head_key, turn_key, rule_key, files_key, file_key, wants_key, want_key}
use Rattle.sheet_reader.specs.Sheet.{sheet_files}
use Rattle.sheet_loose.specs.Loose.{loose_files, loose_wants, wants_said, first_bad_loose, wanted_files, wanted_counts}
use Rattle.answer_mend.specs.declared.Mended.{Mended}
use Rattle.answer_mend.specs.Mending.{mended_text, changes_text, mend_verdict, SheetMended}
use Rattle.demands.specs.RefusalTable.{FirstBad, FirstThatApplies, SomeApplies}
use Rattle.demands.specs.Lines.{Stands, Name, Number, NumberOrNothing, RuleName, Pair, Triple}
use Rattle.promises.specs.Mends.{WasMended, SameReads, SheetInOrder}

-- Line i is a `file` line, a `want` line. It is the one behind i others, so it has number i + 1.
abbrev pub FileLine : List ℕ → ℕ → Type 0
FileLine sheet i = Stands file_key Triple sheet i

abbrev pub WantLine : List ℕ → ℕ → Type 0
WantLine sheet i = Stands want_key Pair sheet i

-- From a line on so many lines of a kind come, and then no more.
pub record Come (Good : ℕ → Type 0) (from many : ℕ) : Type 0 where
  pub each : (i : ℕ) → i < many → Good (from + i)
  pub no_more : Good (from + many) → ⊥

-- Up to 256 `file` lines come behind the first five lines.
abbrev pub FileLines : List ℕ → ℕ → Type 0
FileLines sheet n = Come (FileLine sheet) 5 n × (n ≤ 256)

-- Line i is not mended: tape, head, turn, rule, and files with any number; a 257th file line; behind the file lines wants with any number; behind the want
-- lines nothing.
pub data NotMended (sheet : List ℕ) (i : ℕ) : Type 0 where
  tape : i ≡ 0 → (Stands tape_key Name sheet i → ⊥) → NotMended sheet i
  head : i ≡ 1 → (Stands head_key Number sheet i → ⊥) → NotMended sheet i
  turn : i ≡ 2 → (Stands turn_key NumberOrNothing sheet i → ⊥) → NotMended sheet i
  rule : i ≡ 3 → (Stands rule_key RuleName sheet i → ⊥) → NotMended sheet i
  files : i ≡ 4 → (Stands files_key Number sheet i → ⊥) → NotMended sheet i
  file_257 : i ≡ 5 + 256 → ((j : ℕ) → j ≤ 256 → FileLine sheet (5 + j)) → NotMended sheet i
  wants : {n : ℕ} → FileLines sheet n → i ≡ 5 + n → (Stands wants_key Number sheet i → ⊥) → NotMended sheet i
  beyond : {n m : ℕ} → FileLines sheet n → Come (WantLine sheet) (6 + n) m → i ≡ 6 + n + m → (after_lines i sheet ≡ [] → ⊥) → NotMended sheet i

-- A want line asks for so many reads of a file.
pub record Asks (sheet : List ℕ) (i file count : ℕ) : Type 0 where
  pub line : WantLine sheet i
  pub of_file : value_of line.kind.first ≡ file
  pub reads : value_of line.kind.others ≡ count

-- A file has reads: some line asks for them, and not for 0.
pub record HasReads (sheet : List ℕ) (file : ℕ) : Type 0 where
  pub at : ℕ
  pub count : ℕ
  pub asks : Asks sheet at file count
  pub some : count ≡ 0 → ⊥

-- Over 64 wants remain: more than 64 files, each higher than those before it, have reads.
pub record WantsRemain (sheet : List ℕ) : Type 0 where
  pub files : List ℕ
  pub over : 64 < length files
  pub ascending : (i j : ℕ) → i < j → j < length files → get_or files i 0 < get_or files j 0
  pub each : (i : ℕ) → i < length files → HasReads sheet (get_or files i 0)

-- The counts of line i and of those below it, added: 0 behind the sheet's end; a want line adds its count, any other line nothing.
pub data CountsFrom (sheet : List ℕ) : ℕ → ℕ → Type 0 where
  end : {i : ℕ} → after_lines i sheet ≡ [] → CountsFrom sheet i 0
  want : {i file count n : ℕ} → Asks sheet i file count → CountsFrom sheet (suc i) n → CountsFrom sheet i (count + n)
  other : {i n : ℕ} → (WantLine sheet i → ⊥) → CountsFrom sheet (suc i) n → CountsFrom sheet i n

-- 12 and 11, 3 when over 64 wants remain, 5 when the added counts pass 1,024. The lines up to the place of 11 have one that is not mended, the last.
pub data SheetApplies (sheet : List ℕ) : Refusal → ℕ → Type 0 where
  long_sheet : 16384 < length sheet → SheetApplies sheet LongSheet 0
  bad_line : {place : ℕ} → FirstBad (NotMended sheet) place place → SheetApplies sheet BadLine place
  many_wants : WantsRemain sheet → SheetApplies sheet WantRows 0
  many_reads : {n : ℕ} → CountsFrom sheet 0 n → 1024 < n → SheetApplies sheet TooManyReads 0

abbrev pub sheet_order : List Refusal
sheet_order = LongSheet ∷ BadLine ∷ WantRows ∷ TooManyReads ∷ []

-- Last, 12 when the mended sheet would be over that limit; then 8 when a row takes less than its text.
pub data TextsApply (text changes out notes : List ℕ) : Refusal → ℕ → Type 0 where
  long_text : 16384 < length text → TextsApply text changes out notes LongSheet 0
  short_row : (length out < length text) ⊎ (length notes < length changes) → TextsApply text changes out notes ShortRow 0

abbrev pub texts_order : List Refusal
texts_order = LongSheet ∷ ShortRow ∷ []

-- The mender's answer: the sheet's refusal where one applies, and else the texts'. It is a refusal if and only if some condition applies; then nothing is told,
-- and both rows are as they were.
pub record MenderAnswers (OfSheet OfTexts : Refusal → ℕ → Type 0) (out notes : List ℕ) (r : Mended) (out' notes' : List ℕ) : Type 0 where
  pub of_sheet : SomeApplies OfSheet sheet_order → FirstThatApplies OfSheet sheet_order r.refusal r.place
  pub of_texts : (SomeApplies OfSheet sheet_order → ⊥) → FirstThatApplies OfTexts texts_order r.refusal r.place
  pub iff : (r.refusal ≡ Accepted → ⊥) ↔ (SomeApplies OfSheet sheet_order ⊎ SomeApplies OfTexts texts_order)
  pub kept : (r.refusal ≡ Accepted → ⊥) → (r.bytes ≡ 0) × (r.noted ≡ 0) × (out' ≡ out) × (notes' ≡ notes)

abbrev pub MenderRefuses : Type 0
MenderRefuses =
    (sheet out notes : List ℕ) (r : Mended) (out' notes' : List ℕ)
    → SheetMended sheet out notes r out' notes'
    → MenderAnswers (SheetApplies sheet) (TextsApply (mended_text sheet) (changes_text sheet) out notes) out notes r out' notes'

-- So a 257th file line is refused by 11 at its own line, which is line 262.
pub record TopStands (sheet : List ℕ) : Type 0 where
  pub tape : Stands tape_key Name sheet 0
  pub head : Stands head_key Number sheet 1
  pub turn : Stands turn_key NumberOrNothing sheet 2
  pub rule : Stands rule_key RuleName sheet 3
  pub files : Stands files_key Number sheet 4

abbrev pub OneFileTooMany : Type 0
OneFileTooMany =
    (sheet out notes : List ℕ) (r : Mended) (out' notes' : List ℕ)
    → SheetMended sheet out notes r out' notes'
    → length sheet ≤ 16384
    → TopStands sheet
    → ((j : ℕ) → j ≤ 256 → FileLine sheet (5 + j))
    → (r.refusal ≡ BadLine) × (r.place ≡ 262)

-- What the mender leaves alone, byte for byte: the tape's and the head's line, the price's where one stands, and every file line, of either sheet. An empty
-- price is written out, and the rule is the least.
pub record LeftAlone (old new : List ℕ) : Type 0 where
  pub tape : line_after 0 new ≡ line_after 0 old
  pub head : line_after 1 new ≡ line_after 1 old
  pub price : (value_text turn_key (line_after 2 old) ≡ [] → ⊥) → line_after 2 new ≡ line_after 2 old
  pub written_out : value_text turn_key (line_after 2 old) ≡ [] → line_after 2 new ≡ bytes "turn=12000"
  pub rule : line_after 3 new ≡ bytes "rule=least"
  pub files : (i : ℕ) → FileLine old i ⊎ FileLine new i → line_after i new ≡ line_after i old

abbrev pub MenderLeavesAlone : Type 0
MenderLeavesAlone = (sheet text : List ℕ) → WasMended sheet text → LeftAlone sheet text

-- What the definitions in these promises mean on a sheet that is as described (`first_bad_loose` is 0), of any length: every line is mended; so many file lines
-- come and so many want lines, in their order, with the file and the count on each; what the two counts say.
pub record PartsRead (sheet : List ℕ) : Type 0 where
  pub mended : (i : ℕ) → NotMended sheet i → ⊥
  pub table : FileLines sheet (loose_files sheet)
  pub wants : Come (WantLine sheet) (6 + loose_files sheet) (loose_wants sheet)
  pub even : (length (wanted_files sheet) ≡ loose_wants sheet) × (length (wanted_counts sheet) ≡ loose_wants sheet)
  pub each : (k : ℕ) → k < loose_wants sheet → Asks sheet (6 + loose_files sheet + k) (get_or (wanted_files sheet) k 0) (get_or (wanted_counts sheet) k 0)
  pub files_said : Stands files_key (λ value. value ≡ decimal (sheet_files sheet)) sheet 4
  pub wants_said : Stands wants_key (λ value. value ≡ decimal (wants_said sheet)) sheet (5 + loose_files sheet)

abbrev pub PartsAreRead : Type 0
PartsAreRead = (sheet : List ℕ) → first_bad_loose sheet ≡ 0 → PartsRead sheet

-- So of every old sheet to which 12, 11, 3 and 5 do not apply, whatever the mended one has.
abbrev pub OldPartsAreRead : Type 0
OldPartsAreRead = (sheet : List ℕ) → (SomeApplies (SheetApplies sheet) sheet_order → ⊥) → PartsRead sheet

-- The text whose length the last 12 goes by is the mended sheet also where it is too long: of every sheet to which 12, 11, 3 and 5 do not apply, the same holds.
pub record TextIsMended (sheet text : List ℕ) : Type 0 where
  pub order : SheetInOrder text
  pub reads : SameReads sheet text
  pub alone : LeftAlone sheet text

abbrev pub LongTextIsMended : Type 0
LongTextIsMended = (sheet : List ℕ) → (SomeApplies (SheetApplies sheet) sheet_order → ⊥) → TextIsMended sheet (mended_text sheet)

-- Where no change is listed the mended sheet is the old one, byte for byte.
abbrev pub UnlistedIsSame : Type 0
UnlistedIsSame = (sheet text : List ℕ) → WasMended sheet text → changes_text sheet ≡ [] → text ≡ sheet

-- A disordered sheet: an empty price, the retired rule, two wrong counts, wants out of order, repeated and with count 0; mended; and what is listed.
abbrev pub disordered : List ℕ
disordered = bytes "tape=T1\nhead=900\nturn=\nrule=sweep\nfiles=3\nfile=0,10,0\nfile=10,20,0\nwants=9\nwant=2,1\nwant=1,0\nwant=1,2\nwant=2,3\n"

abbrev pub in_order : List ℕ
in_order = bytes "tape=T1\nhead=900\nturn=12000\nrule=least\nfiles=2\nfile=0,10,0\nfile=10,20,0\nwants=2\nwant=1,2\nwant=2,4\n"

abbrev pub listed : List ℕ
listed = bytes "change=3,turn\nchange=4,rule\nchange=5,files\nchange=8,wants\nchange=10,dropped\nchange=11,moved\nchange=12,added\n"

abbrev pub MendsADisorderedSheet : Type 0
MendsADisorderedSheet = WasMended disordered in_order × (changes_text disordered ≡ listed)

-- 11 for a head that is no number, at its line; 5 for 1,000 reads and 25 of one file, whatever rows are lent.
abbrev pub RefusedCases : Type 0
RefusedCases =
    (out notes : List ℕ)
    → (mend_verdict (bytes "tape=T1\nhead=+9\n") out notes ≡ record { refusal = BadLine; place = 2 })
    × (mend_verdict (bytes "tape=T1\nhead=900\nturn=\nrule=least\nfiles=0\nwants=1\nwant=1,1000\nwant=1,25\n") out notes ≡ record { refusal = TooManyReads; place = 0 })
