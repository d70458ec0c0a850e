-- The programs that take one run sheet (`plan`, `field`, `buys`), by the table: 12, 11 with its line, 19 with the fourth line, then 1 to 7 of the run, then 9;
-- by the plain engine 24 behind 3, and no 9. What is printed is the two lines of the first that applies, or the sheet that was asked for.
use Rattle.std.specs.Prelude.{ℕ, ◌+◌, ◌*◌, ◌^◌, ◌≤◌, ◌<◌, ◌≡◌, ◌↔◌, List, [], ◌∷◌, ◌++◌, length, take, drop}
use Rattle.refusals.specs.declared.Refusal.{Refusal}
use Rattle.refusals.specs.declared.Refusal.TheVariants.{Accepted, FileRows, BadFile, WantRows, BadWant, TooManyReads, TurnPrice, HeadPlace, ShortRow, ShortRoom, BadLine, LongSheet, RetiredRule, OverEightWants}
use Rattle.refusals.specs.declared.Verdict.{Verdict}
use Rattle.refusals.specs.Refusals.{number_of}
use Rattle.runs.specs.Run.{Run, total}
use Rattle.text_bytes.specs.Text.{bytes, decimal}
use Rattle.sheet_writer.specs.declared.Written.{Written}
use Rattle.sheet_writer.specs.RefusalLines.{RefusalWritten}
use Rattle.sheet_reader.specs.Lines.{sweep_text}
use Rattle.sheet_reader.specs.Sheet.{sheet_run, sheet_name}
use Rattle.answer_plan.specs.Recall.{SheetRecalled}
use Rattle.answer_field.specs.Field.{SheetFielded}
use Rattle.answer_buys.specs.Buys.{SheetBought}
use Rattle.demands.specs.RefusalTable.{FirstBad, HasStops, RunApplies, FirstThatApplies, SomeApplies}
use Rattle.demands.specs.Lines.{LineIsBad, lines_due, Ruled}
use Rattle.promises.specs.Lengths.{plan_row, buys_row, refusal_row}
use Rattle.promises.specs.BuysLines.{FiguresOf}
use Rattle.promises.specs.PlanLines.{PlanPrinted}

-- What a sheet is refused for: itself, its run, as that is judged, and what the engine asks of a run. 01's judging is the table of 1 to 7.
pub data SheetRunApplies (Judged Engine : Run → Refusal → ℕ → Type 0) (sheet : List ℕ) : Refusal → ℕ → Type 0 where
  too_long : 16384 < length sheet → SheetRunApplies Judged Engine sheet LongSheet 0
  bad_line : {place : ℕ} → FirstBad (LineIsBad sheet) (lines_due sheet) place → SheetRunApplies Judged Engine sheet BadLine place
  retired_rule : Ruled sweep_text sheet → SheetRunApplies Judged Engine sheet RetiredRule 4
  run : {kind : Refusal} {place : ℕ} → Judged (sheet_run sheet) kind place → SheetRunApplies Judged Engine sheet kind place
  engine : {kind : Refusal} {place : ℕ} → Engine (sheet_run sheet) kind place → SheetRunApplies Judged Engine sheet kind place

abbrev pub AnswerApplies : (Run → Refusal → ℕ → Type 0) → List ℕ → Refusal → ℕ → Type 0
AnswerApplies Engine sheet kind place = SheetRunApplies RunApplies Engine sheet kind place

-- 9: a run that needs more than so many words of working room, 5,120 of the programs that lend them. 24: one of more than 8 wants.
pub data WordsApply (words : ℕ) (r : Run) : Refusal → ℕ → Type 0 where
  short_room : {stops : ℕ} → HasStops r stops → words < stops * stops * (total r.counts + 1) → WordsApply words r ShortRoom 0

abbrev pub RoomApplies : Run → Refusal → ℕ → Type 0
RoomApplies r kind place = WordsApply 5120 r kind place

pub data EightApplies (r : Run) : Refusal → ℕ → Type 0 where
  over_eight : 8 < length r.numbers → EightApplies r OverEightWants 0

abbrev pub room_order : List Refusal
room_order = LongSheet ∷ BadLine ∷ RetiredRule ∷ FileRows ∷ BadFile ∷ WantRows ∷ BadWant ∷ TooManyReads ∷ TurnPrice ∷ HeadPlace ∷ ShortRoom ∷ []

abbrev pub eight_order : List Refusal
eight_order = LongSheet ∷ BadLine ∷ RetiredRule ∷ FileRows ∷ BadFile ∷ WantRows ∷ OverEightWants ∷ BadWant ∷ TooManyReads ∷ TurnPrice ∷ HeadPlace ∷ []

-- The two lines of a refusal, and nothing else.
abbrev pub two_lines : Refusal → ℕ → List ℕ
two_lines kind place = bytes "refused=" ++ decimal (number_of kind) ++ bytes "\nplace=" ++ decimal place ++ bytes "\n"

-- So every refusal is written, whatever its number: those of `desk`, `mend` and `rewrite` too, in a row of 56 bytes or more.
abbrev pub RefusalByItsLines : Type 0
RefusalByItsLines =
    (v : Verdict) (row : List ℕ) (w : Written) (row' : List ℕ)
    → RefusalWritten v row w row'
    → v.place < 2 ^ 64
    → refusal_row ≤ length row
    → take w.bytes row' ≡ two_lines v.refusal v.place

-- And in any row: its lines in the first bytes, the later ones as they were, and no refusal; 8 where the row is shorter, which is then as it was.
pub record LinesHanded (text row : List ℕ) (w : Written) (row' : List ℕ) : Type 0 where
  pub held : length text ≤ length row → (w ≡ record { refusal = Accepted; place = 0; bytes = length text }) × (row' ≡ text ++ drop (length text) row)
  pub short : length row < length text → (w ≡ record { refusal = ShortRow; place = 0; bytes = 0 }) × (row' ≡ row)

abbrev pub RefusalIsHanded : Type 0
RefusalIsHanded = (v : Verdict) (row : List ℕ) (w : Written) (row' : List ℕ) → RefusalWritten v row w row' → LinesHanded (two_lines v.refusal v.place) row w row'

-- What is printed goes by the table: the two lines of the first refusal that applies, where one does; else what was asked for. It is two such lines if and only
-- if some refusal applies.
pub record PrintedByTheTable (applies : Refusal → ℕ → Type 0) (order : List Refusal) (Asked : List ℕ → Type 0) (printed : List ℕ) : Type 0 where
  pub kind : Refusal
  pub place : ℕ
  pub first : FirstThatApplies applies order kind place
  pub refused : (kind ≡ Accepted → ⊥) → printed ≡ two_lines kind place
  pub asked : kind ≡ Accepted → Asked printed
  pub iff : ((k : Refusal) × ((p : ℕ) × (printed ≡ two_lines k p))) ↔ SomeApplies applies order

-- The first n bytes of a row as long as the program's are printed. Asked for is the plan sheet, or the figure sheet, of the least list.
abbrev pub PlanByTheTable : Type 0
PlanByTheTable =
    (sheet row : List ℕ) (n : ℕ) (row' : List ℕ)
    → SheetRecalled sheet row n row'
    → plan_row ≤ length row
    → PrintedByTheTable (AnswerApplies RoomApplies sheet) room_order (PlanPrinted (sheet_name sheet) (sheet_run sheet)) (take n row')

abbrev pub FieldByTheTable : Type 0
FieldByTheTable =
    (sheet row : List ℕ) (n : ℕ) (row' : List ℕ)
    → SheetFielded sheet row n row'
    → plan_row ≤ length row
    → PrintedByTheTable (AnswerApplies EightApplies sheet) eight_order (PlanPrinted (sheet_name sheet) (sheet_run sheet)) (take n row')

abbrev pub BuysByTheTable : Type 0
BuysByTheTable =
    (sheet row : List ℕ) (n : ℕ) (row' : List ℕ)
    → SheetBought sheet row n row'
    → buys_row ≤ length row
    → PrintedByTheTable (AnswerApplies RoomApplies sheet) room_order (FiguresOf (sheet_name sheet) (sheet_run sheet)) (take n row')

-- The sheet of document 01, with the aggregates that L10 adds, is answered with its plan, with the legs that L9 adds; and with the retired rule by 19.
abbrev pub example_sheet : List ℕ
example_sheet = bytes "tape=VX0041\nhead=60\nturn=1\nrule=least\nfiles=3\nfile=0,10,0\nfile=10,4,0\nfile=20,30,0\nwants=3\nwant=1,1\nwant=2,3\nwant=3,1\n"

abbrev pub example_plan : List ℕ
example_plan = bytes "tape=VX0041\nsum=367\nreads=5\nfinish=121\nend=50\ndetours=1\ndetour=2,2\ntime=1,81,2\ntime=2,55,1\ntime=3,121,2\n"

abbrev pub PrintsTheExample : Type 0
PrintsTheExample = (row : List ℕ) (n : ℕ) (row' : List ℕ) → SheetRecalled example_sheet row n row' → plan_row ≤ length row → take n row' ≡ example_plan

abbrev pub retired_sheet : List ℕ
retired_sheet = bytes "tape=VX0041\nhead=60\nturn=1\nrule=sweep\nfiles=0\nwants=0\n"

abbrev pub PrintsTwoLines : Type 0
PrintsTwoLines = (row : List ℕ) (n : ℕ) (row' : List ℕ) → SheetRecalled retired_sheet row n row' → plan_row ≤ length row → take n row' ≡ bytes "refused=19\nplace=4\n"
