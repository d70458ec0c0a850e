-- The row that each program lends takes every answer whole, whatever its input is. The numbers here are those of the programs' rows:
-- tests/python/rows.py compares them.
use Rattle.std.specs.Prelude.{ℕ, ◌^◌, ◌≤◌, ◌<◌, ◌≡◌, Bool, ◌⊎◌, List, ◌++◌, length, take, drop, get_or}
use Rattle.refusals.specs.declared.Refusal.TheVariants.{Accepted, ShortRow}
use Rattle.refusals.specs.declared.Verdict.{Verdict}
use Rattle.text_bytes.specs.Text.{bytes}
use Rattle.text_pages.specs.Printing.{Put}
use Rattle.sheet_writer.specs.declared.Written.{Written}
use Rattle.sheet_writer.specs.RefusalLines.{RefusalWritten}
use Rattle.answer_rewrite.specs.Rewriting.{rewritten, SheetRewritten}
use Rattle.answer_mend.specs.declared.Mended.{Mended}
use Rattle.answer_mend.specs.Mending.{mended_text, changes_text, SheetMended}
use Rattle.answer_month.specs.declared.Month.{Month}
use Rattle.answer_month.specs.Month.{empty_month}
use Rattle.answer_month.specs.Parts.{input_verdict}
use Rattle.answer_month.specs.Page.{PagePut}
use Rattle.answer_ltfs.specs.declared.Told.{Told}
use Rattle.answer_ltfs.specs.Input.{answer_text, report_text, InputAnswered}
use Rattle.answer_plan.specs.Recall.{SheetRecalled}
use Rattle.answer_field.specs.Field.{SheetFielded}
use Rattle.answer_buys.specs.Buys.{SheetBought}
use Rattle.answer_check.specs.Inputs.{InputPriced, InputChecked}
use Rattle.promises.specs.Months.{ReadsOn}
use Rattle.promises.specs.Texts.{pair}

-- What any row is left with, of a text that was printed: one that takes it begins with it, a shorter one has nothing of it; whatever stands behind is as it was.
pub record LeftIn (text row : List ℕ) (n : ℕ) (row' : List ℕ) : Type 0 where
  pub whole : length text ≤ length row → (n ≡ length text) × (take n row' ≡ text)
  pub short : length row < length text → n ≡ 0
  pub behind : drop n row' ≡ drop n row

-- A row of so many bytes takes every answer whole: something is printed, no more than these, and every other row, of any length, is left with that text.
abbrev pub TakesAll : ℕ → (List ℕ → ℕ → List ℕ → Type 0) → Type 0
TakesAll most Answers =
    (row : List ℕ) (n : ℕ) (row' : List ℕ)
    → Answers row n row'
    → most ≤ length row
    → (0 < n) × (n ≤ most)
    × ((other : List ℕ) (m : ℕ) (other' : List ℕ) → Answers other m other' → LeftIn (take n row') other m other')

-- `plan` and `field`, `buys`, `price`, `check`.
abbrev pub plan_row : ℕ
plan_row = 7644

abbrev pub buys_row : ℕ
buys_row = 4492

abbrev pub price_row : ℕ
price_row = 7644

abbrev pub check_row : ℕ
check_row = 24115

abbrev pub PlanIsWhole : Type 0
PlanIsWhole = (sheet : List ℕ) → TakesAll plan_row (SheetRecalled sheet)

abbrev pub FieldIsWhole : Type 0
FieldIsWhole = (sheet : List ℕ) → TakesAll plan_row (SheetFielded sheet)

abbrev pub BuysIsWhole : Type 0
BuysIsWhole = (sheet : List ℕ) → TakesAll buys_row (SheetBought sheet)

abbrev pub PriceIsWhole : Type 0
PriceIsWhole = (input : List ℕ) → TakesAll price_row (InputPriced input)

abbrev pub CheckIsWhole : Type 0
CheckIsWhole = (input room : List ℕ) → TakesAll check_row (λ row n row'. (room' : List ℕ) × InputChecked input row room n row' room')

-- `month`, for a month and a verdict as the program holds them: words, 32 numbers of refusals, a name of at most 16 letters.
pub record InWords (m : Month) (v : Verdict) : Type 0 where
  pub accepted : m.accepted < 2 ^ 64
  pub many : length m.refused ≤ 32
  pub refused : (i : ℕ) → i < length m.refused → get_or m.refused i 0 < 2 ^ 64
  pub reads : m.reads < 2 ^ 64
  pub sum : m.sum < 2 ^ 64
  pub saved : m.saved < 2 ^ 64
  pub time : m.time < 2 ^ 64
  pub file : m.file < 2 ^ 64
  pub letters : length m.tape ≤ 16
  pub place : v.place < 2 ^ 64

abbrev pub month_row : ℕ
month_row = 2048

abbrev pub MonthIsWhole : Type 0
MonthIsWhole = (m : Month) (v : Verdict) → InWords m v → TakesAll month_row (PagePut m v)

-- Whatever the input is, its month is held so.
abbrev pub MonthsAreInWords : Type 0
MonthsAreInWords = (input : List ℕ) (m : Month) (good : Bool) → ReadsOn empty_month input m good → InWords m (input_verdict m good)

-- `mend` and `rewrite`: 8 is never answered, and the texts stand in front.
abbrev pub sheet_row : ℕ
sheet_row = 16384

abbrev pub changes_row : ℕ
changes_row = 98424

pub record MendPrints (sheet : List ℕ) (r : Mended) (out' notes' : List ℕ) : Type 0 where
  pub fits : r.refusal ≡ ShortRow → ⊥
  pub text : r.refusal ≡ Accepted → take r.bytes out' ≡ mended_text sheet
  pub changes : r.refusal ≡ Accepted → take r.noted notes' ≡ changes_text sheet
  pub near : r.place < 2 ^ 64

abbrev pub MendIsWhole : Type 0
MendIsWhole =
    (sheet out notes : List ℕ) (r : Mended) (out' notes' : List ℕ)
    → SheetMended sheet out notes r out' notes'
    → sheet_row ≤ length out
    → changes_row ≤ length notes
    → MendPrints sheet r out' notes'

pub record RewritePrints (sheet : List ℕ) (r : Written) (row' : List ℕ) : Type 0 where
  pub fits : r.refusal ≡ ShortRow → ⊥
  pub text : r.refusal ≡ Accepted → take r.bytes row' ≡ rewritten sheet
  pub near : r.place < 2 ^ 64

abbrev pub RewriteIsWhole : Type 0
RewriteIsWhole = (sheet row : List ℕ) (r : Written) (row' : List ℕ) → SheetRewritten sheet row r row' → sheet_row ≤ length row → RewritePrints sheet r row'

-- The two lines of a refusal, whatever it is: in the row that `desk` lends for them, and so in those of `mend` and `rewrite`, which are longer.
abbrev pub refusal_row : ℕ
refusal_row = 56

abbrev pub RefusalIsWhole : Type 0
RefusalIsWhole = (v : Verdict) → v.place < 2 ^ 64 → TakesAll refusal_row (λ row n row'. (w : Written) × (RefusalWritten v row w row' × (n ≡ w.bytes)))

-- The last line of `desk`: how many of each office wait, whatever two words these are.
abbrev pub waiting_row : ℕ
waiting_row = 50

abbrev pub WaitingIsWhole : Type 0
WaitingIsWhole =
    (ones twos : ℕ) (row : List ℕ) (n : ℕ) (row' : List ℕ)
    → Put row 0 (bytes "waiting=" ++ pair ones twos ++ bytes "\n") 50 row' n
    → waiting_row ≤ length row
    → take n row' ≡ bytes "waiting=" ++ pair ones twos ++ bytes "\n"

-- `ltfs`: the sheet or the refusal, and the report.
abbrev pub report_row : ℕ
report_row = 54

pub record TapePrints (input : List ℕ) (r : Told) (out' notes' : List ℕ) : Type 0 where
  pub some : 0 < r.bytes
  pub text : take r.bytes out' ≡ answer_text input
  pub report : take r.noted notes' ≡ report_text input

abbrev pub TapeIsWhole : Type 0
TapeIsWhole =
    (input out notes : List ℕ) (r : Told) (out' notes' : List ℕ)
    → InputAnswered input out notes r out' notes'
    → sheet_row ≤ length out
    → report_row ≤ length notes
    → TapePrints input r out' notes'

-- Any rows take both texts or, where one is shorter than its text, neither, and then nothing is told.
pub record BothOrNeither (text report out notes : List ℕ) (r : Told) (out' notes' : List ℕ) : Type 0 where
  pub both : length text ≤ length out → length report ≤ length notes
      → ((r.bytes ≡ length text) × (r.noted ≡ length report)) × ((take r.bytes out' ≡ text) × (take r.noted notes' ≡ report))
  pub neither : (length out < length text) ⊎ (length notes < length report) → ((r.bytes ≡ 0) × (r.noted ≡ 0)) × ((out' ≡ out) × (notes' ≡ notes))

abbrev pub TapeInAnyRows : Type 0
TapeInAnyRows =
    (input wide long out notes : List ℕ) (w r : Told) (wide' long' out' notes' : List ℕ)
    → InputAnswered input wide long w wide' long'
    → sheet_row ≤ length wide
    → report_row ≤ length long
    → InputAnswered input out notes r out' notes'
    → BothOrNeither (take w.bytes wide') (take w.noted long') out notes r out' notes'

-- Whatever rows are lent, what stands behind the two texts is as it was.
abbrev pub TapeKeepsBehind : Type 0
TapeKeepsBehind =
    (input out notes : List ℕ) (r : Told) (out' notes' : List ℕ)
    → InputAnswered input out notes r out' notes'
    → (drop r.bytes out' ≡ drop r.bytes out) × (drop r.noted notes' ≡ drop r.noted notes)
