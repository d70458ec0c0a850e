-- The request on empty turn prices (L3): an empty `turn=` means the drives' own price. An old sheet is rewritten with a 0 there, byte for byte the same
-- elsewhere. Whatever an empty `turn=` means to a reader, it reads the new sheet as the old one was read when that was 0. Demands 2 and 3 speak of a
-- run's price: for a run that was read from a sheet it is the number that the reader gives by this rule.
use Rattle.std.specs.Prelude.{ℕ, ◌+◌, ◌≤◌, ◌<◌, ◌≡◌, ◌⊎◌, List, [], ◌∷◌, ◌++◌, length, take, drop}
use Prim.Native.Char.{code}
use Rattle.refusals.specs.declared.Refusal.{Refusal}
use Rattle.refusals.specs.declared.Refusal.TheVariants.{Accepted, BadLine, LongSheet, ShortRow}
use Rattle.text_bytes.specs.Text.{line_feed, value_of}
use Rattle.sheet_reader.specs.declared.Reading.{Reading}
use Rattle.text_lines.specs.Lines.{after_lines}
use Rattle.sheet_reader.specs.Lines.{turn_key}
use Rattle.sheet_reader.specs.Reading.{sheet_verdict, RunRows, ReadWith, SheetRead, read_name}
use Rattle.sheet_writer.specs.declared.Written.{Written}
use Rattle.answer_rewrite.specs.Rewriting.{SheetRewritten}
use Rattle.demands.specs.RefusalTable.{FirstBad, FirstThatApplies}
use Rattle.demands.specs.Lines.{Stands, Number, LineIsBad, lines_due}

-- Behind two lines stands an empty `turn=`, or one with a number.
abbrev pub EmptyPrice : List ℕ → Type 0
EmptyPrice sheet = Stands turn_key (λ text. text ≡ []) sheet 2

abbrev pub GivenPrice : List ℕ → Type 0
GivenPrice sheet = Stands turn_key Number sheet 2

-- What the reader hands on: 12,000 for an empty price, else the number.
pub record PriceRead (sheet : List ℕ) (answer : Reading) : Type 0 where
  pub empty : EmptyPrice sheet → answer.turn ≡ 12000
  pub given : (price : GivenPrice sheet) → answer.turn ≡ value_of price.value

abbrev pub DrivesOwnPrice : Type 0
DrivesOwnPrice =
    (sheet : List ℕ) (before : RunRows) (answer : Reading) (after : RunRows)
    → SheetRead sheet before answer after
    → answer.refusal ≡ Accepted
    → PriceRead sheet answer

-- A reader to whom an empty price means e, whatever e is, reads as the reader does in all but that: the same refusal, head, files and wants, and the same rows; a price that
-- stands there is the same, and for an empty one it hands on e.
pub record ReadsButThePrice (e : ℕ) (sheet : List ℕ) (answer other : Reading) : Type 0 where
  pub refusal : other.refusal ≡ answer.refusal
  pub place : other.place ≡ answer.place
  pub head : other.head ≡ answer.head
  pub files : other.files ≡ answer.files
  pub wants : other.wants ≡ answer.wants
  pub refused : (other.refusal ≡ Accepted → ⊥) → other.turn ≡ answer.turn
  pub given : GivenPrice sheet → other.turn ≡ answer.turn
  pub empty : EmptyPrice sheet → other.refusal ≡ Accepted → other.turn ≡ e

abbrev pub OtherReaders : Type 0
OtherReaders =
    (e : ℕ) (sheet : List ℕ) (before : RunRows) (answer other : Reading) (after rows : RunRows)
    → SheetRead sheet before answer after
    → ReadWith e sheet before other rows
    → ReadsButThePrice e sheet answer other × (rows ≡ after)

-- Byte for byte the same elsewhere: the sheet is a front that ends in `turn=`, an LF and a back, cut in the third line, and the result has a 0 before
-- that LF.
pub record ZeroPutIn (sheet result : List ℕ) : Type 0 where
  pub above : List ℕ
  pub back : List ℕ
  pub third : after_lines 2 sheet ≡ turn_key ++ (line_feed ∷ back)
  pub old : sheet ≡ (above ++ turn_key) ++ (line_feed ∷ back)
  pub new : result ≡ (above ++ turn_key) ++ (code "0" ∷ (line_feed ∷ back))

-- An accepted rewriting: one of the two stands there; the bytes for each, as many as are told, with the later ones of the row as they were.
pub record Rewrites (sheet row : List ℕ) (answer : Written) (out : List ℕ) : Type 0 where
  pub either : EmptyPrice sheet ⊎ GivenPrice sheet
  pub empty : EmptyPrice sheet → ZeroPutIn sheet (take answer.bytes out)
  pub given : GivenPrice sheet → take answer.bytes out ≡ sheet
  pub counted : answer.bytes ≡ length (take answer.bytes out)
  pub later : drop answer.bytes out ≡ drop answer.bytes row

abbrev pub RewrittenBytes : Type 0
RewrittenBytes =
    (sheet row : List ℕ) (answer : Written) (out : List ℕ)
    → SheetRewritten sheet row answer out
    → answer.refusal ≡ Accepted
    → Rewrites sheet row answer out

-- A reader that takes an empty price for e, whatever e is, answers for the new sheet, and leaves in rows of any lengths, what one that takes it for
-- 0 does for the old sheet: head, price, files and wants, or the refusal, 19 among them. The name is the same.
pub record ReadsAsBefore (old new : Reading) (oldRows newRows : RunRows) (oldName newName : List ℕ) : Type 0 where
  pub answers : new ≡ old
  pub rows : newRows ≡ oldRows
  pub named : newName ≡ oldName

abbrev pub RewrittenMeans : Type 0
RewrittenMeans =
    (sheet row : List ℕ) (written : Written) (out : List ℕ)
    → SheetRewritten sheet row written out
    → written.refusal ≡ Accepted
    → (e : ℕ) (rows : RunRows) (old new : Reading) (oldRows newRows : RunRows)
    → ReadWith 0 sheet rows old oldRows
    → ReadWith e (take written.bytes out) rows new newRows
    → ReadsAsBefore old new oldRows newRows (read_name sheet) (read_name (take written.bytes out))

-- A rewritten sheet rewritten again is itself.
abbrev pub RewrittenOnce : Type 0
RewrittenOnce =
    (sheet row : List ℕ) (written : Written) (out : List ℕ)
    → SheetRewritten sheet row written out
    → written.refusal ≡ Accepted
    → (more : List ℕ) (again : Written) (outAgain : List ℕ)
    → written.bytes ≤ length more
    → SheetRewritten (take written.bytes out) more again outAgain
    → (again ≡ written) × (take again.bytes outAgain ≡ take written.bytes out)

-- The refusals: 12 and 11 of the sheet, as the reader gives them; then 12 and 8 of the result, which is a byte longer where a 0 is put in. So of sheets that can be
-- read, 12 then refuses only one of exactly 16,384 bytes with an empty price. Nothing else: neither the rule nor the run is judged.
pub data UnreadApplies (sheet : List ℕ) : Refusal → ℕ → Type 0 where
  too_long : 16384 < length sheet → UnreadApplies sheet LongSheet 0
  bad_line : {place : ℕ} → FirstBad (LineIsBad sheet) (lines_due sheet) place → UnreadApplies sheet BadLine place

pub data ResultApplies (sheet row : List ℕ) : Refusal → ℕ → Type 0 where
  too_long : EmptyPrice sheet → length sheet ≡ 16384 → ResultApplies sheet row LongSheet 0
  short_empty : EmptyPrice sheet → length row < length sheet + 1 → ResultApplies sheet row ShortRow 0
  short_given : GivenPrice sheet → length row < length sheet → ResultApplies sheet row ShortRow 0

abbrev pub UnreadFirst : List ℕ → Refusal → ℕ → Type 0
UnreadFirst sheet kind place = FirstThatApplies (UnreadApplies sheet) (LongSheet ∷ BadLine ∷ []) kind place

abbrev pub ResultFirst : List ℕ → List ℕ → Refusal → ℕ → Type 0
ResultFirst sheet row kind place = FirstThatApplies (ResultApplies sheet row) (LongSheet ∷ ShortRow ∷ []) kind place

pub data RewriteFinds (sheet row : List ℕ) (kind : Refusal) (place : ℕ) : Type 0 where
  unread : (kind ≡ Accepted → ⊥) → UnreadFirst sheet kind place → RewriteFinds sheet row kind place
  result : UnreadFirst sheet Accepted 0 → ResultFirst sheet row kind place → RewriteFinds sheet row kind place

-- A refusal has no bytes, and the row is as it was.
pub record RewriteAnswers (sheet row : List ℕ) (answer : Written) (out : List ℕ) : Type 0 where
  pub first : RewriteFinds sheet row answer.refusal answer.place
  pub kept : (answer.refusal ≡ Accepted → ⊥) → (answer.bytes ≡ 0) × (out ≡ row)

abbrev pub Demand1Rewrite : Type 0
Demand1Rewrite =
    (sheet row : List ℕ) (answer : Written) (out : List ℕ)
    → SheetRewritten sheet row answer out
    → RewriteAnswers sheet row answer out

-- The check that every reader of a sheet begins with: the first of 12 and 11 that applies, with its line.
abbrev pub SheetJudged : Type 0
SheetJudged = (sheet : List ℕ) → UnreadFirst sheet (sheet_verdict sheet).refusal (sheet_verdict sheet).place
