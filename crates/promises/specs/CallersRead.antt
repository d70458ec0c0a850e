-- The readers of detour lists and of loose sheets for a caller in Rattle, whatever answer and rows fit: the first refusal that applies, and then nothing told and the rows as
-- they were; or what stands on the lines, in the first entries of two rows, and the later ones as they were.
use Rattle.std.specs.Prelude.{ℕ, ◌+◌, ◌≤◌, ◌<◌, ◌≡◌, true, false, ◌⊎◌, ◌↔◌, List, [], ◌∷◌, ◌++◌, length, get_or, drop}
use Rattle.refusals.specs.declared.Refusal.{Refusal}
use Rattle.refusals.specs.declared.Refusal.TheVariants.{Accepted, BadLine, LongSheet, ShortRow}
use Rattle.refusals.specs.Refusals.{accepted}
use Rattle.text_bytes.specs.Text.{bytes, decimal}
use Rattle.text_lines.specs.Lines.{after_lines}
use Rattle.sheet_reader.specs.Lines.{turn_key, files_key, wants_key, sweep_text}
use Rattle.sheet_lists.specs.declared.ListReading.{ListReading}
use Rattle.sheet_lists.specs.Reading.{PlanRead, ListRead}
use Rattle.sheet_loose.specs.declared.Parts.{Parts}
use Rattle.sheet_loose.specs.Reading.{LooseRead}
use Rattle.demands.specs.RefusalTable.{FirstThatApplies}
use Rattle.demands.specs.Lines.{Stands, Ruled}
use Rattle.demands.specs.SheetLines.{PriceText}
use Rattle.promises.specs.Mender.{WantLine, Come, FileLines, Asks, SheetApplies, disordered}
use Rattle.promises.specs.ListLines.{PlanFormApplies, ListFormApplies, IsPlanSheet}
use Rattle.promises.specs.ListEntries.{OnPlanSheet, OnBareList}

-- 12 and 11 by a text's own conditions, then 8 where a row is too short for what the text holds.
pub data ReaderApplies (Form : Refusal → ℕ → Type 0) (Short : Type 0) : Refusal → ℕ → Type 0 where
  form : {kind : Refusal} {place : ℕ} → Form kind place → ReaderApplies Form Short kind place
  short_row : Short → ReaderApplies Form Short ShortRow 0

abbrev pub rows_read_order : List Refusal
rows_read_order = LongSheet ∷ BadLine ∷ ShortRow ∷ []

-- Two rows are too short for the entries of a list; or they have these in their first entries, and the later ones as they were.
pub record EntriesTooMany (On : List ℕ → List ℕ → Type 0) (starts ends : List ℕ) : Type 0 where
  pub froms : List ℕ
  pub tos : List ℕ
  pub on : On froms tos
  pub short : (length starts < length froms) ⊎ (length ends < length tos)

pub record EntriesRead (On : List ℕ → List ℕ → Type 0) (starts ends : List ℕ) (many : ℕ) (starts' ends' : List ℕ) : Type 0 where
  pub froms : List ℕ
  pub tos : List ℕ
  pub on : On froms tos
  pub counted : many ≡ length froms
  pub left : starts' ≡ froms ++ drop (length froms) starts
  pub right : ends' ≡ tos ++ drop (length tos) ends

pub record ListReaderAnswers (Form : Refusal → ℕ → Type 0) (On : List ℕ → List ℕ → Type 0) (starts ends : List ℕ) (r : ListReading) (starts' ends' : List ℕ) : Type 0 where
  pub first : FirstThatApplies (ReaderApplies Form (EntriesTooMany On starts ends)) rows_read_order r.verdict.refusal r.verdict.place
  pub kept : (r.verdict.refusal ≡ Accepted → ⊥) → (r.detours ≡ 0) × (starts' ≡ starts) × (ends' ≡ ends)
  pub read : r.verdict.refusal ≡ Accepted → EntriesRead On starts ends r.detours starts' ends'

abbrev pub PlanReaderTells : Type 0
PlanReaderTells =
    (plan starts ends : List ℕ) (r : ListReading) (starts' ends' : List ℕ)
    → PlanRead plan starts ends r starts' ends'
    → ListReaderAnswers (PlanFormApplies plan) (OnPlanSheet plan) starts ends r starts' ends'

-- The entries of a list: those of a plan sheet, if it is one, and else those from its first line to its end.
abbrev pub OnList : List ℕ → List ℕ → List ℕ → Type 0
OnList list froms tos = (IsPlanSheet list × OnPlanSheet list froms tos) ⊎ ((IsPlanSheet list → ⊥) × OnBareList list froms tos)

abbrev pub ListReaderTells : Type 0
ListReaderTells =
    (list starts ends : List ℕ) (r : ListReading) (starts' ends' : List ℕ)
    → ListRead list starts ends r starts' ends'
    → ListReaderAnswers (ListFormApplies list) (OnList list) starts ends r starts' ends'

-- Two lines read into rows of three entries; and 8 where one of the rows has one entry.
abbrev pub two_entries : List ℕ
two_entries = bytes "detour=3,3\ndetour=2,2\n"

abbrev pub ReadsTwoEntries : Type 0
ReadsTwoEntries =
    (r : ListReading) (starts' ends' : List ℕ)
    → ListRead two_entries (7 ∷ 8 ∷ 9 ∷ []) (4 ∷ 5 ∷ 6 ∷ []) r starts' ends'
    → (r.detours ≡ 2) × (starts' ≡ 3 ∷ 2 ∷ 9 ∷ []) × (ends' ≡ 3 ∷ 2 ∷ 6 ∷ [])

abbrev pub ShortForTwoEntries : Type 0
ShortForTwoEntries =
    (r : ListReading) (starts' ends' : List ℕ)
    → ListRead two_entries (7 ∷ 8 ∷ 9 ∷ []) (4 ∷ []) r starts' ends'
    → r.verdict ≡ record { refusal = ShortRow; place = 0 }

-- A loose sheet: more want lines come than a row has entries.
pub record WantsTooMany (sheet wanted counts : List ℕ) : Type 0 where
  pub files : ℕ
  pub wants : ℕ
  pub table : FileLines sheet files
  pub come : Come (WantLine sheet) (6 + files) wants
  pub short : (length wanted < wants) ⊎ (length counts < wants)

-- A place in a sheet: from there on stands what stands behind so many lines.
pub record StartsBehind (sheet : List ℕ) (lines at : ℕ) : Type 0 where
  pub within : at ≤ length sheet
  pub rest : drop at sheet ≡ after_lines lines sheet

-- Its parts: the file lines and the want lines that come, what the two counts say, the price, whether it is left out, whether the rule is the retired one; and where the third
-- line starts, the first file line, the line of wants and the first want line.
pub record PartsTold (sheet : List ℕ) (p : Parts) : Type 0 where
  pub files : FileLines sheet p.files
  pub wants : Come (WantLine sheet) (6 + p.files) p.wants
  pub listed : Stands files_key (λ value. value ≡ decimal p.listed) sheet 4
  pub asked : Stands wants_key (λ value. value ≡ decimal p.asked) sheet (5 + p.files)
  pub turn : Stands turn_key (PriceText p.turn) sheet 2
  pub empty : (p.empty ≡ true) ↔ Stands turn_key (λ value. value ≡ []) sheet 2
  pub sweep : (p.sweep ≡ true) ↔ Ruled sweep_text sheet
  pub third : StartsBehind sheet 2 p.third
  pub table : StartsBehind sheet 5 p.table
  pub tail : StartsBehind sheet (5 + p.files) p.tail
  pub body : StartsBehind sheet (6 + p.files) p.body

-- Its rows: the file and the count of each want line.
pub record WantsTold (sheet wanted counts : List ℕ) (p : Parts) (wanted' counts' : List ℕ) : Type 0 where
  pub files : List ℕ
  pub reads : List ℕ
  pub even : (length files ≡ p.wants) × (length reads ≡ p.wants)
  pub each : (k : ℕ) → k < p.wants → Asks sheet (6 + p.files + k) (get_or files k 0) (get_or reads k 0)
  pub named : wanted' ≡ files ++ drop (length files) wanted
  pub counted : counts' ≡ reads ++ drop (length reads) counts

abbrev pub NoParts : Parts → Type 0
NoParts p = p ≡ record { verdict = p.verdict; third = 0; turn = 0; empty = false; sweep = false; listed = 0; table = 0; files = 0; tail = 0; asked = 0; body = 0; wants = 0 }

pub record LooseReaderAnswers (sheet wanted counts : List ℕ) (p : Parts) (wanted' counts' : List ℕ) : Type 0 where
  pub first : FirstThatApplies (ReaderApplies (SheetApplies sheet) (WantsTooMany sheet wanted counts)) rows_read_order p.verdict.refusal p.verdict.place
  pub kept : (p.verdict.refusal ≡ Accepted → ⊥) → NoParts p × (wanted' ≡ wanted) × (counts' ≡ counts)
  pub parts : p.verdict.refusal ≡ Accepted → PartsTold sheet p
  pub rows : p.verdict.refusal ≡ Accepted → WantsTold sheet wanted counts p wanted' counts'

abbrev pub LooseReaderTells : Type 0
LooseReaderTells =
    (sheet wanted counts : List ℕ) (p : Parts) (wanted' counts' : List ℕ)
    → LooseRead sheet wanted counts p wanted' counts'
    → LooseReaderAnswers sheet wanted counts p wanted' counts'

-- The disordered sheet of the mender, read into rows of five entries.
abbrev pub ReadsTheDisorderedSheet : Type 0
ReadsTheDisorderedSheet =
    (p : Parts) (wanted' counts' : List ℕ)
    → LooseRead disordered (7 ∷ 7 ∷ 7 ∷ 7 ∷ 7 ∷ []) (8 ∷ 8 ∷ 8 ∷ 8 ∷ 8 ∷ []) p wanted' counts'
    → (p ≡ record { verdict = accepted; third = 17; turn = 12000; empty = true; sweep = true; listed = 3; table = 42; files = 2; tail = 67; asked = 9; body = 75; wants = 4 })
    × (wanted' ≡ 2 ∷ 1 ∷ 1 ∷ 2 ∷ 7 ∷ [])
    × (counts' ≡ 1 ∷ 0 ∷ 2 ∷ 3 ∷ 8 ∷ [])
