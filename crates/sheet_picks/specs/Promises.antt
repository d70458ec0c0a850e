-- What is promised of entries, runs and sheets, beside the contract. Proved in proofs/InTurn, proofs/Apart and proofs/Fitting.
use Rattle.std.specs.Prelude.{ℕ, Result, ◌^◌, ◌≤◌, ◌<◌, ◌≡◌, true, List, [], length, get_or}
use Rattle.refusals.specs.declared.Refusal.{Refusal}
use Rattle.refusals.specs.declared.Refusal.TheVariants.{Accepted, TurnPrice, HeadPlace}
use Rattle.refusals.specs.declared.Verdict.{Verdict}
use Rattle.refusals.specs.Refusals.{accepted}
use Rattle.runs.specs.Run.{Run, last_place, most_reads, total}
use Rattle.runs.specs.Judging.{judge_of}
use Rattle.text_bytes.specs.Text.{is_name}
use Rattle.sheet_reader.specs.Sheet.{sheet_run}
use Rattle.sheet_reader.specs.Reading.{sheet_verdict, rule_verdict, read_name}
use Rattle.sheet_picks.specs.declared.Picks.{Picks}
use Rattle.sheet_picks.specs.Entries.{most_entries, EntriesOf, entry_reads}
use Rattle.sheet_picks.specs.Sheets.{picked_run, picked_sheet}
use Rattle.sheet_picks.specs.Writing.{PicksWritten}

-- Wanted files have their entries in one way only, and two answers that fit are equal, with the rows that they leave.
abbrev pub EntriesAreOne : Type 0
EntriesAreOne = (starts ends firsts lasts firsts' lasts' : List ℕ) → EntriesOf starts ends firsts lasts → EntriesOf starts ends firsts' lasts' → (firsts ≡ firsts') × (lasts ≡ lasts')

abbrev pub PicksAreOne : Type 0
PicksAreOne = (name list starts ends head turn out names : List ℕ) (r s : Result Picks Verdict) (out' names' out'' names'' : List ℕ)
    → PicksWritten name list starts ends head turn out names r out' names' → PicksWritten name list starts ends head turn out names s out'' names'' → (r ≡ s) × (out' ≡ out'') × (names' ≡ names'')

-- Wanted files that a run takes: each starts before it ends, and ends within the limit; their entries are all there, at most 64.
pub record Wanted (starts ends firsts lasts : List ℕ) : Type 0 where
  pub even : length starts ≡ length ends
  pub long : (i : ℕ) → i < length starts → get_or starts i 0 < get_or ends i 0
  pub near : (i : ℕ) → i < length starts → get_or ends i 0 ≤ last_place
  pub lines : length starts ≤ most_reads
  pub entries : EntriesOf starts ends firsts lasts
  pub few : length firsts ≤ most_entries

-- Entries are disjoint.
abbrev pub EntriesAreApart : Type 0
EntriesAreApart = (starts ends firsts lasts : List ℕ) → EntriesOf starts ends firsts lasts → (i j : ℕ) → i < j → j < length firsts → get_or lasts i 0 ≤ get_or firsts j 0

-- Every wanted file lies in an entry, from its start to its end.
pub record LiesIn (firsts lasts : List ℕ) (start end : ℕ) : Type 0 where
  pub which : ℕ
  pub listed : which < length firsts
  pub begins : get_or firsts which 0 ≤ start
  pub inside : start < get_or lasts which 0
  pub ends : end ≤ get_or lasts which 0

abbrev pub FilesLieInEntries : Type 0
FilesLieInEntries = (starts ends firsts lasts : List ℕ) → Wanted starts ends firsts lasts → (i : ℕ) → i < length starts → LiesIn firsts lasts (get_or starts i 0) (get_or ends i 0)

-- Reads add up to the lines.
abbrev pub ReadsAddUp : Type 0
ReadsAddUp = (starts ends firsts lasts : List ℕ) → Wanted starts ends firsts lasts → total (entry_reads starts firsts lasts) ≡ length starts

-- 1 to 5 accept the run, whatever head and turn price are given: it is accepted, or refused by 6 or 7. Without a head and a price these accept it too.
pub data OnlyHeadOrPrice : Refusal → Type 0 where
  nothing : OnlyHeadOrPrice Accepted
  turn_price : OnlyHeadOrPrice TurnPrice
  head_place : OnlyHeadOrPrice HeadPlace

abbrev pub PickedRunsFit : Type 0
PickedRunsFit = (starts ends firsts lasts head turn : List ℕ) → Wanted starts ends firsts lasts → OnlyHeadOrPrice (judge_of (picked_run starts firsts lasts head turn)).refusal

abbrev pub UsualHeadFits : Type 0
UsualHeadFits = (starts ends firsts lasts : List ℕ) → Wanted starts ends firsts lasts → judge_of (picked_run starts firsts lasts [] []) ≡ accepted

-- The sheet reads back as that run, under its name, also where 6 or 7 refuse the run: whatever words are given as the head and the price.
pub record ReadAgain (name sheet : List ℕ) (run : Run) : Type 0 where
  pub read : sheet_verdict sheet ≡ accepted
  pub ruled : rule_verdict sheet ≡ accepted
  pub run_is : sheet_run sheet ≡ run
  pub name_is : read_name sheet ≡ name

abbrev pub SheetsReadBack : Type 0
SheetsReadBack =
    (name starts ends firsts lasts head turn : List ℕ)
    → is_name name ≡ true
    → Wanted starts ends firsts lasts
    → get_or head 0 0 < 2 ^ 64
    → get_or turn 0 0 < 2 ^ 64
    → ReadAgain name (picked_sheet name starts firsts lasts head turn) (picked_run starts firsts lasts head turn)
