-- The parts of a month for a caller in Rattle, of every month and every text, also those that reading an input never comes to: a sheet that is added, what an accepted
-- sheet's outcome names, what a line is behind so many sheets, and the verdict on the input.
use Rattle.std.specs.Prelude.{ℕ, ◌-◌, ◌^◌, ◌≤◌, ◌<◌, ◌≡◌, true, false, Option, Some, None, Result, Ok, Err, List, [], ◌∷◌, ◌++◌, length, replicate}
use Rattle.refusals.specs.declared.Refusal.TheVariants.{Accepted, BadSheetCount}
use Rattle.runs.specs.Lists.{Detour}
use Rattle.least.specs.Least.{LeastForRun}
use Rattle.text_bytes.specs.Text.{bytes, line_feed, decimal}
use Rattle.sheet_reader.specs.Sheet.{sheet_run, sheet_name}
use Rattle.answer_outcome.specs.declared.Outcome.{Outcome}
use Rattle.answer_outcome.specs.Outcomes.{OutcomeOf}
use Rattle.answer_month.specs.declared.Month.{Month}
use Rattle.answer_month.specs.declared.BadPart.{BadPart}
use Rattle.answer_month.specs.declared.CutOff.{CutOff}
use Rattle.answer_month.specs.Month.{added}
use Rattle.answer_month.specs.Parts.{part_of, SheetAdded, input_verdict}
use Rattle.promises.specs.MonthLongest.{times_by_walk}
use Rattle.promises.specs.MonthRuns.{ComesTo}
use Rattle.promises.specs.Callers.{IsLongestOf, Grows, WithOneMore}

-- The outcome of a sheet, added to a month.
pub record OutcomeMore (m : Month) (sheet : List ℕ) (r : Result Month CutOff) : Type 0 where
  pub outcome : Outcome
  pub of_sheet : OutcomeOf sheet outcome
  pub comes_to : ComesTo sheet outcome
  pub month : Month
  pub is_added : month ≡ added m outcome
  pub more : WithOneMore m outcome month
  pub whole : r ≡ Ok month

-- A sheet of so many bytes, of which so many are there: fewer add nothing, and that is said; else its outcome is added.
pub record SheetTold (m : Month) (bytes there : ℕ) (sheet : List ℕ) (r : Result Month CutOff) : Type 0 where
  pub cut : there < bytes → r ≡ Err (record { month = m })
  pub there_all : bytes ≤ there → OutcomeMore m sheet r

abbrev pub SheetIsAdded : Type 0
SheetIsAdded = (m : Month) (bytes there : ℕ) (sheet : List ℕ) (r : Result Month CutOff) → SheetAdded m bytes there sheet r → SheetTold m bytes there sheet r

-- What an accepted sheet's outcome names, also where no time is above 0: the tape's name with zeros behind it, sixteen bytes in all, and its letters; the longest of the
-- times of the least list, with its file.
pub record OutcomeNames (sheet : List ℕ) (o : Outcome) : Type 0 where
  pub letters : o.letters ≡ length (sheet_name sheet)
  pub tape : o.tape ≡ sheet_name sheet ++ replicate (16 - length (sheet_name sheet)) 0
  pub sixteen : length o.tape ≡ 16
  pub longest : (list : List Detour)
      → LeastForRun (sheet_run sheet) list
      → IsLongestOf (sheet_run sheet).numbers (times_by_walk (sheet_run sheet) list) (record { time = o.time; file = o.file })

abbrev pub AcceptedNames : Type 0
AcceptedNames = (sheet : List ℕ) (o : Outcome) → OutcomeOf sheet o → o.refusal ≡ Accepted → OutcomeNames sheet o

-- A byte count: the digits of a number below 2 to the 64 and an LF, and nothing behind it.
pub record CountLine (bytes : ℕ) (line : List ℕ) : Type 0 where
  pub word : bytes < 2 ^ 64
  pub is : line ≡ decimal bytes ++ (line_feed ∷ [])

-- A line behind so many sheets: the end where it is empty; the byte count that stands there, if fewer than 1,000 sheets came before; anything else has no place there.
pub record PartTold (sheets : ℕ) (line : List ℕ) (part : Result (Option ℕ) BadPart) : Type 0 where
  pub end : line ≡ [] → part ≡ Ok None
  pub sheet : (bytes : ℕ) → CountLine bytes line → sheets < 1000 → part ≡ Ok (Some bytes)
  pub beyond : (line ≡ [] → ⊥) → 1000 ≤ sheets → part ≡ Err (record {})
  pub no_count : (line ≡ [] → ⊥) → ((bytes : ℕ) → CountLine bytes line → ⊥) → part ≡ Err (record {})

abbrev pub PartIsTold : Type 0
PartIsTold = (sheets : ℕ) (line : List ℕ) → PartTold sheets line (part_of sheets line)

-- The verdict on the input: accepted at place 0, or 25 at the number of the sheet behind those of the month.
pub record InputTold (m : Month) : Type 0 where
  pub good : input_verdict m true ≡ record { refusal = Accepted; place = 0 }
  pub kind : (input_verdict m false).refusal ≡ BadSheetCount
  pub place : Grows m.sheets 1 (input_verdict m false).place

abbrev pub InputIsJudged : Type 0
InputIsJudged = (m : Month) → InputTold m

-- The line `12` behind 999 sheets and behind 1,000; with a byte behind its LF; and no line behind 1,000.
abbrev pub LinesOfAMonth : Type 0
LinesOfAMonth =
    (part_of 999 (bytes "12\n") ≡ Ok (Some 12))
    × (part_of 1000 (bytes "12\n") ≡ Err (record {}))
    × (part_of 0 (bytes "12\nt") ≡ Err (record {}))
    × (part_of 1000 [] ≡ Ok None)
