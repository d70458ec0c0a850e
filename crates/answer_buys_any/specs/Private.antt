-- For the function that writes a list. No public contract cites this file.
use Rattle.std.specs.Prelude.{ℕ, List, take}
use Rattle.sheet_reader.specs.Reading.{read_name}
use Rattle.sheet_runs.specs.declared.SheetRun.{SheetRun}
use Rattle.sheet_runs.specs.SheetRuns.{run_held}
use Rattle.sheet_writer.specs.declared.Written.{Written}
use Rattle.sheet_figures.specs.AnyHead.{FigureAnyWritten}
use Rattle.answer_plan.specs.declared.PlannedList.{PlannedList}

-- The figure sheet of the entries of a list, which the writer judges for itself.
abbrev pub FiguresOfList : List ℕ → SheetRun → PlannedList → List ℕ → Written → List ℕ → Type 0
FiguresOfList sheet r l row w row' = FigureAnyWritten (read_name sheet) (run_held r) (take l.detours l.froms) (take l.detours l.tos) row w row'
