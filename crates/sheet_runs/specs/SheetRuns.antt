-- The run of a sheet by value, whatever its bytes are.
use Rattle.std.specs.Prelude.{ℕ, ◌-◌, cond, List, [], ◌∷◌, ◌++◌, length, take}
use Rattle.refusals.specs.declared.Verdict.{Verdict}
use Rattle.refusals.specs.Refusals.{is_refusal, first_of}
use Rattle.runs.specs.Run.{Run, run_of, most_wants}
use Rattle.runs.specs.Alone.{zeros}
use Rattle.sheet_reader.specs.Sheet.{most_sheet_files, sheet_run}
use Rattle.sheet_reader.specs.Reading.{sheet_verdict, rule_verdict}
use Rattle.sheet_runs.specs.declared.SheetRun.{SheetRun}

-- 12, then 11 with its line, then 19 with the fourth. No row is too short, so 8 never applies.
unfoldable pub early_verdict : List ℕ → Verdict
early_verdict sheet = first_of (sheet_verdict sheet ∷ rule_verdict sheet ∷ [])

-- A row with room for so many: these, then zeros.
abbrev pub filled_up : ℕ → List ℕ → List ℕ
filled_up room values = values ++ zeros (room - length values)

-- A verdict, and a run in rows.
abbrev pub in_rows : Verdict → Run → SheetRun
in_rows v run =
    record {
      verdict = v;
      files = length run.starts;
      wants = length run.numbers;
      head = run.head;
      turn = run.turn;
      starts = filled_up most_sheet_files run.starts;
      lengths = filled_up most_sheet_files run.lengths;
      aggregates = filled_up most_sheet_files run.aggregates;
      numbers = filled_up most_wants run.numbers;
      counts = filled_up most_wants run.counts;
    }

-- The sheet's verdict and its run; on a refusal that of no files and no wants, with every number 0.
unfoldable pub run_by_value : List ℕ → SheetRun
run_by_value sheet =
    in_rows (early_verdict sheet) (cond (is_refusal (early_verdict sheet).refusal) (run_of [] [] [] [] [] 0 0) (sheet_run sheet))

-- The run that such rows hold.
abbrev pub run_held : SheetRun → Run
run_held r =
    run_of (take r.files r.starts) (take r.files r.lengths) (take r.files r.aggregates) (take r.wants r.numbers) (take r.wants r.counts) r.head r.turn
