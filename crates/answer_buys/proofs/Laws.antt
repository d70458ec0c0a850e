-- The answer to a sheet that holds a figure sheet.
use Prim.Native.Nat.{ℕ}
use mathlib.Core.Path.{◌≡◌}
use mathlib.Core.List.{List}
use Rattle.sheet_runs.specs.declared.SheetRun.{SheetRun}
use Rattle.sheet_runs.specs.SheetRuns.{run_by_value}
use Rattle.sheet_figures.specs.FigureSheet.{figure_text, figure_sheet_verdict, FigureWritten}
use Rattle.answer_plan.specs.declared.PlannedList.{PlannedList}
use Rattle.answer_plan.specs.Recall.{run_checks}
use Rattle.answer_plan.specs.PlannedLists.{RunListed, WrittenBy}
use Rattle.answer_plan.proofs.Planned.{run_judged}
use Rattle.answer_plan.proofs.Answered.{answered}
use Rattle.answer_buys.specs.Buys.{SheetBought}

pub bought : (sheet : List ℕ) (r : SheetRun) → r ≡ run_by_value sheet → (l : PlannedList) → RunListed run_checks r l → (row : List ℕ) (n : ℕ) (row' : List ℕ) → WrittenBy FigureWritten sheet r l row n row' → SheetBought sheet row n row'
unfolding figure_sheet_verdict
bought sheet r is l listed row n row' written =
    let a = answered run_checks run_judged sheet r is l listed figure_text row n row' (record { text = written.text; bytes = written.bytes; refused = written.refused; planned = written.planned }) in
    record {
      text = a.text;
      answers = record { refused = a.answers.refused; figured = λ e. let p = a.answers.planned e in record { list = p.list; least = p.least; says = p.says } };
      bytes = a.bytes;
      left = a.left;
    }
