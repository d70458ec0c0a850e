-- From a sheet's run by value, its list and what is written of it to the answer to the sheet that holds a figure sheet, for a program and for a caller.
use Prim.Native.Nat.{ℕ}
use mathlib.Core.Path.{◌≡◌, refl, sym, ap, ◌∙◌}
use mathlib.Core.Bool.{Bool, true, false, true≢false}
use mathlib.Core.List.{List, ◌∷◌}
use lib.ListN.{length}
use Rattle.refusals.specs.declared.Verdict.{Verdict}
use Rattle.refusals.specs.Refusals.{is_refusal, first_of}
use Rattle.refusals.proofs.Verdicts.{refuses}
use Rattle.runs.specs.Run.{Run}
use Rattle.runs.specs.AnyHead.{judge_any_of}
use Rattle.least.specs.AnyHead.{LeastAny}
use Rattle.sheet_runs.specs.declared.SheetRun.{SheetRun}
use Rattle.sheet_runs.specs.SheetRuns.{run_by_value, run_held}
use Rattle.sheet_writer.specs.declared.Written.{Written}
use Rattle.sheet_writer.specs.Writing.{written_of, refused_writing}
use Rattle.sheet_writer.specs.RefusalLines.{RefusalWritten}
use Rattle.sheet_figures.specs.AnyHead.{figure_any_text, figure_any_sheet_verdict, FigureAnyWritten}
use Rattle.answer_plan.specs.declared.PlannedList.{PlannedList}
use Rattle.answer_plan.specs.PlannedLists.{WrittenBy}
use Rattle.answer_plan.proofs.Answered.{verdict_is, list_refused_lem, text_handed, given}
use Rattle.answer_any.specs.AnyRun.{any_checks}
use Rattle.answer_any.specs.AnyLists.{RunListedAny}
use Rattle.answer_any.proofs.Planned.{any_judged}
use Rattle.answer_any.proofs.Answered.{any_rule, any_meets, room_of_sheet}
use Rattle.answer_buys_any.specs.AnyBuys.{SheetBoughtAny, SheetFiguredAny}
use Rattle.answer_buys_any.specs.Private.{FiguresOfList}

module _ (sheet : List ℕ) (r : SheetRun) (is : r ≡ run_by_value sheet) (room : List ℕ) (l : PlannedList) (room' : List ℕ) (lists : RunListedAny r room l room') (f : Bool) (f-is : f ≡ is_refusal l.verdict.refusal) where
  abbrev checks : Run → List Verdict
  checks = any_checks (length room)

  abbrev v : Verdict
  v = first_of (r.verdict ∷ checks (run_held r))

  -- The list is refused just where the run is.
  says_verdict : (b : Bool) → refuses v ≡ b → f ≡ b
  says_verdict true e = f-is ∙ ap (λ x. refuses x.verdict) (lists.listed.refused e) ∙ e
  says_verdict false e = f-is ∙ ap (λ x. refuses x.verdict) (lists.listed.planned e).says

  verdict_says : refuses v ≡ f
  verdict_says = sym (says_verdict (refuses v) refl)

  -- For a caller.
  pub figures_refused : f ≡ true → (row : List ℕ) (w : Written) → w ≡ written_of l.verdict 0 → SheetFiguredAny sheet row room w row room'
  figures_refused e row w w-is =
      let so : refuses v ≡ true = verdict_says ∙ e in
      record {
        refused = λ q. record { says = w-is ∙ rw (sym f-is ∙ e) (ap refused_writing (list_refused_lem checks sheet r is l lists.listed so)); kept = refl };
        figured = λ q. absurd (true≢false (sym so ∙ ap refuses (verdict_is checks sheet r is) ∙ q));
        cleared = room_of_sheet sheet r is room l room' lists f f-is;
      }

  pub figures_written : f ≡ false → (row : List ℕ) (w : Written) (row' : List ℕ) → FiguresOfList sheet r l row w row' → SheetFiguredAny sheet row room w row' room'
  unfolding figure_any_sheet_verdict
  figures_written e row w row' written =
      let so : refuses v ≡ false = verdict_says ∙ e in
      record {
        refused = λ q. absurd (true≢false (sym q ∙ sym (ap refuses (verdict_is checks sheet r is)) ∙ so));
        figured = λ q. text_handed checks sheet r is judge_any_of any_rule LeastAny figure_any_text any_meets (any_judged (length room)) l lists.listed so row w row' written;
        cleared = room_of_sheet sheet r is room l room' lists f f-is;
      }

  -- For a program.
  bought : (row : List ℕ) (n : ℕ) (row' : List ℕ) → WrittenBy FigureAnyWritten sheet r l row n row' → SheetBoughtAny sheet row room n row' room'
  unfolding figure_any_sheet_verdict
  bought row n row' written =
      record {
        given = given checks sheet r is judge_any_of any_rule LeastAny figure_any_text any_meets (any_judged (length room)) l lists.listed row n row' (record { text = written.text; bytes = written.bytes; refused = written.refused; planned = written.planned });
        cleared = room_of_sheet sheet r is room l room' lists f f-is;
      }

  pub bought_refused : f ≡ true → (row : List ℕ) (w : Written) (row' : List ℕ) → RefusalWritten l.verdict row w row' → SheetBoughtAny sheet row room w.bytes row' room'
  bought_refused e row w row' h = bought row w.bytes row' (record { text = w; bytes = refl; refused = λ q. h; planned = λ q. absurd (true≢false (sym e ∙ f-is ∙ q)) })

  pub bought_figures : f ≡ false → (row : List ℕ) (w : Written) (row' : List ℕ) → FiguresOfList sheet r l row w row' → SheetBoughtAny sheet row room w.bytes row' room'
  bought_figures e row w row' h = bought row w.bytes row' (record { text = w; bytes = refl; refused = λ q. absurd (true≢false (sym q ∙ sym f-is ∙ e)); planned = λ q. h })
