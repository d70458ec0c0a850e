-- From a sheet's run by value, its list and what is written of it to the answer to the sheet, for a program and for a caller.
use Prim.Native.Nat.{ℕ}
use mathlib.Core.Path.{◌≡◌, refl, sym, ap, ◌∙◌}
use mathlib.Core.Bool.{Bool, true, false, true≢false}
use mathlib.Core.List.{List, ◌∷◌, map}
use lib.ListN.{length}
use borrow.Author.Tests.{eq-eqb}
use Rattle.refusals.specs.declared.Verdict.{Verdict}
use Rattle.refusals.specs.Refusals.{is_refusal, first_of}
use Rattle.refusals.proofs.Verdicts.{refuses}
use Rattle.runs.specs.Run.{Run, stops_of}
use Rattle.runs.specs.Lists.{Detour}
use Rattle.runs.specs.AnyHead.{judge_any_of, list_verdict_any}
use Rattle.least.specs.AnyHead.{LeastAny}
use Rattle.engine_stops.proofs.Halves.{list_of_halves, halves_even}
use Rattle.sheet_runs.specs.declared.SheetRun.{SheetRun}
use Rattle.sheet_runs.specs.SheetRuns.{run_by_value, run_held}
use Rattle.sheet_reader.specs.Sheet.{sheet_run}
use Rattle.sheet_writer.specs.declared.Written.{Written}
use Rattle.sheet_writer.specs.Writing.{written_of, refused_writing}
use Rattle.sheet_writer.specs.RefusalLines.{RefusalWritten}
use Rattle.sheet_writer.specs.AnyHead.{plan_any_text, plan_any_sheet_verdict, PlanAnyWritten}
use Rattle.answer_plan.specs.declared.PlannedList.{PlannedList}
use Rattle.answer_plan.specs.PlannedLists.{WrittenBy}
use Rattle.answer_plan.proofs.Answered.{verdict_is, holds, list_refused_lem, text_handed, given}
use Rattle.answer_any.specs.AnyRun.{any_checks, any_verdict, room_after, room_left, SheetRecalledAny, SheetAnswered}
use Rattle.answer_any.specs.AnyLists.{RunListedAny, TextOfList}
use Rattle.answer_any.proofs.Planned.{room_kept, any_judged}

-- The rules for a list, which the least list meets.
abbrev pub any_rule : Run → List ℕ → List ℕ → Verdict
any_rule run froms tos = list_verdict_any run.head (stops_of run) froms tos

pub any_meets : (run : Run) (list : List Detour) → LeastAny run list → refuses (any_rule run (map (λ d. d.from) list) (map (λ d. d.to) list)) ≡ false
unfolding list_verdict_any
any_meets run list least = rw (eq-eqb _ _ (halves_even (λ d. d.from) (λ d. d.to) list), list_of_halves list, least.formed)

module _ (sheet : List ℕ) (r : SheetRun) (is : r ≡ run_by_value sheet) (room : List ℕ) (l : PlannedList) (room' : List ℕ) (lists : RunListedAny r room l room') (f : Bool) (f-is : f ≡ is_refusal l.verdict.refusal) where
  abbrev checks : Run → List Verdict
  checks = any_checks (length room)

  abbrev v : Verdict
  v = first_of (r.verdict ∷ checks (run_held r))

  -- The list is refused just where the run is.
  says_verdict : (b : Bool) → refuses v ≡ b → f ≡ b
  says_verdict true e = f-is ∙ ap (λ x. refuses x.verdict) (lists.listed.refused e) ∙ e
  says_verdict false e = f-is ∙ ap (λ x. refuses x.verdict) (lists.listed.planned e).says

  verdict_says : refuses v ≡ f
  verdict_says = sym (says_verdict (refuses v) refl)

  -- The room that is left is that of the sheet.
  room_is : (b : Bool) → refuses v ≡ b → room' ≡ room_left sheet room
  room_is true e =
      lists.cleared ∙ room_kept v (run_held r) room e
      ∙ sym (room_kept (any_verdict (length room) sheet) (sheet_run sheet) room (ap refuses (sym (verdict_is checks sheet r is)) ∙ e))
  room_is false e =
      lists.cleared ∙ ap (λ x. room_after x (run_held r) room) (verdict_is checks sheet r is)
      ∙ ap (λ x. room_after (any_verdict (length room) sheet) x room) (holds checks sheet r is e).run

  pub room_of_sheet : room' ≡ room_left sheet room
  room_of_sheet = room_is (refuses v) refl

  -- What a refusal leaves, for a caller.
  pub answer_refused : f ≡ true → (row : List ℕ) (w : Written) → w ≡ written_of l.verdict 0 → SheetAnswered sheet row room w row room'
  answer_refused e row w w-is =
      let so : refuses v ≡ true = verdict_says ∙ e in
      record {
        refused = λ q. record { says = w-is ∙ rw (sym f-is ∙ e) (ap refused_writing (list_refused_lem checks sheet r is l lists.listed so)); kept = refl };
        planned = λ q. absurd (true≢false (sym so ∙ ap refuses (verdict_is checks sheet r is) ∙ q));
        cleared = room_is true so;
      }

  pub answer_planned : f ≡ false → (row : List ℕ) (w : Written) (row' : List ℕ) → TextOfList sheet r l row w row' → SheetAnswered sheet row room w row' room'
  unfolding plan_any_sheet_verdict
  answer_planned e row w row' written =
      let so : refuses v ≡ false = verdict_says ∙ e in
      record {
        refused = λ q. absurd (true≢false (sym q ∙ sym (ap refuses (verdict_is checks sheet r is)) ∙ so));
        planned = λ q. text_handed checks sheet r is judge_any_of any_rule LeastAny plan_any_text any_meets (any_judged (length room)) l lists.listed so row w row' written;
        cleared = room_is false so;
      }

  -- For a program.
  recalled : (row : List ℕ) (n : ℕ) (row' : List ℕ) → WrittenBy PlanAnyWritten sheet r l row n row' → SheetRecalledAny sheet row room n row' room'
  unfolding plan_any_sheet_verdict
  recalled row n row' written =
      record {
        given = given checks sheet r is judge_any_of any_rule LeastAny plan_any_text any_meets (any_judged (length room)) l lists.listed row n row' (record { text = written.text; bytes = written.bytes; refused = written.refused; planned = written.planned });
        cleared = room_of_sheet;
      }

  pub recall_refused : f ≡ true → (row : List ℕ) (w : Written) (row' : List ℕ) → RefusalWritten l.verdict row w row' → SheetRecalledAny sheet row room w.bytes row' room'
  recall_refused e row w row' h = recalled row w.bytes row' (record { text = w; bytes = refl; refused = λ q. h; planned = λ q. absurd (true≢false (sym e ∙ f-is ∙ q)) })

  pub recall_planned : f ≡ false → (row : List ℕ) (w : Written) (row' : List ℕ) → TextOfList sheet r l row w row' → SheetRecalledAny sheet row room w.bytes row' room'
  recall_planned e row w row' h = recalled row w.bytes row' (record { text = w; bytes = refl; refused = λ q. absurd (true≢false (sym q ∙ sym f-is ∙ e)); planned = λ q. h })
