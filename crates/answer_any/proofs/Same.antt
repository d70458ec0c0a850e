-- Whatever answer_plan answers other than 7 and 9, the answer for any run is the same, byte for byte, in as much room.
use Prim.Native.Nat.{ℕ, ◌≤◌}
use mathlib.Core.Path.{◌≡◌, sym, ap, ◌∙◌}
use mathlib.Core.Bool.{true, false, true≢false}
use mathlib.Core.Logic.{⊎_elim}
use mathlib.Core.List.{List, [], ◌∷◌}
use native.Mathlib.Omega.{arith}
use lib.ListN.{length}
use lib.Dec.{ltb}
use borrow.Author.Tests.{le-ltb, ltb-false}
use Rattle.refusals.specs.declared.Refusal.TheVariants.{HeadPlace, ShortRoom}
use Rattle.refusals.specs.declared.Verdict.{Verdict}
use Rattle.refusals.specs.Refusals.{is_refusal, refuse_if, first_of}
use Rattle.refusals.proofs.Verdicts.{refuses, first_refuses, first_passes, all_accept}
use Rattle.runs.specs.Run.{Run, stops_of}
use Rattle.runs.specs.Judging.{judge_of}
use Rattle.runs.specs.AnyHead.{judge_any_of}
use Rattle.runs.proofs.Search.{true_or_false}
use Rattle.runs.proofs.Stops.{accepted_sound}
use Rattle.runs.proofs.AnyHead.{judge_any_same}
use Rattle.least.proofs.LeastAny.{least_any_same}
use Rattle.planner.specs.Plan.{room_for}
use Rattle.sheet_reader.specs.Sheet.{sheet_run, sheet_name}
use Rattle.sheet_reader.specs.Reading.{sheet_verdict, rule_verdict}
use Rattle.sheet_writer.proofs.Plans.{text_same}
use Rattle.answer_plan.specs.Recall.{room_words, run_checks, verdict_by, recall_verdict, PlanOf, Recalled, SheetRecalled}
use Rattle.answer_plan.proofs.Determined.{recalled_once}
use Rattle.answer_any.specs.AnyRun.{any_checks, any_verdict, PlanAnyOf, SheetRecalledAny}

-- A run that is refused by neither is judged alike, and so is its room.
module _ (run : Run) (words : ℕ) (enough : room_words ≤ words) (place : (first_of (run_checks run)).refusal ≡ HeadPlace → ⊥) (room : (first_of (run_checks run)).refusal ≡ ShortRoom → ⊥) where
  abbrev rest : List Verdict
  rest = refuse_if (ltb room_words (room_for run)) ShortRoom ∷ []

  judged : judge_any_of run ≡ judge_of run
  judged =
      judge_any_same run
      (λ is.
      ⊎_elim
      (λ (bad : refuses (judge_of run) ≡ true). place (ap (λ v. v.refusal) (sym (first_refuses (judge_of run) rest bad)) ∙ is))
      (λ (ok : refuses (judge_of run) ≡ false). true≢false (sym (ap is_refusal is) ∙ ok))
      (true_or_false (refuses (judge_of run))))

  fits : refuses (judge_of run) ≡ false → ltb room_words (room_for run) ≡ false
  fits ok =
      ⊎_elim
      (λ (short : ltb room_words (room_for run) ≡ true). absurd (room (rw (ok, short))))
      (λ (wide : ltb room_words (room_for run) ≡ false). wide)
      (true_or_false (ltb room_words (room_for run)))

  pub run_same : first_of (any_checks words run) ≡ first_of (run_checks run)
  run_same =
      ⊎_elim
      (λ (bad : refuses (judge_of run) ≡ true). rw (judged, bad))
      (λ (ok : refuses (judge_of run) ≡ false). rw (judged, fits ok, le-ltb words (room_for run) (omega (arith, enough, ltb-false room_words (room_for run) (fits ok)))))
      (true_or_false (refuses (judge_of run)))

module _ (sheet : List ℕ) (words : ℕ) (enough : room_words ≤ words) (place : (recall_verdict sheet).refusal ≡ HeadPlace → ⊥) (room : (recall_verdict sheet).refusal ≡ ShortRoom → ⊥) where
  behind : refuses (sheet_verdict sheet) ≡ false → refuses (rule_verdict sheet) ≡ false → recall_verdict sheet ≡ first_of (run_checks (sheet_run sheet))
  unfolding verdict_by
  behind a b = first_passes (sheet_verdict sheet) (rule_verdict sheet ∷ run_checks (sheet_run sheet)) a ∙ first_passes (rule_verdict sheet) (run_checks (sheet_run sheet)) b

  pub verdict_same : any_verdict words sheet ≡ recall_verdict sheet
  unfolding verdict_by
  verdict_same =
      ⊎_elim
      (λ (bad : refuses (sheet_verdict sheet) ≡ true). rw bad)
      (λ (ok : refuses (sheet_verdict sheet) ≡ false).
      ⊎_elim
      (λ (bad : refuses (rule_verdict sheet) ≡ true). rw (ok, bad))
      (λ (good : refuses (rule_verdict sheet) ≡ false).
      first_passes (sheet_verdict sheet) (rule_verdict sheet ∷ any_checks words (sheet_run sheet)) ok ∙ first_passes (rule_verdict sheet) (any_checks words (sheet_run sheet)) good
      ∙ run_same (sheet_run sheet) words enough (λ is. place (ap (λ v. v.refusal) (behind ok good) ∙ is)) (λ is. room (ap (λ v. v.refusal) (behind ok good) ∙ is))
      ∙ sym (behind ok good))
      (true_or_false (refuses (rule_verdict sheet))))
      (true_or_false (refuses (sheet_verdict sheet)))

  -- The least list from where the head stands is 01's, and so is its sheet.
  pub accepts : refuses (recall_verdict sheet) ≡ false → refuses (judge_of (sheet_run sheet)) ≡ false
  unfolding verdict_by
  accepts e = (all_accept (sheet_verdict sheet ∷ rule_verdict sheet ∷ run_checks (sheet_run sheet)) e).1.1.0

  plan_same_here : refuses (recall_verdict sheet) ≡ false → (text : List ℕ) → PlanAnyOf (sheet_name sheet) (sheet_run sheet) text → PlanOf (sheet_name sheet) (sheet_run sheet) text
  plan_same_here e text p =
      let run = sheet_run sheet in
      record {
        list = p.list;
        least = least_any_same run.turn run.head (stops_of run) (accepted_sound run (accepts e)) p.list p.least;
        says = p.says ∙ text_same (sheet_name sheet) run (accepts e) _ _;
      }

  pub answer_same : (row room : List ℕ) (n n' : ℕ) (row' row'' room' : List ℕ) → length room ≡ words → SheetRecalled sheet row n row' → SheetRecalledAny sheet row room n' row'' room' → (n ≡ n') × (row' ≡ row'')
  answer_same row room n n' row' row'' room' is p q =
      let g = q.given in
      let v-is : any_verdict (length room) sheet ≡ recall_verdict sheet = rw is verdict_same in
      let other : Recalled (recall_verdict sheet) (sheet_name sheet) (sheet_run sheet) row n' row'' =
      record {
        text = g.text;
        answers =
            record {
              refused = λ e. rw v-is at (g.answers.refused (ap refuses v-is ∙ e));
              planned = λ e. plan_same_here e g.text (g.answers.planned (ap refuses v-is ∙ e));
            };
        bytes = g.bytes;
        left = g.left;
      } in
      recalled_once (recall_verdict sheet) (sheet_name sheet) (sheet_run sheet) row n n' row' row'' p other
