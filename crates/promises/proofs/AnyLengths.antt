-- No answer to a sheet with a head anywhere is longer than the program's row.
use Prim.Native.Nat.{ℕ, ◌≤◌, ◌<◌}
use mathlib.Core.Path.{◌≡◌, refl, ap, ◌∙◌}
use mathlib.Core.Bool.{Bool, true, false}
use mathlib.Core.List.{List, [], ◌∷◌}
use native.Mathlib.Omega.{arith}
use lib.ListN.{length, get_or}
use lib.Dec.{ltb}
use Rattle.refusals.specs.declared.Refusal.TheVariants.{ShortRoom}
use Rattle.refusals.proofs.Verdicts.{refuses, all_accept}
use Rattle.runs.specs.Run.{Run}
use Rattle.runs.specs.AnyHead.{judge_any_of, lifted}
use Rattle.runs.proofs.AnyHead.{judge_any_lem}
use Rattle.walk.proofs.Places.{AllNear, if_near, judge_near}
use Rattle.planner.specs.Plan.{room_for}
use Rattle.text_bytes.specs.Text.{is_name}
use Rattle.sheet_reader.specs.Sheet.{sheet_run, sheet_name}
use Rattle.sheet_reader.specs.Reading.{sheet_verdict, rule_verdict}
use Rattle.sheet_reader.proofs.Good.{good_name}
use Rattle.sheet_writer.specs.PlanSheet.{plan_top, plan_lines}
use Rattle.sheet_writer.specs.AnyHead.{plan_any_text}
use Rattle.sheet_lists.proofs.AnyTrip.{any_short}
use Rattle.answer_plan.specs.Recall.{verdict_by, Answers}
use Rattle.answer_plan.proofs.Determined.{answers_once}
use Rattle.answer_any.specs.AnyRun.{any_checks, any_verdict, PlanAnyOf}
use Rattle.answer_any.proofs.Determined.{plan_any_once}
use Rattle.promises.specs.Lengths.{plan_row}
use Rattle.promises.specs.AnswersAny.{AnyIsWhole}
use Rattle.promises.proofs.Checks.{any_rows_accepted}
use Rattle.promises.proofs.Lengths.{some_begun, refusal_short, refusal_begins, verdict_near, takes_all}

pub any_begins : (name : List ℕ) (run : Run) (froms tos : List ℕ) → get_or (plan_any_text name run froms tos) 0 0 ≡ 116
unfolding plan_any_text plan_lines plan_top
any_begins name run froms tos = refl

pub any_near : (words : ℕ) (run : Run) → AllNear (any_checks words run)
any_near words run = (rw (judge_any_lem run) (judge_near (lifted run)), λ e. (if_near (ltb words (room_for run)) ShortRoom, λ d. tt))

module _ (words : ℕ) (sheet : List ℕ) where
  pub any_passes : refuses (any_verdict words sheet) ≡ false → (is_name (sheet_name sheet) ≡ true) × (refuses (judge_any_of (sheet_run sheet)) ≡ false)
  unfolding verdict_by
  any_passes e =
      let all = all_accept (sheet_verdict sheet ∷ rule_verdict sheet ∷ any_checks words (sheet_run sheet)) e in
      (good_name sheet all.0, all.1.1.0)

  pub any_held : (text : List ℕ) → Answers PlanAnyOf (any_verdict words sheet) (sheet_name sheet) (sheet_run sheet) text → (length text ≤ plan_row) × (0 < length text)
  any_held text a = go (refuses (any_verdict words sheet)) refl
    where
      go : (b : Bool) → refuses (any_verdict words sheet) ≡ b → (length text ≤ plan_row) × (0 < length text)
      go true e =
          let small = refusal_short (any_verdict words sheet) (omega (arith, verdict_near sheet (any_checks words) (any_near words (sheet_run sheet)))) in
          (omega (arith, ap length (a.refused e), small), some_begun text 113 (ap (λ t. get_or t 0 0) (a.refused e) ∙ refusal_begins (any_verdict words sheet)))
      go false e =
          let p = a.planned e in
          let passed = any_passes e in
          let listed = any_rows_accepted (sheet_name sheet) (sheet_run sheet) p.list p.least in
          let small = any_short (sheet_run sheet) _ _ passed.1 listed (sheet_name sheet) passed.0 in
          (omega (arith, ap length p.says, small), some_begun text 115 (ap (λ t. get_or t 0 0) p.says ∙ any_begins (sheet_name sheet) (sheet_run sheet) _ _))

pub any_is_whole : AnyIsWhole
any_is_whole sheet room =
    takes_all plan_row
    (λ row n row' c. let g = c.1.given in let h = any_held (length room) sheet g.text g.answers in record { text = g.text; bytes = g.bytes; left = g.left; short = h.0; some = h.1 })
    (λ row n row' other m other' c d. answers_once PlanAnyOf plan_any_once _ _ _ c.1.given.text d.1.given.text c.1.given.answers d.1.given.answers)
