-- From a run's outcome to its sheet's; and a sheet has one outcome.
use Prim.Native.Nat.{ℕ}
use mathlib.Core.Path.{◌≡◌, refl, sym, ap, ◌∙◌, subst}
use mathlib.Core.Bool.{Bool, true, false, true≢false}
use mathlib.Core.List.{List}
use Rattle.refusals.specs.declared.Verdict.{Verdict}
use Rattle.refusals.specs.Refusals.{is_refusal}
use Rattle.runs.specs.Run.{Run, stops_of}
use Rattle.least.proofs.LeastList.{least_unique}
use Rattle.text_bytes.specs.Text.{is_name}
use Rattle.sheet_reader.specs.Sheet.{sheet_run, sheet_name}
use Rattle.sheet_reader.specs.Reading.{read_name}
use Rattle.sheet_runs.specs.declared.SheetRun.{SheetRun}
use Rattle.sheet_runs.specs.SheetRuns.{run_by_value, run_held}
use Rattle.sheet_runs.proofs.Runs.{refused_first, sheet_holds}
use Rattle.answer_plan.specs.Recall.{run_checks, verdict_by, recall_verdict}
use Rattle.answer_outcome.specs.declared.Outcome.{Outcome}
use Rattle.answer_outcome.specs.Outcomes.{refused_outcome, planned_outcome, PlannedAs, Ends, OutcomeOf}
use Rattle.answer_outcome.specs.Private.{RunOutcome}

-- A sheet's run by value.
module _ (sheet : List ℕ) (r : SheetRun) (is : r ≡ run_by_value sheet) where
  pub sheet_refused : is_refusal r.verdict.refusal ≡ true → (o : Outcome) → o ≡ refused_outcome r.verdict.refusal → OutcomeOf sheet o
  unfolding verdict_by
  sheet_refused e o says =
      let same : r.verdict ≡ recall_verdict sheet = refused_first sheet r is (is_refusal r.verdict.refusal) refl e (run_checks (sheet_run sheet)) in
      record {
        refused = λ q. says ∙ ap (λ v. refused_outcome v.refusal) same;
        planned = λ q. absurd (true≢false (sym e ∙ ap (λ v. is_refusal v.refusal) same ∙ q));
      }

  -- The outcome of the run that it holds is the sheet's.
  module _ (passed : is_refusal r.verdict.refusal ≡ false) (name : List ℕ) (e : name ≡ read_name sheet) where
    pub sheet_named : is_name name ≡ true
    sheet_named = rw e (sheet_holds sheet r is (is_refusal r.verdict.refusal) refl passed).named

    pub sheet_ended : (run : Run) → run ≡ run_held r → (o : Outcome) → RunOutcome name run o → OutcomeOf sheet o
    unfolding verdict_by
    sheet_ended run run_is o h =
        let holds = sheet_holds sheet r is (is_refusal r.verdict.refusal) refl passed in
        let by-run : RunOutcome name (sheet_run sheet) o = subst (λ x. RunOutcome name x o) (run_is ∙ holds.run) h in
        let by_name : RunOutcome (sheet_name sheet) (sheet_run sheet) o = subst (λ x. RunOutcome x (sheet_run sheet) o) (e ∙ holds.name) by-run in
        subst (λ x. Ends x (sheet_name sheet) (sheet_run sheet) o) (holds.decides (run_checks (sheet_run sheet))) by_name

planned_once : (name : List ℕ) (run : Run) (o o' : Outcome) → PlannedAs name run o → PlannedAs name run o' → o ≡ o'
planned_once name run o o' p q =
    p.says
    ∙ ap (planned_outcome name run) (least_unique run.turn run.head (stops_of run) p.list q.list p.least q.least)
    ∙ sym q.says

pub ends_once : (v : Verdict) (name : List ℕ) (run : Run) (o o' : Outcome) → Ends v name run o → Ends v name run o' → o ≡ o'
ends_once v name run o o' p q = go (is_refusal v.refusal) refl
  where
    go : (b : Bool) → is_refusal v.refusal ≡ b → o ≡ o'
    go true e = p.refused e ∙ sym (q.refused e)
    go false e = planned_once name run o o' (p.planned e) (q.planned e)

-- Two outcomes of a sheet are equal.
pub outcome_once : (sheet : List ℕ) (o o' : Outcome) → OutcomeOf sheet o → OutcomeOf sheet o' → o ≡ o'
outcome_once sheet o o' p q = ends_once _ _ _ o o' p q
