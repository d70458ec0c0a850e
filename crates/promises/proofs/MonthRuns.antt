-- What a sheet of a month comes to: its verdict finds the first refusal that applies, and its numbers are those of the least list.
use Prim.Native.Nat.{ℕ}
use mathlib.Core.Path.{◌≡◌, sym, ap, ◌∙◌}
use mathlib.Core.Bool.{true, false}
use mathlib.Core.Logic.{⊎_elim}
use mathlib.Core.List.{List}
use native.Mathlib.Omega.{arith}
use Rattle.refusals.specs.declared.Refusal.{Refusal}
use Rattle.refusals.specs.declared.Refusal.TheVariants.{Accepted}
use Rattle.refusals.specs.declared.Verdict.{Verdict}
use Rattle.refusals.proofs.Verdicts.{refuses}
use Rattle.runs.specs.Run.{Run}
use Rattle.runs.specs.Lists.{Detour}
use Rattle.runs.proofs.Search.{true_or_false}
use Rattle.walk.specs.Price.{priced_answer}
use Rattle.least.specs.Least.{LeastForRun}
use Rattle.answer_plan.specs.Recall.{run_checks, recall_verdict}
use Rattle.answer_outcome.specs.declared.Outcome.{Outcome}
use Rattle.answer_outcome.specs.Outcomes.{refused_outcome, planned_outcome, OutcomeOf}
use Rattle.answer_outcome.proofs.Plans.{least_saves}
use Rattle.promises.specs.MonthRuns.{PlanComesTo, NoNumbers, SheetsComeTo}
use Rattle.promises.specs.Answers.{RoomApplies}
use Rattle.demands.specs.RefusalTable.{RunApplies}
use Rattle.promises.proofs.DeskSteps.{not_accepted}
use Rattle.promises.proofs.Answers.{run_few, room_own, sheet_accepts, room_finds}
use Rattle.promises.proofs.MonthLongest.{is}

-- The outcome has the verdict's number.
kind_is : (sheet : List ℕ) (o : Outcome) → OutcomeOf sheet o → o.refusal ≡ (recall_verdict sheet).refusal
unfolding refused_outcome planned_outcome
kind_is sheet o p =
    ⊎_elim
    (λ (e : refuses (recall_verdict sheet) ≡ true). ap (λ (x : Outcome). x.refusal) (p.refused e))
    (λ (e : refuses (recall_verdict sheet) ≡ false).
    ap (λ (x : Outcome). x.refusal) (p.planned e).says ∙ sym (ap (λ (v : Verdict). v.refusal) (sheet_accepts RunApplies run_few RoomApplies room_own sheet run_checks e)))
    (true_or_false (refuses (recall_verdict sheet)))

no_numbers : (sheet : List ℕ) (o : Outcome) → OutcomeOf sheet o → (o.refusal ≡ Accepted → ⊥) → NoNumbers o
unfolding refused_outcome
no_numbers sheet o p some =
    let is = p.refused (not_accepted (recall_verdict sheet).refusal (λ a. some (kind_is sheet o p ∙ a))) in
    is ∙ ap (λ (k : Refusal). refused_outcome k) (sym (kind_is sheet o p))

comes_to : (name : List ℕ) (r : Run) (list : List Detour) (o : Outcome) → LeastForRun r list → o ≡ planned_outcome name r list → PlanComesTo r list o
unfolding planned_outcome priced_answer
comes_to name r list o least is-planned =
    record {
      reads = ap (λ (x : Outcome). x.reads) is-planned;
      sum = ap (λ (x : Outcome). x.sum) is-planned;
      saved = omega (arith, least_saves r list least, ap (λ (x : Outcome). x.sum) is-planned, ap (λ (x : Outcome). x.saved) is-planned);
    }

pub sheets_come_to : SheetsComeTo
sheets_come_to sheet o p =
    record {
      place = (recall_verdict sheet).place;
      first = rw (kind_is sheet o p) (room_finds sheet);
      refused = no_numbers sheet o p;
      planned = λ e list least. comes_to _ _ list o least (is sheet o list p e least);
    }
