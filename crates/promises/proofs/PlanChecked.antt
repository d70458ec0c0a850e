-- What is printed for a run to which nothing applies: the programs' verdicts then refuse nothing, and so it checks.
use Prim.Native.Nat.{ℕ}
use mathlib.Core.Path.{◌≡◌, sym, ap, ◌∙◌}
use mathlib.Core.Bool.{false, true≢false}
use mathlib.Core.Logic.{⊎_elim}
use mathlib.Core.List.{List}
use lib.ListN.{length}
use Rattle.refusals.specs.declared.Refusal.{Refusal}
use Rattle.refusals.specs.declared.Verdict.{Verdict}
use Rattle.refusals.specs.Refusals.{is_refusal}
use Rattle.refusals.proofs.Verdicts.{refuses}
use Rattle.runs.proofs.Search.{true_or_false}
use Rattle.answer_plan.specs.Recall.{recall_verdict}
use Rattle.answer_any.specs.AnyRun.{any_verdict}
use Rattle.demands.specs.RefusalTable.{SomeApplies}
use Rattle.demands.proofs.Checks.{Finds, AllRefuse, refused_iff}
use Rattle.promises.specs.Answers.{AnswerApplies, RoomApplies, room_order}
use Rattle.promises.specs.AnswersAny.{AnyApplies}
use Rattle.promises.specs.PlanChecked.{PlanChecks, PlanAnyChecks}
use Rattle.promises.proofs.Checks.{recalled_checks, recalled_any_checks}
use Rattle.promises.proofs.Answers.{room_all, room_finds}
use Rattle.promises.proofs.AnswersAny.{any_finds}

none_refused : (applies : Refusal → ℕ → Type 0) (order : List Refusal) (v : Verdict) → AllRefuse order → Finds applies order v → (SomeApplies applies order → ⊥) → refuses v ≡ false
none_refused applies order v all finds none =
    ⊎_elim (λ e. absurd (none ((refused_iff applies finds all).0 (λ is. true≢false (sym e ∙ ap is_refusal is))))) (λ e. e) (true_or_false (refuses v))

pub plan_checks : PlanChecks
plan_checks sheet row n row' r none some =
    recalled_checks sheet row n row' r (none_refused (AnswerApplies RoomApplies sheet) room_order (recall_verdict sheet) room_all (room_finds sheet) none) some

pub plan_any_checks : PlanAnyChecks
plan_any_checks sheet row lent n row' lent' r none some =
    recalled_any_checks sheet row lent n row' lent' r
    (none_refused (AnyApplies (length lent) sheet) room_order (any_verdict (length lent) sheet) room_all (any_finds (length lent) sheet) none) some
