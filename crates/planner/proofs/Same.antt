-- Of a run that 01 accepts the plan from a head anywhere is 01's: nothing is pulled, and what is refused and planned is the same.
use mathlib.Core.Path.{◌≡◌, refl, sym, ap, ◌∙◌}
use mathlib.Core.Bool.{false, true≢false}
use mathlib.Core.List.{List, [], ◌∷◌}
use lib.ListN.{length}
use lib.Dec.{ltb}
use Rattle.refusals.specs.declared.Refusal.TheVariants.{ShortRow, ShortRoom}
use Rattle.refusals.specs.declared.Verdict.{Verdict}
use Rattle.std.specs.Prelude.{Err}
use Rattle.refusals.specs.Refusals.{is_refusal, checked, refuse_if}
use Rattle.refusals.proofs.Verdicts.{refuses, first_refuses}
use Rattle.refusals.proofs.Checked.{stopped}
use Rattle.runs.specs.Run.{Run, stops_of}
use Rattle.runs.specs.Judging.{judge_of}
use Rattle.runs.specs.AnyHead.{judge_any_of}
use Rattle.runs.proofs.Judged.{accepted_run}
use Rattle.runs.proofs.Stops.{accepted_sound}
use Rattle.runs.proofs.AnyHead.{judge_any_same}
use Rattle.walk.specs.declared.Answer.{Answer}
use Rattle.walk.specs.Price.{refusal_answer, priced_times, priced_legs}
use Rattle.walk.proofs.AnyHead.{priced_same, rows_same}
use Rattle.least.proofs.LeastAny.{least_any_same}
use Rattle.planner.specs.Plan.{Plans, Planned, plan_verdict, short_rows, room_for}
use Rattle.planner.specs.AnyHead.{PlansAny, PlannedAny, plan_any_verdict}
use Rattle.planner.specs.Rows.{Rows, reads_in}

-- What 01 does not refuse by 7 is refused alike.
module _ (r : Run) (before : Rows) where
  abbrev rest : List Verdict
  rest = refuse_if (short_rows (length r.numbers) (length (stops_of r)) before) ShortRow ∷ refuse_if (ltb (length before.room) (room_for r)) ShortRoom ∷ []

  pub verdict_same : judge_any_of r ≡ judge_of r → plan_any_verdict r before ≡ plan_verdict r before
  unfolding plan_any_verdict plan_verdict
  verdict_same e = rw e

  -- A run that the judging refuses.
  pub run_refused : (e : Verdict) → Err e ≡ checked (judge_of r) → (a : Answer) → a ≡ refusal_answer e → Plans r before a before
  unfolding plan_verdict
  run_refused e said a says =
      let s = stopped (judge_of r) e said in
      let whole : judge_of r ≡ plan_verdict r before = first_refuses (judge_of r) rest s.so in
      record {
        refused = λ q. record { says = says ∙ ap refusal_answer (sym s.is ∙ whole); kept = refl };
        planned = λ q. absurd (true≢false (sym s.so ∙ ap refuses whole ∙ q));
      }

  module _ (accepts : refuses (judge_of r) ≡ false) where
    judged : judge_any_of r ≡ judge_of r
    judged = judge_any_same r (λ is. true≢false (sym (ap is_refusal is) ∙ accepts))

    planned_same : (answer : Answer) (after : Rows) → PlannedAny r before answer after → Planned r before answer after
    unfolding priced_times priced_legs
    planned_same answer after p =
        let good = accepted_run r accepts in
        let reads = rows_same r good p.list (reads_in before) in
        record {
          list = p.list;
          least = least_any_same r.turn r.head (stops_of r) (accepted_sound r accepts) p.list p.least;
          says = p.says ∙ priced_same r good p.list;
          rows = p.rows ∙ rw (ap (λ x. x.times) reads, ap (λ x. x.legs) reads);
        }

    pub plan_same : (answer : Answer) (after : Rows) → PlansAny r before answer after → Plans r before answer after
    plan_same answer after p =
        let same = verdict_same judged in
        record {
          refused = λ q. rw same at (p.refused (ap refuses same ∙ q));
          planned = λ q. planned_same answer after (p.planned (ap refuses same ∙ q));
        }
