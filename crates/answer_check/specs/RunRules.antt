-- By which rules a run and a list are taken. `price` and `check` go by those for a head anywhere. Document 01's stand beside them for one law: where 01
-- refuses by neither 7 nor 9, both answer the same.
use Rattle.std.specs.Prelude.{ℕ, List}
use Rattle.refusals.specs.declared.Verdict.{Verdict}
use Rattle.runs.specs.Run.{Run, stops_of}
use Rattle.runs.specs.Judging.{judge_of}
use Rattle.runs.specs.Lists.{Detour, first_bad_entry, list_verdict}
use Rattle.runs.specs.AnyHead.{judge_any_of, first_bad_entry_any, list_verdict_any}
use Rattle.walk.specs.Price.{priced_answer}
use Rattle.walk.specs.AnyHead.{priced_any_answer}
use Rattle.least.specs.Least.{LeastForRun}
use Rattle.least.specs.AnyHead.{LeastAny}
use Rattle.sheet_writer.specs.PlanSheet.{plan_text}
use Rattle.sheet_writer.specs.AnyHead.{plan_any_text}

-- 1 to 7 of a run; 10 of a list, and its first entry that breaks a rule; the plan sheet and the sum of a list; which list is the least.
pub record RunRules : Type 1 where
  pub judged : Run → Verdict
  pub ruled : Run → List ℕ → List ℕ → Verdict
  pub first_bad : Run → List Detour → ℕ
  pub sheet_of : List ℕ → Run → List ℕ → List ℕ → List ℕ
  pub walk_sum : Run → List Detour → ℕ
  pub Least : Run → List Detour → Type 0

abbrev pub head_anywhere : RunRules
head_anywhere =
    record {
      judged = judge_any_of;
      ruled = λ run froms tos. list_verdict_any run.head (stops_of run) froms tos;
      first_bad = λ run list. first_bad_entry_any run.head (stops_of run) list;
      sheet_of = plan_any_text;
      walk_sum = λ run list. (priced_any_answer run list).sum;
      Least = LeastAny;
    }

abbrev pub head_at_the_right : RunRules
head_at_the_right =
    record {
      judged = judge_of;
      ruled = λ run froms tos. list_verdict (stops_of run) froms tos;
      first_bad = λ run list. first_bad_entry (stops_of run) list;
      sheet_of = plan_text;
      walk_sum = λ run list. (priced_answer run list).sum;
      Least = LeastForRun;
    }
