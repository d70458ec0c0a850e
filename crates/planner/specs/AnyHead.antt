-- What the planner for a head anywhere answers, for every input: as 01's, with 7 only for a head above the limit, and the least list for that head.
use Rattle.std.specs.Prelude.{◌≡◌, true, false, List, [], ◌∷◌, ◌++◌, map, length, drop, replicate, ltb}
use Rattle.refusals.specs.declared.Refusal.TheVariants.{ShortRow, ShortRoom}
use Rattle.refusals.specs.declared.Verdict.{Verdict}
use Rattle.refusals.specs.Refusals.{is_refusal, refuse_if, first_of}
use Rattle.runs.specs.Run.{Run, stops_of}
use Rattle.runs.specs.Lists.{Detour}
use Rattle.runs.specs.AnyHead.{judge_any_of}
use Rattle.walk.specs.declared.Answer.{Answer}
use Rattle.walk.specs.AnyHead.{priced_any_answer, read_any_rows_with}
use Rattle.least.specs.AnyHead.{LeastAny}
use Rattle.planner.specs.Plan.{room_for, short_rows, Refused}
use Rattle.planner.specs.Rows.{Rows, reads_in}

-- The refusals: 1 to 7, then 8, then 9.
unfoldable pub plan_any_verdict : Run → Rows → Verdict
plan_any_verdict r rows =
    first_of
    (judge_any_of r
    ∷ refuse_if (short_rows (length r.numbers) (length (stops_of r)) rows) ShortRow
    ∷ refuse_if (ltb (length rows.room) (room_for r)) ShortRoom
    ∷ [])

-- The rows afterwards: the list, the times and the legs in the first entries, zero in the words of the working room; later entries as they were.
abbrev pub rows_any_with : Run → List Detour → Rows → Rows
rows_any_with r list rows =
    record {
      froms = map (λ d. d.from) list ++ drop (length list) rows.froms;
      tos = map (λ d. d.to) list ++ drop (length list) rows.tos;
      times = (read_any_rows_with r list (reads_in rows)).times;
      legs = (read_any_rows_with r list (reads_in rows)).legs;
      room = replicate (room_for r) 0 ++ drop (room_for r) rows.room;
    }

pub record PlannedAny (r : Run) (before : Rows) (answer : Answer) (after : Rows) : Type 0 where
  pub list : List Detour
  pub least : LeastAny r list
  pub says : answer ≡ priced_any_answer r list
  pub rows : after ≡ rows_any_with r list before

pub record PlansAny (r : Run) (before : Rows) (answer : Answer) (after : Rows) : Type 0 where
  pub refused : is_refusal (plan_any_verdict r before).refusal ≡ true → Refused (plan_any_verdict r before) before answer after
  pub planned : is_refusal (plan_any_verdict r before).refusal ≡ false → PlannedAny r before answer after
