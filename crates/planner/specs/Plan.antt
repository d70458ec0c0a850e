-- What the planner answers, for every input: the first refusal that applies and nothing changed, or the least list with its walk's numbers, and every row afterwards.
use Rattle.std.specs.Prelude.{ℕ, ◌+◌, ◌-◌, ◌*◌, ◌≡◌, Bool, true, false, ◌||◌, List, [], ◌∷◌, ◌++◌, map, length, drop, replicate, ltb}
use Rattle.refusals.specs.declared.Refusal.TheVariants.{ShortRow, ShortRoom}
use Rattle.refusals.specs.declared.Verdict.{Verdict}
use Rattle.walk.specs.declared.Answer.{Answer}
use Rattle.refusals.specs.Refusals.{is_refusal, refuse_if, first_of}
use Rattle.runs.specs.Run.{Run, total, stops_of}
use Rattle.runs.specs.Judging.{judge_of}
use Rattle.runs.specs.Lists.{Detour}
use Rattle.walk.specs.Price.{refusal_answer, priced_answer, priced_times, priced_legs, short_read_rows}
use Rattle.least.specs.Least.{LeastForRun}
use Rattle.planner.specs.Rows.{Rows, reads_in}

-- The words of working room that a run with k stops and R reads asks for, k·k·(R + 1).
abbrev pub room_for : Run → ℕ
room_for r = length (stops_of r) * length (stops_of r) * (total r.counts + 1)

-- 8: a row for times or legs shorter than the wants, or one for starts or ends shorter than the stops less one (0 where there is none).
abbrev pub short_rows : ℕ → ℕ → Rows → Bool
short_rows wants stops rows = short_read_rows wants (reads_in rows) || ltb (length rows.froms) (stops - 1) || ltb (length rows.tos) (stops - 1)

-- The planner's refusals: 1 to 7, then 8, then 9.
unfoldable pub plan_verdict : Run → Rows → Verdict
plan_verdict r rows =
    first_of
    (judge_of r
    ∷ refuse_if (short_rows (length r.numbers) (length (stops_of r)) rows) ShortRow
    ∷ refuse_if (ltb (length rows.room) (room_for r)) ShortRoom
    ∷ [])

-- The rows afterwards: the list, the times and the legs in the first entries, zero in the words of the working room; later entries as they were.
abbrev pub rows_with : Run → List Detour → Rows → Rows
rows_with r list rows =
    record {
      froms = map (λ d. d.from) list ++ drop (length list) rows.froms;
      tos = map (λ d. d.to) list ++ drop (length list) rows.tos;
      times = priced_times r list ++ drop (length r.numbers) rows.times;
      legs = priced_legs r list ++ drop (length r.numbers) rows.legs;
      room = replicate (room_for r) 0 ++ drop (room_for r) rows.room;
    }

-- A refusal changes nothing at all.
pub record Refused (v : Verdict) (before : Rows) (answer : Answer) (after : Rows) : Type 0 where
  pub says : answer ≡ refusal_answer v
  pub kept : after ≡ before

pub record Planned (r : Run) (before : Rows) (answer : Answer) (after : Rows) : Type 0 where
  pub list : List Detour
  pub least : LeastForRun r list
  pub says : answer ≡ priced_answer r list
  pub rows : after ≡ rows_with r list before

pub record Plans (r : Run) (before : Rows) (answer : Answer) (after : Rows) : Type 0 where
  pub refused : is_refusal (plan_verdict r before).refusal ≡ true → Refused (plan_verdict r before) before answer after
  pub planned : is_refusal (plan_verdict r before).refusal ≡ false → Planned r before answer after
