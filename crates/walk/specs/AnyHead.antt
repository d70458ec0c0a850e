-- The walk of a list from a head anywhere, and what the pricer for such a head answers, for every input. All is as 01 has it but for the judging,
-- and for the legs: they are of the stops as the head meets them, so that none begins right of the head.
use Rattle.std.specs.Prelude.{ℕ, cond, List, [], ◌∷◌, ◌++◌, length, drop}
use Rattle.refusals.specs.declared.Refusal.TheVariants.{Accepted, ShortRow}
use Rattle.refusals.specs.declared.Verdict.{Verdict}
use Rattle.refusals.specs.Refusals.{is_refusal, refuse_if, first_of}
use Rattle.runs.specs.Run.{Run, Stop, want_stops_of, stops_of}
use Rattle.runs.specs.Lists.{Detour, list_of}
use Rattle.runs.specs.AnyHead.{pulled, judge_any_of, list_verdict_any}
use Rattle.walk.specs.declared.Answer.{Answer}
use Rattle.walk.specs.declared.Leg.{Leg}
use Rattle.walk.specs.Walk.{head_at, walked, times_of, legs_for, sum_of}
use Rattle.walk.specs.Detours.{legs_of}
use Rattle.walk.specs.Rows.{ReadRows}
use Rattle.walk.specs.Price.{refusal_answer, short_read_rows}

-- The legs of a list from a head at m: its detours, then the last sweep.
abbrev pub legs_any_of : ℕ → List Stop → List Detour → List Leg
legs_any_of m stops list = legs_of (pulled m stops) list

abbrev pub run_legs : Run → List Detour → List Leg
run_legs r list = legs_any_of r.head (stops_of r) list

-- The answer for a well-formed list: the sum over the stops where they lie, the clock and the place at the end, the number of detours.
unfoldable pub priced_any_answer : Run → List Detour → Answer
priced_any_answer r list =
    record {
      refusal = Accepted;
      place = 0;
      sum = sum_of r.turn (head_at r.head) (run_legs r list) (stops_of r);
      finish = (walked r.turn (head_at r.head) (run_legs r list)).clock;
      end = (walked r.turn (head_at r.head) (run_legs r list)).place;
      detours = length list;
    }

-- The rows afterwards: a time and a leg for each want handed in, then the later entries as they were.
abbrev pub read_any_rows_with : Run → List Detour → ReadRows → ReadRows
read_any_rows_with r list rows =
    record {
      times = times_of r.turn (head_at r.head) (run_legs r list) (want_stops_of r) ++ drop (length r.numbers) rows.times;
      legs = legs_for (run_legs r list) (want_stops_of r) ++ drop (length r.numbers) rows.legs;
    }

-- The refusals: 1 to 7, then 10, then 8.
unfoldable pub price_any_verdict : Run → List ℕ → List ℕ → ReadRows → Verdict
price_any_verdict r froms tos rows =
    first_of
    (judge_any_of r
    ∷ list_verdict_any r.head (stops_of r) froms tos
    ∷ refuse_if (short_read_rows (length r.numbers) rows) ShortRow
    ∷ [])

-- The answer record.
unfoldable pub price_any_answer : Run → List ℕ → List ℕ → ReadRows → Answer
price_any_answer r froms tos rows =
    let v : Verdict = price_any_verdict r froms tos rows in
    cond (is_refusal v.refusal) (refusal_answer v) (priced_any_answer r (list_of froms tos))

-- The rows afterwards; on a refusal both as they were.
unfoldable pub price_any_rows : Run → List ℕ → List ℕ → ReadRows → ReadRows
price_any_rows r froms tos rows =
    let v : Verdict = price_any_verdict r froms tos rows in
    cond (is_refusal v.refusal) rows (read_any_rows_with r (list_of froms tos) rows)
