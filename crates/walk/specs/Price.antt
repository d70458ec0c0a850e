-- What the pricer answers, for every input: the first refusal that applies, or the walk's sum, finish and end; and the rows for times and legs.
use Rattle.std.specs.Prelude.{ℕ, Bool, cond, ◌||◌, List, [], ◌∷◌, ◌++◌, length, drop, ltb}
use Rattle.refusals.specs.declared.Refusal.TheVariants.{Accepted, ShortRow}
use Rattle.refusals.specs.declared.Verdict.{Verdict}
use Rattle.walk.specs.declared.Answer.{Answer}
use Rattle.refusals.specs.Refusals.{is_refusal, refuse_if, first_of}
use Rattle.runs.specs.Run.{Run, want_stops_of, stops_of}
use Rattle.runs.specs.Judging.{judge_of}
use Rattle.walk.specs.Walk.{head_at, walked, times_of, legs_for, sum_of}
use Rattle.runs.specs.Lists.{Detour, list_of, list_verdict}
use Rattle.walk.specs.Detours.{legs_of}
use Rattle.walk.specs.Rows.{ReadRows}

-- A refusal's answer: kind and place, and every other number 0.
abbrev pub refusal_answer : Verdict → Answer
refusal_answer v = record { refusal = v.refusal; place = v.place; sum = 0; finish = 0; end = 0; detours = 0 }

-- The answer for a run and a well-formed list: the sum, the clock and the place at the end of the walk, and the number of detours.
unfoldable pub priced_answer : Run → List Detour → Answer
priced_answer r list =
    record {
      refusal = Accepted;
      place = 0;
      sum = sum_of r.turn (head_at r.head) (legs_of (stops_of r) list) (stops_of r);
      finish = (walked r.turn (head_at r.head) (legs_of (stops_of r) list)).clock;
      end = (walked r.turn (head_at r.head) (legs_of (stops_of r) list)).place;
      detours = length list;
    }

-- One time and one leg for each want handed in, in their order; wants of one aggregate have the same.
unfoldable pub priced_times : Run → List Detour → List ℕ
priced_times r list = times_of r.turn (head_at r.head) (legs_of (stops_of r) list) (want_stops_of r)

unfoldable pub priced_legs : Run → List Detour → List ℕ
priced_legs r list = legs_for (legs_of (stops_of r) list) (want_stops_of r)

-- 8: a row for times or for legs shorter than k, the wants handed in.
abbrev pub short_read_rows : ℕ → ReadRows → Bool
short_read_rows k rows = ltb (length rows.times) k || ltb (length rows.legs) k

-- The rows afterwards: a time and a leg for each want, then the later entries as they were.
abbrev pub read_rows_with : Run → List Detour → ReadRows → ReadRows
read_rows_with r list rows =
    record {
      times = priced_times r list ++ drop (length r.numbers) rows.times;
      legs = priced_legs r list ++ drop (length r.numbers) rows.legs;
    }

-- The pricer's refusals: 1 to 7, then 10, then 8.
unfoldable pub price_verdict : Run → List ℕ → List ℕ → ReadRows → Verdict
price_verdict r froms tos rows =
    first_of
    (judge_of r
    ∷ list_verdict (stops_of r) froms tos
    ∷ refuse_if (short_read_rows (length r.numbers) rows) ShortRow
    ∷ [])

-- The answer record.
unfoldable pub price_answer : Run → List ℕ → List ℕ → ReadRows → Answer
price_answer r froms tos rows =
    let v : Verdict = price_verdict r froms tos rows in
    cond (is_refusal v.refusal) (refusal_answer v) (priced_answer r (list_of froms tos))

-- The rows afterwards; on a refusal both as they were.
unfoldable pub price_rows : Run → List ℕ → List ℕ → ReadRows → ReadRows
price_rows r froms tos rows =
    let v : Verdict = price_verdict r froms tos rows in
    cond (is_refusal v.refusal) rows (read_rows_with r (list_of froms tos) rows)
