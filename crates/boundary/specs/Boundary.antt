-- The C boundary: a call gives back 0, or the refusal's number plus 256 times its place; on success sum, finish, end and number of
-- detours fill the first four words of a row. On a refusal every row keeps its words.
use Rattle.std.specs.Prelude.{ℕ, ◌+◌, ◌*◌, ◌≡◌, Bool, true, false, cond, ◌||◌, not, List, [], ◌∷◌, length, drop, ltb, eqb}
use Rattle.refusals.specs.declared.Refusal.TheVariants.{ShortRow, ShortRoom, BadRule}
use Rattle.refusals.specs.declared.Verdict.{Verdict}
use Rattle.walk.specs.declared.Answer.{Answer}
use Rattle.refusals.specs.Refusals.{number_of, is_refusal, refuse_if, first_of}
use Rattle.runs.specs.Run.{Run, stops_of}
use Rattle.runs.specs.Judging.{judge_of}
use Rattle.runs.specs.Lists.{list_of}
use Rattle.runs.specs.AnyHead.{judge_any_of}
use Rattle.walk.specs.Price.{read_rows_with, price_verdict, priced_answer}
use Rattle.walk.specs.AnyHead.{read_any_rows_with, price_any_verdict, priced_any_answer}
use Rattle.walk.specs.Rows.{ReadRows}
use Rattle.planner.specs.Plan.{short_rows, room_for, Planned}
use Rattle.planner.specs.AnyHead.{PlannedAny}
use Rattle.planner.specs.Rows.{Rows}

-- What a verdict gives back.
abbrev pub code_of : Verdict → ℕ
code_of v = number_of v.refusal + 256 * v.place

-- The row of sums afterwards: four numbers, then the later words as they were.
abbrev pub sums_with : Answer → List ℕ → List ℕ
sums_with a sums = a.sum ∷ a.finish ∷ a.end ∷ a.detours ∷ drop 4 sums

-- 8, at the boundary also: a row for sums below 4 words.
abbrev pub short_sums : List ℕ → Bool
short_sums sums = ltb (length sums) 4

-- The pricer: its own refusals, then 8 for the row of sums.
unfoldable pub price_call : Run → List ℕ → List ℕ → ReadRows → List ℕ → Verdict
price_call r froms tos rows sums = first_of (price_verdict r froms tos rows ∷ refuse_if (short_sums sums) ShortRow ∷ [])

unfoldable pub price_reads : Run → List ℕ → List ℕ → ReadRows → List ℕ → ReadRows
price_reads r froms tos rows sums =
    cond (is_refusal (price_call r froms tos rows sums).refusal) rows (read_rows_with r (list_of froms tos) rows)

unfoldable pub price_sums : Run → List ℕ → List ℕ → ReadRows → List ℕ → List ℕ
price_sums r froms tos rows sums =
    cond (is_refusal (price_call r froms tos rows sums).refusal) sums (sums_with (priced_answer r (list_of froms tos)) sums)

-- What a call of the pricer gives back and leaves in the rows for times and legs, and for sums.
pub record PriceCalled (r : Run) (froms tos : List ℕ) (rows : ReadRows) (sums : List ℕ) (code : ℕ) (rowsOut : ReadRows) (sumsOut : List ℕ) : Type 0 where
  pub says : code ≡ code_of (price_call r froms tos rows sums)
  pub reads_are : rowsOut ≡ price_reads r froms tos rows sums
  pub sums_are : sumsOut ≡ price_sums r froms tos rows sums

-- The number of the least rule; every other is refused by 14.
abbrev pub least_rule : ℕ
least_rule = 1

abbrev pub bad_rule : ℕ → Bool
bad_rule rule = not (eqb rule least_rule)

-- The planner: 1 to 7, then 14, then 8 for any row, then 9.
unfoldable pub plan_call : Run → ℕ → Rows → List ℕ → Verdict
plan_call r rule rows sums =
    first_of
    (judge_of r
    ∷ refuse_if (bad_rule rule) BadRule
    ∷ refuse_if (short_rows (length r.numbers) (length (stops_of r)) rows || short_sums sums) ShortRow
    ∷ refuse_if (ltb (length rows.room) (room_for r)) ShortRoom
    ∷ [])

pub record CallRefused (v : Verdict) (before : Rows) (sums : List ℕ) (code : ℕ) (after : Rows) (out : List ℕ) : Type 0 where
  pub says : code ≡ code_of v
  pub kept : after ≡ before
  pub kept_sums : out ≡ sums

pub record CallPlanned (r : Run) (before : Rows) (sums : List ℕ) (code : ℕ) (after : Rows) (out : List ℕ) : Type 0 where
  pub says : code ≡ 0
  pub answer : Answer
  pub planned : Planned r before answer after
  pub sums_are : out ≡ sums_with answer sums

pub record PlanCalled (r : Run) (rule : ℕ) (before : Rows) (sums : List ℕ) (code : ℕ) (after : Rows) (out : List ℕ) : Type 0 where
  pub refused : is_refusal (plan_call r rule before sums).refusal ≡ true → CallRefused (plan_call r rule before sums) before sums code after out
  pub planned : is_refusal (plan_call r rule before sums).refusal ≡ false → CallPlanned r before sums code after out

-- The same calls for a head anywhere. The pricer's: its own refusals, then 8 for the row of sums.
unfoldable pub price_any_call : Run → List ℕ → List ℕ → ReadRows → List ℕ → Verdict
price_any_call r froms tos rows sums = first_of (price_any_verdict r froms tos rows ∷ refuse_if (short_sums sums) ShortRow ∷ [])

unfoldable pub price_any_reads : Run → List ℕ → List ℕ → ReadRows → List ℕ → ReadRows
price_any_reads r froms tos rows sums =
    cond (is_refusal (price_any_call r froms tos rows sums).refusal) rows (read_any_rows_with r (list_of froms tos) rows)

unfoldable pub price_any_sums : Run → List ℕ → List ℕ → ReadRows → List ℕ → List ℕ
price_any_sums r froms tos rows sums =
    cond (is_refusal (price_any_call r froms tos rows sums).refusal) sums (sums_with (priced_any_answer r (list_of froms tos)) sums)

pub record PriceAnyCalled (r : Run) (froms tos : List ℕ) (rows : ReadRows) (sums : List ℕ) (code : ℕ) (rowsOut : ReadRows) (sumsOut : List ℕ) : Type 0 where
  pub says : code ≡ code_of (price_any_call r froms tos rows sums)
  pub reads_are : rowsOut ≡ price_any_reads r froms tos rows sums
  pub sums_are : sumsOut ≡ price_any_sums r froms tos rows sums

-- The planner's takes no rule: 1 to 7, then 8 for any row, then 9.
unfoldable pub plan_any_call : Run → Rows → List ℕ → Verdict
plan_any_call r rows sums =
    first_of
    (judge_any_of r
    ∷ refuse_if (short_rows (length r.numbers) (length (stops_of r)) rows || short_sums sums) ShortRow
    ∷ refuse_if (ltb (length rows.room) (room_for r)) ShortRoom
    ∷ [])

pub record CallAnyPlanned (r : Run) (before : Rows) (sums : List ℕ) (code : ℕ) (after : Rows) (out : List ℕ) : Type 0 where
  pub says : code ≡ 0
  pub answer : Answer
  pub planned : PlannedAny r before answer after
  pub sums_are : out ≡ sums_with answer sums

pub record PlanAnyCalled (r : Run) (before : Rows) (sums : List ℕ) (code : ℕ) (after : Rows) (out : List ℕ) : Type 0 where
  pub refused : is_refusal (plan_any_call r before sums).refusal ≡ true → CallRefused (plan_any_call r before sums) before sums code after out
  pub planned : is_refusal (plan_any_call r before sums).refusal ≡ false → CallAnyPlanned r before sums code after out
