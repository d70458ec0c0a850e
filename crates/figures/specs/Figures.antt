-- What each detour of a list buys: the sum without it less the sum with it, a whole number with its sign.
use Rattle.std.specs.Prelude.{ℕ, zero, suc, cond, List, [], ◌∷◌, ◌++◌, length, drop, ltb, ℤ, pos, ◌-ℤ◌}
use Rattle.refusals.specs.declared.Refusal.TheVariants.{ShortRow}
use Rattle.refusals.specs.declared.Verdict.{Verdict}
use Rattle.refusals.specs.Refusals.{is_refusal, refuse_if, first_of}
use Rattle.runs.specs.Run.{Run, stops_of}
use Rattle.runs.specs.Judging.{judge_of}
use Rattle.runs.specs.Lists.{Detour, list_of, list_verdict}
use Rattle.walk.specs.declared.Answer.{Answer}
use Rattle.walk.specs.Price.{refusal_answer, priced_answer}

-- A list without its entry i, counted from 0.
unfoldable pub without : {A : Type 0} → ℕ → List A → List A
without i [] = []
without zero (x ∷ xs) = xs
without (suc i) (x ∷ xs) = x ∷ without i xs

-- What entry i buys.
unfoldable pub figure_of : Run → List Detour → ℕ → ℤ
figure_of r list i = pos (priced_answer r (without i list)).sum -ℤ pos (priced_answer r list).sum

-- The figures of n entries, from entry i on, by what each buys.
unfoldable pub figures_by : (ℕ → ℤ) → ℕ → ℕ → List ℤ
figures_by buys zero i = []
figures_by buys (suc n) i = buys i ∷ figures_by buys n (suc i)

-- One for each entry, in the list's order.
abbrev pub figures_of : Run → List Detour → List ℤ
figures_of r list = figures_by (figure_of r list) (length list) 0

-- The refusals: 1 to 7, then 10, then 8 for a row shorter than the list.
unfoldable pub figures_verdict : Run → List ℕ → List ℕ → List ℤ → Verdict
figures_verdict r froms tos row =
    first_of
    (judge_of r
    ∷ list_verdict (stops_of r) froms tos
    ∷ refuse_if (ltb (length row) (length (list_of froms tos))) ShortRow
    ∷ [])

-- The answer is the pricer's.
unfoldable pub figures_answer : Run → List ℕ → List ℕ → List ℤ → Answer
figures_answer r froms tos row =
    let v : Verdict = figures_verdict r froms tos row in
    cond (is_refusal v.refusal) (refusal_answer v) (priced_answer r (list_of froms tos))

-- The row afterwards: the figures, then the later entries as they were; on a refusal all of it as it was.
unfoldable pub figures_row : Run → List ℕ → List ℕ → List ℤ → List ℤ
figures_row r froms tos row =
    let v : Verdict = figures_verdict r froms tos row in
    cond (is_refusal v.refusal) row (figures_of r (list_of froms tos) ++ drop (length (list_of froms tos)) row)
