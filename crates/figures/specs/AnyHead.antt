-- What each detour of a list buys where the head may stand anywhere: as in Figures, with the judging and the prices of such a head.
use Rattle.std.specs.Prelude.{ℕ, cond, List, [], ◌∷◌, ◌++◌, length, drop, ltb, ℤ, pos, ◌-ℤ◌}
use Rattle.refusals.specs.declared.Refusal.TheVariants.{ShortRow}
use Rattle.refusals.specs.declared.Verdict.{Verdict}
use Rattle.refusals.specs.Refusals.{is_refusal, refuse_if, first_of}
use Rattle.runs.specs.Run.{Run, stops_of}
use Rattle.runs.specs.Lists.{Detour, list_of}
use Rattle.runs.specs.AnyHead.{judge_any_of, list_verdict_any}
use Rattle.walk.specs.declared.Answer.{Answer}
use Rattle.walk.specs.Price.{refusal_answer}
use Rattle.walk.specs.AnyHead.{priced_any_answer}
use Rattle.figures.specs.Figures.{without, figures_by}

-- What entry i buys, and one figure for each entry.
unfoldable pub figure_any_of : Run → List Detour → ℕ → ℤ
figure_any_of r list i = pos (priced_any_answer r (without i list)).sum -ℤ pos (priced_any_answer r list).sum

abbrev pub figures_any_of : Run → List Detour → List ℤ
figures_any_of r list = figures_by (figure_any_of r list) (length list) 0

-- The refusals: 1 to 7, then 10, then 8 for a row shorter than the list.
unfoldable pub figures_any_verdict : Run → List ℕ → List ℕ → List ℤ → Verdict
figures_any_verdict r froms tos row =
    first_of
    (judge_any_of r
    ∷ list_verdict_any r.head (stops_of r) froms tos
    ∷ refuse_if (ltb (length row) (length (list_of froms tos))) ShortRow
    ∷ [])

-- The answer is the pricer's.
unfoldable pub figures_any_answer : Run → List ℕ → List ℕ → List ℤ → Answer
figures_any_answer r froms tos row =
    let v : Verdict = figures_any_verdict r froms tos row in
    cond (is_refusal v.refusal) (refusal_answer v) (priced_any_answer r (list_of froms tos))

-- The row afterwards: the figures, then the later entries as they were; on a refusal all of it as it was.
unfoldable pub figures_any_row : Run → List ℕ → List ℕ → List ℤ → List ℤ
figures_any_row r froms tos row =
    let v : Verdict = figures_any_verdict r froms tos row in
    cond (is_refusal v.refusal) row (figures_any_of r (list_of froms tos) ++ drop (length (list_of froms tos)) row)
