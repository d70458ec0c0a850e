-- The figure sheet of a run with a head anywhere, and what its writer answers, for every input: as FigureSheet has it, with the judging and the prices of
-- such a head. A law: of a run that 01 accepts both write the same.
use Rattle.std.specs.Prelude.{ℕ, not, List, [], ◌∷◌}
use Rattle.refusals.specs.declared.Refusal.TheVariants.{BadName}
use Rattle.refusals.specs.declared.Verdict.{Verdict}
use Rattle.refusals.specs.Refusals.{refuse_if, first_of}
use Rattle.runs.specs.Run.{Run, stops_of}
use Rattle.runs.specs.Lists.{list_of}
use Rattle.runs.specs.AnyHead.{judge_any_of, list_verdict_any}
use Rattle.walk.specs.AnyHead.{priced_any_answer}
use Rattle.figures.specs.AnyHead.{figures_any_of}
use Rattle.text_bytes.specs.Text.{is_name}
use Rattle.sheet_writer.specs.declared.Written.{Written}
use Rattle.sheet_writer.specs.Writing.{row_verdict, Handed}
use Rattle.sheet_figures.specs.FigureSheet.{figure_page}

-- The figure sheet of a run and a list: the list's price from where the head stands, and what each detour buys there.
unfoldable pub figure_any_text : List ℕ → Run → List ℕ → List ℕ → List ℕ
figure_any_text name run froms tos = figure_page name (priced_any_answer run (list_of froms tos)) froms tos (figures_any_of run (list_of froms tos))

-- 1 to 7, then 13, then 10, then 8.
unfoldable pub figure_any_sheet_verdict : List ℕ → Run → List ℕ → List ℕ → List ℕ → Verdict
figure_any_sheet_verdict name run froms tos row =
    first_of
    (judge_any_of run
    ∷ refuse_if (not (is_name name)) BadName
    ∷ list_verdict_any run.head (stops_of run) froms tos
    ∷ row_verdict (figure_any_text name run froms tos) row
    ∷ [])

abbrev pub FigureAnyWritten : List ℕ → Run → List ℕ → List ℕ → List ℕ → Written → List ℕ → Type 0
FigureAnyWritten name run froms tos row r row' =
    Handed (figure_any_sheet_verdict name run froms tos row) (figure_any_text name run froms tos) row r row'
