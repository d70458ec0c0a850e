-- The text of a figure sheet, what its writer answers, for every input, and the row that it leaves (with Writing's `Handed`).
use Rattle.std.specs.Prelude.{ℕ, suc, not, List, [], ◌∷◌, ◌++◌, ℤ, pos, negsuc}
use Rattle.refusals.specs.declared.Refusal.TheVariants.{BadName}
use Rattle.refusals.specs.declared.Verdict.{Verdict}
use Rattle.walk.specs.declared.Answer.{Answer}
use Rattle.refusals.specs.Refusals.{refuse_if, first_of}
use Rattle.runs.specs.Run.{Run, stops_of}
use Rattle.runs.specs.Judging.{judge_of}
use Rattle.runs.specs.Lists.{list_of, list_verdict}
use Rattle.walk.specs.Price.{priced_answer}
use Rattle.figures.specs.Figures.{figures_of}
use Rattle.text_bytes.specs.Text.{bytes, comma, is_name, decimal}
use Rattle.sheet_reader.specs.Lines.{tape_key}
use Rattle.sheet_writer.specs.declared.Written.{Written}
use Rattle.text_pages.specs.Printing.{line, number_line, pair_text}
use Rattle.sheet_writer.specs.Writing.{row_verdict, Handed}
use Rattle.sheet_writer.specs.PlanSheet.{sum_key, detours_key}

abbrev pub buys_key : List ℕ
buys_key = bytes "buys="

-- A whole number with its sign: `-` before the digits of one below zero, nothing before those of any other.
abbrev pub signed : ℤ → List ℕ
signed (pos n) = decimal n
signed (negsuc n) = bytes "-" ++ decimal (suc n)

-- A detour's line: its start file, its end file and its figure. One for each detour of two rows, in the order done.
abbrev pub figure_line : ℕ → ℕ → ℤ → List ℕ
figure_line from to figure = line buys_key (pair_text from to ++ (comma ∷ []) ++ signed figure)

unfoldable pub figure_lines : List ℕ → List ℕ → List ℤ → List ℕ
figure_lines [] tos figures = []
figure_lines (a ∷ froms) [] figures = []
figure_lines (a ∷ froms) (b ∷ tos) [] = []
figure_lines (a ∷ froms) (b ∷ tos) (z ∷ figures) = figure_line a b z ++ figure_lines froms tos figures

-- The whole sheet.
unfoldable pub figure_page : List ℕ → Answer → List ℕ → List ℕ → List ℤ → List ℕ
figure_page name answer froms tos figures =
    line tape_key name
    ++ number_line sum_key answer.sum
    ++ number_line detours_key answer.detours
    ++ figure_lines froms tos figures

-- The figure sheet of a run and a list: the list's price, and what each detour buys.
unfoldable pub figure_text : List ℕ → Run → List ℕ → List ℕ → List ℕ
figure_text name run froms tos = figure_page name (priced_answer run (list_of froms tos)) froms tos (figures_of run (list_of froms tos))

-- 1 to 7, then 13, then 10, then 8.
unfoldable pub figure_sheet_verdict : List ℕ → Run → List ℕ → List ℕ → List ℕ → Verdict
figure_sheet_verdict name run froms tos row =
    first_of
    (judge_of run
    ∷ refuse_if (not (is_name name)) BadName
    ∷ list_verdict (stops_of run) froms tos
    ∷ row_verdict (figure_text name run froms tos) row
    ∷ [])

-- The figure sheet writer.
abbrev pub FigureWritten : List ℕ → Run → List ℕ → List ℕ → List ℕ → Written → List ℕ → Type 0
FigureWritten name run froms tos row r row' =
    Handed (figure_sheet_verdict name run froms tos row) (figure_text name run froms tos) row r row'
