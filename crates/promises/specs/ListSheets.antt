-- The run sheet of any run; the plan sheet and the figure sheet of any list, the least or another, line by line: what `price` prints, what `check` compares with, and what
-- the writers write.
use Rattle.std.specs.Prelude.{ℕ, ◌≡◌, List, ◌++◌, length, ℤ}
use Rattle.runs.specs.Run.{Run, stops_of}
use Rattle.runs.specs.Lists.{Detour, list_of}
use Rattle.walk.specs.declared.Leg.{Leg}
use Rattle.walk.specs.Walk.{head_at, sum_of}
use Rattle.walk.specs.Detours.{legs_of}
use Rattle.least.specs.Least.{list_sum}
use Rattle.text_bytes.specs.Text.{bytes, decimal}
use Rattle.sheet_writer.specs.Writing.{sheet_text}
use Rattle.sheet_writer.specs.PlanSheet.{plan_text}
use Rattle.sheet_writer.specs.AnyHead.{plan_any_text}
use Rattle.sheet_figures.specs.FigureSheet.{figure_text}
use Rattle.sheet_figures.specs.AnyHead.{figure_any_text}
use Rattle.demands.specs.Formed.{ObeysTheRules}
use Rattle.demands.specs.AnyLegs.{AreLegsOf}
use Rattle.demands.specs.AnyHead.{NothingAppliesAny, IsFormedAny}
use Rattle.demands.specs.Buys.{IsBought}
use Rattle.demands.specs.AnyBuys.{IsBoughtAny}
use Rattle.promises.specs.Texts.{pairs_on, triples_on}
use Rattle.promises.specs.BuysLines.{FiguresSaid}
use Rattle.promises.specs.PlanLines.{walk_sheet}

-- The run sheet: a number always stands behind `turn=`, and the rule is the least.
abbrev pub run_sheet : List ℕ → Run → List ℕ
run_sheet name r =
    ((bytes "tape=" ++ name ++ bytes "\n")
    ++ (bytes "head=" ++ decimal r.head ++ bytes "\n")
    ++ (bytes "turn=" ++ decimal r.turn ++ bytes "\n")
    ++ bytes "rule=least\n"
    ++ (bytes "files=" ++ decimal (length r.starts) ++ bytes "\n"))
    ++ triples_on (bytes "file=") r.starts r.lengths r.aggregates
    ++ (bytes "wants=" ++ decimal (length r.numbers) ++ bytes "\n")
    ++ pairs_on (bytes "want=") r.numbers r.counts

abbrev pub RunSheetLines : Type 0
RunSheetLines = (name : List ℕ) (r : Run) → sheet_text name r ≡ run_sheet name r

-- A list in two rows of one length.
abbrev pub PlanSheetLines : Type 0
PlanSheetLines =
    (name : List ℕ) (r : Run) (froms tos : List ℕ)
    → length froms ≡ length tos
    → plan_text name r froms tos ≡ walk_sheet name r (list_of froms tos) (legs_of (stops_of r) (list_of froms tos))

-- For a head anywhere: a run that is not refused, a list that is well formed, and the legs that the demands say it has.
abbrev pub PlanAnySheetLines : Type 0
PlanAnySheetLines =
    (name : List ℕ) (r : Run) (froms tos : List ℕ) (legs : List Leg)
    → NothingAppliesAny r
    → length froms ≡ length tos
    → IsFormedAny r (list_of froms tos)
    → AreLegsOf r (list_of froms tos) legs
    → plan_any_text name r froms tos ≡ walk_sheet name r (list_of froms tos) legs

-- The figure sheet: the tape, the sum, the number of detours, and for each detour what it buys by the demand.
pub record FigureSheetOf (Bought : ℕ → ℤ → Type 0) (name : List ℕ) (sum : ℕ) (list : List Detour) (text : List ℕ) : Type 0 where
  pub figures : List ℕ
  pub each : FiguresSaid Bought 0 list figures
  pub whole : text
      ≡ (bytes "tape=" ++ name ++ bytes "\n")
      ++ (bytes "sum=" ++ decimal sum ++ bytes "\n")
      ++ (bytes "detours=" ++ decimal (length list) ++ bytes "\n")
      ++ figures

abbrev pub FigureSheetLines : Type 0
FigureSheetLines =
    (name : List ℕ) (r : Run) (froms tos : List ℕ)
    → length froms ≡ length tos
    → ObeysTheRules (stops_of r) (list_of froms tos)
    → FigureSheetOf (IsBought r (list_of froms tos)) name (list_sum r.turn r.head (stops_of r) (list_of froms tos)) (list_of froms tos) (figure_text name r froms tos)

abbrev pub FigureAnySheetLines : Type 0
FigureAnySheetLines =
    (name : List ℕ) (r : Run) (froms tos : List ℕ) (legs : List Leg)
    → NothingAppliesAny r
    → length froms ≡ length tos
    → IsFormedAny r (list_of froms tos)
    → AreLegsOf r (list_of froms tos) legs
    → FigureSheetOf (IsBoughtAny r (list_of froms tos)) name (sum_of r.turn (head_at r.head) legs (stops_of r)) (list_of froms tos) (figure_any_text name r froms tos)
