-- What `plan`, `field` and `plan --any` print of a run that is not refused, line by line, and `buys --any` as BuysLines has it: of the least list, by its legs. For a head
-- anywhere both are those of the demands.
use Rattle.std.specs.Prelude.{ℕ, ◌≡◌, List, ◌++◌, map, length}
use Rattle.runs.specs.Run.{Run, total, stops_of, want_stops_of}
use Rattle.runs.specs.Lists.{Detour}
use Rattle.walk.specs.declared.Leg.{Leg}
use Rattle.walk.specs.Walk.{head_at, walked, times_of, legs_for, sum_of}
use Rattle.walk.specs.Detours.{legs_of}
use Rattle.least.specs.Least.{LeastForRun}
use Rattle.text_bytes.specs.Text.{bytes, decimal}
use Rattle.demands.specs.AnyLegs.{AreLegsOf}
use Rattle.demands.specs.AnyHead.{IsLeastWalk}
use Rattle.demands.specs.AnyBuys.{IsBoughtAny}
use Rattle.promises.specs.Texts.{pairs_on, triples_on}
use Rattle.promises.specs.BuysLines.{FiguresSaid}

-- The plan sheet of a list by its legs: the tape; sum, reads, finish and end of their walk, and the number of detours; a line of start and end for each detour; and one of file,
-- time and leg for each want.
abbrev pub walk_sheet : List ℕ → Run → List Detour → List Leg → List ℕ
walk_sheet name r list legs =
    ((bytes "tape=" ++ name ++ bytes "\n")
    ++ (bytes "sum=" ++ decimal (sum_of r.turn (head_at r.head) legs (stops_of r)) ++ bytes "\n")
    ++ (bytes "reads=" ++ decimal (total r.counts) ++ bytes "\n")
    ++ (bytes "finish=" ++ decimal (walked r.turn (head_at r.head) legs).clock ++ bytes "\n")
    ++ (bytes "end=" ++ decimal (walked r.turn (head_at r.head) legs).place ++ bytes "\n")
    ++ (bytes "detours=" ++ decimal (length list) ++ bytes "\n"))
    ++ pairs_on (bytes "detour=") (map (λ d. d.from) list) (map (λ d. d.to) list)
    ++ triples_on (bytes "time=") r.numbers (times_of r.turn (head_at r.head) legs (want_stops_of r)) (legs_for legs (want_stops_of r))

pub record PlanPrinted (name : List ℕ) (r : Run) (printed : List ℕ) : Type 0 where
  pub list : List Detour
  pub least : LeastForRun r list
  pub whole : printed ≡ walk_sheet name r list (legs_of (stops_of r) list)

pub record PlanAnyPrinted (name : List ℕ) (r : Run) (printed : List ℕ) : Type 0 where
  pub list : List Detour
  pub legs : List Leg
  pub made : AreLegsOf r list legs
  pub least : IsLeastWalk r list legs
  pub whole : printed ≡ walk_sheet name r list legs

-- The figure sheet of that list: the tape, the sum, the number of detours, and for each detour what it buys by the demand on figures.
pub record FiguresAnyPrinted (name : List ℕ) (r : Run) (printed : List ℕ) : Type 0 where
  pub list : List Detour
  pub legs : List Leg
  pub made : AreLegsOf r list legs
  pub least : IsLeastWalk r list legs
  pub figures : List ℕ
  pub each : FiguresSaid (IsBoughtAny r list) 0 list figures
  pub whole : printed
      ≡ (bytes "tape=" ++ name ++ bytes "\n")
      ++ (bytes "sum=" ++ decimal (sum_of r.turn (head_at r.head) legs (stops_of r)) ++ bytes "\n")
      ++ (bytes "detours=" ++ decimal (length list) ++ bytes "\n")
      ++ figures
