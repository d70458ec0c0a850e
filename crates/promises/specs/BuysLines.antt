-- What `buys` prints of a run that is not refused, line by line: the tape, the sum, the number of detours, and for each detour what it buys.
use Rattle.std.specs.Prelude.{ℕ, suc, ◌≡◌, List, [], ◌∷◌, ◌++◌, length, ℤ, pos, negsuc}
use Rattle.runs.specs.Run.{Run, stops_of}
use Rattle.runs.specs.Lists.{Detour}
use Rattle.least.specs.Least.{list_sum, LeastForRun}
use Rattle.text_bytes.specs.Text.{bytes, decimal}
use Rattle.demands.specs.Buys.{IsBought}
use Rattle.promises.specs.Texts.{pair}

-- A figure as it is written: with a minus where it is below zero.
pub data WrittenAs : ℤ → List ℕ → Type 0 where
  plain : {n : ℕ} → WrittenAs (pos n) (decimal n)
  minus : {n : ℕ} → WrittenAs (negsuc n) (bytes "-" ++ decimal (suc n))

-- A line for each entry of a list, from entry i on: its two files, and what it buys, by what the demands on figures say of each entry.
pub data FiguresSaid (Bought : ℕ → ℤ → Type 0) : ℕ → List Detour → List ℕ → Type 0 where
  none_left : {i : ℕ} → FiguresSaid Bought i [] []
  one_more : {i : ℕ} {d : Detour} {rest : List Detour} {figure : ℤ} {digits text : List ℕ}
      → Bought i figure
      → WrittenAs figure digits
      → FiguresSaid Bought (suc i) rest text
      → FiguresSaid Bought i (d ∷ rest) ((bytes "buys=" ++ (pair d.from d.to ++ bytes "," ++ digits) ++ bytes "\n") ++ text)

-- The figure sheet of the least list.
pub record FiguresOf (name : List ℕ) (r : Run) (printed : List ℕ) : Type 0 where
  pub list : List Detour
  pub least : LeastForRun r list
  pub figures : List ℕ
  pub each : FiguresSaid (IsBought r list) 0 list figures
  pub whole : printed
      ≡ (bytes "tape=" ++ name ++ bytes "\n")
      ++ (bytes "sum=" ++ decimal (list_sum r.turn r.head (stops_of r) list) ++ bytes "\n")
      ++ (bytes "detours=" ++ decimal (length list) ++ bytes "\n")
      ++ figures
