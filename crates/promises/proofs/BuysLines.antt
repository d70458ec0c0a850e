-- The figure sheet of the least list, line by line.
use Prim.Native.Nat.{ℕ, suc, ◌+◌, ◌<◌}
use mathlib.Core.Path.{◌≡◌, ap, ◌∙◌}
use mathlib.Core.List.{List, [], ◌∷◌, map}
use native.Mathlib.Omega.{arith}
use lib.ListN.{length}
use lib.IntN.{ℤ, pos, negsuc}
use Rattle.runs.specs.Run.{Run}
use Rattle.runs.specs.Lists.{Detour}
use Rattle.walk.specs.Price.{priced_answer}
use Rattle.figures.specs.Figures.{figure_of, figures_by, figures_of}
use Rattle.engine_stops.proofs.Halves.{list_of_halves}
use Rattle.sheet_figures.specs.FigureSheet.{signed, figure_lines, figure_page, figure_text}
use Rattle.answer_buys.specs.Buys.{BuysText}
use Rattle.demands.specs.Buys.{IsBought}
use Rattle.demands.proofs.Buys.{bought_at}
use Rattle.promises.specs.BuysLines.{WrittenAs, FiguresSaid, FiguresOf}

written_as : (z : ℤ) → WrittenAs z (signed z)
written_as (pos n) = WrittenAs.plain
written_as (negsuc n) = WrittenAs.minus

pub figures_said : (Bought : ℕ → ℤ → Type 0) (figure : ℕ → ℤ) (n : ℕ) → ((i : ℕ) → i < n → Bought i (figure i)) → (rest : List Detour) (i : ℕ) → i + length rest ≡ n
    → FiguresSaid Bought i rest (figure_lines (map (λ d. d.from) rest) (map (λ d. d.to) rest) (figures_by figure (length rest) i))
unfolding figure_lines figures_by
figures_said Bought figure n bought [] i e = FiguresSaid.none_left
figures_said Bought figure n bought (d ∷ rest) i e =
    FiguresSaid.one_more (bought i (omega (arith, e))) (written_as (figure i)) (figures_said Bought figure n bought rest (suc i) (omega (arith, e)))

text_is : (name : List ℕ) (r : Run) (list : List Detour)
    → figure_text name r (map (λ d. d.from) list) (map (λ d. d.to) list) ≡ figure_page name (priced_answer r list) (map (λ d. d.from) list) (map (λ d. d.to) list) (figures_of r list)
unfolding figure_text
text_is name r list = ap (λ (l : List Detour). figure_page name (priced_answer r l) (map (λ d. d.from) list) (map (λ d. d.to) list) (figures_of r l)) (list_of_halves list)

pub figures_of_lem : (name : List ℕ) (r : Run) (text : List ℕ) → BuysText name r text → FiguresOf name r text
unfolding figure_page priced_answer
figures_of_lem name r text p =
    let list = p.list in
    record {
      list = list;
      least = p.least;
      figures = figure_lines (map (λ d. d.from) list) (map (λ d. d.to) list) (figures_of r list);
      each = figures_said (IsBought r list) (figure_of r list) (length list) (λ i l. bought_at r list i l p.least.formed) list 0 (omega arith);
      whole = p.says ∙ text_is name r list;
    }
