-- Request L4: what each detour of a list buys. A figure is the sum of the list without the entry less the sum of the list, exactly; in a plan each is
-- above zero.
use Rattle.std.specs.Prelude.{ℕ, zero, suc, ◌+◌, ◌≤◌, ◌<◌, ◌≡◌, ◌↔◌, List, [], ◌∷◌, ◌++◌, length, get_or, take, drop, replicate, ℤ, pos, negsuc}
use Rattle.refusals.specs.declared.Refusal.{Refusal}
use Rattle.refusals.specs.declared.Refusal.TheVariants.{Accepted, ShortRow, BadEntry}
use Rattle.walk.specs.declared.Answer.{Answer}
use Rattle.walk.specs.Walk.{head_at, walked}
use Rattle.walk.specs.Detours.{legs_of}
use Rattle.runs.specs.Run.{Run, run_of, stops_of}
use Rattle.runs.specs.Lists.{Detour, WellFormed, list_of}
use Rattle.least.specs.Least.{list_sum}
use Rattle.figures.specs.Figures.{figures_answer, figures_row}
use Rattle.sheet_writer.specs.declared.Written.{Written}
use Rattle.sheet_writer.specs.Writing.{written_answer, written_row}
use Rattle.sheet_figures.specs.FigureSheet.{figure_text, figure_sheet_verdict}
use Rattle.planner.specs.Plan.{Plans}
use Rattle.planner.specs.Rows.{Rows}
use Rattle.demands.specs.RefusalTable.{RunApplies, ListIsBad, SomeApplies}
use Rattle.demands.specs.Demand1.{ByTheTable, price_order}
use Rattle.demands.specs.Cases.{two_files, example_run}
use Rattle.demands.specs.Sheets.{ListSheetApplies, list_sheet_order, WriteAnswers}

-- The refusals, in the pricer's order: 1 to 7, then 10, then 8, where the row has fewer entries than the list.
pub data BuysApplies (r : Run) (froms tos : List ℕ) (row : List ℤ) : Refusal → ℕ → Type 0 where
  run : {kind : Refusal} {place : ℕ} → RunApplies r kind place → BuysApplies r froms tos row kind place
  bad_list : {place : ℕ} → ListIsBad r froms tos place → BuysApplies r froms tos row BadEntry place
  short_row : length row < length froms → BuysApplies r froms tos row ShortRow 0

-- Whatever is handed in, and whatever answer and row fit the contract, goes by the table.
abbrev pub FiguresAnswer : Type 0
FiguresAnswer =
    (r : Run) (froms tos : List ℕ) (row : List ℤ) (answer : Answer) (out : List ℤ)
    → answer ≡ figures_answer r froms tos row
    → out ≡ figures_row r froms tos row
    → ByTheTable (BuysApplies r froms tos row) price_order row answer out

abbrev pub FiguresAnswerIff : Type 0
FiguresAnswerIff =
    (r : Run) (froms tos : List ℕ) (row : List ℤ) (answer : Answer)
    → answer ≡ figures_answer r froms tos row
    → (answer.refusal ≡ Accepted → ⊥) ↔ SomeApplies (BuysApplies r froms tos row) price_order

-- The writer of figure sheets refuses as that of plan sheets does (Sheets).
abbrev pub Demand1FigureSheet : Type 0
Demand1FigureSheet =
    (name : List ℕ) (r : Run) (froms tos row : List ℕ) (answer : Written) (out : List ℕ)
    → answer ≡ written_answer (figure_sheet_verdict name r froms tos row) (figure_text name r froms tos)
    → out ≡ written_row (figure_sheet_verdict name r froms tos row) (figure_text name r froms tos) row
    → WriteAnswers (ListSheetApplies name r froms tos (figure_text name r froms tos) row) list_sheet_order row answer out

-- A whole number with its sign is the first number less the second.
pub data IsLess (a b : ℕ) : ℤ → Type 0 where
  over : {n : ℕ} → a ≡ b + n → IsLess a b (pos n)
  under : {n : ℕ} → a + suc n ≡ b → IsLess a b (negsuc n)

-- A list without the entry at an index, from 0: what stands before it, then what stands behind it.
abbrev pub left_out : List Detour → ℕ → List Detour
left_out list i = take i list ++ drop (suc i) list

-- What entry i buys. The list without it is well formed, so it has a walk and a sum.
pub record IsBought (r : Run) (list : List Detour) (i : ℕ) (figure : ℤ) : Type 0 where
  pub formed : WellFormed (stops_of r) (left_out list i)
  pub less : IsLess (list_sum r.turn r.head (stops_of r) (left_out list i)) (list_sum r.turn r.head (stops_of r) list) figure

-- An accepted answer: a figure for each entry, in the list's order; later entries of the row as they were.
pub record FiguresTold (r : Run) (froms tos : List ℕ) (row : List ℤ) (answer : Answer) (out : List ℤ) : Type 0 where
  pub even : length froms ≡ length tos
  pub formed : WellFormed (stops_of r) (list_of froms tos)
  pub sum : answer.sum ≡ list_sum r.turn r.head (stops_of r) (list_of froms tos)
  pub finish : answer.finish ≡ (walked r.turn (head_at r.head) (legs_of (stops_of r) (list_of froms tos))).clock
  pub end : answer.end ≡ (walked r.turn (head_at r.head) (legs_of (stops_of r) (list_of froms tos))).place
  pub number : answer.detours ≡ length froms
  pub each : (i : ℕ) → i < length froms → IsBought r (list_of froms tos) i (get_or out i (pos 0))
  pub long : length out ≡ length row
  pub later : drop (length froms) out ≡ drop (length froms) row

abbrev pub FiguresTell : Type 0
FiguresTell =
    (r : Run) (froms tos : List ℕ) (row : List ℤ) (answer : Answer) (out : List ℤ)
    → answer ≡ figures_answer r froms tos row
    → out ≡ figures_row r froms tos row
    → answer.refusal ≡ Accepted
    → FiguresTold r froms tos row answer out

-- The contract determines the answer and the row.
abbrev pub FiguresOne : Type 0
FiguresOne =
    (r : Run) (froms tos : List ℕ) (row : List ℤ) (answer answer' : Answer) (out out' : List ℤ)
    → (answer ≡ figures_answer r froms tos row) × (out ≡ figures_row r froms tos row)
    → (answer' ≡ figures_answer r froms tos row) × (out' ≡ figures_row r froms tos row)
    → (answer ≡ answer') × (out ≡ out')

-- The list that a plan leaves in its rows, with a row for its figures: the answer is the plan's own, no figure is below zero, and more, each is above.
pub record PlanPays (planned : Answer) (answer : Answer) (out : List ℤ) : Type 0 where
  pub same : answer ≡ planned
  pub not_below : (i : ℕ) → i < planned.detours → (n : ℕ) × (get_or out i (pos 0) ≡ pos n)
  pub above : (i : ℕ) → i < planned.detours → (n : ℕ) × (0 < n) × (get_or out i (pos 0) ≡ pos n)

abbrev pub PlansPay : Type 0
PlansPay =
    (r : Run) (before : Rows) (planned : Answer) (after : Rows)
    → Plans r before planned after
    → planned.refusal ≡ Accepted
    → (row : List ℤ) → planned.detours ≤ length row
    → (answer : Answer) → answer ≡ figures_answer r (take planned.detours after.froms) (take planned.detours after.tos) row
    → (out : List ℤ) → out ≡ figures_row r (take planned.detours after.froms) (take planned.detours after.tos) row
    → PlanPays planned answer out

-- The range that the limits give: from -2,258,388,293,515,264 to 67,950,368,350,460,032. No figure lies outside it; below, both ends are met with.
pub data FigureWithin : ℤ → Type 0 where
  gained : {n : ℕ} → n ≤ 67950368350460032 → FigureWithin (pos n)
  lost : {n : ℕ} → suc n ≤ 2258388293515264 → FigureWithin (negsuc n)

abbrev pub FiguresInRange : Type 0
FiguresInRange =
    (r : Run) (froms tos : List ℕ) (row : List ℤ) (answer : Answer) (out : List ℤ)
    → answer ≡ figures_answer r froms tos row
    → out ≡ figures_row r froms tos row
    → answer.refusal ≡ Accepted
    → (i : ℕ) → i < length froms → FigureWithin (get_or out i (pos 0))

-- Worked by hand: the figures of a list, in a row of as many entries.
pub record WorkedFigures : Type 0 where
  pub run : Run
  pub froms : List ℕ
  pub tos : List ℕ
  pub figures : List ℤ

pub record IsWorked (b : WorkedFigures) (row : List ℤ) : Type 0 where
  pub accepted : (figures_answer b.run b.froms b.tos row).refusal ≡ Accepted
  pub fills : figures_row b.run b.froms b.tos row ≡ b.figures

-- Zero: 01's two files, turn price 0, one read each.
abbrev pub nothing_bought : WorkedFigures
nothing_bought = record { run = two_files (1 ∷ 2 ∷ []) (1 ∷ 1 ∷ []) 0; froms = 2 ∷ []; tos = 2 ∷ []; figures = pos 0 ∷ [] }

-- The smallest that the limits allow: 2 - 2046 (2^40 + 2^32 - 1).
abbrev pub smallest_bought : WorkedFigures
smallest_bought =
    record {
      run = run_of (0 ∷ 1 ∷ []) (1 ∷ 1099511627775 ∷ []) (0 ∷ 0 ∷ []) (1 ∷ 2 ∷ []) (1023 ∷ 1 ∷ []) 1099511627776 4294967296;
      froms = 2 ∷ [];
      tos = 2 ∷ [];
      figures = negsuc 2258388293515263 ∷ [];
    }

-- 01's sheet: (3,3)(2,2), and its plan (2,2).
abbrev pub sheet_bought : WorkedFigures
sheet_bought = record { run = example_run; froms = 3 ∷ 2 ∷ []; tos = 3 ∷ 2 ∷ []; figures = negsuc 197 ∷ pos 50 ∷ [] }

abbrev pub plan_bought : WorkedFigures
plan_bought = record { run = example_run; froms = 2 ∷ []; tos = 2 ∷ []; figures = pos 40 ∷ [] }

-- The largest: 63 files up to the last place, all wanted, 31 of length 1 at either side of a long one; the entry (63,63) before (32,32)(31,33) … (2,62).
abbrev numbers_from : ℕ → ℕ → List ℕ
numbers_from zero first = []
numbers_from (suc n) first = first ∷ numbers_from n (suc first)

abbrev count_down : ℕ → ℕ → List ℕ
count_down zero last = []
count_down (suc n) last = (last + n) ∷ count_down n last

abbrev pub long_tape : Run
long_tape =
    run_of (numbers_from 32 0 ++ numbers_from 31 1099511627745) (replicate 31 1 ++ 1099511627714 ∷ replicate 31 1) (replicate 63 0)
    (numbers_from 63 1) (replicate 62 1 ++ 962 ∷ []) 1099511627776 4294967296

pub record IsLargest (row : List ℤ) : Type 0 where
  pub accepted : (figures_answer long_tape (63 ∷ count_down 31 2) (63 ∷ numbers_from 31 32) row).refusal ≡ Accepted
  pub first : get_or (figures_row long_tape (63 ∷ count_down 31 2) (63 ∷ numbers_from 31 32) row) 0 (pos 0) ≡ pos 67950368350460032

abbrev pub BoughtHold : Type 0
BoughtHold =
    IsWorked nothing_bought (pos 7 ∷ [])
    × (IsWorked smallest_bought (pos 7 ∷ [])
    × (IsWorked sheet_bought (pos 7 ∷ pos 7 ∷ [])
    × (IsWorked plan_bought (pos 7 ∷ [])
    × IsLargest (replicate 32 (pos 7)))))
