-- Unwanted files do not matter: leave out of a table any files that are neither wanted nor of a wanted aggregate, and number the rest anew. Then one run is
-- accepted exactly when the other is, and their answers are the same, but that a list says the numbers of its own table.
use Rattle.std.specs.Prelude.{ℕ, suc, ◌-◌, ◌≤◌, ◌<◌, ◌≡◌, ◌↔◌, List, map, length, get_or}
use Rattle.refusals.specs.declared.Refusal.TheVariants.{FileRows, BadFile}
use Rattle.runs.specs.Run.{Run, stops_of, want_stops_of}
use Rattle.runs.specs.Lists.{Detour}
use Rattle.walk.specs.declared.Answer.{Answer}
use Rattle.walk.specs.declared.Leg.{Leg}
use Rattle.walk.specs.Walk.{head_at, walked, times_of, legs_for, sum_of}
use Rattle.walk.specs.Detours.{legs_of}
use Rattle.walk.specs.AnyHead.{run_legs}
use Rattle.planner.specs.Plan.{Plans}
use Rattle.planner.specs.AnyHead.{PlansAny}
use Rattle.planner.specs.Rows.{Rows}
use Rattle.demands.specs.RefusalTable.{IsFile, number_of_file, WantedWith, RunApplies, NothingApplies}
use Rattle.demands.specs.Demand2.{IsFormed, list_in}
use Rattle.demands.specs.AnyHead.{NothingAppliesAny, IsFormedAny}

-- New numbers and the old ones that they stand for, in one order. 0 is no file's, and stays.
pub record Renumbers (old : ℕ → ℕ) : Type 0 where
  pub none : old 0 ≡ 0
  pub rises : (f g : ℕ) → f < g → old f < old g

-- It is enough to know them of the files that there are: what rises so far can go on past the table.
abbrev pub RenumbersGoOn : Type 0
RenumbersGoOn =
    (files : ℕ) (old : ℕ → ℕ)
    → (0 < files → 0 < old 1)
    → ((f : ℕ) → 0 < f → f < files → old f < old (suc f))
    → (all : ℕ → ℕ) × Renumbers all × ((f : ℕ) → 0 < f → f ≤ files → all f ≡ old f)

-- A number of the one table is a file there, with the start, the length and the aggregate number of a file of the other.
pub record FileKept (more less : Run) (there here : ℕ) : Type 0 where
  pub file : IsFile more there
  pub start : get_or more.starts (there - 1) 0 ≡ get_or less.starts (here - 1) 0
  pub span : get_or more.lengths (there - 1) 0 ≡ get_or less.lengths (here - 1) 0
  pub aggregate : number_of_file more there ≡ number_of_file less here

-- The second run is the first with files left out, file f of it being `old f` of the first: every file that is wanted, or lies together with one that is,
-- is kept; wants are of the same files, head and turn price the same.
pub record LeavesOut (old : ℕ → ℕ) (more less : Run) : Type 0 where
  pub names : Renumbers old
  pub rows : length less.starts ≡ length less.lengths
  pub numbered : length less.starts ≡ length less.aggregates
  pub same : (f : ℕ) → IsFile less f → FileKept more less (old f) f
  pub kept : (g : ℕ) → IsFile more g → WantedWith more g → (f : ℕ) × IsFile less f × (old f ≡ g)
  pub numbers : more.numbers ≡ map old less.numbers
  pub counts : more.counts ≡ less.counts
  pub head : more.head ≡ less.head
  pub turn : more.turn ≡ less.turn

-- 1 and 2 do not apply to the larger table: a file that is left out may be bad itself, and then only the larger run is refused.
pub record TableInOrder (r : Run) : Type 0 where
  pub rows : (place : ℕ) → RunApplies r FileRows place → ⊥
  pub files : (place : ℕ) → RunApplies r BadFile place → ⊥

abbrev pub UnwantedJudged : Type 0
UnwantedJudged = (old : ℕ → ℕ) (more less : Run) → LeavesOut old more less → TableInOrder more → NothingApplies more ↔ NothingApplies less

abbrev pub UnwantedJudgedAny : Type 0
UnwantedJudgedAny = (old : ℕ → ℕ) (more less : Run) → LeavesOut old more less → TableInOrder more → NothingAppliesAny more ↔ NothingAppliesAny less

-- A list with the other table's numbers.
abbrev pub renamed : (ℕ → ℕ) → List Detour → List Detour
renamed old list = map (λ d. record { from = old d.from; to = old d.to }) list

-- Two rows of legs from the heads of two runs are the same walk: legs, clock and place at the end, sum, and for each want time and leg.
pub record SameWalk (more less : Run) (gs hs : List Leg) : Type 0 where
  pub legs : gs ≡ hs
  pub arrives : walked more.turn (head_at more.head) gs ≡ walked less.turn (head_at less.head) hs
  pub sum : sum_of more.turn (head_at more.head) gs (stops_of more) ≡ sum_of less.turn (head_at less.head) hs (stops_of less)
  pub times : times_of more.turn (head_at more.head) gs (want_stops_of more) ≡ times_of less.turn (head_at less.head) hs (want_stops_of less)
  pub told : legs_for gs (want_stops_of more) ≡ legs_for hs (want_stops_of less)

-- Well-formed lists are the same but for the numbers, and so are their walks. The first for 01's head place, the second for a head anywhere.
pub record SameLists (old : ℕ → ℕ) (more less : Run) (Formed : Run → List Detour → Type 0) (legs : Run → List Detour → List Leg) : Type 0 where
  pub formed : (list : List Detour) → Formed less list ↔ Formed more (renamed old list)
  pub every : (list : List Detour) → Formed more list → (mine : List Detour) × Formed less mine × (list ≡ renamed old mine)
  pub walks : (list : List Detour) → SameWalk more less (legs more (renamed old list)) (legs less list)

abbrev pub UnwantedLists : Type 0
UnwantedLists =
    (old : ℕ → ℕ) (more less : Run)
    → LeavesOut old more less
    → TableInOrder more
    → NothingApplies less
    → SameLists old more less IsFormed (λ r list. legs_of (stops_of r) list)

abbrev pub UnwantedListsAny : Type 0
UnwantedListsAny = (old : ℕ → ℕ) (more less : Run) → LeavesOut old more less → TableInOrder more → NothingAppliesAny less → SameLists old more less IsFormedAny run_legs

-- From the same rows the planner gives one answer for both, a refusal with its place among them, and leaves the same times and legs; and the larger
-- run's list is the other's with the old numbers.
pub record SamePlans (old : ℕ → ℕ) (answer answer' : Answer) (after after' : Rows) : Type 0 where
  pub answers : answer ≡ answer'
  pub list : list_in answer after ≡ renamed old (list_in answer' after')
  pub times : after.times ≡ after'.times
  pub legs : after.legs ≡ after'.legs
  pub room : after.room ≡ after'.room

abbrev pub UnwantedPlans : Type 0
UnwantedPlans =
    (old : ℕ → ℕ) (more less : Run) (before : Rows) (answer answer' : Answer) (after after' : Rows)
    → LeavesOut old more less
    → TableInOrder more
    → Plans more before answer after
    → Plans less before answer' after'
    → SamePlans old answer answer' after after'

abbrev pub UnwantedPlansAny : Type 0
UnwantedPlansAny =
    (old : ℕ → ℕ) (more less : Run) (before : Rows) (answer answer' : Answer) (after after' : Rows)
    → LeavesOut old more less
    → TableInOrder more
    → PlansAny more before answer after
    → PlansAny less before answer' after'
    → SamePlans old answer answer' after after'
