-- The sums that document 01 works by hand and marks P, as one table, and what is claimed of each entry.
use Rattle.std.specs.Prelude.{ℕ, ◌≡◌, Bool, true, false, ◌↔◌, List, [], ◌∷◌}
use Rattle.runs.specs.Run.{Run, run_of, stops_of, want_stops_of}
use Rattle.walk.specs.Walk.{head_at, walked, times_of, legs_for, sum_of}
use Rattle.runs.specs.Lists.{Detour, WellFormed}
use Rattle.walk.specs.Detours.{legs_of}
use Rattle.least.specs.Least.{LeastForRun}
use Rattle.demands.specs.RefusalTable.{NothingApplies}

-- A run and a detour list, the sum, the times and the legs (one for each want) of its walk, the clock and the place at its end, and whether the list
-- is the least.
pub record Case : Type 0 where
  pub run : Run
  pub list : List Detour
  pub sum : ℕ
  pub times : List ℕ
  pub legs : List ℕ
  pub finish : ℕ
  pub end : ℕ
  pub least : Bool

pub record CaseHolds (c : Case) : Type 0 where
  pub accepted : NothingApplies c.run
  pub formed : WellFormed (stops_of c.run) c.list
  pub sum : sum_of c.run.turn (head_at c.run.head) (legs_of (stops_of c.run) c.list) (stops_of c.run) ≡ c.sum
  pub times : times_of c.run.turn (head_at c.run.head) (legs_of (stops_of c.run) c.list) (want_stops_of c.run) ≡ c.times
  pub legs : legs_for (legs_of (stops_of c.run) c.list) (want_stops_of c.run) ≡ c.legs
  pub finish : (walked c.run.turn (head_at c.run.head) (legs_of (stops_of c.run) c.list)).clock ≡ c.finish
  pub end : (walked c.run.turn (head_at c.run.head) (legs_of (stops_of c.run) c.list)).place ≡ c.end
  pub least : (c.least ≡ true) ↔ LeastForRun c.run c.list

abbrev pub AllHold : List Case → Type 0
AllHold [] = Unit {0}
AllHold (c ∷ cs) = CaseHolds c × AllHold cs

abbrev case : Run → List Detour → ℕ → List ℕ → List ℕ → ℕ → ℕ → Bool → Case
case run list sum times legs finish end least = record { run = run; list = list; sum = sum; times = times; legs = legs; finish = finish; end = end; least = least }

abbrev detour : ℕ → ℕ → Detour
detour from to = record { from = from; to = to }

-- The tapes: two files of length 10 from 0, the sheet's, and four files of length 2 from 0.
abbrev pub two_files : List ℕ → List ℕ → ℕ → Run
two_files numbers counts turn = run_of (0 ∷ 10 ∷ []) (10 ∷ 10 ∷ []) (0 ∷ 0 ∷ []) numbers counts 20 turn

abbrev pub sheet : List ℕ → List ℕ → Run
sheet numbers counts = run_of (0 ∷ 10 ∷ 20 ∷ []) (10 ∷ 4 ∷ 30 ∷ []) (0 ∷ 0 ∷ 0 ∷ []) numbers counts 60 1

abbrev pub example_run : Run
example_run = sheet (1 ∷ 2 ∷ 3 ∷ []) (1 ∷ 3 ∷ 1 ∷ [])

abbrev pub four_files : Run
four_files = run_of (0 ∷ 2 ∷ 4 ∷ 6 ∷ []) (2 ∷ 2 ∷ 2 ∷ 2 ∷ []) (0 ∷ 0 ∷ 0 ∷ 0 ∷ []) (1 ∷ 2 ∷ 3 ∷ 4 ∷ []) (1 ∷ 1 ∷ 1 ∷ 1 ∷ []) 8 1

-- Four files, the two in the middle with a gap between them: in one aggregate, or in none. Of these two only the second is wanted.
abbrev pub gapped : List ℕ → Run
gapped aggregates = run_of (0 ∷ 10 ∷ 16 ∷ 20 ∷ []) (10 ∷ 4 ∷ 4 ∷ 30 ∷ []) aggregates (1 ∷ 3 ∷ 4 ∷ []) (1 ∷ 3 ∷ 1 ∷ []) 60 1

abbrev pub cases : List Case
cases =
    case (sheet [] []) [] 0 [] [] 0 60 true
    ∷ case (run_of (5 ∷ []) (3 ∷ []) (0 ∷ []) (1 ∷ []) (3 ∷ []) 8 2) [] 24 (8 ∷ []) (1 ∷ []) 8 8 true
    ∷ case (two_files (1 ∷ 2 ∷ []) (1 ∷ 1 ∷ []) 0) [] 70 (30 ∷ 40 ∷ []) (1 ∷ 1 ∷ []) 40 20 true
    ∷ case (two_files (1 ∷ 2 ∷ []) (1 ∷ 1 ∷ []) 0) (detour 2 2 ∷ []) 70 (50 ∷ 20 ∷ []) (2 ∷ 1 ∷ []) 50 10 false
    ∷ case (two_files (1 ∷ 2 ∷ []) (1 ∷ 2 ∷ []) 0) [] 110 (30 ∷ 40 ∷ []) (1 ∷ 1 ∷ []) 40 20 false
    ∷ case (two_files (1 ∷ 2 ∷ []) (1 ∷ 2 ∷ []) 0) (detour 2 2 ∷ []) 90 (50 ∷ 20 ∷ []) (2 ∷ 1 ∷ []) 50 10 true
    ∷ case (two_files (1 ∷ 2 ∷ []) (1 ∷ 1 ∷ []) 1) [] 72 (31 ∷ 41 ∷ []) (1 ∷ 1 ∷ []) 41 20 true
    ∷ case (two_files (1 ∷ 2 ∷ []) (1 ∷ 1 ∷ []) 1) (detour 2 2 ∷ []) 74 (53 ∷ 21 ∷ []) (2 ∷ 1 ∷ []) 53 10 false
    ∷ case (two_files (2 ∷ []) (1 ∷ []) 0) [] 20 (20 ∷ []) (1 ∷ []) 20 20 true
    ∷ case example_run [] 407 (71 ∷ 75 ∷ 111 ∷ []) (1 ∷ 1 ∷ 1 ∷ []) 111 50 false
    ∷ case example_run (detour 2 2 ∷ []) 367 (81 ∷ 55 ∷ 121 ∷ []) (2 ∷ 1 ∷ 2 ∷ []) 121 50 true
    ∷ case example_run (detour 2 3 ∷ []) 409 (153 ∷ 55 ∷ 91 ∷ []) (2 ∷ 1 ∷ 1 ∷ []) 153 10 false
    ∷ case example_run (detour 3 3 ∷ []) 615 (133 ∷ 137 ∷ 71 ∷ []) (2 ∷ 2 ∷ 1 ∷ []) 137 14 false
    ∷ case example_run (detour 3 3 ∷ detour 2 2 ∷ []) 565 (143 ∷ 117 ∷ 71 ∷ []) (3 ∷ 2 ∷ 1 ∷ []) 143 10 false
    ∷ case four_files (detour 3 3 ∷ detour 2 4 ∷ []) 72 (31 ∷ 15 ∷ 7 ∷ 19 ∷ []) (3 ∷ 2 ∷ 1 ∷ 2 ∷ []) 31 2 false
    ∷ case four_files [] 56 (11 ∷ 13 ∷ 15 ∷ 17 ∷ []) (1 ∷ 1 ∷ 1 ∷ 1 ∷ []) 17 8 true
    ∷ case (gapped (0 ∷ 7 ∷ 7 ∷ 0 ∷ [])) (detour 2 2 ∷ []) 409 (93 ∷ 61 ∷ 133 ∷ []) (2 ∷ 1 ∷ 2 ∷ []) 133 50 true
    ∷ case (gapped (0 ∷ 0 ∷ 0 ∷ 0 ∷ [])) (detour 3 3 ∷ []) 349 (81 ∷ 49 ∷ 121 ∷ []) (2 ∷ 1 ∷ 2 ∷ []) 121 50 true
    ∷ []

abbrev pub CasesHold : Type 0
CasesHold = AllHold cases
