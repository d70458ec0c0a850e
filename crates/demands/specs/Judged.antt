-- The verdicts that a run and a list have by themselves, before anything is priced or planned: the first of the table that applies is the answer, with its place.
use Rattle.std.specs.Prelude.{ℕ, List, [], ◌∷◌}
use Rattle.refusals.specs.declared.Refusal.{Refusal}
use Rattle.refusals.specs.declared.Refusal.TheVariants.{FileRows, BadFile, WantRows, BadWant, TooManyReads, TurnPrice, HeadPlace, BadEntry}
use Rattle.runs.specs.Run.{Run, stops_of}
use Rattle.runs.specs.Judging.{judge_of}
use Rattle.runs.specs.Lists.{list_verdict}
use Rattle.demands.specs.RefusalTable.{RunApplies, NothingApplies, ListIsBad, FirstThatApplies}

-- Of a run: 1 to 7.
abbrev pub run_order : List Refusal
run_order = FileRows ∷ BadFile ∷ WantRows ∷ BadWant ∷ TooManyReads ∷ TurnPrice ∷ HeadPlace ∷ []

abbrev pub JudgedByTheTable : Type 0
JudgedByTheTable = (r : Run) → FirstThatApplies (RunApplies r) run_order (judge_of r).refusal (judge_of r).place

-- Of a list, for an accepted run: 10.
abbrev pub ListJudged : Type 0
ListJudged =
    (r : Run)
    → NothingApplies r
    → (froms tos : List ℕ)
    → FirstThatApplies (λ kind. ListIsBad r froms tos) (BadEntry ∷ []) (list_verdict (stops_of r) froms tos).refusal (list_verdict (stops_of r) froms tos).place
