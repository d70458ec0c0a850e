-- What makes a detour list well formed, in the words of document 01: and `WellFormed`, which the contracts use, holds exactly then.
use Rattle.std.specs.Prelude.{ℕ, suc, ◌≤◌, ◌<◌, ◌≡◌, ◌⊎◌, ◌↔◌, List, length}
use Rattle.runs.specs.Run.{Stop}
use Rattle.runs.specs.Rows.{stop_at}
use Rattle.runs.specs.Lists.{Detour, entry_of, WellFormed}

-- A file is wanted: it is the file of a stop. The stops are the wanted files, left to right, so the leftmost is that of the first.
abbrev pub IsStop : List Stop → ℕ → Type 0
IsStop stops f = (i : ℕ) × (i < length stops) × ((stop_at stops i).file ≡ f)

-- A detour (a, b) names two wanted files, a ≤ b, and a lies strictly right of the leftmost wanted file.
pub record IsDetour (stops : List Stop) (d : Detour) : Type 0 where
  pub start : IsStop stops d.from
  pub stop : IsStop stops d.to
  pub ordered : d.from ≤ d.to
  pub right : (stop_at stops 0).file < d.from

-- Starts strictly fall from entry to entry; for two detours (a, b) and (a', b') with a < a', either b < a' or b' < b.
pub record ObeysTheRules (stops : List Stop) (list : List Detour) : Type 0 where
  pub each : (i : ℕ) → i < length list → IsDetour stops (entry_of list i)
  pub fall : (i : ℕ) → suc i < length list → (entry_of list (suc i)).from < (entry_of list i).from
  pub apart : (i j : ℕ) → i < length list → j < length list → (entry_of list i).from < (entry_of list j).from
      → ((entry_of list i).to < (entry_of list j).from) ⊎ ((entry_of list j).to < (entry_of list i).to)

abbrev pub FormedByTheRules : Type 0
FormedByTheRules = (stops : List Stop) (list : List Detour) → WellFormed stops list ↔ ObeysTheRules stops list
