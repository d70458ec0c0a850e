-- 12 and 11 of a plan sheet handed in to `check`, and of a list handed in to `price`, as conditions: what must stand at each line, given those above it. Line i
-- is the one behind i others, so it has number i + 1.
use Rattle.std.specs.Prelude.{ℕ, ◌+◌, ◌≤◌, ◌<◌, ◌≡◌, List, [], ◌∷◌, ◌++◌, length}
use Rattle.refusals.specs.declared.Refusal.{Refusal}
use Rattle.refusals.specs.declared.Refusal.TheVariants.{BadLine, LongSheet}
use Rattle.text_bytes.specs.Text.{value_of}
use Rattle.text_lines.specs.Lines.{after_lines}
use Rattle.sheet_reader.specs.Lines.{tape_key}
use Rattle.sheet_writer.specs.PlanSheet.{sum_key, reads_key, finish_key, end_key, detours_key, detour_key, time_key}
use Rattle.sheet_lists.specs.Form.{detours_told}
use Rattle.sheet_lists.specs.Reading.{plan_form, list_form}
use Rattle.demands.specs.RefusalTable.{FirstBad, FirstThatApplies}
use Rattle.demands.specs.Lines.{Stands, Name, Number, UpTo, Pair, Triple}

-- A plan sheet: tape, sum, reads, finish and end; detours, at most 63, and as many detour lines; then time lines to the end, at most 64.
pub data PlanLineIsBad (plan : List ℕ) (i : ℕ) : Type 0 where
  tape : i ≡ 0 → (Stands tape_key Name plan i → ⊥) → PlanLineIsBad plan i
  sum : i ≡ 1 → (Stands sum_key Number plan i → ⊥) → PlanLineIsBad plan i
  reads : i ≡ 2 → (Stands reads_key Number plan i → ⊥) → PlanLineIsBad plan i
  finish : i ≡ 3 → (Stands finish_key Number plan i → ⊥) → PlanLineIsBad plan i
  end : i ≡ 4 → (Stands end_key Number plan i → ⊥) → PlanLineIsBad plan i
  detours : i ≡ 5 → (Stands detours_key (UpTo 63) plan i → ⊥) → PlanLineIsBad plan i
  detour : 6 ≤ i → i < 6 + detours_told plan → (Stands detour_key Pair plan i → ⊥) → PlanLineIsBad plan i
  time : 6 + detours_told plan ≤ i → i < 6 + detours_told plan + 64 → (after_lines i plan ≡ [] → ⊥) → (Stands time_key Triple plan i → ⊥) → PlanLineIsBad plan i
  beyond : i ≡ 6 + detours_told plan + 64 → (after_lines i plan ≡ [] → ⊥) → PlanLineIsBad plan i

-- A list that is no plan sheet: detour lines to the end, at most 63.
pub data ListLineIsBad (list : List ℕ) (i : ℕ) : Type 0 where
  detour : i < 63 → (after_lines i list ≡ [] → ⊥) → (Stands detour_key Pair list i → ⊥) → ListLineIsBad list i
  beyond : i ≡ 63 → (after_lines i list ≡ [] → ⊥) → ListLineIsBad list i

-- A list is a plan sheet if it begins with `tape=`.
abbrev pub IsPlanSheet : List ℕ → Type 0
IsPlanSheet list = (rest : List ℕ) × (list ≡ tape_key ++ rest)

-- 12, then 11 with the first bad line: the lines up to its place have one that is bad, the last.
pub data PlanFormApplies (plan : List ℕ) : Refusal → ℕ → Type 0 where
  too_long : 16384 < length plan → PlanFormApplies plan LongSheet 0
  bad_line : {place : ℕ} → FirstBad (PlanLineIsBad plan) place place → PlanFormApplies plan BadLine place

pub data ListFormApplies (list : List ℕ) : Refusal → ℕ → Type 0 where
  too_long : 16384 < length list → ListFormApplies list LongSheet 0
  plan_line : {place : ℕ} → IsPlanSheet list → FirstBad (PlanLineIsBad list) place place → ListFormApplies list BadLine place
  detour_line : {place : ℕ} → (IsPlanSheet list → ⊥) → FirstBad (ListLineIsBad list) place place → ListFormApplies list BadLine place

abbrev pub form_order : List Refusal
form_order = LongSheet ∷ BadLine ∷ []

abbrev pub PlanFormByTheTable : Type 0
PlanFormByTheTable = (plan : List ℕ) → FirstThatApplies (PlanFormApplies plan) form_order (plan_form plan).refusal (plan_form plan).place

-- The detours that a plan sheet says it has: of any that has such a line, the number on it.
abbrev pub DetoursAreTold : Type 0
DetoursAreTold = (plan : List ℕ) (line : Stands detours_key Number plan 5) → detours_told plan ≡ value_of line.value

abbrev pub ListFormByTheTable : Type 0
ListFormByTheTable = (list : List ℕ) → FirstThatApplies (ListFormApplies list) form_order (list_form list).refusal (list_form list).place
