-- The table engine and the judging of a detour list for a caller in Rattle, whatever run, rows and stops are handed in.
use Rattle.std.specs.Prelude.{ℕ, Result, Ok, Err, ◌+◌, ◌-◌, ◌*◌, ◌≤◌, ◌<◌, ◌≡◌, ◌⊎◌, List, [], ◌∷◌, ◌++◌, length, get_or, drop, replicate}
use Rattle.refusals.specs.declared.Refusal.{Refusal}
use Rattle.refusals.specs.declared.Refusal.TheVariants.{Accepted, FileRows, ShortRow, ShortRoom, BadEntry}
use Rattle.refusals.specs.declared.Verdict.{Verdict}
use Rattle.runs.specs.Run.{Run, Stop, total}
use Rattle.runs.specs.Rows.{stop_at}
use Rattle.runs.specs.Lists.{list_of, list_verdict}
use Rattle.least.specs.AnyHead.{LeastAny}
use Rattle.engine_table.specs.Listing.{ListRows, Lists}
use Rattle.demands.specs.RefusalTable.{FirstBad, FirstThatApplies}
use Rattle.demands.specs.Demand1.{plan_order}
use Rattle.demands.specs.Formed.{IsStop}
use Rattle.demands.specs.AnyHead.{RunAppliesAny}
use Rattle.promises.specs.Callers.{verdict_told}
use Rattle.promises.specs.CallersRead.{EntriesRead}

-- The words of working room: wants by wants, for each number of reads from 0 to all.
abbrev pub table_words : Run → ℕ
table_words r = length r.numbers * length r.numbers * (total r.counts + 1)

-- 1 also for over 64 files, 1 to 7 with the head anywhere, 8 where a row has fewer than wants less one entries, 9.
pub data TableApplies (r : Run) (rows : ListRows) : Refusal → ℕ → Type 0 where
  many_files : 64 < length r.starts → TableApplies r rows FileRows 0
  run : {kind : Refusal} {place : ℕ} → RunAppliesAny r kind place → TableApplies r rows kind place
  short_starts : length rows.froms < length r.numbers - 1 → TableApplies r rows ShortRow 0
  short_ends : length rows.tos < length r.numbers - 1 → TableApplies r rows ShortRow 0
  short_room : length rows.room < table_words r → TableApplies r rows ShortRoom 0

-- Two rows hold the least list.
abbrev pub LeastInRows : Run → List ℕ → List ℕ → Type 0
LeastInRows r froms tos = (length froms ≡ length tos) × LeastAny r (list_of froms tos)

-- The first refusal that applies, and then no number of detours and every row as it was; or the least list in the first entries, and zero in the words of the room. Later entries and words
-- are as they were.
pub record TableAnswers (r : Run) (before : ListRows) (answer : Result ℕ Verdict) (after : ListRows) : Type 0 where
  pub first : FirstThatApplies (TableApplies r before) plan_order (verdict_told answer).refusal (verdict_told answer).place
  pub kept : (v : Verdict) → answer ≡ Err v → (v.refusal ≡ Accepted → ⊥) × (after ≡ before)
  pub listed : (detours : ℕ) → answer ≡ Ok detours → EntriesRead (LeastInRows r) before.froms before.tos detours after.froms after.tos
  pub cleared : (detours : ℕ) → answer ≡ Ok detours → after.room ≡ replicate (table_words r) 0 ++ drop (table_words r) before.room

abbrev pub TableTells : Type 0
TableTells = (r : Run) (before : ListRows) (answer : Result ℕ Verdict) (after : ListRows) → Lists r before answer after → TableAnswers r before answer after

-- 10 over any stops. An entry by itself: its start or its end is the file of no stop, its end is left of its start, or its start is not right of the leftmost stop.
abbrev pub BreaksAlone : List Stop → ℕ → ℕ → Type 0
BreaksAlone stops from to = (IsStop stops from → ⊥) ⊎ ((IsStop stops to → ⊥) ⊎ ((to < from) ⊎ (from ≤ (stop_at stops 0).file)))

-- Against an earlier one: its start is not left of the earlier start; or neither its end is left of that start nor the earlier end left of its own.
abbrev pub BreaksAfter : ℕ → ℕ → ℕ → ℕ → Type 0
BreaksAfter earlierFrom earlierTo from to = (earlierFrom ≤ from) ⊎ ((to < earlierFrom) ⊎ (earlierTo < to) → ⊥)

abbrev pub EntryBreaks : List Stop → List ℕ → List ℕ → ℕ → Type 0
EntryBreaks stops froms tos i =
    BreaksAlone stops (get_or froms i 0) (get_or tos i 0)
    ⊎ ((j : ℕ) × (j < i) × BreaksAfter (get_or froms j 0) (get_or tos j 0) (get_or froms i 0) (get_or tos i 0))

-- Place 0 where the rows differ in length, else that of the first entry that breaks a rule.
abbrev pub ListBreaks : List Stop → List ℕ → List ℕ → ℕ → Type 0
ListBreaks stops froms tos place =
    ((place ≡ 0) × (length froms ≡ length tos → ⊥))
    ⊎ ((length froms ≡ length tos) × FirstBad (EntryBreaks stops froms tos) (length froms) place)

abbrev pub AnyStopsJudged : Type 0
AnyStopsJudged =
    (stops : List Stop) (froms tos : List ℕ)
    → FirstThatApplies (λ kind. ListBreaks stops froms tos) (BadEntry ∷ []) (list_verdict stops froms tos).refusal (list_verdict stops froms tos).place
