-- Demand 1: any input gets an answer; a refusal is the first of the numbered table that applies, both ways, and nothing lent changes.
use Rattle.std.specs.Prelude.{ℕ, ◌+◌, ◌-◌, ◌*◌, ◌<◌, ◌≡◌, ◌↔◌, List, [], ◌∷◌, length}
use Rattle.refusals.specs.declared.Refusal.{Refusal}
use Rattle.refusals.specs.declared.Refusal.TheVariants.{Accepted, FileRows, BadFile, WantRows, BadWant, TooManyReads, TurnPrice, HeadPlace, ShortRow, ShortRoom, BadEntry}
use Rattle.walk.specs.declared.Answer.{Answer}
use Rattle.runs.specs.Run.{Run, total}
use Rattle.walk.specs.Price.{price_answer, price_rows}
use Rattle.walk.specs.Rows.{ReadRows}
use Rattle.planner.specs.Plan.{Plans}
use Rattle.planner.specs.Rows.{Rows}
use Rattle.demands.specs.RefusalTable.{HasStops, RunApplies, ListIsBad, FirstThatApplies, SomeApplies}

-- A refusal's answer: every number but the place is 0.
abbrev pub OnlyPlace : Answer → Type 0
OnlyPlace answer = answer ≡ record { refusal = answer.refusal; place = answer.place; sum = 0; finish = 0; end = 0; detours = 0 }

-- An answer goes by the table: it is the first of an order that applies; and where that is a refusal, what was lent holds what it held.
pub record ByTheTable (applies : Refusal → ℕ → Type 0) (order : List Refusal) {Lent : Type 0} (before : Lent) (answer : Answer) (after : Lent) : Type 0 where
  pub first : FirstThatApplies applies order answer.refusal answer.place
  pub kept : (answer.refusal ≡ Accepted → ⊥) → OnlyPlace answer × (after ≡ before)

-- The pricer: 1 to 7, then 10, then 8.
abbrev pub price_order : List Refusal
price_order = FileRows ∷ BadFile ∷ WantRows ∷ BadWant ∷ TooManyReads ∷ TurnPrice ∷ HeadPlace ∷ BadEntry ∷ ShortRow ∷ []

pub data PriceApplies (r : Run) (froms tos : List ℕ) (rows : ReadRows) : Refusal → ℕ → Type 0 where
  run : {kind : Refusal} {place : ℕ} → RunApplies r kind place → PriceApplies r froms tos rows kind place
  bad_list : {place : ℕ} → ListIsBad r froms tos place → PriceApplies r froms tos rows BadEntry place
  short_times : length rows.times < length r.numbers → PriceApplies r froms tos rows ShortRow 0
  short_legs : length rows.legs < length r.numbers → PriceApplies r froms tos rows ShortRow 0

-- Whatever is handed to the pricer, and whatever answer and rows fit its contract, goes by the table.
abbrev pub Demand1Price : Type 0
Demand1Price =
    (r : Run) (froms tos : List ℕ) (rows : ReadRows) (answer : Answer) (out : ReadRows)
    → answer ≡ price_answer r froms tos rows
    → out ≡ price_rows r froms tos rows
    → ByTheTable (PriceApplies r froms tos rows) price_order rows answer out

-- Both ways: refused if and only if some condition of the order applies.
abbrev pub Demand1PriceIff : Type 0
Demand1PriceIff =
    (r : Run) (froms tos : List ℕ) (rows : ReadRows) (answer : Answer)
    → answer ≡ price_answer r froms tos rows
    → (answer.refusal ≡ Accepted → ⊥) ↔ SomeApplies (PriceApplies r froms tos rows) price_order

-- The planner: 1 to 7, then 8, then 9.
abbrev pub plan_order : List Refusal
plan_order = FileRows ∷ BadFile ∷ WantRows ∷ BadWant ∷ TooManyReads ∷ TurnPrice ∷ HeadPlace ∷ ShortRow ∷ ShortRoom ∷ []

pub data PlanApplies (r : Run) (rows : Rows) : Refusal → ℕ → Type 0 where
  run : {kind : Refusal} {place : ℕ} → RunApplies r kind place → PlanApplies r rows kind place
  short_times : length rows.times < length r.numbers → PlanApplies r rows ShortRow 0
  short_legs : length rows.legs < length r.numbers → PlanApplies r rows ShortRow 0
  short_starts : {stops : ℕ} → HasStops r stops → length rows.froms < stops - 1 → PlanApplies r rows ShortRow 0
  short_ends : {stops : ℕ} → HasStops r stops → length rows.tos < stops - 1 → PlanApplies r rows ShortRow 0
  short_room : {stops : ℕ} → HasStops r stops → length rows.room < stops * stops * (total r.counts + 1) → PlanApplies r rows ShortRoom 0

abbrev pub Demand1Plan : Type 0
Demand1Plan =
    (r : Run) (before : Rows) (answer : Answer) (after : Rows)
    → Plans r before answer after
    → ByTheTable (PlanApplies r before) plan_order before answer after

abbrev pub Demand1PlanIff : Type 0
Demand1PlanIff =
    (r : Run) (before : Rows) (answer : Answer) (after : Rows)
    → Plans r before answer after
    → (answer.refusal ≡ Accepted → ⊥) ↔ SomeApplies (PlanApplies r before) plan_order
