-- A head anywhere: the three demands for the pricer and the planner that take one, that they answer as 01's wherever 01's do not refuse by 7, and what a
-- head left of everything wanted comes to.
use Rattle.std.specs.Prelude.{ℕ, ◌+◌, ◌-◌, ◌*◌, ◌≤◌, ◌<◌, ◌≡◌, ◌⊎◌, ◌↔◌, List, map, ◌++◌, T, length, get_or, take}
use Rattle.refusals.specs.declared.Refusal.{Refusal}
use Rattle.refusals.specs.declared.Refusal.TheVariants.{Accepted, HeadPlace, ShortRow, ShortRoom, BadEntry}
use Rattle.runs.specs.Run.{Run, Stop, total, stops_of, want_stops_of}
use Rattle.runs.specs.Rows.{stop_at}
use Rattle.runs.specs.Lists.{Detour, list_of}
use Rattle.walk.specs.declared.Answer.{Answer}
use Rattle.walk.specs.declared.Leg.{Leg}
use Rattle.walk.specs.Walk.{head_at, walked, Moves, served, ServesAll, time_of, times_of, legs_for, sum_of}
use Rattle.walk.specs.Price.{price_answer, price_rows}
use Rattle.walk.specs.AnyHead.{run_legs, price_any_answer, price_any_rows}
use Rattle.walk.specs.Rows.{ReadRows}
use Rattle.least.specs.Least.{ComesFirst}
use Rattle.least.specs.AnyHead.{LeastAny}
use Rattle.least.specs.Wants.{reads_of}
use Rattle.planner.specs.Plan.{Plans}
use Rattle.planner.specs.AnyHead.{PlansAny}
use Rattle.planner.specs.Rows.{Rows, reads_in}
use Rattle.demands.specs.RefusalTable.{FirstBad, NamesStop, HasStops, EntryIsBad, RunApplies, NothingApplies, SomeApplies}
use Rattle.demands.specs.Demand1.{ByTheTable, price_order, plan_order}
use Rattle.demands.specs.Demand2.{list_in}
use Rattle.demands.specs.Movements.{AsksNoLessByFile}
use Rattle.demands.specs.AnyLegs.{AreLegsOf}

-- 1 to 7: as in 01's table, but that 7 is only a head past the last place.
pub data RunAppliesAny (r : Run) : Refusal → ℕ → Type 0 where
  as_01 : {kind : Refusal} {place : ℕ} → (kind ≡ HeadPlace → ⊥) → RunApplies r kind place → RunAppliesAny r kind place
  head_far : 1099511627776 < r.head → RunAppliesAny r HeadPlace 0

abbrev pub NothingAppliesAny : Run → Type 0
NothingAppliesAny r = (kind : Refusal) (place : ℕ) → RunAppliesAny r kind place → ⊥

-- It asks no more than 01's table: what holds of every run that nothing of this applies to holds of the runs that 01 takes.
abbrev pub TakesWhat01Takes : Type 0
TakesWhat01Takes = (r : Run) → NothingApplies r → NothingAppliesAny r

-- 10: as in 01's table, or the entry starts right of the head's own stop: a stop of a smaller name starts at or right of the head.
pub record StartsPast (r : Run) (from : ℕ) : Type 0 where
  pub stop : ℕ
  pub names : NamesStop r stop
  pub smaller : stop < from
  pub right : r.head ≤ get_or r.starts (stop - 1) 0

abbrev pub EntryIsBadAny : Run → List ℕ → List ℕ → ℕ → Type 0
EntryIsBadAny r froms tos i = EntryIsBad r froms tos i ⊎ StartsPast r (get_or froms i 0)

abbrev pub ListIsBadAny : Run → List ℕ → List ℕ → ℕ → Type 0
ListIsBadAny r froms tos place =
    ((place ≡ 0) × (length froms ≡ length tos → ⊥))
    ⊎ ((length froms ≡ length tos) × FirstBad (EntryIsBadAny r froms tos) (length froms) place)

-- Demand 1: the first of the table that applies, both ways; a refusal changes nothing.
pub data PriceAnyApplies (r : Run) (froms tos : List ℕ) (rows : ReadRows) : Refusal → ℕ → Type 0 where
  run : {kind : Refusal} {place : ℕ} → RunAppliesAny r kind place → PriceAnyApplies r froms tos rows kind place
  bad_list : {place : ℕ} → ListIsBadAny r froms tos place → PriceAnyApplies r froms tos rows BadEntry place
  short_times : length rows.times < length r.numbers → PriceAnyApplies r froms tos rows ShortRow 0
  short_legs : length rows.legs < length r.numbers → PriceAnyApplies r froms tos rows ShortRow 0

pub data PlanAnyApplies (r : Run) (rows : Rows) : Refusal → ℕ → Type 0 where
  run : {kind : Refusal} {place : ℕ} → RunAppliesAny r kind place → PlanAnyApplies r rows kind place
  short_times : length rows.times < length r.numbers → PlanAnyApplies r rows ShortRow 0
  short_legs : length rows.legs < length r.numbers → PlanAnyApplies r rows ShortRow 0
  short_starts : {stops : ℕ} → HasStops r stops → length rows.froms < stops - 1 → PlanAnyApplies r rows ShortRow 0
  short_ends : {stops : ℕ} → HasStops r stops → length rows.tos < stops - 1 → PlanAnyApplies r rows ShortRow 0
  short_room : {stops : ℕ} → HasStops r stops → length rows.room < stops * stops * (total r.counts + 1) → PlanAnyApplies r rows ShortRoom 0

abbrev pub Demand1PriceAny : Type 0
Demand1PriceAny =
    (r : Run) (froms tos : List ℕ) (rows : ReadRows) (answer : Answer) (out : ReadRows)
    → answer ≡ price_any_answer r froms tos rows
    → out ≡ price_any_rows r froms tos rows
    → ByTheTable (PriceAnyApplies r froms tos rows) price_order rows answer out

abbrev pub Demand1PriceAnyIff : Type 0
Demand1PriceAnyIff =
    (r : Run) (froms tos : List ℕ) (rows : ReadRows) (answer : Answer)
    → answer ≡ price_any_answer r froms tos rows
    → (answer.refusal ≡ Accepted → ⊥) ↔ SomeApplies (PriceAnyApplies r froms tos rows) price_order

abbrev pub Demand1PlanAny : Type 0
Demand1PlanAny =
    (r : Run) (before : Rows) (answer : Answer) (after : Rows)
    → PlansAny r before answer after
    → ByTheTable (PlanAnyApplies r before) plan_order before answer after

abbrev pub Demand1PlanAnyIff : Type 0
Demand1PlanAnyIff =
    (r : Run) (before : Rows) (answer : Answer) (after : Rows)
    → PlansAny r before answer after
    → (answer.refusal ≡ Accepted → ⊥) ↔ SomeApplies (PlanAnyApplies r before) plan_order

-- Demand 2. A list is well formed where 10 does not apply to it.
abbrev pub IsFormedAny : Run → List Detour → Type 0
IsFormedAny r list = (place : ℕ) → ListIsBadAny r (map (λ d. d.from) list) (map (λ d. d.to) list) place → ⊥

-- In a run that nothing applies to every well-formed list has legs, and one row of legs alone.
abbrev pub LegsAreMade : Type 0
LegsAreMade = (r : Run) → NothingAppliesAny r → (list : List Detour) → IsFormedAny r list → AreLegsOf r list (run_legs r list)

abbrev pub LegsAreOne : Type 0
LegsAreOne = (r : Run) → NothingAppliesAny r → (list : List Detour) → IsFormedAny r list → (gs : List Leg) → AreLegsOf r list gs → gs ≡ run_legs r list

-- The numbers are those of the walk of the list's legs from the run's head, which are a movement from there that reads everything wanted.
pub record IsWalkAnyOf (r : Run) (list : List Detour) (rows : ReadRows) (answer : Answer) : Type 0 where
  pub number : length list ≡ answer.detours
  pub formed : IsFormedAny r list
  pub made : AreLegsOf r list (run_legs r list)
  pub moves : Moves r.head (run_legs r list)
  pub serves : ServesAll (run_legs r list) (stops_of r)
  pub times : take (length r.numbers) rows.times ≡ times_of r.turn (head_at r.head) (run_legs r list) (want_stops_of r)
  pub legs : take (length r.numbers) rows.legs ≡ legs_for (run_legs r list) (want_stops_of r)
  pub sum : answer.sum ≡ sum_of r.turn (head_at r.head) (run_legs r list) (stops_of r)
  pub summed : answer.sum ≡ sum_of r.turn (head_at r.head) (run_legs r list) (want_stops_of r)
  pub finish : answer.finish ≡ (walked r.turn (head_at r.head) (run_legs r list)).clock
  pub end : answer.end ≡ (walked r.turn (head_at r.head) (run_legs r list)).place

abbrev pub Demand2PriceAny : Type 0
Demand2PriceAny =
    (r : Run) (froms tos : List ℕ) (rows : ReadRows) (answer : Answer) (out : ReadRows)
    → answer ≡ price_any_answer r froms tos rows
    → out ≡ price_any_rows r froms tos rows
    → answer.refusal ≡ Accepted
    → (length froms ≡ length tos) × IsWalkAnyOf r (list_of froms tos) out answer

abbrev pub Demand2WalkAny : Type 0
Demand2WalkAny =
    (r : Run) (before : Rows) (answer : Answer) (after : Rows)
    → PlansAny r before answer after
    → answer.refusal ≡ Accepted
    → IsWalkAnyOf r (list_in answer after) (reads_in after) answer

-- The walk of no well-formed list has a smaller sum, and a list whose walk has the same is the same list or comes later by the tie rule.
pub record IsLeastAny (r : Run) (answer : Answer) (after : Rows) : Type 0 where
  pub smallest : (other : List Detour) → IsFormedAny r other → (gs : List Leg) → AreLegsOf r other gs → answer.sum ≤ sum_of r.turn (head_at r.head) gs (stops_of r)
  pub first : (other : List Detour) → IsFormedAny r other → (gs : List Leg) → AreLegsOf r other gs → sum_of r.turn (head_at r.head) gs (stops_of r) ≡ answer.sum
      → (other ≡ list_in answer after) ⊎ ComesFirst (list_in answer after) other

abbrev pub Demand2LeastAny : Type 0
Demand2LeastAny =
    (r : Run) (before : Rows) (answer : Answer) (after : Rows)
    → PlansAny r before answer after
    → answer.refusal ≡ Accepted
    → IsLeastAny r answer after

-- What the contracts call least for a head anywhere is that: of a list that is, and of its legs.
pub record IsLeastWalk (r : Run) (list : List Detour) (gs : List Leg) : Type 0 where
  pub formed : IsFormedAny r list
  pub smallest : (other : List Detour) → IsFormedAny r other → (hs : List Leg) → AreLegsOf r other hs → sum_of r.turn (head_at r.head) gs (stops_of r) ≤ sum_of r.turn (head_at r.head) hs (stops_of r)
  pub first : (other : List Detour) → IsFormedAny r other → (hs : List Leg) → AreLegsOf r other hs → sum_of r.turn (head_at r.head) hs (stops_of r) ≡ sum_of r.turn (head_at r.head) gs (stops_of r)
      → (other ≡ list) ⊎ ComesFirst list other

abbrev pub LeastAnyMeans : Type 0
LeastAnyMeans = (r : Run) → NothingAppliesAny r → (list : List Detour) → LeastAny r list → (gs : List Leg) → AreLegsOf r list gs → IsLeastWalk r list gs

abbrev pub Demand2OneAny : Type 0
Demand2OneAny =
    (r : Run) (before : Rows) (answer answer' : Answer) (after after' : Rows)
    → PlansAny r before answer after
    → PlansAny r before answer' after'
    → (answer ≡ answer') × (after ≡ after')

-- Demand 3: the same tape and the same head place, at least as many reads of every stop, by its name, a turn price no lower.
pub record AsksNoLessAny (first second : Run) : Type 0 where
  pub starts : first.starts ≡ second.starts
  pub lengths : first.lengths ≡ second.lengths
  pub aggregates : first.aggregates ≡ second.aggregates
  pub reads : (f : ℕ) → reads_of (stops_of second) f ≤ reads_of (stops_of first) f
  pub turn : second.turn ≤ first.turn
  pub head : second.head ≡ first.head

-- It follows where reads are counted by file as handed in.
abbrev pub NoLessAnyByFile : Type 0
NoLessAnyByFile =
    (first second : Run)
    → NothingAppliesAny first
    → NothingAppliesAny second
    → AsksNoLessByFile first second
    → second.head ≡ first.head
    → AsksNoLessAny first second

-- Every movement from there that serves all reads of the first run has a sum no smaller than the planner reports for the second.
abbrev pub Demand3Any : Type 0
Demand3Any =
    (first second : Run) (before : Rows) (answer : Answer) (after : Rows)
    → NothingAppliesAny first
    → PlansAny second before answer after
    → answer.refusal ≡ Accepted
    → AsksNoLessAny first second
    → (gs : List Leg)
    → Moves first.head gs
    → ServesAll gs (stops_of first)
    → answer.sum ≤ sum_of first.turn (head_at first.head) gs (stops_of first)

abbrev pub Demand3AnySame : Type 0
Demand3AnySame =
    (r : Run) (before : Rows) (answer : Answer) (after : Rows)
    → PlansAny r before answer after
    → answer.refusal ≡ Accepted
    → (gs : List Leg)
    → Moves r.head gs
    → ServesAll gs (stops_of r)
    → answer.sum ≤ sum_of r.turn (head_at r.head) gs (stops_of r)

-- Whatever 01's pricer or planner does not refuse by 7, these answer alike, and leave the same rows.
abbrev pub PriceAnySame : Type 0
PriceAnySame =
    (r : Run) (froms tos : List ℕ) (rows : ReadRows)
    → ((price_answer r froms tos rows).refusal ≡ HeadPlace → ⊥)
    → (price_any_answer r froms tos rows ≡ price_answer r froms tos rows) × (price_any_rows r froms tos rows ≡ price_rows r froms tos rows)

abbrev pub PlanAnySame : Type 0
PlanAnySame =
    (r : Run) (before : Rows) (answer answer' : Answer) (after after' : Rows)
    → Plans r before answer after
    → PlansAny r before answer' after'
    → (answer.refusal ≡ HeadPlace → ⊥)
    → (answer' ≡ answer) × (after' ≡ after)

-- The head left of everything wanted, as when a tape was just mounted: the head turns once and reads each stop on its way to the right, as early as
-- any movement from there can.
pub record ReadsAtOnce (r : Run) (answer : Answer) (after : Rows) : Type 0 where
  pub none : answer.detours ≡ 0
  pub times : (i : ℕ) → i < length (stops_of r) → time_of r.turn (head_at r.head) (run_legs r (list_in answer after)) (stop_at (stops_of r) i) ≡ r.turn + ((stop_at (stops_of r) i).end - r.head)
  pub earliest : (i : ℕ) → i < length (stops_of r) → (gs : List Leg) → Moves r.head gs → T (served gs (stop_at (stops_of r) i))
      → r.turn + ((stop_at (stops_of r) i).end - r.head) ≤ time_of r.turn (head_at r.head) gs (stop_at (stops_of r) i)

abbrev pub LeftOfAll : Type 0
LeftOfAll =
    (r : Run) (before : Rows) (answer : Answer) (after : Rows)
    → PlansAny r before answer after
    → answer.refusal ≡ Accepted
    → ((f : ℕ) → NamesStop r f → r.head ≤ get_or r.starts (f - 1) 0)
    → ReadsAtOnce r answer after

-- Two runs at one turn price, the second from where the first ended: the legs of the first and then those of the second are one movement. In it the first's
-- reads have the times reported, and the second's those reported and `later` on top. It ends where and when the second does, that much later.
pub record Chained (first second : Run) (later : ℕ) (answer' : Answer) (list list' : List Detour) : Type 0 where
  pub moves : Moves first.head (run_legs first list ++ run_legs second list')
  pub first_times : (s : Stop) → T (served (run_legs first list) s)
      → time_of first.turn (head_at first.head) (run_legs first list ++ run_legs second list') s ≡ time_of first.turn (head_at first.head) (run_legs first list) s
  pub second_times : (s : Stop) → (T (served (run_legs first list) s) → ⊥) → T (served (run_legs second list') s)
      → time_of first.turn (head_at first.head) (run_legs first list ++ run_legs second list') s ≡ later + time_of second.turn (head_at second.head) (run_legs second list') s
  pub finish : 0 < length second.numbers → (walked first.turn (head_at first.head) (run_legs first list ++ run_legs second list')).clock ≡ later + answer'.finish
  pub end : (walked first.turn (head_at first.head) (run_legs first list ++ run_legs second list')).place ≡ answer'.end

-- Later by the first's finish and one turn, since the head faces right by then; where the first wants nothing, by nothing, since it has not moved.
pub record ChainsOn (first second : Run) (answer answer' : Answer) (list list' : List Detour) : Type 0 where
  pub read : 0 < length first.numbers → Chained first second (answer.finish + first.turn) answer' list list'
  pub idle : length first.numbers ≡ 0 → Chained first second 0 answer' list list'

abbrev pub AnyChain : Type 0
AnyChain =
    (first second : Run) (before before' : Rows) (answer answer' : Answer) (after after' : Rows)
    → PlansAny first before answer after
    → answer.refusal ≡ Accepted
    → PlansAny second before' answer' after'
    → answer'.refusal ≡ Accepted
    → second.head ≡ answer.end
    → second.turn ≡ first.turn
    → ChainsOn first second answer answer' (list_in answer after) (list_in answer' after')
