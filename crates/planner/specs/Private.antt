-- The list of a run by way of its joined table, for the contracts of private functions. No public contract cites this file.
use Rattle.std.specs.Prelude.{ℕ, Result, Ok, ◌-◌, ◌≡◌, true, false, List, [], ◌∷◌, ◌++◌, map, length, get_or, drop, replicate, ltb}
use denote.Triple.Both.{Both}
use Rattle.refusals.specs.declared.Refusal.TheVariants.{ShortRow, ShortRoom}
use Rattle.refusals.specs.declared.Verdict.{Verdict}
use Rattle.refusals.specs.Refusals.{is_refusal, refuse_if, first_of}
use Rattle.runs.specs.Run.{Run, stops_of}
use Rattle.runs.specs.Rows.{Lent, MutRow}
use Rattle.runs.specs.AnyHead.{judge_any_of}
use Rattle.runs.specs.Lists.{Detour}
use Rattle.engine_stops.specs.Joining.{length_of}
use Rattle.least.specs.AnyHead.{LeastAny}
use Rattle.engine_table.specs.Listing.{ListRows, list_rows, short_list_rows, NotListed}
use Rattle.planner.specs.Plan.{room_for}
use Rattle.planner.specs.AnyHead.{plan_any_verdict}
use Rattle.planner.specs.Rows.{Rows, rows_of}

-- Four rows that hold the stops of an accepted run, its head anywhere.
pub record RunInRows (r : Run) (firsts lefts spans reads : List ℕ) (head turn : ℕ) : Type 0 where
  pub accepts : is_refusal (judge_any_of r).refusal ≡ false
  pub first_files : firsts ≡ map (λ s. s.file) (stops_of r)
  pub starts : lefts ≡ map (λ s. s.start) (stops_of r)
  pub lengths : spans ≡ map length_of (stops_of r)
  pub counts : reads ≡ map (λ s. s.count) (stops_of r)
  pub at_head : head ≡ r.head
  pub at_price : turn ≡ r.turn

pub record HoldsSome (firsts lefts spans reads : List ℕ) (head turn : ℕ) : Type 0 where
  pub run : Run
  pub holds : RunInRows run firsts lefts spans reads head turn

-- A file of the joined table by its first file.
abbrev pub first_file_in : List ℕ → ℕ → ℕ
first_file_in firsts a = get_or firsts (a - 1) 0

-- What is left to judge behind the run: 8 for starts and ends, then 9.
abbrev pub stops_verdict : Run → ListRows → Verdict
stops_verdict r rows =
    first_of (refuse_if (short_list_rows (length (stops_of r)) rows) ShortRow ∷ refuse_if (ltb (length rows.room) (room_for r)) ShortRoom ∷ [])

abbrev pub named_rows : Run → List Detour → ListRows → ListRows
named_rows r list rows =
    record {
      froms = map (λ d. d.from) list ++ drop (length list) rows.froms;
      tos = map (λ d. d.to) list ++ drop (length list) rows.tos;
      room = replicate (room_for r) 0 ++ drop (room_for r) rows.room;
    }

pub record IsNamed (r : Run) (before : ListRows) (answer : Result ℕ Verdict) (after : ListRows) : Type 0 where
  pub list : List Detour
  pub least : LeastAny r list
  pub says : answer ≡ Ok (length list)
  pub rows : after ≡ named_rows r list before

-- The list by first files: a refusal and nothing changed, or the least list.
pub record ListsNamed (r : Run) (before : ListRows) (answer : Result ℕ Verdict) (after : ListRows) : Type 0 where
  pub refused : is_refusal (stops_verdict r before).refusal ≡ true → NotListed (stops_verdict r before) before answer after
  pub listed : is_refusal (stops_verdict r before).refusal ≡ false → IsNamed r before answer after

-- The rows that are handed in, of which those for times and legs are only judged by their lengths.
abbrev pub rows_judged : {T L : Type 0} → Both MutRow MutRow → Both MutRow MutRow → Lent T → Lent L → Both MutRow MutRow → Rows
rows_judged froms tos times legs room = rows_of froms.entry.now tos.entry.now times.entry.now legs.entry.now room.entry.now

-- The rows that the engine is lent.
abbrev pub engine_rows : Rows → ListRows
engine_rows rows = list_rows rows.froms rows.tos rows.room

-- The list of a run with a head anywhere, after all that the planner judges: a refusal and nothing changed, or the least list.
pub record ListsAny (r : Run) (before : Rows) (answer : Result ℕ Verdict) (after : ListRows) : Type 0 where
  pub refused : is_refusal (plan_any_verdict r before).refusal ≡ true → NotListed (plan_any_verdict r before) (engine_rows before) answer after
  pub listed : is_refusal (plan_any_verdict r before).refusal ≡ false → IsNamed r (engine_rows before) answer after
