-- Demand 2: the pricer's and the planner's numbers are the walk's, the planner's list is the least, and its contract fits one answer.
use Prim.Native.Nat.{ℕ}
use mathlib.Core.Path.{◌≡◌, refl, sym, ap, ◌∙◌}
use mathlib.Core.Bool.{true, false, true≢false}
use mathlib.Core.Logic.{⊎_elim}
use mathlib.Core.List.{List, [], ◌∷◌, map}
use lib.ListN.{length, drop}
use lib.Seq.{take_at}
use Rattle.refusals.specs.declared.Refusal.TheVariants.{Accepted, BadEntry, ShortRow}
use Rattle.walk.specs.declared.Answer.{Answer}
use Rattle.refusals.specs.Refusals.{is_refusal, refuse_if}
use Rattle.runs.specs.Run.{Run, Stop, stops_of, want_stops_of}
use Rattle.walk.specs.Walk.{head_at, Moves, times_of, legs_for}
use Rattle.walk.specs.Detours.{legs_of}
use Rattle.runs.specs.Judging.{judge_of}
use Rattle.runs.specs.Lists.{Detour, WellFormed, list_of, list_verdict}
use Rattle.walk.specs.Price.{priced_answer, priced_times, priced_legs, read_rows_with, short_read_rows, price_verdict, price_answer, price_rows}
use Rattle.walk.specs.Rows.{ReadRows}
use Rattle.refusals.proofs.Verdicts.{refuses, AllAccept, all_accept}
use Rattle.runs.proofs.Judged.{GoodRun, accepted_run}
use Rattle.runs.proofs.Search.{true_or_false}
use Rattle.walk.proofs.Filling.{one_each}
use Rattle.walk.proofs.Joins.{run_sum_joined}
use Rattle.walk.proofs.Walks.{accepted_list, run_walkable}
use Rattle.engine_stops.proofs.Halves.{list_accepted, list_of_halves, halves_even}
use Rattle.figures.proofs.Answers.{list_formed}
use Rattle.runs.proofs.Stops.{wants_length, run_sound}
use Rattle.least.proofs.Sweeps.{all_served}
use Rattle.least.specs.Least.{LeastFor}
use Rattle.planner.specs.Plan.{rows_with}
use Rattle.planner.specs.Rows.{Rows, reads_in}
use Rattle.planner.proofs.Determined.{plan_determined}
use Rattle.demands.specs.RefusalTable.{ListIsBad}
use Rattle.demands.specs.Demand2.{IsFormed, list_in, IsWalkOf, IsTheWalk, IsPriceOf, IsLeast, Demand2Price, Demand2Walk, Demand2Least, Demand2One}
use Rattle.demands.proofs.Checks.{Decides, refused, passed}
use Rattle.demands.proofs.Listed.{decides_list}
use Rattle.demands.proofs.Planned.{plan_in_rows, run_accepted, list_in_rows}

-- In an accepted run a list is well formed if and only if 10 does not apply to it.
module _ (r : Run) (good : GoodRun r) (list : List Detour) where
  abbrev froms : List ℕ
  froms = map (λ d. d.from) list

  abbrev tos : List ℕ
  tos = map (λ d. d.to) list

  decides_ten : Decides BadEntry (ListIsBad r froms tos) (list_verdict (stops_of r) froms tos)
  decides_ten = decides_list r good froms tos (sym good.wants.equal)

  pub formed_list : IsFormed r list → WellFormed (stops_of r) list
  formed_list n = go decides_ten
    where
      go : Decides BadEntry (ListIsBad r froms tos) (list_verdict (stops_of r) froms tos) → WellFormed (stops_of r) list
      go (refused p e h) = absurd (n p h)
      go (passed e none) = rw (list_of_halves list) at (list_formed (stops_of r) froms tos (ap refuses e))

  pub is_formed : WellFormed (stops_of r) list → IsFormed r list
  is_formed w = go decides_ten
    where
      go : Decides BadEntry (ListIsBad r froms tos) (list_verdict (stops_of r) froms tos) → IsFormed r list
      go (refused p e h) = absurd (true≢false (sym (ap refuses e) ∙ list_accepted (stops_of r) froms tos (halves_even (λ d. d.from) (λ d. d.to) list) (rw (list_of_halves list) w)))
      go (passed e none) = none

  -- The legs of a well-formed list are a movement.
  pub walk_moves : WellFormed (stops_of r) list → Moves r.head (legs_of (stops_of r) list)
  walk_moves w =
      let all = list_accepted (stops_of r) froms tos (halves_even (λ d. d.from) (λ d. d.to) list) (rw (list_of_halves list) w) in
      rw (list_of_halves list) at (run_walkable r good froms tos (accepted_list (stops_of r) froms tos all)).moves

-- The pricer's numbers, times and legs for a well-formed list, in rows that have them in front.
priced_walk : (r : Run) (list : List Detour) (rows before : ReadRows) (answer : Answer) → answer ≡ priced_answer r list → rows ≡ read_rows_with r list before
    → GoodRun r → WellFormed (stops_of r) list → IsFormed r list → IsWalkOf r list rows answer
unfolding priced_answer priced_times priced_legs times_of legs_for
priced_walk r list rows before answer says fills good well formed =
    let same = sym good.wants.equal in
    let size : (f : Stop → ℕ) → length (map f (want_stops_of r)) ≡ length r.numbers = λ f. one_each f (want_stops_of r) ∙ wants_length r.starts r.lengths r.aggregates r.numbers r.counts same in
    record {
      number = rw says;
      formed = formed;
      moves = walk_moves r good list well;
      serves = all_served (stops_of r) r.head (run_sound r good) list;
      times = rw fills (take_at (priced_times r list) (drop (length r.numbers) before.times) (length r.numbers) (size _));
      legs = rw fills (take_at (priced_legs r list) (drop (length r.numbers) before.legs) (length r.numbers) (size _));
      sum = rw says;
      summed = rw says (run_sum_joined r.turn (head_at r.head) (legs_of (stops_of r) list) r);
      finish = rw says;
      end = rw says;
    }

module _ (r : Run) (list : List Detour) (before : Rows) (answer : Answer) (after : Rows) (says : answer ≡ priced_answer r list) (rows : after ≡ rows_with r list before) where
  in_rows : list_in answer after ≡ list
  in_rows = list_in_rows r list before answer after says rows

  walk_of_list : GoodRun r → WellFormed (stops_of r) list → IsTheWalk r answer after
  walk_of_list good well =
      rw in_rows (priced_walk r list (reads_in after) (reads_in before) answer says (ap reads_in rows) good well (is_formed r good list well))

  least_of_list_here : LeastFor r.turn r.head (stops_of r) list → ((other : List Detour) → IsFormed r other → WellFormed (stops_of r) other) → IsLeast r answer after
  unfolding priced_answer
  least_of_list_here least formed =
      record {
        smallest = λ other v. rw says (least.smallest other (formed other v));
        first = λ other v e. rw in_rows (least.first other (formed other v) (rw says at e));
      }

-- What an accepted verdict of the pricer says of the run and the list.
module _ (r : Run) (froms tos : List ℕ) (rows : ReadRows) (e : refuses (price_verdict r froms tos rows) ≡ false) where
  pub checks_pass : AllAccept (judge_of r ∷ list_verdict (stops_of r) froms tos ∷ refuse_if (short_read_rows (length r.numbers) rows) ShortRow ∷ [])
  unfolding price_verdict
  checks_pass = all_accept (judge_of r ∷ list_verdict (stops_of r) froms tos ∷ refuse_if (short_read_rows (length r.numbers) rows) ShortRow ∷ []) e

  -- So the numbers are those of the walk of that list.
  pub price_of_list : (answer : Answer) (out : ReadRows) → answer ≡ priced_answer r (list_of froms tos)
      → out ≡ read_rows_with r (list_of froms tos) rows → IsPriceOf r froms tos out answer
  price_of_list answer out says fills =
      let good = accepted_run r checks_pass.0 in
      let well = list_formed (stops_of r) froms tos checks_pass.1.0 in
      record {
        even = (accepted_list (stops_of r) froms tos checks_pass.1.0).even;
        walk = priced_walk r (list_of froms tos) out rows answer says fills good well (is_formed r good (list_of froms tos) well);
      }

-- An answer that is no refusal comes of a verdict that is none.
pub price_accepts : (r : Run) (froms tos : List ℕ) (rows : ReadRows) (answer : Answer) → answer ≡ price_answer r froms tos rows → answer.refusal ≡ Accepted
    → refuses (price_verdict r froms tos rows) ≡ false
unfolding price_answer
price_accepts r froms tos rows answer says accepts =
    ⊎_elim
    (λ e. absurd (true≢false (sym e ∙ ap is_refusal (sym (ap (λ (a : Answer). a.refusal) (rw e at says)) ∙ accepts))))
    (λ e. e)
    (true_or_false (refuses (price_verdict r froms tos rows)))

pub price_run_accepted : (r : Run) (froms tos : List ℕ) (rows : ReadRows) (answer : Answer) → answer ≡ price_answer r froms tos rows → answer.refusal ≡ Accepted
    → refuses (judge_of r) ≡ false
price_run_accepted r froms tos rows answer says accepts = (checks_pass r froms tos rows (price_accepts r froms tos rows answer says accepts)).0

pub demand2_price : Demand2Price
unfolding price_answer price_rows
demand2_price r froms tos rows answer out says fills accepts =
    let e = price_accepts r froms tos rows answer says accepts in
    price_of_list r froms tos rows e answer out (rw e at says) (rw e at fills)

pub demand2_walk : Demand2Walk
demand2_walk r before answer after plans accepts =
    let plan = plan_in_rows r before answer after plans accepts in
    let good = accepted_run r (run_accepted r before answer after plans accepts) in
    walk_of_list r plan.list before answer after plan.says plan.rows good plan.least.formed

pub demand2_least : Demand2Least
demand2_least r before answer after plans accepts =
    let plan = plan_in_rows r before answer after plans accepts in
    least_of_list_here r plan.list before answer after plan.says plan.rows plan.least
    (formed_list r (accepted_run r (run_accepted r before answer after plans accepts)))

pub demand2_one : Demand2One
demand2_one r before answer answer' after after' plans plans' = plan_determined r before answer answer' after after' plans plans'
