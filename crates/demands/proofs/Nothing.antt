-- Runs that want nothing: they have no stops, so no list but the empty one is well formed, and its walk is the head as it stands.
use Prim.Native.Nat.{ℕ}
use mathlib.Core.Path.{◌≡◌, refl, sym, ap, ◌∙◌}
use mathlib.Core.Bool.{false}
use mathlib.Core.Logic.{⊎_elim}
use mathlib.Core.List.{List, [], ◌∷◌}
use native.Mathlib.Omega.{arith}
use lib.ListN.{length}
use Rattle.walk.specs.declared.Answer.{Answer}
use Rattle.walk.specs.declared.Head.{Head}
use Rattle.runs.specs.Run.{Run, want_stops, joined, stops_of}
use Rattle.runs.specs.Judging.{judge_of}
use Rattle.runs.specs.Lists.{Detour, list_of}
use Rattle.walk.specs.Walk.{head_at, walked, sum_of}
use Rattle.walk.specs.Detours.{legs_of, last_sweep}
use Rattle.walk.specs.AnyHead.{legs_any_of, run_legs}
use Rattle.walk.specs.Rows.{ReadRows}
use Rattle.refusals.proofs.Verdicts.{refuses}
use Rattle.runs.proofs.Judged.{accepted_run}
use Rattle.runs.proofs.AnyHead.{GoodAnyRun}
use Rattle.walk.proofs.AnyHead.{any_formed}
use Rattle.least.proofs.Lists.{none_wanted}
use Rattle.least.proofs.LeastAny.{pulled_none}
use Rattle.planner.specs.Rows.{reads_in}
use Rattle.demands.specs.Demand2.{IsFormed, list_in, IsWalkOf}
use Rattle.demands.specs.AnyHead.{IsFormedAny, IsWalkAnyOf}
use Rattle.demands.specs.Ends.{NothingWanted, PriceOfNothing, PlanOfNothing, PriceAnyOfNothing, PlanAnyOfNothing}
use Rattle.demands.proofs.Planned.{run_accepted}
use Rattle.demands.proofs.Demand2.{formed_list, demand2_price, demand2_walk, price_run_accepted}
use Rattle.demands.proofs.AnyHead.{formed_list_any, good_run, price_any_good, demand2_price_any, demand2_walk_any}

pub no_stops : (starts lengths aggregates ns cs : List ℕ) → length ns ≡ 0 → joined (want_stops starts lengths aggregates ns cs) ≡ []
unfolding want_stops joined
no_stops starts lengths aggregates [] cs e = refl
no_stops starts lengths aggregates (n ∷ ns) cs e = absurd (omega arith)

empty_formed : (r : Run) → IsFormed r []
empty_formed r place = ⊎_elim (λ h. h.1 refl) (λ h. omega (arith, h.1.within))

no_sum : (U m : ℕ) (list : List Detour) → sum_of U (head_at m) (legs_of [] list) [] ≡ 0
unfolding sum_of
no_sum U m list = refl

no_walk : (U m : ℕ) → walked U (head_at m) (legs_of [] []) ≡ head_at m
unfolding walked legs_of last_sweep
no_walk U m = refl

module _ (r : Run) (ok : refuses (judge_of r) ≡ false) (list : List Detour) (rows : ReadRows) (answer : Answer) (walk : IsWalkOf r list rows answer) (none : length r.numbers ≡ 0) where
  stops : stops_of r ≡ []
  stops = no_stops r.starts r.lengths r.aggregates r.numbers r.counts none

  empty : (other : List Detour) → IsFormed r other → other ≡ []
  empty other formed = none_wanted other (rw stops at (formed_list r (accepted_run r ok) other formed))

  stands : walked r.turn (head_at r.head) (legs_of (stops_of r) list) ≡ head_at r.head
  stands = rw (stops, empty list walk.formed) (no_walk r.turn r.head)

  nothing_read : NothingWanted (IsFormed r) r answer
  nothing_read =
      record {
        only = λ other. (empty other, λ e. rw e (empty_formed r));
        sum = walk.sum ∙ rw stops (no_sum r.turn r.head list);
        finish = walk.finish ∙ ap (λ (h : Head). h.clock) stands;
        end = walk.end ∙ ap (λ (h : Head). h.place) stands;
        detours = sym walk.number ∙ ap length (empty list walk.formed);
      }

pub price_of_nothing : PriceOfNothing
price_of_nothing r froms tos rows answer out says fills accepts none =
    nothing_read r (price_run_accepted r froms tos rows answer says accepts) (list_of froms tos) out answer
    (demand2_price r froms tos rows answer out says fills accepts).walk none

pub plan_of_nothing : PlanOfNothing
plan_of_nothing r before answer after plans accepts none =
    nothing_read r (run_accepted r before answer after plans accepts) (list_in answer after) (reads_in after) answer
    (demand2_walk r before answer after plans accepts) none

-- From a head anywhere.
empty_formed_any : (r : Run) → IsFormedAny r []
empty_formed_any r place = ⊎_elim (λ h. h.1 refl) (λ h. omega (arith, h.1.within))

no_walk_any : (U m : ℕ) → walked U (head_at m) (legs_any_of m [] []) ≡ head_at m
no_walk_any U m = rw (pulled_none m) (no_walk U m)

module _ (r : Run) (good : GoodAnyRun r) (list : List Detour) (rows : ReadRows) (answer : Answer) (walk : IsWalkAnyOf r list rows answer) (none : length r.numbers ≡ 0) where
  stops_any : stops_of r ≡ []
  stops_any = no_stops r.starts r.lengths r.aggregates r.numbers r.counts none

  empty_any : (other : List Detour) → IsFormedAny r other → other ≡ []
  empty_any other formed = none_wanted other (any_formed r.head [] other (rw stops_any at (formed_list_any r good other formed)))

  stands_any : walked r.turn (head_at r.head) (run_legs r list) ≡ head_at r.head
  stands_any = rw (stops_any, empty_any list walk.formed) (no_walk_any r.turn r.head)

  nothing_read_any : NothingWanted (IsFormedAny r) r answer
  unfolding sum_of
  nothing_read_any =
      record {
        only = λ other. (empty_any other, λ e. rw e (empty_formed_any r));
        sum = walk.sum ∙ rw stops_any refl;
        finish = walk.finish ∙ ap (λ (h : Head). h.clock) stands_any;
        end = walk.end ∙ ap (λ (h : Head). h.place) stands_any;
        detours = sym walk.number ∙ ap length (empty_any list walk.formed);
      }

pub price_any_of_nothing : PriceAnyOfNothing
price_any_of_nothing r froms tos rows answer out says fills accepts none =
    nothing_read_any r (price_any_good r froms tos rows answer says accepts) (list_of froms tos) out answer (demand2_price_any r froms tos rows answer out says fills accepts).1 none

pub plan_any_of_nothing : PlanAnyOfNothing
plan_any_of_nothing r before answer after plans accepts none =
    nothing_read_any r (good_run r before answer after plans accepts) (list_in answer after) (reads_in after) answer (demand2_walk_any r before answer after plans accepts) none
