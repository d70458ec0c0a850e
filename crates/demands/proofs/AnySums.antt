-- All from the demands for a head anywhere: 10 decides what is well formed, and a well-formed list has one row of legs.
use mathlib.Core.Path.{◌≡◌, sym, ap, ◌∙◌}
use mathlib.Core.List.{List}
use Rattle.runs.specs.Run.{Run, stops_of}
use Rattle.runs.specs.Lists.{Detour}
use Rattle.runs.proofs.AnyHead.{accepted_any}
use Rattle.walk.specs.declared.Leg.{Leg}
use Rattle.walk.specs.Walk.{head_at, sum_of}
use Rattle.walk.specs.AnyHead.{run_legs}
use Rattle.least.specs.AnyHead.{list_sum_any}
use Rattle.demands.specs.AnyLegs.{AreLegsOf}
use Rattle.demands.specs.AnyHead.{NothingAppliesAny, IsFormedAny}
use Rattle.demands.specs.AnySums.{FormedAnyMeans, SumAnyMeans, LeastIsFormed, LeastWalkIsLeast}
use Rattle.demands.proofs.AnyJudged.{nothing_judged_any}
use Rattle.demands.proofs.AnyLegs.{legs_made}
use Rattle.demands.proofs.AnyHead.{formed_list_any, is_formed_any, legs_are_one}

pub formed_any_means : FormedAnyMeans
formed_any_means r nothing list =
    let good = accepted_any r (nothing_judged_any r nothing) in
    (is_formed_any r good list, formed_list_any r good list)

walk_sum : (r : Run) → NothingAppliesAny r → (list : List Detour) → IsFormedAny r list → (gs : List Leg) → AreLegsOf r list gs
    → list_sum_any r.turn r.head (stops_of r) list ≡ sum_of r.turn (head_at r.head) gs (stops_of r)
walk_sum r nothing list formed gs are = ap (λ hs. sum_of r.turn (head_at r.head) hs (stops_of r)) (sym (legs_are_one r nothing list formed gs are))

pub sum_any_means : SumAnyMeans
sum_any_means r nothing list formed gs are = walk_sum r nothing list formed gs are

pub least_is_formed : LeastIsFormed
least_is_formed r nothing list least = is_formed_any r (accepted_any r (nothing_judged_any r nothing)) list least.formed

pub least_walk_is_least : LeastWalkIsLeast
least_walk_is_least r nothing list gs are least =
    let good = accepted_any r (nothing_judged_any r nothing) in
    let own = walk_sum r nothing list least.formed gs are in
    record {
      formed = formed_list_any r good list least.formed;
      smallest = λ other w. rw own (least.smallest other (is_formed_any r good other w) (run_legs r other) (legs_made r good other w));
      first = λ other w e. least.first other (is_formed_any r good other w) (run_legs r other) (legs_made r good other w) (e ∙ own);
    }
