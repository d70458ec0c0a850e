-- The walk ends with a read, and no time depends on where the last sweep ends.
use Prim.Native.Nat.{ℕ, zero, suc, ◌-◌, ◌<◌}
use mathlib.Core.Path.{◌≡◌, refl, sym, ap, ◌∙◌}
use mathlib.Core.Bool.{false}
use mathlib.Core.List.{List, [], ◌∷◌, map}
use native.Mathlib.Omega.{arith}
use lib.ListN.{length, get_or, take}
use lib.Seq.{get_or-take}
use Rattle.walk.specs.declared.Answer.{Answer}
use Rattle.walk.specs.declared.Head.{Head}
use Rattle.walk.specs.declared.Leg.{Leg}
use Rattle.runs.specs.Run.{Run, Stop, end_at, last_member, stops_of, want_stops_of}
use Rattle.runs.specs.Rows.{stop_at}
use Rattle.runs.specs.Judging.{judge_of}
use Rattle.runs.specs.Lists.{Detour, list_of}
use Rattle.runs.specs.AnyHead.{lifted}
use Rattle.walk.specs.Walk.{head_at, walked, time_of, times_of, sum_of}
use Rattle.walk.specs.Detours.{legs_of, full_legs_of}
use Rattle.walk.specs.AnyHead.{run_legs}
use Rattle.refusals.proofs.Verdicts.{refuses}
use Rattle.runs.proofs.Judged.{GoodRun, accepted_run}
use Rattle.runs.proofs.Joined.{some_joined}
use Rattle.runs.proofs.Stops.{wants_agree, wants_length, want_at_lem, accepted_sound, run_sound}
use Rattle.runs.proofs.AnyHead.{GoodAnyRun}
use Rattle.walk.proofs.Joins.{time_same}
use Rattle.least.proofs.Sweeps.{times_stay, time_by_end, LastRead, last_read}
use Rattle.least.proofs.LeastAny.{any_last_read}
use Rattle.walk.specs.Rows.{ReadRows}
use Rattle.planner.specs.Rows.{reads_in}
use Rattle.demands.specs.Demand2.{list_in, IsWalkOf}
use Rattle.demands.specs.AnyHead.{IsWalkAnyOf}
use Rattle.demands.specs.Ends.{EndsWithARead, PriceEndsWithARead, PlanEndsWithARead, PriceAnyEndsWithARead, PlanAnyEndsWithARead, TimesStay}
use Rattle.demands.proofs.Judged.{nothing_judged}
use Rattle.demands.proofs.Conditions.{named, last_with, within_extent}
use Rattle.demands.proofs.Stops.{PlacedIn, joined_placed, wants_placed}
use Rattle.demands.proofs.Planned.{run_accepted}
use Rattle.demands.proofs.Demand2.{formed_list, demand2_price, demand2_walk, price_run_accepted}
use Rattle.demands.proofs.AnyLifted.{ends_down}
use Rattle.demands.proofs.AnyHead.{formed_list_any, good_run, price_any_good, demand2_price_any, demand2_walk_any}

-- A number for each stop, by index; and times that agree one by one have one row and one sum.
pub entry_at : (f : Stop → ℕ) (ss : List Stop) (i : ℕ) → i < length ss → get_or (map f ss) i 0 ≡ f (stop_at ss i)
entry_at f [] i l = absurd (omega arith)
entry_at f (s ∷ ss) zero l = refl
entry_at f (s ∷ ss) (suc i) l = entry_at f ss i (omega arith)

module _ (U : ℕ) (h : Head) (gs gs' : List Leg) where
  same_times : (ss : List Stop) → ((i : ℕ) → i < length ss → time_of U h gs (stop_at ss i) ≡ time_of U h gs' (stop_at ss i)) → times_of U h gs ss ≡ times_of U h gs' ss
  unfolding times_of
  same_times [] e = refl
  same_times (s ∷ ss) e = rw (e 0 (omega arith), same_times ss (λ i l. e (suc i) (omega arith)))

  same_sum : (ss : List Stop) → ((i : ℕ) → i < length ss → time_of U h gs (stop_at ss i) ≡ time_of U h gs' (stop_at ss i)) → sum_of U h gs ss ≡ sum_of U h gs' ss
  unfolding sum_of
  same_sum [] e = refl
  same_sum (s ∷ ss) e = rw (e 0 (omega arith), same_sum ss (λ i l. e (suc i) (omega arith)))

module _ (r : Run) (good : GoodRun r) where
  same : length r.counts ≡ length r.numbers
  same = sym good.wants.equal

  pub size : length (want_stops_of r) ≡ length r.numbers
  size = wants_length r.starts r.lengths r.aggregates r.numbers r.counts same

  pub some_stops : 0 < length r.numbers → 0 < length (stops_of r)
  some_stops some = some_joined (want_stops_of r) (omega (arith, size))

  -- A want's stop lies where a joined one does, and the other way round.
  pub stop_of_want : (i : ℕ) → i < length r.numbers → PlacedIn (stops_of r) (stop_at (want_stops_of r) i)
  stop_of_want i l = wants_placed (want_stops_of r) (wants_agree r.starts r.lengths r.aggregates r.numbers r.counts) i (omega (arith, size))

  want_of_stop : (j : ℕ) → j < length (stops_of r) → PlacedIn (want_stops_of r) (stop_at (stops_of r) j)
  want_of_stop j l = joined_placed (want_stops_of r) j l

pub times_stay_put : TimesStay
times_stay_put r nothing list =
    let ok = nothing_judged r nothing in
    let good = accepted_run r ok in
    let U = r.turn in
    let h = head_at r.head in
    let short = legs_of (stops_of r) list in
    let full = full_legs_of (stops_of r) list in
    let each = times_stay (stops_of r) r.head (accepted_sound r ok) list U h in
    record {
      times =
          same_times U h short full (want_stops_of r)
          (λ i l.
          let p = stop_of_want r good i (omega (arith, size r good)) in
          time_same U short h (stop_at (want_stops_of r) i) (stop_at (stops_of r) p.index) p.places
          ∙ each p.index p.within
          ∙ sym (time_same U full h (stop_at (want_stops_of r) i) (stop_at (stops_of r) p.index) p.places));
      sum = same_sum U h short full (stops_of r) each;
    }

-- An accepted run, and rows that hold the times of some legs from a head at m.
module _ (r : Run) (good : GoodRun r) (m : ℕ) (gs : List Leg) (rows : ReadRows) (times : take (length r.numbers) rows.times ≡ times_of r.turn (head_at m) gs (want_stops_of r)) where
  pub in_row : (i : ℕ) → i < length r.numbers → get_or rows.times i 0 ≡ time_of r.turn (head_at m) gs (stop_at (want_stops_of r) i)
  unfolding times_of
  in_row i l =
      sym (get_or-take (length r.numbers) rows.times i 0 l)
      ∙ ap (λ ts. get_or ts i 0) times
      ∙ entry_at (time_of r.turn (head_at m) gs) (want_stops_of r) i (omega (arith, size r good))

  pub ends_with_a_read : (answer : Answer) → answer.finish ≡ (walked r.turn (head_at m) gs).clock → answer.end ≡ (walked r.turn (head_at m) gs).place
      → LastRead r.turn (head_at m) gs (stops_of r) → EndsWithARead r rows.times answer
  ends_with_a_read answer finishes ends_at last =
      let U = r.turn in
      let h = head_at m in
      let w = want_of_stop r good last.index last.within in
      let l : w.index < length r.numbers = omega (arith, w.within, size r good) in
      let file = named r good.files good.wants w.index l in
      let with_it = last_with r good.files (get_or r.numbers w.index 0) file in
      let ends : answer.end ≡ end_at r.starts r.lengths (last_member r.aggregates (get_or r.numbers w.index 0 - 1))
      = ends_at ∙ last.place ∙ w.places.end ∙ ap (λ s. s.end) (want_at_lem r.starts r.lengths r.aggregates r.numbers r.counts (same r good) w.index l) in
      record {
        want = w.index;
        within = l;
        finish = finishes ∙ last.clock ∙ time_same U gs h (stop_at (stops_of r) last.index) (stop_at (want_stops_of r) w.index) w.places ∙ sym (in_row w.index l);
        latest = λ i b. rw (finishes, in_row i b) (time_by_end U h gs (stop_at (want_stops_of r) i));
        last = with_it.which;
        file = with_it.file;
        together = with_it.together;
        end = ends ∙ sym with_it.ends;
        rightmost = λ f a t. rw ends (within_extent r good.files f (get_or r.numbers w.index 0) a file t);
      }

-- The walk of a list.
walk_ends : (r : Run) (ok : refuses (judge_of r) ≡ false) (list : List Detour) (rows : ReadRows) (answer : Answer) → IsWalkOf r list rows answer → 0 < length r.numbers
    → EndsWithARead r rows.times answer
walk_ends r ok list rows answer walk some =
    let good = accepted_run r ok in
    ends_with_a_read r good r.head (legs_of (stops_of r) list) rows walk.times answer walk.finish walk.end
    (last_read (stops_of r) r.head (accepted_sound r ok) (some_stops r good some) list (formed_list r good list walk.formed) r.turn)

pub price_ends_with_a_read : PriceEndsWithARead
price_ends_with_a_read r froms tos rows answer out says fills accepts some =
    walk_ends r (price_run_accepted r froms tos rows answer says accepts) (list_of froms tos) out answer (demand2_price r froms tos rows answer out says fills accepts).walk some

pub plan_ends_with_a_read : PlanEndsWithARead
plan_ends_with_a_read r before answer after plans accepts some =
    walk_ends r (run_accepted r before answer after plans accepts) (list_in answer after) (reads_in after) answer (demand2_walk r before answer after plans accepts) some

-- For a head anywhere.
walk_any_ends : (r : Run) → GoodAnyRun r → (list : List Detour) (rows : ReadRows) (answer : Answer) → IsWalkAnyOf r list rows answer → 0 < length r.numbers
    → EndsWithARead r rows.times answer
walk_any_ends r good list rows answer walk some =
    ends_down r
    (ends_with_a_read (lifted r) good.run r.head (run_legs r list) rows walk.times answer walk.finish walk.end
    (any_last_read r.head (lifted r).head (stops_of r) (run_sound (lifted r) good.run) (some_stops (lifted r) good.run some) list (formed_list_any r good list walk.formed) r.turn))

pub price_any_ends_with_a_read : PriceAnyEndsWithARead
price_any_ends_with_a_read r froms tos rows answer out says fills accepts some =
    walk_any_ends r (price_any_good r froms tos rows answer says accepts) (list_of froms tos) out answer (demand2_price_any r froms tos rows answer out says fills accepts).1 some

pub plan_any_ends_with_a_read : PlanAnyEndsWithARead
plan_any_ends_with_a_read r before answer after plans accepts some =
    walk_any_ends r (good_run r before answer after plans accepts) (list_in answer after) (reads_in after) answer (demand2_walk_any r before answer after plans accepts) some
