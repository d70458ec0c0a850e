-- The leg that is told of a want is the one that reads it first.
use Prim.Native.Nat.{ℕ, zero, suc, ◌+◌, ◌-◌, ◌<◌}
use mathlib.Core.Path.{◌≡◌, refl, sym, ap, ◌∙◌}
use mathlib.Core.Bool.{true, false, true≢false}
use mathlib.Core.Logic.{⊎_elim}
use mathlib.Core.List.{List, [], ◌∷◌}
use native.Mathlib.Omega.{arith}
use lib.ListN.{length, get_or, take}
use lib.Seq.{get_or-take}
use Rattle.walk.specs.declared.Answer.{Answer}
use Rattle.walk.specs.declared.Head.{Head}
use Rattle.walk.specs.declared.Leg.{Leg}
use Rattle.runs.specs.Run.{Run, Stop, stops_of, want_stops_of}
use Rattle.runs.specs.Rows.{stop_at}
use Rattle.runs.specs.Judging.{judge_of}
use Rattle.runs.specs.Lists.{Detour, WellFormed, list_of}
use Rattle.runs.specs.AnyHead.{pulled_stop, pulled, WellFormedAny, lifted}
use Rattle.walk.specs.Walk.{head_at, after_leg, walked, reads, served, ServesAll, time_of, leg_from, leg_for, times_of, legs_for}
use Rattle.walk.specs.Detours.{legs_of}
use Rattle.walk.specs.AnyHead.{legs_any_of, run_legs}
use Rattle.walk.specs.Rows.{ReadRows}
use Rattle.refusals.proofs.Verdicts.{refuses}
use Rattle.runs.proofs.Search.{true_or_false}
use Rattle.runs.proofs.Judged.{GoodRun, accepted_run}
use Rattle.runs.proofs.Sound.{Sound}
use Rattle.runs.proofs.Stops.{accepted_sound, run_sound}
use Rattle.runs.proofs.AnyHead.{GoodAnyRun}
use Rattle.walk.proofs.Joins.{served_same, leg_same}
use Rattle.walk.proofs.Pulled.{leg_pulled, legs_left}
use Rattle.least.proofs.Walks.{serves_each}
use Rattle.least.proofs.Sweeps.{leftmost_last, leftmost_last_any, earlier_leg}
use Rattle.least.proofs.LeastAny.{pulled_sound}
use Rattle.planner.specs.Rows.{reads_in}
use Rattle.demands.specs.Demand2.{list_in, IsWalkOf}
use Rattle.demands.specs.AnyHead.{IsWalkAnyOf}
use Rattle.demands.specs.Legs.{leg_numbered, ReadsIn, LegsTold, PriceTellsLegs, PlanTellsLegs, PriceAnyTellsLegs, PlanAnyTellsLegs}
use Rattle.demands.proofs.Planned.{run_accepted}
use Rattle.demands.proofs.Demand2.{formed_list, demand2_price, demand2_walk, price_run_accepted}
use Rattle.demands.proofs.AnyLegs.{holds_true, leftmost_unread, many_legs}
use Rattle.demands.proofs.AnyHead.{formed_list_any, good_run, price_any_good, demand2_price_any, demand2_walk_any}
use Rattle.demands.proofs.Ends.{in_row, size, some_stops, stop_of_want, entry_at}
use Rattle.demands.proofs.Stops.{first_placed}

-- Counted from one more, a leg's number is one more.
leg_shift : (n : ℕ) (gs : List Leg) (s : Stop) → served gs s ≡ true → leg_from (suc n) gs s ≡ suc (leg_from n gs s)
unfolding served leg_from
leg_shift n [] s t = absurd (true≢false (sym t))
leg_shift n (g ∷ gs) s t = ⊎_elim (λ e. rw e) (λ e. rw e (leg_shift (suc n) gs s (rw e at t))) (true_or_false (reads g s))

-- One leg more in front that does not read the file.
one_leg_more : (U : ℕ) (h : Head) (g : Leg) (gs : List Leg) (s : Stop) (t n : ℕ) → reads g s ≡ false → ReadsIn U (after_leg U h g) gs s t n → ReadsIn U h (g ∷ gs) s t (suc n)
unfolding walked
one_leg_more U h g gs s t zero e r = absurd (omega (arith, r.counted.0))
one_leg_more U h g gs s t (suc n) e r =
    let up : suc (suc n) - 1 ≡ suc n = omega arith in
    let down : suc n - 1 ≡ n = omega arith in
    record {
      counted = (omega arith, omega (arith, r.counted.1));
      here = rw up (rw down at r.here);
      first = before;
      clock = rw up (rw down at r.clock);
    }
  where
    before : (m : ℕ) → 0 < m → m < suc (suc n) → reads (leg_numbered (g ∷ gs) m) s ≡ false
    before zero l h = absurd (omega arith)
    before (suc zero) l h = e
    before (suc (suc m)) l h =
        let up : suc (suc m) - 1 ≡ suc m = omega arith in
        let down : suc m - 1 ≡ m = omega arith in
        rw up (rw down at (r.first (suc m) (omega arith) (omega arith)))

reads_in_lem : (U : ℕ) (h : Head) (gs : List Leg) (s : Stop) → served gs s ≡ true → ReadsIn U h gs s (time_of U h gs s) (leg_for gs s)
unfolding served time_of leg_from walked
reads_in_lem U h [] s t = absurd (true≢false (sym t))
reads_in_lem U h (g ∷ gs) s t =
    ⊎_elim
    (λ e. rw e (record { counted = (omega arith, omega arith); here = e; first = λ m a b. absurd (omega arith); clock = refl }))
    (λ e. rw (e, leg_shift 1 gs s (rw e at t)) (one_leg_more U h g gs s _ _ e (reads_in_lem U (after_leg U h g) gs s (rw e at t))))
    (true_or_false (reads g s))

-- Rows that hold the legs of a movement.
pub leg_in_row : (r : Run) → GoodRun r → (gs : List Leg) (rows : ReadRows) → take (length r.numbers) rows.legs ≡ legs_for gs (want_stops_of r)
    → (i : ℕ) → i < length r.numbers → get_or rows.legs i 0 ≡ leg_for gs (stop_at (want_stops_of r) i)
unfolding legs_for
leg_in_row r good gs rows legs i l =
    sym (get_or-take (length r.numbers) rows.legs i 0 l)
    ∙ ap (λ ns. get_or ns i 0) legs
    ∙ entry_at (leg_for gs) (want_stops_of r) i (omega (arith, size r good))

-- The leftmost stop is read in the last leg: of a list of 01, and of one from a head anywhere.
leftmost_leg : (stops : List Stop) (m : ℕ) → Sound stops m → (list : List Detour) → WellFormed stops list → 0 < length stops → leg_for (legs_of stops list) (stop_at stops 0) ≡ length list + 1
leftmost_leg [] m ok list formed some = absurd (omega arith)
leftmost_leg (s ∷ ss) m ok list formed some = leftmost_last s ss m ok list formed

leftmost_leg_any : (m M : ℕ) (stops : List Stop) → Sound stops M → (list : List Detour) → WellFormedAny m stops list → 0 < length stops
    → leg_for (legs_any_of m stops list) (stop_at stops 0) ≡ length list + 1
unfolding pulled
leftmost_leg_any m M [] ok list formed some = absurd (omega arith)
leftmost_leg_any m M (s ∷ ss) ok list formed some =
    sym (leg_pulled m 1 (legs_any_of m (s ∷ ss) list) (legs_left m (s ∷ ss) list) s)
    ∙ leftmost_last_any (pulled_stop m s) (pulled m ss) m (pulled_sound m M (s ∷ ss) ok) list (leftmost_unread m M s ss ok list formed)

-- An accepted run, and rows that hold the times and the legs of a movement from a head at m that reads every stop.
module _ (r : Run) (good : GoodRun r) (m : ℕ) (gs : List Leg) (rows : ReadRows) (serves : ServesAll gs (stops_of r)) (times : take (length r.numbers) rows.times ≡ times_of r.turn (head_at m) gs (want_stops_of r)) (legs : take (length r.numbers) rows.legs ≡ legs_for gs (want_stops_of r)) where
  its_time : (i : ℕ) → i < length r.numbers → get_or rows.times i 0 ≡ time_of r.turn (head_at m) gs (stop_at (want_stops_of r) i)
  its_time = in_row r good m gs rows times

  its_leg : (i : ℕ) → i < length r.numbers → get_or rows.legs i 0 ≡ leg_for gs (stop_at (want_stops_of r) i)
  its_leg = leg_in_row r good gs rows legs

  is_served : (i : ℕ) → i < length r.numbers → served gs (stop_at (want_stops_of r) i) ≡ true
  is_served i l =
      let p = stop_of_want r good i l in
      served_same gs (stop_at (want_stops_of r) i) (stop_at (stops_of r) p.index) p.places
      ∙ holds_true (served gs (stop_at (stops_of r) p.index)) (serves_each gs (stops_of r) serves p.index p.within)

  -- A want's stop has a length, as the joined one has.
  long_enough_here : (i : ℕ) → i < length r.numbers → (stop_at (want_stops_of r) i).start < (stop_at (want_stops_of r) i).end
  long_enough_here i l = let p = stop_of_want r good i l in omega (arith, p.places.start, p.places.end, (run_sound r good).extends p.index p.within)

  told_each : (i : ℕ) → i < length r.numbers → ReadsIn r.turn (head_at m) gs (stop_at (want_stops_of r) i) (get_or rows.times i 0) (get_or rows.legs i 0)
  told_each i l = rw (its_time i l, its_leg i l) (reads_in_lem r.turn (head_at m) gs (stop_at (want_stops_of r) i) (is_served i l))

  told_apart : (i j : ℕ) → i < length r.numbers → j < length r.numbers → get_or rows.legs i 0 < get_or rows.legs j 0 → get_or rows.times i 0 < get_or rows.times j 0
  told_apart i j a b l =
      rw (its_time i a, its_time j b)
      (earlier_leg r.turn (stop_at (want_stops_of r) i) (stop_at (want_stops_of r) j) (long_enough_here j b) (head_at m) 1 gs
      (is_served i a) (is_served j b) (rw (its_leg i a, its_leg j b) at l))

  -- The legs of a list, one more than it has detours, of which the last reads the leftmost stop.
  module _ (list : List Detour) (many : 0 < length (stops_of r) → length gs ≡ length list + 1) (last : 0 < length (stops_of r) → leg_for gs (stop_at (stops_of r) 0) ≡ length list + 1) where
    told_one_here : list ≡ [] → (i : ℕ) → i < length r.numbers → get_or rows.legs i 0 ≡ 1
    told_one_here e i l =
        let n = many (some_stops r good (omega arith)) in
        omega (arith, ap length e, n, (told_each i l).counted.0, (told_each i l).counted.1)

    told_leftmost : 0 < length r.numbers → get_or rows.legs 0 0 ≡ length list + 1
    told_leftmost some =
        its_leg 0 some
        ∙ leg_same 1 gs (stop_at (want_stops_of r) 0) (stop_at (stops_of r) 0) (first_placed (want_stops_of r) (omega (arith, size r good)))
        ∙ last (some_stops r good some)

-- Of a list of 01.
module _ (r : Run) (ok : refuses (judge_of r) ≡ false) (list : List Detour) (rows : ReadRows) (answer : Answer) (walk : IsWalkOf r list rows answer) where
  told : LegsTold r list (legs_of (stops_of r) list) rows
  told =
      let good = accepted_run r ok in
      let gs = legs_of (stops_of r) list in
      let many = many_legs (stops_of r) list in
      let last = leftmost_leg (stops_of r) r.head (accepted_sound r ok) list (formed_list r good list walk.formed) in
      record {
        many = λ some. many (some_stops r good some);
        each = told_each r good r.head gs rows walk.serves walk.times walk.legs;
        leftmost = told_leftmost r good r.head gs rows walk.serves walk.times walk.legs list many last;
        one = told_one_here r good r.head gs rows walk.serves walk.times walk.legs list many last;
        apart = told_apart r good r.head gs rows walk.serves walk.times walk.legs;
      }

pub price_tells_legs : PriceTellsLegs
price_tells_legs r froms tos rows answer out says fills accepts =
    told r (price_run_accepted r froms tos rows answer says accepts) (list_of froms tos) out answer (demand2_price r froms tos rows answer out says fills accepts).walk

pub plan_tells_legs : PlanTellsLegs
plan_tells_legs r before answer after plans accepts =
    told r (run_accepted r before answer after plans accepts) (list_in answer after) (reads_in after) answer (demand2_walk r before answer after plans accepts)

-- From a head anywhere: the run with its head at the end of the tape has the same rows and stops.
module _ (r : Run) (good : GoodAnyRun r) (list : List Detour) (rows : ReadRows) (answer : Answer) (walk : IsWalkAnyOf r list rows answer) (formed : WellFormedAny r.head (stops_of r) list) where
  told_any : LegsTold r list (run_legs r list) rows
  told_any =
      let gs = run_legs r list in
      let many = walk.made.many in
      let last = leftmost_leg_any r.head (lifted r).head (stops_of r) (run_sound (lifted r) good.run) list formed in
      record {
        many = λ some. many (some_stops (lifted r) good.run some);
        each = told_each (lifted r) good.run r.head gs rows walk.serves walk.times walk.legs;
        leftmost = told_leftmost (lifted r) good.run r.head gs rows walk.serves walk.times walk.legs list many last;
        one = told_one_here (lifted r) good.run r.head gs rows walk.serves walk.times walk.legs list many last;
        apart = told_apart (lifted r) good.run r.head gs rows walk.serves walk.times walk.legs;
      }

pub price_any_tells_legs : PriceAnyTellsLegs
price_any_tells_legs r froms tos rows answer out says fills accepts =
    let good = price_any_good r froms tos rows answer says accepts in
    let walk = (demand2_price_any r froms tos rows answer out says fills accepts).1 in
    told_any r good (list_of froms tos) out answer walk (formed_list_any r good (list_of froms tos) walk.formed)

pub plan_any_tells_legs : PlanAnyTellsLegs
plan_any_tells_legs r before answer after plans accepts =
    let good = good_run r before answer after plans accepts in
    let walk = demand2_walk_any r before answer after plans accepts in
    told_any r good (list_in answer after) (reads_in after) answer walk (formed_list_any r good (list_in answer after) walk.formed)
