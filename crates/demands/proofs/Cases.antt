-- The table of worked cases holds: a test over the whole table is true by evaluation, and what passes the test holds.
use Prim.Native.Nat.{ℕ}
use mathlib.Core.Path.{◌≡◌, refl, sym, ap₂, ◌∙◌}
use mathlib.Core.Bool.{Bool, true, false, not, ◌&&◌, true≢false}
use mathlib.Core.Logic.{◌↔◌}
use mathlib.Core.List.{List, [], ◌∷◌}
use lib.Dec.{eqb}
use borrow.Author.Tests.{eqb-true, eq-eqb, not-true}
use Rattle.refusals.specs.Refusals.{is_refusal, first_where}
use Rattle.runs.specs.Run.{Run, goes_on, first_member, last_within, want_stops, want_stops_of, join_to, joined, stops_of}
use Rattle.runs.specs.Judging.{right_end}
use Rattle.runs.specs.Judging.{judge_of}
use Rattle.walk.specs.Walk.{head_at, walked, served, time_of, times_of, leg_from, legs_for, sum_of}
use Rattle.runs.specs.Lists.{Detour, first_bad_entry, wanted, any_below}
use Rattle.walk.specs.Detours.{start_of, end_of, unread_end, sweep_end, last_sweep, legs_of}
use Rattle.runs.proofs.Stops.{accepted_sound}
use Rattle.text_bytes.proofs.Bytes.{and_true_both}
use Rattle.least.specs.Least.{LeastForRun}
use Rattle.least.specs.Recurrence.{plan_detours, W, lowest, scan, filledTo, filled, candidate, next, value, choice, built, nextPlan, best, least_list}
use Rattle.least.proofs.LeastList.{least_list_lem, least_unique}
use Rattle.demands.specs.Cases.{Case, CaseHolds, AllHold, cases, CasesHold}
use Rattle.demands.proofs.Judged.{judged_nothing}

-- Whether two rows, and whether two lists, are equal.
same_row : List ℕ → List ℕ → Bool
same_row [] [] = true
same_row [] (y ∷ ys) = false
same_row (x ∷ xs) [] = false
same_row (x ∷ xs) (y ∷ ys) = eqb x y && same_row xs ys

same_list : List Detour → List Detour → Bool
same_list [] [] = true
same_list [] (y ∷ ys) = false
same_list (x ∷ xs) [] = false
same_list (x ∷ xs) (y ∷ ys) = eqb x.from y.from && eqb x.to y.to && same_list xs ys

same_row_lem : (xs ys : List ℕ) → same_row xs ys ≡ true → xs ≡ ys
unfolding same_row
same_row_lem [] [] e = refl
same_row_lem [] (y ∷ ys) e = absurd (true≢false (sym e))
same_row_lem (x ∷ xs) [] e = absurd (true≢false (sym e))
same_row_lem (x ∷ xs) (y ∷ ys) e = let both = and_true_both _ _ e in ap₂ (λ a l. a ∷ l) (eqb-true x y both.0) (same_row_lem xs ys both.1)

same_list_lem : (xs ys : List Detour) → same_list xs ys ≡ true → xs ≡ ys
unfolding same_list
same_list_lem [] [] e = refl
same_list_lem [] (y ∷ ys) e = absurd (true≢false (sym e))
same_list_lem (x ∷ xs) [] e = absurd (true≢false (sym e))
same_list_lem (x ∷ xs) (y ∷ ys) e =
    let both = and_true_both _ _ e in
    let ends = and_true_both _ _ both.0 in
    ap₂ (λ d l. d ∷ l) (ap₂ (λ a b. record { from = a; to = b }) (eqb-true _ _ ends.0) (eqb-true _ _ ends.1)) (same_list_lem xs ys both.1)

same_list_itself : (xs : List Detour) → same_list xs xs ≡ true
unfolding same_list
same_list_itself [] = refl
same_list_itself (x ∷ xs) = rw (eq-eqb x.from x.from refl, eq-eqb x.to x.to refl) (same_list_itself xs)

alike : Bool → Bool → Bool
alike true b = b
alike false b = not b

alike_equal : (a b : Bool) → alike a b ≡ true → a ≡ b
unfolding alike
alike_equal true b e = sym e
alike_equal false b e = sym (not-true b e)

-- The test of an entry, and of a table.
passes : Case → Bool
passes c =
    not (is_refusal (judge_of c.run).refusal)
    && eqb (first_bad_entry (stops_of c.run) c.list) 0
    && eqb (sum_of c.run.turn (head_at c.run.head) (legs_of (stops_of c.run) c.list) (stops_of c.run)) c.sum
    && same_row (times_of c.run.turn (head_at c.run.head) (legs_of (stops_of c.run) c.list) (want_stops_of c.run)) c.times
    && same_row (legs_for (legs_of (stops_of c.run) c.list) (want_stops_of c.run)) c.legs
    && eqb (walked c.run.turn (head_at c.run.head) (legs_of (stops_of c.run) c.list)).clock c.finish
    && eqb (walked c.run.turn (head_at c.run.head) (legs_of (stops_of c.run) c.list)).place c.end
    && alike c.least (same_list c.list (least_list c.run.turn (stops_of c.run)))

all_pass : List Case → Bool
all_pass [] = true
all_pass (c ∷ cs) = passes c && all_pass cs

-- An accepted run's least list is the one that the table of plans gives, and no other.
least_if_same : (r : Run) (list : List Detour) (b : Bool) → is_refusal (judge_of r).refusal ≡ false → b ≡ same_list list (least_list r.turn (stops_of r)) → (b ≡ true) ↔ LeastForRun r list
least_if_same r list b accepted same =
    let least = least_list_lem r.turn r.head (stops_of r) (accepted_sound r accepted) in (
      λ e. rw (same_list_lem list (least_list r.turn (stops_of r)) (sym same ∙ e)) least,
      λ h. let unique = least_unique r.turn r.head (stops_of r) list (least_list r.turn (stops_of r)) h least in same ∙ rw (← unique) (same_list_itself list),
    )

holds_if_passes : (c : Case) → passes c ≡ true → CaseHolds c
unfolding passes
holds_if_passes c e =
    let seven = and_true_both _ _ e in
    let six = and_true_both _ _ seven.0 in
    let five = and_true_both _ _ six.0 in
    let four = and_true_both _ _ five.0 in
    let three = and_true_both _ _ four.0 in
    let two = and_true_both _ _ three.0 in
    let one = and_true_both _ _ two.0 in
    let accepted = not-true _ one.0 in
    record {
      accepted = judged_nothing c.run accepted;
      formed = eqb-true _ _ one.1;
      sum = eqb-true _ _ two.1;
      times = same_row_lem _ _ three.1;
      legs = same_row_lem _ _ four.1;
      finish = eqb-true _ _ five.1;
      end = eqb-true _ _ six.1;
      least = least_if_same c.run c.list c.least accepted (alike_equal _ _ seven.1);
    }

all_hold : (cs : List Case) → all_pass cs ≡ true → AllHold cs
unfolding all_pass
all_hold [] e = tt
all_hold (c ∷ cs) e = let both = and_true_both _ _ e in (holds_if_passes c both.0, all_hold cs both.1)

cases_pass : all_pass cases ≡ true
unfolding all_pass passes alike same_row same_list judge_of first_where goes_on first_member last_within want_stops join_to joined right_end first_bad_entry wanted any_below start_of end_of served unread_end sweep_end last_sweep legs_of walked time_of times_of leg_from legs_for sum_of least_list plan_detours W lowest scan filledTo filled candidate next value choice built nextPlan best
cases_pass = refl

pub cases_hold : CasesHold
cases_hold = all_hold cases cases_pass
