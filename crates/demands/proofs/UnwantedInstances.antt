-- Unwanted files, worked: the hypotheses can be met. A tape of six files: 2, 4 and 6 are wanted, 3 lies in one aggregate with 4, and 1 and 5 are left out.
use Prim.Native.Nat.{ℕ, zero, suc, ◌+◌, ◌<◌}
use mathlib.Core.Path.{◌≡◌, refl}
use mathlib.Core.Logic.{⊎_elim}
use mathlib.Core.List.{[], ◌∷◌}
use native.Mathlib.Omega.{arith}
use native.Mathlib.Nat.{le_refl}
use lib.ListN.{get_or, replicate}
use Rattle.refusals.specs.declared.Refusal.TheVariants.{Accepted}
use Rattle.refusals.specs.Refusals.{first_where}
use Rattle.runs.specs.Run.{Run, run_of, goes_on, first_member, last_within, want_stops, join_to, joined, stops_of}
use Rattle.runs.specs.Judging.{right_end, judge_of}
use Rattle.runs.specs.Lists.{any_below}
use Rattle.runs.specs.AnyHead.{pulled, judge_any_of}
use Rattle.walk.specs.Walk.{served, time_of, sum_of}
use Rattle.walk.specs.Detours.{start_of, end_of, unread_end, sweep_end, last_sweep, legs_of}
use Rattle.walk.specs.AnyHead.{run_legs, priced_any_answer}
use Rattle.least.specs.Recurrence.{plan_detours, W, lowest, scan, filledTo, filled, candidate, next, value, choice, built, nextPlan, best, least_list}
use Rattle.least.proofs.Rising.{rises_by_steps}
use Rattle.planner.specs.AnyHead.{plan_any_verdict}
use Rattle.planner.specs.Rows.{Rows, rows_of}
use Rattle.demands.specs.RefusalTable.{IsFile, Together, WantedWith, NothingApplies}
use Rattle.demands.specs.Demand2.{IsFormed}
use Rattle.demands.specs.AnyHead.{NothingAppliesAny, IsFormedAny}
use Rattle.demands.specs.Unwanted.{FileKept, LeavesOut, TableInOrder, SameLists, SamePlans}
use Rattle.demands.proofs.Judged.{judged_table, judged_nothing}
use Rattle.demands.proofs.AnyJudged.{takes_what_01_takes}
use Rattle.demands.proofs.Unwanted.{unwanted_judged, unwanted_judged_any, unwanted_lists, unwanted_lists_any, unwanted_plans, unwanted_plans_any}
use Rattle.demands.proofs.Fits.{plan_answer, plan_rows, plans_for_every_input, plan_any_answer, plan_any_rows, plans_any_for_every_input}

abbrev pub whole : Run
whole = run_of (0 ∷ 3 ∷ 13 ∷ 19 ∷ 23 ∷ 24 ∷ []) (3 ∷ 10 ∷ 4 ∷ 4 ∷ 1 ∷ 30 ∷ []) (0 ∷ 0 ∷ 7 ∷ 7 ∷ 9 ∷ 0 ∷ []) (2 ∷ 4 ∷ 6 ∷ []) (1 ∷ 3 ∷ 1 ∷ []) 63 1

abbrev pub picked : Run
picked = run_of (3 ∷ 13 ∷ 19 ∷ 24 ∷ []) (10 ∷ 4 ∷ 4 ∷ 30 ∷ []) (0 ∷ 7 ∷ 7 ∷ 0 ∷ []) (1 ∷ 3 ∷ 4 ∷ []) (1 ∷ 3 ∷ 1 ∷ []) 63 1

-- The number that each file had.
abbrev pub had : ℕ → ℕ
had zero = 0
had (suc zero) = 2
had (suc (suc zero)) = 3
had (suc (suc (suc zero))) = 4
had (suc (suc (suc (suc n)))) = n + 6

one_step : (f : ℕ) → had f < had (suc f)
one_step zero = omega arith
one_step (suc zero) = omega arith
one_step (suc (suc zero)) = omega arith
one_step (suc (suc (suc zero))) = omega arith
one_step (suc (suc (suc (suc n)))) = omega arith

same_files : (f : ℕ) → IsFile picked f → FileKept whole picked (had f) f
same_files zero a = absurd (omega (arith, a.least))
same_files (suc zero) a = record { file = record { least = omega arith; most = omega arith }; start = refl; span = refl; aggregate = refl }
same_files (suc (suc zero)) a = record { file = record { least = omega arith; most = omega arith }; start = refl; span = refl; aggregate = refl }
same_files (suc (suc (suc zero))) a = record { file = record { least = omega arith; most = omega arith }; start = refl; span = refl; aggregate = refl }
same_files (suc (suc (suc (suc zero)))) a = record { file = record { least = omega arith; most = omega arith }; start = refl; span = refl; aggregate = refl }
same_files (suc (suc (suc (suc (suc n))))) a = absurd (omega (arith, a.most))

-- Files 1 and 5 lie together with nothing wanted.
first_alone : (k : ℕ) → k < 3 → Together whole 1 (get_or whole.numbers k 0) → ⊥
first_alone zero l t = ⊎_elim (λ e. omega arith) (λ h. omega (arith, h.0, h.1)) t
first_alone (suc zero) l t = ⊎_elim (λ e. omega arith) (λ h. omega (arith, h.0, h.1)) t
first_alone (suc (suc zero)) l t = ⊎_elim (λ e. omega arith) (λ h. omega (arith, h.0, h.1)) t
first_alone (suc (suc (suc k))) l t = omega arith

fifth_alone : (k : ℕ) → k < 3 → Together whole 5 (get_or whole.numbers k 0) → ⊥
fifth_alone zero l t = ⊎_elim (λ e. omega arith) (λ h. omega (arith, h.0, h.1)) t
fifth_alone (suc zero) l t = ⊎_elim (λ e. omega arith) (λ h. omega (arith, h.0, h.1)) t
fifth_alone (suc (suc zero)) l t = ⊎_elim (λ e. omega arith) (λ h. omega (arith, h.0, h.1)) t
fifth_alone (suc (suc (suc k))) l t = omega arith

kept_files : (g : ℕ) → IsFile whole g → WantedWith whole g → (f : ℕ) × IsFile picked f × (had f ≡ g)
kept_files zero a w = absurd (omega (arith, a.least))
kept_files (suc zero) a w = absurd (first_alone w.want w.within w.together)
kept_files (suc (suc zero)) a w = (1, record { least = omega arith; most = omega arith }, refl)
kept_files (suc (suc (suc zero))) a w = (2, record { least = omega arith; most = omega arith }, refl)
kept_files (suc (suc (suc (suc zero)))) a w = (3, record { least = omega arith; most = omega arith }, refl)
kept_files (suc (suc (suc (suc (suc zero))))) a w = absurd (fifth_alone w.want w.within w.together)
kept_files (suc (suc (suc (suc (suc (suc zero)))))) a w = (4, record { least = omega arith; most = omega arith }, refl)
kept_files (suc (suc (suc (suc (suc (suc (suc n))))))) a w = absurd (omega (arith, a.most))

pub leaves_out : LeavesOut had whole picked
leaves_out =
    record {
      names = record { none = refl; rises = λ f g l. rises_by_steps had g (λ n a. one_step n) f g l (le_refl g) };
      rows = refl;
      numbered = refl;
      same = same_files;
      kept = kept_files;
      numbers = refl;
      counts = refl;
      head = refl;
      turn = refl;
    }

pub in_order : TableInOrder whole
unfolding first_where goes_on any_below
in_order = let t = judged_table whole refl in record { rows = t.0; files = t.1 }

abbrev lent : Rows
lent = rows_of (7 ∷ 7 ∷ []) (7 ∷ 7 ∷ []) (7 ∷ 7 ∷ 7 ∷ []) (7 ∷ 7 ∷ 7 ∷ []) (replicate 54 7)

pub one_answer : SamePlans had (plan_any_answer whole lent) (plan_any_answer picked lent) (plan_any_rows whole lent) (plan_any_rows picked lent)
one_answer =
    unwanted_plans_any had whole picked lent (plan_any_answer whole lent) (plan_any_answer picked lent) (plan_any_rows whole lent) (plan_any_rows picked lent)
    leaves_out in_order (plans_any_for_every_input whole lent) (plans_any_for_every_input picked lent)

pub one_answer_of_01 : SamePlans had (plan_answer whole lent) (plan_answer picked lent) (plan_rows whole lent) (plan_rows picked lent)
one_answer_of_01 =
    unwanted_plans had whole picked lent (plan_answer whole lent) (plan_answer picked lent) (plan_rows whole lent) (plan_rows picked lent)
    leaves_out in_order (plans_for_every_input whole lent) (plans_for_every_input picked lent)

-- Nothing applies to the smaller run, and so to neither; their lists are the same but for the numbers.
pub picked_accepted : NothingApplies picked
unfolding judge_of first_where any_below goes_on first_member last_within want_stops join_to joined right_end
picked_accepted = judged_nothing picked refl

pub whole_accepted : NothingApplies whole
whole_accepted = (unwanted_judged had whole picked leaves_out in_order).1 picked_accepted

pub whole_accepted_any : NothingAppliesAny whole
whole_accepted_any = (unwanted_judged_any had whole picked leaves_out in_order).1 (takes_what_01_takes picked picked_accepted)

pub same_lists : SameLists had whole picked IsFormed (λ r list. legs_of (stops_of r) list)
same_lists = unwanted_lists had whole picked leaves_out in_order picked_accepted

pub same_lists_any : SameLists had whole picked IsFormedAny run_legs
same_lists_any = unwanted_lists_any had whole picked leaves_out in_order (takes_what_01_takes picked picked_accepted)

-- Both are accepted, with one detour over the aggregate.
pub sums : ((plan_any_answer whole lent).sum ≡ 410) × ((plan_any_answer picked lent).sum ≡ 410)
unfolding plan_any_answer plan_any_verdict judge_any_of first_where any_below goes_on first_member last_within want_stops join_to joined right_end pulled priced_any_answer start_of end_of served unread_end sweep_end last_sweep legs_of time_of sum_of least_list plan_detours W lowest scan filledTo filled candidate next value choice built nextPlan best
sums = (refl, refl)

pub detours : ((plan_any_answer whole lent).detours ≡ 1) × ((plan_any_answer whole lent).refusal ≡ Accepted)
unfolding plan_any_answer plan_any_verdict judge_any_of first_where any_below goes_on first_member last_within want_stops join_to joined right_end pulled priced_any_answer least_list plan_detours W lowest scan filledTo filled candidate next value choice built nextPlan best
detours = (refl, refl)
