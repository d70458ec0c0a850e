-- A head anywhere, worked: the hypotheses can be met. A day of three runs, each from where the one before ended: 01's sheet with the head at 0, which is
-- read from left to right; a run of 01; and one whose least list begins with a detour from the head, left of the file that it reads.
use Prim.Native.Nat.{ℕ, ◌+◌, ◌≤◌}
use mathlib.Core.Path.{◌≡◌, refl, sym}
use mathlib.Core.Bool.{Bool, true, false, cond}
use mathlib.Core.List.{List, [], ◌∷◌}
use native.Mathlib.Omega.{arith}
use native.Mathlib.Nat.{le_refl}
use lib.Dec.{eqb}
use lib.ListN.{replicate}
use Rattle.refusals.specs.declared.Refusal.TheVariants.{Accepted, HeadPlace}
use Rattle.refusals.specs.Refusals.{first_where}
use Rattle.runs.specs.Run.{Run, run_of, goes_on, first_member, last_within, want_stops, join_to, joined, stops_of}
use Rattle.runs.specs.Judging.{right_end, judge_of}
use Rattle.runs.specs.AnyHead.{pulled, judge_any_of}
use Rattle.walk.specs.declared.Answer.{Answer}
use Rattle.walk.specs.declared.Leg.{Leg}
use Rattle.walk.specs.Walk.{head_at, Moves, walked, served, ServesAll, time_of, sum_of}
use Rattle.walk.specs.Detours.{start_of, end_of, unread_end, sweep_end, last_sweep, legs_of}
use Rattle.walk.specs.AnyHead.{priced_any_answer}
use Rattle.least.specs.Wants.{reads_of}
use Rattle.least.specs.Recurrence.{plan_detours, W, lowest, scan, filledTo, filled, candidate, next, value, choice, built, nextPlan, best, least_list}
use Rattle.planner.specs.Plan.{plan_verdict}
use Rattle.planner.specs.AnyHead.{plan_any_verdict}
use Rattle.planner.specs.Rows.{Rows, rows_of}
use Rattle.demands.specs.Demand2.{list_in}
use Rattle.demands.specs.AnyHead.{NothingAppliesAny, IsLeastAny, AsksNoLessAny, ReadsAtOnce, Chained}
use Rattle.demands.specs.Ends.{EndsWithARead}
use Rattle.demands.proofs.AnyJudged.{judged_nothing_any}
use Rattle.demands.proofs.AnyHead.{demand2_least_any, demand3_any, left_of_all}
use Rattle.demands.proofs.AnyChain.{any_chain}
use Rattle.demands.proofs.Ends.{plan_any_ends_with_a_read}
use Rattle.demands.proofs.Fits.{plan_answer, plan_any_answer, plan_any_rows, plans_any_for_every_input}

-- The sheet's tape.
abbrev asked : List ℕ → List ℕ → ℕ → Run
asked numbers counts head = run_of (0 ∷ 10 ∷ 20 ∷ []) (10 ∷ 4 ∷ 30 ∷ []) (0 ∷ 0 ∷ 0 ∷ []) numbers counts head 1

abbrev pub mounted : Run
mounted = asked (1 ∷ 2 ∷ 3 ∷ []) (1 ∷ 3 ∷ 1 ∷ []) 0

abbrev pub next_run : Run
next_run = asked (1 ∷ 2 ∷ []) (1 ∷ 2 ∷ []) 50

abbrev pub last_run : Run
last_run = asked (1 ∷ 3 ∷ []) (1 ∷ 5 ∷ []) 10

abbrev lent : Rows
lent = rows_of (7 ∷ 7 ∷ []) (7 ∷ 7 ∷ []) (7 ∷ 7 ∷ 7 ∷ []) (7 ∷ 7 ∷ 7 ∷ []) (replicate 54 7)

abbrev pub answer_to : Run → Answer
answer_to r = plan_any_answer r lent

abbrev pub rows_after : Run → Rows
rows_after r = plan_any_rows r lent

accepted : ((answer_to mounted).refusal ≡ Accepted) × ((answer_to next_run).refusal ≡ Accepted) × ((answer_to last_run).refusal ≡ Accepted)
unfolding plan_any_answer plan_any_verdict judge_any_of first_where goes_on first_member last_within want_stops join_to joined right_end priced_any_answer
accepted = (refl, refl, refl)

-- What the planner for any head reports; 01's refuses the first and the last by 7.
pub sums : ((answer_to mounted).sum ≡ 107) × ((answer_to next_run).sum ≡ 161) × ((answer_to last_run).sum ≡ 308)
unfolding plan_any_answer plan_any_verdict judge_any_of first_where goes_on first_member last_within want_stops join_to joined right_end pulled priced_any_answer start_of end_of served unread_end sweep_end last_sweep legs_of time_of sum_of least_list plan_detours W lowest scan filledTo filled candidate next value choice built nextPlan best
sums = (refl, refl, refl)

pub detours : ((answer_to mounted).detours ≡ 0) × ((answer_to last_run).detours ≡ 1)
unfolding plan_any_answer plan_any_verdict judge_any_of first_where goes_on first_member last_within want_stops join_to joined right_end pulled priced_any_answer least_list plan_detours W lowest scan filledTo filled candidate next value choice built nextPlan best
detours = (refl, refl)

pub refused_by_01 : ((plan_answer mounted lent).refusal ≡ HeadPlace) × ((plan_answer last_run lent).refusal ≡ HeadPlace)
unfolding plan_answer plan_verdict judge_of first_where goes_on first_member last_within want_stops join_to joined right_end
refused_by_01 = (refl, refl)

-- The first is read at once; the last ends with a read.
pub mounted_at_once : ReadsAtOnce mounted (answer_to mounted) (rows_after mounted)
mounted_at_once = left_of_all mounted lent (answer_to mounted) (rows_after mounted) (plans_any_for_every_input mounted lent) accepted.0 (λ f n. omega arith)

pub last_least : IsLeastAny last_run (answer_to last_run) (rows_after last_run)
last_least = demand2_least_any last_run lent (answer_to last_run) (rows_after last_run) (plans_any_for_every_input last_run lent) accepted.2

pub last_ends : EndsWithARead last_run (rows_after last_run).times (answer_to last_run)
last_ends = plan_any_ends_with_a_read last_run lent (answer_to last_run) (rows_after last_run) (plans_any_for_every_input last_run lent) accepted.2 (omega arith)

-- Demand 3: one read of file 3 more, from the same place, and legs that turn at no file's start.
abbrev pub more_asked : Run
more_asked = asked (1 ∷ 3 ∷ []) (1 ∷ 6 ∷ []) 10

abbrev wanderings : List Leg
wanderings = record { left = 7; right = 55 } ∷ record { left = 0; right = 33 } ∷ []

more_accepted : NothingAppliesAny more_asked
unfolding judge_any_of first_where goes_on first_member last_within want_stops join_to joined right_end
more_accepted = judged_nothing_any more_asked refl

no_fewer : (a b : Bool) → cond a 1 (cond b 5 0) ≤ cond a 1 (cond b 6 0)
no_fewer true b = omega arith
no_fewer false true = omega arith
no_fewer false false = omega arith

more_asks : AsksNoLessAny more_asked last_run
unfolding reads_of goes_on first_member last_within want_stops join_to joined
more_asks = record { starts = refl; lengths = refl; aggregates = refl; reads = λ f. no_fewer (eqb 1 f) (eqb 3 f); turn = le_refl _; head = refl }

wanderings_serve : ServesAll wanderings (stops_of more_asked)
unfolding ServesAll served goes_on first_member last_within want_stops join_to joined
wanderings_serve = (tt, (tt, tt))

pub unbeaten : 308 ≤ sum_of more_asked.turn (head_at more_asked.head) wanderings (stops_of more_asked)
unbeaten =
    rw sums.2 at
    (demand3_any more_asked last_run lent (answer_to last_run) (rows_after last_run) more_accepted (plans_any_for_every_input last_run lent) accepted.2
    more_asks wanderings (omega arith, omega arith, (omega arith, omega arith, tt)) wanderings_serve)

-- The second run begins where the first ended.
ends_at : (answer_to mounted).end ≡ 50
unfolding plan_any_answer plan_any_verdict judge_any_of first_where goes_on first_member last_within want_stops join_to joined right_end pulled priced_any_answer walked start_of end_of served unread_end sweep_end last_sweep legs_of least_list plan_detours W lowest scan filledTo filled candidate next value choice built nextPlan best
ends_at = refl

pub chained : Chained mounted next_run ((answer_to mounted).finish + 1) (answer_to next_run) (list_in (answer_to mounted) (rows_after mounted)) (list_in (answer_to next_run) (rows_after next_run))
chained =
    (any_chain mounted next_run lent lent (answer_to mounted) (answer_to next_run) (rows_after mounted) (rows_after next_run) (plans_any_for_every_input mounted lent) accepted.0
    (plans_any_for_every_input next_run lent) accepted.1 (sym ends_at) refl).read (omega arith)

-- Behind a run that wants nothing it begins at once.
abbrev pub idle_run : Run
idle_run = asked [] [] 50

idle_ends : ((answer_to idle_run).refusal ≡ Accepted) × ((answer_to idle_run).end ≡ 50)
unfolding plan_any_answer plan_any_verdict judge_any_of first_where goes_on first_member last_within want_stops join_to joined right_end pulled priced_any_answer walked last_sweep legs_of least_list plan_detours
idle_ends = (refl, refl)

pub chained_at_once : Chained idle_run next_run 0 (answer_to next_run) (list_in (answer_to idle_run) (rows_after idle_run)) (list_in (answer_to next_run) (rows_after next_run))
chained_at_once =
    (any_chain idle_run next_run lent lent (answer_to idle_run) (answer_to next_run) (rows_after idle_run) (rows_after next_run) (plans_any_for_every_input idle_run lent) idle_ends.0
    (plans_any_for_every_input next_run lent) accepted.1 (sym idle_ends.1) refl).idle refl
