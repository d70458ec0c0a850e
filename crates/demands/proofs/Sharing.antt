-- Runs that offices share, worked: the hypotheses of L14 can be met, with aggregates. Sharing costs something in one pair and nothing in another. Also what
-- members of an aggregate share, and a run that wants nothing.
use Prim.Native.Nat.{ℕ, ◌+◌, ◌*◌, ◌≤◌}
use mathlib.Core.Path.{◌≡◌, refl}
use mathlib.Core.Bool.{Bool, true, false, cond}
use mathlib.Core.List.{List, [], ◌∷◌}
use mathlib.Core.Logic.{inr}
use native.Mathlib.Omega.{arith}
use native.Mathlib.Nat.{le_refl}
use lib.Dec.{eqb}
use lib.ListN.{get_or, replicate}
use Rattle.walk.specs.declared.Answer.{Answer}
use Rattle.refusals.specs.declared.Refusal.TheVariants.{Accepted}
use Rattle.refusals.specs.Refusals.{first_where}
use Rattle.runs.specs.Run.{Run, run_of, goes_on, first_member, last_within, want_stops, join_to, joined, want_stops_of, stops_of}
use Rattle.runs.specs.Judging.{right_end}
use Rattle.runs.specs.Rows.{stop_at}
use Rattle.runs.specs.Lists.{any_below, first_bad_entry, list_verdict, list_of}
use Rattle.runs.specs.Judging.{judge_of}
use Rattle.walk.specs.declared.Leg.{Leg}
use Rattle.walk.specs.Walk.{head_at, served, ServesAll, time_of, sum_of}
use Rattle.walk.specs.Detours.{start_of, end_of, unread_end, sweep_end, last_sweep, legs_of}
use Rattle.walk.specs.Price.{priced_answer, price_verdict, price_answer, price_rows}
use Rattle.refusals.proofs.Verdicts.{refuses}
use Rattle.least.specs.Wants.{reads_of, reads_of_file}
use Rattle.least.specs.Recurrence.{plan_detours, W, lowest, scan, filledTo, filled, candidate, next, value, choice, built, nextPlan, best, least_list}
use Rattle.planner.specs.Plan.{plan_verdict}
use Rattle.planner.specs.Rows.{Rows, rows_of, reads_in}
use Rattle.demands.specs.RefusalTable.{NothingApplies}
use Rattle.demands.specs.Demand3.{AsksNoLess}
use Rattle.demands.specs.Movements.{AsksNoLessByFile}
use Rattle.demands.specs.Demand2.{IsFormed}
use Rattle.demands.specs.Ends.{NothingWanted}
use Rattle.demands.specs.Aggregates.{StopsByMembers, MembersShare}
use Rattle.demands.specs.Offices.{Reports, OneTape, Shares, Multiplies, SamePlan}
use Rattle.demands.proofs.Judged.{judged_nothing}
use Rattle.demands.proofs.AnyJudged.{takes_what_01_takes}
use Rattle.demands.proofs.Demand3.{demand3}
use Rattle.demands.proofs.Nothing.{price_of_nothing, plan_of_nothing}
use Rattle.demands.proofs.Aggregates.{aggregates_reach, plan_members_share}
use Rattle.demands.proofs.Offices.{sharing_never_pays, multiplied_the_same}
use Rattle.demands.proofs.Fits.{plan_answer, plan_rows, plans_for_every_input}

-- The tape of Cases with a gap between its two files in the middle, which lie in one aggregate; and rows that suffice for all that follows.
abbrev pub wanting : List ℕ → List ℕ → Run
wanting numbers counts = run_of (0 ∷ 10 ∷ 16 ∷ 20 ∷ []) (10 ∷ 4 ∷ 4 ∷ 30 ∷ []) (0 ∷ 7 ∷ 7 ∷ 0 ∷ []) numbers counts 60 1

abbrev lent : Rows
lent = rows_of (7 ∷ 7 ∷ []) (7 ∷ 7 ∷ []) (7 ∷ 7 ∷ 7 ∷ []) (7 ∷ 7 ∷ 7 ∷ []) (replicate 99 7)

abbrev pub answer_to : Run → Answer
answer_to r = plan_answer r lent

abbrev pub rows_after : Run → Rows
rows_after r = plan_rows r lent

reported : (r : Run) → refuses (plan_verdict r lent) ≡ false → Reports r lent (answer_to r) (rows_after r)
unfolding plan_answer priced_answer
reported r e = record { plans = plans_for_every_input r lent; accepts = rw e }

one_tape : (ns cs ns' cs' : List ℕ) → OneTape (wanting ns cs) (wanting ns' cs')
one_tape ns cs ns' cs' = record { starts = refl; lengths = refl; aggregates = refl; head = refl; turn = refl }

-- One office waits for the files at the two ends, another for a file of the aggregate; an office for each file of the aggregate; and one for nothing.
abbrev pub ends : Run
ends = wanting (1 ∷ 4 ∷ []) (1 ∷ 1 ∷ [])

abbrev pub middle : Run
middle = wanting (3 ∷ []) (3 ∷ [])

abbrev pub ends_and_middle : Run
ends_and_middle = wanting (1 ∷ 3 ∷ 4 ∷ []) (1 ∷ 3 ∷ 1 ∷ [])

abbrev pub member : Run
member = wanting (2 ∷ []) (1 ∷ [])

abbrev pub both_members : Run
both_members = wanting (2 ∷ 3 ∷ []) (1 ∷ 3 ∷ [])

abbrev pub nothing : Run
nothing = wanting [] []

-- The first run with twice as many reads.
abbrev pub twice : Run
twice = wanting (1 ∷ 3 ∷ 4 ∷ []) (2 ∷ 6 ∷ 2 ∷ [])

accepted : (refuses (plan_verdict ends lent) ≡ false) × (refuses (plan_verdict middle lent) ≡ false) × (refuses (plan_verdict ends_and_middle lent) ≡ false)
    × (refuses (plan_verdict member lent) ≡ false) × (refuses (plan_verdict both_members lent) ≡ false) × (refuses (plan_verdict nothing lent) ≡ false)
    × (refuses (plan_verdict twice lent) ≡ false)
unfolding plan_verdict judge_of any_below first_where goes_on first_member last_within want_stops join_to joined right_end
accepted = (refl, refl, refl, refl, refl, refl, refl)

-- What the planner reports of each.
pub sums : ((answer_to ends).sum ≡ 182) × ((answer_to middle).sum ≡ 183) × ((answer_to ends_and_middle).sum ≡ 409)
    × ((answer_to member).sum ≡ 61) × ((answer_to both_members).sum ≡ 244) × ((answer_to nothing).sum ≡ 0)
    × ((answer_to twice).sum ≡ 818)
unfolding plan_answer plan_verdict judge_of any_below first_where goes_on first_member last_within want_stops join_to joined right_end priced_answer start_of end_of served unread_end sweep_end last_sweep legs_of time_of sum_of least_list plan_detours W lowest scan filledTo filled candidate next value choice built nextPlan best
sums = (refl, refl, refl, refl, refl, refl, refl)

-- Reads add up file by file.
ends_and_middle_lem : Shares ends_and_middle ends middle
unfolding reads_of_file
ends_and_middle_lem = record { tape = one_tape _ _ _ _; tape' = one_tape _ _ _ _; reads = λ f. omega arith }

both_members_lem : Shares both_members member middle
unfolding reads_of_file
both_members_lem = record { tape = one_tape _ _ _ _; tape' = one_tape _ _ _ _; reads = λ f. omega arith }

with_nothing : Shares middle middle nothing
unfolding reads_of_file
with_nothing = record { tape = one_tape _ _ _ _; tape' = one_tape _ _ _ _; reads = λ f. omega arith }

-- The two together cost 44 more than each by itself.
pub sharing_costs : ((answer_to ends).sum + (answer_to middle).sum ≤ (answer_to ends_and_middle).sum) × ((answer_to ends).sum + (answer_to middle).sum + 44 ≡ (answer_to ends_and_middle).sum)
sharing_costs = (
  sharing_never_pays ends_and_middle ends middle lent lent lent (answer_to ends_and_middle) (answer_to ends) (answer_to middle) (rows_after ends_and_middle) (rows_after ends) (rows_after middle)
      (reported ends_and_middle accepted.2) (reported ends accepted.0) (reported middle accepted.1) ends_and_middle_lem,
  omega (arith, sums.0, sums.1, sums.2),
)

-- Two members of one aggregate, by two offices: one stop, and sharing costs nothing. Nor does it with an office that wants nothing.
pub sharing_costs_nothing : ((answer_to member).sum + (answer_to middle).sum ≤ (answer_to both_members).sum) × ((answer_to member).sum + (answer_to middle).sum ≡ (answer_to both_members).sum)
sharing_costs_nothing = (
  sharing_never_pays both_members member middle lent lent lent (answer_to both_members) (answer_to member) (answer_to middle) (rows_after both_members) (rows_after member) (rows_after middle)
      (reported both_members accepted.4) (reported member accepted.3) (reported middle accepted.1) both_members_lem,
  omega (arith, sums.3, sums.1, sums.4),
)

pub nothing_shared : (answer_to middle).sum + (answer_to nothing).sum ≤ (answer_to middle).sum
nothing_shared =
    sharing_never_pays middle middle nothing lent lent lent (answer_to middle) (answer_to middle) (answer_to nothing) (rows_after middle) (rows_after middle) (rows_after nothing)
    (reported middle accepted.1) (reported middle accepted.1) (reported nothing accepted.5) with_nothing

-- By its stops the office of file 3 asks for no less than that of file 2, which lies in the same aggregate; by its files it does not. So demand 3 says
-- more over the table as joined.
no_fewer : (b : Bool) → cond b 1 0 ≤ cond b 3 0
no_fewer true = omega arith
no_fewer false = omega arith

no_less_by_stop : AsksNoLess middle member
unfolding reads_of goes_on first_member last_within want_stops join_to joined
no_less_by_stop =
    record { starts = refl; lengths = refl; aggregates = refl; reads = λ f. no_fewer (eqb 2 f); turn = le_refl _; head = le_refl _ }

pub less_by_file : AsksNoLessByFile middle member → ⊥
unfolding reads_of_file
less_by_file asks = omega (arith, asks.reads 2)

abbrev one_leg : List Leg
one_leg = record { left = 10; right = 20 } ∷ []

one_leg_serves : ServesAll one_leg (stops_of middle)
unfolding ServesAll served goes_on first_member last_within want_stops join_to joined
one_leg_serves = (tt, tt)

judged : (NothingApplies middle) × (NothingApplies both_members)
unfolding judge_of any_below first_where goes_on first_member last_within want_stops join_to joined right_end
judged = (judged_nothing middle refl, judged_nothing both_members refl)

pub unbeaten_by_stop : 61 ≤ sum_of middle.turn (head_at middle.head) one_leg (stops_of middle)
unbeaten_by_stop =
    rw sums.3 at
    (demand3 middle member lent (answer_to member) (rows_after member) judged.0 (reported member accepted.3).plans (reported member accepted.3).accepts
    no_less_by_stop one_leg (omega arith, omega arith, tt) one_leg_serves)

-- The aggregate of two wanted files, and of one: it reaches from file 2 to file 3 in both. The two wants have one time and one leg.
pub both_by_members : StopsByMembers both_members
both_by_members = aggregates_reach both_members (takes_what_01_takes both_members judged.1)

pub one_by_members : StopsByMembers middle
one_by_members = aggregates_reach middle (takes_what_01_takes middle judged.0)

pub one_reaches : ((stop_at (want_stops_of middle) 0).start ≡ 10) × ((stop_at (want_stops_of middle) 0).end ≡ 20)
unfolding goes_on first_member last_within want_stops
one_reaches = (refl, refl)

pub both_share : MembersShare both_members (reads_in (rows_after both_members))
both_share =
    plan_members_share both_members lent (answer_to both_members) (rows_after both_members) (reported both_members accepted.4).plans (reported both_members accepted.4).accepts

pub both_share_a_time : get_or (rows_after both_members).times 0 0 ≡ get_or (rows_after both_members).times 1 0
both_share_a_time = both_share.times 0 1 (omega arith) (omega arith) (inr (refl, omega arith))

-- The run that wants nothing.
pub nothing_is_read : NothingWanted (IsFormed nothing) nothing (answer_to nothing)
nothing_is_read =
    plan_of_nothing nothing lent (answer_to nothing) (rows_after nothing) (reported nothing accepted.5).plans (reported nothing accepted.5).accepts refl

empty_priced : (price_answer nothing [] [] (reads_in lent)).refusal ≡ Accepted
unfolding price_answer price_verdict judge_of any_below first_where goes_on first_member last_within want_stops join_to joined right_end list_verdict list_of first_bad_entry priced_answer
empty_priced = refl

pub nothing_is_priced : NothingWanted (IsFormed nothing) nothing (price_answer nothing [] [] (reads_in lent))
nothing_is_priced =
    price_of_nothing nothing [] [] (reads_in lent) (price_answer nothing [] [] (reads_in lent)) (price_rows nothing [] [] (reads_in lent)) refl refl empty_priced refl

-- Twice as many reads of each file, and the same plan.
two_for_one : (b : Bool) (n m : ℕ) → n ≡ 2 * m → cond b n 0 ≡ 2 * cond b m 0
two_for_one true n m e = e
two_for_one false n m e = refl

twice_over : Multiplies 2 twice ends_and_middle
unfolding reads_of_file
twice_over =
    record {
      tape = one_tape _ _ _ _;
      reads = λ f. omega (arith, two_for_one (eqb 1 f) 2 1 refl, two_for_one (eqb 3 f) 6 3 refl, two_for_one (eqb 4 f) 2 1 refl);
    }

pub twice_the_sum : SamePlan 2 3 (answer_to twice) (answer_to ends_and_middle) (rows_after twice) (rows_after ends_and_middle)
twice_the_sum =
    multiplied_the_same 2 twice ends_and_middle lent lent (answer_to twice) (answer_to ends_and_middle) (rows_after twice) (rows_after ends_and_middle) (omega arith)
    (reported twice accepted.6) (reported ends_and_middle accepted.2) twice_over
