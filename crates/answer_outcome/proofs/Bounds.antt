-- How large an outcome's numbers can be. The least list costs no more than the empty one, whose sweep passes the tape once each way: a run of at
-- most 1,024 reads has a sum below 2 to the 52.
use Prim.Native.Nat.{ℕ, suc, ◌+◌, ◌*◌, ◌≤◌, ◌<◌, ◌^◌}
use mathlib.Core.Path.{◌≡◌, refl, sym, subst}
use mathlib.Core.Bool.{Bool, true, false}
use mathlib.Core.List.{List, [], ◌∷◌}
use native.Mathlib.Omega.{arith}
use native.Mathlib.Nat.{mul-le-mul_left}
use lib.ListN.{length, length-append, length-replicate}
use Rattle.refusals.specs.Refusals.{is_refusal}
use Rattle.refusals.proofs.Verdicts.{refuses, all_accept}
use Rattle.runs.specs.Run.{Run, Stop, stops_of, total}
use Rattle.runs.specs.Rows.{stop_at}
use Rattle.runs.specs.Judging.{judge_of}
use Rattle.runs.proofs.Judged.{accepted_run}
use Rattle.runs.proofs.Joined.{reads_of}
use Rattle.runs.proofs.Stops.{stops_reads, run_sound}
use Rattle.walk.specs.declared.Leg.{Leg}
use Rattle.walk.specs.Walk.{head_at, reads, time_of, sum_of}
use Rattle.walk.specs.Detours.{last_sweep, legs_of}
use Rattle.walk.specs.Price.{priced_answer}
use Rattle.sheet_reader.specs.Sheet.{sheet_run, sheet_name}
use Rattle.sheet_reader.specs.Reading.{sheet_verdict, rule_verdict}
use Rattle.sheet_reader.proofs.Good.{good_name}
use Rattle.answer_plan.specs.Recall.{run_checks, verdict_by, recall_verdict}
use Rattle.answer_outcome.specs.declared.Outcome.{Outcome}
use Rattle.answer_outcome.specs.Outcomes.{name_in, name_letters, refused_outcome, planned_outcome, PlannedAs, OutcomeOf}
use Rattle.answer_outcome.proofs.Plans.{least_saves, name_fits}

-- One leg from the head: the way to its turn, the turn, and the way to the file's end.
time_once : (U m : ℕ) (g : Leg) (s : Stop) → time_of U (head_at m) (g ∷ []) s ≤ m + U + s.end
unfolding time_of
time_once U m g s = go (reads g s) refl
  where
    go : (b : Bool) → reads g s ≡ b → time_of U (head_at m) (g ∷ []) s ≤ m + U + s.end
    go true e = rw e (omega arith)
    go false e = rw e (omega arith)

-- The most that this can be: 2 to the 40 each way and the highest turn price.
abbrev longest_sweep : ℕ
longest_sweep = 2203318222848

sum_once : (U m : ℕ) (g : Leg) (ss : List Stop) → ((i : ℕ) → i < length ss → m + U + (stop_at ss i).end ≤ longest_sweep) → sum_of U (head_at m) (g ∷ []) ss ≤ longest_sweep * reads_of ss
unfolding sum_of reads_of
sum_once U m g [] most = omega arith
sum_once U m g (s ∷ ss) most =
    let rest = sum_once U m g ss (λ i l. most (suc i) (omega arith)) in
    let here : time_of U (head_at m) (g ∷ []) s ≤ longest_sweep = omega (arith, time_once U m g s, most 0 (omega arith)) in
    omega (arith, rest, mul-le-mul_left s.count here)

module _ (run : Run) (ok : refuses (judge_of run) ≡ false) where
  few_reads_here : total run.counts ≤ 1024
  few_reads_here = (accepted_run run ok).wants.reads

  sweep_sum : (ss : List Stop) → ((i : ℕ) → i < length ss → run.head + run.turn + (stop_at ss i).end ≤ longest_sweep)
      → sum_of run.turn (head_at run.head) (legs_of ss []) ss ≤ longest_sweep * reads_of ss
  unfolding legs_of last_sweep sum_of
  sweep_sum [] most = omega arith
  sweep_sum (s ∷ ss) most = sum_once run.turn run.head _ (s ∷ ss) most

  pub empty_sum_small : (priced_answer run []).sum < 2 ^ 52
  unfolding priced_answer
  empty_sum_small =
      let good = accepted_run run ok in
      let sound = run_sound run good in
      let far : (i : ℕ) → i < length (stops_of run) → run.head + run.turn + (stop_at (stops_of run) i).end ≤ longest_sweep =
      λ i l. omega (arith, sound.reached i l, good.start.near, good.start.cheap) in
      omega (arith, sweep_sum (stops_of run) far, stops_reads run good, few_reads_here)

-- What a month can count on of a sheet's outcome.
pub record Small (o : Outcome) : Type 0 where
  pub reads : o.reads ≤ 1024
  pub sum : o.sum < 2 ^ 52
  pub saved : o.saved < 2 ^ 52
  pub letters : o.letters ≤ name_letters
  pub tape : length o.tape ≡ name_letters

refused_small : (sheet : List ℕ) → Small (refused_outcome (recall_verdict sheet).refusal)
unfolding refused_outcome
refused_small sheet = record { reads = omega arith; sum = omega arith; saved = omega arith; letters = omega arith; tape = refl }

module _ (sheet : List ℕ) (passes : is_refusal (recall_verdict sheet).refusal ≡ false) where
  all_pass : (refuses (sheet_verdict sheet) ≡ false) × (refuses (judge_of (sheet_run sheet)) ≡ false)
  unfolding verdict_by
  all_pass =
      let all = all_accept (sheet_verdict sheet ∷ rule_verdict sheet ∷ run_checks (sheet_run sheet)) passes in
      (all.0, all.1.1.0)

  planned_small : (o : Outcome) → PlannedAs (sheet_name sheet) (sheet_run sheet) o → Small o
  unfolding planned_outcome name_in
  planned_small o p =
      let empty = empty_sum_small (sheet_run sheet) all_pass.1 in
      let less = least_saves (sheet_run sheet) p.list p.least in
      let short = name_fits (sheet_name sheet) (good_name sheet all_pass.0) in
      subst Small (sym p.says)
      (record {
        reads = few_reads_here (sheet_run sheet) all_pass.1;
        sum = omega (arith, empty, less);
        saved = omega (arith, empty);
        letters = short;
        tape = rw (length-append, length-replicate) (omega (arith, short));
      })

pub outcome_small : (sheet : List ℕ) (o : Outcome) → OutcomeOf sheet o → Small o
outcome_small sheet o p = go (is_refusal (recall_verdict sheet).refusal) refl
  where
    go : (b : Bool) → is_refusal (recall_verdict sheet).refusal ≡ b → Small o
    go true e = subst Small (sym (p.refused e)) (refused_small sheet)
    go false e = planned_small sheet e o (p.planned e)
