-- From the planner's answer and its row of times to a run's outcome.
use Prim.Native.Nat.{ℕ, ◌-◌, ◌≤◌}
use mathlib.Core.Path.{◌≡◌, refl, sym, ap, ◌∙◌, subst}
use mathlib.Core.Bool.{Bool, true, false, true≢false}
use mathlib.Core.List.{List, [], ◌++◌}
use native.Mathlib.Omega.{arith}
use lib.ListN.{length, take, drop, length-map, length-append, length-drop}
use lib.Seq.{take_at}
use lib.Dec.{leb}
use borrow.Author.Tests.{le-ltb, leb-true}
use Rattle.refusals.specs.declared.Refusal.TheVariants.{Accepted}
use Rattle.refusals.specs.Refusals.{is_refusal, first_of, first_where}
use Rattle.refusals.proofs.Verdicts.{refuses, all_accept}
use Rattle.runs.specs.Run.{Run, most_reads, total}
use Rattle.runs.specs.Rows.{counted_reads}
use Rattle.runs.specs.Judging.{judge_of}
use Rattle.runs.specs.Lists.{Detour, list_of, first_bad_entry, list_verdict}
use Rattle.runs.proofs.Judged.{accepted_run}
use Rattle.runs.proofs.Stops.{wants_length}
use Rattle.walk.specs.declared.Answer.{Answer}
use Rattle.walk.specs.Walk.{times_of}
use Rattle.walk.specs.Price.{priced_answer, priced_times, price_verdict, price_answer}
use Rattle.walk.specs.Rows.{ReadRows}
use Rattle.planner.specs.Plan.{Plans, Planned, plan_verdict}
use Rattle.planner.specs.Rows.{Rows}
use Rattle.least.specs.Least.{LeastForRun}
use Rattle.answer_plan.specs.Recall.{run_checks}
use Rattle.answer_plan.proofs.Planned.{Lent, run_refusal, planned, accepts}
use Rattle.text_bytes.specs.Text.{between, all_of, is_name_byte, is_name}
use Rattle.text_bytes.proofs.Bytes.{and_true_both}
use Rattle.answer_outcome.specs.declared.Timed.{Timed}
use Rattle.answer_outcome.specs.declared.Outcome.{Outcome}
use Rattle.answer_outcome.specs.declared.Longest.{Longest}
use Rattle.answer_outcome.specs.Outcomes.{name_letters, name_in, longest_of, planned_outcome, refused_outcome}
use Rattle.answer_outcome.specs.Private.{TimedList, TimedPlan, RunOutcome}

-- An accepted run has a time for each want.
pub times_long : (run : Run) (list : List Detour) → refuses (judge_of run) ≡ false → length (priced_times run list) ≡ length run.numbers
unfolding priced_times times_of
times_long run list ok = rw length-map (wants_length run.starts run.lengths run.aggregates run.numbers run.counts (sym (accepted_run run ok).wants.equal))

pub run_passes : (run : Run) → refuses (first_of (run_checks run)) ≡ false → refuses (judge_of run) ≡ false
run_passes run e = (all_accept (run_checks run) e).0

row_kept : (front row : List ℕ) (n : ℕ) → length front ≡ n → n ≤ 64 → length row ≡ 64 → length (front ++ drop n row) ≡ 64
row_kept front row n e few long = rw (length-append, length-drop) (omega (arith, e, few, long))

refused_says : (run : Run) (rows : Rows) → Lent rows → (a : Answer) (after : Rows) (plans : Plans run rows a after) → is_refusal a.refusal ≡ true → is_refusal (plan_verdict run rows).refusal ≡ true
unfolding priced_answer
refused_says run rows lent a after plans e = go (is_refusal (plan_verdict run rows).refusal) refl
  where
    go : (b : Bool) → is_refusal (plan_verdict run rows).refusal ≡ b → is_refusal (plan_verdict run rows).refusal ≡ true
    go true q = q
    go false q = absurd (true≢false (sym e ∙ ap (λ x. is_refusal x.refusal) (plans.planned q).says))

-- The planner's answer to a run, on rows that suffice.
module _ (run : Run) (rows : Rows) (lent : Lent rows) (a : Answer) (after : Rows) (plans : Plans run rows a after) where
  abbrev held : Timed
  held = record { plan = a; times = after.times }

  timed_list : is_refusal a.refusal ≡ false → TimedList run held
  timed_list e =
      let p : Planned run rows a after = planned run rows lent a after plans (is_refusal a.refusal) refl e in
      let good = accepts run rows lent a after plans (is_refusal a.refusal) refl e in
      record {
        passes = good;
        list = p.list;
        least = p.least;
        says = p.says;
        timed =
            ap (λ x. take (length run.numbers) x.times) p.rows
            ∙ take_at (priced_times run p.list) (drop (length run.numbers) rows.times) (length run.numbers) (times_long run p.list (run_passes run good));
      }

  -- The row of times keeps its length.
  row_long_here : length after.times ≡ 64
  row_long_here = go (is_refusal a.refusal) refl
    where
      go : (b : Bool) → is_refusal a.refusal ≡ b → length after.times ≡ 64
      go true e = ap (λ x. length x.times) (plans.refused (refused_says run rows lent a after plans e)).kept ∙ lent.times
      go false e =
          let p : Planned run rows a after = planned run rows lent a after plans (is_refusal a.refusal) refl e in
          let ok = run_passes run (accepts run rows lent a after plans (is_refusal a.refusal) refl e) in
          ap (λ x. length x.times) p.rows
          ∙ row_kept (priced_times run p.list) rows.times (length run.numbers) (times_long run p.list ok) (accepted_run run ok).wants.few lent.times

  pub timed_plan_lem : TimedPlan run held
  timed_plan_lem =
      record {
        refused = λ e. sym (ap (λ v. v.refusal) (run_refusal run rows lent a after plans (is_refusal a.refusal) refl e (record { refusal = a.refusal; place = a.place }) refl).0);
        planned = timed_list;
        long = row_long_here;
      }

-- Rows as long as the wants of any run take the price of the empty list.
pub empty_price_lem : (run : Run) (rows : ReadRows) → length rows.times ≡ 64 → length rows.legs ≡ 64 → refuses (judge_of run) ≡ false
    → (price_answer run [] [] rows).sum ≡ (priced_answer run []).sum
unfolding price_answer price_verdict list_verdict first_bad_entry first_where list_of
empty_price_lem run rows times legs ok =
    let few = (accepted_run run ok).wants.few in
    rw (ok, le-ltb (length rows.times) (length run.numbers) (omega (arith, few, times)), le-ltb (length rows.legs) (length run.numbers) (omega (arith, few, legs)))

-- The empty list is well formed, so that no least list costs more.
pub least_saves : (run : Run) (list : List Detour) → LeastForRun run list → (priced_answer run list).sum ≤ (priced_answer run []).sum
unfolding priced_answer first_bad_entry first_where
least_saves run list least = least.smallest [] refl

-- A tape name has at most sixteen letters.
pub name_fits : (name : List ℕ) → is_name name ≡ true → length name ≤ name_letters
unfolding is_name
name_fits name e = leb-true (length name) 16 (and_true_both (leb 1 (length name)) (leb (length name) 16) (and_true_both (between 1 16 (length name)) (all_of is_name_byte name) e).0).1

-- A run that is accepted has its reads counted.
pub reads_counted : (run : Run) → refuses (judge_of run) ≡ false → counted_reads run.counts ≡ total run.counts
reads_counted run ok = rw (le-ltb most_reads (total run.counts) (accepted_run run ok).wants.reads) refl

planned_fields : (name : List ℕ) (run : Run) (list : List Detour) (reads sum empty : ℕ) (most : Longest) (tape : List ℕ) → reads ≡ total run.counts → sum ≡ (priced_answer run list).sum
    → empty ≡ (priced_answer run []).sum → most ≡ longest_of run.numbers (priced_times run list) → tape ≡ name_in name
    → record { refusal = Accepted; reads = reads; sum = sum; saved = empty - sum; time = most.time; file = most.file; letters = length name; tape = tape } ≡ planned_outcome name run list
unfolding planned_outcome
planned_fields name run list reads sum empty most tape r s b m n = rw (r, s, b, m, n) refl

-- A plan's outcome.
module _ (name : List ℕ) (run : Run) (t : Timed) (p : TimedPlan run t) where
  pub run_refused : is_refusal t.plan.refusal ≡ true → (o : Outcome) → o ≡ refused_outcome t.plan.refusal → RunOutcome name run o
  run_refused e o is =
      let same = p.refused e in
      record {
        refused = λ q. is ∙ ap refused_outcome (sym same);
        planned = λ q. absurd (true≢false (sym e ∙ ap is_refusal (sym same) ∙ q));
      }

  module _ (e : is_refusal t.plan.refusal ≡ false) where
    pub listed : TimedList run t
    listed = p.planned e

    pub judged : refuses (judge_of run) ≡ false
    judged = run_passes run listed.passes

    pub few_times : length run.numbers ≤ 64
    few_times = (accepted_run run judged).wants.few

    pub saves : t.plan.sum ≤ (priced_answer run []).sum
    saves = subst (λ a. a.sum ≤ (priced_answer run []).sum) (sym listed.says) (least_saves run listed.list listed.least)

    pub run_planned : (reads empty : ℕ) (most : Longest) (tape : List ℕ) → reads ≡ counted_reads run.counts → empty ≡ (priced_answer run []).sum
        → most ≡ longest_of run.numbers (take (length run.numbers) t.times) → tape ≡ name_in name
        → RunOutcome name run (record { refusal = Accepted; reads = reads; sum = t.plan.sum; saved = empty - t.plan.sum; time = most.time; file = most.file; letters = length name; tape = tape })
    run_planned reads empty most tape r b m n =
        record {
          refused = λ q. absurd (true≢false (sym q ∙ listed.passes));
          planned = λ q.
              record {
                list = listed.list;
                least = listed.least;
                says =
                    planned_fields name run listed.list reads t.plan.sum empty most tape (r ∙ reads_counted run judged) (ap (λ a. a.sum) listed.says) b
                    (m ∙ ap (longest_of run.numbers) listed.timed) n;
              };
        }
