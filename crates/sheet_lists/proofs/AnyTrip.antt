-- The same with a head anywhere: every number on the plan sheet of an accepted run and of a list that is well formed for that head is a word, and reading
-- the sheet gives the list.
use Prim.Native.Nat.{ℕ, ◌^◌, ◌≤◌}
use mathlib.Core.Path.{◌≡◌, refl, sym, ◌∙◌}
use mathlib.Core.Bool.{true, false, not}
use mathlib.Core.List.{List, [], ◌∷◌, map}
use native.Mathlib.Omega.{arith}
use lib.ListN.{length}
use lib.Dec.{eqb}
use borrow.Author.Tests.{le-ltb, eq-eqb}
use Rattle.refusals.specs.declared.Refusal.TheVariants.{BadEntry}
use Rattle.refusals.specs.Refusals.{accepted, refuse_if, refuse_at}
use Rattle.refusals.proofs.Verdicts.{refuses, all_accept, accepts_at}
use Rattle.runs.specs.Run.{Run, Stop, total, stops_of, want_stops_of, last_place}
use Rattle.runs.specs.Judging.{judge_of}
use Rattle.runs.specs.Lists.{list_of, list_verdict}
use Rattle.runs.specs.AnyHead.{judge_any_of, lifted, first_bad_entry_any, list_verdict_any}
use Rattle.runs.proofs.AnyHead.{GoodAnyRun, accepted_any, judge_any_lem}
use Rattle.runs.proofs.Stops.{stops_reads, wants_length}
use Rattle.walk.specs.Walk.{head_at, times_of, legs_for}
use Rattle.walk.specs.Price.{priced_answer}
use Rattle.walk.specs.AnyHead.{run_legs, priced_any_answer}
use Rattle.walk.specs.Private.{Walkable}
use Rattle.walk.proofs.Walks.{any_walkable}
use Rattle.walk.proofs.AnyHead.{any_even, any_good, any_formed}
use Rattle.walk.proofs.Filling.{one_each, end_bound, time_bound}
use Rattle.walk.proofs.Laws.{sum_within}
use Rattle.text_bytes.specs.Text.{is_name}
use Rattle.sheet_reader.specs.Sheet.{longest_sheet}
use Rattle.sheet_writer.specs.AnyHead.{plan_any_text}
use Rattle.sheet_lists.specs.Form.{plan_froms, plan_tos}
use Rattle.sheet_lists.specs.Reading.{plan_form}
use Rattle.sheet_lists.proofs.Bounds.{end_near, leg_within, each_below}
use Rattle.sheet_lists.proofs.RoundTrip.{PlanSmall, plan_small, all_described, starts_back, ends_back, short_enough}

-- The run with its head at the end of the tape, which 01 accepts, has the same rows.
module _ (r : Run) (froms tos : List ℕ) (run : refuses (judge_any_of r) ≡ false) (list : refuses (list_verdict_any r.head (stops_of r) froms tos) ≡ false) where
  good : GoodAnyRun r
  good = accepted_any r run

  judged_01 : refuses (judge_of (lifted r)) ≡ false
  judged_01 = rw (judge_any_lem r) at run

  pub any_none : first_bad_entry_any r.head (stops_of r) (list_of froms tos) ≡ 0
  unfolding list_verdict_any
  any_none =
      accepts_at (first_bad_entry_any r.head (stops_of r) (list_of froms tos)) BadEntry refl
      (all_accept (refuse_if (not (eqb (length froms) (length tos))) BadEntry ∷ refuse_at (first_bad_entry_any r.head (stops_of r) (list_of froms tos)) BadEntry ∷ []) list).1.0

  listed_01 : refuses (list_verdict (stops_of r) froms tos) ≡ false
  unfolding list_verdict
  listed_01 = rw (eq-eqb (length froms) (length tos) (any_even r.head (stops_of r) froms tos list), any_formed r.head (stops_of r) (list_of froms tos) any_none)

  within : Walkable (run_legs r (list_of froms tos)) r.head r.turn
  within = any_walkable (lifted r) good.run froms tos (any_good r.head (stops_of r) froms tos list) r.head good.near

  each_want : (f : Stop → ℕ) → length (map f (want_stops_of r)) ≡ length r.numbers
  each_want f = one_each f (want_stops_of r) ∙ wants_length r.starts r.lengths r.aggregates r.numbers r.counts (sym good.run.wants.equal)

  pub any_small : PlanSmall (total r.counts) (priced_any_answer r (list_of froms tos)) froms tos r.numbers (times_of r.turn (head_at r.head) (run_legs r (list_of froms tos)) (want_stops_of r)) (legs_for (run_legs r (list_of froms tos)) (want_stops_of r))
  unfolding priced_any_answer priced_answer times_of legs_for
  any_small =
      let s = plan_small (lifted r) froms tos judged_01 listed_01 in
      record {
        reads = s.reads;
        sum = omega (arith, sum_within r.turn r.head _ within (stops_of r), stops_reads (lifted r) good.run, good.run.wants.reads);
        finish = omega (arith, end_bound _ r.head r.turn within);
        end = omega (arith, end_near r.turn last_place (run_legs r (list_of froms tos)) (head_at r.head) within.near within.on_tape);
        detours = s.detours;
        few = s.few;
        even = s.even;
        wants = s.wants;
        timed = sym (each_want _);
        numbered = sym (each_want _);
        froms = s.froms;
        tos = s.tos;
        numbers = s.numbers;
        times = λ i l. each_below _ (2 ^ 64) (omega arith) (λ t. omega (arith, time_bound _ r.head r.turn within t)) (want_stops_of r) i;
        legs = λ i l. each_below _ (2 ^ 64) (omega arith) (λ t. omega (arith, leg_within (run_legs r (list_of froms tos)) 1 t, within.few)) (want_stops_of r) i;
      }

  -- What reading the plan sheet gives.
  module _ (name : List ℕ) (named : is_name name ≡ true) where
    pub any_short : length (plan_any_text name r froms tos) ≤ 7644
    unfolding plan_any_text
    any_short = short_enough name _ _ _ _ _ _ _ named any_small

    pub any_reads_back : plan_form (plan_any_text name r froms tos) ≡ accepted
    unfolding plan_any_text plan_form
    any_reads_back = rw (le-ltb longest_sheet (length (plan_any_text name r froms tos)) (omega (arith, any_short)), all_described name _ _ _ _ _ _ _ named any_small)

    pub any_froms_back : plan_froms (plan_any_text name r froms tos) ≡ froms
    unfolding plan_any_text
    any_froms_back = starts_back name _ _ _ _ _ _ _ named any_small

    pub any_tos_back : plan_tos (plan_any_text name r froms tos) ≡ tos
    unfolding plan_any_text
    any_tos_back = ends_back name _ _ _ _ _ _ _ named any_small
