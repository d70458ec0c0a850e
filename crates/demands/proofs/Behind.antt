-- Behind the entries that are filled: each row is a list of known length and then the later entries of the row that was lent.
use Prim.Native.Nat.{ℕ, ◌+◌, ◌*◌}
use mathlib.Core.Path.{◌≡◌, refl, sym, ap, ◌∙◌}
use mathlib.Core.Bool.{false}
use mathlib.Core.List.{List, [], ◌∷◌, ◌++◌, map}
use lib.ListN.{length, drop, replicate, length-map}
use lib.Seq.{drop_at}
use Rattle.refusals.specs.declared.Refusal.TheVariants.{ShortRow}
use Rattle.refusals.specs.Refusals.{refuse_if}
use Rattle.refusals.proofs.Verdicts.{refuses, all_accept}
use Rattle.runs.specs.Run.{Run, Stop, total, stops_of, want_stops_of}
use Rattle.runs.specs.Lists.{Detour, list_of}
use Rattle.runs.specs.AnyHead.{judge_any_of, list_verdict_any, lifted}
use Rattle.runs.proofs.Judged.{accepted_run}
use Rattle.runs.proofs.AnyHead.{accepted_any}
use Rattle.runs.proofs.Stops.{wants_length}
use Rattle.walk.specs.declared.Answer.{Answer}
use Rattle.walk.specs.Walk.{head_at, times_of, legs_for}
use Rattle.walk.specs.Price.{priced_answer, priced_times, priced_legs, read_rows_with, short_read_rows, price_rows}
use Rattle.walk.specs.AnyHead.{run_legs, priced_any_answer, read_any_rows_with, price_any_verdict, price_any_rows}
use Rattle.walk.specs.Rows.{ReadRows}
use Rattle.walk.proofs.Filling.{one_each}
use Rattle.planner.specs.Plan.{room_for}
use Rattle.planner.specs.Rows.{Rows, reads_in}
use Rattle.boundary.specs.Boundary.{price_call, price_reads, price_sums, price_any_call, price_any_reads, price_any_sums}
use Rattle.boundary.proofs.Calls.{code_accepts}
use Rattle.demands.specs.RefusalTable.{HasStops}
use Rattle.demands.specs.Calls.{in_sums}
use Rattle.demands.specs.Behind.{BehindReads, BehindPlan, PriceBehind, PriceAnyBehind, PlanBehind, PlanAnyBehind, PriceCallBehind, PriceAnyCallBehind, PlanCallBehind, PlanAnyCallBehind}
use Rattle.demands.proofs.Counted.{stops_one}
use Rattle.demands.proofs.AnyLifted.{stops_up}
use Rattle.demands.proofs.Planned.{plan_in_rows, run_accepted}
use Rattle.demands.proofs.Demand2.{checks_pass, price_accepts}
use Rattle.demands.proofs.AnyHead.{price_any_accepts, planned, good_run}
use Rattle.demands.proofs.Called.{price_passes, call, answered}
use Rattle.demands.proofs.AnyCalls.{price_any_passes, any_call, any_answered}

-- One entry for each want.
wants_many : (r : Run) → length r.numbers ≡ length r.counts → (f : Stop → ℕ) → length (map f (want_stops_of r)) ≡ length r.numbers
wants_many r even f = one_each f (want_stops_of r) ∙ wants_length r.starts r.lengths r.aggregates r.numbers r.counts (sym even)

module _ (r : Run) (list : List Detour) (even : length r.numbers ≡ length r.counts) where
  reads_behind : (before after : ReadRows) → after ≡ read_rows_with r list before → BehindReads r before after
  unfolding priced_times priced_legs times_of legs_for
  reads_behind before after fills =
      record {
        times = rw fills (drop_at (priced_times r list) (drop (length r.numbers) before.times) (length r.numbers) (wants_many r even _));
        legs = rw fills (drop_at (priced_legs r list) (drop (length r.numbers) before.legs) (length r.numbers) (wants_many r even _));
      }

  reads_any_behind : (before after : ReadRows) → after ≡ read_any_rows_with r list before → BehindReads r before after
  unfolding times_of legs_for
  reads_any_behind before after fills =
      record {
        times = rw fills (drop_at (times_of r.turn (head_at r.head) (run_legs r list) (want_stops_of r)) (drop (length r.numbers) before.times) (length r.numbers) (wants_many r even _));
        legs = rw fills (drop_at (legs_for (run_legs r list) (want_stops_of r)) (drop (length r.numbers) before.legs) (length r.numbers) (wants_many r even _));
      }

-- A plan's rows, from what lies behind its times and legs, and the room by the stops.
module _ (r : Run) (list : List Detour) (before after : Rows) (detours : ℕ) (many : detours ≡ length list) (reads : BehindReads r (reads_in before) (reads_in after))
    (starts : after.froms ≡ map (λ d. d.from) list ++ drop (length list) before.froms) (ends : after.tos ≡ map (λ d. d.to) list ++ drop (length list) before.tos)
    (room : after.room ≡ replicate (room_for r) 0 ++ drop (room_for r) before.room) (one : (n : ℕ) → HasStops r n → n ≡ length (stops_of r)) where
  plan_rows_behind : BehindPlan r detours before after
  plan_rows_behind =
      record {
        times = reads.times;
        legs = reads.legs;
        starts = rw (many, starts) (drop_at (map (λ d. d.from) list) (drop (length list) before.froms) (length list) (length-map list (λ d. d.from)));
        ends = rw (many, ends) (drop_at (map (λ d. d.to) list) (drop (length list) before.tos) (length list) (length-map list (λ d. d.to)));
        room = λ stops s. room ∙ ap (λ k. replicate (k * k * (total r.counts + 1)) 0 ++ drop (k * k * (total r.counts + 1)) before.room) (sym (one stops s));
      }

pub price_behind : PriceBehind
unfolding price_rows
price_behind r froms tos rows answer out says fills accepts =
    let e = price_accepts r froms tos rows answer says accepts in
    reads_behind r (list_of froms tos) (accepted_run r (checks_pass r froms tos rows e).0).wants.equal rows out (rw e at fills)

any_even_wants : (r : Run) (froms tos : List ℕ) (rows : ReadRows) → refuses (price_any_verdict r froms tos rows) ≡ false → length r.numbers ≡ length r.counts
unfolding price_any_verdict
any_even_wants r froms tos rows e =
    (accepted_any r (all_accept (judge_any_of r ∷ list_verdict_any r.head (stops_of r) froms tos ∷ refuse_if (short_read_rows (length r.numbers) rows) ShortRow ∷ []) e).0).run.wants.equal

pub price_any_behind : PriceAnyBehind
unfolding price_any_rows
price_any_behind r froms tos rows answer out says fills accepts =
    let e = price_any_accepts r froms tos rows answer says accepts in
    reads_any_behind r (list_of froms tos) (any_even_wants r froms tos rows e) rows out (rw e at fills)

pub plan_behind : PlanBehind
unfolding priced_answer
plan_behind r before answer after plans accepts =
    let plan = plan_in_rows r before answer after plans accepts in
    let good = accepted_run r (run_accepted r before answer after plans accepts) in
    plan_rows_behind r plan.list before after answer.detours (ap (λ (a : Answer). a.detours) plan.says) (reads_behind r plan.list good.wants.equal (reads_in before) (reads_in after) (ap reads_in plan.rows))
    (ap (λ (x : Rows). x.froms) plan.rows) (ap (λ (x : Rows). x.tos) plan.rows) (ap (λ (x : Rows). x.room) plan.rows) (λ n s. stops_one r good s)

pub plan_any_behind : PlanAnyBehind
unfolding priced_any_answer
plan_any_behind r before answer after plans accepts =
    let plan = planned r before answer after plans accepts in
    let good = good_run r before answer after plans accepts in
    plan_rows_behind r plan.list before after answer.detours (ap (λ (a : Answer). a.detours) plan.says) (reads_any_behind r plan.list good.run.wants.equal (reads_in before) (reads_in after) (ap reads_in plan.rows))
    (ap (λ (x : Rows). x.froms) plan.rows) (ap (λ (x : Rows). x.tos) plan.rows) (ap (λ (x : Rows). x.room) plan.rows) (λ n s. stops_one (lifted r) good.run (stops_up r s))

-- The calls in C.
pub price_call_behind : PriceCallBehind
unfolding price_reads price_sums
price_call_behind r froms tos rows sums code rowsOut sumsOut called zero-code =
    let e = code_accepts (price_call r froms tos rows sums) (sym called.says ∙ zero-code) in
    let passes = price_passes r froms tos rows sums e in (
      reads_behind r (list_of froms tos) (accepted_run r (checks_pass r froms tos rows passes).0).wants.equal rows rowsOut (rw e at called.reads_are),
      ap (drop 4) called.sums_are ∙ rw e,
    )

pub price_any_call_behind : PriceAnyCallBehind
unfolding price_any_reads price_any_sums
price_any_call_behind r froms tos rows sums code rowsOut sumsOut called zero-code =
    let e = code_accepts (price_any_call r froms tos rows sums) (sym called.says ∙ zero-code) in (
      reads_any_behind r (list_of froms tos) (any_even_wants r froms tos rows (price_any_passes r froms tos rows sums e)) rows rowsOut (rw e at called.reads_are),
      ap (drop 4) called.sums_are ∙ rw e,
    )

pub plan_call_behind : PlanCallBehind
plan_call_behind r rule before sums code after out called e =
    (plan_behind r before (in_sums out) after (answered r rule before sums code after out called e) refl, ap (drop 4) (call r rule before sums code after out called e).sums_are)

pub plan_any_call_behind : PlanAnyCallBehind
plan_any_call_behind r before sums code after out called e =
    (plan_any_behind r before (in_sums out) after (any_answered r before sums code after out called e) refl, ap (drop 4) (any_call r before sums code after out called e).sums_are)
