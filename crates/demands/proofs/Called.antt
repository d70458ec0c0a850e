-- Demands 2 and 3 at the C boundary: a call that gives back 0 leaves in its rows what an answer of the pricer or the planner says, and in
-- the row of sums the numbers of that answer.
use Prim.Native.Nat.{ℕ, ◌≤◌}
use mathlib.Core.Path.{◌≡◌, refl, sym, subst, ◌∙◌}
use mathlib.Core.Bool.{Bool, true, false, ◌||◌, true≢false}
use mathlib.Core.List.{List, [], ◌∷◌}
use native.Mathlib.Omega.{arith}
use lib.ListN.{length}
use lib.Dec.{ltb}
use Rattle.refusals.specs.declared.Refusal.TheVariants.{ShortRow, ShortRoom, BadRule}
use Rattle.walk.specs.declared.Answer.{Answer}
use Rattle.refusals.specs.Refusals.{refuse_if}
use Rattle.runs.specs.Run.{Run, stops_of}
use Rattle.runs.specs.Judging.{judge_of}
use Rattle.runs.specs.Lists.{Detour, list_of}
use Rattle.walk.specs.Price.{priced_answer, price_verdict}
use Rattle.walk.specs.Rows.{ReadRows}
use Rattle.refusals.proofs.Verdicts.{refuses, all_accept, accepts_if}
use Rattle.runs.proofs.Search.{or_false_both}
use Rattle.planner.specs.Plan.{room_for, Plans, plan_verdict, short_rows}
use Rattle.planner.specs.Rows.{Rows}
use Rattle.boundary.specs.Boundary.{short_sums, sums_with, bad_rule, price_call, price_reads, price_sums, plan_call, PlanCalled, CallPlanned}
use Rattle.boundary.proofs.Calls.{code_accepts}
use Rattle.demands.specs.Calls.{in_sums, PlanCallWalks, Demand2PriceCall, Demand2PlanCall, Demand3PlanCall}
use Rattle.demands.proofs.Demand2.{price_of_list, demand2_walk, demand2_least}
use Rattle.demands.proofs.Demand3.{demand3}

-- The row of sums holds the numbers of an accepted answer.
sums_hold : (r : Run) (list : List Detour) (answer : Answer) (sums out : List ℕ) → answer ≡ priced_answer r list → out ≡ sums_with answer sums → answer ≡ in_sums out
unfolding priced_answer
sums_hold r list answer sums out says fills = rw (fills, says)

pub price_passes : (r : Run) (froms tos : List ℕ) (rows : ReadRows) (sums : List ℕ) → refuses (price_call r froms tos rows sums) ≡ false → refuses (price_verdict r froms tos rows) ≡ false
unfolding price_call
price_passes r froms tos rows sums e = (all_accept (price_verdict r froms tos rows ∷ refuse_if (short_sums sums) ShortRow ∷ []) e).0

pub demand2_price_call : Demand2PriceCall
unfolding price_reads price_sums priced_answer
demand2_price_call r froms tos rows sums code rowsOut sumsOut called zero-code =
    let e = code_accepts (price_call r froms tos rows sums) (sym called.says ∙ zero-code) in
    let passes = price_passes r froms tos rows sums e in
    let fills : sumsOut ≡ sums_with (priced_answer r (list_of froms tos)) sums = rw e at called.sums_are in
    record {
      four = rw fills (omega arith);
      price = rw fills (price_of_list r froms tos rows passes _ rowsOut refl (rw e at called.reads_are));
    }

-- A call of the planner that gives back 0: what it leaves is an answer of the planner.
module _ (r : Run) (rule : ℕ) (before : Rows) (sums : List ℕ) (code : ℕ) (after : Rows) (out : List ℕ) (called : PlanCalled r rule before sums code after out) (zero-code : code ≡ 0) where
  call_accepted : (b : Bool) → refuses (plan_call r rule before sums) ≡ b → refuses (plan_call r rule before sums) ≡ false
  call_accepted true e = code_accepts (plan_call r rule before sums) (sym (called.refused e).says ∙ zero-code)
  call_accepted false e = e

  pub call : CallPlanned r before sums code after out
  call = called.planned (call_accepted (refuses (plan_call r rule before sums)) refl)

  plan_passes_here : refuses (plan_verdict r before) ≡ false
  unfolding plan_verdict plan_call
  plan_passes_here =
      let short = short_rows (length r.numbers) (length (stops_of r)) before in
      let room = ltb (length before.room) (room_for r) in
      let all =
      all_accept (judge_of r ∷ refuse_if (bad_rule rule) BadRule ∷ refuse_if (short || short_sums sums) ShortRow ∷ refuse_if room ShortRoom ∷ [])
      (call_accepted (refuses (plan_call r rule before sums)) refl)
      in
      rw (
        all.0,
        (or_false_both short (short_sums sums) (accepts_if _ ShortRow refl all.1.1.0)).0,
        accepts_if room ShortRoom refl all.1.1.1.0,
      )

  in_sums_here : call.answer ≡ in_sums out
  in_sums_here = sums_hold r call.planned.list call.answer sums out call.planned.says call.sums_are

  pub answered : Plans r before (in_sums out) after
  answered =
      subst (λ a. Plans r before a after) in_sums_here
      (record { refused = λ e. absurd (true≢false (sym e ∙ plan_passes_here)); planned = λ e. call.planned })

  four_in_sums : 4 ≤ length out
  four_in_sums = rw call.sums_are (omega arith)

  call_walks : PlanCallWalks r after out
  call_walks =
      record {
        four = four_in_sums;
        walk = demand2_walk r before (in_sums out) after answered refl;
        least = demand2_least r before (in_sums out) after answered refl;
      }

pub demand2_plan_call : Demand2PlanCall
demand2_plan_call r rule before sums code after out called e = call_walks r rule before sums code after out called e

pub demand3_plan_call : Demand3PlanCall
demand3_plan_call first second rule before sums code after out accepted called e asks gs moves serves =
    demand3 first second before (in_sums out) after accepted (answered second rule before sums code after out called e) refl asks gs moves serves
