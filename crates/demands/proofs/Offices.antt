-- What sharing a run costs: the planner's lists are least, so the laws of runs on one tape and of counts c times over apply to what it reports.
use Prim.Native.Nat.{ℕ, ◌*◌, ◌≤◌}
use mathlib.Core.Path.{◌≡◌, sym, ap, ◌∙◌}
use mathlib.Core.List.{List, map}
use lib.ListN.{length, take}
use Rattle.walk.specs.declared.Answer.{Answer}
use Rattle.walk.specs.declared.Leg.{Leg}
use Rattle.runs.specs.Run.{Run, stops_of, want_stops_of}
use Rattle.walk.specs.Walk.{head_at, walked, times_of, legs_for}
use Rattle.walk.specs.Detours.{legs_of}
use Rattle.runs.proofs.Judged.{GoodRun, accepted_run}
use Rattle.least.specs.Least.{list_sum, LeastForRun}
use Rattle.least.proofs.LeastList.{least_unique}
use Rattle.least.proofs.Offices as Laws
use Rattle.least.proofs.Scaled.{allScaled, wants_multiplied, stops_multiplied, legs_scaled, times_scaled, told_scaled, list_sum_scaled, least_scaled}
use Rattle.planner.specs.Plan.{Planned}
use Rattle.planner.specs.Rows.{Rows}
use Rattle.demands.specs.Demand2.{list_in, IsTheWalk}
use Rattle.demands.specs.Offices.{Reports, OneTape, SharingNeverPays, Multiplies, SamePlan, MultipliedTheSame}
use Rattle.demands.proofs.Planned.{plan_in_rows, run_accepted, list_in_rows}
use Rattle.demands.proofs.Demand2.{demand2_walk}
use Rattle.demands.proofs.Judged.{judged_nothing}
use Rattle.demands.proofs.Multiplied.{multiplied_wants}

-- What a report says: the run is accepted, the list in the rows is its least, and the rest is that list's walk.
module _ (r : Run) (before : Rows) (answer : Answer) (after : Rows) (reports : Reports r before answer after) where
  planned : Planned r before answer after
  planned = plan_in_rows r before answer after reports.plans reports.accepts

  good : GoodRun r
  good = accepted_run r (run_accepted r before answer after reports.plans reports.accepts)

  walk : IsTheWalk r answer after
  walk = demand2_walk r before answer after reports.plans reports.accepts

  least : LeastForRun r (list_in answer after)
  least = rw (list_in_rows r planned.list before answer after planned.says planned.rows) planned.least

on_one_tape : (r r' : Run) → OneTape r r' → Laws.OneTape r r'
on_one_tape r r' t = record { starts = t.starts; lengths = t.lengths; aggregates = t.aggregates; head = t.head; turn = t.turn }

pub sharing_never_pays : SharingNeverPays
sharing_never_pays shared one other before before₁ before₂ answer answer₁ answer₂ after after₁ after₂ says says₁ says₂ shares =
    rw ((walk shared before answer after says).sum, (walk one before₁ answer₁ after₁ says₁).sum, (walk other before₂ answer₂ after₂ says₂).sum)
    (Laws.sharing_never_pays shared one other (good shared before answer after says) (good one before₁ answer₁ after₁ says₁) (good other before₂ answer₂ after₂ says₂)
    (on_one_tape shared one shares.tape) (on_one_tape shared other shares.tape') shares.reads
    (list_in answer after) (list_in answer₁ after₁) (list_in answer₂ after₂)
    (least shared before answer after says) (least one before₁ answer₁ after₁ says₁) (least other before₂ answer₂ after₂ says₂))

-- A run and the same with its counts c times over.
module _ (c : ℕ) (some : 1 ≤ c) (many r : Run) (before before' : Rows) (answer answer' : Answer) (after after' : Rows)
    (says : Reports many before answer after) (says' : Reports r before' answer' after') (times-over : Multiplies c many r) where
  tape : OneTape many r
  tape = times-over.tape

  same_wants : (many.numbers ≡ r.numbers) × (many.counts ≡ map (λ n. c * n) r.counts)
  same_wants =
      multiplied_wants c many r some
      (judged_nothing many (run_accepted many before answer after says.plans says.accepts))
      (judged_nothing r (run_accepted r before' answer' after' says'.plans says'.accepts))
      times-over

  wants : want_stops_of many ≡ allScaled c (want_stops_of r)
  wants = wants_multiplied c many r (on_one_tape many r tape) same_wants.0 same_wants.1

  stops : stops_of many ≡ allScaled c (stops_of r)
  stops = stops_multiplied c many r (on_one_tape many r tape) same_wants.0 same_wants.1

  same_list_here : list_in answer after ≡ list_in answer' after'
  same_list_here =
      least_unique many.turn many.head (stops_of many) (list_in answer after) (list_in answer' after') (least many before answer after says)
      (rw (stops, tape.turn, tape.head) (least_scaled c some r.turn r.head (stops_of r) (list_in answer' after') (least r before' answer' after' says')))

  same_legs : legs_of (stops_of many) (list_in answer after) ≡ legs_of (stops_of r) (list_in answer' after')
  same_legs = rw (stops, same_list_here) (legs_scaled c (stops_of r) (list_in answer' after'))

  -- The walk of the run's list from its head, at its price; the other's is the same.
  abbrev gs : List Leg
  gs = legs_of (stops_of r) (list_in answer' after')

  same_walk : walked many.turn (head_at many.head) (legs_of (stops_of many) (list_in answer after)) ≡ walked r.turn (head_at r.head) gs
  same_walk = rw (same_legs, tape.turn, tape.head)

  same_times : times_of many.turn (head_at many.head) (legs_of (stops_of many) (list_in answer after)) (want_stops_of many) ≡ times_of r.turn (head_at r.head) gs (want_stops_of r)
  same_times = rw (same_legs, wants, tape.turn, tape.head) (times_scaled c r.turn (head_at r.head) gs (want_stops_of r))

  legs_told : legs_for (legs_of (stops_of many) (list_in answer after)) (want_stops_of many) ≡ legs_for gs (want_stops_of r)
  legs_told = rw (same_legs, wants) (told_scaled c gs (want_stops_of r))

  sum_times_c : list_sum many.turn many.head (stops_of many) (list_in answer after) ≡ c * list_sum r.turn r.head (stops_of r) (list_in answer' after')
  sum_times_c = rw (stops, same_list_here, tape.turn, tape.head) (list_sum_scaled c r.turn r.head (stops_of r) (list_in answer' after'))

  first_wants : (row : List ℕ) → take (length r.numbers) row ≡ take (length many.numbers) row
  first_wants row = ap (λ ns. take (length ns) row) (sym same_wants.0)

  same_plan : SamePlan c (length r.numbers) answer answer' after after'
  same_plan =
      let w = walk many before answer after says in
      let w' = walk r before' answer' after' says' in
      record {
        detours = sym w.number ∙ ap length same_list_here ∙ w'.number;
        list = same_list_here;
        times = first_wants after.times ∙ w.times ∙ same_times ∙ sym w'.times;
        legs = first_wants after.legs ∙ w.legs ∙ legs_told ∙ sym w'.legs;
        finish = w.finish ∙ ap (λ h. h.clock) same_walk ∙ sym w'.finish;
        end = w.end ∙ ap (λ h. h.place) same_walk ∙ sym w'.end;
        sum = w.sum ∙ sum_times_c ∙ ap (λ n. c * n) (sym w'.sum);
      }

pub multiplied_the_same : MultipliedTheSame
multiplied_the_same c many r before before' answer answer' after after' some says says' times-over =
    same_plan c some many r before before' answer answer' after after' says says' times-over
