-- The planner's refusals in the order of the checks, as the code makes them: the run, the rows for times and legs, then what the engine refuses.
use Prim.Native.Nat.{ℕ, ◌≤◌}
use mathlib.Core.Path.{◌≡◌, refl, sym, ap, ◌∙◌, subst}
use mathlib.Core.Bool.{Bool, true, false, true≢false}
use mathlib.Core.List.{List, [], ◌∷◌}
use lib.ListN.{length}
use lib.Dec.{ltb}
use borrow.Author.Tests.{le-ltb, ltb-false}
use Rattle.std.specs.Prelude.{Result, Ok, Err}
use Rattle.refusals.specs.declared.Refusal.TheVariants.{ShortRow, ShortRoom}
use Rattle.refusals.specs.declared.Verdict.{Verdict}
use Rattle.refusals.specs.Refusals.{checked, refuse_if, first_of}
use Rattle.refusals.proofs.Verdicts.{refuses, first_refuses, first_passes, all_accept, accepts_if}
use Rattle.refusals.proofs.Checked.{Refuses}
use Rattle.runs.specs.Run.{Run, stops_of}
use Rattle.runs.proofs.Search.{or_false_both}
use Rattle.runs.specs.AnyHead.{judge_any_of}
use Rattle.walk.specs.declared.Answer.{Answer}
use Rattle.walk.specs.Price.{short_read_rows}
use Rattle.engine_table.specs.Listing.{ListRows, NotListed}
use Rattle.planner.specs.Plan.{short_rows, room_for}
use Rattle.planner.specs.AnyHead.{PlansAny, PlannedAny, plan_any_verdict}
use Rattle.planner.specs.Rows.{Rows, reads_in}
use Rattle.planner.specs.Private.{stops_verdict, engine_rows, ListsNamed, ListsAny, IsNamed}
use Rattle.engine_stops.proofs.Said.{one_answer, same_verdict}

module _ (r : Run) (rows : Rows) where
  refused_so_here : (v : Verdict) → v ≡ plan_any_verdict r rows → refuses v ≡ true → ListsAny r rows (Err v) (engine_rows rows)
  refused_so_here v e h =
      record {
        refused = λ q. record { says = ap Err e; kept = refl };
        listed = λ q. absurd (true≢false (sym h ∙ ap refuses e ∙ q));
      }

  later : List Verdict
  later = refuse_if (short_rows (length r.numbers) (length (stops_of r)) rows) ShortRow ∷ refuse_if (ltb (length rows.room) (room_for r)) ShortRoom ∷ []

  pub run_refused : (e : Verdict) → Refuses (judge_any_of r) e → ListsAny r rows (Err e) (engine_rows rows)
  unfolding plan_any_verdict later
  run_refused e s = rw (← s.is) (refused_so_here (judge_any_of r) (first_refuses (judge_any_of r) later s.so) s.so)

  module _ (run : refuses (judge_any_of r) ≡ false) where
    passes_run : plan_any_verdict r rows ≡ first_of later
    unfolding plan_any_verdict later
    passes_run = first_passes (judge_any_of r) later run

    pub reads_refused : (short : Bool) → short ≡ short_read_rows (length r.numbers) (reads_in rows) → (e : Verdict) → Err e ≡ checked (refuse_if short ShortRow)
        → ListsAny r rows (Err e) (engine_rows rows)
    unfolding later
    reads_refused true is e said =
        rw (same_verdict said) (refused_so_here (record { refusal = ShortRow; place = 0 }) (sym (passes_run ∙ rw (sym is))) refl)
    reads_refused false is e said = one_answer said

    module _ (short : Bool) (is : short ≡ short_read_rows (length r.numbers) (reads_in rows)) (fits : refuses (refuse_if short ShortRow) ≡ false) where
      reads_long : (length r.numbers ≤ length rows.times) × (length r.numbers ≤ length rows.legs)
      reads_long =
          let both = or_false_both _ _ (sym is ∙ accepts_if short ShortRow refl fits) in
          (ltb-false (length rows.times) (length r.numbers) both.0, ltb-false (length rows.legs) (length r.numbers) both.1)

      -- What the engine judges is what is left to judge.
      engine_decides : stops_verdict r (engine_rows rows) ≡ plan_any_verdict r rows
      unfolding later
      engine_decides = rw (le-ltb (length rows.times) (length r.numbers) reads_long.0, le-ltb (length rows.legs) (length r.numbers) reads_long.1) at (sym passes_run)

      pub engine_answers : (x : Result ℕ Verdict) (after : ListRows) → ListsNamed r (engine_rows rows) x after → ListsAny r rows x after
      engine_answers x after l =
          record {
            refused = λ q. subst (λ v. NotListed v (engine_rows rows) x after) engine_decides (l.refused (ap refuses engine_decides ∙ q));
            listed = λ q. l.listed (ap refuses engine_decides ∙ q);
          }

  module _ (n : ℕ) (after : ListRows) (l : ListsAny r rows (Ok n) after) where
    passes : refuses (plan_any_verdict r rows) ≡ false
    passes = go (refuses (plan_any_verdict r rows)) refl
      where
        go : (b : Bool) → refuses (plan_any_verdict r rows) ≡ b → refuses (plan_any_verdict r rows) ≡ false
        go true e = one_answer (sym (l.refused e).says)
        go false e = e

    pub is_named : IsNamed r (engine_rows rows) (Ok n) after
    is_named = l.listed passes

    pub record PlanPasses : Type 0 where
      pub run : refuses (judge_any_of r) ≡ false
      pub times : length r.numbers ≤ length rows.times
      pub legs : length r.numbers ≤ length rows.legs

    pub plan_passes : PlanPasses
    unfolding plan_any_verdict later
    plan_passes =
        let all = all_accept (judge_any_of r ∷ later) passes in
        let four = or_false_both _ _ (accepts_if _ ShortRow refl all.1.0) in
        let three = or_false_both _ _ four.0 in
        let two = or_false_both _ _ three.0 in
        record { run = all.0; times = ltb-false (length rows.times) (length r.numbers) two.0; legs = ltb-false (length rows.legs) (length r.numbers) two.1 }

    pub run_planned : (a : Answer) (end : Rows) → PlannedAny r rows a end → PlansAny r rows a end
    run_planned a end p = record { refused = λ q. absurd (true≢false (sym q ∙ passes)); planned = λ q. p }
