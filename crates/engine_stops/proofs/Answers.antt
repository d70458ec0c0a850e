-- The joining's verdict, answer and rows, step by step as the code judges.
use Prim.Native.Nat.{ℕ, ◌≤◌}
use mathlib.Core.Path.{◌≡◌, refl, sym, ap, ◌∙◌}
use mathlib.Core.Bool.{Bool, false, ◌||◌}
use mathlib.Core.List.{List, [], ◌∷◌}
use lib.ListN.{length}
use lib.Dec.{ltb}
use borrow.Author.Tests.{ltb-false}
use Rattle.refusals.specs.declared.Refusal.TheVariants.{ShortRow}
use Rattle.refusals.specs.declared.Verdict.{Verdict}
use Rattle.std.specs.Prelude.{Result, Ok, Err}
use Rattle.refusals.specs.Refusals.{accepted, checked, refuse_if}
use Rattle.refusals.proofs.Checked.{Refuses, stopped}
use Rattle.refusals.proofs.Verdicts.{refuses, first_refuses, first_passes, accepts_if, last_if}
use Rattle.runs.specs.Run.{Run, stops_of}
use Rattle.runs.specs.Judging.{judge_of}
use Rattle.runs.proofs.Search.{or_false_both}
use Rattle.engine_stops.specs.Joining.{JoinRows, join_rows, short_join_rows, join_verdict, join_answer, join_rows_with, join_rows_of}

-- A verdict that refuses, and one that does not: what is answered and what stands in the rows.
pub record Answered (r : Run) (before : JoinRows) (answer : Result ℕ Verdict) (after : JoinRows) : Type 0 where
  pub says : answer ≡ join_answer r before
  pub rows : after ≡ join_rows_of r before

-- The run is refused; or a row is too short; or neither.
module _ (r : Run) (rows : JoinRows) where
  refuse_so : (v e : Verdict) → v ≡ join_verdict r rows → Refuses v e → Answered r rows (Err e) rows
  unfolding join_answer join_rows_of
  refuse_so v e v-is s = record { says = rw (← s.is, ← v-is, s.so); rows = rw (← v-is, s.so) }

  pub run_refused : (e : Verdict) → Err e ≡ checked (judge_of r) → Answered r rows (Err e) rows
  unfolding join_verdict
  run_refused e said =
      let s = stopped (judge_of r) e said in
      refuse_so (judge_of r) e (first_refuses (judge_of r) (refuse_if (short_join_rows (length (stops_of r)) rows) ShortRow ∷ []) s.so) s

  module _ (run : refuses (judge_of r) ≡ false) (stops : ℕ) (stops-is : stops ≡ length (stops_of r)) (short : Bool) (short-is : short ≡ short_join_rows stops rows) where
    verdict_is_here : (v : Verdict) → v ≡ refuse_if short ShortRow → v ≡ join_verdict r rows
    unfolding join_verdict
    verdict_is_here v v-is =
        last_if ShortRow refl v-is (short-is ∙ ap (λ k. short_join_rows k rows) stops-is)
        ∙ sym (first_passes (judge_of r) (refuse_if (short_join_rows (length (stops_of r)) rows) ShortRow ∷ []) run)

    pub rows_refused_lem : (e : Verdict) → Err e ≡ checked (refuse_if short ShortRow) → Answered r rows (Err e) rows
    rows_refused_lem e said = let s = stopped (refuse_if short ShortRow) e said in refuse_so (refuse_if short ShortRow) e (verdict_is_here (refuse_if short ShortRow) refl) s

    long : refuses (refuse_if short ShortRow) ≡ false → accepted ≡ join_verdict r rows
    long h = verdict_is_here accepted (rw (accepts_if short ShortRow refl h))

    pub rows_accepted : refuses (refuse_if short ShortRow) ≡ false → (after : JoinRows) → after ≡ join_rows_with (stops_of r) rows
        → Answered r rows (Ok stops) after
    unfolding join_answer join_rows_of
    rows_accepted h after after_is = record { says = rw (← long h, stops-is); rows = rw (← long h) after_is }

    -- The rows are long enough.
    pub record LongRows : Type 0 where
      pub firsts : stops ≤ length rows.firsts
      pub lefts : stops ≤ length rows.lefts
      pub spans : stops ≤ length rows.spans
      pub reads : stops ≤ length rows.reads

    pub rows_long : refuses (refuse_if short ShortRow) ≡ false → LongRows
    rows_long h =
        let none : short_join_rows stops rows ≡ false = sym short-is ∙ accepts_if short ShortRow refl h in
        let four = or_false_both (ltb (length rows.firsts) stops || ltb (length rows.lefts) stops || ltb (length rows.spans) stops) (ltb (length rows.reads) stops) none in
        let three = or_false_both (ltb (length rows.firsts) stops || ltb (length rows.lefts) stops) (ltb (length rows.spans) stops) four.0 in
        let two = or_false_both (ltb (length rows.firsts) stops) (ltb (length rows.lefts) stops) three.0 in
        record {
          firsts = ltb-false _ _ two.0;
          lefts = ltb-false _ _ two.1;
          spans = ltb-false _ _ three.1;
          reads = ltb-false _ _ four.1;
        }

pub four_rows_lem : {f l s r f' l' s' r' : List ℕ} → f ≡ f' → l ≡ l' → s ≡ s' → r ≡ r' → join_rows f l s r ≡ join_rows f' l' s' r'
four_rows_lem a b c d = rw (a, b, c, d) refl
