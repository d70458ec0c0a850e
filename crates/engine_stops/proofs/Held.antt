-- The joining in fresh rows of n entries, for the engines: where they are enough it refuses what the judging refuses, and otherwise the rows hold
-- the run's stops.
use Prim.Native.Nat.{ℕ, ◌≤◌}
use mathlib.Core.Path.{◌≡◌, refl, sym, ap, ◌∙◌}
use mathlib.Core.Bool.{Bool, true, false}
use mathlib.Core.List.{List, [], ◌∷◌, map}
use native.Mathlib.Omega.{arith}
use lib.ListN.{length, take, drop, length-map, length-append, length-replicate}
use lib.Seq.{take_at}
use borrow.Author.Tests.{le-ltb}
use Rattle.refusals.specs.declared.Refusal.TheVariants.{ShortRow}
use Rattle.refusals.specs.declared.Verdict.{Verdict}
use Rattle.std.specs.Prelude.{Ok, Err}
use Rattle.refusals.specs.Refusals.{accepted, refuse_if, first_of}
use Rattle.refusals.proofs.Checked.{Refuses}
use Rattle.refusals.proofs.Verdicts.{refuses, first_refuses, first_passes, none_refuses}
use Rattle.runs.specs.Run.{Run, Stop, stops_of}
use Rattle.runs.specs.Judging.{right_end}
use Rattle.runs.specs.Alone.{zeros}
use Rattle.runs.specs.Judging.{judge_of, table_checks, wants_checks, head_checks}
use Rattle.engine_stops.proofs.Said.{answer_refuses, answer_accepts}
use Rattle.engine_stops.specs.Joining.{JoinRows, join_rows, short_join_rows, join_verdict, join_answer, join_rows_of, join_rows_with, row_with, length_of}

judge_accepted : (r : Run) → refuses (judge_of r) ≡ false → judge_of r ≡ accepted
unfolding judge_of
judge_accepted r e =
    none_refuses
    (first_of (table_checks r.starts r.lengths r.aggregates)
    ∷ first_of (wants_checks (length r.starts) r.numbers r.counts)
    ∷ first_of (head_checks r.turn r.head (right_end (stops_of r)))
    ∷ []) e

-- The rows that joining is lent.
abbrev pub fresh_rows : ℕ → JoinRows
fresh_rows n = join_rows (zeros n) (zeros n) (zeros n) (zeros n)

-- Their first entries: as many as there are stops, and those are the stops'.
pub record Front (k : ℕ) (rows : JoinRows) (ss : List Stop) : Type 0 where
  pub firsts : (k ≤ length rows.firsts) × (take k rows.firsts ≡ map (λ s. s.file) ss)
  pub lefts : (k ≤ length rows.lefts) × (take k rows.lefts ≡ map (λ s. s.start) ss)
  pub spans : (k ≤ length rows.spans) × (take k rows.spans ≡ map length_of ss)
  pub reads : (k ≤ length rows.reads) × (take k rows.reads ≡ map (λ s. s.count) ss)

module _ (r : Run) (n : ℕ) where
  none_short : length (stops_of r) ≤ n → short_join_rows (length (stops_of r)) (fresh_rows n) ≡ false
  none_short h = rw (length-replicate {A = ℕ} n 0, le-ltb n (length (stops_of r)) h)

  pub join_refused : refuses (judge_of r) ≡ true → join_verdict r (fresh_rows n) ≡ judge_of r
  unfolding join_verdict
  join_refused e = sym (first_refuses (judge_of r) (refuse_if (short_join_rows (length (stops_of r)) (fresh_rows n)) ShortRow ∷ []) e)

  module _ (enough : refuses (judge_of r) ≡ false → length (stops_of r) ≤ n) where
    pub join_judges : join_verdict r (fresh_rows n) ≡ judge_of r
    unfolding join_verdict
    join_judges = go (refuses (judge_of r)) refl
      where
        go : (b : Bool) → refuses (judge_of r) ≡ b → join_verdict r (fresh_rows n) ≡ judge_of r
        go true e = join_refused e
        go false e =
            first_passes (judge_of r) (refuse_if (short_join_rows (length (stops_of r)) (fresh_rows n)) ShortRow ∷ []) e
            ∙ ap (λ b. first_of (refuse_if b ShortRow ∷ [])) (none_short (enough e)) ∙ sym (judge_accepted r e)

    -- Where it answers a refusal, that is what the judging refuses; where it answers a number, the judging accepts and so many are the stops.
    pub join_stopped : (e : Verdict) → Err e ≡ join_answer r (fresh_rows n) → Refuses (judge_of r) e
    unfolding join_answer
    join_stopped e said = answer_refuses (judge_of r) (length (stops_of r)) e (rw join_judges at said)

    pub join_passed : (k : ℕ) → Ok k ≡ join_answer r (fresh_rows n) → refuses (judge_of r) ≡ false
    unfolding join_answer
    join_passed k said = (answer_accepts (judge_of r) (length (stops_of r)) k (rw join_judges at said)).passes

    pub join_stops : (k : ℕ) → Ok k ≡ join_answer r (fresh_rows n) → k ≡ length (stops_of r)
    unfolding join_answer
    join_stops k said = (answer_accepts (judge_of r) (length (stops_of r)) k (rw join_judges at said)).is

    pub join_accepts : refuses (judge_of r) ≡ false → Ok (length (stops_of r)) ≡ join_answer r (fresh_rows n)
    unfolding join_answer
    join_accepts e = rw (join_judges, e)

    module _ (k : ℕ) (said : Ok k ≡ join_answer r (fresh_rows n)) (after : JoinRows) (after_is : after ≡ join_rows_of r (fresh_rows n)) where
      rows_are : after ≡ join_rows_with (stops_of r) (fresh_rows n)
      unfolding join_rows_of
      rows_are = rw (join_judges, join_passed k said) at after_is

      column : (g : Stop → ℕ) (row row' : List ℕ) → row' ≡ row_with g (stops_of r) row → (k ≤ length row') × (take k row' ≡ map g (stops_of r))
      column g row row' is = (
        omega (arith, join_stops k said, ap length is, length-append (map g (stops_of r)) (drop (length (stops_of r)) row), length-map (stops_of r) g),
        ap (take k) is ∙ take_at (map g (stops_of r)) (drop (length (stops_of r)) row) k (length-map (stops_of r) g ∙ sym (join_stops k said)),
      )

      pub join_front : Front k after (stops_of r)
      join_front =
          record {
            firsts = column (λ s. s.file) (zeros n) after.firsts (ap (λ x. x.firsts) rows_are);
            lefts = column (λ s. s.start) (zeros n) after.lefts (ap (λ x. x.lefts) rows_are);
            spans = column length_of (zeros n) after.spans (ap (λ x. x.spans) rows_are);
            reads = column (λ s. s.count) (zeros n) after.reads (ap (λ x. x.reads) rows_are);
          }
