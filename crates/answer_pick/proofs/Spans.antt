-- A file with bytes starts before it ends, where its end is within the limit; in bytes, and in blocks of a size above 0.
use Prim.Native.Nat.{ℕ, ◌+◌, ◌-◌, ◌/◌, ◌≤◌, ◌<◌, min, max}
use mathlib.Core.Path.{◌≡◌, refl}
use mathlib.Core.Bool.{Bool, true, false, cond, not, ◌||◌, false≢true}
use mathlib.Core.List.{List, [], ◌∷◌}
use native.Mathlib.Omega.{arith}
use native.Mathlib.Decide.{dec_lt}
use lib.Dec.{eqb}
use borrow.Author.Tests.{eqb-false}
use Rattle.runs.specs.Run.{last_place}
use Rattle.tape_spans.specs.declared.Extent.{Extent}
use Rattle.tape_spans.specs.declared.Span.{Span}
use Rattle.tape_spans.specs.Spans.{near, byte_start, byte_end, place_start, place_end, span_with, span_from, no_span, span_of}
use Rattle.tape_spans.proofs.Blocks.{to_byte}

-- A unit that can be counted in.
abbrev Counted : ℕ → ℕ → Type 0
Counted unit size = (eqb unit 0 ≡ false) → 0 < size

-- A span, as far as it is known.
record Lying (span : Span) : Type 0 where
  before : span.some ≡ true → span.end ≤ last_place → span.start < span.end

module _ (unit size partition : ℕ) (counted : Counted unit size) where
  place_long : (e : Extent) → 0 < e.count → place_start unit size e < place_end unit size e
  unfolding place_start place_end
  place_long e c = go (eqb unit 0) refl
    where
      go : (t : Bool) → eqb unit 0 ≡ t → cond t (byte_start size e) (byte_start size e / size) < cond t (byte_end size e) ((byte_end size e + (size - 1)) / size)
      go true h = omega arith
      go false h = to_byte size (byte_start size e) (byte_end size e) (byte_start size e / size) (counted h) (byte_start size e) (omega arith) refl

  lying_with : (span : Span) (e : Extent) → Lying span → Lying (span_with unit size partition span e)
  unfolding span_with
  lying_with span e p = go (eqb e.count 0) refl
    where
      s : ℕ
      s = place_start unit size e

      t : ℕ
      t = place_end unit size e

      grown : 0 < e.count → (b : Bool) → span.some ≡ b
          → cond b (max span.end (near (place_end unit size e))) (near (place_end unit size e)) ≤ last_place
          → cond b (min span.start (near (place_start unit size e))) (near (place_start unit size e)) < cond b (max span.end (near (place_end unit size e))) (near (place_end unit size e))
      grown c true h l = omega (arith, place_long e c, p.before h (omega arith))
      grown c false h l = omega (arith, place_long e c)

      go : (z : Bool) → eqb e.count 0 ≡ z
          → Lying
          (cond z span
          (record {
            some = true;
            elsewhere = span.elsewhere || not (eqb e.partition partition);
            start = cond span.some (min span.start (near (place_start unit size e))) (near (place_start unit size e));
            end = cond span.some (max span.end (near (place_end unit size e))) (near (place_end unit size e));
          }))
      go true h = p
      go false h = record { before = λ _ l. grown (count_some_here (eqb-false e.count 0 h)) span.some refl l }
        where
          count_some_here : (e.count ≡ 0 → ⊥) → 0 < e.count
          count_some_here n = elim (dec_lt 0 e.count) [ yes k ↦ k | no k ↦ absurd (n (omega arith)) ]

  lying_from : (extents : List Extent) (span : Span) → Lying span → Lying (span_from unit size partition span extents)
  unfolding span_from
  lying_from [] span p = p
  lying_from (e ∷ extents) span p = lying_from extents (span_with unit size partition span e) (lying_with span e p)

  pub span_long : (extents : List Extent) → (span_of unit size partition extents).some ≡ true → (span_of unit size partition extents).end ≤ last_place
      → (span_of unit size partition extents).start < (span_of unit size partition extents).end
  span_long extents = (lying_from extents no_span (record { before = λ e _. absurd (false≢true e) })).before
