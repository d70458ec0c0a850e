-- The range of a file on the tape: of its extents those with a byte count above 0 count; from the least start to the greatest end, in bytes or in blocks.
use Rattle.std.specs.Prelude.{ℕ, suc, ◌+◌, ◌-◌, ◌*◌, ◌/◌, min, max, true, false, cond, not, ◌||◌, List, [], ◌∷◌, eqb}
use Rattle.runs.specs.Run.{last_place}
use Rattle.tape_spans.specs.declared.Extent.{Extent}
use Rattle.tape_spans.specs.declared.Span.{Span}

-- All places above the limit count as one.
abbrev pub beyond : ℕ
beyond = suc last_place

abbrev pub near : ℕ → ℕ
near place = min beyond place

-- Where an extent starts and ends, in bytes. Whole numbers: nothing wraps.
abbrev pub byte_start : ℕ → Extent → ℕ
byte_start size e = e.block * size + e.offset

abbrev pub byte_end : ℕ → Extent → ℕ
byte_end size e = byte_start size e + e.count

-- The same in blocks: the start rounded down, the end rounded up. (Block size 0 is refused before.)
abbrev pub block_start : ℕ → Extent → ℕ
block_start size e = byte_start size e / size

abbrev pub block_end : ℕ → Extent → ℕ
block_end size e = (byte_end size e + (size - 1)) / size

-- Unit 0 is bytes, any other blocks.
unfoldable pub place_start : ℕ → ℕ → Extent → ℕ
place_start unit size e = cond (eqb unit 0) (byte_start size e) (block_start size e)

unfoldable pub place_end : ℕ → ℕ → Extent → ℕ
place_end unit size e = cond (eqb unit 0) (byte_end size e) (block_end size e)

-- No extent yet.
abbrev pub no_span : Span
no_span = record { some = false; elsewhere = false; start = 0; end = 0 }

-- One extent more: whether there is one with bytes, whether one of these lies in another partition than that of the data, the least start, the greatest end.
unfoldable pub span_with : ℕ → ℕ → ℕ → Span → Extent → Span
span_with unit size partition span e =
    cond (eqb e.count 0) span
    (record {
      some = true;
      elsewhere = span.elsewhere || not (eqb e.partition partition);
      start = cond span.some (min span.start (near (place_start unit size e))) (near (place_start unit size e));
      end = cond span.some (max span.end (near (place_end unit size e))) (near (place_end unit size e));
    })

unfoldable pub span_from : ℕ → ℕ → ℕ → Span → List Extent → Span
span_from unit size partition span [] = span
span_from unit size partition span (e ∷ extents) = span_from unit size partition (span_with unit size partition span e) extents

-- The range of a file by its extents.
abbrev pub span_of : ℕ → ℕ → ℕ → List Extent → Span
span_of unit size partition extents = span_from unit size partition no_span extents
