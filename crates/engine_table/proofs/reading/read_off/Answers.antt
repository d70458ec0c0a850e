-- What is written, what the window still lists and what the waiting windows owe are the whole list.
use mathlib.Core.Path.{refl}
use mir.Syntax.{w8, w16, w64}
use mir.Val.{Fits}
use Rattle.runs.specs.Run.{most_reads}
use Rattle.engine_table.proofs.Facts.{even_counts, few_stops, few_reads_lem}
use Rattle.engine_table.proofs.Sizes.{stop_fits, in_both, past_some}
use Rattle.engine_table.proofs.ReadLoop.{read_starts, stack_room, window_asked, skips_small, read_skip, read_push, frame, frame_depth, from_room, to_room, read_pop, read_ends}
use Prim.Native.Nat.{ℕ, ◌+◌, ◌-◌, ◌*◌, ◌≤◌, ◌<◌}
use native.Mathlib.Omega.{arith}
use Rattle.engine_table.proofs.reading.read_off.Goals as goal

-- Numbers below a count of at most 64 stops, or of at most 1,024 reads, fit; and so does a place in the rows of 64 entries.
stop-narrow : (n k : ℕ) → n < k → k ≤ 64 → Fits w8 n
stop-narrow n k h few = omega arith

reads_fit : (n m k : ℕ) → n + m ≤ k → k ≤ most_reads → Fits w64 n
reads_fit n m k h few = omega arith

reads-narrow : (n m k : ℕ) → n + m ≤ k → k ≤ most_reads → Fits w16 n
reads-narrow n m k h few = omega arith

sum_fits : (n : ℕ) → n ≤ 1024 → Fits w64 n
sum_fits n h = omega arith

top-inside : (d : ℕ) → (0 < d) × (d ≤ 64) → d - 1 < 64
top-inside d h = omega (arith, h.0, h.1)

top-bytes : (d : ℕ) → (0 < d) × (d ≤ 64) → Fits w64 ((d - 1) * 2)
top-bytes d h = omega (arith, h.1)

next-bytes : (d : ℕ) → d < 64 → Fits w64 (d * 2)
next-bytes d h = omega arith

next_fits : (d : ℕ) → d < 64 → Fits w64 (d + 1)
next_fits d h = omega arith

edge-fits : (e a k : ℕ) → e < a → a < k → k ≤ 64 → Fits w64 e
edge-fits e a k h l few = omega arith

pub loop-b-init : goal.loop-b-init
loop-b-init c = read_starts _ _ _ _ _ _ _ _ _ _ _ c.requires.filled.judged c.requires.numbers_nonzero c.requires.numbers_in_bounds c.requires.numbers_in_bounds_2 refl refl refl

pub shape_of-froms-then-depth-eq0 : goal.shape_of-froms-then-depth-eq0
shape_of-froms-then-depth-eq0 c = c.loop-b.invariant.same_froms

pub shape_of-tos-then-depth-eq0 : goal.shape_of-tos-then-depth-eq0
shape_of-tos-then-depth-eq0 c = c.loop-b.invariant.same_tos

pub returns-then-depth-eq0 : goal.returns-then-depth-eq0
returns-then-depth-eq0 c = read_ends _ _ _ _ _ _ _ c.requires.filled _ _ _ _ _ _ _ _ _ _ _ _ c.loop-b.invariant c.if-b-a.true c.if-depth-eq0.true

pub bounds-numbers-a : goal.bounds-numbers-a
bounds-numbers-a c = c.loop-b.invariant.left_in

pub bounds-froms-n : goal.bounds-froms-n
bounds-froms-n c = from_room _ _ _ _ _ _ _ c.requires.filled _ _ _ _ _ _ _ _ _ _ _ _ c.loop-b.invariant c.if-b-a.true c.if-depth-eq0.false

pub bounds-ends-depth : goal.bounds-ends-depth
bounds-ends-depth c = top-inside _ (frame_depth _ _ _ _ _ _ _ c.requires.filled _ _ _ _ _ _ _ _ _ _ _ _ c.loop-b.invariant c.if-b-a.true c.if-depth-eq0.false)

pub overflow_cast-tos : goal.overflow_cast-tos
overflow_cast-tos c = stop_fits _ _ (frame _ _ _ _ _ _ _ c.requires.filled _ _ _ _ _ _ _ _ _ _ _ _ c.loop-b.invariant c.if-b-a.true c.if-depth-eq0.false).end (few_stops _ _ _ _ _ _ c.requires.filled.judged)

pub bounds-numbers-ends : goal.bounds-numbers-ends
bounds-numbers-ends c = (frame _ _ _ _ _ _ _ c.requires.filled _ _ _ _ _ _ _ _ _ _ _ _ c.loop-b.invariant c.if-b-a.true c.if-depth-eq0.false).end

pub bounds-tos-n : goal.bounds-tos-n
bounds-tos-n c = to_room _ _ _ _ _ _ _ c.requires.filled _ _ _ _ _ _ _ _ _ _ _ _ c.loop-b.invariant c.if-b-a.true c.if-depth-eq0.false

pub overflow_add-n : goal.overflow_add-n
overflow_add-n c = omega (arith, c.well_formed, c.loop-b.invariant.same_tos, to_room _ _ _ _ _ _ _ c.requires.filled _ _ _ _ _ _ _ _ _ _ _ _ c.loop-b.invariant c.if-b-a.true c.if-depth-eq0.false)

pub overflow_sub-b-then-b-a : goal.overflow_sub-b-then-b-a
overflow_sub-b-then-b-a c = past_some _ _ (frame _ _ _ _ _ _ _ c.requires.filled _ _ _ _ _ _ _ _ _ _ _ _ c.loop-b.invariant c.if-b-a.true c.if-depth-eq0.false).edge

pub offset_bounds-skips-depth : goal.offset_bounds-skips-depth
offset_bounds-skips-depth c = top-bytes _ (frame_depth _ _ _ _ _ _ _ c.requires.filled _ _ _ _ _ _ _ _ _ _ _ _ c.loop-b.invariant c.if-b-a.true c.if-depth-eq0.false)

pub bounds-skips-depth : goal.bounds-skips-depth
bounds-skips-depth c = top-inside _ (frame_depth _ _ _ _ _ _ _ c.requires.filled _ _ _ _ _ _ _ _ _ _ _ _ c.loop-b.invariant c.if-b-a.true c.if-depth-eq0.false)

pub overflow_cast-s : goal.overflow_cast-s
overflow_cast-s c = reads_fit _ _ _ (frame _ _ _ _ _ _ _ c.requires.filled _ _ _ _ _ _ _ _ _ _ _ _ c.loop-b.invariant c.if-b-a.true c.if-depth-eq0.false).span (few_reads_lem _ _ _ _ _ _ c.requires.filled.judged)

pub bounds-edges-depth : goal.bounds-edges-depth
bounds-edges-depth c = top-inside _ (frame_depth _ _ _ _ _ _ _ c.requires.filled _ _ _ _ _ _ _ _ _ _ _ _ c.loop-b.invariant c.if-b-a.true c.if-depth-eq0.false)

pub overflow_cast-a : goal.overflow_cast-a
overflow_cast-a c = edge-fits _ _ _ (frame _ _ _ _ _ _ _ c.requires.filled _ _ _ _ _ _ _ _ _ _ _ _ c.loop-b.invariant c.if-b-a.true c.if-depth-eq0.false).edge c.loop-b.invariant.left_in (few_stops _ _ _ _ _ _ c.requires.filled.judged)

pub loop-b-smaller-then-b-a : goal.loop-b-smaller-then-b-a
loop-b-smaller-then-b-a c = omega (arith, (frame_depth _ _ _ _ _ _ _ c.requires.filled _ _ _ _ _ _ _ _ _ _ _ _ c.loop-b.invariant c.if-b-a.true c.if-depth-eq0.false), (frame _ _ _ _ _ _ _ c.requires.filled _ _ _ _ _ _ _ _ _ _ _ _ c.loop-b.invariant c.if-b-a.true c.if-depth-eq0.false).edge, c.loop-b.invariant.left)

pub loop-b-preserved-then-b-a : goal.loop-b-preserved-then-b-a
loop-b-preserved-then-b-a c = read_pop _ _ _ _ _ _ _ c.requires.filled _ _ _ _ _ _ _ _ _ _ _ _ c.loop-b.invariant c.if-b-a.true c.if-depth-eq0.false

pub choice_of-c-requires : goal.choice_of-c-requires
choice_of-c-requires c = window_asked _ _ _ _ _ _ _ c.requires.filled _ _ _ _ _ _ _ _ _ _ _ _ c.loop-b.invariant c.if-b-a.false

pub bounds-counts-b : goal.bounds-counts-b
bounds-counts-b c = in_both _ _ _ c.loop-b.invariant.inside (even_counts _ _ _ _ _ _ c.requires.filled.judged)

pub overflow_add-s : goal.overflow_add-s
overflow_add-s c = sum_fits _ (skips_small _ _ _ _ _ _ _ c.requires.filled _ _ _ _ _ _ _ _ _ _ _ _ c.loop-b.invariant c.if-b-a.false)

pub loop-b-preserved-then-c-eq0 : goal.loop-b-preserved-then-c-eq0
loop-b-preserved-then-c-eq0 c = read_skip _ _ _ _ _ _ _ c.requires.filled _ _ _ _ _ _ _ _ _ _ _ _ c.loop-b.invariant c.if-b-a.false _ c.choice_of-c.ensures c.if-c-eq0.true

pub overflow_cast-edges : goal.overflow_cast-edges
overflow_cast-edges c = stop-narrow _ _ c.loop-b.invariant.left_in (few_stops _ _ _ _ _ _ c.requires.filled.judged)

pub bounds-edges-depth-else-c-eq0 : goal.bounds-edges-depth-else-c-eq0
bounds-edges-depth-else-c-eq0 c = stack_room _ _ _ _ _ _ _ c.requires.filled _ _ _ _ _ _ _ _ _ _ _ _ c.loop-b.invariant c.if-b-a.false

pub overflow_cast-ends : goal.overflow_cast-ends
overflow_cast-ends c = stop-narrow _ _ c.loop-b.invariant.inside (few_stops _ _ _ _ _ _ c.requires.filled.judged)

pub bounds-ends-depth-else-c-eq0 : goal.bounds-ends-depth-else-c-eq0
bounds-ends-depth-else-c-eq0 c = stack_room _ _ _ _ _ _ _ c.requires.filled _ _ _ _ _ _ _ _ _ _ _ _ c.loop-b.invariant c.if-b-a.false

pub overflow_cast-skips : goal.overflow_cast-skips
overflow_cast-skips c = reads-narrow _ _ _ c.loop-b.invariant.span (few_reads_lem _ _ _ _ _ _ c.requires.filled.judged)

pub offset_bounds-skips-depth-else-c-eq0 : goal.offset_bounds-skips-depth-else-c-eq0
offset_bounds-skips-depth-else-c-eq0 c = next-bytes _ (stack_room _ _ _ _ _ _ _ c.requires.filled _ _ _ _ _ _ _ _ _ _ _ _ c.loop-b.invariant c.if-b-a.false)

pub bounds-skips-depth-else-c-eq0 : goal.bounds-skips-depth-else-c-eq0
bounds-skips-depth-else-c-eq0 c = stack_room _ _ _ _ _ _ _ c.requires.filled _ _ _ _ _ _ _ _ _ _ _ _ c.loop-b.invariant c.if-b-a.false

pub overflow_add-depth : goal.overflow_add-depth
overflow_add-depth c = next_fits _ (stack_room _ _ _ _ _ _ _ c.requires.filled _ _ _ _ _ _ _ _ _ _ _ _ c.loop-b.invariant c.if-b-a.false)

pub bounds-counts-b-else-c-eq0 : goal.bounds-counts-b-else-c-eq0
bounds-counts-b-else-c-eq0 c = in_both _ _ _ c.loop-b.invariant.inside (even_counts _ _ _ _ _ _ c.requires.filled.judged)

pub overflow_add-s-else-c-eq0 : goal.overflow_add-s-else-c-eq0
overflow_add-s-else-c-eq0 c = sum_fits _ (skips_small _ _ _ _ _ _ _ c.requires.filled _ _ _ _ _ _ _ _ _ _ _ _ c.loop-b.invariant c.if-b-a.false)

pub loop-b-preserved : goal.loop-b-preserved
loop-b-preserved c = read_push _ _ _ _ _ _ _ c.requires.filled _ _ _ _ _ _ _ _ _ _ _ _ c.loop-b.invariant c.if-b-a.false _ c.choice_of-c.ensures c.if-c-eq0.false
