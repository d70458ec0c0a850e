-- The blocks of an extent are exactly those that hold one of its bytes.
use Prim.Native.Nat.{ℕ, ◌+◌, ◌-◌, ◌*◌, ◌/◌, ◌≤◌, ◌<◌}
use mathlib.Core.Path.{◌≡◌}
use native.Mathlib.Omega.{arith}
use native.Mathlib.Decide.{dec_le}
use mathlib.Core.Logic.{by_cases}
use native.Mathlib.Nat.{le-div_iff_mul-le, div-lt_iff_lt-mul, div-mul-le_self, lt-div-mul-add, div-eq_of_lt-le}
use Rattle.tape_spans.specs.declared.Extent.{Extent}
use Rattle.tape_spans.specs.Spans.{byte_start, byte_end}
use Rattle.tape_spans.specs.Promises.{HoldsByte, LiesBetween, BlocksHoldBytes}

module _ (size s t block : ℕ) (some : 0 < size) where
  -- A byte of a block between two places: the block's first, or the first place.
  pub block_from : s / size ≤ block → s < (block + 1) * size
  block_from l = (div-lt_iff_lt-mul {k = size} {x = s} {y = block + 1} some).0 (omega arith)

  pub block_to : block < (t + (size - 1)) / size → block * size < t
  block_to l =
      let h : (block + 1) * size ≤ t + (size - 1) = (le-div_iff_mul-le {k = size} {x = block + 1} {y = t + (size - 1)} some).0 (omega arith) in
      let m = native.Mathlib.Nat.add-mul block 1 size in
      omega arith

  pub from_byte : (place : ℕ) → s ≤ place → place / size ≡ block → s / size ≤ block
  from_byte place l e = let h : place < (block + 1) * size = (div-lt_iff_lt-mul {k = size} {x = place} {y = block + 1} some).0 (omega arith) in let g = (div-lt_iff_lt-mul {k = size} {x = s} {y = block + 1} some).1 (omega arith) in omega arith

  pub to_byte : (place : ℕ) → place < t → place / size ≡ block → block < (t + (size - 1)) / size
  to_byte place l e =
      let h : block * size ≤ place = (le-div_iff_mul-le {k = size} {x = block} {y = place} some).0 (omega arith) in
      let m = native.Mathlib.Nat.add-mul block 1 size in
      let g = (le-div_iff_mul-le {k = size} {x = block + 1} {y = t + (size - 1)} some).1 (omega arith) in
      omega arith

module _ (size : ℕ) (e : Extent) (block : ℕ) (some : 0 < size) (long : 0 < e.count) where
  holds : LiesBetween size e block → HoldsByte size e block
  holds l =
      let f : byte_start size e < (block + 1) * size = block_from size (byte_start size e) (byte_end size e) block some l.0 in
      let t : block * size < byte_end size e = block_to size (byte_start size e) (byte_end size e) block some l.1 in
      let m : (block + 1) * size ≡ block * size + 1 * size = native.Mathlib.Nat.add-mul block 1 size in
      by_cases (dec_le (byte_start size e) (block * size))
      (λ h. record { place = block * size; first = h; last = t; there = div-eq_of_lt-le {k = block} size {m = block * size} (omega arith) (omega arith) })
      (λ h. record { place = byte_start size e; first = omega arith; last = omega arith; there = div-eq_of_lt-le {k = block} size {m = byte_start size e} (omega arith) f })

  lies : HoldsByte size e block → LiesBetween size e block
  lies h = (
    from_byte size (byte_start size e) (byte_end size e) block some h.place h.first h.there,
    to_byte size (byte_start size e) (byte_end size e) block some h.place h.last h.there,
  )

pub blocks_hold_bytes : BlocksHoldBytes
blocks_hold_bytes size e block some long = (holds size e block some long, lies size e block some long)
