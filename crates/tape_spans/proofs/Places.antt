-- Sums, products and quotients up to the limit.
use Prim.Native.Nat.{ℕ, ◌+◌, ◌-◌, ◌*◌, ◌/◌, ◌%◌, ◌≤◌, ◌<◌}
use mathlib.Core.Path.{◌≡◌, ap, sym, ◌∙◌}
use native.Mathlib.Omega.{arith}
use native.Mathlib.Nat.{div-zero, mul-add-div_right, div-add-mod', div-eq_of_lt-le, div-eq_of_lt, mod-lt, div-lt_iff_lt-mul}
use borrow.Author.Tests.{eq-eqb, ne_eqb}
use Rattle.tape_spans.specs.declared.Extent.{Extent}
use Rattle.tape_spans.specs.Spans.{near, place_start, place_end}
use Rattle.tape_spans.specs.Private.{blocks_from, blocks_to, blocks_of_parts}

-- In blocks.
pub start_no_size : (size block offset : ℕ) → size ≡ 0 → 0 ≡ near (blocks_from size block offset)
start_no_size size block offset e = let z : (block * size + offset) / size ≡ 0 = rw e (div-zero (block * 0 + offset)) in omega arith

pub end_no_size : (size block offset count : ℕ) → size ≡ 0 → 0 ≡ near (blocks_to size block offset count)
end_no_size size block offset count e =
    let z : (block * size + offset + count + (size - 1)) / size ≡ 0 = rw e (div-zero (block * 0 + offset + count + (0 - 1))) in
    omega arith

pub start_in_blocks : (size block offset : ℕ) → (size ≡ 0 → ⊥) → near (block + offset / size) ≡ near (blocks_from size block offset)
start_in_blocks size block offset n = ap near (sym (mul-add-div_right {m = size} (omega arith) block offset))

-- Two parts of a block.
module _ (size a b : ℕ) (la : a < size) (lb : b < size) where
  pub no_parts : a ≡ 0 → b ≡ 0 → 0 ≡ blocks_of_parts size a b
  no_parts e f = sym (div-eq_of_lt {n = a + b + (size - 1)} {m = size} (omega arith))

  pub one_part : 0 < a + b → a + b ≤ size → 1 ≡ blocks_of_parts size a b
  one_part s l = sym (div-eq_of_lt-le {k = 1} size {m = a + b + (size - 1)} (omega arith) (omega arith))

  pub two_parts : size < a + b → 2 ≡ blocks_of_parts size a b
  two_parts s = sym (div-eq_of_lt-le {k = 2} size {m = a + b + (size - 1)} (omega arith) (omega arith))

-- All blocks, by whole ones and the parts.
pub end_in_blocks : (size block offset count : ℕ) → (size ≡ 0 → ⊥)
    → block + offset / size + count / size + blocks_of_parts size (offset % size) (count % size) ≡ blocks_to size block offset count
end_in_blocks size block offset count n =
    let o = div-add-mod' offset size in
    let c = div-add-mod' count size in
    let whole : block * size + offset + count + (size - 1) ≡ (block + offset / size + count / size) * size + (offset % size + count % size + (size - 1)) = parts (offset / size) (offset % size) (count / size) (count % size) o c in
    sym (ap (λ (x : ℕ). x / size) whole ∙ mul-add-div_right {m = size} (omega arith) (block + offset / size + count / size) (offset % size + count % size + (size - 1)))
  where
    parts : (p r q s : ℕ) → p * size + r ≡ offset → q * size + s ≡ count → block * size + offset + count + (size - 1) ≡ (block + p + q) * size + (r + s + (size - 1))
    parts p r q s o c = omega (arith, native.Mathlib.Nat.add-mul (block + p) q size, native.Mathlib.Nat.add-mul block p size)

pub parts_fit : (size offset count : ℕ) → (size ≡ 0 → ⊥) → (offset % size < size) × (count % size < size)
parts_fit size offset count n = (mod-lt offset (omega arith), mod-lt count (omega arith))

chained : (x y z parts first second r : ℕ) → first ≡ near (x + y) → second ≡ near (first + z) → r ≡ near (second + parts) → r ≡ near (x + y + z + parts)
chained x y z parts first second r e f g = omega arith

pub end_near : (size block offset count parts first second r : ℕ) → (size ≡ 0 → ⊥) → parts ≡ blocks_of_parts size (offset % size) (count % size)
    → first ≡ near (block + offset / size) → second ≡ near (first + count / size) → r ≡ near (second + parts) → r ≡ near (blocks_to size block offset count)
end_near size block offset count parts first second r n p e f g =
    chained block (offset / size) (count / size) parts first second r e f g
    ∙ ap near (ap (λ (x : ℕ). block + offset / size + count / size + x) p ∙ end_in_blocks size block offset count n)

-- In bytes or in blocks.
module _ (unit size : ℕ) (e : Extent) where
  pub start_bytes : unit ≡ 0 → near (e.block * size + e.offset) ≡ near (place_start unit size e)
  unfolding place_start
  start_bytes u = rw (eq-eqb unit 0 u)

  pub start_blocks : (unit ≡ 0 → ⊥) → near (blocks_from size e.block e.offset) ≡ near (place_start unit size e)
  unfolding place_start
  start_blocks u = rw (ne_eqb unit 0 u)

  pub end_bytes : unit ≡ 0 → near (e.block * size + e.offset + e.count) ≡ near (place_end unit size e)
  unfolding place_end
  end_bytes u = rw (eq-eqb unit 0 u)

  pub end_blocks : (unit ≡ 0 → ⊥) → near (blocks_to size e.block e.offset e.count) ≡ near (place_end unit size e)
  unfolding place_end
  end_blocks u = rw (ne_eqb unit 0 u)
