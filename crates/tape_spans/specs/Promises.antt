-- What is promised of blocks: those of an extent are exactly the blocks that hold one of its bytes. Proved in proofs/Blocks.antt.
use Rattle.std.specs.Prelude.{ℕ, ◌/◌, ◌≤◌, ◌<◌, ◌≡◌, ◌↔◌}
use Rattle.tape_spans.specs.declared.Extent.{Extent}
use Rattle.tape_spans.specs.Spans.{byte_start, byte_end, block_start, block_end}

-- A block holds a byte of an extent.
pub record HoldsByte (size : ℕ) (e : Extent) (block : ℕ) : Type 0 where
  pub place : ℕ
  pub first : byte_start size e ≤ place
  pub last : place < byte_end size e
  pub there : place / size ≡ block

abbrev pub LiesBetween : ℕ → Extent → ℕ → Type 0
LiesBetween size e block = (block_start size e ≤ block) × (block < block_end size e)

abbrev pub BlocksHoldBytes : Type 0
BlocksHoldBytes = (size : ℕ) (e : Extent) (block : ℕ) → 0 < size → 0 < e.count → LiesBetween size e block ↔ HoldsByte size e block
