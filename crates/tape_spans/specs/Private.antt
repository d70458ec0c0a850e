-- What the private functions find. No public contract cites this file.
use Rattle.std.specs.Prelude.{ℕ, ◌+◌, ◌-◌, ◌*◌, ◌/◌}

-- Where bytes start and end in blocks, for an extent given by its numbers.
abbrev pub blocks_from : ℕ → ℕ → ℕ → ℕ
blocks_from size block offset = (block * size + offset) / size

abbrev pub blocks_to : ℕ → ℕ → ℕ → ℕ → ℕ
blocks_to size block offset count = (block * size + offset + count + (size - 1)) / size

-- How many blocks two parts of a block need, each shorter than it.
abbrev pub blocks_of_parts : ℕ → ℕ → ℕ → ℕ
blocks_of_parts size a b = (a + b + (size - 1)) / size
