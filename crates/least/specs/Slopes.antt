-- Functions that are the lower edge of lines, as the rows of a table are in the reads skipped. A tool of a table engine, as Recurrence is.
use Rattle.std.specs.Prelude.{ℕ, ◌+◌, ◌*◌, ◌≤◌, ◌<◌, ◌≡◌}

-- A line that meets f at s and lies nowhere below it, as far as n.
pub record Support (f : ℕ → ℕ) (n s : ℕ) : Type 0 where
  pub start : ℕ
  pub slope : ℕ
  pub meets : f s ≡ start + slope * s
  pub above : (t : ℕ) → t < n → f t ≤ start + slope * t

-- There is one at every number below n: f rises there, and bends nowhere upwards.
abbrev pub Supported : (ℕ → ℕ) → ℕ → Type 0
Supported f n = (s : ℕ) → s < n → Support f n s
