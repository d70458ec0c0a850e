-- What the private functions find. No public contract cites this file.
use Rattle.std.specs.Prelude.{ℕ, suc, cond, eqb}
use Rattle.text_bytes.specs.Text.{line_feed}

-- One more where a line ends.
abbrev pub counted_at : ℕ → ℕ → ℕ
counted_at count b = cond (eqb b line_feed) (suc count) count
