-- For the contract of a private function. No public contract cites this file.
use Rattle.std.specs.Prelude.{ℕ, cond}
use Rattle.refusals.specs.declared.Verdict.{Verdict}
use Rattle.refusals.specs.Refusals.{is_refusal}
use Rattle.boundary.specs.Boundary.{code_of}

-- The code of a verdict that refuses, or else a number.
abbrev pub code_unless : Verdict → ℕ → ℕ
code_unless v number = cond (is_refusal v.refusal) (code_of v) number
