use Rattle.std.proofs.Common.{ℕ, List, Bool}
use Rattle.text_lines.specs.Private.{Passes}
use Rattle.text_lines.proofs.Passing.{LinesSeen}
use Rattle.text_lines.proofs.pass_lines.Given as goal

abbrev pub invariant-loop-i : goal.invariant-loop-i
invariant-loop-i g l = (test : List ℕ → Bool) → Passes test l.text (goal.F-post g l.pass) → LinesSeen test l.text l.at l.count l.next l.i
