use Rattle.std.proofs.Common.{drop}
use Rattle.tape_markup.specs.Markup.{end_behind}
use Rattle.tape_markup.proofs.Scanning.{Sought}
use Rattle.tape_markup.proofs.scan.end_behind.Given as goal

-- The bytes stand at no place passed, so what is left decides.
abbrev pub invariant-loop-i : goal.invariant-loop-i
invariant-loop-i l = Sought l.text l.at l.i (end_behind l.wanted (drop l.at l.text)) (end_behind l.wanted (drop l.i l.text))
