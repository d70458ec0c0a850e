use Rattle.std.proofs.Common.{drop}
use Rattle.tape_markup.specs.Markup.{tag_end}
use Rattle.tape_markup.proofs.Scanning.{Sought}
use Rattle.tape_markup.proofs.scan.tag_end.Given as goal

-- No byte passed ends the tag, so what is left decides.
abbrev pub invariant-loop-i : goal.invariant-loop-i
invariant-loop-i l = Sought l.text l.at l.i (tag_end 0 (drop l.at l.text)) (tag_end l.quote (drop l.i l.text))
