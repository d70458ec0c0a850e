use Rattle.std.proofs.Common.{◌≤◌, drop}
use Rattle.tape_markup.specs.Markup.{declaration_end}
use Rattle.tape_markup.proofs.Scanning.{Sought}
use Rattle.tape_markup.proofs.scan.declaration_end.Given as goal

-- No byte passed ends the declaration, so what is left decides.
abbrev pub invariant-loop-i : goal.invariant-loop-i
invariant-loop-i l = record {
  sought : Sought l.text l.at l.i (declaration_end 0 0 (drop l.at l.text)) (declaration_end l.quote l.depth (drop l.i l.text));
  few : l.depth ≤ l.i;
}
