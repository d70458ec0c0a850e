use Rattle.std.proofs.Common.{◌-◌, length}
use Rattle.walk.proofs.Sweeps.{ReadRight}
use Rattle.walk.proofs.pricing.sweep_end.Given as goal

abbrev pub invariant-loop-file : goal.invariant-loop-file
invariant-loop-file l = ReadRight l.aggregates l.numbers l.froms l.tos (length l.numbers - 1 - length l.yielded)
