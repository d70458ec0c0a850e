-- The start is none of the choices passed.
use Rattle.std.proofs.Common.{◌-◌}
use Rattle.engine_table.proofs.Asking.{StartLoop}
use Rattle.engine_table.proofs.reading.detour_start.Given as goal

abbrev pub invariant-loop-c : goal.invariant-loop-c
invariant-loop-c l = StartLoop l.starts l.lengths l.numbers l.counts l.turn l.a l.b l.s (l.c - 1) l.w
