-- The entries so far are pulled.
use Rattle.std.proofs.Common.{◌≡◌, length}
use Rattle.engine_table.specs.Private.{FirstHold, met_length}
use Rattle.engine_table.proofs.pulling.pulled_lengths.Given as goal

abbrev pub invariant-loop-i : goal.invariant-loop-i
invariant-loop-i l = (length l.row ≡ 64) × FirstHold l.i (met_length l.head l.starts l.lengths) l.row
