-- The entries so far are pulled.
use Rattle.std.proofs.Common.{◌≡◌, length}
use Rattle.engine_table.specs.Private.{FirstHold, met_start}
use Rattle.engine_table.proofs.pulling.pulled_starts.Given as goal

abbrev pub invariant-loop-i : goal.invariant-loop-i
invariant-loop-i l = (length l.row ≡ 64) × FirstHold l.i (met_start l.head l.starts) l.row
