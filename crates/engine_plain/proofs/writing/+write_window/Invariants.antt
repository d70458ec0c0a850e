-- Each call leaves fewer stops undecided.
use Rattle.std.proofs.Common.{◌-◌}
use Rattle.engine_plain.proofs.writing.+write_window.Given as goal

abbrev pub decreases-write_window : goal.decreases-write_window
decreases-write_window l = l.b - l.a
