-- A window asks its choices, and a choice asks windows with fewer undecided stops: the measure is twice their number, and one more for a window.
use Rattle.std.proofs.Common.{◌-◌, ◌+◌, ◌*◌}
use Rattle.engine_plain.proofs.Windows.{WindowLoop}
use Rattle.engine_plain.proofs.asking.+choice_window.Given as goal

abbrev pub decreases-choice : goal.decreases-choice
decreases-choice l = 2 * (l.b - l.a)

abbrev pub decreases-window : goal.decreases-window
decreases-window l = 2 * (l.b - l.a) + 1

abbrev pub invariant-window-loop-c : goal.invariant-window-loop-c
invariant-window-loop-c l = WindowLoop l.lefts l.spans l.reads l.turn l.a l.b l.s l.least l.c
