-- No more bytes are left than were to be passed over, and fewer each time.
use Rattle.std.proofs.Common.{◌≤◌}
use Rattle.text_inputs.proofs.pass_over.Given as goal

abbrev pub invariant-loop-left : goal.invariant-loop-left
invariant-loop-left l = l.left ≤ l.bytes

abbrev pub decreases-loop-left : goal.decreases-loop-left
decreases-loop-left l = l.left
