use Rattle.answer_ltfs.proofs.Framing.{uncounted, next_within, too_few, counted_there}
use Rattle.answer_ltfs.proofs.input.counted_at.Goals as goal

pub returns-in_err-line : goal.returns-in_err-line
returns-in_err-line c = rw c.from_residual.ensures (uncounted c.args.key.now c.args.input.now c.args.at _ c.number_line.ensures c.in_err-line.was)

pub overflow_sub-left : goal.overflow_sub-left
overflow_sub-left c = next_within c.args.key.now c.args.input.now c.args.at _ c.number_line.ensures _ c.in_ok-line.was

pub returns-then-left-line : goal.returns-then-left-line
returns-then-left-line c = too_few c.args.key.now c.args.input.now c.args.at _ c.number_line.ensures _ c.in_ok-line.was c.if-left-line.true

pub returns : goal.returns
returns c = counted_there c.args.key.now c.args.input.now c.args.at _ c.number_line.ensures _ c.in_ok-line.was c.if-left-line.false
