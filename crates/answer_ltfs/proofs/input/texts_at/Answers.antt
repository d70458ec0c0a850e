use Rattle.answer_ltfs.proofs.Framing.{too_long, no_label, no_index, text_behind, texts_there}
use Rattle.answer_ltfs.proofs.input.texts_at.Goals as goal

pub returns-then-input-gt-MOST_INPUT : goal.returns-then-input-gt-MOST_INPUT
returns-then-input-gt-MOST_INPUT c = too_long c.args.input.now c.args.at c.if-input-gt-MOST_INPUT.true

pub returns-in_err-label : goal.returns-in_err-label
returns-in_err-label c = rw c.from_residual.ensures (no_label _ _ _ c.counted_at.ensures c.in_err-label.was)

pub returns-in_err-index : goal.returns-in_err-index
returns-in_err-index c =
    rw c.from_residual-in_err-index.ensures (no_index _ _ _ c.counted_at.ensures _ c.in_ok-label.was _ c.counted_at-2.ensures c.in_err-index.was)

pub returns-then-index-input : goal.returns-then-index-input
returns-then-index-input c =
    text_behind _ _ _ c.counted_at.ensures _ c.in_ok-label.was _ c.counted_at-2.ensures _ c.in_ok-index.was c.if-index-input.true

pub returns : goal.returns
returns c =
    texts_there _ _ _ c.counted_at.ensures _ c.in_ok-label.was _ c.counted_at-2.ensures _ c.in_ok-index.was c.if-input-gt-MOST_INPUT.false c.if-index-input.false
