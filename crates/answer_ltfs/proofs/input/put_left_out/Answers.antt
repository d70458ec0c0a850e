-- Two lines, one behind the other.
use Rattle.answer_ltfs.proofs.Framing.{left_out}
use Rattle.answer_ltfs.proofs.input.put_left_out.Goals as goal

pub returns : goal.returns
returns c =
    left_out _ _ _ c.requires _ _ _ _ c.put_number_line-next.ensures c.put_number_line.ensures
