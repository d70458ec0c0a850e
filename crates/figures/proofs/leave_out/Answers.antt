use Rattle.std.proofs.Common.{◌+◌, length, ◌∙◌, arith}
use Rattle.std.proofs.lemmas.Slice.{between_to_end}
use Rattle.figures.proofs.Without.{copied_without}
use Rattle.figures.proofs.leave_out.Goals as goal

pub returns : goal.returns
returns c =
    copied_without c.args.row.now c.args.out.now _ _ c.args.i c.requires.i_in_bounds c.requires.row_in_bounds c.copy_from_slice.ensures.after
    (c.copy_from_slice-2.ensures.after ∙ between_to_end c.args.row.now (c.args.i + 1) (length c.args.row.now) (omega arith))
