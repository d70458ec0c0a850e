use mathlib.Core.Path.{sym}
use lib.Seq.{length-take-le}
use Rattle.std.proofs.Common.{rules}
use Rattle.answer_ltfs.proofs.sheet.judge_files.Goals as goal

pub slice_bounds-neighbours_overlap-end : goal.slice_bounds-neighbours_overlap-end
slice_bounds-neighbours_overlap-end c = sym (length-take-le _ _ (search rules))

pub slice_bounds-neighbours_overlap-end-2 : goal.slice_bounds-neighbours_overlap-end-2
slice_bounds-neighbours_overlap-end-2 c = sym (length-take-le _ _ (search rules))
