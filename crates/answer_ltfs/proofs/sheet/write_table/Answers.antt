-- As many zeros as files, and no wants.
use mathlib.Core.Path.{sym}
use lib.Seq.{length-take-le}
use Rattle.answer_ltfs.proofs.Neighbours.{zero_row}
use Rattle.answer_ltfs.proofs.Laid.{table_written}
use borrow.Author.Rules.{rules}
use Rattle.answer_ltfs.proofs.sheet.write_table.Goals as goal

pub slice_bounds-write_sheet-end : goal.slice_bounds-write_sheet-end
slice_bounds-write_sheet-end c = sym (length-take-le _ _ (search rules))

pub returns : goal.returns
returns c =
    table_written _ _ _ _ _ _ _ _ (zero_row _ 256 c.requires) c.write_sheet.ensures
