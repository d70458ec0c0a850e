use Rattle.std.proofs.Common.{length, drop}
use Rattle.sheet_reader.specs.Lines.{want_key}
use Rattle.text_pages.specs.Printing.{pair_lines}
use Rattle.text_pages.proofs.Pages.{LinesPut}
use Rattle.answer_mend.specs.Wants.{reads_each}
use Rattle.answer_mend.proofs.pages.put_wants.Given as goal

abbrev pub invariant-loop-file : goal.invariant-loop-file
invariant-loop-file l =
    LinesPut l.fn.page l.at 47 (pair_lines want_key l.row (reads_each l.wanted l.counts l.row)) (length l.row)
    (pair_lines want_key (drop l.file-index l.row) (drop l.file-index (reads_each l.wanted l.counts l.row))) l.page l.next l.file-index
