use Rattle.std.proofs.Common.{length, drop}
use Rattle.text_pages.specs.Printing.{pair_lines}
use Rattle.text_pages.proofs.Pages.{LinesPut}
use Rattle.sheet_writer.proofs.page.put_pairs.Given as goal

abbrev pub invariant-loop-first : goal.invariant-loop-first
invariant-loop-first l =
    LinesPut l.fn.page l.at 49 (pair_lines l.key l.firsts l.seconds) (length l.firsts) (pair_lines l.key (drop (length l.yielded) l.firsts) (drop (length l.yielded) l.seconds)) l.page l.next (length l.yielded)
