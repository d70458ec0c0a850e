use Rattle.std.proofs.Common.{length, drop}
use Rattle.text_pages.specs.Printing.{triple_lines}
use Rattle.text_pages.proofs.Pages.{LinesPut}
use Rattle.sheet_writer.proofs.page.put_triples.Given as goal

abbrev pub invariant-loop-i : goal.invariant-loop-i
invariant-loop-i l =
    LinesPut l.fn.page l.at 68 (triple_lines l.key l.firsts l.seconds l.thirds) (length l.firsts) (triple_lines l.key (drop l.i l.firsts) (drop l.i l.seconds) (drop l.i l.thirds)) l.page l.next l.i
