-- What stands on the page and the lines left make the whole.
use Rattle.std.proofs.Common.{take, drop}
use Rattle.text_pages.proofs.Pages.{LinesPut}
use Rattle.desk_waits.specs.Waits.{waits_lines}
use Rattle.desk_waits.proofs.put_waits.Given as goal

abbrev pub invariant-loop-i : goal.invariant-loop-i
invariant-loop-i l =
    LinesPut l.initial.page l.at 132 (waits_lines 0 (take l.fn.n (drop l.fn.first l.fn.row))) l.fn.n (waits_lines l.i (drop l.i (take l.fn.n (drop l.fn.first l.fn.row)))) l.page l.next l.i
