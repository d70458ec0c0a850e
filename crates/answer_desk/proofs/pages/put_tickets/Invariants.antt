-- What stands on the page and the lines left make the whole.
use Rattle.std.proofs.Common.{take, drop}
use Rattle.text_pages.proofs.Pages.{LinesPut}
use Rattle.answer_desk.specs.Answers.{closed_lines}
use Rattle.answer_desk.proofs.pages.put_tickets.Given as goal

abbrev pub invariant-loop-t : goal.invariant-loop-t
invariant-loop-t l =
    LinesPut l.initial.page l.at 133 (closed_lines l.reads (take l.fn.n (drop l.fn.first l.fn.row))) l.fn.n (closed_lines l.reads (drop l.t-index (take l.fn.n (drop l.fn.first l.fn.row)))) l.page l.next l.t-index
