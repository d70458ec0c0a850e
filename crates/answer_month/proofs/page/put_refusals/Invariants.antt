use Rattle.std.proofs.Common.{length, drop}
use Rattle.text_pages.proofs.Pages.{LinesPut}
use Rattle.answer_month.specs.Page.{refusal_lines}
use Rattle.answer_month.proofs.page.put_refusals.Given as goal

abbrev pub invariant-loop-number : goal.invariant-loop-number
invariant-loop-number l = LinesPut l.fn.page l.at 50 (refusal_lines 0 l.runs) (length l.runs) (refusal_lines l.number (drop l.number l.runs)) l.page l.next l.number
