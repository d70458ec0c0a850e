use Rattle.text_pages.proofs.Pages.{Putting}
use Rattle.text_pages.proofs.put.Given as goal

-- The bytes so far stand on the page.
abbrev pub invariant-loop-i : goal.invariant-loop-i
invariant-loop-i l = Putting l.initial.page l.at l.text l.page l.i
