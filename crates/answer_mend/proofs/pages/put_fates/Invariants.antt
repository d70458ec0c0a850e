use Rattle.answer_mend.proofs.Texts.{FatesPut}
use Rattle.answer_mend.proofs.pages.put_fates.Given as goal

abbrev pub invariant-loop-i : goal.invariant-loop-i
invariant-loop-i l = FatesPut l.fn.page l.at l.above l.wanted l.counts l.page l.next l.i
