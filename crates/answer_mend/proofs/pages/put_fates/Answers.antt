use Rattle.answer_mend.proofs.Texts.{fates_none, fate_more}
use Rattle.answer_mend.proofs.pages.put_fates.Goals as goal

pub loop-i-init : goal.loop-i-init
loop-i-init c = fates_none _ _ _ _ _

pub loop-i-preserved : goal.loop-i-preserved
loop-i-preserved c =
    fate_more _ _ _ _ _ c.requires.wanted_in_bounds _ _ _ c.loop-i.invariant c.loop-i-test.true _ _ c.put_fate-next.auto.page _ c.fate_of-fate.ensures c.put_fate-next.ensures
