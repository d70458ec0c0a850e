use mathlib.Core.Path.{refl}
use Rattle.text_bytes.specs.Text.{bytes}
use Rattle.answer_mend.proofs.Texts.{fate_said, fate_unsaid}
use Rattle.answer_mend.proofs.pages.put_fate.Goals as goal

pub returns-in-Stays : goal.returns-in-Stays
returns-in-Stays c = fate_unsaid _ _ _ _ c.in-Stays.is

pub returns-in-Moved : goal.returns-in-Moved
returns-in-Moved c = fate_said _ _ _ _ _ (bytes "moved") _ _ c.in-Moved.is refl c.put_change.ensures

pub returns-in-Added : goal.returns-in-Added
returns-in-Added c = fate_said _ _ _ _ _ (bytes "added") _ _ c.in-Added.is refl c.put_change-in-Added.ensures

pub returns-in-Dropped : goal.returns-in-Dropped
returns-in-Dropped c = fate_said _ _ _ _ _ (bytes "dropped") _ _ c.in-Dropped.is refl c.put_change-in-Dropped.ensures
