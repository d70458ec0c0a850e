-- The text from a page of its own.
use mathlib.Core.Path.{refl}
use Rattle.std.proofs.Common.{arith, rules}
use Rattle.sheet_writer.proofs.Sheets.{page_handed}
use Rattle.answer_desk.proofs.Leaving.{boarded_wrote}
use Rattle.answer_desk.proofs.pages.say_boarding.Goals as goal

pub returns : goal.returns
returns c =
    let a = c.args in
    let w = boarded_wrote a.row a.boarded a.froms a.tos a.reads (search rules) (search rules) c.requires _ _ _ c.put_boarding-bytes.ensures in
    record { few = omega (arith, w.after, w.within); handed = page_handed _ _ _ _ _ w _ _ refl _ _ c.hand_out.ensures }
