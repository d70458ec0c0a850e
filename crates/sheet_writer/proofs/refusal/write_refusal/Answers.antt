-- The two lines on a page of their own, handed out.
use Rattle.std.proofs.Common.{arith}
use mathlib.Core.Path.{refl}
use Rattle.sheet_writer.proofs.Refusals.{wrote_refusal}
use Rattle.sheet_writer.proofs.Sheets.{page_handed}
use Rattle.sheet_writer.proofs.refusal.write_refusal.Goals as goal

pub returns : goal.returns
returns c =
    page_handed _ _ _ _ _ (wrote_refusal c.args.verdict _ c.number-number.ensures _ (omega arith) _ _ _ _ c.put_number_line-place_at.ensures c.put_place-bytes.ensures) _ _ refl _ _ c.hand_out.ensures
