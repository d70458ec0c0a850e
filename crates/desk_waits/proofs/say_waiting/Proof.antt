-- `desk_waits::say_waiting` meets its contract: the text from a page of its own.
-- Assumes nothing.
use mathlib.Core.Path.{refl}
use native.Mathlib.Omega.{arith}
use Rattle.sheet_writer.proofs.Sheets.{part_length, page_handed}
use borrow.Author.Rules.{rules}
use Rattle.desk_waits.proofs.say_waiting.Statement.{statement}
use Rattle.desk_waits.proofs.say_waiting.Tie as tie

slice-aggregate-put-waiting : tie.Need-slice_bounds-put_waiting-end
slice-aggregate-put-waiting c = search rules

put-waiting-requires : tie.Need-put_waiting-bytes-requires
put-waiting-requires c κs = (c.requires, search rules)

array-share-prefix-page : tie.Need-slice_bounds-page-end
array-share-prefix-page c = omega (arith, c.put_waiting-bytes.ensures.within)

slice-aggregate-hand-out : tie.Need-slice_bounds-hand_out-end
slice-aggregate-hand-out c = part_length _ _ _ _ _ c.put_waiting-bytes.ensures

hand-out-requires : tie.Need-hand_out-requires
hand-out-requires c κs = search rules

same_length : tie.Need-shape_of-out
same_length c = search rules

returns : tie.Need-returns
returns c =
    let ho = c in
    let pb = ho in
    page_handed _ _ _ _ _ pb.put_waiting-bytes.ensures _ _ refl _ _ ho.hand_out.ensures

pub say_waiting_spec : {M : Type 1} → statement M
say_waiting_spec =
    tie.close
    (tie.spec
    slice-aggregate-put-waiting
    put-waiting-requires
    array-share-prefix-page
    slice-aggregate-hand-out
    hand-out-requires
    same_length
    returns)
