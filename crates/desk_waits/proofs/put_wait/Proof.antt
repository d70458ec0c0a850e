-- `desk_waits::put_wait` meets its contract: the key and six numbers, one behind the other.
-- Assumes nothing.
use native.Mathlib.Omega.{arith}
use Rattle.text_pages.proofs.Pages.{wrote_on, wrote_within}
use borrow.Author.Rules.{rules}
use Rattle.desk_waits.proofs.put_wait.Statement.{statement}
use Rattle.desk_waits.proofs.put_wait.Tie as tie

put-requires : tie.Need-put-office_at-requires
put-requires c κs = search rules

put-pair-requires : tie.Need-put_pair-comma_at-requires
put-pair-requires c κs = search rules

put-requires-2 : tie.Need-put-file_at-requires
put-requires-2 c κs = search rules

put-number-requires : tie.Need-put_number-count_at-requires
put-number-requires c κs = search rules

add-put-triple-line : tie.Need-overflow_add-ahead
add-put-triple-line c = search rules

put-triple-line-requires : tie.Need-put_triple_line-requires
put-triple-line-requires c κs = search rules

same_length : tie.Need-shape_of-page
same_length c = search rules

returns : tie.Need-returns
returns c =
    let ptl = c in
    let pn = ptl in
    let p2 = pn in
    let pp = p2 in
    let p = pp in
    let wide = p.requires.0 in
    let one = p.put-office_at.ensures.room (omega arith) in
    let two = wrote_on one (omega arith) pp.put_pair-comma_at.ensures in
    let three = wrote_on two (omega arith) p2.put-file_at.ensures in
    let four = wrote_on three (omega arith) pn.put_number-count_at.ensures in
    wrote_within (wrote_on four (omega arith) ptl.put_triple_line.ensures) _ (omega arith)

pub put_wait_spec : {M : Type 1} → statement M
put_wait_spec =
    tie.close
    (tie.spec
    put-requires
    put-pair-requires
    put-requires-2
    put-number-requires
    add-put-triple-line
    put-triple-line-requires
    same_length
    returns)
