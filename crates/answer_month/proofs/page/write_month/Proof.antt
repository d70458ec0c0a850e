-- `answer_month::write_month` meets its contract: the four parts on a page that has room for the longest, and the page handed out.
-- Assumes nothing.
use mathlib.Core.Path.{sym}
use native.Mathlib.Omega.{arith}
use lib.Seq.{length-take-le}
use Rattle.answer_month.proofs.Pages.{short_tape, room_two, room_three, room_four, page_kept, page_within, page_put}
use borrow.Author.Rules.{rules}
use Rattle.answer_month.proofs.page.write_month.Statement.{statement}
use Rattle.answer_month.proofs.page.write_month.Tie as tie

-- The way back from a place in the code to the one that the name says.
abbrev at-tape-2-1 : tie.After-page-5-1 → tie.After-tape-2-1
at-tape-2-1 c = c.before.before.before.before.before.before.before.before.before

abbrev at-runs-2-1 : tie.After-page-7-1 → tie.After-runs-2-1
at-runs-2-1 c = c.before.before.before.before.before.before.before.before.before

abbrev at-page-1 : tie.After-page-7-1 → tie.After-page-1
at-page-1 c = c.before.before.before.before.before.before.before.before.before.before

abbrev at-runs-2-1-from-put-arg-1 : tie.After-put-arg-1 → tie.After-runs-2-1
at-runs-2-1-from-put-arg-1 c = c.before.before.before.before.before.before.before.before.before.before.before.before

abbrev at-page-1-from-put-arg-1 : tie.After-put-arg-1 → tie.After-page-1
at-page-1-from-put-arg-1 c = c.before.before.before.before.before.before.before.before.before.before.before.before.before

abbrev at-runs-2-1-from-slice_known-2-1 : tie.After-slice_known-2-1 → tie.After-runs-2-1
at-runs-2-1-from-slice_known-2-1 c = c.before.before.before.before.before.before.before.before.before.before.before.before.before.before.before.before

abbrev at-page-1-from-slice_known-2-1 : tie.After-slice_known-2-1 → tie.After-page-1
at-page-1-from-slice_known-2-1 c = c.before.before.before.before.before.before.before.before.before.before.before.before.before.before.before.before.before

slice-aggregate-tape-of : tie.Need-slice_bounds-tape_of-end
slice-aggregate-tape-of c = search rules

tape-of-requires : tie.Need-tape_of-name-requires
tape-of-requires c κs = search rules

slice-aggregate-put-top : tie.Need-slice_bounds-put_top-end
slice-aggregate-put-top c = search rules

slice-aggregate-put-top-2 : tie.Need-slice_bounds-put_top-end-2
slice-aggregate-put-top-2 c = search rules

put-top-requires : tie.Need-put_top-sums-requires
put-top-requires c κs = omega (arith, slice-aggregate-put-top-2 c, slice-aggregate-put-top c.before)

slice-aggregate-put-sums : tie.Need-slice_bounds-put_sums-end
slice-aggregate-put-sums c = search rules

put-sums-requires : tie.Need-put_sums-longest-requires
put-sums-requires c κs =
    let runs-lent = c in
    let page-lent = runs-lent in
    let start = page-lent in
    room_two start.args.month start.args.verdict (sym (slice-aggregate-put-top-2 runs-lent.before.before.before)) _ (sym (slice-aggregate-put-top page-lent.before.before.before.before)) _ _ c.put_top-sums.ensures

slice-aggregate-put-longest : tie.Need-slice_bounds-put_longest-end
slice-aggregate-put-longest c = search rules

put-longest-requires : tie.Need-put_longest-saved-requires
put-longest-requires c κs =
    let at-put-top = c in
    let runs-lent = at-put-top in
    let page-lent = runs-lent in
    let at-tape-of = page-lent in
    let tape-lent = at-tape-of in
    let start = tape-lent in
    (room_three start.args.month start.args.verdict (sym (slice-aggregate-put-top-2 runs-lent.before.before.before.before.before.before)) _ (sym (slice-aggregate-put-top page-lent.before.before.before.before.before.before.before)) _ _ at-put-top.put_top-sums.ensures _ _ c.put_sums-longest.ensures, short_tape start.args.month.tape _ start.args.month.letters at-tape-of.tape_of-name.ensures (slice-aggregate-tape-of (at-tape-2-1 tape-lent)))

slice-aggregate-put-end : tie.Need-slice_bounds-put_end-end
slice-aggregate-put-end c = search rules

put-end-requires : tie.Need-put_end-bytes-requires
put-end-requires c κs =
    let at-put-sums = c in
    let at-put-top = at-put-sums in
    let runs-lent = at-put-top in
    let page-lent = runs-lent in
    let at-tape-of = page-lent in
    let start = at-tape-of in
    room_four start.args.month start.args.verdict (sym (slice-aggregate-put-top-2 (at-runs-2-1 runs-lent))) _ (sym (slice-aggregate-put-top (at-page-1 page-lent))) _ _ at-put-top.put_top-sums.ensures _ _ at-put-sums.put_sums-longest.ensures _ at-tape-of.tape_of-name.ensures _ _ c.put_longest-saved.ensures

array-share-prefix-page : tie.Need-slice_bounds-page-end
array-share-prefix-page c =
    let at-put-longest = c in
    let at-put-sums = at-put-longest in
    let at-put-top = at-put-sums in
    let runs-lent = at-put-top in
    let page-lent = runs-lent in
    let at-tape-of = page-lent in
    let start = at-tape-of in
    omega (arith, page_within start.args.month start.args.verdict (sym (slice-aggregate-put-top-2 (at-runs-2-1-from-put-arg-1 runs-lent))) _ (sym (slice-aggregate-put-top (at-page-1-from-put-arg-1 page-lent))) _ _ at-put-top.put_top-sums.ensures _ _ at-put-sums.put_sums-longest.ensures _ at-tape-of.tape_of-name.ensures _ _ at-put-longest.put_longest-saved.ensures _ _ c.put_end-bytes.ensures, page_kept start.args.month start.args.verdict (sym (slice-aggregate-put-top-2 (at-runs-2-1-from-put-arg-1 runs-lent))) _ (sym (slice-aggregate-put-top (at-page-1-from-put-arg-1 page-lent))) _ _ at-put-top.put_top-sums.ensures _ _ at-put-sums.put_sums-longest.ensures _ at-tape-of.tape_of-name.ensures _ _ at-put-longest.put_longest-saved.ensures _ _ c.put_end-bytes.ensures)

slice-aggregate-put : tie.Need-slice_bounds-put-end
slice-aggregate-put c = sym (length-take-le _ _ (array-share-prefix-page c.before))

put-requires : tie.Need-put-requires
put-requires c κs = search rules

same_length : tie.Need-shape_of-out
same_length c = c.put.auto.page

returns : tie.Need-returns
returns c =
    let at-put-end = c in
    let at-put-longest = at-put-end in
    let at-put-sums = at-put-longest in
    let at-put-top = at-put-sums in
    let runs-lent = at-put-top in
    let page-lent = runs-lent in
    let at-tape-of = page-lent in
    let start = at-tape-of in
    page_put start.args.month start.args.verdict (sym (slice-aggregate-put-top-2 (at-runs-2-1-from-slice_known-2-1 runs-lent))) _ (sym (slice-aggregate-put-top (at-page-1-from-slice_known-2-1 page-lent))) _ _ at-put-top.put_top-sums.ensures _ _ at-put-sums.put_sums-longest.ensures _ at-tape-of.tape_of-name.ensures _ _ at-put-longest.put_longest-saved.ensures _ _ at-put-end.put_end-bytes.ensures _ _ _ c.put.ensures

pub write_month_spec : {M : Type 1} → statement M
write_month_spec =
    tie.close
    (tie.spec
    slice-aggregate-tape-of
    tape-of-requires
    slice-aggregate-put-top
    slice-aggregate-put-top-2
    put-top-requires
    slice-aggregate-put-sums
    put-sums-requires
    slice-aggregate-put-longest
    put-longest-requires
    slice-aggregate-put-end
    put-end-requires
    array-share-prefix-page
    slice-aggregate-put
    put-requires
    same_length
    returns)
