-- `answer_month::put_top` meets its contract.
-- Assumes nothing.
use mathlib.Core.Path.{◌∙◌}
use Rattle.answer_month.proofs.Pages.{put_top_lem, top_room}
use borrow.Author.Rules.{rules}
use Rattle.answer_month.proofs.page.put_top.Statement.{statement}
use Rattle.answer_month.proofs.page.put_top.Tie as tie

count-kinds-requires : tie.Need-count_kinds-kinds-requires
count-kinds-requires c κs = search rules

put-number-line-requires : tie.Need-put_number_line-count-requires
put-number-line-requires c κs = search rules

put-number-line-requires-2 : tie.Need-put_number_line-lines-requires
put-number-line-requires-2 c κs = search rules

put-refusals-requires : tie.Need-put_refusals-requires
put-refusals-requires c κs =
    let at-put-number-line2 = c in
    let at-put-number-line = at-put-number-line2 in
    let start = at-put-number-line in
    top_room _ _ start.args.runs.now _ _ _ _ _ start.requires at-put-number-line.put_number_line-count.ensures at-put-number-line2.put_number_line-lines.ensures

same_length : tie.Need-shape_of-page
same_length c =
    let at-put-refusals = c in
    let at-put-number-line2 = at-put-refusals in
    let at-put-number-line = at-put-number-line2 in
    at-put-refusals.put_refusals.auto.page ∙ at-put-number-line2.put_number_line-lines.auto.page ∙ at-put-number-line.put_number_line-count.auto.page

returns : tie.Need-returns
returns c =
    let at-put-number-line2 = c in
    let at-put-number-line = at-put-number-line2 in
    let at-count-kinds = at-put-number-line in
    let start = at-count-kinds in
    put_top_lem _ _ start.args.runs.now at-count-kinds.count_kinds-kinds.ensures _ _ _ _ _ _ _ start.requires at-put-number-line.put_number_line-count.ensures at-put-number-line2.put_number_line-lines.ensures c.put_refusals.ensures

pub put_top_spec : {M : Type 1} → statement M
put_top_spec =
    tie.close
    (tie.spec
    count-kinds-requires
    put-number-line-requires
    put-number-line-requires-2
    put-refusals-requires
    same_length
    returns)
