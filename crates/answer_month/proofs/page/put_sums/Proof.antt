-- `answer_month::put_sums` meets its contract.
-- Assumes nothing.
use mathlib.Core.Path.{◌∙◌}
use Rattle.answer_month.proofs.Pages.{put_sums_lem}
use borrow.Author.Rules.{rules}
use Rattle.answer_month.proofs.page.put_sums.Statement.{statement}
use Rattle.answer_month.proofs.page.put_sums.Tie as tie

mean-of-requires : tie.Need-mean_of-mean-requires
mean-of-requires c κs = search rules

put-number-line-requires : tie.Need-put_number_line-sums-requires
put-number-line-requires c κs = search rules

put-number-line-requires-2 : tie.Need-put_number_line-means-requires
put-number-line-requires-2 c κs = search rules

put-pair-line-requires : tie.Need-put_pair_line-requires
put-pair-line-requires c κs = search rules

same_length : tie.Need-shape_of-page
same_length c =
    let at-put-pair-line = c in
    let at-put-number-line2 = at-put-pair-line in
    let at-put-number-line = at-put-number-line2 in
    at-put-pair-line.put_pair_line.auto.page ∙ at-put-number-line2.put_number_line-means.auto.page ∙ at-put-number-line.put_number_line-sums.auto.page

returns : tie.Need-returns
returns c =
    let at-put-number-line2 = c in
    let at-put-number-line = at-put-number-line2 in
    let at-mean-of = at-put-number-line in
    let start = at-mean-of in
    put_sums_lem _ _ _ at-mean-of.mean_of-mean.ensures _ _ _ _ _ _ _ _ start.requires at-put-number-line.put_number_line-sums.ensures at-put-number-line2.put_number_line-means.ensures c.put_pair_line.ensures

pub put_sums_spec : {M : Type 1} → statement M
put_sums_spec =
    tie.close
    (tie.spec
    mean-of-requires
    put-number-line-requires
    put-number-line-requires-2
    put-pair-line-requires
    same_length
    returns)
