-- `answer_month::put_longest` meets its contract.
-- Assumes nothing.
use mathlib.Core.Path.{◌∙◌}
use Rattle.answer_month.proofs.Pages.{put_longest_lem}
use borrow.Author.Rules.{rules}
use Rattle.answer_month.proofs.page.put_longest.Statement.{statement}
use Rattle.answer_month.proofs.page.put_longest.Tie as tie

put-requires : tie.Need-put-value-requires
put-requires c κs = search rules

put-number-requires : tie.Need-put_number-comma-requires
put-number-requires c κs = search rules

put-requires-2 : tie.Need-put-name-requires
put-requires-2 c κs = search rules

put-requires-3 : tie.Need-put-end-requires
put-requires-3 c κs = search rules

put-number-line-requires : tie.Need-put_number_line-requires
put-number-line-requires c κs = search rules

same_length : tie.Need-shape_of-page
same_length c =
    let at-put-number-line = c in
    let at-put3 = at-put-number-line in
    let at-put2 = at-put3 in
    let at-put-number = at-put2 in
    let at-put = at-put-number in
    at-put-number-line.put_number_line.auto.page ∙ at-put3.put-end.auto.page ∙ at-put2.put-name.auto.page ∙ at-put-number.put_number-comma.auto.page ∙ at-put.put-value.auto.page

returns : tie.Need-returns
returns c =
    let at-put3 = c in
    let at-put2 = at-put3 in
    let at-put-number = at-put2 in
    let at-put = at-put-number in
    let start = at-put in
    put_longest_lem _ _ _ start.requires.1 _ _ _ _ _ _ _ _ _ _ _ _ start.requires.0 at-put.put-value.ensures at-put-number.put_number-comma.ensures at-put2.put-name.ensures at-put3.put-end.ensures c.put_number_line.ensures

pub put_longest_spec : {M : Type 1} → statement M
put_longest_spec =
    tie.close
    (tie.spec
    put-requires
    put-number-requires
    put-requires-2
    put-requires-3
    put-number-line-requires
    same_length
    returns)
