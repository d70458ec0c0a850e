-- `answer_month::put_refusal` meets its contract.
-- Assumes nothing.
use Rattle.answer_month.proofs.Pages.{refusal_none, refusal_some}
use borrow.Author.Rules.{rules}
use Rattle.answer_month.proofs.page.put_refusal.Statement.{statement}
use Rattle.answer_month.proofs.page.put_refusal.Tie as tie

returns : tie.Need-returns-then-runs-eq0
returns c = refusal_none _ _ _ _ c.requires c.if-runs-eq0.true

put-pair-line-requires : tie.Need-put_pair_line-requires
put-pair-line-requires c κs = search rules

same_length : tie.Need-shape_of-page
same_length c = c.put_pair_line.auto.page

returns-2 : tie.Need-returns
returns-2 c = refusal_some _ _ _ _ c.requires c.if-runs-eq0.false _ _ c.put_pair_line.ensures

pub put_refusal_spec : {M : Type 1} → statement M
put_refusal_spec =
    tie.close
    (tie.spec
    returns
    put-pair-line-requires
    same_length
    returns-2)
