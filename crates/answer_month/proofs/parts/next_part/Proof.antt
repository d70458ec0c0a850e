-- `answer_month::next_part` meets its contract.
-- Assumes nothing.
use Rattle.answer_month.proofs.Counts.{part_end, part_line}
use borrow.Author.Rules.{rules}
use Rattle.answer_month.proofs.parts.next_part.Statement.{statement}
use Rattle.answer_month.proofs.parts.next_part.Tie as tie

returns : tie.Need-returns-then-line-eq0
returns c = part_end _ _ c.if-line-eq0.true

line-behind-requires : tie.Need-line_behind-requires
line-behind-requires c κs = search rules

returns-2 : tie.Need-returns
returns-2 c = part_line _ _ c.if-line-eq0.false _ c.line_behind.ensures

pub next_part_spec : {M : Type 1} → statement M
next_part_spec = tie.close (tie.spec
    returns
    line-behind-requires
    returns-2)
