-- `answer_month::line_behind` meets its contract.
-- Assumes nothing.
use Rattle.answer_month.proofs.Counts.{behind_past, behind_line}
use borrow.Author.Rules.{rules}
use Rattle.answer_month.proofs.parts.line_behind.Statement.{statement}
use Rattle.answer_month.proofs.parts.line_behind.Tie as tie

returns : tie.Need-returns-then-sheets-ge-MOST_SHEETS
returns c = behind_past _ _ c.if-sheets-ge-MOST_SHEETS.true

count-line-requires : tie.Need-count_line-requires
count-line-requires c κs = search rules

returns-2 : tie.Need-returns
returns-2 c = behind_line _ _ c.if-sheets-ge-MOST_SHEETS.false _ c.count_line.ensures

pub line_behind_spec : {M : Type 1} → statement M
line_behind_spec = tie.close (tie.spec
    returns
    count-line-requires
    returns-2)
