use Rattle.sheet_loose.proofs.Order.{wants_bad, text_behind, below_good}
use Rattle.sheet_loose.proofs.read_below.Goals as goal

pub returns-in_default : goal.returns-in_default
returns-in_default c = wants_bad _ _ _ c.requires (rw c.in_default.is at c.number_line.ensures)

pub want_lines-wants-requires : goal.want_lines-wants-requires
want_lines-wants-requires c = (rw c.in-Some.is at c.number_line.ensures).0.within

pub returns-then-wants-sheet : goal.returns-then-wants-sheet
returns-then-wants-sheet c = text_behind _ _ _ c.requires _ _ (rw c.in-Some.is at c.number_line.ensures) _ c.want_lines-wants.ensures c.if-wants-sheet.true

pub returns : goal.returns
returns c = below_good _ _ _ c.requires _ _ (rw c.in-Some.is at c.number_line.ensures) _ c.want_lines-wants.ensures c.if-wants-sheet.false
