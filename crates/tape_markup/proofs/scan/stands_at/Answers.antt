use Rattle.std.proofs.Common.{get_or, ◌∙◌, rules}
use borrow.Author.Tests.{ne_eqb}
use Rattle.tape_markup.proofs.Scanning.{other_first}
use Rattle.tape_markup.proofs.scan.stands_at.Goals as goal

pub returns-else-wanted-text : goal.returns-else-wanted-text
returns-else-wanted-text c =
    let other = ne_eqb (get_or c.args.wanted.now 0 0) (get_or c.args.text.now c.args.i 0) c.if-wanted-text.false in
    other ∙ other_first c.args.text.now c.args.wanted.now c.args.i (search rules) (search rules) other
