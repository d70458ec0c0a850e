use Rattle.std.proofs.Common.{arith}
use Rattle.answer_check.proofs.Pages.{line_none, line_some, line_short, line_put}
use Rattle.answer_check.proofs.verdict.put_line_at.Goals as goal

pub returns-in_default : goal.returns-in_default
returns-in_default c =
    line_put _ _ c.args.key.now c.args.text.now _ _ _ _ (line_none c.args.text.now c.args.start _ c.find_value.ensures c.in_default.is) (omega arith) c.requires c.put_line.ensures

pub returns : goal.returns
returns c =
    line_put _ _ c.args.key.now c.args.text.now _ _ _ _ (line_some c.args.text.now c.args.start _ c.find_value.ensures _ c.in-Some.is)
    (line_short c.args.text.now c.args.start _ c.find_value.ensures _ c.in-Some.is) c.requires c.put_line-2.ensures
