use Rattle.text_paths.proofs.Asked.{line_absent, path_bad, path_good}
use Rattle.text_paths.proofs.path_line.Goals as goal

pub returns-in_err-start : goal.returns-in_err-start
returns-in_err-start c = rw c.from_residual.ensures (line_absent c.args.text.now c.args.at c.in_err-start.ensures)

pub returns-then-not-is_path : goal.returns-then-not-is_path
returns-then-not-is_path c = path_bad _ _ _ _ c.in_ok-start.ensures _ c.behind_slash-from.ensures.0 _ c.is_path.ensures c.if-not-is_path.true

pub returns : goal.returns
returns c = path_good _ _ _ _ c.in_ok-start.ensures _ c.behind_slash-from.ensures.0 _ c.is_path.ensures c.if-not-is_path.false
