use native.Mathlib.Omega.{arith}
use Rattle.text_paths.proofs.Asked.{none_before, one_before, no_slash}
use Rattle.text_paths.proofs.behind_slash.Goals as goal

pub returns-then-at-end : goal.returns-then-at-end
returns-then-at-end c = (none_before c.args.text.now _ _ c.requires.0 c.requires.1 c.if-at-end.true, omega arith)

pub returns-then-text-at-eq47 : goal.returns-then-text-at-eq47
returns-then-text-at-eq47 c = (one_before c.args.text.now _ _ c.requires.0 c.requires.1 c.if-at-end.false c.if-text-at-eq47.true, omega arith)

pub returns : goal.returns
returns c = (no_slash c.args.text.now _ _ c.requires.0 c.requires.1 c.if-at-end.false c.if-text-at-eq47.false, c.requires.0)
