use Rattle.std.proofs.Common.{sym, ◌∙◌, rules}
use Rattle.text_paths.proofs.Asked.{path_none, path_stray, path_passed, path_done}
use Rattle.text_paths.proofs.is_path.Goals as goal

pub loop-byte-init : goal.loop-byte-init
loop-byte-init c = path_none _

pub returns-then-is_stray : goal.returns-then-is_stray
returns-then-is_stray c = path_stray _ _ _ c.loop-byte.invariant (search rules) (sym c.is_stray.ensures ∙ c.if-is_stray.true)

pub loop-byte-preserved : goal.loop-byte-preserved
loop-byte-preserved c = path_passed _ _ _ c.loop-byte.invariant (search rules) (sym c.is_stray.ensures ∙ c.if-is_stray.false)

pub returns : goal.returns
returns c = path_done _ _ _ c.loop-byte.invariant (search rules)
