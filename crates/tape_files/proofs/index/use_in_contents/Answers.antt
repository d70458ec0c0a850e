use mathlib.Core.Path.{sym, ◌∙◌}
use Rattle.tape_files.proofs.index.use_in_contents.Goals as goal

pub returns-then-is_named : goal.returns-then-is_named
returns-then-is_named c = simp (sym c.is_named.ensures ∙ c.if-is_named.true)

pub returns-then-is_named-2 : goal.returns-then-is_named-2
returns-then-is_named-2 c = simp (sym c.is_named.ensures ∙ c.if-is_named.false, sym c.is_named-2.ensures ∙ c.if-is_named-2.true)

pub returns : goal.returns
returns c = simp (sym c.is_named.ensures ∙ c.if-is_named.false, sym c.is_named-2.ensures ∙ c.if-is_named-2.false)
