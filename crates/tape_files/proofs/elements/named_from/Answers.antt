use Rattle.std.proofs.Common.{sym, ◌∙◌}
use Rattle.std.proofs.lemmas.Result.{err_from_is_err_and}
use Rattle.tape_files.proofs.Bare.{sought_over, sought_here, sought_later}
use Rattle.tape_files.proofs.elements.named_from.Goals as goal

pub returns-in_err-child : goal.returns-in_err-child
returns-in_err-child c =
    let p = err_from_is_err_and c.from_residual.result c.from_residual.ensures.1 in
    rw (p.1, p.2) (sought_over _ _ _ _ c.loop-child.invariant _ c.in_err-child.ensures)

pub returns-then-is_named : goal.returns-then-is_named
returns-then-is_named c = sought_here _ _ _ _ c.loop-child.invariant _ _ _ c.in_ok-child.ensures (sym c.is_named.ensures ∙ c.if-is_named.true)

pub loop-child-preserved : goal.loop-child-preserved
loop-child-preserved c = sought_later _ _ _ _ c.loop-child.invariant _ _ _ c.in_ok-child.ensures _ c.past_end-here.ensures (sym c.is_named.ensures ∙ c.if-is_named.false)
