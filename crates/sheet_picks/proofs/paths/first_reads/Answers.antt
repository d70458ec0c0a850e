use Rattle.std.proofs.Common.{sym, ◌∙◌, arith}
use Rattle.sheet_picks.proofs.Lines.{seen_none, seen_more, seen_other, seen_earlier, seen_all}
use Rattle.sheet_picks.proofs.paths.first_reads.Goals as goal
use Rattle.sheet_picks.proofs.paths.first_reads.Goals.{then-same_path+else-h-i, else-same_path}

pub loop-h-init : goal.loop-h-init
loop-h-init c = seen_none _ _

pub returns-then-h-i : goal.returns-then-h-i
returns-then-h-i c = seen_earlier _ _ _ _ c.loop-h.invariant (sym c.same_path.ensures ∙ c.if-same_path.true) c.if-h-i.true

pub loop-h-preserved : goal.loop-h-preserved
loop-h-preserved c =
    elim c.if-same_path.branch [
      | then-same_path+else-h-i w ↦ rw w.reads-is (seen_more _ _ _ _ c.loop-h.invariant (omega arith) (sym c.same_path.ensures ∙ w.if-same_path.true) w.if-h-i.false)
      | else-same_path w ↦ rw w.reads-is (seen_other _ _ _ _ c.loop-h.invariant (omega arith) (sym c.same_path.ensures ∙ w.if-same_path.false))
    ]

pub returns : goal.returns
returns c = seen_all _ _ _ _ c.loop-h.invariant (omega arith) (omega arith)
