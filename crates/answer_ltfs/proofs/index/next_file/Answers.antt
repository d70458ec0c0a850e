use Rattle.std.proofs.Common.{arith}
use Rattle.answer_ltfs.specs.Private.Parts.{files_left}
use Rattle.tape_files.proofs.Placing.{element_here, nothing_here, left_here}
use Rattle.answer_ltfs.proofs.Files.{walk_start, walk_done, walk_out, walk_in, walk_past, walk_file}
use Rattle.answer_ltfs.proofs.index.next_file.Goals as goal

pub loop-child-init : goal.loop-child-init
loop-child-init c = walk_start _ _ c.requires

pub returns-then-depth-eq0 : goal.returns-then-depth-eq0
unfolding files_left
returns-then-depth-eq0 c =
    let m = nothing_here _ _ c.loop-child.invariant.within _ (rw c.in-Err.is at c.next_child.ensures) in
    walk_done _ _ _ _ _ _ c.loop-child.invariant c.if-depth-eq0.true m

pub loop-child-smaller : goal.loop-child-smaller
loop-child-smaller c =
    let m = nothing_here _ _ c.loop-child.invariant.within _ (rw c.in-Err.is at c.next_child.ensures) in
    let f = m.left.fewer in
    omega arith

pub loop-child-preserved : goal.loop-child-preserved
loop-child-preserved c =
    let m = nothing_here _ _ c.loop-child.invariant.within _ (rw c.in-Err.is at c.next_child.ensures) in
    walk_out _ _ _ _ _ _ c.loop-child.invariant c.if-depth-eq0.false m

pub loop-child-smaller-in-Enter : goal.loop-child-smaller-in-Enter
loop-child-smaller-in-Enter c =
    let m = element_here _ _ c.loop-child.invariant.within _ _ _ (rw c.in-Ok.is at c.next_child.ensures) in
    let f = m.fewer in
    omega arith

pub loop-child-preserved-in-Enter : goal.loop-child-preserved-in-Enter
loop-child-preserved-in-Enter c =
    let m = element_here _ _ c.loop-child.invariant.within _ _ _ (rw c.in-Ok.is at c.next_child.ensures) in
    walk_in _ _ _ _ _ c.loop-child.invariant _ _ _ m (rw c.in-Enter.is at c.role_at.ensures)

pub returns-in-Read : goal.returns-in-Read
returns-in-Read c =
    let m = element_here _ _ c.loop-child.invariant.within _ _ _ (rw c.in-Ok.is at c.next_child.ensures) in
    walk_file _ _ _ _ _ c.loop-child.invariant _ _ _ m _ _ c.read_file-read.ensures.1 (rw c.in-Read.is at c.role_at.ensures) c.read_file-read.ensures.0

pub loop-child-smaller-in-Skip : goal.loop-child-smaller-in-Skip
loop-child-smaller-in-Skip c =
    let m = element_here _ _ c.loop-child.invariant.within _ _ _ (rw c.in-Ok.is at c.next_child.ensures) in
    let f = m.fewer in
    let l = (left_here _ _ m.within _ c.leave-here.ensures).fewer in
    omega arith

pub loop-child-preserved-in-Skip : goal.loop-child-preserved-in-Skip
loop-child-preserved-in-Skip c =
    let m = element_here _ _ c.loop-child.invariant.within _ _ _ (rw c.in-Ok.is at c.next_child.ensures) in
    walk_past _ _ _ _ _ c.loop-child.invariant _ _ _ m _ (left_here _ _ m.within _ c.leave-here.ensures) (rw c.in-Skip.is at c.role_at.ensures)
