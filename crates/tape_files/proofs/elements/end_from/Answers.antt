use Rattle.std.proofs.Common.{arith}
use Rattle.tape_markup.proofs.Counts.{few_tokens}
use Rattle.tape_markup.proofs.Meets.{step_told, begins_fewer, unread_token, unread_past}
use Rattle.tape_markup.proofs.Texts.{text_less}
use Rattle.tape_files.proofs.Frames.{leaving_none, frames_none, frames_broken, leave_over, leave_text, leave_byte, leave_past, leave_start, leave_finish, leave_last}
use Rattle.tape_files.proofs.elements.end_from.Goals as goal
use Rattle.tape_files.proofs.elements.end_from.Goals.{in-Byte, in-Start, in-Finish+else-depth-eq0, in-Past}

pub returns-in-End : goal.returns-in-End
returns-in-End c = leave_over _ _ _ _ c.loop-here.invariant (frames_none _ _ (step_told _ _ _ c.loop-here.invariant.within c.in-End.ensures))

pub returns-in-Broken : goal.returns-in-Broken
returns-in-Broken c = leave_over _ _ _ _ c.loop-here.invariant (frames_broken _ _ (step_told _ _ _ c.loop-here.invariant.within c.in-Broken.ensures))

pub overflow_add-depth : goal.overflow_add-depth
overflow_add-depth c =
    let met = step_told _ _ _ c.loop-here.invariant.within c.in-Start.ensures in
    omega (arith, begins_fewer _ _ _ _ met.0, few_tokens c.args.text.now c.args.place c.requires)

pub returns-then-depth-eq0 : goal.returns-then-depth-eq0
returns-then-depth-eq0 c =
    let met = step_told _ _ _ c.loop-here.invariant.within c.in-Finish.ensures in
    leave_last _ _ _ _ c.loop-here.invariant _ _ met.0 c.if-depth-eq0.true

pub loop-here-smaller : goal.loop-here-smaller
loop-here-smaller c =
    elim c.match-step_from.branch [
      | in-Byte w ↦
          let met = step_told _ _ _ c.loop-here.invariant.within w.in-Byte.ensures in
          text_less _ _ _ _ met.within (rw w.next-is at c.behind_text-here.ensures) (unread_token _ _ _ (begins_fewer _ _ _ _ met))
      | in-Start w ↦
          let met = step_told _ _ _ c.loop-here.invariant.within w.in-Start.ensures in
          text_less _ _ _ _ met.0.within (rw w.next-is at c.behind_text-here.ensures) (unread_token _ _ _ (begins_fewer _ _ _ _ met.0))
      | in-Finish+else-depth-eq0 w ↦
          let met = step_told _ _ _ c.loop-here.invariant.within w.in-Finish.ensures in
          text_less _ _ _ _ met.0.within (rw w.next-is at c.behind_text-here.ensures) (unread_token _ _ _ (begins_fewer _ _ _ _ met.0))
      | in-Past w ↦
          let met = step_told _ _ _ c.loop-here.invariant.within w.in-Past.ensures in
          text_less _ _ _ _ met.within (rw w.next-is at c.behind_text-here.ensures) (unread_past _ _ _ met)
    ]

pub loop-here-preserved : goal.loop-here-preserved
loop-here-preserved c =
    elim c.match-step_from.branch [
      | in-Byte w ↦
          let met = step_told _ _ _ c.loop-here.invariant.within w.in-Byte.ensures in
          rw w.depth-is (leave_text _ _ _ _ (leave_byte _ _ _ _ c.loop-here.invariant _ _ met) _ (rw w.next-is at c.behind_text-here.ensures))
      | in-Start w ↦
          let met = step_told _ _ _ c.loop-here.invariant.within w.in-Start.ensures in
          rw w.depth-is (leave_text _ _ _ _ (leave_start _ _ _ _ c.loop-here.invariant _ _ met.0) _ (rw w.next-is at c.behind_text-here.ensures))
      | in-Finish+else-depth-eq0 w ↦
          let met = step_told _ _ _ c.loop-here.invariant.within w.in-Finish.ensures in
          rw w.depth-is (leave_text _ _ _ _ (leave_finish _ _ _ _ c.loop-here.invariant _ _ met.0 w.if-depth-eq0.false) _ (rw w.next-is at c.behind_text-here.ensures))
      | in-Past w ↦
          let met = step_told _ _ _ c.loop-here.invariant.within w.in-Past.ensures in
          rw w.depth-is (leave_text _ _ _ _ (leave_past _ _ _ _ c.loop-here.invariant _ met) _ (rw w.next-is at c.behind_text-here.ensures))
    ]

pub loop-here-init : goal.loop-here-init
loop-here-init c = leaving_none _ _ c.requires
