use Rattle.tape_markup.proofs.Meets.{step_told, begins_fewer, unread_token, unread_past}
use Rattle.tape_markup.proofs.Texts.{text_less}
use Rattle.tape_files.proofs.Frames.{seek_text, seek_end, seek_broken, seek_past, seek_byte, seek_start, seek_finish}
use Rattle.tape_files.proofs.elements.tag_from.Goals as goal
use Rattle.tape_files.proofs.elements.tag_from.Goals.{in-Byte, in-Past}

pub returns-in-End : goal.returns-in-End
returns-in-End c = seek_end _ _ _ c.loop-next.invariant (step_told _ _ _ c.loop-next.invariant.within c.in-End.ensures)

pub returns-in-Broken : goal.returns-in-Broken
returns-in-Broken c = seek_broken _ _ _ c.loop-next.invariant (step_told _ _ _ c.loop-next.invariant.within c.in-Broken.ensures)

pub returns-in-Start : goal.returns-in-Start
returns-in-Start c =
    let met = step_told _ _ _ c.loop-next.invariant.within c.in-Start.ensures in
    seek_start _ _ _ c.loop-next.invariant _ _ _ met.0 met.1

pub returns-in-Finish : goal.returns-in-Finish
returns-in-Finish c =
    let met = step_told _ _ _ c.loop-next.invariant.within c.in-Finish.ensures in
    seek_finish _ _ _ c.loop-next.invariant _ _ met.0

pub loop-next-smaller : goal.loop-next-smaller
loop-next-smaller c =
    elim c.match-step_from.branch [
      | in-Byte w ↦
          let met = step_told _ _ _ c.loop-next.invariant.within w.in-Byte.ensures in
          text_less _ _ _ _ met.within (rw w.next-is at c.behind_text-here.ensures) (unread_token _ _ _ (begins_fewer _ _ _ _ met))
      | in-Past w ↦
          let met = step_told _ _ _ c.loop-next.invariant.within w.in-Past.ensures in
          text_less _ _ _ _ met.within (rw w.next-is at c.behind_text-here.ensures) (unread_past _ _ _ met)
    ]

pub loop-next-preserved : goal.loop-next-preserved
loop-next-preserved c =
    elim c.match-step_from.branch [
      | in-Byte w ↦
          let met = step_told _ _ _ c.loop-next.invariant.within w.in-Byte.ensures in
          seek_text _ _ _ (seek_byte _ _ _ c.loop-next.invariant _ _ met) _ (rw w.next-is at c.behind_text-here.ensures)
      | in-Past w ↦
          let met = step_told _ _ _ c.loop-next.invariant.within w.in-Past.ensures in
          seek_text _ _ _ (seek_past _ _ _ c.loop-next.invariant _ met) _ (rw w.next-is at c.behind_text-here.ensures)
    ]
