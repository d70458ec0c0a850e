use Rattle.std.proofs.Common.{arith}
use Rattle.tape_markup.proofs.Meets.{step_told, begins_fewer, unread_token, unread_past}
use Rattle.tape_files.proofs.Frames.{frames_none, frames_broken}
use Rattle.tape_files.proofs.Bare.{byte_met, bytes_past, bytes_start, bytes_over, bytes_finish}
use Rattle.tape_files.proofs.values.byte_from.Goals as goal

pub returns-in-End : goal.returns-in-End
returns-in-End c = bytes_over _ _ _ c.loop-byte.invariant (frames_none _ _ (step_told _ _ _ c.loop-byte.invariant.around.within c.in-End.ensures))

pub returns-in-Broken : goal.returns-in-Broken
returns-in-Broken c = bytes_over _ _ _ c.loop-byte.invariant (frames_broken _ _ (step_told _ _ _ c.loop-byte.invariant.around.within c.in-Broken.ensures))

pub returns-in-Byte : goal.returns-in-Byte
returns-in-Byte c = byte_met _ _ _ c.loop-byte.invariant _ _ (step_told _ _ _ c.loop-byte.invariant.around.within c.in-Byte.ensures)

pub past_end-here-requires : goal.past_end-here-requires
past_end-here-requires c = (step_told _ _ _ c.loop-byte.invariant.around.within c.in-Start.ensures).0.within

pub loop-byte-smaller-in-Start : goal.loop-byte-smaller-in-Start
loop-byte-smaller-in-Start c =
    let met = step_told _ _ _ c.loop-byte.invariant.around.within c.in-Start.ensures in
    unread_token _ _ _ (omega (arith, begins_fewer _ _ _ _ met.0, c.past_end-here.ensures.fewer))

pub loop-byte-preserved-in-Start : goal.loop-byte-preserved-in-Start
loop-byte-preserved-in-Start c =
    let met = step_told _ _ _ c.loop-byte.invariant.around.within c.in-Start.ensures in
    bytes_start _ _ _ c.loop-byte.invariant _ _ _ met.0 c.past_end-here.ensures

pub returns-in-Finish : goal.returns-in-Finish
returns-in-Finish c =
    let met = step_told _ _ _ c.loop-byte.invariant.around.within c.in-Finish.ensures in
    bytes_finish _ _ _ c.loop-byte.invariant _ _ met.0

pub loop-byte-smaller : goal.loop-byte-smaller
loop-byte-smaller c = unread_past _ _ _ (step_told _ _ _ c.loop-byte.invariant.around.within c.in-Past.ensures)

pub loop-byte-preserved : goal.loop-byte-preserved
loop-byte-preserved c = bytes_past _ _ _ c.loop-byte.invariant _ (step_told _ _ _ c.loop-byte.invariant.around.within c.in-Past.ensures)
