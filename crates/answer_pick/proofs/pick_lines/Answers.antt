-- The lines judged, then both texts.
use native.Mathlib.Omega.{arith}
use mathlib.Core.Path.{sym}
use lib.Seq.{length-take-le}
use Rattle.answer_pick.proofs.Answering.{lines_refused, lines_written}
use Rattle.answer_pick.proofs.pick_lines.Goals as goal

pub slice_bounds-judge_lines-end : goal.slice_bounds-judge_lines-end
slice_bounds-judge_lines-end c =
    sym (length-take-le _ c.args.states.now (omega (arith, c.requires.list_in_bounds, c.count_lines-count.ensures)))

pub slice_bounds-judge_lines-end-2 : goal.slice_bounds-judge_lines-end-2
slice_bounds-judge_lines-end-2 c =
    sym (length-take-le _ c.args.ends.now (omega (arith, c.requires.list_in_bounds_3, c.count_lines-count.ensures)))

pub returns-then-lines-ne0 : goal.returns-then-lines-ne0
returns-then-lines-ne0 c =
    let a = c.args in
    lines_refused a.name.now a.list.now a.states.now a.starts.now a.ends.now a.head.now a.turn.now _ _ _ c.count_lines-count.ensures _ c.judge_lines-lines.ensures c.if-lines-ne0.true _ c.unpicked.ensures

pub slice_bounds-write_picks-end : goal.slice_bounds-write_picks-end
slice_bounds-write_picks-end c =
    sym (length-take-le _ c.args.starts.now (omega (arith, c.requires.list_in_bounds_2, c.count_lines-count.ensures)))

pub slice_bounds-write_picks-end-2 : goal.slice_bounds-write_picks-end-2
slice_bounds-write_picks-end-2 c =
    sym (length-take-le _ c.args.ends.now (omega (arith, c.requires.list_in_bounds_3, c.count_lines-count.ensures)))

pub returns : goal.returns
returns c =
    let a = c.args in
    lines_written a.name.now a.list.now a.states.now a.starts.now a.ends.now a.head.now a.turn.now _ _ _ c.count_lines-count.ensures _ c.judge_lines-lines.ensures c.if-lines-ne0.false _ _ _ c.write_picks-picks.ensures _ c.told.ensures
