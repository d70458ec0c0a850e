-- The first entry that breaks a rule, or the three lines and the difference.
use Rattle.std.proofs.Common.{arith}
use mathlib.Core.Path.{refl, sym}
use lib.Seq.{length-take-le}
use Rattle.answer_check.proofs.Pages.{page_put}
use Rattle.answer_check.proofs.Checked.{list_unformed, least_below, expected_inside, expected_short, list_formed}
use Rattle.answer_check.proofs.checking.put_list.Goals as goal

pub returns-in-Err : goal.returns-in-Err
returns-in-Err c =
    list_unformed _ _ _ _ _ c.requires.checkable c.in-Err.rules c.in-Err.ensures _ _
    (page_put _ _ 31 _ _ (omega (arith, c.requires.wide)) (c.put_number_line.ensures.room (omega (arith, c.requires.wide))))

pub slice_bounds-text-end : goal.slice_bounds-text-end
slice_bounds-text-end c = expected_inside _ _ _ _ _ c.requires.checkable _ c.in-Ok.ensures c.priced-2.result c.priced-2.ensures _ c.unwrap_or-best.ensures _ c.args.run refl refl c.write_any-written.result _ c.write_any-written.ensures

pub slice_bounds-put_verdict-end : goal.slice_bounds-put_verdict-end
slice_bounds-put_verdict-end c = sym (length-take-le _ _ (expected_inside _ _ _ _ _ c.requires.checkable _ c.in-Ok.ensures c.priced-2.result c.priced-2.ensures _ c.unwrap_or-best.ensures _ c.args.run refl refl c.write_any-written.result _ c.write_any-written.ensures))

pub overflow_sub-sum : goal.overflow_sub-sum
overflow_sub-sum c = least_below _ _ _ _ _ c.requires.checkable _ c.in-Ok.ensures c.priced-2.result c.priced-2.ensures _ c.unwrap_or-best.ensures

pub returns : goal.returns
returns c =
    list_formed _ _ _ _ _ c.requires.checkable _ c.in-Ok.ensures c.priced-2.result c.priced-2.ensures _ c.unwrap_or-best.ensures _ c.args.run refl refl c.write_any-written.result _ c.write_any-written.ensures
    _ c.same_list.ensures _ _ (page_put _ _ _ _ _ (omega (arith, c.requires.wide, c.requires.checkable.short, expected_short _ _ _ _ _ c.requires.checkable _ c.in-Ok.ensures c.priced-2.result c.priced-2.ensures _ c.unwrap_or-best.ensures _ c.args.run refl refl c.write_any-written.result _ c.write_any-written.ensures)) c.put_verdict.ensures)
