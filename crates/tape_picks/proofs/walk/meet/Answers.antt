use Rattle.std.proofs.Common.{refl}
use Rattle.tape_files.proofs.Placing.{left_here, element_here, nothing_here}
use Rattle.tape_picks.proofs.Walking.{deep_enough, met_left, met_entered, met_read, met_moved}
use Rattle.tape_picks.proofs.Entering.{below_held, named_held}
use Rattle.tape_picks.proofs.walk.meet.Goals as goal

pub entered-requires : goal.entered-requires
entered-requires c =
    let w = c.requires.some_walk.at in
    deep_enough _ _ _ c.args.tape _ _ _ w _ _ _ (element_here _ _ w.within _ _ _ c.in-Ok.ensures)

pub returns-in-Err : goal.returns-in-Err
returns-in-Err c = λ own outer w.
    rw (c.passed-in-Err.ensures, c.left.ensures) (met_left _ _ _ _ _ own outer w _ (nothing_here _ _ w.within _ c.in-Err.ensures))

pub returns-in-Enter : goal.returns-in-Enter
returns-in-Enter c = λ own outer w.
    let met = element_here _ _ w.within _ _ _ c.in-Ok.ensures in
    rw (c.passed.ensures, c.entered.ensures)
    (met_entered _ _ _ _ _ own outer w _ _ _ met c.in-Enter.ensures _
    (below_held _ _ _ _ _ _ c.requires.list_held own outer _ w _ refl _ met.within _ c.below-inner.ensures))

pub returns-in-Read : goal.returns-in-Read
returns-in-Read c = λ own outer w.
    let met = element_here _ _ w.within _ _ _ c.in-Ok.ensures in
    met_read _ _ _ _ _ own outer w _ _ _ met c.in-Read.ensures _
    (named_held _ _ _ _ _ _ c.requires.list_held own outer _ w _ refl _ met.within) _ c.met_file.ensures

pub returns-in-Skip : goal.returns-in-Skip
returns-in-Skip c = λ own outer w.
    let met = element_here _ _ w.within _ _ _ c.in-Ok.ensures in
    rw (c.passed-in-Skip.ensures, c.moved.ensures)
    (met_moved _ _ _ _ _ own outer w _ _ _ met _ (left_here _ _ met.within _ c.leave.ensures) c.in-Skip.ensures)
