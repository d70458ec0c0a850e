-- Two parts of the list, compared.
use native.Mathlib.Omega.{arith}
use Rattle.sheet_picks.proofs.Lines.{same_stands}
use Rattle.sheet_picks.proofs.paths.same_path.Goals as goal

pub bounds-froms-i : goal.bounds-froms-i
bounds-froms-i c = omega (arith, c.requires.path_rows.left)

pub bounds-tos-i : goal.bounds-tos-i
bounds-tos-i c = omega (arith, c.requires.path_rows.right)

pub bounds-froms-h : goal.bounds-froms-h
bounds-froms-h c = omega (arith, c.requires.path_rows.left)

pub bounds-tos-h : goal.bounds-tos-h
bounds-tos-h c = omega (arith, c.requires.path_rows.right)

pub slice_bounds-same-count : goal.slice_bounds-same-count
slice_bounds-same-count c =
    (c.requires.path_rows.stands _ c.requires.h_bound).ordered

pub slice_bounds-same-start : goal.slice_bounds-same-start
slice_bounds-same-start c =
    (c.requires.path_rows.stands _ c.requires.h_bound).ordered

pub slice_bounds-same-end : goal.slice_bounds-same-end
slice_bounds-same-end c =
    (c.requires.path_rows.stands _ c.requires.h_bound).within

pub slice_bounds-same-count-2 : goal.slice_bounds-same-count-2
slice_bounds-same-count-2 c = (c.requires.path_rows.stands _ c.requires.i_bound).ordered

pub slice_bounds-same-start-2 : goal.slice_bounds-same-start-2
slice_bounds-same-start-2 c = (c.requires.path_rows.stands _ c.requires.i_bound).ordered

pub slice_bounds-same-end-2 : goal.slice_bounds-same-end-2
slice_bounds-same-end-2 c = (c.requires.path_rows.stands _ c.requires.i_bound).within

pub returns : goal.returns
returns c =
    same_stands _ _ _ c.requires.path_rows _ _ c.requires.i_bound c.requires.h_bound _ c.same.ensures
