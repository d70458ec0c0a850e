-- Nothing of a line outside the entry or behind another of its path, else its name.
use mathlib.Core.Bool.{not}
use mathlib.Core.Path.{ap}
use native.Mathlib.Omega.{arith}
use Rattle.sheet_picks.proofs.Laying.{laid_outside, laid_later, laid_name}
use Rattle.sheet_picks.proofs.names.put_line_name.Goals as goal

pub returns-then-not-lies_in : goal.returns-then-not-lies_in
returns-then-not-lies_in c =
    laid_outside c.args.list.now c.args.starts.now _ _ _ _ _ _ _ _ c.lies_in.ensures (ap not c.if-not-lies_in.true)

pub returns-then-reads-eq0 : goal.returns-then-reads-eq0
returns-then-reads-eq0 c =
    laid_later c.args.list.now c.args.starts.now _ _ _ _ _ _ _ _ c.lies_in.ensures (ap not c.if-not-lies_in.false) (omega arith) _ c.first_reads-reads.ensures c.if-reads-eq0.true

pub bounds-froms-i : goal.bounds-froms-i
bounds-froms-i c = omega (arith, c.requires.path_rows.left)

pub bounds-tos-i : goal.bounds-tos-i
bounds-tos-i c = omega (arith, c.requires.path_rows.right)

pub slice_bounds-put_name-count : goal.slice_bounds-put_name-count
slice_bounds-put_name-count c =
    (c.requires.path_rows.stands c.args.i (omega arith)).ordered

pub slice_bounds-put_name-start : goal.slice_bounds-put_name-start
slice_bounds-put_name-start c =
    (c.requires.path_rows.stands c.args.i (omega arith)).ordered

pub slice_bounds-put_name-end : goal.slice_bounds-put_name-end
slice_bounds-put_name-end c =
    (c.requires.path_rows.stands c.args.i (omega arith)).within

pub returns : goal.returns
returns c =
    laid_name c.args.list.now c.args.starts.now _ _ _ _ _ _ _ _ c.lies_in.ensures (ap not c.if-not-lies_in.false) (omega arith) _ c.first_reads-reads.ensures c.if-reads-eq0.false _ _ (c.requires.path_rows.stands c.args.i (omega arith)) _ _ c.put_name.ensures
