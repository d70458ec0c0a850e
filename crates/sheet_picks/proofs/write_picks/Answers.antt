-- The entries, the verdict, then both texts or 8.
use borrow.Author.Rules.{rules}
use native.Mathlib.Omega.{arith}
use mathlib.Core.Path.{sym}
use lib.Seq.{length-take-le}
use Rattle.std.proofs.lemmas.Result.{err_from_is_err_and}
use Rattle.sheet_picks.proofs.Stands.{paths_ready}
use Rattle.sheet_picks.proofs.Handing.{picks_refused, picks_pass, picks_rows, picks_few, picks_written}
use Rattle.sheet_picks.proofs.write_picks.Goals as goal

pub returns-in_err-judge : goal.returns-in_err-judge
returns-in_err-judge c =
    let a = c.args in
    let p = err_from_is_err_and c.from_residual.result c.from_residual.ensures.1 in
    rw (p.1, p.2) (picks_refused a.name.now a.list.now a.starts.now a.ends.now a.head.now a.turn.now a.out.now a.names.now _ _ _ c.fill_entries-entries.ensures _ c.in_err-judge.ensures)

pub slice_bounds-hand_both-end-3 : goal.slice_bounds-hand_both-end-3
slice_bounds-hand_both-end-3 c = sym (length-take-le _ _ c.fill_entries-entries.ensures.within)

pub slice_bounds-hand_both-end-4 : goal.slice_bounds-hand_both-end-4
slice_bounds-hand_both-end-4 c =
    sym (length-take-le _ _ (omega (arith, c.fill_entries-entries.ensures.within, c.fill_entries-entries.ensures.even)))

pub hand_both-requires : goal.hand_both-requires
hand_both-requires c =
    let a = c.args in
    let fe = c.fill_entries-entries.ensures in
    let j = c.in_ok-judge.ensures in
    let pass = picks_pass a.name.now a.list.now _ _ a.head.now a.turn.now a.out.now a.names.now _ _ _ fe _ j in
    record {
      name_len_bound = pass.short;
      path_rows = paths_ready _ pass.paths _ _ (search rules) (search rules) _ c.count_lines.ensures _ _ c.fill_paths.ensures;
      entry_rows = picks_rows a.name.now a.list.now _ _ a.head.now a.turn.now a.out.now a.names.now _ _ _ fe _ j;
      firsts_len_bound = picks_few a.name.now a.list.now _ _ a.head.now a.turn.now a.out.now a.names.now _ _ _ fe _ j;
    }

pub returns : goal.returns
returns c =
    let a = c.args in
    picks_written a.name.now a.list.now _ _ a.head.now a.turn.now _ _ _ _ _ c.fill_entries-entries.ensures _ c.in_ok-judge.ensures _ _ _ c.hand_both.ensures
