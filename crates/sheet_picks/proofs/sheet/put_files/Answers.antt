use Rattle.std.proofs.Common.{refl, arith}
use Rattle.std.proofs.lemmas.List.{length_push}
use Rattle.std.proofs.lemmas.Slice.Zip.{zip_turn, zip_end}
use Rattle.sheet_picks.proofs.Sheets.{file_put, files_put}
use Rattle.sheet_picks.proofs.sheet.put_files.Goals as goal

pub loop-first-preserved : goal.loop-first-preserved
loop-first-preserved c =
    let t = zip_turn c.args.firsts.now c.args.lasts.now c.loop-first.yielded c.into_iter-first-iterator.result c.loop-first.first-iterator c.next.new.self _ (cc) (cc) c.loop-first.yielded_by _ c.in-Some.is c.next.ensures.steps in
    rw (length_push c.loop-first.yielded (c.in-Some.first, c.in-Some.last))
    (file_put _ _ _ _ c.requires.entry_rows c.requires.firsts_in_bounds _ _ _ c.loop-first.invariant t.0 _ refl _ _ (rw (t.2 0, t.3 0) at c.put_triple_line-next.ensures))

pub returns : goal.returns
returns c =
    let t = zip_end c.args.firsts.now c.args.lasts.now c.loop-first.yielded c.into_iter-first-iterator.result c.loop-first.first-iterator c.next.new.self _ (cc) (cc) c.loop-first.yielded_by c.in-None.is c.next.ensures.steps in
    files_put _ _ _ _ c.requires.entry_rows c.requires.firsts_in_bounds _ _ _ c.loop-first.invariant (omega (arith, c.requires.entry_rows.even))
