use Rattle.std.proofs.Common.{◌≤◌, length, arith, rules}
use Rattle.std.proofs.lemmas.List.{length_push}
use Rattle.std.proofs.lemmas.Slice.Zip.{zip_turn, zip_end}
use Rattle.text_pages.proofs.Pages.{line_put, lines_put, pairs_left, pairs_over}
use Rattle.sheet_writer.proofs.page.put_pairs.Goals as goal

pub loop-first-preserved : goal.loop-first-preserved
loop-first-preserved c =
    let t = zip_turn c.args.firsts.now c.args.seconds.now c.loop-first.yielded c.into_iter-first-iterator.result c.loop-first.first-iterator c.next.new.self _ (search rules) (search rules) c.loop-first.yielded_by (c.in-Some.first, c.in-Some.second) c.in-Some.is c.next.ensures.steps in
    rw length_push
    (line_put _ _ _ _ _ c.requires.firsts_in_bounds _ _ _ _ c.loop-first.invariant t.0 _ _
    (rw (t.2 0, t.3 0) (pairs_left _ _ _ c.requires.firsts_len _ t.0)) _ (omega arith) _ _ c.put_pair_line-next.ensures)

pub returns : goal.returns
returns c =
    let e = zip_end c.args.firsts.now c.args.seconds.now c.loop-first.yielded c.into_iter-first-iterator.result c.loop-first.first-iterator c.next.new.self _ (search rules) (search rules) c.loop-first.yielded_by c.in-None.is c.next.ensures.steps in
    let done : length c.args.firsts.now ≤ length c.loop-first.yielded = omega arith in
    lines_put _ _ _ _ _ c.requires.firsts_in_bounds _ _ _ _ c.loop-first.invariant done (pairs_over _ _ _ c.requires.firsts_len _ done)
