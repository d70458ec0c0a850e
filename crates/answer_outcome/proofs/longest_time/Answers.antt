use Rattle.std.proofs.Common.{sym, ◌∙◌, rules}
use Rattle.std.proofs.lemmas.List.{length_push}
use Rattle.std.proofs.lemmas.Slice.Zip.{zip_turn, zip_end}
use Rattle.answer_outcome.proofs.Turns.{longest_turn, longest_end}
use Rattle.answer_outcome.proofs.longest_time.Goals as goal

pub loop-file-preserved : goal.loop-file-preserved
loop-file-preserved c =
    let t = zip_turn c.args.files.now c.args.times.now c.loop-file.yielded c.into_iter-file-iterator.result c.loop-file.file-iterator c.next.new.self _ (search rules) (search rules) c.loop-file.yielded_by (c.in-Some.file, c.in-Some.time) c.in-Some.is c.next.ensures.steps in
    rw (c.longer_of-most.ensures, length_push, t.2 0, t.3 0) (sym (longest_turn _ _ _ _ t.0 t.1) ∙ c.loop-file.invariant)

pub returns : goal.returns
returns c =
    let e = zip_end c.args.files.now c.args.times.now c.loop-file.yielded c.into_iter-file-iterator.result c.loop-file.file-iterator c.next.new.self _ (search rules) (search rules) c.loop-file.yielded_by c.in-None.is c.next.ensures.steps in
    sym (longest_end _ _ _ _ e) ∙ c.loop-file.invariant
