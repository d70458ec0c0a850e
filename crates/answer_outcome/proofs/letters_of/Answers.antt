use Rattle.std.proofs.Common.{◌++◌, length, ap}
use Rattle.answer_outcome.specs.Outcomes.{name_in}
use Rattle.answer_outcome.proofs.Turns.{drop_zeros}
use Rattle.answer_outcome.proofs.letters_of.Goals as goal

pub returns : goal.returns
unfolding name_in
returns c =
    let name = c.args.name.now in
    rw c.copy_from_slice.ensures.after (ap (λ l. name ++ l) (drop_zeros (length name) 16))
