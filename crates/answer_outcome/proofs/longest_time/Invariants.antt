use Rattle.std.proofs.Common.{◌≡◌, length, drop}
use Rattle.answer_outcome.specs.Outcomes.{longest_from, longest_of}
use Rattle.answer_outcome.proofs.longest_time.Given as goal

abbrev pub invariant-loop-file : goal.invariant-loop-file
invariant-loop-file l = longest_from l.most (drop (length l.yielded) l.files) (drop (length l.yielded) l.times) ≡ longest_of l.files l.times
