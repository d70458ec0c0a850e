use Rattle.tape_files.proofs.Digits.{number_bad, number_good}
use Rattle.tape_files.proofs.values.number_in.Goals as goal

pub returns-in-Some : goal.returns-in-Some
returns-in-Some c = λ bytes e. number_good c.args.chars bytes e _ c.in-Some.is

pub returns-in-None : goal.returns-in-None
returns-in-None c = λ bytes e. number_bad c.args.chars bytes e c.in-None.is
