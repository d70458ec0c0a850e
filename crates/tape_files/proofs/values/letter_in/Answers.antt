use Rattle.std.proofs.Common.{sym, ◌∙◌}
use Rattle.tape_files.proofs.Digits.{letter_none, letter_many, letter_other, letter_one}
use Rattle.tape_files.proofs.values.letter_in.Goals as goal

pub returns-in_default : goal.returns-in_default
returns-in_default c = λ bytes e. letter_none c.args.chars bytes e c.in_default.is

pub returns-then-chars : goal.returns-then-chars
returns-then-chars c = λ bytes e. letter_many c.args.chars bytes e c.if-chars.true

pub returns-then-not-is_between : goal.returns-then-not-is_between
returns-then-not-is_between c = λ bytes e. letter_other c.args.chars bytes e _ c.in-Some.is c.if-chars.false (sym c.is_between.ensures ∙ c.if-not-is_between.true)

pub returns : goal.returns
returns c = λ bytes e. rw c.from.ensures (letter_one c.args.chars bytes e _ c.in-Some.is c.if-chars.false (sym c.is_between.ensures ∙ c.if-not-is_between.false))
