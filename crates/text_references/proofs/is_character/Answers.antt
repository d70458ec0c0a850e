use Rattle.text_references.proofs.Digits.{char_low, char_high, char_below, char_above}
use Rattle.text_references.proofs.is_character.Goals as goal

pub returns-then-number-lt1 : goal.returns-then-number-lt1
returns-then-number-lt1 c = char_low _ c.if-number-lt1.true

pub returns-then-number-gt1114111 : goal.returns-then-number-gt1114111
returns-then-number-gt1114111 c = char_high _ c.if-number-lt1.false c.if-number-gt1114111.true

pub returns-then-number-lt55296 : goal.returns-then-number-lt55296
returns-then-number-lt55296 c = char_below _ c.if-number-lt1.false c.if-number-gt1114111.false c.if-number-lt55296.true

pub returns : goal.returns
returns c = char_above _ c.if-number-lt1.false c.if-number-gt1114111.false c.if-number-lt55296.false
