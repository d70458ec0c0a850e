-- One, two, three or four bytes, by how large the number is.
use mathlib.Core.Path.{refl, sym, ◌∙◌}
use Rattle.text_references.proofs.Digits.{char_most, utf8_none, utf8_one, utf8_two, utf8_long}
use Rattle.text_references.proofs.encode.Goals as goal

pub returns-then-not-is_character : goal.returns-then-not-is_character
returns-then-not-is_character c = rw (← utf8_none c.args.number (sym c.is_character.ensures ∙ c.if-not-is_character.true)) (record { size = refl; fields = refl })

pub returns-then-number-lt128 : goal.returns-then-number-lt128
returns-then-number-lt128 c = rw (← utf8_one c.args.number (sym c.is_character.ensures ∙ c.if-not-is_character.false) c.if-number-lt128.true) (record { size = refl; fields = refl })

pub returns-then-number-lt2048 : goal.returns-then-number-lt2048
returns-then-number-lt2048 c = rw (c.later_byte-last.ensures, ← utf8_two c.args.number (sym c.is_character.ensures ∙ c.if-not-is_character.false) c.if-number-lt128.false c.if-number-lt2048.true) (record { size = refl; fields = refl })

pub encode_long-requires : goal.encode_long-requires
encode_long-requires c = char_most _ (sym c.is_character.ensures ∙ c.if-not-is_character.false)

pub returns : goal.returns
returns c = rw (← utf8_long c.args.number (sym c.is_character.ensures ∙ c.if-not-is_character.false) c.if-number-lt2048.false, ← c.later_byte.ensures, ← c.later_byte-last.ensures) c.encode_long.ensures
