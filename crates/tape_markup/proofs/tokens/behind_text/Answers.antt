use Rattle.std.proofs.Common.{rules}
use Rattle.tape_markup.proofs.Texts.{text_over, text_behind}
use Rattle.tape_markup.specs.Steps.{behind_text}
use Rattle.tape_markup.proofs.tokens.behind_text.Goals as goal

pub returns-in-Text : goal.returns-in-Text
returns-in-Text c = rw c.in-Text.is (text_behind _ _ _ c.behind_chars.ensures.0)

pub returns-in-Text-2 : goal.returns-in-Text-2
returns-in-Text-2 c = rw c.in-Text.is (text_over _ _ (search rules))

pub returns-in-Plain : goal.returns-in-Plain
unfolding behind_text
returns-in-Plain c = rw c.in-Plain.is

pub returns-in-Shut : goal.returns-in-Shut
unfolding behind_text
returns-in-Shut c = rw c.in-Shut.is
