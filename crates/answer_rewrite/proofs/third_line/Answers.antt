use Rattle.answer_rewrite.proofs.Cut.{first_found, second_found, third_at}
use Rattle.answer_rewrite.proofs.third_line.Goals as goal

pub returns-in_default : goal.returns-in_default
returns-in_default c = absurd (first_found _ c.requires _ c.find.ensures c.in_default.is)

pub returns-in_default-find : goal.returns-in_default-find
returns-in_default-find c = absurd (second_found _ c.requires _ c.find.ensures _ c.in-Some.is _ c.find-2.ensures c.in_default-find.is)

pub returns : goal.returns
returns c = third_at _ c.requires _ c.find.ensures _ c.in-Some.is _ c.find-2.ensures _ c.in-Some-find.is
