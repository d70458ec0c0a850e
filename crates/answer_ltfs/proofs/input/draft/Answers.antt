use Rattle.std.proofs.Common.{refl}
use Rattle.answer_ltfs.proofs.Framing.{no_name, no_texts, drafted}
use Rattle.answer_ltfs.proofs.input.draft.Goals as goal

pub returns-in_default : goal.returns-in_default
returns-in_default c = no_name _ _ _ c.tape_line.ensures c.in_default.is _ refl _ c.refusal_of.ensures

pub returns-in_default-texts_at : goal.returns-in_default-texts_at
returns-in_default-texts_at c =
    no_texts _ _ _ c.tape_line.ensures _ c.in-Some.is _ c.texts_at.ensures c.in_default-texts_at.is _ refl _ c.refusal_of-in_default-texts_at.ensures

pub returns : goal.returns
returns c =
    drafted _ _ _ c.tape_line.ensures _ c.in-Some.is _ c.texts_at.ensures _ c.in-Some-texts_at.is c.requires _ _ _ refl refl refl _ c.table_sheet.ensures.value _ c.table_sheet.ensures.out_after
