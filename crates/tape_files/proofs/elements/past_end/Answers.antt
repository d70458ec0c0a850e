use Rattle.tape_markup.proofs.Texts.{text_told}
use Rattle.tape_files.proofs.Frames.{left_behind}
use Rattle.tape_files.proofs.elements.past_end.Goals as goal

pub end_from-requires : goal.end_from-requires
end_from-requires c = (text_told _ _ _ c.requires c.behind_text.ensures).within

pub returns : goal.returns
returns c = left_behind _ _ _ c.requires c.behind_text.ensures c.end_from.result c.end_from.ensures
