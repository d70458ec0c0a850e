use Rattle.tape_markup.proofs.Texts.{text_told}
use Rattle.tape_files.proofs.Frames.{child_behind}
use Rattle.tape_files.proofs.elements.child_from.Goals as goal

pub tag_from-requires : goal.tag_from-requires
tag_from-requires c = (text_told _ _ _ c.requires c.behind_text.ensures).within

pub returns : goal.returns
returns c = child_behind _ _ _ c.requires c.behind_text.ensures c.tag_from.result c.tag_from.ensures
