-- Each kind of markup as it was told.
use Rattle.tape_markup.proofs.Pieces.{comment_fits, plain_fits, instruction_fits, declaration_fits, end_tag_fits, comment_step, plain_told, instruction_step, declaration_step, end_tag_told, start_tag_told}
use Rattle.tape_markup.proofs.tokens.markup.Goals as goal

pub end_behind-requires-clause-at_in_bounds : goal.end_behind-requires-clause-at_in_bounds
end_behind-requires-clause-at_in_bounds c = comment_fits c.args.text.now c.args.at _ c.opening_of-opening.ensures c.in-Comment.is

pub plain_bytes-requires : goal.plain_bytes-requires
plain_bytes-requires c =
    plain_fits c.args.text.now c.args.at _
    c.opening_of-opening.ensures c.in-Plain.is

pub end_behind-requires-in-Instruction-clause-at_in_bounds : goal.end_behind-requires-in-Instruction-clause-at_in_bounds
end_behind-requires-in-Instruction-clause-at_in_bounds c = instruction_fits c.args.text.now c.args.at _ c.opening_of-opening.ensures c.in-Instruction.is

pub declaration_end-requires : goal.declaration_end-requires
declaration_end-requires c =
    declaration_fits c.args.text.now c.args.at _
    c.opening_of-opening.ensures c.in-Declaration.is

pub end_tag-requires : goal.end_tag-requires
end_tag-requires c =
    end_tag_fits c.args.text.now c.args.at _
    c.opening_of-opening.ensures c.in-EndTag.is

pub returns-in-Comment : goal.returns-in-Comment
returns-in-Comment c =
    comment_step c.args.text.now c.args.at _
    c.opening_of-opening.ensures c.in-Comment.is
    c.end_behind.result c.past.result c.end_behind.ensures c.past.ensures

pub returns-in-Plain : goal.returns-in-Plain
returns-in-Plain c =
    plain_told c.args.text.now c.args.at _
    c.opening_of-opening.ensures c.in-Plain.is c.plain_bytes.result c.plain_bytes.ensures

pub returns-in-Instruction : goal.returns-in-Instruction
returns-in-Instruction c =
    instruction_step c.args.text.now c.args.at _
    c.opening_of-opening.ensures c.in-Instruction.is
    c.end_behind-in-Instruction.result c.past-in-Instruction.result c.end_behind-in-Instruction.ensures c.past-in-Instruction.ensures

pub returns-in-Declaration : goal.returns-in-Declaration
returns-in-Declaration c =
    declaration_step c.args.text.now c.args.at _
    c.opening_of-opening.ensures c.in-Declaration.is c.declaration_end.result
    c.past-in-Declaration.result c.declaration_end.ensures c.past-in-Declaration.ensures

pub returns-in-EndTag : goal.returns-in-EndTag
returns-in-EndTag c =
    end_tag_told c.args.text.now c.args.at _
    c.opening_of-opening.ensures c.in-EndTag.is c.end_tag.result c.end_tag.ensures

pub returns-in-StartTag : goal.returns-in-StartTag
returns-in-StartTag c =
    start_tag_told c.args.text.now c.args.at _
    c.opening_of-opening.ensures c.in-StartTag.is c.start_tag.result c.start_tag.ensures
