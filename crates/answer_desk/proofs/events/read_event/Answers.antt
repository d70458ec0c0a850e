use Rattle.std.proofs.Common.{sym, ◌∙◌}
use Rattle.answer_desk.proofs.Reading.{file_found, other_found}
use Rattle.answer_desk.proofs.events.read_event.Goals as goal

pub returns-in-Some : goal.returns-in-Some
returns-in-Some c = file_found _ _ c.in-Some.ensures

pub returns : goal.returns
returns c = c.read_pair_event.ensures ∙ sym (other_found c.args.event.now c.in_default.ensures)
