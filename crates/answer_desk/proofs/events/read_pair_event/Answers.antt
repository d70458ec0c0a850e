use mathlib.Core.Path.{subst}
use Rattle.text_lines.specs.Found.{PairLineFound}
use Rattle.answer_desk.specs.Events.{board_key}
use Rattle.answer_desk.proofs.Reading.{withdraw_found, board_found, none_found}
use Rattle.answer_desk.proofs.events.read_pair_event.Goals as goal

pub returns-in-Some : goal.returns-in-Some
returns-in-Some c = withdraw_found _ _ c.in-Some.ensures

pub returns-in_default-pair_line : goal.returns-in_default-pair_line
returns-in_default-pair_line c =
    let event = c.args.event.now in
    none_found event c.in_default.ensures (subst (λ r. PairLineFound board_key event 0 r) c.in_default-pair_line.is c.pair_line-2.ensures)

pub returns : goal.returns
returns c =
    let event = c.args.event.now in
    board_found event c.in_default.ensures _ (subst (λ r. PairLineFound board_key event 0 r) c.in-Some-pair_line.is c.pair_line-2.ensures)
