-- The key and six numbers, one behind the other.
use Rattle.std.proofs.Common.{arith}
use Rattle.text_pages.proofs.Pages.{wrote_on, wrote_within}
use Rattle.answer_desk.proofs.pages.put_ticket.Goals as goal

pub returns : goal.returns
returns c =
    let wide = c.requires in
    let one = c.put-office_at.ensures.room (omega arith) in
    let two = wrote_on one (omega arith) c.put_pair-comma_at.ensures in
    let three = wrote_on two (omega arith) c.put-file_at.ensures in
    let four = wrote_on three (omega arith) c.put_number-count_at.ensures in
    wrote_within (wrote_on four (omega arith) c.put_triple_line.ensures) _ (omega arith)
