-- The first lines, the detours and the tickets, one behind the other.
use Rattle.answer_desk.proofs.Leaving.{places_wrote}
use Rattle.answer_desk.proofs.pages.put_boarding.Goals as goal

pub returns : goal.returns
returns c =
    let a = c.args in
    places_wrote a.row a.boarded a.froms a.tos a.reads _ c.up_to_eight-n.ensures c.requires.one_bound c.requires.two_bound _ _ _ _ _ _ _ _ _
    c.put_top-detours_at.ensures c.put_detours-ones_at.ensures c.put_tickets-twos_at.ensures c.put_tickets.ensures
