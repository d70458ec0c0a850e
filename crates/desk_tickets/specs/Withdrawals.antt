-- A withdrawal: the ticket of an office with a number leaves, and those behind it move up; or it is refused and nothing changes.
use Rattle.std.specs.Prelude.{ℕ, Bool, false, not, cond, ◌&&◌, ◌||◌, List, [], ◌∷◌, eqb}
use Rattle.refusals.specs.declared.Refusal.TheVariants.{NotWaiting}
use Rattle.refusals.specs.declared.Verdict.{Verdict}
use Rattle.refusals.specs.Refusals.{is_refusal, refuse_if, first_of}
use Rattle.desk_tickets.specs.declared.Ticket.{Ticket}
use Rattle.desk_tickets.specs.declared.Withdrawal.{Withdrawal}
use Rattle.desk_tickets.specs.declared.WithdrawnRow.{WithdrawnRow}
use Rattle.desk_tickets.specs.WaitingTable.{offices, up_to, waiting, row_of, records_verdict}

-- Whether one of some tickets has a number; and the tickets without it, in their order.
unfoldable pub has_number : ℕ → List Ticket → Bool
has_number n [] = false
has_number n (t ∷ ts) = eqb t.number n || has_number n ts

unfoldable pub without_number : ℕ → List Ticket → List Ticket
without_number n [] = []
without_number n (t ∷ ts) = cond (eqb t.number n) ts (t ∷ without_number n ts)

-- Whether a ticket of an office with a number waits.
abbrev pub is_waiting : ℕ → ℕ → List Ticket → Bool
is_waiting office n row = up_to offices office && has_number n (waiting office row)

-- A withdrawal's refusals: 8 and 26, then 17 (that office and number is not waiting).
unfoldable pub withdraw_verdict : ℕ → List Ticket → Withdrawal → Verdict
withdraw_verdict len row w =
    first_of
    (records_verdict len row w.lasts
    ∷ refuse_if (not (is_waiting w.office w.number row)) NotWaiting
    ∷ [])

-- The tickets of an office without one of a number, if that is this office's.
abbrev pub without_ticket : ℕ → Withdrawal → List Ticket → List Ticket
without_ticket office w ts = cond (eqb w.office office) (without_number w.number ts) ts

abbrev pub row_left : Withdrawal → List Ticket → List Ticket
row_left w row = row_of (without_ticket 1 w (waiting 1 row)) (without_ticket 2 w (waiting 2 row))

-- The answer and the row afterwards; on a refusal the row as it was. The last numbers stay.
unfoldable pub withdraw_row : ℕ → List Ticket → Withdrawal → WithdrawnRow
withdraw_row len row w =
    let v : Verdict = withdraw_verdict len row w in
    record { withdrawn = record { verdict = v; lasts = w.lasts }; row = cond (is_refusal v.refusal) row (row_left w row) }
