-- What is told of a ticket that waits is so: its line says how many of its office's tickets are ahead of it, and the accepted boarding by which it leaves, counted
-- from then, unless it is withdrawn.
use Rattle.std.specs.Prelude.{ℕ, ◌≤◌, ◌<◌, ◌/◌, ◌≡◌, true, cond, ◌⊎◌, List, [], ◌++◌, length, get_or, take, eqb}
use Rattle.desk_tickets.specs.declared.Ticket.{Ticket}
use Rattle.desk_tickets.specs.WaitingTable.{no_ticket, waiting}
use Rattle.desk_waits.specs.Waits.{leaves_by, waits_line, waits_lines, waiting_text}
use Rattle.promises.specs.Desk.{Kept, IsTable, Call, Day, IsOffice, departures, withdrawn_in, LeavesOn}

-- The ticket with so many of its office's tickets ahead.
abbrev pub ticket_at : ℕ → ℕ → List Ticket → Ticket
ticket_at office j row = get_or (waiting office row) j no_ticket

-- Its line stands in the text, behind those of office 1 if it is office 2's, and those of its own office's tickets ahead.
pub record LineStands (office j : ℕ) (row : List Ticket) : Type 0 where
  pub before : List ℕ
  pub behind : List ℕ
  pub stands : waiting_text row ≡ before ++ waits_line j (ticket_at office j row) ++ behind
  pub ahead : before ≡ cond (eqb office 2) (waits_lines 0 (waiting 1 row)) [] ++ waits_lines 0 (take j (waiting office row))

abbrev pub EachLineStands : Type 0
EachLineStands = (office j : ℕ) (row : List Ticket) → IsOffice office → j < length (waiting office row) → LineStands office j row

-- And the boarding that it names takes the ticket, or one before it does.
abbrev pub LeavesAsTold : Type 0
LeavesAsTold =
    (office j : ℕ) (k last : Kept) (cs : List Call)
    → IsOffice office
    → IsTable k
    → Day k cs last
    → j < length (waiting office k.row)
    → leaves_by j ≤ departures cs
    → (withdrawn_in office (ticket_at office j k.row).number cs ≡ true)
    ⊎ ((leaves : LeavesOn office (ticket_at office j k.row).number k last cs) × (departures leaves.before < leaves_by j))
