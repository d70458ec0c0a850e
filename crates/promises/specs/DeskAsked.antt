-- Requests L6 and L7: each call does what was asked, by conditions and not by the definitions that the contracts cite. The ticket that is filed is the one handed
-- in; the one that is withdrawn is gone, and no other; the run that boards has the tape, the head and the price handed in; the table in a lent row is its first 32
-- records; and a line of a day is the event that it says.
use Rattle.std.specs.Prelude.{ℕ, ◌≤◌, ◌≡◌, List, [], ◌∷◌, ◌++◌, length, take, Option, Some, None}
use Rattle.refusals.specs.declared.Refusal.TheVariants.{Accepted}
use Rattle.text_bytes.specs.Text.{bytes, value_of}
use Rattle.text_lines.specs.Lines.{line_of}
use Rattle.desk_tickets.specs.declared.Ticket.{Ticket}
use Rattle.desk_tickets.specs.declared.Filing.{Filing}
use Rattle.desk_tickets.specs.declared.FiledRow.{FiledRow}
use Rattle.desk_tickets.specs.declared.Withdrawal.{Withdrawal}
use Rattle.desk_tickets.specs.declared.WithdrawnRow.{WithdrawnRow}
use Rattle.desk_tickets.specs.declared.Lasts.{Lasts}
use Rattle.desk_tickets.specs.WaitingTable.{last_of, waiting}
use Rattle.desk_boardings.specs.declared.Boarding.{Boarding}
use Rattle.desk_boardings.specs.Boardings.{Tape, board_run}
use Rattle.answer_desk.specs.declared.Event.{Event}
use Rattle.answer_desk.specs.Events.{event_of}
use Rattle.desk_rows.specs.Desk.{table_in}
use Rattle.desk_rows.specs.Events.{day_of}
use Rattle.demands.specs.Lines.{Stands, Pair, Triple}
use Rattle.promises.specs.Desk.{Kept, IsTable, IsOffice, filing, withdrawal, Fits}
use Rattle.promises.specs.DeskCases.{ticket}

-- Another office's tickets are as they were.
abbrev pub OthersStay : ℕ → List Ticket → List Ticket → Type 0
OthersStay office row next = (other : ℕ) → IsOffice other → (office ≡ other → ⊥) → waiting other next ≡ waiting other row

-- An accepted filing: behind its office's tickets stands one with the office, the file and the count handed in, and the number told.
pub record FilesIt (f : Filing) (number : ℕ) (row next : List Ticket) : Type 0 where
  pub own : waiting f.office next ≡ waiting f.office row ++ ticket f.office f.file f.count number ∷ []
  pub others : OthersStay f.office row next

abbrev pub FilingAdds : Type 0
FilingAdds =
    (len : ℕ) (k next : Kept) (f : Filing) (r : FiledRow)
    → IsTable k
    → Fits k (filing len f r) next
    → r.filed.verdict.refusal ≡ Accepted
    → FilesIt f r.filed.number k.row next.row

-- An accepted withdrawal: a ticket of that office with that number waited; it is gone, and those ahead of it and behind it wait on in their order.
pub record WithdrawsIt (w : Withdrawal) (row next : List Ticket) : Type 0 where
  pub ahead : List Ticket
  pub one : Ticket
  pub behind : List Ticket
  pub waited : waiting w.office row ≡ ahead ++ one ∷ behind
  pub is : one.number ≡ w.number
  pub gone : waiting w.office next ≡ ahead ++ behind
  pub others : OthersStay w.office row next

abbrev pub WithdrawalRemoves : Type 0
WithdrawalRemoves =
    (len : ℕ) (k next : Kept) (w : Withdrawal) (r : WithdrawnRow)
    → IsTable k
    → Fits k (withdrawal len w r) next
    → r.withdrawn.verdict.refusal ≡ Accepted
    → WithdrawsIt w k.row next.row

-- The run of those who board. Its wants are those of `WantsAdded`.
pub record IsRunOn (tape : Tape) (row : List Ticket) (b : Boarding) : Type 0 where
  pub starts : (board_run tape row b).starts ≡ tape.starts
  pub lengths : (board_run tape row b).lengths ≡ tape.lengths
  pub aggregates : (board_run tape row b).aggregates ≡ tape.aggregates
  pub head : (board_run tape row b).head ≡ b.head
  pub turn : (board_run tape row b).turn ≡ b.turn

abbrev pub BoardsOnTheTape : Type 0
BoardsOnTheTape = (tape : Tape) (row : List Ticket) (b : Boarding) → IsRunOn tape row b

-- The table in a lent row.
abbrev pub TableIsFirst32 : Type 0
TableIsFirst32 = (ts : List Ticket) → 32 ≤ length ts → table_in ts ≡ take 32 ts

-- An office's last number, and the table and the last numbers as a day.
abbrev pub LastsByOffice : Type 0
LastsByOffice = (row : List Ticket) (l : Lasts) → (last_of 1 l ≡ l.one) × ((last_of 2 l ≡ l.two) × (day_of row l ≡ record { row = row; lasts = l }))

-- What a line holds: the numbers behind its key, in their order; no event where it is none of these three.
pub data LineHolds (line : List ℕ) : Option Event → Type 0 where
  a_filing : (s : Stands (bytes "file=") Triple line 0) → LineHolds line (Some (Event.File (value_of s.kind.first) (value_of s.kind.right.first) (value_of s.kind.right.others)))
  a_withdrawal : (s : Stands (bytes "withdraw=") Pair line 0) → LineHolds line (Some (Event.Withdraw (value_of s.kind.first) (value_of s.kind.others)))
  a_boarding : (s : Stands (bytes "board=") Pair line 0) → LineHolds line (Some (Event.Board (value_of s.kind.first) (value_of s.kind.others)))
  no_event : (Stands (bytes "file=") Triple line 0 → ⊥) → (Stands (bytes "withdraw=") Pair line 0 → ⊥) → (Stands (bytes "board=") Pair line 0 → ⊥) → LineHolds line None

abbrev pub EventIsItsLine : Type 0
EventIsItsLine = (line : List ℕ) → LineHolds line (event_of (line_of line))
