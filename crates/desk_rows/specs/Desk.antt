-- The waiting table in a lent row of records: its first 32, which alone are read and written.
use Rattle.std.specs.Prelude.{◌-◌, ◌≡◌, List, ◌++◌, length, take, drop, replicate}
use Rattle.planner.specs.Rows.{Rows}
use Rattle.desk_tickets.specs.declared.Ticket.{Ticket}
use Rattle.desk_tickets.specs.declared.Filing.{Filing}
use Rattle.desk_tickets.specs.declared.Filed.{Filed}
use Rattle.desk_tickets.specs.declared.Withdrawal.{Withdrawal}
use Rattle.desk_tickets.specs.declared.Withdrawn.{Withdrawn}
use Rattle.desk_tickets.specs.WaitingTable.{all_places, no_ticket}
use Rattle.desk_tickets.specs.Filings.{file_row}
use Rattle.desk_tickets.specs.Withdrawals.{withdraw_row}
use Rattle.desk_boardings.specs.declared.Boarding.{Boarding}
use Rattle.desk_boardings.specs.declared.Boarded.{Boarded}
use Rattle.desk_boardings.specs.declared.BoardedRow.{BoardedRow}
use Rattle.desk_boardings.specs.Boardings.{Tape, Boards, boarded_by}

-- The table that a row holds: its first 32 records, and empty places where it has fewer.
unfoldable pub table_in : List Ticket → List Ticket
table_in ts = take all_places ts ++ replicate (all_places - length ts) no_ticket

-- The row with a table in its first 32 records, as far as it has them; later records stay.
unfoldable pub with_table : List Ticket → List Ticket → List Ticket
with_table table ts = take (length ts) table ++ drop all_places ts

-- A filing in a lent row: the answer of one in the table that it holds, and the row with the table afterwards. A withdrawal likewise.
abbrev pub filed_from : List Ticket → Filing → Filed
filed_from ts f = (file_row (length ts) (table_in ts) f).filed

abbrev pub row_filed : List Ticket → Filing → List Ticket
row_filed ts f = with_table (file_row (length ts) (table_in ts) f).row ts

abbrev pub withdrawn_from : List Ticket → Withdrawal → Withdrawn
withdrawn_from ts w = (withdraw_row (length ts) (table_in ts) w).withdrawn

abbrev pub row_withdrawn : List Ticket → Withdrawal → List Ticket
row_withdrawn ts w = with_table (withdraw_row (length ts) (table_in ts) w).row ts

-- An answer to a boarding with the table afterwards: who boards leaves only when the plan is accepted.
abbrev pub boarded_row : List Ticket → Boarded → BoardedRow
boarded_row table b = record { boarded = b; row = (boarded_by table b.lasts b.answer).row }

-- A boarding from a lent row: the answer and the rows lent beside it are those of a boarding of the table that it holds, and the table afterwards is
-- written back.
pub record BoardsLent (ts : List Ticket) (tape : Tape) (b : Boarding) (before : Rows) (r : Boarded) (after : Rows) (exit : List Ticket) : Type 0 where
  pub boards : Boards (length ts) tape (table_in ts) b before (boarded_row (table_in ts) r) after
  pub row : exit ≡ with_table (boarded_row (table_in ts) r).row ts
