-- Requests L6 and L7 in the form that 01 names: a lent row of records. Calls of the three functions of `desk_rows` on one row, one after the other, are a day on the
-- table that its first 32 records hold: so every promise over days (Desk) holds of the lent row, and its later records stay as they were.
use Rattle.std.specs.Prelude.{◌≤◌, ◌≡◌, List, [], ◌∷◌, length, drop}
use Rattle.planner.specs.Rows.{Rows}
use Rattle.desk_tickets.specs.declared.Ticket.{Ticket}
use Rattle.desk_tickets.specs.declared.Lasts.{Lasts}
use Rattle.desk_tickets.specs.declared.Filing.{Filing}
use Rattle.desk_tickets.specs.declared.Filed.{Filed}
use Rattle.desk_tickets.specs.declared.Withdrawal.{Withdrawal}
use Rattle.desk_tickets.specs.declared.Withdrawn.{Withdrawn}
use Rattle.desk_boardings.specs.declared.Boarding.{Boarding}
use Rattle.desk_boardings.specs.declared.Boarded.{Boarded}
use Rattle.desk_boardings.specs.Boardings.{Tape}
use Rattle.desk_rows.specs.Desk.{table_in, filed_from, row_filed, withdrawn_from, row_withdrawn, BoardsLent}
use Rattle.promises.specs.Desk.{Kept, Call, filing, withdrawal, boarding, Day}

-- A call on a lent row that fits the contract of `desk_rows`: the row and the last numbers go in, the next ones come back. The call that it is: what was handed in,
-- what came back, and the table in the row afterwards.
pub data LentFits : List Ticket → Lasts → Call → List Ticket → Lasts → Type 0 where
  lent_filing : {ts exit : List Ticket} {l : Lasts} {f : Filing} {r : Filed}
      → f.lasts ≡ l
      → r ≡ filed_from ts f
      → exit ≡ row_filed ts f
      → LentFits ts l (filing (length ts) f (record { filed = r; row = table_in exit })) exit r.lasts
  lent_withdrawal : {ts exit : List Ticket} {l : Lasts} {w : Withdrawal} {r : Withdrawn}
      → w.lasts ≡ l
      → r ≡ withdrawn_from ts w
      → exit ≡ row_withdrawn ts w
      → LentFits ts l (withdrawal (length ts) w (record { withdrawn = r; row = table_in exit })) exit r.lasts
  lent_boarding : {ts exit : List Ticket} {l : Lasts} {tape : Tape} {b : Boarding} {before after : Rows} {r : Boarded}
      → b.lasts ≡ l
      → BoardsLent ts tape b before r after exit
      → LentFits ts l (boarding (length ts) tape b before after (record { boarded = r; row = table_in exit })) exit r.lasts

pub data LentDay : List Ticket → Lasts → List Call → List Ticket → Lasts → Type 0 where
  lent_over : {ts : List Ticket} {l : Lasts} → LentDay ts l [] ts l
  lent_then : {ts next last : List Ticket} {l m n : Lasts} {c : Call} {cs : List Call} → LentFits ts l c next m → LentDay next m cs last n → LentDay ts l (c ∷ cs) last n

-- The table in a row, with the last numbers.
abbrev pub kept_in : List Ticket → Lasts → Kept
kept_in ts l = record { row = table_in ts; lasts = l }

abbrev pub DayOnALentRow : Type 0
DayOnALentRow =
    (ts last : List Ticket) (l m : Lasts) (cs : List Call)
    → 32 ≤ length ts
    → LentDay ts l cs last m
    → Day (kept_in ts l) cs (kept_in last m) × (drop 32 last ≡ drop 32 ts)
