-- An event of a day at the desk on a lent row of records: answered on the table that its first 32 records hold, which are then those of the day afterwards.
use Rattle.std.specs.Prelude.{ℕ, ◌≡◌, List, length, Option}
use Rattle.desk_tickets.specs.declared.Ticket.{Ticket}
use Rattle.desk_tickets.specs.declared.Lasts.{Lasts}
use Rattle.desk_boardings.specs.Boardings.{Tape}
use Rattle.answer_desk.specs.declared.Day.{Day}
use Rattle.answer_desk.specs.declared.Event.{Event}
use Rattle.answer_desk.specs.declared.Answered.{Answered}
use Rattle.answer_desk.specs.Days.{EventAnswered}
use Rattle.desk_rows.specs.Desk.{table_in, with_table}
use Rattle.desk_rows.specs.declared.Told.{Told}
use Rattle.desk_rows.specs.declared.ToldRow.{ToldRow}

-- The day that a table and last numbers are, and what is told of an answer beside the table.
abbrev pub day_of : List Ticket → Lasts → Day
day_of row l = record { row = row; lasts = l }

abbrev pub told_by : Answered → Told
told_by a = record { lasts = a.day.lasts; verdict = a.verdict; bytes = a.bytes }

abbrev pub told_row : List Ticket → Told → ToldRow
told_row row told = record { row = row; told = told }

pub record LentAnswered (ts : List Ticket) (l : Lasts) (tape : Tape) (room out : List ℕ) (e : Option Event) (r : Told) (exit : List Ticket) (room' out' : List ℕ) : Type 0 where
  pub answered : Answered
  pub answers : EventAnswered (length ts) tape (day_of (table_in ts) l) room out e answered room' out'
  pub whole : length answered.day.row ≡ 32
  pub says : r ≡ told_by answered
  pub row : exit ≡ with_table answered.day.row ts

-- On a table of 32 records, lent as a row.
pub record HeldAnswered (row : List Ticket) (l : Lasts) (tape : Tape) (room out : List ℕ) (e : Option Event) (r : ToldRow) (room' out' : List ℕ) : Type 0 where
  pub held : Answered
  pub answers : EventAnswered 32 tape (day_of row l) room out e held room' out'
  pub says : r ≡ told_row held.day.row (told_by held)
