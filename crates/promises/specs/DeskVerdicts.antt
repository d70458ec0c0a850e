-- The verdict of an event at the desk, with its place: the first refusal of the event that applies, by the same conditions as of its call; 11 with place 0 for a line
-- that is no event; and 8 only where no refusal of the event applies and its text is longer than the row.
use Rattle.std.specs.Prelude.{ℕ, ◌≤◌, ◌<◌, ◌≡◌, false, ◌⊎◌, List, length, Option, Some, None}
use Rattle.refusals.specs.declared.Refusal.{Refusal}
use Rattle.refusals.specs.declared.Refusal.TheVariants.{Accepted, ShortRow, BadLine}
use Rattle.refusals.specs.declared.Verdict.{Verdict}
use Rattle.refusals.specs.Refusals.{is_refusal, accepted}
use Rattle.runs.specs.Alone.{zeros}
use Rattle.planner.specs.Rows.{Rows, rows_of}
use Rattle.desk_tickets.specs.declared.Ticket.{Ticket}
use Rattle.desk_tickets.specs.declared.Lasts.{Lasts}
use Rattle.desk_tickets.specs.declared.Filing.{Filing}
use Rattle.desk_tickets.specs.declared.Withdrawal.{Withdrawal}
use Rattle.desk_boardings.specs.declared.Boarding.{Boarding}
use Rattle.desk_boardings.specs.Boardings.{Tape, board_run}
use Rattle.answer_desk.specs.declared.Day as desk
use Rattle.answer_desk.specs.declared.Event.{Event}
use Rattle.answer_desk.specs.declared.Answered.{Answered}
use Rattle.answer_desk.specs.Days.{EventAnswered}
use Rattle.desk_rows.specs.declared.Told.{Told}
use Rattle.desk_rows.specs.declared.ToldRow.{ToldRow}
use Rattle.desk_rows.specs.Desk.{table_in}
use Rattle.desk_rows.specs.Events.{day_of, LentAnswered, HeldAnswered}
use Rattle.demands.specs.RefusalTable.{FirstThatApplies, SomeApplies}
use Rattle.demands.specs.Demand1.{PlanApplies, plan_order}
use Rattle.promises.specs.DeskRefusals.{RowApplies, row_order, FilingApplies, filing_order, WithdrawalApplies, withdrawal_order}
use Rattle.promises.specs.DeskTells.{boarding_at, EventTold}

-- What is filed and withdrawn, for a tape of so many files, with the day's last numbers.
abbrev pub filing_at : Tape → desk.Day → ℕ → ℕ → ℕ → Filing
filing_at tape day office file count = record { office = office; file = file; count = count; files = length tape.starts; lasts = day.lasts }

abbrev pub withdrawal_at : desk.Day → ℕ → ℕ → Withdrawal
withdrawal_at day office number = record { office = office; number = number; lasts = day.lasts }

-- A boarding: the row's refusal where one applies, and else the planner's for the run of those who board.
pub record FirstOfBoarding (len : ℕ) (tape : Tape) (row : List Ticket) (b : Boarding) (before : Rows) (v : Verdict) : Type 0 where
  pub of_the_row : SomeApplies (RowApplies len row b.lasts) row_order → FirstThatApplies (RowApplies len row b.lasts) row_order v.refusal v.place
  pub of_the_run : (SomeApplies (RowApplies len row b.lasts) row_order → ⊥) → FirstThatApplies (PlanApplies (board_run tape row b) before) plan_order v.refusal v.place

-- A verdict, with its place, is an event's own.
abbrev pub OwnVerdict : ℕ → Tape → desk.Day → List ℕ → Option Event → Verdict → Type 0
OwnVerdict len tape day room (Some (Event.File office file count)) v =
    FirstThatApplies (FilingApplies len day.row (filing_at tape day office file count)) filing_order v.refusal v.place
OwnVerdict len tape day room (Some (Event.Withdraw office number)) v =
    FirstThatApplies (WithdrawalApplies len day.row (withdrawal_at day office number)) withdrawal_order v.refusal v.place
OwnVerdict len tape day room (Some (Event.Board head turn)) v =
    FirstOfBoarding len tape day.row (boarding_at day head turn) (rows_of (zeros 8) (zeros 8) (zeros 8) (zeros 8) room) v
OwnVerdict len tape day room None v = (v.refusal ≡ BadLine) × (v.place ≡ 0)

-- 8 for the row of the text: no refusal of the event applies, and the text that it would be told has more bytes than the row, 2,677 at most.
pub record RowTooShort (len : ℕ) (tape : Tape) (day : desk.Day) (room out : List ℕ) (e : Option Event) (v : Verdict) : Type 0 where
  pub eight : v ≡ record { refusal = ShortRow; place = 0 }
  pub passes : OwnVerdict len tape day room e accepted
  pub next : desk.Day
  pub text : List ℕ
  pub told : EventTold len tape day room e next text
  pub longer : length out < length text
  pub most : length text ≤ 2677

-- Whatever is lent.
abbrev pub EventVerdicts : Type 0
EventVerdicts =
    (len : ℕ) (tape : Tape) (day : desk.Day) (room out : List ℕ) (e : Option Event) (r : Answered) (room' out' : List ℕ)
    → EventAnswered len tape day room out e r room' out'
    → OwnVerdict len tape day room e r.verdict ⊎ RowTooShort len tape day room out e r.verdict

-- So of what `answer_held` and `answer` hand back: on the program's table, and on a lent row of any length.
abbrev pub ProgramVerdicts : Type 0
ProgramVerdicts =
    (row : List Ticket) (l : Lasts) (tape : Tape) (room out : List ℕ) (e : Option Event) (r : ToldRow) (room' out' : List ℕ)
    → HeldAnswered row l tape room out e r room' out'
    → OwnVerdict 32 tape (day_of row l) room e r.told.verdict ⊎ RowTooShort 32 tape (day_of row l) room out e r.told.verdict

abbrev pub LentVerdicts : Type 0
LentVerdicts =
    (ts : List Ticket) (l : Lasts) (tape : Tape) (room out : List ℕ) (e : Option Event) (r : Told) (exit : List Ticket) (room' out' : List ℕ)
    → LentAnswered ts l tape room out e r exit room' out'
    → OwnVerdict (length ts) tape (day_of (table_in ts) l) room e r.verdict ⊎ RowTooShort (length ts) tape (day_of (table_in ts) l) room out e r.verdict

-- Every kind but acceptance refuses, for whatever counts refusals.
abbrev pub OnlyAcceptancePasses : Type 0
OnlyAcceptancePasses = (is_refusal Accepted ≡ false) × ((kind : Refusal) → is_refusal kind ≡ false → kind ≡ Accepted)
