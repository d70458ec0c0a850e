-- Requests L6 and L7: what a filing, a withdrawal and a boarding are refused for, each refusal by its own condition, in order: 8, 26 with its place; then of
-- a filing 15, 16, 18, of a withdrawal 17, and of a boarding the planner's.
use Rattle.std.specs.Prelude.{ℕ, ◌-◌, ◌≤◌, ◌<◌, ◌≡◌, ◌⊎◌, List, [], ◌∷◌, length, get_or, take}
use Rattle.refusals.specs.declared.Refusal.{Refusal}
use Rattle.refusals.specs.declared.Refusal.TheVariants.{ShortRow, BadTicket, OfficeFull, NotWaiting, NumbersSpent, BadRecord}
use Rattle.desk_tickets.specs.declared.Ticket.{Ticket}
use Rattle.desk_tickets.specs.declared.Lasts.{Lasts}
use Rattle.desk_tickets.specs.declared.Filing.{Filing}
use Rattle.desk_tickets.specs.declared.FiledRow.{FiledRow}
use Rattle.desk_tickets.specs.declared.Withdrawal.{Withdrawal}
use Rattle.desk_tickets.specs.declared.WithdrawnRow.{WithdrawnRow}
use Rattle.desk_tickets.specs.WaitingTable.{no_ticket, last_of, office_at, waiting, records_verdict}
use Rattle.desk_tickets.specs.Filings.{file_row}
use Rattle.desk_tickets.specs.Withdrawals.{withdraw_row}
use Rattle.planner.specs.Rows.{Rows}
use Rattle.desk_boardings.specs.declared.Boarding.{Boarding}
use Rattle.desk_boardings.specs.declared.BoardedRow.{BoardedRow}
use Rattle.desk_boardings.specs.Boardings.{Tape, board_run, Boards}
use Rattle.demands.specs.RefusalTable.{FirstBad, FirstThatApplies, SomeApplies}
use Rattle.demands.specs.Demand1.{PlanApplies, plan_order}
use Rattle.promises.specs.Desk.{IsTable}

-- A number of 1 to `most`.
pub record Within (most n : ℕ) : Type 0 where
  pub some : n ≡ 0 → ⊥
  pub few : n ≤ most

-- A ticket of an office: its office, a file number of 1 to 4,096, a count of 1 to 128, a number of 1 to the last given.
pub record IsTicketOf (office last : ℕ) (t : Ticket) : Type 0 where
  pub at_office : t.office ≡ office
  pub file : Within 4096 t.file
  pub count : Within 128 t.count
  pub number : Within last t.number

-- One may stand behind the other: that is a ticket, and numbers ascend.
abbrev pub Follows : Ticket → Ticket → Type 0
Follows ahead t = (ahead ≡ no_ticket → ⊥) × (ahead.number < t.number)

-- The place before a record is the same office's, and it may not stand behind that.
abbrev pub OutOfTurn : List Ticket → ℕ → Type 0
OutOfTurn row i = ((i ≡ 0) ⊎ (i ≡ 16) → ⊥) × (Follows (get_or row (i - 1) no_ticket) (get_or row i no_ticket) → ⊥)

-- A record that is not so: not empty, and no ticket of its place's office or out of turn.
abbrev pub RecordIsBad : Lasts → List Ticket → ℕ → Type 0
RecordIsBad l row i =
    (get_or row i no_ticket ≡ no_ticket → ⊥) × ((IsTicketOf (office_at i) (last_of (office_at i) l) (get_or row i no_ticket) → ⊥) ⊎ OutOfTurn row i)

-- Of every row of records: 8, then 26.
pub data RowApplies (len : ℕ) (row : List Ticket) (l : Lasts) : Refusal → ℕ → Type 0 where
  short_row : len < 32 → RowApplies len row l ShortRow 0
  bad_record : {place : ℕ} → FirstBad (RecordIsBad l row) 32 place → RowApplies len row l BadRecord place

abbrev pub row_order : List Refusal
row_order = ShortRow ∷ BadRecord ∷ []

-- A lent row is judged so, whatever is then asked of it.
abbrev pub RowJudged : Type 0
RowJudged = (len : ℕ) (row : List Ticket) (l : Lasts) → FirstThatApplies (RowApplies len row l) row_order (records_verdict len row l).refusal (records_verdict len row l).place

-- The place of 26 is the first p such that no table has these first p records: none has, and for each number below p one has.
abbrev pub IsTableOf : Lasts → List Ticket → Type 0
IsTableOf l row = IsTable (record { row = row; lasts = l })

pub record IsFirstSuch (l : Lasts) (row : List Ticket) (p : ℕ) : Type 0 where
  pub none : (table : List Ticket) → IsTableOf l table → take p table ≡ take p row → ⊥
  pub some : (q : ℕ) → q < p → (table : List Ticket) × IsTableOf l table × (take q table ≡ take q row)

abbrev pub BadRecordIsFirstSuch : Type 0
BadRecordIsFirstSuch = (l : Lasts) (row : List Ticket) (p : ℕ) → length row ≡ 32 → FirstBad (RecordIsBad l row) 32 p → IsFirstSuch l row p

-- What is filed is in range: office 1 or 2, a file number of the tape and at most 4,096, a count of 1 to 128.
pub record InRange (f : Filing) : Type 0 where
  pub office : Within 2 f.office
  pub tape : Within f.files f.file
  pub file : Within 4096 f.file
  pub count : Within 128 f.count

pub data FilingApplies (len : ℕ) (row : List Ticket) (f : Filing) : Refusal → ℕ → Type 0 where
  records : {kind : Refusal} {place : ℕ} → RowApplies len row f.lasts kind place → FilingApplies len row f kind place
  out_of_range : (InRange f → ⊥) → FilingApplies len row f BadTicket 0
  office_full : 16 ≤ length (waiting f.office row) → FilingApplies len row f OfficeFull 0
  numbers_spent : 65535 ≤ last_of f.office f.lasts → FilingApplies len row f NumbersSpent 0

abbrev pub filing_order : List Refusal
filing_order = ShortRow ∷ BadRecord ∷ BadTicket ∷ OfficeFull ∷ NumbersSpent ∷ []

-- Whatever row of 32 records is handed in.
abbrev pub FilingAnswers : Type 0
FilingAnswers =
    (len : ℕ) (row : List Ticket) (f : Filing) (r : FiledRow)
    → r ≡ file_row len row f
    → FirstThatApplies (FilingApplies len row f) filing_order r.filed.verdict.refusal r.filed.verdict.place

-- A ticket of an office with a number waits.
pub record IsAmong (n : ℕ) (ts : List Ticket) : Type 0 where
  pub place : ℕ
  pub there : place < length ts
  pub is : (get_or ts place no_ticket).number ≡ n

abbrev pub IsWaiting : ℕ → ℕ → List Ticket → Type 0
IsWaiting office n row = Within 2 office × IsAmong n (waiting office row)

pub data WithdrawalApplies (len : ℕ) (row : List Ticket) (w : Withdrawal) : Refusal → ℕ → Type 0 where
  of_the_row : {kind : Refusal} {place : ℕ} → RowApplies len row w.lasts kind place → WithdrawalApplies len row w kind place
  not_waiting : (IsWaiting w.office w.number row → ⊥) → WithdrawalApplies len row w NotWaiting 0

abbrev pub withdrawal_order : List Refusal
withdrawal_order = ShortRow ∷ BadRecord ∷ NotWaiting ∷ []

abbrev pub WithdrawalAnswers : Type 0
WithdrawalAnswers =
    (len : ℕ) (row : List Ticket) (w : Withdrawal) (r : WithdrawnRow)
    → r ≡ withdraw_row len row w
    → FirstThatApplies (WithdrawalApplies len row w) withdrawal_order r.withdrawn.verdict.refusal r.withdrawn.verdict.place

-- A boarding: the row's refusal where one applies, and else the planner's for the run of those who board.
pub record BoardAnswers (len : ℕ) (tape : Tape) (row : List Ticket) (b : Boarding) (before : Rows) (r : BoardedRow) : Type 0 where
  pub records : SomeApplies (RowApplies len row b.lasts) row_order → FirstThatApplies (RowApplies len row b.lasts) row_order r.boarded.answer.refusal r.boarded.answer.place
  pub run : (SomeApplies (RowApplies len row b.lasts) row_order → ⊥)
      → FirstThatApplies (PlanApplies (board_run tape row b) before) plan_order r.boarded.answer.refusal r.boarded.answer.place

abbrev pub BoardingAnswers : Type 0
BoardingAnswers =
    (len : ℕ) (tape : Tape) (row : List Ticket) (b : Boarding) (before after : Rows) (r : BoardedRow)
    → Boards len tape row b before r after
    → BoardAnswers len tape row b before r
