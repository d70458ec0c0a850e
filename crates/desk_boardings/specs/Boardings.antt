-- What a boarding answers, for every input: the row's refusal and nothing changed; or the planner's answer for the wants of those who board, who leave
-- only when it is accepted.
use Rattle.std.specs.Prelude.{ℕ, ◌-◌, ◌≡◌, true, false, cond, List, [], ◌++◌, length}
use Rattle.refusals.specs.Refusals.{is_refusal}
use Rattle.runs.specs.Run.{Run, run_of}
use Rattle.runs.specs.Alone.{zeros}
use Rattle.runs.specs.Rows.{Lent}
use Rattle.walk.specs.declared.Answer.{Answer}
use Rattle.walk.specs.Price.{refusal_answer}
use Rattle.planner.specs.Plan.{Plans}
use Rattle.planner.specs.Rows.{Rows}
use Rattle.desk_tickets.specs.declared.Ticket.{Ticket}
use Rattle.desk_tickets.specs.declared.Lasts.{Lasts}
use Rattle.desk_tickets.specs.WaitingTable.{records_verdict}
use Rattle.desk_boardings.specs.declared.Boarding.{Boarding}
use Rattle.desk_boardings.specs.declared.Taken.{Taken}
use Rattle.desk_boardings.specs.declared.Wants.{Wants}
use Rattle.desk_boardings.specs.declared.BoardedRow.{BoardedRow}
use Rattle.desk_boardings.specs.Boarders.{Want, most_boarders, share_one, share_two, row_staying, wants_of, file_numbers, read_counts}

-- The tape table that a function's parameters hold.
pub record Tape : Type 0 where
  pub starts : List ℕ
  pub lengths : List ℕ
  pub aggregates : List ℕ

abbrev pub tape_at : {S L A : Type 0} → Lent S → Lent L → Lent A → Tape
tape_at starts lengths aggregates = record { starts = starts.entry.now; lengths = lengths.entry.now; aggregates = aggregates.entry.now }

-- The run of some wants, and that of a boarding.
abbrev pub run_on : Tape → List Want → Boarding → Run
run_on tape ws b = run_of tape.starts tape.lengths tape.aggregates (file_numbers ws) (read_counts ws) b.head b.turn

abbrev pub board_run : Tape → List Ticket → Boarding → Run
board_run tape row b = run_on tape (wants_of row) b

-- A row of eight: these, then zeros.
abbrev pub eight : List ℕ → List ℕ
eight ns = ns ++ zeros (most_boarders - length ns)

-- The wants in two rows of eight, and how many there are.
abbrev pub want_rows : List Want → Wants
want_rows ws = record { k = length ws; numbers = eight (file_numbers ws); counts = eight (read_counts ws) }

-- How many of each office board.
abbrev pub taken_of : List Ticket → Taken
taken_of row = record { one = share_one row; two = share_two row }

-- The answer where nobody boards: the row as it was, and every number but the answer's own 0. The last numbers stay, here and below.
abbrev pub not_boarded : List Ticket → Lasts → Answer → BoardedRow
not_boarded row l a = record { boarded = record { answer = a; taken = record { one = 0; two = 0 }; wants = want_rows []; lasts = l }; row = row }

-- The answer by the plan's: who boards leaves only when it is accepted.
abbrev pub boarded_by : List Ticket → Lasts → Answer → BoardedRow
boarded_by row l a =
    cond (is_refusal a.refusal) (not_boarded row l a)
    (record { boarded = record { answer = a; taken = taken_of row; wants = want_rows (wants_of row); lasts = l }; row = row_staying row })

-- 8 or 26 of the row of records: nothing changes.
pub record RowRefused (len : ℕ) (row : List Ticket) (b : Boarding) (before : Rows) (r : BoardedRow) (after : Rows) : Type 0 where
  pub says : r ≡ not_boarded row b.lasts (refusal_answer (records_verdict len row b.lasts))
  pub kept : after ≡ before

-- Else the plan of the run, its rows, and the tickets by it.
pub record RunPlanned (tape : Tape) (row : List Ticket) (b : Boarding) (before : Rows) (r : BoardedRow) (after : Rows) : Type 0 where
  pub plans : Plans (board_run tape row b) before r.boarded.answer after
  pub says : r ≡ boarded_by row b.lasts r.boarded.answer

pub record Boards (len : ℕ) (tape : Tape) (row : List Ticket) (b : Boarding) (before : Rows) (r : BoardedRow) (after : Rows) : Type 0 where
  pub refused : is_refusal (records_verdict len row b.lasts).refusal ≡ true → RowRefused len row b before r after
  pub planned : is_refusal (records_verdict len row b.lasts).refusal ≡ false → RunPlanned tape row b before r after
