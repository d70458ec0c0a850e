-- What the functions that board, and that put a boarding's text on a page, ask and leave. No public contract cites this file.
use Rattle.std.specs.Prelude.{ℕ, ◌≤◌, min, ◌≡◌, true, false, ◌⊎◌, List, ◌++◌, length, take, drop}
use Rattle.refusals.specs.Refusals.{is_refusal}
use Rattle.text_pages.specs.Printing.{pair_lines}
use Rattle.planner.specs.Rows.{Rows}
use Rattle.sheet_writer.specs.declared.Written.{Written}
use Rattle.sheet_writer.specs.PlanSheet.{detour_key}
use Rattle.sheet_writer.specs.Writing.{row_verdict, Handed}
use Rattle.desk_tickets.specs.declared.Ticket.{Ticket}
use Rattle.desk_tickets.specs.WaitingTable.{places}
use Rattle.desk_boardings.specs.declared.Boarding.{Boarding}
use Rattle.desk_boardings.specs.declared.Boarded.{Boarded}
use Rattle.desk_boardings.specs.declared.BoardedRow.{BoardedRow}
use Rattle.desk_boardings.specs.Boarders.{boarders}
use Rattle.desk_boardings.specs.Boardings.{Tape, Boards}
use Rattle.answer_desk.specs.declared.Day.{Day}
use Rattle.answer_desk.specs.declared.Reads.{Reads}
use Rattle.answer_desk.specs.declared.Answered.{Answered}
use Rattle.answer_desk.specs.Answers.{most_text, closed_lines, boarded_top, verdict_in}
use Rattle.answer_desk.specs.Days.{Refuses, Tells, rows_lent, boarding_text, boarding_outcome}

-- The text by the places from which tickets leave.
unfoldable pub places_text : List Ticket → Boarded → List ℕ → List ℕ → Reads → List ℕ
places_text row b froms tos reads =
    boarded_top b.taken b.answer
    ++ pair_lines detour_key (take (min b.answer.detours 8) froms) (take (min b.answer.detours 8) tos)
    ++ closed_lines reads (take b.taken.one (drop 0 row))
    ++ closed_lines reads (take b.taken.two (drop places row))

-- Who leaves, where the plan is accepted: at most eight of each office, from its first places on.
pub record Leaving (row : List Ticket) (b : Boarded) : Type 0 where
  pub one : b.taken.one ≤ 8
  pub two : b.taken.two ≤ 8
  pub who : boarders row ≡ take b.taken.one (drop 0 row) ++ take b.taken.two (drop places row)

-- A text of at most so many bytes, handed out.
pub record TextSaid (most : ℕ) (text out : List ℕ) (w : Written) (out' : List ℕ) : Type 0 where
  pub few : length text ≤ most
  pub handed : Handed (row_verdict text out) text out w out'

-- A boarding on a row that takes its text: what is said and left. On a shorter row nothing is said here.
pub record BoardedNow (len : ℕ) (tape : Tape) (day : Day) (b : Boarding) (room out : List ℕ) (r : Answered) (room' out' : List ℕ) : Type 0 where
  pub done : BoardedRow
  pub rows : Rows
  pub boards : Boards len tape day.row b (rows_lent room) done rows
  pub refused : is_refusal done.boarded.answer.refusal ≡ true → Refuses (verdict_in done.boarded.answer) day room out r room' out'
  pub most : is_refusal done.boarded.answer.refusal ≡ false → length (boarding_text day.row done rows) ≤ most_text
  pub told : is_refusal done.boarded.answer.refusal ≡ false → length (boarding_text day.row done rows) ≤ length out → Tells (boarding_outcome day.row done rows) out r room' out'

-- How many bytes a boarding in any room of so many words says; 0 where it is refused.
pub record SaysSo (len : ℕ) (tape : Tape) (day : Day) (b : Boarding) (room : List ℕ) (n : ℕ) : Type 0 where
  pub done : BoardedRow
  pub rows : Rows
  pub boards : Boards len tape day.row b (rows_lent room) done rows
  pub none : is_refusal done.boarded.answer.refusal ≡ true → n ≡ 0
  pub some : is_refusal done.boarded.answer.refusal ≡ false → n ≡ length (boarding_text day.row done rows)
  pub most : is_refusal done.boarded.answer.refusal ≡ false → n ≤ most_text

abbrev pub Rehearsed : ℕ → Tape → Day → Boarding → ℕ → ℕ → Type 0
Rehearsed len tape day b words n = (room : List ℕ) → length room ≡ words → SaysSo len tape day b room n

abbrev pub Needed : ℕ → ℕ → Tape → Day → Boarding → ℕ → ℕ → Type 0
Needed row len tape day b words n = ((n ≡ 0) × (most_text ≤ row)) ⊎ Rehearsed len tape day b words n
