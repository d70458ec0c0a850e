-- Worked: a day at the tape of document 01's sheet, line by line as the program hands them to `answer_held`, each answer byte for byte.
use Rattle.std.specs.Prelude.{ℕ, ◌≤◌, ◌≡◌, List, [], ◌∷◌, ◌++◌, length, drop, replicate, Some, None}
use Rattle.refusals.specs.Refusals.{accepted}
use Rattle.runs.specs.Alone.{zeros}
use Rattle.text_bytes.specs.Text.{bytes}
use Rattle.text_lines.specs.Lines.{line_of}
use Rattle.desk_tickets.specs.declared.Ticket.{Ticket}
use Rattle.desk_tickets.specs.WaitingTable.{row_of}
use Rattle.answer_desk.specs.declared.Day as desk
use Rattle.answer_desk.specs.declared.Event.{Event}
use Rattle.answer_desk.specs.Events.{event_of}
use Rattle.desk_rows.specs.Events.{HeldAnswered}
use Rattle.promises.specs.DeskCases.{ticket, lasts}
use Rattle.promises.specs.DeskDays.{sheet_tape}

-- Lines and what they hold; the last three are no events.
abbrev pub LinesCase : Type 0
LinesCase =
    (event_of (line_of (bytes "file=1,2,3\n")) ≡ Some (Event.File 1 2 3))
    × (event_of (line_of (bytes "withdraw=2,5\n")) ≡ Some (Event.Withdraw 2 5))
    × (event_of (line_of (bytes "board=60,1\n")) ≡ Some (Event.Board 60 1))
    × (event_of (line_of (bytes "file=1,2\n")) ≡ None)
    × (event_of (line_of (bytes "withdraw=2\n")) ≡ None)
    × (event_of (line_of (bytes "leave=60,1\n")) ≡ None)

-- The tickets of both offices, and the last numbers given.
abbrev pub desk_at : List Ticket → List Ticket → ℕ → ℕ → desk.Day
desk_at ones twos one two = record { row = row_of ones twos; lasts = lasts one two }

-- A line on a day, in a room of 54 words, is accepted on any row of 2,677 bytes: the day afterwards, the room, and the text.
abbrev pub Accepts : desk.Day → List ℕ → desk.Day → List ℕ → List ℕ → Type 0
Accepts day line next room' text =
    (out : List ℕ)
    → 2677 ≤ length out
    → HeldAnswered day.row day.lasts sheet_tape (replicate 54 7) out (event_of (line_of line))
    (record { row = next.row; told = record { lasts = next.lasts; verdict = accepted; bytes = length text } }) room' (text ++ drop (length text) out)

abbrev pub ones : List Ticket
ones = ticket 1 1 1 1 ∷ ticket 1 2 3 2 ∷ []

abbrev pub WorkedDay : Type 0
WorkedDay =
    Accepts (desk_at [] [] 0 0) (bytes "file=1,1,1\n") (desk_at (ticket 1 1 1 1 ∷ []) [] 1 0) (replicate 54 7) (bytes "filed=1,1\n")
    × Accepts (desk_at (ticket 1 1 1 1 ∷ []) [] 1 0) (bytes "file=1,2,3\n") (desk_at ones [] 2 0) (replicate 54 7) (bytes "filed=1,2\n")
    × Accepts (desk_at ones [] 2 0) (bytes "file=2,3,1\n") (desk_at ones (ticket 2 3 1 1 ∷ []) 2 1) (replicate 54 7) (bytes "filed=2,1\n")
    × Accepts (desk_at ones (ticket 2 3 1 1 ∷ []) 2 1) (bytes "file=2,1,5\n") (desk_at ones (ticket 2 3 1 1 ∷ ticket 2 1 5 2 ∷ []) 2 2) (replicate 54 7) (bytes "filed=2,2\n")
    × Accepts (desk_at ones (ticket 2 3 1 1 ∷ ticket 2 1 5 2 ∷ []) 2 2) (bytes "withdraw=2,2\n") (desk_at ones (ticket 2 3 1 1 ∷ []) 2 2) (replicate 54 7) (bytes "withdrawn=2,2\n")
    × Accepts (desk_at ones (ticket 2 3 1 1 ∷ []) 2 2) (bytes "board=60,1\n") (desk_at [] [] 2 2) (zeros 54)
    (bytes "boarded=2,1\nsum=367\nfinish=121\nend=50\ndetours=1\ndetour=2,2\nticket=1,1,1,1,81,2\nticket=1,2,2,3,55,1\nticket=2,1,3,1,121,2\n")
