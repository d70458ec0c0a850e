-- What counts as one line of an event, and who waits, line by line.
use Rattle.std.specs.Prelude.{ℕ, suc, ◌+◌, ◌/◌, ◌≡◌, List, [], ◌∷◌, ◌++◌, length, None}
use Rattle.text_bytes.specs.Text.{bytes, decimal}
use Rattle.text_lines.specs.Lines.{line_of}
use Rattle.desk_tickets.specs.declared.Ticket.{Ticket}
use Rattle.desk_tickets.specs.WaitingTable.{waiting}
use Rattle.answer_desk.specs.Events.{event_of}
use Rattle.desk_waits.specs.Waits.{waiting_text}
use Rattle.boundary_desk.specs.Calls.{one_line}
use Rattle.demands.specs.Letters.{NoFeed}
use Rattle.promises.specs.Texts.{pair, triple}

-- Bytes that are one line with its LF are taken as they are; any others are no event.
pub record IsOneLine (bytes : List ℕ) : Type 0 where
  pub text : List ℕ
  pub plain : NoFeed text
  pub is : bytes ≡ text ++ (10 ∷ [])

abbrev pub OneLineIsTaken : Type 0
OneLineIsTaken = (line : List ℕ) → (IsOneLine line → one_line line ≡ line) × ((IsOneLine line → ⊥) → event_of (line_of (one_line line)) ≡ None)

-- The text: `waits=OFFICE,NUMBER,FILE,COUNT,AHEAD,BOARDINGS` for each ticket of office 1, in order of filing, then for each of office 2; and `waiting=N1,N2`.
abbrev pub waits_on : ℕ → Ticket → List ℕ
waits_on ahead t = bytes "waits=" ++ pair t.office t.number ++ bytes "," ++ decimal t.file ++ (bytes "," ++ triple t.count ahead (ahead / 4 + 1) ++ bytes "\n")

pub data WaitOn : ℕ → List Ticket → List ℕ → Type 0 where
  nobody : {ahead : ℕ} → WaitOn ahead [] []
  one_more : {ahead : ℕ} {t : Ticket} {ts : List Ticket} {text : List ℕ} → WaitOn (suc ahead) ts text → WaitOn ahead (t ∷ ts) (waits_on ahead t ++ text)

pub record WaitingLines (row : List Ticket) (text : List ℕ) : Type 0 where
  pub ones : List ℕ
  pub twos : List ℕ
  pub of_one : WaitOn 0 (waiting 1 row) ones
  pub of_two : WaitOn 0 (waiting 2 row) twos
  pub whole : text ≡ ones ++ twos ++ (bytes "waiting=" ++ pair (length (waiting 1 row)) (length (waiting 2 row)) ++ bytes "\n")

abbrev pub WaitingByItsLines : Type 0
WaitingByItsLines = (row : List Ticket) → WaitingLines row (waiting_text row)
