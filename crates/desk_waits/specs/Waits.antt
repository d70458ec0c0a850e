-- Who waits, told: a line for each ticket with how many of its office's tickets are ahead of it and the boarding, counted from now, by which it leaves; then
-- how many wait at each office.
use Rattle.std.specs.Prelude.{ℕ, suc, ◌+◌, ◌/◌, List, [], ◌∷◌, ◌++◌, length}
use Rattle.refusals.specs.declared.Verdict.{Verdict}
use Rattle.refusals.specs.Refusals.{first_of}
use Rattle.text_bytes.specs.Text.{bytes, comma, decimal}
use Rattle.text_pages.specs.Printing.{pair_text, pair_line, triple_line}
use Rattle.sheet_writer.specs.declared.Written.{Written}
use Rattle.sheet_writer.specs.Writing.{row_verdict, Handed}
use Rattle.desk_tickets.specs.declared.Ticket.{Ticket}
use Rattle.desk_tickets.specs.declared.Lasts.{Lasts}
use Rattle.desk_tickets.specs.WaitingTable.{waiting, records_verdict}
use Rattle.desk_tickets.specs.Filings.{most_number}
use Rattle.desk_boardings.specs.Boarders.{own_places}

-- The boarding by which a ticket leaves that has so many of its office's tickets ahead: each takes at least four of them.
abbrev pub leaves_by : ℕ → ℕ
leaves_by ahead = ahead / own_places + 1

-- `waits=OFFICE,NUMBER,FILE,COUNT,AHEAD,BOARDINGS`.
abbrev pub waits_key : List ℕ
waits_key = bytes "waits="

abbrev pub waits_line : ℕ → Ticket → List ℕ
waits_line ahead t =
    waits_key ++ pair_text t.office t.number ++ (comma ∷ []) ++ decimal t.file ++ triple_line (comma ∷ []) t.count ahead (leaves_by ahead)

-- The lines of some tickets of one office, in order of filing, the first of which has so many ahead.
unfoldable pub waits_lines : ℕ → List Ticket → List ℕ
waits_lines ahead [] = []
waits_lines ahead (t ∷ ts) = waits_line ahead t ++ waits_lines (suc ahead) ts

-- Office 1's, then office 2's, then `waiting=N1,N2`.
abbrev pub waiting_key : List ℕ
waiting_key = bytes "waiting="

unfoldable pub waiting_text : List Ticket → List ℕ
waiting_text row =
    waits_lines 0 (waiting 1 row) ++ waits_lines 0 (waiting 2 row) ++ pair_line waiting_key (length (waiting 1 row)) (length (waiting 2 row))

-- No last numbers are lent, so a ticket's number may be any that is ever given.
abbrev pub any_lasts : Lasts
any_lasts = record { one = most_number; two = most_number }

-- 8 and 26 of the row of records, then 8 for a row shorter than the text, which is told in its first bytes.
unfoldable pub waiting_verdict : ℕ → List Ticket → List ℕ → Verdict
waiting_verdict len row out = first_of (records_verdict len row any_lasts ∷ row_verdict (waiting_text row) out ∷ [])

abbrev pub WaitingTold : ℕ → List Ticket → List ℕ → Written → List ℕ → Type 0
WaitingTold len row out r out' = Handed (waiting_verdict len row out) (waiting_text row) out r out'
