-- A filing: a ticket goes behind its office's tickets, or is refused and nothing changes.
use Rattle.std.specs.Prelude.{ℕ, suc, Bool, not, cond, ◌&&◌, List, [], ◌∷◌, ◌++◌, length, leb, eqb}
use Rattle.refusals.specs.declared.Refusal.TheVariants.{BadTicket, OfficeFull, NumbersSpent}
use Rattle.refusals.specs.declared.Verdict.{Verdict}
use Rattle.refusals.specs.Refusals.{is_refusal, refuse_if, first_of}
use Rattle.runs.specs.Run.{most_files}
use Rattle.desk_tickets.specs.declared.Ticket.{Ticket}
use Rattle.desk_tickets.specs.declared.Lasts.{Lasts}
use Rattle.desk_tickets.specs.declared.Filing.{Filing}
use Rattle.desk_tickets.specs.declared.FiledRow.{FiledRow}
use Rattle.desk_tickets.specs.WaitingTable.{offices, places, most_count, up_to, last_of, waiting, row_of, records_verdict}

-- The office is 1 or 2, the file number 1 to the tape's number of files, at most 4,096, and the count 1 to 128.
abbrev pub in_range : Filing → Bool
in_range f = up_to offices f.office && up_to f.files f.file && up_to most_files f.file && up_to most_count f.count

-- 16: that office has 16 waiting.
abbrev pub is_full : ℕ → List Ticket → Bool
is_full office row = leb places (length (waiting office row))

-- 18: that office has been given number 65,535.
abbrev pub most_number : ℕ
most_number = 65535

abbrev pub is_spent : ℕ → Lasts → Bool
is_spent office l = leb most_number (last_of office l)

-- A filing's refusals: 8 and 26, then 15 (something out of range), then 16, then 18.
unfoldable pub file_verdict : ℕ → List Ticket → Filing → Verdict
file_verdict len row f =
    first_of
    (records_verdict len row f.lasts
    ∷ refuse_if (not (in_range f)) BadTicket
    ∷ refuse_if (is_full f.office row) OfficeFull
    ∷ refuse_if (is_spent f.office f.lasts) NumbersSpent
    ∷ [])

-- The number that a filing is given: one more than its office's last.
abbrev pub number_for : Filing → ℕ
number_for f = suc (last_of f.office f.lasts)

-- The last numbers once an office has been given this one.
abbrev pub lasts_with : ℕ → ℕ → Lasts → Lasts
lasts_with office n l = cond (eqb office 2) (record { one = l.one; two = n }) (record { one = n; two = l.two })

abbrev pub ticket_of : Filing → Ticket
ticket_of f = record { office = f.office; file = f.file; count = f.count; number = number_for f }

-- The tickets of an office with one more, if it is that office's.
abbrev pub with_ticket : ℕ → Ticket → List Ticket → List Ticket
with_ticket office t ts = cond (eqb t.office office) (ts ++ t ∷ []) ts

abbrev pub row_with_ticket : Ticket → List Ticket → List Ticket
row_with_ticket t row = row_of (with_ticket 1 t (waiting 1 row)) (with_ticket 2 t (waiting 2 row))

-- Refused: the row and the last numbers as they were. Filed: a ticket more, and its number.
abbrev pub not_filed : List Ticket → Filing → Verdict → FiledRow
not_filed row f v = record { filed = record { verdict = v; number = 0; lasts = f.lasts }; row = row }

abbrev pub filed_in : List Ticket → Filing → Verdict → FiledRow
filed_in row f v =
    record {
      filed = record { verdict = v; number = number_for f; lasts = lasts_with f.office (number_for f) f.lasts };
      row = row_with_ticket (ticket_of f) row;
    }

-- The answer and the row afterwards.
unfoldable pub file_row : ℕ → List Ticket → Filing → FiledRow
file_row len row f =
    let v : Verdict = file_verdict len row f in
    cond (is_refusal v.refusal) (not_filed row f v) (filed_in row f v)
