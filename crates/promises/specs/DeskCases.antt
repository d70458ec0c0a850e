-- Requests L6 and L7: worked cases, as equations that compute.
use Rattle.std.specs.Prelude.{ℕ, ◌≡◌, List, [], ◌∷◌, ◌++◌, replicate}
use Rattle.refusals.specs.declared.Refusal.{Refusal}
use Rattle.refusals.specs.declared.Refusal.TheVariants.{ShortRow, BadTicket, NotWaiting, NumbersSpent, BadRecord}
use Rattle.refusals.specs.declared.Verdict.{Verdict}
use Rattle.refusals.specs.Refusals.{accepted}
use Rattle.desk_tickets.specs.declared.Ticket.{Ticket}
use Rattle.desk_tickets.specs.declared.Lasts.{Lasts}
use Rattle.desk_tickets.specs.declared.Filing.{Filing}
use Rattle.desk_tickets.specs.declared.FiledRow.{FiledRow}
use Rattle.desk_tickets.specs.declared.Withdrawal.{Withdrawal}
use Rattle.desk_tickets.specs.WaitingTable.{no_ticket, row_of, records_verdict}
use Rattle.desk_tickets.specs.Filings.{file_verdict}
use Rattle.desk_tickets.specs.Withdrawals.{without_number, withdraw_verdict}
use Rattle.desk_boardings.specs.Boarders.{Want, share, with_wants}
use Rattle.promises.specs.Desk.{at_first, filing, withdrawal, Day}

-- Office, file, count and number.
abbrev pub ticket : ℕ → ℕ → ℕ → ℕ → Ticket
ticket office file count number = record { office = office; file = file; count = count; number = number }

abbrev pub lasts : ℕ → ℕ → Lasts
lasts one two = record { one = one; two = two }

abbrev pub want : ℕ → ℕ → Want
want file count = record { file = file; count = count }

-- Office, file, count, the tape's files, and the last numbers.
abbrev pub filed : ℕ → ℕ → ℕ → ℕ → Lasts → Filing
filed office file count files l = record { office = office; file = file; count = count; files = files; lasts = l }

abbrev pub taken : ℕ → ℕ → Lasts → Withdrawal
taken office number l = record { office = office; number = number; lasts = l }

abbrev pub refused : Refusal → ℕ → Verdict
refused kind place = record { refusal = kind; place = place }

-- How many of an office board, by how many wait there and at the other office.
abbrev pub ShareCases : Type 0
ShareCases = (share 16 16 ≡ 4) × (share 12 0 ≡ 8) × (share 10 1 ≡ 7) × (share 1 10 ≡ 1) × (share 3 5 ≡ 3) × (share 5 3 ≡ 5) × (share 0 16 ≡ 0)

-- Three tickets for two files: ascending, counts of file 3 added over both offices.
abbrev pub WantsCase : Type 0
WantsCase = with_wants [] (ticket 1 3 2 1 ∷ ticket 1 1 1 2 ∷ ticket 2 3 5 1 ∷ []) ≡ want 1 1 ∷ want 3 7 ∷ []

-- 8; a ticket behind an empty place, at its own place; one of the other office; one without a file; a hole in the second half; numbers that do not ascend, a
-- number 0, one above the last given; and two sound rows.
abbrev pub RowCases : Type 0
RowCases =
    (records_verdict 32 at_first.row (lasts 0 0) ≡ accepted)
    × (records_verdict 31 at_first.row (lasts 0 0) ≡ refused ShortRow 0)
    × (records_verdict 40 (no_ticket ∷ ticket 1 7 1 1 ∷ replicate 30 no_ticket) (lasts 9 9) ≡ refused BadRecord 2)
    × (records_verdict 32 (ticket 1 7 1 1 ∷ ticket 2 7 1 2 ∷ replicate 30 no_ticket) (lasts 9 9) ≡ refused BadRecord 2)
    × (records_verdict 32 (ticket 1 0 1 1 ∷ replicate 31 no_ticket) (lasts 9 9) ≡ refused BadRecord 1)
    × (records_verdict 32 (replicate 17 no_ticket ++ ticket 2 7 128 1 ∷ replicate 14 no_ticket) (lasts 9 9) ≡ refused BadRecord 18)
    × (records_verdict 32 (row_of (ticket 1 7 1 3 ∷ ticket 1 7 1 3 ∷ []) []) (lasts 9 9) ≡ refused BadRecord 2)
    × (records_verdict 32 (row_of (ticket 1 7 1 0 ∷ []) []) (lasts 9 9) ≡ refused BadRecord 1)
    × (records_verdict 32 (row_of [] (ticket 2 7 1 5 ∷ [])) (lasts 9 4) ≡ refused BadRecord 17)
    × (records_verdict 32 (row_of (ticket 1 4096 128 2 ∷ ticket 1 1 1 9 ∷ []) (ticket 2 1 1 1 ∷ [])) (lasts 9 1) ≡ accepted)

-- A filing: accepted; 15 for a file that the tape has not, a count over 128, an office 3; 18 once 65,535 was given, and after 15.
abbrev pub FilingCases : Type 0
FilingCases =
    (file_verdict 32 at_first.row (filed 1 10 128 10 (lasts 65534 65535)) ≡ accepted)
    × (file_verdict 32 at_first.row (filed 1 11 1 10 (lasts 0 0)) ≡ refused BadTicket 0)
    × (file_verdict 32 at_first.row (filed 1 4097 1 5000 (lasts 0 0)) ≡ refused BadTicket 0)
    × (file_verdict 32 at_first.row (filed 2 1 129 10 (lasts 0 0)) ≡ refused BadTicket 0)
    × (file_verdict 32 at_first.row (filed 3 1 1 10 (lasts 65535 65535)) ≡ refused BadTicket 0)
    × (file_verdict 32 at_first.row (filed 2 10 128 10 (lasts 65534 65535)) ≡ refused NumbersSpent 0)
    × (file_verdict 32 at_first.row (filed 2 10 128 10 (lasts 65534 70000)) ≡ refused NumbersSpent 0)

-- A withdrawal: accepted; the other office's number; a number that has left; an office 3; and the tickets without the middle one.
abbrev pub three : List Ticket
three = ticket 1 7 1 2 ∷ ticket 1 8 1 3 ∷ ticket 1 9 1 5 ∷ []

abbrev pub WithdrawalCases : Type 0
WithdrawalCases =
    (withdraw_verdict 32 (row_of three []) (taken 1 3 (lasts 5 5)) ≡ accepted)
    × (withdraw_verdict 32 (row_of three []) (taken 2 3 (lasts 5 5)) ≡ refused NotWaiting 0)
    × (withdraw_verdict 32 (row_of three []) (taken 1 4 (lasts 5 5)) ≡ refused NotWaiting 0)
    × (withdraw_verdict 32 (row_of three []) (taken 3 3 (lasts 5 5)) ≡ refused NotWaiting 0)
    × (without_number 3 three ≡ ticket 1 7 1 2 ∷ ticket 1 9 1 5 ∷ [])

-- A day: a ticket is filed and withdrawn, and the next one is given number 2. The table is empty in between.
abbrev pub alone : ℕ → ℕ → List Ticket
alone file number = row_of (ticket 1 file 1 number ∷ []) []

abbrev pub filed_alone : ℕ → ℕ → FiledRow
filed_alone file number = record { filed = record { verdict = accepted; number = number; lasts = lasts number 0 }; row = alone file number }

abbrev pub DayCase : Type 0
DayCase =
    Day at_first
    (filing 32 (filed 1 7 1 10 (lasts 0 0)) (filed_alone 7 1)
    ∷ withdrawal 32 (taken 1 1 (lasts 1 0)) (record { withdrawn = record { verdict = accepted; lasts = lasts 1 0 }; row = at_first.row })
    ∷ filing 32 (filed 1 8 1 10 (lasts 1 0)) (filed_alone 8 2)
    ∷ [])
    (record { row = alone 8 2; lasts = lasts 2 0 })
