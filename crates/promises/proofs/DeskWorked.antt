-- The worked day computes.
use Prim.Native.Nat.{ℕ, ◌≤◌}
use mathlib.Core.Path.{◌≡◌, refl, sym, ap, subst, ◌∙◌}
use mathlib.Core.Bool.{true≢false}
use mathlib.Core.List.{List, [], ◌∷◌, ◌++◌}
use native.Mathlib.Omega.{arith}
use lib.ListN.{length, drop, replicate}
use Rattle.std.specs.Prelude.{Option, Some}
use Rattle.refusals.specs.declared.Refusal.TheVariants.{Accepted}
use Rattle.refusals.specs.Refusals.{is_refusal, accepted, first_where}
use Rattle.runs.specs.Alone.{zeros}
use Rattle.text_bytes.specs.Text.{bytes, has, before, behind, starts_with, all_of, value_from, is_number, decimal_in}
use Rattle.text_lines.specs.Lines.{line_of, is_pair, is_pair_line, is_triple, is_triple_line}
use Rattle.text_pages.specs.Printing.{pair_lines}
use Rattle.desk_tickets.specs.declared.Ticket.{Ticket}
use Rattle.desk_tickets.specs.declared.Lasts.{Lasts}
use Rattle.desk_tickets.specs.declared.Filing.{Filing}
use Rattle.desk_tickets.specs.declared.Withdrawal.{Withdrawal}
use Rattle.desk_tickets.specs.WaitingTable.{tickets_in, records_verdict}
use Rattle.desk_tickets.specs.Filings.{file_verdict, file_row}
use Rattle.desk_tickets.specs.Withdrawals.{has_number, withdraw_verdict, without_number, withdraw_row}
use Rattle.desk_boardings.specs.declared.Boarding.{Boarding}
use Rattle.desk_boardings.specs.declared.BoardedRow.{BoardedRow}
use Rattle.desk_boardings.specs.Boarders.{add_want, with_wants, wants_of}
use Rattle.desk_boardings.specs.Boardings.{Boards}
use Rattle.answer_desk.specs.declared.Day as desk
use Rattle.answer_desk.specs.declared.Event.{Event}
use Rattle.answer_desk.specs.declared.Answered.{Answered}
use Rattle.answer_desk.specs.Events.{pair_event_of, event_of}
use Rattle.answer_desk.specs.Answers.{place_in, closed_lines, boarded_top, boarded_text}
use Rattle.answer_desk.specs.Days.{Outcome, AnswersEvent, filing_outcome, withdrawal_outcome, boarding_outcome, EventAnswered}
use Rattle.desk_rows.specs.Events.{day_of, HeldAnswered}
use Rattle.promises.specs.Desk.{at_first}
use Rattle.promises.specs.DeskCases.{ticket, lasts}
use Rattle.promises.specs.DeskDays.{sheet_tape, sheet_boarded, sheet_after}
use Rattle.promises.specs.DeskWorked.{LinesCase, desk_at, Accepts, ones, WorkedDay}
use Rattle.promises.proofs.DeskDayCases.{three, lent, planned}

pub lines_case : LinesCase
unfolding event_of pair_event_of line_of is_triple_line is_pair_line is_triple is_pair is_number starts_with all_of value_from has before behind
lines_case = (refl, refl, refl, refl, refl, refl)

-- An outcome that is accepted, on a row that takes its text.
answered_so : (d e : desk.Day) (m n : ℕ) → d ≡ e → m ≡ n → ◌≡◌ {A = Answered} (record { day = d; verdict = accepted; bytes = m }) (record { day = e; verdict = accepted; bytes = n })
answered_so d e m n p q = rw (p, q)

told_here : (day : desk.Day) (o : Outcome) (room out : List ℕ) (next : desk.Day) (room' text : List ℕ) → o.verdict.refusal ≡ Accepted → next ≡ o.next → room' ≡ o.left → text ≡ o.text → length text ≤ 2677 → 2677 ≤ length out
    → AnswersEvent day o room out (record { day = next; verdict = accepted; bytes = length text }) room' (text ++ drop (length text) out)
told_here day o room out next room' text served day_is left_is text_is few takes =
    let size = ap length text_is in
    record {
      refused = λ y. absurd (true≢false (sym y ∙ ap is_refusal served));
      most = λ _. omega (arith, few, size);
      short = λ _ l. absurd (omega (arith, l, few, takes, size));
      told = λ _ _. record { says = answered_so next o.next (length text) (length o.text) day_is size; left = left_is; handed = ap (λ (t : List ℕ). t ++ drop (length t) out) text_is };
    }

-- A line that holds an event.
held_so : (row next : List Ticket) (l m : Lasts) (line room out room' text : List ℕ) (e : Option Event) → event_of (line_of line) ≡ e
    → EventAnswered 32 sheet_tape (day_of row l) room out e (record { day = day_of next m; verdict = accepted; bytes = length text }) room' (text ++ drop (length text) out)
    → HeldAnswered row l sheet_tape room out (event_of (line_of line)) (record { row = next; told = record { lasts = m; verdict = accepted; bytes = length text } }) room' (text ++ drop (length text) out)
held_so row next l m line room out room' text e is a =
    record {
      held = record { day = day_of next m; verdict = accepted; bytes = length text };
      answers = subst (λ (x : Option Event). EventAnswered 32 sheet_tape (day_of row l) room out x (record { day = day_of next m; verdict = accepted; bytes = length text }) room' (text ++ drop (length text) out)) (sym is) a;
      says = refl;
    }

abbrev filing_at : desk.Day → ℕ → ℕ → ℕ → Filing
filing_at day office file count = record { office = office; file = file; count = count; files = 3; lasts = day.lasts }

abbrev day0 : desk.Day
day0 = desk_at [] [] 0 0

abbrev day1 : desk.Day
day1 = desk_at (ticket 1 1 1 1 ∷ []) [] 1 0

abbrev day2 : desk.Day
day2 = desk_at ones [] 2 0

abbrev day3 : desk.Day
day3 = desk_at ones (ticket 2 3 1 1 ∷ []) 2 1

abbrev day4 : desk.Day
day4 = desk_at ones (ticket 2 3 1 1 ∷ ticket 2 1 5 2 ∷ []) 2 2

abbrev day5 : desk.Day
day5 = desk_at ones (ticket 2 3 1 1 ∷ []) 2 2

abbrev day6 : desk.Day
day6 = desk_at [] [] 2 2

-- The four filings.
abbrev FilesSo : desk.Day → ℕ → ℕ → ℕ → desk.Day → List ℕ → Type 0
FilesSo day office file count next text =
    (room : List ℕ) → let o : Outcome = filing_outcome (filing_at day office file count) (file_row 32 day.row (filing_at day office file count)) room in
    (o.verdict.refusal ≡ Accepted) × (next ≡ o.next) × (room ≡ o.left) × (text ≡ o.text)

first_filed : FilesSo day0 1 1 1 day1 (bytes "filed=1,1\n")
unfolding first_where records_verdict tickets_in file_verdict file_row decimal_in
first_filed room = (refl, refl, refl, refl)

second_filed : FilesSo day1 1 2 3 day2 (bytes "filed=1,2\n")
unfolding first_where records_verdict tickets_in file_verdict file_row decimal_in
second_filed room = (refl, refl, refl, refl)

third_filed : FilesSo day2 2 3 1 day3 (bytes "filed=2,1\n")
unfolding first_where records_verdict tickets_in file_verdict file_row decimal_in
third_filed room = (refl, refl, refl, refl)

fourth_filed : FilesSo day3 2 1 5 day4 (bytes "filed=2,2\n")
unfolding first_where records_verdict tickets_in file_verdict file_row decimal_in
fourth_filed room = (refl, refl, refl, refl)

filing_told : (day next : desk.Day) (office file count : ℕ) (line text : List ℕ) → event_of (line_of line) ≡ Some (Event.File office file count) → FilesSo day office file count next text → length text ≤ 2677 → Accepts day line next (replicate 54 7) text
filing_told day next office file count line text is files few out takes =
    held_so day.row next.row day.lasts next.lasts line (replicate 54 7) out (replicate 54 7) text (Some (Event.File office file count)) is (
      λ room. let h = files room in told_here (day_of day.row day.lasts) (filing_outcome (filing_at day office file count) (file_row 32 day.row (filing_at day office file count)) room) room out (day_of next.row next.lasts) room text h.0 h.1 h.2 h.3 few takes,
      refl,
    )

-- The withdrawal.
abbrev taken : Withdrawal
taken = record { office = 2; number = 2; lasts = lasts 2 2 }

abbrev withdrawn_so : List ℕ → Outcome
withdrawn_so room = withdrawal_outcome taken (withdraw_row 32 day4.row taken) room

withdrawn_so_lem : (room : List ℕ) → ((withdrawn_so room).verdict.refusal ≡ Accepted) × (day5 ≡ (withdrawn_so room).next) × (room ≡ (withdrawn_so room).left) × (bytes "withdrawn=2,2\n" ≡ (withdrawn_so room).text)
unfolding first_where records_verdict tickets_in has_number withdraw_verdict without_number withdraw_row decimal_in
withdrawn_so_lem room = (refl, refl, refl, refl)

-- The boarding.
abbrev given : Boarding
given = record { head = 60; turn = 1; lasts = lasts 2 2 }

abbrev done : BoardedRow
done =
    record {
      boarded = record { answer = sheet_boarded.boarded.answer; taken = sheet_boarded.boarded.taken; wants = sheet_boarded.boarded.wants; lasts = lasts 2 2 };
      row = at_first.row;
    }

boarded : Boards 32 sheet_tape three given lent done sheet_after
unfolding first_where records_verdict tickets_in add_want with_wants wants_of
boarded = record { refused = λ h. absurd (true≢false (sym h)); planned = λ _. record { plans = planned; says = refl } }

abbrev boarded_so : Outcome
boarded_so = boarding_outcome day5.row done sheet_after

abbrev boarded_bytes : List ℕ
boarded_bytes = bytes "boarded=2,1\nsum=367\nfinish=121\nend=50\ndetours=1\ndetour=2,2\nticket=1,1,1,1,81,2\nticket=1,2,2,3,55,1\nticket=2,1,3,1,121,2\n"

boarded_text_lem : boarded_bytes ≡ boarded_so.text
unfolding boarded_text boarded_top closed_lines place_in pair_lines decimal_in tickets_in
boarded_text_lem = refl

lines_read : (event_of (line_of (bytes "file=1,1,1\n")) ≡ Some (Event.File 1 1 1)) × (event_of (line_of (bytes "file=1,2,3\n")) ≡ Some (Event.File 1 2 3)) × (event_of (line_of (bytes "file=2,3,1\n")) ≡ Some (Event.File 2 3 1))
    × (event_of (line_of (bytes "file=2,1,5\n")) ≡ Some (Event.File 2 1 5)) × (event_of (line_of (bytes "withdraw=2,2\n")) ≡ Some (Event.Withdraw 2 2)) × (event_of (line_of (bytes "board=60,1\n")) ≡ Some (Event.Board 60 1))
unfolding event_of pair_event_of line_of is_triple_line is_pair_line is_triple is_pair is_number starts_with all_of value_from has before behind
lines_read = (refl, refl, refl, refl, refl, refl)

withdrawal_told : Accepts day4 (bytes "withdraw=2,2\n") day5 (replicate 54 7) (bytes "withdrawn=2,2\n")
withdrawal_told out takes =
    held_so day4.row day5.row (lasts 2 2) (lasts 2 2) (bytes "withdraw=2,2\n") (replicate 54 7) out (replicate 54 7) (bytes "withdrawn=2,2\n") (Some (Event.Withdraw 2 2)) lines_read.4 (
      λ room. let h = withdrawn_so_lem room in told_here day4 (withdrawn_so room) room out day5 room (bytes "withdrawn=2,2\n") h.0 h.1 h.2 h.3 (omega arith) takes,
      refl,
    )

boarding_told : Accepts day5 (bytes "board=60,1\n") day6 (zeros 54) boarded_bytes
boarding_told out takes =
    held_so day5.row day6.row (lasts 2 2) (lasts 2 2) (bytes "board=60,1\n") (replicate 54 7) out (zeros 54) boarded_bytes (Some (Event.Board 60 1)) lines_read.5
    (record { done = done; rows = sheet_after; boards = boarded; answers = told_here day5 boarded_so (replicate 54 7) out day6 (zeros 54) boarded_bytes refl refl refl boarded_text_lem (omega arith) takes })

pub worked_day : WorkedDay
worked_day = (
  filing_told day0 day1 1 1 1 (bytes "file=1,1,1\n") (bytes "filed=1,1\n") lines_read.0 first_filed (omega arith),
  filing_told day1 day2 1 2 3 (bytes "file=1,2,3\n") (bytes "filed=1,2\n") lines_read.1 second_filed (omega arith),
  filing_told day2 day3 2 3 1 (bytes "file=2,3,1\n") (bytes "filed=2,1\n") lines_read.2 third_filed (omega arith),
  filing_told day3 day4 2 1 5 (bytes "file=2,1,5\n") (bytes "filed=2,2\n") lines_read.3 fourth_filed (omega arith),
  withdrawal_told,
  boarding_told,
)
