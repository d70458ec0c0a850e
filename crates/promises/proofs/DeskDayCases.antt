-- An accepted boarding computes; and the hypotheses on a day at the desk can be met.
use Prim.Native.Nat.{ℕ, ◌≤◌}
use mathlib.Core.Path.{◌≡◌, refl, sym, ap, subst, ◌∙◌}
use mathlib.Core.Bool.{true≢false}
use mathlib.Core.List.{List, [], ◌∷◌, ◌++◌}
use native.Mathlib.Omega.{arith}
use lib.ListN.{length, drop, replicate, length-replicate}
use Rattle.std.specs.Prelude.{Option, Some, None}
use Rattle.refusals.specs.declared.Refusal.TheVariants.{Accepted, ShortRow, BadLine}
use Rattle.refusals.specs.Refusals.{accepted, first_where}
use Rattle.runs.specs.Run.{goes_on, first_member, last_within, want_stops, join_to, joined}
use Rattle.runs.specs.Judging.{right_end, judge_of}
use Rattle.runs.specs.Alone.{zeros}
use Rattle.walk.specs.Walk.{walked, served, time_of, times_of, leg_from, legs_for, sum_of}
use Rattle.walk.specs.Detours.{start_of, end_of, unread_end, sweep_end, last_sweep, legs_of}
use Rattle.walk.specs.Price.{priced_answer, priced_times, priced_legs}
use Rattle.least.specs.Recurrence.{plan_detours, W, lowest, scan, filledTo, filled, candidate, next, value, choice, built, nextPlan, best, least_list}
use Rattle.planner.specs.Plan.{Plans, plan_verdict}
use Rattle.planner.specs.Rows.{Rows, rows_of}
use Rattle.text_bytes.specs.Text.{bytes, has, before, behind, starts_with, all_of, value_from, is_number, decimal_in}
use Rattle.text_lines.specs.Lines.{line_of, is_pair, is_pair_line, is_triple, is_triple_line}
use Rattle.desk_tickets.specs.declared.Ticket.{Ticket}
use Rattle.desk_tickets.specs.WaitingTable.{row_of, tickets_in, records_verdict}
use Rattle.desk_tickets.specs.Filings.{file_verdict, file_row}
use Rattle.desk_boardings.specs.Boarders.{add_want, with_wants, wants_of}
use Rattle.desk_boardings.specs.Boardings.{board_run, Boards}
use Rattle.answer_desk.specs.declared.Day as desk
use Rattle.answer_desk.specs.declared.Event.{Event}
use Rattle.answer_desk.specs.declared.Answered.{Answered}
use Rattle.answer_desk.specs.Events.{pair_event_of, event_of}
use Rattle.answer_desk.specs.Days.{morning_day, refused_answer, EventAnswered}
use Rattle.desk_rows.specs.Desk.{table_in, with_table}
use Rattle.desk_rows.specs.Events.{LentAnswered}
use Rattle.demands.specs.Cases.{example_run}
use Rattle.demands.proofs.Fits.{plan_answer, plan_rows, plans_for_every_input}
use Rattle.promises.specs.Desk.{files, boards, over, then}
use Rattle.promises.specs.DeskCases.{ticket, lasts, alone}
use Rattle.promises.specs.DeskDays.{Exchange, Turned, Held, TurnedOn, HeldOn, sheet_tape, sheet_boarding, sheet_boarded, sheet_after, AcceptedBoardingCase}

-- The tickets that wait, and the rows and the room that are lent.
abbrev pub three : List Ticket
three = row_of (ticket 1 1 1 1 ∷ ticket 1 2 3 2 ∷ []) (ticket 2 3 1 1 ∷ [])

abbrev pub lent : Rows
lent = rows_of (zeros 8) (zeros 8) (zeros 8) (zeros 8) (replicate 54 7)

answer_is : plan_answer example_run lent ≡ sheet_boarded.boarded.answer
unfolding plan_answer plan_verdict judge_of first_where goes_on first_member last_within want_stops join_to joined right_end priced_answer start_of end_of walked served unread_end sweep_end last_sweep legs_of time_of sum_of least_list plan_detours W lowest scan filledTo filled candidate next value choice built nextPlan best
answer_is = refl

rows_are : plan_rows example_run lent ≡ sheet_after
unfolding plan_rows plan_verdict judge_of first_where goes_on first_member last_within want_stops join_to joined right_end priced_times priced_legs times_of leg_from legs_for start_of end_of served unread_end sweep_end last_sweep legs_of time_of least_list plan_detours W lowest scan filledTo filled candidate next value choice built nextPlan best
rows_are = refl

run_is : board_run sheet_tape three sheet_boarding ≡ example_run
unfolding tickets_in add_want with_wants wants_of
run_is = refl

pub planned : Plans (board_run sheet_tape three sheet_boarding) lent sheet_boarded.boarded.answer sheet_after
planned =
    subst (λ r. Plans r lent sheet_boarded.boarded.answer sheet_after) (sym run_is)
    (subst (λ a. Plans example_run lent a sheet_after) answer_is (subst (λ rows. Plans example_run lent (plan_answer example_run lent) rows) rows_are (plans_for_every_input example_run lent)))

boarded : Boards 32 sheet_tape three sheet_boarding lent sheet_boarded sheet_after
unfolding first_where records_verdict tickets_in add_want with_wants wants_of
boarded = record { refused = λ h. absurd (true≢false (sym h)); planned = λ _. record { plans = planned; says = refl } }

pub accepted_boarding_case : AcceptedBoardingCase
unfolding first_where records_verdict tickets_in file_verdict file_row
accepted_boarding_case = then (files refl refl) (then (files refl refl) (then (files refl refl) (then (boards refl boarded) over)))

-- A line, and one that is no event.
abbrev filing_line : List ℕ
filing_line = bytes "file=1,1,1\n"

abbrev remark : List ℕ
remark = bytes "# a remark\n"

line_read : event_of (line_of filing_line) ≡ Some (Event.File 1 1 1)
unfolding event_of line_of is_triple_line is_triple is_pair is_number starts_with all_of value_from has before behind
line_read = refl

remark_read : event_of (line_of remark) ≡ None
unfolding event_of pair_event_of line_of is_triple_line is_pair_line is_triple is_pair is_number starts_with all_of value_from has before behind
remark_read = refl

abbrev filed_day : desk.Day
filed_day = record { row = alone 1 1; lasts = lasts 1 0 }

-- A row of no byte: 8, and nothing has changed.
pub short_row_met : EventAnswered 32 sheet_tape morning_day [] [] (Some (Event.File 1 1 1)) (refused_answer morning_day (record { refusal = ShortRow; place = 0 })) [] []
unfolding first_where records_verdict tickets_in file_verdict file_row decimal_in
short_row_met = (
  λ room. record {
    refused = λ y. absurd (true≢false (sym y));
    most = λ _. omega arith;
    short = λ _ _. record { says = refl; same_room = refl; same_row = refl };
    told = λ _ l. absurd (omega (arith, l));
  },
  refl,
)

answered_filing : (room out : List ℕ) → 2677 ≤ length out → EventAnswered 32 sheet_tape morning_day room out (Some (Event.File 1 1 1)) (record { day = filed_day; verdict = accepted; bytes = 10 }) room (bytes "filed=1,1\n" ++ drop 10 out)
unfolding first_where records_verdict tickets_in file_verdict file_row decimal_in
answered_filing room out takes = (
  λ space. record {
    refused = λ y. absurd (true≢false (sym y));
    most = λ _. omega arith;
    short = λ _ l. absurd (omega (arith, l, takes));
    told = λ _ _. record { says = refl; left = refl; handed = refl };
  },
  refl,
)

-- A day of two lines, with the program's room and row.
abbrev asked : List Exchange
asked = record { line = filing_line; answer = Accepted } ∷ record { line = remark; answer = BadLine } ∷ []

pub held_met : Held sheet_tape morning_day asked filed_day
held_met =
    Held.goes_on
    (record {
      len = 32;
      room = replicate 65600 0;
      room' = replicate 65600 0;
      out = replicate 2677 0;
      out' = bytes "filed=1,1\n" ++ drop 10 (replicate 2677 0);
      places = omega arith;
      words = omega (arith, length-replicate {A = ℕ} 65600 0);
      bytes = omega (arith, length-replicate {A = ℕ} 2677 0);
      result = record { day = filed_day; verdict = accepted; bytes = 10 };
      fits = subst (λ (e : Option Event). EventAnswered 32 sheet_tape morning_day (replicate 65600 0) (replicate 2677 0) e (record { day = filed_day; verdict = accepted; bytes = 10 }) (replicate 65600 0) (bytes "filed=1,1\n" ++ drop 10 (replicate 2677 0)))
          (sym line_read) (answered_filing (replicate 65600 0) (replicate 2677 0) (omega (arith, length-replicate {A = ℕ} 2677 0)));
      says = refl;
      leaves = refl;
    })
    (Held.goes_on
    (record {
      len = 32;
      room = replicate 65600 0;
      room' = replicate 65600 0;
      out = replicate 2677 0;
      out' = replicate 2677 0;
      places = omega arith;
      words = omega (arith, length-replicate {A = ℕ} 65600 0);
      bytes = omega (arith, length-replicate {A = ℕ} 2677 0);
      result = refused_answer filed_day (record { refusal = BadLine; place = 0 });
      fits = subst (λ (e : Option Event). EventAnswered 32 sheet_tape filed_day (replicate 65600 0) (replicate 2677 0) e (refused_answer filed_day (record { refusal = BadLine; place = 0 })) (replicate 65600 0) (replicate 2677 0))
          (sym remark_read) (record { says = refl; same_room = refl; same_row = refl });
      says = refl;
      leaves = refl;
    })
    Held.ends)

-- The first of them on a lent row of 32 records.
on_the_row : event_of (line_of filing_line) ≡ Some (Event.File 1 1 1) → LentAnswered morning_day.row (lasts 0 0) sheet_tape (replicate 65600 0) (replicate 2677 0) (event_of (line_of filing_line))
    (record { lasts = lasts 1 0; verdict = accepted; bytes = 10 }) (alone 1 1) (replicate 65600 0) (bytes "filed=1,1\n" ++ drop 10 (replicate 2677 0))
unfolding table_in with_table
on_the_row is =
    record {
      answered = record { day = filed_day; verdict = accepted; bytes = 10 };
      answers = subst (λ (e : Option Event). EventAnswered 32 sheet_tape morning_day (replicate 65600 0) (replicate 2677 0) e (record { day = filed_day; verdict = accepted; bytes = 10 }) (replicate 65600 0) (bytes "filed=1,1\n" ++ drop 10 (replicate 2677 0)))
          (sym is) (answered_filing (replicate 65600 0) (replicate 2677 0) (omega (arith, length-replicate {A = ℕ} 2677 0)));
      whole = refl;
      says = refl;
      row = refl;
    }

pub held_on_met : HeldOn sheet_tape morning_day.row (lasts 0 0) (record { line = filing_line; answer = Accepted } ∷ []) (alone 1 1) (lasts 1 0)
held_on_met =
    HeldOn.row_goes_on
    (record {
      room = replicate 65600 0;
      room' = replicate 65600 0;
      out = replicate 2677 0;
      out' = bytes "filed=1,1\n" ++ drop 10 (replicate 2677 0);
      words = omega (arith, length-replicate {A = ℕ} 65600 0);
      bytes = omega (arith, length-replicate {A = ℕ} 2677 0);
      result = record { lasts = lasts 1 0; verdict = accepted; bytes = 10 };
      fits = on_the_row line_read;
      says = refl;
      leaves = refl;
    })
    HeldOn.row_ends
