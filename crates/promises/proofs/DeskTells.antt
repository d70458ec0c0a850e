-- An accepted event's text stands in the row.
use Prim.Native.Nat.{ℕ, zero, suc, ◌≤◌, ◌<◌}
use mathlib.Core.Path.{◌≡◌, refl, sym, ap, subst, ◌∙◌}
use mathlib.Core.Bool.{true, false, true≢false}
use mathlib.Core.List.{List, [], ◌∷◌, ◌++◌}
use mathlib.Core.Logic.{⊎_elim}
use native.Mathlib.Omega.{arith}
use native.Mathlib.Decide.{dec_lt}
use lib.Dec.{eqb}
use lib.ListN.{length, get_or, take, drop}
use lib.Seq.{take-append_seam, drop-append_seam}
use Rattle.std.specs.Prelude.{Option, Some, None}
use Rattle.refusals.specs.declared.Refusal.TheVariants.{Accepted}
use Rattle.refusals.specs.Refusals.{is_refusal}
use Rattle.refusals.proofs.Verdicts.{refuses}
use Rattle.runs.specs.Run.{Run}
use Rattle.runs.proofs.Search.{true_or_false}
use Rattle.planner.specs.Rows.{Rows}
use Rattle.text_pages.specs.Printing.{pair_line, pair_lines}
use Rattle.sheet_writer.specs.PlanSheet.{detour_key}
use Rattle.desk_tickets.specs.declared.Ticket.{Ticket}
use Rattle.desk_tickets.specs.declared.Lasts.{Lasts}
use Rattle.desk_tickets.specs.declared.Filing.{Filing}
use Rattle.desk_tickets.specs.declared.FiledRow.{FiledRow}
use Rattle.desk_tickets.specs.WaitingTable.{no_ticket, last_of}
use Rattle.desk_tickets.specs.Filings.{file_verdict, number_for, lasts_with, file_row}
use Rattle.desk_tickets.proofs.Kept.{filed_so_lem, not_filed_so}
use Rattle.desk_boardings.specs.declared.BoardedRow.{BoardedRow}
use Rattle.desk_boardings.specs.Boarders.{boarders}
use Rattle.desk_boardings.specs.Boardings.{Tape, board_run, Boards}
use Rattle.answer_desk.specs.declared.Day as desk
use Rattle.answer_desk.specs.declared.Event.{Event}
use Rattle.answer_desk.specs.declared.Reads.{Reads}
use Rattle.answer_desk.specs.declared.Answered.{Answered}
use Rattle.answer_desk.specs.Answers.{closed_lines, boarded_top, boarded_text}
use Rattle.answer_desk.specs.Days.{Outcome, Tells, AnswersEvent, rows_lent, reads_boarded, boarding_text, EventAnswered}
use Rattle.promises.specs.DeskLines.{HasItsWant}
use Rattle.promises.specs.DeskTells.{detour_lines, boarded_lines, Leave, boarding_at, BoardingTold, EventTold, TextStands, AcceptedEventTells}
use Rattle.promises.proofs.DeskLines.{tickets_have_wants}
use Rattle.promises.proofs.DeskDays.{accepts}

-- An accepted answer, whatever the event: its text fits the row, and was told.
module _ (day : desk.Day) (o : Outcome) (room out : List ℕ) (r : Answered) (room' out' : List ℕ) (a : AnswersEvent day o room out r room' out') (served : r.verdict.refusal ≡ Accepted) where
  pub told_so : (is_refusal o.verdict.refusal ≡ false) × (length o.text ≤ length out) × Tells o out r room' out'
  told_so =
      ⊎_elim
      (λ (y : is_refusal o.verdict.refusal ≡ true).
      absurd (true≢false (sym y ∙ ap is_refusal (ap (λ (x : Answered). x.verdict.refusal) (sym (a.refused y).says) ∙ served))))
      (λ (n : is_refusal o.verdict.refusal ≡ false).
      elim (dec_lt (length out) (length o.text)) [
        | yes l ↦ absurd (true≢false (ap is_refusal (ap (λ (x : Answered). x.verdict.refusal) (sym (a.short n l).says) ∙ served)))
        | no l ↦ (n, omega arith, a.told n (omega arith))
      ])
      (true_or_false (is_refusal o.verdict.refusal))

  pub day_is : r.day ≡ o.next
  day_is = ap (λ (x : Answered). x.day) told_so.2.says

  bytes_are : r.bytes ≡ length o.text
  bytes_are = ap (λ (x : Answered). x.bytes) told_so.2.says

  text_is_here : take r.bytes out' ≡ o.text
  text_is_here =
      ap (λ (n : ℕ). take n out') bytes_are
      ∙ ap (λ (row : List ℕ). take (length o.text) row) told_so.2.handed
      ∙ take-append_seam o.text (drop (length o.text) out)

  later_is_here : drop r.bytes out' ≡ drop r.bytes out
  later_is_here =
      ap (λ (n : ℕ). drop n out') bytes_are
      ∙ ap (λ (row : List ℕ). drop (length o.text) row) told_so.2.handed
      ∙ drop-append_seam o.text (drop (length o.text) out)
      ∙ ap (λ (n : ℕ). drop n out) (sym bytes_are)

  stands : (len : ℕ) (tape : Tape) (e : Option Event) → 0 < length o.text → EventTold len tape day room e r.day (take r.bytes out') → TextStands len tape day room out e r.day r.bytes out'
  stands len tape e some text =
      record {
        some = omega (arith, some, bytes_are);
        within = omega (arith, bytes_are, told_so.1);
        whole = ap length text_is_here ∙ sym bytes_are;
        text = text;
        later = later_is_here;
      }

-- The number of an accepted filing.
last_given : (office n : ℕ) (l : Lasts) → last_of office (lasts_with office n l) ≡ n
last_given office n l = ⊎_elim (λ (e : eqb office 2 ≡ true). rw e) (λ (e : eqb office 2 ≡ false). rw e) (true_or_false (eqb office 2))

filed_number : (len : ℕ) (row : List Ticket) (f : Filing) → is_refusal (file_row len row f).filed.verdict.refusal ≡ false
    → ((file_row len row f).filed.number ≡ number_for f) × (last_of f.office (file_row len row f).filed.lasts ≡ number_for f)
filed_number len row f passes =
    ⊎_elim
    (λ (t : refuses (file_verdict len row f) ≡ true).
    absurd (true≢false (sym t ∙ ap (λ (x : FiledRow). is_refusal x.filed.verdict.refusal) (sym (not_filed_so len row f t)) ∙ passes)))
    (λ (p : refuses (file_verdict len row f) ≡ false).
    let is = filed_so_lem len row f p in
    (ap (λ (x : FiledRow). x.filed.number) is, ap (λ (x : FiledRow). last_of f.office x.filed.lasts) is ∙ last_given f.office (number_for f) f.lasts))
    (true_or_false (refuses (file_verdict len row f)))

-- The lines of a boarding.
detour_lines_lem : (froms tos : List ℕ) → pair_lines detour_key froms tos ≡ detour_lines froms tos
unfolding pair_lines
detour_lines_lem [] tos = refl
detour_lines_lem (a ∷ froms) [] = refl
detour_lines_lem (a ∷ froms) (b ∷ tos) = ap (λ (text : List ℕ). pair_line detour_key a b ++ text) (detour_lines_lem froms tos)

leave_so : (run : Run) (done : BoardedRow) (after : Rows) (ts : List Ticket) → ((i : ℕ) → i < length ts → HasItsWant run (reads_boarded done after) (get_or ts i no_ticket)) → Leave run after ts (closed_lines (reads_boarded done after) ts)
unfolding closed_lines
leave_so run done after [] has = Leave.none_left
leave_so run done after (t ∷ ts) has =
    let w = has 0 (omega arith) in
    subst (λ (line : List ℕ). Leave run after (t ∷ ts) (line ++ closed_lines (reads_boarded done after) ts)) (sym w.line)
    (Leave.one_leaves w.among w.file (leave_so run done after ts (λ i l. has (suc i) (omega (arith, l)))))

text_so : (row : List Ticket) (done : BoardedRow) (after : Rows)
    → boarding_text row done after
    ≡ boarded_lines done.boarded.taken done.boarded.answer
    ++ detour_lines (take done.boarded.answer.detours after.froms) (take done.boarded.answer.detours after.tos)
    ++ closed_lines (reads_boarded done after) (boarders row)
unfolding boarded_text boarded_top
text_so row done after =
    ap (λ (text : List ℕ). boarded_lines done.boarded.taken done.boarded.answer ++ text ++ closed_lines (reads_boarded done after) (boarders row))
    (detour_lines_lem (take done.boarded.answer.detours after.froms) (take done.boarded.answer.detours after.tos))

some_bytes : (row : List Ticket) (done : BoardedRow) (after : Rows) → 0 < length (boarding_text row done after)
some_bytes row done after = let e = ap length (text_so row done after) in omega (arith, e)

pub accepted_event_tells : AcceptedEventTells
accepted_event_tells len tape day room out (Some (Event.File o f c)) r room' out' p served =
    let filed : Filing = record { office = o; file = f; count = c; files = length tape.starts; lasts = day.lasts } in
    let number = filed_number len day.row filed (told_so day _ room out r room out' (p.0 room) served).0 in
    stands day _ room out r room out' (p.0 room) served len tape (Some (Event.File o f c)) (omega arith)
    (record {
      number = (file_row len day.row filed).filed.number;
      counts = number.0;
      last = ap (λ (d : desk.Day). last_of o d.lasts) (day_is day _ room out r room out' (p.0 room) served) ∙ number.1 ∙ sym number.0;
      line = text_is_here day _ room out r room out' (p.0 room) served;
    })
accepted_event_tells len tape day room out (Some (Event.Withdraw o n)) r room' out' p served =
    stands day _ room out r room out' (p.0 room) served len tape (Some (Event.Withdraw o n)) (omega arith) (text_is_here day _ room out r room out' (p.0 room) served)
accepted_event_tells len tape day room out (Some (Event.Board head turn)) r room' out' p served =
    let done = p.done in
    let after = p.rows in
    let yes = accepts done.boarded.answer.refusal (told_so day _ room out r room' out' p.answers served).0 in
    stands day _ room out r room' out' p.answers served len tape (Some (Event.Board head turn)) (some_bytes day.row done after)
    (record {
      done = done;
      after = after;
      boards = p.boards;
      accepts = yes;
      leaves = day_is day _ room out r room' out' p.answers served;
      closing = closed_lines (reads_boarded done after) (boarders day.row);
      closes = leave_so (board_run tape day.row (boarding_at day head turn)) done after (boarders day.row)
          (λ i l. tickets_have_wants len tape day.row (boarding_at day head turn) (rows_lent room) after done i p.boards yes l);
      lines = text_is_here day _ room out r room' out' p.answers served ∙ text_so day.row done after;
    })
accepted_event_tells len tape day room out None r room' out' p served =
    absurd (true≢false (ap is_refusal (ap (λ (x : Answered). x.verdict.refusal) (sym p.says) ∙ served)))
