-- What accepted calls tell: each from its contract, by the code that is 0.
use Prim.Native.Nat.{ℕ, suc, ◌<◌}
use mathlib.Core.Path.{◌≡◌, sym, ap, ◌∙◌, subst}
use mathlib.Core.Bool.{true, false, cond}
use mathlib.Core.Logic.{⊎_elim}
use mathlib.Core.List.{List, [], ◌∷◌, ◌++◌, map}
use native.Mathlib.Omega.{arith}
use lib.ListN.{length, get_or, drop, length-map}
use lib.Seq.{take-append_seam, drop-append_seam}
use lib.Dec.{eqb}
use Rattle.refusals.specs.declared.Verdict.{Verdict}
use Rattle.refusals.specs.Refusals.{is_refusal}
use Rattle.refusals.proofs.Verdicts.{refuses, none_refuses}
use Rattle.runs.specs.Run.{Run}
use Rattle.runs.proofs.Search.{true_or_false}
use Rattle.planner.specs.Rows.{Rows}
use Rattle.desk_tickets.specs.declared.Ticket.{Ticket}
use Rattle.desk_tickets.specs.declared.Lasts.{Lasts}
use Rattle.desk_tickets.specs.declared.Filing.{Filing}
use Rattle.desk_tickets.specs.declared.FiledRow.{FiledRow}
use Rattle.desk_tickets.specs.WaitingTable.{no_ticket, last_of, records_verdict}
use Rattle.desk_tickets.specs.Filings.{lasts_with, number_for, file_verdict, file_row}
use Rattle.desk_tickets.proofs.Kept.{filed_so_lem}
use Rattle.desk_boardings.specs.declared.Boarding.{Boarding}
use Rattle.desk_boardings.specs.declared.Boarded.{Boarded}
use Rattle.desk_boardings.specs.declared.BoardedRow.{BoardedRow}
use Rattle.desk_boardings.specs.Boarders.{boarders, wants_of, file_numbers}
use Rattle.desk_boardings.specs.Boardings.{Tape, board_run, Boards}
use Rattle.answer_desk.specs.Answers.{place_in, verdict_in}
use Rattle.answer_desk.specs.Events.{event_of}
use Rattle.text_lines.specs.Lines.{line_of}
use Rattle.sheet_writer.specs.Writing.{row_verdict, written_row}
use Rattle.desk_waits.specs.Waits.{any_lasts, waiting_text, waiting_verdict}
use Rattle.boundary.specs.Boundary.{code_of}
use Rattle.boundary.proofs.Calls.{code_accepts}
use Rattle.boundary_desk.specs.Records.{table_at, lasts_in, with_lasts, with_first, places_if}
use Rattle.boundary_desk.specs.Calls.{file_call, want_place, taken_with, boarding_of, board_places, one_line, day_at}
use Rattle.boundary_desk.proofs.Calling.{filing_verdict}
use Rattle.promises.specs.DeskTells.{TextStands}
use Rattle.promises.proofs.DeskDays.{accepts}
use Rattle.promises.proofs.DeskLines.{there, not_moved, each_added, numbers_told}
use Rattle.promises.proofs.DeskTells.{accepted_event_tells}
use Rattle.promises.proofs.DeskRoom.{boarded_behind, event_leaves_the_room}
use Rattle.promises_calls.specs.CallsTell.{FileCallTells, AtTheirWants, BoardCallTells, BoardBehind, EventCallTells, EventCallLeavesTheRoom, WaitingTells, WaitingCallTells}

-- A filing.
last_of_lem : (office n : ℕ) (l : Lasts) → last_of office (lasts_with office n l) ≡ n
last_of_lem office n l = ⊎_elim (λ (e : eqb office 2 ≡ true). rw e) (λ (e : eqb office 2 ≡ false). rw e) (true_or_false (eqb office 2))

given_last : (len : ℕ) (row : List Ticket) (f : Filing) → refuses (file_verdict len row f) ≡ false → (file_row len row f).filed.number ≡ last_of f.office (file_row len row f).filed.lasts
given_last len row f e =
    let is = filed_so_lem len row f e in
    ap (λ (x : FiledRow). x.filed.number) is ∙ sym (ap (λ (x : FiledRow). last_of f.office x.filed.lasts) is ∙ last_of_lem f.office (number_for f) f.lasts)

pub file_call_tells : FileCallTells
unfolding file_call
file_call_tells rows rows' lasts lasts' given given' f code called zero-code =
    let len = places_if 1 given (places_if 2 lasts (length rows)) in
    let done = file_row len (table_at rows) f in
    let e : is_refusal done.filed.verdict.refusal ≡ false = code_accepts done.filed.verdict (sym called.says ∙ zero-code) in
    let h : refuses (file_verdict len (table_at rows) f) ≡ false = sym (ap (λ (v : Verdict). is_refusal v.refusal) (filing_verdict len (table_at rows) f)) ∙ e in
    let now-lasts : lasts' ≡ with_lasts done.filed.lasts lasts = rw e at called.lasts_are in
    let now-given : given' ≡ with_first done.filed.number given = rw e at called.given_is in
    now-given ∙ ap (λ n. n ∷ drop 1 given) (given_last len (table_at rows) f h ∙ ap (λ l. last_of f.office (lasts_in l)) (sym now-lasts))

-- A boarding.
at_their_wants : (run : Run) (b : Boarded) (ts : List Ticket)
    → ((i : ℕ) → i < length ts → (place_in (get_or ts i no_ticket).file b.wants.numbers < length run.numbers) × (get_or run.numbers (place_in (get_or ts i no_ticket).file b.wants.numbers) 0 ≡ (get_or ts i no_ticket).file))
    → AtTheirWants run ts (map (want_place b) ts)
at_their_wants run b [] has = AtTheirWants.no_more
at_their_wants run b (t ∷ ts) has =
    let w = has 0 (omega arith) in
    AtTheirWants.one_more {t = t} {want = place_in t.file b.wants.numbers} w.0 w.1 (at_their_wants run b ts (λ i l. has (suc i) (omega (arith, l))))

module _ (len : ℕ) (tape : Tape) (row : List Ticket) (b : Boarding) (lent after : Rows) (done : BoardedRow) (boards : Boards len tape row b lent done after)
    (e : is_refusal done.boarded.answer.refusal ≡ false) where
  has_place : (i : ℕ) → i < length (boarders row)
      → (place_in (get_or (boarders row) i no_ticket).file done.boarded.wants.numbers < length (board_run tape row b).numbers)
      × (get_or (board_run tape row b).numbers (place_in (get_or (boarders row) i no_ticket).file done.boarded.wants.numbers) 0 ≡ (get_or (boarders row) i no_ticket).file)
  unfolding wants_of
  has_place i l =
      let f = (get_or (boarders row) i no_ticket).file in
      let ns = file_numbers (wants_of row) in
      let h = each_added (boarders row) [] i l in
      let place : place_in f done.boarded.wants.numbers ≡ place_in f ns = ap (place_in f) (numbers_told len tape row b lent after done boards e) ∙ not_moved f ns _ h in
      (rw place h, rw place (there f ns h))

pub board_call_tells : BoardCallTells
unfolding taken_with
board_call_tells rows rows' lasts taken taken' sums sums' tape head turn code lent after called zero-code =
    let done = called.done in
    let row = table_at rows in
    let b = boarding_of lasts head turn in
    let e : is_refusal done.boarded.answer.refusal ≡ false = code_accepts (verdict_in done.boarded.answer) (sym called.says ∙ zero-code) in
    let now-taken : taken' ≡ taken_with row done.boarded taken = rw e at called.taken_is in
    let many = length-map (boarders row) (want_place done.boarded) in
    record {
      places = map (want_place done.boarded) (boarders row);
      wants = at_their_wants (board_run tape row b) done.boarded (boarders row) (has_place (board_places rows lasts taken sums) tape row b lent after done called.boards e);
      left = now-taken ∙ ap (λ n. (done.boarded.taken.one ∷ done.boarded.taken.two ∷ map (want_place done.boarded) (boarders row)) ++ drop (suc (suc n)) taken) (sym many);
      four = called.sums_are ∙ rw e;
    }

pub board_behind : BoardBehind
board_behind = boarded_behind

-- An event.
pub event_call_tells : EventCallTells
event_call_tells rows rows' lasts lasts' line out out' room room' sizes sizes' tape code called zero-code =
    let done = called.done in
    let e : is_refusal done.verdict.refusal ≡ false = code_accepts done.verdict (sym called.says ∙ zero-code) in
    let is : sizes' ≡ with_first done.bytes sizes = rw e at called.sizes_are in
    let len = places_if 1 sizes (places_if 2 lasts (length rows)) in
    let event = event_of (line_of (one_line line)) in (
      subst (λ n. TextStands len tape (day_at rows lasts) room out event done.day n out') (ap (λ (s : List ℕ). get_or s 0 0) (sym is))
          (accepted_event_tells len tape (day_at rows lasts) room out event done room' out' called.answers (accepts done.verdict.refusal e)),
      ap (drop 1) is,
    )

pub event_call_leaves_the_room : EventCallLeavesTheRoom
event_call_leaves_the_room rows rows' lasts lasts' line out out' room room' sizes sizes' tape code called zero-code =
    let done = called.done in
    let e : is_refusal done.verdict.refusal ≡ false = code_accepts done.verdict (sym called.says ∙ zero-code) in
    event_leaves_the_room (places_if 1 sizes (places_if 2 lasts (length rows))) tape (day_at rows lasts) room out (event_of (line_of (one_line line))) done room' out' called.answers (accepts done.verdict.refusal e)

-- Who waits.
module _ (v : Verdict) (row : List Ticket) (out out' sizes sizes' : List ℕ) (out-is : out' ≡ written_row v (waiting_text row) out)
    (sizes-are : sizes' ≡ cond (is_refusal v.refusal) sizes (with_first (length (waiting_text row)) sizes)) where
  waiting_told_here : refuses v ≡ false → WaitingTells row out sizes out' sizes'
  unfolding written_row
  waiting_told_here e =
      let is : sizes' ≡ with_first (length (waiting_text row)) sizes = rw e at sizes-are in
      let n : get_or sizes' 0 0 ≡ length (waiting_text row) = ap (λ (s : List ℕ). get_or s 0 0) is in
      let holds : out' ≡ waiting_text row ++ drop (length (waiting_text row)) out = out-is ∙ rw e in
      record {
        text = rw (n, holds) (take-append_seam (waiting_text row) (drop (length (waiting_text row)) out));
        counted = n;
        behind = rw (n, holds) (drop-append_seam (waiting_text row) (drop (length (waiting_text row)) out));
        later = ap (drop 1) is;
      }

  waiting_kept : refuses v ≡ true → (out' ≡ out) × (sizes' ≡ sizes)
  unfolding written_row
  waiting_kept e = (out-is ∙ rw e, sizes-are ∙ rw e)

waiting_zero : (len : ℕ) (row : List Ticket) (out : List ℕ) → refuses (waiting_verdict len row out) ≡ false → code_of (waiting_verdict len row out) ≡ 0
unfolding waiting_verdict
waiting_zero len row out e = ap code_of (none_refuses (records_verdict len row any_lasts ∷ row_verdict (waiting_text row) out ∷ []) e)

pub waiting_call_tells : WaitingCallTells
waiting_call_tells rows out out' sizes sizes' code called =
    let len = places_if 1 sizes (length rows) in
    let v = waiting_verdict len (table_at rows) out in (
      λ zero-code. waiting_told_here v (table_at rows) out out' sizes sizes' called.out_is called.sizes_are (code_accepts v (sym called.says ∙ zero-code)),
      λ some. ⊎_elim (λ (e : refuses v ≡ true). waiting_kept v (table_at rows) out out' sizes sizes' called.out_is called.sizes_are e)
          (λ (e : refuses v ≡ false). absurd (some (called.says ∙ waiting_zero len (table_at rows) out e))) (true_or_false (refuses v)),
    )
