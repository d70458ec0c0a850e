-- What stands beside a verdict at the desk: by what a refusal and an accepted boarding are.
use Prim.Native.Nat.{ℕ, ◌-◌, ◌<◌}
use mathlib.Core.Path.{◌≡◌, refl, sym, ap, subst, ◌∙◌}
use mathlib.Core.Bool.{true, false, true≢false}
use mathlib.Core.List.{List, [], ◌∷◌, ◌++◌, map}
use mathlib.Core.Logic.{⊎_elim}
use lib.ListN.{length, take, drop, length-map}
use lib.Seq.{take_at, drop-append_seam}
use borrow.Author.Tests.{lt-ltb}
use Rattle.std.specs.Prelude.{Option, Some, None}
use Rattle.refusals.specs.declared.Refusal.TheVariants.{Accepted, ShortRow}
use Rattle.refusals.specs.declared.Verdict.{Verdict}
use Rattle.refusals.specs.Refusals.{is_refusal}
use Rattle.refusals.proofs.Verdicts.{refuses}
use Rattle.runs.specs.Alone.{zeros}
use Rattle.runs.proofs.Search.{true_or_false}
use Rattle.walk.specs.Price.{refusal_answer}
use Rattle.planner.specs.Rows.{Rows}
use Rattle.desk_tickets.specs.declared.Ticket.{Ticket}
use Rattle.desk_tickets.specs.declared.Lasts.{Lasts}
use Rattle.desk_tickets.specs.declared.Filing.{Filing}
use Rattle.desk_tickets.specs.declared.Filed.{Filed}
use Rattle.desk_tickets.specs.declared.FiledRow.{FiledRow}
use Rattle.desk_tickets.specs.declared.Withdrawal.{Withdrawal}
use Rattle.desk_tickets.specs.WaitingTable.{records_verdict}
use Rattle.desk_tickets.specs.Filings.{file_verdict, file_row}
use Rattle.desk_tickets.specs.Withdrawals.{withdraw_verdict, withdraw_row}
use Rattle.desk_tickets.proofs.Kept.{filed_so_lem, not_filed_so}
use Rattle.desk_boardings.specs.declared.Boarding.{Boarding}
use Rattle.desk_boardings.specs.declared.BoardedRow.{BoardedRow}
use Rattle.desk_boardings.specs.Boarders.{Want, wants_of, file_numbers, read_counts}
use Rattle.desk_boardings.specs.Boardings.{Tape, board_run, eight, want_rows, Boards}
use Rattle.answer_desk.specs.declared.Day as desk
use Rattle.answer_desk.specs.declared.Event.{Event}
use Rattle.answer_desk.specs.declared.Answered.{Answered}
use Rattle.answer_desk.specs.Answers.{verdict_in}
use Rattle.answer_desk.specs.Days.{EventAnswered}
use Rattle.desk_rows.specs.declared.Told.{Told}
use Rattle.desk_rows.specs.Desk.{table_in, boarded_row}
use Rattle.desk_rows.specs.Events.{day_of}
use Rattle.desk_rows.proofs.Kept.{table_comes_back}
use Rattle.demands.specs.Demand1.{OnlyPlace}
use Rattle.demands.proofs.Demand1.{demand1_plan}
use Rattle.promises.specs.Desk.{Kept, Call, filing, withdrawal, boarding, Fits, answered}
use Rattle.promises.specs.DeskRows.{LentFits, kept_in}
use Rattle.promises.specs.DeskTells.{TextStands, AcceptedEventTells}
use Rattle.promises.specs.DeskVerdicts.{filing_at, withdrawal_at}
use Rattle.promises.specs.DeskBeside.{verdict_of_call, ShortRowsRefused, ShortRowsAnswered, NothingBoards, SaysNoMore, RefusedSaysNoMore, RefusedRowSaysNoMore, WantsHandedOut, BoardingHandsOutWants, RowHandsOutWants, AcceptedAnswerTells}
use Rattle.promises.proofs.DeskSteps.{not_accepted, accepted_is, refused_is}
use Rattle.promises.proofs.Desk.{refusal_keeps}
use Rattle.promises.proofs.DeskDays.{day_so}
use Rattle.promises.proofs.DeskTells.{accepted_event_tells}

abbrev eight_at0 : Verdict
eight_at0 = record { refusal = ShortRow; place = 0 }

-- A table in fewer than 32 places.
module _ (len : ℕ) (short : len < 32) (row : List Ticket) where
  short_records : (l : Lasts) → records_verdict len row l ≡ eight_at0
  unfolding records_verdict
  short_records l = rw (lt-ltb len 32 short)

  short_filing : (f : Filing) → (file_row len row f).filed.verdict ≡ eight_at0
  unfolding file_row file_verdict
  short_filing f = rw (short_records f.lasts)

  short_withdrawal : (w : Withdrawal) → (withdraw_row len row w).withdrawn.verdict ≡ eight_at0
  unfolding withdraw_row withdraw_verdict
  short_withdrawal w = rw (short_records w.lasts)

  short_boarding : (tape : Tape) (b : Boarding) (before after : Rows) (r : BoardedRow) → Boards len tape row b before r after → verdict_in r.boarded.answer ≡ eight_at0
  short_boarding tape b before after r fits =
      let says = (fits.refused (ap refuses (short_records b.lasts))).says in
      ap (λ (x : BoardedRow). verdict_in x.boarded.answer) says ∙ short_records b.lasts

  -- An event, whose own refusal that is.
  short_event : (tape : Tape) (l : Lasts) (room out : List ℕ) (e : Option Event) (r : Answered) (room' out' : List ℕ) → EventAnswered len tape (day_of row l) room out e r room' out'
      → (e ≡ None → ⊥) → r.verdict ≡ eight_at0
  short_event tape l room out (Some (Event.File o f c)) r room' out' p some =
      let is = short_filing (filing_at tape (day_of row l) o f c) in
      ap (λ (x : Answered). x.verdict) ((p.0 room).refused (ap refuses is)).says ∙ is
  short_event tape l room out (Some (Event.Withdraw o n)) r room' out' p some =
      let is = short_withdrawal (withdrawal_at (day_of row l) o n) in
      ap (λ (x : Answered). x.verdict) ((p.0 room).refused (ap refuses is)).says ∙ is
  short_event tape l room out (Some (Event.Board h t)) r room' out' p some =
      let is = short_boarding tape _ _ p.rows p.done p.boards in
      ap (λ (x : Answered). x.verdict) (p.answers.refused (ap refuses is)).says ∙ is
  short_event tape l room out None r room' out' p some = absurd (some refl)

short_call : {ts exit : List Ticket} {l m : Lasts} {c : Call} → LentFits ts l c exit m → length ts < 32 → verdict_of_call c ≡ eight_at0
short_call {ts} (LentFits.lent_filing {f = f} last says writes) short = ap (λ x. x.verdict) says ∙ short_filing (length ts) short (table_in ts) f
short_call {ts} (LentFits.lent_withdrawal {w = w} last says writes) short = ap (λ x. x.verdict) says ∙ short_withdrawal (length ts) short (table_in ts) w
short_call {ts} (LentFits.lent_boarding {tape = tape} {b = b} {before = before} {after = after} {r = r} last lent) short =
    short_boarding (length ts) short (table_in ts) tape b before after (boarded_row (table_in ts) r) lent.boards

pub short_rows_refused : ShortRowsRefused
short_rows_refused ts exit l m c fits short = short_call fits short

pub short_rows_answered : ShortRowsAnswered
short_rows_answered ts l tape room out e r exit room' out' f short some =
    ap (λ (x : Told). x.verdict) f.says ∙ short_event (length ts) short (table_in ts) tape l room out e f.answered room' out' f.answers some

-- A refused filing, and a refused boarding.
no_number : (len : ℕ) (row : List Ticket) (f : Filing) → ((file_row len row f).filed.verdict.refusal ≡ Accepted → ⊥) → (file_row len row f).filed.number ≡ 0
no_number len row f some =
    ⊎_elim
    (λ (t : refuses (file_verdict len row f) ≡ true). ap (λ (x : FiledRow). x.filed.number) (not_filed_so len row f t))
    (λ (p : refuses (file_verdict len row f) ≡ false).
    absurd (true≢false (sym (not_accepted _ some) ∙ ap (λ (x : FiledRow). is_refusal x.filed.verdict.refusal) (filed_so_lem len row f p) ∙ p)))
    (true_or_false (refuses (file_verdict len row f)))

module _ (len : ℕ) (tape : Tape) (row : List Ticket) (b : Boarding) (before after : Rows) (r : BoardedRow) (fits : Boards len tape row b before r after) where
  only_place : (r.boarded.answer.refusal ≡ Accepted → ⊥) → OnlyPlace r.boarded.answer
  only_place some =
      ⊎_elim
      (λ (t : refuses (records_verdict len row b.lasts) ≡ true).
      subst (λ a. OnlyPlace a) (ap (λ (x : BoardedRow). x.boarded.answer) (sym (fits.refused t).says)) refl)
      (λ (n : refuses (records_verdict len row b.lasts) ≡ false).
      ((demand1_plan (board_run tape row b) before r.boarded.answer after (fits.planned n).plans).kept some).0)
      (true_or_false (refuses (records_verdict len row b.lasts)))

  nothing_boards : (r.boarded.answer.refusal ≡ Accepted → ⊥) → NothingBoards before after r.boarded
  nothing_boards some =
      let is = refused_is len tape row b before after r fits (not_accepted r.boarded.answer.refusal some) in
      let kept = refusal_keeps len tape row b before after r fits some in
      record { plan = only_place some; taken = (kept.2, kept.3); wants = ap (λ (x : BoardedRow). x.boarded.wants) is; rows = kept.1 }

says_no_more : {k next : Kept} {c : Call} → Fits k c next → (answered c ≡ Accepted → ⊥) → SaysNoMore c
says_no_more (Fits.files {len} {k} {f} {r} last is) some =
    ap (λ (x : FiledRow). x.filed.number) is ∙ no_number len k.row f (λ e. some (ap (λ (x : FiledRow). x.filed.verdict.refusal) is ∙ e))
says_no_more (Fits.withdraws last is) some = tt
says_no_more (Fits.boards {len} {tape} {k} {b} {before} {after} {r} last fits) some = nothing_boards len tape k.row b before after r fits some

pub refused_says_no_more : RefusedSaysNoMore
refused_says_no_more k next c fits some = says_no_more fits some

-- On a lent row: that of the same call on the table in it.
row_by_table : RefusedSaysNoMore → {ts exit : List Ticket} {l m : Lasts} {c : Call} → LentFits ts l c exit m → (answered c ≡ Accepted → ⊥) → SaysNoMore c
row_by_table table {ts} {l = l} (LentFits.lent_filing {f = f} last says writes) some =
    ap (λ (x : Filed). x.number) says
    ∙ table (kept_in ts l) _ (filing (length ts) f (file_row (length ts) (table_in ts) f)) (Fits.files last refl) (λ e. some (ap (λ (x : Filed). x.verdict.refusal) says ∙ e))
row_by_table table (LentFits.lent_withdrawal last says writes) some = tt
row_by_table table {ts} {l = l} (LentFits.lent_boarding {tape = tape} {b = b} {before = before} {after = after} {r = r} last lent) some =
    table (kept_in ts l) _ (boarding (length ts) tape b before after (boarded_row (table_in ts) r)) (Fits.boards last lent.boards) some

row_no_more : RefusedSaysNoMore → RefusedRowSaysNoMore
row_no_more table ts exit l m c fits some = row_by_table table fits some

pub refused_row_says_no_more : RefusedRowSaysNoMore
refused_row_says_no_more = row_no_more refused_says_no_more

-- A row of eight: what it begins with, and what is behind.
module _ (ws : List Want) (f : Want → ℕ) where
  eight_front_here : take (length ws) (eight (map f ws)) ≡ map f ws
  eight_front_here = take_at (map f ws) (zeros (8 - length (map f ws))) (length ws) (length-map ws f)

  eight_behind : drop (length ws) (eight (map f ws)) ≡ zeros (8 - length ws)
  eight_behind =
      ap (λ (n : ℕ). drop n (eight (map f ws))) (sym (length-map ws f))
      ∙ drop-append_seam (map f ws) (zeros (8 - length (map f ws)))
      ∙ ap (λ (n : ℕ). zeros (8 - n)) (length-map ws f)

pub boarding_hands_out_wants : BoardingHandsOutWants
boarding_hands_out_wants len tape row b before after r fits accepts =
    let is = ap (λ (x : BoardedRow). x.boarded.wants) (accepted_is len tape row b before after r fits (ap is_refusal accepts)) in
    let ws = wants_of row in
    subst (λ w. WantsHandedOut (board_run tape row b) w) (sym is)
    (record {
      many = sym (length-map ws (λ w. w.file));
      numbers = eight_front_here ws (λ w. w.file);
      counts = eight_front_here ws (λ w. w.count);
      numbers_behind = eight_behind ws (λ w. w.file);
      counts_behind = eight_behind ws (λ w. w.count);
    })

row_wants : BoardingHandsOutWants → RowHandsOutWants
row_wants table ts tape b before r after exit lent accepts = table (length ts) tape (table_in ts) b before after (boarded_row (table_in ts) r) lent.boards accepts

pub row_hands_out_wants : RowHandsOutWants
row_hands_out_wants = row_wants boarding_hands_out_wants

-- An accepted event: the table afterwards is found again in the row.
lent_tells : AcceptedEventTells → AcceptedAnswerTells
lent_tells tells ts l tape room out e r exit room' out' f long served =
    let a = f.answered in
    let day = day_of (table_in ts) l in
    let found : table_in exit ≡ a.day.row = ap table_in f.row ∙ table_comes_back a.day.row ts f.whole long in
    let same = day_so a.day (table_in exit) r.lasts found (ap (λ (y : Told). y.lasts) f.says) in
    let text = tells (length ts) tape day room out e a room' out' f.answers (ap (λ (y : Told). y.verdict.refusal) (sym f.says) ∙ served) in
    subst (λ (d : desk.Day). TextStands (length ts) tape day room out e d r.bytes out') (sym same)
    (subst (λ (y : Told). TextStands (length ts) tape day room out e a.day y.bytes out') (sym f.says) text)

pub accepted_answer_tells : AcceptedAnswerTells
accepted_answer_tells = lent_tells accepted_event_tells
