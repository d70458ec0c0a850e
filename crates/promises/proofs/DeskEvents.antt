-- An accepted event was told, so its own verdict passes and the day afterwards is its outcome's.
use Prim.Native.Nat.{ℕ, ◌≤◌}
use mathlib.Core.Path.{◌≡◌, refl, sym, ap, subst, ◌∙◌}
use mathlib.Core.Bool.{false, true≢false}
use mathlib.Core.List.{List}
use native.Mathlib.Omega.{arith}
use native.Mathlib.Decide.{dec_lt}
use lib.ListN.{length, drop}
use Rattle.std.specs.Prelude.{Option, Some, None}
use Rattle.refusals.specs.declared.Refusal.TheVariants.{Accepted}
use Rattle.refusals.specs.declared.Verdict.{Verdict}
use Rattle.refusals.specs.Refusals.{is_refusal}
use Rattle.desk_tickets.specs.declared.Ticket.{Ticket}
use Rattle.desk_tickets.specs.declared.Lasts.{Lasts}
use Rattle.desk_tickets.specs.Filings.{file_row}
use Rattle.desk_tickets.specs.Withdrawals.{withdraw_row}
use Rattle.desk_boardings.specs.Boardings.{Tape}
use Rattle.answer_desk.specs.declared.Day as desk
use Rattle.answer_desk.specs.declared.Event.{Event}
use Rattle.answer_desk.specs.declared.Answered.{Answered}
use Rattle.answer_desk.specs.Days.{Outcome, AnswersEvent, rows_lent, filing_outcome, withdrawal_outcome, boarding_outcome, EventAnswered}
use Rattle.desk_rows.specs.declared.Told.{Told}
use Rattle.desk_rows.specs.declared.ToldRow.{ToldRow}
use Rattle.desk_rows.specs.Desk.{table_in}
use Rattle.desk_rows.specs.Events.{day_of, LentAnswered}
use Rattle.desk_rows.proofs.Kept.{later_records_kept, table_comes_back}
use Rattle.promises.specs.Desk.{Kept, Call, filing, withdrawal, boarding, Fits, answered}
use Rattle.promises.specs.DeskDays.{IsCall, kept_at}
use Rattle.promises.specs.DeskTells.{boarding_at}
use Rattle.promises.specs.DeskVerdicts.{filing_at, withdrawal_at}
use Rattle.promises.specs.DeskEvents.{ItsCall, EventIsItsCall, LentIsItsCall, HeldIsItsCall}
use Rattle.promises.proofs.DeskDays.{accepts, day_so}
use Rattle.promises.proofs.DeskTells.{told_so, day_is}
use Rattle.promises.proofs.DeskBeside.{short_rows_answered}

module _ (tape : Tape) (day : desk.Day) (out : List ℕ) (r : Answered) (out' : List ℕ) (served : r.verdict.refusal ≡ Accepted) where
  told_call : (e : Option Event) (o : Outcome) (c : Call) (room room' : List ℕ) → AnswersEvent day o room out r room' out' → IsCall tape e c → o.verdict.refusal ≡ answered c → Fits (kept_at day) c (kept_at o.next)
      → ItsCall tape e (kept_at day) (kept_at r.day)
  told_call e o c room room' a is same fits =
      record {
        call = c;
        is = is;
        accepts = sym same ∙ accepts o.verdict.refusal (told_so day o room out r room' out' a served).0;
        fits = subst (λ (d : desk.Day). Fits (kept_at day) c (kept_at d)) (sym (day_is day o room out r room' out' a served)) fits;
      }

not_none : (len : ℕ) (tape : Tape) (day : desk.Day) (room out : List ℕ) (e : Option Event) (r : Answered) (room' out' : List ℕ) → EventAnswered len tape day room out e r room' out' → r.verdict.refusal ≡ Accepted → e ≡ None → ⊥
not_none len tape day room out e r room' out' p served is =
    let none : EventAnswered len tape day room out None r room' out' = subst (λ (x : Option Event). EventAnswered len tape day room out x r room' out') is p in
    true≢false (ap is_refusal (ap (λ (x : Answered). x.verdict.refusal) (sym none.says) ∙ served))

pub event_is_its_call : EventIsItsCall
event_is_its_call len tape day room out (Some (Event.File o f c)) r room' out' p served =
    let g = filing_at tape day o f c in
    let done = file_row len day.row g in
    told_call tape day out r out' served (Some (Event.File o f c)) (filing_outcome g done room) (filing len g done) room room (p.0 room) IsCall.a_filing refl (Fits.files refl refl)
event_is_its_call len tape day room out (Some (Event.Withdraw o n)) r room' out' p served =
    let w = withdrawal_at day o n in
    let done = withdraw_row len day.row w in
    told_call tape day out r out' served (Some (Event.Withdraw o n)) (withdrawal_outcome w done room) (withdrawal len w done) room room (p.0 room) IsCall.a_withdrawal refl (Fits.withdraws refl refl)
event_is_its_call len tape day room out (Some (Event.Board h t)) r room' out' p served =
    told_call tape day out r out' served (Some (Event.Board h t)) (boarding_outcome day.row p.done p.rows) (boarding len tape (boarding_at day h t) (rows_lent room) p.rows p.done) room room' p.answers
    IsCall.a_boarding refl (Fits.boards refl p.boards)
event_is_its_call len tape day room out None r room' out' p served = absurd (not_none len tape day room out None r room' out' p served refl)

-- A lent row in which an event is accepted has 32 places.
row_long : (ts : List Ticket) (l : Lasts) (tape : Tape) (room out : List ℕ) (e : Option Event) (r : Told) (exit : List Ticket) (room' out' : List ℕ) → LentAnswered ts l tape room out e r exit room' out' → r.verdict.refusal ≡ Accepted → 32 ≤ length ts
row_long ts l tape room out e r exit room' out' f served =
    elim (dec_lt (length ts) 32) [
      | yes short ↦
          let eight = short_rows_answered ts l tape room out e r exit room' out' f short
          (not_none (length ts) tape (day_of (table_in ts) l) room out e f.answered room' out' f.answers (ap (λ (y : Told). y.verdict.refusal) (sym f.says) ∙ served)) in
          absurd (true≢false (ap (λ (v : Verdict). is_refusal v.refusal) (sym eight) ∙ ap is_refusal served))
      | no long ↦ omega arith
    ]

pub lent_is_its_call : LentIsItsCall
lent_is_its_call ts l tape room out e r exit room' out' f served =
    let a = f.answered in
    let long = row_long ts l tape room out e r exit room' out' f served in
    let found : table_in exit ≡ a.day.row = ap table_in f.row ∙ table_comes_back a.day.row ts f.whole long in
    let call = event_is_its_call (length ts) tape (day_of (table_in ts) l) room out e a room' out' f.answers (ap (λ (y : Told). y.verdict.refusal) (sym f.says) ∙ served) in (
      subst (λ (d : desk.Day). ItsCall tape e (kept_at (day_of (table_in ts) l)) (kept_at d)) (sym (day_so a.day (table_in exit) r.lasts found (ap (λ (y : Told). y.lasts) f.says))) call,
      ap (λ (row : List Ticket). drop 32 row) f.row ∙ later_records_kept a.day.row ts f.whole long,
    )

pub held_is_its_call : HeldIsItsCall
held_is_its_call row l tape room out e r room' out' f served =
    let a = f.held in
    let call = event_is_its_call 32 tape (day_of row l) room out e a room' out' f.answers (ap (λ (y : ToldRow). y.told.verdict.refusal) (sym f.says) ∙ served) in
    subst (λ (d : desk.Day). ItsCall tape e (kept_at (day_of row l)) (kept_at d)) (sym (day_so a.day r.row r.told.lasts (ap (λ (y : ToldRow). y.row) f.says) (ap (λ (y : ToldRow). y.told.lasts) f.says))) call
