-- What the contracts of a boarding and of an event say determines the answer and every row, the row of records among them.
use Prim.Native.Nat.{ℕ}
use mathlib.Core.Path.{◌≡◌, refl, sym, ap, ◌∙◌}
use mathlib.Core.Bool.{Bool, true, false}
use mathlib.Core.List.{List}
use lib.ListN.{length}
use Rattle.std.specs.Prelude.{Option}
use Rattle.refusals.specs.Refusals.{is_refusal}
use Rattle.walk.specs.declared.Answer.{Answer}
use Rattle.planner.specs.Rows.{Rows}
use Rattle.planner.proofs.Determined.{plan_determined}
use Rattle.desk_tickets.specs.declared.Ticket.{Ticket}
use Rattle.desk_tickets.specs.declared.Lasts.{Lasts}
use Rattle.desk_tickets.specs.WaitingTable.{records_verdict}
use Rattle.desk_boardings.specs.declared.Boarding.{Boarding}
use Rattle.desk_boardings.specs.declared.Boarded.{Boarded}
use Rattle.desk_boardings.specs.declared.BoardedRow.{BoardedRow}
use Rattle.desk_boardings.specs.Boardings.{Tape, Boards, RunPlanned, RowRefused, board_run, boarded_by}
use Rattle.answer_desk.specs.declared.Event.{Event}
use Rattle.answer_desk.specs.declared.Answered.{Answered}
use Rattle.answer_desk.proofs.Determined.{answer_determined}
use Rattle.desk_rows.specs.declared.Told.{Told}
use Rattle.desk_rows.specs.declared.ToldRow.{ToldRow}
use Rattle.desk_rows.specs.Desk.{table_in, with_table, boarded_row, BoardsLent}
use Rattle.desk_rows.specs.Events.{day_of, told_by, told_row, LentAnswered, HeldAnswered}

module _ (len : ℕ) (tape : Tape) (table : List Ticket) (b : Boarding) (before : Rows) (r r' : BoardedRow) (after after' : Rows) where
  refused_once : RowRefused len table b before r after → RowRefused len table b before r' after' → (r ≡ r') × (after ≡ after')
  refused_once p q = (p.says ∙ sym q.says, p.kept ∙ sym q.kept)

  planned_once_here : RunPlanned tape table b before r after → RunPlanned tape table b before r' after' → (r ≡ r') × (after ≡ after')
  planned_once_here p q =
      let e = plan_determined (board_run tape table b) before r.boarded.answer r'.boarded.answer after after' p.plans q.plans in
      (p.says ∙ ap (λ (a : Answer). boarded_by table b.lasts a) e.0 ∙ sym q.says, e.1)

  -- Two results of `desk_boardings::board_in` that fit its contract are equal.
  pub board_in_determined : Boards len tape table b before r after → Boards len tape table b before r' after' → (r ≡ r') × (after ≡ after')
  board_in_determined p q = go (is_refusal (records_verdict len table b.lasts).refusal) refl
    where
      go : (x : Bool) → is_refusal (records_verdict len table b.lasts).refusal ≡ x → (r ≡ r') × (after ≡ after')
      go true e = refused_once (p.refused e) (q.refused e)
      go false e = planned_once_here (p.planned e) (q.planned e)

-- Two results of `board` that fit its contract are equal.
module _ (ts : List Ticket) (tape : Tape) (b : Boarding) (before : Rows) (r r' : Boarded) (after after' : Rows) (exit exit' : List Ticket) where
  pub board_determined : BoardsLent ts tape b before r after exit → BoardsLent ts tape b before r' after' exit' → (r ≡ r') × (after ≡ after') × (exit ≡ exit')
  board_determined p q =
      let t = table_in ts in
      let e = board_in_determined (length ts) tape t b before (boarded_row t r) (boarded_row t r') after after' p.boards q.boards in
      (ap (λ (d : BoardedRow). d.boarded) e.0, e.1, p.row ∙ ap (λ (d : BoardedRow). with_table d.row ts) e.0 ∙ sym q.row)

-- Two results of `answer` that fit its contract are equal, and two of `answer_held`.
module _ (l : Lasts) (tape : Tape) (room out : List ℕ) (e : Option Event) (room' room'' out' out'' : List ℕ) where
  pub lent_determined : (ts : List Ticket) (r s : Told) (exit exit' : List Ticket) → LentAnswered ts l tape room out e r exit room' out' → LentAnswered ts l tape room out e s exit' room'' out''
      → (r ≡ s) × (exit ≡ exit') × (room' ≡ room'') × (out' ≡ out'')
  lent_determined ts r s exit exit' p q =
      let same = answer_determined (length ts) tape (day_of (table_in ts) l) room out p.answered q.answered room' room'' out' out'' e p.answers q.answers in
      (p.says ∙ ap told_by same.0 ∙ sym q.says, p.row ∙ ap (λ (a : Answered). with_table a.day.row ts) same.0 ∙ sym q.row, same.1.0, same.1.1)

  pub held_determined : (row : List Ticket) (r s : ToldRow) → HeldAnswered row l tape room out e r room' out' → HeldAnswered row l tape room out e s room'' out''
      → (r ≡ s) × (room' ≡ room'') × (out' ≡ out'')
  held_determined row r s p q =
      let same = answer_determined 32 tape (day_of row l) room out p.held q.held room' room'' out' out'' e p.answers q.answers in
      (p.says ∙ ap (λ (a : Answered). told_row a.day.row (told_by a)) same.0 ∙ sym q.says, same.1.0, same.1.1)
