-- The contract determines the day afterwards, what is written, and both lent rows.
use Prim.Native.Nat.{ℕ}
use mathlib.Core.Path.{◌≡◌, refl, sym, ap, ◌∙◌, subst}
use mathlib.Core.Bool.{Bool, true, false}
use mathlib.Core.Logic.{⊎_elim}
use mathlib.Core.List.{List, []}
use native.Mathlib.Omega.{arith}
use native.Mathlib.Decide.{dec_lt}
use lib.ListN.{length}
use Rattle.std.specs.Prelude.{Option, Some, None}
use Rattle.refusals.specs.declared.Verdict.{Verdict}
use Rattle.refusals.specs.Refusals.{is_refusal, accepted}
use Rattle.runs.proofs.Search.{true_or_false}
use Rattle.planner.specs.Rows.{Rows}
use Rattle.planner.proofs.Determined.{plan_determined}
use Rattle.desk_tickets.specs.declared.Ticket.{Ticket}
use Rattle.desk_tickets.specs.declared.Filing.{Filing}
use Rattle.desk_tickets.specs.declared.Withdrawal.{Withdrawal}
use Rattle.desk_tickets.specs.WaitingTable.{records_verdict}
use Rattle.desk_tickets.specs.Filings.{file_row}
use Rattle.desk_tickets.specs.Withdrawals.{withdraw_row}
use Rattle.desk_boardings.specs.declared.Boarding.{Boarding}
use Rattle.desk_boardings.specs.declared.BoardedRow.{BoardedRow}
use Rattle.desk_boardings.specs.Boardings.{Tape, Boards, RowRefused, RunPlanned, board_run, boarded_by}
use Rattle.answer_desk.specs.declared.Day.{Day}
use Rattle.answer_desk.specs.declared.Event.{Event}
use Rattle.answer_desk.specs.declared.Answered.{Answered}
use Rattle.answer_desk.specs.Days.{Outcome, Refuses, Tells, AnswersEvent, filing_outcome, withdrawal_outcome, boarding_outcome, BoardingAnswered, EventAnswered}

-- A boarding.
module _ (len : ℕ) (tape : Tape) (row : List Ticket) (b : Boarding) (before : Rows) (r s : BoardedRow) (after after' : Rows) where
  refused_once : RowRefused len row b before r after → RowRefused len row b before s after' → (r ≡ s) × (after ≡ after')
  refused_once p q = (p.says ∙ sym q.says, p.kept ∙ sym q.kept)

  planned_once_here : RunPlanned tape row b before r after → RunPlanned tape row b before s after' → (r ≡ s) × (after ≡ after')
  planned_once_here p q =
      let same = plan_determined (board_run tape row b) before r.boarded.answer s.boarded.answer after after' p.plans q.plans in
      (p.says ∙ ap (boarded_by row b.lasts) same.0 ∙ sym q.says, same.1)

  pub boards_once : Boards len tape row b before r after → Boards len tape row b before s after' → (r ≡ s) × (after ≡ after')
  boards_once p q = go (is_refusal (records_verdict len row b.lasts).refusal) refl
    where
      go : (f : Bool) → is_refusal (records_verdict len row b.lasts).refusal ≡ f → (r ≡ s) × (after ≡ after')
      go true e = refused_once (p.refused e) (q.refused e)
      go false e = planned_once_here (p.planned e) (q.planned e)

-- An answer.
module _ (day : Day) (o : Outcome) (room out : List ℕ) (r s : Answered) (room' room'' out' out'' : List ℕ) where
  refuses_once : (v : Verdict) → Refuses v day room out r room' out' → Refuses v day room out s room'' out'' → (r ≡ s) × ((room' ≡ room'') × (out' ≡ out''))
  refuses_once v p q = (p.says ∙ sym q.says, (p.same_room ∙ sym q.same_room, p.same_row ∙ sym q.same_row))

  tells_once : Tells o out r room' out' → Tells o out s room'' out'' → (r ≡ s) × ((room' ≡ room'') × (out' ≡ out''))
  tells_once p q = (p.says ∙ sym q.says, (p.left ∙ sym q.left, p.handed ∙ sym q.handed))

  answers_once_here : AnswersEvent day o room out r room' out' → AnswersEvent day o room out s room'' out'' → (r ≡ s) × ((room' ≡ room'') × (out' ≡ out''))
  answers_once_here p q =
      ⊎_elim
      (λ (y : is_refusal o.verdict.refusal ≡ true). refuses_once o.verdict (p.refused y) (q.refused y))
      (λ (n : is_refusal o.verdict.refusal ≡ false).
      elim (dec_lt (length out) (length o.text)) [
        | yes l ↦ refuses_once _ (p.short n l) (q.short n l)
        | no l ↦ tells_once (p.told n (omega arith)) (q.told n (omega arith))
      ])
      (true_or_false (is_refusal o.verdict.refusal))

module _ (len : ℕ) (tape : Tape) (day : Day) (room out : List ℕ) (r s : Answered) (room' room'' out' out'' : List ℕ) where
  boarding_once : (b : Boarding) → BoardingAnswered len tape day b room out r room' out' → BoardingAnswered len tape day b room out s room'' out''
      → (r ≡ s) × ((room' ≡ room'') × (out' ≡ out''))
  boarding_once b p q =
      let same = boards_once len tape day.row b _ p.done q.done p.rows q.rows p.boards q.boards in
      let moved : AnswersEvent day (boarding_outcome day.row q.done q.rows) room out r room' out'
      = subst (λ (y : Rows). AnswersEvent day (boarding_outcome day.row q.done y) room out r room' out') same.1
      (subst (λ (x : BoardedRow). AnswersEvent day (boarding_outcome day.row x p.rows) room out r room' out') same.0 p.answers) in
      answers_once_here day _ room out r s room' room'' out' out'' moved q.answers

  -- One that leaves the room alone.
  beside_once : (o : List ℕ → Outcome)
      → ((x : List ℕ) → AnswersEvent day (o x) x out r x out') × (room' ≡ room)
      → ((x : List ℕ) → AnswersEvent day (o x) x out s x out'') × (room'' ≡ room)
      → (r ≡ s) × ((room' ≡ room'') × (out' ≡ out''))
  beside_once o p q =
      let same = answers_once_here day (o room) room out r s room room out' out'' (p.0 room) (q.0 room) in
      (same.0, (p.1 ∙ sym q.1, same.1.1))

  -- Two results that fit the contract are equal.
  pub answer_determined : (event : Option Event) → EventAnswered len tape day room out event r room' out' → EventAnswered len tape day room out event s room'' out''
      → (r ≡ s) × ((room' ≡ room'') × (out' ≡ out''))
  answer_determined (Some (Event.File o f c)) p q =
      let filing : Filing = record { office = o; file = f; count = c; files = length tape.starts; lasts = day.lasts } in
      beside_once (filing_outcome filing (file_row len day.row filing)) p q
  answer_determined (Some (Event.Withdraw o n)) p q =
      let withdrawal : Withdrawal = record { office = o; number = n; lasts = day.lasts } in
      beside_once (withdrawal_outcome withdrawal (withdraw_row len day.row withdrawal)) p q
  answer_determined (Some (Event.Board h t)) p q = boarding_once (record { head = h; turn = t; lasts = day.lasts }) p q
  answer_determined None p q = refuses_once day (record { verdict = accepted; next = day; text = []; left = room }) room out r s room' room'' out' out'' _ p q
