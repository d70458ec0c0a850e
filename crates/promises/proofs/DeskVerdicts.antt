-- The verdict of an event: by what it comes to, and by the text that a longer row would be told.
use Prim.Native.Nat.{ℕ, ◌≤◌}
use mathlib.Core.Path.{◌≡◌, refl, sym, ap, subst, ◌∙◌}
use mathlib.Core.Bool.{true, false, true≢false}
use mathlib.Core.List.{List, [], ◌∷◌, ◌++◌}
use mathlib.Core.Logic.{⊎_elim, ◌⊎◌, inl, inr}
use native.Mathlib.Omega.{arith}
use native.Mathlib.Decide.{dec_lt}
use lib.ListN.{length, take, drop, replicate, length-replicate}
use Rattle.std.specs.Prelude.{Option, Some, None}
use Rattle.refusals.specs.declared.Refusal.{Refusal}
use Rattle.refusals.specs.declared.Refusal.TheVariants.{Accepted}
use Rattle.refusals.specs.declared.Verdict.{Verdict}
use Rattle.refusals.specs.Refusals.{is_refusal, accepted}
use Rattle.refusals.proofs.Verdicts.{refuses}
use Rattle.runs.proofs.Search.{true_or_false}
use Rattle.planner.specs.Rows.{Rows}
use Rattle.desk_tickets.specs.declared.Ticket.{Ticket}
use Rattle.desk_tickets.specs.WaitingTable.{records_verdict}
use Rattle.desk_tickets.specs.Filings.{file_row}
use Rattle.desk_tickets.specs.Withdrawals.{withdraw_row}
use Rattle.desk_boardings.specs.declared.Boarding.{Boarding}
use Rattle.desk_boardings.specs.declared.BoardedRow.{BoardedRow}
use Rattle.desk_boardings.specs.Boardings.{Tape, board_run, Boards}
use Rattle.answer_desk.specs.declared.Day as desk
use Rattle.answer_desk.specs.declared.Event.{Event}
use Rattle.answer_desk.specs.declared.Answered.{Answered}
use Rattle.answer_desk.specs.Answers.{verdict_in}
use Rattle.answer_desk.specs.Days.{Outcome, AnswersEvent, rows_lent, EventAnswered}
use Rattle.desk_rows.specs.declared.Told.{Told}
use Rattle.desk_rows.specs.declared.ToldRow.{ToldRow}
use Rattle.desk_rows.specs.Desk.{table_in}
use Rattle.desk_rows.specs.Events.{day_of}
use Rattle.demands.specs.RefusalTable.{FirstThatApplies}
use Rattle.demands.proofs.Checks.{AllRefuse}
use Rattle.demands.proofs.Demand1.{demand1_plan}
use Rattle.promises.specs.DeskTells.{boarding_at, AcceptedEventTells}
use Rattle.promises.specs.DeskVerdicts.{filing_at, withdrawal_at, OwnVerdict, RowTooShort, EventVerdicts, ProgramVerdicts, LentVerdicts, OnlyAcceptancePasses}
use Rattle.promises.proofs.DeskRefusals.{filing_answers, withdrawal_answers, boarding_answers}
use Rattle.promises.proofs.DeskDays.{accepts}
use Rattle.promises.proofs.DeskTells.{accepted_event_tells}

-- Where nothing of an order applies the place is 0.
none_at_0 : {applies : Refusal → ℕ → Type 0} {order : List Refusal} {kind : Refusal} {place : ℕ} → FirstThatApplies applies order kind place → AllRefuse order → is_refusal kind ≡ false → place ≡ 0
none_at_0 FirstThatApplies.none all e = refl
none_at_0 (FirstThatApplies.here h) all e = absurd (true≢false (sym all.0 ∙ e))
none_at_0 (FirstThatApplies.later n rest) all e = none_at_0 rest all.1 e

passed_so : (v : Verdict) → is_refusal v.refusal ≡ false → v.place ≡ 0 → v ≡ accepted
passed_so v e p = rw (accepts v.refusal e, p)

-- What a row with room for the text is answered.
abbrev told_as : Outcome → Answered
told_as o = record { day = o.next; verdict = accepted; bytes = length o.text }

abbrev handed_as : Outcome → List ℕ → List ℕ
handed_as o wide = o.text ++ drop (length o.text) wide

module _ (len : ℕ) (tape : Tape) (day : desk.Day) (wide : List ℕ) (takes : 2677 ≤ length wide) (o : Outcome) (room out : List ℕ) (r : Answered) (room' out' : List ℕ)
    (a : AnswersEvent day o room out r room' out') where
  told_there : is_refusal o.verdict.refusal ≡ false → AnswersEvent day o room wide (told_as o) o.left (handed_as o wide)
  told_there n =
      record {
        refused = λ y. absurd (true≢false (sym y ∙ n));
        most = a.most;
        short = λ _ l. absurd (omega (arith, l, takes, a.most n));
        told = λ _ _. record { says = refl; left = refl; handed = refl };
      }

  own_or_short : AcceptedEventTells → (e : Option Event) → OwnVerdict len tape day room e o.verdict → (is_refusal o.verdict.refusal ≡ false → o.verdict.place ≡ 0)
      → (is_refusal o.verdict.refusal ≡ false → EventAnswered len tape day room wide e (told_as o) o.left (handed_as o wide))
      → OwnVerdict len tape day room e r.verdict ⊎ RowTooShort len tape day room out e r.verdict
  own_or_short tells e own at-0 there =
      ⊎_elim
      (λ (y : is_refusal o.verdict.refusal ≡ true). inl (subst (λ (v : Verdict). OwnVerdict len tape day room e v) (ap (λ (x : Answered). x.verdict) (sym (a.refused y).says)) own))
      (λ (n : is_refusal o.verdict.refusal ≡ false).
      let passes : OwnVerdict len tape day room e accepted = subst (λ (v : Verdict). OwnVerdict len tape day room e v) (passed_so o.verdict n (at-0 n)) own in
      elim (dec_lt (length out) (length o.text)) [
        | yes l ↦
            let t = tells len tape day room wide e (told_as o) o.left (handed_as o wide) (there n) refl in
            inr
            (record {
              eight = ap (λ (x : Answered). x.verdict) (a.short n l).says;
              passes = passes;
              next = o.next;
              text = take (length o.text) (handed_as o wide);
              told = t.text;
              longer = omega (arith, l, t.whole);
              most = omega (arith, a.most n, t.whole);
            })
        | no l ↦ inl (subst (λ (v : Verdict). OwnVerdict len tape day room e v) (ap (λ (x : Answered). x.verdict) (sym (a.told n (omega arith)).says)) passes)
      ])
      (true_or_false (is_refusal o.verdict.refusal))

-- An accepted boarding has place 0.
boarding_at_0 : (len : ℕ) (tape : Tape) (row : List Ticket) (b : Boarding) (before : Rows) (done : BoardedRow) (after : Rows) → Boards len tape row b before done after
    → is_refusal done.boarded.answer.refusal ≡ false → done.boarded.answer.place ≡ 0
boarding_at_0 len tape row b before done after fits n =
    ⊎_elim
    (λ (t : refuses (records_verdict len row b.lasts) ≡ true).
    absurd (true≢false (sym t ∙ ap (λ (x : BoardedRow). is_refusal x.boarded.answer.refusal) (sym (fits.refused t).says) ∙ n)))
    (λ (p : refuses (records_verdict len row b.lasts) ≡ false).
    none_at_0 (demand1_plan (board_run tape row b) before done.boarded.answer after (fits.planned p).plans).first (refl, (refl, (refl, (refl, (refl, (refl, (refl, (refl, (refl, tt))))))))) n)
    (true_or_false (refuses (records_verdict len row b.lasts)))

-- A line that is no event.
no_event_so : (len : ℕ) (tape : Tape) (day : desk.Day) (room out : List ℕ) (r : Answered) (room' out' : List ℕ) → EventAnswered len tape day room out None r room' out'
    → OwnVerdict len tape day room None r.verdict
no_event_so len tape day room out r room' out' p = (ap (λ (x : Answered). x.verdict.refusal) p.says, ap (λ (x : Answered). x.verdict.place) p.says)

verdict_by_lem : (wide : List ℕ) → 2677 ≤ length wide → EventVerdicts
verdict_by_lem wide takes len tape day room out (Some (Event.File o f c)) r room' out' p =
    let filing = filing_at tape day o f c in
    let own = filing_answers len day.row filing (file_row len day.row filing) refl in
    own_or_short len tape day wide takes _ room out r room out' (p.0 room) accepted_event_tells (Some (Event.File o f c)) own (none_at_0 own (refl, (refl, (refl, (refl, (refl, tt))))))
    (λ n. (λ space. told_there len tape day wide takes _ space out r space out' (p.0 space) n, refl))
verdict_by_lem wide takes len tape day room out (Some (Event.Withdraw o m)) r room' out' p =
    let taken = withdrawal_at day o m in
    let own = withdrawal_answers len day.row taken (withdraw_row len day.row taken) refl in
    own_or_short len tape day wide takes _ room out r room out' (p.0 room) accepted_event_tells (Some (Event.Withdraw o m)) own (none_at_0 own (refl, (refl, (refl, tt))))
    (λ n. (λ space. told_there len tape day wide takes _ space out r space out' (p.0 space) n, refl))
verdict_by_lem wide takes len tape day room out (Some (Event.Board h t)) r room' out' p =
    let b = boarding_at day h t in
    let found = boarding_answers len tape day.row b (rows_lent room) p.rows p.done p.boards in
    own_or_short len tape day wide takes _ room out r room' out' p.answers accepted_event_tells (Some (Event.Board h t)) (record { of_the_row = found.records; of_the_run = found.run })
    (boarding_at_0 len tape day.row b (rows_lent room) p.done p.rows p.boards)
    (λ n. record { done = p.done; rows = p.rows; boards = p.boards; answers = told_there len tape day wide takes _ room out r room' out' p.answers n })
verdict_by_lem wide takes len tape day room out None r room' out' p = inl (no_event_so len tape day room out r room' out' p)

pub event_verdicts : EventVerdicts
event_verdicts = verdict_by_lem (replicate 2677 0) (omega (arith, length-replicate {A = ℕ} 2677 0))

-- What is handed on is the answer's.
held_by_events : EventVerdicts → ProgramVerdicts
held_by_events each row l tape room out e r room' out' f =
    subst (λ (y : ToldRow). OwnVerdict 32 tape (day_of row l) room e y.told.verdict ⊎ RowTooShort 32 tape (day_of row l) room out e y.told.verdict) (sym f.says)
    (each 32 tape (day_of row l) room out e f.held room' out' f.answers)

lent_by_events : EventVerdicts → LentVerdicts
lent_by_events each ts l tape room out e r exit room' out' f =
    let day = day_of (table_in ts) l in
    subst (λ (y : Told). OwnVerdict (length ts) tape day room e y.verdict ⊎ RowTooShort (length ts) tape day room out e y.verdict) (sym f.says)
    (each (length ts) tape day room out e f.answered room' out' f.answers)

pub program_verdicts : ProgramVerdicts
program_verdicts = held_by_events event_verdicts

pub lent_verdicts : LentVerdicts
lent_verdicts = lent_by_events event_verdicts

pub only_acceptance_passes : OnlyAcceptancePasses
only_acceptance_passes = (refl, accepts)
