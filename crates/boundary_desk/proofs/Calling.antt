-- What the calls go by: an accepted call's rows are long enough, and a refusal's place is small.
use Prim.Native.Nat.{ℕ, ◌≤◌}
use mathlib.Core.Path.{◌≡◌, refl, sym, ap, ◌∙◌}
use mathlib.Core.Bool.{Bool, true, false, not, true≢false}
use mathlib.Core.Logic.{⊎_elim, by_cases}
use mathlib.Core.List.{List, [], ◌∷◌}
use native.Mathlib.Decide.{dec_lt}
use native.Mathlib.Omega.{arith}
use lib.ListN.{length}
use lib.Dec.{ltb}
use borrow.Author.Tests.{ltb-false}
use Rattle.std.specs.Prelude.{Option, Some, None, Result}
use Rattle.std.specs.Result.{is_err}
use Rattle.refusals.specs.declared.Refusal.TheVariants.{ShortRow, BadRecord, BadTicket, OfficeFull, NumbersSpent, NotWaiting}
use Rattle.refusals.specs.declared.Verdict.{Verdict}
use Rattle.refusals.specs.Refusals.{is_refusal, checked, refuse_if, refuse_at, first_where}
use Rattle.refusals.proofs.Verdicts.{refuses, all_accept, accepts_if}
use Rattle.runs.proofs.Search.{true_or_false, first_within}
use Rattle.walk.proofs.Places.{place_most, first_near, if_near, at_near}
use Rattle.desk_tickets.specs.declared.Ticket.{Ticket}
use Rattle.desk_tickets.specs.declared.Lasts.{Lasts}
use Rattle.desk_tickets.specs.declared.Filing.{Filing}
use Rattle.desk_tickets.specs.declared.FiledRow.{FiledRow}
use Rattle.desk_tickets.specs.declared.Withdrawal.{Withdrawal}
use Rattle.desk_tickets.specs.declared.WithdrawnRow.{WithdrawnRow}
use Rattle.desk_tickets.specs.WaitingTable.{all_places, bad_record, records_verdict}
use Rattle.desk_tickets.specs.Filings.{in_range, is_full, is_spent, file_verdict, file_row}
use Rattle.desk_tickets.specs.Withdrawals.{is_waiting, withdraw_verdict, withdraw_row}
use Rattle.desk_tickets.proofs.Storing.{file_accepted}
use Rattle.desk_tickets.proofs.Leaving.{withdraw_accepted}
use Rattle.desk_tickets.proofs.Kept.{filed_so_lem, not_filed_so, withdrawn_so_lem, not_withdrawn_so}
use Rattle.planner.specs.Rows.{Rows}
use Rattle.desk_boardings.specs.declared.Boarding.{Boarding}
use Rattle.desk_boardings.specs.declared.BoardedRow.{BoardedRow}
use Rattle.desk_boardings.specs.Boardings.{Tape, Boards, board_run}
use Rattle.answer_desk.specs.declared.Day.{Day}
use Rattle.answer_desk.specs.declared.Event.{Event}
use Rattle.answer_desk.specs.declared.Answered.{Answered}
use Rattle.answer_desk.specs.Days.{Outcome, AnswersEvent, EventAnswered, filing_outcome, withdrawal_outcome, boarding_outcome, rows_lent}
use Rattle.boundary.proofs.Plans.{plan_placed}
use Rattle.boundary_desk.specs.Records.{places_if}

-- A verdict told is an error where it refuses.
pub told_says : (v : Verdict) (r : Result Unit Verdict) → r ≡ checked v → is_err r ≡ is_refusal v.refusal
told_says v r e = go (is_refusal v.refusal) refl
  where
    go : (b : Bool) → is_refusal v.refusal ≡ b → is_err r ≡ is_refusal v.refusal
    go true h = rw (e, h) refl
    go false h = rw (e, h) refl

-- A row of records that counts for 32 places has them, and the row beside it is long enough.
pub record Long (least : ℕ) (words : List ℕ) (len : ℕ) : Type 0 where
  pub beside : least ≤ length words
  pub places : 32 ≤ len

pub lent_long : (least : ℕ) (words : List ℕ) (len : ℕ) → 32 ≤ places_if least words len → Long least words len
lent_long least words len l =
    ⊎_elim
    (λ (h : ltb (length words) least ≡ true). absurd (let none : 32 ≤ 0 = rw h at l in omega arith))
    (λ (h : ltb (length words) least ≡ false). record { beside = ltb-false (length words) least h; places = rw h at l })
    (true_or_false (ltb (length words) least))

pub records_long_enough : (len : ℕ) (row : List Ticket) (l : Lasts) → refuses (records_verdict len row l) ≡ false → 32 ≤ len
unfolding records_verdict
records_long_enough len row l e =
    let each = all_accept (refuse_if (ltb len all_places) ShortRow ∷ refuse_at (first_where (bad_record l row) all_places) BadRecord ∷ []) e in
    ltb-false len 32 (accepts_if (ltb len all_places) ShortRow refl each.0)

pub records_near : (len : ℕ) (row : List Ticket) (l : Lasts) → (records_verdict len row l).place ≤ place_most
unfolding records_verdict
records_near len row l =
    first_near (refuse_if (ltb len all_places) ShortRow ∷ refuse_at (first_where (bad_record l row) all_places) BadRecord ∷ [])
    (if_near (ltb len all_places) ShortRow, λ d. (at_near (first_where (bad_record l row) all_places) BadRecord (omega (arith, first_within (bad_record l row) all_places)), λ e. tt))

-- A filing's verdict is the one in its answer, its place is small, and accepted the row is long enough. A withdrawal's likewise.
module _ (len : ℕ) (row : List Ticket) (f : Filing) where
  pub filing_verdict : (file_row len row f).filed.verdict ≡ file_verdict len row f
  filing_verdict =
      ⊎_elim
      (λ h. ap (λ (d : FiledRow). d.filed.verdict) (not_filed_so len row f h))
      (λ h. ap (λ (d : FiledRow). d.filed.verdict) (filed_so_lem len row f h))
      (true_or_false (refuses (file_verdict len row f)))

  verdict_near_here : (file_verdict len row f).place ≤ place_most
  unfolding file_verdict
  verdict_near_here =
      first_near
      (records_verdict len row f.lasts
      ∷ refuse_if (not (in_range f)) BadTicket
      ∷ refuse_if (is_full f.office row) OfficeFull
      ∷ refuse_if (is_spent f.office f.lasts) NumbersSpent
      ∷ [])
      (records_near len row f.lasts, λ a. (if_near (not (in_range f)) BadTicket, λ b. (if_near (is_full f.office row) OfficeFull, λ c. (if_near (is_spent f.office f.lasts) NumbersSpent, λ d. tt))))

  module _ (done : FiledRow) (is : done ≡ file_row len row f) where
    pub filing_near : done.filed.verdict.place ≤ place_most
    filing_near = rw (is, filing_verdict) verdict_near_here

    pub filing_long : is_refusal done.filed.verdict.refusal ≡ false → 32 ≤ len
    filing_long e = records_long_enough len row f.lasts (file_accepted len row f (rw (is, filing_verdict) at e)).table

module _ (len : ℕ) (row : List Ticket) (w : Withdrawal) where
  pub withdrawal_verdict : (withdraw_row len row w).withdrawn.verdict ≡ withdraw_verdict len row w
  withdrawal_verdict =
      ⊎_elim
      (λ h. ap (λ (d : WithdrawnRow). d.withdrawn.verdict) (not_withdrawn_so len row w h))
      (λ h. ap (λ (d : WithdrawnRow). d.withdrawn.verdict) (withdrawn_so_lem len row w h))
      (true_or_false (refuses (withdraw_verdict len row w)))

  leaving_near : (withdraw_verdict len row w).place ≤ place_most
  unfolding withdraw_verdict
  leaving_near =
      first_near (records_verdict len row w.lasts ∷ refuse_if (not (is_waiting w.office w.number row)) NotWaiting ∷ [])
      (records_near len row w.lasts, λ a. (if_near (not (is_waiting w.office w.number row)) NotWaiting, λ b. tt))

  module _ (done : WithdrawnRow) (is : done ≡ withdraw_row len row w) where
    pub withdrawal_near : done.withdrawn.verdict.place ≤ place_most
    withdrawal_near = rw (is, withdrawal_verdict) leaving_near

    pub withdrawal_long : is_refusal done.withdrawn.verdict.refusal ≡ false → 32 ≤ len
    withdrawal_long e = records_long_enough len row w.lasts (withdraw_accepted len row w (rw (is, withdrawal_verdict) at e)).table

-- A boarding's place is small, and accepted the row is long enough.
module _ (len : ℕ) (tape : Tape) (row : List Ticket) (b : Boarding) (before : Rows) (r : BoardedRow) (after : Rows) (boards : Boards len tape row b before r after) where
  pub boarding_near : r.boarded.answer.place ≤ place_most
  boarding_near =
      ⊎_elim
      (λ h. rw (boards.refused h).says (records_near len row b.lasts))
      (λ h. plan_placed (board_run tape row b) 1 before (0 ∷ 0 ∷ 0 ∷ 0 ∷ []) refl (omega arith) r.boarded.answer after (boards.planned h).plans)
      (true_or_false (refuses (records_verdict len row b.lasts)))

  pub boarding_sound : is_refusal r.boarded.answer.refusal ≡ false → refuses (records_verdict len row b.lasts) ≡ false
  boarding_sound e =
      ⊎_elim
      (λ h. absurd (true≢false (sym h ∙ sym (ap (λ (x : BoardedRow). is_refusal x.boarded.answer.refusal) (boards.refused h).says) ∙ e)))
      (λ h. h)
      (true_or_false (refuses (records_verdict len row b.lasts)))

  pub boarding_long : is_refusal r.boarded.answer.refusal ≡ false → 32 ≤ len
  boarding_long e = records_long_enough len row b.lasts (boarding_sound e)

-- An event's answer: what it comes to.
module _ (day : Day) (o : Outcome) (room out : List ℕ) (r : Answered) (room' out' : List ℕ) (p : AnswersEvent day o room out r room' out') where
  outcome_near : o.verdict.place ≤ place_most → r.verdict.place ≤ place_most
  outcome_near l =
      ⊎_elim
      (λ h. rw (p.refused h).says l)
      (λ h.
      by_cases (dec_lt (length out) (length o.text))
      (λ s. rw (p.short h s).says (omega arith))
      (λ n. let fits : length o.text ≤ length out = omega (arith, n) in rw (p.told h fits).says (omega arith)))
      (true_or_false (is_refusal o.verdict.refusal))

  outcome_accepted : is_refusal r.verdict.refusal ≡ false → is_refusal o.verdict.refusal ≡ false
  outcome_accepted e =
      ⊎_elim
      (λ h. absurd (true≢false (sym h ∙ sym (ap (λ (x : Answered). is_refusal x.verdict.refusal) (p.refused h).says) ∙ e)))
      (λ h. h)
      (true_or_false (is_refusal o.verdict.refusal))

module _ (len : ℕ) (tape : Tape) (day : Day) (room out : List ℕ) where
  pub event_near : (e : Option Event) (r : Answered) (room' out' : List ℕ) → EventAnswered len tape day room out e r room' out' → r.verdict.place ≤ place_most
  event_near (Some (Event.File office file count)) r room' out' p =
      let f : Filing = record { office = office; file = file; count = count; files = length tape.starts; lasts = day.lasts } in
      outcome_near day (filing_outcome f (file_row len day.row f) room) room out r room out' (p.0 room) (filing_near len day.row f (file_row len day.row f) refl)
  event_near (Some (Event.Withdraw office number)) r room' out' p =
      let w : Withdrawal = record { office = office; number = number; lasts = day.lasts } in
      outcome_near day (withdrawal_outcome w (withdraw_row len day.row w) room) room out r room out' (p.0 room) (withdrawal_near len day.row w (withdraw_row len day.row w) refl)
  event_near (Some (Event.Board head turn)) r room' out' p =
      outcome_near day (boarding_outcome day.row p.done p.rows) room out r room' out' p.answers
      (boarding_near len tape day.row (record { head = head; turn = turn; lasts = day.lasts }) (rows_lent room) p.done p.rows p.boards)
  event_near None r room' out' p = rw p.says (omega arith)

  pub event_long : (e : Option Event) (r : Answered) (room' out' : List ℕ) → EventAnswered len tape day room out e r room' out' → is_refusal r.verdict.refusal ≡ false → 32 ≤ len
  event_long (Some (Event.File office file count)) r room' out' p e =
      let f : Filing = record { office = office; file = file; count = count; files = length tape.starts; lasts = day.lasts } in
      filing_long len day.row f (file_row len day.row f) refl (outcome_accepted day (filing_outcome f (file_row len day.row f) room) room out r room out' (p.0 room) e)
  event_long (Some (Event.Withdraw office number)) r room' out' p e =
      let w : Withdrawal = record { office = office; number = number; lasts = day.lasts } in
      withdrawal_long len day.row w (withdraw_row len day.row w) refl (outcome_accepted day (withdrawal_outcome w (withdraw_row len day.row w) room) room out r room out' (p.0 room) e)
  event_long (Some (Event.Board head turn)) r room' out' p e =
      boarding_long len tape day.row (record { head = head; turn = turn; lasts = day.lasts }) (rows_lent room) p.done p.rows p.boards
      (outcome_accepted day (boarding_outcome day.row p.done p.rows) room out r room' out' p.answers e)
  event_long None r room' out' p e = absurd (true≢false (ap (λ (x : Answered). is_refusal x.verdict.refusal) (sym p.says) ∙ e))
