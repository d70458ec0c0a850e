-- A text handed out is the answer to its event; refused, all is as it was.
use Prim.Native.Nat.{ℕ, ◌≤◌, ◌<◌}
use mathlib.Core.Path.{◌≡◌, refl, sym, ap, ◌∙◌, subst}
use mathlib.Core.Bool.{true≢false}
use mathlib.Core.List.{List, ◌++◌}
use native.Mathlib.Omega.{arith}
use Rattle.std.specs.Prelude.{Ok, Err}
use lib.ListN.{length, drop}
use borrow.Author.Tests.{lt-ltb, le-ltb}
use Rattle.refusals.specs.declared.Refusal.TheVariants.{Accepted, ShortRow}
use Rattle.refusals.specs.declared.Verdict.{Verdict}
use Rattle.refusals.specs.Refusals.{checked}
use Rattle.refusals.proofs.Checked.{passed, stopped}
use Rattle.sheet_writer.specs.declared.Written.{Written}
use Rattle.sheet_writer.specs.Writing.{row_verdict, written_answer, written_row, Handed}
use Rattle.desk_tickets.specs.declared.Filing.{Filing}
use Rattle.desk_tickets.specs.declared.FiledRow.{FiledRow}
use Rattle.desk_tickets.specs.declared.Withdrawal.{Withdrawal}
use Rattle.desk_tickets.specs.declared.WithdrawnRow.{WithdrawnRow}
use Rattle.desk_tickets.specs.Filings.{file_row}
use Rattle.desk_tickets.specs.Withdrawals.{withdraw_row}
use Rattle.answer_desk.specs.declared.Day.{Day}
use Rattle.answer_desk.specs.declared.Answered.{Answered}
use Rattle.answer_desk.specs.Answers.{most_text}
use Rattle.answer_desk.specs.Days.{Outcome, refused_answer, answered_by, Refuses, Tells, AnswersEvent, filing_outcome, FilingAnswered, withdrawal_outcome, WithdrawalAnswered}
use Rattle.answer_desk.specs.Private.{TextSaid}

-- What handing a text out answers and leaves.
module _ (text out : List ℕ) (w : Written) (out' : List ℕ) (h : Handed (row_verdict text out) text out w out') where
  handed_whole : length text ≤ length out → (w ≡ record { refusal = Accepted; place = 0; bytes = length text }) × (out' ≡ text ++ drop (length text) out)
  unfolding row_verdict written_answer written_row
  handed_whole l = (h.answer ∙ rw (le-ltb (length out) (length text) l), h.left ∙ rw (le-ltb (length out) (length text) l))

  handed_none_here : length out < length text → (w ≡ record { refusal = ShortRow; place = 0; bytes = 0 }) × (out' ≡ out)
  unfolding row_verdict written_answer written_row
  handed_none_here l = (h.answer ∙ rw (lt-ltb (length out) (length text) l), h.left ∙ rw (lt-ltb (length out) (length text) l))

-- The answer by what was written.
module _ (day : Day) (o : Outcome) (out : List ℕ) (w : Written) (out' : List ℕ) (h : Handed (row_verdict o.text out) o.text out w out') (r : Answered) (says : r ≡ answered_by day o.next w) where
  pub tells : length o.text ≤ length out → Tells o out r o.left out'
  tells l =
      let whole = handed_whole o.text out w out' h l in
      record { says = says ∙ ap (answered_by day o.next) whole.0; left = refl; handed = whole.1 }

  too_short : length out < length o.text → (room : List ℕ) → Refuses (record { refusal = ShortRow; place = 0 }) day room out r room out'
  too_short l room =
      let none = handed_none_here o.text out w out' h l in
      record { says = says ∙ ap (answered_by day o.next) none.0; same_room = refl; same_row = none.1 }

-- An event that does not work in the room.
module _ (day : Day) (o : Outcome) (room out : List ℕ) (stays : o.left ≡ room) (r : Answered) where
  pub event_refused : (v : Verdict) → Err v ≡ checked o.verdict → r ≡ refused_answer day v → AnswersEvent day o room out r room out
  event_refused v said says =
      let s = stopped _ v said in
      record {
        refused = λ _. record { says = says ∙ ap (refused_answer day) (sym s.is); same_room = refl; same_row = refl };
        most = λ n. absurd (true≢false (sym s.so ∙ n));
        short = λ n _. absurd (true≢false (sym s.so ∙ n));
        told = λ n _. absurd (true≢false (sym s.so ∙ n));
      }

  pub event_told : (most : ℕ) → most ≤ most_text → (u : Unit) → Ok u ≡ checked o.verdict → (w : Written) (out' : List ℕ) → TextSaid most o.text out w out' → r ≡ answered_by day o.next w → AnswersEvent day o room out r room out'
  event_told most fits u passes w out' said says =
      record {
        refused = λ y. absurd (true≢false (sym y ∙ passed _ u passes));
        most = λ _. omega (arith, said.few);
        short = λ _ l. too_short day o out w out' said.handed r says l room;
        told = λ _ l. subst (λ (x : List ℕ). Tells o out r x out') stays (tells day o out w out' said.handed r says l);
      }

-- A filing and a withdrawal.
module _ (len : ℕ) (day : Day) (out : List ℕ) (r : Answered) where
  module _ (filing : Filing) (f : FiledRow) (e : f ≡ file_row len day.row filing) where
    abbrev Filed : List ℕ → Type 0
    Filed out' = (room : List ℕ) → AnswersEvent day (filing_outcome filing f room) room out r room out'

    filed_so_here : (out' : List ℕ) → Filed out' → FilingAnswered len day filing out r out'
    filed_so_here out' h room = subst (λ (x : FiledRow). AnswersEvent day (filing_outcome filing x room) room out r room out') e (h room)

    pub filing_refused : (v : Verdict) → Err v ≡ checked f.filed.verdict → r ≡ refused_answer day v → FilingAnswered len day filing out r out
    filing_refused v said says = filed_so_here out (λ room. event_refused day (filing_outcome filing f room) room out refl r v said says)

    pub filing_said : (u : Unit) → Ok u ≡ checked f.filed.verdict → (w : Written) (out' : List ℕ) → TextSaid 52 (filing_outcome filing f out).text out w out' → r ≡ answered_by day (filing_outcome filing f out).next w → FilingAnswered len day filing out r out'
    filing_said u passes w out' said says = filed_so_here out' (λ room. event_told day (filing_outcome filing f room) room out refl r 52 (omega arith) u passes w out' said says)

  module _ (withdrawal : Withdrawal) (f : WithdrawnRow) (e : f ≡ withdraw_row len day.row withdrawal) where
    withdrawn_so_here : (out' : List ℕ) → ((room : List ℕ) → AnswersEvent day (withdrawal_outcome withdrawal f room) room out r room out') → WithdrawalAnswered len day withdrawal out r out'
    withdrawn_so_here out' h room = subst (λ (x : WithdrawnRow). AnswersEvent day (withdrawal_outcome withdrawal x room) room out r room out') e (h room)

    pub withdrawal_refused : (v : Verdict) → Err v ≡ checked f.withdrawn.verdict → r ≡ refused_answer day v → WithdrawalAnswered len day withdrawal out r out
    withdrawal_refused v said says = withdrawn_so_here out (λ room. event_refused day (withdrawal_outcome withdrawal f room) room out refl r v said says)

    pub withdrawal_said : (u : Unit) → Ok u ≡ checked f.withdrawn.verdict → (w : Written) (out' : List ℕ) → TextSaid 52 (withdrawal_outcome withdrawal f out).text out w out' → r ≡ answered_by day (withdrawal_outcome withdrawal f out).next w → WithdrawalAnswered len day withdrawal out r out'
    withdrawal_said u passes w out' said says = withdrawn_so_here out' (λ room. event_told day (withdrawal_outcome withdrawal f room) room out refl r 52 (omega arith) u passes w out' said says)
