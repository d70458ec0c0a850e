-- Each call does what was asked: from the order of filing on a day of one call; and a line of a day by the tests of its keys.
use Prim.Native.Nat.{ℕ, ◌-◌, ◌≤◌}
use mathlib.Core.Path.{◌≡◌, refl, sym, ap, ◌∙◌}
use mathlib.Core.Bool.{Bool, true, false, cond, true≢false}
use mathlib.Core.List.{List, [], ◌∷◌, ◌++◌, append-nil}
use mathlib.Core.Logic.{⊎_elim}
use native.Mathlib.Omega.{arith}
use lib.Dec.{eqb}
use lib.ListN.{length, take, replicate}
use borrow.Author.Tests.{eqb-true, eq-eqb, ne_eqb}
use Rattle.refusals.specs.declared.Refusal.TheVariants.{Accepted}
use Rattle.refusals.specs.Refusals.{is_refusal}
use Rattle.refusals.proofs.Verdicts.{refuses}
use Rattle.runs.proofs.Search.{true_or_false}
use Rattle.text_bytes.specs.Text.{line_feed, comma, has, before, behind, value_of}
use Rattle.text_bytes.proofs.Split.{before_here, behind_here}
use Rattle.text_lines.specs.Lines.{line_of, after_lines, value_text, first_in, second_in, middle_in, third_in, is_pair_line, is_triple_line}
use Rattle.sheet_writer.proofs.Reread.{key_value}
use Rattle.desk_tickets.specs.declared.Ticket.{Ticket}
use Rattle.desk_tickets.specs.declared.Withdrawal.{Withdrawal}
use Rattle.desk_tickets.specs.declared.WithdrawnRow.{WithdrawnRow}
use Rattle.desk_tickets.specs.WaitingTable.{no_ticket, waiting}
use Rattle.desk_tickets.specs.Withdrawals.{has_number, without_number, withdraw_verdict}
use Rattle.desk_tickets.proofs.Storing.{office_is}
use Rattle.desk_tickets.proofs.Leaving.{withdraw_accepted, without_here, without_later}
use Rattle.answer_desk.specs.Events.{filing_key, withdraw_key, board_key, pair_event_of, event_of}
use Rattle.desk_rows.specs.Desk.{table_in}
use Rattle.demands.specs.Lines.{Stands, Pair, Triple}
use Rattle.demands.proofs.Lines.{number_flat, pair_flat, triple_flat, line_read, tells_pair_line, tells_triple_line}
use Rattle.promises.specs.Desk.{Kept, IsOffice, filing, withdrawal, Fits, withdraws, over, then, joining, takes_back}
use Rattle.promises.specs.DeskCases.{ticket}
use Rattle.promises.specs.DeskAsked.{FilingAdds, WithdrawalRemoves, BoardsOnTheTape, TableIsFirst32, LastsByOffice, LineHolds, EventIsItsLine}
use Rattle.promises.proofs.Desk.{in_order, filed_behind}
use Rattle.promises.proofs.DeskRefusals.{withdrawn_verdict}

pub filing_adds : FilingAdds
filing_adds len k next f r table fits accepts =
    let stands = filed_behind len k next f r table fits accepts in
    record {
      own = stands.0 ∙ ap (λ (n : ℕ). waiting f.office k.row ++ ticket f.office f.file f.count n ∷ []) (sym stands.1);
      others = λ other o n.
          let none : joining other (filing len f r) ≡ [] = rw (ap is_refusal accepts, ne_eqb f.office other n) in
          in_order other k next (filing len f r ∷ []) o table (then fits over)
          ∙ ap (λ (ts : List Ticket). waiting other k.row ++ ts) none
          ∙ append-nil (waiting other k.row);
    }

-- The one of some tickets that has a number, and the tickets without it.
record Parted (n : ℕ) (ts : List Ticket) : Type 0 where
  ahead : List Ticket
  one : Ticket
  behind : List Ticket
  whole : ts ≡ ahead ++ one ∷ behind
  is : one.number ≡ n
  left : without_number n ts ≡ ahead ++ behind

parted : (n : ℕ) (ts : List Ticket) → has_number n ts ≡ true → Parted n ts
unfolding has_number
parted n [] h = absurd (true≢false (sym h))
parted n (t ∷ ts) h = go (parted n ts) (eqb t.number n) refl
  where
    go : (has_number n ts ≡ true → Parted n ts) → (b : Bool) → eqb t.number n ≡ b → Parted n (t ∷ ts)
    go rest true e = record { ahead = []; one = t; behind = ts; whole = refl; is = eqb-true t.number n e; left = without_here n t ts e }
    go rest false e =
        let p = rest (rw e at h) in
        record {
          ahead = t ∷ p.ahead;
          one = p.one;
          behind = p.behind;
          whole = ap {B = List Ticket} (λ x. t ∷ x) p.whole;
          is = p.is;
          left = without_later n t ts e ∙ ap {B = List Ticket} (λ x. t ∷ x) p.left;
        }

accepted_withdrawal : {len : ℕ} {k next : Kept} {w : Withdrawal} {r : WithdrawnRow} → r.withdrawn.verdict.refusal ≡ Accepted → Fits k (withdrawal len w r) next
    → IsOffice w.office × (has_number w.number (waiting w.office k.row) ≡ true)
accepted_withdrawal accepts (withdraws {len} {k} {w} {r} l e) =
    let passes : refuses (withdraw_verdict len k.row w) ≡ false =
    ap refuses (sym (withdrawn_verdict len k.row w)) ∙ ap (λ (x : WithdrawnRow). is_refusal x.withdrawn.verdict.refusal) (sym e) ∙ ap is_refusal accepts in
    let a = withdraw_accepted len k.row w passes in
    (office_is w.office a.office, a.waits)

pub withdrawal_removes : WithdrawalRemoves
withdrawal_removes len k next w r table fits accepts =
    let a = accepted_withdrawal accepts fits in
    let ts = waiting w.office k.row in
    let p = parted w.number ts a.1 in
    let here : takes_back w.office (withdrawal len w r) ≡ true = rw (ap is_refusal accepts, eq-eqb w.office w.office refl) in
    record {
      ahead = p.ahead;
      one = p.one;
      behind = p.behind;
      waited = p.whole;
      is = p.is;
      gone = in_order w.office k next (withdrawal len w r ∷ []) a.0 table (then fits over)
          ∙ ap (λ (b : Bool). cond b (without_number w.number ts) ts ++ []) here
          ∙ append-nil (without_number w.number ts)
          ∙ p.left;
      others = λ other o n.
          let there : takes_back other (withdrawal len w r) ≡ false = rw (ap is_refusal accepts, ne_eqb w.office other n) in
          in_order other k next (withdrawal len w r ∷ []) o table (then fits over)
          ∙ ap (λ (b : Bool). cond b (without_number w.number (waiting other k.row)) (waiting other k.row) ++ []) there
          ∙ append-nil (waiting other k.row);
    }

pub boards_on_the_tape : BoardsOnTheTape
boards_on_the_tape tape row b = record { starts = refl; lengths = refl; aggregates = refl; head = refl; turn = refl }

pub table_is_first_32 : TableIsFirst32
unfolding table_in
table_is_first_32 ts long =
    let none : 32 - length ts ≡ 0 = omega arith in
    ap (λ (n : ℕ). take 32 ts ++ replicate n no_ticket) none ∙ append-nil (take 32 ts)

pub lasts_by_office : LastsByOffice
lasts_by_office row l = (refl, (refl, refl))

-- The numbers that are read on a line are those behind its key.
module _ (line : List ℕ) where
  module _ (key : List ℕ) (plain : has line_feed key ≡ false) (s : Stands key Pair line 0) where
    pair_value_here : value_text key (line_of line) ≡ s.kind.first ++ (comma ∷ s.kind.others)
    unfolding after_lines
    pair_value_here = ap (value_text key) (line_read key s.value s.rest line plain (pair_flat s.value s.kind) s.is) ∙ key_value key s.value ∙ s.kind.is

    pair_numbers : (first_in key (line_of line) ≡ value_of s.kind.first) × (second_in key (line_of line) ≡ value_of s.kind.others)
    pair_numbers =
        let flat = number_flat comma refl s.kind.first s.kind.left in (
          ap (λ t. value_of (before comma t)) pair_value_here ∙ ap value_of (before_here comma s.kind.first s.kind.others flat),
          ap (λ t. value_of (behind comma t)) pair_value_here ∙ ap value_of (behind_here comma s.kind.first s.kind.others flat),
        )

  module _ (s : Stands filing_key Triple line 0) where
    triple_value_here : value_text filing_key (line_of line) ≡ s.kind.first ++ (comma ∷ s.kind.others)
    unfolding after_lines has
    triple_value_here = ap (value_text filing_key) (line_read filing_key s.value s.rest line refl (triple_flat s.value s.kind) s.is) ∙ key_value filing_key s.value ∙ s.kind.is

    triple_numbers : (first_in filing_key (line_of line) ≡ value_of s.kind.first) × (middle_in filing_key (line_of line) ≡ value_of s.kind.right.first) × (third_in filing_key (line_of line) ≡ value_of s.kind.right.others)
    triple_numbers =
        let p = s.kind.right in
        let flat = number_flat comma refl s.kind.first s.kind.left in
        let later = number_flat comma refl p.first p.left in
        let back : behind comma (value_text filing_key (line_of line)) ≡ p.first ++ (comma ∷ p.others) =
        ap (behind comma) triple_value_here ∙ behind_here comma s.kind.first s.kind.others flat ∙ p.is in (
          ap (λ t. value_of (before comma t)) triple_value_here ∙ ap value_of (before_here comma s.kind.first s.kind.others flat),
          ap (λ t. value_of (before comma t)) back ∙ ap value_of (before_here comma p.first p.others later),
          ap (λ t. value_of (behind comma t)) back ∙ ap value_of (behind_here comma p.first p.others later),
        )

  abbrev Holds : Type 0
  Holds = LineHolds line (event_of (line_of line))

  boarding_holds : is_triple_line filing_key (line_of line) ≡ false → is_pair_line withdraw_key (line_of line) ≡ false → Holds
  unfolding event_of pair_event_of after_lines has
  boarding_holds e f =
      ⊎_elim
      (λ (g : is_pair_line board_key (line_of line) ≡ true).
      let s = (tells_pair_line line 0 board_key (omega arith) refl).when_true g in
      let v = pair_numbers board_key refl s in
      rw (e, f, g, v.0, v.1) (LineHolds.a_boarding s))
      (λ (g : is_pair_line board_key (line_of line) ≡ false).
      rw (e, f, g)
      (LineHolds.no_event ((tells_triple_line line 0 filing_key (omega arith) refl).when_false e) ((tells_pair_line line 0 withdraw_key (omega arith) refl).when_false f)
      ((tells_pair_line line 0 board_key (omega arith) refl).when_false g)))
      (true_or_false (is_pair_line board_key (line_of line)))

  pair_holds : is_triple_line filing_key (line_of line) ≡ false → Holds
  unfolding event_of pair_event_of after_lines has
  pair_holds e =
      ⊎_elim
      (λ (f : is_pair_line withdraw_key (line_of line) ≡ true).
      let s = (tells_pair_line line 0 withdraw_key (omega arith) refl).when_true f in
      let v = pair_numbers withdraw_key refl s in
      rw (e, f, v.0, v.1) (LineHolds.a_withdrawal s))
      (boarding_holds e)
      (true_or_false (is_pair_line withdraw_key (line_of line)))

  line_holds : Holds
  unfolding event_of after_lines has
  line_holds =
      ⊎_elim
      (λ (e : is_triple_line filing_key (line_of line) ≡ true).
      let s = (tells_triple_line line 0 filing_key (omega arith) refl).when_true e in
      let v = triple_numbers s in
      rw (e, v.0, v.1, v.2) (LineHolds.a_filing s))
      pair_holds
      (true_or_false (is_triple_line filing_key (line_of line)))

pub event_is_its_line : EventIsItsLine
event_is_its_line line = line_holds line
