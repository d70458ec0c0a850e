-- One call on a table: what joins and leaves at each office, the next table, and the last numbers.
use Prim.Native.Nat.{ℕ, zero, suc, ◌+◌, ◌-◌, ◌≤◌, ◌<◌, min}
use mathlib.Core.Path.{◌≡◌, refl, sym, ap, subst, ◌∙◌}
use mathlib.Core.Bool.{Bool, true, false, cond, true≢false, ◌&&◌}
use mathlib.Core.List.{List, [], ◌∷◌, ◌++◌, append-nil}
use mathlib.Core.Logic.{⊎_elim, inl, inr, ◌⊎◌}
use native.Mathlib.Omega.{arith}
use native.Mathlib.Decide.{dec_lt}
use lib.Dec.{eqb}
use lib.ListN.{length, get_or, drop, length-append, length-drop, get_or-append}
use lib.Seq.{get_or-drop}
use borrow.Author.Tests.{eqb-true, eqb-false, ne_eqb}
use Rattle.refusals.specs.declared.Refusal.{Refusal}
use Rattle.refusals.specs.declared.Refusal.TheVariants.{Accepted, FileRows, BadFile, WantRows, BadWant, TooManyReads, TurnPrice, HeadPlace, ShortRow, ShortRoom, BadEntry, BadLine, LongSheet, BadName, BadRule, BadTicket, OfficeFull, NotWaiting, NumbersSpent, RetiredRule, BadText, ManyExtents, Overlap, FarFile, OverEightWants, BadSheetCount, BadRecord}
use Rattle.refusals.specs.Refusals.{is_refusal}
use Rattle.refusals.proofs.Verdicts.{refuses}
use Rattle.runs.proofs.Search.{true_or_false}
use Rattle.planner.specs.Rows.{Rows}
use Rattle.desk_tickets.specs.declared.Ticket.{Ticket}
use Rattle.desk_tickets.specs.declared.Lasts.{Lasts}
use Rattle.desk_tickets.specs.declared.Filing.{Filing}
use Rattle.desk_tickets.specs.declared.FiledRow.{FiledRow}
use Rattle.desk_tickets.specs.declared.Withdrawal.{Withdrawal}
use Rattle.desk_tickets.specs.declared.WithdrawnRow.{WithdrawnRow}
use Rattle.desk_tickets.specs.WaitingTable.{no_ticket, last_of, waiting, records_verdict}
use Rattle.desk_tickets.specs.Filings.{file_verdict, number_for, lasts_with, ticket_of, with_ticket, row_with_ticket, not_filed, filed_in, file_row}
use Rattle.desk_tickets.specs.Withdrawals.{without_number, withdraw_verdict, without_ticket, row_left, withdraw_row}
use Rattle.desk_tickets.proofs.Storing.{file_accepted, office_is, range_office}
use Rattle.desk_tickets.proofs.Leaving.{withdraw_accepted, without_here, without_later}
use Rattle.desk_tickets.proofs.Kept.{Stands, Holds, without_holds, file_holds, withdraw_holds, filed_so_lem, not_filed_so, withdrawn_so_lem, not_withdrawn_so}
use Rattle.desk_boardings.specs.declared.Boarding.{Boarding}
use Rattle.desk_boardings.specs.declared.BoardedRow.{BoardedRow}
use Rattle.desk_boardings.specs.Boarders.{share, share_one, share_two, row_staying, wants_of}
use Rattle.desk_boardings.specs.Boardings.{Tape, taken_of, want_rows, not_boarded, Boards}
use Rattle.desk_boardings.proofs.Who.{share_within}
use Rattle.promises.specs.Desk.{Kept, IsTable, IsOffice, Call, filing, withdrawal, boarding, Fits, files, withdraws, boards, departs, leaving, joining, takes_back, withdrawn, queue_after, given_by, WaitsOn, Fate, Takes}

-- A kind other than acceptance refuses.
pub not_accepted : (kind : Refusal) → (kind ≡ Accepted → ⊥) → is_refusal kind ≡ true
not_accepted Accepted h = absurd (h refl)
not_accepted FileRows h = refl
not_accepted BadFile h = refl
not_accepted WantRows h = refl
not_accepted BadWant h = refl
not_accepted TooManyReads h = refl
not_accepted TurnPrice h = refl
not_accepted HeadPlace h = refl
not_accepted ShortRow h = refl
not_accepted ShortRoom h = refl
not_accepted BadEntry h = refl
not_accepted BadLine h = refl
not_accepted LongSheet h = refl
not_accepted BadName h = refl
not_accepted BadRule h = refl
not_accepted BadTicket h = refl
not_accepted OfficeFull h = refl
not_accepted NotWaiting h = refl
not_accepted NumbersSpent h = refl
not_accepted RetiredRule h = refl
not_accepted BadText h = refl
not_accepted ManyExtents h = refl
not_accepted Overlap h = refl
not_accepted FarFile h = refl
not_accepted OverEightWants h = refl
not_accepted BadSheetCount h = refl
not_accepted BadRecord h = refl

-- The shares: at least four or all, and eight of both where so many wait.
pub share_four : (mine others : ℕ) → min 4 mine ≤ share mine others
share_four mine others = omega arith

both_four : (a b x y : ℕ) → min 4 a ≡ x → min 4 b ≡ y → min a (8 - y) + min b (8 - x) ≡ min 8 (a + b) → share a b + share b a ≡ min 8 (a + b)
both_four a b x y p q h = rw (p, q) h

pub share_all : (a b : ℕ) → share a b + share b a ≡ min 8 (a + b)
share_all a b = elim (dec_lt a 4) [ yes h ↦ elim (dec_lt b 4) [ yes g ↦ few h g | no m ↦ first h (omega arith) ] | no n ↦ elim (dec_lt b 4) [ yes g ↦ second (omega arith) g | no m ↦ many (omega arith) (omega arith) ] ]
  where
    few : a < 4 → b < 4 → share a b + share b a ≡ min 8 (a + b)
    few h g = both_four a b a b (omega arith) (omega arith) (omega arith)

    first : a < 4 → 4 ≤ b → share a b + share b a ≡ min 8 (a + b)
    first h g = both_four a b a 4 (omega arith) (omega arith) (omega arith)

    second : 4 ≤ a → b < 4 → share a b + share b a ≡ min 8 (a + b)
    second h g = both_four a b 4 b (omega arith) (omega arith) (omega arith)

    many : 4 ≤ a → 4 ≤ b → share a b + share b a ≡ min 8 (a + b)
    many h g = both_four a b 4 4 (omega arith) (omega arith) (omega arith)

-- One call, for one office: what waits next, and how many have left.
pub record Step (office : ℕ) (row next : List Ticket) (c : Call) : Type 0 where
  pub queue : waiting office next ≡ queue_after office c (waiting office row)
  pub there : leaving office c ≤ length (waiting office row)
  pub four : departs c ≡ true → min 4 (length (waiting office row)) ≤ leaving office c
  pub only : departs c ≡ false → leaving office c ≡ 0

with_joining : (b : Bool) (ts : List Ticket) (t : Ticket) → cond b (ts ++ t ∷ []) ts ≡ ts ++ cond b (t ∷ []) []
with_joining true ts t = refl
with_joining false ts t = sym (append-nil ts)

-- A filing, whatever it answers.
module _ (office len : ℕ) (row : List Ticket) (f : Filing) (o : IsOffice office) (table : Stands f.lasts row) where
  filing_refused_here : refuses (file_verdict len row f) ≡ true → Step office row row (filing len f (not_filed row f (file_verdict len row f)))
  filing_refused_here e = record { queue = rw e (sym (append-nil (waiting office row))); there = omega arith; four = λ d. absurd (true≢false (sym d)); only = λ d. refl }

  filed_holds : refuses (file_verdict len row f) ≡ false
      → Holds (lasts_with f.office (number_for f) f.lasts) (with_ticket 1 (ticket_of f) (waiting 1 row)) (with_ticket 2 (ticket_of f) (waiting 2 row)) (row_with_ticket (ticket_of f) row)
  filed_holds e = let a = file_accepted len row f e in file_holds row f table a.ranged a.free

  filing_accepted : refuses (file_verdict len row f) ≡ false → Step office row (row_with_ticket (ticket_of f) row) (filing len f (filed_in row f (file_verdict len row f)))
  filing_accepted e = record { queue = rw e (at_office o); there = omega arith; four = λ d. absurd (true≢false (sym d)); only = λ d. refl }
    where
      at_office : IsOffice office → waiting office (row_with_ticket (ticket_of f) row) ≡ waiting office row ++ cond (eqb f.office office) (ticket_of f ∷ []) []
      at_office (inl same) = rw same ((filed_holds e).one ∙ with_joining (eqb f.office 1) (waiting 1 row) (ticket_of f))
      at_office (inr same) = rw same ((filed_holds e).two ∙ with_joining (eqb f.office 2) (waiting 2 row) (ticket_of f))

  filing_step : (r : FiledRow) → r ≡ file_row len row f → Step office row r.row (filing len f r) × Stands r.filed.lasts r.row
  filing_step r is =
      ⊎_elim
      (λ e. subst (λ (x : FiledRow). Step office row x.row (filing len f x) × Stands x.filed.lasts x.row) (sym (is ∙ not_filed_so len row f e)) (filing_refused_here e, table))
      (λ e. subst (λ (x : FiledRow). Step office row x.row (filing len f x) × Stands x.filed.lasts x.row) (sym (is ∙ filed_so_lem len row f e)) (filing_accepted e, (filed_holds e).sound))
      (true_or_false (refuses (file_verdict len row f)))

-- A withdrawal, whatever it answers.
module _ (office len : ℕ) (row : List Ticket) (w : Withdrawal) (o : IsOffice office) (table : Stands w.lasts row) where
  abbrev answer : List Ticket → WithdrawnRow
  answer next = record { withdrawn = record { verdict = withdraw_verdict len row w; lasts = w.lasts }; row = next }

  withdrawal_refused_here : refuses (withdraw_verdict len row w) ≡ true → Step office row row (withdrawal len w (answer row))
  withdrawal_refused_here e = record { queue = rw e (sym (append-nil (waiting office row))); there = omega arith; four = λ d. absurd (true≢false (sym d)); only = λ d. refl }

  left_holds : refuses (withdraw_verdict len row w) ≡ false → Holds w.lasts (without_ticket 1 w (waiting 1 row)) (without_ticket 2 w (waiting 2 row)) (row_left w row)
  left_holds e = let a = withdraw_accepted len row w e in withdraw_holds row w table a.office a.waits

  withdrawal_accepted : refuses (withdraw_verdict len row w) ≡ false → Step office row (row_left w row) (withdrawal len w (answer (row_left w row)))
  withdrawal_accepted e =
      record { queue = rw e (at_office o ∙ sym (append-nil (without_ticket office w (waiting office row)))); there = omega arith; four = λ d. absurd (true≢false (sym d)); only = λ d. refl }
    where
      at_office : IsOffice office → waiting office (row_left w row) ≡ without_ticket office w (waiting office row)
      at_office (inl same) = rw same (left_holds e).one
      at_office (inr same) = rw same (left_holds e).two

  withdrawal_step : (r : WithdrawnRow) → r ≡ withdraw_row len row w → Step office row r.row (withdrawal len w r) × Stands r.withdrawn.lasts r.row
  withdrawal_step r is =
      ⊎_elim
      (λ e. subst (λ (x : WithdrawnRow). Step office row x.row (withdrawal len w x) × Stands x.withdrawn.lasts x.row) (sym (is ∙ not_withdrawn_so len row w e)) (withdrawal_refused_here e, table))
      (λ e. subst (λ (x : WithdrawnRow). Step office row x.row (withdrawal len w x) × Stands x.withdrawn.lasts x.row) (sym (is ∙ withdrawn_so_lem len row w e)) (withdrawal_accepted e, (left_holds e).sound))
      (true_or_false (refuses (withdraw_verdict len row w)))

-- A boarding's answer, refused or accepted.
module _ (len : ℕ) (tape : Tape) (row : List Ticket) (b : Boarding) (before after : Rows) (r : BoardedRow) (fits : Boards len tape row b before r after) where
  pub board_accepted : is_refusal r.boarded.answer.refusal ≡ false → refuses (records_verdict len row b.lasts) ≡ false
  board_accepted e =
      ⊎_elim
      (λ t. absurd (true≢false (sym t ∙ (ap (λ x. is_refusal x.boarded.answer.refusal) (sym (fits.refused t).says) ∙ e))))
      (λ n. n) (true_or_false (refuses (records_verdict len row b.lasts)))

  pub accepted_is : is_refusal r.boarded.answer.refusal ≡ false
      → r ≡ record { boarded = record { answer = r.boarded.answer; taken = taken_of row; wants = want_rows (wants_of row); lasts = b.lasts }; row = row_staying row }
  accepted_is e = (fits.planned (board_accepted e)).says ∙ (rw e)

  pub refused_is : is_refusal r.boarded.answer.refusal ≡ true → r ≡ not_boarded row b.lasts r.boarded.answer
  refused_is e =
      ⊎_elim
      (λ t. let s = (fits.refused t).says in s ∙ ap (not_boarded row b.lasts) (sym (ap (λ x. x.boarded.answer) s)))
      (λ n. (fits.planned n).says ∙ (rw e)) (true_or_false (refuses (records_verdict len row b.lasts)))

  pub boards_lasts : r.boarded.lasts ≡ b.lasts
  boards_lasts =
      ⊎_elim (λ e. ap (λ x. x.boarded.lasts) (refused_is e)) (λ e. ap (λ x. x.boarded.lasts) (accepted_is e))
      (true_or_false (is_refusal r.boarded.answer.refusal))

  staying_holds : Stands b.lasts row → Holds b.lasts (drop (share_one row) (waiting 1 row)) (drop (share_two row) (waiting 2 row)) (row_staying row)
  staying_holds table = without_holds (share_one row) (share_two row) b.lasts row table

  -- Who leaves.
  pub takes : Stands b.lasts row → is_refusal r.boarded.answer.refusal ≡ false → Takes row r
  takes table e =
      let is = accepted_is e in
      let one : r.boarded.taken.one ≡ share_one row = ap (λ x. x.boarded.taken.one) is in
      let two : r.boarded.taken.two ≡ share_two row = ap (λ x. x.boarded.taken.two) is in
      let next : r.row ≡ row_staying row = ap (λ x. x.row) is in
      let h = staying_holds table in
      record {
        one = rw one (share_four (length (waiting 1 row)) (length (waiting 2 row)));
        two = rw two (share_four (length (waiting 2 row)) (length (waiting 1 row)));
        there_one = rw one (share_within (length (waiting 1 row)) (length (waiting 2 row)));
        there_two = rw two (share_within (length (waiting 2 row)) (length (waiting 1 row)));
        all = rw (one, two) (share_all (length (waiting 1 row)) (length (waiting 2 row)));
        stay_one = ap (waiting 1) next ∙ h.one ∙ ap (λ n. drop n (waiting 1 row)) (sym one);
        stay_two = ap (waiting 2) next ∙ h.two ∙ ap (λ n. drop n (waiting 2 row)) (sym two);
        who = rw (one, two);
      }

  pub boarding_step : (office : ℕ) → IsOffice office → Stands b.lasts row → Step office row r.row (boarding len tape b before after r) × Stands r.boarded.lasts r.row
  boarding_step office o table = ⊎_elim stays leaves (true_or_false (is_refusal r.boarded.answer.refusal))
    where
      stays : is_refusal r.boarded.answer.refusal ≡ true → Step office row r.row (boarding len tape b before after r) × Stands r.boarded.lasts r.row
      stays e =
          let is = refused_is e in
          let same : r.row ≡ row = ap (λ x. x.row) is in
          let zero_left : leaving office (boarding len tape b before after r) ≡ 0 = ap (λ x. leaving office (boarding len tape b before after x)) is ∙ both (eqb office 1) in (
            record {
              queue = ap (waiting office) same ∙ sym (none (leaving office (boarding len tape b before after r)) zero_left);
              there = omega arith;
              four = λ d. absurd (true≢false (sym d ∙ (rw e)));
              only = λ d. zero_left;
            },
            rw (boards_lasts, same) table,
          )
        where
          none : (n : ℕ) → n ≡ 0 → drop n (waiting office row ++ []) ≡ waiting office row
          none n z = rw z (append-nil (waiting office row))

          both : (c : Bool) → ◌≡◌ {A = ℕ} (cond c 0 0) 0
          both true = refl
          both false = refl

      leaves : is_refusal r.boarded.answer.refusal ≡ false → Step office row r.row (boarding len tape b before after r) × Stands r.boarded.lasts r.row
      leaves e =
          let next : r.row ≡ row_staying row = ap (λ x. x.row) (accepted_is e) in
          (at_office (takes table e) o, rw (boards_lasts, next) (staying_holds table).sound)
        where
          boarded : departs (boarding len tape b before after r) ≡ true
          boarded = rw e

          at_office : Takes row r → IsOffice office → Step office row r.row (boarding len tape b before after r)
          at_office t (inl same) = rw same record { queue = rw (append-nil (waiting 1 row)) t.stay_one; there = t.there_one; four = λ d. t.one; only = λ d. absurd (true≢false (sym boarded ∙ d)) }
          at_office t (inr same) = rw same record { queue = rw (append-nil (waiting 2 row)) t.stay_two; there = t.there_two; four = λ d. t.two; only = λ d. absurd (true≢false (sym boarded ∙ d)) }

pub step : (office : ℕ) {k next : Kept} {c : Call} → IsOffice office → IsTable k → Fits k c next → Step office k.row next.row c × IsTable next
step office o table (files {len} {k} {f} {r} l e) = filing_step office len k.row f o (subst (λ (x : Lasts). Stands x k.row) (sym l) table) r e
step office o table (withdraws {len} {k} {w} {r} l e) = withdrawal_step office len k.row w o (subst (λ (x : Lasts). Stands x k.row) (sym l) table) r e
step office o table (boards {len} {tape} {k} {b} {before} {after} {r} l e) =
    boarding_step len tape k.row b before after r e office o (subst (λ (x : Lasts). Stands x k.row) (sym l) table)

-- The last number of an office: a filing gives the next, and nothing else changes it.
abbrev pub Gives : ℕ → Kept → Kept → Call → Type 0
Gives office k next c =
    ((given_by office c ≡ []) × (last_of office next.lasts ≡ last_of office k.lasts))
    ⊎ ((given_by office c ≡ suc (last_of office k.lasts) ∷ []) × (last_of office next.lasts ≡ suc (last_of office k.lasts)))

lasts_given : (office at n : ℕ) (l : Lasts) → IsOffice office → IsOffice at → last_of office (lasts_with at n l) ≡ cond (eqb at office) n (last_of office l)
lasts_given office at n l (inl a) (inl b) = rw (a, b)
lasts_given office at n l (inl a) (inr b) = rw (a, b)
lasts_given office at n l (inr a) (inl b) = rw (a, b)
lasts_given office at n l (inr a) (inr b) = rw (a, b)

module _ (office len : ℕ) (k : Kept) (f : Filing) (o : IsOffice office) (same : f.lasts ≡ k.lasts) where
  abbrev GivesFiling : FiledRow → Type 0
  GivesFiling r = Gives office k (record { row = r.row; lasts = r.filed.lasts }) (filing len f r)

  gives_refused : refuses (file_verdict len k.row f) ≡ true → GivesFiling (not_filed k.row f (file_verdict len k.row f))
  gives_refused e = inl (rw e, ap (last_of office) same)

  gives_accepted : refuses (file_verdict len k.row f) ≡ false → GivesFiling (filed_in k.row f (file_verdict len k.row f))
  gives_accepted e = by_office (eqb f.office office) refl
    where
      its : IsOffice f.office
      its = office_is f.office (range_office f (file_accepted len k.row f e).ranged)

      by_office : (b : Bool) → eqb f.office office ≡ b → GivesFiling (filed_in k.row f (file_verdict len k.row f))
      by_office true h =
          let at : f.office ≡ office = eqb-true f.office office h in
          let next : number_for f ≡ suc (last_of office k.lasts) = ap (λ x. suc (last_of x f.lasts)) at ∙ ap (λ x. suc (last_of office x)) same in
          inr (rw (e, h) (ap (λ (x : ℕ). x ∷ []) next), lasts_given office f.office (number_for f) f.lasts o its ∙ (rw h next))
      by_office false h =
          inl (rw (e, h), lasts_given office f.office (number_for f) f.lasts o its ∙ (rw h (ap (last_of office) same)))

  gives_filing : (r : FiledRow) → r ≡ file_row len k.row f → GivesFiling r
  gives_filing r is =
      ⊎_elim (λ e. subst (λ (x : FiledRow). GivesFiling x) (sym (is ∙ not_filed_so len k.row f e)) (gives_refused e))
      (λ e. subst (λ (x : FiledRow). GivesFiling x) (sym (is ∙ filed_so_lem len k.row f e)) (gives_accepted e))
      (true_or_false (refuses (file_verdict len k.row f)))

withdrawn_lasts : (len : ℕ) (row : List Ticket) (w : Withdrawal) → (withdraw_row len row w).withdrawn.lasts ≡ w.lasts
withdrawn_lasts len row w =
    ⊎_elim (λ e. ap (λ (x : WithdrawnRow). x.withdrawn.lasts) (not_withdrawn_so len row w e)) (λ e. ap (λ (x : WithdrawnRow). x.withdrawn.lasts) (withdrawn_so_lem len row w e))
    (true_or_false (refuses (withdraw_verdict len row w)))

pub gives : (office : ℕ) {k next : Kept} {c : Call} → IsOffice office → Fits k c next → Gives office k next c
gives office o (files {len} {k} {f} {r} l e) = gives_filing office len k f o l r e
gives office o (withdraws {len} {k} {w} {r} l e) = inl (refl, ap (last_of office) (ap (λ (x : WithdrawnRow). x.withdrawn.lasts) e ∙ withdrawn_lasts len k.row w ∙ l))
gives office o (boards {len} {tape} {k} {b} {before} {after} {r} l e) = inl (refl, ap (last_of office) (boards_lasts len tape k.row b before after r e ∙ l))

-- What a call does to one ticket.
pub record Place (j : ℕ) (ts next : List Ticket) : Type 0 where
  pub ahead : ℕ
  pub fewer : ahead ≤ j
  pub there : ahead < length next
  pub same : get_or next ahead no_ticket ≡ get_or ts j no_ticket

without_place : (m : ℕ) (ts : List Ticket) (j : ℕ) → j < length ts → eqb (get_or ts j no_ticket).number m ≡ false → Place j ts (without_number m ts)
without_place m [] j l e = absurd (omega arith)
without_place m (t ∷ ts) j l e = by_case (eqb t.number m) refl j l e (without_place m ts)
  where
    by_case : (b : Bool) → eqb t.number m ≡ b → (j : ℕ) → j < length (t ∷ ts) → eqb (get_or (t ∷ ts) j no_ticket).number m ≡ false
        → ((i : ℕ) → i < length ts → eqb (get_or ts i no_ticket).number m ≡ false → Place i ts (without_number m ts))
        → Place j (t ∷ ts) (without_number m (t ∷ ts))
    by_case true h zero l e rest = absurd (true≢false (sym h ∙ e))
    by_case true h (suc i) l e rest = rw (without_here m t ts h) record { ahead = i; fewer = omega arith; there = omega arith; same = refl }
    by_case false h zero l e rest = rw (without_later m t ts h) record { ahead = 0; fewer = omega arith; there = omega arith; same = refl }
    by_case false h (suc i) l e rest =
        let p = rest i (omega arith) e in
        rw (without_later m t ts h) record { ahead = suc p.ahead; fewer = omega (arith, p.fewer); there = omega (arith, p.there); same = p.same }

module _ (office j : ℕ) (ts next : List Ticket) (l : j < length ts) where
  behind_filed : (joins : List Ticket) → next ≡ ts ++ joins → Place j ts next
  behind_filed joins is =
      rw is record { ahead = j; fewer = omega arith; there = rw (length-append ts joins) (omega arith); same = get_or-append ts joins no_ticket j l }

  behind_withdrawn : (b : Bool) (m : ℕ) → next ≡ cond b (without_number m ts) ts ++ [] → (b && eqb m (get_or ts j no_ticket).number) ≡ false → Place j ts next
  behind_withdrawn true m is e =
      rw (is ∙ append-nil (without_number m ts))
      (without_place m ts j l (ne_eqb (get_or ts j no_ticket).number m (λ same. eqb-false m (get_or ts j no_ticket).number e (sym same))))
  behind_withdrawn false m is e = rw (is ∙ append-nil ts) record { ahead = j; fewer = omega arith; there = l; same = refl }

  behind_boarded : (n : ℕ) → next ≡ drop n (ts ++ []) → n ≤ j → Place j ts next
  behind_boarded n is few =
      let here : next ≡ drop n ts = is ∙ ap (drop n) (append-nil ts) in
      let back : n + (j - n) ≡ j = omega arith in
      rw here record { ahead = j - n; fewer = omega arith; there = rw (length-drop n ts) (omega arith); same = get_or-drop n ts (j - n) no_ticket ∙ ap (λ i. get_or ts i no_ticket) back }

waits_on_lem : {j : ℕ} {ts next : List Ticket} (c : Call) (p : Place j ts next) → (departs c ≡ true → 4 + p.ahead ≤ j) → WaitsOn j ts next c
waits_on_lem c p four = record { ahead = p.ahead; fewer = p.fewer; there = p.there; same = p.same; four = four }

pub fate : (office j : ℕ) (row next : List Ticket) (c : Call) → Step office row next c → j < length (waiting office row) → Fate office j (waiting office row) (waiting office next) c
unfolding behind_boarded
fate office j row next (filing len f r) s l =
    inr (inr (waits_on_lem (filing len f r) (behind_filed office j (waiting office row) (waiting office next) l (joining office (filing len f r)) s.queue) (λ d. absurd (true≢false (sym d)))))
fate office j row next (withdrawal len w r) s l =
    ⊎_elim (λ e. inl e)
    (λ e. inr (inr (waits_on_lem (withdrawal len w r) (behind_withdrawn office j (waiting office row) (waiting office next) l (takes_back office (withdrawal len w r)) w.number s.queue e) (λ d. absurd (true≢false (sym d))))))
    (true_or_false (withdrawn office (get_or (waiting office row) j no_ticket).number (withdrawal len w r)))
fate office j row next (boarding len tape b before after r) s l =
    elim (dec_lt j (leaving office (boarding len tape b before after r))) [ yes h ↦ taken h | no n ↦ stays (omega arith) ]
  where
    taken : j < leaving office (boarding len tape b before after r) → Fate office j (waiting office row) (waiting office next) (boarding len tape b before after r)
    taken h = ⊎_elim (λ d. inr (inl (d, h))) (λ d. absurd (let z = s.only d in omega arith)) (true_or_false (departs (boarding len tape b before after r)))

    stays : leaving office (boarding len tape b before after r) ≤ j → Fate office j (waiting office row) (waiting office next) (boarding len tape b before after r)
    stays h =
        let p = behind_boarded office j (waiting office row) (waiting office next) l (leaving office (boarding len tape b before after r)) s.queue h in
        inr (inr (record { ahead = j - leaving office (boarding len tape b before after r); fewer = omega arith; there = p.there; same = p.same; four = λ d. let f = s.four d in omega arith }))
