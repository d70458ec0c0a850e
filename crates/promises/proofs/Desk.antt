-- The promises of requests L6 and L7: the table stays a table, numbers count up, each office's tickets leave in order and in time, a freed place serves,
-- and each boarded run is one of the demands'.
use Prim.Native.Nat.{ℕ, zero, suc, ◌+◌, ◌*◌, ◌≤◌, ◌<◌, ◌/◌}
use mathlib.Core.Path.{◌≡◌, refl, sym, ap, subst, ◌∙◌}
use mathlib.Core.Bool.{Bool, true, false, cond, true≢false}
use mathlib.Core.List.{List, [], ◌∷◌, ◌++◌}
use mathlib.Core.Logic.{⊎_elim, ◌⊎◌, inl, inr}
use native.Mathlib.Omega.{arith}
use native.Mathlib.Nat.{div-lt_iff_lt-mul}
use native.Mathlib.Decide.{dec_lt}
use lib.ListN.{length, get_or}
use borrow.Author.Tests.{eq-eqb, le-ltb, lt-leb}
use Rattle.refusals.specs.declared.Refusal.TheVariants.{Accepted}
use Rattle.refusals.specs.Refusals.{is_refusal, accepted}
use Rattle.refusals.proofs.Verdicts.{refuses}
use Rattle.runs.proofs.Search.{true_or_false}
use Rattle.walk.specs.declared.Answer.{Answer}
use Rattle.walk.specs.Price.{priced_answer, refusal_answer}
use Rattle.planner.specs.Plan.{Plans}
use Rattle.desk_tickets.specs.declared.Ticket.{Ticket}
use Rattle.desk_tickets.specs.declared.Lasts.{Lasts}
use Rattle.desk_tickets.specs.declared.Filing.{Filing}
use Rattle.desk_tickets.specs.declared.FiledRow.{FiledRow}
use Rattle.desk_tickets.specs.declared.Withdrawal.{Withdrawal}
use Rattle.desk_tickets.specs.declared.WithdrawnRow.{WithdrawnRow}
use Rattle.desk_tickets.specs.WaitingTable.{places, all_places, no_ticket, last_of, waiting, records_verdict, Waits, Sound}
use Rattle.desk_tickets.specs.Filings.{in_range, most_number, number_for, ticket_of, file_verdict, not_filed, filed_in, file_row}
use Rattle.desk_tickets.specs.Withdrawals.{withdraw_verdict, withdraw_row}
use Rattle.desk_tickets.proofs.Storing.{file_accepted, office_is, range_office}
use Rattle.desk_tickets.proofs.Placed.{none_bad}
use Rattle.desk_tickets.proofs.Kept.{Stands, sound_stands, filed_so_lem, not_filed_so, withdrawn_so_lem, not_withdrawn_so}
use Rattle.desk_boardings.specs.declared.BoardedRow.{BoardedRow}
use Rattle.desk_boardings.specs.Boarders.{row_staying, wants_of}
use Rattle.desk_boardings.specs.Boardings.{board_run, want_rows, taken_of, not_boarded, boarded_by}
use Rattle.demands.proofs.Fits.{plan_answer, plan_rows, plans_for_every_input}
use Rattle.demands.proofs.Demand2.{demand2_walk, demand2_least}
use Rattle.demands.proofs.Demand3.{demand3}
use Rattle.promises.specs.Desk.{Kept, at_first, IsTable, IsOffice, Call, filing, Fits, files, withdraws, boards, Day, over, then, departs, departures, leaving, joining, withdrawn, withdrawn_in, queue_in, given_by, given, counted_from, Fate, LeavesOn, TableStays, TableFromEmpty, NumbersCountUp, NoneGivenTwice, InOrder, StandByNumber, FreedPlaceServes, OnlyTheseTakeAway, LeavesInTime, FiledBehind, answered, RefusedChangesNothing, BoardingTakes, EveryBoardingAnswered, RefusalKeeps, OwnOfficeDecides, BoardedRunHolds}
use Rattle.promises.proofs.DeskSteps.{step, gives, fate, not_accepted, takes, refused_is, board_accepted}

stays : {k last : Kept} {cs : List Call} → IsTable k → Day k cs last → IsTable last
stays table over = table
stays table (then fits day) = stays (step 1 (inl refl) table fits).1 day

pub table_stays : TableStays
table_stays k last cs table day = stays table day

pub empty_sound : Sound at_first.lasts [] [] at_first.row
empty_sound =
    let none : (office : ℕ) → Waits office 0 [] = λ office. record { few = omega arith; each = λ i l. absurd (omega arith); ascends = λ i l. absurd (omega arith) } in
    record { one = none 1; two = none 2; is = refl }

pub empty_table : IsTable at_first
empty_table = sound_stands at_first.lasts [] [] at_first.row empty_sound

pub table_from_empty : TableFromEmpty
table_from_empty last cs day = stays empty_table day

-- Numbers: each filing gives the next.
count_on : (n m : ℕ) (call rest : List ℕ) → ((call ≡ []) × (m ≡ n)) ⊎ ((call ≡ suc n ∷ []) × (m ≡ suc n)) → rest ≡ counted_from m (length rest)
    → call ++ rest ≡ counted_from n (length (call ++ rest))
count_on n m call rest (inl (none, same)) e = rw none (e ∙ ap (λ x. counted_from x (length rest)) same)
count_on n m call rest (inr (one, next)) e = rw one (ap {B = List ℕ} (λ r. suc n ∷ r) (e ∙ ap (λ x. counted_from x (length rest)) next))

last_on : (n m l : ℕ) (call rest : List ℕ) → ((call ≡ []) × (m ≡ n)) ⊎ ((call ≡ suc n ∷ []) × (m ≡ suc n)) → l ≡ m + length rest → l ≡ n + length (call ++ rest)
last_on n m l call rest (inl (none, same)) e = rw none (omega (arith, same, e))
last_on n m l call rest (inr (one, next)) e = rw one (omega (arith, next, e))

counts_up : (office : ℕ) → IsOffice office → {k last : Kept} {cs : List Call} → Day k cs last
    → (given office cs ≡ counted_from (last_of office k.lasts) (length (given office cs))) × (last_of office last.lasts ≡ last_of office k.lasts + length (given office cs))
counts_up office o over = (refl, omega arith)
counts_up office o {k} {last} (then {next = next} {c = c} {cs = cs} fits day) =
    let g = gives office o fits in
    let ih = counts_up office o day in (
      count_on (last_of office k.lasts) (last_of office next.lasts) (given_by office c) (given office cs) g ih.0,
      last_on (last_of office k.lasts) (last_of office next.lasts) (last_of office last.lasts) (given_by office c) (given office cs) g ih.1,
    )

pub numbers_count_up : NumbersCountUp
numbers_count_up office k last cs o day = counts_up office o day

counted_at_lem : (n m i : ℕ) → i < m → get_or (counted_from n m) i 0 ≡ suc (n + i)
counted_at_lem n zero i l = absurd (omega arith)
counted_at_lem n (suc m) zero l = omega arith
counted_at_lem n (suc m) (suc i) l = counted_at_lem (suc n) m i (omega arith) ∙ omega arith

pub none_given_twice : NoneGivenTwice
none_given_twice office k last cs o day i j l b =
    let e = (counts_up office o day).0 in
    let at : (x : ℕ) → x < length (given office cs) → get_or (given office cs) x 0 ≡ suc (last_of office k.lasts + x) =
    λ x h. ap (λ r. get_or r x 0) e ∙ counted_at_lem (last_of office k.lasts) (length (given office cs)) x h in
    omega (arith, at i (omega arith), at j b)

-- One office's tickets, in order.
queue_of : (office : ℕ) → IsOffice office → {k last : Kept} {cs : List Call} → IsTable k → Day k cs last → waiting office last.row ≡ queue_in office cs (waiting office k.row)
queue_of office o table over = refl
queue_of office o table (then {cs = cs} fits day) = let s = step office o table fits in queue_of office o s.1 day ∙ ap (queue_in office cs) s.0.queue

pub in_order : InOrder
in_order office k last cs o table day = queue_of office o table day

by_number : (ts : List Ticket) → ((i : ℕ) → suc i < length ts → (get_or ts i no_ticket).number < (get_or ts (suc i) no_ticket).number)
    → (i j : ℕ) → i < j → j < length ts → (get_or ts i no_ticket).number < (get_or ts j no_ticket).number
by_number ts ascends i zero l b = absurd (omega arith)
by_number ts ascends i (suc j) l b =
    elim (dec_lt i j) [ yes h ↦ omega (arith, by_number ts ascends i j h (omega arith), ascends j b) | no n ↦ last (omega arith) ]
  where
    last : i ≡ j → (get_or ts i no_ticket).number < (get_or ts (suc j) no_ticket).number
    last e = rw e (ascends j b)

pub stand_by_number : StandByNumber
stand_by_number office i j k (inl e) table l b = rw e (by_number (waiting 1 k.row) table.one.ascends i j l (rw e at b))
stand_by_number office i j k (inr e) table l b = rw e (by_number (waiting 2 k.row) table.two.ascends i j l (rw e at b))

-- A filing of an office with room and numbers left is accepted.
filing_passes : (len : ℕ) (row : List Ticket) (f : Filing) → Stands f.lasts row → 32 ≤ len → in_range f ≡ true → length (waiting f.office row) ≤ 15 → last_of f.office f.lasts < 65535 → file_verdict len row f ≡ accepted
unfolding file_verdict records_verdict
filing_passes len row f table long ranged few left =
    rw (
      none_bad f.lasts (waiting 1 row) (waiting 2 row) row table,
      le-ltb len all_places long,
      ranged,
      lt-leb places (length (waiting f.office row)) (omega arith),
      lt-leb most_number (last_of f.office f.lasts) left,
    )

pub freed_place_serves : FreedPlaceServes
freed_place_serves k cs len f day same long ranged few left =
    let table : Stands f.lasts k.row = subst (λ (x : Lasts). Stands x k.row) (sym same) (table_from_empty k cs day) in
    let passes = filing_passes len k.row f table long ranged few (subst (λ (x : Lasts). last_of f.office x < 65535) (sym same) left) in
    ap (λ x. x.filed.verdict.refusal) (filed_so_lem len k.row f (ap refuses passes)) ∙ ap (λ v. v.refusal) passes

-- What takes a ticket away.
pub only_these_take_away : OnlyTheseTakeAway
only_these_take_away office j k next c o table fits l = fate office j k.row next.row c (step office o table fits).0 l

-- In time: each accepted boarding takes four ahead of a ticket, or all.
abbrev InTime : ℕ → ℕ → ℕ → Kept → Kept → List Call → Type 0
InTime office n j k last cs = (withdrawn_in office n cs ≡ true) ⊎ ((leaves : LeavesOn office n k last cs) × (4 * departures leaves.before ≤ j))

either_way : (b : Bool) → cond b true true ≡ true
either_way true = refl
either_way false = refl

module _ (office n : ℕ) {k next last : Kept} {c : Call} {cs : List Call} (fits : Fits k c next) (day : Day next cs last) (j : ℕ) where
  fewer_left : (d : Bool) → departs c ≡ d → (a x : ℕ) → a ≤ j → (departs c ≡ true → 4 + a ≤ j) → j < 4 * cond d (1 + x) x → a < 4 * x
  fewer_left true e a x l four h = omega (arith, four e)
  fewer_left false e a x l four h = omega arith

  later_by : (d : Bool) → departs c ≡ d → (a x : ℕ) → a ≤ j → (departs c ≡ true → 4 + a ≤ j) → 4 * x ≤ a → 4 * cond d (1 + x) x ≤ j
  later_by true e a x l four h = omega (arith, four e)
  later_by false e a x l four h = omega arith

  later : (a : ℕ) → a ≤ j → (departs c ≡ true → 4 + a ≤ j) → InTime office n a next last cs → InTime office n j k last (c ∷ cs)
  later a l four (inl w) = inl (rw w (either_way (withdrawn office n c)))
  later a l four (inr (leaves, soon)) =
      inr (
        record {
          before = c ∷ leaves.before;
          call = leaves.call;
          behind = leaves.behind;
          here = leaves.here;
          next = leaves.next;
          split = ap {B = List Call} (λ r. c ∷ r) leaves.split;
          first = then fits leaves.first;
          fits = leaves.fits;
          rest = leaves.rest;
          accepted = leaves.accepted;
          place = leaves.place;
          waits = leaves.waits;
          is = leaves.is;
          taken = leaves.taken;
        },
        later_by (departs c) refl a (departures leaves.before) l four soon,
      )

  at_once : departs c ≡ true → j < length (waiting office k.row) → (get_or (waiting office k.row) j no_ticket).number ≡ n → j < leaving office c → InTime office n j k last (c ∷ cs)
  at_once d l is taken =
      inr (
        record {
          before = [];
          call = c;
          behind = cs;
          here = k;
          next = next;
          split = refl;
          first = over;
          fits = fits;
          rest = day;
          accepted = d;
          place = j;
          waits = l;
          is = is;
          taken = taken;
        },
        omega arith,
      )

in_time : (office n : ℕ) → IsOffice office → {k last : Kept} {cs : List Call} → (j : ℕ) → IsTable k → Day k cs last → j < length (waiting office k.row)
    → (get_or (waiting office k.row) j no_ticket).number ≡ n → j < 4 * departures cs → InTime office n j k last cs
in_time office n o j table over l is h = absurd (omega arith)
in_time office n o {k} {last} j table (then {next = next} {c = c} {cs = cs} fits day) l is h =
    let s = step office o table fits in
    by_fate (fate office j k.row next.row c s.0 l) (λ i. in_time office n o i s.1 day)
  where
    by_fate : Fate office j (waiting office k.row) (waiting office next.row) c
        → ((i : ℕ) → i < length (waiting office next.row) → (get_or (waiting office next.row) i no_ticket).number ≡ n → i < 4 * departures cs → InTime office n i next last cs)
        → InTime office n j k last (c ∷ cs)
    by_fate (inl w) ih = inl (rw (subst (λ (x : ℕ). withdrawn office x c ≡ true) is w))
    by_fate (inr (inl (d, taken))) ih = at_once office n fits day j d l is taken
    by_fate (inr (inr on)) ih =
        later office n fits day j on.ahead on.fewer on.four
        (ih on.ahead on.there (ap (λ t. t.number) on.same ∙ is) (fewer_left office n fits day j (departs c) refl on.ahead (departures cs) on.fewer on.four h))

quotient : (d j : ℕ) → 4 * d ≤ j → d ≤ j / 4
quotient d j l = elim (dec_lt (j / 4) d) [ yes h ↦ absurd (omega (arith, (div-lt_iff_lt-mul {k = 4} {x = j} {y = d} (omega arith)).0 h)) | no n ↦ omega arith ]

pub leaves_in_time : LeavesInTime
leaves_in_time office n j k last cs o table day l is h =
    ⊎_elim (λ w. inl w) (λ x. inr (x.0, quotient (departures x.0.before) j x.1))
    (in_time office n o j table day l is (omega (arith, (div-lt_iff_lt-mul {k = 4} {x = j} {y = departures cs} (omega arith)).0 (omega arith))))

-- Whether a filing's verdict refuses is told by its answer.
pub told : (len : ℕ) (row : List Ticket) (f : Filing) (r : FiledRow) → r ≡ file_row len row f → refuses (file_verdict len row f) ≡ is_refusal r.filed.verdict.refusal
told len row f r e =
    ⊎_elim (λ t. ap (λ x. is_refusal x.filed.verdict.refusal) (sym (e ∙ not_filed_so len row f t))) (λ p. ap (λ x. is_refusal x.filed.verdict.refusal) (sym (e ∙ filed_so_lem len row f p)))
    (true_or_false (refuses (file_verdict len row f)))

told_withdrawn : (len : ℕ) (row : List Ticket) (w : Withdrawal) (r : WithdrawnRow) → r ≡ withdraw_row len row w → refuses (withdraw_verdict len row w) ≡ is_refusal r.withdrawn.verdict.refusal
told_withdrawn len row w r e =
    ⊎_elim (λ t. ap (λ x. is_refusal x.withdrawn.verdict.refusal) (sym (e ∙ not_withdrawn_so len row w t))) (λ p. ap (λ x. is_refusal x.withdrawn.verdict.refusal) (sym (e ∙ withdrawn_so_lem len row w p)))
    (true_or_false (refuses (withdraw_verdict len row w)))

pub accepted_filing : {len : ℕ} {k next : Kept} {f : Filing} {r : FiledRow} → r.filed.verdict.refusal ≡ Accepted → Fits k (filing len f r) next → IsOffice f.office × (r.filed.number ≡ number_for f)
accepted_filing accepts (files {len} {k} {f} {r} l e) =
    let passes = told len k.row f r e ∙ ap is_refusal accepts in
    (office_is f.office (range_office f (file_accepted len k.row f passes).ranged), ap (λ x. x.filed.number) (e ∙ filed_so_lem len k.row f passes))

pub filed_behind : FiledBehind
filed_behind len k next f r table fits accepts =
    let a = accepted_filing accepts fits in
    let s = step f.office a.0 table fits in
    let joins : joining f.office (filing len f r) ≡ ticket_of f ∷ [] = rw (ap is_refusal accepts, eq-eqb f.office f.office refl) in
    (s.0.queue ∙ ap (λ ts. waiting f.office k.row ++ ts) joins, a.1)

pub refused_changes : {k next : Kept} {c : Call} → Fits k c next → is_refusal (answered c) ≡ true → (next.row ≡ k.row) × (next.lasts ≡ k.lasts)
refused_changes (files {len} {k} {f} {r} l e) t =
    let is = e ∙ not_filed_so len k.row f (told len k.row f r e ∙ t) in
    (ap (λ x. x.row) is, ap (λ x. x.filed.lasts) is ∙ l)
refused_changes (withdraws {len} {k} {w} {r} l e) t =
    let is = e ∙ not_withdrawn_so len k.row w (told_withdrawn len k.row w r e ∙ t) in
    (ap (λ x. x.row) is, ap (λ x. x.withdrawn.lasts) is ∙ l)
refused_changes (boards {len} {tape} {k} {b} {before} {after} {r} l e) t =
    let is = refused_is len tape k.row b before after r e t in
    (ap (λ x. x.row) is, ap (λ x. x.boarded.lasts) is ∙ l)

pub refused_changes_nothing : RefusedChangesNothing
refused_changes_nothing k next c fits some = refused_changes fits (not_accepted (answered c) some)

pub boarding_takes : BoardingTakes
boarding_takes len tape row b before after r table fits accepts = takes len tape row b before after r fits table (ap is_refusal accepts)

verdicts : (len : ℕ) (row row' : List Ticket) (f : Filing) → Stands f.lasts row → Stands f.lasts row' → waiting f.office row ≡ waiting f.office row' → file_verdict len row f ≡ file_verdict len row' f
unfolding file_verdict records_verdict
verdicts len row row' f table table' same =
    rw (none_bad f.lasts (waiting 1 row) (waiting 2 row) row table, none_bad f.lasts (waiting 1 row') (waiting 2 row') row' table', same)

pub own_office_decides : OwnOfficeDecides
own_office_decides len row row' f table table' same =
    let alike : file_verdict len row f ≡ file_verdict len row' f = verdicts len row row' f table table' same in
    ⊎_elim
    (λ e. ap (λ x. x.filed) (not_filed_so len row f e) ∙ ap (λ v. (not_filed row f v).filed) alike ∙ sym (ap (λ x. x.filed) (not_filed_so len row' f (ap refuses (sym alike) ∙ e))))
    (λ e. ap (λ x. x.filed) (filed_so_lem len row f e) ∙ ap (λ v. (filed_in row f v).filed) alike ∙ sym (ap (λ x. x.filed) (filed_so_lem len row' f (ap refuses (sym alike) ∙ e))))
    (true_or_false (refuses (file_verdict len row f)))

pub boarded_run_holds : BoardedRunHolds
boarded_run_holds len tape row b before after r fits accepts =
    let run = (fits.planned (board_accepted len tape row b before after r fits (ap is_refusal accepts))).plans in
    record {
      walk = demand2_walk _ before r.boarded.answer after run accepts;
      least = demand2_least _ before r.boarded.answer after run accepts;
      unbeaten = λ first judged asks. demand3 first _ before r.boarded.answer after judged run accepts asks;
    }

pub refusal_keeps : RefusalKeeps
unfolding priced_answer
refusal_keeps len tape row b before after r fits some =
    let e = not_accepted r.boarded.answer.refusal some in
    let is = refused_is len tape row b before after r fits e in
    (ap (λ x. x.row) is, rows e, ap (λ x. x.boarded.taken.one) is, ap (λ x. x.boarded.taken.two) is)
  where
    rows : is_refusal r.boarded.answer.refusal ≡ true → after ≡ before
    rows e =
        ⊎_elim (λ t. (fits.refused t).kept)
        (λ n. let plans = (fits.planned n).plans in
        ⊎_elim (λ t. (plans.refused t).kept) (λ p. absurd (true≢false (sym e ∙ ap (λ a. is_refusal a.refusal) (plans.planned p).says)))
        (true_or_false _))
        (true_or_false (refuses (records_verdict len row b.lasts)))

-- The answer to a boarding: the row's refusal, or by the plan that there is of every run.
answer_told : (row : List Ticket) (l : Lasts) (a : Answer) → (boarded_by row l a).boarded.answer ≡ a
answer_told row l a = by_test (is_refusal a.refusal)
  where
    by_test : (c : Bool) → (cond {A = BoardedRow} c (not_boarded row l a) (record { boarded = record { answer = a; taken = taken_of row; wants = want_rows (wants_of row); lasts = l }; row = row_staying row })).boarded.answer ≡ a
    by_test true = refl
    by_test false = refl

pub every_boarding_answered : EveryBoardingAnswered
every_boarding_answered len tape row b before =
    ⊎_elim
    (λ (e : refuses (records_verdict len row b.lasts) ≡ true). (
      not_boarded row b.lasts (refusal_answer (records_verdict len row b.lasts)),
      (before, record { refused = λ h. record { says = refl; kept = refl }; planned = λ h. absurd (true≢false (sym e ∙ h)) }),
    ))
    (λ (e : refuses (records_verdict len row b.lasts) ≡ false).
    let run = board_run tape row b in
    let a = plan_answer run before in
    let told = answer_told row b.lasts a in (
      boarded_by row b.lasts a,
      (
        plan_rows run before,
        record {
          refused = λ h. absurd (true≢false (sym h ∙ e));
          planned = λ h. record {
            plans = subst (λ x. Plans run before x (plan_rows run before)) (sym told) (plans_for_every_input run before);
            says = ap (boarded_by row b.lasts) (sym told);
          };
        },
      ),
    ))
    (true_or_false (refuses (records_verdict len row b.lasts)))
