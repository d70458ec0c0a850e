-- The refusals of a filing, a withdrawal and a boarding, each exactly when its reason holds and in their order.
use Prim.Native.Nat.{ℕ, zero, suc, ◌-◌, ◌≤◌, ◌<◌}
use mathlib.Core.Path.{◌≡◌, refl, sym, ap, ◌∙◌}
use mathlib.Core.Bool.{false, not, ◌&&◌, ◌||◌, true≢false}
use mathlib.Core.List.{List, [], ◌∷◌, ◌++◌}
use mathlib.Core.Logic.{⊎_elim, ◌⊎◌, inl, inr}
use native.Mathlib.Omega.{arith}
use native.Mathlib.Decide.{dec_lt}
use lib.Dec.{ltb, leb, eqb}
use lib.ListN.{length, get_or, take, replicate, length-append, length-replicate, get_or-append, get_or-eq_default}
use lib.Seq.{get_or-take, length-take-le, take_at}
use Rattle.refusals.specs.declared.Refusal.TheVariants.{ShortRow, BadTicket, OfficeFull, NotWaiting, NumbersSpent, BadRecord}
use Rattle.refusals.specs.Refusals.{is_refusal, refuse_if, refuse_at, first_where}
use Rattle.refusals.proofs.Verdicts.{refuses}
use Rattle.runs.proofs.Search.{true_or_false, first_zero, first_all}
use Rattle.runs.specs.Run.{most_files}
use Rattle.desk_tickets.specs.declared.Ticket.{Ticket}
use Rattle.desk_tickets.specs.declared.Lasts.{Lasts}
use Rattle.desk_tickets.specs.declared.Filing.{Filing}
use Rattle.desk_tickets.specs.declared.Withdrawal.{Withdrawal}
use Rattle.desk_tickets.specs.WaitingTable.{offices, places, all_places, most_count, no_ticket, is_empty_place, up_to, is_ticket, follows, last_of, office_at, is_first_place, is_out_of_turn, bad_record, waiting, records_verdict}
use Rattle.desk_tickets.specs.Filings.{in_range, is_full, most_number, is_spent, file_verdict, file_row}
use Rattle.desk_tickets.specs.Withdrawals.{has_number, is_waiting, withdraw_verdict, withdraw_row}
use Rattle.desk_tickets.proofs.Sound.{empty_is, row_sound}
use Rattle.desk_tickets.proofs.Placed.{padded_at, none_bad}
use Rattle.desk_tickets.proofs.Kept.{filed_so_lem, not_filed_so, withdrawn_so_lem, not_withdrawn_so}
use Rattle.desk_boardings.specs.Boardings.{board_run}
use Rattle.demands.specs.RefusalTable.{FirstBad}
use Rattle.demands.proofs.Tests.{Tells, tells_equal, tells_below, tells_at_most, tells_not, tells_either, tells_both, tells_reworded}
use Rattle.demands.proofs.Checks.{Decides, decides_if, decides_at, decides_reworded, Finds, finds_none, finds_first, first_of_joined, refused_iff}
use Rattle.demands.proofs.Demand1.{demand1_plan}
use Rattle.promises.specs.DeskRefusals.{Within, IsTicketOf, Follows, RecordIsBad, RowApplies, short_row, row_order, RowJudged, InRange, FilingApplies, records, out_of_range, office_full, numbers_spent, filing_order, FilingAnswers, IsAmong, IsWaiting, WithdrawalApplies, of_the_row, not_waiting, withdrawal_order, WithdrawalAnswers, BoardingAnswers, IsTableOf, BadRecordIsFirstSuch}
use Rattle.promises.proofs.DeskSteps.{not_accepted}

tells_within : (most n : ℕ) → Tells (up_to most n) (Within most n)
tells_within most n =
    tells_reworded (λ h. record { some = h.0; few = h.1 }) (λ w. (w.some, w.few))
    (tells_both (not (eqb n 0)) (leb n most) (tells_not (eqb n 0) (tells_equal n 0)) (tells_at_most n most))

pub tells_empty : (t : Ticket) → Tells (is_empty_place t) (t ≡ no_ticket)
tells_empty t = record { when_true = empty_is t; when_false = λ e h. true≢false (sym (ap is_empty_place h) ∙ e) }

tells_ticket : (office last : ℕ) (t : Ticket) → Tells (is_ticket office last t) (IsTicketOf office last t)
tells_ticket office last t =
    tells_reworded (λ h. record { at_office = h.0.0.0; file = h.0.0.1; count = h.0.1; number = h.1 }) (λ w. (((w.at_office, w.file), w.count), w.number))
    (tells_both (eqb t.office office && up_to most_files t.file && up_to most_count t.count) (up_to last t.number)
    (tells_both (eqb t.office office && up_to most_files t.file) (up_to most_count t.count)
    (tells_both (eqb t.office office) (up_to most_files t.file) (tells_equal t.office office) (tells_within most_files t.file))
    (tells_within most_count t.count))
    (tells_within last t.number))

tells_follows : (a t : Ticket) → Tells (follows a t) (Follows a t)
tells_follows a t = tells_both (not (is_empty_place a)) (ltb a.number t.number) (tells_not (is_empty_place a) (tells_empty a)) (tells_below a.number t.number)

pub tells_bad : (l : Lasts) (row : List Ticket) (i : ℕ) → Tells (bad_record l row i) (RecordIsBad l row i)
tells_bad l row i =
    let t = get_or row i no_ticket in
    let u = get_or row (i - 1) no_ticket in
    let here = is_ticket (office_at i) (last_of (office_at i) l) t in
    tells_both (not (is_empty_place t)) (not here || is_out_of_turn row i)
    (tells_not (is_empty_place t) (tells_empty t))
    (tells_either (not here) (is_out_of_turn row i)
    (tells_not here (tells_ticket (office_at i) (last_of (office_at i) l) t))
    (tells_both (not (is_first_place i)) (not (follows u t))
    (tells_not (is_first_place i) (tells_either (eqb i 0) (eqb i places) (tells_equal i 0) (tells_equal i places)))
    (tells_not (follows u t) (tells_follows u t))))

tells_ranged : (f : Filing) → Tells (in_range f) (InRange f)
tells_ranged f =
    tells_reworded (λ h. record { office = h.0.0.0; tape = h.0.0.1; file = h.0.1; count = h.1 }) (λ w. (((w.office, w.tape), w.file), w.count))
    (tells_both (up_to offices f.office && up_to f.files f.file && up_to most_files f.file) (up_to most_count f.count)
    (tells_both (up_to offices f.office && up_to f.files f.file) (up_to most_files f.file)
    (tells_both (up_to offices f.office) (up_to f.files f.file) (tells_within offices f.office) (tells_within f.files f.file))
    (tells_within most_files f.file))
    (tells_within most_count f.count))

-- The row of records.
module _ (len : ℕ) (row : List Ticket) (l : Lasts) where
  short_there : (p : ℕ) → (p ≡ 0) × (len < 32) → RowApplies len row l ShortRow p
  short_there p h = rw h.0 (short_row h.1)

  short_back : (p : ℕ) → RowApplies len row l ShortRow p → (p ≡ 0) × (len < 32)
  short_back p (short_row s) = (refl, s)

  bad_back : (p : ℕ) → RowApplies len row l BadRecord p → FirstBad (RecordIsBad l row) 32 p
  bad_back p (RowApplies.bad_record b) = b

  decides_short : Decides ShortRow (RowApplies len row l ShortRow) (refuse_if (ltb len all_places) ShortRow)
  decides_short = decides_reworded short_there short_back (decides_if (ltb len all_places) ShortRow (tells_below len all_places))

  decides_bad : Decides BadRecord (RowApplies len row l BadRecord) (refuse_at (first_where (bad_record l row) all_places) BadRecord)
  decides_bad = decides_reworded (λ p h. RowApplies.bad_record h) bad_back (decides_at (bad_record l row) (RecordIsBad l row) all_places (tells_bad l row) BadRecord)

  pub row_finds : Finds (RowApplies len row l) row_order (records_verdict len row l)
  unfolding records_verdict
  row_finds =
      finds_first (RowApplies len row l) (refuse_at (first_where (bad_record l row) all_places) BadRecord ∷ []) refl decides_short
      (λ a. finds_first (RowApplies len row l) [] refl decides_bad (λ b. finds_none (RowApplies len row l)))

pub row_judged : RowJudged
row_judged = row_finds

module _ (len : ℕ) (row : List Ticket) (f : Filing) where
  short_filed : (p : ℕ) → FilingApplies len row f ShortRow p → RowApplies len row f.lasts ShortRow p
  short_filed p (records h) = h

  bad_filed : (p : ℕ) → FilingApplies len row f BadRecord p → RowApplies len row f.lasts BadRecord p
  bad_filed p (records h) = h

  range_there : (p : ℕ) → (p ≡ 0) × (InRange f → ⊥) → FilingApplies len row f BadTicket p
  range_there p h = rw h.0 (out_of_range h.1)

  range_back : (p : ℕ) → FilingApplies len row f BadTicket p → (p ≡ 0) × (InRange f → ⊥)
  range_back p (out_of_range n) = (refl, n)
  range_back p (records x3) = elim x3 [ ]

  full_there : (p : ℕ) → (p ≡ 0) × (16 ≤ length (waiting f.office row)) → FilingApplies len row f OfficeFull p
  full_there p h = rw h.0 (office_full h.1)

  full_back : (p : ℕ) → FilingApplies len row f OfficeFull p → (p ≡ 0) × (16 ≤ length (waiting f.office row))
  full_back p (office_full l) = (refl, l)
  full_back p (records x3) = elim x3 [ ]

  spent_there : (p : ℕ) → (p ≡ 0) × (65535 ≤ last_of f.office f.lasts) → FilingApplies len row f NumbersSpent p
  spent_there p h = rw h.0 (numbers_spent h.1)

  spent_back : (p : ℕ) → FilingApplies len row f NumbersSpent p → (p ≡ 0) × (65535 ≤ last_of f.office f.lasts)
  spent_back p (numbers_spent l) = (refl, l)
  spent_back p (records x3) = elim x3 [ ]

  filing_finds : Finds (FilingApplies len row f) filing_order (file_verdict len row f)
  unfolding file_verdict records_verdict
  filing_finds =
      let short = refuse_if (ltb len all_places) ShortRow in
      let bad = refuse_at (first_where (bad_record f.lasts row) all_places) BadRecord in
      let range = refuse_if (not (in_range f)) BadTicket in
      let full = refuse_if (is_full f.office row) OfficeFull in
      let spent = refuse_if (is_spent f.office f.lasts) NumbersSpent in
      rw (first_of_joined (short ∷ bad ∷ []) (range ∷ full ∷ spent ∷ []))
      (finds_first (FilingApplies len row f) (bad ∷ range ∷ full ∷ spent ∷ []) refl (decides_reworded (λ p h. records h) short_filed (decides_short len row f.lasts))
      (λ a. finds_first (FilingApplies len row f) (range ∷ full ∷ spent ∷ []) refl (decides_reworded (λ p h. records h) bad_filed (decides_bad len row f.lasts))
      (λ b. finds_first (FilingApplies len row f) (full ∷ spent ∷ []) refl (decides_reworded range_there range_back (decides_if (not (in_range f)) BadTicket (tells_not (in_range f) (tells_ranged f))))
      (λ c. finds_first (FilingApplies len row f) (spent ∷ []) refl (decides_reworded full_there full_back (decides_if (is_full f.office row) OfficeFull (tells_at_most places (length (waiting f.office row)))))
      (λ d. finds_first (FilingApplies len row f) [] refl (decides_reworded spent_there spent_back (decides_if (is_spent f.office f.lasts) NumbersSpent (tells_at_most most_number (last_of f.office f.lasts))))
      (λ e. finds_none (FilingApplies len row f)))))))

  filed_verdict : (file_row len row f).filed.verdict ≡ file_verdict len row f
  filed_verdict =
      ⊎_elim (λ e. ap (λ x. x.filed.verdict) (not_filed_so len row f e)) (λ e. ap (λ x. x.filed.verdict) (filed_so_lem len row f e)) (true_or_false (refuses (file_verdict len row f)))

pub filing_answers : FilingAnswers
filing_answers len row f r is = rw (ap (λ x. x.filed.verdict) is ∙ filed_verdict len row f) (filing_finds len row f)

-- A ticket with a number is among some, or not.
tells_among : (n : ℕ) (ts : List Ticket) → Tells (has_number n ts) (IsAmong n ts)
unfolding has_number
tells_among n [] = record { when_true = λ e. absurd (true≢false (sym e)); when_false = λ e h. omega (arith, h.there) }
tells_among n (t ∷ ts) =
    tells_reworded
    (λ h. ⊎_elim (λ e. record { place = 0; there = omega arith; is = e }) (λ a. record { place = suc a.place; there = omega (arith, a.there); is = a.is }) h)
    (λ a. back a.place a.there a.is)
    (tells_either (eqb t.number n) (has_number n ts) (tells_equal t.number n) (tells_among n ts))
  where
    back : (p : ℕ) → p < suc (length ts) → (get_or (t ∷ ts) p no_ticket).number ≡ n → (t.number ≡ n) ⊎ IsAmong n ts
    back zero l e = inl e
    back (suc p) l e = inr (record { place = p; there = omega arith; is = e })

module _ (len : ℕ) (row : List Ticket) (w : Withdrawal) where
  short_withdrawn : (p : ℕ) → WithdrawalApplies len row w ShortRow p → RowApplies len row w.lasts ShortRow p
  short_withdrawn p (of_the_row h) = h

  bad_withdrawn : (p : ℕ) → WithdrawalApplies len row w BadRecord p → RowApplies len row w.lasts BadRecord p
  bad_withdrawn p (of_the_row h) = h

  waiting_there : (p : ℕ) → (p ≡ 0) × (IsWaiting w.office w.number row → ⊥) → WithdrawalApplies len row w NotWaiting p
  waiting_there p h = rw h.0 (not_waiting h.1)

  waiting_back : (p : ℕ) → WithdrawalApplies len row w NotWaiting p → (p ≡ 0) × (IsWaiting w.office w.number row → ⊥)
  waiting_back p (not_waiting n) = (refl, n)
  waiting_back p (of_the_row x3) = elim x3 [ ]

  pub tells_waiting : Tells (is_waiting w.office w.number row) (IsWaiting w.office w.number row)
  tells_waiting =
      tells_both (up_to offices w.office) (has_number w.number (waiting w.office row)) (tells_within offices w.office) (tells_among w.number (waiting w.office row))

  withdrawal_finds : Finds (WithdrawalApplies len row w) withdrawal_order (withdraw_verdict len row w)
  unfolding withdraw_verdict records_verdict
  withdrawal_finds =
      let short = refuse_if (ltb len all_places) ShortRow in
      let bad = refuse_at (first_where (bad_record w.lasts row) all_places) BadRecord in
      let gone = refuse_if (not (is_waiting w.office w.number row)) NotWaiting in
      rw (first_of_joined (short ∷ bad ∷ []) (gone ∷ []))
      (finds_first (WithdrawalApplies len row w) (bad ∷ gone ∷ []) refl (decides_reworded (λ p h. of_the_row h) short_withdrawn (decides_short len row w.lasts))
      (λ a. finds_first (WithdrawalApplies len row w) (gone ∷ []) refl (decides_reworded (λ p h. of_the_row h) bad_withdrawn (decides_bad len row w.lasts))
      (λ b. finds_first (WithdrawalApplies len row w) [] refl (decides_reworded waiting_there waiting_back (decides_if (not (is_waiting w.office w.number row)) NotWaiting (tells_not (is_waiting w.office w.number row) tells_waiting)))
      (λ c. finds_none (WithdrawalApplies len row w)))))

  pub withdrawn_verdict : (withdraw_row len row w).withdrawn.verdict ≡ withdraw_verdict len row w
  withdrawn_verdict =
      ⊎_elim (λ e. ap (λ x. x.withdrawn.verdict) (not_withdrawn_so len row w e)) (λ e. ap (λ x. x.withdrawn.verdict) (withdrawn_so_lem len row w e))
      (true_or_false (refuses (withdraw_verdict len row w)))

pub withdrawal_answers : WithdrawalAnswers
withdrawal_answers len row w r is = rw (ap (λ x. x.withdrawn.verdict) is ∙ withdrawn_verdict len row w) (withdrawal_finds len row w)

-- A boarding: the row's verdict, or the planner's answer.
pub boarding_answers : BoardingAnswers
boarding_answers len tape row b before after r fits =
    let iff = refused_iff (RowApplies len row b.lasts) (row_finds len row b.lasts) (refl, (refl, tt)) in
    record {
      records = λ some.
          let says = (fits.refused (not_accepted (records_verdict len row b.lasts).refusal (iff.1 some))).says in
          rw (ap (λ x. x.boarded.answer.refusal) says, ap (λ x. x.boarded.answer.place) says) (row_finds len row b.lasts);
      run = λ none.
          let passes = ⊎_elim (λ t. absurd (none (iff.0 (λ a. true≢false (sym t ∙ ap is_refusal a))))) (λ n. n) (true_or_false (refuses (records_verdict len row b.lasts))) in
          (demand1_plan (board_run tape row b) before r.boarded.answer after (fits.planned passes).plans).first;
    }

-- The first such: what is bad hangs on a record and the one before it.
bad_same : (l : Lasts) (row other : List Ticket) (i : ℕ) → get_or row i no_ticket ≡ get_or other i no_ticket → get_or row (i - 1) no_ticket ≡ get_or other (i - 1) no_ticket → bad_record l row i ≡ bad_record l other i
bad_same l row other i e f = rw (e, f)

same_front : (p i : ℕ) (row other : List Ticket) → take p other ≡ take p row → i < p → get_or other i no_ticket ≡ get_or row i no_ticket
same_front p i row other e l = sym (get_or-take p other i no_ticket l) ∙ ap (λ r. get_or r i no_ticket) e ∙ get_or-take p row i no_ticket l

front_then_none : (row : List Ticket) (q : ℕ) → q ≤ length row → (i : ℕ) → i < q → get_or (take q row ++ replicate (32 - q) no_ticket) i no_ticket ≡ get_or row i no_ticket
front_then_none row q h i l = get_or-append (take q row) (replicate (32 - q) no_ticket) no_ticket i (rw (length-take-le q row h) l) ∙ get_or-take q row i no_ticket l

pub bad_record_is_first_such : BadRecordIsFirstSuch
bad_record_is_first_such l row p all bad =
    record {
      none = λ table is same. absent table is (rw bad.at at same);
      some = λ q below. (fill q, made q (omega (arith, bad.at, bad.within)), take_at (take q row) (replicate (32 - q) no_ticket) q (length-take-le q row (omega (arith, bad.at, bad.within))));
    }
  where
    absent : (table : List Ticket) → IsTableOf l table → take (suc bad.index) table ≡ take (suc bad.index) row → ⊥
    absent table is same =
        let i = bad.index in
        let fine : bad_record l table i ≡ false = first_zero (bad_record l table) all_places (none_bad l (waiting 1 table) (waiting 2 table) table is) i bad.within in
        let here = same_front (suc i) i row table same (omega arith) in
        let there = same_front (suc i) (i - 1) row table same (omega arith) in
        (tells_bad l row i).when_false (sym (bad_same l table row i here there) ∙ fine) bad.here

    fill : ℕ → List Ticket
    fill q = take q row ++ replicate (32 - q) no_ticket

    made : (q : ℕ) → (q ≤ bad.index) × (q ≤ 32) → IsTableOf l (take q row ++ replicate (32 - q) no_ticket)
    made q h =
        row_sound l (take q row ++ replicate (32 - q) no_ticket)
        (length-append (take q row) (replicate (32 - q) no_ticket) ∙ omega (arith, length-take-le q row (rw all h.1), length-replicate (32 - q) no_ticket, h.1))
        (first_all (bad_record l (take q row ++ replicate (32 - q) no_ticket)) all_places
        (λ i _. elim (dec_lt i q) [ yes b ↦ before i b | no n ↦ behind i (omega arith) ]))
      where
        before : (i : ℕ) → i < q → bad_record l (take q row ++ replicate (32 - q) no_ticket) i ≡ false
        before i b =
            bad_same l (take q row ++ replicate (32 - q) no_ticket) row i (front_then_none row q (rw all h.1) i b) (front_then_none row q (rw all h.1) (i - 1) (omega arith))
            ∙ ⊎_elim (λ t. absurd (bad.before i (omega (arith, h.0)) ((tells_bad l row i).when_true t))) (λ f. f) (true_or_false (bad_record l row i))

        behind : (i : ℕ) → q ≤ i → bad_record l (take q row ++ replicate (32 - q) no_ticket) i ≡ false
        behind i b =
            let none : get_or (take q row ++ replicate (32 - q) no_ticket) i no_ticket ≡ no_ticket =
            padded_at (take q row) (32 - q) i ∙ get_or-eq_default (take q row) no_ticket (rw (length-take-le q row (rw all h.1)) b) in
            rw none
