-- A day at the desk: a refused event changes nothing, the program's row takes every answer, the lines are calls on one table, and a boarding is refused by 2, 6 or 7
-- alone.
use Prim.Native.Nat.{ℕ, zero, suc, ◌+◌, ◌-◌, ◌*◌, ◌≤◌, ◌<◌}
use mathlib.Core.Path.{◌≡◌, refl, sym, ap, subst, ◌∙◌}
use mathlib.Core.Bool.{Bool, true, false, true≢false}
use mathlib.Core.List.{List, [], ◌∷◌}
use mathlib.Core.Logic.{⊎_elim, ◌⊎◌, inl, inr}
use native.Mathlib.Omega.{arith}
use native.Mathlib.Decide.{dec_lt}
use lib.ListN.{length, drop}
use borrow.Author.Tests.{le-ltb}
use Rattle.std.specs.Prelude.{Option, Some, None}
use Rattle.refusals.specs.declared.Refusal.{Refusal}
use Rattle.refusals.specs.declared.Refusal.TheVariants.{Accepted, FileRows, BadFile, WantRows, BadWant, TooManyReads, TurnPrice, HeadPlace, ShortRow, ShortRoom, BadEntry, BadLine, LongSheet, BadName, BadRule, BadTicket, OfficeFull, NotWaiting, NumbersSpent, RetiredRule, BadText, ManyExtents, Overlap, FarFile, OverEightWants, BadSheetCount, BadRecord}
use Rattle.refusals.specs.declared.Verdict.{Verdict}
use Rattle.refusals.specs.Refusals.{number_of, is_refusal}
use Rattle.refusals.proofs.Verdicts.{refuses}
use Rattle.runs.specs.Run.{Run, total}
use Rattle.runs.proofs.Search.{true_or_false}
use Rattle.planner.specs.Rows.{Rows}
use Rattle.text_lines.specs.Lines.{line_of}
use Rattle.desk_tickets.specs.declared.Ticket.{Ticket}
use Rattle.desk_tickets.specs.declared.Lasts.{Lasts}
use Rattle.desk_tickets.specs.declared.Filing.{Filing}
use Rattle.desk_tickets.specs.declared.FiledRow.{FiledRow}
use Rattle.desk_tickets.specs.declared.Withdrawal.{Withdrawal}
use Rattle.desk_tickets.specs.declared.WithdrawnRow.{WithdrawnRow}
use Rattle.desk_tickets.specs.WaitingTable.{all_places, waiting, records_verdict}
use Rattle.desk_tickets.specs.Filings.{file_row}
use Rattle.desk_tickets.specs.Withdrawals.{withdraw_row}
use Rattle.desk_tickets.proofs.Placed.{none_bad}
use Rattle.desk_boardings.specs.declared.Boarding.{Boarding}
use Rattle.desk_boardings.specs.declared.BoardedRow.{BoardedRow}
use Rattle.desk_boardings.specs.Boardings.{Tape, board_run, Boards}
use Rattle.answer_desk.specs.declared.Day as desk
use Rattle.answer_desk.specs.declared.Event.{Event}
use Rattle.answer_desk.specs.declared.Answered.{Answered}
use Rattle.answer_desk.specs.Events.{event_of}
use Rattle.answer_desk.specs.Days.{Outcome, AnswersEvent, rows_lent, filing_outcome, withdrawal_outcome, boarding_outcome, BoardingAnswered, EventAnswered}
use Rattle.answer_desk.proofs.Rooms.{wants_few, product_few}
use Rattle.desk_rows.specs.declared.Told.{Told}
use Rattle.desk_rows.specs.Desk.{table_in}
use Rattle.desk_rows.specs.Events.{day_of}
use Rattle.desk_rows.proofs.Kept.{row_keeps_its_length, later_records_kept, table_comes_back}
use Rattle.demands.specs.RefusalTable.{RunApplies, StopsFrom, FirstThatApplies}
use Rattle.demands.specs.Demand1.{PlanApplies, plan_order}
use Rattle.demands.proofs.Demand1.{demand1_plan}
use Rattle.demands.proofs.Judged.{table_judged, judged_table}
use Rattle.promises.specs.Desk.{Kept, at_first, IsTable, Call, filing, withdrawal, boarding, Fits, Day, answered}
use Rattle.promises.specs.DeskRefusals.{RowApplies, FilingApplies, WithdrawalApplies}
use Rattle.promises.specs.DeskWants.{OnlyTheRun, TapeAccepted, no_wants_on, ForTape}
use Rattle.promises.specs.DeskDays.{RefusedEventChangesNothing, RowTakesEveryAnswer, Exchange, Turned, Held, IsCall, AreCalls, kept_at, IsADay, DayAtTheDesk, HeldOn, DeskOnALentRow, AtTheDesk, BoardsAtTheDesk}
use Rattle.promises.proofs.Desk.{refused_changes, table_from_empty}
use Rattle.promises.proofs.DeskRefusals.{filing_answers, withdrawal_answers, row_finds}
use Rattle.promises.proofs.DeskTape.{refused_for_the_run_from_empty}

-- A kind that refuses nothing is acceptance.
pub accepts : (kind : Refusal) → is_refusal kind ≡ false → kind ≡ Accepted
accepts Accepted e = refl
accepts FileRows e = absurd (true≢false e)
accepts BadFile e = absurd (true≢false e)
accepts WantRows e = absurd (true≢false e)
accepts BadWant e = absurd (true≢false e)
accepts TooManyReads e = absurd (true≢false e)
accepts TurnPrice e = absurd (true≢false e)
accepts HeadPlace e = absurd (true≢false e)
accepts ShortRow e = absurd (true≢false e)
accepts ShortRoom e = absurd (true≢false e)
accepts BadEntry e = absurd (true≢false e)
accepts BadLine e = absurd (true≢false e)
accepts LongSheet e = absurd (true≢false e)
accepts BadName e = absurd (true≢false e)
accepts BadRule e = absurd (true≢false e)
accepts BadTicket e = absurd (true≢false e)
accepts OfficeFull e = absurd (true≢false e)
accepts NotWaiting e = absurd (true≢false e)
accepts NumbersSpent e = absurd (true≢false e)
accepts RetiredRule e = absurd (true≢false e)
accepts BadText e = absurd (true≢false e)
accepts ManyExtents e = absurd (true≢false e)
accepts Overlap e = absurd (true≢false e)
accepts FarFile e = absurd (true≢false e)
accepts OverEightWants e = absurd (true≢false e)
accepts BadSheetCount e = absurd (true≢false e)
accepts BadRecord e = absurd (true≢false e)

-- An answer, whatever the event.
module _ (day : desk.Day) (o : Outcome) (room out : List ℕ) (r : Answered) (room' out' : List ℕ) (a : AnswersEvent day o room out r room' out') where
  answer_keeps : (r.verdict.refusal ≡ Accepted → ⊥) → (r.day ≡ day) × (room' ≡ room) × (out' ≡ out) × (r.bytes ≡ 0)
  answer_keeps some =
      ⊎_elim
      (λ (y : is_refusal o.verdict.refusal ≡ true). let h = a.refused y in (ap (λ x. x.day) h.says, h.same_room, h.same_row, ap (λ x. x.bytes) h.says))
      (λ (n : is_refusal o.verdict.refusal ≡ false).
      elim (dec_lt (length out) (length o.text)) [
        | yes l ↦ let h = a.short n l in (ap (λ x. x.day) h.says, h.same_room, h.same_row, ap (λ x. x.bytes) h.says)
        | no l ↦ absurd (some (ap (λ x. x.verdict.refusal) (a.told n (omega arith)).says))
      ])
      (true_or_false (is_refusal o.verdict.refusal))

  -- On a row that takes every text: the event's own verdict.
  module _ (takes : 2677 ≤ length out) where
    own_verdict : r.verdict.refusal ≡ o.verdict.refusal
    own_verdict =
        ⊎_elim
        (λ (y : is_refusal o.verdict.refusal ≡ true). ap (λ x. x.verdict.refusal) (a.refused y).says)
        (λ (n : is_refusal o.verdict.refusal ≡ false). ap (λ x. x.verdict.refusal) (a.told n (omega (arith, a.most n))).says ∙ sym (accepts o.verdict.refusal n))
        (true_or_false (is_refusal o.verdict.refusal))

    -- And the call that the event is fits: a refused one changes nothing.
    settled : (c : Call) → o.verdict.refusal ≡ answered c → Fits (kept_at day) c (kept_at o.next) → Fits (kept_at day) c (kept_at r.day)
    settled c is fits =
        ⊎_elim
        (λ (y : is_refusal o.verdict.refusal ≡ true).
        let same = refused_changes fits (ap is_refusal (sym is) ∙ y) in
        let back : kept_at o.next ≡ kept_at r.day = kept_so_here o.next r.day (same.0 ∙ ap (λ x. x.day.row) (sym (a.refused y).says)) (same.1 ∙ ap (λ x. x.day.lasts) (sym (a.refused y).says)) in
        subst (λ (k : Kept). Fits (kept_at day) c k) back fits)
        (λ (n : is_refusal o.verdict.refusal ≡ false).
        subst (λ (k : Kept). Fits (kept_at day) c k) (ap (λ x. kept_at x.day) (sym (a.told n (omega (arith, a.most n))).says)) fits)
        (true_or_false (is_refusal o.verdict.refusal))
      where
        kept_so_here : (d e : desk.Day) → d.row ≡ e.row → d.lasts ≡ e.lasts → kept_at d ≡ kept_at e
        kept_so_here d e p q = rw (p, q)

pub refused_event_changes_nothing : RefusedEventChangesNothing
refused_event_changes_nothing len tape day room out (Some (Event.File o f c)) r room' out' p some =
    let h = answer_keeps day _ room out r room out' (p.0 room) some in (h.0, p.1, h.2, h.3)
refused_event_changes_nothing len tape day room out (Some (Event.Withdraw o n)) r room' out' p some =
    let h = answer_keeps day _ room out r room out' (p.0 room) some in (h.0, p.1, h.2, h.3)
refused_event_changes_nothing len tape day room out (Some (Event.Board h t)) r room' out' p some = answer_keeps day _ room out r room' out' p.answers some
refused_event_changes_nothing len tape day room out None r room' out' p some =
    (ap (λ x. x.day) p.says, p.same_room, p.same_row, ap (λ x. x.bytes) p.says)

-- The first that applies, applies.
applies_so : {applies : Refusal → ℕ → Type 0} {order : List Refusal} {kind : Refusal} {place : ℕ} → FirstThatApplies applies order kind place → (kind ≡ Accepted) ⊎ applies kind place
applies_so FirstThatApplies.none = inl refl
applies_so (FirstThatApplies.here h) = inr h
applies_so (FirstThatApplies.later n rest) = applies_so rest

not_both : {kind : Refusal} → kind ≡ Accepted → kind ≡ ShortRow → ⊥
not_both a s = let e : ◌≡◌ {A = ℕ} 0 8 = ap number_of (sym a ∙ s) in omega arith

-- 8 of the row of records.
row_short : {len : ℕ} {row : List Ticket} {l : Lasts} {p : ℕ} → 32 ≤ len → RowApplies len row l ShortRow p → ⊥
row_short long (RowApplies.short_row s) = omega arith

filing_short : {len : ℕ} {row : List Ticket} {f : Filing} {p : ℕ} → 32 ≤ len → FilingApplies len row f ShortRow p → ⊥
filing_short long (FilingApplies.records h) = row_short long h

withdrawal_short : {len : ℕ} {row : List Ticket} {w : Withdrawal} {p : ℕ} → 32 ≤ len → WithdrawalApplies len row w ShortRow p → ⊥
withdrawal_short long (WithdrawalApplies.of_the_row h) = row_short long h

never : {applies : Refusal → ℕ → Type 0} {order : List Refusal} {kind : Refusal} {place : ℕ} → FirstThatApplies applies order kind place → ((p : ℕ) → applies ShortRow p → ⊥) → kind ≡ ShortRow → ⊥
never {applies} {order} {kind} {place} first none e =
    ⊎_elim (λ (a : kind ≡ Accepted). not_both a e) (λ (h : applies kind place). none place (subst (λ (k : Refusal). applies k place) e h)) (applies_so first)

-- 8 of the planner's rows: eight wants at most, and no more stops than wants.
stops_within : {r : Run} {i n : ℕ} → StopsFrom r i n → i + n ≤ length r.numbers
stops_within StopsFrom.behind = omega arith
stops_within (StopsFrom.one_more apart rest) = let h = stops_within rest in omega (arith, h)
stops_within (StopsFrom.as_many joins rest) = let h = stops_within rest in omega (arith, h)

-- A run's own refusals are 1 to 7.
of_the_run : {r : Run} {kind : Refusal} {p : ℕ} → RunApplies r kind p → number_of kind ≤ 7
of_the_run (RunApplies.file_rows h) = omega arith
of_the_run (RunApplies.bad_file h) = omega arith
of_the_run (RunApplies.want_rows h) = omega arith
of_the_run (RunApplies.bad_want h) = omega arith
of_the_run (RunApplies.many_reads h) = omega arith
of_the_run (RunApplies.turn_price h) = omega arith
of_the_run (RunApplies.head_far h) = omega arith
of_the_run (RunApplies.head_near f w h) = omega arith

plan_short : {r : Run} {room : List ℕ} {p : ℕ} → length r.numbers ≤ 8 → PlanApplies r (rows_lent room) ShortRow p → ⊥
plan_short few (PlanApplies.run h) = let l = of_the_run h in omega (arith, l)
plan_short few (PlanApplies.short_times l) = omega arith
plan_short few (PlanApplies.short_legs l) = omega arith
plan_short few (PlanApplies.short_starts has l) = let h = stops_within has in omega (arith, h, l)
plan_short few (PlanApplies.short_ends has l) = let h = stops_within has in omega (arith, h, l)

module _ (len : ℕ) (tape : Tape) (row : List Ticket) (b : Boarding) (room : List ℕ) (done : BoardedRow) (rows : Rows) (boards : Boards len tape row b (rows_lent room) done rows) (long : 32 ≤ len) where
  boarding_not_short : done.boarded.answer.refusal ≡ ShortRow → ⊥
  boarding_not_short e =
      ⊎_elim
      (λ (t : refuses (records_verdict len row b.lasts) ≡ true).
      never (row_finds len row b.lasts) (λ p. row_short long) (ap (λ x. x.boarded.answer.refusal) (sym (boards.refused t).says) ∙ e))
      (λ (n : refuses (records_verdict len row b.lasts) ≡ false).
      never (demand1_plan (board_run tape row b) (rows_lent room) done.boarded.answer rows (boards.planned n).plans).first (λ p. plan_short (wants_few tape row b)) e)
      (true_or_false (refuses (records_verdict len row b.lasts)))

pub row_takes_every_answer : RowTakesEveryAnswer
row_takes_every_answer len tape day room out (Some (Event.File o f c)) r room' out' long takes p e =
    let filing : Filing = record { office = o; file = f; count = c; files = length tape.starts; lasts = day.lasts } in
    never (filing_answers len day.row filing (file_row len day.row filing) refl) (λ q. filing_short long) (sym (own_verdict day _ room out r room out' (p.0 room) takes) ∙ e)
row_takes_every_answer len tape day room out (Some (Event.Withdraw o n)) r room' out' long takes p e =
    let taken : Withdrawal = record { office = o; number = n; lasts = day.lasts } in
    never (withdrawal_answers len day.row taken (withdraw_row len day.row taken) refl) (λ q. withdrawal_short long) (sym (own_verdict day _ room out r room out' (p.0 room) takes) ∙ e)
row_takes_every_answer len tape day room out (Some (Event.Board h t)) r room' out' long takes p e =
    boarding_not_short len tape day.row _ room p.done p.rows p.boards long (sym (own_verdict day _ room out r room' out' p.answers takes) ∙ e)
row_takes_every_answer len tape day room out None r room' out' long takes p e =
    let no : ◌≡◌ {A = ℕ} 11 8 = ap number_of (ap (λ x. x.verdict.refusal) (sym p.says) ∙ e) in omega arith

-- One line: no event, and the day as it was; or a call.
abbrev OneCall : Tape → Option Event → desk.Day → Exchange → desk.Day → Type 0
OneCall tape e day x next = (c : Call) × IsCall tape e c × (x.answer ≡ answered c) × Fits (kept_at day) c (kept_at next) × ((cs : List Call) → ForTape tape cs → ForTape tape (c ∷ cs))

module _ (len : ℕ) (tape : Tape) (day next : desk.Day) (x : Exchange) (room room' out out' : List ℕ) (r : Answered) (takes : 2677 ≤ length out) (says : x.answer ≡ r.verdict.refusal) (leaves : next ≡ r.day) where
  called : (e : Option Event) (o : Outcome) (c : Call) → IsCall tape e c → ((cs : List Call) → ForTape tape cs → ForTape tape (c ∷ cs)) → (space space' : List ℕ) → AnswersEvent day o space out r space' out' → o.verdict.refusal ≡ answered c
      → Fits (kept_at day) c (kept_at o.next) → OneCall tape e day x next
  called e o c is one space space' a same fits = (
    c,
    is,
    says ∙ own_verdict day o space out r space' out' a takes ∙ same,
    subst (λ (d : desk.Day). Fits (kept_at day) c (kept_at d)) (sym leaves) (settled day o space out r space' out' a takes c same fits),
    one,
  )

  one_line : (e : Option Event) → EventAnswered len tape day room out e r room' out' → ((e ≡ None) × (next ≡ day)) ⊎ OneCall tape e day x next
  one_line (Some (Event.File o f c)) p =
      let filed : Filing = record { office = o; file = f; count = c; files = length tape.starts; lasts = day.lasts } in
      inr (called (Some (Event.File o f c)) (filing_outcome filed (file_row len day.row filed) room) (filing len filed (file_row len day.row filed)) IsCall.a_filing (λ cs h. (refl, h)) room room (p.0 room) refl (Fits.files refl refl))
  one_line (Some (Event.Withdraw o n)) p =
      let taken : Withdrawal = record { office = o; number = n; lasts = day.lasts } in
      inr (called (Some (Event.Withdraw o n)) (withdrawal_outcome taken (withdraw_row len day.row taken) room) (withdrawal len taken (withdraw_row len day.row taken)) IsCall.a_withdrawal (λ cs h. h) room room (p.0 room) refl (Fits.withdraws refl refl))
  one_line (Some (Event.Board h t)) p =
      let b : Boarding = record { head = h; turn = t; lasts = day.lasts } in
      inr (called (Some (Event.Board h t)) (boarding_outcome day.row p.done p.rows) (boarding len tape b (rows_lent room) p.rows p.done) IsCall.a_boarding (λ cs f. f) room room' p.answers refl (Fits.boards refl p.boards))
  one_line None p = inl (refl, leaves ∙ ap (λ y. y.day) p.says)

record Calls (tape : Tape) (day : desk.Day) (xs : List Exchange) (last : desk.Day) : Type 0 where
  calls : List Call
  are : AreCalls tape xs calls
  day_so : Day (kept_at day) calls (kept_at last)
  one_tape : ForTape tape calls

held_so : {tape : Tape} {day last : desk.Day} {xs : List Exchange} → Held tape day xs last → Calls tape day xs last
held_so Held.ends = record { calls = []; are = AreCalls.no_more; day_so = Day.over; one_tape = tt }
held_so {tape} {day} {last} (Held.goes_on {next = next} {x = x} {xs = xs} t rest) = with_line (held_so rest)
  where
    with_line : Calls tape next xs last → Calls tape day (x ∷ xs) last
    with_line more =
        ⊎_elim
        (λ (h : (event_of (line_of x.line) ≡ None) × (next ≡ day)).
        record { calls = more.calls; are = AreCalls.no_event h.0 more.are; day_so = subst (λ (d : desk.Day). Day (kept_at d) more.calls (kept_at last)) h.1 more.day_so; one_tape = more.one_tape })
        (λ (h : OneCall tape (event_of (line_of x.line)) day x next).
        record { calls = h.0 ∷ more.calls; are = AreCalls.an_event h.1 h.2 more.are; day_so = Day.then h.3 more.day_so; one_tape = h.4 more.calls more.one_tape })
        (one_line t.len tape day next x t.room t.room' t.out t.out' t.result t.bytes t.says t.leaves (event_of (line_of x.line)) t.fits)

pub day_at_the_desk : DayAtTheDesk
day_at_the_desk = (
  refl,
  λ tape first last xs held.
      let c = held_so held in
      record { calls = c.calls; are = c.are; day = c.day_so; one_tape = c.one_tape },
)

-- A boarding at the desk.
table_passes : (len : ℕ) (k : Kept) → 32 ≤ len → IsTable k → refuses (records_verdict len k.row k.lasts) ≡ false
unfolding records_verdict
table_passes len k places table = rw (none_bad k.lasts (waiting 1 k.row) (waiting 2 k.row) k.row table, le-ltb len all_places places)

only_desk : {kind : Refusal} → OnlyTheRun kind → (kind ≡ ShortRow → ⊥) → (kind ≡ ShortRoom → ⊥) → AtTheDesk kind
only_desk OnlyTheRun.nothing s r = AtTheDesk.nothing
only_desk OnlyTheRun.turn_price s r = AtTheDesk.turn_price
only_desk OnlyTheRun.head_place s r = AtTheDesk.head_place
only_desk OnlyTheRun.short_row s r = absurd (s refl)
only_desk OnlyTheRun.short_room s r = absurd (r refl)

-- 9 comes last, behind 5.
room_last : {run : Run} {rows : Rows} {place : ℕ} → FirstThatApplies (PlanApplies run rows) plan_order ShortRoom place → ((p : ℕ) → PlanApplies run rows TooManyReads p → ⊥) × PlanApplies run rows ShortRoom place
room_last (FirstThatApplies.later a (FirstThatApplies.later b (FirstThatApplies.later c (FirstThatApplies.later d (FirstThatApplies.later e (FirstThatApplies.later f (FirstThatApplies.later g (FirstThatApplies.later h (FirstThatApplies.here r))))))))) = (e, r)
room_last (FirstThatApplies.later a (FirstThatApplies.later b (FirstThatApplies.later c (FirstThatApplies.later d (FirstThatApplies.later e (FirstThatApplies.later f (FirstThatApplies.later g (FirstThatApplies.later h (FirstThatApplies.later i none))))))))) = elim none [ ]

room_enough : {run : Run} {room : List ℕ} {place : ℕ} → length run.numbers ≤ 8 → 65600 ≤ length room → ((p : ℕ) → PlanApplies run (rows_lent room) TooManyReads p → ⊥) → PlanApplies run (rows_lent room) ShortRoom place → ⊥
room_enough few long reads (PlanApplies.run h) = let l = of_the_run h in omega (arith, l)
room_enough {run} few long reads (PlanApplies.short_room {stops} has l) =
    elim (dec_lt 1024 (total run.counts)) [
      | yes over ↦ reads 0 (PlanApplies.run (RunApplies.many_reads over))
      | no within ↦ let h = stops_within has in let p = product_few stops (total run.counts) (omega (arith, h, few)) (omega arith) in omega (arith, p, l, long)
    ]

module _ (len : ℕ) (places : 32 ≤ len) (tape : Tape) (k : Kept) (cs : List Call) (day : Day at_first cs k) (one_tape : ForTape tape cs) (rows_fit : (place : ℕ) → RunApplies (no_wants_on tape) FileRows place → ⊥)
    (b : Boarding) (same : b.lasts ≡ k.lasts) (room : List ℕ) (long : 65600 ≤ length room) (done : BoardedRow) (rows : Rows) (boards : Boards len tape k.row b (rows_lent room) done rows) where
  abbrev run : Run
  run = board_run tape k.row b

  passes : refuses (records_verdict len k.row b.lasts) ≡ false
  passes = subst (λ (l : Lasts). refuses (records_verdict len k.row l) ≡ false) (sym same) (table_passes len k places (table_from_empty k cs day))

  by_first : {kind : Refusal} {place : ℕ} → kind ≡ done.boarded.answer.refusal → FirstThatApplies (PlanApplies run (rows_lent room)) plan_order kind place → AtTheDesk kind
  by_first is (FirstThatApplies.here (PlanApplies.run (RunApplies.file_rows h))) = absurd (rows_fit 0 (RunApplies.file_rows h))
  by_first is (FirstThatApplies.later a (FirstThatApplies.here h)) = AtTheDesk.bad_file
  by_first {kind} {place} is (FirstThatApplies.later a (FirstThatApplies.later f rest)) =
      let table = judged_table (no_wants_on tape) (table_judged run (λ p h. a p (PlanApplies.run h)) (λ p h. f p (PlanApplies.run h))) in
      let only = refused_for_the_run_from_empty len tape k cs b (rows_lent room) rows done day one_tape (record { rows = table.0; files = table.1 }) same boards in
      only_desk (subst (λ (x : Refusal). OnlyTheRun x) (sym is) only) (λ s. boarding_not_short len tape k.row b room done rows boards places (sym is ∙ s))
      (λ s. let last = room_last (subst (λ (x : Refusal). FirstThatApplies (PlanApplies run (rows_lent room)) plan_order x place) s (FirstThatApplies.later a (FirstThatApplies.later f rest))) in
      room_enough (wants_few tape k.row b) long last.0 last.1)

  desk_kind : AtTheDesk done.boarded.answer.refusal
  desk_kind = by_first refl (demand1_plan run (rows_lent room) done.boarded.answer rows (boards.planned passes).plans).first

pub boards_at_the_desk : BoardsAtTheDesk
boards_at_the_desk tape xs day next x head turn held t is rows_fit =
    let c = held_so held in
    let p : BoardingAnswered t.len tape day (record { head = head; turn = turn; lasts = day.lasts }) t.room t.out t.result t.room' t.out'
    = subst (λ (e : Option Event). EventAnswered t.len tape day t.room t.out e t.result t.room' t.out') is t.fits in
    subst (λ (kind : Refusal). AtTheDesk kind) (sym (t.says ∙ own_verdict day _ t.room t.out t.result t.room' t.out' p.answers t.bytes))
    (desk_kind t.len t.places tape (kept_at day) c.calls c.day_so c.one_tape rows_fit (record { head = head; turn = turn; lasts = day.lasts }) refl t.room t.words p.done p.rows p.boards)

-- On a lent row: what a call leaves is the table that the next one finds.
pub day_so : (d : desk.Day) (row : List Ticket) (l : Lasts) → row ≡ d.row → l ≡ d.lasts → day_of row l ≡ d
day_so d row l p q = rw (p, q)

on_the_row : {tape : Tape} {ts last : List Ticket} {l m : Lasts} {xs : List Exchange} → 32 ≤ length ts → HeldOn tape ts l xs last m
    → Held tape (day_of (table_in ts) l) xs (day_of (table_in last) m) × (drop 32 last ≡ drop 32 ts)
on_the_row long HeldOn.row_ends = (Held.ends, refl)
on_the_row {tape} {ts} {last} {l} {m} long (HeldOn.row_goes_on {next = next} {m = given} {x = x} {xs = xs} t rest) =
    let f = t.fits in
    let a = f.answered in
    let found : table_in next ≡ a.day.row = ap table_in f.row ∙ table_comes_back a.day.row ts f.whole long in
    let size : length next ≡ length ts = ap length f.row ∙ row_keeps_its_length a.day.row ts f.whole long in
    let later : drop 32 next ≡ drop 32 ts = ap (λ (r : List Ticket). drop 32 r) f.row ∙ later_records_kept a.day.row ts f.whole long in
    let more = on_the_row (omega (arith, long, size)) rest in (
      Held.goes_on
          (record {
            len = length ts;
            room = t.room;
            room' = t.room';
            out = t.out;
            out' = t.out';
            places = long;
            words = t.words;
            bytes = t.bytes;
            result = a;
            fits = f.answers;
            says = t.says ∙ ap (λ (y : Told). y.verdict.refusal) f.says;
            leaves = day_so a.day (table_in next) given found (t.leaves ∙ ap (λ (y : Told). y.lasts) f.says);
          })
          more.0,
      more.1 ∙ later,
    )

pub desk_on_a_lent_row : DeskOnALentRow
desk_on_a_lent_row tape ts last l m xs long held = on_the_row long held
