-- A journal replayed: remarks are passed over, and what an event answers is decided by the day and its line alone, whatever room and rows are lent for it.
use Prim.Native.Nat.{ℕ, ◌≤◌}
use mathlib.Core.Path.{◌≡◌, refl, sym, ap, subst, ◌∙◌}
use mathlib.Core.Bool.{Bool, true, false, cond, true≢false}
use mathlib.Core.List.{List, [], ◌∷◌}
use mathlib.Core.Logic.{⊎_elim}
use native.Mathlib.Omega.{arith}
use lib.ListN.{length}
use lib.Dec.{ltb}
use borrow.Author.Tests.{le-ltb}
use Rattle.std.specs.Prelude.{Option, Some, None}
use Rattle.refusals.specs.declared.Refusal.{Refusal}
use Rattle.refusals.specs.declared.Refusal.TheVariants.{Accepted}
use Rattle.refusals.specs.Refusals.{is_refusal, accepted}
use Rattle.refusals.proofs.Verdicts.{refuses}
use Rattle.runs.specs.Run.{Run, stops_of}
use Rattle.runs.specs.Judging.{judge_of}
use Rattle.runs.proofs.Search.{true_or_false}
use Rattle.walk.specs.declared.Answer.{Answer}
use Rattle.walk.specs.Price.{refusal_answer, priced_answer}
use Rattle.least.proofs.LeastList.{least_unique}
use Rattle.planner.specs.Plan.{plan_verdict, room_for, rows_with, Plans}
use Rattle.planner.specs.Rows.{Rows}
use Rattle.text_lines.specs.Lines.{line_of}
use Rattle.desk_tickets.specs.declared.Ticket.{Ticket}
use Rattle.desk_tickets.specs.declared.Lasts.{Lasts}
use Rattle.desk_tickets.specs.declared.Filing.{Filing}
use Rattle.desk_tickets.specs.declared.Withdrawal.{Withdrawal}
use Rattle.desk_tickets.specs.WaitingTable.{records_verdict}
use Rattle.desk_tickets.specs.Filings.{file_verdict, file_row}
use Rattle.desk_tickets.specs.Withdrawals.{withdraw_verdict, withdraw_row}
use Rattle.desk_boardings.specs.declared.Boarding.{Boarding}
use Rattle.desk_boardings.specs.declared.BoardedRow.{BoardedRow}
use Rattle.desk_boardings.specs.Boardings.{Tape, board_run, boarded_by, not_boarded, Boards}
use Rattle.answer_desk.specs.declared.Day as desk
use Rattle.answer_desk.specs.declared.Event.{Event}
use Rattle.answer_desk.specs.declared.Answered.{Answered}
use Rattle.answer_desk.specs.Events.{event_of}
use Rattle.answer_desk.specs.Days.{Outcome, AnswersEvent, refused_answer, rows_lent, filing_outcome, withdrawal_outcome, boarding_outcome, BoardingAnswered, EventAnswered}
use Rattle.answer_desk.proofs.Rooms.{room_few, in_room}
use Rattle.desk_rows.specs.declared.ToldRow.{ToldRow}
use Rattle.desk_rows.specs.Desk.{table_in}
use Rattle.desk_rows.specs.Events.{day_of}
use Rattle.desk_rows.specs.Journal.{is_remark}
use Rattle.promises.specs.DeskDays.{RefusedEventChangesNothing, Exchange, Turned, Held}
use Rattle.promises.specs.DeskHeld.{HeldByTheProgram}
use Rattle.promises.specs.DeskReplay.{Replayed, RemarkChangesNothing, events_of, RemarksPassedOver, accepted_of, lines_of, JournalGivesTheTable}
use Rattle.promises.proofs.DeskDays.{accepts, refused_event_changes_nothing, desk_on_a_lent_row}
use Rattle.promises.proofs.DeskHeld.{program_holds_a_day}

pub remark_changes_nothing : RemarkChangesNothing
remark_changes_nothing row l tape room out line r room' out' taken is =
    let p = taken.remark is in (
      ap (λ (y : ToldRow). y.row) p.says,
      ap (λ (y : ToldRow). y.told.lasts) p.says,
      ap (λ (y : ToldRow). y.told.bytes) p.says,
      p.same_room,
      p.same_row,
      ap (λ (y : ToldRow). y.told.verdict) p.says,
    )

-- A journal is the day of its events.
passed_over : {tape : Tape} {row last : List Ticket} {l m : Lasts} {xs : List Exchange} → Replayed tape row l xs last m → HeldByTheProgram tape row l (events_of xs) last m
unfolding events_of
passed_over Replayed.journal_ends = HeldByTheProgram.table_ends
passed_over {tape} {row} {last} {l} {m} (Replayed.journal_goes_on {next = next} {m = given} {x = x} {xs = xs} t rest) =
    ⊎_elim
    (λ (is : is_remark x.line ≡ true).
    let p = t.fits.remark is in
    let same : next ≡ row = t.table ∙ ap (λ (y : ToldRow). y.row) p.says in
    let numbers : given ≡ l = t.leaves ∙ ap (λ (y : ToldRow). y.told.lasts) p.says in
    rw is (subst (λ (k : Lasts). HeldByTheProgram tape row k (events_of xs) last m) numbers
    (subst (λ (k : List Ticket). HeldByTheProgram tape k given (events_of xs) last m) same (passed_over rest))))
    (λ (is : is_remark x.line ≡ false).
    rw is (HeldByTheProgram.table_goes_on
    (record {
      room = t.room;
      room' = t.room';
      out = t.out;
      out' = t.out';
      words = t.words;
      bytes = t.bytes;
      result = t.result;
      fits = t.fits.event is;
      says = t.says;
      table = t.table;
      leaves = t.leaves;
    })
    (passed_over rest)))
    (true_or_false (is_remark x.line))

pub remarks_passed_over : RemarksPassedOver
remarks_passed_over tape row last l m xs held = passed_over held

-- On a row that takes every text an event's outcome decides the answer.
abbrev settled_as : desk.Day → Outcome → Answered
settled_as day o = cond (is_refusal o.verdict.refusal) (refused_answer day o.verdict) (record { day = o.next; verdict = accepted; bytes = length o.text })

settled_as_lem : (day : desk.Day) (o : Outcome) (room out : List ℕ) (r : Answered) (room' out' : List ℕ) → AnswersEvent day o room out r room' out' → 2677 ≤ length out → r ≡ settled_as day o
settled_as_lem day o room out r room' out' a takes =
    ⊎_elim
    (λ (y : is_refusal o.verdict.refusal ≡ true). rw y (a.refused y).says)
    (λ (n : is_refusal o.verdict.refusal ≡ false). rw n (a.told n (omega (arith, a.most n, takes))).says)
    (true_or_false (is_refusal o.verdict.refusal))

-- However many places beyond 32 the row of records has.
records_alike : (a b : ℕ) (row : List Ticket) (l : Lasts) → 32 ≤ a → 32 ≤ b → records_verdict a row l ≡ records_verdict b row l
unfolding records_verdict
records_alike a b row l p q = rw (le-ltb a 32 p, le-ltb b 32 q) refl

files_alike : (a b : ℕ) (row : List Ticket) (f : Filing) → 32 ≤ a → 32 ≤ b → file_row a row f ≡ file_row b row f
unfolding file_row file_verdict
files_alike a b row f p q = rw (records_alike a b row f.lasts p q) refl

withdraws_alike : (a b : ℕ) (row : List Ticket) (w : Withdrawal) → 32 ≤ a → 32 ≤ b → withdraw_row a row w ≡ withdraw_row b row w
unfolding withdraw_row withdraw_verdict
withdraws_alike a b row w p q = rw (records_alike a b row w.lasts p q) refl

-- A boarding in two rooms of 65,600 words or more.
module _ (tape : Tape) (row : List Ticket) (b : Boarding) (room room₂ : List ℕ) (long : 65600 ≤ length room) (long₂ : 65600 ≤ length room₂) where
  abbrev run : Run
  run = board_run tape row b

  same_verdict_here : plan_verdict run (rows_lent room) ≡ plan_verdict run (rows_lent room₂)
  unfolding plan_verdict
  same_verdict_here =
      ⊎_elim
      (λ (e : refuses (judge_of run) ≡ true). rw e refl)
      (λ (e : refuses (judge_of run) ≡ false).
      let few = room_few tape row b e in
      rw (le-ltb (length room) (room_for run) (omega (arith, few, long)), le-ltb (length room₂) (room_for run) (omega (arith, few, long₂))) refl)
      (true_or_false (refuses (judge_of run)))

  plans_alike : (a a₂ : Answer) (rows rows₂ : Rows) → Plans run (rows_lent room) a rows → Plans run (rows_lent room₂) a₂ rows₂ → (a ≡ a₂) × (in_room rows [] ≡ in_room rows₂ [])
  plans_alike a a₂ rows rows₂ p q =
      ⊎_elim
      (λ (t : refuses (plan_verdict run (rows_lent room)) ≡ true).
      let x = p.refused t in
      let y = q.refused (ap refuses (sym same_verdict_here) ∙ t) in
      (x.says ∙ ap refusal_answer same_verdict_here ∙ sym y.says, ap (λ (z : Rows). in_room z []) x.kept ∙ sym (ap (λ (z : Rows). in_room z []) y.kept)))
      (λ (f : refuses (plan_verdict run (rows_lent room)) ≡ false).
      let x = p.planned f in
      let y = q.planned (ap refuses (sym same_verdict_here) ∙ f) in
      let e = least_unique run.turn run.head (stops_of run) x.list y.list x.least y.least in (
        x.says ∙ ap (priced_answer run) e ∙ sym y.says,
        ap (λ (z : Rows). in_room z []) x.rows ∙ ap (λ l. in_room (rows_with run l (rows_lent room₂)) []) e ∙ sym (ap (λ (z : Rows). in_room z []) y.rows),
      ))
      (true_or_false (refuses (plan_verdict run (rows_lent room))))

  boards_alike : (len len₂ : ℕ) → 32 ≤ len → 32 ≤ len₂ → (done done₂ : BoardedRow) (rows rows₂ : Rows)
      → Boards len tape row b (rows_lent room) done rows → Boards len₂ tape row b (rows_lent room₂) done₂ rows₂
      → (done ≡ done₂) × (in_room rows [] ≡ in_room rows₂ [])
  boards_alike len len₂ places places₂ done done₂ rows rows₂ p q =
      let same = records_alike len len₂ row b.lasts places places₂ in
      ⊎_elim
      (λ (t : refuses (records_verdict len row b.lasts) ≡ true).
      let x = p.refused t in
      let y = q.refused (ap refuses (sym same) ∙ t) in
      (x.says ∙ ap (λ v. not_boarded row b.lasts (refusal_answer v)) same ∙ sym y.says, ap (λ (z : Rows). in_room z []) x.kept ∙ sym (ap (λ (z : Rows). in_room z []) y.kept)))
      (λ (f : refuses (records_verdict len row b.lasts) ≡ false).
      let x = p.planned f in
      let y = q.planned (ap refuses (sym same) ∙ f) in
      let e = plans_alike done.boarded.answer done₂.boarded.answer rows rows₂ x.plans y.plans in
      (x.says ∙ ap (boarded_by row b.lasts) e.0 ∙ sym y.says, e.1))
      (true_or_false (refuses (records_verdict len row b.lasts)))

-- The outcome of a boarding, but for the room that it leaves.
abbrev boarded_so : desk.Day → BoardedRow → Rows → Answered
boarded_so day done rows = settled_as day (boarding_outcome day.row done (in_room rows []))

-- So the day and the line decide the answer.
module _ (tape : Tape) (day : desk.Day) (len len₂ : ℕ) (room room₂ out out₂ room' room₂' out' out₂' : List ℕ) (r s : Answered)
    (places : 32 ≤ len) (places₂ : 32 ≤ len₂) (long : 65600 ≤ length room) (long₂ : 65600 ≤ length room₂) (takes : 2677 ≤ length out) (takes₂ : 2677 ≤ length out₂) where
  answered_alike : (e : Option Event) → EventAnswered len tape day room out e r room' out' → EventAnswered len₂ tape day room₂ out₂ e s room₂' out₂' → r ≡ s
  answered_alike (Some (Event.File o f c)) p q =
      let filing : Filing = record { office = o; file = f; count = c; files = length tape.starts; lasts = day.lasts } in
      settled_as_lem day (filing_outcome filing (file_row len day.row filing) []) [] out r [] out' (p.0 []) takes
      ∙ ap (λ x. settled_as day (filing_outcome filing x [])) (files_alike len len₂ day.row filing places places₂)
      ∙ sym (settled_as_lem day (filing_outcome filing (file_row len₂ day.row filing) []) [] out₂ s [] out₂' (q.0 []) takes₂)
  answered_alike (Some (Event.Withdraw o n)) p q =
      let w : Withdrawal = record { office = o; number = n; lasts = day.lasts } in
      settled_as_lem day (withdrawal_outcome w (withdraw_row len day.row w) []) [] out r [] out' (p.0 []) takes
      ∙ ap (λ x. settled_as day (withdrawal_outcome w x [])) (withdraws_alike len len₂ day.row w places places₂)
      ∙ sym (settled_as_lem day (withdrawal_outcome w (withdraw_row len₂ day.row w) []) [] out₂ s [] out₂' (q.0 []) takes₂)
  answered_alike (Some (Event.Board h t)) p q =
      let b : Boarding = record { head = h; turn = t; lasts = day.lasts } in
      let e = boards_alike tape day.row b room room₂ long long₂ len len₂ places places₂ p.done q.done p.rows q.rows p.boards q.boards in
      let x : r ≡ boarded_so day p.done p.rows = settled_as_lem day _ room out r room' out' p.answers takes in
      let y : s ≡ boarded_so day q.done q.rows = settled_as_lem day _ room₂ out₂ s room₂' out₂' q.answers takes₂ in
      x
      ∙ ap (λ (d : BoardedRow). settled_as day (boarding_outcome day.row d (in_room p.rows []))) e.0
      ∙ ap (λ (z : Rows). settled_as day (boarding_outcome day.row q.done z)) e.1
      ∙ sym y
  answered_alike None p q = p.says ∙ sym q.says

turned_alike : (tape : Tape) (day next next₂ : desk.Day) (x y : Exchange) → Turned tape day x next → Turned tape day y next₂ → y.line ≡ x.line → (next₂ ≡ next) × (y ≡ x)
turned_alike tape day next next₂ x y t u same =
    let moved = subst (λ (line : List ℕ). EventAnswered u.len tape day u.room u.out (event_of (line_of line)) u.result u.room' u.out') same u.fits in
    let e = answered_alike tape day t.len u.len t.room u.room t.out u.out t.room' u.room' t.out' u.out' t.result u.result
    t.places u.places t.words u.words t.bytes u.bytes (event_of (line_of x.line)) t.fits moved in
    (u.leaves ∙ ap (λ (a : Answered). a.day) (sym e) ∙ sym t.leaves, told_so_here x y same (u.says ∙ ap (λ (a : Answered). a.verdict.refusal) (sym e) ∙ sym t.says))
  where
    told_so_here : (x y : Exchange) → y.line ≡ x.line → y.answer ≡ x.answer → y ≡ x
    told_so_here x y p q = rw (p, q)

-- Two days from one table: one with all calls, the other with those that were accepted.
first_line_lem : (x y : Exchange) (xs ys : List Exchange) → lines_of (x ∷ xs) ≡ lines_of (y ∷ ys) → x.line ≡ y.line
first_line_lem x y xs ys e = ap (head_or x.line) e
  where
    head_or : List ℕ → List (List ℕ) → List ℕ
    head_or d [] = d
    head_or d (l ∷ ls) = l

later_lines : (x y : Exchange) (xs ys : List Exchange) → lines_of (x ∷ xs) ≡ lines_of (y ∷ ys) → lines_of xs ≡ lines_of ys
later_lines x y xs ys e = ap tail_of e
  where
    tail_of : List (List ℕ) → List (List ℕ)
    tail_of [] = []
    tail_of (l ∷ ls) = ls

kept_by_refusal : RefusedEventChangesNothing → {tape : Tape} {day next : desk.Day} {x : Exchange} → Turned tape day x next → is_refusal x.answer ≡ true → next ≡ day
kept_by_refusal keeps {tape} {day} {next} {x} t refused =
    t.leaves
    ∙ (keeps t.len tape day t.room t.out (event_of (line_of x.line)) t.result t.room' t.out' t.fits
    (λ is. true≢false (sym refused ∙ ap is_refusal (t.says ∙ is)))).0

-- The first call was accepted, and what follows it is known of any journal of the rest.
served_so : {tape : Tape} {day next last last₂ : desk.Day} {x : Exchange} {xs events : List Exchange} → Turned tape day x next
    → ((es : List Exchange) → Held tape next es last₂ → lines_of es ≡ lines_of xs → (last₂ ≡ last) × (es ≡ xs))
    → Held tape day events last₂
    → lines_of events ≡ lines_of (x ∷ xs)
    → (last₂ ≡ last) × (events ≡ x ∷ xs)
served_so t rest Held.ends same = absurd (omega (arith, ap length same))
served_so {tape} {day} {next} {last} {last₂} {x} {xs} t rest (Held.goes_on {next = next₂} {x = e} {xs = es} u rest₂) same =
    let one = turned_alike tape day next next₂ x e t u (first_line_lem e x es xs same) in
    let moved = subst (λ (d : desk.Day). Held tape d es last₂) one.0 rest₂ in
    let h = rest es moved (later_lines e x es xs same) in
    (h.0, ap (λ (z : Exchange). z ∷ es) one.1 ∙ ap (λ (zs : List Exchange). x ∷ zs) h.1)

-- What was refused is not among the accepted, and what was accepted is.
without_refused : (x : Exchange) (xs : List Exchange) → is_refusal x.answer ≡ true → accepted_of (x ∷ xs) ≡ accepted_of xs
unfolding accepted_of
without_refused x xs e = rw e refl

with_accepted : (x : Exchange) (xs : List Exchange) → is_refusal x.answer ≡ false → accepted_of (x ∷ xs) ≡ x ∷ accepted_of xs
unfolding accepted_of
with_accepted x xs e = rw e refl

replayed_so : RefusedEventChangesNothing → {tape : Tape} {day last last₂ : desk.Day} {calls events : List Exchange} → Held tape day calls last → Held tape day events last₂
    → lines_of events ≡ lines_of (accepted_of calls) → (last₂ ≡ last) × (events ≡ accepted_of calls)
unfolding accepted_of
replayed_so keeps Held.ends Held.ends same = (refl, refl)
replayed_so keeps Held.ends (Held.goes_on u rest₂) same = absurd (omega (arith, ap length same))
replayed_so keeps {tape} {day} {last} {last₂} {events = events} (Held.goes_on {next = next} {x = x} {xs = xs} t rest) held same =
    ⊎_elim
    (λ (y : is_refusal x.answer ≡ true).
    let moved = subst (λ (d : desk.Day). Held tape d events last₂) (sym (kept_by_refusal keeps t y)) held in
    let h = replayed_so keeps rest moved (same ∙ ap lines_of (without_refused x xs y)) in
    (h.0, h.1 ∙ sym (without_refused x xs y)))
    (λ (n : is_refusal x.answer ≡ false).
    let h = served_so t (λ es more lines. replayed_so keeps rest more lines) held (same ∙ ap lines_of (with_accepted x xs n)) in
    (h.0, h.1 ∙ sym (with_accepted x xs n)))
    (true_or_false (is_refusal x.answer))

-- A journal beside any day at the desk.
pub journal_of_a_day : RefusedEventChangesNothing → (tape : Tape) (row end last : List Ticket) (l m n : Lasts) (calls journal : List Exchange) → Held tape (day_of row l) calls (day_of end m)
    → Replayed tape row l journal last n
    → lines_of (events_of journal) ≡ lines_of (accepted_of calls)
    → (last ≡ end) × (n ≡ m) × (events_of journal ≡ accepted_of calls)
journal_of_a_day keeps tape row end last l m n calls journal held replayed same =
    let h = replayed_so keeps held (program_holds_a_day tape row last l n (events_of journal) (passed_over replayed)) same in
    (ap (λ (d : desk.Day). d.row) h.0, ap (λ (d : desk.Day). d.lasts) h.0, h.1)

journal_by : RefusedEventChangesNothing → JournalGivesTheTable
journal_by keeps tape ts end l m calls last n journal long held replayed same =
    journal_of_a_day keeps tape (table_in ts) (table_in end) last l m n calls journal (desk_on_a_lent_row tape ts end l m calls long held).0 replayed same

pub journal_gives_the_table : JournalGivesTheTable
journal_gives_the_table = journal_by refused_event_changes_nothing
