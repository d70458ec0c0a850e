-- The wants of a boarding: counts added by file, ascending, each a file of the tape; so 3, 4 and 5 never apply.
use Prim.Native.Nat.{ℕ, zero, suc, ◌+◌, ◌*◌, ◌≤◌, ◌<◌}
use mathlib.Core.Path.{◌≡◌, refl, sym, ap, ◌∙◌}
use mathlib.Core.Bool.{Bool, true, false, not, cond, ◌&&◌, ◌||◌}
use mathlib.Core.List.{List, [], ◌∷◌, ◌++◌}
use mathlib.Core.Logic.{⊎_elim, inl, inr}
use native.Mathlib.Omega.{arith}
use lib.Dec.{eqb, ltb, leb}
use lib.ListN.{length, get_or, take, length-append, length-map}
use lib.Seq.{length-take-le}
use borrow.Author.Tests.{lt-ltb, le-ltb, eq-eqb, ne_eqb, lt-leb, leb-true, not-true, eqb-false}
use Rattle.refusals.specs.declared.Refusal.TheVariants.{TurnPrice, HeadPlace, ShortRow, ShortRoom}
use Rattle.refusals.specs.Refusals.{accepted, refuse_if, first_of}
use Rattle.refusals.proofs.Verdicts.{refuses, none_refuses}
use Rattle.runs.specs.Run.{Run, total, most_files, highest_turn, last_place, most_wants, most_reads, stops_of}
use Rattle.runs.specs.Judging.{right_end}
use Rattle.runs.specs.Judging.{number_before, bad_want, table_checks, wants_checks, judge_of}
use Rattle.runs.proofs.Search.{true_or_false, first_all}
use Rattle.walk.specs.Price.{priced_answer}
use Rattle.least.specs.Wants.{reads_of_file}
use Rattle.planner.specs.Plan.{plan_verdict, short_rows, room_for}
use Rattle.planner.specs.Rows.{Rows}
use Rattle.desk_tickets.specs.declared.Ticket.{Ticket}
use Rattle.desk_tickets.specs.declared.Lasts.{Lasts}
use Rattle.desk_tickets.specs.WaitingTable.{most_count, no_ticket, is_ticket, up_to, waiting, all_places, records_verdict}
use Rattle.desk_tickets.proofs.Sound.{and_true_both}
use Rattle.desk_tickets.proofs.Placed.{none_bad}
use Rattle.desk_boardings.specs.Boarders.{Want, want_of, add_want, with_wants, wants_of, file_numbers, read_counts, share_one, share_two, boarders}
use Rattle.desk_boardings.specs.Boardings.{board_run}
use Rattle.desk_boardings.proofs.Adding.{by_order, add_longer, add_total}
use Rattle.desk_boardings.proofs.Who.{share_within, shares_fit}
use Rattle.demands.proofs.Judged.{table_judged}
use Rattle.promises.specs.Desk.{IsTable}
use Rattle.promises.specs.DeskWants.{asked, WantsAdded, WantsInOrder, no_wants_on, OnlyTheRun, nothing, turn_price, head_place, short_row, short_room, RefusedForTheRun}

-- The reads of one file, with one want more.
reads_added : (w : Want) (ws : List Want) (f : ℕ) → reads_of_file (file_numbers (add_want w ws)) (read_counts (add_want w ws)) f ≡ cond (eqb w.file f) w.count 0 + reads_of_file (file_numbers ws) (read_counts ws) f
unfolding add_want reads_of_file
reads_added w [] f = refl
reads_added w (x ∷ xs) f =
    by_order (reads_of_file (file_numbers (add_want w (x ∷ xs))) (read_counts (add_want w (x ∷ xs))) f ≡ cond (eqb w.file f) w.count 0 + (cond (eqb x.file f) x.count 0 + reads_of_file (file_numbers xs) (read_counts xs) f))
    w.file x.file
    (λ l. rw (lt-ltb w.file x.file l))
    (λ e. rw (le-ltb w.file x.file (omega arith), eq-eqb w.file x.file e) (rw e (together (eqb x.file f) w.count x.count (reads_of_file (file_numbers xs) (read_counts xs) f))))
    (λ g. rw (le-ltb w.file x.file (omega arith), ne_eqb w.file x.file (λ e. omega arith))
    (apart (cond (eqb x.file f) x.count 0) (cond (eqb w.file f) w.count 0) (reads_of_file (file_numbers xs) (read_counts xs) f) (reads_of_file (file_numbers (add_want w xs)) (read_counts (add_want w xs)) f) (reads_added w xs f)))
  where
    together : (b : Bool) (m n r : ℕ) → cond b (n + m) 0 + r ≡ cond b m 0 + (cond b n 0 + r)
    together true m n r = omega arith
    together false m n r = omega arith

    apart : (a b r s : ℕ) → s ≡ b + r → a + s ≡ b + (a + r)
    apart a b r s e = omega arith

reads_with : (ws : List Want) (ts : List Ticket) (f : ℕ) → reads_of_file (file_numbers (with_wants ws ts)) (read_counts (with_wants ws ts)) f ≡ asked f ts + reads_of_file (file_numbers ws) (read_counts ws) f
unfolding with_wants asked
reads_with ws [] f = omega arith
reads_with ws (t ∷ ts) f = reads_with (add_want (want_of t) ws) ts f ∙ ap (λ n. asked f ts + n) (reads_added (want_of t) ws f) ∙ omega arith

pub wants_added : WantsAdded
unfolding wants_of reads_of_file
wants_added tape row b f = reads_with [] (boarders row) f ∙ omega arith

-- Each ticket of a list.
unfoldable pub Each : (Ticket → Type 0) → List Ticket → Type 0
Each P [] = Unit {0}
Each P (t ∷ ts) = P t × Each P ts

module _ (P : Ticket → Type 0) where
  each_from : (ts : List Ticket) → ((i : ℕ) → i < length ts → P (get_or ts i no_ticket)) → Each P ts
  unfolding Each
  each_from [] h = tt
  each_from (t ∷ ts) h = (h 0 (omega arith), each_from ts (λ i l. h (suc i) (omega arith)))

  each_take : (n : ℕ) (ts : List Ticket) → Each P ts → Each P (take n ts)
  unfolding Each
  each_take zero ts e = tt
  each_take (suc n) [] e = tt
  each_take (suc n) (t ∷ ts) e = (e.0, each_take n ts e.1)

  pub each_append : (ts us : List Ticket) → Each P ts → Each P us → Each P (ts ++ us)
  unfolding Each
  each_append [] us a b = b
  each_append (t ∷ ts) us a b = (a.0, each_append ts us a.1 b)

-- A ticket that names a file of a tape with so many.
record Fit (files : ℕ) (t : Ticket) : Type 0 where
  pub some : 0 < t.file
  pub there : t.file ≤ files
  pub reads : 0 < t.count
  pub few : t.count ≤ most_count

-- Wants above a number, ascending, of files of the tape, each with a read.
Ascend : ℕ → ℕ → List Want → Type 0
Ascend files a [] = Unit {0}
Ascend files a (w ∷ ws) = ((a < w.file) × (w.file ≤ files)) × ((0 < w.count) × Ascend files w.file ws)

module _ (files : ℕ) where
  add_ascends : (w : Want) (ws : List Want) (a : ℕ) → Ascend files a ws → a < w.file → w.file ≤ files → 0 < w.count → Ascend files a (add_want w ws)
  unfolding add_want Ascend
  add_ascends w [] a s l h n = ((l, h), (n, tt))
  add_ascends w (x ∷ xs) a s l h n =
      by_order (Ascend files a (add_want w (x ∷ xs))) w.file x.file
      (λ b. rw (lt-ltb w.file x.file b) ((l, h), (n, ((b, s.0.1), s.1))))
      (λ e. rw (le-ltb w.file x.file (omega arith), eq-eqb w.file x.file e) (s.0, (omega (arith, s.1.0), s.1.1)))
      (λ g. rw (le-ltb w.file x.file (omega arith), ne_eqb w.file x.file (λ e. omega arith)) (s.0, (s.1.0, add_ascends w xs x.file s.1.1 g h n)))

  with_ascends : (ws : List Want) (ts : List Ticket) → Ascend files 0 ws → Each (Fit files) ts → Ascend files 0 (with_wants ws ts)
  unfolding with_wants Each
  with_ascends ws [] s e = s
  with_ascends ws (t ∷ ts) s e = with_ascends (add_want (want_of t) ws) ts (add_ascends (want_of t) ws 0 s e.0.some e.0.there e.0.reads) e.1

  with_few : (ws : List Want) (ts : List Ticket) → Each (Fit files) ts → (length (with_wants ws ts) ≤ length ws + length ts) × (total (read_counts (with_wants ws ts)) ≤ total (read_counts ws) + length ts * 128)
  unfolding with_wants Each
  with_few ws [] e = (omega arith, omega arith)
  with_few ws (t ∷ ts) e =
      let rest = with_few (add_want (want_of t) ws) ts e.1 in
      let a = add_longer (want_of t) ws in
      let b = add_total (want_of t) ws in
      (omega (arith, rest.0), omega (arith, rest.1, e.0.few))

  -- None of them is bad.
  before : ℕ → List ℕ → ℕ → ℕ
  before a ns zero = a
  before a ns (suc i) = get_or ns i 0

  record GoodWant (a : ℕ) (ws : List Want) (i : ℕ) : Type 0 where
    pub above : before a (file_numbers ws) i < get_or (file_numbers ws) i 0
    pub there : get_or (file_numbers ws) i 0 ≤ files
    pub reads : 0 < get_or (read_counts ws) i 0

  ascends_at : (ws : List Want) (a : ℕ) → Ascend files a ws → (i : ℕ) → i < length ws → GoodWant a ws i
  unfolding Ascend before
  ascends_at [] a s i l = absurd (omega arith)
  ascends_at (w ∷ ws) a s zero l = record { above = s.0.0; there = s.0.1; reads = s.1.0 }
  ascends_at (w ∷ ws) a s (suc i) l =
      let g = ascends_at ws w.file s.1.1 i (omega arith) in
      record { above = onward i g.above; there = g.there; reads = g.reads }
    where
      onward : (j : ℕ) → before w.file (file_numbers ws) j < get_or (file_numbers ws) j 0 → get_or (w.file ∷ file_numbers ws) j 0 < get_or (file_numbers ws) j 0
      onward zero h = h
      onward (suc j) h = h

  same_before : (ns : List ℕ) (i : ℕ) → before 0 ns i ≡ number_before ns i
  unfolding before
  same_before ns zero = refl
  same_before ns (suc i) = refl

  want_good_here : (ws : List Want) (i : ℕ) → GoodWant 0 ws i → bad_want files (file_numbers ws) (read_counts ws) i ≡ false
  want_good_here ws i g =
      let a : number_before (file_numbers ws) i < get_or (file_numbers ws) i 0 = rw (same_before (file_numbers ws) i) at g.above in
      rw (
        ne_eqb (get_or (file_numbers ws) i 0) 0 (λ z. omega arith),
        le-ltb files (get_or (file_numbers ws) i 0) g.there,
        lt-leb (get_or (file_numbers ws) i 0) (number_before (file_numbers ws) i) a,
        ne_eqb (get_or (read_counts ws) i 0) 0 (λ z. omega (arith, g.reads)),
      )

  wants_pass : (ws : List Want) → Ascend files 0 ws → length ws ≤ 8 → total (read_counts ws) ≤ 1024 → first_of (wants_checks files (file_numbers ws) (read_counts ws)) ≡ accepted
  wants_pass ws s l t =
      let m : length (file_numbers ws) ≡ length ws = length-map ws (λ w. w.file) in
      let n : length (read_counts ws) ≡ length ws = length-map ws (λ w. w.count) in
      rw (
        le-ltb most_wants (length (file_numbers ws)) (omega arith),
        eq-eqb (length (file_numbers ws)) (length (read_counts ws)) (m ∙ sym n),
        first_all (bad_want files (file_numbers ws) (read_counts ws)) (length (file_numbers ws)) (λ i h. want_good_here ws i (ascends_at ws 0 s i (rw m at h))),
        le-ltb most_reads (total (read_counts ws)) t,
      )

-- Who boards from a table whose tickets name files of the tape.
ticket_fit : (files office last : ℕ) (t : Ticket) → is_ticket office last t ≡ true → t.file ≤ files → Fit files t
ticket_fit files office last t is l =
    let a = (and_true_both (eqb t.office office && up_to most_files t.file && up_to most_count t.count) (up_to last t.number) is).0 in
    let c = and_true_both (eqb t.office office && up_to most_files t.file) (up_to most_count t.count) a in
    let f = (and_true_both (eqb t.office office) (up_to most_files t.file) c.0).1 in
    record {
      some = positive t.file (eqb-false t.file 0 (not-true (eqb t.file 0) (and_true_both (not (eqb t.file 0)) (leb t.file most_files) f).0));
      there = l;
      reads = positive t.count (eqb-false t.count 0 (not-true (eqb t.count 0) (and_true_both (not (eqb t.count 0)) (leb t.count most_count) c.1).0));
      few = leb-true t.count most_count (and_true_both (not (eqb t.count 0)) (leb t.count most_count) c.1).1;
    }
  where
    positive : (n : ℕ) → (n ≡ 0 → ⊥) → 0 < n
    positive zero h = absurd (h refl)
    positive (suc n) h = omega arith

module _ (files : ℕ) (lasts : Lasts) (row : List Ticket) (table : IsTable (record { row = row; lasts = lasts }))
    (one : (i : ℕ) → i < length (waiting 1 row) → (get_or (waiting 1 row) i no_ticket).file ≤ files)
    (two : (i : ℕ) → i < length (waiting 2 row) → (get_or (waiting 2 row) i no_ticket).file ≤ files) where
  boarders_fit : Each (Fit files) (boarders row)
  boarders_fit =
      each_append (Fit files) (take (share_one row) (waiting 1 row)) (take (share_two row) (waiting 2 row))
      (each_take (Fit files) (share_one row) (waiting 1 row) (each_from (Fit files) (waiting 1 row) (λ i l. ticket_fit files 1 lasts.one (get_or (waiting 1 row) i no_ticket) (table.one.each i l) (one i l))))
      (each_take (Fit files) (share_two row) (waiting 2 row) (each_from (Fit files) (waiting 2 row) (λ i l. ticket_fit files 2 lasts.two (get_or (waiting 2 row) i no_ticket) (table.two.each i l) (two i l))))

  boarders_few_here : length (boarders row) ≤ 8
  boarders_few_here =
      let a = length-take-le (share_one row) (waiting 1 row) (share_within (length (waiting 1 row)) (length (waiting 2 row))) in
      let b = length-take-le (share_two row) (waiting 2 row) (share_within (length (waiting 2 row)) (length (waiting 1 row))) in
      rw (length-append (take (share_one row) (waiting 1 row)) (take (share_two row) (waiting 2 row)), a, b) (shares_fit (length (waiting 1 row)) (length (waiting 2 row)))

  boarded_wants_pass : first_of (wants_checks files (file_numbers (wants_of row)) (read_counts (wants_of row))) ≡ accepted
  unfolding wants_of Ascend
  boarded_wants_pass =
      let few = with_few files [] (boarders row) boarders_fit in
      wants_pass files (with_wants [] (boarders row)) (with_ascends files [] (boarders row) tt boarders_fit) (omega (arith, few.0, boarders_few_here)) (omega (arith, few.1, boarders_few_here))

file_known : (office last : ℕ) (t : Ticket) → is_ticket office last t ≡ true → t.file ≤ most_files
file_known office last t is =
    let a = (and_true_both (eqb t.office office && up_to most_files t.file && up_to most_count t.count) (up_to last t.number) is).0 in
    let c = and_true_both (eqb t.office office && up_to most_files t.file) (up_to most_count t.count) a in
    let f = (and_true_both (eqb t.office office) (up_to most_files t.file) c.0).1 in
    leb-true t.file most_files (and_true_both (not (eqb t.file 0)) (leb t.file most_files) f).1

pub wants_in_order : WantsInOrder
unfolding wants_of Ascend before
wants_in_order tape row b table =
    let ws = with_wants [] (boarders row) in
    let l = b.lasts in
    let fit =
    boarders_fit most_files l row table (λ i h. file_known 1 l.one (get_or (waiting 1 row) i no_ticket) (table.one.each i h))
    (λ i h. file_known 2 l.two (get_or (waiting 2 row) i no_ticket) (table.two.each i h)) in
    let up = with_ascends most_files [] (boarders row) tt fit in
    let m : length (file_numbers ws) ≡ length ws = length-map ws (λ w. w.file) in
    let n : length (read_counts ws) ≡ length ws = length-map ws (λ w. w.count) in
    record {
      rise = λ i h. (ascends_at most_files ws 0 up (suc i) (omega (arith, h, m))).above;
      even = n ∙ sym m;
      reads = λ i h. (ascends_at most_files ws 0 up i (omega (arith, h, n))).reads;
    }

-- The kinds that are left.
run_kinds : (b c s q : Bool) → OnlyTheRun (first_of (first_of (accepted ∷ accepted ∷ first_of (refuse_if b TurnPrice ∷ refuse_if c HeadPlace ∷ []) ∷ []) ∷ refuse_if s ShortRow ∷ refuse_if q ShortRoom ∷ [])).refusal
run_kinds true c s q = turn_price
run_kinds false true s q = head_place
run_kinds false false true q = short_row
run_kinds false false false true = short_room
run_kinds false false false false = nothing

row_kinds : (b : Bool) → OnlyTheRun (first_of (refuse_if b ShortRow ∷ accepted ∷ [])).refusal
row_kinds true = short_row
row_kinds false = nothing

plan_kind : (r : Run) (rows : Rows) → first_of (table_checks r.starts r.lengths r.aggregates) ≡ accepted → first_of (wants_checks (length r.starts) r.numbers r.counts) ≡ accepted
    → OnlyTheRun (plan_verdict r rows).refusal
unfolding plan_verdict judge_of
plan_kind r rows t w =
    rw (t, w)
    (run_kinds (ltb highest_turn r.turn) (ltb last_place r.head || ltb r.head (right_end (stops_of r)))
    (short_rows (length r.numbers) (length (stops_of r)) rows) (ltb (length rows.room) (room_for r)))

row_kind : (len : ℕ) (l : Lasts) (row : List Ticket) → IsTable (record { row = row; lasts = l }) → OnlyTheRun (records_verdict len row l).refusal
unfolding records_verdict
row_kind len l row table = rw (none_bad l (waiting 1 row) (waiting 2 row) row table) (row_kinds (ltb len all_places))

pub refused_for_the_run : RefusedForTheRun
unfolding priced_answer
refused_for_the_run len tape row b before after r table tape-ok names fits =
    ⊎_elim
    (λ t. rw (ap (λ x. x.boarded.answer.refusal) (fits.refused t).says) (row_kind len b.lasts row table))
    (λ n. let plans = (fits.planned n).plans in
    ⊎_elim
    (λ t. rw (ap (λ a. a.refusal) (plans.refused t).says) kind)
    (λ p. rw (ap (λ a. a.refusal) (plans.planned p).says) nothing)
    (true_or_false (refuses (plan_verdict (board_run tape row b) before))))
    (true_or_false (refuses (records_verdict len row b.lasts)))
  where
    kind : OnlyTheRun (plan_verdict (board_run tape row b) before).refusal
    kind =
        plan_kind (board_run tape row b) before (none_refuses (table_checks tape.starts tape.lengths tape.aggregates) (table_judged (no_wants_on tape) tape-ok.rows tape-ok.files))
        (boarded_wants_pass (length tape.starts) b.lasts row table (λ i l. names 1 i (inl refl) l) (λ i l. names 2 i (inr refl) l))
