-- By value: rows with entries in front and nothing behind them, and what the contracts of a sheet's run, its list and its text say by conditions.
use Prim.Native.Nat.{ℕ, zero, suc, ◌+◌, ◌-◌, ◌≤◌, ◌<◌}
use mathlib.Core.Path.{◌≡◌, refl, sym, ap, ◌∙◌, subst}
use mathlib.Core.Bool.{Bool, true, false, true≢false}
use mathlib.Core.Logic.{⊎_elim}
use mathlib.Core.List.{List, [], ◌∷◌, ◌++◌, map}
use native.Mathlib.Omega.{arith}
use lib.ListN.{length, get_or, take, drop, length-append, length-take, length-drop, get_or-append, get_or-eq_default}
use lib.Seq.{take_at, get_or-append-add, get_or-take, get_or-drop}
use lib.Dec.{ltb}
use Rattle.refusals.specs.declared.Refusal.{Refusal}
use Rattle.refusals.specs.declared.Refusal.TheVariants.{Accepted, ShortRoom}
use Rattle.refusals.specs.declared.Verdict.{Verdict}
use Rattle.refusals.specs.Refusals.{number_of, is_refusal, refuse_if, first_of}
use Rattle.refusals.proofs.Verdicts.{refuses, first_refuses, first_passes, none_refuses, all_accept}
use Rattle.runs.specs.Run.{Run, run_of}
use Rattle.runs.specs.Alone.{zeros}
use Rattle.runs.specs.Judging.{judge_of}
use Rattle.runs.specs.Lists.{Detour, list_of}
use Rattle.runs.specs.AnyHead.{lifted}
use Rattle.runs.proofs.Judged.{accepted_run}
use Rattle.runs.proofs.Search.{true_or_false}
use Rattle.runs.proofs.AnyHead.{accepted_any}
use Rattle.least.specs.Least.{LeastForRun}
use Rattle.least.specs.AnyHead.{LeastAny}
use Rattle.engine_stops.proofs.Halves.{list_of_halves, half_long}
use Rattle.planner.specs.Plan.{room_for}
use Rattle.sheet_reader.specs.Sheet.{sheet_files, sheet_wants, sheet_run, sheet_name}
use Rattle.sheet_reader.specs.Reading.{sheet_verdict, rule_verdict, read_name}
use Rattle.sheet_reader.proofs.Good.{no_bad_line}
use Rattle.sheet_reader.proofs.Rows.{length_each}
use Rattle.sheet_runs.specs.declared.SheetRun.{SheetRun}
use Rattle.sheet_runs.specs.SheetRuns.{early_verdict, filled_up, in_rows, run_by_value}
use Rattle.sheet_runs.proofs.Runs.{sheet_holds}
use Rattle.answer_plan.specs.declared.PlannedList.{PlannedList}
use Rattle.answer_plan.specs.Recall.{room_words, run_checks}
use Rattle.answer_plan.specs.PlannedLists.{in_list, ListsRun}
use Rattle.answer_any.specs.AnyRun.{any_checks}
use Rattle.answer_any.proofs.Planned.{room_kept, room_cleared}
use Rattle.desk_tickets.specs.declared.Ticket.{Ticket}
use Rattle.desk_tickets.specs.WaitingTable.{no_ticket, placed, row_without}
use Rattle.desk_tickets.proofs.Placed.{placed_at, placed_long}
use Rattle.demands.specs.RefusalTable.{RunApplies}
use Rattle.demands.specs.SheetLines.{OnItsLines}
use Rattle.demands.proofs.Tests.{tells_below}
use Rattle.demands.proofs.Checks.{decides_if, decides_reworded, Finds, finds_none, finds_first}
use Rattle.demands.proofs.Judged.{run_small, run_finds}
use Rattle.demands.proofs.Counted.{has_stops, stops_one}
use Rattle.demands.proofs.AnyLifted.{stops_down}
use Rattle.demands.proofs.FirstLine.{no_line}
use Rattle.demands.proofs.SheetLines.{sheet_holds_its_lines}
use Rattle.demands.proofs.Writers.{plan_sheet_writer, plan_any_sheet_writer}
use Rattle.promises.specs.Answers.{RoomApplies, short_room}
use Rattle.promises.specs.TwoTexts.{PlannedApplies, planned_order}
use Rattle.promises.specs.CallersLists.{RefusalIsAnswered, MovedUp, FirstOnesLeave, OnlyFirst, run_is, SheetRunTold, SheetRunIsRead, ListTold, RunInWords, ListIsTold, AnyListIsTold, ListIsWritten, AnyListIsWritten}
use Rattle.promises.proofs.Answers.{refusal_is_handed}
use Rattle.promises.proofs.TwoTexts.{early_finds, planned_finds}

pub refusal_is_answered : RefusalIsAnswered
refusal_is_answered v = record { kind = refl; place = refl; others = refl }

-- An office's places.
module _ (first gone : ℕ) (row row' : List Ticket) (inside : length (take 16 (drop first row)) ≡ 16)
    (at : (i : ℕ) → i < 16 → get_or row' (first + i) no_ticket ≡ get_or (placed (drop gone (take 16 (drop first row)))) i no_ticket) where
  abbrev half : List Ticket
  half = take 16 (drop first row)

  there : (i : ℕ) → i < 16 → get_or row' (first + i) no_ticket ≡ get_or half (gone + i) no_ticket
  there i l = at i l ∙ placed_at (drop gone half) i ∙ get_or-drop gone half i no_ticket

  moved_up : MovedUp first gone row row'
  moved_up =
      record {
        others = λ i l.
            there i (omega arith) ∙ get_or-take 16 (drop first row) (gone + i) no_ticket (omega arith) ∙ get_or-drop first row (gone + i) no_ticket
            ∙ ap (λ k. get_or row k no_ticket) (omega arith);
        empty = λ i l m. there i l ∙ get_or-eq_default half no_ticket (omega (arith, inside));
      }

module _ (one two : ℕ) (row : List Ticket) (long : length row ≡ 32) where
  abbrev ones : List Ticket
  ones = drop one (take 16 (drop 0 row))

  abbrev twos : List Ticket
  twos = drop two (take 16 (drop 16 row))

  half_of : (first : ℕ) → first + 16 ≤ 32 → length (take 16 (drop first row)) ≡ 16
  half_of first l = simp (length-take, length-drop) (omega (arith, long))

  ones_long : length (placed ones) ≡ 16
  ones_long = placed_long ones (omega (arith, length-drop one (take 16 (drop 0 row)), half_of 0 (omega arith)))

  twos_long : length (placed twos) ≡ 16
  twos_long = placed_long twos (omega (arith, length-drop two (take 16 (drop 16 row)), half_of 16 (omega arith)))

  first_leave : (length (row_without one two row) ≡ 32) × (MovedUp 0 one row (row_without one two row) × MovedUp 16 two row (row_without one two row))
  unfolding row_without
  first_leave = (
    omega (arith, length-append (placed ones) (placed twos), ones_long, twos_long),
    (
      moved_up 0 one row (placed ones ++ placed twos) (half_of 0 (omega arith))
          (λ i l. ap (λ k. get_or (placed ones ++ placed twos) k no_ticket) (omega arith) ∙ get_or-append (placed ones) (placed twos) no_ticket i (rw ones_long l)),
      moved_up 16 two row (placed ones ++ placed twos) (half_of 16 (omega arith))
          (λ i l. ap (λ k. get_or (placed ones ++ placed twos) (k + i) no_ticket) (sym ones_long) ∙ get_or-append-add (placed ones) (placed twos) i no_ticket),
    ),
  )

pub first_ones_leave : FirstOnesLeave
first_ones_leave one two row long = first_leave one two row long

-- Values in front and zeros behind them.
zero_at_lem : (m i : ℕ) → get_or (zeros m) i 0 ≡ 0
zero_at_lem zero i = refl
zero_at_lem (suc m) zero = refl
zero_at_lem (suc m) (suc i) = zero_at_lem m i

only_first : (n room : ℕ) (values : List ℕ) → length values ≡ n → OnlyFirst n (filled_up room values)
only_first n room values e =
    record {
      told = ap length (take_at values (zeros (room - length values)) n e) ∙ e;
      behind = λ i l.
          let far : length values + (i - n) ≡ i = omega arith in
          ap (λ k. get_or (filled_up room values) k 0) (sym far) ∙ get_or-append-add values (zeros (room - length values)) (i - n) 0 ∙ zero_at_lem (room - length values) (i - n);
    }

-- A sheet's run.
record FiveRows (r : SheetRun) : Type 0 where
  starts : OnlyFirst r.files r.starts
  lengths : OnlyFirst r.files r.lengths
  aggregates : OnlyFirst r.files r.aggregates
  numbers : OnlyFirst r.wants r.numbers
  counts : OnlyFirst r.wants r.counts

five_rows : (v : Verdict) (run : Run) → length run.lengths ≡ length run.starts → length run.aggregates ≡ length run.starts → length run.counts ≡ length run.numbers → FiveRows (in_rows v run)
five_rows v run l a c =
    record {
      starts = only_first _ 256 run.starts refl;
      lengths = only_first _ 256 run.lengths l;
      aggregates = only_first _ 256 run.aggregates a;
      numbers = only_first _ 64 run.numbers refl;
      counts = only_first _ 64 run.counts c;
    }

module _ (sheet : List ℕ) where
  abbrev early : List Verdict
  early = sheet_verdict sheet ∷ rule_verdict sheet ∷ []

  rows_of : (b : Bool) → refuses (first_of early) ≡ b → FiveRows (run_by_value sheet)
  unfolding run_by_value early_verdict sheet_run
  rows_of true e = rw e (five_rows (first_of early) (run_of [] [] [] [] [] 0 0) refl refl refl)
  rows_of false e =
      rw e
      (five_rows (first_of early) (sheet_run sheet) (length_each _ (sheet_files sheet) ∙ sym (length_each _ (sheet_files sheet))) (length_each _ (sheet_files sheet) ∙ sym (length_each _ (sheet_files sheet))) (length_each _ (sheet_wants sheet) ∙ sym (length_each _ (sheet_wants sheet))))

  said : (run_by_value sheet).verdict ≡ first_of early
  unfolding run_by_value early_verdict
  said = refl

  none_so : ((run_by_value sheet).verdict.refusal ≡ Accepted → ⊥) → ((run_by_value sheet).files ≡ 0) × ((run_by_value sheet).wants ≡ 0) × ((run_by_value sheet).head ≡ 0) × ((run_by_value sheet).turn ≡ 0)
  unfolding run_by_value early_verdict
  none_so n =
      ⊎_elim
      (λ (e : refuses (first_of early) ≡ true). (rw e, rw e, rw e, rw e))
      (λ (e : refuses (first_of early) ≡ false). absurd (n (ap (λ v. v.refusal) (none_refuses early e))))
      (true_or_false (refuses (first_of early)))

  read_so : (run_by_value sheet).verdict.refusal ≡ Accepted → OnItsLines sheet (sheet_name sheet) (run_is (run_by_value sheet))
  read_so a =
      let h = sheet_holds sheet (run_by_value sheet) refl (is_refusal (run_by_value sheet).verdict.refusal) refl (ap is_refusal a) in
      subst (OnItsLines sheet (sheet_name sheet)) (sym h.run) (sheet_holds_its_lines sheet (no_line sheet (no_bad_line sheet h.good)))

  sheet_run_here : SheetRunTold sheet (run_by_value sheet)
  sheet_run_here =
      let rows = rows_of (refuses (first_of early)) refl in
      record {
        first = rw said (early_finds sheet);
        none = none_so;
        read = read_so;
        starts = rows.starts;
        lengths = rows.lengths;
        aggregates = rows.aggregates;
        numbers = rows.numbers;
        counts = rows.counts;
      }

pub sheet_run_is_read : SheetRunIsRead
sheet_run_is_read sheet = sheet_run_here sheet

-- A list by value, under checks that find the first that applies.
module _ (Applies : Run → Refusal → ℕ → Type 0) (Least : Run → List Detour → Type 0) (checks : Run → List Verdict) (r : SheetRun)
    (finds : Finds (Applies (run_is r)) planned_order (first_of (checks (run_is r)))) (l : PlannedList) (h : ListsRun Least checks r l) where
  abbrev all : List Verdict
  all = r.verdict ∷ checks (run_is r)

  -- Whatever the verdict, some list in two rows.
  record Held : Type 0 where
    list : List Detour
    is : l ≡ in_list (first_of all) list
    none : refuses (first_of all) ≡ true → length list ≡ 0
    least : refuses (first_of all) ≡ false → Least (run_is r) list

  held : (b : Bool) → refuses (first_of all) ≡ b → Held
  held true e = record { list = []; is = h.refused e; none = λ t. refl; least = λ f. absurd (true≢false (sym e ∙ f)) }
  held false e =
      let p = h.planned e in
      record { list = p.list; is = p.says ∙ ap (λ v. in_list v p.list) (sym (none_refuses all e)); none = λ t. absurd (true≢false (sym t ∙ e)); least = λ f. p.least }

  abbrev some : Held
  some = held (refuses (first_of all)) refl

  verdict_is_here : l.verdict ≡ first_of all
  verdict_is_here = ap (λ x. x.verdict) some.is

  pub passes : l.verdict.refusal ≡ Accepted → refuses (first_of all) ≡ false
  passes a = ap is_refusal (sym (ap (λ v. v.refusal) verdict_is_here) ∙ a)

  pub stops_short : (l.verdict.refusal ≡ Accepted → ⊥) → refuses (first_of all) ≡ true
  stops_short n = ⊎_elim (λ t. t) (λ f. absurd (n (ap (λ v. v.refusal) (verdict_is_here ∙ none_refuses all f)))) (true_or_false (refuses (first_of all)))

  front : (f : Detour → ℕ) → take (length some.list) (filled_up 63 (map f some.list)) ≡ map f some.list
  front f = take_at (map f some.list) (zeros (63 - length (map f some.list))) (length some.list) (half_long f some.list)

  list_is : list_of (take l.detours l.froms) (take l.detours l.tos) ≡ some.list
  list_is =
      ap (λ (x : PlannedList). list_of (take x.detours x.froms) (take x.detours x.tos)) some.is
      ∙ ap (λ froms. list_of froms (take (length some.list) (filled_up 63 (map (λ d. d.to) some.list)))) (front (λ d. d.from))
      ∙ ap (list_of (map (λ d. d.from) some.list)) (front (λ d. d.to))
      ∙ list_of_halves some.list

  list_told : ListTold Applies Least r l
  list_told =
      record {
        early = λ e. verdict_is_here ∙ sym (first_refuses r.verdict (checks (run_is r)) e);
        first = λ e. rw (verdict_is_here ∙ first_passes r.verdict (checks (run_is r)) e) finds;
        none = λ n. ap (λ x. x.detours) some.is ∙ some.none (stops_short n);
        least = λ a. subst (Least (run_is r)) (sym list_is) (some.least (passes a));
        froms = subst (λ (x : PlannedList). OnlyFirst x.detours x.froms) (sym some.is) (only_first _ 63 (map (λ d. d.from) some.list) (half_long (λ d. d.from) some.list));
        tos = subst (λ (x : PlannedList). OnlyFirst x.detours x.tos) (sym some.is) (only_first _ 63 (map (λ d. d.to) some.list) (half_long (λ d. d.to) some.list));
      }

-- 1 to 7, then 9 in 5,120 words.
module _ (r : Run) where
  room_number : (k : Refusal) (p : ℕ) → RoomApplies r k p → number_of k ≡ 9
  room_number k p (short_room s h) = refl

  of_run_here : (k : Refusal) (p : ℕ) → number_of k ≤ 7 → RunInWords r k p → RunApplies r k p
  of_run_here k p l (RunInWords.run h) = h
  of_run_here k p l (RunInWords.room h) = absurd (omega (arith, room_number k p h))

  room_back : refuses (judge_of r) ≡ false → (p : ℕ) → RunInWords r ShortRoom p → (p ≡ 0) × (5120 < room_for r)
  room_back a p (RunInWords.run h) = absurd (omega (arith, run_small r h))
  room_back a p (RunInWords.room (short_room s h)) = (refl, rw (stops_one r (accepted_run r a) s) at h)

  words_find : Finds (RunInWords r) planned_order (first_of (run_checks r))
  words_find =
      run_finds r (RunInWords r) (λ k p. RunInWords.run) of_run_here (ShortRoom ∷ []) (refuse_if (ltb room_words (room_for r)) ShortRoom ∷ [])
      (λ a. finds_first (RunInWords r) [] refl
      (decides_reworded (λ p h. rw h.0 (RunInWords.room (short_room (has_stops r (accepted_run r a)) h.1))) (room_back a) (decides_if _ ShortRoom (tells_below room_words (room_for r))))
      (λ b. finds_none (RunInWords r)))

pub list_is_told : ListIsTold
list_is_told r l h = list_told RunInWords LeastForRun run_checks r (words_find (run_is r)) l h

pub any_list_is_told : AnyListIsTold
any_list_is_told r room l room' h =
    let run = run_is r in
    let checks = any_checks (length room) in
    let v = first_of (r.verdict ∷ checks run) in
    let finds = planned_finds (length room) run in (
      list_told (PlannedApplies (length room)) LeastAny checks r finds l h.listed,
      record {
        kept = λ n. h.cleared ∙ room_kept v run room (stops_short (PlannedApplies (length room)) LeastAny checks r finds l h.listed n);
        cleared = λ a.
            let e = passes (PlannedApplies (length room)) LeastAny checks r finds l h.listed a in
            let judged = (all_accept (r.verdict ∷ checks run) e).1.0 in
            record { stops = _; are = stops_down run (has_stops (lifted run) (accepted_any run judged).run); left = h.cleared ∙ room_cleared v run room e };
      },
    )

pub list_is_written : ListIsWritten
list_is_written sheet r l row n row' h =
    record {
      answer = h.text;
      bytes = h.bytes;
      lines = λ e. refusal_is_handed l.verdict row h.text row' (h.refused e);
      text = λ e. plan_sheet_writer (read_name sheet) (run_is r) (take l.detours l.froms) (take l.detours l.tos) row h.text row' (h.planned e);
    }

pub any_list_is_written : AnyListIsWritten
any_list_is_written sheet r l row answer row' h = plan_any_sheet_writer (read_name sheet) (run_is r) (take l.detours l.froms) (take l.detours l.tos) row answer row' h
