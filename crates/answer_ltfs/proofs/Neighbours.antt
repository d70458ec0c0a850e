-- A table in tape order: its neighbours tell whether any two files overlap, its run passes the judging, and what is answered for it.
use Prim.Native.Nat.{ℕ, zero, suc, ◌+◌, ◌-◌, ◌≤◌, ◌<◌}
use mathlib.Core.Path.{◌≡◌, refl, ap, sym, ◌∙◌}
use mathlib.Core.Bool.{Bool, true, false, cond, not, ◌&&◌, ◌||◌, and-false}
use mathlib.Core.List.{List, [], ◌∷◌, map}
use native.Mathlib.Omega.{arith}
use lib.ListN.{length, get_or, take, length-map, length-replicate, get_or-replicate, get_or-map}
use lib.Seq.{length-take-le, get_or-take}
use lib.Dec.{eqb, ltb, leb}
use borrow.Author.Tests.{ltb-false, leb-true, eqb-false, lt-ltb, le-ltb, eq-eqb, not-true}
use Rattle.refusals.specs.Refusals.{accepted}
use Rattle.runs.specs.Run.{last_place, most_files}
use Rattle.runs.specs.Judging.{right_end}
use Rattle.runs.specs.Alone.{zeros, lone_stops}
use Rattle.runs.specs.Judging.{bad_place, end_before, judge_of}
use Rattle.runs.specs.Alone.{judge_alone}
use Rattle.refusals.specs.Refusals.{first_where}
use Rattle.runs.proofs.Search.{or_false_both, first_all}
use Rattle.runs.proofs.Alone.{all_zero, alone_judged}
use Rattle.text_bytes.proofs.Bytes.{and_true_both}
use Rattle.tape_markup.specs.Tree.{Forest}
use Rattle.tape_files.specs.Index.{every, some, is_none, byte_count_of, partition_of}
use Rattle.tape_ranges.specs.Ranges.{Range, end_of_range}
use Rattle.answer_ltfs.specs.TapeTable.{first_extent, is_empty_file, is_accepted, only, range_of, ranges_of, overlap, some_overlap, last_end, run_of_table}
use Rattle.tape_ranges.specs.Ranges.{ranges_from, neighbour_overlap}
use Rattle.answer_ltfs.specs.Private.Tallies.{TableRows, RowsHold, EndsFit}
use Rattle.answer_ltfs.specs.Promises.{ascending}
use Rattle.answer_ltfs.proofs.Order.{behind}

-- The end of the last file.
last_at_lem : (xs ys : List ℕ) (n : ℕ) → length xs ≡ suc n → length ys ≡ suc n → get_or xs n 0 + get_or ys n 0 ≡ last_end (ranges_from xs ys)
unfolding last_end ranges_from
last_at_lem [] ys n p q = absurd (omega arith)
last_at_lem (x ∷ xs) [] n p q = absurd (omega arith)
last_at_lem (x ∷ []) (y ∷ []) zero p q = refl
last_at_lem (x ∷ []) (y ∷ []) (suc n) p q = absurd (omega arith)
last_at_lem (x ∷ []) (y ∷ z ∷ ys) n p q = absurd (omega arith)
last_at_lem (x ∷ z ∷ xs) (y ∷ []) n p q = absurd (omega arith)
last_at_lem (x ∷ z ∷ xs) (y ∷ w ∷ ys) zero p q = absurd (omega arith)
last_at_lem (x ∷ z ∷ xs) (y ∷ w ∷ ys) (suc n) p q = last_at_lem (z ∷ xs) (w ∷ ys) n (omega arith) (omega arith)

pub last_none : (starts lengths : List ℕ) (kept : ℕ) → kept ≡ 0 → 0 ≡ last_end (ranges_from (take kept starts) (take kept lengths))
unfolding last_end ranges_from
last_none starts lengths kept e = rw e

pub last_found : (starts lengths : List ℕ) (kept : ℕ) → TableRows starts lengths → kept ≤ 256 → (kept ≡ 0 → ⊥)
    → get_or starts (kept - 1) 0 + get_or lengths (kept - 1) 0 ≡ last_end (ranges_from (take kept starts) (take kept lengths))
last_found starts lengths kept fits few n =
    let z : kept ≡ suc (kept - 1) = omega arith in
    let s = get_or-take kept starts (kept - 1) 0 (omega arith) in
    let t = get_or-take kept lengths (kept - 1) 0 (omega arith) in
    sym (ap (λ (m : ℕ). m + get_or (take kept lengths) (kept - 1) 0) s ∙ ap (λ (m : ℕ). get_or starts (kept - 1) 0 + m) t)
    ∙ last_at_lem (take kept starts) (take kept lengths) (kept - 1) (length-take-le kept starts (omega (arith, fits.first)) ∙ z) (length-take-le kept lengths (omega (arith, fits.second)) ∙ z)

-- In a table in tape order whose ranges are not empty, any two overlap where two neighbours do.
abbrev pub is_void : Range → Bool
is_void range = eqb range.bytes 0

abbrev pub is_beyond : Range → Bool
is_beyond range = ltb last_place (end_of_range range)

none_later : (range : Range) (a : ℕ) → end_of_range range ≤ a → (table : List Range) → every (behind a) table ≡ true → some (overlap range) table ≡ false
unfolding every some
none_later range a l [] e = refl
none_later range a l (next ∷ table) e =
    let both = and_true_both (leb a next.start) (every (behind a) table) e in
    let h = leb-true a next.start both.0 in
    rw (le-ltb next.start (end_of_range range) (omega arith), and-false (ltb range.start (end_of_range next))) (none_later range a l table both.1)

pub same_overlap : (table : List Range) → ascending table ≡ true → some is_void table ≡ false → some_overlap table ≡ neighbour_overlap table
unfolding ascending every some some_overlap neighbour_overlap
same_overlap [] e v = refl
same_overlap (range ∷ []) e v = refl
same_overlap (range ∷ next ∷ table) e v =
    let both = and_true_both (leb range.start next.start && every (behind range.start) table) (every (behind next.start) table && ascending table) e in
    let near = and_true_both (leb range.start next.start) (every (behind range.start) table) both.0 in
    let far = and_true_both (every (behind next.start) table) (ascending table) both.1 in
    let later = (or_false_both (is_void range) (is_void next || some is_void table) v).1 in
    let full = eqb-false next.bytes 0 (or_false_both (is_void next) (some is_void table) later).0 in
    let l = leb-true range.start next.start near.0 in
    by_test (ltb next.start (end_of_range range)) refl (lt-ltb range.start (end_of_range next) (omega arith)) far.0 (same_overlap (next ∷ table) both.1 later)
  where
    by_test : (b : Bool) → ltb next.start (end_of_range range) ≡ b → ltb range.start (end_of_range next) ≡ true → every (behind next.start) table ≡ true
        → some_overlap (next ∷ table) ≡ neighbour_overlap (next ∷ table)
        → (ltb range.start (end_of_range next) && b || some (overlap range) table || some_overlap (next ∷ table)) ≡ (b || neighbour_overlap (next ∷ table))
    by_test true t s h r = rw s
    by_test false t s h r = rw (s, none_later range next.start (ltb-false next.start (end_of_range range) t) table h) r

-- No accepted file is empty.
pub none_void : (size partition : ℕ) (files : List (List Forest)) → some is_void (ranges_of size partition files) ≡ false
unfolding ranges_of range_of only some
none_void size partition [] = refl
none_void size partition (file ∷ files) = by_test (is_accepted partition file) refl (none_void size partition files)
  where
    by_test : (b : Bool) → is_accepted partition file ≡ b → some is_void (map (range_of size) (only (is_accepted partition) files)) ≡ false
        → some is_void (map (range_of size) (cond b (file ∷ only (is_accepted partition) files) (only (is_accepted partition) files))) ≡ false
    by_test true t r =
        let full = not-true (is_empty_file file) (and_true_both (not (is_empty_file file)) (eqb (partition_of (first_extent file)) partition) t).0 in
        rw (or_false_both (is_none file) (eqb (byte_count_of (first_extent file)) 0) full).1 r
    by_test false t r = r

-- What holds of no range of a table holds of none at a place in it.
abbrev no_range : Range
no_range = record { start = 0; bytes = 0 }

none_at : (kind : Range → Bool) (table : List Range) → some kind table ≡ false → (i : ℕ) → i < length table → kind (get_or table i no_range) ≡ false
unfolding some
none_at kind [] e i l = absurd (omega arith)
none_at kind (range ∷ table) e zero l = (or_false_both (kind range) (some kind table) e).0
none_at kind (range ∷ table) e (suc i) l = none_at kind table (or_false_both (kind range) (some kind table) e).1 i (omega arith)

neighbours_at : (table : List Range) → neighbour_overlap table ≡ false → (i : ℕ) → suc i < length table → end_of_range (get_or table i no_range) ≤ (get_or table (suc i) no_range).start
unfolding neighbour_overlap
neighbours_at [] e i l = absurd (omega arith)
neighbours_at (range ∷ []) e i l = absurd (omega arith)
neighbours_at (range ∷ next ∷ table) e zero l = ltb-false next.start (end_of_range range) (or_false_both _ _ e).0
neighbours_at (range ∷ next ∷ table) e (suc i) l =
    neighbours_at (next ∷ table) (or_false_both (ltb next.start (end_of_range range)) (neighbour_overlap (next ∷ table)) e).1 i (omega arith)

last_within_lem : (table : List Range) → some is_beyond table ≡ false → last_end table ≤ last_place
unfolding last_end some
last_within_lem [] e = omega arith
last_within_lem (range ∷ []) e = ltb-false last_place (end_of_range range) (or_false_both (is_beyond range) false e).0
last_within_lem (range ∷ next ∷ table) e = last_within_lem (next ∷ table) (or_false_both (is_beyond range) (is_beyond next || some is_beyond table) e).1

-- The first entries of a row of zeros are a row of zeros.
pub zero_row : (n most : ℕ) → n ≤ most → take n (zeros most) ≡ zeros n
zero_row n most l =
    let size : length (take n (zeros most)) ≡ n = length-take-le n (zeros most) (omega (arith, length-replicate {A = ℕ} most 0)) in
    all_zero (take n (zeros most)) (λ i h. get_or-take n (zeros most) i 0 (omega (arith, size)) ∙ get_or-replicate {A = ℕ} most i 0 0 (omega (arith, size))) ∙ ap zeros size

module _ (table : List Range) where
  abbrev startsIn : List ℕ
  startsIn = map (λ range. range.start) table

  abbrev bytesIn : List ℕ
  bytesIn = map (λ range. range.bytes) table

  start_in_here : (i : ℕ) → get_or startsIn i 0 ≡ (get_or table i no_range).start
  start_in_here i = get_or-map (λ range. range.start) table i no_range

  bytes_in : (i : ℕ) → get_or bytesIn i 0 ≡ (get_or table i no_range).bytes
  bytes_in i = get_or-map (λ range. range.bytes) table i no_range

  -- No end in two rows that hold the table is above the limit where none of the table is.
  pub ends_fit_lem : (kept : ℕ) (starts lengths : List ℕ) → RowsHold table kept starts lengths → kept ≡ length table → some is_beyond table ≡ false → EndsFit starts lengths kept
  ends_fit_lem kept starts lengths h k e i l =
      let s : get_or starts i 0 ≡ (get_or table i no_range).start = sym (get_or-take kept starts i 0 l) ∙ ap (λ (row : List ℕ). get_or row i 0) h.start ∙ start_in_here i in
      let b : get_or lengths i 0 ≡ (get_or table i no_range).bytes = sym (get_or-take kept lengths i 0 l) ∙ ap (λ (row : List ℕ). get_or row i 0) h.bytes ∙ bytes_in i in
      let n = ltb-false last_place (end_of_range (get_or table i no_range)) (none_at is_beyond table e i (omega arith)) in
      omega arith

  -- The run of a table within the limits, without overlap, passes 1 to 7.
  pub passes : length table ≤ 256 → some is_void table ≡ false → some is_beyond table ≡ false → neighbour_overlap table ≡ false → judge_of (run_of_table table) ≡ accepted
  unfolding judge_alone run_of_table first_where lone_stops right_end
  passes few full near apart =
      alone_judged startsIn bytesIn [] [] (last_end table) 0
      ∙ rw (
        sizes.0,
        sizes.1,
        first_all (bad_place startsIn bytesIn) (length startsIn) sound,
        le-ltb last_place (last_end table) (last_within_lem table near),
        le-ltb (last_end table) 0 (omega arith),
      )
    where
      sizes : (ltb most_files (length startsIn) ≡ false) × (eqb (length startsIn) (length bytesIn) ≡ true)
      sizes =
          let s = length-map table (λ range. range.start) in
          let b = length-map table (λ range. range.bytes) in
          (le-ltb most_files (length startsIn) (omega arith), eq-eqb (length startsIn) (length bytesIn) (omega arith))

      after : (i : ℕ) → i < length table → end_before startsIn bytesIn i ≤ (get_or table i no_range).start
      after zero l = omega arith
      after (suc i) l = omega (arith, start_in_here i, bytes_in i, neighbours_at table apart i l)

      sound : (i : ℕ) → i < length startsIn → bad_place startsIn bytesIn i ≡ false
      sound i l =
          let s = length-map table (λ range. range.start) in
          let f : eqb (get_or bytesIn i 0) 0 ≡ false = rw (bytes_in i) (none_at is_void table full i (omega arith)) in
          let a : ltb (get_or startsIn i 0) (end_before startsIn bytesIn i) ≡ false = le-ltb (get_or startsIn i 0) (end_before startsIn bytesIn i) (omega (arith, start_in_here i, after i (omega arith))) in
          let n : ltb last_place (get_or startsIn i 0 + get_or bytesIn i 0) ≡ false = rw (start_in_here i, bytes_in i) (none_at is_beyond table near i (omega arith)) in
          rw (f, a, n)
