-- What the judging of a run says of its rows and of its stops, as the head meets them: in order on the tape, and small enough for words.
use Prim.Native.Nat.{ℕ, zero, suc, ◌+◌, ◌-◌, ◌*◌, ◌≤◌, ◌<◌}
use mathlib.Core.Path.{◌≡◌, sym, ap, ◌∙◌}
use mathlib.Core.Logic.{by_cases}
use mathlib.Core.List.{List}
use native.Mathlib.Omega.{arith}
use native.Mathlib.Decide.{dec_lt}
use native.Mathlib.Numerals.{add-one}
use native.Mathlib.Nat.{lt_of_le_of_lt}
use lib.ListN.{length, get_or}
use mir.Syntax.{w64}
use mir.Val.{Fits}
use Rattle.runs.specs.Run.{last_place, highest_turn, most_reads}
use Rattle.runs.specs.Alone.{alone_of, lone_stop, lone_stops}
use Rattle.runs.specs.AnyHead.{lifted}
use Rattle.runs.specs.Rows.{stop_at}
use Rattle.runs.proofs.Accepted.{GoodFile, GoodWant}
use Rattle.runs.proofs.Judged.{GoodRun, numbers_rise}
use Rattle.runs.proofs.AnyHead.{accepted_any, smaller_rises}
use Rattle.runs.proofs.Table.{table_file, end_before_start}
use Rattle.runs.proofs.Alone.{plain_at, plain_length}
use Rattle.least.proofs.Sums.{W-zero, W-suc}
use Rattle.least.specs.Recurrence.{file_at, left_at, right_at, count_at}
use Rattle.engine_table.specs.Private.{Judged, IsStop, TripFits, EarlyFits, RowFits, row_at, start_at, stop_end, reads_in, reads_first}
use Rattle.engine_table.proofs.Sizes.{row_small, reads_none, reads_more, reads_within, in_both, stop_before, place_fits, place_bytes, skip_place_fits, skip_place_bytes, within_reads}

module _ (starts lengths numbers counts : List ℕ) (turn reads : ℕ) (j : Judged starts lengths numbers counts turn reads) where
  good : GoodRun (lifted (alone_of j.starts j.lengths numbers counts j.head turn))
  good = (accepted_any (alone_of j.starts j.lengths numbers counts j.head turn) j.run.accepts).run

  want : (i : ℕ) → i < length numbers → GoodWant (length j.starts) numbers counts i
  want i l = good.wants.each i l

  -- A stop's file in the run's own table.
  inside : (i : ℕ) → i < length numbers → get_or numbers i 0 - 1 < length j.starts
  inside i l = omega (arith, want i l)

  file : (i : ℕ) → i < length numbers → GoodFile j.starts j.lengths (get_or numbers i 0 - 1)
  file i l = table_file j.starts j.lengths good.files.table (get_or numbers i 0 - 1) (inside i l)

  lies_before_here : (i i' : ℕ) → i < i' → i' < length numbers → start_at j.starts numbers i ≤ start_at j.starts numbers i'
  lies_before_here i i' h l =
      omega (
        arith,
        end_before_start j.starts j.lengths good.files.table (get_or numbers i 0 - 1) (get_or numbers i' 0 - 1)
            (omega (arith, numbers_rise (length j.starts) numbers counts good.wants i i' h l, (want i (omega arith)).named))
            (inside i' l),
      )

  pub start_order : (i i' : ℕ) → i ≤ i' → i' < length numbers → start_at starts numbers i ≤ start_at starts numbers i'
  start_order i i' h l =
      by_cases
      (dec_lt i i')
      (λ k.
      omega (
        arith,
        j.met.left (get_or numbers i 0 - 1) (inside i (omega arith)),
        j.met.left (get_or numbers i' 0 - 1) (inside i' l),
        smaller_rises (start_at j.starts numbers i) (start_at j.starts numbers i') j.head (lies_before_here i i' k l),
      ))
      (λ k. let e : i ≡ i' = omega arith in rw e (omega arith))

  pub is_stop : (i : ℕ) → i < length numbers → IsStop starts numbers i
  is_stop i l = record { within = l; named = record { least = (want i l).named; most = omega (arith, (want i l).in_table, j.met.as_many) } }

  pub ends_near : (i : ℕ) → i < length numbers → stop_end starts lengths numbers i ≤ last_place
  ends_near i l = omega (arith, (file i l).ends, j.met.end (get_or numbers i 0 - 1) (inside i l))

  pub even_counts : length numbers ≡ length counts
  even_counts = good.wants.equal

  pub few_stops : length numbers ≤ 64
  few_stops = good.wants.few

  pub few_reads_lem : reads ≤ most_reads
  few_reads_lem = omega (arith, j.run.whole, good.wants.reads)

  pub cheap_turn : turn ≤ highest_turn
  cheap_turn = good.start.cheap

  pub reads_up_to_lem : (n : ℕ) → n ≤ length numbers → reads_in counts n ≤ reads
  reads_up_to_lem n l = omega (arith, j.run.whole, reads_within counts n (omega (arith, even_counts)))

  pub count_few : (i : ℕ) → i < length numbers → get_or counts i 0 ≤ most_reads
  count_few i l = omega (arith, reads_up_to_lem (i + 1) (omega arith), reads_more counts i, few_reads_lem)

  pub trip_fits : (c b : ℕ) → c ≤ b → b < length numbers → TripFits starts lengths numbers turn c b
  trip_fits c b h l =
      record {
        from = is_stop c (omega arith);
        to = is_stop b l;
        even = j.met.as_many ∙ sym j.met.even;
        onward = omega (arith, start_order c b h l);
        near = ends_near b l;
        cheap = cheap_turn;
      }

  pub early_fits : (a b : ℕ) → a ≤ b → b < length numbers → EarlyFits starts numbers counts a b
  early_fits a b h l =
      record {
        from = is_stop a (omega arith);
        to = is_stop b l;
        even = even_counts;
        onward = start_order a b h l;
        near = omega (arith, ends_near b l);
        few = count_few b l;
      }

  -- The stops' places and counts are those of the rows.
  pub stop_at_lem : (i : ℕ) → i < length numbers → stop_at (lone_stops starts lengths numbers counts) i ≡ lone_stop starts lengths (get_or numbers i 0) (get_or counts i 0)
  stop_at_lem i l = plain_at starts lengths numbers counts (sym even_counts) i l

  pub stops_length : length (lone_stops starts lengths numbers counts) ≡ length numbers
  stops_length = plain_length starts lengths numbers counts (sym even_counts)

  pub left_at_lem : (i : ℕ) → i < length numbers → left_at (lone_stops starts lengths numbers counts) i ≡ start_at starts numbers i
  left_at_lem i l = ap (λ s. s.start) (stop_at_lem i l)

  pub right_at_lem : (i : ℕ) → i < length numbers → right_at (lone_stops starts lengths numbers counts) i ≡ stop_end starts lengths numbers i
  right_at_lem i l = ap (λ s. s.end) (stop_at_lem i l)

  pub count_at_lem : (i : ℕ) → i < length numbers → count_at (lone_stops starts lengths numbers counts) i ≡ get_or counts i 0
  count_at_lem i l = ap (λ s. s.count) (stop_at_lem i l)

  pub file_at_lem : (i : ℕ) → i < length numbers → file_at (lone_stops starts lengths numbers counts) i ≡ get_or numbers i 0
  file_at_lem i l = ap (λ s. s.file) (stop_at_lem i l)

  pub reads_at : (n : ℕ) → n ≤ length numbers → reads_first (lone_stops starts lengths numbers counts) n ≡ reads_in counts n
  reads_at zero l = W-zero (count_at (lone_stops starts lengths numbers counts)) ∙ sym (reads_none counts)
  reads_at (suc n) l =
      let more : reads_in counts (suc n) ≡ reads_in counts n + get_or counts n 0 = rw (add-one n) at (reads_more counts n) in
      omega (arith, W-suc (count_at (lone_stops starts lengths numbers counts)) n, count_at_lem n l, reads_at n (omega arith), more)

  pub row_fits : (a b : ℕ) → a < length numbers → b < length numbers → RowFits (length numbers) reads a b
  row_fits a b h l = record { left = h; right = l; few = few_stops; most = few_reads_lem }

  -- A word of a row has a number that fits.
  pub row_part_small : (a b x y : ℕ) → a < length numbers → b < length numbers → x ≡ row_at (length numbers) reads a b → y ≤ most_reads → x + y ≤ 5000000
  row_part_small a b x y h l e m = omega (arith, row_small (length numbers) reads a b (row_fits a b h l))

  -- A stop's count is there.
  pub counted : (i : ℕ) → i < length numbers → i < length counts
  counted i l = in_both i (length numbers) (length counts) l even_counts

  -- Row (c, b), for a stop c up to b + 1.
  pub inner_row_fits : (c b : ℕ) → c ≤ b + 1 → b + 1 < length numbers → RowFits (length numbers) reads c b
  inner_row_fits c b h l = row_fits c b (lt_of_le_of_lt h l) (stop_before b (length numbers) l)

  -- The place of its word past the reads of stop b + 1, and past s more.
  module _ (c b x : ℕ) (h : c ≤ b + 1) (l : b + 1 < length numbers) (e : x ≡ row_at (length numbers) reads c b) where
    inner_small : x + get_or counts (b + 1) 0 ≤ 5000000
    inner_small = row_part_small c b x (get_or counts (b + 1) 0) (lt_of_le_of_lt h l) (stop_before b (length numbers) l) e (count_few (b + 1) l)

    pub inner_fits : Fits w64 (x + get_or counts (b + 1) 0)
    inner_fits = place_fits x (get_or counts (b + 1) 0) inner_small

    pub inner_skip_fits : (s r : ℕ) → s + r ≤ reads → Fits w64 (x + get_or counts (b + 1) 0 + s)
    inner_skip_fits s r m = skip_place_fits x (get_or counts (b + 1) 0) s r reads inner_small m few_reads_lem

    pub inner_skip_bytes : (s r : ℕ) → s + r ≤ reads → Fits w64 ((x + get_or counts (b + 1) 0 + s) * 8)
    inner_skip_bytes s r m = skip_place_bytes x (get_or counts (b + 1) 0) s r reads inner_small m few_reads_lem

  -- The place of a row's word past s reads.
  module _ (a b x : ℕ) (h : a < length numbers) (l : b < length numbers) (e : x ≡ row_at (length numbers) reads a b) (s r : ℕ) (m : s + r ≤ reads) where
    word_small : x + s ≤ 5000000
    word_small = row_part_small a b x s h l e (within_reads s r reads m few_reads_lem)

    pub word_fits : Fits w64 (x + s)
    word_fits = place_fits x s word_small

    pub word_bytes : Fits w64 ((x + s) * 8)
    word_bytes = place_bytes x s word_small
