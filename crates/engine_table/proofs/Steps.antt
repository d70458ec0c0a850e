-- Filling a row of the table: every word that is read is right, so the words made of them are, and no sum wraps.
use Prim.Native.Nat.{ℕ, suc, ◌+◌, ◌-◌, ◌*◌, ◌≤◌, ◌<◌}
use mathlib.Core.Path.{◌≡◌, sym, ◌∙◌}
use mathlib.Core.List.{List}
use native.Mathlib.Omega.{arith}
use native.Mathlib.Numerals.{add-one}
use native.Mathlib.Nat.{mul-le-mul, le_refl, add-zero}
use lib.ListN.{length, get_or}
use mir.Syntax.{w64}
use mir.Val.{Fits}
use Rattle.runs.specs.Run.{Stop, last_place, highest_turn, most_reads}
use Rattle.runs.specs.Alone.{lone_stops}
use Rattle.least.specs.Recurrence.{trip, early, W, lower, left_at, right_at, count_at}
use Rattle.least.proofs.Sums.{W-suc, W-rises}
use Rattle.least.proofs.Bounds.{candidate_bound}
use Rattle.least.proofs.Lines.{supported_sum, supported_same}
use Rattle.least.proofs.Edges.{value_supported, value_supported_later}
use Rattle.engine_table.specs.Private.{Judged, Written, Apart, LowerFits, Edges, SoFar, lowered, RowTask, DetourFrom, row_at, reads_in, reads_first, start_at, stop_end, worth, choice_worth}
use Rattle.engine_table.proofs.Words.{written_same}
use Rattle.engine_table.proofs.Facts.{left_at_lem, right_at_lem, count_at_lem, reads_at, few_reads_lem, cheap_turn, ends_near, reads_up_to_lem, count_few}
use Rattle.engine_table.proofs.Cells.{row_inside, rows_apart}
use Rattle.engine_table.proofs.Choices.{candidate_detour}

-- A detour's price, the reads it delays and what is paid on top fit a word together.
pub wait_small : (slope w n : ℕ) → slope ≤ 2 * (highest_turn + last_place) → w ≤ most_reads → n ≤ most_reads + 1
    → slope * w + slope * n ≤ 2 * (highest_turn + last_place) * most_reads + 2 * (highest_turn + last_place) * (most_reads + 1)
wait_small slope w n h l m = omega (arith, mul-le-mul h l, mul-le-mul h m)

-- So does what it delays, and what is paid before the first word.
delay_fit : (slope w : ℕ) → slope ≤ 2 * (highest_turn + last_place) → w ≤ most_reads → Fits w64 (slope * w)
delay_fit slope w h l = omega (arith, mul-le-mul h l)

base_fit : (x : ℕ) → x ≤ 2 * (highest_turn + last_place) * most_reads + 2 * last_place * most_reads → Fits w64 x
base_fit x h = omega arith

-- So does a choice's cost, as often as a row has words.
times_small : (v n : ℕ) → v ≤ 2 * (highest_turn + 2 * last_place) * most_reads → n ≤ most_reads + 1 → v * n ≤ 2 * (highest_turn + 2 * last_place) * most_reads * (most_reads + 1)
times_small v n h l = mul-le-mul h l

-- A candidate's sum, from its parts.
candidate_sum : (slope w e s x y v : ℕ) → v ≡ slope * (w + s) + e + x + y → slope * w + e + slope * s + x + y ≡ v
candidate_sum slope w e s x y v h = omega arith

module _ (starts lengths numbers counts : List ℕ) (turn reads : ℕ) (j : Judged starts lengths numbers counts turn reads) (b : ℕ) (inside : b + 1 < length numbers) where
  pub count_next : count_at (lone_stops starts lengths numbers counts) (suc b) ≡ get_or counts (b + 1) 0
  count_next = rw (← add-one b) (count_at_lem starts lengths numbers counts turn reads j (b + 1) inside)

  pub reads_next : reads_first (lone_stops starts lengths numbers counts) (suc (suc b)) ≡ reads_in counts (b + 2)
  reads_next =
      let e : suc (suc b) ≡ b + 2 = omega arith in
      rw e (reads_at starts lengths numbers counts turn reads j (b + 2) (omega arith))

  pub trip_is : (c : ℕ) → c ≤ b + 1 → trip (left_at (lone_stops starts lengths numbers counts)) (right_at (lone_stops starts lengths numbers counts)) turn c (suc b) ≡ 2 * (turn + (stop_end starts lengths numbers (b + 1) - start_at starts numbers c))
  trip_is c h =
      rw
      (← add-one b, right_at_lem starts lengths numbers counts turn reads j (b + 1) inside, left_at_lem starts lengths numbers counts turn reads j c (omega arith))

  pub early_is : (c : ℕ) → c ≤ b + 1 → early (left_at (lone_stops starts lengths numbers counts)) (count_at (lone_stops starts lengths numbers counts)) c (suc b) ≡ 2 * (start_at starts numbers (b + 1) - start_at starts numbers c) * get_or counts (b + 1) 0
  early_is c h =
      rw
      (← add-one b, left_at_lem starts lengths numbers counts turn reads j (b + 1) inside, left_at_lem starts lengths numbers counts turn reads j c (omega arith), count_at_lem starts lengths numbers counts turn reads j (b + 1) inside)

  -- What a choice comes to is far below a word's limit.
  pub choice_small : (a s c : ℕ) → c ≤ b + 1 → s + reads_in counts (b + 2) ≤ reads → choice_worth (lone_stops starts lengths numbers counts) turn a b s c ≤ 2 * (turn + 2 * last_place) * most_reads
  choice_small a s c h l =
      candidate_bound (left_at (lone_stops starts lengths numbers counts)) (right_at (lone_stops starts lengths numbers counts)) (count_at (lone_stops starts lengths numbers counts)) turn last_place most_reads a b s c
      (λ i m. omega (arith, left_at_lem starts lengths numbers counts turn reads j i (omega arith), ends_near starts lengths numbers counts turn reads j i (omega arith)))
      (rw (← add-one b, right_at_lem starts lengths numbers counts turn reads j (b + 1) inside) (ends_near starts lengths numbers counts turn reads j (b + 1) inside))
      (omega (arith, reads_next, few_reads_lem starts lengths numbers counts turn reads j))
      (omega arith)

module _ (starts lengths numbers counts : List ℕ) (turn reads : ℕ) (room : List ℕ) (a b n : ℕ) (t : RowTask starts lengths numbers counts turn reads room a b n) where
  abbrev k : ℕ
  k = length numbers

  abbrev stops : List Stop
  stops = lone_stops starts lengths numbers counts

  pub skipped : (s : ℕ) → s < n → s + reads_in counts (b + 2) ≤ reads
  skipped s l = omega (arith, t.span)

  next_reads : reads_first stops (suc (suc b)) ≡ reads_first stops (suc b) + count_at stops (suc b)
  next_reads = W-suc (count_at stops) (suc b)

  -- The words of a row (c, b), from where the reads of stop b + 1 are skipped too.
  pub inner_word : (c s : ℕ) → c ≤ b + 1 → s < n → get_or room (row_at k reads c b + get_or counts (b + 1) 0 + s) 0 ≡ worth stops turn c b (s + count_at stops (suc b))
  inner_word c s h l =
      let at : row_at k reads c b + get_or counts (b + 1) 0 + s ≡ row_at k reads c b + (s + count_at stops (suc b)) = omega (arith, count_next starts lengths numbers counts turn reads t.judged b t.inside) in
      rw at (t.columns c b (le_refl b) (omega arith) (s + count_at stops (suc b)) (omega (arith, next_reads, reads_next starts lengths numbers counts turn reads t.judged b t.inside, skipped s l)))

  pub rest_word : (d s : ℕ) → a ≤ d → d ≤ b → s < n → get_or room (row_at k reads a d + s) 0 ≡ worth stops turn a d s
  rest_word d s h h' l =
      t.columns a d h' (omega arith) s
      (omega (arith, W-rises (count_at stops) (suc d) (suc (suc b)) (omega arith), reads_next starts lengths numbers counts turn reads t.judged b t.inside, skipped s l))

  -- A part of a row of an earlier column does not meet row (a, b + 1).
  pub earlier_apart : (a' b' x : ℕ) → b' ≤ b → x + n ≤ reads + 1 → Apart (row_at k reads a' b' + x) (row_at k reads a (b + 1)) n
  earlier_apart a' b' x h l = rows_apart k reads a' b' a (b + 1) x n (omega (arith, t.inside)) t.inside (λ e e'. omega arith) l

  pub room_for : (a' b' x : ℕ) → a' < k → b' < k → x + n ≤ reads + 1 → row_at k reads a' b' + x + n ≤ length room
  room_for a' b' x h h' l = omega (arith, row_inside k reads a' b' x n h h' l, t.big)

  pub count_span : get_or counts (b + 1) 0 + n ≤ reads + 1
  count_span = omega (arith, t.span, count_next starts lengths numbers counts turn reads t.judged b t.inside, next_reads, reads_next starts lengths numbers counts turn reads t.judged b t.inside)

  -- What the code has at hand for the detour from c: its price, what stop b + 1 pays, and three places of the room.
  module _ (c w : ℕ) (d : DetourFrom counts a b c w) where
    waiting : W (count_at stops) c ≡ w
    waiting = reads_at starts lengths numbers counts turn reads t.judged c (omega (arith, t.inside, d.up_to)) ∙ sym d.left

    pub waiting_few : w ≤ most_reads
    waiting_few = omega (arith, d.left, reads_up_to_lem starts lengths numbers counts turn reads t.judged c (omega (arith, t.inside, d.up_to)), few_reads_lem starts lengths numbers counts turn reads t.judged)

    module _ (slope : ℕ) (slope-is : slope ≡ 2 * (turn + (stop_end starts lengths numbers (b + 1) - start_at starts numbers c))) where
      pub slope_small : slope ≤ 2 * (highest_turn + last_place)
      slope_small = omega (arith, slope-is, cheap_turn starts lengths numbers counts turn reads t.judged, ends_near starts lengths numbers counts turn reads t.judged (b + 1) t.inside)

      pub delay_fits : Fits w64 (slope * w)
      delay_fits = delay_fit slope w slope_small waiting_few

      module _ (e : ℕ) (e-is : e ≡ 2 * (start_at starts numbers (b + 1) - start_at starts numbers c) * get_or counts (b + 1) 0) where
        pub early_small : e ≤ 2 * last_place * most_reads
        early_small =
            let h : 2 * (start_at starts numbers (b + 1) - start_at starts numbers c) ≤ 2 * last_place = omega (arith, ends_near starts lengths numbers counts turn reads t.judged (b + 1) t.inside) in
            rw e-is (mul-le-mul h (count_few starts lengths numbers counts turn reads t.judged (b + 1) t.inside))

        pub base_small : slope * w + e ≤ 2 * (highest_turn + last_place) * most_reads + 2 * last_place * most_reads
        base_small = omega (arith, mul-le-mul slope_small waiting_few, early_small)

        pub base_fits : Fits w64 (slope * w + e)
        base_fits = base_fit (slope * w + e) base_small

        choice_parts : (s : ℕ) → choice_worth stops turn a b s c ≡ slope * (w + s) + e + worth stops turn c b (s + count_at stops (suc b)) + worth stops turn a (c - 1) s
        choice_parts s =
            candidate_detour (left_at stops) (right_at stops) (count_at stops) turn (worth stops turn) a b s c (omega (arith, d.after))
            ∙ rw (trip_is starts lengths numbers counts turn reads t.judged b t.inside c d.up_to, early_is starts lengths numbers counts turn reads t.judged b t.inside c d.up_to, waiting, slope-is, e-is)

        module _ (cell at rest : ℕ) (cell-is : cell ≡ row_at k reads a (b + 1)) (at-is : at ≡ row_at k reads c b) (rest_is : rest ≡ row_at k reads a (c - 1)) where
          pub detour_word : (s : ℕ) → s < n → slope * w + e + slope * s + get_or room (at + get_or counts (b + 1) 0 + s) 0 + get_or room (rest + s) 0 ≡ choice_worth stops turn a b s c
          detour_word s l =
              rw
              (at-is, rest_is, inner_word c s d.up_to l, rest_word (c - 1) s (omega (arith, d.after)) (omega (arith, d.up_to, d.after)) l)
              (candidate_sum slope w e s (worth stops turn c b (s + count_at stops (suc b))) (worth stops turn a (c - 1) s) (choice_worth stops turn a b s c) (choice_parts s))

          pub detour_fits : LowerFits cell (at + get_or counts (b + 1) 0) rest (slope * w + e) slope n room
          detour_fits =
              record {
                cell_in = omega (arith, cell-is, room_for a (b + 1) 0 (omega (arith, t.window, t.inside)) t.inside (omega (arith, count_span)));
                inner_in = rw at-is (room_for c b (get_or counts (b + 1) 0) (omega (arith, d.up_to, t.inside)) (omega (arith, t.inside)) count_span);
                rest_in = omega (arith, rest_is, room_for a (c - 1) 0 (omega (arith, t.window, t.inside)) (omega (arith, d.up_to, d.after, t.inside)) (omega (arith, count_span)));
                inner_apart = rw (at-is, cell-is) (earlier_apart c b (get_or counts (b + 1) 0) (le_refl b) count_span);
                rest_apart = rw (rest_is, cell-is) (rest_away);
                wait_fits = omega (arith, wait_small slope w n slope_small waiting_few (omega (arith, t.span, few_reads_lem starts lengths numbers counts turn reads t.judged)), early_small);
                fits = λ s l. omega (arith, detour_word s l, choice_small starts lengths numbers counts turn reads t.judged b t.inside a s c d.up_to (skipped s l), cheap_turn starts lengths numbers counts turn reads t.judged);
              }
            where
              rest_away : Apart (row_at k reads a (c - 1)) (row_at k reads a (b + 1)) n
              rest_away = rw add-zero at (earlier_apart a (c - 1) 0 (omega (arith, d.up_to, d.after)) (omega (arith, count_span)))

          pub detour_edges : SoFar (row_at k reads a (b + 1)) n room → Edges cell (at + get_or counts (b + 1) 0) rest n room
          detour_edges so =
              record {
                row = rw cell-is so.edge;
                sum =
                    supported_same (λ s. worth stops turn c b (s + count_at stops (suc b)) + worth stops turn a (c - 1) s) (λ s. get_or room (at + get_or counts (b + 1) 0 + s) 0 + get_or room (rest + s) 0) n
                    (λ s l. sym (both_words s l))
                    (supported_sum (λ s. worth stops turn c b (s + count_at stops (suc b))) (λ s. worth stops turn a (c - 1) s) n
                    (value_supported_later (left_at stops) (right_at stops) (count_at stops) turn c b (count_at stops (suc b)) n)
                    (value_supported (left_at stops) (right_at stops) (count_at stops) turn a (c - 1) n));
                times_fit = λ s l. rw cell-is (omega (arith, times_small (get_or room (row_at k reads a (b + 1) + s) 0) n (so.small s l) (omega (arith, t.span, few_reads_lem starts lengths numbers counts turn reads t.judged))));
              }
            where
              both_words : (s : ℕ) → s < n → get_or room (at + get_or counts (b + 1) 0 + s) 0 + get_or room (rest + s) 0 ≡ worth stops turn c b (s + count_at stops (suc b)) + worth stops turn a (c - 1) s
              both_words s l = rw (at-is, rest_is, inner_word c s d.up_to l, rest_word (c - 1) s (omega (arith, d.after)) (omega (arith, d.up_to, d.after)) l)

          pub detour_written : (after : List ℕ) → Written cell n (lowered cell (at + get_or counts (b + 1) 0) rest (slope * w + e) slope room) room after
              → Written (row_at k reads a (b + 1)) n (λ s. lower (get_or room (row_at k reads a (b + 1) + s) 0) (choice_worth stops turn a b s c)) room after
          detour_written after h =
              rw cell-is at (written_same cell n (lowered cell (at + get_or counts (b + 1) 0) rest (slope * w + e) slope room) (λ s. lower (get_or room (cell + s) 0) (choice_worth stops turn a b s c)) room after
              (λ s l. rw (detour_word s l)) h)
