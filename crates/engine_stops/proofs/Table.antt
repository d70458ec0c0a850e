-- The joined table of an accepted run is accepted, and its stops are the run's, numbered from 1.
use Prim.Native.Nat.{ℕ, zero, suc, ◌+◌, ◌-◌, ◌≤◌, ◌<◌}
use mathlib.Core.Path.{◌≡◌, refl, sym, ap, ◌∙◌}
use mathlib.Core.Bool.{false}
use mathlib.Core.List.{List, [], ◌∷◌, map}
use native.Mathlib.Omega.{arith}
use lib.ListN.{length, get_or, length-map, get_or-map}
use lib.Seq.{ext_get_or}
use Rattle.refusals.proofs.Verdicts.{refuses}
use Rattle.runs.specs.Run.{Run, Stop, stops_of, end_at, total, most_reads, most_wants, last_place}
use Rattle.runs.specs.Judging.{right_end}
use Rattle.runs.specs.Alone.{lone_stop, lone_stops}
use Rattle.runs.specs.Rows.{stop_at}
use Rattle.runs.specs.Judging.{judge_of, bad_place, end_before, number_before}
use Rattle.runs.specs.Private.{SoundTable}
use Rattle.runs.proofs.Search.{first_all}
use Rattle.runs.proofs.Accepted.{GoodFile, file_good, GoodWant}
use Rattle.runs.proofs.Sound.{Sound}
use Rattle.runs.proofs.Joined.{reads_of}
use Rattle.runs.proofs.Judged.{GoodWants, GoodRun, accepted_run}
use Rattle.runs.proofs.Stops.{run_sound, stops_few, stops_reads}
use Rattle.runs.proofs.Alone.{alone_stops, alone_accepted, plain_length, plain_at}
use Rattle.engine_stops.specs.Joining.{length_of}
use Rattle.engine_stops.specs.Private.{count_up, joined_table, renumbered}

pub count_length : (n k : ℕ) → length (count_up n k) ≡ k
unfolding count_up
count_length n zero = refl
count_length n (suc k) = ap suc (count_length (suc n) k)

pub count_at_lem : (n k i : ℕ) → i < k → get_or (count_up n k) i 0 ≡ n + i
unfolding count_up
count_at_lem n zero i l = absurd (omega arith)
count_at_lem n (suc k) zero l = omega arith
count_at_lem n (suc k) (suc i) l = omega (arith, count_at_lem (suc n) k i (omega arith))

pub renumbered_length : (n : ℕ) (ss : List Stop) → length (renumbered n ss) ≡ length ss
unfolding renumbered
renumbered_length n [] = refl
renumbered_length n (s ∷ ss) = ap suc (renumbered_length (suc n) ss)

abbrev pub numbered : ℕ → Stop → Stop
numbered n s = record { file = n; start = s.start; end = s.end; count = s.count }

pub renumbered_at : (n : ℕ) (ss : List Stop) (i : ℕ) → i < length ss → stop_at (renumbered n ss) i ≡ numbered (n + i) (stop_at ss i)
unfolding renumbered
renumbered_at n [] i l = absurd (omega arith)
renumbered_at n (s ∷ ss) zero l = let e : n + 0 ≡ n = omega arith in rw e refl
renumbered_at n (s ∷ ss) (suc i) l =
    let e : suc n + i ≡ n + suc i = omega arith in
    renumbered_at (suc n) ss i (omega arith) ∙ ap (λ m. numbered m (stop_at ss i)) e

pub renumbered_right : (n : ℕ) (ss : List Stop) → right_end (renumbered n ss) ≡ right_end ss
unfolding renumbered right_end
renumbered_right n [] = refl
renumbered_right n (s ∷ []) = refl
renumbered_right n (s ∷ t ∷ ts) = renumbered_right (suc n) (t ∷ ts)

map_at : (g : Stop → ℕ) (ss : List Stop) (i : ℕ) → g (record { file = 0; start = 0; end = 0; count = 0 }) ≡ 0 → get_or (map g ss) i 0 ≡ g (stop_at ss i)
map_at g ss i e = rw e at (get_or-map g ss i (record { file = 0; start = 0; end = 0; count = 0 }))

total_reads : (ss : List Stop) → total (map (λ s. s.count) ss) ≡ reads_of ss
unfolding reads_of
total_reads [] = refl
total_reads (s ∷ ss) = ap (λ n. s.count + n) (total_reads ss)

module _ (ss : List Stop) (m : ℕ) (ok : Sound ss m) where
  start_at_here : (i : ℕ) → get_or (map (λ s. s.start) ss) i 0 ≡ (stop_at ss i).start
  start_at_here i = map_at (λ s. s.start) ss i refl

  end_at_here : (i : ℕ) → i < length ss → end_at (map (λ s. s.start) ss) (map length_of ss) i ≡ (stop_at ss i).end
  end_at_here i l = omega (arith, start_at_here i, map_at length_of ss i refl, ok.extends i l)

  -- One stop for each file of the joined table.
  table_stops : lone_stops (map (λ s. s.start) ss) (map length_of ss) (count_up 1 (length ss)) (map (λ s. s.count) ss) ≡ renumbered 1 ss
  table_stops =
      ext_get_or (record { file = 0; start = 0; end = 0; count = 0 }) (lone_stops (map (λ s. s.start) ss) (map length_of ss) (count_up 1 (length ss)) (map (λ s. s.count) ss)) (renumbered 1 ss)
      (size ∙ sym (renumbered_length 1 ss)) each
    where
      even : length (map (λ s. s.count) ss) ≡ length (count_up 1 (length ss))
      even = length-map ss (λ s. s.count) ∙ sym (count_length 1 (length ss))

      size : length (lone_stops (map (λ s. s.start) ss) (map length_of ss) (count_up 1 (length ss)) (map (λ s. s.count) ss)) ≡ length ss
      size = plain_length (map (λ s. s.start) ss) (map length_of ss) (count_up 1 (length ss)) (map (λ s. s.count) ss) even ∙ count_length 1 (length ss)

      file : (i : ℕ) → i < length ss → lone_stop (map (λ s. s.start) ss) (map length_of ss) (1 + i) (stop_at ss i).count ≡ numbered (1 + i) (stop_at ss i)
      file i l =
          let e : (1 + i) - 1 ≡ i = omega arith in
          rw (e, start_at_here i, sym (ap (λ x. x + get_or (map length_of ss) i 0) (start_at_here i)) ∙ end_at_here i l) refl

      each : (i : ℕ) → i < length (lone_stops (map (λ s. s.start) ss) (map length_of ss) (count_up 1 (length ss)) (map (λ s. s.count) ss))
          → stop_at (lone_stops (map (λ s. s.start) ss) (map length_of ss) (count_up 1 (length ss)) (map (λ s. s.count) ss)) i ≡ stop_at (renumbered 1 ss) i
      each i h =
          let l : i < length ss = omega (arith, size) in
          plain_at (map (λ s. s.start) ss) (map length_of ss) (count_up 1 (length ss)) (map (λ s. s.count) ss) even i (omega (arith, count_length 1 (length ss)))
          ∙ rw (count_at_lem 1 (length ss) i l, map_at (λ s. s.count) ss i refl) (file i l)
          ∙ sym (renumbered_at 1 ss i l)

  -- The table is sound, and so are the wants.
  table_file_here : m ≤ last_place → (i : ℕ) → i < length ss → GoodFile (map (λ s. s.start) ss) (map length_of ss) i
  table_file_here near i l =
      record {
        long = omega (arith, map_at length_of ss i refl, ok.extends i l);
        after = after i l;
        ends = omega (arith, end_at_here i l, ok.reached i l);
      }
    where
      after : (j : ℕ) → j < length ss → end_before (map (λ s. s.start) ss) (map length_of ss) j ≤ get_or (map (λ s. s.start) ss) j 0
      after zero h = omega arith
      after (suc j) h = omega (arith, end_at_here j (omega arith), ok.apart j h, start_at_here (suc j))

  table_sound : m ≤ last_place → SoundTable (map (λ s. s.start) ss) (map length_of ss)
  table_sound near =
      let a = length-map ss (λ s. s.start) in
      let b = length-map ss length_of in
      record {
        equal = a ∙ sym b;
        sound = first_all (bad_place (map (λ s. s.start) ss) (map length_of ss)) (length (map (λ s. s.start) ss))
            (λ i l. file_good (map (λ s. s.start) ss) (map length_of ss) i (table_file_here near i (omega (arith, a))));
      }

  table_wants : length ss ≤ most_wants → reads_of ss ≤ most_reads → GoodWants (length (map (λ s. s.start) ss)) (count_up 1 (length ss)) (map (λ s. s.count) ss)
  table_wants few reads =
      record {
        few = omega (arith, count_length 1 (length ss));
        equal = count_length 1 (length ss) ∙ sym (length-map ss (λ s. s.count));
        each = λ i l. want i (omega (arith, count_length 1 (length ss)));
        reads = omega (arith, total_reads ss);
      }
    where
      want : (i : ℕ) → i < length ss → GoodWant (length (map (λ s. s.start) ss)) (count_up 1 (length ss)) (map (λ s. s.count) ss) i
      want i l =
          record {
            named = omega (arith, count_at_lem 1 (length ss) i l);
            in_table = omega (arith, count_at_lem 1 (length ss) i l, length-map ss (λ s. s.start));
            above = above i l;
            counted = omega (arith, map_at (λ s. s.count) ss i refl, ok.counted i l);
          }
        where
          above : (j : ℕ) → j < length ss → number_before (count_up 1 (length ss)) j < get_or (count_up 1 (length ss)) j 0
          above zero h = omega (arith, count_at_lem 1 (length ss) 0 h)
          above (suc j) h = omega (arith, count_at_lem 1 (length ss) j (omega arith), count_at_lem 1 (length ss) (suc j) h)

-- The joined table of an accepted run.
module _ (r : Run) (accepts : refuses (judge_of r) ≡ false) where
  good : GoodRun r
  good = accepted_run r accepts

  ok : Sound (stops_of r) r.head
  ok = run_sound r good

  wants_good : GoodWants (length (map (λ s. s.start) (stops_of r))) (count_up 1 (length (stops_of r))) (map (λ s. s.count) (stops_of r))
  wants_good = table_wants (stops_of r) r.head ok (omega (arith, stops_few r good, good.wants.few)) (omega (arith, stops_reads r good, good.wants.reads))

  pub joined_stops : stops_of (joined_table r) ≡ renumbered 1 (stops_of r)
  joined_stops =
      alone_stops (map (λ s. s.start) (stops_of r)) (map length_of (stops_of r)) (count_up 1 (length (stops_of r))) (map (λ s. s.count) (stops_of r)) r.head r.turn _ wants_good
      ∙ table_stops (stops_of r) r.head ok

  pub joined_accepted : refuses (judge_of (joined_table r)) ≡ false
  joined_accepted =
      alone_accepted (map (λ s. s.start) (stops_of r)) (map length_of (stops_of r)) (count_up 1 (length (stops_of r))) (map (λ s. s.count) (stops_of r)) r.head r.turn
      (omega (arith, length-map (stops_of r) (λ s. s.start), stops_few r good, good.wants.few))
      (table_sound (stops_of r) r.head ok good.start.near)
      wants_good
      (record { cheap = good.start.cheap; near = good.start.near; past = rw (table_stops (stops_of r) r.head ok, renumbered_right 1 (stops_of r)) good.start.past })

  -- As many reads as the run has.
  pub joined_reads : total (joined_table r).counts ≡ total r.counts
  joined_reads = total_reads (stops_of r) ∙ stops_reads r good

  pub joined_wants : length (joined_table r).numbers ≡ length (stops_of r)
  joined_wants = count_length 1 (length (stops_of r))
