-- Runs that share a tape: the sum of a movement is one over the files as they are handed in, so it adds up where their reads do; and what serves a
-- run serves every run that wants no more.
use Prim.Native.Nat.{ℕ, suc, ◌+◌, ◌*◌, ◌≤◌, ◌<◌}
use native.Mathlib.Omega.{arith}
use native.Mathlib.Nat.{le_refl}
use mathlib.Core.Path.{◌≡◌, refl, sym, ap, ◌∙◌}
use mathlib.Core.Bool.{cond}
use mathlib.Core.List.{List, [], ◌∷◌}
use lib.ListN.{length, get_or}
use lib.Dec.{T, eqb}
use borrow.Author.Tests.{eq-eqb, ne_eqb}
use Rattle.walk.specs.declared.Head.{Head}
use Rattle.walk.specs.declared.Leg.{Leg}
use Rattle.runs.specs.Run.{Run, Stop, stop_of, want_stops, want_stops_of, stops_of}
use Rattle.runs.specs.Rows.{stop_at}
use Rattle.runs.specs.Lists.{Detour, WellFormed, bad_entry, first_bad_entry}
use Rattle.walk.specs.Walk.{head_at, Moves, served, ServesAll, time_of, sum_of}
use Rattle.walk.specs.Detours.{legs_of}
use Rattle.runs.proofs.Search.{first_zero}
use Rattle.runs.proofs.Judged.{GoodRun}
use Rattle.runs.proofs.Stops.{run_sound, stops_few}
use Rattle.walk.proofs.Joins.{served_same, time_same, run_sum_joined}
use Rattle.walk.proofs.Walks.{good_entry, walkable}
use Rattle.least.specs.Least.{list_sum, LeastForRun}
use Rattle.least.specs.Wants.{reads_of_file}
use Rattle.least.specs.Recurrence.{W}
use Rattle.least.proofs.Sums.{W-same, W-add, W-none, W-one}
use Rattle.least.proofs.Sweeps.{all_served}
use Rattle.least.proofs.Walks.{serves_each}
use Rattle.least.proofs.Wanted.{reads_no_more}
use Rattle.least.proofs.Unbeaten.{Covers, same_table, covers_of_reads, no_movement_beats}

-- When a movement reads a file of the table, which is when it reads that file's aggregate; and its sum over wants, file by file.
module _ (starts lengths aggregates : List ℕ) (price : ℕ) (h : Head) (gs : List Leg) where
  abbrev readAt : ℕ → ℕ
  readAt f = time_of price h gs (stop_of starts lengths aggregates f 0)

  sum_by_files : (N : ℕ) (ns cs : List ℕ) → ((i : ℕ) → i < length ns → get_or ns i 0 < N)
      → sum_of price h gs (want_stops starts lengths aggregates ns cs) ≡ W (λ f. reads_of_file ns cs f * readAt f) N
  unfolding sum_of want_stops reads_of_file
  sum_by_files N [] cs small = sym (W-none (λ f. 0 * readAt f) N (λ f l. omega arith))
  sum_by_files N (n ∷ ns) [] small = sym (W-none (λ f. 0 * readAt f) N (λ f l. omega arith))
  sum_by_files N (n ∷ ns) (c ∷ cs) small =
      let here : cond (eqb n n) c 0 * readAt n ≡ c * readAt n = rw (eq-eqb n n refl) in
      let placed : time_of price h gs (stop_of starts lengths aggregates n c) ≡ readAt n
      = time_same price gs h (stop_of starts lengths aggregates n c) (stop_of starts lengths aggregates n 0) (record { start = refl; end = refl }) in
      omega (
        arith,
        ap (λ t. c * t) placed,
        sum_by_files N ns cs (λ i l. small (suc i) (omega arith)),
        W-same (λ f. (cond (eqb n f) c 0 + reads_of_file ns cs f) * readAt f) (λ f. cond (eqb n f) c 0 * readAt f + reads_of_file ns cs f * readAt f) N (λ f l. omega arith),
        W-add (λ f. cond (eqb n f) c 0 * readAt f) (λ f. reads_of_file ns cs f * readAt f) N,
        W-one (λ f. cond (eqb n f) c 0 * readAt f) n N (small 0 (omega arith)) (λ f e. rw (ne_eqb n f (λ q. e (sym q))) (omega arith)),
        here,
      )

-- The reads of each file in a run, and two runs on one tape, with one head place and one turn price.
abbrev pub reads_by : Run → ℕ → ℕ
reads_by r f = reads_of_file r.numbers r.counts f

pub record OneTape (r r' : Run) : Type 0 where
  pub starts : r.starts ≡ r'.starts
  pub lengths : r.lengths ≡ r'.lengths
  pub aggregates : r.aggregates ≡ r'.aggregates
  pub head : r.head ≡ r'.head
  pub turn : r.turn ≡ r'.turn

run_sum_by_files : (price : ℕ) (h : Head) (gs : List Leg) (r : Run) → GoodRun r
    → sum_of price h gs (stops_of r) ≡ W (λ f. reads_by r f * readAt r.starts r.lengths r.aggregates price h gs f) (suc (length r.starts))
run_sum_by_files price h gs r good =
    run_sum_joined price h gs r
    ∙ sum_by_files r.starts r.lengths r.aggregates price h gs (suc (length r.starts)) r.numbers r.counts (λ i l. omega (arith, (good.wants.each i l).in_table))

-- Where a run's reads are those of two others together, so is the sum of whatever movement.
sum_adds : (price : ℕ) (h : Head) (gs : List Leg) (shared one other : Run) → GoodRun shared → GoodRun one → GoodRun other → OneTape shared one → OneTape shared other
    → ((f : ℕ) → reads_by shared f ≡ reads_by one f + reads_by other f)
    → sum_of price h gs (stops_of shared) ≡ sum_of price h gs (stops_of one) + sum_of price h gs (stops_of other)
sum_adds price h gs shared one other good good₁ good₂ tape tape' reads =
    rw (
      run_sum_by_files price h gs shared good,
      run_sum_by_files price h gs one good₁,
      run_sum_by_files price h gs other good₂,
      ← tape.starts,
      ← tape.lengths,
      ← tape.aggregates,
      ← tape'.starts,
      ← tape'.lengths,
      ← tape'.aggregates,
    )
    (W-same
    (λ f. reads_by shared f * when f)
    (λ f. reads_by one f * when f + reads_by other f * when f)
    (suc (length shared.starts))
    (λ f l. rw (reads f) (omega arith))
    ∙ W-add (λ f. reads_by one f * when f) (λ f. reads_by other f * when f) (suc (length shared.starts)))
  where
    when : ℕ → ℕ
    when f = readAt shared.starts shared.lengths shared.aggregates price h gs f

-- The legs of a run's list are a movement that serves it.
walk_moves : (r : Run) → GoodRun r → (list : List Detour) → WellFormed (stops_of r) list → Moves r.head (legs_of (stops_of r) list)
unfolding first_bad_entry
walk_moves r good list formed =
    (walkable (stops_of r) r.head (run_sound r good) list
    (λ i l. good_entry (stops_of r) list i (first_zero (bad_entry (stops_of r) list) (length list) formed i l))
    r.turn (omega (arith, stops_few r good, good.wants.few)) good.start.near good.start.cheap).moves

serves_where : (gs : List Leg) (ss : List Stop) → ((i : ℕ) → i < length ss → T (served gs (stop_at ss i))) → ServesAll gs ss
unfolding ServesAll
serves_where gs [] h = tt
serves_where gs (s ∷ ss) h = (h 0 (omega arith), serves_where gs ss (λ i l. h (suc i) (omega arith)))

serves_covered : (gs : List Leg) (stops stops' : List Stop) → Covers stops stops' → ServesAll gs stops → ServesAll gs stops'
serves_covered gs stops stops' c serves =
    serves_where gs stops'
    (λ i l.
    rw (← (served_same gs (stop_at stops (c.index i)) (stop_at stops' i) (record { start = c.starts i l; end = c.ends i l })))
    (serves_each gs stops serves (c.index i) (c.within i l)))

covers_itself : (stops : List Stop) → Covers stops stops
covers_itself stops =
    record { index = λ i. i; within = λ i l. l; files = λ i l. refl; starts = λ i l. refl; ends = λ i l. refl; counts = λ i l. le_refl _ }

-- Two runs on one tape, the second wanting no file more often: no walk of the first serves the second better than its own least list.
module _ (r r' : Run) (good : GoodRun r) (good' : GoodRun r') (tape : OneTape r r')
    (fewer : (f : ℕ) → reads_by r' f ≤ reads_by r f) where
  covers : Covers (stops_of r) (stops_of r')
  covers =
      covers_of_reads r'.head (stops_of r) (stops_of r') (run_sound r' good') (reads_no_more r r' good good' tape.starts tape.aggregates fewer)
      (rw (tape.starts, tape.lengths, tape.aggregates) (same_table r'.starts r'.lengths r'.aggregates r.numbers r.counts r'.numbers r'.counts))

  served_no_better : (list : List Detour) → WellFormed (stops_of r) list → (least : List Detour) → LeastForRun r' least
      → list_sum r'.turn r'.head (stops_of r') least ≤ sum_of r.turn (head_at r.head) (legs_of (stops_of r) list) (stops_of r')
  served_no_better list formed least is =
      let gs : List Leg = legs_of (stops_of r) list in
      rw (tape.head, tape.turn)
      (no_movement_beats r'.turn r'.head r'.turn r'.head (stops_of r') (stops_of r') (run_sound r' good') (run_sound r' good') (le_refl _) (le_refl _)
      (covers_itself (stops_of r')) gs (rw (← tape.head) (walk_moves r good list formed))
      (serves_covered gs (stops_of r) (stops_of r') covers (all_served (stops_of r) r.head (run_sound r good) list)) least is)

-- A run that wants what two others want together: the sum of its least list is no less than theirs.
pub sharing_never_pays : (shared one other : Run) → GoodRun shared → GoodRun one → GoodRun other → OneTape shared one → OneTape shared other
    → ((f : ℕ) → reads_by shared f ≡ reads_by one f + reads_by other f)
    → (list l l' : List Detour) → LeastForRun shared list → LeastForRun one l → LeastForRun other l'
    → list_sum one.turn one.head (stops_of one) l + list_sum other.turn other.head (stops_of other) l' ≤ list_sum shared.turn shared.head (stops_of shared) list
sharing_never_pays shared one other good good₁ good₂ tape tape' reads list l l' least least₁ least₂ =
    omega (
      arith,
      sum_adds shared.turn (head_at shared.head) (legs_of (stops_of shared) list) shared one other good good₁ good₂ tape tape' reads,
      served_no_better shared one good good₁ tape (λ f. omega (arith, reads f)) list least.formed l least₁,
      served_no_better shared other good good₂ tape' (λ f. omega (arith, reads f)) list least.formed l' least₂,
    )
