-- No movement of one run beats the least list of another that wants no more: the head further left, the turn cheaper, each file read as often or less.
use Prim.Native.Nat.{ℕ, zero, suc, ◌-◌, ◌*◌, ◌≤◌, ◌<◌}
use native.Mathlib.Omega.{arith}
use native.Mathlib.Nat.{mul-le-mul_left, mul-le-mul_right}
use mathlib.Core.Path.{◌≡◌, refl, sym, ◌∙◌}
use mathlib.Core.Bool.{false, cond}
use mathlib.Core.Logic.{by_cases}
use mathlib.Core.List.{List, [], ◌∷◌}
use native.Mathlib.Decide.{ℕ_discrete}
use lib.Dec.{eqb}
use lib.ListN.{length}
use borrow.Author.Tests.{eq-eqb, ne_eqb}
use Rattle.runs.specs.Run.{Stop, stop_of, merged, join_to, joined, want_stops}
use Rattle.runs.specs.Rows.{stop_at}
use Rattle.walk.specs.declared.Leg.{Leg}
use Rattle.walk.specs.Walk.{head_at, Moves, ServesAll, time_of, sum_of}
use Rattle.runs.specs.Lists.{Detour}
use Rattle.runs.proofs.Sound.{Sound, SoundAny, sound_any}
use Rattle.runs.proofs.Joined.{Places, Alike, by_name, join_none, join_same, join_other}
use Rattle.runs.proofs.Stops.{stops_agree}
use Rattle.least.specs.Least.{list_sum, LeastFor}
use Rattle.least.specs.Wants.{reads_of}
use Rattle.least.specs.Recurrence.{W, file_at, left_at, right_at, count_at, least_list}
use Rattle.least.proofs.Rising.{Rises, index_order}
use Rattle.least.proofs.Sums.{W-below, W-part}
use Rattle.least.proofs.Feasible.{Feasible, InTime, plan_in_time, feasible_of_movement, feasible_part, feasible_below}
use Rattle.least.proofs.Times.{planTime}
use Rattle.least.proofs.Walks.{any_spaced, by_file, sum_by_index, serves_each}
use Rattle.least.proofs.Lists.{numbers_rise}
use Rattle.least.proofs.LeastList.{least_list_some, chosen_lowest, least_list_lem}

-- The sum of the table's list is no larger than any feasible times make it: some plan reads every stop no later.
feasible_sum : (U m n : ℕ) (stops : List Stop) (t : ℕ → ℕ) → SoundAny stops m → length stops ≡ suc n → Feasible m U (left_at stops) (right_at stops) n t
    → list_sum U m stops (least_list U stops) ≤ W (λ i. count_at stops i * t i) (length stops)
feasible_sum U m n stops t ok size v =
    let w : InTime m U (left_at stops) (right_at stops) n t = plan_in_time m U (left_at stops) (right_at stops) n t (any_spaced stops m n ok size) v in
    rw (least_list_some U n stops size, size)
    (omega (
      arith,
      chosen_lowest m n stops ok size U w.plan w.over,
      W-below
          (λ i. count_at stops i * planTime (left_at stops) (right_at stops) U w.plan 0 n m i)
          (λ i. count_at stops i * t i)
          (suc n)
          (λ i h. mul-le-mul_left (count_at stops i) (w.timely i (omega arith))),
    ))

-- Every stop of the second list is one of the first, wanted there at least as often.
pub record Covers (stops stops' : List Stop) : Type 0 where
  pub index : ℕ → ℕ
  pub within : (i : ℕ) → i < length stops' → index i < length stops
  pub files : (i : ℕ) → i < length stops' → file_at stops (index i) ≡ file_at stops' i
  pub starts : (i : ℕ) → i < length stops' → left_at stops (index i) ≡ left_at stops' i
  pub ends : (i : ℕ) → i < length stops' → right_at stops (index i) ≡ right_at stops' i
  pub counts : (i : ℕ) → i < length stops' → count_at stops' i ≤ count_at stops (index i)

-- Times that are feasible for the first list are for the second, the head further left and the turn cheaper.
module _ (U m U' m' n n' : ℕ) (stops stops' : List Stop) (ok : SoundAny stops m) (ok' : SoundAny stops' m') (size : length stops ≡ suc n) (size' : length stops' ≡ suc n')
    (covers : Covers stops stops') (t : ℕ → ℕ) (feasible : Feasible m U (left_at stops) (right_at stops) n t) where
  -- Files rise in both lists, so the stops of the second stand in the first in their order.
  index_rises : Rises covers.index n'
  index_rises i j h l =
      index_order (file_at stops) n (numbers_rise m n stops ok size) (covers.index i) (covers.index j) (omega (arith, covers.within i (omega arith)))
      (omega (arith, covers.files i (omega arith), covers.files j (omega arith), numbers_rise m' n' stops' ok' size' i j h l))

  still_feasible : m' ≤ m → U' ≤ U → Feasible m' U' (left_at stops') (right_at stops') n' (λ i. t (covers.index i))
  still_feasible hm hU =
      feasible_below m U (left_at stops') (right_at stops') n' (λ i. t (covers.index i))
      (feasible_part m U (left_at stops) (right_at stops) n t feasible
      (left_at stops') (right_at stops') covers.index n' index_rises
      (λ i h. (omega (arith, covers.within i (omega arith)), covers.starts i (omega arith), covers.ends i (omega arith))))
      m' U' hm hU

  -- So the table's list for the second has no larger sum than they make for the first.
  pub covered_sum : m' ≤ m → U' ≤ U → list_sum U' m' stops' (least_list U' stops') ≤ W (λ i. count_at stops i * t i) (length stops)
  covered_sum hm hU =
      omega (
        arith,
        feasible_sum U' m' n' stops' (λ i. t (covers.index i)) ok' size' (still_feasible hm hU),
        W-below
            (λ i. count_at stops' i * t (covers.index i))
            (λ i. count_at stops (covers.index i) * t (covers.index i))
            (length stops')
            (λ i h. mul-le-mul_right (t (covers.index i)) (covers.counts i h)),
        W-part (λ i. count_at stops i * t i) covers.index (length stops') (length stops) (λ i j h k. index_rises i j h (omega arith)) covers.within,
      )

some_unbeaten : (U m U' m' n n' : ℕ) (stops stops' : List Stop) → Sound stops m → Sound stops' m' → length stops ≡ suc n → length stops' ≡ suc n' → Covers stops stops'
    → (gs : List Leg) → Moves m gs → ServesAll gs stops → m' ≤ m → U' ≤ U → (list : List Detour) → LeastFor U' m' stops' list → list_sum U' m' stops' list ≤ sum_of U (head_at m) gs stops
some_unbeaten U m U' m' n n' stops stops' ok ok' size size' covers gs moves serves hm hU list least =
    omega (
      arith,
      least.smallest (least_list U' stops') (least_list_lem U' m' stops' ok').formed,
      covered_sum U m U' m' n n' stops stops' (sound_any stops m ok) (sound_any stops' m' ok') size size' covers (λ i. time_of U (head_at m) gs (stop_at stops i))
          (feasible_of_movement U m gs moves (stop_at stops) n (λ i h. omega (arith, ok.extends i (omega arith))) (λ i h. serves_each gs stops serves i (omega arith))) hm hU,
      sum_by_index U (head_at m) gs stops,
    )

none_unbeaten : (U' m' : ℕ) (list : List Detour) → list_sum U' m' [] list ≡ 0
unfolding sum_of
none_unbeaten U' m' list = refl

pub no_movement_beats :
    (U m U' m' : ℕ) (stops stops' : List Stop) →
    Sound stops m →
    Sound stops' m' →
    m' ≤ m →
    U' ≤ U →
    Covers stops stops' →
    (gs : List Leg) →
    Moves m gs →
    ServesAll gs stops →
    (list : List Detour) →
    LeastFor U' m' stops' list →
    list_sum U' m' stops' list ≤ sum_of U (head_at m) gs stops
no_movement_beats U m U' m' stops [] ok ok' hm hU covers gs moves serves list least = omega (arith, none_unbeaten U' m' list)
no_movement_beats U m U' m' stops (s ∷ ss) ok ok' hm hU covers gs moves serves list least =
    some_unbeaten U m U' m' (length stops - 1) (length ss) stops (s ∷ ss) ok ok' (omega (arith, covers.within 0 (omega arith))) refl covers gs moves serves hm hU list least

-- Where two lists have a file in common, it lies at one place.
pub record SameTable (stops stops' : List Stop) : Type 0 where
  pub starts : (i i' : ℕ) → i < length stops → i' < length stops' → file_at stops i ≡ file_at stops' i' → left_at stops i ≡ left_at stops' i'
  pub ends : (i i' : ℕ) → i < length stops → i' < length stops' → file_at stops i ≡ file_at stops' i' → right_at stops i ≡ right_at stops' i'

-- The index of the stop with a number.
unfoldable index_of : List Stop → ℕ → ℕ
index_of [] f = 0
index_of (s ∷ ss) f = cond (eqb s.file f) 0 (suc (index_of ss f))

-- A file that is read is some stop's.
record Found (stops : List Stop) (f i : ℕ) : Type 0 where
  within : i < length stops
  file : file_at stops i ≡ f
  count : count_at stops i ≡ reads_of stops f

found_by_reads : (stops : List Stop) (f : ℕ) → 0 < reads_of stops f → Found stops f (index_of stops f)
unfolding reads_of index_of
found_by_reads [] f h = absurd (omega arith)
found_by_reads (s ∷ ss) f h =
    by_cases
    (ℕ_discrete s.file f)
    (λ e. rw (eq-eqb s.file f e) (record { within = omega arith; file = e; count = rw (eq-eqb s.file f e) }))
    (λ e.
    let past : eqb s.file f ≡ false = ne_eqb s.file f e in
    let later : Found ss f (index_of ss f) = found_by_reads ss f (rw past at h) in
    rw past (record { within = omega (arith, later.within); file = later.file; count = rw past later.count }))

-- Two runs over one table, the second wanting no file more often.
module _ (m' : ℕ) (stops stops' : List Stop) (ok' : Sound stops' m') (reads : (f : ℕ) → reads_of stops' f ≤ reads_of stops f) where
  found : (i : ℕ) → i < length stops' → Found stops (file_at stops' i) (index_of stops (file_at stops' i))
  found i h = found_by_reads stops (file_at stops' i) (omega (arith, ok'.counted i h, (by_file stops' ok'.ascends i h).reads, reads (file_at stops' i)))

  pub covers_of_reads : SameTable stops stops' → Covers stops stops'
  covers_of_reads table =
      record {
        index = λ i. index_of stops (file_at stops' i);
        within = λ i h. (found i h).within;
        files = λ i h. (found i h).file;
        starts = λ i h. table.starts (index_of stops (file_at stops' i)) i (found i h).within h (found i h).file;
        ends = λ i h. table.ends (index_of stops (file_at stops' i)) i (found i h).within h (found i h).file;
        counts = λ i h. omega (arith, (found i h).count, (by_file stops' ok'.ascends i h).reads, reads (file_at stops' i));
      }

-- The stops of a table, joined or not, lie where it says: each is of some file's aggregate.
module _ (starts lengths aggregates : List ℕ) where
  record OfTable (s : Stop) : Type 0 where
    file : ℕ
    alike : Alike s (stop_of starts lengths aggregates file 0)

  abbrev AllOfTable : List Stop → Type 0
  AllOfTable [] = Unit {0}
  AllOfTable (s ∷ ss) = OfTable s × AllOfTable ss

  wants_of_table : (ns cs : List ℕ) → AllOfTable (want_stops starts lengths aggregates ns cs)
  unfolding want_stops
  wants_of_table [] cs = tt
  wants_of_table (f ∷ ns) [] = tt
  wants_of_table (f ∷ ns) (c ∷ cs) = (record { file = f; alike = record { name = refl; places = record { start = refl; end = refl } } }, wants_of_table ns cs)

  merged_of_table : (s t : Stop) → OfTable s → OfTable (merged s t)
  merged_of_table s t o = record { file = o.file; alike = record { name = o.alike.name; places = record { start = o.alike.places.start; end = o.alike.places.end } } }

  join_of_table : (s : Stop) (ts : List Stop) → OfTable s → AllOfTable ts → AllOfTable (join_to s ts)
  join_of_table s [] o os = rw (join_none s) (o, tt)
  join_of_table s (t ∷ ts) o os = by_name s t (λ e. rw (join_same s t ts e) (merged_of_table s t o, os.1)) (λ n. rw (join_other s t ts n) (o, os))

  joined_of_table : (ss : List Stop) → AllOfTable ss → AllOfTable (joined ss)
  unfolding joined
  joined_of_table [] os = tt
  joined_of_table (s ∷ ss) os = join_of_table s (joined ss) os.0 (joined_of_table ss os.1)

  of_table_at : (ss : List Stop) → AllOfTable ss → (i : ℕ) → i < length ss → OfTable (stop_at ss i)
  of_table_at [] os i h = absurd (omega arith)
  of_table_at (s ∷ ss) os zero h = os.0
  of_table_at (s ∷ ss) os (suc i) h = of_table_at ss os.1 i (omega arith)

  -- Two of one name are of one aggregate.
  same_places : (s t : Stop) → OfTable s → OfTable t → s.file ≡ t.file → Places s t
  same_places s t o p e =
      let same = stops_agree starts lengths aggregates o.file 0 p.file 0 (sym o.alike.name ∙ e ∙ p.alike.name) in
      record {
        start = o.alike.places.start ∙ same.start ∙ sym p.alike.places.start;
        end = o.alike.places.end ∙ same.end ∙ sym p.alike.places.end;
      }

  pub same_table : (ns cs ns' cs' : List ℕ) → SameTable (joined (want_stops starts lengths aggregates ns cs)) (joined (want_stops starts lengths aggregates ns' cs'))
  same_table ns cs ns' cs' = record { starts = λ i i' h h' e. (places i i' h h' e).start; ends = λ i i' h h' e. (places i i' h h' e).end }
    where
      of : (ms ds : List ℕ) (i : ℕ) → i < length (joined (want_stops starts lengths aggregates ms ds)) → OfTable (stop_at (joined (want_stops starts lengths aggregates ms ds)) i)
      of ms ds = of_table_at (joined (want_stops starts lengths aggregates ms ds)) (joined_of_table (want_stops starts lengths aggregates ms ds) (wants_of_table ms ds))

      places : (i i' : ℕ) → i < length (joined (want_stops starts lengths aggregates ns cs)) → i' < length (joined (want_stops starts lengths aggregates ns' cs'))
          → file_at (joined (want_stops starts lengths aggregates ns cs)) i ≡ file_at (joined (want_stops starts lengths aggregates ns' cs')) i'
          → Places (stop_at (joined (want_stops starts lengths aggregates ns cs)) i) (stop_at (joined (want_stops starts lengths aggregates ns' cs')) i')
      places i i' h h' e = same_places _ _ (of ns cs i h) (of ns' cs' i' h') e
