-- The number of stops, by conditions of the demands' own, is the number of joined stops of an accepted run: there is a count, and only this one.
use Prim.Native.Nat.{ℕ, zero, suc, ◌+◌, ◌-◌, ◌≤◌, ◌<◌}
use mathlib.Core.Path.{◌≡◌, refl, sym, ap, ◌∙◌}
use mathlib.Core.Logic.{⊎_elim, ◌⊎◌, inl, inr}
use mathlib.Core.List.{List, [], ◌∷◌}
use native.Mathlib.Omega.{arith}
use native.Mathlib.Decide.{dec_lt}
use lib.ListN.{length, get_or, drop}
use lib.Seq.{drop-length}
use Rattle.runs.specs.Run.{Run, Stop, first_member, first_file, stop_of, want_stops_of, join_to, joined, stops_of}
use Rattle.runs.specs.Lists.{leftmost}
use Rattle.runs.proofs.Members.{between_first}
use Rattle.runs.proofs.Joined.{by_name, join_none, join_same, join_other, leftmost_joined, some_joined}
use Rattle.runs.proofs.Judged.{GoodRun, numbers_rise}
use Rattle.runs.proofs.Stops.{first_file_lem, wants_length, wants_drop}
use Rattle.demands.specs.RefusalTable.{Together, JoinsLater, StopsFrom, behind, one_more, as_many, HasStops}
use Rattle.demands.proofs.Conditions.{together_first, first_together, named}

-- A stop before others adds one to them, unless it has the name of the first.
join_adds : (s : Stop) (ts : List Stop) → (0 < length ts → s.file ≡ leftmost ts → ⊥) → length (join_to s ts) ≡ suc (length ts)
join_adds s [] n = rw (join_none s)
join_adds s (t ∷ ts) n = rw (join_other s t ts (n (omega arith)))

join_keeps : (s : Stop) (ts : List Stop) → 0 < length ts → s.file ≡ leftmost ts → length (join_to s ts) ≡ length ts
join_keeps s [] l e = absurd (omega arith)
join_keeps s (t ∷ ts) l e = rw (join_same s t ts e)

joined_adds : (s : Stop) (ss : List Stop) → (0 < length ss → s.file ≡ leftmost ss → ⊥) → length (joined (s ∷ ss)) ≡ suc (length (joined ss))
unfolding joined
joined_adds s ss n = join_adds s (joined ss) (λ l e. n (some_of ss l) (e ∙ leftmost_joined ss))
  where
    some_of : (ss : List Stop) → 0 < length (joined ss) → 0 < length ss
    some_of [] l = l
    some_of (t ∷ ts) l = omega arith

joined_keeps : (s : Stop) (ss : List Stop) → 0 < length ss → s.file ≡ leftmost ss → length (joined (s ∷ ss)) ≡ length (joined ss)
unfolding joined
joined_keeps s ss l e = join_keeps s (joined ss) (some_joined ss l) (e ∙ sym (leftmost_joined ss))

module _ (r : Run) (good : GoodRun r) where
  -- The stop of a want by itself.
  abbrev pub Here : ℕ → Stop
  Here i = stop_of r.starts r.lengths r.aggregates (get_or r.numbers i 0) (get_or r.counts i 0)

  pub wants_at_lem : (i : ℕ) → i < length r.numbers → drop i (want_stops_of r) ≡ Here i ∷ drop (suc i) (want_stops_of r)
  wants_at_lem i l = wants_drop r.starts r.lengths r.aggregates r.numbers r.counts (sym good.wants.equal) i l

  pub wants_end : drop (length r.numbers) (want_stops_of r) ≡ []
  wants_end = ap (λ n. drop n (want_stops_of r)) (sym (wants_length r.starts r.lengths r.aggregates r.numbers r.counts (sym good.wants.equal))) ∙ drop-length (want_stops_of r)

  -- The names of two wants' stops are the same just where the wants lie together.
  name_of : (i : ℕ) → i < length r.numbers → first_file r.aggregates (get_or r.numbers i 0) ≡ suc (first_member r.aggregates (get_or r.numbers i 0 - 1))
  name_of i l = first_file_lem r.aggregates (get_or r.numbers i 0) (named r good.files good.wants i l).least

  names_together : (i j : ℕ) → i < length r.numbers → j < length r.numbers
      → first_file r.aggregates (get_or r.numbers i 0) ≡ first_file r.aggregates (get_or r.numbers j 0)
      → Together r (get_or r.numbers i 0) (get_or r.numbers j 0)
  names_together i j a b e =
      first_together r good.files (get_or r.numbers i 0) (get_or r.numbers j 0) (named r good.files good.wants i a).least (named r good.files good.wants j b).least (omega (arith, name_of i a, name_of j b))

  -- A want that lies together with a later one lies together with the next.
  together_next : (i j : ℕ) → i < j → j < length r.numbers → Together r (get_or r.numbers i 0) (get_or r.numbers j 0)
      → first_file r.aggregates (get_or r.numbers i 0) ≡ first_file r.aggregates (get_or r.numbers (suc i) 0)
  together_next i j l b t =
      let here = named r good.files good.wants i (omega arith) in
      let there = named r good.files good.wants j b in
      let rise = numbers_rise (length r.starts) r.numbers r.counts good.wants in
      let same = together_first r good.files (get_or r.numbers i 0) (get_or r.numbers j 0) here there t in
      let low = rise i (suc i) (omega arith) (omega arith) in
      let high : get_or r.numbers (suc i) 0 ≤ get_or r.numbers j 0 = by_cases_le (suc i) j l (λ e. omega (arith, ap (λ n. get_or r.numbers n 0) e)) (λ m. omega (arith, rise (suc i) j m b)) in
      let between = between_first r.aggregates (get_or r.numbers i 0 - 1) (get_or r.numbers (suc i) 0 - 1) (get_or r.numbers j 0 - 1) (omega arith) (omega arith) same in
      omega (arith, name_of i (omega arith), name_of (suc i) (omega arith), between)
    where
      by_cases_le : {A : Type 0} (a b : ℕ) → a ≤ b → (a ≡ b → A) → (a < b → A) → A
      by_cases_le a b l f g = elim (dec_lt a b) [ yes m ↦ g m | no n ↦ f (omega arith) ]

  -- The stop of a want, and the first of those behind it.
  next_name : (i : ℕ) → suc i < length r.numbers → leftmost (drop (suc i) (want_stops_of r)) ≡ first_file r.aggregates (get_or r.numbers (suc i) 0)
  next_name i l = rw (wants_at_lem (suc i) l)

  some_next : (i : ℕ) → i < length r.numbers → 0 < length (drop (suc i) (want_stops_of r)) → suc i < length r.numbers
  some_next i l some = elim (dec_lt (suc i) (length r.numbers)) [ yes m ↦ m | no n ↦ absurd (none (omega arith)) ]
    where
      none : suc i ≡ length r.numbers → ⊥
      none e = omega (arith, ap length (ap (λ n. drop n (want_stops_of r)) e ∙ wants_end))

  next_some : (i : ℕ) → suc i < length r.numbers → 0 < length (drop (suc i) (want_stops_of r))
  next_some i l = rw (wants_at_lem (suc i) l) (omega arith)

  -- The count of any derivation.
  pub count_is_lem : {i n : ℕ} → StopsFrom r i n → (i ≤ length r.numbers) × (n ≡ length (joined (drop i (want_stops_of r))))
  unfolding joined
  count_is_lem behind = (omega arith, rw wants_end)
  count_is_lem (one_more {i} {n} apart rest) =
      let h = count_is_lem rest in
      let l : i < length r.numbers = omega (arith, h.0) in
      let e = joined_adds (Here i) (drop (suc i) (want_stops_of r))
      (λ some same. let m = some_next i l some in apart (suc i, omega arith, m, names_together i (suc i) l m (same ∙ next_name i m))) in
      (omega arith, rw (wants_at_lem i l) (ap suc h.1 ∙ sym e))
  count_is_lem (as_many {i} {n} joins rest) =
      let h = count_is_lem rest in
      let l : i < length r.numbers = omega (arith, h.0) in
      let m : suc i < length r.numbers = omega (arith, joins.1, joins.2) in
      let e = joined_keeps (Here i) (drop (suc i) (want_stops_of r))
      (next_some i m) (together_next i joins.0 joins.1 joins.2 joins.3 ∙ sym (next_name i m)) in
      (omega arith, rw (wants_at_lem i l) (h.1 ∙ sym e))

  -- There is one.
  nothing_left : StopsFrom r (length r.numbers) (length (joined []))
  unfolding joined
  nothing_left = behind

  module _ (i : ℕ) (l : i < length r.numbers) (rest : StopsFrom r (suc i) (length (joined (drop (suc i) (want_stops_of r))))) where
    one_added : (0 < length (drop (suc i) (want_stops_of r)) → first_file r.aggregates (get_or r.numbers i 0) ≡ leftmost (drop (suc i) (want_stops_of r)) → ⊥)
        → (JoinsLater r i → ⊥)
        → StopsFrom r i (length (joined (Here i ∷ drop (suc i) (want_stops_of r))))
    one_added first apart = rw (joined_adds (Here i) (drop (suc i) (want_stops_of r)) first) (one_more apart rest)

    none_added_here : suc i < length r.numbers → first_file r.aggregates (get_or r.numbers i 0) ≡ first_file r.aggregates (get_or r.numbers (suc i) 0)
        → StopsFrom r i (length (joined (Here i ∷ drop (suc i) (want_stops_of r))))
    none_added_here n same =
        rw (joined_keeps (Here i) (drop (suc i) (want_stops_of r)) (next_some i n) (same ∙ sym (next_name i n)))
        (as_many {i = i} (suc i, omega arith, n, names_together i (suc i) l n same) rest)

    counts_here : StopsFrom r i (length (joined (Here i ∷ drop (suc i) (want_stops_of r))))
    counts_here =
        elim (dec_lt (suc i) (length r.numbers)) [
          | yes n ↦ by_name (Here i) (Here (suc i)) (none_added_here n) (λ other. one_added (λ some h. other (h ∙ next_name i n)) (λ h. other (together_next i h.0 h.1 h.2 h.3)))
          | no n ↦ one_added (λ some h. n (some_next i l some)) (λ h. n (omega (arith, h.1, h.2)))
        ]

  counts_from : (m i : ℕ) → i + m ≡ length r.numbers → StopsFrom r i (length (joined (drop i (want_stops_of r))))
  counts_from zero i e = let same : length r.numbers ≡ i = omega arith in rw (← same, wants_end) nothing_left
  counts_from (suc m) i e =
      let l : i < length r.numbers = omega arith in
      rw (wants_at_lem i l) (counts_here i l (counts_from m (suc i) (omega arith)))

  pub has_stops : HasStops r (length (stops_of r))
  has_stops = counts_from (length r.numbers) 0 (omega arith)

  pub stops_one : {n : ℕ} → HasStops r n → n ≡ length (stops_of r)
  stops_one h = (count_is_lem h).1
