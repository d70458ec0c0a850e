-- The range of the figures. A detour taken out makes those that it read wait longer, by its distance to the leg that reads them then and by all that is
-- done between the two; and those left of it wait less, by its trip. Numbers within the limits then give both ends.
use Prim.Native.Nat.{ℕ, zero, suc, ◌+◌, ◌-◌, ◌*◌, ◌≤◌, ◌<◌}
use native.Mathlib.Omega.{arith}
use native.Mathlib.Decide.{dec_le, dec_lt}
use native.Mathlib.Nat.{mul-le-mul, le_refl}
use mathlib.Core.Path.{◌≡◌, refl, sym, ap, subst, ◌∙◌}
use mathlib.Core.Logic.{by_cases}
use mathlib.Core.List.{List, [], ◌∷◌}
use lib.IntN.{ℤ, pos, negsuc}
use lib.ListN.{length, get_or}
use Rattle.runs.specs.Run.{Run, Stop, last_place, highest_turn, stops_of}
use Rattle.runs.specs.Lists.{Detour, WellFormed, list_of}
use Rattle.runs.proofs.Joined.{reads_of}
use Rattle.runs.proofs.Entries.{length_list}
use Rattle.runs.proofs.Judged.{GoodRun, accepted_run}
use Rattle.runs.proofs.Sound.{Sound, sound_any}
use Rattle.runs.proofs.Stops.{run_sound, stops_few, stops_reads}
use Rattle.figures.specs.Figures.{without, figures_answer, figures_row}
use Rattle.demands.specs.Buys.{IsLess, over, under, FigureWithin, gained, lost, FiguresInRange, smallest_bought}
use Rattle.demands.proofs.Buys.{without_is, figures_run, figures_tell, bought_worked}
use Rattle.least.specs.Least.{list_sum}
use Rattle.least.specs.Recurrence.{W, trip, file_at, left_at, right_at, count_at}
use Rattle.least.proofs.Plan.{lagAfter}
use Rattle.least.proofs.Times.{Spaced, starts_rise, planTime}
use Rattle.least.proofs.Sums.{W-suc, W-front}
use Rattle.least.proofs.Identity.{runSum}
use Rattle.least.proofs.Lists.{none_wanted, PlanOf, parse}
use Rattle.least.proofs.Walks.{sound_spaced, sound_owned, walk_sum}
use Rattle.demands.proofs.Removed.{Removed, removed}
use Rattle.demands.proofs.Laps.{many, wide, spans, stops_taken, lag_by_spans, spans_wide, spans_many}

-- Counts times times, where every time below c is later by τ than another, and from c on the other is later by at most x.
module _ (C tP tQ : ℕ → ℕ) (τ : ℕ) where
  later_sum : (c : ℕ) → ((i : ℕ) → i < c → tP i ≡ tQ i + τ) → W (λ i. C i * tP i) c ≡ W (λ i. C i * tQ i) c + W C c * τ
  unfolding W
  later_sum zero e = omega arith
  later_sum (suc c) e = omega (arith, later_sum c (λ i l. e i (omega arith)), ap (λ t. C c * t) (e c (omega arith)))

  sooner_sum : (x c m : ℕ) → c ≤ m → ((i : ℕ) → i < c → tP i ≡ tQ i + τ) → ((i : ℕ) → c ≤ i → i < m → tQ i ≤ tP i + x)
      → W (λ i. C i * tQ i) m + W C c * τ + W C c * x ≤ W (λ i. C i * tP i) m + W C m * x
  unfolding W
  sooner_sum x c zero l e h = let z : c ≡ 0 = omega arith in rw z (omega arith)
  sooner_sum x c (suc m) l e h =
      let before = sooner_sum x c m in
      by_cases (dec_le c m)
      (λ k. let here : C m * tQ m ≤ C m * (tP m + x) = mul-le-mul (le_refl (C m)) (h m k (omega arith)) in omega (arith, before k e (λ i a b. h i a (omega arith))))
      (λ k. let z : suc m ≡ c = omega arith in whole c z (later_sum c e))
    where
      whole : (c : ℕ) → suc m ≡ c → W (λ i. C i * tP i) c ≡ W (λ i. C i * tQ i) c + W C c * τ
          → W (λ i. C i * tQ i) (suc m) + W C c * τ + W C c * x ≤ W (λ i. C i * tP i) (suc m) + W C (suc m) * x
      whole c z q = rw (← z) (omega (arith, rw (← z) at q))

  -- Where no time is later by more than τ, and that at c is sooner by y.
  most_sum : (m : ℕ) → ((i : ℕ) → i < m → tP i ≤ tQ i + τ) → W (λ i. C i * tP i) m ≤ W (λ i. C i * tQ i) m + W C m * τ
  unfolding W
  most_sum zero h = omega arith
  most_sum (suc m) h =
      let here : C m * tP m ≤ C m * (tQ m + τ) = mul-le-mul (le_refl (C m)) (h m (omega arith)) in
      omega (arith, most_sum m (λ i l. h i (omega arith)))

  one_sooner : (y c m : ℕ) → c < m → ((i : ℕ) → i < m → tP i ≤ tQ i + τ) → tP c + y ≤ tQ c
      → W (λ i. C i * tP i) m + C c * y + C c * τ ≤ W (λ i. C i * tQ i) m + W C m * τ
  unfolding W
  one_sooner y c zero l h s = absurd (omega arith)
  one_sooner y c (suc m) l h s =
      let before = one_sooner y c m in
      let rest = most_sum m (λ i b. h i (omega arith)) in
      by_cases (dec_lt c m)
      (λ k. let here : C m * tP m ≤ C m * (tQ m + τ) = mul-le-mul (le_refl (C m)) (h m (omega arith)) in omega (arith, before k (λ i b. h i (omega arith)) s))
      (λ k.
      let z : c ≡ m = omega arith in
      let here : C c * (tP c + y) ≤ C c * tQ c = mul-le-mul (le_refl (C c)) s in
      rw (← z) (omega (arith, rw (← z) at rest)))

-- As many reads as stops, at least; and all of them are those of the run.
reads_some : (C : ℕ → ℕ) (c : ℕ) → ((i : ℕ) → i < c → 0 < C i) → c ≤ W C c
unfolding W
reads_some C zero h = omega arith
reads_some C (suc c) h = omega (arith, reads_some C c (λ i l. h i (omega arith)), h c (omega arith))

reads_all : (stops : List Stop) → W (count_at stops) (length stops) ≡ reads_of stops
unfolding W reads_of
reads_all [] = refl
reads_all (s ∷ ss) = W-front (count_at (s ∷ ss)) (length ss) ∙ ap (λ n. s.count + n) (reads_all ss)

reads_part : (C : ℕ → ℕ) (c m : ℕ) → c ≤ m → W C c ≤ W C m
unfolding W
reads_part C c zero l = let z : c ≡ 0 = omega arith in rw z (omega arith)
reads_part C c (suc m) l =
    let before = reads_part C c m in
    by_cases (dec_le c m) (λ k. omega (arith, before k)) (λ k. let z : c ≡ suc m = omega arith in rw z (omega arith))

-- 31 detours, one inside the other, are longer than fewer.
climb : (j k D : ℕ) → k + j ≡ 31 → 62 ≤ D → k * D + 961 ≤ 31 * D + k * k
climb zero k D e l = let z : k ≡ 31 = omega arith in rw z (omega arith)
climb (suc j) k D e l = omega (arith, climb j (suc k) D (omega arith) l)

-- A product within its bounds.
within : (hi Δ most bound : ℕ) → hi ≤ most → Δ ≤ bound → hi * Δ ≤ most * bound
within hi Δ most bound a b = mul-le-mul a b

-- What a detour can buy: k detours of lengths Λ in all between it and the leg that reads its stops then, w of them of more than one stop; that leg starts D
-- left of it; c stops, and at least as many reads, lie left of it.
module _ (D U Λ hi : ℕ) (near : D + 1 ≤ 1099511627776) (cheap : U ≤ 4294967296) where
  abbrev worth : ℕ → ℕ
  worth k = 2 * D + 2 * (k * U + Λ)

  price_of : (k most : ℕ) → k ≤ most → k * U ≤ most * 4294967296
  price_of k most l = mul-le-mul l cheap

  few_stops_here : (k q c : ℕ) → Λ ≤ q * D → 2 * q ≤ c → c ≤ 61 → k ≤ 60 → hi + c ≤ 1024 → hi * worth k ≤ 67950368350460032
  few_stops_here k q c long half few less reads =
      by_cases (dec_le q 28)
      (λ h.
      let all : q * D ≤ 28 * D = mul-le-mul h (le_refl D) in
      omega (arith, within hi (worth k) 1024 64287070486528 (omega arith) (omega (arith, price_of k 60 less))))
      (λ h.
      by_cases (dec_le q 29)
      (λ g.
      let z : q ≡ 29 = omega arith in
      let all : Λ ≤ 29 * D = rw z at long in
      omega (arith, within hi (worth k) 966 66486093742080 (omega arith) (omega (arith, price_of k 60 less))))
      (λ g.
      let z : q ≡ 30 = omega arith in
      let all : Λ ≤ 30 * D = rw z at long in
      omega (arith, within hi (worth k) 964 68685116997632 (omega arith) (omega (arith, price_of k 60 less)))))

  -- At most 31 of them, with 62 stops left of the detour or more.
  many_stops : (k c τ lo : ℕ) → Λ + k * k ≤ k * D → k ≤ 31 → 62 ≤ c → hi + c ≤ 1024 → c ≤ lo → 2 * U + 2 ≤ τ → hi * worth k ≤ 67950368350460032 + lo * τ
  many_stops k c τ lo long few some reads low far =
      by_cases (dec_le 62 D)
      (λ h.
      let top = climb (31 - k) k D (omega arith) h in
      let turns : k * U ≤ 31 * U = mul-le-mul few (le_refl U) in
      let left : 62 * τ ≤ lo * τ = mul-le-mul (omega arith) (le_refl τ) in
      omega (arith, within hi (worth k) 962 (worth k) (omega arith) (le_refl (worth k))))
      (λ h.
      let all : k * D ≤ 31 * 61 = within k D 31 61 few (omega arith) in
      omega (arith, within hi (worth k) 1024 266287976256 (omega arith) (omega (arith, price_of k 31 few))))

  -- 32 of them or more.
  more_stops : (k w c : ℕ) → Λ ≤ w * D + D → 32 ≤ k → k + w + 1 ≤ c → 62 ≤ c → c ≤ 63 → hi + c ≤ 1024 → hi * worth k ≤ 67950368350460032
  more_stops k w c long some room low few reads =
      by_cases (dec_le w 29)
      (λ h.
      let all : w * D ≤ 29 * D = mul-le-mul h (le_refl D) in
      omega (arith, within hi (worth k) 962 68702296866816 (omega arith) (omega (arith, price_of k 62 (omega arith)))))
      (λ h.
      let z : w ≡ 30 = omega arith in
      let all : Λ ≤ 30 * D + D = rw z at long in
      omega (arith, within hi (worth k) 961 70643622084608 (omega arith) (omega (arith, price_of k 32 (omega arith)))))

  largest : (k w c τ lo : ℕ) → Λ + k * k ≤ k * D → Λ ≤ w * D + D → k + w + 1 ≤ c → c ≤ 63 → hi + c ≤ 1024 → c ≤ lo → 2 * U + 2 ≤ τ
      → hi * worth k ≤ 67950368350460032 + lo * τ
  largest k w c τ lo inside apart room few reads low far =
      by_cases (dec_le c 61)
      (λ h.
      by_cases (dec_le k w)
      (λ g. omega (arith, few_stops_here k k c (omega arith) (omega arith) h (omega arith) reads))
      (λ g. omega (arith, few_stops_here k (suc w) c (omega arith) (omega arith) h (omega arith) reads)))
      (λ h.
      by_cases (dec_le k 31)
      (λ g. many_stops k c τ lo inside g (omega arith) reads low far)
      (λ g. omega (arith, more_stops k w c apart (omega arith) room (omega arith) few reads)))

-- The smallest: all other reads, at most 1,023, wait for the longest trip that there is.
smallest : (S S' T c τ y : ℕ) → S + c * y + c * τ ≤ S' + T * τ → T ≤ 1024 → 0 < c → c ≤ T → 2 ≤ y → τ ≤ 2207613190142 → S ≤ S' + 2258388293515264
smallest S S' T c τ y h few some all far most =
    let parts : T * τ ≡ (T - c + c) * τ = ap (λ z. z * τ) (omega arith) in
    let others : (T - c) * τ ≤ 1023 * 2207613190142 = within (T - c) τ 1023 2207613190142 (omega arith) most in
    let own : 1 * 2 ≤ c * y = within 1 2 c y some far in
    omega arith

-- The largest: what those left of the detour gain goes off.
enough : (S S' lo T τ x : ℕ) → S' + lo * τ + lo * x ≤ S + T * x → lo ≤ T → (T - lo) * x ≤ 67950368350460032 + lo * τ → S' ≤ S + 67950368350460032
enough S S' lo T τ x h part most = let parts : T * x ≡ (T - lo + lo) * x = ap (λ z. z * x) (omega arith) in omega arith

module _ (U m n : ℕ) (stops : List Stop) (ok : Sound stops m) (size : length stops ≡ suc n) (few : n ≤ 63) (near : m ≤ last_place) (cheap : U ≤ highest_turn)
    (reads : W (count_at stops) (suc n) ≤ 1024) (list : List Detour) (formed : WellFormed stops list) (i : ℕ) (l : i < length list) where
  spaced : Spaced (left_at stops) (right_at stops) n
  spaced = sound_spaced stops m n ok size

  apart : (i : ℕ) → i < n → right_at stops i ≤ left_at stops (suc i)
  apart i h = ok.apart i (omega arith)

  parsed : PlanOf stops n list
  parsed = parse m n stops (sound_any stops m ok) size list formed

  out : Removed (left_at stops) (right_at stops) U n spaced (file_at stops) parsed.plan 0 n i
  out = removed (left_at stops) (right_at stops) U n spaced (file_at stops) parsed.plan 0 n parsed.over (le_refl n) i (rw parsed.lists l)

  -- The sums of the list with the entry and without it.
  sum_with : list_sum U m stops list ≡ runSum (left_at stops) (right_at stops) (count_at stops) U parsed.plan n m
  sum_with = ap (λ x. list_sum U m stops x) (sym parsed.lists) ∙ walk_sum m n stops (sound_any stops m ok) size parsed.plan parsed.over (sound_owned stops m n ok size parsed.plan parsed.over) U

  sum_without_here : list_sum U m stops (without i list) ≡ runSum (left_at stops) (right_at stops) (count_at stops) U out.plan n m
  sum_without_here = ap (λ x. list_sum U m stops x) (sym (out.lists ∙ ap (without i) parsed.lists)) ∙ walk_sum m n stops (sound_any stops m ok) size out.plan out.over (sound_owned stops m n ok size out.plan out.over) U

  reached : (j : ℕ) → j ≤ n → right_at stops j ≤ m
  reached j h = ok.reached j (omega arith)

  -- The detour's first stop, the distance to the leg that reads its stops then, and its trip.
  abbrev first : ℕ
  first = suc out.d

  first_in_here : first ≤ n
  first_in_here = omega (arith, out.onward, out.high)

  abbrev back : ℕ
  back = left_at stops first - left_at stops out.parent

  abbrev around : ℕ
  around = trip (left_at stops) (right_at stops) U first out.t

  -- That leg starts left of the detour, where a stop of some length begins.
  parent_left : right_at stops out.d ≤ left_at stops first
  parent_left = apart out.d (omega (arith, first_in_here))

  parent_ends : right_at stops out.parent ≤ right_at stops out.d
  parent_ends =
      by_cases (dec_lt out.parent out.d)
      (λ h. omega (arith, starts_rise (left_at stops) (right_at stops) n spaced (suc out.parent) out.d h (omega (arith, first_in_here)), apart out.parent (omega (arith, first_in_here)), spaced.extends out.d (omega (arith, first_in_here))))
      (λ h. let z : out.parent ≡ out.d = omega (arith, out.inside) in rw z (omega arith))

  parent_long : left_at stops out.parent < right_at stops out.parent
  parent_long = spaced.extends out.parent (omega (arith, out.inside, first_in_here))

  goes_back : 1 ≤ back
  goes_back = omega (arith, parent_left, parent_ends, parent_long)

  -- The trip is longer than two turns, and no longer than the tape allows.
  end_on : left_at stops first < right_at stops out.t
  end_on =
      by_cases (dec_lt first out.t)
      (λ h. omega (arith, starts_rise (left_at stops) (right_at stops) n spaced first out.t (omega arith) out.high, spaced.extends out.t out.high))
      (λ h. let z : first ≡ out.t = omega (arith, out.onward) in rw (← z) (spaced.extends first first_in_here))

  trip_long : 2 * U + 2 ≤ around
  trip_long = omega (arith, end_on)

  trip_most : around ≤ 2207613190142
  trip_most = omega (arith, parent_left, parent_ends, parent_long, reached out.t out.high)

  reads_first : (j : ℕ) → j < first → planTime (left_at stops) (right_at stops) U parsed.plan 0 n m j ≡ planTime (left_at stops) (right_at stops) U out.plan 0 n m j + around
  reads_first j h = out.later m j (omega arith) (omega arith) (omega (arith, first_in_here)) (reached j (omega (arith, first_in_here)))

  reads_most : (j : ℕ) → j < suc n → planTime (left_at stops) (right_at stops) U parsed.plan 0 n m j ≤ planTime (left_at stops) (right_at stops) U out.plan 0 n m j + around
  reads_most j h =
      by_cases (dec_lt j first)
      (λ k. omega (arith, reads_first j k))
      (λ k. out.most m j (omega arith) (omega arith) (reached j (omega arith)))

  one_of_all : count_at stops first ≤ W (count_at stops) (suc n)
  one_of_all = omega (arith, reads_part (count_at stops) (suc first) (suc n) (omega (arith, first_in_here)), W-suc (count_at stops) first)

  left_part : W (count_at stops) first ≤ W (count_at stops) (suc n)
  left_part = reads_part (count_at stops) first (suc n) (omega (arith, first_in_here))

  left_reads : first ≤ W (count_at stops) first
  left_reads = reads_some (count_at stops) first (λ j h. ok.counted j (omega (arith, first_in_here)))

  pub not_below : list_sum U m stops list ≤ list_sum U m stops (without i list) + 2258388293515264
  not_below =
      rw (sum_with, sum_without_here)
      (smallest _ _ (W (count_at stops) (suc n)) (count_at stops first) around (2 * back)
      (one_sooner (count_at stops) (planTime (left_at stops) (right_at stops) U parsed.plan 0 n m) (planTime (left_at stops) (right_at stops) U out.plan 0 n m) around (2 * back) first (suc n)
      (omega (arith, first_in_here)) reads_most (out.start m first_in_here (reached first first_in_here)))
      reads
      (ok.counted first (omega (arith, first_in_here)))
      one_of_all
      (omega (arith, goes_back))
      trip_most)

  -- What is done between the detour and that leg.
  abbrev between : ℕ
  between = spans (left_at stops) (right_at stops) U out.rest out.d

  abbrev laps : ℕ
  laps = many out.rest

  within_back : right_at stops out.d - right_at stops out.parent + 1 ≤ back
  within_back = omega (arith, parent_left, parent_ends, parent_long)

  between_many : between + laps * laps ≤ laps * back
  between_many =
      let room : laps * (right_at stops out.d - right_at stops out.parent + 1) ≤ laps * back = mul-le-mul (le_refl laps) within_back in
      omega (arith, spans_many (left_at stops) (right_at stops) U n spaced apart out.rest out.parent out.d out.within (omega (arith, first_in_here)))

  between_wide : between ≤ wide out.rest out.d * back + back
  between_wide =
      omega (
        arith,
        within_back,
        spans_wide (left_at stops) (right_at stops) U n spaced apart out.rest out.parent out.d back out.within (omega (arith, first_in_here)) (omega (arith, parent_left, parent_long)),
      )

  -- How much longer its stops wait without it.
  lag_between : lagAfter (left_at stops) (right_at stops) U out.rest out.d 0 ≡ 2 * (laps * U + between)
  lag_between = omega (arith, lag_by_spans (left_at stops) (right_at stops) U out.rest out.parent out.d 0 out.within)

  reads_later_here : (j : ℕ) → first ≤ j → j < suc n
      → planTime (left_at stops) (right_at stops) U out.plan 0 n m j ≤ planTime (left_at stops) (right_at stops) U parsed.plan 0 n m j + (2 * back + 2 * (laps * U + between))
  reads_later_here j h k =
      by_cases (dec_le j out.t)
      (λ g. omega (arith, out.sooner m j (omega arith) g (omega arith) (reached j (omega arith)), lag_between))
      (λ g. omega (arith, out.beyond m j (omega arith) (omega arith) (reached j (omega arith))))

  pub not_above : list_sum U m stops (without i list) ≤ list_sum U m stops list + 67950368350460032
  not_above =
      rw (sum_with, sum_without_here)
      (enough _ _ (W (count_at stops) first) (W (count_at stops) (suc n)) around (2 * back + 2 * (laps * U + between))
      (sooner_sum (count_at stops) (planTime (left_at stops) (right_at stops) U parsed.plan 0 n m) (planTime (left_at stops) (right_at stops) U out.plan 0 n m) around
      (2 * back + 2 * (laps * U + between)) first (suc n) (omega (arith, first_in_here)) reads_first reads_later_here)
      left_part
      (largest back U between (W (count_at stops) (suc n) - W (count_at stops) first) (omega (arith, spaced.extends first first_in_here, reached first first_in_here)) cheap
      laps (wide out.rest out.d) first around (W (count_at stops) first) between_many between_wide
      (omega (arith, stops_taken out.rest out.parent out.d out.within))
      (omega (arith, first_in_here))
      (omega (arith, left_part, left_reads))
      left_reads
      trip_long))

-- So it is of every accepted run and every entry of a well-formed list.
pub record Near (with_it without-it : ℕ) : Type 0 where
  pub below : with_it ≤ without-it + 2258388293515264
  pub above : without-it ≤ with_it + 67950368350460032

near_of_stops : (U m : ℕ) (stops : List Stop) → Sound stops m → length stops ≤ 64 → m ≤ last_place → U ≤ highest_turn → W (count_at stops) (length stops) ≤ 1024
    → (list : List Detour) → WellFormed stops list → (i : ℕ) → i < length list → Near (list_sum U m stops list) (list_sum U m stops (without i list))
near_of_stops U m [] ok few near cheap reads list formed i l = absurd (omega (arith, ap length (none_wanted list formed)))
near_of_stops U m (s ∷ ss) ok few near cheap reads list formed i l =
    record {
      below = not_below U m (length ss) (s ∷ ss) ok refl (omega arith) near cheap reads list formed i l;
      above = not_above U m (length ss) (s ∷ ss) ok refl (omega arith) near cheap reads list formed i l;
    }

near_of_run : (r : Run) → GoodRun r → (list : List Detour) → WellFormed (stops_of r) list → (i : ℕ) → i < length list
    → Near (list_sum r.turn r.head (stops_of r) list) (list_sum r.turn r.head (stops_of r) (without i list))
near_of_run r good list formed i l =
    near_of_stops r.turn r.head (stops_of r) (run_sound r good) (omega (arith, stops_few r good, good.wants.few)) good.start.near good.start.cheap
    (omega (arith, reads_all (stops_of r), stops_reads r good, good.wants.reads)) list formed i l

less_in_range : {a b : ℕ} {figure : ℤ} → IsLess a b figure → Near b a → FigureWithin figure
less_in_range (over {n} e) near = gained {n = n} (omega (arith, near.above))
less_in_range (under {n} e) near = lost {n = n} (omega (arith, near.below))

pub figures_in_range : FiguresInRange
figures_in_range r froms tos row answer out says fills accepts i l =
    let told = figures_tell r froms tos row answer out says fills accepts in
    let list = list_of froms tos in
    let near = near_of_run r (accepted_run r (figures_run r froms tos row answer says accepts)) list told.formed i (omega (arith, length_list froms tos told.even)) in
    less_in_range (told.each i l).less (rw (without_is list i) at near)

-- The worked case at the lower end meets the hypotheses.
pub smallest_within : FigureWithin (negsuc 2258388293515263)
smallest_within =
    let worked = bought_worked.1.0 in
    let row = pos 7 ∷ [] in
    subst (λ z. FigureWithin z) (ap (λ found. get_or found 0 (pos 0)) worked.fills)
    (figures_in_range smallest_bought.run smallest_bought.froms smallest_bought.tos row (figures_answer smallest_bought.run smallest_bought.froms smallest_bought.tos row)
    (figures_row smallest_bought.run smallest_bought.froms smallest_bought.tos row) refl refl worked.accepted 0 (omega arith))
