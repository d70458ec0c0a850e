-- A run with every count c times as large: its stops lie where they lay, so its lists, their legs and their times are the same, and every sum is c
-- times as large. So its least list is the same.
use Prim.Native.Nat.{ℕ, ◌+◌, ◌*◌, ◌≤◌}
use native.Mathlib.Omega.{arith}
use native.Mathlib.Decide.{dec_lt}
use native.Mathlib.Nat.{mul-le-mul_left}
use mathlib.Core.Path.{◌≡◌, refl, sym, ap, ◌∙◌}
use mathlib.Core.Bool.{cond, ◌||◌}
use mathlib.Core.Logic.{by_cases}
use mathlib.Core.List.{List, [], ◌∷◌, map}
use lib.Dec.{eqb}
use Rattle.walk.specs.declared.Head.{Head}
use Rattle.walk.specs.declared.Leg.{Leg}
use Rattle.runs.specs.Run.{Run, Stop, stop_of, merged, join_to, joined, want_stops, want_stops_of, stops_of}
use Rattle.runs.specs.Lists.{Detour, wanted, leftmost, WellFormed, first_bad_entry}
use Rattle.walk.specs.Walk.{served, time_of, times_of, leg_for, legs_for, sum_of}
use Rattle.walk.specs.Detours.{start_of, end_of, leg_of, unread_end, sweep_end, last_sweep, legs_of}
use Rattle.runs.proofs.Joined.{Places, by_name, join_none, join_same, join_other}
use Rattle.walk.proofs.Joins.{served_same, time_same, leg_same}
use Rattle.least.specs.Least.{list_sum, LeastFor}
use Rattle.least.proofs.Rules.{formed_by_names}
use Rattle.least.proofs.Offices.{OneTape}

module _ (c : ℕ) where
  -- A stop wanted c times as often, and several.
  abbrev scaled : Stop → Stop
  scaled s = record { file = s.file; start = s.start; end = s.end; count = c * s.count }

  abbrev pub allScaled : List Stop → List Stop
  allScaled ss = map scaled ss

  in_place : (s : Stop) → Places (scaled s) s
  in_place s = record { start = refl; end = refl }

  -- The stops of counts c times as large, before and after joining.
  wants_scaled : (starts lengths aggregates ns cs : List ℕ)
      → want_stops starts lengths aggregates ns (map (λ n. c * n) cs) ≡ allScaled (want_stops starts lengths aggregates ns cs)
  unfolding want_stops
  wants_scaled starts lengths aggregates [] cs = refl
  wants_scaled starts lengths aggregates (f ∷ fs) [] = refl
  wants_scaled starts lengths aggregates (f ∷ fs) (n ∷ cs) = ap (λ ss. stop_of starts lengths aggregates f (c * n) ∷ ss) (wants_scaled starts lengths aggregates fs cs)

  merged_scaled : (s t : Stop) → merged (scaled s) (scaled t) ≡ scaled (merged s t)
  merged_scaled s t =
      let e : c * s.count + c * t.count ≡ c * (s.count + t.count) = omega arith in
      ap (λ n. record { file = s.file; start = s.start; end = s.end; count = n }) e

  join_scaled : (s : Stop) (ts : List Stop) → join_to (scaled s) (allScaled ts) ≡ allScaled (join_to s ts)
  join_scaled s [] = rw (join_none s, join_none (scaled s))
  join_scaled s (t ∷ ts) =
      by_name s t
      (λ e. rw (join_same s t ts e, join_same (scaled s) (scaled t) (allScaled ts) e, merged_scaled s t))
      (λ n. rw (join_other s t ts n, join_other (scaled s) (scaled t) (allScaled ts) n))

  joined_scaled : (ss : List Stop) → joined (allScaled ss) ≡ allScaled (joined ss)
  unfolding joined
  joined_scaled [] = refl
  joined_scaled (s ∷ ss) = ap (join_to (scaled s)) (joined_scaled ss) ∙ join_scaled s (joined ss)

  -- Names, places and so legs are the same.
  wanted_scaled : (ss : List Stop) (f : ℕ) → wanted (allScaled ss) f ≡ wanted ss f
  unfolding wanted
  wanted_scaled [] f = refl
  wanted_scaled (s ∷ ss) f = ap (λ b. eqb s.file f || b) (wanted_scaled ss f)

  leftmost_scaled : (ss : List Stop) → leftmost (allScaled ss) ≡ leftmost ss
  leftmost_scaled [] = refl
  leftmost_scaled (s ∷ ss) = refl

  start_scaled : (ss : List Stop) (f : ℕ) → start_of (allScaled ss) f ≡ start_of ss f
  unfolding start_of
  start_scaled [] f = refl
  start_scaled (s ∷ ss) f = ap (λ n. cond (eqb s.file f) s.start n) (start_scaled ss f)

  end_scaled : (ss : List Stop) (f : ℕ) → end_of (allScaled ss) f ≡ end_of ss f
  unfolding end_of
  end_scaled [] f = refl
  end_scaled (s ∷ ss) f = ap (λ n. cond (eqb s.file f) s.end n) (end_scaled ss f)

  detours_scaled : (ss : List Stop) (list : List Detour) → map (leg_of (allScaled ss)) list ≡ map (leg_of ss) list
  detours_scaled ss [] = refl
  detours_scaled ss (d ∷ list) = rw (start_scaled ss d.from, end_scaled ss d.to, detours_scaled ss list)

  unread_scaled : (gs : List Leg) (ss : List Stop) (e : ℕ) → unread_end gs (allScaled ss) e ≡ unread_end gs ss e
  unfolding unread_end
  unread_scaled gs [] e = refl
  unread_scaled gs (s ∷ ss) e =
      ap (λ b. unread_end gs (allScaled ss) (cond b e s.end)) (served_same gs (scaled s) s (in_place s)) ∙ unread_scaled gs ss (cond (served gs s) e s.end)

  sweep_scaled : (ss : List Stop) (list : List Detour) → last_sweep (allScaled ss) list ≡ last_sweep ss list
  unfolding last_sweep sweep_end
  sweep_scaled [] list = refl
  sweep_scaled (s ∷ ss) list = rw (detours_scaled (s ∷ ss) list, unread_scaled (map (leg_of (s ∷ ss)) list) ss s.end)

  pub legs_scaled : (ss : List Stop) (list : List Detour) → legs_of (allScaled ss) list ≡ legs_of ss list
  unfolding legs_of
  legs_scaled ss list = rw (detours_scaled ss list, sweep_scaled ss list)

  -- Well-formed lists too.
  bad_scaled : (ss : List Stop) (list : List Detour) → first_bad_entry (allScaled ss) list ≡ first_bad_entry ss list
  bad_scaled ss list = formed_by_names (allScaled ss) ss (wanted_scaled ss) (leftmost_scaled ss) list

  -- Times and legs are the same, and sums c times as large.
  module _ (price : ℕ) (h : Head) (gs : List Leg) where
    pub times_scaled : (ss : List Stop) → times_of price h gs (allScaled ss) ≡ times_of price h gs ss
    unfolding times_of
    times_scaled [] = refl
    times_scaled (s ∷ ss) = rw (time_same price gs h (scaled s) s (in_place s)) (ap (λ ts. time_of price h gs s ∷ ts) (times_scaled ss))

    sum_scaled : (ss : List Stop) → sum_of price h gs (allScaled ss) ≡ c * sum_of price h gs ss
    unfolding sum_of
    sum_scaled [] = omega arith
    sum_scaled (s ∷ ss) = rw (time_same price gs h (scaled s) s (in_place s)) (omega (arith, sum_scaled ss))

  pub told_scaled : (gs : List Leg) (ss : List Stop) → legs_for gs (allScaled ss) ≡ legs_for gs ss
  unfolding legs_for
  told_scaled gs [] = refl
  told_scaled gs (s ∷ ss) = rw (leg_same 1 gs (scaled s) s (in_place s)) (ap (λ ns. leg_for gs s ∷ ns) (told_scaled gs ss))

  pub list_sum_scaled : (price m : ℕ) (ss : List Stop) (list : List Detour) → list_sum price m (allScaled ss) list ≡ c * list_sum price m ss list
  list_sum_scaled price m ss list = rw (legs_scaled ss list) (sum_scaled price _ (legs_of ss list) ss)

times_smaller : (c x y : ℕ) → x ≤ y → c * x ≤ c * y
times_smaller c x y l = mul-le-mul_left c l

times_same : (c x y : ℕ) → 1 ≤ c → c * x ≡ c * y → x ≡ y
times_same c x y l e =
    by_cases
    (dec_lt x y)
    (λ h. absurd (omega (arith, mul-le-mul_left c h)))
    (λ h. by_cases (dec_lt y x) (λ k. absurd (omega (arith, mul-le-mul_left c k))) (λ k. omega arith))

-- So a least list stays the least.
pub least_scaled : (c : ℕ) → 1 ≤ c → (price m : ℕ) (ss : List Stop) (list : List Detour) → LeastFor price m ss list → LeastFor price m (allScaled c ss) list
least_scaled c some price m ss list least =
    record {
      formed = bad_scaled c ss list ∙ least.formed;
      smallest = λ other v.
          rw (list_sum_scaled c price m ss list, list_sum_scaled c price m ss other)
          (times_smaller c _ _ (least.smallest other (sym (bad_scaled c ss other) ∙ v)));
      first = λ other v e.
          least.first other (sym (bad_scaled c ss other) ∙ v)
          (times_same c _ _ some (rw (list_sum_scaled c price m ss list, list_sum_scaled c price m ss other) at e));
    }

-- The stops of a run with the counts of another c times over, on one tape.
module _ (c : ℕ) (many r : Run) (tape : OneTape many r) (numbers : many.numbers ≡ r.numbers) (counts : many.counts ≡ map (λ n. c * n) r.counts) where
  pub wants_multiplied : want_stops_of many ≡ allScaled c (want_stops_of r)
  wants_multiplied =
      rw (tape.starts, tape.lengths, tape.aggregates, numbers, counts) (wants_scaled c r.starts r.lengths r.aggregates r.numbers r.counts)

  pub stops_multiplied : stops_of many ≡ allScaled c (stops_of r)
  stops_multiplied = ap joined wants_multiplied ∙ joined_scaled c (want_stops_of r)
