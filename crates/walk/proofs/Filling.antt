-- Filling the rows for times and legs and adding up the sum: what is done with what is left is the whole, and nothing wraps.
use Prim.Native.Nat.{ℕ, suc, ◌+◌, ◌-◌, ◌*◌, ◌≤◌, ◌<◌, ◌^◌}
use mathlib.Core.Path.{◌≡◌, refl, ap, ◌∙◌}
use mathlib.Core.Bool.{true, false}
use mathlib.Core.Logic.{⊎_elim}
use mathlib.Core.List.{List, [], ◌∷◌, ◌++◌, map, append_assoc, append-nil}
use native.Mathlib.Omega.{arith}
use native.Mathlib.Nat.{mul-le-mul_left}
use native.Mathlib.Numerals.{add-one}
use lib.ListN.{length, get_or, take, drop, set, length-set, take-append-drop, drop_of_length-le}
use lib.Seq.{take-suc-set, drop-set-lt, drop-drop}
use Rattle.walk.specs.declared.Head.{Head}
use Rattle.walk.specs.declared.Leg.{Leg}
use Rattle.walk.specs.declared.Read.{Read}
use Rattle.runs.specs.Run.{Stop, stop_of, want_stops, total, most_reads, last_place, highest_turn}
use Rattle.walk.specs.Walk.{head_at, set_off, after_leg, Moves, walked, reads, time_of, leg_for, times_of, legs_for, sum_of}
use Rattle.walk.specs.Private.{leg_at, Walkable, read_of}
use Rattle.runs.proofs.Search.{true_or_false}
use Rattle.runs.proofs.Accepted.{total_drop}
use Rattle.runs.proofs.Joined.{Places}
use Rattle.runs.proofs.Stops.{wants_length, wants_drop}
use Rattle.walk.proofs.Steps.{set_off_clock, read_inside}
use Rattle.walk.proofs.Joins.{time_same, leg_same}
use Rattle.walk.proofs.Legs.{leg_most}

-- One number for each stop.
pub one_each : (f : Stop → ℕ) (stops : List Stop) → length (map f stops) ≡ length stops
one_each f [] = refl
one_each f (s ∷ ss) = ap suc (one_each f ss)

-- No time passes what the legs can cost.
abbrev pub time_most : ℕ
time_most = 141287244169216

time_within : (turn : ℕ) → turn ≤ highest_turn → (gs : List Leg) (h : Head) → h.place ≤ last_place → Moves h.place gs
    → ((i : ℕ) → i < length gs → (leg_at gs i).right ≤ last_place) → (s : Stop) → time_of turn h gs s ≤ h.clock + length gs * leg_most
unfolding time_of
time_within turn cheap [] h near m on_tape s = omega arith
time_within turn cheap (g ∷ gs) h near m on_tape s =
    ⊎_elim here (later (time_within turn cheap gs (after_leg turn h g) (on_tape 0 (omega arith)) m.2 (λ i l. on_tape (suc i) (omega arith)) s)) (true_or_false (reads g s))
  where
    off : (set_off turn h g).clock ≤ h.clock + turn + (h.place - g.left) + turn
    off = set_off_clock turn h g

    short : g.right ≤ last_place
    short = on_tape 0 (omega arith)

    here : reads g s ≡ true → time_of turn h (g ∷ gs) s ≤ h.clock + length (g ∷ gs) * leg_most
    here e = rw e (omega (arith, off, short, (read_inside g s e).1))

    later : time_of turn (after_leg turn h g) gs s ≤ (after_leg turn h g).clock + length gs * leg_most → reads g s ≡ false
        → time_of turn h (g ∷ gs) s ≤ h.clock + length (g ∷ gs) * leg_most
    later rest e = rw e (omega (arith, off, short, rest, m.1))

-- Nor does the walk's end.
end_within : (turn : ℕ) → turn ≤ highest_turn → (gs : List Leg) (h : Head) → h.place ≤ last_place → Moves h.place gs
    → ((i : ℕ) → i < length gs → (leg_at gs i).right ≤ last_place) → (walked turn h gs).clock ≤ h.clock + length gs * leg_most
unfolding walked
end_within turn cheap [] h near m on_tape = omega arith
end_within turn cheap (g ∷ gs) h near m on_tape =
    omega (
      arith,
      end_within turn cheap gs (after_leg turn h g) (on_tape 0 (omega arith)) m.2 (λ i l. on_tape (suc i) (omega arith)),
      set_off_clock turn h g,
      on_tape 0 (omega arith),
      m.1,
    )

pub end_bound : (gs : List Leg) (head turn : ℕ) → Walkable gs head turn → (walked turn (head_at head) gs).clock ≤ time_most
end_bound gs head turn w =
    let b = end_within turn w.cheap gs (head_at head) w.near w.moves w.on_tape in
    omega (arith, b, w.few)

pub time_bound : (gs : List Leg) (head turn : ℕ) → Walkable gs head turn → (s : Stop) → time_of turn (head_at head) gs s ≤ time_most
time_bound gs head turn w s =
    let b = time_within turn w.cheap gs (head_at head) w.near w.moves w.on_tape s in
    omega (arith, b, w.few)

-- A row that is being filled with a number for each stop: the first i entries are there, the rest is as it was.
pub record RowFilling (f : Stop → ℕ) (stops : List Stop) (row₀ row : List ℕ) (i : ℕ) : Type 0 where
  pub same : length row ≡ length row₀
  pub done : take i row ++ map f (drop i stops) ≡ map f stops
  pub rest : drop i row ≡ drop i row₀

module _ (f : Stop → ℕ) where
  row_on : (stops : List Stop) (row₀ row : List ℕ) (i : ℕ) → RowFilling f stops row₀ row i → (s : Stop) → drop i stops ≡ s ∷ drop (i + 1) stops
      → (n : ℕ) → n ≡ f s → i < length row → RowFilling f stops row₀ (set row i n) (i + 1)
  row_on stops row₀ row i p s next n is l =
      record {
        same = length-set row i n ∙ p.same;
        done = rw (add-one, take-suc-set row i n l, append_assoc, ← add-one i) (rw is (rw next at p.done));
        rest = rw (drop-set-lt (i + 1) row i n (omega arith), ← (drop-drop 1 i row), p.rest, drop-drop 1 i row₀);
      }

  row_whole_here : (stops : List Stop) (row₀ row : List ℕ) (i : ℕ) → RowFilling f stops row₀ row i → drop i stops ≡ [] → row ≡ map f stops ++ drop i row₀
  row_whole_here stops row₀ row i p none = rw (← p.done, none, append-nil, ← p.rest, take-append-drop)

pub record Filling (gs : List Leg) (head turn : ℕ) (stops : List Stop) (counts times₀ legs₀ times legs : List ℕ) (sum i : ℕ) : Type 0 where
  pub within : i ≤ length stops
  pub timed : RowFilling (time_of turn (head_at head) gs) stops times₀ times i
  pub numbered : RowFilling (leg_for gs) stops legs₀ legs i
  pub whole : sum + sum_of turn (head_at head) gs (drop i stops) ≡ sum_of turn (head_at head) gs stops
  pub small : sum + time_most * total (drop i counts) ≤ time_most * total counts

module _ (starts lengths aggregates ns cs : List ℕ) (equal : length cs ≡ length ns) (gs : List Leg) (head turn : ℕ) (times₀ legs₀ times legs : List ℕ) (sum i : ℕ)
    (p : Filling gs head turn (want_stops starts lengths aggregates ns cs) cs times₀ legs₀ times legs sum i) where
  module _ (w : Walkable gs head turn) (l : i < length ns) (t : Read) (is : t ≡ read_of turn (head_at head) gs (stop_of starts lengths aggregates (get_or ns i 0) 0)) where
    time_small : t.time ≤ time_most
    time_small = rw is (time_bound gs head turn w (stop_of starts lengths aggregates (get_or ns i 0) 0))

    -- How often a file is wanted has no part in its time, nor in its leg.
    any_count : Places (stop_of starts lengths aggregates (get_or ns i 0) 0) (stop_of starts lengths aggregates (get_or ns i 0) (get_or cs i 0))
    any_count = record { start = refl; end = refl }

    is_time : t.time ≡ time_of turn (head_at head) gs (stop_of starts lengths aggregates (get_or ns i 0) (get_or cs i 0))
    is_time = ap (λ x. x.time) is ∙ time_same turn gs (head_at head) _ _ any_count

    is_leg : t.leg ≡ leg_for gs (stop_of starts lengths aggregates (get_or ns i 0) (get_or cs i 0))
    is_leg = ap (λ x. x.leg) is ∙ leg_same 1 gs _ _ any_count

    product_small : get_or cs i 0 * t.time ≤ get_or cs i 0 * time_most
    product_small = mul-le-mul_left (get_or cs i 0) time_small

    -- The product and the sum stay far below what a word holds.
    pub product_fits : total cs ≤ most_reads → get_or cs i 0 * t.time < 2 ^ 64
    product_fits few = omega (arith, product_small, total_drop cs i (omega arith), p.small)

    pub sum_fits : total cs ≤ most_reads → sum + get_or cs i 0 * t.time < 2 ^ 64
    sum_fits few = omega (arith, product_small, total_drop cs i (omega arith), p.small)

    next : drop i (want_stops starts lengths aggregates ns cs) ≡ stop_of starts lengths aggregates (get_or ns i 0) (get_or cs i 0) ∷ drop (i + 1) (want_stops starts lengths aggregates ns cs)
    next = rw add-one (wants_drop starts lengths aggregates ns cs equal i l)

    pub filled_one : i < length times → i < length legs
        → Filling gs head turn (want_stops starts lengths aggregates ns cs) cs times₀ legs₀ (set times i t.time) (set legs i t.leg) (sum + get_or cs i 0 * t.time) (i + 1)
    unfolding sum_of
    filled_one h k =
        record {
          within = omega (arith, wants_length starts lengths aggregates ns cs equal);
          timed = row_on _ _ times₀ times i p.timed _ next t.time is_time h;
          numbered = row_on _ _ legs₀ legs i p.numbered _ next t.leg is_leg k;
          whole = rw is_time (omega (arith, rw next at p.whole));
          small = omega (arith, product_small, total_drop cs i (omega arith), p.small);
        }

  -- All filled.
  none_left : length ns ≤ i → drop i (want_stops starts lengths aggregates ns cs) ≡ []
  none_left h = let past : length (want_stops starts lengths aggregates ns cs) ≤ i = omega (arith, wants_length starts lengths aggregates ns cs equal) in drop_of_length-le (want_stops starts lengths aggregates ns cs) past

  all_done : length ns ≤ i → length ns ≡ i
  all_done h = omega (arith, p.within, wants_length starts lengths aggregates ns cs equal)

  pub filled_times : length ns ≤ i → times ≡ times_of turn (head_at head) gs (want_stops starts lengths aggregates ns cs) ++ drop (length ns) times₀
  unfolding times_of
  filled_times h = rw (all_done h) (row_whole_here _ _ times₀ times i p.timed (none_left h))

  pub filled_legs : length ns ≤ i → legs ≡ legs_for gs (want_stops starts lengths aggregates ns cs) ++ drop (length ns) legs₀
  unfolding legs_for
  filled_legs h = rw (all_done h) (row_whole_here _ _ legs₀ legs i p.numbered (none_left h))

  pub filled_sum : length ns ≤ i → sum ≡ sum_of turn (head_at head) gs (want_stops starts lengths aggregates ns cs)
  unfolding sum_of
  filled_sum h = omega (arith, rw (none_left h) at p.whole)
