-- The legs of a list as the rows hold them, and a walk over them within the limits: no clock wraps, and each step is the machine's.
use Prim.Native.Nat.{ℕ, zero, suc, ◌+◌, ◌*◌, ◌≤◌, ◌<◌, ◌^◌}
use mathlib.Core.Path.{◌≡◌, refl, ap, sym, ◌∙◌}
use mathlib.Core.Bool.{Bool, true, false, ◌&&◌}
use mathlib.Core.List.{List, [], ◌∷◌}
use native.Mathlib.Omega.{arith}
use native.Mathlib.Numerals.{add-one}
use lib.ListN.{length, get_or, drop, length-append, drop_of_length-le, get_or-append}
use lib.Seq.{drop-cons, get_or-append-add}
use lib.Dec.{leb}
use Rattle.walk.specs.declared.Head.{Head}
use Rattle.walk.specs.declared.Leg.{Leg}
use Rattle.walk.specs.declared.Read.{Read}
use Rattle.runs.specs.Run.{Stop, last_place}
use Rattle.walk.specs.Walk.{head_at, run_right, set_off, after_leg, Moves, walked, time_of, leg_from, leg_for}
use Rattle.walk.specs.Private.{leg_start, right_of, detour_legs, sweep_legs, row_legs, leg_at, Walkable, read_of}
use Rattle.walk.proofs.Steps.{ready_place, set_off_clock, read_inside}

module _ (m : ℕ) (starts lengths aggregates : List ℕ) where
  pub length_detours : (froms tos : List ℕ) → length froms ≡ length tos → length (detour_legs m starts lengths aggregates froms tos) ≡ length froms
  unfolding detour_legs
  length_detours [] tos e = refl
  length_detours (a ∷ froms) [] e = absurd (omega arith)
  length_detours (a ∷ froms) (b ∷ tos) e = ap suc (length_detours froms tos (omega arith))

  pub detour_leg_lem : (froms tos : List ℕ) → length froms ≡ length tos → (i : ℕ) → i < length froms
      → leg_at (detour_legs m starts lengths aggregates froms tos) i ≡ record { left = leg_start m starts aggregates (get_or froms i 0); right = right_of starts lengths aggregates (get_or tos i 0) }
  unfolding detour_legs
  detour_leg_lem [] tos e i l = absurd (omega arith)
  detour_leg_lem (a ∷ froms) [] e i l = absurd (omega arith)
  detour_leg_lem (a ∷ froms) (b ∷ tos) e zero l = refl
  detour_leg_lem (a ∷ froms) (b ∷ tos) e (suc i) l = detour_leg_lem froms tos (omega arith) i (omega arith)

  sweep_count : (numbers : List ℕ) (reach : ℕ) → (length numbers ≡ 0 → ⊥) → length (sweep_legs m starts aggregates numbers reach) ≡ 1
  unfolding sweep_legs
  sweep_count [] reach some = absurd (some refl)
  sweep_count (n ∷ ns) reach some = refl

  sweep_none : (numbers : List ℕ) (reach : ℕ) → length numbers ≡ 0 → length (sweep_legs m starts aggregates numbers reach) ≡ 0
  unfolding sweep_legs
  sweep_none [] reach e = refl
  sweep_none (n ∷ ns) reach e = absurd (omega arith)

  sweep_most_here : (numbers : List ℕ) (reach : ℕ) → length (sweep_legs m starts aggregates numbers reach) ≤ 1
  unfolding sweep_legs
  sweep_most_here [] reach = omega arith
  sweep_most_here (n ∷ ns) reach = omega arith

  sweep_leg_here : (numbers : List ℕ) (reach : ℕ) → 0 < length (sweep_legs m starts aggregates numbers reach)
      → (0 < length numbers) × (leg_at (sweep_legs m starts aggregates numbers reach) 0 ≡ record { left = leg_start m starts aggregates (get_or numbers 0 0); right = reach })
  unfolding sweep_legs
  sweep_leg_here [] reach l = absurd (omega arith)
  sweep_leg_here (n ∷ ns) reach l = (omega arith, refl)

  module _ (numbers froms tos : List ℕ) (reach : ℕ) (even : length froms ≡ length tos) where
    legs_length_here : length (row_legs m starts lengths aggregates numbers froms tos reach) ≡ length froms + length (sweep_legs m starts aggregates numbers reach)
    unfolding row_legs
    legs_length_here = rw (length-append, length_detours froms tos even)

    -- How many legs there are, with and without wants.
    pub no_legs_lem : length numbers ≡ 0 → length froms ≤ length numbers → 0 ≡ length (row_legs m starts lengths aggregates numbers froms tos reach)
    no_legs_lem none l = omega (arith, legs_length_here, sweep_none numbers reach none)

    pub legs_count : (length numbers ≡ 0 → ⊥) → length froms + 1 ≡ length (row_legs m starts lengths aggregates numbers froms tos reach)
    legs_count some = omega (arith, legs_length_here, sweep_count numbers reach some)

    pub legs_most : length (row_legs m starts lengths aggregates numbers froms tos reach) ≤ length froms + 1
    legs_most = omega (arith, legs_length_here, sweep_most_here numbers reach)

    -- Which leg stands at an index: a detour, or the last sweep.
    pub leg_of_detour : (i : ℕ) → i < length froms
        → record { left = leg_start m starts aggregates (get_or froms i 0); right = right_of starts lengths aggregates (get_or tos i 0) } ≡ leg_at (row_legs m starts lengths aggregates numbers froms tos reach) i
    unfolding row_legs
    leg_of_detour i l =
        sym (get_or-append (detour_legs m starts lengths aggregates froms tos) (sweep_legs m starts aggregates numbers reach) _ i (omega (arith, length_detours froms tos even)) ∙ detour_leg_lem froms tos even i l)

    pub leg_of_sweep : (i : ℕ) → length froms ≤ i → i < length (row_legs m starts lengths aggregates numbers froms tos reach)
        → (0 < length numbers)
        × (record { left = leg_start m starts aggregates (get_or numbers 0 0); right = reach } ≡ leg_at (row_legs m starts lengths aggregates numbers froms tos reach) i)
    unfolding row_legs
    leg_of_sweep i l h =
        let one = sweep_leg_here numbers reach (omega (arith, legs_length_here)) in
        let at : i ≡ length (detour_legs m starts lengths aggregates froms tos) + 0 = omega (arith, legs_length_here, length_detours froms tos even, sweep_most_here numbers reach) in
        (one.0, sym (rw at (get_or-append-add (detour_legs m starts lengths aggregates froms tos) (sweep_legs m starts aggregates numbers reach) 0 _ ∙ one.1)))

-- The most that one leg can add to the clock: two turns and twice the tape.
abbrev pub leg_most : ℕ
leg_most = 2207613190144

-- A walk under way: i legs are done and the rest is still a movement from where the head is.
pub record Walking (gs : List Leg) (h : Head) (i : ℕ) : Type 0 where
  pub within : i ≤ length gs
  pub moves : Moves h.place (drop i gs)
  pub near : h.place ≤ last_place
  pub early : h.clock ≤ i * leg_most

-- The next leg, and what is known of it.
pub record NextLeg (gs : List Leg) (h : Head) (i turn : ℕ) (g : Leg) : Type 0 where
  pub split : drop i gs ≡ g ∷ drop (i + 1) gs
  pub back : g.left ≤ h.place
  pub forth : g.left ≤ g.right
  pub on_tape : g.right ≤ last_place
  pub off : (set_off turn h g).clock + g.right < 2 ^ 64
  pub room : h.clock + turn + h.place + turn < 2 ^ 64
  pub then : Moves g.right (drop (i + 1) gs)
  pub clock : (after_leg turn h g).clock ≤ (i + 1) * leg_most

module _ (gs : List Leg) (head turn : ℕ) (w : Walkable gs head turn) (h : Head) (i : ℕ) (p : Walking gs h i) (l : i < length gs) where
  splits : drop i gs ≡ leg_at gs i ∷ drop (i + 1) gs
  splits = rw add-one (drop-cons gs i _ l)

  moves_on : Moves h.place (leg_at gs i ∷ drop (i + 1) gs)
  moves_on = rw splits at p.moves

  pub next_leg : (g : Leg) → g ≡ leg_at gs i → NextLeg gs h i turn g
  next_leg g e =
      rw e
      (record {
        split = splits;
        back = moves_on.0;
        forth = moves_on.1;
        on_tape = w.on_tape i l;
        off = omega (arith, set_off_clock turn h (leg_at gs i), moves_on.0, w.on_tape i l, w.few, w.cheap, p.near, p.early);
        room = omega (arith, w.few, w.cheap, p.near, p.early);
        then = moves_on.2;
        clock = omega (arith, set_off_clock turn h (leg_at gs i), ready_place h turn, moves_on.0, moves_on.1, w.on_tape i l, w.cheap, p.near, p.early);
      })

  pub walking_on : (g : Leg) → NextLeg gs h i turn g → Walking gs (after_leg turn h g) (i + 1)
  walking_on g n = record { within = omega arith; moves = n.then; near = n.on_tape; early = n.clock }

-- The walk's end, as the loop has it: the legs that are left lead from here to the same end.
pub record Ending (gs : List Leg) (head turn : ℕ) (h : Head) (i : ℕ) : Type 0 where
  pub walking : Walking gs h i
  pub same : walked turn h (drop i gs) ≡ walked turn (head_at head) gs

module _ (gs : List Leg) (head turn : ℕ) where
  module _ (h : Head) (i : ℕ) (p : Ending gs head turn h i) where
    pub ending_on : Walkable gs head turn → (l : i < length gs) (g : Leg) → NextLeg gs h i turn g → Ending gs head turn (after_leg turn h g) (i + 1)
    unfolding walked
    ending_on w l g n = record { walking = walking_on gs head turn w h i p.walking l g n; same = rw n.split at p.same }

    pub ended : length gs ≤ i → h ≡ walked turn (head_at head) gs
    unfolding walked
    ended l = rw (drop_of_length-le gs l) at p.same

-- A file's time and leg, as the loop has them: no leg so far has read it.
pub record Timing (gs : List Leg) (head turn : ℕ) (s : Stop) (h : Head) (i : ℕ) : Type 0 where
  pub walking : Walking gs h i
  pub time : time_of turn h (drop i gs) s ≡ time_of turn (head_at head) gs s
  pub leg : leg_from (i + 1) (drop i gs) s ≡ leg_for gs s

-- Equal times and equal legs make equal reads.
same_read : {t t' n n' : ℕ} → t ≡ t' → n ≡ n' → ◌≡◌ {A = Read} (record { time = t; leg = n }) (record { time = t'; leg = n' })
same_read e f = rw (e, f)

module _ (gs : List Leg) (head turn : ℕ) (s : Stop) where
  module _ (h : Head) (i : ℕ) (p : Timing gs head turn s h i) where
    module _ (g : Leg) (n : NextLeg gs h i turn g) where
      module _ (t : Bool) (test : t ≡ (leb g.left s.start && leb s.end g.right)) where
        pub read_now : t ≡ true → record { time = (run_right (set_off turn h g) s.end).clock; leg = i + 1 } ≡ read_of turn (head_at head) gs s
        unfolding time_of leg_from
        read_now e = same_read (rw (n.split, sym test ∙ e) at p.time) (rw (n.split, sym test ∙ e) at p.leg)

        pub timing_on : Walkable gs head turn → i < length gs → t ≡ false → Timing gs head turn s (after_leg turn h g) (i + 1)
        unfolding time_of leg_from
        timing_on w l e =
            record {
              walking = walking_on gs head turn w h i p.walking l g n;
              time = rw (n.split, sym test ∙ e) at p.time;
              leg = rw (n.split, sym test ∙ e, ← add-one (i + 1)) at p.leg;
            }

        -- A file is read from at or left of its start to its end, within the tape.
        pub reads_within : t ≡ true → (g.left ≤ s.start) × (s.end ≤ g.right)
        reads_within e = read_inside g s (sym test ∙ e)

    pub never_read : length gs ≤ i → record { time = 0; leg = 0 } ≡ read_of turn (head_at head) gs s
    unfolding time_of leg_from
    never_read l = same_read (rw (drop_of_length-le gs l) at p.time) (rw (drop_of_length-le gs l) at p.leg)
