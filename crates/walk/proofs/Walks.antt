-- From an accepted run and an accepted list to a walk within the limits: the list is short, its legs are a movement, and the rows hold them.
use Prim.Native.Nat.{ℕ, zero, suc, ◌+◌, ◌-◌, ◌≤◌, ◌<◌}
use mathlib.Core.Path.{◌≡◌, refl, ap, sym, ◌∙◌}
use mathlib.Core.Bool.{true, false, not, true≢false}
use mathlib.Core.Logic.{⊎_elim}
use mathlib.Core.List.{List, [], ◌∷◌, ◌++◌, map}
use native.Mathlib.Omega.{arith}
use native.Mathlib.Nat.{eq-or-lt_of_le, le_of_suc-le-suc}
use native.Mathlib.Decide.{dec_lt}
use lib.ListN.{length, get_or}
use lib.Dec.{eqb}
use borrow.Author.Tests.{eqb-true, ltb-false, leb-false, not-true, not-false}
use Rattle.walk.specs.declared.Leg.{Leg}
use Rattle.refusals.specs.declared.Refusal.TheVariants.{BadEntry}
use Rattle.refusals.specs.Refusals.{refuse_if, refuse_at}
use Rattle.runs.specs.Run.{Run, Stop, goes_on, joined, want_stops, want_stops_of, stops_of, last_place, highest_turn, most_wants}
use Rattle.runs.specs.Rows.{stop_at}
use Rattle.walk.specs.Walk.{Moves}
use Rattle.runs.specs.Lists.{Detour, list_of, wanted, leftmost, bad_after, bad_entry, entry_of, first_bad_entry, list_verdict}
use Rattle.walk.specs.Detours.{start_of, end_of, leg_of, sweep_end, last_sweep, legs_of}
use Rattle.runs.specs.Private.{InTable}
use Rattle.runs.specs.AnyHead.{pulled}
use Rattle.walk.specs.Private.{left_of, leg_start, right_of, detour_legs, sweep_legs, row_legs, leg_at, RowsFit, Walkable}
use Rattle.runs.proofs.Search.{first_zero, any_zero, or_false_both, true_or_false}
use Rattle.refusals.proofs.Verdicts.{refuses, all_accept, accepts_if, accepts_at}
use Rattle.runs.proofs.Judged.{GoodRun, wants_named}
use Rattle.runs.proofs.Sound.{Sound}
use Rattle.runs.proofs.Members.{and_true_both, first_stays, first_below}
use Rattle.runs.proofs.Joined.{wanted_joined}
use Rattle.runs.proofs.Stops.{first_file_lem, want_at_lem, wants_length, wants_agree, wanted_at, start_of_name, end_of_name, run_sound, stops_few}
use Rattle.runs.proofs.Entries.{length_list, entry_row, wanted_named}
use Rattle.runs.proofs.Formed.{start_to_end}
use Rattle.runs.proofs.AnyHead.{smaller_is, pulled_length, pulled_at, wanted_pulled, leftmost_pulled, pulled_joined, pulled_agrees}
use Rattle.walk.proofs.Joins.{start_by, end_by, start_joined, end_joined, legs_joined}
use Rattle.walk.proofs.Sweeps.{sweeps_to}
use Rattle.walk.proofs.Pulled.{start_pulled, end_pulled, detours_left, sweep_pulled}

-- An entry that is not bad.
pub record GoodEntry (ss : List Stop) (list : List Detour) (i : ℕ) : Type 0 where
  pub from_wanted : wanted ss (entry_of list i).from ≡ true
  pub to_wanted : wanted ss (entry_of list i).to ≡ true
  pub ordered : (entry_of list i).from ≤ (entry_of list i).to
  pub inner : leftmost ss < (entry_of list i).from
  pub falls : (j : ℕ) → j < i → (entry_of list i).from < (entry_of list j).from

pub good_entry : (ss : List Stop) (list : List Detour) (i : ℕ) → bad_entry ss list i ≡ false → GoodEntry ss list i
good_entry ss list i e =
    let all = or_false_both _ _ e in
    let four = or_false_both _ _ all.0 in
    let three = or_false_both _ _ four.0 in
    let two = or_false_both _ _ three.0 in
    record {
      from_wanted = not-false _ two.0;
      to_wanted = not-false _ two.1;
      ordered = ltb-false (entry_of list i).to (entry_of list i).from three.1;
      inner = leb-false (entry_of list i).from (leftmost ss) four.1;
      falls = λ j l. leb-false (entry_of list j).from (entry_of list i).from (or_false_both _ _ (any_zero (λ k. bad_after (entry_of list k) (entry_of list i)) i all.1 j l)).0;
    }

-- Two rows of one length that hold a list of such entries.
pub record GoodList (ss : List Stop) (froms tos : List ℕ) : Type 0 where
  pub even : length froms ≡ length tos
  pub each : (i : ℕ) → i < length (list_of froms tos) → GoodEntry ss (list_of froms tos) i

pub accepted_list : (ss : List Stop) (froms tos : List ℕ) → refuses (list_verdict ss froms tos) ≡ false → GoodList ss froms tos
unfolding list_verdict first_bad_entry
accepted_list ss froms tos e =
    let all = all_accept (refuse_if (not (eqb (length froms) (length tos))) BadEntry ∷ refuse_at (first_bad_entry ss (list_of froms tos)) BadEntry ∷ []) e in
    record {
      even = eqb-true _ _ (not-false _ (accepts_if _ BadEntry refl all.0));
      each = λ i l. good_entry ss (list_of froms tos) i (first_zero (bad_entry ss (list_of froms tos)) (length (list_of froms tos)) (accepts_at _ BadEntry refl all.1.0) i l);
    }

-- A wanted name is a stop's, and there the name starts and ends.
pub record Found (ss : List Stop) (f : ℕ) : Type 0 where
  pub index : ℕ
  pub within : index < length ss
  pub is : (stop_at ss index).file ≡ f
  pub starts : start_of ss f ≡ (stop_at ss index).start
  pub ends : end_of ss f ≡ (stop_at ss index).end

pub found : (ss : List Stop) (f : ℕ) → wanted ss f ≡ true → Found ss f
unfolding wanted start_of end_of
found [] f w = absurd (true≢false (sym w))
found (s ∷ ss) f w =
    let rest = found ss f in
    ⊎_elim
    (λ (here : eqb s.file f ≡ true). record { index = 0; within = omega arith; is = eqb-true _ _ here; starts = rw here refl; ends = rw here refl })
    (λ (away : eqb s.file f ≡ false).
    let later = rest (rw away at w) in
    record { index = suc later.index; within = omega (arith, later.within); is = later.is; starts = rw away later.starts; ends = rw away later.ends })
    (true_or_false (eqb s.file f))

leftmost_at : (ss : List Stop) → 0 < length ss → leftmost ss ≡ (stop_at ss 0).file
leftmost_at [] l = absurd (omega arith)
leftmost_at (s ∷ ss) l = refl

-- A movement, leg by leg: each leg turns no further right than the one before it ended.
moves_by_leg : (p : ℕ) (gs : List Leg) → (0 < length gs → (leg_at gs 0).left ≤ p) → ((i : ℕ) → i < length gs → (leg_at gs i).left ≤ (leg_at gs i).right)
    → ((i : ℕ) → suc i < length gs → (leg_at gs (suc i)).left ≤ (leg_at gs i).right) → Moves p gs
moves_by_leg p [] first each next = tt
moves_by_leg p (g ∷ gs) first each next =
    (first (omega arith), each 0 (omega arith), moves_by_leg g.right gs (λ l. next 0 (omega arith)) (λ i l. each (suc i) (omega arith)) (λ i l. next (suc i) (omega arith)))

-- The legs of a list, by their index: the detours, then what is behind them.
module _ (ss : List Stop) (rest : List Leg) where
  legs_length_here : (list : List Detour) → length (map (leg_of ss) list ++ rest) ≡ length list + length rest
  legs_length_here [] = omega arith
  legs_length_here (d ∷ list) = omega (arith, legs_length_here list)

  detour_at_here : (list : List Detour) (i : ℕ) → i < length list → leg_at (map (leg_of ss) list ++ rest) i ≡ leg_of ss (entry_of list i)
  detour_at_here [] i l = absurd (omega arith)
  detour_at_here (d ∷ list) zero l = refl
  detour_at_here (d ∷ list) (suc i) l = detour_at_here list i (omega arith)

  behind_at : (list : List Detour) (i j : ℕ) → i ≡ length list + j → leg_at (map (leg_of ss) list ++ rest) i ≡ leg_at rest j
  behind_at [] i j e = let same : i ≡ j = omega arith in rw same refl
  behind_at (d ∷ list) zero j e = absurd (omega arith)
  behind_at (d ∷ list) (suc i) j e = behind_at list i j (omega arith)

-- The last sweep goes from the first stop's start to some stop's end.
record Swept (ss : List Stop) (g : Leg) : Type 0 where
  some : 0 < length ss
  left_is : g.left ≡ (stop_at ss 0).start
  index : ℕ
  within : index < length ss
  right_is : g.right ≡ (stop_at ss index).end

swept : (ss : List Stop) (list : List Detour) → 0 < length (last_sweep ss list) → Swept ss (leg_at (last_sweep ss list) 0)
unfolding last_sweep
swept [] list l = absurd (omega arith)
swept (s ∷ ss) list l =
    let w = sweeps_to (map (leg_of (s ∷ ss)) list) (s ∷ ss) (omega arith) in
    record { some = omega arith; left_is = refl; index = w.index; within = w.within; right_is = w.is }

sweep_most : (ss : List Stop) (list : List Detour) → length (last_sweep ss list) ≤ 1
unfolding last_sweep
sweep_most [] list = omega arith
sweep_most (s ∷ ss) list = omega arith

-- Stops as a head at m can walk them: names rise, each begins at or left of where any from it on ends, and of the head, and ends at or left of top.
record Steady (ss : List Stop) (m top : ℕ) : Type 0 where
  ascends : (i : ℕ) → suc i < length ss → (stop_at ss i).file < (stop_at ss (suc i)).file
  spans : (i j : ℕ) → i ≤ j → j < length ss → (stop_at ss i).start ≤ (stop_at ss j).end
  meets : (i : ℕ) → i < length ss → (stop_at ss i).start ≤ m
  ends : (i : ℕ) → i < length ss → (stop_at ss i).end ≤ top

sound_steady : (ss : List Stop) (m : ℕ) → Sound ss m → Steady ss m m
sound_steady ss m ok =
    record {
      ascends = ok.ascends;
      spans = λ i j l h. omega (arith, start_to_end ss m ok i j l h);
      meets = λ i h. omega (arith, ok.extends i h, ok.reached i h);
      ends = ok.reached;
    }

-- Of sound stops as a head anywhere meets them.
pulled_steady : (m : ℕ) (ss : List Stop) (top : ℕ) → Sound ss top → Steady (pulled m ss) m top
pulled_steady m ss top ok =
    record {
      ascends = λ i l. rw (pulled_at m ss i (omega (arith, pulled_length m ss)), pulled_at m ss (suc i) (omega (arith, pulled_length m ss))) (ok.ascends i (omega (arith, pulled_length m ss)));
      spans = λ i j l h.
          rw (pulled_at m ss i (omega (arith, pulled_length m ss)), pulled_at m ss j (omega (arith, pulled_length m ss)))
          (omega (arith, (smaller_is (stop_at ss i).start m).first, start_to_end ss top ok i j l (omega (arith, pulled_length m ss))));
      meets = λ i h. rw (pulled_at m ss i (omega (arith, pulled_length m ss))) (smaller_is (stop_at ss i).start m).second;
      ends = λ i h. rw (pulled_at m ss i (omega (arith, pulled_length m ss))) (ok.reached i (omega (arith, pulled_length m ss)));
    }

module _ (ss : List Stop) (m top : ℕ) (sound : Steady ss m top) where
  names_rise_here : (i j : ℕ) → i < j → j < length ss → (stop_at ss i).file < (stop_at ss j).file
  names_rise_here i zero l h = absurd (omega arith)
  names_rise_here i (suc j) l h =
      let before = names_rise_here i j in
      ⊎_elim
      (λ (e : i ≡ j). rw e (sound.ascends j h))
      (λ (lt : i < j). omega (arith, before lt (omega arith), sound.ascends j h))
      (eq-or-lt_of_le (le_of_suc-le-suc l))

  names_order_here : (i j : ℕ) → i < length ss → (stop_at ss i).file ≤ (stop_at ss j).file → i ≤ j
  names_order_here i j h l = elim (dec_lt j i) [ yes lt ↦ absurd (omega (arith, names_rise_here j i lt h)) | no n ↦ omega arith ]

  names_before : (i j : ℕ) → i < length ss → (stop_at ss i).file < (stop_at ss j).file → i < j
  names_before i j h l =
      ⊎_elim
      (λ (e : i ≡ j). absurd (omega (arith, ap (λ x. (stop_at ss x).file) e)))
      (λ (lt : i < j). lt)
      (eq-or-lt_of_le (names_order_here i j h (omega arith)))

  -- From the start of one name to the end of another at or right of it.
  way : (f g : ℕ) → wanted ss f ≡ true → wanted ss g ≡ true → f ≤ g → start_of ss f ≤ end_of ss g
  way f g a b l =
      let p = found ss f a in
      let q = found ss g b in
      omega (arith, p.starts, q.ends, sound.spans p.index q.index (names_order_here p.index q.index p.within (omega (arith, p.is, q.is))) q.within)

  module _ (list : List Detour) where
    -- The first n entries of a list, each of them good.
    module _ (n : ℕ) (each : (i : ℕ) → i < n → GoodEntry ss list i) where
      -- Starts fall among the stops, so the entry at i starts at most so far right.
      places_fall : (i : ℕ) → i < n → (p : ℕ) → p < length ss → (stop_at ss p).file ≡ (entry_of list i).from → p + i < length ss
      places_fall zero l p h e = omega arith
      places_fall (suc i) l p h e =
          let q = found ss (entry_of list i).from (each i (omega arith)).from_wanted in
          let bound = places_fall i (omega arith) q.index q.within q.is in
          let less = names_before p q.index h (omega (arith, e, q.is, (each (suc i) l).falls i (omega arith))) in
          omega (arith, bound, less)

      -- There are fewer of them than stops.
      fewer : 0 < length ss → n < length ss
      fewer some = elim (dec_lt 0 n) [ yes l ↦ last l | no h ↦ omega arith ]
        where
          last : 0 < n → n < length ss
          last l =
              let e = each (n - 1) (omega arith) in
              let p = found ss (entry_of list (n - 1)).from e.from_wanted in
              let bound = places_fall (n - 1) (omega arith) p.index p.within p.is in
              let inside = names_before 0 p.index some (omega (arith, p.is, e.inner, leftmost_at ss some)) in
              omega (arith, bound, inside)

      none_at_all : length ss ≡ 0 → n ≡ 0
      none_at_all none = elim (dec_lt 0 n) [ yes l ↦ absurd (empty l) | no h ↦ omega arith ]
        where
          empty : 0 < n → ⊥
          empty l = omega (arith, (found ss (entry_of list 0).from (each 0 l).from_wanted).within)

    module _ (each : (i : ℕ) → i < length list → GoodEntry ss list i) where
      gs : List Leg
      gs = map (leg_of ss) list ++ last_sweep ss list

      size : length gs ≡ length list + length (last_sweep ss list)
      unfolding gs
      size = legs_length_here ss (last_sweep ss list) list

      detour_is_here : (i : ℕ) → i < length list → leg_at gs i ≡ leg_of ss (entry_of list i)
      unfolding gs
      detour_is_here = detour_at_here ss (last_sweep ss list) list

      sweep_is : (i : ℕ) → length list ≤ i → i < length gs → Swept ss (leg_at gs i)
      unfolding gs
      sweep_is i l h =
          let at : i ≡ length list + 0 = omega (arith, size, sweep_most ss list) in
          rw (behind_at ss (last_sweep ss list) list i 0 at) (swept ss list (omega (arith, size)))

      leg_forth : (i : ℕ) → i < length gs → (leg_at gs i).left ≤ (leg_at gs i).right
      leg_forth i h = elim (dec_lt i (length list)) [ yes l ↦ in_list l | no n ↦ in_sweep (sweep_is i (omega arith) h) ]
        where
          in_list : i < length list → (leg_at gs i).left ≤ (leg_at gs i).right
          in_list l = let e = each i l in rw (detour_is_here i l) (way _ _ e.from_wanted e.to_wanted e.ordered)

          in_sweep : Swept ss (leg_at gs i) → (leg_at gs i).left ≤ (leg_at gs i).right
          in_sweep s = omega (arith, s.left_is, s.right_is, sound.spans 0 s.index (omega arith) s.within)

      leg_back : (i : ℕ) → suc i < length gs → (leg_at gs (suc i)).left ≤ (leg_at gs i).right
      leg_back i h = elim (dec_lt (suc i) (length list)) [ yes l ↦ in_list l | no n ↦ in_sweep (sweep_is (suc i) (omega arith) h) ]
        where
          here : i < length list
          here = omega (arith, size, sweep_most ss list)

          in_list : suc i < length list → (leg_at gs (suc i)).left ≤ (leg_at gs i).right
          in_list l =
              let e = each (suc i) l in
              rw (detour_is_here (suc i) l, detour_is_here i here) (way _ _ e.from_wanted (each i here).to_wanted (omega (arith, e.falls i (omega arith), (each i here).ordered)))

          in_sweep : Swept ss (leg_at gs (suc i)) → (leg_at gs (suc i)).left ≤ (leg_at gs i).right
          in_sweep s =
              let q = found ss (entry_of list i).to (each i here).to_wanted in
              omega (arith, s.left_is, ap (λ x. x.right) (detour_is_here i here), q.ends, sound.spans 0 q.index (omega arith) q.within)

      leg_first : 0 < length gs → (leg_at gs 0).left ≤ m
      leg_first h = elim (dec_lt 0 (length list)) [ yes l ↦ in_list l | no n ↦ in_sweep (sweep_is 0 (omega arith) h) ]
        where
          in_list : 0 < length list → (leg_at gs 0).left ≤ m
          in_list l =
              let p = found ss (entry_of list 0).from (each 0 l).from_wanted in
              omega (arith, ap (λ x. x.left) (detour_is_here 0 l), p.starts, sound.meets p.index p.within)

          in_sweep : Swept ss (leg_at gs 0) → (leg_at gs 0).left ≤ m
          in_sweep s = omega (arith, s.left_is, sound.meets 0 s.some)

      leg_reach : (i : ℕ) → i < length gs → (leg_at gs i).right ≤ top
      leg_reach i h = elim (dec_lt i (length list)) [ yes l ↦ in_list l | no n ↦ in_sweep (sweep_is i (omega arith) h) ]
        where
          in_list : i < length list → (leg_at gs i).right ≤ top
          in_list l =
              let q = found ss (entry_of list i).to (each i l).to_wanted in
              omega (arith, ap (λ x. x.right) (detour_is_here i l), q.ends, sound.ends q.index q.within)

          in_sweep : Swept ss (leg_at gs i) → (leg_at gs i).right ≤ top
          in_sweep s = omega (arith, s.right_is, sound.ends s.index s.within)

      few_legs : length ss ≤ most_wants → length gs ≤ most_wants
      few_legs few =
          elim (dec_lt 0 (length ss)) [
            | yes l ↦ omega (arith, size, sweep_most ss list, fewer (length list) each l)
            | no n ↦ omega (arith, size, sweep_most ss list, none_at_all (length list) each (omega arith))
          ]

      steady_walk : (turn : ℕ) → length ss ≤ most_wants → m ≤ last_place → top ≤ last_place → turn ≤ highest_turn → Walkable (legs_of ss list) m turn
      unfolding gs legs_of
      steady_walk turn few near far cheap =
          record {
            moves = moves_by_leg m gs leg_first leg_forth leg_back;
            few = few_legs few;
            on_tape = λ i l. omega (arith, leg_reach i l);
            near = near;
            cheap = cheap;
          }

-- Of sound stops: there are fewer entries than stops, and the walk of a good list is within the limits.
module _ (ss : List Stop) (m : ℕ) (sound : Sound ss m) (list : List Detour) where
  module _ (n : ℕ) (each : (i : ℕ) → i < n → GoodEntry ss list i) where
    pub entries_few : 0 < length ss → n < length ss
    entries_few some = fewer ss m m (sound_steady ss m sound) list n each some

    pub entries_none : length ss ≡ 0 → n ≡ 0
    entries_none none = none_at_all ss m m (sound_steady ss m sound) list n each none

  module _ (each : (i : ℕ) → i < length list → GoodEntry ss list i) (turn : ℕ) (few : length ss ≤ most_wants) (near : m ≤ last_place) (cheap : turn ≤ highest_turn) where
    pub walkable : Walkable (legs_of ss list) m turn
    walkable = steady_walk ss m m (sound_steady ss m sound) list each turn few near near cheap

    -- From a head anywhere.
    pub walkable_any : (head : ℕ) → head ≤ last_place → Walkable (legs_of (pulled head ss) list) head turn
    walkable_any head on =
        steady_walk (pulled head ss) head m (pulled_steady head ss m sound) list (λ i l. met (each i l)) turn (omega (arith, pulled_length head ss)) on near cheap
      where
        met : {i : ℕ} → GoodEntry ss list i → GoodEntry (pulled head ss) list i
        met {i} e =
            record {
              from_wanted = wanted_pulled head ss (entry_of list i).from ∙ e.from_wanted;
              to_wanted = wanted_pulled head ss (entry_of list i).to ∙ e.to_wanted;
              ordered = e.ordered;
              inner = omega (arith, leftmost_pulled head ss, e.inner);
              falls = e.falls;
            }

-- Where a name starts and ends is in the table.
module _ (starts lengths aggregates : List ℕ) where
  module _ (ns cs : List ℕ) (f : ℕ) (w : wanted (joined (want_stops starts lengths aggregates ns cs)) f ≡ true) where
    start_in_table : length cs ≡ length ns → start_of (want_stops starts lengths aggregates ns cs) f ≡ left_of starts aggregates f
    start_in_table same =
        let named = and_true_both _ _ (sym (wanted_named starts lengths aggregates ns cs same f) ∙ w) in
        sym (start_joined (want_stops starts lengths aggregates ns cs) f)
        ∙ start_by (joined (want_stops starts lengths aggregates ns cs)) f
        ∙ start_of_name starts lengths aggregates ns cs f w
        ∙ ap (λ i. get_or starts i 0) (sym (first_stays aggregates (f - 1) (not-true _ named.0)))

    end_in_table : end_of (want_stops starts lengths aggregates ns cs) f ≡ right_of starts lengths aggregates f
    end_in_table =
        sym (end_joined (want_stops starts lengths aggregates ns cs) f)
        ∙ end_by (joined (want_stops starts lengths aggregates ns cs)) f
        ∙ end_of_name starts lengths aggregates ns cs f w

  -- A detour list's legs, where its names start and end as the table says, the head being at m at first.
  detours_in_rows : (m : ℕ) (ss : List Stop) (froms tos : List ℕ) → length froms ≡ length tos
      → ((i : ℕ) → i < length froms → start_of ss (get_or froms i 0) ≡ left_of starts aggregates (get_or froms i 0))
      → ((i : ℕ) → i < length froms → end_of ss (get_or tos i 0) ≡ right_of starts lengths aggregates (get_or tos i 0))
      → map (leg_of (pulled m ss)) (list_of froms tos) ≡ detour_legs m starts lengths aggregates froms tos
  unfolding list_of detour_legs
  detours_in_rows m ss [] tos even a b = refl
  detours_in_rows m ss (f ∷ froms) [] even a b = absurd (omega arith)
  detours_in_rows m ss (f ∷ froms) (t ∷ tos) even a b =
      rw
      (start_pulled m ss f, a 0 (omega arith), end_pulled m ss t, b 0 (omega arith))
      (ap
      (λ rest. record { left = leg_start m starts aggregates f; right = right_of starts lengths aggregates t } ∷ rest)
      (detours_in_rows m ss froms tos (omega arith) (λ i l. a (suc i) (omega arith)) (λ i l. b (suc i) (omega arith))))

  sweep_in_rows : (m : ℕ) (ns cs : List ℕ) → length cs ≡ length ns → (list : List Detour) (reach : ℕ)
      → reach ≡ sweep_end (map (leg_of (pulled m (want_stops starts lengths aggregates ns cs))) list) (pulled m (want_stops starts lengths aggregates ns cs))
      → last_sweep (pulled m (want_stops starts lengths aggregates ns cs)) list ≡ sweep_legs m starts aggregates ns reach
  unfolding last_sweep want_stops sweep_legs pulled
  sweep_in_rows m [] cs same list reach e = refl
  sweep_in_rows m (n ∷ ns) [] same list reach e = absurd (omega arith)
  sweep_in_rows m (n ∷ ns) (c ∷ cs) same list reach e = rw e

-- The legs of an accepted list are those that the rows hold, the sweep ending where it does.
module _ (r : Run) (run : GoodRun r) (froms tos : List ℕ) (g : GoodList (stops_of r) froms tos) where
  same : length r.counts ≡ length r.numbers
  same = sym run.wants.equal

  count : length (list_of froms tos) ≡ length froms
  count = length_list froms tos g.even

  from_is : (i : ℕ) → i < length froms → wanted (stops_of r) (get_or froms i 0) ≡ true
  from_is i l = rw (entry_row froms tos g.even i l) at (g.each i (omega (arith, count))).from_wanted

  to_is : (i : ℕ) → i < length froms → wanted (stops_of r) (get_or tos i 0) ≡ true
  to_is i l = rw (entry_row froms tos g.even i l) at (g.each i (omega (arith, count))).to_wanted

  pub legs_in_rows : (m reach : ℕ) → reach ≡ sweep_end (detour_legs m r.starts r.lengths r.aggregates froms tos) (want_stops_of r)
      → legs_of (pulled m (stops_of r)) (list_of froms tos) ≡ row_legs m r.starts r.lengths r.aggregates r.numbers froms tos reach
  unfolding legs_of row_legs
  legs_in_rows m reach is =
      let detours =
      detours_in_rows r.starts r.lengths r.aggregates m (want_stops_of r) froms tos g.even
      (λ i l. start_in_table r.starts r.lengths r.aggregates r.numbers r.counts (get_or froms i 0) (from_is i l) same)
      (λ i l. end_in_table r.starts r.lengths r.aggregates r.numbers r.counts (get_or tos i 0) (to_is i l))
      in
      let swept = sweep_pulled m (map (leg_of (pulled m (want_stops_of r))) (list_of froms tos)) (detours_left m (want_stops_of r) (list_of froms tos)) (want_stops_of r) in
      let reach-is : reach ≡ sweep_end (map (leg_of (pulled m (want_stops_of r))) (list_of froms tos)) (want_stops_of r) = rw detours is in
      ap (λ ss. legs_of ss (list_of froms tos)) (pulled_joined m (want_stops_of r))
      ∙ legs_joined (pulled m (want_stops_of r)) (pulled_agrees m (want_stops_of r) (wants_agree r.starts r.lengths r.aggregates r.numbers r.counts)) (list_of froms tos)
      ∙ rw (sweep_in_rows r.starts r.lengths r.aggregates m r.numbers r.counts same (list_of froms tos) reach (reach-is ∙ sym swept), detours)

  -- They can be walked, from the run's head and from a head anywhere.
  pub run_walkable : Walkable (legs_of (stops_of r) (list_of froms tos)) r.head r.turn
  run_walkable = walkable (stops_of r) r.head (run_sound r run) (list_of froms tos) g.each r.turn (omega (arith, stops_few r run, run.wants.few)) run.start.near run.start.cheap

  pub any_walkable : (m : ℕ) → m ≤ last_place → Walkable (legs_of (pulled m (stops_of r)) (list_of froms tos)) m r.turn
  any_walkable m on =
      walkable_any (stops_of r) r.head (run_sound r run) (list_of froms tos) g.each r.turn (omega (arith, stops_few r run, run.wants.few)) run.start.near run.start.cheap m on

  -- A name is the number of a file of the table.
  named_in_table : (f : ℕ) → wanted (stops_of r) f ≡ true → InTable r.starts f
  named_in_table f w =
      let p = wanted_at (want_stops_of r) f (sym (wanted_joined (want_stops_of r) f) ∙ w) in
      let l : p.index < length r.numbers = omega (arith, p.within, wants_length r.starts r.lengths r.aggregates r.numbers r.counts same) in
      let n = wants_named r.starts r.numbers r.counts run.wants p.index l in
      let is = sym p.is ∙ ap (λ s. s.file) (want_at_lem r.starts r.lengths r.aggregates r.numbers r.counts same p.index l) ∙ first_file_lem r.aggregates (get_or r.numbers p.index 0) n.least in
      record { least = omega (arith, is); most = omega (arith, is, first_below r.aggregates (get_or r.numbers p.index 0 - 1), n.least, n.most) }

  -- And the first of its aggregate.
  name_begins_here : (f : ℕ) → wanted (stops_of r) f ≡ true → goes_on r.aggregates (f - 1) ≡ false
  name_begins_here f w =
      not-true _ (and_true_both _ _ (sym (wanted_named r.starts r.lengths r.aggregates r.numbers r.counts same f) ∙ w)).0

  pub rows_fit : RowsFit r.starts r.lengths r.aggregates r.numbers froms tos
  rows_fit =
      record {
        list =
            record {
              table = record { sound = run.files.table; rows = run.files.rows };
              even = g.even;
              lefts = λ i l. named_in_table (get_or froms i 0) (from_is i l);
              rights = λ i l. named_in_table (get_or tos i 0) (to_is i l);
              named = λ i l. (name_begins_here (get_or froms i 0) (from_is i l), name_begins_here (get_or tos i 0) (to_is i l));
            };
        wants = wants_named r.starts r.numbers r.counts run.wants;
      }

  -- The list has no more entries than there are wants.
  pub list_fits_lem : length froms ≤ length r.numbers
  list_fits_lem =
      elim (dec_lt 0 (length (stops_of r))) [
        | yes l ↦ omega (arith, count, entries_few (stops_of r) r.head (run_sound r run) (list_of froms tos) (length (list_of froms tos)) g.each l, stops_few r run)
        | no n ↦ omega (arith, count, entries_none (stops_of r) r.head (run_sound r run) (list_of froms tos) (length (list_of froms tos)) g.each (omega arith))
      ]
