-- Well-formed lists over sound stops: what each entry is, where its stops stand, and that a list has fewer entries than there are stops.
-- Of stops alone: nothing here knows of tables, aggregates or wants.
use Prim.Native.Nat.{ℕ, zero, suc, ◌+◌, ◌-◌, ◌≤◌, ◌<◌}
use mathlib.Core.Path.{◌≡◌, refl, sym, ap, ◌∙◌}
use mathlib.Core.Bool.{true, false, not, ◌||◌}
use mathlib.Core.Logic.{⊎_elim}
use mathlib.Core.List.{List, [], ◌∷◌}
use native.Mathlib.Omega.{arith}
use native.Mathlib.Nat.{eq-or-lt_of_le, le_of_suc-le-suc}
use native.Mathlib.Decide.{dec_lt}
use lib.ListN.{length}
use lib.Dec.{ltb, leb}
use borrow.Author.Tests.{eq-eqb, ne_eqb, ltb-false, leb-false, not-false}
use Rattle.runs.specs.Run.{Stop}
use Rattle.runs.specs.Rows.{stop_at}
use Rattle.runs.specs.Lists.{Detour, wanted, leftmost, bad_alone, bad_after, bad_entry, any_below, entry_of, first_bad_entry, WellFormed}
use Rattle.runs.proofs.Search.{first_zero, any_zero, or_false_both}
use Rattle.runs.proofs.Sound.{Sound}
use Rattle.runs.proofs.Joined.{place_by}
use Rattle.runs.proofs.Stops.{NamedAt, wanted_at}

-- An entry that is not bad: it names two stops, in order, right of the leftmost, and starts left of every earlier one.
pub record FormedEntry (stops : List Stop) (list : List Detour) (i : ℕ) : Type 0 where
  pub from : NamedAt stops (entry_of list i).from
  pub to : NamedAt stops (entry_of list i).to
  pub ordered : (entry_of list i).from ≤ (entry_of list i).to
  pub inner : leftmost stops < (entry_of list i).from
  pub falls : (j : ℕ) → j < i → (entry_of list i).from < (entry_of list j).from

-- What an entry that is not bad passes by itself.
record Alone (stops : List Stop) (d : Detour) : Type 0 where
  from : wanted stops d.from ≡ true
  to : wanted stops d.to ≡ true
  ordered : d.from ≤ d.to
  inner : leftmost stops < d.from

passes_alone : (stops : List Stop) (d : Detour) → bad_alone stops d ≡ false → Alone stops d
passes_alone stops d e =
    let four = or_false_both (not (wanted stops d.from) || not (wanted stops d.to) || ltb d.to d.from) (leb d.from (leftmost stops)) e in
    let three = or_false_both (not (wanted stops d.from) || not (wanted stops d.to)) (ltb d.to d.from) four.0 in
    let two = or_false_both (not (wanted stops d.from)) (not (wanted stops d.to)) three.0 in
    record {
      from = not-false _ two.0;
      to = not-false _ two.1;
      ordered = ltb-false d.to d.from three.1;
      inner = leb-false d.from (leftmost stops) four.1;
    }

pub formed_entry : (stops : List Stop) (list : List Detour) (i : ℕ) → bad_entry stops list i ≡ false → FormedEntry stops list i
formed_entry stops list i e =
    let all = or_false_both (bad_alone stops (entry_of list i)) (any_below (λ j. bad_after (entry_of list j) (entry_of list i)) i) e in
    let alone = passes_alone stops (entry_of list i) all.0 in
    record {
      from = wanted_at stops (entry_of list i).from alone.from;
      to = wanted_at stops (entry_of list i).to alone.to;
      ordered = alone.ordered;
      inner = alone.inner;
      falls = λ j l.
          leb-false (entry_of list j).from (entry_of list i).from
          (or_false_both (leb (entry_of list j).from (entry_of list i).from) _ (any_zero (λ k. bad_after (entry_of list k) (entry_of list i)) i all.1 j l)).0;
    }

pub formed_names : (stops : List Stop) (list : List Detour) → WellFormed stops list → (i : ℕ) → i < length list
    → (wanted stops (entry_of list i).from ≡ true) × (wanted stops (entry_of list i).to ≡ true)
unfolding first_bad_entry
formed_names stops list f i l =
    let alone = passes_alone stops (entry_of list i) (or_false_both (bad_alone stops (entry_of list i)) _ (first_zero (bad_entry stops list) (length list) f i l)).0 in
    (alone.from, alone.to)

pub formed_entries : (stops : List Stop) (list : List Detour) → WellFormed stops list → (i : ℕ) → i < length list → FormedEntry stops list i
unfolding first_bad_entry
formed_entries stops list f i l = formed_entry stops list i (first_zero (bad_entry stops list) (length list) f i l)

leftmost_at : (stops : List Stop) → 0 < length stops → leftmost stops ≡ (stop_at stops 0).file
leftmost_at [] l = absurd (omega arith)
leftmost_at (s ∷ ss) l = refl

module _ (stops : List Stop) (m : ℕ) (ok : Sound stops m) where
  -- Names, starts and ends rise with the index.
  pub names_rise : (i j : ℕ) → i < j → j < length stops → (stop_at stops i).file < (stop_at stops j).file
  names_rise i zero l h = absurd (omega arith)
  names_rise i (suc j) l h =
      let before = names_rise i j in
      ⊎_elim
      (λ (e : i ≡ j). rw e (ok.ascends j h))
      (λ (lt : i < j). omega (arith, before lt (omega arith), ok.ascends j h))
      (eq-or-lt_of_le (le_of_suc-le-suc l))

  pub names_order : (i j : ℕ) → i < length stops → (stop_at stops i).file < (stop_at stops j).file → i < j
  names_order i j h l =
      elim (dec_lt i j) [
        | yes lt ↦ lt
        | no n ↦ ⊎_elim
            (λ (e : j ≡ i). absurd (omega (arith, ap (λ x. (stop_at stops x).file) e)))
            (λ (lt : j < i). absurd (omega (arith, names_rise j i lt h)))
            (eq-or-lt_of_le (down n))
      ]
    where
      down : ¬ (i < j) → j ≤ i
      down n = omega arith

  pub names_most : (i j : ℕ) → j < length stops → (stop_at stops i).file ≤ (stop_at stops j).file → i < length stops → i ≤ j
  names_most i j h l k = elim (dec_lt j i) [ yes lt ↦ absurd (omega (arith, names_rise j i lt k)) | no n ↦ omega arith ]

  pub ends_rise : (i j : ℕ) → i ≤ j → j < length stops → (stop_at stops i).end ≤ (stop_at stops j).end
  ends_rise i zero l h = let e : i ≡ 0 = omega arith in rw e (omega arith)
  ends_rise i (suc j) l h =
      let before = ends_rise i j in
      ⊎_elim
      (λ (e : i ≡ suc j). rw e (omega arith))
      (λ (lt : i < suc j). omega (arith, before (omega arith) (omega arith), ok.apart j h, ok.extends (suc j) h))
      (eq-or-lt_of_le l)

  -- From the start of a stop to the end of one at or right of it.
  pub start_to_end : (i j : ℕ) → i ≤ j → j < length stops → (stop_at stops i).start < (stop_at stops j).end
  start_to_end i j l h = omega (arith, ok.extends i (omega arith), ends_rise i j l h)

  pub end_to_right : (i : ℕ) → i < length stops → (stop_at stops i).end ≤ (stop_at stops (length stops - 1)).end
  end_to_right i l = ends_rise i (length stops - 1) (omega arith) (omega arith)

  -- The place of a stop by its name is the stop's.
  pub place_at : (g : Stop → ℕ) (i : ℕ) → i < length stops → place_by g stops (stop_at stops i).file ≡ g (stop_at stops i)
  unfolding place_by
  place_at g i l = go stops i l (λ a b h k. names_rise a b h k)
    where
      go : (ss : List Stop) (j : ℕ) → j < length ss → ((a b : ℕ) → a < b → b < length ss → (stop_at ss a).file < (stop_at ss b).file) → place_by g ss (stop_at ss j).file ≡ g (stop_at ss j)
      go [] j h rise = absurd (omega arith)
      go (s ∷ ss) zero h rise = rw (eq-eqb s.file s.file refl)
      go (s ∷ ss) (suc j) h rise =
          rw (ne_eqb s.file (stop_at ss j).file (λ e. omega (arith, rise 0 (suc j) (omega arith) h))) (go ss j (omega arith) (λ a b p q. rise (suc a) (suc b) (omega arith) (omega arith)))

  pub place_named : (g : Stop → ℕ) (f : ℕ) (n : NamedAt stops f) → place_by g stops f ≡ g (stop_at stops n.index)
  place_named g f n = ap (place_by g stops) (sym n.is) ∙ place_at g n.index n.within

  -- The first n entries, each of them well formed: starts fall among the stops, so there are fewer entries than stops.
  module _ (list : List Detour) (n : ℕ) (each : (i : ℕ) → i < n → FormedEntry stops list i) where
    places_fall : (i : ℕ) (l : i < n) (p : ℕ) → p < length stops → (stop_at stops p).file ≡ (entry_of list i).from → p + i < length stops
    places_fall zero l p h e = omega arith
    places_fall (suc i) l p h e =
        let q = (each i (omega arith)).from in
        let bound = places_fall i (omega arith) q.index q.within q.is in
        let less = names_order p q.index h (omega (arith, e, q.is, (each (suc i) l).falls i (omega arith))) in
        omega (arith, bound, less)

    pub entries_few : 0 < length stops → n < length stops
    entries_few some = elim (dec_lt 0 n) [ yes l ↦ last l | no h ↦ omega arith ]
      where
        last : 0 < n → n < length stops
        last l =
            let e = each (n - 1) (omega arith) in
            let p = e.from in
            let bound = places_fall (n - 1) (omega arith) p.index p.within p.is in
            let inside = names_order 0 p.index some (omega (arith, p.is, e.inner, leftmost_at stops some)) in
            omega (arith, bound, inside)

    pub entries_none : length stops ≡ 0 → n ≡ 0
    entries_none none = elim (dec_lt 0 n) [ yes l ↦ absurd (omega (arith, (each 0 l).from.within)) | no h ↦ omega arith ]
