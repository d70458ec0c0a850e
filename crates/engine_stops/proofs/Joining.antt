-- Joining from the right: each want is of the stop at hand or begins one; the rows are filled accordingly, from their last entry to the first.
use Prim.Native.Nat.{ℕ, suc, ◌+◌, ◌-◌, ◌≤◌, ◌<◌}
use mathlib.Core.Path.{◌≡◌, refl, sym, ap, ◌∙◌}
use mathlib.Core.Bool.{Bool, true, false, cond, ◌&&◌}
use mathlib.Core.Logic.{⊎_elim, ◌⊎◌, inl, inr}
use mathlib.Core.List.{List, [], ◌∷◌, ◌++◌, map}
use native.Mathlib.Omega.{arith}
use native.Mathlib.Numerals.{add-one}
use lib.ListN.{length, get_or, drop, set, length-set, drop_of_length-le, length-drop}
use lib.Seq.{drop-cons, drop-set-lt, drop-drop, get_or-drop, get_or-set_same}
use lib.Dec.{ltb, eqb}
use borrow.Author.Tests.{eqb-true, eqb-false, eq-eqb, ne_eqb, ltb-true, ltb-false, lt-ltb, le-ltb}
use Rattle.runs.specs.Run.{Stop, stop_of, want_stops, joined, join_to, merged, first_member, first_file, total}
use Rattle.runs.specs.Lists.{leftmost}
use Rattle.runs.proofs.Search.{true_or_false}
use Rattle.runs.proofs.Numbers.{same_number_first, same_first_number}
use Rattle.runs.proofs.Joined.{join_none, join_same, join_other, leftmost_joined, some_joined, reads_of, reads_joined, reads_fewer}
use Rattle.runs.proofs.Stops.{first_file_lem, wants_length, wants_drop, wants_reads}
use Rattle.engine_stops.specs.Private.{WantsFit, joins_next}

-- Whether a want is of the stop of the next one, by the aggregate numbers of their files.
module _ (aggregates numbers : List ℕ) (fit : WantsFit aggregates numbers) (i : ℕ) where
  pub next_none : length numbers ≤ i + 1 → false ≡ joins_next aggregates numbers i
  next_none l = rw (le-ltb (suc i) (length numbers) (omega arith))

  module _ (l : suc i < length numbers) where
    here : ℕ
    here = get_or numbers i 0 - 1

    next : ℕ
    next = get_or numbers (suc i) 0 - 1

    named : (j : ℕ) → j < length numbers → first_file aggregates (get_or numbers j 0) ≡ suc (first_member aggregates (get_or numbers j 0 - 1))
    named j h = first_file_lem aggregates (get_or numbers j 0) (fit.named j h)

    same_name : (get_or aggregates here 0 ≡ get_or aggregates next 0) → 0 < get_or aggregates next 0
        → first_file aggregates (get_or numbers i 0) ≡ first_file aggregates (get_or numbers (suc i) 0)
    unfolding here next
    same_name e some =
        let first = same_number_first aggregates (length aggregates) fit.once here next
        (omega (arith, fit.named i (omega arith), fit.in_table i (omega arith)))
        (omega (arith, fit.named (suc i) l, fit.in_table (suc i) l))
        e
        some
        in
        omega (arith, named i (omega arith), named (suc i) l, first)

    same_number : first_file aggregates (get_or numbers i 0) ≡ first_file aggregates (get_or numbers (suc i) 0)
        → (get_or aggregates here 0 ≡ get_or aggregates next 0) × (0 < get_or aggregates next 0)
    unfolding here next
    same_number e =
        ⊎_elim
        (λ (same : here ≡ next). absurd (omega (arith, same, fit.rises i l, fit.named i (omega arith))))
        (λ both. both)
        (same_first_number aggregates here next (omega (arith, e, named i (omega arith), named (suc i) l)))

    pub next_zero : get_or aggregates (get_or numbers i 0 - 1) 0 ≡ 0 → false ≡ joins_next aggregates numbers i
    unfolding here next
    next_zero z =
        rw (
          lt-ltb (suc i) (length numbers) l,
          ne_eqb (first_file aggregates (get_or numbers i 0)) (first_file aggregates (get_or numbers (suc i) 0)) (λ e. omega (arith, (same_number e).0, (same_number e).1)),
        )

    pub next_number : (get_or aggregates (get_or numbers i 0 - 1) 0 ≡ 0 → ⊥)
        → eqb (get_or aggregates (get_or numbers (suc i) 0 - 1) 0) (get_or aggregates (get_or numbers i 0 - 1) 0) ≡ joins_next aggregates numbers i
    unfolding here next
    next_number some =
        rw (lt-ltb (suc i) (length numbers) l)
        (⊎_elim
        (λ (e : eqb (get_or aggregates (get_or numbers (suc i) 0 - 1) 0) (get_or aggregates (get_or numbers i 0 - 1) 0) ≡ true).
        let same = eqb-true _ _ e in
        rw (e, eq-eqb _ _ (same_name (sym same) (omega (arith, some, same)))))
        (λ (e : eqb (get_or aggregates (get_or numbers (suc i) 0 - 1) 0) (get_or aggregates (get_or numbers i 0 - 1) 0) ≡ false).
        rw (e, ne_eqb (first_file aggregates (get_or numbers i 0)) (first_file aggregates (get_or numbers (suc i) 0)) (λ d. eqb-false _ _ e (sym (same_number d).0))))
        (true_or_false (eqb (get_or aggregates (get_or numbers (suc i) 0 - 1) 0) (get_or aggregates (get_or numbers i 0 - 1) 0))))

-- A want beside the stops right of it: of the first of them, or a stop of its own.
pub record Joins (w : Stop) (later here : List Stop) : Type 0 where
  pub first : Stop
  pub rest : List Stop
  pub was : later ≡ first ∷ rest
  pub is : here ≡ merged w first ∷ rest

pub record Begins (w : Stop) (later here : List Stop) : Type 0 where
  pub is : here ≡ w ∷ later

abbrev pub Added : Bool → Stop → List Stop → List Stop → Type 0
Added same w later here = ((same ≡ true) × Joins w later here) ⊎ ((same ≡ false) × Begins w later here)

added_none : (w : Stop) → Added false w [] (join_to w [])
added_none w = inr (refl, record { is = join_none w })

added_some : (w : Stop) (later : List Stop) → 0 < length later → Added (eqb w.file (leftmost later)) w later (join_to w later)
added_some w [] l = absurd (omega arith)
added_some w (t ∷ ts) l =
    ⊎_elim
    (λ (e : eqb w.file t.file ≡ true). inl (e, record { first = t; rest = ts; was = refl; is = join_same w t ts (eqb-true _ _ e) }))
    (λ (e : eqb w.file t.file ≡ false). inr (e, record { is = join_other w t ts (eqb-false _ _ e) }))
    (true_or_false (eqb w.file t.file))

pub joined_nothing : joined [] ≡ []
unfolding joined
joined_nothing = refl

module _ (starts lengths aggregates ns cs : List ℕ) (even : length cs ≡ length ns) where
  wants : List Stop
  wants = want_stops starts lengths aggregates ns cs

  joined_here : (i : ℕ) → i < length ns → joined (drop i wants) ≡ join_to (stop_of starts lengths aggregates (get_or ns i 0) (get_or cs i 0)) (joined (drop (suc i) wants))
  unfolding wants joined
  joined_here i l = rw (wants_drop starts lengths aggregates ns cs even i l)

  pub added : (i : ℕ) → i < length ns
      → Added (joins_next aggregates ns i) (stop_of starts lengths aggregates (get_or ns i 0) (get_or cs i 0))
      (joined (drop (suc i) (want_stops starts lengths aggregates ns cs))) (joined (drop i (want_stops starts lengths aggregates ns cs)))
  unfolding wants
  added i l = rw (joined_here i l) (by_next (ltb (suc i) (length ns)) refl)
    where
      w : Stop
      w = stop_of starts lengths aggregates (get_or ns i 0) (get_or cs i 0)

      some : suc i < length ns → 0 < length (drop (suc i) wants)
      some h = rw (length-drop (suc i) wants) (omega (arith, wants_length starts lengths aggregates ns cs even))

      first : suc i < length ns → leftmost (joined (drop (suc i) wants)) ≡ first_file aggregates (get_or ns (suc i) 0)
      first h = leftmost_joined (drop (suc i) wants) ∙ ap leftmost (wants_drop starts lengths aggregates ns cs even (suc i) h)

      nothing : length ns ≤ suc i → joined (drop (suc i) wants) ≡ []
      nothing h =
          let past : length wants ≤ suc i = omega (arith, wants_length starts lengths aggregates ns cs even) in
          ap joined (drop_of_length-le wants past) ∙ joined_nothing

      by_next : (b : Bool) → ltb (suc i) (length ns) ≡ b
          → Added (b && eqb (first_file aggregates (get_or ns i 0)) (first_file aggregates (get_or ns (suc i) 0))) w (joined (drop (suc i) wants)) (join_to w (joined (drop (suc i) wants)))
      by_next true e = let h = ltb-true (suc i) (length ns) e in rw (first h) at (added_some w (joined (drop (suc i) wants)) (some_joined (drop (suc i) wants) (some h)))
      by_next false e = rw (nothing (ltb-false (suc i) (length ns) e)) (added_none w)

  pub stops_counted : (i count : ℕ) → i < length ns → count ≡ length (joined (drop (suc i) (want_stops starts lengths aggregates ns cs)))
      → cond (joins_next aggregates ns i) count (count + 1) ≡ length (joined (drop i (want_stops starts lengths aggregates ns cs)))
  stops_counted i count l e =
      ⊎_elim
      (λ a. rw (a.0, a.1.is) (omega (arith, e, ap length a.1.was)))
      (λ a. rw (a.0, a.1.is) (omega (arith, e)))
      (added i l)

  -- The reads of a stop so far and one want more are never more than all reads.
  pub reads_fit : (i : ℕ) → i < length ns → (first : Stop) (rest : List Stop) → joined (drop (suc i) (want_stops starts lengths aggregates ns cs)) ≡ first ∷ rest
      → get_or cs i 0 + first.count ≤ total cs
  unfolding reads_of
  reads_fit i l first rest e =
      omega (
        arith,
        ap reads_of e,
        reads_joined (drop (suc i) (want_stops starts lengths aggregates ns cs)),
        ap reads_of (wants_drop starts lengths aggregates ns cs even i l),
        reads_fewer (want_stops starts lengths aggregates ns cs) i,
        wants_reads starts lengths aggregates ns cs even,
      )

  pub count_fits : (i : ℕ) → i < length ns → get_or cs i 0 ≤ total cs
  unfolding reads_of
  count_fits i l =
      omega (
        arith,
        ap reads_of (wants_drop starts lengths aggregates ns cs even i l),
        reads_fewer (want_stops starts lengths aggregates ns cs) i,
        wants_reads starts lengths aggregates ns cs even,
      )

-- A row, filled from an index on with what the stops give, up to the last of so many; behind that it is as it was.
pub record Filled (g : Stop → ℕ) (stops : List Stop) (k : ℕ) (row₀ row : List ℕ) (at : ℕ) : Type 0 where
  pub same : length row ≡ length row₀
  pub done : drop at row ≡ map g stops ++ drop k row₀

put : (row : List ℕ) (at v : ℕ) → at < length row → drop at (set row at v) ≡ v ∷ drop (suc at) row
put row at v l =
    let h : at < length (set row at v) = omega (arith, length-set row at v) in
    rw (drop-cons (set row at v) at 0 h, get_or-set_same row at v 0 l, drop-set-lt (suc at) row at v (omega arith))

behind : (row : List ℕ) (at x : ℕ) (xs : List ℕ) → drop at row ≡ x ∷ xs → drop (suc at) row ≡ xs
behind row at x xs e = ap (λ n. drop n row) (sym (add-one at)) ∙ sym (drop-drop 1 at row) ∙ ap (drop 1) e ∙ whole xs
  where
    whole : (ys : List ℕ) → drop 1 (x ∷ ys) ≡ ys
    whole [] = refl
    whole (y ∷ ys) = refl

-- What stands at an index is what the stop there gives.
pub filled_at : (g : Stop → ℕ) (first : Stop) (rest : List Stop) (k : ℕ) (row₀ row : List ℕ) (at : ℕ) → Filled g (first ∷ rest) k row₀ row at → get_or row at 0 ≡ g first
filled_at g first rest k row₀ row at p =
    let e : at + 0 ≡ at = omega arith in
    sym (ap (λ n. get_or row n 0) e) ∙ sym (get_or-drop at row 0 0) ∙ ap (λ l. get_or l 0 0) p.done

-- One want more: what it gives is written where its stop stands.
module _ (g : Stop → ℕ) (same : Bool) (w : Stop) (later here : List Stop) (a : Added same w later here) (k : ℕ) (row₀ row : List ℕ) (at to v : ℕ)
    (p : Filled g later k row₀ row at) (to_is : to ≡ cond same at (at - 1)) (some : same ≡ false → 0 < at) (room : to < length row)
    (joins : (t : Stop) (rest : List Stop) → same ≡ true → later ≡ t ∷ rest → v ≡ g (merged w t)) (begins : same ≡ false → v ≡ g w) where
  pub filled_more : Filled g here k row₀ (set row to v) to
  filled_more =
      ⊎_elim
      (λ (j : (same ≡ true) × Joins w later here). onto j.0 j.1)
      (λ (b : (same ≡ false) × Begins w later here). anew b.0 b.1)
      a
    where
      onto : same ≡ true → Joins w later here → Filled g here k row₀ (set row to v) to
      onto e j =
          let here-is : to ≡ at = rw e at to_is in
          record {
            same = length-set row to v ∙ p.same;
            done = put row to v room ∙ rw (j.is, joins j.first j.rest e j.was, here-is) (ap (λ l. g (merged w j.first) ∷ l) (behind row at (g j.first) (map g j.rest ++ drop k row₀) (rw j.was at p.done)));
          }

      anew : same ≡ false → Begins w later here → Filled g here k row₀ (set row to v) to
      anew e b =
          let before : to ≡ at - 1 = rw e at to_is in
          let next : suc to ≡ at = omega (arith, before, some e) in
          record {
            same = length-set row to v ∙ p.same;
            done = put row to v room ∙ rw (b.is, begins e, next) (ap (λ l. g w ∷ l) p.done);
          }

-- Nothing filled yet.
pub filled_none : (g : Stop → ℕ) (k : ℕ) (row : List ℕ) → Filled g [] k row row k
filled_none g k row = record { same = refl; done = refl }
