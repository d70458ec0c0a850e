-- The walk through an index: the files left, here and outwards, are those left before; no more than 32 elements are open; each element around has its range.
use Prim.Native.Nat.{ℕ, suc, ◌+◌, ◌≤◌, ◌<◌, max}
use mathlib.Core.Path.{◌≡◌, refl, ap, sym, ◌∙◌, subst}
use Rattle.std.specs.Prelude.{Option, Some, None}
use mathlib.Core.List.{List, [], ◌∷◌, ◌++◌, append_assoc}
use native.Mathlib.Omega.{arith}
use lib.ListN.{length, set, length-set}
use lib.Seq.{get_or-set_same, get_or-set_other}
use borrow.Author.Tests.{eq-eqb, ne_eqb}
use Rattle.text_order.specs.declared.Range.{Range}
use Rattle.text_order.specs.Promises.{RangeHolds}
use Rattle.tape_markup.specs.declared.Place.{Place}
use Rattle.tape_markup.specs.Places.{part, tokens_at}
use Rattle.tape_markup.specs.Tree.{Forest, none, char, element, innermost, enclosing}
use Rattle.tape_markup.specs.Promises.{depth}
use Rattle.tape_files.specs.Index.{Level, Role, holds, file, other, role_of, extents_of}
use Rattle.tape_files.specs.NamedFiles.{NamedFile, own_name, path_below, named_of_role, named_in}
use Rattle.tape_files.specs.Elements.{frames_at, inside, Left, bare, ElementMet, NoElement, level_at}
use Rattle.tape_picks.specs.declared.Tape.{Tape}
use Rattle.tape_picks.specs.declared.walk.Walk.{Walk}
use Rattle.tape_picks.specs.declared.walk.Met.{Met}
use Rattle.tape_picks.specs.Private.{moved_to, out_at, left_to, entered_at, no_range, passed_by, named_under, named_left, Shallow, RangesFor, WalkAt, walk_size, FileRead, MetAt}

-- Bytes before the first element hold no file, and are not deep.
named_bare : (f : Forest) (level : Level) (path : List ℕ) → named_in (bare f) level path ≡ named_in f level path
unfolding named_in bare
named_bare none level path = refl
named_bare (char b rest) level path = named_bare rest level path
named_bare (element name held rest) level path = refl

depth_bare : (f : Forest) → depth (bare f) ≡ depth f
unfolding depth bare
depth_bare none = refl
depth_bare (char b rest) = depth_bare rest
depth_bare (element name held rest) = refl

-- No element is left: no file, and outwards.
no_named : (text : List ℕ) (here next : Place) (level : Level) (own : List ℕ) → NoElement text here next → named_in (inside text here) level own ≡ []
unfolding named_in
no_named text here next level own n = sym (named_bare (inside text here) level own) ∙ ap (λ (f : Forest). named_in f level own) n.none

module _ (text : List ℕ) (here : Place) (own : List ℕ) (outer : List (List ℕ)) where
  named_out : (next : Place) → NoElement text here next → named_under (own ∷ outer) (frames_at text here) ≡ named_under outer (frames_at text next)
  unfolding named_under
  named_out next n =
      ap (λ (l : List NamedFile). l ++ named_under outer (enclosing (frames_at text here))) (no_named text here next (level_at (length outer)) own n)
      ∙ ap (named_under outer) (sym n.left.outer)

  shallow_out : (next : Place) → NoElement text here next → Shallow (own ∷ outer) (frames_at text here) → Shallow outer (frames_at text next)
  shallow_out next n s = subst (λ (l : List Forest). Shallow outer l) (sym n.left.outer) s.1

  module _ (from to : ℕ) (next : Place) (m : ElementMet text here from to next) where
    abbrev level : Level
    level = level_at (length outer)

    abbrev role : Role
    role = role_of level (part from to text)

    abbrev later : List NamedFile
    later = named_under (own ∷ outer) (enclosing (frames_at text next))

    -- The files left, by the role of the element met.
    named_role : named_under (own ∷ outer) (frames_at text here) ≡ named_of_role role level own (inside text next) (named_in (inside text next)) ++ later
    unfolding named_under named_in
    named_role =
        ap (λ (l : List NamedFile). l ++ named_under outer (enclosing (frames_at text here))) (sym (named_bare (inside text here) level own) ∙ ap (λ (f : Forest). named_in f level own) m.here)
        ∙ append_assoc (named_of_role role level own (inside text next) (named_in (inside text next))) (named_in (innermost (enclosing (frames_at text next))) level own)
        (named_under outer (enclosing (frames_at text here)))
        ∙ ap
        (λ (l : List Forest). named_of_role role level own (inside text next) (named_in (inside text next)) ++
        (named_in (innermost (enclosing (frames_at text next))) level own ++ named_under outer l))
        m.outer

    named_as : (r : Role) → role ≡ r → named_under (own ∷ outer) (frames_at text here) ≡ named_of_role r level own (inside text next) (named_in (inside text next)) ++ later
    named_as r e = named_role ∙ ap (λ (k : Role). named_of_role k level own (inside text next) (named_in (inside text next)) ++ later) e

    named_in_here : role ≡ holds (level_at (suc (length outer))) → named_under (own ∷ outer) (frames_at text here) ≡ named_under (path_below level own (inside text next) ∷ own ∷ outer) (frames_at text next)
    unfolding named_under
    named_in_here e = named_as (holds (level_at (suc (length outer)))) e

    named_past : (after : Place) → Left text next after → role ≡ other → named_under (own ∷ outer) (frames_at text here) ≡ named_under (own ∷ outer) (frames_at text after)
    named_past after l e = named_as other e ∙ ap (named_under (own ∷ outer)) (sym l.outer)

    named_file_here : (after : Place) → Left text next after → role ≡ file
        → named_under (own ∷ outer) (frames_at text here) ≡ record { path = own ++ own_name (inside text next); extents = extents_of (inside text next) } ∷ named_under (own ∷ outer) (frames_at text after)
    named_file_here after l e =
        named_as file e
        ∙ ap (λ (k : List Forest). record { path = own ++ own_name (inside text next); extents = extents_of (inside text next) } ∷ named_under (own ∷ outer) k) (sym l.outer)

    -- How deep the rest is.
    depth_here : depth (inside text here) ≡ max (suc (depth (inside text next))) (depth (innermost (enclosing (frames_at text next))))
    unfolding depth
    depth_here = sym (depth_bare (inside text here)) ∙ ap depth m.here

    shallow_rest : Shallow (own ∷ outer) (frames_at text here) → Shallow (own ∷ outer) (enclosing (frames_at text next))
    shallow_rest s = (omega (arith, s.0, depth_here), subst (λ (l : List Forest). Shallow outer l) m.outer s.1)

    shallow_in : (below : List ℕ) → Shallow (own ∷ outer) (frames_at text here) → Shallow (below ∷ own ∷ outer) (frames_at text next)
    shallow_in below s = (omega (arith, s.0, depth_here), shallow_rest s)

    shallow_past : (after : Place) → Left text next after → Shallow (own ∷ outer) (frames_at text here) → Shallow (own ∷ outer) (frames_at text after)
    shallow_past after l s = subst (λ (k : List Forest). Shallow (own ∷ outer) k) (sym l.outer) (shallow_rest s)

-- A range written further in leaves those further out.
ranges_kept : (path : ℕ → List ℕ) (count : ℕ) (paths : List (List ℕ)) (ranges : List Range) (i : ℕ) (r : Range)
    → length paths ≤ i
    → RangesFor path count paths ranges
    → RangesFor path count paths (set ranges i r)
ranges_kept path count [] ranges i r l p = tt
ranges_kept path count (own ∷ outer) ranges i r l p =
    let n : length outer ≡ i → ⊥ = λ e. omega arith in
    (rw (get_or-set_other ranges i (length outer) r no_range n) p.0, ranges_kept path count outer ranges i r (omega arith) p.1)

-- Less is left of a walk that goes on.
size_less : (text : List ℕ) (walk next : Walk)
    → length (tokens_at text next.place) + length (tokens_at text next.place) + next.depth < length (tokens_at text walk.place) + length (tokens_at text walk.place) + walk.depth
    → walk_size text (Some next) < walk_size text (Some walk)
unfolding walk_size
size_less text walk next l = omega arith

size_over : (text : List ℕ) (walk : Walk) → walk_size text None < walk_size text (Some walk)
unfolding walk_size
size_over text walk = omega arith

left_going : (text : List ℕ) (paths : List (List ℕ)) (walk : Walk) → named_under paths (frames_at text walk.place) ≡ named_left text paths (Some walk)
unfolding named_left
left_going text paths walk = refl

module _ (text : List ℕ) (path : ℕ → List ℕ) (count : ℕ) (tape : Tape) (walk : Walk) where
  at_next : (own : List ℕ) (outer : List (List ℕ)) (next : Walk) → WalkAt text path count own outer next → (later : Walk) → Some next ≡ Some later → WalkAt text path count own outer later
  at_next own outer next w later e =
      let same : next ≡ later = cc in
      subst (λ (k : Walk). WalkAt text path count own outer k) same w

  -- What a step comes to on which no file is met.
  step_passed : (own : List ℕ) (outer : List (List ℕ)) (next : Option Walk) (own' : List ℕ) (outer' : List (List ℕ)) → ((k : Walk) → next ≡ Some k → WalkAt text path count own' outer' k)
      → named_under (own ∷ outer) (frames_at text walk.place) ≡ named_left text (own' ∷ outer') next → walk_size text next < walk_size text (Some walk) → MetAt text path count tape
      (own ∷ outer) walk (passed_by next)
  step_passed own outer next own' outer' at left fewer =
      record { own = own'; outer = outer'; files = []; at = at; left = left; met = (omega arith, omega arith, refl); fewer = fewer }

  -- Past the end of the element around: outwards, or over.
  pub met_left : (own : List ℕ) (outer : List (List ℕ)) → WalkAt text path count own outer walk → (next : Place) → NoElement text walk.place next
      → MetAt text path count tape (own ∷ outer) walk (passed_by (left_to walk next))
  unfolding left_to named_left named_under
  met_left own [] w next n =
      rw (eq-eqb walk.depth 0 w.deep)
      (step_passed own [] None [] [] (λ k e. cc) (named_out text walk.place own [] next n) (size_over text walk))
  met_left own (around ∷ outer) w next n =
      let some : walk.depth ≡ 0 → ⊥ = λ e. omega (arith, w.deep) in
      let t = n.left.fewer in
      let d = w.deep in
      rw (ne_eqb walk.depth 0 some)
      (step_passed own (around ∷ outer) (Some (out_at walk next)) around outer
      (at_next around outer (out_at walk next)
      (record { deep = omega arith; within = n.left.within; shallow = shallow_out text walk.place own (around ∷ outer) next n w.shallow; ranges = w.ranges.1; room = w.room }))
      (named_out text walk.place own (around ∷ outer) next n ∙ left_going text (around ∷ outer) (out_at walk next))
      (size_less text walk (out_at walk next) (omega arith)))

  module _ (own : List ℕ) (outer : List (List ℕ)) (w : WalkAt text path count own outer walk) (from to : ℕ) (next : Place) (m : ElementMet text walk.place from to next) where
    abbrev here-role : Role
    here-role = role_of (level_at walk.depth) (part from to text)

    role_is : (r : Role) → here-role ≡ r → role_of (level_at (length outer)) (part from to text) ≡ r
    role_is r e = ap (λ (d : ℕ). role_of (level_at d) (part from to text)) (sym w.deep) ∙ e

    -- An element that is looked at is no deeper than 31.
    pub deep_enough : walk.depth < 32
    deep_enough = let s = (shallow_in text walk.place own outer from to next m own w.shallow).0 in omega (arith, w.deep)

    moved_at : (after : Place) → Left text next after → WalkAt text path count own outer (moved_to walk after)
    moved_at after l =
        record { deep = w.deep; within = l.within; shallow = shallow_past text walk.place own outer from to next m after l w.shallow; ranges = w.ranges; room = w.room }

    moved_less : (after : Place) → Left text next after → walk_size text (Some (moved_to walk after)) < walk_size text (Some walk)
    moved_less after l = let a = m.fewer in let b = l.fewer in size_less text walk (moved_to walk after) (omega arith)

    pub met_moved : (after : Place) → Left text next after → here-role ≡ other → MetAt text path count tape (own ∷ outer) walk (passed_by (Some (moved_to walk after)))
    met_moved after l r =
        step_passed own outer (Some (moved_to walk after)) own outer (at_next own outer (moved_to walk after) (moved_at after l))
        (named_past text walk.place own outer from to next m after l (role_is other r) ∙ left_going text (own ∷ outer) (moved_to walk after))
        (moved_less after l)

    pub met_entered : here-role ≡ holds (level_at (suc walk.depth)) → (range : Range) → RangeHolds path count (path_below (level_at (length outer)) own (inside text next)) range
        → MetAt text path count tape (own ∷ outer) walk (passed_by (Some (entered_at walk next range)))
    met_entered r range held =
        let d = w.deep in
        let a = m.fewer in
        let e : walk.depth + 1 ≡ suc (length outer) = omega arith in
        let f : holds (level_at (suc walk.depth)) ≡ holds (level_at (suc (length outer))) = ap (λ (k : ℕ). holds (level_at (suc k))) d in
        let deep = deep_enough in
        let room = w.room in
        step_passed own outer (Some (entered_at walk next range)) (path_below (level_at (length outer)) own (inside text next)) (own ∷ outer)
        (at_next (path_below (level_at (length outer)) own (inside text next)) (own ∷ outer) (entered_at walk next range)
        (record {
          deep = e;
          within = m.within;
          shallow = shallow_in text walk.place own outer from to next m (path_below (level_at (length outer)) own (inside text next)) w.shallow;
          ranges = (
            rw (e, get_or-set_same walk.ranges (suc (length outer)) range no_range (omega arith)) held,
            ranges_kept path count (own ∷ outer) walk.ranges (walk.depth + 1) range (omega arith) w.ranges,
          );
          room = length-set walk.ranges (walk.depth + 1) range ∙ room;
        }))
        (named_in_here text walk.place own outer from to next m (role_is (holds (level_at (suc walk.depth))) r ∙ f) ∙ left_going text _ (entered_at walk next range))
        (size_less text walk (entered_at walk next range) (omega arith))

    pub met_read : here-role ≡ file → (named : Range) → RangeHolds path count (own ++ own_name (inside text next)) named → (r : Met) → FileRead text tape named walk next r
        → MetAt text path count tape (own ∷ outer) walk r
    met_read e named held r f =
        let after = f.after in
        record {
          own = own;
          outer = outer;
          files = record { path = own ++ own_name (inside text next); extents = extents_of (inside text next) } ∷ [];
          at = λ k e. at_next own outer (moved_to walk after) (moved_at after f.left) k (sym f.walked ∙ e);
          left =
              named_file_here text walk.place own outer from to next m after f.left (role_is file e)
              ∙ ap (λ (l : List NamedFile). record { path = own ++ own_name (inside text next); extents = extents_of (inside text next) } ∷ l)
              (left_going text (own ∷ outer) (moved_to walk after) ∙ ap (named_left text (own ∷ outer)) (sym f.walked));
          met = (rw f.range held, f.file);
          fewer = rw f.walked (moved_less after f.left);
        }
