-- A place that lies in a text is taken for itself, and whatever a place is taken for lies in it. A part of a text is the part of it that is there.
use Prim.Native.Nat.{ℕ, ◌+◌}
use mathlib.Core.Path.{◌≡◌, refl, subst}
use mathlib.Core.Bool.{Bool, true, false, cond}
use mathlib.Core.List.{List}
use native.Mathlib.Omega.{arith}
use lib.ListN.{length}
use borrow.Author.Tests.{le-leb, lt-ltb, leb-true, ltb-true}
use Rattle.text_bytes.proofs.Bytes.{and_true_both}
use Rattle.tape_markup.specs.declared.Place.{Place}
use Rattle.tape_markup.specs.Places.{PlaceIn}
use Rattle.tape_files.specs.declared.ExtentSaid.{ExtentSaid}
use Rattle.tape_files.specs.Elements.{lies_in, taken_for, inside, Left, ElementMet, NoElement, NamedAt, NoneNamed}
use Rattle.tape_files.specs.Values.{extent_of}

pub placed_in : (text : List ℕ) (place : Place) → PlaceIn text place → taken_for text place ≡ place
unfolding taken_for
placed_in text (Place.Text at) p = rw (le-leb at (length text) p)
placed_in text (Place.Plain at end) p = rw (le-leb (at + 3) end p.0, le-leb end (length text) p.1)
placed_in text (Place.Shut from to at) p =
    rw (le-leb from to p.0.ordered, le-leb to (length text) p.0.within, lt-ltb 0 at p.1, le-leb at (length text) p.2)

lies_within : (text : List ℕ) (place : Place) → lies_in text place ≡ true → PlaceIn text place
lies_within text (Place.Text at) e = leb-true _ _ e
lies_within text (Place.Plain at end) e =
    let b = and_true_both _ _ e in
    (leb-true _ _ b.0, leb-true _ _ b.1)
lies_within text (Place.Shut from to at) e =
    let c = and_true_both _ _ e in
    let b = and_true_both _ _ c.0 in
    let a = and_true_both _ _ b.0 in
    (record { ordered = leb-true _ _ a.0; within = leb-true _ _ a.1 }, ltb-true _ _ b.1, leb-true _ _ c.1)

pub placed_within : (text : List ℕ) (place : Place) → PlaceIn text (taken_for text place)
unfolding taken_for
placed_within text place = by_test (lies_in text place) refl
  where
    by_test : (b : Bool) → lies_in text place ≡ b → PlaceIn text (cond b place (Place.Text (length text)))
    by_test true e = lies_within text place e
    by_test false e = omega arith

-- What is met from a place in a text on, where it is told of what the place is taken for.
module _ (text : List ℕ) (place : Place) (p : PlaceIn text place) where
  same_place : taken_for text place ≡ place
  same_place = placed_in text place p

  pub element_here : (from to : ℕ) (next : Place) → ElementMet text (taken_for text place) from to next → ElementMet text place from to next
  element_here from to next = subst (λ (x : Place). ElementMet text x from to next) same_place

  pub nothing_here : (next : Place) → NoElement text (taken_for text place) next → NoElement text place next
  nothing_here next = subst (λ (x : Place). NoElement text x next) same_place

  pub named_here : (name : List ℕ) (next : Place) → NamedAt text (taken_for text place) name next → NamedAt text place name next
  named_here name next = subst (λ (x : Place). NamedAt text x name next) same_place

  pub unnamed_here : (name : List ℕ) (next : Place) → NoneNamed text (taken_for text place) name next → NoneNamed text place name next
  unnamed_here name next = subst (λ (x : Place). NoneNamed text x name next) same_place

  pub left_here : (next : Place) → Left text (taken_for text place) next → Left text place next
  left_here next = subst (λ (x : Place). Left text x next) same_place

  pub extent_here : (next : Place) → Left text (taken_for text place) next → (e : ExtentSaid) → e ≡ extent_of (inside text (taken_for text place)) → e ≡ extent_of (inside text place)
  extent_here next l e = subst (λ (x : Place). e ≡ extent_of (inside text x)) same_place
