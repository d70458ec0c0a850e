-- The first volume that a text says, found outermost element by outermost element; and what two texts say, byte by byte.
use Prim.Native.Nat.{ℕ, suc}
use mathlib.Core.Path.{◌≡◌, refl, ap, sym, ◌∙◌}
use mathlib.Core.Bool.{Bool, false, not, and-false}
use mathlib.Core.List.{List, [], ◌∷◌, ◌++◌, map}
use native.Mathlib.Omega.{arith}
use lib.ListN.{length}
use lib.Dec.{eqb, eqb-zero-suc, eqb-suc-suc}
use borrow.Author.Tests.{eq-eqb, ne_eqb}
use Rattle.text_bytes.specs.Text.{starts_with, is_text}
use Rattle.tape_markup.specs.declared.Place.{Place}
use Rattle.tape_markup.specs.Places.{PlaceIn, tokens_at}
use Rattle.tape_markup.specs.Tree.{Forest, innermost, enclosing, tree_of}
use Rattle.std.specs.Prelude.{Result, Ok, Err}
use Rattle.std.specs.Result.{is_err}
use Rattle.tape_files.specs.declared.NextByte.{NextByte}
use Rattle.tape_files.specs.Index.{chars_of, insides, under, flattened, values_at, label_name, index_name}
use Rattle.tape_files.specs.Elements.{frames_at, inside, NamedAt, NoneNamed, ByteAt, NoByte, ByteMet}
use Rattle.tape_files.specs.Volumes.{volume_name, volumes_in, other_volume}
use Rattle.tape_files.specs.Private.{VolumeAt}
use Rattle.tape_files.proofs.Bare.{Within, within_none, under_last}

-- Elements of a name, at whose ends other paths go on.
under_first : (name : List ℕ) (path : List (List ℕ)) (f held : Forest) (rest : List Forest) → insides name f ≡ held ∷ rest → under (name ∷ path) f ≡ under path held ++ flattened (map (under path) rest)
unfolding under flattened
under_first name path f held rest e = ap (λ (l : List Forest). flattened (map (under path) l)) e

under_none : (name : List ℕ) (path : List (List ℕ)) (f : Forest) → insides name f ≡ [] → under (name ∷ path) f ≡ []
unfolding under flattened
under_none name path f e = ap (λ (l : List Forest). flattened (map (under path) l)) e

-- Outermost elements of a name that say no volume are passed over.
pub record VolumesLeft (root text : List ℕ) (here : Place) : Type 0 where
  pub around : Within text (Place.Text 0) here
  pub same : under (root ∷ volume_name ∷ []) (inside text here) ≡ under (root ∷ volume_name ∷ []) (tree_of text)

pub volumes_none : (root text : List ℕ) → VolumesLeft root text (Place.Text 0)
unfolding frames_at tokens_at tree_of
volumes_none root text = record { around = within_none text (Place.Text 0) (omega arith); same = refl }

module _ (root text : List ℕ) (here : Place) (p : VolumesLeft root text here) where
  pub volumes_over : (next : Place) → NoneNamed text here root next → volumes_in root (tree_of text) ≡ []
  unfolding values_at
  volumes_over next n = ap (map chars_of) (sym p.same ∙ under_none root (volume_name ∷ []) (inside text here) n.none)

  module _ (inner : Place) (m : NamedAt text here root inner) where
    abbrev rest : List Forest
    rest = insides root (innermost (enclosing (frames_at text inner)))

    unfolded : under (root ∷ volume_name ∷ []) (inside text here) ≡ insides volume_name (inside text inner) ++ flattened (map (under (volume_name ∷ [])) rest)
    unfolded =
        under_first root (volume_name ∷ []) (inside text here) (inside text inner) rest m.here
        ∙ ap (λ (l : List Forest). l ++ flattened (map (under (volume_name ∷ [])) rest)) (under_last volume_name (inside text inner))

    pub volume_found : (next : Place) → NamedAt text inner volume_name next → VolumeAt root text next
    unfolding values_at
    volume_found next k =
        record {
          within = k.within;
          others = map chars_of (insides volume_name (innermost (enclosing (frames_at text next))) ++ flattened (map (under (volume_name ∷ [])) rest));
          here = ap (map chars_of) (sym p.same ∙ unfolded ∙ ap (λ (l : List Forest). l ++ flattened (map (under (volume_name ∷ [])) rest)) k.here);
        }

    pub volumes_more : (next : Place) → NoneNamed text inner volume_name next → VolumesLeft root text next
    unfolding under
    volumes_more next n =
        let f = p.around.fewer in
        let g = m.fewer in
        let h = n.left.fewer in
        let none : under (root ∷ volume_name ∷ []) (inside text here) ≡ flattened (map (under (volume_name ∷ [])) rest) = unfolded ∙ ap (λ (l : List Forest). l ++ flattened (map (under (volume_name ∷ [])) rest)) n.none in
        record {
          around = record { within = n.left.within; outer = ap enclosing n.left.outer ∙ sym m.outer ∙ p.around.outer; fewer = omega arith };
          same = ap (λ (k : List Forest). flattened (map (under (volume_name ∷ [])) (insides root (innermost k)))) n.left.outer ∙ sym none ∙ p.same;
        }

-- Two texts, byte by byte.
nothing_more : (b : ℕ) (y : List ℕ) → is_text [] (b ∷ y) ≡ false
nothing_more b y = rw (eqb-zero-suc (length y))

same_first : (a b : ℕ) (x y : List ℕ) → a ≡ b → is_text (a ∷ x) (b ∷ y) ≡ is_text x y
unfolding starts_with
same_first a b x y e = rw (eqb-suc-suc (length x) (length y), eq-eqb a b e)

other_first : (a b : ℕ) (x y : List ℕ) → (a ≡ b → ⊥) → is_text (a ∷ x) (b ∷ y) ≡ false
unfolding starts_with
other_first a b x y d = rw (ne_eqb a b d) (and-false (eqb (suc (length x)) (suc (length y))))

-- What is left in two elements is alike where what was in them is.
pub record Alike (one other : List ℕ) (place start here there : Place) : Type 0 where
  pub first : PlaceIn one here
  pub second : PlaceIn other there
  pub same : is_text (chars_of (inside one here)) (chars_of (inside other there)) ≡ is_text (chars_of (inside one place)) (chars_of (inside other start))

module _ (one other : List ℕ) (place start here there : Place) (p : Alike one other place start here there) where
  abbrev whole : Bool
  whole = is_text (chars_of (inside one place)) (chars_of (inside other start))

  pub alike_over : (next : Place) → NoByte one here next → (r : Result NextByte Place) → ByteMet other there r → is_err r ≡ whole
  unfolding starts_with
  alike_over next n (Ok met) m = sym (ap (λ (l : List ℕ). is_text l (chars_of (inside other there))) n.none ∙ ap (is_text []) m.here ∙ nothing_more met.byte (chars_of (inside other met.next))) ∙ p.same
  alike_over next n (Err after) m = sym (ap (λ (l : List ℕ). is_text l (chars_of (inside other there))) n.none ∙ ap (is_text []) m.none) ∙ p.same

  module _ (b : ℕ) (next : Place) (m : ByteAt one here b next) where
    module _ (c : ℕ) (after : Place) (k : ByteAt other there c after) where
      both : is_text (b ∷ chars_of (inside one next)) (c ∷ chars_of (inside other after)) ≡ whole
      both = sym (ap (λ (l : List ℕ). is_text l (chars_of (inside other there))) m.here ∙ ap (is_text (b ∷ chars_of (inside one next))) k.here) ∙ p.same

      pub alike_other : (b ≡ c → ⊥) → false ≡ whole
      alike_other d = sym (other_first b c (chars_of (inside one next)) (chars_of (inside other after)) d) ∙ both

      pub alike_more : b ≡ c → Alike one other place start next after
      alike_more e = record { first = m.within; second = k.within; same = sym (same_first b c (chars_of (inside one next)) (chars_of (inside other after)) e) ∙ both }

-- Both say a volume, or one says none.
module _ (label index : List ℕ) where
  pub no_label_volume : volumes_in label_name (tree_of label) ≡ [] → false ≡ other_volume (tree_of label) (tree_of index)
  unfolding other_volume
  no_label_volume e = rw e

  module _ (one : Place) (v : VolumeAt label_name label one) where
    pub no_index_volume : volumes_in index_name (tree_of index) ≡ [] → false ≡ other_volume (tree_of label) (tree_of index)
    unfolding other_volume
    no_index_volume e = rw (v.here, e)

    pub both_volumes : (other : Place) → VolumeAt index_name index other → not (is_text (chars_of (inside label one)) (chars_of (inside index other))) ≡ other_volume (tree_of label) (tree_of index)
    unfolding other_volume
    both_volumes other w = rw (v.here, w.here)
