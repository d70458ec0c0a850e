-- An extent element by element: what is said by those left, with what is known, is what all say; and that is each field by its name.
use Prim.Native.Nat.{ℕ}
use mathlib.Core.Path.{◌≡◌, refl, ap, sym, ◌∙◌}
use mathlib.Core.Bool.{Bool, true, false, cond}
use mathlib.Core.List.{List, [], ◌∷◌, map}
use native.Mathlib.Omega.{arith}
use Rattle.text_bytes.specs.Text.{is_text}
use Rattle.tape_markup.specs.declared.Place.{Place}
use Rattle.tape_markup.specs.Places.{part}
use Rattle.tape_markup.specs.Tree.{Forest, none, char, element, innermost, enclosing}
use Rattle.std.specs.Prelude.{None, Ok}
use Rattle.tape_files.specs.declared.ExtentSaid.{ExtentSaid}
use Rattle.tape_files.specs.Index.{chars_of, insides, values_at, partition_name, start_block_name, byte_offset_name, byte_count_name}
use Rattle.tape_files.specs.Elements.{inside, Left, bare, ElementMet, NoElement}
use Rattle.tape_files.specs.Values.{Field, number_field, letter_field, first_field, field_from, field_at, extent_of}
use Rattle.tape_files.specs.Private.{joined_if, nothing_said, said_with, said_from}
use Rattle.tape_files.proofs.Bare.{Within, under_last}

-- One field: the values of its name alone.
module _ (form : List ℕ → Field) (wanted : List ℕ) where
  unfoldable fieldOver : Field → Forest → Field
  fieldOver known none = known
  fieldOver known (char b rest) = fieldOver known rest
  fieldOver known (element name held rest) = fieldOver (joined_if (is_text wanted name) known (form (chars_of held))) rest

  over_named : (known : Field) (f : Forest) → fieldOver known f ≡ field_from form known (map chars_of (insides wanted f))
  unfolding fieldOver insides field_from
  over_named known none = refl
  over_named known (char b rest) = over_named known rest
  over_named known (element name held rest) = by_test (is_text wanted name) (λ k. over_named k rest)
    where
      by_test : (b : Bool) → ((k : Field) → fieldOver k rest ≡ field_from form k (map chars_of (insides wanted rest)))
          → fieldOver (joined_if b known (form (chars_of held))) rest ≡ field_from form known (map chars_of (cond b (held ∷ insides wanted rest) (insides wanted rest)))
      by_test true later = later (first_field known (form (chars_of held)))
      by_test false later = later known

  field_over : (f : Forest) → fieldOver (Ok None) f ≡ field_at form (wanted ∷ []) f
  unfolding field_at values_at
  field_over f = over_named (Ok None) f ∙ ap (λ (l : List Forest). field_from form (Ok None) (map chars_of l)) (sym (under_last wanted f))

-- All four of them together.
abbrev fields_over : ExtentSaid → Forest → ExtentSaid
fields_over said f =
    record {
      partition = fieldOver letter_field partition_name said.partition f;
      block = fieldOver number_field start_block_name said.block f;
      offset = fieldOver number_field byte_offset_name said.offset f;
      count = fieldOver number_field byte_count_name said.count f;
    }

said_over : (said : ExtentSaid) (f : Forest) → said_from said f ≡ fields_over said f
unfolding said_from fieldOver
said_over said none = refl
said_over said (char b rest) = said_over said rest
said_over said (element name held rest) = said_over (said_with said name (letter_field (chars_of held)) (number_field (chars_of held))) rest

said_whole : (f : Forest) → said_from nothing_said f ≡ extent_of f
unfolding extent_of
said_whole f =
    said_over nothing_said f
    ∙ rw (
      field_over letter_field partition_name f,
      field_over number_field start_block_name f,
      field_over number_field byte_offset_name f,
      field_over number_field byte_count_name f,
    )

said_bare : (said : ExtentSaid) (f : Forest) → said_from said (bare f) ≡ said_from said f
unfolding said_from bare
said_bare said none = refl
said_bare said (char b rest) = said_bare said rest
said_bare said (element name held rest) = refl

pub record ExtentLeft (text : List ℕ) (place : Place) (said : ExtentSaid) (here : Place) : Type 0 where
  pub around : Within text place here
  pub same : said_from said (inside text here) ≡ said_from nothing_said (inside text place)

module _ (text : List ℕ) (place : Place) (said : ExtentSaid) (here : Place) (p : ExtentLeft text place said here) where
  pub extent_over : (next : Place) → NoElement text here next → (said ≡ extent_of (inside text place)) × Left text place next
  unfolding said_from
  extent_over next n =
      let f = p.around.fewer in
      let g = n.left.fewer in (
        sym (ap (said_from said) n.none) ∙ said_bare said (inside text here) ∙ p.same ∙ said_whole (inside text place),
        record { outer = n.left.outer ∙ p.around.outer; within = n.left.within; fewer = omega arith },
      )

  pub extent_more : (from to : ℕ) (next after : Place) (letter number : Field) (later : ExtentSaid) → ElementMet text here from to next → Left text next after
      → letter ≡ letter_field (chars_of (inside text next)) → number ≡ number_field (chars_of (inside text next)) → later ≡ said_with said (part from to text) letter number → ExtentLeft text place later after
  unfolding said_from
  extent_more from to next after letter number later m l a b e =
      let f = p.around.fewer in
      let g = m.fewer in
      let h = l.fewer in
      let known : later ≡ said_with said (part from to text) (letter_field (chars_of (inside text next))) (number_field (chars_of (inside text next))) = e ∙ rw (a, b) in
      let rest : said_from said (inside text here) ≡ said_from (said_with said (part from to text) (letter_field (chars_of (inside text next))) (number_field (chars_of (inside text next)))) (inside text after) =
      sym (said_bare said (inside text here)) ∙ ap (said_from said) m.here ∙ ap (λ (k : List Forest). said_from (said_with said (part from to text) (letter_field (chars_of (inside text next))) (number_field (chars_of (inside text next)))) (innermost k)) (sym l.outer) in
      record {
        around = record { within = l.within; outer = ap enclosing l.outer ∙ sym m.outer ∙ p.around.outer; fewer = omega arith };
        same = ap (λ (k : ExtentSaid). said_from k (inside text after)) known ∙ sym rest ∙ p.same;
      }
