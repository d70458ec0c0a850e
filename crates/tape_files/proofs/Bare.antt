-- The loops over elements: bytes between them do not count, and each element left brings the reader to what follows it.
use Prim.Native.Nat.{ℕ, ◌≤◌, ◌<◌}
use mathlib.Core.Path.{◌≡◌, refl, ap, sym, ◌∙◌}
use mathlib.Core.Bool.{true, false}
use mathlib.Core.List.{List, [], ◌∷◌, ◌++◌, map}
use native.Mathlib.Omega.{arith}
use lib.ListN.{length}
use Rattle.text_bytes.specs.Text.{is_text}
use Rattle.tape_markup.specs.declared.Place.{Place}
use Rattle.tape_files.specs.declared.values.Chars.{Chars}
use Rattle.std.specs.Prelude.{Some, None, Ok, Err}
use Rattle.tape_markup.specs.Markup.{Open, Close, Char}
use Rattle.tape_markup.specs.Tree.{Forest, none, char, element, innermost, enclosing}
use Rattle.tape_files.specs.Index.{flattened, chars_of, insides, under, values_at, Level, files_in}
use Rattle.tape_markup.specs.Places.{part, PlaceIn, tokens_at, Begins, place_at, Passes}
use Rattle.tape_files.specs.Elements.{frames_at, inside, Left, bare, ElementMet, NoElement, NamedAt, NoneNamed, ByteAt, NoByte}
use Rattle.tape_files.specs.Values.{Field, first_field, field_from, field_at}
use Rattle.tape_files.specs.Private.{no_chars, with_byte, chars_from}
use Rattle.tape_markup.proofs.Meets.{begins_fewer}
use Rattle.tape_files.proofs.Frames.{frames_first, frames_past}

-- Bytes before the first element hold no element.
pub insides_bare : (wanted : List ℕ) (f : Forest) → insides wanted (bare f) ≡ insides wanted f
unfolding insides bare
insides_bare wanted none = refl
insides_bare wanted (char b rest) = insides_bare wanted rest
insides_bare wanted (element name held rest) = refl

pub files_bare : (f : Forest) (level : Level) → files_in (bare f) level ≡ files_in f level
unfolding files_in bare
files_bare none level = refl
files_bare (char b rest) level = files_bare rest level
files_bare (element name held rest) level = refl

-- At the end of a path of one name stand the elements of that name.
joined_ones : (l : List Forest) → flattened (map (under []) l) ≡ l
unfolding flattened under
joined_ones [] = refl
joined_ones (f ∷ l) = ap (λ (k : List Forest). f ∷ k) (joined_ones l)

pub under_last : (name : List ℕ) (f : Forest) → under (name ∷ []) f ≡ insides name f
unfolding under
under_last name f = joined_ones (insides name f)

-- A reader somewhere in the element around a place.
pub record Within (text : List ℕ) (place here : Place) : Type 0 where
  pub within : PlaceIn text here
  pub outer : enclosing (frames_at text here) ≡ enclosing (frames_at text place)
  pub fewer : length (tokens_at text here) ≤ length (tokens_at text place)

pub within_none : (text : List ℕ) (place : Place) → PlaceIn text place → Within text place place
within_none text place p = record { within = p; outer = refl; fewer = omega arith }

-- Looking for an element of a name: those passed over are not of it.
pub record Sought (name text : List ℕ) (place here : Place) : Type 0 where
  pub around : Within text place here
  pub same : insides name (inside text here) ≡ insides name (inside text place)

module _ (name text : List ℕ) (place here : Place) (s : Sought name text place here) where
  pub sought_over : (next : Place) → NoElement text here next → NoneNamed text place name next
  unfolding insides
  sought_over next n =
      let f = s.around.fewer in
      let g = n.left.fewer in
      record {
        none = sym s.same ∙ sym (insides_bare name (inside text here)) ∙ ap (insides name) n.none;
        left = record { outer = n.left.outer ∙ s.around.outer; within = n.left.within; fewer = omega arith };
      }

  module _ (from to : ℕ) (next : Place) (m : ElementMet text here from to next) where
    pub sought_here : is_text name (part from to text) ≡ true → NamedAt text place name next
    unfolding insides
    sought_here e =
        let f = s.around.fewer in
        let g = m.fewer in
        record {
          within = m.within;
          here = sym s.same ∙ sym (insides_bare name (inside text here)) ∙ ap (insides name) m.here ∙ (rw e);
          outer = sym s.around.outer ∙ m.outer;
          fewer = omega arith;
        }

    module _ (after : Place) (l : Left text next after) where
      pub sought_later : is_text name (part from to text) ≡ false → Sought name text place after
      unfolding insides
      sought_later e =
          let f = s.around.fewer in
          let g = m.fewer in
          let h = l.fewer in
          let other : insides name (bare (inside text here)) ≡ insides name (inside text after) =
          ap (insides name) m.here ∙ (rw e) ∙ ap (λ (k : List Forest). insides name (innermost k)) (sym l.outer) in
          record {
            around = record { within = l.within; outer = ap enclosing l.outer ∙ sym m.outer ∙ s.around.outer; fewer = omega arith };
            same = sym other ∙ insides_bare name (inside text here) ∙ s.same;
          }

-- Looking for the next byte of a value: what was passed over has none.
pub record BytesLeft (text : List ℕ) (place here : Place) : Type 0 where
  pub around : Within text place here
  pub same : chars_of (inside text here) ≡ chars_of (inside text place)

module _ (text : List ℕ) (place here : Place) (p : BytesLeft text place here) where
  pub byte_met : (b : ℕ) (next : Place) → Begins (tokens_at text here) text (Char b) next → ByteAt text place b next
  unfolding chars_of
  byte_met b next m =
      let f = frames_first text here next (Char b) m in
      let l = begins_fewer text here next (Char b) m in
      let w = p.around.fewer in
      record {
        within = m.within;
        here = sym p.same ∙ ap (λ (k : List Forest). chars_of (innermost k)) f;
        outer = sym (ap enclosing f) ∙ p.around.outer;
        fewer = omega arith;
      }

  pub bytes_past : (next : Place) → Passes (tokens_at text here) text (place_at here) next → BytesLeft text place next
  bytes_past next q =
      let f = frames_past text here next q in
      let w = p.around.fewer in
      record {
        around = record { within = q.within; outer = sym (ap enclosing f) ∙ p.around.outer; fewer = omega (arith, ap length q.same) };
        same = sym (ap (λ (k : List Forest). chars_of (innermost k)) f) ∙ p.same;
      }

  pub bytes_start : (name : List ℕ) (next after : Place) → Begins (tokens_at text here) text (Open name) next → Left text next after → BytesLeft text place after
  unfolding chars_of
  bytes_start name next after m l =
      let f = frames_first text here next (Open name) m in
      let g = begins_fewer text here next (Open name) m in
      let h = l.fewer in
      let w = p.around.fewer in
      record {
        around = record { within = l.within; outer = ap enclosing l.outer ∙ sym (ap enclosing f) ∙ p.around.outer; fewer = omega arith };
        same = ap (λ (k : List Forest). chars_of (innermost k)) l.outer ∙ sym (ap (λ (k : List Forest). chars_of (innermost k)) f) ∙ p.same;
      }

  -- The text ends, the markup goes wrong, or the element ends.
  pub bytes_over : frames_at text here ≡ [] → NoByte text place here
  unfolding chars_of
  bytes_over f =
      record {
        none = sym p.same ∙ ap (λ (k : List Forest). chars_of (innermost k)) f;
        left = record { outer = f ∙ sym (ap enclosing f) ∙ p.around.outer; within = p.around.within; fewer = p.around.fewer };
      }

  pub bytes_finish : (name : List ℕ) (next : Place) → Begins (tokens_at text here) text (Close name) next → NoByte text place next
  unfolding chars_of
  bytes_finish name next m =
      let f = frames_first text here next (Close name) m in
      let g = begins_fewer text here next (Close name) m in
      let w = p.around.fewer in
      record {
        none = sym p.same ∙ ap (λ (k : List Forest). chars_of (innermost k)) f;
        left = record { outer = sym (ap enclosing f) ∙ p.around.outer; within = m.within; fewer = omega arith };
      }

-- Reading the bytes of a value: those left make, with what is known, what the whole makes.
pub record CharsLeft (text : List ℕ) (place : Place) (chars : Chars) (here : Place) : Type 0 where
  pub around : Within text place here
  pub same : chars_from chars (chars_of (inside text here)) ≡ chars_from no_chars (chars_of (inside text place))

module _ (text : List ℕ) (place : Place) (chars : Chars) (here : Place) (p : CharsLeft text place chars here) where
  pub chars_byte : (b : ℕ) (next : Place) (later : Chars) → ByteAt text here b next → later ≡ with_byte chars b → CharsLeft text place later next
  unfolding chars_from
  chars_byte b next later m e =
      let f = p.around.fewer in
      let g = m.fewer in
      record {
        around = record { within = m.within; outer = m.outer ∙ p.around.outer; fewer = omega arith };
        same = ap (λ (k : Chars). chars_from k (chars_of (inside text next))) e ∙ sym (ap (chars_from chars) m.here) ∙ p.same;
      }

  pub chars_over : (next : Place) → NoByte text here next → (chars ≡ chars_from no_chars (chars_of (inside text place))) × Left text place next
  unfolding chars_from
  chars_over next n =
      let f = p.around.fewer in
      let g = n.left.fewer in (
        sym (ap (chars_from chars) n.none) ∙ p.same,
        record { outer = n.left.outer ∙ p.around.outer; within = n.left.within; fewer = omega arith },
      )

-- Reading the elements of a name one by one: each makes a step from what is known.
unfoldable pub folded : {A : Type 0} → (A → Forest → A) → A → List Forest → A
folded step known [] = known
folded step known (f ∷ more) = folded step (step known f) more

-- Those left make of what is known what all make of what was known.
pub record ReadTo {A : Type 0} (step : A → Forest → A) (name text : List ℕ) (place : Place) (start known : A) (here : Place) : Type 0 where
  pub around : Within text place here
  pub same : folded step known (insides name (inside text here)) ≡ folded step start (insides name (inside text place))

pub read_none : {A : Type 0} (step : A → Forest → A) (name text : List ℕ) (place : Place) (start : A) → PlaceIn text place → ReadTo step name text place start start place
read_none step name text place start p = record { around = within_none text place p; same = refl }

module _ {A : Type 0} (step : A → Forest → A) (name text : List ℕ) (place : Place) (start known : A) (here : Place) (p : ReadTo step name text place start known here) where
  pub read_more : (next after : Place) (later : A) → NamedAt text here name next → Left text next after → later ≡ step known (inside text next) → ReadTo step name text place start later after
  unfolding folded
  read_more next after later m l e =
      let f = p.around.fewer in
      let g = m.fewer in
      let h = l.fewer in
      let rest : insides name (inside text here) ≡ inside text next ∷ insides name (inside text after) =
      m.here ∙ ap (λ (k : List Forest). inside text next ∷ insides name (innermost k)) (sym l.outer) in
      record {
        around = record { within = l.within; outer = ap enclosing l.outer ∙ sym m.outer ∙ p.around.outer; fewer = omega arith };
        same = ap (λ (k : A). folded step k (insides name (inside text after))) e ∙ sym (ap (folded step known) rest) ∙ p.same;
      }

  pub read_over : (next : Place) → NoneNamed text here name next → (known ≡ folded step start (insides name (inside text place))) × Left text place next
  unfolding folded
  read_over next n =
      let f = p.around.fewer in
      let g = n.left.fewer in (
        sym (ap (folded step known) n.none) ∙ p.same,
        record { outer = n.left.outer ∙ p.around.outer; within = n.left.within; fewer = omega arith },
      )

pub read_less : (name text : List ℕ) (here next after : Place) → NamedAt text here name next → Left text next after → length (tokens_at text after) < length (tokens_at text here)
read_less name text here next after m l =
    let g = m.fewer in
    let h = l.fewer in
    omega arith

-- Fields joined: the first counts, and one that is bad spoils all.
first_joined : (a b c : Field) → first_field (first_field a b) c ≡ first_field a (first_field b c)
first_joined (Ok None) b c = refl
first_joined (Err bad) b c = refl
first_joined (Ok (Some n)) (Ok None) c = refl
first_joined (Ok (Some n)) (Err bad) c = refl
first_joined (Ok (Some n)) (Ok (Some m)) (Ok None) = refl
first_joined (Ok (Some n)) (Ok (Some m)) (Ok (Some k)) = refl
first_joined (Ok (Some n)) (Ok (Some m)) (Err bad) = refl

first_last : (a : Field) → first_field a (Ok None) ≡ a
first_last (Ok None) = refl
first_last (Ok (Some n)) = refl
first_last (Err bad) = refl

module _ (form : List ℕ → Field) where
  -- Values behind a field that is known.
  from_known : (known field : Field) (values : List (List ℕ)) → first_field known (field_from form field values) ≡ field_from form (first_field known field) values
  unfolding field_from
  from_known known field [] = refl
  from_known known field (v ∷ values) = from_known known (first_field field (form v)) values ∙ ap (λ (k : Field). field_from form k values) (sym (first_joined known field (form v)))

  fields_append : (field : Field) (a b : List (List ℕ)) → field_from form field (a ++ b) ≡ field_from form (field_from form field a) b
  unfolding field_from
  fields_append field [] b = refl
  fields_append field (value ∷ a) b = fields_append (first_field field (form value)) a b

chars_append : (a b : List Forest) → map chars_of (a ++ b) ≡ map chars_of a ++ map chars_of b
chars_append [] b = refl
chars_append (f ∷ a) b = ap (λ (l : List (List ℕ)). chars_of f ∷ l) (chars_append a b)

-- What an element says at the end of a path, joined to what is known.
abbrev pub field_step : (List ℕ → Field) → List (List ℕ) → Field → Forest → Field
field_step form path known held = first_field known (field_at form path held)

-- The elements of a name one by one: what is said at the end of the path that begins with it.
module _ (form : List ℕ → Field) (path : List (List ℕ)) where
  all_said : (known : Field) (l : List Forest) → folded (field_step form path) known l ≡ field_from form known (map chars_of (flattened (map (under path) l)))
  unfolding folded flattened field_from field_at values_at
  all_said known [] = refl
  all_said known (f ∷ l) =
      all_said (field_step form path known f) l
      ∙ ap (λ (k : Field). field_from form k (map chars_of (flattened (map (under path) l)))) (from_known form known (Ok None) (map chars_of (under path f)) ∙ ap (λ (k : Field). field_from form k (map chars_of (under path f))) (first_last known))
      ∙ sym (fields_append form known (map chars_of (under path f)) (map chars_of (flattened (map (under path) l))))
      ∙ ap (field_from form known) (sym (chars_append (under path f) (flattened (map (under path) l))))

  pub field_said : (name : List ℕ) (held : Forest) → folded (field_step form path) (Ok None) (insides name held) ≡ field_at form (name ∷ path) held
  unfolding field_at values_at under
  field_said name held = all_said (Ok None) (insides name held)

-- An element's own value.
pub value_said : (form : List ℕ → Field) (held : Forest) → field_at form [] held ≡ form (chars_of held)
unfolding field_at values_at under field_from
value_said form held = refl
