-- A reader that goes from element to element: where it stands, what is left of the elements around it, and what it meets.
use Rattle.std.specs.Prelude.{ℕ, suc, zero, ◌+◌, ◌%◌, ◌≤◌, ◌<◌, ◌≡◌, Bool, cond, ◌&&◌, Result, Ok, Err, List, [], ◌∷◌, length, eqb, leb, ltb}
use Rattle.tape_markup.specs.declared.Place.{Place}
use Rattle.tape_files.specs.declared.Child.{Child}
use Rattle.tape_files.specs.declared.NextByte.{NextByte}
use Rattle.tape_files.specs.declared.Use.{Use}
use Rattle.tape_markup.specs.Places.{part, NameIn, PlaceIn, tokens_at}
use Rattle.tape_markup.specs.Tree.{Forest, none, char, element, innermost, enclosing, frames}
use Rattle.tape_files.specs.Index.{chars_of, insides, Level, outside, in_index, in_directory, in_contents, Role, holds, file, other}

-- A place that does not lie in a text is taken for its end.
abbrev pub lies_in : List ℕ → Place → Bool
lies_in text (Place.Text at) = leb at (length text)
lies_in text (Place.Plain at end) = leb (at + 3) end && leb end (length text)
lies_in text (Place.Shut from to at) = leb from to && leb to (length text) && ltb 0 at && leb at (length text)

unfoldable pub taken_for : List ℕ → Place → Place
taken_for text place = cond (lies_in text place) place (Place.Text (length text))

-- What is left from a place on: in the element around it, and outwards.
unfoldable pub frames_at : List ℕ → Place → List Forest
frames_at text place = frames (tokens_at text place)

abbrev pub inside : List ℕ → Place → Forest
inside text place = innermost (frames_at text place)

-- From one place to another just past the end of the element around it.
pub record Left (text : List ℕ) (place next : Place) : Type 0 where
  pub outer : frames_at text next ≡ enclosing (frames_at text place)
  pub within : PlaceIn text next
  pub fewer : length (tokens_at text next) ≤ length (tokens_at text place)

-- What is left without the bytes before the first element.
unfoldable pub bare : Forest → Forest
bare none = none
bare (char b rest) = bare rest
bare (element name held rest) = element name held rest

-- The next element, behind bytes that were passed over: its name, and what is left inside it and around it; or there is none, and the reader is past the end.
pub record ElementMet (text : List ℕ) (place : Place) (from to : ℕ) (next : Place) : Type 0 where
  pub name : NameIn text from to
  pub within : PlaceIn text next
  pub here : bare (inside text place) ≡ element (part from to text) (inside text next) (innermost (enclosing (frames_at text next)))
  pub outer : enclosing (frames_at text place) ≡ enclosing (enclosing (frames_at text next))
  pub fewer : length (tokens_at text next) < length (tokens_at text place)

pub record NoElement (text : List ℕ) (place next : Place) : Type 0 where
  pub none : bare (inside text place) ≡ none
  pub left : Left text place next

abbrev pub ChildMet : List ℕ → Place → Result Child Place → Type 0
ChildMet text place (Ok child) = ElementMet text place child.from child.to child.next
ChildMet text place (Err next) = NoElement text place next

-- An element of a name, met behind others that were passed over; or there is none.
pub record NamedAt (text : List ℕ) (place : Place) (name : List ℕ) (next : Place) : Type 0 where
  pub within : PlaceIn text next
  pub here : insides name (inside text place) ≡ inside text next ∷ insides name (innermost (enclosing (frames_at text next)))
  pub outer : enclosing (frames_at text place) ≡ enclosing (enclosing (frames_at text next))
  pub fewer : length (tokens_at text next) < length (tokens_at text place)

pub record NoneNamed (text : List ℕ) (place : Place) (name : List ℕ) (next : Place) : Type 0 where
  pub none : insides name (inside text place) ≡ []
  pub left : Left text place next

abbrev pub NamedMet : List ℕ → List ℕ → Place → Result Place Place → Type 0
NamedMet name text place (Ok next) = NamedAt text place name next
NamedMet name text place (Err next) = NoneNamed text place name next

-- The next byte directly in an element, behind others that were passed over; or there is none.
pub record ByteAt (text : List ℕ) (place : Place) (byte : ℕ) (next : Place) : Type 0 where
  pub within : PlaceIn text next
  pub here : chars_of (inside text place) ≡ byte ∷ chars_of (inside text next)
  pub outer : enclosing (frames_at text next) ≡ enclosing (frames_at text place)
  pub fewer : length (tokens_at text next) < length (tokens_at text place)

pub record NoByte (text : List ℕ) (place next : Place) : Type 0 where
  pub none : chars_of (inside text place) ≡ []
  pub left : Left text place next

abbrev pub ByteMet : List ℕ → Place → Result NextByte Place → Type 0
ByteMet text place (Ok met) = ByteAt text place met.byte met.next
ByteMet text place (Err next) = NoByte text place next

-- How deep means where: outside of all, in the index, then directories and contents in turn.
unfoldable pub level_at : ℕ → Level
level_at zero = outside
level_at (suc zero) = in_index
level_at (suc (suc depth)) = cond (eqb (depth % 2) 0) in_directory in_contents

-- What an element is for: its elements are looked at, it is read as a file, or it is passed over.
abbrev pub RoleFound : Role → Level → Use → Type 0
RoleFound role below Use.Enter = role ≡ holds below
RoleFound role below Use.Read = role ≡ file
RoleFound role below Use.Skip = role ≡ other
