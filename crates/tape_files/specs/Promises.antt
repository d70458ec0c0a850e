-- What is promised of the files by path: they are the files of L1's tape table, in the same order, each with its extents. And of the readers: a place is
-- told by what is left from there on, and two answers that fit a contract meet the same element and leave the same. Proved in proofs/Same.antt and proofs/Alike.antt.
use Rattle.std.specs.Prelude.{ℕ, ◌≡◌, Result, Ok, Err, List, map}
use Rattle.tape_markup.specs.declared.Place.{Place}
use Rattle.tape_markup.specs.Places.{part}
use Rattle.tape_markup.specs.Tree.{Forest, innermost, enclosing}
use Rattle.tape_files.specs.declared.Child.{Child}
use Rattle.tape_files.specs.Index.{index_files}
use Rattle.tape_files.specs.NamedFiles.{NamedFile, named_files}
use Rattle.tape_files.specs.Elements.{frames_at, inside, Left, ChildMet, NamedMet}

abbrev pub extents_of_all : List NamedFile → List (List Forest)
extents_of_all files = map (λ f. f.extents) files

abbrev pub FilesAreTheTable : Type 0
FilesAreTheTable = (index : Forest) → extents_of_all (named_files index) ≡ index_files index

-- The same is left from two places on: in the element around each, in the one around that, and outwards.
pub record SameLeft (text : List ℕ) (one other : Place) : Type 0 where
  pub held : inside text one ≡ inside text other
  pub around : innermost (enclosing (frames_at text one)) ≡ innermost (enclosing (frames_at text other))
  pub outwards : enclosing (enclosing (frames_at text one)) ≡ enclosing (enclosing (frames_at text other))

abbrev pub ChildrenAlike : List ℕ → Result Child Place → Result Child Place → Type 0
ChildrenAlike text (Ok one) (Ok other) = (part one.from one.to text ≡ part other.from other.to text) × SameLeft text one.next other.next
ChildrenAlike text (Ok one) (Err after) = ⊥
ChildrenAlike text (Err next) (Ok other) = ⊥
ChildrenAlike text (Err next) (Err after) = frames_at text next ≡ frames_at text after

abbrev pub NamedAlike : List ℕ → Result Place Place → Result Place Place → Type 0
NamedAlike text (Ok next) (Ok after) = inside text next ≡ inside text after
NamedAlike text (Ok next) (Err after) = ⊥
NamedAlike text (Err next) (Ok after) = ⊥
NamedAlike text (Err next) (Err after) = frames_at text next ≡ frames_at text after

abbrev pub ChildIsOne : Type 0
ChildIsOne = (text : List ℕ) (place : Place) (one other : Result Child Place) → ChildMet text place one → ChildMet text place other → ChildrenAlike text one other

abbrev pub NamedIsOne : Type 0
NamedIsOne = (name text : List ℕ) (place : Place) (one other : Result Place Place) → NamedMet name text place one → NamedMet name text place other → NamedAlike text one other

abbrev pub LeftIsOne : Type 0
LeftIsOne = (text : List ℕ) (place next after : Place) → Left text place next → Left text place after → frames_at text next ≡ frames_at text after
