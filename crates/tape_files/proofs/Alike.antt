-- Two answers of a reader from one place say the same.
use Prim.Native.Nat.{ℕ}
use mathlib.Core.Path.{ap, sym, ◌∙◌}
use mathlib.Core.Bool.{Bool, true, false, true≢false}
use mathlib.Core.List.{List, []}
use Rattle.tape_markup.specs.Tree.{Forest, none, char, element, innermost}
use Rattle.std.specs.Prelude.{Ok, Err}
use Rattle.tape_files.specs.Index.{is_none}
use Rattle.tape_files.specs.Promises.{ChildIsOne, NamedIsOne, LeftIsOne}

-- The first element of a forest: its name, what it holds, what follows it.
abbrev name_in : Forest → List ℕ
name_in none = []
name_in (char b rest) = []
name_in (element name held rest) = name

abbrev held_in : Forest → Forest
held_in none = none
held_in (char b rest) = none
held_in (element name held rest) = held

abbrev rest_in : Forest → Forest
rest_in none = none
rest_in (char b rest) = none
rest_in (element name held rest) = rest

abbrev is_element : Forest → Bool
is_element none = false
is_element (char b rest) = false
is_element (element name held rest) = true

pub left_is_one : LeftIsOne
left_is_one text place next after l k = l.outer ∙ sym k.outer

pub child_is_one : ChildIsOne
child_is_one text place (Ok one) (Ok other) m k =
    let same = sym m.here ∙ k.here in
    (ap name_in same, record { held = ap held_in same; around = ap rest_in same; outwards = sym m.outer ∙ k.outer })
child_is_one text place (Ok one) (Err after) m k = absurd (true≢false (ap is_element (sym m.here ∙ k.none)))
child_is_one text place (Err next) (Ok other) m k = absurd (true≢false (ap is_element (sym k.here ∙ m.none)))
child_is_one text place (Err next) (Err after) m k = left_is_one text place next after m.left k.left

pub named_is_one : NamedIsOne
named_is_one name text place (Ok next) (Ok after) m k = ap innermost (sym m.here ∙ k.here)
named_is_one name text place (Ok next) (Err after) m k = absurd (true≢false (ap is_none (sym k.none ∙ m.here)))
named_is_one name text place (Err next) (Ok after) m k = absurd (true≢false (ap is_none (sym m.none ∙ k.here)))
named_is_one name text place (Err next) (Err after) m k = left_is_one text place next after m.left k.left
