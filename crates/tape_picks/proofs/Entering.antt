-- The range around a place, with a name, and below an element.
use Prim.Native.Nat.{ℕ}
use mathlib.Core.Path.{◌≡◌}
use mathlib.Core.List.{List, ◌++◌}
use lib.ListN.{length, get_or}
use Rattle.text_order.specs.declared.Range.{Range}
use Rattle.text_order.specs.Order.{path_at}
use Rattle.text_order.specs.Promises.{RangeHolds}
use Rattle.tape_markup.specs.declared.Place.{Place}
use Rattle.tape_markup.specs.Places.{PlaceIn}
use Rattle.tape_files.specs.NamedFiles.{own_name, path_below}
use Rattle.tape_files.specs.Elements.{taken_for, inside, level_at}
use Rattle.tape_picks.specs.declared.walk.Walk.{Walk}
use Rattle.tape_picks.specs.Private.{ListHeld, WalkAt, no_range, named_range, below_range}
use Rattle.tape_picks.proofs.Extents.{inside_place}
use Rattle.tape_picks.proofs.Ranges.{range_named, range_below}

module _ (text list starts ends order : List ℕ) (count : ℕ) (held : ListHeld list starts ends order count) (own : List ℕ) (outer : List (List ℕ)) (walk : Walk)
    (w : WalkAt text (path_at list starts ends order) count own outer walk) (range : Range) (is : range ≡ get_or walk.ranges walk.depth no_range) (next : Place) (p : PlaceIn text next) where
  around : RangeHolds (path_at list starts ends order) count own range
  around = rw (is, w.deep) w.ranges.0

  pub below_held : (r : Range) → r ≡ below_range list starts ends order range walk.depth (inside text (taken_for text next))
      → RangeHolds (path_at list starts ends order) count (path_below (level_at (length outer)) own (inside text next)) r
  below_held r e = rw (e, inside_place text next p, w.deep) (range_below list starts ends order count held own range around (length outer) (inside text next))

  pub named_held : RangeHolds (path_at list starts ends order) count (own ++ own_name (inside text next)) (named_range list starts ends order range (inside text next))
  named_held = range_named list starts ends order count held own range around (inside text next)
