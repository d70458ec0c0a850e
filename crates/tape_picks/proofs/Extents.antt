-- Files extent by extent: what those read so far come to, with those left, is what all come to; good extents say the range of the file.
use Prim.Native.Nat.{ℕ}
use mathlib.Core.Path.{◌≡◌, refl, ap, sym, ◌∙◌}
use mathlib.Core.Bool.{Bool, true, false, cond, ◌&&◌, and-true, and_assoc}
use mathlib.Core.List.{List, [], ◌∷◌, ◌++◌, map}
use Rattle.std.specs.Prelude.{Option, Some, None}
use Rattle.text_bytes.proofs.Bytes.{and_true_both}
use Rattle.tape_markup.specs.declared.Place.{Place}
use Rattle.tape_markup.specs.Tree.{Forest}
use Rattle.tape_markup.specs.Places.{PlaceIn}
use Rattle.tape_spans.specs.declared.Extent.{Extent}
use Rattle.tape_spans.specs.declared.Span.{Span}
use Rattle.tape_spans.specs.Spans.{span_with, span_from}
use Rattle.tape_files.specs.declared.ExtentSaid.{ExtentSaid}
use Rattle.tape_files.specs.Index.{flattened, every, insides, under, extent_info_name, extent_name, extents_of, is_good_extent}
use Rattle.tape_files.specs.Elements.{taken_for, inside}
use Rattle.tape_files.specs.Values.{extent_of, extent_is_good}
use Rattle.tape_files.proofs.Placing.{placed_in}
use Rattle.tape_files.proofs.Bare.{folded}
use Rattle.tape_files.proofs.Said.{extent_good, extent_says}
use Rattle.tape_picks.specs.declared.Tape.{Tape}
use Rattle.tape_picks.specs.Picks.{extent_in}
use Rattle.tape_picks.specs.Private.{said_extent, ranged_with, ranged_from}

-- What stands in the element around a place in the text.
pub inside_place : (text : List ℕ) (place : Place) → PlaceIn text place → inside text (taken_for text place) ≡ inside text place
inside_place text place p = ap (inside text) (placed_in text place p)

-- Whether a file has a range: all of its extents so far are good.
abbrev pub good_of : Option Span → Bool
good_of (Some span) = true
good_of None = false

-- The extents in an `extentinfo` element, and in a file.
abbrev pub extent_step : Tape → Option Span → Forest → Option Span
extent_step tape f held = ranged_with tape f (extent_of held)

abbrev pub info_step : Tape → Option Span → Forest → Option Span
info_step tape f held = ranged_from tape f (insides extent_name held)

module _ (tape : Tape) where
  pub extents_read : (f : Option Span) (l : List Forest) → folded (extent_step tape) f l ≡ ranged_from tape f l
  unfolding folded ranged_from
  extents_read f [] = refl
  extents_read f (extent ∷ l) = extents_read (extent_step tape f extent) l

  extents_append_here : (f : Option Span) (a b : List Forest) → ranged_from tape f (a ++ b) ≡ ranged_from tape (ranged_from tape f a) b
  unfolding ranged_from
  extents_append_here f [] b = refl
  extents_append_here f (extent ∷ a) b = extents_append_here (ranged_with tape f (extent_of extent)) a b

  joined_ones_here : (l : List Forest) → flattened (map (under []) l) ≡ l
  unfolding flattened under
  joined_ones_here [] = refl
  joined_ones_here (f ∷ l) = ap (λ (k : List Forest). f ∷ k) (joined_ones_here l)

  infos_read_here : (f : Option Span) (l : List Forest) → folded (info_step tape) f l ≡ ranged_from tape f (flattened (map (under (extent_name ∷ [])) l))
  unfolding folded ranged_from flattened under
  infos_read_here f [] = refl
  infos_read_here f (info ∷ l) =
      infos_read_here (info_step tape f info) l
      ∙ sym (extents_append_here f (insides extent_name info) (flattened (map (under (extent_name ∷ [])) l)))
      ∙ ap (λ (k : List Forest). ranged_from tape f (k ++ flattened (map (under (extent_name ∷ [])) l))) (sym (joined_ones_here (insides extent_name info)))

  pub file_read : (f : Option Span) (held : Forest) → folded (info_step tape) f (insides extent_info_name held) ≡ ranged_from tape f (extents_of held)
  unfolding extents_of under
  file_read f held = infos_read_here f (insides extent_info_name held)

  -- Whether all extents are good; and what good ones say.
  with_good : (f : Option Span) (e : ExtentSaid) → good_of (ranged_with tape f e) ≡ (good_of f && extent_is_good e)
  unfolding ranged_with
  with_good None e = refl
  with_good (Some span) e = go (extent_is_good e)
    where
      go : (b : Bool) → good_of (cond b (Some (span_with tape.unit tape.size tape.partition span (said_extent e))) None) ≡ (true && b)
      go true = refl
      go false = refl

  pub ranged_good : (f : Option Span) (extents : List Forest) → good_of (ranged_from tape f extents) ≡ (good_of f && every is_good_extent extents)
  unfolding ranged_from every
  ranged_good f [] = sym (and-true (good_of f))
  ranged_good f (extent ∷ extents) =
      ranged_good (ranged_with tape f (extent_of extent)) extents
      ∙ ap (λ (b : Bool). b && every is_good_extent extents) (with_good f (extent_of extent))
      ∙ and_assoc (good_of f) (extent_is_good (extent_of extent)) (every is_good_extent extents)
      ∙ ap (λ (b : Bool). good_of f && (b && every is_good_extent extents)) (extent_good extent)

  said_is : (extent : Forest) → is_good_extent extent ≡ true → said_extent (extent_of extent) ≡ extent_in extent
  said_is extent e = let s = extent_says extent e in rw (s.partition, s.block, s.offset, s.count)

  with_span : (f : Span) (e : ExtentSaid) → extent_is_good e ≡ true → ranged_with tape (Some f) e ≡ Some (span_with tape.unit tape.size tape.partition f (said_extent e))
  unfolding ranged_with
  with_span f e h = rw h

  pub ranged_span : (f : Span) (extents : List Forest) → every is_good_extent extents ≡ true
      → ranged_from tape (Some f) extents ≡ Some (span_from tape.unit tape.size tape.partition f (map extent_in extents))
  unfolding ranged_from span_from every
  ranged_span f [] e = refl
  ranged_span f (extent ∷ extents) e =
      let both = and_true_both (is_good_extent extent) (every is_good_extent extents) e in
      ap (λ (r : Option Span). ranged_from tape r extents) (with_span f (extent_of extent) (extent_good extent ∙ both.0))
      ∙ ranged_span (span_with tape.unit tape.size tape.partition f (said_extent (extent_of extent))) extents both.1
      ∙ ap (λ (x : Extent). Some (span_from tape.unit tape.size tape.partition (span_with tape.unit tape.size tape.partition f x) (map extent_in extents))) (said_is extent both.0)
