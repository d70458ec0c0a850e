-- The index, element by element: extents, files, and the files left from a place on.
use Prim.Native.Nat.{ℕ, zero, suc, ◌+◌, ◌-◌, ◌≤◌}
use mathlib.Core.Path.{◌≡◌, refl, ap, sym, ◌∙◌}
use mathlib.Core.List.{List, [], ◌∷◌, ◌++◌, map, append_assoc, append-nil}
use native.Mathlib.Omega.{arith}
use native.Mathlib.Numerals.{add-one}
use lib.ListN.{length}
use Rattle.tape_markup.specs.declared.Place.{Place}
use Rattle.tape_ranges.specs.declared.File.{File}
use Rattle.answer_ltfs.specs.declared.index.Walk.{Walk}
use Rattle.tape_markup.specs.Tree.{Forest, innermost, enclosing}
use Rattle.tape_files.specs.Index.{flattened, insides, under, extent_info_name, extent_name}
use Rattle.tape_files.specs.Index.{Level, outside, Role, holds, file, other, role_of, extents_of, files_of_role, files_in}
use Rattle.tape_markup.specs.Places.{part, PlaceIn, tokens_at}
use Rattle.tape_files.specs.Elements.{frames_at, inside, Left, ElementMet, NoElement, level_at}
use Rattle.tape_files.specs.Values.{extent_of}
use Rattle.answer_ltfs.specs.Private.Parts.{with_extent, with_extents, file_of, files_under, files_left, WalkIn, FileMet}
use Rattle.tape_files.proofs.Bare.{files_bare, under_last, folded}

-- The extents in an `extentinfo` element, and in a file.
abbrev pub extent_step : File → Forest → File
extent_step f held = with_extent f (extent_of held)

abbrev pub info_step : File → Forest → File
info_step f held = with_extents f (insides extent_name held)

pub extents_read : (f : File) (l : List Forest) → folded extent_step f l ≡ with_extents f l
unfolding folded with_extents
extents_read f [] = refl
extents_read f (extent ∷ l) = extents_read (extent_step f extent) l

extents_append : (f : File) (a b : List Forest) → with_extents f (a ++ b) ≡ with_extents (with_extents f a) b
unfolding with_extents
extents_append f [] b = refl
extents_append f (extent ∷ a) b = extents_append (with_extent f (extent_of extent)) a b

infos_read : (f : File) (l : List Forest) → folded info_step f l ≡ with_extents f (flattened (map (under (extent_name ∷ [])) l))
unfolding folded with_extents flattened under
infos_read f [] = refl
infos_read f (info ∷ l) =
    infos_read (info_step f info) l
    ∙ sym (extents_append f (insides extent_name info) (flattened (map (under (extent_name ∷ [])) l)))
    ∙ ap (λ (k : List Forest). with_extents f (k ++ flattened (map (under (extent_name ∷ [])) l))) (sym (under_last extent_name info))

pub file_read : (f : File) (held : Forest) → folded info_step f (insides extent_info_name held) ≡ with_extents f (extents_of held)
unfolding extents_of under
file_read f held = infos_read f (insides extent_info_name held)

-- The files in the elements around one that is so deep.
unfoldable outer_files : ℕ → List Forest → List (List Forest)
outer_files zero left = []
outer_files (suc depth) left = files_under depth left

under_split : (depth : ℕ) (left : List Forest) → files_under depth left ≡ files_in (innermost left) (level_at depth) ++ outer_files depth (enclosing left)
unfolding files_under outer_files level_at
under_split zero left = sym (append-nil (files_in (innermost left) outside))
under_split (suc depth) left = refl

-- A reader of the index somewhere: the files left are those that were left at the start.
pub record WalkLeft (text : List ℕ) (depth₀ : ℕ) (here₀ : Place) (depth : ℕ) (here : Place) : Type 0 where
  pub within : PlaceIn text here
  pub deep : depth + length (tokens_at text here) ≤ length text
  pub fewer : length (tokens_at text here) ≤ length (tokens_at text here₀)
  pub files : files_under depth (frames_at text here) ≡ files_under depth₀ (frames_at text here₀)

pub walk_start : (text : List ℕ) (walk : Walk) → WalkIn text walk → WalkLeft text walk.depth walk.place walk.depth walk.place
walk_start text walk p = record { within = p.within; deep = p.deep; fewer = omega arith; files = refl }

no_files : (text : List ℕ) (here next : Place) (level : Level) → NoElement text here next → files_in (inside text here) level ≡ []
unfolding files_in
no_files text here next level n = sym (files_bare (inside text here) level) ∙ ap (λ (f : Forest). files_in f level) n.none

module _ (text : List ℕ) (depth₀ : ℕ) (here₀ : Place) (here : Place) where
  -- No element is left here: none at all, or those of the element around it.
  pub walk_done : (depth : ℕ) (next : Place) → WalkLeft text depth₀ here₀ depth here → depth ≡ 0 → NoElement text here next → files_under depth₀ (frames_at text here₀) ≡ []
  unfolding files_under
  walk_done depth next p z n = sym p.files ∙ rw z (no_files text here next outside n)

  pub walk_out : (depth : ℕ) (next : Place) → WalkLeft text depth₀ here₀ depth here → (depth ≡ 0 → ⊥) → NoElement text here next → WalkLeft text depth₀ here₀ (depth - 1) next
  unfolding files_under
  walk_out zero next p z n = absurd (z refl)
  walk_out (suc depth) next p z n =
      let a = p.deep in
      let b = p.fewer in
      let d = n.left.fewer in
      let e : suc depth - 1 ≡ depth = omega arith in
      record {
        within = n.left.within;
        deep = omega arith;
        fewer = omega arith;
        files =
            ap (λ (k : ℕ). files_under k (frames_at text next)) e
            ∙ ap (files_under depth) n.left.outer
            ∙ sym (ap (λ (l : List (List Forest)). l ++ files_under depth (enclosing (frames_at text here))) (no_files text here next (level_at (suc depth)) n))
            ∙ p.files;
      }

  module _ (depth : ℕ) (p : WalkLeft text depth₀ here₀ depth here) (from to : ℕ) (next : Place) (m : ElementMet text here from to next) where
    -- The files left, by the role of the element met.
    role_files : files_under depth (frames_at text here) ≡ files_of_role (role_of (level_at depth) (part from to text)) (inside text next) (files_in (inside text next)) ++ files_under depth (enclosing (frames_at text next))
    unfolding files_in
    role_files =
        under_split depth (frames_at text here)
        ∙ ap (λ (l : List (List Forest)). l ++ outer_files depth (enclosing (frames_at text here))) (sym (files_bare (inside text here) (level_at depth)) ∙ ap (λ (f : Forest). files_in f (level_at depth)) m.here)
        ∙ append_assoc (files_of_role (role_of (level_at depth) (part from to text)) (inside text next) (files_in (inside text next))) (files_in (innermost (enclosing (frames_at text next))) (level_at depth)) (outer_files depth (enclosing (frames_at text here)))
        ∙ ap (λ (l : List Forest). files_of_role (role_of (level_at depth) (part from to text)) (inside text next) (files_in (inside text next)) ++ (files_in (innermost (enclosing (frames_at text next))) (level_at depth) ++ outer_files depth l)) m.outer
        ∙ ap (λ (l : List (List Forest)). files_of_role (role_of (level_at depth) (part from to text)) (inside text next) (files_in (inside text next)) ++ l) (sym (under_split depth (enclosing (frames_at text next))))

    pub walk_in : role_of (level_at depth) (part from to text) ≡ holds (level_at (suc depth)) → WalkLeft text depth₀ here₀ (depth + 1) next
    unfolding files_under
    walk_in r =
        let a = p.deep in
        let b = p.fewer in
        let d = m.fewer in
        let f : files_under (suc depth) (frames_at text next) ≡ files_under depth (frames_at text here) = sym (role_files ∙ ap (λ (k : Role). files_of_role k (inside text next) (files_in (inside text next)) ++ files_under depth (enclosing (frames_at text next))) r) in
        record {
          within = m.within;
          deep = omega arith;
          fewer = omega arith;
          files = rw (add-one depth) (f ∙ p.files);
        }

    pub walk_past : (after : Place) → Left text next after → role_of (level_at depth) (part from to text) ≡ other → WalkLeft text depth₀ here₀ depth after
    walk_past after l r =
        let a = p.deep in
        let b = p.fewer in
        let d = m.fewer in
        let e = l.fewer in
        record {
          within = l.within;
          deep = omega arith;
          fewer = omega arith;
          files =
              ap (files_under depth) l.outer
              ∙ sym (role_files ∙ ap (λ (k : Role). files_of_role k (inside text next) (files_in (inside text next)) ++ files_under depth (enclosing (frames_at text next))) r)
              ∙ p.files;
        }

    pub walk_file : (f : File) (after : Place) → Left text next after → role_of (level_at depth) (part from to text) ≡ file → f ≡ file_of (extents_of (inside text next)) → FileMet text (record { depth = depth₀; place = here₀ }) f (record { depth = depth; place = after })
    unfolding files_left
    walk_file f after l r e =
        let a = p.deep in
        let b = p.fewer in
        let d = m.fewer in
        let g = l.fewer in
        record {
          extents = extents_of (inside text next);
          says = e;
          files =
              sym p.files
              ∙ role_files
              ∙ ap (λ (k : Role). files_of_role k (inside text next) (files_in (inside text next)) ++ files_under depth (enclosing (frames_at text next))) r
              ∙ ap (λ (k : List Forest). extents_of (inside text next) ∷ files_under depth k) (sym l.outer);
          within = record { within = l.within; deep = omega arith };
          fewer = omega arith;
        }
