-- What an element is for, by its name and how deep it stands; and whether there is an index at all.
use Prim.Native.Nat.{ℕ, zero, suc, ◌%◌}
use mathlib.Core.Path.{◌≡◌, refl}
use mathlib.Core.Bool.{Bool, true, false, cond, not}
use mathlib.Core.List.{List}
use native.Mathlib.Omega.{arith}
use borrow.Author.Tests.{eq-eqb, ne_eqb}
use Rattle.text_bytes.specs.Text.{is_text}
use Rattle.std.specs.Prelude.{Result, Ok, Err}
use Rattle.std.specs.Result.{is_ok}
use Rattle.tape_markup.specs.declared.Place.{Place}
use Rattle.tape_files.specs.declared.Use.{Use}
use Rattle.tape_markup.specs.Tree.{tree_of}
use Rattle.tape_markup.specs.Places.{tokens_at}
use Rattle.tape_files.specs.Index.{is_none, insides, index_name, directory_name, contents_name, Level, in_directory, in_contents, Role, holds, other, role_of}
use Rattle.tape_files.specs.Elements.{frames_at, NamedMet, level_at, RoleFound}
use Rattle.tape_files.specs.Private.{enter_if}

-- Whether there is an outermost `ltfsindex`.
pub index_met : (text : List ℕ) (r : Result Place Place) → NamedMet index_name text (Place.Text 0) r → is_ok r ≡ not (is_none (insides index_name (tree_of text)))
unfolding frames_at tokens_at tree_of
index_met text (Ok next) m = rw m.here
index_met text (Err next) n = rw n.none

-- What a name means so deep: directories and contents take turns.
even_level : (depth : ℕ) → (depth ≡ 0 → ⊥) → (depth ≡ 1 → ⊥) → depth % 2 ≡ 0 → level_at depth ≡ in_directory
unfolding level_at
even_level zero z o e = absurd (z refl)
even_level (suc zero) z o e = absurd (o refl)
even_level (suc (suc d)) z o e =
    let h : d % 2 ≡ 0 = omega arith in
    rw (eq-eqb (d % 2) 0 h)

odd_level : (depth : ℕ) → (depth ≡ 0 → ⊥) → (depth ≡ 1 → ⊥) → (depth % 2 ≡ 0 → ⊥) → level_at depth ≡ in_contents
unfolding level_at
odd_level zero z o e = absurd (z refl)
odd_level (suc zero) z o e = absurd (o refl)
odd_level (suc (suc d)) z o e = rw (ne_eqb (d % 2) 0 (λ h. e (omega arith)))

pub role_entered : (role : Role) (below : Level) (t : Bool) (u : Use) → role ≡ cond t (holds below) other → u ≡ enter_if t → RoleFound role below u
role_entered role below true u e f = rw f e
role_entered role below false u e f = rw f e

module _ (depth : ℕ) (name : List ℕ) where
  pub role_outside : (t : Bool) → depth ≡ 0 → is_text index_name name ≡ t → role_of (level_at depth) name ≡ cond t (holds (level_at (suc depth))) other
  unfolding level_at
  role_outside t z e = rw (z, e)

  pub role_index : (t : Bool) → depth ≡ 1 → is_text directory_name name ≡ t → role_of (level_at depth) name ≡ cond t (holds (level_at (suc depth))) other
  unfolding level_at
  role_index t z e = rw (z, e)

  pub role_directory : (t : Bool) → (depth ≡ 0 → ⊥) → (depth ≡ 1 → ⊥) → depth % 2 ≡ 0 → is_text contents_name name ≡ t → role_of (level_at depth) name ≡ cond t (holds (level_at (suc depth))) other
  role_directory t z o d e =
      let l = even_level depth z o d in
      let b = odd_level (suc depth) (λ h. omega arith) (λ h. z (omega arith)) (λ h. omega arith) in
      rw (l, b, e)

  pub role_contents : (u : Use) → (depth ≡ 0 → ⊥) → (depth ≡ 1 → ⊥) → (depth % 2 ≡ 0 → ⊥) → RoleFound (role_of in_contents name) in_directory u → RoleFound (role_of (level_at depth) name) (level_at (suc depth)) u
  role_contents u z o d r =
      let l = odd_level depth z o d in
      let m : suc depth % 2 ≡ 0 = omega arith in
      let b = even_level (suc depth) (λ h. omega arith) (λ h. z (omega arith)) m in
      rw (l, b) r
