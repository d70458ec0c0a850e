-- The files by path are the files of the tape table, in the same order.
use Prim.Native.Nat.{ℕ}
use mathlib.Core.Path.{◌≡◌, refl, ap, ◌∙◌}
use mathlib.Core.List.{List, [], ◌∷◌, ◌++◌}
use Rattle.tape_markup.specs.Tree.{Forest, none, char, element}
use Rattle.tape_files.specs.Index.{Level, outside, Role, holds, file, other, role_of, files_of_role, files_in, index_files}
use Rattle.tape_files.specs.NamedFiles.{NamedFile, named_of_role, named_in, named_files}
use Rattle.tape_files.specs.Promises.{extents_of_all, FilesAreTheTable}

joined : (a b : List NamedFile) → extents_of_all (a ++ b) ≡ extents_of_all a ++ extents_of_all b
joined [] b = refl
joined (f ∷ a) b = ap (λ (l : List (List Forest)). f.extents ∷ l) (joined a b)

same_in : (forest : Forest) (level : Level) (path : List ℕ) → extents_of_all (named_in forest level path) ≡ files_in forest level
unfolding named_in files_in
same_in none level path = refl
same_in (char b rest) level path = same_in rest level path
same_in (element name inside rest) level path =
    joined (named_of_role (role_of level name) level path inside (named_in inside)) (named_in rest level path)
    ∙ both (role_of level name) (λ l p. same_in inside l p) (same_in rest level path)
  where
    both : (role : Role) → ((l : Level) (p : List ℕ) → extents_of_all (named_in inside l p) ≡ files_in inside l) → extents_of_all (named_in rest level path) ≡ files_in rest level
        → extents_of_all (named_of_role role level path inside (named_in inside)) ++ extents_of_all (named_in rest level path) ≡ files_of_role role inside (files_in inside) ++ files_in rest level
    both (holds below) deeper more = rw (deeper, more)
    both file deeper more = rw more
    both other deeper more = rw more

pub files_are_the_table : FilesAreTheTable
unfolding named_files index_files
files_are_the_table index = same_in index outside []
