-- The files of an index, each by its path and its extents: below a `directory` of `ltfsindex`, the volume itself, the names of the directories around the file and its own,
-- joined by `/`.
use Rattle.std.specs.Prelude.{ℕ, List, [], ◌∷◌, ◌++◌}
use Prim.Native.Char.{code}
use Rattle.text_bytes.specs.Text.{bytes}
use Rattle.text_references.specs.References.{decoded}
use Rattle.tape_markup.specs.Tree.{Forest, none, char, element}
use Rattle.tape_files.specs.Index.{Level, outside, in_index, in_directory, in_contents, Role, holds, file, other, role_of, extents_of, values_in, first_value}

pub record NamedFile : Type 0 where
  pub path : List ℕ
  pub extents : List Forest

-- The name of a file or a directory: what stands directly in its first `name`, decoded; empty without one.
unfoldable pub own_name : Forest → List ℕ
own_name inside = decoded (first_value (values_in (bytes "name") inside))

-- What comes before the names in an element that is looked at: a directory in another's contents adds its name, the volume and all else add nothing.
abbrev pub path_below : Level → List ℕ → Forest → List ℕ
path_below outside path inside = path
path_below in_index path inside = path
path_below in_directory path inside = path
path_below in_contents path inside = path ++ own_name inside ++ (code "/" ∷ [])

abbrev pub named_of_role : Role → Level → List ℕ → Forest → (Level → List ℕ → List NamedFile) → List NamedFile
named_of_role (holds below) level path inside deeper = deeper below (path_below level path inside)
named_of_role file level path inside deeper = record { path = path ++ own_name inside; extents = extents_of inside } ∷ []
named_of_role other level path inside deeper = []

unfoldable pub named_in : Forest → Level → List ℕ → List NamedFile
named_in none level path = []
named_in (char b rest) level path = named_in rest level path
named_in (element name inside rest) level path = named_of_role (role_of level name) level path inside (named_in inside) ++ named_in rest level path

-- All files of an index, in the order met. Of several outermost `ltfsindex` all count.
unfoldable pub named_files : Forest → List NamedFile
named_files index = named_in index outside []
