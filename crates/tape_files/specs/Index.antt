-- What the elements of a label and of an index say. Only the elements named here are interpreted; any other is passed over with what it holds.
use Rattle.std.specs.Prelude.{ℕ, Bool, true, false, cond, not, ◌&&◌, ◌||◌, List, [], ◌∷◌, ◌++◌, map, get_or}
use Prim.Native.Char.{code}
use Rattle.text_bytes.specs.Text.{bytes, is_text, between, is_number, value_of}
use Rattle.tape_markup.specs.Tree.{Forest, none, char, element}

-- What every element of a list says, and whether all or any of a list are of a kind.
unfoldable pub flattened : {A : Type 0} → List (List A) → List A
flattened [] = []
flattened (l ∷ ls) = l ++ flattened ls

unfoldable pub every : {A : Type 0} → (A → Bool) → List A → Bool
every kind [] = true
every kind (a ∷ more) = kind a && every kind more

unfoldable pub some : {A : Type 0} → (A → Bool) → List A → Bool
some kind [] = false
some kind (a ∷ more) = kind a || some kind more

abbrev pub is_none : {A : Type 0} → List A → Bool
is_none [] = true
is_none (a ∷ more) = false

-- The bytes that stand directly in an element.
unfoldable pub chars_of : Forest → List ℕ
chars_of none = []
chars_of (char b rest) = b ∷ chars_of rest
chars_of (element name inside rest) = chars_of rest

-- What the elements of a name hold, in the order met.
unfoldable pub insides : List ℕ → Forest → List Forest
insides wanted none = []
insides wanted (char b rest) = insides wanted rest
insides wanted (element name inside rest) = cond (is_text wanted name) (inside ∷ insides wanted rest) (insides wanted rest)

-- What the elements at the end of a path of names hold.
unfoldable pub under : List (List ℕ) → Forest → List Forest
under [] forest = forest ∷ []
under (name ∷ path) forest = flattened (map (under path) (insides name forest))

-- The values met at the end of a path. They are good when there is one and all have their form; the first counts.
unfoldable pub values_at : List (List ℕ) → Forest → List (List ℕ)
values_at path forest = map chars_of (under path forest)

unfoldable pub are_good : (List ℕ → Bool) → List (List ℕ) → Bool
are_good form values = not (is_none values) && every form values

abbrev pub first_value : List (List ℕ) → List ℕ
first_value [] = []
first_value (value ∷ values) = value

-- A partition is one byte, a to z.
abbrev pub is_partition : List ℕ → Bool
is_partition [] = false
is_partition (b ∷ []) = between (code "a") (code "z") b
is_partition (b ∷ c ∷ text) = false

abbrev pub letter_of : List ℕ → ℕ
letter_of text = get_or text 0 0

-- The names in a label.
abbrev pub label_name : List ℕ
label_name = bytes "ltfslabel"

abbrev pub block_size_name : List ℕ
block_size_name = bytes "blocksize"

abbrev pub partitions_name : List ℕ
partitions_name = bytes "partitions"

abbrev pub data_name : List ℕ
data_name = bytes "data"

-- The label: its block size and its data partition.
unfoldable pub block_sizes : Forest → List (List ℕ)
block_sizes label = values_at (label_name ∷ block_size_name ∷ []) label

unfoldable pub data_partitions : Forest → List (List ℕ)
data_partitions label = values_at (label_name ∷ partitions_name ∷ data_name ∷ []) label

unfoldable pub is_good_label : Forest → Bool
is_good_label label = are_good is_number (block_sizes label) && are_good is_partition (data_partitions label)

unfoldable pub block_size_of : Forest → ℕ
block_size_of label = value_of (first_value (block_sizes label))

unfoldable pub data_partition_of : Forest → ℕ
data_partition_of label = letter_of (first_value (data_partitions label))

-- The names in an extent.
abbrev pub partition_name : List ℕ
partition_name = bytes "partition"

abbrev pub start_block_name : List ℕ
start_block_name = bytes "startblock"

abbrev pub byte_offset_name : List ℕ
byte_offset_name = bytes "byteoffset"

abbrev pub byte_count_name : List ℕ
byte_count_name = bytes "bytecount"

-- An extent, by what its element holds.
abbrev pub values_in : List ℕ → Forest → List (List ℕ)
values_in name extent = values_at (name ∷ []) extent

unfoldable pub is_good_extent : Forest → Bool
is_good_extent extent =
    are_good is_partition (values_in partition_name extent)
    && are_good is_number (values_in start_block_name extent)
    && are_good is_number (values_in byte_offset_name extent)
    && are_good is_number (values_in byte_count_name extent)

unfoldable pub partition_of : Forest → ℕ
partition_of extent = letter_of (first_value (values_in partition_name extent))

abbrev pub extent_number : List ℕ → Forest → ℕ
extent_number name extent = value_of (first_value (values_in name extent))

unfoldable pub start_block_of : Forest → ℕ
start_block_of extent = extent_number start_block_name extent

unfoldable pub byte_offset_of : Forest → ℕ
byte_offset_of extent = extent_number byte_offset_name extent

unfoldable pub byte_count_of : Forest → ℕ
byte_count_of extent = extent_number byte_count_name extent

-- The names in an index.
abbrev pub index_name : List ℕ
index_name = bytes "ltfsindex"

abbrev pub directory_name : List ℕ
directory_name = bytes "directory"

abbrev pub contents_name : List ℕ
contents_name = bytes "contents"

abbrev pub file_name : List ℕ
file_name = bytes "file"

abbrev pub extent_info_name : List ℕ
extent_info_name = bytes "extentinfo"

abbrev pub extent_name : List ℕ
extent_name = bytes "extent"

-- Where an element stands in an index: outside of all, in the index, in a directory, in a directory's contents.
pub data Level : Type 0 where
  outside : Level
  in_index : Level
  in_directory : Level
  in_contents : Level

-- What an element is there: one whose elements are looked at, a file, or none of these.
pub data Role : Type 0 where
  holds : Level → Role
  file : Role
  other : Role

abbrev pub role_of : Level → List ℕ → Role
role_of outside name = cond (is_text index_name name) (holds in_index) other
role_of in_index name = cond (is_text directory_name name) (holds in_directory) other
role_of in_directory name = cond (is_text contents_name name) (holds in_contents) other
role_of in_contents name = cond (is_text directory_name name) (holds in_directory) (cond (is_text file_name name) file other)

-- The extents of a file, over all its `extentinfo`.
unfoldable pub extents_of : Forest → List Forest
extents_of inside = under (extent_info_name ∷ extent_name ∷ []) inside

abbrev pub files_of_role : Role → Forest → (Level → List (List Forest)) → List (List Forest)
files_of_role (holds level) inside below = below level
files_of_role file inside below = extents_of inside ∷ []
files_of_role other inside below = []

-- The files, in the order met, each by its extents.
unfoldable pub files_in : Forest → Level → List (List Forest)
files_in none level = []
files_in (char b rest) level = files_in rest level
files_in (element name inside rest) level = files_of_role (role_of level name) inside (files_in inside) ++ files_in rest level

unfoldable pub index_files : Forest → List (List Forest)
index_files index = files_in index outside

-- An index has its root, and every extent of every file is good.
unfoldable pub is_good_index : Forest → Bool
is_good_index index = not (is_none (insides index_name index)) && every (every is_good_extent) (index_files index)
