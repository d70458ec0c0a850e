-- What the functions that read files find, by cases of their answers. No public contract cites this file.
use Rattle.std.specs.Prelude.{ℕ, suc, zero, ◌+◌, ◌≤◌, ◌<◌, ◌≡◌, Bool, true, false, cond, ◌&&◌, List, [], ◌∷◌, ◌++◌, length, Option, Some, None}
use Rattle.tape_ranges.specs.declared.File.{File}
use Rattle.tape_files.specs.declared.ExtentSaid.{ExtentSaid}
use Rattle.answer_ltfs.specs.declared.index.Walk.{Walk}
use Rattle.answer_ltfs.specs.declared.index.NextFile.{NextFile}
use Rattle.tape_markup.specs.Places.{PlaceIn, tokens_at}
use Rattle.tape_markup.specs.Tree.{Forest, innermost, enclosing}
use Rattle.tape_files.specs.Index.{outside, files_in}
use Rattle.tape_files.specs.Elements.{frames_at, level_at}
use Rattle.tape_files.specs.Values.{value_in, extent_of, extent_is_good}

-- A file with one more extent, with many more, and with those alone.
abbrev pub no_file : File
no_file = record { some = false; several = false; good = true; partition = 0; block = 0; offset = 0; count = 0 }

abbrev pub first_extent_of : Bool → ExtentSaid → File
first_extent_of good extent =
    record {
      some = true;
      several = false;
      good = good;
      partition = value_in extent.partition;
      block = value_in extent.block;
      offset = value_in extent.offset;
      count = value_in extent.count;
    }

abbrev pub later_extent_of : Bool → File → File
later_extent_of good f =
    record {
      some = true;
      several = true;
      good = good;
      partition = f.partition;
      block = f.block;
      offset = f.offset;
      count = f.count;
    }

unfoldable pub with_extent : File → ExtentSaid → File
with_extent f extent =
    cond f.some (later_extent_of (f.good && extent_is_good extent) f) (first_extent_of (f.good && extent_is_good extent) extent)

unfoldable pub with_extents : File → List Forest → File
with_extents f [] = f
with_extents f (extent ∷ extents) = with_extents (with_extent f (extent_of extent)) extents

abbrev pub file_of : List Forest → File
file_of extents = with_extents no_file extents

-- The files from a place on: those in the elements around it that are looked at, innermost first.
unfoldable pub files_under : ℕ → List Forest → List (List Forest)
files_under zero left = files_in (innermost left) outside
files_under (suc depth) left = files_in (innermost left) (level_at (suc depth)) ++ files_under depth (enclosing left)

unfoldable pub files_left : List ℕ → Walk → List (List Forest)
files_left text walk = files_under walk.depth (frames_at text walk.place)

-- Nothing is so deep as the text has bytes.
pub record WalkIn (text : List ℕ) (walk : Walk) : Type 0 where
  pub within : PlaceIn text walk.place
  pub deep : walk.depth + length (tokens_at text walk.place) ≤ length text

pub record FileMet (text : List ℕ) (walk : Walk) (f : File) (next : Walk) : Type 0 where
  pub extents : List Forest
  pub says : f ≡ file_of extents
  pub files : files_left text walk ≡ extents ∷ files_left text next
  pub within : WalkIn text next
  pub fewer : length (tokens_at text next.place) < length (tokens_at text walk.place)

abbrev pub NextFound : List ℕ → Walk → Option NextFile → Type 0
NextFound text walk (Some next) = FileMet text walk next.file next.walk
NextFound text walk None = files_left text walk ≡ []
