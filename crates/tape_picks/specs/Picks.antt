-- What the lines of a list come to in an index: no file of that path, one that can be read, several, or one that cannot.
use Rattle.std.specs.Prelude.{ℕ, ◌≡◌, Bool, cond, not, ◌&&◌, ◌||◌, List, [], ◌∷◌, ◌++◌, map, length, drop, leb}
use Rattle.refusals.specs.Refusals.{is_refusal}
use Rattle.text_bytes.specs.Text.{is_text}
use Rattle.text_lines.specs.Lines.{each_of}
use Rattle.text_paths.specs.Paths.{line_count, path_after, paths_verdict}
use Rattle.tape_markup.specs.Tree.{Forest, is_balanced, tree_of}
use Rattle.tape_spans.specs.declared.Extent.{Extent}
use Rattle.tape_spans.specs.declared.Span.{Span}
use Rattle.tape_spans.specs.Spans.{span_of, no_span}
use Rattle.tape_files.specs.Index.{every, is_good_extent, index_files, partition_of, start_block_of, byte_offset_of, byte_count_of}
use Rattle.tape_files.specs.NamedFiles.{NamedFile, named_files}
use Rattle.tape_picks.specs.declared.Pick.{Pick}
use Rattle.tape_picks.specs.declared.Tape.{Tape}

-- The files of a path, in the order met.
unfoldable pub files_named : List ℕ → List NamedFile → List NamedFile
files_named path [] = []
files_named path (f ∷ files) = cond (is_text path f.path) (f ∷ files_named path files) (files_named path files)

-- The range of a file, over all its extents.
abbrev pub extent_in : Forest → Extent
extent_in e = record { partition = partition_of e; block = start_block_of e; offset = byte_offset_of e; count = byte_count_of e }

abbrev pub file_span : Tape → NamedFile → Span
file_span tape f = span_of tape.unit tape.size tape.partition (map extent_in f.extents)

abbrev pub span_of_first : ℕ → ℕ → ℕ → List NamedFile → Span
span_of_first unit size partition [] = no_span
span_of_first unit size partition (f ∷ files) = span_of unit size partition (map extent_in f.extents)

-- No bytes, or some in the other partition.
abbrev pub has_no_bytes : Span → Bool
has_no_bytes span = not span.some || span.elsewhere

-- What a line comes to, by the files of its path: 0 none, 1 one that can be read, 2 several, 3 one that cannot; and the range of the one.
abbrev pub no_pick : Pick
no_pick = record { state = 0; start = 0; end = 0 }

abbrev pub several_picks : Pick
several_picks = record { state = 2; start = 0; end = 0 }

abbrev pub one_pick : Span → Pick
one_pick span = record { state = cond (has_no_bytes span) 3 1; start = span.start; end = span.end }

unfoldable pub pick_of : Tape → List NamedFile → Pick
pick_of tape [] = no_pick
pick_of tape (f ∷ []) = one_pick (file_span tape f)
pick_of tape (f ∷ g ∷ files) = several_picks

-- Line i of a list, counted from 0.
unfoldable pub asked_pick : Tape → List ℕ → List ℕ → ℕ → Pick
asked_pick tape index list i = pick_of tape (files_named (path_after i list) (named_files (tree_of index)))

-- An index that can be read: it is balanced, and every extent of every file is good.
unfoldable pub is_readable : List ℕ → Bool
is_readable index = is_balanced index && every (every is_good_extent) (index_files (tree_of index))

-- How many lines are answered: all of a list that is accepted, where three rows have an entry for each; else none.
unfoldable pub lines_asked : List ℕ → ℕ → ℕ → ℕ → ℕ
lines_asked list states starts ends =
    cond (not (is_refusal (paths_verdict list).refusal) && leb (line_count list) states && leb (line_count list) starts && leb (line_count list) ends) (line_count list) 0

abbrev pub lines_answered : Bool → List ℕ → List ℕ → List ℕ → List ℕ → ℕ
lines_answered good list states starts ends = cond good (lines_asked list (length states) (length starts) (length ends)) 0

-- The three rows afterwards: what those lines come to, then the later entries as they were.
abbrev pub answered_row : (ℕ → ℕ) → ℕ → List ℕ → List ℕ
answered_row value count row = each_of value count ++ drop count row

pub record FilesFound (tape : Tape) (index list states starts ends : List ℕ) (good : Bool) (states' starts' ends' : List ℕ) : Type 0 where
  pub judged : good ≡ is_readable index
  pub state : states' ≡ answered_row (λ i. (asked_pick tape index list i).state) (lines_answered good list states starts ends) states
  pub start : starts' ≡ answered_row (λ i. (asked_pick tape index list i).start) (lines_answered good list states starts ends) starts
  pub end : ends' ≡ answered_row (λ i. (asked_pick tape index list i).end) (lines_answered good list states starts ends) ends
