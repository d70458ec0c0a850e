-- What the lines of a list ask for, and what is refused before there are entries: 13, 20, 44, 11, 5, 41, 42, 23, each the first that applies.
use Rattle.std.specs.Prelude.{ℕ, zero, suc, Bool, cond, not, ◌&&◌, ◌||◌, List, [], ◌∷◌, length, eqb, ltb}
use Rattle.refusals.specs.declared.OwnRefusal.TheVariants.{UnknownPath, NoBytes, OtherVolume}
use Rattle.refusals.specs.declared.Refusal.TheVariants.{BadName, BadText, FarFile}
use Rattle.refusals.specs.Refusals.{first_where, number_of, own_number_of}
use Rattle.runs.specs.Run.{last_place}
use Rattle.text_bytes.specs.Text.{is_name}
use Rattle.text_paths.specs.Paths.{line_count, path_after, paths_verdict}
use Rattle.tape_markup.specs.Tree.{is_balanced, tree_of}
use Rattle.tape_spans.specs.declared.Span.{Span}
use Rattle.tape_spans.specs.Spans.{no_span}
use Rattle.tape_files.specs.Index.{index_name, is_none, insides, is_good_label, block_size_of, data_partition_of}
use Rattle.tape_files.specs.Volumes.{other_volume}
use Rattle.tape_files.specs.NamedFiles.{NamedFile, named_files}
use Rattle.tape_picks.specs.declared.Tape.{Tape}
use Rattle.tape_picks.specs.Picks.{files_named, file_span, has_no_bytes, is_readable}
use Rattle.answer_pick.specs.declared.Refused.{Refused}

-- 20: a label or an index that is not balanced, a value of the label or of an extent that is missing or bad, an index without its root; and a block size of 0 where positions
-- count blocks.
unfoldable pub is_label : ℕ → List ℕ → Bool
is_label unit label = is_balanced label && is_good_label (tree_of label) && (eqb unit 0 || not (eqb (block_size_of (tree_of label)) 0))

unfoldable pub are_readable : ℕ → List ℕ → List ℕ → Bool
are_readable unit label index = is_label unit label && not (is_none (insides index_name (tree_of index))) && is_readable index

-- How the label says that places are counted.
abbrev pub tape_of : ℕ → List ℕ → Tape
tape_of unit label = record { unit = unit; size = block_size_of (tree_of label); partition = data_partition_of (tree_of label) }

-- The files of the path that line i asks for, counted from 0, and the range of the first of them.
unfoldable pub asked_files : List ℕ → List ℕ → ℕ → List NamedFile
asked_files index list i = files_named (path_after i list) (named_files (tree_of index))

abbrev pub first_span : Tape → List NamedFile → Span
first_span tape [] = no_span
first_span tape (f ∷ files) = file_span tape f

unfoldable pub asked_span : Tape → List ℕ → List ℕ → ℕ → Span
asked_span tape index list i = first_span tape (asked_files index list i)

-- 41: no file of that path, or several; 42: no bytes, or some in the other partition; 23: an end above the limit.
abbrev pub is_unknown : List ℕ → List ℕ → ℕ → Bool
is_unknown index list i = not (eqb (length (asked_files index list i)) 1)

abbrev pub is_without : Tape → List ℕ → List ℕ → ℕ → Bool
is_without tape index list i = has_no_bytes (asked_span tape index list i)

abbrev pub is_too_far : Tape → List ℕ → List ℕ → ℕ → Bool
is_too_far tape index list i = ltb last_place (asked_span tape index list i).end

-- A check whose refusal has no place, one that names the first such line, and the first of several that refuses.
abbrev pub refused_if : Bool → ℕ → Refused
refused_if bad number = record { number = cond bad number 0; place = 0 }

abbrev pub refused_at : ℕ → ℕ → Refused
refused_at zero number = record { number = 0; place = 0 }
refused_at (suc place) number = record { number = number; place = suc place }

abbrev pub first_refused : List Refused → Refused
first_refused [] = record { number = 0; place = 0 }
first_refused (r ∷ more) = cond (eqb r.number 0) (first_refused more) r

abbrev pub first_line : (ℕ → Bool) → List ℕ → ℕ
first_line bad list = first_where bad (line_count list)

-- Of the texts and the list, then of its lines.
abbrev pub list_refused : List ℕ → Refused
list_refused list = record { number = number_of (paths_verdict list).refusal; place = (paths_verdict list).place }

unfoldable pub input_checks : ℕ → List ℕ → List ℕ → List ℕ → List ℕ → Refused
input_checks unit name label index list =
    first_refused
    (refused_if (not (is_name name)) (number_of BadName)
    ∷ refused_if (not (are_readable unit label index)) (number_of BadText)
    ∷ refused_if (other_volume (tree_of label) (tree_of index)) (own_number_of OtherVolume)
    ∷ list_refused list
    ∷ [])

unfoldable pub line_checks : Tape → List ℕ → List ℕ → Refused
line_checks tape index list =
    first_refused
    (refused_at (first_line (is_unknown index list) list) (own_number_of UnknownPath)
    ∷ refused_at (first_line (is_without tape index list) list) (own_number_of NoBytes)
    ∷ refused_at (first_line (is_too_far tape index list) list) (number_of FarFile)
    ∷ [])

unfoldable pub pick_refused : ℕ → List ℕ → List ℕ → List ℕ → List ℕ → Refused
pick_refused unit name label index list = first_refused (input_checks unit name label index list ∷ line_checks (tape_of unit label) index list ∷ [])
