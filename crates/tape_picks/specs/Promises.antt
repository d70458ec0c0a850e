-- What is promised of a line's answer: its state tells whether one file has the path, and whether that one can be read; start and end are those of its range. Proved in
-- proofs/Told.antt.
use Rattle.std.specs.Prelude.{◌≡◌, true, not, ◌||◌, List, length, eqb}
use Rattle.tape_spans.specs.declared.Span.{Span}
use Rattle.tape_files.specs.NamedFiles.{NamedFile}
use Rattle.tape_picks.specs.declared.Tape.{Tape}
use Rattle.tape_picks.specs.Picks.{span_of_first, has_no_bytes, pick_of}

abbrev pub one_span : Tape → List NamedFile → Span
one_span tape files = span_of_first tape.unit tape.size tape.partition files

pub record PickSays (tape : Tape) (files : List NamedFile) : Type 0 where
  pub unknown : (eqb (pick_of tape files).state 0 || eqb (pick_of tape files).state 2) ≡ not (eqb (length files) 1)
  pub unreadable : eqb (length files) 1 ≡ true → eqb (pick_of tape files).state 3 ≡ has_no_bytes (one_span tape files)
  pub start : eqb (length files) 1 ≡ true → (pick_of tape files).start ≡ (one_span tape files).start
  pub end : eqb (length files) 1 ≡ true → (pick_of tape files).end ≡ (one_span tape files).end

abbrev pub PicksSay : Type 0
PicksSay = (tape : Tape) (files : List NamedFile) → PickSays tape files
