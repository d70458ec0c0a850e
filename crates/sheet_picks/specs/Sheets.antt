-- The run of the entries, and its sheet.
use Rattle.std.specs.Prelude.{ℕ, suc, List, length, get_or}
use Rattle.runs.specs.Run.{Run}
use Rattle.runs.specs.Alone.{alone_of}
use Rattle.text_lines.specs.Lines.{each_of}
use Rattle.sheet_writer.specs.Writing.{sheet_text}
use Rattle.sheet_picks.specs.Entries.{last_or, entry_lengths, entry_reads}

-- A number that is given, in a row of one, or the one for none.
abbrev pub given_or : ℕ → List ℕ → ℕ
given_or none row = get_or row 0 none

-- An entry is a file and a want; the head as given or at the last end, the turn price as given or 12,000.
unfoldable pub picked_run : List ℕ → List ℕ → List ℕ → List ℕ → List ℕ → Run
picked_run starts firsts lasts head turn =
    alone_of firsts (entry_lengths firsts lasts) (each_of suc (length firsts)) (entry_reads starts firsts lasts) (given_or (last_or 0 lasts) head) (given_or 12000 turn)

unfoldable pub picked_sheet : List ℕ → List ℕ → List ℕ → List ℕ → List ℕ → List ℕ → List ℕ
picked_sheet name starts firsts lasts head turn = sheet_text name (picked_run starts firsts lasts head turn)
