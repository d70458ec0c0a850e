-- What private functions answer. No public contract cites this file.
use Rattle.std.specs.Prelude.{ℕ, Bool, cond, Option, Result, Err, List, replicate, leb}
use Rattle.answer_month.specs.declared.Month.{Month}
use Rattle.answer_month.specs.declared.BadPart.{BadPart}
use Rattle.answer_month.specs.Parts.{most_sheets, count_of}

-- Every number 0.
abbrev pub zero_month : Bool → Month
zero_month over =
    record {
      sheets = 0;
      accepted = 0;
      refused = replicate 32 0;
      reads = 0;
      sum = 0;
      saved = 0;
      time = 0;
      file = 0;
      letters = 0;
      tape = replicate 16 0;
      over = over;
    }

-- A line behind so many sheets.
abbrev pub line_behind : ℕ → List ℕ → Result (Option ℕ) BadPart
line_behind sheets line = cond (leb most_sheets sheets) (Err (record {})) (count_of line)
