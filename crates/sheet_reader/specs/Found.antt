-- What the readers of the sheet's own lines find, by cases of their answers.
use Rattle.std.specs.Prelude.{ℕ, ◌-◌, ◌≤◌, ◌≡◌, false, List, length, take, drop, Option, Some, None}
use Rattle.sheet_reader.specs.declared.NameLine.{NameLine}
use Rattle.sheet_reader.specs.declared.RuleLine.{RuleLine}
use Rattle.text_lines.specs.Lines.{line_of, value_text}
use Rattle.text_lines.specs.Found.{Passed}
use Rattle.sheet_reader.specs.Lines.{tape_key, is_tape_line, is_rule_line, names_sweep}

-- The name's part of a sheet, from behind the key to its LF.
pub record NamePart (sheet : List ℕ) (end : ℕ) : Type 0 where
  pub ordered : length tape_key ≤ end
  pub within : end ≤ length sheet
  pub name : take (end - length tape_key) (drop (length tape_key) sheet) ≡ value_text tape_key (line_of sheet)

abbrev pub NameLineFound : List ℕ → Option NameLine → Type 0
NameLineFound sheet (Some line) = Passed is_tape_line sheet 0 line.next × NamePart sheet line.end
NameLineFound sheet None = is_tape_line (line_of sheet) ≡ false

abbrev pub RuleLineFound : List ℕ → ℕ → Option RuleLine → Type 0
RuleLineFound sheet at (Some line) = Passed is_rule_line sheet at line.next × (line.sweep ≡ names_sweep (line_of (drop at sheet)))
RuleLineFound sheet at None = is_rule_line (line_of (drop at sheet)) ≡ false
