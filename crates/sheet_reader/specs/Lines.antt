-- The keys of a run sheet, and what the lines must be that it alone has.
use Rattle.std.specs.Prelude.{ℕ, Bool, cond, ◌&&◌, ◌||◌, List, leb}
use Rattle.text_bytes.specs.Text.{bytes, is_empty, starts_with, is_text, is_number, is_name}
use Rattle.text_lines.specs.Lines.{value_text, is_number_line, number_behind}

-- The keys, the name of the rule and that of the one that is retired.
abbrev pub tape_key : List ℕ
tape_key = bytes "tape="

abbrev pub head_key : List ℕ
head_key = bytes "head="

abbrev pub turn_key : List ℕ
turn_key = bytes "turn="

abbrev pub rule_key : List ℕ
rule_key = bytes "rule="

abbrev pub files_key : List ℕ
files_key = bytes "files="

abbrev pub file_key : List ℕ
file_key = bytes "file="

abbrev pub wants_key : List ℕ
wants_key = bytes "wants="

abbrev pub want_key : List ℕ
want_key = bytes "want="

abbrev pub least_text : List ℕ
least_text = bytes "least"

abbrev pub sweep_text : List ℕ
sweep_text = bytes "sweep"

-- `tape=` and a tape name.
unfoldable pub is_tape_line : List ℕ → Bool
is_tape_line line = starts_with tape_key line && is_name (value_text tape_key line)

-- A key and a number of lines to follow, which is limited.
unfoldable pub is_count_line : List ℕ → ℕ → List ℕ → Bool
is_count_line key most line = is_number_line key line && leb (number_behind key line) most

-- `turn=` and a number, or an empty `turn=`.
unfoldable pub is_turn_line : List ℕ → Bool
is_turn_line line = starts_with turn_key line && (is_empty (value_text turn_key line) || is_number (value_text turn_key line))

-- The price on such a line, where an empty `turn=` means the price e; and what it means: the drives' own price.
unfoldable pub turn_with : ℕ → List ℕ → ℕ
turn_with e line = cond (is_empty (value_text turn_key line)) e (number_behind turn_key line)

abbrev pub empty_turn : ℕ
empty_turn = 12000

abbrev pub turn_in : List ℕ → ℕ
turn_in line = turn_with empty_turn line

-- `rule=least`, or `rule=sweep`, which is still a sheet's line.
unfoldable pub is_rule_line : List ℕ → Bool
is_rule_line line =
    starts_with rule_key line && (is_text sweep_text (value_text rule_key line) || is_text least_text (value_text rule_key line))

-- Whether a line is `rule=sweep`, which names the retired rule.
unfoldable pub names_sweep : List ℕ → Bool
names_sweep line = starts_with rule_key line && is_text sweep_text (value_text rule_key line)
