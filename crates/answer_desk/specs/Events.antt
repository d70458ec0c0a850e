-- The events of a day, one a line: `file=OFFICE,FILE,COUNT`, `withdraw=OFFICE,NUMBER` and `board=HEAD,TURN`.
use Rattle.std.specs.Prelude.{ℕ, cond, List, Option, Some, None}
use Rattle.text_bytes.specs.Text.{bytes}
use Rattle.text_lines.specs.Lines.{is_pair_line, first_in, second_in, is_triple_line, middle_in, third_in}
use Rattle.answer_desk.specs.declared.Event.{Event}

-- The keys.
abbrev pub filing_key : List ℕ
filing_key = bytes "file="

abbrev pub withdraw_key : List ℕ
withdraw_key = bytes "withdraw="

abbrev pub board_key : List ℕ
board_key = bytes "board="

-- What a line holds.
unfoldable pub pair_event_of : List ℕ → Option Event
pair_event_of line =
    cond (is_pair_line withdraw_key line) (Some (Event.Withdraw (first_in withdraw_key line) (second_in withdraw_key line)))
    (cond (is_pair_line board_key line) (Some (Event.Board (first_in board_key line) (second_in board_key line)))
    None)

unfoldable pub event_of : List ℕ → Option Event
event_of line =
    cond (is_triple_line filing_key line) (Some (Event.File (first_in filing_key line) (middle_in filing_key line) (third_in filing_key line)))
    (pair_event_of line)
