-- What is answered to an input of two texts, whatever its bytes are: a line with the run sheet's byte count, the run sheet, and a list or a plan sheet;
-- the two lines of 25 where it is no such input.
use Rattle.std.specs.Prelude.{ℕ, ◌≡◌, Option, Some, None, List, length, leb}
use Rattle.refusals.specs.declared.Refusal.TheVariants.{BadSheetCount}
use Rattle.refusals.specs.declared.Verdict.{Verdict}
use Rattle.text_inputs.specs.declared.Framed.{Framed}
use Rattle.text_inputs.specs.Inputs.{framed, part_in}
use Rattle.sheet_writer.specs.RefusalLines.{refusal_text}
use Rattle.answer_check.specs.RunRules.{head_anywhere}
use Rattle.answer_check.specs.Pricing.{RowHolds, SheetPriced}
use Rattle.answer_check.specs.Checking.{CheckGiven, room_checked}

-- An input is cut off at so many bytes: two texts of 16,385 bytes, which is one more than either may have, behind a line of 21.
abbrev pub most_input : ℕ
most_input = 32791

abbrev pub framed_input : List ℕ → Option Framed
framed_input input = framed input (leb most_input (length input))

-- 25, with the first line.
abbrev pub bad_input : Verdict
bad_input = record { refusal = BadSheetCount; place = 1 }

-- The answer to the two texts of an input, where `Answers` is the answer to two texts.
abbrev pub AnsweredIn : (List ℕ → List ℕ → List ℕ → ℕ → List ℕ → Type 0) → List ℕ → Option Framed → List ℕ → ℕ → List ℕ → Type 0
AnsweredIn Answers input (Some f) row n row' = Answers (part_in input f.from f.to) (part_in input f.to (length input)) row n row'
AnsweredIn Answers input None row n row' = RowHolds (refusal_text bad_input) row n row'

abbrev pub InputPriced : List ℕ → List ℕ → ℕ → List ℕ → Type 0
InputPriced input row n row' = AnsweredIn SheetPriced input (framed_input input) row n row'

-- The room that is left: as it was by 25.
abbrev pub room_in : List ℕ → Option Framed → List ℕ → List ℕ
room_in input (Some f) room = room_checked (part_in input f.from f.to) (part_in input f.to (length input)) room
room_in input None room = room

pub record InputChecked (input row room : List ℕ) (n : ℕ) (row' room' : List ℕ) : Type 0 where
  pub given : AnsweredIn (CheckGiven head_anywhere (length room)) input (framed_input input) row n row'
  pub cleared : room' ≡ room_in input (framed_input input) room
