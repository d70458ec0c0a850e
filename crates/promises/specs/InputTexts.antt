-- The input of `price` and of `check`: a line with the number of the run sheet's bytes, the run sheet, and the other text to the end. Put together so it is
-- answered as its two texts are. Any other is refused by 25; and where all 32,791 bytes that the program reads are there and fewer than the line says, by 12.
use Rattle.std.specs.Prelude.{ℕ, ◌^◌, ◌≤◌, ◌<◌, ◌≡◌, ◌↔◌, List, ◌∷◌, ◌++◌, length, take}
use Rattle.text_bytes.specs.Text.{bytes, line_feed, decimal}
use Rattle.answer_check.specs.Pricing.{SheetPriced}
use Rattle.answer_check.specs.Checking.{SheetChecked}
use Rattle.answer_check.specs.Inputs.{InputPriced, InputChecked}

-- An input begins with a number, below 2 to the 64, and an LF.
pub record Counts (input : List ℕ) (count : ℕ) (rest : List ℕ) : Type 0 where
  pub is : input ≡ decimal count ++ (line_feed ∷ rest)
  pub small : count < 2 ^ 64

abbrev pub InputIsItsTexts : Type 0
InputIsItsTexts =
    (input sheet text row room : List ℕ) (n : ℕ) (row' room' : List ℕ)
    → Counts input (length sheet) (sheet ++ text)
    → (InputPriced input row n row' ↔ SheetPriced sheet text row n row') × (InputChecked input row room n row' room' ↔ SheetChecked sheet text row room n row' room')

-- It begins with no such number, or fewer bytes follow it and no more were there.
pub data NoTwoTexts (input : List ℕ) : Type 0 where
  no_count : ((count : ℕ) (rest : List ℕ) → Counts input count rest → ⊥) → NoTwoTexts input
  too_few : {count : ℕ} {rest : List ℕ} → Counts input count rest → length rest < count → length input < 32791 → NoTwoTexts input

-- What `check` answers to an input in some working room.
abbrev pub ChecksIn : List ℕ → List ℕ → List ℕ → ℕ → List ℕ → Type 0
ChecksIn input room row n row' = (room' : List ℕ) × InputChecked input row room n row' room'

-- A row with room for a text begins with it, whatever answer fits.
abbrev pub Prints : (List ℕ → ℕ → List ℕ → Type 0) → List ℕ → Type 0
Prints Answers text = (row : List ℕ) (n : ℕ) (row' : List ℕ) → Answers row n row' → length text ≤ length row → take n row' ≡ text

-- The room is left as it was.
abbrev pub RoomStays : List ℕ → List ℕ → Type 0
RoomStays input room = (row : List ℕ) (n : ℕ) (row' room' : List ℕ) → InputChecked input row room n row' room' → room' ≡ room

abbrev pub OtherInputsRefused : Type 0
OtherInputsRefused =
    (input room : List ℕ)
    → NoTwoTexts input
    → Prints (InputPriced input) (bytes "refused=25\nplace=1\n") × (Prints (ChecksIn input room) (bytes "refused=25\nplace=1\n") × RoomStays input room)

abbrev pub CutInputsRefused : Type 0
CutInputsRefused =
    (input room : List ℕ) (count : ℕ) (rest : List ℕ)
    → Counts input count rest
    → length rest < count
    → 32791 ≤ length input
    → Prints (InputPriced input) (bytes "refused=12\nplace=0\n") × (Prints (ChecksIn input room) (bytes "refused=12\nplace=0\n") × RoomStays input room)
