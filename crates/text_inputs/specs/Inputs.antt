-- An input of two texts: a line with the number of the first one's bytes, so many bytes, and the other text to the end.
use Rattle.std.specs.Prelude.{ℕ, ◌+◌, ◌-◌, ◌≤◌, min, ◌≡◌, Bool, false, cond, ◌&&◌, List, length, take, drop, leb, Option, Some, None}
use Rattle.text_bytes.specs.Text.{line_feed, has, behind, is_number, value_of}
use Rattle.text_lines.specs.Lines.{line_of}
use Rattle.text_inputs.specs.declared.Framed.{Framed}
use Rattle.text_inputs.specs.declared.Got.{Got}

-- A text of so many bytes from a place on, where so many are left. Of an input that was cut off it is what is left.
abbrev pub framed_behind : ℕ → ℕ → ℕ → Bool → Option Framed
framed_behind from bytes left cut = cond (leb bytes left) (Some (record { from = from; to = from + bytes })) (cond cut (Some (record { from = from; to = from + left })) None)

-- Where the first text begins and where it ends.
unfoldable pub framed : List ℕ → Bool → Option Framed
framed input cut =
    cond (is_number (line_of input))
    (framed_behind (length input - length (behind line_feed input)) (value_of (line_of input)) (length (behind line_feed input)) cut)
    None

-- The bytes from one place to another; the whole text where these are no places in it.
abbrev pub part_in : List ℕ → ℕ → ℕ → List ℕ
part_in text from to = cond (leb from to && leb to (length text)) (take (to - from) (drop from text)) text

-- Where that part of a text of so many bytes lies, for a text that lies at a place: in the same memory, so many bytes on; the whole text at its place.
abbrev pub part_place : ℕ → ℕ → ℕ → ℕ × ℕ → ℕ × ℕ
part_place bytes from to place = cond (leb from to && leb to bytes) (place.0, from + place.1) place

-- A line read into a row: no more than the row holds, no LF but at its end, and what stands behind it in the row is as it was.
pub record LineRead (row : List ℕ) (n : ℕ) (row' : List ℕ) : Type 0 where
  pub held : n ≤ length row
  pub one : has line_feed (take (n - 1) row') ≡ false
  pub kept : drop n row' ≡ drop n row

-- What was read of so many bytes: no more was there than was asked for, and as much of it is kept as the row holds.
pub record ReadOf (room bytes : ℕ) (got : Got) : Type 0 where
  pub most : got.all ≤ bytes
  pub kept : got.kept ≡ min got.all room
