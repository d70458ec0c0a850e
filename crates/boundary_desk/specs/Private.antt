-- For the functions that say who has left and write what a boarding leaves. No public contract cites this file.
use Rattle.std.specs.Prelude.{ℕ, suc, ◌+◌, ◌≤◌, ◌≡◌, false, cond, List, ◌++◌, map, length, take, drop}
use Rattle.refusals.specs.Refusals.{is_refusal}
use Rattle.desk_tickets.specs.declared.Ticket.{Ticket}
use Rattle.desk_boardings.specs.declared.Boarded.{Boarded}
use Rattle.desk_boardings.specs.declared.BoardedRow.{BoardedRow}
use Rattle.desk_boardings.specs.Boarders.{boarders}
use Rattle.answer_desk.specs.Answers.{place_in, verdict_in}
use Rattle.boundary.specs.Boundary.{code_of, sums_with}
use Rattle.boundary_desk.specs.Records.{records_with}
use Rattle.boundary_desk.specs.Calls.{taken_with}

-- The places of some tickets' files among numbers, counted from 1.
abbrev pub places_of : List ℕ → List Ticket → List ℕ
places_of numbers ts = map (λ (t : Ticket). suc (place_in t.file numbers)) ts

-- Who leaves, at most eight in all: from each office's first places on.
pub record Leaves (row : List Ticket) (b : Boarded) : Type 0 where
  pub few : b.taken.one + b.taken.two ≤ 8
  pub who : boarders row ≡ take b.taken.one (drop 0 row) ++ take b.taken.two (drop 16 row)

-- What a boarding asks of the rows before it is written: where it is accepted they are long enough.
pub record CanSettle (rows : List (List ℕ)) (taken sums : List ℕ) (row : List Ticket) (done : BoardedRow) : Type 0 where
  pub near : done.boarded.answer.place ≤ 4096
  pub records : is_refusal done.boarded.answer.refusal ≡ false → 32 ≤ length rows
  pub words : is_refusal done.boarded.answer.refusal ≡ false → 10 ≤ length taken
  pub four : is_refusal done.boarded.answer.refusal ≡ false → 4 ≤ length sums
  pub leaves : is_refusal done.boarded.answer.refusal ≡ false → Leaves row done.boarded

-- The code, and the rows: refused as they were.
pub record Settled (row : List Ticket) (done : BoardedRow) (rows : List (List ℕ)) (taken sums : List ℕ) (code : ℕ) (rows' : List (List ℕ)) (taken' sums' : List ℕ) : Type 0 where
  pub says : code ≡ code_of (verdict_in done.boarded.answer)
  pub rows_are : rows' ≡ cond (is_refusal done.boarded.answer.refusal) rows (records_with done.row rows)
  pub taken_is : taken' ≡ cond (is_refusal done.boarded.answer.refusal) taken (taken_with row done.boarded taken)
  pub sums_are : sums' ≡ cond (is_refusal done.boarded.answer.refusal) sums (sums_with done.boarded.answer sums)
