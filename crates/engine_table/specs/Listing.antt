-- What the table engine answers, for every input: the first refusal that applies and nothing changed, or the least list, and every row afterwards.
-- Its table is one of stops, so that it has at most 64 files; the head may stand anywhere.
use Rattle.std.specs.Prelude.{ℕ, Result, Ok, Err, ◌+◌, ◌-◌, ◌*◌, ◌≡◌, Bool, true, false, ◌||◌, List, [], ◌∷◌, ◌++◌, map, length, drop, replicate, ltb}
use denote.Triple.Both.{Both}
use Rattle.refusals.specs.declared.Refusal.TheVariants.{FileRows, ShortRow, ShortRoom}
use Rattle.refusals.specs.declared.Verdict.{Verdict}
use Rattle.refusals.specs.Refusals.{is_refusal, refuse_if, first_of}
use Rattle.runs.specs.Run.{Run, total, most_wants}
use Rattle.runs.specs.Rows.{MutRow}
use Rattle.runs.specs.AnyHead.{judge_any_of}
use Rattle.runs.specs.Lists.{Detour}
use Rattle.least.specs.AnyHead.{LeastAny}

-- The lent rows: for starts and ends, and the working room.
pub record ListRows : Type 0 where
  pub froms : List ℕ
  pub tos : List ℕ
  pub room : List ℕ

abbrev pub list_rows : List ℕ → List ℕ → List ℕ → ListRows
list_rows froms tos room = record { froms = froms; tos = tos; room = room }

-- The rows that three parameters of a function hold, when it is called and when it returns.
abbrev pub list_rows_before : Both MutRow MutRow → Both MutRow MutRow → Both MutRow MutRow → ListRows
list_rows_before froms tos room = list_rows froms.entry.now tos.entry.now room.entry.now

abbrev pub list_rows_after : Both MutRow MutRow → Both MutRow MutRow → Both MutRow MutRow → ListRows
list_rows_after froms tos room = list_rows froms.exit.now tos.exit.now room.exit.now

-- The words of working room that a run asks for, k·k·(R + 1).
abbrev pub room_size : Run → ℕ
room_size r = length r.numbers * length r.numbers * (total r.counts + 1)

-- 8: a row for starts or ends shorter than k - 1 (0 when k is 0).
abbrev pub short_list_rows : ℕ → ListRows → Bool
short_list_rows k rows = ltb (length rows.froms) (k - 1) || ltb (length rows.tos) (k - 1)

-- The engine's refusals: 1 for over 64 files, 1 to 7 of a head anywhere, then 8, then 9.
unfoldable pub listing_verdict : Run → ListRows → Verdict
listing_verdict r rows =
    first_of
    (refuse_if (ltb most_wants (length r.starts)) FileRows
    ∷ judge_any_of r
    ∷ refuse_if (short_list_rows (length r.numbers) rows) ShortRow
    ∷ refuse_if (ltb (length rows.room) (room_size r)) ShortRoom
    ∷ [])

-- The rows afterwards: the list in the first entries, zero in the words of the working room; later entries as they were.
abbrev pub list_rows_with : Run → List Detour → ListRows → ListRows
list_rows_with r list rows =
    record {
      froms = map (λ d. d.from) list ++ drop (length list) rows.froms;
      tos = map (λ d. d.to) list ++ drop (length list) rows.tos;
      room = replicate (room_size r) 0 ++ drop (room_size r) rows.room;
    }

-- A refusal changes nothing at all.
pub record NotListed (v : Verdict) (before : ListRows) (answer : Result ℕ Verdict) (after : ListRows) : Type 0 where
  pub says : answer ≡ Err v
  pub kept : after ≡ before

pub record IsListed (r : Run) (before : ListRows) (answer : Result ℕ Verdict) (after : ListRows) : Type 0 where
  pub list : List Detour
  pub least : LeastAny r list
  pub says : answer ≡ Ok (length list)
  pub rows : after ≡ list_rows_with r list before

pub record Lists (r : Run) (before : ListRows) (answer : Result ℕ Verdict) (after : ListRows) : Type 0 where
  pub refused : is_refusal (listing_verdict r before).refusal ≡ true → NotListed (listing_verdict r before) before answer after
  pub listed : is_refusal (listing_verdict r before).refusal ≡ false → IsListed r before answer after
