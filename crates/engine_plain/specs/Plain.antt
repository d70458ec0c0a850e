-- What the plain engine answers, for every input: the first refusal that applies and nothing changed, or the least list with its walk's numbers,
-- and every row afterwards. There is no working room and no rule number.
use Rattle.std.specs.Prelude.{ℕ, ◌-◌, ◌≡◌, Bool, true, false, not, ◌||◌, List, [], ◌∷◌, ◌++◌, map, length, drop, ltb, eqb}
use denote.Triple.Both.{Both}
use Rattle.refusals.specs.declared.Refusal.TheVariants.{WantRows, OverEightWants, ShortRow}
use Rattle.refusals.specs.declared.Verdict.{Verdict}
use Rattle.refusals.specs.Refusals.{is_refusal, refuse_if, first_of}
use Rattle.runs.specs.Run.{Run, most_wants, stops_of}
use Rattle.runs.specs.Rows.{MutRow}
use Rattle.runs.specs.Judging.{table_checks, judge_of}
use Rattle.runs.specs.Lists.{Detour}
use Rattle.walk.specs.declared.Answer.{Answer}
use Rattle.walk.specs.Price.{refusal_answer, priced_answer, priced_times, priced_legs, short_read_rows}
use Rattle.walk.specs.Rows.{ReadRows, read_rows}
use Rattle.least.specs.Least.{LeastForRun}

-- The lent rows: for starts, ends, times and legs.
pub record PlainRows : Type 0 where
  pub froms : List ℕ
  pub tos : List ℕ
  pub times : List ℕ
  pub legs : List ℕ

abbrev pub plain_rows : List ℕ → List ℕ → List ℕ → List ℕ → PlainRows
plain_rows froms tos times legs = record { froms = froms; tos = tos; times = times; legs = legs }

-- The rows that four parameters of a function hold, when it is called and when it returns.
abbrev pub plain_rows_before : Both MutRow MutRow → Both MutRow MutRow → Both MutRow MutRow → Both MutRow MutRow → PlainRows
plain_rows_before froms tos times legs = plain_rows froms.entry.now tos.entry.now times.entry.now legs.entry.now

abbrev pub plain_rows_after : Both MutRow MutRow → Both MutRow MutRow → Both MutRow MutRow → Both MutRow MutRow → PlainRows
plain_rows_after froms tos times legs = plain_rows froms.exit.now tos.exit.now times.exit.now legs.exit.now

-- The two of them that the pricer is lent.
abbrev pub plain_reads : PlainRows → ReadRows
plain_reads rows = read_rows rows.times rows.legs

-- The most wants that the engine takes.
abbrev pub most_plain_wants : ℕ
most_plain_wants = 8

-- 3: the rows of wants, by their lengths.
abbrev pub uneven_wants : Run → Bool
uneven_wants r = ltb most_wants (length r.numbers) || not (eqb (length r.numbers) (length r.counts))

-- 8: a row for times or legs shorter than the wants, or one for starts or ends shorter than the stops less one (0 where there is none).
abbrev pub short_plain_rows : ℕ → ℕ → PlainRows → Bool
short_plain_rows wants stops rows = short_read_rows wants (plain_reads rows) || ltb (length rows.froms) (stops - 1) || ltb (length rows.tos) (stops - 1)

-- The refusals: 1, 2 and 3; 24, which counts the wants handed in; then what is left of the judging of a run, 4 to 7; then 8.
unfoldable pub plain_verdict : Run → PlainRows → Verdict
plain_verdict r rows =
    first_of
    (first_of (table_checks r.starts r.lengths r.aggregates)
    ∷ refuse_if (uneven_wants r) WantRows
    ∷ refuse_if (ltb most_plain_wants (length r.numbers)) OverEightWants
    ∷ judge_of r
    ∷ refuse_if (short_plain_rows (length r.numbers) (length (stops_of r)) rows) ShortRow
    ∷ [])

-- The rows afterwards: the list, the times and the legs in the first entries; later entries as they were.
abbrev pub plain_rows_with : Run → List Detour → PlainRows → PlainRows
plain_rows_with r list rows =
    record {
      froms = map (λ d. d.from) list ++ drop (length list) rows.froms;
      tos = map (λ d. d.to) list ++ drop (length list) rows.tos;
      times = priced_times r list ++ drop (length r.numbers) rows.times;
      legs = priced_legs r list ++ drop (length r.numbers) rows.legs;
    }

-- A refusal changes nothing at all.
pub record PlainRefused (v : Verdict) (before : PlainRows) (answer : Answer) (after : PlainRows) : Type 0 where
  pub says : answer ≡ refusal_answer v
  pub kept : after ≡ before

pub record PlainPlanned (r : Run) (before : PlainRows) (answer : Answer) (after : PlainRows) : Type 0 where
  pub list : List Detour
  pub least : LeastForRun r list
  pub says : answer ≡ priced_answer r list
  pub rows : after ≡ plain_rows_with r list before

pub record PlainPlans (r : Run) (before : PlainRows) (answer : Answer) (after : PlainRows) : Type 0 where
  pub refused : is_refusal (plain_verdict r before).refusal ≡ true → PlainRefused (plain_verdict r before) before answer after
  pub planned : is_refusal (plain_verdict r before).refusal ≡ false → PlainPlanned r before answer after
