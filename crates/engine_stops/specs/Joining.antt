-- What joining answers, for every input: the first refusal that applies and nothing changed, or the number of stops, and each row afterwards.
use Rattle.std.specs.Prelude.{ℕ, ◌-◌, Result, Ok, Err, Bool, cond, ◌||◌, List, [], ◌∷◌, ◌++◌, map, length, drop, ltb}
use denote.Triple.Both.{Both}
use Rattle.refusals.specs.declared.Refusal.TheVariants.{ShortRow}
use Rattle.refusals.specs.declared.Verdict.{Verdict}
use Rattle.refusals.specs.Refusals.{is_refusal, refuse_if, first_of}
use Rattle.runs.specs.Run.{Run, Stop, stops_of}
use Rattle.runs.specs.Rows.{MutRow}
use Rattle.runs.specs.Judging.{judge_of}

-- The lent rows: for first files, starts, lengths and reads.
pub record JoinRows : Type 0 where
  pub firsts : List ℕ
  pub lefts : List ℕ
  pub spans : List ℕ
  pub reads : List ℕ

abbrev pub join_rows : List ℕ → List ℕ → List ℕ → List ℕ → JoinRows
join_rows firsts lefts spans reads = record { firsts = firsts; lefts = lefts; spans = spans; reads = reads }

-- The rows that four parameters of a function hold, when it is called and when it returns.
abbrev pub join_rows_before : Both MutRow MutRow → Both MutRow MutRow → Both MutRow MutRow → Both MutRow MutRow → JoinRows
join_rows_before firsts lefts spans reads = join_rows firsts.entry.now lefts.entry.now spans.entry.now reads.entry.now

abbrev pub join_rows_after : Both MutRow MutRow → Both MutRow MutRow → Both MutRow MutRow → Both MutRow MutRow → JoinRows
join_rows_after firsts lefts spans reads = join_rows firsts.exit.now lefts.exit.now spans.exit.now reads.exit.now

abbrev pub length_of : Stop → ℕ
length_of s = s.end - s.start

-- 8: a row shorter than the stops.
abbrev pub short_join_rows : ℕ → JoinRows → Bool
short_join_rows k rows =
    ltb (length rows.firsts) k || ltb (length rows.lefts) k || ltb (length rows.spans) k || ltb (length rows.reads) k

-- The refusals: 1 to 7, then 8.
unfoldable pub join_verdict : Run → JoinRows → Verdict
join_verdict r rows = first_of (judge_of r ∷ refuse_if (short_join_rows (length (stops_of r)) rows) ShortRow ∷ [])

-- The verdict that refuses, or the number of stops.
unfoldable pub join_answer : Run → JoinRows → Result ℕ Verdict
join_answer r rows =
    let v : Verdict = join_verdict r rows in
    cond (is_refusal v.refusal) (Err v) (Ok (length (stops_of r)))

-- A row with one entry for each stop, then the later entries as they were.
abbrev pub row_with : (Stop → ℕ) → List Stop → List ℕ → List ℕ
row_with g stops row = map g stops ++ drop (length stops) row

abbrev pub join_rows_with : List Stop → JoinRows → JoinRows
join_rows_with stops rows =
    record {
      firsts = row_with (λ s. s.file) stops rows.firsts;
      lefts = row_with (λ s. s.start) stops rows.lefts;
      spans = row_with length_of stops rows.spans;
      reads = row_with (λ s. s.count) stops rows.reads;
    }

-- The rows afterwards. A refusal changes nothing.
unfoldable pub join_rows_of : Run → JoinRows → JoinRows
join_rows_of r rows = cond (is_refusal (join_verdict r rows).refusal) rows (join_rows_with (stops_of r) rows)
