-- The checks in their order, each the first that can refuse; then the list of an accepted run.
use Prim.Native.Nat.{◌≤◌}
use native.Mathlib.Nat.{le_of_eq, le_trans}
use mathlib.Core.Path.{◌≡◌, sym, ap, ◌∙◌}
use Rattle.std.proofs.lemmas.Result.{err_from_is_err_and}
use mathlib.Core.List.{[]}
use Rattle.std.specs.Prelude.{ℕ, Ok}
use Rattle.refusals.specs.Refusals.{checked}
use Rattle.runs.specs.Run.{Run, total, most_reads}
use Rattle.runs.specs.Alone.{alone_of}
use Rattle.runs.specs.Rows.{counted_reads}
use Rattle.least.specs.Recurrence.{least_list}
use Rattle.runs.proofs.AnyHead.{accepted_any}
use Rattle.runs.proofs.Judged.{GoodRun}
use Rattle.runs.specs.AnyHead.{pulled, lifted}
use Rattle.runs.proofs.Alone.{alone_stops}
use Rattle.engine_table.specs.Listing.{list_rows}
use Rattle.engine_table.specs.Private.{judge_table_of}
use Rattle.runs.proofs.Accepted.{counted_exact}
use Rattle.engine_table.proofs.Outcome.{reads_small, list_same_written, still_fits, listed_so}
use Rattle.engine_table.proofs.Refusals.{TablePasses, run_refused, run_accepted, rows_refused_lem, rows_long, room_big, run_listed}
use Rattle.engine_table.proofs.listing.list.Goals as goal

-- A run whose table passes is good, and a table for its reads has a size.
module _ (r : Run) (u : Unit) (passes : Ok u ≡ checked (judge_table_of r)) where
  table : TablePasses r
  table = run_accepted r (list_rows [] [] []) u passes

  good : GoodRun (lifted r)
  good = (accepted_any r table.accepts).run

  module _ (n : ℕ) (n-is : n ≡ counted_reads r.counts) where
    reads-are : n ≡ total r.counts
    reads-are = n-is ∙ counted_exact r.counts (reads_small r table.accepts)

    reads-few : n ≤ most_reads
    reads-few = le_trans (le_of_eq reads-are) (reads_small r table.accepts)

pub returns-in_err-judge_any : goal.returns-in_err-judge_any
returns-in_err-judge_any c =
    let p = err_from_is_err_and c.from_residual.result c.from_residual.ensures.1 in
    rw (p.1, p.2) (run_refused _ _ _ c.in_err-judge_any.ensures)

pub judge_rows-requires : goal.judge_rows-requires
judge_rows-requires c =
    let passes = c.in_ok-judge_any.ensures in
    record { wants_bound = (good _ _ passes).wants.few; reads_le_most_reads = reads-few _ _ passes _ c.count_reads-reads.ensures }

pub returns-in_err-judge_rows : goal.returns-in_err-judge_rows
returns-in_err-judge_rows c =
    let p = err_from_is_err_and c.from_residual-in_err-judge_rows.result c.from_residual-in_err-judge_rows.ensures.1 in
    let passes = c.in_ok-judge_any.ensures in
    rw (p.1, p.2) (rows_refused_lem _ _ _ passes _ (reads-are _ _ passes _ c.count_reads-reads.ensures) _ c.in_err-judge_rows.ensures)

pub least_list-n-requires : goal.least_list-n-requires
least_list-n-requires c =
    let a = c.args in
    let passes = c.in_ok-judge_any.ensures in
    let whole = reads-are _ _ passes _ c.count_reads-reads.ensures in
    let rows = c.in_ok-judge_rows.ensures in
    let lent = list_rows a.froms.now a.tos.now a.room.now in
    let long = rows_long _ lent _ passes _ whole _ rows in
    record {
      any_run = record { few = (table _ _ passes).few; accepts = (table _ _ passes).accepts; whole = whole };
      numbers_in_bounds = long.for_starts;
      numbers_in_bounds_2 = long.for_ends;
      reads_in_bounds = room_big _ lent _ passes _ whole _ rows;
    }

pub table_words-requires : goal.table_words-requires
table_words-requires c =
    let passes = c.in_ok-judge_any.ensures in
    record { wants_bound = (good _ _ passes).wants.few; reads_le_most_reads = reads-few _ _ passes _ c.count_reads-reads.ensures }

pub clear-requires : goal.clear-requires
clear-requires c =
    let a = c.args in
    let passes = c.in_ok-judge_any.ensures in
    let rows = c.in_ok-judge_rows.ensures in
    let big = room_big _ (list_rows a.froms.now a.tos.now a.room.now) _ passes _ (reads-are _ _ passes _ c.count_reads-reads.ensures) _ rows in
    still_fits _ _ _ _ c.table_words.ensures c.least_list-n.ensures.beyond big

pub returns : goal.returns
returns c =
    let a = c.args in
    let r = alone_of a.starts.now a.lengths.now a.numbers.now a.counts.now a.head a.turn in
    let lent = list_rows a.froms.now a.tos.now a.room.now in
    let passes = c.in_ok-judge_any.ensures in
    let whole = reads-are r _ passes _ c.count_reads-reads.ensures in
    let rows = c.in_ok-judge_rows.ensures in
    let stops = alone_stops a.starts.now a.lengths.now a.numbers.now a.counts.now a.head a.turn _ (good r _ passes).wants in
    let written = list_same_written _ _ _ _ _ _ _ (ap (λ ss. least_list a.turn (pulled a.head ss)) (sym stops)) c.least_list-n.ensures.list_written in
    let zeroed = rw c.table_words.ensures at c.clear.ensures in
    run_listed r lent _ passes _ whole _ rows _ _
    (listed_so r _ a.froms.now a.tos.now a.room.now (table r _ passes).accepts whole _ _ _ _ _ (room_big r lent _ passes _ whole _ rows) written c.least_list-n.ensures.beyond zeroed)
