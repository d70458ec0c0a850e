-- What a writer hands over under a verdict that finds the first of an order, then each writer's verdict.
use Prim.Native.Nat.{ℕ, ◌≤◌, ◌<◌}
use mathlib.Core.Path.{◌≡◌, refl, ap, ◌∙◌}
use mathlib.Core.Bool.{Bool, true, false, not, ◌||◌}
use mathlib.Core.List.{List, [], ◌∷◌, ◌++◌}
use native.Mathlib.Omega.{arith}
use lib.ListN.{length, take, drop}
use lib.Seq.{take-append_seam, drop-append_seam}
use lib.Dec.{ltb}
use Rattle.refusals.specs.declared.Refusal.{Refusal}
use Rattle.refusals.specs.declared.Refusal.TheVariants.{Accepted, BadEntry, BadName, ShortRow}
use Rattle.refusals.specs.declared.Verdict.{Verdict}
use Rattle.refusals.specs.Refusals.{number_of, refuse_if, first_of}
use Rattle.refusals.proofs.Verdicts.{refuses}
use Rattle.runs.specs.Run.{Run, stops_of}
use Rattle.runs.specs.Judging.{judge_of}
use Rattle.runs.specs.Lists.{list_verdict}
use Rattle.runs.specs.AnyHead.{judge_any_of, list_verdict_any}
use Rattle.runs.proofs.AnyHead.{accepted_any}
use Rattle.text_bytes.specs.Text.{is_name}
use Rattle.sheet_reader.specs.Sheet.{most_sheet_files}
use Rattle.sheet_writer.specs.declared.Written.{Written}
use Rattle.sheet_writer.specs.Writing.{sheet_text, row_verdict, write_verdict, written_answer, written_row, Handed}
use Rattle.sheet_writer.specs.PlanSheet.{plan_text, plan_sheet_verdict}
use Rattle.sheet_writer.specs.AnyHead.{plan_any_text, plan_any_sheet_verdict}
use Rattle.sheet_figures.specs.FigureSheet.{figure_text, figure_sheet_verdict}
use Rattle.sheet_figures.specs.AnyHead.{figure_any_text, figure_any_sheet_verdict}
use Rattle.demands.specs.Sheets.{write_order, list_sheet_order, WriteApplies, ListSheetApplies}
use Rattle.demands.specs.AnyHead.{RunAppliesAny, ListIsBadAny}
use Rattle.demands.specs.Writers.{WritesItsSheet, RowsAreLeft, RunSheetWriter, PlanSheetWriter, FigureSheetWriter, ListSheetAnyApplies, PlanAnySheetWriter, FigureAnySheetWriter}
use Rattle.demands.proofs.Tests.{tells_false, tells_below}
use Rattle.demands.proofs.Checks.{decides_if, decides_reworded, Finds, finds_none, finds_first}
use Rattle.demands.proofs.AnyJudged.{any_small, run_any_finds, decides_list_any}
use Rattle.demands.proofs.Sheets.{told, write_finds, sheet_finds}
use Rattle.demands.proofs.WriteRead.{written_passes}

module _ (applies : Refusal → ℕ → Type 0) (order : List Refusal) (vs : List Verdict) (sheet row : List ℕ) (finds : Finds applies order (first_of vs)) (answer : Written) (out : List ℕ)
    (says : Handed (first_of vs) sheet row answer out) where
  module _ (e : refuses (first_of vs) ≡ false) where
    is_written : answer ≡ record { refusal = Accepted; place = 0; bytes = length sheet }
    unfolding written_answer
    is_written = says.answer ∙ rw e

    is_left_here : out ≡ sheet ++ drop (length sheet) row
    unfolding written_row
    is_left_here = says.left ∙ rw e

  stays_behind : (b : Bool) → refuses (first_of vs) ≡ b → drop answer.bytes out ≡ drop answer.bytes row
  unfolding written_row
  stays_behind true e = ap (drop answer.bytes) (says.left ∙ rw e)
  stays_behind false e =
      ap (λ (w : Written). drop w.bytes out) (is_written e) ∙ ap (drop (length sheet)) (is_left_here e) ∙ drop-append_seam sheet (drop (length sheet) row)
      ∙ rw (is_written e)

  writes_its_sheet : WritesItsSheet applies order sheet row answer out
  writes_its_sheet =
      let t = told vs sheet row answer out says in
      record {
        answers = record { first = rw (t.kind, t.place) finds; kept = t.kept };
        holds = λ a.
            let e = written_passes (first_of vs) sheet answer says.answer a in
            ap (λ (w : Written). take w.bytes out) (is_written e) ∙ ap (take (length sheet)) (is_left_here e) ∙ take-append_seam sheet (drop (length sheet) row);
        counted = λ a. ap (λ (w : Written). w.bytes) (is_written (written_passes (first_of vs) sheet answer says.answer a));
        behind = stays_behind (refuses (first_of vs)) refl;
      }

pub rows_are_left : RowsAreLeft
unfolding written_row
rows_are_left v text row = record { written = λ e. rw e; kept = λ e. rw e }

pub run_sheet_writer : RunSheetWriter
unfolding write_verdict
run_sheet_writer name r row answer out says =
    writes_its_sheet (WriteApplies name r row) write_order
    (judge_of r ∷ refuse_if (ltb most_sheet_files (length r.starts) || not (is_name name)) BadName ∷ row_verdict (sheet_text name r) row ∷ [])
    (sheet_text name r) row (write_finds name r row) answer out says

-- The writers of a list's sheets.
module _ (name : List ℕ) (r : Run) (froms tos sheet row : List ℕ) where
  abbrev list_checks : List Verdict
  list_checks = judge_of r ∷ refuse_if (not (is_name name)) BadName ∷ list_verdict (stops_of r) froms tos ∷ row_verdict sheet row ∷ []

  list_sheet : (answer : Written) (out : List ℕ) → Handed (first_of list_checks) sheet row answer out
      → WritesItsSheet (ListSheetApplies name r froms tos sheet row) list_sheet_order sheet row answer out
  list_sheet answer out says = writes_its_sheet (ListSheetApplies name r froms tos sheet row) list_sheet_order list_checks sheet row (sheet_finds name r froms tos sheet row) answer out says

  -- For a head anywhere.
  abbrev Any : Refusal → ℕ → Type 0
  Any = ListSheetAnyApplies name r froms tos sheet row

  any_of_run : (k : Refusal) (p : ℕ) → number_of k ≤ 7 → Any k p → RunAppliesAny r k p
  any_of_run k p l (ListSheetAnyApplies.run h) = h
  any_of_run k p l (ListSheetAnyApplies.bad_name h) = absurd (omega arith)
  any_of_run k p l (ListSheetAnyApplies.bad_list h) = absurd (omega arith)
  any_of_run k p l (ListSheetAnyApplies.short_row h) = absurd (omega arith)

  any_name : (p : ℕ) → Any BadName p → (p ≡ 0) × (is_name name ≡ false)
  any_name p (ListSheetAnyApplies.run h) = absurd (omega (arith, any_small r h))
  any_name p (ListSheetAnyApplies.bad_name h) = (refl, h)

  any_list_here : (p : ℕ) → Any BadEntry p → ListIsBadAny r froms tos p
  any_list_here p (ListSheetAnyApplies.run h) = absurd (omega (arith, any_small r h))
  any_list_here p (ListSheetAnyApplies.bad_list h) = h

  any_row : (p : ℕ) → Any ShortRow p → (p ≡ 0) × (length row < length sheet)
  any_row p (ListSheetAnyApplies.run h) = absurd (omega (arith, any_small r h))
  any_row p (ListSheetAnyApplies.short_row h) = (refl, h)

  abbrev anyListChecks : List Verdict
  anyListChecks = judge_any_of r ∷ refuse_if (not (is_name name)) BadName ∷ list_verdict_any r.head (stops_of r) froms tos ∷ row_verdict sheet row ∷ []

  any_finds_here : Finds Any list_sheet_order (first_of anyListChecks)
  unfolding row_verdict
  any_finds_here =
      let named = refuse_if (not (is_name name)) BadName in
      let list = list_verdict_any r.head (stops_of r) froms tos in
      let short = refuse_if (ltb (length row) (length sheet)) ShortRow in
      run_any_finds r Any (λ k p. ListSheetAnyApplies.run) any_of_run (BadName ∷ BadEntry ∷ ShortRow ∷ []) (named ∷ list ∷ short ∷ [])
      (λ a. finds_first Any (list ∷ short ∷ []) refl
      (decides_reworded (λ p h. rw h.0 (ListSheetAnyApplies.bad_name h.1)) any_name (decides_if _ BadName (tells_false (is_name name))))
      (λ b. finds_first Any (short ∷ []) refl (decides_reworded (λ p. ListSheetAnyApplies.bad_list) any_list_here (decides_list_any r (accepted_any r a) froms tos))
      (λ c. finds_first Any [] refl
      (decides_reworded (λ p h. rw h.0 (ListSheetAnyApplies.short_row h.1)) any_row (decides_if _ ShortRow (tells_below (length row) (length sheet))))
      (λ d. finds_none Any))))

  any_sheet : (answer : Written) (out : List ℕ) → Handed (first_of anyListChecks) sheet row answer out → WritesItsSheet Any list_sheet_order sheet row answer out
  any_sheet answer out says = writes_its_sheet Any list_sheet_order anyListChecks sheet row any_finds_here answer out says

pub plan_sheet_writer : PlanSheetWriter
unfolding plan_sheet_verdict
plan_sheet_writer name r froms tos row answer out says = list_sheet name r froms tos (plan_text name r froms tos) row answer out says

pub figure_sheet_writer : FigureSheetWriter
unfolding figure_sheet_verdict
figure_sheet_writer name r froms tos row answer out says = list_sheet name r froms tos (figure_text name r froms tos) row answer out says

pub plan_any_sheet_writer : PlanAnySheetWriter
unfolding plan_any_sheet_verdict
plan_any_sheet_writer name r froms tos row answer out says = any_sheet name r froms tos (plan_any_text name r froms tos) row answer out says

pub figure_any_sheet_writer : FigureAnySheetWriter
unfolding figure_any_sheet_verdict
figure_any_sheet_writer name r froms tos row answer out says = any_sheet name r froms tos (figure_any_text name r froms tos) row answer out says
