-- What the planner leaves in the program's rows: nothing where it refuses, else the least list; and a text that is handed out.
use Prim.Native.Nat.{ℕ, ◌-◌}
use mathlib.Core.Path.{◌≡◌, refl, sym, ap, ◌∙◌, subst}
use mathlib.Core.Bool.{Bool, true, false, true≢false}
use mathlib.Core.List.{List, [], ◌++◌, map}
use native.Mathlib.Omega.{arith}
use lib.ListN.{length, drop}
use lib.Dec.{ltb}
use borrow.Author.Tests.{le-ltb}
use Rattle.refusals.specs.declared.Verdict.{Verdict}
use Rattle.refusals.specs.Refusals.{is_refusal, first_of}
use Rattle.refusals.proofs.Verdicts.{refuses, first_refuses, first_passes, all_accept}
use Rattle.runs.specs.Run.{Run, stops_of}
use Rattle.runs.specs.Alone.{zeros}
use Rattle.runs.specs.Judging.{judge_of}
use Rattle.runs.specs.Lists.{Detour}
use Rattle.runs.proofs.Judged.{accepted_run}
use Rattle.runs.proofs.Stops.{stops_few}
use Rattle.walk.specs.declared.Answer.{Answer}
use Rattle.walk.specs.Price.{refusal_answer, priced_answer}
use Rattle.planner.specs.Plan.{Plans, Planned, plan_verdict}
use Rattle.planner.specs.Rows.{Rows}
use Rattle.engine_stops.proofs.Halves.{half_long}
use Rattle.sheet_runs.specs.declared.SheetRun.{SheetRun}
use Rattle.sheet_runs.specs.SheetRuns.{filled_up, run_held}
use Rattle.sheet_runs.proofs.Filling.{filled_rest}
use Rattle.sheet_writer.specs.declared.Written.{Written}
use Rattle.sheet_writer.specs.Writing.{Handed, row_verdict, written_answer, written_row}
use Rattle.answer_plan.specs.declared.PlannedList.{PlannedList}
use Rattle.answer_plan.specs.Recall.{room_words, run_checks, bytes_put, row_put}
use Rattle.answer_plan.specs.PlannedLists.{in_list, ListUnder, ListsRun}
use Rattle.answer_plan.specs.Private.{RowsPlanned}

-- A text that is handed out is in the row, where it has the room.
module _ (text row : List ℕ) (w : Written) (row' : List ℕ) (h : Handed (row_verdict text row) text row w row') where
  pub handed_bytes : w.bytes ≡ bytes_put text row
  unfolding bytes_put row_verdict written_answer
  handed_bytes = ap (λ x. x.bytes) h.answer ∙ go (ltb (length row) (length text)) refl
    where
      go : (b : Bool) → ltb (length row) (length text) ≡ b → (written_answer (row_verdict text row) text).bytes ≡ bytes_put text row
      go true e = rw e
      go false e = rw e

  pub handed_row : row' ≡ row_put text row
  unfolding row_put row_verdict written_row
  handed_row = h.left ∙ go (ltb (length row) (length text)) refl
    where
      go : (b : Bool) → ltb (length row) (length text) ≡ b → written_row (row_verdict text row) text row ≡ row_put text row
      go true e = rw e
      go false e = rw e

-- The program's rows.
pub record Lent (rows : Rows) : Type 0 where
  pub froms : length rows.froms ≡ 63
  pub tos : length rows.tos ≡ 63
  pub times : length rows.times ≡ 64
  pub legs : length rows.legs ≡ 64
  pub room : length rows.room ≡ room_words

module _ (run : Run) (rows : Rows) (lent : Lent rows) where
  -- No row is too short.
  run_verdict : plan_verdict run rows ≡ first_of (run_checks run)
  unfolding plan_verdict
  run_verdict = go (is_refusal (judge_of run).refusal) refl
    where
      go : (b : Bool) → is_refusal (judge_of run).refusal ≡ b → plan_verdict run rows ≡ first_of (run_checks run)
      go true e = rw e
      go false e =
          let few = (accepted_run run e).wants.few in
          let stops = stops_few run (accepted_run run e) in
          rw (e, le-ltb (length rows.times) (length run.numbers) (omega (arith, few, lent.times)), le-ltb (length rows.legs) (length run.numbers) (omega (arith, few, lent.legs)), le-ltb (length rows.froms) (length (stops_of run) - 1) (omega (arith, few, stops, lent.froms)), le-ltb (length rows.tos) (length (stops_of run) - 1) (omega (arith, few, stops, lent.tos)), lent.room)

  module _ (a : Answer) (after : Rows) (plans : Plans run rows a after) (f : Bool) (f-is : f ≡ is_refusal a.refusal) where
    -- The planner's answer refuses just where its verdict does.
    says_verdict : (b : Bool) → is_refusal (plan_verdict run rows).refusal ≡ b → f ≡ b
    unfolding priced_answer
    says_verdict true e = f-is ∙ ap (λ x. is_refusal x.refusal) (plans.refused e).says ∙ e
    says_verdict false e = f-is ∙ ap (λ x. is_refusal x.refusal) (plans.planned e).says

    verdict_says : is_refusal (plan_verdict run rows).refusal ≡ f
    verdict_says = sym (says_verdict (is_refusal (plan_verdict run rows).refusal) refl)

    pub run_refusal : f ≡ true → (w : Verdict) → w ≡ record { refusal = a.refusal; place = a.place } → (w ≡ first_of (run_checks run)) × (refuses w ≡ true)
    run_refusal e w w-is =
        let says = (plans.refused (verdict_says ∙ e)).says in
        (w-is ∙ ap (λ x. record { refusal = x.refusal; place = x.place }) says ∙ run_verdict, ap refuses w-is ∙ sym f-is ∙ e)

    module _ (passed : f ≡ false) where
      pub planned : Planned run rows a after
      planned = plans.planned (verdict_says ∙ passed)

      pub accepts : refuses (first_of (run_checks run)) ≡ false
      accepts = ap refuses (sym run_verdict) ∙ verdict_says ∙ passed

-- A list in a row that was zeros.
pub listed_in : (f : Detour → ℕ) (list : List Detour) (row row' : List ℕ) → row ≡ zeros 63 → row' ≡ map f list ++ drop (length list) row → row' ≡ filled_up 63 (map f list)
listed_in f list row row' z is =
    is ∙ ap (λ x. map f list ++ drop (length list) x) z ∙ ap (λ n. map f list ++ drop n (zeros 63)) (sym (half_long f list)) ∙ filled_rest (map f list) 63

-- A list by value, field by field.
abbrev pub by_value : Answer → List ℕ → List ℕ → PlannedList
by_value a froms tos = record { verdict = record { refusal = a.refusal; place = a.place }; detours = a.detours; froms = froms; tos = tos }

pub same_value : {a b : Answer} {froms froms' tos tos' : List ℕ} → a ≡ b → froms ≡ froms' → tos ≡ tos' → by_value a froms tos ≡ by_value b froms' tos'
same_value e f g = rw (e, f, g)

-- The planner's answer and its list by value, where it was lent rows of zeros for that.
pub rows_planned : (run : Run) (rows : Rows) → Lent rows → rows.froms ≡ zeros 63 → rows.tos ≡ zeros 63 → (a : Answer) (after : Rows) → Plans run rows a after → RowsPlanned run (by_value a after.froms after.tos)
unfolding priced_answer
rows_planned run rows lent zf zt a after plans =
    let v-is = run_verdict run rows lent in
    record {
      refused = λ e.
          let p = plans.refused (ap refuses v-is ∙ e) in
          same_value (p.says ∙ ap refusal_answer v-is) (ap (λ x. x.froms) p.kept ∙ zf) (ap (λ x. x.tos) p.kept ∙ zt);
      planned = λ e.
          let p = plans.planned (ap refuses v-is ∙ e) in
          record {
            list = p.list;
            least = p.least;
            says =
                same_value p.says (listed_in (λ d. d.from) p.list rows.froms after.froms zf (ap (λ x. x.froms) p.rows))
                (listed_in (λ d. d.to) p.list rows.tos after.tos zt (ap (λ x. x.tos) p.rows));
          };
    }

-- The list of a sheet's run by value: none on its own refusal, else that of the run that it holds.
module _ {Least : Run → List Detour → Type 0} (checks : Run → List Verdict) (r : SheetRun) (f : Bool) (f-is : f ≡ is_refusal r.verdict.refusal) where
  pub unlisted : f ≡ true → (l : PlannedList) → l ≡ in_list r.verdict [] → ListsRun Least checks r l
  unlisted e l is =
      let refuses-so : refuses r.verdict ≡ true = sym f-is ∙ e in
      let v-is = first_refuses r.verdict (checks (run_held r)) refuses-so in
      record { refused = λ q. is ∙ ap (λ v. in_list v []) v-is; planned = λ q. absurd (true≢false (sym refuses-so ∙ ap refuses v-is ∙ q)) }

  pub run_listed : f ≡ false → (run : Run) → run ≡ run_held r → (l : PlannedList) → ListUnder Least (first_of (checks run)) run l → ListsRun Least checks r l
  run_listed e run is l listed =
      subst (λ v. ListUnder Least v (run_held r) l) (sym (first_passes r.verdict (checks (run_held r)) (sym f-is ∙ e))) (subst (λ x. ListUnder Least (first_of (checks x)) x l) is listed)

-- What passes the planner's checks has passed the judging.
pub run_judged : (run : Run) → refuses (first_of (run_checks run)) ≡ false → refuses (judge_of run) ≡ false
run_judged run e = (all_accept (run_checks run) e).0
