-- Where `answer_plan` answers a plan sheet and the wants are at most eight, the plain engine's answer is the same, byte for byte.
use Prim.Native.Nat.{ℕ, ◌≤◌}
use mathlib.Core.Path.{◌≡◌, refl, sym, ap, ◌∙◌, subst}
use mathlib.Core.Bool.{false}
use mathlib.Core.List.{List, [], ◌∷◌}
use lib.ListN.{length}
use lib.Dec.{ltb}
use borrow.Author.Tests.{le-ltb}
use Rattle.refusals.specs.declared.Refusal.TheVariants.{WantRows, OverEightWants}
use Rattle.refusals.specs.declared.Verdict.{Verdict}
use Rattle.refusals.specs.Refusals.{refuse_if, first_of}
use Rattle.refusals.proofs.Verdicts.{refuses, all_accept, none_refuses}
use Rattle.runs.specs.Run.{Run, stops_of}
use Rattle.runs.specs.Judging.{right_end}
use Rattle.runs.specs.Judging.{table_checks, wants_checks, head_checks, judge_of}
use Rattle.sheet_reader.specs.Sheet.{sheet_run, sheet_name}
use Rattle.sheet_reader.specs.Reading.{sheet_verdict, rule_verdict}
use Rattle.engine_plain.specs.Plain.{uneven_wants, most_plain_wants}
use Rattle.answer_plan.specs.Recall.{Recalled, SheetRecalled, run_checks, recall_verdict, verdict_by}
use Rattle.answer_plan.proofs.Determined.{recalled_once}
use Rattle.answer_field.specs.Field.{SheetFielded, field_checks}

both_pass : (v : Verdict) (vs : List Verdict) → refuses v ≡ false → refuses (first_of vs) ≡ false → refuses (first_of (v ∷ vs)) ≡ false
both_pass v vs e h = rw e h

-- A run that the judging accepts, with few wants, passes the plain engine's checks.
run_fits : (run : Run) → refuses (judge_of run) ≡ false → length run.numbers ≤ 8 → refuses (first_of (field_checks run)) ≡ false
unfolding judge_of
run_fits run e few =
    let table = first_of (table_checks run.starts run.lengths run.aggregates) in
    let wants = first_of (wants_checks (length run.starts) run.numbers run.counts) in
    let all = all_accept (table ∷ wants ∷ first_of (head_checks run.turn run.head (right_end (stops_of run))) ∷ []) e in
    let even = (all_accept (wants_checks (length run.starts) run.numbers run.counts) all.1.0).0 in
    both_pass table (refuse_if (uneven_wants run) WantRows ∷ refuse_if (ltb most_plain_wants (length run.numbers)) OverEightWants ∷ judge_of run ∷ []) all.0
    (both_pass (refuse_if (uneven_wants run) WantRows) (refuse_if (ltb most_plain_wants (length run.numbers)) OverEightWants ∷ judge_of run ∷ []) even
    (both_pass (refuse_if (ltb most_plain_wants (length run.numbers)) OverEightWants) (judge_of run ∷ []) (ap (λ b. refuses (refuse_if b OverEightWants)) (le-ltb 8 (length run.numbers) few))
    (both_pass (judge_of run) [] e refl)))

module _ (sheet : List ℕ) (accepts : refuses (recall_verdict sheet) ≡ false) (few : length (sheet_run sheet).numbers ≤ 8) where
  checks_pass_here : refuses (first_of (sheet_verdict sheet ∷ rule_verdict sheet ∷ field_checks (sheet_run sheet))) ≡ false
  unfolding verdict_by
  checks_pass_here =
      let all = all_accept (sheet_verdict sheet ∷ rule_verdict sheet ∷ run_checks (sheet_run sheet)) accepts in
      both_pass (sheet_verdict sheet) (rule_verdict sheet ∷ field_checks (sheet_run sheet)) all.0
      (both_pass (rule_verdict sheet) (field_checks (sheet_run sheet)) all.1.0 (run_fits (sheet_run sheet) all.1.1.0 few))

  same_verdict_here : verdict_by field_checks sheet ≡ recall_verdict sheet
  unfolding verdict_by
  same_verdict_here =
      none_refuses (sheet_verdict sheet ∷ rule_verdict sheet ∷ field_checks (sheet_run sheet)) checks_pass_here
      ∙ sym (none_refuses (sheet_verdict sheet ∷ rule_verdict sheet ∷ run_checks (sheet_run sheet)) accepts)

  pub same_sheet : (row : List ℕ) (n n' : ℕ) (row' row'' : List ℕ) → SheetRecalled sheet row n row' → SheetFielded sheet row n' row'' → (n ≡ n') × (row' ≡ row'')
  same_sheet row n n' row' row'' p q =
      recalled_once (recall_verdict sheet) (sheet_name sheet) (sheet_run sheet) row n n' row' row'' p
      (subst (λ v. Recalled v (sheet_name sheet) (sheet_run sheet) row n' row'') same_verdict_here q)
