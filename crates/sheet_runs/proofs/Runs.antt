-- What a sheet's run by value is good for: its rows have the entries that it names, its refusal is the first, and else it is the sheet's run.
use Prim.Native.Nat.{ℕ, ◌-◌, ◌≤◌}
use mathlib.Core.Path.{◌≡◌, refl, sym, ap, ◌∙◌}
use mathlib.Core.Bool.{Bool, true, false}
use mathlib.Core.List.{List, [], ◌∷◌}
use native.Mathlib.Omega.{arith}
use lib.ListN.{length, take}
use lib.Seq.{take-append_seam}
use Rattle.refusals.specs.declared.Verdict.{Verdict}
use Rattle.refusals.specs.Refusals.{is_refusal, first_of}
use Rattle.refusals.proofs.Verdicts.{refuses, test_says, first_refuses, first_passes, all_accept}
use Rattle.runs.specs.Run.{Run, run_of}
use Rattle.runs.specs.Alone.{zeros}
use Rattle.text_bytes.specs.Text.{is_name}
use Rattle.sheet_reader.specs.Sheet.{sheet_files, sheet_wants, sheet_run, sheet_name}
use Rattle.sheet_reader.specs.Reading.{sheet_verdict, rule_verdict, read_name}
use Rattle.sheet_reader.proofs.Rows.{length_each}
use Rattle.sheet_reader.proofs.Good.{good_name, few_files, few_wants}
use Rattle.sheet_reader.proofs.Answers.{in_turn}
use Rattle.sheet_runs.specs.declared.SheetRun.{SheetRun}
use Rattle.sheet_runs.specs.SheetRuns.{early_verdict, filled_up, in_rows, run_by_value, run_held}

-- Two results that fit the contract are equal.
pub run_determined : (sheet : List ℕ) (r s : SheetRun) → r ≡ run_by_value sheet → s ≡ run_by_value sheet → r ≡ s
run_determined sheet r s p q = p ∙ sym q

-- The run of the entries that are taken from the rows.
pub held_by : (r : SheetRun) {starts lengths aggregates numbers counts : List ℕ} → starts ≡ take r.files r.starts → lengths ≡ take r.files r.lengths → aggregates ≡ take r.files r.aggregates
    → numbers ≡ take r.wants r.numbers → counts ≡ take r.wants r.counts → run_of starts lengths aggregates numbers counts r.head r.turn ≡ run_held r
held_by r s l a n c = rw (s, l, a, n, c)

-- What an accepted sheet's run by value holds: the sheet's run, under its name, and what is left to check decides.
pub record SheetHolds (sheet : List ℕ) (r : SheetRun) : Type 0 where
  pub good : refuses (sheet_verdict sheet) ≡ false
  pub run : run_held r ≡ sheet_run sheet
  pub name : read_name sheet ≡ sheet_name sheet
  pub named : is_name (read_name sheet) ≡ true
  pub decides : (checks : List Verdict) → first_of checks ≡ first_of (sheet_verdict sheet ∷ rule_verdict sheet ∷ checks)

-- The run in rows is the run.
rows_hold : (v : Verdict) (run : Run) → length run.lengths ≡ length run.starts → length run.aggregates ≡ length run.starts → length run.counts ≡ length run.numbers → run_held (in_rows v run) ≡ run
rows_hold v run l a c =
    rw (front run.starts 256 refl, front run.lengths 256 (sym l), front run.aggregates 256 (sym a), front run.numbers 64 refl, front run.counts 64 (sym c))
  where
    front : {n : ℕ} (values : List ℕ) (room : ℕ) → n ≡ length values → take n (filled_up room values) ≡ values
    front values room e = rw e (take-append_seam values (zeros (room - length values)))

module _ (sheet : List ℕ) where
  early_passes : refuses (early_verdict sheet) ≡ false → refuses (sheet_verdict sheet) ≡ false
  unfolding early_verdict
  early_passes e = (all_accept (sheet_verdict sheet ∷ rule_verdict sheet ∷ []) e).0

  files_long : length (sheet_run sheet).starts ≡ sheet_files sheet
  unfolding sheet_run
  files_long = length_each _ (sheet_files sheet)

  wants_long_here : length (sheet_run sheet).numbers ≡ sheet_wants sheet
  unfolding sheet_run
  wants_long_here = length_each _ (sheet_wants sheet)

module _ (sheet : List ℕ) (r : SheetRun) (is : r ≡ run_by_value sheet) where
  verdict_is_here : r.verdict ≡ early_verdict sheet
  unfolding run_by_value
  verdict_is_here = ap (λ x. x.verdict) is

  -- There are at most 256 files and 64 wants, whatever the verdict.
  pub files_few : r.files ≤ 256
  unfolding run_by_value
  files_few = rw is (go (refuses (early_verdict sheet)) refl)
    where
      go : (b : Bool) → refuses (early_verdict sheet) ≡ b → (run_by_value sheet).files ≤ 256
      go true e = rw e (omega arith)
      go false e = rw (e, files_long sheet) (few_files sheet (early_passes sheet e))

  pub wants_few : r.wants ≤ 64
  unfolding run_by_value
  wants_few = rw is (go (refuses (early_verdict sheet)) refl)
    where
      go : (b : Bool) → refuses (early_verdict sheet) ≡ b → (run_by_value sheet).wants ≤ 64
      go true e = rw e (omega arith)
      go false e = rw (e, wants_long_here sheet) (few_wants sheet (early_passes sheet e))

  module _ (f : Bool) (f-is : f ≡ is_refusal r.verdict.refusal) where
    says : (b : Bool) → f ≡ b → refuses (early_verdict sheet) ≡ b
    says b e = test_says verdict_is_here f-is e

    -- A refusal is the first, whatever is left to check.
    pub refused_first : f ≡ true → (checks : List Verdict) → r.verdict ≡ first_of (sheet_verdict sheet ∷ rule_verdict sheet ∷ checks)
    unfolding early_verdict
    refused_first e checks = verdict_is_here ∙ first_refuses (early_verdict sheet) checks (says true e) ∙ in_turn (sheet_verdict sheet) (rule_verdict sheet) checks

    pub sheet_holds : f ≡ false → SheetHolds sheet r
    unfolding early_verdict run_by_value read_name sheet_run
    sheet_holds e =
        let early = says false e in
        let good = early_passes sheet early in
        record {
          good = good;
          run = rw is (rw early (rows_hold (early_verdict sheet) (sheet_run sheet) (length_each _ (sheet_files sheet) ∙ sym (length_each _ (sheet_files sheet))) (length_each _ (sheet_files sheet) ∙ sym (length_each _ (sheet_files sheet))) (length_each _ (sheet_wants sheet) ∙ sym (length_each _ (sheet_wants sheet)))));
          name = rw good;
          named = rw good (good_name sheet good);
          decides = λ checks. sym (first_passes (early_verdict sheet) checks early) ∙ in_turn (sheet_verdict sheet) (rule_verdict sheet) checks;
        }
