-- What the reader answers where it is lent rows of zeros with room for every sheet.
use Prim.Native.Nat.{ℕ, zero, suc, ◌-◌, ◌≤◌, min}
use mathlib.Core.Path.{◌≡◌, refl, sym, ap, ◌∙◌}
use mathlib.Core.Bool.{Bool, true, false}
use mathlib.Core.List.{List, [], ◌∷◌, ◌++◌}
use mathlib.Core.Logic.{by_cases}
use native.Mathlib.Omega.{arith}
use native.Mathlib.Nat.{le_refl}
use native.Mathlib.Decide.{dec_le}
use native.Mathlib.Numerals.{unary_clauses}
use lib.ListN.{length, take, drop, length-replicate}
use lib.Seq.{take_all}
use borrow.Author.Tests.{le-ltb}
use Rattle.refusals.specs.declared.Refusal.TheVariants.{Accepted}
use Rattle.refusals.specs.declared.Verdict.{Verdict}
use Rattle.refusals.specs.Refusals.{accepted}
use Rattle.refusals.proofs.Verdicts.{refuses, none_refuses}
use Rattle.runs.specs.Alone.{zeros}
use Rattle.sheet_reader.specs.declared.Reading.{Reading}
use Rattle.sheet_reader.specs.Sheet.{sheet_head, sheet_turn, sheet_files, sheet_wants, sheet_run}
use Rattle.sheet_reader.specs.Reading.{sheet_verdict, rule_verdict, read_verdict, refused_reading, read_answer, read_row, RunRows, run_rows, rows_verdict, SheetRead}
use Rattle.sheet_reader.proofs.Rows.{length_each}
use Rattle.sheet_reader.proofs.Good.{few_files, few_wants}
use Rattle.sheet_runs.specs.declared.SheetRun.{SheetRun}
use Rattle.sheet_runs.specs.SheetRuns.{early_verdict, filled_up, run_by_value}
use Rattle.sheet_runs.specs.Private.{said_by}

-- What is left of a row of zeros.
drop_zeros : (n m : ℕ) → drop {A = ℕ} n (zeros m) ≡ zeros (m - n)
drop_zeros zero m = simp unary_clauses
drop_zeros (suc n) zero = let none : 0 - suc n ≡ 0 = omega arith in rw none
drop_zeros (suc n) (suc m) = simp unary_clauses (drop_zeros n m)

-- Values in the first entries of a row that was zeros.
pub filled_rest : (values : List ℕ) (room : ℕ) → values ++ drop (length values) (zeros room) ≡ filled_up room values
filled_rest values room = ap (λ l. values ++ l) (drop_zeros (length values) room)

-- The rows that are lent.
abbrev pub lent : ℕ → ℕ → RunRows
lent big small = run_rows (zeros big) (zeros big) (zeros big) (zeros small) (zeros small)

-- The run by value, field by field.
abbrev held : Verdict → ℕ → ℕ → ℕ → ℕ → List ℕ → List ℕ → List ℕ → List ℕ → List ℕ → SheetRun
held v files wants head turn starts lengths aggregates numbers counts =
    record { verdict = v; files = files; wants = wants; head = head; turn = turn; starts = starts; lengths = lengths; aggregates = aggregates; numbers = numbers; counts = counts }

same : {v v' : Verdict} {f f' w w' h h' t t' : ℕ} {s s' l l' a a' n n' c c' : List ℕ} → v ≡ v' → f ≡ f' → w ≡ w' → h ≡ h' → t ≡ t' → s ≡ s' → l ≡ l' → a ≡ a' → n ≡ n' → c ≡ c'
    → held v f w h t s l a n c ≡ held v' f' w' h' t' s' l' a' n' c'
same v f w h t s l a n c = rw (v, f, w, h, t, s, l, a, n, c)

module _ (sheet : List ℕ) where
  -- No row is too short.
  early_verdict_here : (big small : ℕ) → 256 ≤ big → 64 ≤ small → rows_verdict sheet (lent big small) ≡ early_verdict sheet
  unfolding read_verdict early_verdict
  early_verdict_here big small wide deep = go (refuses (sheet_verdict sheet)) refl
    where
      go : (b : Bool) → refuses (sheet_verdict sheet) ≡ b → rows_verdict sheet (lent big small) ≡ early_verdict sheet
      go true e = rw e
      go false e =
          rw (e, length-replicate {A = ℕ} big 0, length-replicate {A = ℕ} small 0, le-ltb big (sheet_files sheet) (omega (arith, few_files sheet e)), le-ltb small (sheet_wants sheet) (omega (arith, few_wants sheet e)))

  passes : refuses (early_verdict sheet) ≡ false → early_verdict sheet ≡ accepted
  unfolding early_verdict
  passes e = none_refuses (sheet_verdict sheet ∷ rule_verdict sheet ∷ []) e

  verdict_said : rows_verdict sheet (lent 256 64) ≡ early_verdict sheet
  verdict_said = early_verdict_here 256 64 (omega arith) (omega arith)

  module _ (r : Reading) (rows : RunRows) (read : SheetRead sheet (lent 256 64) r rows) where
    said : r ≡ read_answer (early_verdict sheet) sheet
    unfolding read_answer
    said = read.answer ∙ ap (λ v. read_answer v sheet) verdict_said

    -- A row on a refusal, and where the values are in it.
    row_kept : refuses (early_verdict sheet) ≡ true → (values row row' : List ℕ) → row' ≡ read_row (rows_verdict sheet (lent 256 64)) values row → row' ≡ row
    unfolding read_row
    row_kept e values row row' is = rw (verdict_said, e) at is

    row_filled_here : refuses (early_verdict sheet) ≡ false → (values row' : List ℕ) (room : ℕ) → row' ≡ read_row (rows_verdict sheet (lent 256 64)) values (zeros room) → row' ≡ filled_up room values
    unfolding read_row
    row_filled_here e values row' room is = (rw (verdict_said, e) at is) ∙ filled_rest values room

    pub run_read_lem : (v : Verdict) → v ≡ said_by r → held v r.files r.wants r.head r.turn rows.starts rows.lengths rows.aggregates rows.numbers rows.counts ≡ run_by_value sheet
    unfolding run_by_value read_answer sheet_run
    run_read_lem v v-is = rw v-is (go (refuses (early_verdict sheet)) refl)
      where
        go : (b : Bool) → refuses (early_verdict sheet) ≡ b
            → held (said_by r) r.files r.wants r.head r.turn rows.starts rows.lengths rows.aggregates rows.numbers rows.counts ≡ run_by_value sheet
        go true e =
            let is : r ≡ refused_reading (early_verdict sheet) = rw e at said in
            rw e
            (same (ap said_by is) (ap (λ x. x.files) is) (ap (λ x. x.wants) is) (ap (λ x. x.head) is) (ap (λ x. x.turn) is)
            (row_kept e _ _ _ read.starts) (row_kept e _ _ _ read.lengths) (row_kept e _ _ _ read.aggregates) (row_kept e _ _ _ read.numbers) (row_kept e _ _ _ read.counts))
        go false e =
            let is : r ≡ record { refusal = Accepted; place = 0; head = sheet_head sheet; turn = sheet_turn sheet; files = sheet_files sheet; wants = sheet_wants sheet } = rw e at said in
            rw e
            (same (ap said_by is ∙ sym (passes e)) (ap (λ x. x.files) is ∙ sym (length_each _ (sheet_files sheet))) (ap (λ x. x.wants) is ∙ sym (length_each _ (sheet_wants sheet))) (ap (λ x. x.head) is) (ap (λ x. x.turn) is)
            (row_filled_here e _ _ 256 read.starts) (row_filled_here e _ _ 256 read.lengths) (row_filled_here e _ _ 256 read.aggregates) (row_filled_here e _ _ 64 read.numbers) (row_filled_here e _ _ 64 read.counts))

-- The first entries of a row, as far as it goes.
module _ (row : List ℕ) (n end : ℕ) (is : end ≡ min n (length row)) where
  pub first_entries : take end row ≡ take n row
  first_entries = by_cases (dec_le n (length row)) (λ h. let e : end ≡ n = omega (arith, is) in rw e) (λ h. let e : end ≡ length row = omega (arith, is) in rw e (take_all (length row) row (le_refl (length row)) ∙ sym (take_all n row (omega arith))))
