-- What is answered: the first refusal that applies, or the result.
use Prim.Native.Nat.{ℕ}
use mathlib.Core.Path.{◌≡◌, sym, ap, ◌∙◌}
use mathlib.Core.Bool.{false}
use mathlib.Core.List.{List}
use lib.ListN.{length}
use Rattle.refusals.specs.declared.Refusal.TheVariants.{Accepted}
use Rattle.refusals.specs.declared.Verdict.{Verdict}
use Rattle.refusals.specs.Refusals.{checked, first_of}
use Rattle.refusals.proofs.Verdicts.{refuses, first_passes}
use Rattle.refusals.proofs.Checked.{passed, stopped, first_stops}
use Rattle.std.specs.Prelude.{Ok, Err}
use Rattle.sheet_reader.specs.Reading.{sheet_verdict}
use Rattle.sheet_writer.specs.declared.Written.{Written}
use Rattle.sheet_writer.specs.Writing.{refused_writing, written_answer, written_row, row_verdict, Handed}
use Rattle.answer_rewrite.specs.Rewriting.{rewritten, rewrite_verdict, SheetRewritten}
use Rattle.answer_rewrite.specs.Private.{result_verdict, filled_row}

-- A refusal, and what is handed out without one.
refused_so : (v e : Verdict) (text row : List ℕ) → Err e ≡ checked v → (r : Written) → r ≡ refused_writing e → Handed v text row r row
unfolding written_answer written_row
refused_so v e text row said r is =
    let s = stopped v e said in
    record { answer = rw s.so (is ∙ ap refused_writing (sym s.is)); left = rw s.so }

handed_so : (v : Verdict) (text row : List ℕ) → refuses v ≡ false → Handed v text row (record { refusal = Accepted; place = 0; bytes = length text }) (filled_row text row)
unfolding written_answer written_row
handed_so v text row e = record { answer = rw e; left = rw e }

-- The sheet's own verdict, then that on the result.
module _ (sheet row : List ℕ) where
  pub unread : (e : Verdict) → Err e ≡ checked (sheet_verdict sheet) → (r : Written) → r ≡ refused_writing e → SheetRewritten sheet row r row
  unfolding rewrite_verdict row_verdict
  unread e said r is =
      refused_so (rewrite_verdict sheet row) e (rewritten sheet) row (first_stops (sheet_verdict sheet) (result_verdict (length (rewritten sheet)) (length row)) e said) r is

  module _ (u : Unit) (good : Ok u ≡ checked (sheet_verdict sheet)) (n : ℕ) (long : n ≡ length (rewritten sheet)) where
    verdict_is_here : first_of (result_verdict n (length row)) ≡ rewrite_verdict sheet row
    unfolding rewrite_verdict row_verdict
    verdict_is_here = rw long (sym (first_passes (sheet_verdict sheet) (result_verdict (length (rewritten sheet)) (length row)) (passed _ u good)))

    pub refused_result : (e : Verdict) → Err e ≡ checked (first_of (result_verdict n (length row))) → (r : Written) → r ≡ refused_writing e → SheetRewritten sheet row r row
    refused_result e said r is = refused_so (rewrite_verdict sheet row) e (rewritten sheet) row (said ∙ ap checked verdict_is_here) r is

    module _ (w : Unit) (said : Ok w ≡ checked (first_of (result_verdict n (length row)))) where
      accepts_here : refuses (first_of (result_verdict n (length row))) ≡ false
      accepts_here = passed _ w said

      pub rewritten_so : (text row' : List ℕ) → text ≡ rewritten sheet → row' ≡ filled_row text row → SheetRewritten sheet row (record { refusal = Accepted; place = 0; bytes = n }) row'
      rewritten_so text row' text_is row_is =
          let so = handed_so (rewrite_verdict sheet row) (rewritten sheet) row (ap refuses (sym verdict_is_here) ∙ accepts_here) in
          record { answer = rw long so.answer; left = row_is ∙ rw text_is so.left }
