-- 12 and 11, then the rest.
use Prim.Native.Nat.{ℕ}
use mathlib.Core.Path.{sym, ◌∙◌}
use lib.ListN.{length-replicate}
use native.Mathlib.Omega.{arith}
use Rattle.answer_mend.proofs.Answers.{mend_none, lines_within, wanted_sized, counts_sized, sheet_read, mend_rest}
use Rattle.answer_mend.proofs.mend.Goals as goal

pub returns-in-Err : goal.returns-in-Err
returns-in-Err c =
    mend_none _ _ _ (length-replicate {A = ℕ} 2730 0) (length-replicate {A = ℕ} 2730 0) _ _ _ c.read_loose-parts.ensures _ _ _ c.in-Err.ensures _ c.unmended.ensures

pub slice_bounds-wanted-end : goal.slice_bounds-wanted-end
slice_bounds-wanted-end c =
    omega (arith, lines_within _ _ _ (length-replicate {A = ℕ} 2730 0) (length-replicate {A = ℕ} 2730 0) _ _ _ c.read_loose-parts.ensures _ (sym c.in_default.is ∙ c.told.ensures))

pub slice_bounds-mend_wants-end : goal.slice_bounds-mend_wants-end
slice_bounds-mend_wants-end c =
    wanted_sized _ _ _ (length-replicate {A = ℕ} 2730 0) (length-replicate {A = ℕ} 2730 0) _ _ _ c.read_loose-parts.ensures _ (sym c.in_default.is ∙ c.told.ensures)

pub slice_bounds-counts-end : goal.slice_bounds-counts-end
slice_bounds-counts-end c =
    omega (arith, lines_within _ _ _ (length-replicate {A = ℕ} 2730 0) (length-replicate {A = ℕ} 2730 0) _ _ _ c.read_loose-parts.ensures _ (sym c.in_default.is ∙ c.told.ensures))

pub slice_bounds-mend_wants-end-2 : goal.slice_bounds-mend_wants-end-2
slice_bounds-mend_wants-end-2 c =
    counts_sized _ _ _ (length-replicate {A = ℕ} 2730 0) (length-replicate {A = ℕ} 2730 0) _ _ _ c.read_loose-parts.ensures _ (sym c.in_default.is ∙ c.told.ensures)

pub mend_wants-requires : goal.mend_wants-requires
mend_wants-requires c =
    sheet_read _ _ _ (length-replicate {A = ℕ} 2730 0) (length-replicate {A = ℕ} 2730 0) _ _ _ c.read_loose-parts.ensures _ (sym c.in_default.is ∙ c.told.ensures)

pub returns : goal.returns
returns c =
    mend_rest _ _ _ (length-replicate {A = ℕ} 2730 0) (length-replicate {A = ℕ} 2730 0) _ _ _ c.read_loose-parts.ensures _ (sym c.in_default.is ∙ c.told.ensures) _ _ _ _ _ c.mend_wants.ensures
