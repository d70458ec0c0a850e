-- A line by its first byte.
use Prim.Native.Nat.{ℕ}
use mathlib.Core.Path.{◌≡◌, refl, sym, ap, ◌∙◌}
use mathlib.Core.Bool.{true, false, true≢false}
use mathlib.Core.List.{List, [], ◌∷◌}
use mathlib.Core.Logic.{⊎_elim}
use borrow.Author.Tests.{eqb-true}
use Rattle.runs.proofs.Search.{true_or_false}
use Rattle.desk_rows.specs.Journal.{is_remark}
use Rattle.promises.specs.DeskTaken.{BeginsWithHash, RemarkIsItsHash, OtherLinesAreAnswered}

begins_so : (line : List ℕ) → is_remark line ≡ true → BeginsWithHash line
unfolding is_remark
begins_so [] e = absurd (true≢false (sym e))
begins_so (b ∷ bs) e = record { rest = bs; is = ap (λ x. x ∷ bs) (eqb-true b 35 e) }

pub remark_is_its_hash : RemarkIsItsHash
unfolding is_remark
remark_is_its_hash line = (begins_so line, λ h. ap is_remark h.is)

pub other_lines_are_answered : OtherLinesAreAnswered
other_lines_are_answered row l tape room out line r room' out' taken other =
    taken.event (⊎_elim (λ (e : is_remark line ≡ true). absurd (other (begins_so line e))) (λ (e : is_remark line ≡ false). e) (true_or_false (is_remark line)))
