-- The bytes of the result, and the row that takes them.
use Prim.Native.Nat.{ℕ, ◌+◌, ◌≤◌}
use Prim.Native.Char.{code}
use mathlib.Core.Path.{◌≡◌, ◌∙◌}
use mathlib.Core.List.{List, [], ◌∷◌, append_assoc}
use native.Mathlib.Omega.{arith}
use lib.ListN.{length, take, drop, length-append, length-drop}
use lib.Seq.{length-take-le}
use Rattle.text_pages.specs.Printing.{Wrote, Put}
use Rattle.text_pages.proofs.Pages.{wrote_page, wrote_on}
use Rattle.answer_rewrite.specs.Rewriting.{zero_at}
use Rattle.answer_rewrite.specs.Private.{filled_row}

-- A sheet with a 0 put in is a byte longer.
pub zero_long : (sheet : List ℕ) (at : ℕ) → at ≤ length sheet → length (zero_at at sheet) ≡ length sheet + 1
zero_long sheet at within = omega (arith, length-append (take at sheet) (code "0" ∷ drop at sheet), length-take-le at sheet within, length-drop at sheet)

-- A text at the front of a row.
front_filled : (row text row' : List ℕ) (most next : ℕ) → Wrote row 0 text most row' next → row' ≡ filled_row text row
front_filled row text row' most next w = let e : next ≡ length text = omega (arith, w.after) in wrote_page w ∙ rw e

pub sheet_filled : (row sheet row' : List ℕ) (next : ℕ) → length sheet ≤ length row → Put row 0 sheet (length sheet) row' next → row' ≡ filled_row sheet row
sheet_filled row sheet row' next room p = front_filled row sheet row' _ next (p.room (omega arith))

-- What stands before the 0, the 0, and what stands behind it.
module _ (row sheet : List ℕ) (at : ℕ) (within : at ≤ length sheet) (room : length (zero_at at sheet) ≤ length row) where
  pub zero_filled : (row₁ row₂ row₃ : List ℕ) (n₁ n₂ n₃ : ℕ)
      → Put row 0 (take at sheet) (length (take at sheet)) row₁ n₁ → Put row₁ n₁ (code "0" ∷ []) 1 row₂ n₂ → Put row₂ n₂ (drop at sheet) (length (drop at sheet)) row₃ n₃
      → row₃ ≡ filled_row (zero_at at sheet) row
  zero_filled row₁ row₂ row₃ n₁ n₂ n₃ p q r =
      let long = length-append (take at sheet) (code "0" ∷ drop at sheet) in
      let first = p.room (omega (arith, long)) in
      let two = wrote_on first (omega (arith, long)) q in
      let three = wrote_on two (omega (arith, long)) r in
      let all : Wrote row 0 (zero_at at sheet) _ row₃ n₃ = rw append_assoc at three in
      front_filled row (zero_at at sheet) row₃ _ n₃ all
