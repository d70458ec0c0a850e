-- An input of two texts, and what is answered to these.
use Prim.Native.Nat.{ℕ}
use mathlib.Core.Path.{◌≡◌, sym, ap, ◌∙◌, subst}
use mathlib.Core.List.{List}
use lib.ListN.{length}
use Rattle.std.specs.Prelude.{Option, Some, None}
use Rattle.text_inputs.specs.declared.Framed.{Framed}
use Rattle.text_inputs.specs.Inputs.{part_in}
use Rattle.sheet_writer.specs.RefusalLines.{refusal_text}
use Rattle.answer_check.specs.RunRules.{head_anywhere}
use Rattle.answer_check.specs.Pricing.{RowHolds}
use Rattle.answer_check.specs.Checking.{CheckGiven, room_checked, SheetChecked}
use Rattle.answer_check.specs.Inputs.{framed_input, bad_input, AnsweredIn, room_in, InputChecked}

module _ (Answers : List ℕ → List ℕ → List ℕ → ℕ → List ℕ → Type 0) (input : List ℕ) (f : Option Framed) (f-is : f ≡ framed_input input) where
  pub framed_bad : f ≡ None → (row : List ℕ) (n : ℕ) (row' : List ℕ) → RowHolds (refusal_text bad_input) row n row' → AnsweredIn Answers input (framed_input input) row n row'
  framed_bad e row n row' h = subst (λ x. AnsweredIn Answers input x row n row') (sym e ∙ f-is) h

  pub framed_texts : (at : Framed) → f ≡ Some at → (sheet other : List ℕ) → sheet ≡ part_in input at.from at.to → other ≡ part_in input at.to (length input)
      → (row : List ℕ) (n : ℕ) (row' : List ℕ) → Answers sheet other row n row' → AnsweredIn Answers input (framed_input input) row n row'
  framed_texts at e sheet other s o row n row' h =
      let texts : Answers (part_in input at.from at.to) (part_in input at.to (length input)) row n row' = subst (λ x. Answers (part_in input at.from at.to) x row n row') o (subst (λ x. Answers x other row n row') s h) in
      subst (λ x. AnsweredIn Answers input x row n row') (sym e ∙ f-is) texts

-- Of a check the room too.
module _ (input : List ℕ) (f : Option Framed) (f-is : f ≡ framed_input input) where
  pub checked_bad : f ≡ None → (row room : List ℕ) (n : ℕ) (row' : List ℕ) → RowHolds (refusal_text bad_input) row n row' → InputChecked input row room n row' room
  checked_bad e row room n row' h =
      record { given = framed_bad (CheckGiven head_anywhere (length room)) input f f-is e row n row' h; cleared = ap (λ x. room_in input x room) (sym e ∙ f-is) }

  pub checked_texts : (at : Framed) → f ≡ Some at → (sheet plan : List ℕ) → sheet ≡ part_in input at.from at.to → plan ≡ part_in input at.to (length input)
      → (row room : List ℕ) (n : ℕ) (row' room' : List ℕ) → SheetChecked sheet plan row room n row' room' → InputChecked input row room n row' room'
  checked_texts at e sheet plan s o row room n row' room' h =
      record {
        given = framed_texts (CheckGiven head_anywhere (length room)) input f f-is at e sheet plan s o row n row' h.given;
        cleared = h.cleared ∙ ap (λ x. room_checked x plan room) s ∙ ap (λ x. room_checked (part_in input at.from at.to) x room) o ∙ ap (λ x. room_in input x room) (sym e ∙ f-is);
      }
