-- Rows filled from lines of three numbers.
use Prim.Native.Nat.{ℕ, ◌+◌, ◌≤◌, ◌<◌}
use mathlib.Core.Path.{◌≡◌, refl, ap, ◌∙◌}
use mathlib.Core.List.{List}
use lib.ListN.{drop, set}
use Rattle.text_lines.specs.Found.{TripleAt}
use Rattle.sheet_reader.specs.Private.{TriplesReady}
use Rattle.text_lines.proofs.Passing.{LinesSeen, lines_none, line_seen}
use Rattle.text_lines.proofs.Filling.{row_filled, row_more}
use Rattle.text_lines.specs.Lines.{line_of, first_in, is_triple_line, middle_in, third_in, each_of, filled_row}
-- How long a row of values is, for those above.
pub use Rattle.text_lines.proofs.Filling.{length_each}

-- Before the line at an index: the rows hold the numbers so far, and what is left of the sheet is at hand.
pub record Filling₃ (key sheet : List ℕ) (at count : ℕ) (firsts₀ seconds₀ thirds₀ : List ℕ) (next i : ℕ) (firsts seconds thirds : List ℕ) : Type 0 where
  pub seen : LinesSeen (is_triple_line key) sheet at count next i
  pub left : firsts ≡ filled_row (first_in key) (drop at sheet) i firsts₀
  pub middle : seconds ≡ filled_row (middle_in key) (drop at sheet) i seconds₀
  pub right : thirds ≡ filled_row (third_in key) (drop at sheet) i thirds₀

module _ (key sheet : List ℕ) (at count : ℕ) (firsts₀ seconds₀ thirds₀ : List ℕ) (ready : TriplesReady key sheet at count firsts₀ seconds₀ thirds₀) where
  pub filling_none₃ : Filling₃ key sheet at count firsts₀ seconds₀ thirds₀ at 0 firsts₀ seconds₀ thirds₀
  unfolding each_of
  filling_none₃ = record { seen = lines_none (is_triple_line key) sheet at count at ready.within refl; left = refl; middle = refl; right = refl }

  module _ (next i : ℕ) (firsts seconds thirds : List ℕ) (p : Filling₃ key sheet at count firsts₀ seconds₀ thirds₀ next i firsts seconds thirds) where
    pub filled₃ : count ≤ i → (firsts ≡ filled_row (first_in key) (drop at sheet) count firsts₀) × ((seconds ≡ filled_row (middle_in key) (drop at sheet) count seconds₀) × (thirds ≡ filled_row (third_in key) (drop at sheet) count thirds₀))
    filled₃ l = (
      row_filled (first_in key) (drop at sheet) firsts₀ count ready.room i p.seen.few firsts p.left l,
      (
        row_filled (middle_in key) (drop at sheet) seconds₀ count ready.space i p.seen.few seconds p.middle l,
        row_filled (third_in key) (drop at sheet) thirds₀ count ready.more i p.seen.few thirds p.right l,
      ),
    )

    pub triple_filled : i < count → (a b c after : ℕ) → TripleAt key sheet next a b c after
        → Filling₃ key sheet at count firsts₀ seconds₀ thirds₀ after (i + 1) (set firsts i a) (set seconds i b) (set thirds i c)
    triple_filled l a b c after q =
        let line = ap line_of p.seen.rest in
        record {
          seen = line_seen (is_triple_line key) sheet at count next i p.seen l after q.passed;
          left = row_more (first_in key) (drop at sheet) firsts₀ count ready.room i p.seen.few firsts p.left l a (q.left ∙ ap (first_in key) line);
          middle = row_more (middle_in key) (drop at sheet) seconds₀ count ready.space i p.seen.few seconds p.middle l b (q.middle ∙ ap (middle_in key) line);
          right = row_more (third_in key) (drop at sheet) thirds₀ count ready.more i p.seen.few thirds p.right l c (q.right ∙ ap (third_in key) line);
        }
