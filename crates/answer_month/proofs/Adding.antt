-- Totals that grow within a word; an outcome added by its kind.
use Prim.Native.Nat.{ℕ, ◌+◌, ◌-◌, ◌<◌, ◌^◌}
use mathlib.Core.Path.{◌≡◌, refl, sym, ap, ◌∙◌}
use mathlib.Core.Bool.{Bool, true, false}
use mathlib.Core.Logic.{by_cases}
use native.Mathlib.Omega.{arith}
use native.Mathlib.Decide.{dec_le}
use lib.Dec.{ltb, eqb}
use borrow.Author.Tests.{lt-ltb, le-ltb, le-leb, lt-leb, leb-false, eq-eqb, ne_eqb}
use Rattle.refusals.specs.Refusals.{number_of}
use Rattle.answer_outcome.specs.declared.Outcome.{Outcome}
use Rattle.answer_month.specs.declared.Month.{Month}
use Rattle.answer_month.specs.Month.{too_large, grown, with_refused, with_totals, with_longest, added}

pub word_full : (t m : ℕ) → t < 2 ^ 64 → ltb (18446744073709551615 - t) m ≡ too_large t m
word_full t m l =
    by_cases (dec_le (2 ^ 64) (t + m))
    (λ h. lt-ltb (18446744073709551615 - t) m (omega arith) ∙ sym (le-leb (2 ^ 64) (t + m) h))
    (λ h. le-ltb (18446744073709551615 - t) m (omega arith) ∙ sym (lt-leb (2 ^ 64) (t + m) (omega arith)))

module _ (t m : ℕ) (b : Bool) (is : b ≡ too_large t m) where
  pub total_stays : b ≡ true → t ≡ grown t m
  unfolding grown
  total_stays e = rw (sym is ∙ e) refl

  pub total_fits : b ≡ false → t + m < 2 ^ 64
  total_fits e = leb-false (2 ^ 64) (t + m) (sym is ∙ e)

  pub total_grows : b ≡ false → t + m ≡ grown t m
  unfolding grown
  total_grows e = rw (sym is ∙ e) refl

module _ (m : Month) (o : Outcome) (n : ℕ) (is : n ≡ number_of o.refusal) where
  pub added_refused : (n ≡ 0 → ⊥) → (r : Month) → r ≡ with_refused m n → r ≡ added m o
  unfolding added
  added_refused some r e =
      let q : eqb (number_of o.refusal) 0 ≡ false = ne_eqb (number_of o.refusal) 0 (λ z. some (is ∙ z)) in
      rw q (e ∙ ap (with_refused m) is)

  pub added_accepted : n ≡ 0 → (t r : Month) → t ≡ with_totals m o → r ≡ with_longest t o → r ≡ added m o
  unfolding added
  added_accepted none t r e f =
      let q : eqb (number_of o.refusal) 0 ≡ true = eq-eqb (number_of o.refusal) 0 (sym is ∙ none) in
      rw q (f ∙ ap (λ x. with_longest x o) e)
