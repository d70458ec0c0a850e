-- Where none of 12, 11 and 19 applies to a run sheet: its lines are accepted and its rule is the least, both ways.
use Prim.Native.Nat.{ℕ}
use mathlib.Core.Path.{◌≡◌, refl, ap, sym, ◌∙◌}
use mathlib.Core.Bool.{Bool, true, false, true≢false, cond}
use mathlib.Core.List.{List, [], ◌∷◌}
use native.Mathlib.Omega.{arith}
use Rattle.refusals.specs.declared.Refusal.TheVariants.{Accepted, RetiredRule}
use Rattle.refusals.specs.declared.Verdict.{Verdict}
use Rattle.refusals.specs.Refusals.{is_refusal, accepted, first_of}
use Rattle.refusals.proofs.Verdicts.{refuses, all_accept, accepts_at}
use Rattle.sheet_reader.specs.Sheet.{says_sweep}
use Rattle.sheet_reader.specs.Reading.{sheet_verdict, rule_verdict}
use Rattle.sheet_reader.proofs.Good.{accepted_sheet}
use Rattle.demands.specs.RefusalTable.{SomeApplies}
use Rattle.demands.proofs.Checks.{refused_iff}
use Rattle.promises.specs.TwoTexts.{EarlyApplies, early_order, AcceptedIsRead}
use Rattle.promises.proofs.TwoTexts.{early_finds}

module _ (sheet : List ℕ) where
  abbrev early : Verdict
  early = first_of (sheet_verdict sheet ∷ rule_verdict sheet ∷ [])

  -- Where neither refuses none of them applies; and where none applies neither refuses.
  pub none_early : sheet_verdict sheet ≡ accepted → rule_verdict sheet ≡ accepted → SomeApplies (EarlyApplies sheet) early_order → ⊥
  none_early read rule some =
      let passes : early.refusal ≡ Accepted = rw (read, rule) in
      (refused_iff (EarlyApplies sheet) (early_finds sheet) (refl, (refl, (refl, tt)))).1 some passes

  early_passes : (SomeApplies (EarlyApplies sheet) early_order → ⊥) → refuses early ≡ false
  early_passes none = go (refuses early) refl
    where
      go : (b : Bool) → refuses early ≡ b → refuses early ≡ false
      go true e = absurd (none ((refused_iff (EarlyApplies sheet) (early_finds sheet) (refl, (refl, (refl, tt)))).0 (λ k. true≢false (sym e ∙ ap is_refusal k))))
      go false e = e

  pub early_read : (SomeApplies (EarlyApplies sheet) early_order → ⊥) → sheet_verdict sheet ≡ accepted
  early_read none = accepted_sheet sheet (all_accept (sheet_verdict sheet ∷ rule_verdict sheet ∷ []) (early_passes none)).0

  pub early_least : (SomeApplies (EarlyApplies sheet) early_order → ⊥) → says_sweep sheet ≡ false
  unfolding rule_verdict
  early_least none = not_there (says_sweep sheet) (accepts_at (cond (says_sweep sheet) 4 0) RetiredRule refl (all_accept (sheet_verdict sheet ∷ rule_verdict sheet ∷ []) (early_passes none)).1.0)
    where
      not_there : (b : Bool) → ◌≡◌ {A = ℕ} (cond b 4 0) 0 → b ≡ false
      not_there true h = absurd (omega (arith, h))
      not_there false h = refl

pub accepted_is_read : AcceptedIsRead
accepted_is_read sheet read rule = none_early sheet read rule
