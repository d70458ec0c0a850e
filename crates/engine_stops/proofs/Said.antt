-- An answer that is a refusal or a value.
use Prim.Native.Nat.{ℕ}
use mathlib.Core.Path.{◌≡◌, refl}
use mathlib.Core.Bool.{Bool, true, false, cond}
use Rattle.std.specs.Prelude.{Result, Ok, Err}
use Rattle.refusals.specs.declared.Verdict.{Verdict}
use Rattle.refusals.proofs.Verdicts.{refuses}
use Rattle.refusals.proofs.Checked.{Refuses}

-- It is one of the two.
pub one_answer : {A X : Type 0} {e : Verdict} {x : X} → Err e ≡ Ok x → A
one_answer same = absurd (never same)
  where
    never : {X : Type 0} {e : Verdict} {x : X} → Err e ≡ Ok x → ⊥
    never same = cc

pub same_verdict : {X : Type 0} {e v : Verdict} → ◌≡◌ {A = Result X Verdict} (Err e) (Err v) → e ≡ v
same_verdict same = cc

pub same_number : {k n : ℕ} → ◌≡◌ {A = Result ℕ Verdict} (Ok k) (Ok n) → k ≡ n
same_number same = cc

-- An answer that is a verdict where that refuses, and a number where it does not: what each of the two says.
pub record Accepts (v : Verdict) (n k : ℕ) : Type 0 where
  pub passes : refuses v ≡ false
  pub is : k ≡ n

pub answer_refuses : (v : Verdict) (n : ℕ) (e : Verdict) → Err e ≡ cond (refuses v) (Err v) (Ok n) → Refuses v e
answer_refuses v n e said = go (refuses v) refl
  where
    go : (b : Bool) → refuses v ≡ b → Refuses v e
    go true h = let same = rw h at said in record { is = cc; so = h }
    go false h = let same = rw h at said in absurd (cc)

pub answer_accepts : (v : Verdict) (n k : ℕ) → Ok k ≡ cond (refuses v) (Err v) (Ok n) → Accepts v n k
answer_accepts v n k said = go (refuses v) refl
  where
    go : (b : Bool) → refuses v ≡ b → Accepts v n k
    go true h = let same = rw h at said in absurd (cc)
    go false h = let same = rw h at said in record { passes = h; is = cc }
