-- A check and the condition of the refusal table that it looks for; and a row of checks, each of which decides its condition, finds the
-- first that applies.
use Prim.Native.Nat.{ℕ, zero, suc, ◌≤◌, ◌<◌}
use mathlib.Core.Path.{◌≡◌, refl, sym, ap, ◌∙◌}
use mathlib.Core.Bool.{Bool, true, false, cond, true≢false}
use mathlib.Core.Logic.{◌↔◌, inl, inr, ⊎_elim}
use mathlib.Core.List.{List, [], ◌∷◌, ◌++◌}
use native.Mathlib.Omega.{arith}
use Rattle.refusals.specs.declared.Refusal.{Refusal}
use Rattle.refusals.specs.declared.Refusal.TheVariants.{Accepted}
use Rattle.refusals.specs.declared.Verdict.{Verdict}
use Rattle.refusals.specs.Refusals.{number_of, is_refusal, accepted, refuse_if, refuse_at, first_of, first_where}
use Rattle.runs.proofs.Search.{first_zero}
use Rattle.refusals.proofs.Verdicts.{refuses}
use Rattle.demands.specs.RefusalTable.{FirstBad, FirstThatApplies, none, here, later, SomeApplies}
use Rattle.demands.proofs.Tests.{Tells}

-- A check refuses with its kind, at the place at which the condition applies; or it accepts, and the condition applies at no place.
pub data Decides (kind : Refusal) (applies : ℕ → Type 0) (v : Verdict) : Type 0 where
  refused : (place : ℕ) → v ≡ record { refusal = kind; place = place } → applies place → Decides kind applies v
  passed : v ≡ accepted → ((place : ℕ) → applies place → ⊥) → Decides kind applies v

-- A condition without a place of its own.
pub decides_if : (b : Bool) (kind : Refusal) {P : Type 0} → Tells b P → Decides kind (λ p. (p ≡ 0) × P) (refuse_if b kind)
decides_if true kind t = refused 0 refl (refl, t.when_true refl)
decides_if false kind t = passed refl (λ p h. t.when_false refl h.1)

-- A condition with one place.
pub decides_there : (b : Bool) (n : ℕ) (kind : Refusal) {P : Type 0} → Tells b P → Decides kind (λ p. (p ≡ suc n) × P) (refuse_at (cond b (suc n) 0) kind)
decides_there true n kind t = refused (suc n) refl (refl, t.when_true refl)
decides_there false n kind t = passed refl (λ p h. t.when_false refl h.1)

-- The first place at which a test holds: it holds there, and at none before.
module _ (bad : ℕ → Bool) where
  pub found_at : (n q : ℕ) → first_where bad n ≡ suc q → (q < n) × (bad q ≡ true) × (first_where bad q ≡ 0)
  unfolding first_where
  found_at zero q e = absurd (omega arith)
  found_at (suc n) q e = go (first_where bad n) (bad n) refl refl (found_at n)
    where
      go : (p : ℕ) (b : Bool) → first_where bad n ≡ p → bad n ≡ b → ((q : ℕ) → first_where bad n ≡ suc q → (q < n) × (bad q ≡ true) × (first_where bad q ≡ 0))
          → (q < suc n) × (bad q ≡ true) × (first_where bad q ≡ 0)
      go zero true f t rest = let same : n ≡ q = omega (arith, rw (f, t) at e) in rw (← same) (omega arith, t, f)
      go zero false f t rest = absurd (omega (arith, rw (f, t) at e))
      go (suc p) b f t rest = let found = rest q (f ∙ (rw f at e)) in (omega (arith, found.0), found.1, found.2)

  module _ (Bad : ℕ → Type 0) (n : ℕ) (each : (i : ℕ) → Tells (bad i) (Bad i)) where
    first_bad_here : (q : ℕ) → first_where bad n ≡ suc q → FirstBad Bad n (suc q)
    first_bad_here q e =
        let found = found_at n q e in
        record {
          index = q;
          within = found.0;
          at = refl;
          here = (each q).when_true found.1;
          before = λ j l. (each j).when_false (first_zero bad q found.2 j l);
        }

    none_bad_here : first_where bad n ≡ 0 → (p : ℕ) → FirstBad Bad n p → ⊥
    none_bad_here e p f = (each f.index).when_false (first_zero bad n e f.index f.within) f.here

    pub decides_at : (kind : Refusal) → Decides kind (FirstBad Bad n) (refuse_at (first_where bad n) kind)
    decides_at kind = go (first_where bad n) refl
      where
        go : (p : ℕ) → first_where bad n ≡ p → Decides kind (FirstBad Bad n) (refuse_at (first_where bad n) kind)
        go zero e = passed (rw e) (none_bad_here e)
        go (suc q) e = refused (suc q) (rw e) (first_bad_here q e)

-- A condition in other words.
pub decides_reworded : {kind : Refusal} {P Q : ℕ → Type 0} {v : Verdict} → ((p : ℕ) → P p → Q p) → ((p : ℕ) → Q p → P p) → Decides kind P v → Decides kind Q v
decides_reworded there back (refused p e h) = refused p e (there p h)
decides_reworded there back (passed e n) = passed e (λ p q. n p (back p q))

-- A check is a row of one.
pub decides_alone : {kind : Refusal} {P : ℕ → Type 0} {v : Verdict} → is_refusal kind ≡ true → Decides kind P v → Decides kind P (first_of (v ∷ []))
decides_alone r (refused p e h) = refused p (rw (e, r)) h
decides_alone r (passed e n) = passed (rw e) n

-- What a verdict finds, of an order of conditions.
abbrev pub Finds : (Refusal → ℕ → Type 0) → List Refusal → Verdict → Type 0
Finds applies order v = FirstThatApplies applies order v.refusal v.place

module _ (applies : Refusal → ℕ → Type 0) where
  pub finds_none : Finds applies [] accepted
  finds_none = none

  -- One check more at the front: the others are asked only where it accepts.
  pub finds_first : {kind : Refusal} {rest : List Refusal} {v : Verdict} (vs : List Verdict) → is_refusal kind ≡ true → Decides kind (applies kind) v
      → (refuses v ≡ false → Finds applies rest (first_of vs)) → Finds applies (kind ∷ rest) (first_of (v ∷ vs))
  finds_first vs r (refused p e h) others = rw (e, r) (here h)
  finds_first {v} vs r (passed e n) others = let passes : refuses v ≡ false = rw e in rw passes (later n (others passes))

-- A row of checks at the front of a row.
pub first_of_joined : (vs ws : List Verdict) → first_of (first_of vs ∷ ws) ≡ first_of (vs ++ ws)
first_of_joined [] ws = refl
first_of_joined (v ∷ vs) ws = go (refuses v) refl (first_of_joined vs ws)
  where
    go : (b : Bool) → refuses v ≡ b → first_of (first_of vs ∷ ws) ≡ first_of (vs ++ ws) → first_of (first_of (v ∷ vs) ∷ ws) ≡ first_of (v ∷ vs ++ ws)
    go true h rest = rw (h, h)
    go false h rest = rw h rest

pub both_pass : (v : Verdict) (vs : List Verdict) → refuses v ≡ false → refuses (first_of vs) ≡ false → refuses (first_of (v ∷ vs)) ≡ false
both_pass v vs e h = rw e h

-- Of the first that applies: it is a refusal if and only if some condition applies.
abbrev pub AllRefuse : List Refusal → Type 0
AllRefuse [] = Unit {0}
AllRefuse (kind ∷ rest) = (is_refusal kind ≡ true) × AllRefuse rest

module _ (applies : Refusal → ℕ → Type 0) where
  some_applies : {order : List Refusal} {kind : Refusal} {place : ℕ} → FirstThatApplies applies order kind place → (kind ≡ Accepted → ⊥) → SomeApplies applies order
  some_applies none n = absurd (n refl)
  some_applies (here {place = p} h) n = inl (p, h)
  some_applies (later skipped rest) n = inr (some_applies rest n)

  then_refused : {order : List Refusal} {kind : Refusal} {place : ℕ} → FirstThatApplies applies order kind place → AllRefuse order → SomeApplies applies order → kind ≡ Accepted → ⊥
  then_refused none all s e = s
  then_refused (here h) all s e = true≢false (sym all.0 ∙ ap is_refusal e)
  then_refused (later skipped rest) all s e = ⊎_elim (λ h. skipped h.0 h.1) (λ t. then_refused rest all.1 t e) s

  pub refused_iff : {order : List Refusal} {kind : Refusal} {place : ℕ} → FirstThatApplies applies order kind place → AllRefuse order → (kind ≡ Accepted → ⊥) ↔ SomeApplies applies order
  refused_iff f all = (some_applies f, then_refused f all)

-- A front of an order, of 1 to 7. Where a later number is found, nothing of the front applies; where nothing of it applies, what is found
-- stands behind it.
abbrev pub AllOfRun : List Refusal → Type 0
AllOfRun [] = Unit {0}
AllOfRun (kind ∷ rest) = (number_of kind ≤ 7) × AllOfRun rest

module _ (applies : Refusal → ℕ → Type 0) where
  pub behind_front : (front : List Refusal) {rest : List Refusal} {kind : Refusal} {place : ℕ} → AllOfRun front → 7 < number_of kind
      → FirstThatApplies applies (front ++ rest) kind place → (SomeApplies applies front → ⊥) × FirstThatApplies applies rest kind place
  behind_front [] all l f = (λ s. s, f)
  behind_front (k ∷ front) all l (here h) = absurd (omega (arith, l, all.0))
  behind_front (k ∷ front) all l (later skipped f) =
      let others = behind_front front all.1 l f in
      (⊎_elim (λ h. skipped h.0 h.1) others.0, others.1)

  pub past_front : (front : List Refusal) {rest : List Refusal} {kind : Refusal} {place : ℕ} → (SomeApplies applies front → ⊥)
      → FirstThatApplies applies (front ++ rest) kind place → FirstThatApplies applies rest kind place
  past_front [] n f = f
  past_front (k ∷ front) n (here {place = p} h) = absurd (n (inl (p, h)))
  past_front (k ∷ front) n (later skipped f) = past_front front (λ s. n (inr s)) f

pub some_reworded : (P Q : Refusal → ℕ → Type 0) (order : List Refusal) → AllOfRun order → ((k : Refusal) (p : ℕ) → number_of k ≤ 7 → P k p → Q k p) → SomeApplies P order → SomeApplies Q order
some_reworded P Q [] all f s = s
some_reworded P Q (k ∷ order) all f s = ⊎_elim (λ h. inl (h.0, f k h.0 all.0 h.1)) (λ t. inr (some_reworded P Q order all.1 f t)) s
