-- `WellFormed` and the rules of document 01 are the same: each Boolean test of an entry is a rule, and starts that fall from entry to entry fall
-- over any distance.
use Prim.Native.Nat.{ℕ, zero, suc, ◌<◌}
use mathlib.Core.Path.{◌≡◌, refl, sym}
use mathlib.Core.Bool.{Bool, true, false, not, ◌||◌, or-true, true≢false}
use mathlib.Core.Logic.{◌⊎◌, inl, inr, by_cases}
use mathlib.Core.List.{List, [], ◌∷◌}
use native.Mathlib.Omega.{arith}
use native.Mathlib.Decide.{dec_lt}
use lib.ListN.{length}
use lib.Dec.{leb, ltb, eqb}
use borrow.Author.Tests.{eqb-true, eq-eqb, ltb-true, ltb-false, leb-false, lt-leb, le-ltb, lt-ltb, not-false}
use Rattle.runs.specs.Run.{Stop}
use Rattle.runs.specs.Rows.{stop_at}
use Rattle.runs.specs.Lists.{Detour, wanted, leftmost, bad_alone, bad_after, any_below, entry_of, bad_entry, first_bad_entry, WellFormed}
use Rattle.runs.proofs.Search.{or_false_both, first_zero, first_all, any_zero}
use Rattle.demands.specs.Formed.{IsStop, IsDetour, ObeysTheRules, FormedByTheRules}

-- A file is wanted where a stop has its number, and only there.
pub stop_wanted : (stops : List Stop) (f : ℕ) → IsStop stops f → wanted stops f ≡ true
unfolding wanted
stop_wanted stops f s = at stops s.0 s.1 s.2
  where
    at : (stops : List Stop) (i : ℕ) → i < length stops → (stop_at stops i).file ≡ f → wanted stops f ≡ true
    at [] i l e = absurd (omega arith)
    at (s ∷ ss) zero l e = rw (eq-eqb s.file f e)
    at (s ∷ ss) (suc i) l e = rw (at ss i (omega arith) e, or-true)

wanted_stop : (stops : List Stop) (f : ℕ) → wanted stops f ≡ true → IsStop stops f
unfolding wanted
wanted_stop [] f e = absurd (true≢false (sym e))
wanted_stop (s ∷ ss) f e = go (eqb s.file f) refl (wanted_stop ss f)
  where
    go : (b : Bool) → eqb s.file f ≡ b → (wanted ss f ≡ true → IsStop ss f) → IsStop (s ∷ ss) f
    go true h rest = (0, omega arith, eqb-true s.file f h)
    go false h rest = let found = rest (rw h at e) in (suc found.0, omega (arith, found.1), found.2)

leftmost_first : (stops : List Stop) → leftmost stops ≡ (stop_at stops 0).file
leftmost_first [] = refl
leftmost_first (s ∷ ss) = refl

-- An entry by itself.
good_alone : (stops : List Stop) (d : Detour) → bad_alone stops d ≡ false → IsDetour stops d
good_alone stops d e =
    let right = or_false_both _ (leb d.from (leftmost stops)) e in
    let ordered = or_false_both _ (ltb d.to d.from) right.0 in
    let ends = or_false_both (not (wanted stops d.from)) (not (wanted stops d.to)) ordered.0 in
    record {
      start = wanted_stop stops d.from (not-false _ ends.0);
      stop = wanted_stop stops d.to (not-false _ ends.1);
      ordered = ltb-false d.to d.from ordered.1;
      right = rw (← leftmost_first stops) (leb-false d.from (leftmost stops) right.1);
    }

alone_good : (stops : List Stop) (d : Detour) → IsDetour stops d → bad_alone stops d ≡ false
alone_good stops d g =
    rw (
      stop_wanted stops d.from g.start,
      stop_wanted stops d.to g.stop,
      le-ltb d.to d.from g.ordered,
      lt-leb d.from (leftmost stops) (rw (leftmost_first stops) g.right),
    )

-- An entry d against an earlier one e.
good_after : (e d : Detour) → bad_after e d ≡ false → (d.from < e.from) × ((d.to < e.from) ⊎ (e.to < d.to))
good_after e d h =
    let both = or_false_both (leb e.from d.from) _ h in
    (leb-false e.from d.from both.0, go (ltb d.to e.from) refl (not-false _ both.1))
  where
    go : (b : Bool) → ltb d.to e.from ≡ b → (ltb d.to e.from || ltb e.to d.to) ≡ true → (d.to < e.from) ⊎ (e.to < d.to)
    go true t f = inl (ltb-true d.to e.from t)
    go false t f = inr (ltb-true e.to d.to (rw t at f))

after_good : (e d : Detour) → d.from < e.from → (d.to < e.from) ⊎ (e.to < d.to) → bad_after e d ≡ false
after_good e d l (inl h) = rw (lt-leb e.from d.from l, lt-ltb d.to e.from h)
after_good e d l (inr h) = rw (lt-leb e.from d.from l, lt-ltb e.to d.to h, or-true)

any_all : (test : ℕ → Bool) (n : ℕ) → ((j : ℕ) → j < n → test j ≡ false) → any_below test n ≡ false
unfolding any_below
any_all test zero none = refl
any_all test (suc n) none = rw (any_all test n (λ j l. none j (omega arith)), none n (omega arith))

module _ (stops : List Stop) (list : List Detour) where
  obeys : WellFormed stops list → ObeysTheRules stops list
  unfolding first_bad_entry
  obeys formed = record {
    each = λ i l. good_alone stops (entry_of list i) (passes i l).0;
    fall = λ i l. (against (suc i) l i (omega arith)).0;
    apart = λ i j l m less. by_cases (dec_lt j i) (λ h. (against i l j h).1) (λ h. absurd (not_left i j m less h));
  }
    where
      passes : (i : ℕ) → i < length list → (bad_alone stops (entry_of list i) ≡ false) × (any_below (λ j. bad_after (entry_of list j) (entry_of list i)) i ≡ false)
      passes i l = or_false_both _ _ (first_zero (bad_entry stops list) (length list) formed i l)

      against : (i : ℕ) → i < length list → (j : ℕ) → j < i
          → ((entry_of list i).from < (entry_of list j).from) × (((entry_of list i).to < (entry_of list j).from) ⊎ ((entry_of list j).to < (entry_of list i).to))
      against i l j h = good_after (entry_of list j) (entry_of list i) (any_zero _ i (passes i l).1 j h)

      not_left : (i j : ℕ) → j < length list → (entry_of list i).from < (entry_of list j).from → (j < i → ⊥) → ⊥
      not_left i j m less h = by_cases (dec_lt i j) (λ k. omega (arith, (against j m i k).0)) (λ k. let same : i ≡ j = omega arith in omega (arith, rw same at less))

  module _ (rules : ObeysTheRules stops list) where
    pub falls : (i j : ℕ) → j < i → i < length list → (entry_of list i).from < (entry_of list j).from
    falls zero j h l = absurd (omega arith)
    falls (suc i) j h l = by_cases (dec_lt j i) (λ k. omega (arith, falls i j k (omega arith), rules.fall i l)) (λ k. let same : j ≡ i = omega arith in rw same (rules.fall i l))

    entry_good : (i : ℕ) → i < length list → bad_entry stops list i ≡ false
    entry_good i l =
        rw (
          alone_good stops (entry_of list i) (rules.each i l),
          any_all (λ j. bad_after (entry_of list j) (entry_of list i)) i
              (λ j h. after_good (entry_of list j) (entry_of list i) (falls i j h l) (rules.apart i j l (omega arith) (falls i j h l))),
        )

    formed_so : WellFormed stops list
    unfolding first_bad_entry
    formed_so = first_all (bad_entry stops list) (length list) entry_good

pub formed_by_the_rules : FormedByTheRules
formed_by_the_rules stops list = (obeys stops list, formed_so stops list)
