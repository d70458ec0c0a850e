-- A scan over the choices 0, c, c - 1, …, a + 1 of a window, f giving each choice its value: the lowest value and the first choice that has it.
-- `lowest` and `scan` are the turns still to come of a loop that goes c, c - 1, …, a + 1 and keeps what is lowest so far with a strict <.
use Prim.Native.Nat.{ℕ, zero, suc, ◌-◌, ◌≤◌, ◌<◌}
use native.Mathlib.Omega.{arith}
use native.Mathlib.Decide.{dec_le, dec_lt}
use native.Mathlib.Nat.{le_refl}
use mathlib.Core.Path.{◌≡◌, refl, ◌∙◌}
use mathlib.Core.Bool.{cond}
use mathlib.Core.Logic.{by_cases}
use lib.Dec.{leb, ltb}
use borrow.Author.Tests.{le-leb, lt-leb, lt-ltb, le-ltb}
use Rattle.least.specs.Recurrence.{lower, lowest, scan}

pub lowest_end : (f : ℕ → ℕ) (a c x : ℕ) → c ≤ a → lowest f a c x ≡ x
unfolding lowest
lowest_end f a zero x h = refl
lowest_end f a (suc d) x h = rw (lt-leb a d h)

pub lowest_turn : (f : ℕ → ℕ) (a d x : ℕ) → a ≤ d → lowest f a (suc d) x ≡ lowest f a d (lower x (f (suc d)))
unfolding lowest
lowest_turn f a d x h = rw (le-leb a d h)

pub lowest_take : (f : ℕ → ℕ) (a d x : ℕ) → a ≤ d → f (suc d) < x → lowest f a (suc d) x ≡ lowest f a d (f (suc d))
lowest_take f a d x h l = lowest_turn f a d x h ∙ rw (lt-ltb (f (suc d)) x l)

pub lowest_keep : (f : ℕ → ℕ) (a d x : ℕ) → a ≤ d → x ≤ f (suc d) → lowest f a (suc d) x ≡ lowest f a d x
lowest_keep f a d x h l = lowest_turn f a d x h ∙ rw (le-ltb (f (suc d)) x l)

pub scan_end : (f : ℕ → ℕ) (a c k : ℕ) → c ≤ a → scan f a c k ≡ k
unfolding scan
scan_end f a zero k h = refl
scan_end f a (suc d) k h = rw (lt-leb a d h)

pub scan_lower : (f : ℕ → ℕ) (a d k : ℕ) → a ≤ d → f (suc d) < f k → scan f a (suc d) k ≡ scan f a d (suc d)
unfolding scan
scan_lower f a d k h l = rw (le-leb a d h, lt-ltb (f (suc d)) (f k) l)

pub scan_stay : (f : ℕ → ℕ) (a d k : ℕ) → a ≤ d → f k ≤ f (suc d) → scan f a (suc d) k ≡ scan f a d k
unfolding scan
scan_stay f a d k h l = rw (le-leb a d h, le-ltb (f (suc d)) (f k) l)

-- One choice more, as a loop that goes down to a + 1 takes it.
pub lowest_one_more : (f : ℕ → ℕ) (a c x : ℕ) → a < c → lowest f a c x ≡ lowest f a (c - 1) (lower x (f c))
lowest_one_more f a zero x h = absurd (omega arith)
lowest_one_more f a (suc d) x h = let e : suc d - 1 ≡ d = omega arith in rw e (lowest_turn f a d x (omega arith))

pub scan_one_more : (f : ℕ → ℕ) (a c k : ℕ) → a < c → scan f a c k ≡ scan f a (c - 1) (cond (ltb (f c) (f k)) c k)
unfolding scan
scan_one_more f a zero k h = absurd (omega arith)
scan_one_more f a (suc d) k h = let e : suc d - 1 ≡ d = omega arith in rw (e, le-leb a d (omega arith))

-- Among the choices 0, c, c - 1, …, a + 1, the choice k has the lowest value, and it is the first that has it.
pub record First (f : ℕ → ℕ) (a c k : ℕ) : Type 0 where
  pub within : 0 < k → (a < k) × (k ≤ c)
  pub least_skip : f k ≤ f 0
  pub least : (d : ℕ) → a ≤ d → d < c → f k ≤ f (suc d)
  pub before_skip : 0 < k → f k < f 0
  pub before : (d : ℕ) → 0 < k → k ≤ d → d < c → f k < f (suc d)

module _ (f : ℕ → ℕ) (a c k : ℕ) (h : First f a c k) where
  pub first_skip : f 0 ≡ f k → k ≡ 0
  first_skip e = by_cases (dec_lt 0 k) (λ l. omega (arith, h.before_skip l)) (λ n. omega arith)

  -- Where the skip and all choices right of suc d have another value, this one is the one.
  pub first_here : (d : ℕ) → 0 < k → k ≤ suc d → d < c → f (suc d) ≡ f k → k ≡ suc d
  first_here d p l b e = by_cases (dec_le k d) (λ m. omega (arith, h.before d p m b)) (λ n. omega arith)

first_step : (f : ℕ → ℕ) (d top k : ℕ) → d < top → First f (suc d) top k → f k ≤ f (suc d) → First f d top k
first_step f d top k l h w = record {
  within = λ p. omega (arith, h.within p);
  least_skip = h.least_skip;
  least = λ e x y. by_cases (dec_le (suc d) e) (λ m. h.least e m y) (λ n. let q : e ≡ d = omega arith in rw q w);
  before_skip = h.before_skip;
  before = h.before;
}

first_lower : (f : ℕ → ℕ) (d top k : ℕ) → d < top → First f (suc d) top k → f (suc d) < f k → First f d top (suc d)
first_lower f d top k l h w = record {
  within = λ p. omega arith;
  least_skip = omega (arith, h.least_skip);
  least = λ e x y. by_cases (dec_le (suc d) e) (λ m. omega (arith, h.least e m y)) (λ n. let q : e ≡ d = omega arith in rw q (omega arith));
  before_skip = λ p. omega (arith, h.least_skip);
  before = λ e p x y. omega (arith, h.least e x y);
}

pub scan_first : (f : ℕ → ℕ) (a c top k : ℕ) → a ≤ c → c ≤ top → First f c top k → First f a top (scan f a c k)
scan_first f a zero top k h l g = let e : a ≡ 0 = omega arith in rw (e, scan_end f 0 0 k (omega arith)) g
scan_first f a (suc d) top k h l g =
    by_cases
    (dec_le a d)
    (λ m. by_cases
    (dec_lt (f (suc d)) (f k))
    (λ w. rw (scan_lower f a d k m w) (scan_first f a d top (suc d) m (omega arith) (first_lower f d top k l g w)))
    (λ n. rw (scan_stay f a d k m (omega arith)) (scan_first f a d top k m (omega arith) (first_step f d top k l g (omega arith)))))
    (λ n. let e : a ≡ suc d = omega arith in rw (e, scan_end f (suc d) (suc d) k (omega arith)) g)

-- The whole scan, from the skip.
pub scan_all : (f : ℕ → ℕ) (a c : ℕ) → a ≤ c → First f a c (scan f a c 0)
scan_all f a c h = scan_first f a c c 0 h (omega arith) (omega (arith, le_refl (f 0)))

pub lowest_scan : (f : ℕ → ℕ) (a c k : ℕ) → lowest f a c (f k) ≡ f (scan f a c k)
lowest_scan f a zero k = rw (lowest_end f a 0 (f k) (omega arith), scan_end f a 0 k (omega arith))
lowest_scan f a (suc d) k =
    by_cases
    (dec_le a d)
    (λ m. by_cases
    (dec_lt (f (suc d)) (f k))
    (λ w. rw (lowest_take f a d (f k) m w, scan_lower f a d k m w) (lowest_scan f a d (suc d)))
    (λ n. rw (lowest_keep f a d (f k) m (omega arith), scan_stay f a d k m (omega arith)) (lowest_scan f a d k)))
    (λ n. rw (lowest_end f a (suc d) (f k) (omega arith), scan_end f a (suc d) k (omega arith)))

pub lowest_same : (f g : ℕ → ℕ) (a c x : ℕ) → ((d : ℕ) → a ≤ d → d < c → f (suc d) ≡ g (suc d)) → lowest f a c x ≡ lowest g a c x
lowest_same f g a zero x e = rw (lowest_end f a 0 x (omega arith), lowest_end g a 0 x (omega arith))
lowest_same f g a (suc d) x e =
    by_cases
    (dec_le a d)
    (λ m. rw (lowest_turn f a d x m, lowest_turn g a d x m, e d m (omega arith)) (lowest_same f g a d (lower x (g (suc d))) (λ i h l. e i h (omega arith))))
    (λ n. rw (lowest_end f a (suc d) x (omega arith), lowest_end g a (suc d) x (omega arith)))
