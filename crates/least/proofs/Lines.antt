-- Functions that are the lower edge of lines: what keeps them so, and what two of their values say of all the others.
use Prim.Native.Nat.{ℕ, zero, suc, ◌+◌, ◌-◌, ◌*◌, ◌≤◌, ◌<◌}
use native.Mathlib.Omega.{arith}
use native.Mathlib.Decide.{dec_le, dec_lt}
use native.Mathlib.Nat.{mul-le-mul_left, mul-le-mul_right, le_refl}
use mathlib.Core.Path.{◌≡◌, refl, sym, ◌∙◌}
use mathlib.Core.Logic.{by_cases}
use lib.Dec.{ltb}
use borrow.Author.Tests.{le-leb, lt-leb, lt-ltb, le-ltb}
use Rattle.least.specs.Recurrence.{lower, lowest}
use Rattle.least.specs.Slopes.{Support, Supported}
use Rattle.least.proofs.Scan.{lowest_end, lowest_turn}

-- Two lines: not above the other at 0 and at j, a line is not above it between.
steeper_between : (p e q m s j : ℕ) → p + (m + e) * j ≤ q + m * j → s ≤ j → p + (m + e) * s ≤ q + m * s
steeper_between p e q m s j h l = omega (arith, mul-le-mul_left e l)

pub lines_between : (p d q m s j : ℕ) → p ≤ q → p + d * j ≤ q + m * j → s ≤ j → p + d * s ≤ q + m * s
lines_between p d q m s j h k l =
    by_cases
    (dec_le d m)
    (λ g. omega (arith, mul-le-mul_right s g))
    (λ g. let e : d ≡ m + (d - m) = omega arith in rw e (steeper_between p (d - m) q m s j (rw e at k) l))

-- The lower of two numbers.
pub lower_first : (x y : ℕ) → x ≤ y → lower x y ≡ x
lower_first x y h = rw (le-ltb y x h)

pub lower_second : (x y : ℕ) → y < x → lower x y ≡ y
lower_second x y h = rw (lt-ltb y x h)

pub lower_below_first : (x y : ℕ) → lower x y ≤ x
lower_below_first x y = by_cases (dec_lt y x) (λ h. rw (lower_second x y h) (omega arith)) (λ h. rw (lower_first x y (omega arith)) (omega arith))

pub lower_below_second : (x y : ℕ) → lower x y ≤ y
lower_below_second x y = by_cases (dec_lt y x) (λ h. rw (lower_second x y h) (omega arith)) (λ h. rw (lower_first x y (omega arith)) (omega arith))

-- Lines, sums, the lower of two, a later beginning: all are supported.
pub supported_line : (p d n : ℕ) → Supported (λ s. p + d * s) n
supported_line p d n s l = record { start = p; slope = d; meets = refl; above = λ t h. le_refl (p + d * t) }

pub supported_sum : (f g : ℕ → ℕ) (n : ℕ) → Supported f n → Supported g n → Supported (λ s. f s + g s) n
supported_sum f g n x y s l =
    let u = x s l in
    let v = y s l in
    record {
      start = u.start + v.start;
      slope = u.slope + v.slope;
      meets = omega (arith, u.meets, v.meets);
      above = λ t h. omega (arith, u.above t h, v.above t h);
    }

pub supported_lower : (f g : ℕ → ℕ) (n : ℕ) → Supported f n → Supported g n → Supported (λ s. lower (f s) (g s)) n
supported_lower f g n x y s l =
    by_cases
    (dec_lt (g s) (f s))
    (λ h.
    let v = y s l in
    record {
      start = v.start;
      slope = v.slope;
      meets = lower_second (f s) (g s) h ∙ v.meets;
      above = λ t k. omega (arith, lower_below_second (f t) (g t), v.above t k);
    })
    (λ h.
    let u = x s l in
    record {
      start = u.start;
      slope = u.slope;
      meets = lower_first (f s) (g s) (omega arith) ∙ u.meets;
      above = λ t k. omega (arith, lower_below_first (f t) (g t), u.above t k);
    })

pub supported_from : (f : ℕ → ℕ) (i n : ℕ) → Supported f (i + n) → Supported (λ s. f (i + s)) n
supported_from f i n x s l =
    let u = x (i + s) (omega arith) in
    record {
      start = u.start + u.slope * i;
      slope = u.slope;
      meets = omega (arith, u.meets);
      above = λ t h. omega (arith, u.above (i + t) (omega arith));
    }

pub supported_same : (f g : ℕ → ℕ) (n : ℕ) → ((s : ℕ) → s < n → f s ≡ g s) → Supported f n → Supported g n
supported_same f g n e x s l =
    let u = x s l in
    record {
      start = u.start;
      slope = u.slope;
      meets = sym (e s l) ∙ u.meets;
      above = λ t h. omega (arith, e t h, u.above t h);
    }

pub supported_lowest : (f : ℕ → ℕ → ℕ) (x : ℕ → ℕ) (a c n : ℕ) → Supported x n → ((d : ℕ) → a ≤ d → d < c → Supported (λ s. f s (suc d)) n) → Supported (λ s. lowest (f s) a c (x s)) n
supported_lowest f x a zero n u v = supported_same x (λ s. lowest (f s) a 0 (x s)) n (λ s l. sym (lowest_end (f s) a 0 (x s) (omega arith))) u
supported_lowest f x a (suc c) n u v =
    by_cases
    (dec_le a c)
    (λ h.
    supported_same (λ s. lowest (f s) a c (lower (x s) (f s (suc c)))) (λ s. lowest (f s) a (suc c) (x s)) n
    (λ s l. sym (lowest_turn (f s) a c (x s) h))
    (supported_lowest f (λ s. lower (x s) (f s (suc c))) a c n (supported_lower x (λ s. f s (suc c)) n u (v c h (omega arith))) (λ d k m. v d k (omega arith))))
    (λ h. supported_same x (λ s. lowest (f s) a (suc c) (x s)) n (λ s l. sym (lowest_end (f s) a (suc c) (x s) (omega arith))) u)

module _ (f : ℕ → ℕ) (n : ℕ) (x : Supported f n) where
  -- It rises.
  pub supported_rises : (s t : ℕ) → s ≤ t → t < n → f s ≤ f t
  supported_rises s t h l = let u = x t l in omega (arith, u.meets, u.above s (omega arith), mul-le-mul_left u.slope h)

  -- Tangent: its first step is its longest.
  tangent_from_one : (d s r m : ℕ) → f 1 ≡ f 0 + d → f 1 ≡ r + m * 1 → f 0 ≤ r → f (suc s) ≤ r + m * suc s → f (suc s) ≤ f 0 + d * suc s
  tangent_from_one d s r m e e' h k = let l : m ≤ d = omega arith in omega (arith, mul-le-mul_right s l)

  pub below_tangent : (d s : ℕ) → f 1 ≡ f 0 + d → 1 < n → s < n → f s ≤ f 0 + d * s
  below_tangent d zero e h l = omega arith
  below_tangent d (suc s) e h l = let u = x 1 h in tangent_from_one d s u.start u.slope e u.meets (omega (arith, u.above 0 (omega arith))) (u.above (suc s) l)

  -- Chord: not below a line at 0 and at j, it is not below it between.
  pub above_chord : (p d s j : ℕ) → p ≤ f 0 → p + d * j ≤ f j → s ≤ j → j < n → p + d * s ≤ f s
  above_chord p d s j h k l m =
      let u = x s (omega arith) in
      rw u.meets (lines_between p d u.start u.slope s j (omega (arith, u.above 0 (omega arith))) (omega (arith, u.above j m)) l)

-- Near: by the tangent of f and the chord of g, f is not above g up to j.
pub never_above_near : (f g : ℕ → ℕ) (n d j s : ℕ) → Supported f n → Supported g n → f 1 ≡ f 0 + d → f 0 ≤ g 0 → f 0 + d * j ≤ g j → 1 < n → j < n → s ≤ j → f s ≤ g s
never_above_near f g n d j s x y e h k o m l = omega (arith, below_tangent f n x d s e o (omega arith), above_chord g n y (f 0) d s j h k l m)

-- Far: by the tangent of f and the slope at which g rises at the least, f is not above g up to the end.
pub never_above_far : (f g : ℕ → ℕ) (n d b m s : ℕ) → Supported f n → Supported g n → f 1 ≡ f 0 + d → f 0 ≤ b + g 0 → f 0 + d * (n - 1) ≤ b + g 0 + m * (n - 1) → 1 < n → s < n → f s ≤ b + m * s + g s
never_above_far f g n d b m s x y e h k o l =
    omega (arith, below_tangent f n x d s e o l, lines_between (f 0) d (b + g 0) m s (n - 1) h k (omega arith), supported_rises g n y 0 s (omega arith) l)
