-- How long the detours of a plan can be, all together: by their number, and by the number of those that are of more than one stop. Every detour has its
-- own start and its own end, so there are at least as many stops.
use Prim.Native.Nat.{ℕ, zero, suc, ◌+◌, ◌-◌, ◌*◌, ◌≤◌, ◌<◌}
use native.Mathlib.Omega.{arith}
use native.Mathlib.Decide.{dec_le}
use native.Mathlib.Nat.{mul-le-mul, le_refl}
use mathlib.Core.Path.{◌≡◌, refl}
use mathlib.Core.Bool.{cond}
use mathlib.Core.Logic.{by_cases}
use lib.Dec.{leb}
use borrow.Author.Tests.{le-leb, lt-leb}
use Rattle.least.specs.Recurrence.{Plan, empty, skip, detour}
use Rattle.least.proofs.Plan.{Over, lagAfter}
use Rattle.least.proofs.Times.{Spaced}

-- The detours of a plan; those of more than one stop.
unfoldable pub many : Plan → ℕ
many empty = 0
many (skip p) = many p
many (detour d inner rest) = 1 + many inner + many rest

unfoldable pub wide : Plan → ℕ → ℕ
wide empty b = 0
wide (skip p) zero = 0
wide (skip p) (suc b) = wide p b
wide (detour d inner rest) zero = 0
wide (detour d inner rest) (suc b) = cond (leb b d) 0 1 + wide inner b + wide rest d

-- A plan over no stops has none.
none_many : (p : Plan) (a b : ℕ) → Over p a b → b ≤ a → many p ≡ 0
unfolding many
none_many empty a b o l = refl
none_many (skip p) a zero o l = absurd o
none_many (skip p) a (suc b) o l = absurd (omega (arith, o.0))
none_many (detour d inner rest) a zero o l = absurd o
none_many (detour d inner rest) a (suc b) o l = absurd (omega (arith, o.0, o.1))

none_wide : (p : Plan) (a b : ℕ) → Over p a b → b ≤ a → wide p b ≡ 0
unfolding wide
none_wide empty a b o l = refl
none_wide (skip p) a zero o l = absurd o
none_wide (skip p) a (suc b) o l = absurd (omega (arith, o.0))
none_wide (detour d inner rest) a zero o l = absurd o
none_wide (detour d inner rest) a (suc b) o l = absurd (omega (arith, o.0, o.1))

-- Each detour takes a stop, and one of more than one stop two.
pub stops_taken : (p : Plan) (a b : ℕ) → Over p a b → many p + wide p b ≤ b - a
unfolding many wide
stops_taken empty a b o = omega arith
stops_taken (skip p) a zero o = absurd o
stops_taken (skip p) a (suc b) o = omega (arith, stops_taken p a b o.1, o.0)
stops_taken (detour d inner rest) a zero o = absurd o
stops_taken (detour d inner rest) a (suc b) o =
    by_cases (dec_le b d)
    (λ h. rw (le-leb b d h) (omega (arith, none_many inner (suc d) b o.2 (omega arith), none_wide inner (suc d) b o.2 (omega arith), stops_taken rest a d o.3, o.0, o.1)))
    (λ h. rw (lt-leb b d (omega arith)) (omega (arith, stops_taken inner (suc d) b o.2, stops_taken rest a d o.3, o.0, o.1)))

-- A detour of length at most s₁ round x of them, and y more in s₂: no more than all of them could be, one inside the other, in s₁ + s₂.
squares : (len x y s₁ s₂ si fi fr : ℕ) → len ≤ s₁ → x * si + 2 * x ≤ x * s₁ → fi + x * x ≤ x * si + x → fr + y * y ≤ y * s₂ + y → 1 + x ≤ s₁ → y ≤ s₂
    → len + fi + fr + (1 + x + y) * (1 + x + y) ≤ (1 + x + y) * (s₁ + s₂) + (1 + x + y)
squares len x y s₁ s₂ si fi fr l inside a b few more =
    let across : y * (1 + x) ≤ y * s₁ = mul-le-mul (le_refl y) few in
    let along : x * y ≤ x * s₂ = mul-le-mul (le_refl x) more in
    omega arith

inner_room : (x s t : ℕ) → s + 2 ≤ t → x * s + 2 * x ≤ x * t
inner_room x s t l = let m : x * (s + 2) ≤ x * t = mul-le-mul (le_refl x) l in omega arith

module _ (L R : ℕ → ℕ) (U : ℕ) where
  -- The lengths of a plan's detours, added.
  unfoldable pub spans : Plan → ℕ → ℕ
  spans empty b = 0
  spans (skip p) zero = 0
  spans (skip p) (suc b) = spans p b
  spans (detour d inner rest) zero = 0
  spans (detour d inner rest) (suc b) = R (suc b) - L (suc d) + spans inner b + spans rest d

  none_span : (p : Plan) (a b : ℕ) → Over p a b → b ≤ a → spans p b ≡ 0
  unfolding spans
  none_span empty a b o l = refl
  none_span (skip p) a zero o l = absurd o
  none_span (skip p) a (suc b) o l = absurd (omega (arith, o.0))
  none_span (detour d inner rest) a zero o l = absurd o
  none_span (detour d inner rest) a (suc b) o l = absurd (omega (arith, o.0, o.1))

  -- The lag that they leave.
  pub lag_by_spans : (p : Plan) (a b y : ℕ) → Over p a b → lagAfter L R U p b y ≡ y + 2 * (many p * U + spans p b)
  unfolding lagAfter many spans
  lag_by_spans empty a b y o = omega arith
  lag_by_spans (skip p) a zero y o = absurd o
  lag_by_spans (skip p) a (suc b) y o = lag_by_spans p a b y o.1
  lag_by_spans (detour d inner rest) a zero y o = absurd o
  lag_by_spans (detour d inner rest) a (suc b) y o = omega (arith, lag_by_spans inner (suc d) b y o.2, lag_by_spans rest a d (lagAfter L R U inner b y + 2 * (U + (R (suc b) - L (suc d)))) o.3)

  -- Of stops that do not overlap.
  module _ (n : ℕ) (spaced : Spaced L R n) (apart : (i : ℕ) → i < n → R i ≤ L (suc i)) where
    -- Ends rise by at least one from stop to stop.
    ends_rise_here : (i j : ℕ) → i ≤ j → j ≤ n → R i + (j - i) ≤ R j
    ends_rise_here i zero l h = let e : i ≡ 0 = omega arith in rw e (omega arith)
    ends_rise_here i (suc j) l h =
        let before = ends_rise_here i j in
        by_cases (dec_le i j)
        (λ k. omega (arith, before k (omega arith), spaced.ends j h))
        (λ k. let e : i ≡ suc j = omega arith in rw e (omega arith))

    ends_up : (i j : ℕ) → i ≤ j → j ≤ n → R i ≤ R j
    ends_up i j l h = omega (arith, ends_rise_here i j l h)

    end_next : (i : ℕ) → i < n → R i < R (suc i)
    end_next i h = spaced.ends i h

    -- Inside a detour there is less room by two.
    room_inside : (d b : ℕ) → d < b → suc b ≤ n → R b - R (suc d) + 2 ≤ R (suc b) - R d
    room_inside d b l h = omega (arith, end_next d (omega arith), ends_up (suc d) b l (omega arith), end_next b h)

    -- Detours of more than one stop are each no longer than the window; those of one stop are not, all together.
    pub spans_wide : (p : Plan) (a b X : ℕ) → Over p a b → b ≤ n → R b ≤ R a + X → spans p b ≤ wide p b * X + (R b - R a)
    unfolding spans wide
    spans_wide empty a b X o top x = omega arith
    spans_wide (skip p) a zero X o top x = absurd o
    spans_wide (skip p) a (suc b) X o top x =
        let up = ends_up b (suc b) (omega arith) top in
        omega (arith, spans_wide p a b X o.1 (omega arith) (omega arith))
    spans_wide (detour d inner rest) a zero X o top x = absurd o
    spans_wide (detour d inner rest) a (suc b) X o top x =
        let low = ends_up a d o.0 (omega (arith, o.1)) in
        let next = apart d (omega (arith, o.1)) in
        let high = ends_up d (suc b) (omega (arith, o.1)) top in
        let after = spans_wide rest a d X o.3 (omega (arith, o.1)) (omega arith) in
        by_cases (dec_le b d)
        (λ h.
        let one : b ≡ d = omega (arith, o.1) in
        let own : L (suc d) ≤ R (suc b) = rw one (omega (arith, spaced.extends (suc d) (omega arith))) in
        rw (le-leb b d h, none_wide inner (suc d) b o.2 (omega arith), none_span inner (suc d) b o.2 (omega arith)) (omega arith))
        (λ h.
        let up = end_next d (omega arith) in
        let on = ends_up (suc d) b (omega arith) (omega arith) in
        let last = end_next b top in
        rw (lt-leb b d (omega arith)) (omega (arith, spans_wide inner (suc d) b X o.2 (omega arith) (omega arith))))

    -- So many detours are longest where each lies inside the next.
    pub spans_many : (p : Plan) (a b : ℕ) → Over p a b → b ≤ n → spans p b + many p * many p ≤ many p * (R b - R a) + many p
    unfolding spans many
    spans_many empty a b o top = omega arith
    spans_many (skip p) a zero o top = absurd o
    spans_many (skip p) a (suc b) o top =
        let up = ends_rise_here b (suc b) (omega arith) top in
        let wider : many p * (R b - R a) ≤ many p * (R (suc b) - R a) = mul-le-mul (le_refl (many p)) (omega arith) in
        omega (arith, spans_many p a b o.1 (omega arith))
    spans_many (detour d inner rest) a zero o top = absurd o
    spans_many (detour d inner rest) a (suc b) o top =
        let low = ends_rise_here a d o.0 (omega (arith, o.1)) in
        let next = apart d (omega (arith, o.1)) in
        let high = ends_rise_here d (suc b) (omega (arith, o.1)) top in
        let all : R (suc b) - R a ≡ (R (suc b) - R d) + (R d - R a) = omega arith in
        rw all
        (squares (R (suc b) - L (suc d)) (many inner) (many rest) (R (suc b) - R d) (R d - R a) (R b - R (suc d)) (spans inner b) (spans rest d)
        (omega arith)
        (by_cases (dec_le b d)
        (λ h. rw (none_many inner (suc d) b o.2 (omega arith)) (omega arith))
        (λ h. inner_room (many inner) (R b - R (suc d)) (R (suc b) - R d) (room_inside d b (omega arith) top)))
        (spans_many inner (suc d) b o.2 (omega arith))
        (spans_many rest a d o.3 (omega (arith, o.1)))
        (omega (arith, stops_taken inner (suc d) b o.2, o.1))
        (omega (arith, stops_taken rest a d o.3)))
