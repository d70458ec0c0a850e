-- Sums over stops: `W f n` over the indices below n, `win f a b` over the window (a, b], which is empty where b ≤ a.
-- Each with its step, its split and its congruence.
use Prim.Native.Nat.{ℕ, zero, suc, ◌+◌, ◌*◌, ◌≤◌, ◌<◌}
use native.Mathlib.Omega.{arith}
use native.Mathlib.Decide.{dec_le, dec_lt}
use mathlib.Core.Path.{◌≡◌, refl, ap}
use mathlib.Core.Bool.{cond}
use mathlib.Core.Logic.{by_cases}
use lib.Dec.{leb}
use borrow.Author.Tests.{le-leb, lt-leb}
use Rattle.least.specs.Recurrence.{W}

pub W-zero : (f : ℕ → ℕ) → W f 0 ≡ 0
unfolding W
W-zero f = refl

pub W-suc : (f : ℕ → ℕ) (n : ℕ) → W f (suc n) ≡ W f n + f n
unfolding W
W-suc f n = refl

-- The same from the other end, and term by term.
pub W-front : (f : ℕ → ℕ) (n : ℕ) → W f (suc n) ≡ f 0 + W (λ i. f (suc i)) n
unfolding W
W-front f zero = omega arith
W-front f (suc n) = omega (arith, W-front f n)

pub W-same : (f g : ℕ → ℕ) (n : ℕ) → ((i : ℕ) → i < n → f i ≡ g i) → W f n ≡ W g n
unfolding W
W-same f g zero h = refl
W-same f g (suc n) h = omega (arith, W-same f g n (λ i l. h i (omega arith)), h n (omega arith))

pub W-below : (f g : ℕ → ℕ) (n : ℕ) → ((i : ℕ) → i < n → f i ≤ g i) → W f n ≤ W g n
unfolding W
W-below f g zero h = omega arith
W-below f g (suc n) h = omega (arith, W-below f g n (λ i l. h i (omega arith)), h n (omega arith))

-- Two sums added, and sums of which no term counts, or one.
pub W-add : (f g : ℕ → ℕ) (n : ℕ) → W (λ i. f i + g i) n ≡ W f n + W g n
W-add f g zero = omega (arith, W-zero (λ i. f i + g i), W-zero f, W-zero g)
W-add f g (suc n) = omega (arith, W-suc (λ i. f i + g i) n, W-suc f n, W-suc g n, W-add f g n)

pub W-none : (f : ℕ → ℕ) (n : ℕ) → ((i : ℕ) → i < n → f i ≡ 0) → W f n ≡ 0
W-none f zero h = W-zero f
W-none f (suc n) h = omega (arith, W-suc f n, W-none f n (λ i l. h i (omega arith)), h n (omega arith))

pub W-one : (f : ℕ → ℕ) (m n : ℕ) → m < n → ((i : ℕ) → (i ≡ m → ⊥) → f i ≡ 0) → W f n ≡ f m
W-one f m zero l h = absurd (omega arith)
W-one f m (suc n) l h =
    let before = W-one f m n in
    by_cases
    (dec_lt m n)
    (λ k. omega (arith, W-suc f n, before k h, h n (λ e. omega arith)))
    (λ k.
    let e : n ≡ m = omega arith in
    omega (arith, W-suc f n, W-none f n (λ i b. h i (λ q. omega arith)), ap f e))

unfoldable pub win : (ℕ → ℕ) → ℕ → ℕ → ℕ
win f a zero = 0
win f a (suc b) = cond (leb a b) (win f a b + f (suc b)) 0

pub win_none : (f : ℕ → ℕ) (a b : ℕ) → b ≤ a → win f a b ≡ 0
unfolding win
win_none f a zero h = refl
win_none f a (suc b) h = rw (lt-leb a b h)

pub win_step : (f : ℕ → ℕ) (a b : ℕ) → a ≤ b → win f a (suc b) ≡ win f a b + f (suc b)
unfolding win
win_step f a b h = rw (le-leb a b h)

-- The prefix up to the window's last stop is the prefix up to its left edge and the window.
pub W-win : (f : ℕ → ℕ) (a b : ℕ) → a ≤ b → W f (suc b) ≡ W f (suc a) + win f a b
W-win f a zero h = let e : a ≡ 0 = omega arith in rw e (omega (arith, win_none f 0 0 (omega arith)))
W-win f a (suc b) h =
    by_cases
    (dec_le a b)
    (λ l. omega (arith, W-suc f (suc b), win_step f a b l, W-win f a b l))
    (λ n. let e : a ≡ suc b = omega arith in rw e (omega (arith, win_none f (suc b) (suc b) (omega arith))))

pub W-rises : (f : ℕ → ℕ) (i j : ℕ) → i ≤ j → W f i ≤ W f j
W-rises f i zero h = let e : i ≡ 0 = omega arith in rw e (omega arith)
W-rises f i (suc j) h =
    by_cases (dec_le i j) (λ l. omega (arith, W-suc f j, W-rises f i j l)) (λ n. let e : i ≡ suc j = omega arith in rw e (omega arith))

-- The terms that a rising map picks are no more than all.
pub W-part : (f φ : ℕ → ℕ) (n' n : ℕ) → ((i j : ℕ) → i < j → j < n' → φ i < φ j) → ((i : ℕ) → i < n' → φ i < n) → W (λ i. f (φ i)) n' ≤ W f n
unfolding W
W-part f φ zero n rises top = omega arith
W-part f φ (suc n') n rises top =
    omega (
      arith,
      W-part f φ n' (φ n') (λ i j h l. rises i j h (omega arith)) (λ i h. rises i n' h (omega arith)),
      W-suc f (φ n'),
      W-rises f (suc (φ n')) n (top n' (omega arith)),
    )

-- A window and what is left of it are no more than the prefix.
pub win_within : (f : ℕ → ℕ) (a b : ℕ) → a ≤ suc b → W f a + win f a b ≤ W f (suc b)
win_within f a b h =
    by_cases
    (dec_le a b)
    (λ l. omega (arith, W-suc f a, W-win f a b l))
    (λ n. let e : a ≡ suc b = omega arith in rw e (omega (arith, win_none f (suc b) b (omega arith))))

pub win_most : (f : ℕ → ℕ) (a b : ℕ) → win f a b ≤ W f (suc b)
win_most f a b = by_cases (dec_le a b) (λ l. omega (arith, win_within f a b (omega arith))) (λ n. omega (arith, win_none f a b (omega arith)))

pub W-first : (f : ℕ → ℕ) (n : ℕ) → W f (suc n) ≡ f 0 + win f 0 n
W-first f n = omega (arith, W-win f 0 n (omega arith), W-suc f 0, W-zero f)

pub win_split : (f : ℕ → ℕ) (a m b : ℕ) → a ≤ m → m ≤ b → win f a b ≡ win f a m + win f m b
win_split f a m b h l = omega (arith, W-win f a m h, W-win f m b l, W-win f a b (omega arith))

pub win_first : (f : ℕ → ℕ) (a b : ℕ) → a < b → win f a b ≡ f (suc a) + win f (suc a) b
win_first f a b h = omega (arith, W-win f a b (omega arith), W-win f (suc a) b h, W-suc f (suc a))

pub win_same : (f g : ℕ → ℕ) (a b : ℕ) → ((i : ℕ) → a < i → i ≤ b → f i ≡ g i) → win f a b ≡ win g a b
win_same f g a zero e = omega (arith, win_none f a 0 (omega arith), win_none g a 0 (omega arith))
win_same f g a (suc b) e =
    by_cases
    (dec_le a b)
    (λ l. omega (arith, win_step f a b l, win_step g a b l, e (suc b) (omega arith) (omega arith), win_same f g a b (λ i h k. e i h (omega arith))))
    (λ n. omega (arith, win_none f a (suc b) (omega arith), win_none g a (suc b) (omega arith)))

-- Where each term moves by a multiple of a weight, the sum moves by that multiple of the weights' sum.
pub win_shift : (f g c : ℕ → ℕ) (y y' a b : ℕ) → ((i : ℕ) → a < i → i ≤ b → g i + y * c i ≡ f i + y' * c i) → win g a b + y * win c a b ≡ win f a b + y' * win c a b
win_shift f g c y y' a zero e = rw (win_none f a 0 (omega arith), win_none g a 0 (omega arith), win_none c a 0 (omega arith)) (omega arith)
win_shift f g c y y' a (suc b) e =
    by_cases
    (dec_le a b)
    (λ l. rw (win_step f a b l, win_step g a b l, win_step c a b l) (omega (arith, e (suc b) (omega arith) (omega arith), win_shift f g c y y' a b (λ i h k. e i h (omega arith)))))
    (λ n. rw (win_none f a (suc b) (omega arith), win_none g a (suc b) (omega arith), win_none c a (suc b) (omega arith)) (omega arith))
