-- Products and sums that must fit a word.
use Prim.Native.Nat.{ℕ, zero, suc, ◌+◌, ◌-◌, ◌*◌, ◌≤◌, ◌<◌, ◌^◌}
use native.Mathlib.Omega.{arith}
use native.Mathlib.Nat.{mul-le-mul}
use native.Mathlib.Numerals.{add-one}
use mathlib.Core.Path.{◌≡◌, refl, ap, ◌∙◌}
use mathlib.Core.List.{List, [], ◌∷◌}
use lib.ListN.{length, get_or, take, drop}
use mir.Syntax.{w64}
use mir.Val.{Fits}
use Rattle.runs.specs.Run.{last_place, most_reads, total}
use Rattle.runs.specs.Rows.{counted_reads}
use Rattle.runs.proofs.Accepted.{total_drop, counted_exact}
use Rattle.least.proofs.Sums.{W-zero, W-suc, W-rises}
use Rattle.engine_table.specs.Private.{RowFits, reads_in}

drop_none : (xs : List ℕ) → drop 0 xs ≡ xs
drop_none [] = refl
drop_none (x ∷ xs) = refl

total_parts : (xs : List ℕ) (n : ℕ) → total (take n xs) + total (drop n xs) ≡ total xs
total_parts xs zero = omega (arith, ap (λ ys. total ys) (drop_none xs))
total_parts [] (suc n) = refl
total_parts (x ∷ xs) (suc n) = omega (arith, total_parts xs n)

-- The rows' first words.
module _ (k reads a b : ℕ) (ok : RowFits k reads a b) where
  pub across_small : a * k ≤ 64 * 64
  across_small = let h : a ≤ 64 = omega arith in mul-le-mul h ok.few

  pub row_small : (a * k + b) * (reads + 1) ≤ 4160 * 1025
  row_small =
      let h : a * k + b ≤ 4160 = omega (arith, across_small) in
      let l : reads + 1 ≤ 1025 = omega arith in
      mul-le-mul h l

pub late_small : (d n : ℕ) → d ≤ last_place → n ≤ most_reads → 2 * d * n ≤ 2 * last_place * most_reads
late_small d n h l = let k : 2 * d ≤ 2 * last_place = omega arith in mul-le-mul k l

-- The counts of the first stops, one more, and all.
module _ (counts : List ℕ) where
  pub reads_none : reads_in counts 0 ≡ 0
  unfolding reads_in
  reads_none = W-zero (λ j. get_or counts j 0)

  pub reads_more : (i : ℕ) → reads_in counts (i + 1) ≡ reads_in counts i + get_or counts i 0
  unfolding reads_in
  reads_more i = rw (add-one i) (W-suc (λ j. get_or counts j 0) i)

  -- The first i and the rest make the total.
  reads_split_here : (i : ℕ) → i ≤ length counts → reads_in counts i + total (drop i counts) ≡ total counts
  reads_split_here zero h = omega (arith, reads_none, ap (λ xs. total xs) (drop_none counts))
  reads_split_here (suc i) h =
      let whole : reads_in counts (i + 1) + total (drop (i + 1) counts) ≡ total counts = omega (arith, reads_more i, total_drop counts i h, reads_split_here i (omega arith)) in
      rw (add-one i) at whole

  pub reads_within : (i : ℕ) → i ≤ length counts → reads_in counts i ≤ total counts
  reads_within i h = omega (arith, reads_split_here i h)

  -- The first n counts by themselves are the reads of the first n stops.
  pub reads_of_part : (n : ℕ) → n ≤ length counts → total counts ≤ most_reads → counted_reads (take n counts) ≡ reads_in counts n
  reads_of_part n h small =
      let part : total (take n counts) ≡ reads_in counts n = omega (arith, reads_split_here n h, total_parts counts n) in
      counted_exact (take n counts) (omega (arith, part, reads_within n h)) ∙ part

pub reads_rise : (counts : List ℕ) (i j : ℕ) → i ≤ j → reads_in counts i ≤ reads_in counts j
unfolding reads_in
reads_rise counts i j h = W-rises (λ n. get_or counts n 0) i j h

-- A number below a count of at most 64 stops fits, and so does its place in bytes.
pub stop_fits : (n k : ℕ) → n < k → k ≤ 64 → Fits w64 n
stop_fits n k h few = omega arith

-- It is below the length of a row of as many.
pub in_both : (b k m : ℕ) → b < k → k ≡ m → b < m
in_both b k m h e = omega arith

-- Stops about the one at b + 1.
pub stop_before : (b k : ℕ) → b + 1 < k → b < k
stop_before b k h = omega arith

pub up_to_next : (a b : ℕ) → a ≤ b → a ≤ b + 1
up_to_next a b h = omega arith

pub left_of_lem : (a b k : ℕ) → a ≤ b → b + 1 < k → a < k
left_of_lem a b k h l = omega arith

pub back_from : (c b k : ℕ) → c ≤ b + 1 → b + 1 < k → c - 1 < k
back_from c b k h l = omega arith

-- One back from a number past another.
pub past_some : (e a : ℕ) → e < a → 1 ≤ a
past_some e a h = omega arith

-- A place of the table past so many reads, and past two such counts, fits; so does it in bytes.
pub place_fits : (x y : ℕ) → x + y ≤ 5000000 → Fits w64 (x + y)
place_fits x y h = omega arith

pub place_bytes : (x y : ℕ) → x + y ≤ 5000000 → Fits w64 ((x + y) * 8)
place_bytes x y h = omega arith

pub skip_place_fits : (x y s r m : ℕ) → x + y ≤ 5000000 → s + r ≤ m → m ≤ most_reads → Fits w64 (x + y + s)
skip_place_fits x y s r m h l few = omega arith

pub skip_place_bytes : (x y s r m : ℕ) → x + y ≤ 5000000 → s + r ≤ m → m ≤ most_reads → Fits w64 ((x + y + s) * 8)
skip_place_bytes x y s r m h l few = omega arith

pub within_reads : (s r m : ℕ) → s + r ≤ m → m ≤ most_reads → s ≤ most_reads
within_reads s r m h few = omega arith

-- What is part of a sum that fits.
pub sum_first : (x y : ℕ) → x + y < 2 ^ 64 → x < 2 ^ 64
sum_first x y h = omega arith

pub sum_second : (x y : ℕ) → x + y < 2 ^ 64 → y < 2 ^ 64
sum_second x y h = omega arith
