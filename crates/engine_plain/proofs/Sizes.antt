-- What rows of stops say of sums and products: each fits a word.
use Prim.Native.Nat.{ℕ, zero, suc, ◌+◌, ◌-◌, ◌*◌, ◌≤◌, ◌<◌}
use native.Mathlib.Omega.{arith}
use native.Mathlib.Nat.{mul-le-mul}
use native.Mathlib.Numerals.{add-one}
use mathlib.Core.Path.{◌≡◌, sym, ◌∙◌}
use mathlib.Core.List.{List, [], ◌∷◌}
use lib.ListN.{length, get_or, take}
use Rattle.runs.specs.Run.{last_place, highest_turn, most_reads, total, end_at}
use Rattle.runs.specs.Rows.{counted_reads}
use Rattle.runs.proofs.Accepted.{counted_exact}
use Rattle.least.specs.Recurrence.{W}
use Rattle.least.proofs.Sums.{W-zero, W-suc, W-front, W-rises}
use Rattle.engine_plain.specs.Private.{reads_at, reads_up_to, Laid, EarlyFits, Asked}

-- The first n counts by themselves, and all.
total_first : (xs : List ℕ) (n : ℕ) → n ≤ length xs → total (take n xs) ≡ W (reads_at xs) n
total_first xs zero h = sym (W-zero (reads_at xs))
total_first [] (suc n) h = absurd (omega arith)
total_first (x ∷ xs) (suc n) h = omega (arith, W-front (reads_at (x ∷ xs)) n, total_first xs n (omega arith))

total_part : (xs : List ℕ) (n : ℕ) → total (take n xs) ≤ total xs
total_part xs zero = omega arith
total_part [] (suc n) = omega arith
total_part (x ∷ xs) (suc n) = omega (arith, total_part xs n)

module _ (reads : List ℕ) where
  pub reads_more : (i : ℕ) → reads_up_to reads (i + 1) ≡ reads_up_to reads i + get_or reads i 0
  unfolding reads_up_to
  reads_more i = rw (add-one i) (W-suc (reads_at reads) i)

  pub reads_rise : (i j : ℕ) → i ≤ j → reads_up_to reads i ≤ reads_up_to reads j
  unfolding reads_up_to
  reads_rise i j h = W-rises (reads_at reads) i j h

  reads_first : (n : ℕ) → n ≤ length reads → total (take n reads) ≡ reads_up_to reads n
  unfolding reads_up_to
  reads_first n h = total_first reads n h

  reads_counted : (n : ℕ) → n ≤ length reads → total reads ≤ most_reads → counted_reads (take n reads) ≡ reads_up_to reads n
  reads_counted n h small = counted_exact (take n reads) (omega (arith, total_part reads n)) ∙ reads_first n h

  pub reads_within : (n : ℕ) → n ≤ length reads → reads_up_to reads n ≤ total reads
  reads_within n h = omega (arith, reads_first n h, total_part reads n)

module _ (lefts spans reads : List ℕ) (turn : ℕ) (l : Laid lefts spans reads turn) where
  pub left_near : (i : ℕ) → i < length lefts → get_or lefts i 0 ≤ last_place
  left_near i h = omega (arith, l.near i h)

  pub count_few : (i : ℕ) → i < length lefts → get_or reads i 0 ≤ most_reads
  count_few i h = omega (arith, reads_more reads i, reads_within reads (i + 1) (omega (arith, l.even_reads)), l.few)

pub early_small : (lefts reads : List ℕ) (a b : ℕ) → EarlyFits lefts reads a b → 2 * (get_or lefts b 0 - get_or lefts a 0) * get_or reads b 0 ≤ 2 * last_place * most_reads
early_small lefts reads a b f =
    let far : 2 * (get_or lefts b 0 - get_or lefts a 0) ≤ 2 * last_place = omega (arith, f.near) in
    mul-le-mul far f.few

module _ (lefts spans reads : List ℕ) (turn a b s : ℕ) (q : Asked lefts spans reads turn a b s) where
  pub asked_early : (c : ℕ) → c ≤ b → EarlyFits lefts reads c b
  asked_early c h =
      record {
        within = q.inside;
        even = q.laid.even_reads;
        left = h;
        onward = q.laid.rising c b h q.inside;
        near = left_near lefts spans reads turn q.laid b q.inside;
        few = count_few lefts spans reads turn q.laid b q.inside;
      }

  pub left_counted : a ≤ b → (left : ℕ) → left ≡ counted_reads (take a reads) → left ≡ reads_up_to reads a
  left_counted h left is = is ∙ reads_counted reads a (omega (arith, q.inside, q.laid.even_reads)) q.laid.few

  pub waiting_few : a ≤ b → reads_up_to reads a + s ≤ most_reads
  waiting_few h = omega (arith, q.span, reads_rise reads a (b + 1) (omega arith))

  pub wait_small : a ≤ b → 2 * (turn + (end_at lefts spans b - get_or lefts a 0)) * (reads_up_to reads a + s) ≤ 2 * (highest_turn + last_place) * most_reads
  wait_small h =
      let dear : 2 * (turn + (end_at lefts spans b - get_or lefts a 0)) ≤ 2 * (highest_turn + last_place) = omega (arith, q.laid.cheap, q.laid.near b q.inside) in
      mul-le-mul dear (waiting_few h)
