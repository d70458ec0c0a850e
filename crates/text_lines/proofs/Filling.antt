-- Two rows filled from lines of pairs, and one row from lines of any kind.
use Prim.Native.Nat.{ℕ, zero, suc, ◌+◌, ◌≤◌, ◌<◌}
use mathlib.Core.Path.{◌≡◌, refl, ap, ◌∙◌}
use mathlib.Core.Bool.{false}
use mathlib.Core.List.{List, [], ◌∷◌, ◌++◌}
use native.Mathlib.Omega.{arith}
use native.Mathlib.Numerals.{add-one}
use lib.ListN.{length, drop, set, length-append, length-drop}
use lib.Seq.{drop-cons, set_at, append_snoc}
use Rattle.text_lines.specs.Lines.{line_of, line_after, is_pair_line, first_in, second_in, each_of, first_bad_of, filled_row, held_in, pairs_filled}
use Rattle.text_lines.specs.Found.{PairAt, PairsRead}
use Rattle.text_lines.proofs.Passing.{LinesSeen, lines_none, line_seen, line_bad_here, lines_passed}

pub length_each : (value : ℕ → ℕ) (n : ℕ) → length (each_of value n) ≡ n
unfolding each_of
length_each value zero = refl
length_each value (suc n) = length-append (each_of value n) (value n ∷ []) ∙ rw (length_each value n, add-one)

-- One value more in its place.
each_more : (value : ℕ → ℕ) (n : ℕ) (row : List ℕ) → n < length row → set (each_of value n ++ drop n row) n (value n) ≡ each_of value (n + 1) ++ drop (n + 1) row
unfolding each_of
each_more value n row l =
    rw (drop-cons row n 0 l, set_at (each_of value n) _ (drop (suc n) row) (value n) n (length_each value n), add-one, append_snoc)

pub length_row : (value : ℕ → ℕ) (n : ℕ) (row : List ℕ) → n ≤ length row → length (each_of value n ++ drop n row) ≡ length row
length_row value n row l = length-append (each_of value n) (drop n row) ∙ rw (length_each value n, length-drop n row) (omega arith)

-- A row that holds the values of the lines so far: its length, the same when all are filled, and with one value more.
module _ (value : List ℕ → ℕ) (text row₀ : List ℕ) (count : ℕ) (room : count ≤ length row₀) (i : ℕ) (few : i ≤ count) (row : List ℕ)
    (is : row ≡ filled_row value text i row₀) where
  pub row_long : length row ≡ length row₀
  row_long = rw is (length_row (λ j. value (line_after j text)) i row₀ (omega (arith, room, few)))

  pub row_filled : count ≤ i → row ≡ filled_row value text count row₀
  row_filled l = let e : i ≡ count = omega (arith, few) in rw e at is

  pub row_more : i < count → (v : ℕ) → v ≡ value (line_after i text) → set row i v ≡ filled_row value text (i + 1) row₀
  row_more l v v-is = rw (is, v-is) (each_more (λ j. value (line_after j text)) i row₀ (omega (arith, room)))

-- Before the line at an index: the rows hold the pairs so far, and what is left of the text is at hand.
pub record Filling (key text : List ℕ) (at most : ℕ) (firsts₀ seconds₀ : List ℕ) (next i : ℕ) (firsts seconds : List ℕ) : Type 0 where
  pub seen : LinesSeen (is_pair_line key) text at most next i
  pub left : firsts ≡ filled_row (first_in key) (drop at text) i firsts₀
  pub right : seconds ≡ filled_row (second_in key) (drop at text) i seconds₀

module _ (key text : List ℕ) (at count most : ℕ) (firsts₀ seconds₀ : List ℕ) (held : most ≡ held_in count firsts₀ seconds₀) where
  room : most ≤ length firsts₀
  room = omega (arith, held)

  space : most ≤ length seconds₀
  space = omega (arith, held)

  pub filling_none : (start : ℕ) → start ≤ length text → drop start text ≡ drop at text → Filling key text at most firsts₀ seconds₀ start 0 firsts₀ seconds₀
  unfolding each_of
  filling_none start l e = record { seen = lines_none (is_pair_line key) text at most start l e; left = refl; right = refl }

  module _ (next i : ℕ) (firsts seconds : List ℕ) (p : Filling key text at most firsts₀ seconds₀ next i firsts seconds) where
    pub left_long : length firsts ≡ length firsts₀
    left_long = row_long (first_in key) (drop at text) firsts₀ most room i p.seen.few firsts p.left

    pub right_long : length seconds ≡ length seconds₀
    right_long = row_long (second_in key) (drop at text) seconds₀ most space i p.seen.few seconds p.right

    -- Both rows have an entry for the line.
    pub left_in : i < most → i < length firsts
    left_in l = omega (arith, l, room, left_long)

    pub pair_filled : i < most → (a b after : ℕ) → PairAt key text next a b after → Filling key text at most firsts₀ seconds₀ after (i + 1) (set firsts i a) (set seconds i b)
    pair_filled l a b after q =
        let line = ap line_of p.seen.rest in
        record {
          seen = line_seen (is_pair_line key) text at most next i p.seen l after q.passed;
          left = row_more (first_in key) (drop at text) firsts₀ most room i p.seen.few firsts p.left l a (q.left ∙ ap (first_in key) line);
          right = row_more (second_in key) (drop at text) seconds₀ most space i p.seen.few seconds p.right l b (q.right ∙ ap (second_in key) line);
        }

    all_read : pairs_filled key (drop at text) count firsts₀ seconds₀ ≡ i → PairsRead key text at count firsts₀ seconds₀ firsts seconds
    all_read e = record { left = rw e p.left; right = rw e p.right }

    -- A line that is no pair, and the end.
    pub stopped : i < most → is_pair_line key (line_of (drop next text)) ≡ false → PairsRead key text at count firsts₀ seconds₀ firsts seconds
    unfolding pairs_filled
    stopped l bad =
        let first : first_bad_of (is_pair_line key) most (drop at text) ≡ suc i = (line_bad_here (is_pair_line key) text at most next i p.seen l bad).first ∙ add-one i in
        all_read (rw (← held, first))

    pub ended : most ≤ i → PairsRead key text at count firsts₀ seconds₀ firsts seconds
    unfolding pairs_filled
    ended l =
        let q = lines_passed (is_pair_line key) text at most next i p.seen l in
        let e : most ≡ i = omega (arith, p.seen.few) in
        all_read (rw (← held, q.none) e)

-- Lines that are all pairs, and rows with entries for them.
pub record PairsReady (key text : List ℕ) (at count : ℕ) (firsts seconds : List ℕ) : Type 0 where
  pub none : first_bad_of (is_pair_line key) count (drop at text) ≡ 0
  pub room : count ≤ length firsts
  pub space : count ≤ length seconds

-- All of them go into the rows.
pub pairs_read : (key text : List ℕ) (at count : ℕ) (firsts seconds : List ℕ) → PairsReady key text at count firsts seconds → (firsts' seconds' : List ℕ)
    → PairsRead key text at count firsts seconds firsts' seconds'
    → (firsts' ≡ filled_row (first_in key) (drop at text) count firsts) × (seconds' ≡ filled_row (second_in key) (drop at text) count seconds)
unfolding pairs_filled
pairs_read key text at count firsts seconds ready firsts' seconds' p =
    let held : held_in count firsts seconds ≡ count = omega (arith, ready.room, ready.space) in
    let all : pairs_filled key (drop at text) count firsts seconds ≡ count = rw (held, ready.none) in
    (rw all at p.left, rw all at p.right)
