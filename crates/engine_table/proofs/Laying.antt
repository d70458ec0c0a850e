-- Laying a choice over a row block by block: what the two tests show, that nothing in them wraps, and the loop over the blocks.
use Prim.Native.Nat.{ℕ, ◌+◌, ◌-◌, ◌*◌, ◌≤◌, ◌<◌, ◌^◌}
use mathlib.Core.Path.{◌≡◌, sym, ap, ◌∙◌}
use mathlib.Core.Logic.{inl, inr, ⊎_elim, by_cases}
use mathlib.Core.List.{List}
use native.Mathlib.Omega.{arith}
use native.Mathlib.Decide.{dec_lt}
use native.Mathlib.Nat.{mul-le-mul_left, mul-le-mul_right, add-zero}
use lib.ListN.{get_or}
use Rattle.least.specs.Slopes.{Supported}
use Rattle.least.proofs.Lines.{supported_line, supported_sum, supported_from, supported_same, supported_rises, never_above_near, never_above_far}
use Rattle.engine_table.specs.Private.{Written, Apart, LowerFits, WordFits, Edges, Unlowered, Block, Laid, choice_sum, lowered}
use Rattle.engine_table.proofs.Words.{kept_more, word_apart}

-- Of two words and more: the first, the last, and the last of a block.
pub first_within : (n : ℕ) → 2 ≤ n → 0 < n
first_within n h = omega arith

pub end_within : (n : ℕ) → 2 ≤ n → n - 1 < n
end_within n h = omega arith

pub last_there : (n r : ℕ) → 2 ≤ n → Block n r → 1 ≤ r
last_there n r h b = b.some (omega arith)

pub last_within_lem : (n r : ℕ) → 2 ≤ n → Block n r → r - 1 < n
last_within_lem n r h b = omega (arith, b.within, last_there n r h b)

tangent_small : (old step next j n : ℕ) → next ≡ old + step → j < n → old + step * j ≤ next * n
tangent_small old step next j n e l =
    let h : step ≤ next = omega arith in
    omega (arith, mul-le-mul_right j h, mul-le-mul_left next l)

-- Of no words all stay.
pub none_stay : (cell inner rest base slope n : ℕ) (xs : List ℕ) → Unlowered cell inner rest base slope n xs 0
none_stay cell inner rest base slope n xs = record { within = omega arith; stay = λ s l. absurd (omega arith) }

module _ (cell inner rest base slope n : ℕ) (xs : List ℕ) (ok : LowerFits cell inner rest base slope n xs) where
  pub word_fits : (s : ℕ) → s < n → WordFits inner rest base slope s xs
  word_fits s l = record { inner_in = omega (arith, ok.inner_in); rest_in = omega (arith, ok.rest_in); fits = ok.fits s l }

  -- Two words and more are left: the first, the choice's for it, and the row's step to the second.
  module _ (ed : Edges cell inner rest n xs) (two : 2 ≤ n) where
    abbrev row : ℕ → ℕ
    row s = get_or xs (cell + s) 0

    abbrev sum : ℕ → ℕ
    sum s = get_or xs (inner + s) 0 + get_or xs (rest + s) 0

    abbrev old : ℕ
    old = get_or xs cell 0

    abbrev step : ℕ
    step = get_or xs (cell + 1) 0 - get_or xs cell 0

    first_row_here : row 0 ≡ old
    first_row_here = rw (add-zero cell)

    pub step_up : get_or xs cell 0 ≤ get_or xs (cell + 1) 0
    step_up = omega (arith, first_row_here, supported_rises row n ed.row 0 1 (omega arith) two)

    step_is : row 1 ≡ row 0 + step
    step_is = omega (arith, first_row_here, step_up)

    -- The row's tangent fits, j words further.
    pub tangent_fits : (j : ℕ) → j < n → old + step * j < 2 ^ 64
    tangent_fits j l = omega (arith, tangent_small old step (get_or xs (cell + 1) 0) j n (omega (arith, step_up)) l, ed.times_fit 1 two)

    pub rise_fits : (j : ℕ) → j < n → step * j < 2 ^ 64
    rise_fits j l = omega (arith, tangent_fits j l)

    module _ (new : ℕ) (New-is : new ≡ choice_sum inner rest base slope xs 0) where
      new_sum : new ≡ base + sum 0
      new_sum = omega arith

      -- The choice's line fits, at the end.
      pub line_fits : new + slope * (n - 1) < 2 ^ 64
      line_fits = omega (arith, ok.fits (n - 1) (omega arith), new_sum, supported_rises sum n ed.sum 0 (n - 1) (omega arith) (omega arith))

      pub trips_fit : slope * (n - 1) < 2 ^ 64
      trips_fit = omega (arith, line_fits)

      -- Far: no word that is left is lowered.
      pub all_stay : old ≤ new → old + step * (n - 1) ≤ new + slope * (n - 1) → Unlowered cell inner rest base slope n xs n
      all_stay h k =
          record {
            within = omega arith;
            stay =
                λ s l.
                omega (arith, never_above_far row sum n step base slope s ed.row ed.sum step_is (omega (arith, first_row_here, new_sum, h)) (omega (arith, first_row_here, new_sum, k)) two l);
          }

      choice_edge : Supported (λ s. base + slope * s + sum s) n
      choice_edge = supported_sum (λ s. base + slope * s) sum n (supported_line base slope n) ed.sum

      -- Near: no word up to j is lowered.
      pub block_stays : (j top : ℕ) → j < n → top ≡ choice_sum inner rest base slope xs j → old ≤ new → old + step * j ≤ top → Unlowered cell inner rest base slope n xs (j + 1)
      block_stays j top l e h k =
          record {
            within = omega arith;
            stay =
                λ s m.
                omega (
                  arith,
                  never_above_near row (λ s. base + slope * s + sum s) n step j s ed.row choice_edge step_is (omega (arith, first_row_here, new_sum, h)) (omega (arith, first_row_here, e, k)) two l (omega arith),
                );
          }

-- The blocks so far are laid, i words, and m are left.
module _ (cell inner rest base slope i m : ℕ) (xs ys : List ℕ) (ok : LowerFits cell inner rest base slope (i + m) xs) (w : Written cell i (lowered cell inner rest base slope xs) xs ys) where
  -- A word further right is as it was.
  later_here : (s : ℕ) → get_or ys (cell + i + s) 0 ≡ get_or xs (cell + (i + s)) 0
  later_here s = let e : cell + i + s ≡ cell + (i + s) = omega arith in rw e (w.kept.above (cell + (i + s)) (omega arith))

  later_apart : (p s : ℕ) → Apart p cell (i + m) → s < m → get_or ys (p + i + s) 0 ≡ get_or xs (p + (i + s)) 0
  later_apart p s a l =
      let e : p + i + s ≡ p + (i + s) = omega arith in
      rw e (word_apart p cell (i + m) (i + s) xs ys a (omega arith) (kept_more cell i (i + s) xs ys (omega arith) w.kept))

  later_sum : (s : ℕ) → s < m → base + slope * i + slope * s + get_or ys (inner + i + s) 0 + get_or ys (rest + i + s) 0 ≡ base + slope * (i + s) + get_or xs (inner + (i + s)) 0 + get_or xs (rest + (i + s)) 0
  later_sum s l = omega (arith, later_apart inner s ok.inner_apart l, later_apart rest s ok.rest_apart l)

  pub rest_fits : LowerFits (cell + i) (inner + i) (rest + i) (base + slope * i) slope m ys
  rest_fits =
      record {
        cell_in = omega (arith, ok.cell_in, w.kept.same);
        inner_in = omega (arith, ok.inner_in, w.kept.same);
        rest_in = omega (arith, ok.rest_in, w.kept.same);
        inner_apart = ⊎_elim (λ a. inl (omega arith)) (λ a. inr (omega arith)) ok.inner_apart;
        rest_apart = ⊎_elim (λ a. inl (omega arith)) (λ a. inr (omega arith)) ok.rest_apart;
        wait_fits = omega (arith, ok.wait_fits);
        fits = λ s l. omega (arith, later_sum s l, ok.fits (i + s) (omega arith));
      }

  pub rest_edges : Edges cell inner rest (i + m) xs → Edges (cell + i) (inner + i) (rest + i) m ys
  rest_edges ed =
      record {
        row =
            supported_same (λ s. get_or xs (cell + (i + s)) 0) (λ s. get_or ys (cell + i + s) 0) m (λ s l. sym (later_here s))
            (supported_from (λ s. get_or xs (cell + s) 0) i m ed.row);
        sum =
            supported_same (λ s. get_or xs (inner + (i + s)) 0 + get_or xs (rest + (i + s)) 0) (λ s. get_or ys (inner + i + s) 0 + get_or ys (rest + i + s) 0) m
            (λ s l. omega (arith, later_apart inner s ok.inner_apart l, later_apart rest s ok.rest_apart l))
            (supported_from (λ s. get_or xs (inner + s) 0 + get_or xs (rest + s) 0) i m ed.sum);
        times_fit = λ s l. let h : m ≤ i + m = omega arith in rw (later_here s) (omega (arith, ed.times_fit (i + s) (omega arith), mul-le-mul_left (get_or xs (cell + (i + s)) 0) h));
      }

  module _ (r : ℕ) (zs : List ℕ) (la : Laid (cell + i) (inner + i) (rest + i) (base + slope * i) slope m ys zs r) where
    laid_later_here : (t : ℕ) → t < r → get_or zs (cell + (i + t)) 0 ≡ lowered cell inner rest base slope xs (i + t)
    laid_later_here t l =
        let e : cell + (i + t) ≡ cell + i + t = omega arith in
        ap (λ p. get_or zs p 0) e ∙ la.written.words t l ∙ rw (later_here t, later_sum t (omega (arith, la.within)))

    pub more_laid : Written cell (i + r) (lowered cell inner rest base slope xs) xs zs
    more_laid =
        record {
          kept =
              record {
                same = la.written.kept.same ∙ w.kept.same;
                below = λ p h. la.written.kept.below p (omega arith) ∙ w.kept.below p h;
                above = λ p h. la.written.kept.above p (omega arith) ∙ w.kept.above p (omega arith);
              };
          words =
              λ s l.
              by_cases
              (dec_lt s i)
              (λ h. la.written.kept.below (cell + s) (omega arith) ∙ w.words s h)
              (λ h. let e : s ≡ i + (s - i) = omega arith in rw e (laid_later_here (s - i) (omega arith)));
        }

-- The loop: i of n words are laid.
module _ (cell inner rest base slope n : ℕ) (xs : List ℕ) (ok : LowerFits cell inner rest base slope n xs) (ed : Edges cell inner rest n xs)
    (i : ℕ) (ys : List ℕ) (h : i < n) (w : Written cell i (lowered cell inner rest base slope xs) xs ys) where
  left_over : n ≡ i + (n - i)
  left_over = omega arith

  pub wait_here : base + slope * i < 2 ^ 64
  wait_here = let l : i ≤ n = omega arith in omega (arith, ok.wait_fits, mul-le-mul_left slope l)

  pub left_fits : LowerFits (cell + i) (inner + i) (rest + i) (base + slope * i) slope (n - i) ys
  left_fits = rest_fits cell inner rest base slope i (n - i) xs ys (rw left_over at ok) w

  pub left_edges : Edges (cell + i) (inner + i) (rest + i) (n - i) ys
  left_edges = rest_edges cell inner rest base slope i (n - i) xs ys (rw left_over at ok) w (rw left_over at ed)

  pub loop_laid : (r : ℕ) (zs : List ℕ) → Laid (cell + i) (inner + i) (rest + i) (base + slope * i) slope (n - i) ys zs r → Written cell (i + r) (lowered cell inner rest base slope xs) xs zs
  loop_laid r zs la = more_laid cell inner rest base slope i (n - i) xs ys (rw left_over at ok) w r zs la
