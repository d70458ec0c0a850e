-- Runs of words in the working room: written one after the other, and all others kept.
use Prim.Native.Nat.{ℕ, ◌+◌, ◌*◌, ◌≤◌, ◌<◌, min}
use mathlib.Core.Path.{◌≡◌, refl, ◌∙◌}
use mathlib.Core.Logic.{⊎_elim, by_cases}
use mathlib.Core.List.{List}
use native.Mathlib.Omega.{arith}
use native.Mathlib.Decide.{dec_lt}
use Rattle.std.proofs.lemmas.Bool.Decides.{nat_tests}
use lib.ListN.{length, get_or, set, length-set}
use lib.Seq.{get_or-set_same, get_or-set_other}
use Rattle.least.specs.Recurrence.{lower}
use Rattle.engine_table.specs.Private.{Kept, Written, Apart, LowerFits, lowered}

-- The lower of two numbers, as std has it.
pub lower_by_min : (x y : ℕ) → min x y ≡ lower x y
lower_by_min x y = grind (arith, nat_tests)

pub kept_none : (at : ℕ) (xs : List ℕ) → Kept at 0 xs xs
kept_none at xs = record { same = refl; below = λ i h. refl; above = λ i h. refl }

pub kept_more : (at n m : ℕ) (xs ys : List ℕ) → n ≤ m → Kept at n xs ys → Kept at m xs ys
kept_more at n m xs ys h k = record { same = k.same; below = k.below; above = λ i l. k.above i (omega arith) }

pub kept_on : (at n : ℕ) (xs ys zs : List ℕ) → Kept at n xs ys → Kept at n ys zs → Kept at n xs zs
kept_on at n xs ys zs h k =
    record {
      same = k.same ∙ h.same;
      below = λ i l. k.below i l ∙ h.below i l;
      above = λ i l. k.above i l ∙ h.above i l;
    }

pub written_none : (at : ℕ) (f : ℕ → ℕ) (xs : List ℕ) → Written at 0 f xs xs
written_none at f xs = record { kept = kept_none at xs; words = λ s h. absurd (omega arith) }

module _ (at s : ℕ) (f : ℕ → ℕ) (xs ys : List ℕ) (w : Written at s f xs ys) (l : at + s < length xs) (v : ℕ) (e : v ≡ f s) where
  last_word : get_or (set ys (at + s) v) (at + s) 0 ≡ f s
  last_word = get_or-set_same ys (at + s) v 0 (omega (arith, w.kept.same)) ∙ e

  pub written_more : Written at (s + 1) f xs (set ys (at + s) v)
  written_more =
      record {
        kept =
            record {
              same = length-set ys (at + s) v ∙ w.kept.same;
              below = λ i h. get_or-set_other ys (at + s) i v 0 (omega arith) ∙ w.kept.below i h;
              above = λ i h. get_or-set_other ys (at + s) i v 0 (omega arith) ∙ w.kept.above i (omega arith);
            };
        words =
            λ i h.
            by_cases
            (dec_lt i s)
            (λ m. get_or-set_other ys (at + s) (at + i) v 0 (omega arith) ∙ w.words i m)
            (λ m. let q : i ≡ s = omega arith in rw q last_word);
      }

-- A word of a run apart from the one that is being written is as it was.
pub word_apart : (p at n s : ℕ) (xs ys : List ℕ) → Apart p at n → s < n → Kept at s xs ys → get_or ys (p + s) 0 ≡ get_or xs (p + s) 0
word_apart p at n s xs ys a l k = ⊎_elim (λ h. k.below (p + s) (omega arith)) (λ h. k.above (p + s) (omega arith)) a

module _ (cell inner rest base slope n : ℕ) (xs : List ℕ) (ok : LowerFits cell inner rest base slope n xs)
    (s : ℕ) (ys : List ℕ) (wait : ℕ) (w : Written cell s (lowered cell inner rest base slope xs) xs ys) (wait-is : wait ≡ base + slope * s) (l : s < n) where
  here : get_or ys (cell + s) 0 ≡ get_or xs (cell + s) 0
  here = w.kept.above (cell + s) (omega arith)

  pub sum_here : wait + get_or ys (inner + s) 0 + get_or ys (rest + s) 0 ≡ base + slope * s + get_or xs (inner + s) 0 + get_or xs (rest + s) 0
  sum_here =
      rw
      (word_apart inner cell n s xs ys ok.inner_apart l w.kept, word_apart rest cell n s xs ys ok.rest_apart l w.kept, wait-is)

  pub row_lowered : (v : ℕ) → v ≡ lower (get_or ys (cell + s) 0) (wait + get_or ys (inner + s) 0 + get_or ys (rest + s) 0)
      → Written cell (s + 1) (lowered cell inner rest base slope xs) xs (set ys (cell + s) v)
  row_lowered v e =
      written_more cell s (lowered cell inner rest base slope xs) xs ys w (omega (arith, ok.cell_in)) v
      (rw (here, sum_here) at e)

-- The loop's last turn is behind it.
pub written_all : (at n s : ℕ) (f : ℕ → ℕ) (xs ys : List ℕ) → Written at s f xs ys → s ≡ n → Written at n f xs ys
written_all at n s f xs ys w e = rw e at w

pub written_same : (at n : ℕ) (f g : ℕ → ℕ) (xs ys : List ℕ) → ((s : ℕ) → s < n → f s ≡ g s) → Written at n f xs ys → Written at n g xs ys
written_same at n f g xs ys e w = record { kept = w.kept; words = λ s l. w.words s l ∙ e s l }

-- The words of a run that the room holds are inside it: the first of two, the second, and one that a number says.
pub first_inside : (p n m : ℕ) → p + n ≤ m → 2 ≤ n → p < m
first_inside p n m h l = omega arith

pub second_inside : (p n m : ℕ) → p + n ≤ m → 2 ≤ n → p + 1 < m
second_inside p n m h l = omega arith
