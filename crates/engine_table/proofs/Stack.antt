-- Reading off: what is written, what the walked window still lists and what the waiting windows owe make the whole list.
use Prim.Native.Nat.{ℕ, zero, suc, ◌+◌, ◌-◌, ◌≤◌, ◌<◌}
use mathlib.Core.Path.{◌≡◌, refl, sym, ◌∙◌}
use mathlib.Core.List.{List, [], ◌∷◌, ◌++◌}
use native.Mathlib.Omega.{arith}
use native.Mathlib.Numerals.{add-one}
use lib.ListN.{length, get_or, set, take}
use lib.Seq.{get_or-set_other, take-suc-set, length-take-le}
use Rattle.runs.specs.Run.{Stop}
use Rattle.runs.specs.Lists.{Detour, list_of}
use Rattle.least.proofs.Plan.{listed_few}
use Rattle.least.proofs.Best.{best_none, best_skip, best_detour, best_over}
use Rattle.least.specs.Recurrence.{plan_detours, best, file_at, left_at, right_at, count_at}
use Rattle.engine_table.specs.Private.{reads_in, chosen, list_at}

-- One entry more at the end of two rows.
list_more : (xs ys : List ℕ) (x y : ℕ) → length xs ≡ length ys → list_of (xs ++ (x ∷ [])) (ys ++ (y ∷ [])) ≡ list_of xs ys ++ (record { from = x; to = y } ∷ [])
unfolding list_of
list_more [] [] x y e = refl
list_more [] (b ∷ ys) x y e = absurd (omega arith)
list_more (a ∷ xs) [] x y e = absurd (omega arith)
list_more (a ∷ xs) (b ∷ ys) x y e = rw (list_more xs ys x y (omega arith))

pub list_set : (froms tos : List ℕ) (n x y : ℕ) → n < length froms → n < length tos
    → list_of (take (n + 1) (set froms n x)) (take (n + 1) (set tos n y)) ≡ list_of (take n froms) (take n tos) ++ (record { from = x; to = y } ∷ [])
list_set froms tos n x y h l =
    rw
    (add-one n, take-suc-set froms n x h, take-suc-set tos n y l)
    (list_more (take n froms) (take n tos) x y (length-take-le n froms (omega arith) ∙ sym (length-take-le n tos (omega arith))))

module _ (stops : List Stop) (turn : ℕ) where
  pub list_none : (a b s : ℕ) → b ≤ a → list_at stops turn a b s ≡ []
  unfolding plan_detours
  list_none a b s h = rw (best_none (left_at stops) (right_at stops) (count_at stops) turn a b s h)

  pub list_skip : (a b s : ℕ) → a ≤ b → chosen stops turn a b s ≡ 0 → list_at stops turn a (suc b) s ≡ list_at stops turn a b (s + count_at stops (suc b))
  unfolding plan_detours
  list_skip a b s h e = rw (best_skip (left_at stops) (right_at stops) (count_at stops) turn a b s h e)

  pub list_detour : (a b s d : ℕ) → a ≤ b → chosen stops turn a b s ≡ suc d
      → list_at stops turn a (suc b) s ≡ list_at stops turn (suc d) b (s + count_at stops (suc b)) ++ record { from = file_at stops (suc d); to = file_at stops (suc b) } ∷ list_at stops turn a d s
  unfolding plan_detours
  list_detour a b s d h e = rw (best_detour (left_at stops) (right_at stops) (count_at stops) turn a b s d h e)

  pub list_few : (a b s : ℕ) → length (list_at stops turn a b s) ≤ b - a
  list_few a b s = listed_few (file_at stops) (best (left_at stops) (right_at stops) (count_at stops) turn a b s) a b (best_over (left_at stops) (right_at stops) (count_at stops) turn a b s)

  -- What the waiting windows owe: for each its pending detour, from where the window above begins, and then its own list.
  unfoldable pub owed : List ℕ → List ℕ → List ℕ → ℕ → ℕ → List Detour
  owed edges ends skips zero a = []
  owed edges ends skips (suc d) a =
      record { from = file_at stops a; to = file_at stops (get_or ends d 0) }
      ∷ (list_at stops turn (get_or edges d 0) (a - 1) (get_or skips d 0) ++ owed edges ends skips d (get_or edges d 0))

  -- Frames at or above the depth do not count.
  pub owed_kept : (edges ends skips : List ℕ) (d top x y z a : ℕ) → d ≤ top → owed (set edges top x) (set ends top y) (set skips top z) d a ≡ owed edges ends skips d a
  unfolding owed
  owed_kept edges ends skips zero top x y z a h = refl
  owed_kept edges ends skips (suc d) top x y z a h =
      rw
      (get_or-set_other edges top d x 0 (omega arith), get_or-set_other ends top d y 0 (omega arith), get_or-set_other skips top d z 0 (omega arith), owed_kept edges ends skips d top x y z (get_or edges d 0) (omega arith))

  pub owed_none : (edges ends skips : List ℕ) (depth a : ℕ) → depth ≡ 0 → owed edges ends skips depth a ≡ []
  unfolding owed
  owed_none edges ends skips zero a e = refl
  owed_none edges ends skips (suc d) a e = absurd (omega arith)

  -- The top frame is owed first.
  pub owed_top : (edges ends skips : List ℕ) (depth a : ℕ) → (depth ≡ 0 → ⊥)
      → owed edges ends skips depth a
      ≡ record { from = file_at stops a; to = file_at stops (get_or ends (depth - 1) 0) }
      ∷ (list_at stops turn (get_or edges (depth - 1) 0) (a - 1) (get_or skips (depth - 1) 0) ++ owed edges ends skips (depth - 1) (get_or edges (depth - 1) 0))
  unfolding owed
  owed_top edges ends skips zero a n = absurd (n refl)
  owed_top edges ends skips (suc d) a n = let e : suc d - 1 ≡ d = omega arith in rw e

module _ (counts : List ℕ) (k reads : ℕ) where
  -- The waiting windows: each begins left of the one above it, and its pending detour ends at a stop.
  abbrev pub Stacked : List ℕ → List ℕ → List ℕ → ℕ → ℕ → Type 0
  Stacked edges ends skips zero a = Unit {0}
  Stacked edges ends skips (suc d) a = (get_or edges d 0 < a) × (get_or ends d 0 < k) × (get_or skips d 0 + reads_in counts a ≤ reads) × Stacked edges ends skips d (get_or edges d 0)

  pub stacked_kept : (edges ends skips : List ℕ) (d top x y z a : ℕ) → d ≤ top → Stacked edges ends skips d a → Stacked (set edges top x) (set ends top y) (set skips top z) d a
  stacked_kept edges ends skips zero top x y z a h w = tt
  stacked_kept edges ends skips (suc d) top x y z a h w =
      rw
      (get_or-set_other edges top d x 0 (omega arith), get_or-set_other ends top d y 0 (omega arith), get_or-set_other skips top d z 0 (omega arith))
      (w.0, w.1, w.2, stacked_kept edges ends skips d top x y z (get_or edges d 0) (omega arith) w.3)

  pub depth_below : (edges ends skips : List ℕ) (d a : ℕ) → Stacked edges ends skips d a → d ≤ a
  depth_below edges ends skips zero a w = omega arith
  depth_below edges ends skips (suc d) a w = omega (arith, w.0, depth_below edges ends skips d (get_or edges d 0) w.3)

  pub record TopFrame (edges ends skips : List ℕ) (d a : ℕ) : Type 0 where
    pub edge : get_or edges d 0 < a
    pub end : get_or ends d 0 < k
    pub span : get_or skips d 0 + reads_in counts a ≤ reads
    pub under : Stacked edges ends skips d (get_or edges d 0)

  pub top_frame : (edges ends skips : List ℕ) (depth a : ℕ) → (depth ≡ 0 → ⊥) → Stacked edges ends skips depth a → TopFrame edges ends skips (depth - 1) a
  top_frame edges ends skips zero a n w = absurd (n refl)
  top_frame edges ends skips (suc d) a n w =
      let e : suc d - 1 ≡ d = omega arith in
      rw e (record { edge = w.0; end = w.1; span = w.2; under = w.3 })
