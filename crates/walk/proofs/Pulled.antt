-- Stops as a head at m meets them: a leg that begins at or left of the head reads them exactly where it reads the stops themselves. So whether, when
-- and in which leg each is read, the sum and the end of the last sweep are the same over both; and the legs of a list over them all begin there.
use Prim.Native.Nat.{ℕ, suc, ◌≤◌}
use mathlib.Core.Path.{◌≡◌, refl, sym, ap, ◌∙◌}
use mathlib.Core.Bool.{Bool, true, false, cond}
use mathlib.Core.List.{List, [], ◌∷◌, ◌++◌, map}
use native.Mathlib.Omega.{arith}
use lib.Dec.{eqb}
use Rattle.walk.specs.declared.Head.{Head}
use Rattle.walk.specs.declared.Leg.{Leg}
use Rattle.runs.specs.Run.{Stop}
use Rattle.runs.specs.Lists.{Detour}
use Rattle.runs.specs.AnyHead.{smaller, pulled_stop, pulled}
use Rattle.walk.specs.Walk.{after_leg, reads, served, ServesAll, time_of, leg_from, sum_of}
use Rattle.walk.specs.Detours.{start_of, end_of, leg_of, unread_end, sweep_end, last_sweep, legs_of}
use Rattle.runs.proofs.AnyHead.{smaller_is, below_smaller}

-- Every leg begins at or left of m.
abbrev pub AllLeft : ℕ → List Leg → Type 0
AllLeft m [] = Unit {0}
AllLeft m (g ∷ gs) = (g.left ≤ m) × AllLeft m gs

pub left_both : (m : ℕ) (gs hs : List Leg) → AllLeft m gs → AllLeft m hs → AllLeft m (gs ++ hs)
left_both m [] hs a b = b
left_both m (g ∷ gs) hs a b = (a.0, left_both m gs hs a.1 b)

module _ (m : ℕ) where
  pub reads_pulled : (g : Leg) (s : Stop) → g.left ≤ m → reads g (pulled_stop m s) ≡ reads g s
  reads_pulled g s l = rw (below_smaller g.left s.start m l)

  pub served_pulled : (gs : List Leg) → AllLeft m gs → (s : Stop) → served gs (pulled_stop m s) ≡ served gs s
  unfolding served
  served_pulled [] a s = refl
  served_pulled (g ∷ gs) a s = rw (below_smaller g.left s.start m a.0, served_pulled gs a.1 s)

  pub time_pulled : (price : ℕ) (gs : List Leg) → AllLeft m gs → (h : Head) (s : Stop) → time_of price h gs (pulled_stop m s) ≡ time_of price h gs s
  unfolding time_of
  time_pulled price [] a h s = refl
  time_pulled price (g ∷ gs) a h s = rw (below_smaller g.left s.start m a.0, time_pulled price gs a.1 (after_leg price h g) s)

  pub leg_pulled : (n : ℕ) (gs : List Leg) → AllLeft m gs → (s : Stop) → leg_from n gs (pulled_stop m s) ≡ leg_from n gs s
  unfolding leg_from
  leg_pulled n [] a s = refl
  leg_pulled n (g ∷ gs) a s = rw (below_smaller g.left s.start m a.0, leg_pulled (suc n) gs a.1 s)

  module _ (gs : List Leg) (a : AllLeft m gs) where
    pub sum_pulled : (price : ℕ) (h : Head) (ss : List Stop) → sum_of price h gs (pulled m ss) ≡ sum_of price h gs ss
    unfolding sum_of pulled
    sum_pulled price h [] = refl
    sum_pulled price h (s ∷ ss) = rw (time_pulled price gs a h s, sum_pulled price h ss)

    pub pulled_served : (ss : List Stop) → ServesAll gs ss → ServesAll gs (pulled m ss)
    unfolding ServesAll pulled
    pulled_served [] hs = tt
    pulled_served (s ∷ ss) hs = (rw (served_pulled gs a s) hs.0, pulled_served ss hs.1)

    pub served_from_pulled : (ss : List Stop) → ServesAll gs (pulled m ss) → ServesAll gs ss
    unfolding ServesAll pulled
    served_from_pulled [] hs = tt
    served_from_pulled (s ∷ ss) hs = (rw (served_pulled gs a s) at hs.0, served_from_pulled ss hs.1)

    unread_pulled : (ss : List Stop) (e : ℕ) → unread_end gs (pulled m ss) e ≡ unread_end gs ss e
    unfolding unread_end pulled
    unread_pulled [] e = refl
    unread_pulled (s ∷ ss) e =
        ap (λ b. unread_end gs (pulled m ss) (cond b e s.end)) (served_pulled gs a s) ∙ unread_pulled ss (cond (served gs s) e s.end)

    pub sweep_pulled : (ss : List Stop) → sweep_end gs (pulled m ss) ≡ sweep_end gs ss
    unfolding sweep_end pulled
    sweep_pulled [] = refl
    sweep_pulled (s ∷ ss) = unread_pulled ss s.end

  -- Where a name starts and ends.
  start_one : (b : Bool) (x y : ℕ) → cond b (smaller x m) (smaller y m) ≡ smaller (cond b x y) m
  start_one true x y = refl
  start_one false x y = refl

  pub start_pulled : (ss : List Stop) (f : ℕ) → start_of (pulled m ss) f ≡ smaller (start_of ss f) m
  unfolding start_of pulled
  start_pulled [] f = sym ((smaller_is 0 m).same (omega arith))
  start_pulled (s ∷ ss) f = rw (start_pulled ss f) (start_one (eqb s.file f) s.start (start_of ss f))

  pub end_pulled : (ss : List Stop) (f : ℕ) → end_of (pulled m ss) f ≡ end_of ss f
  unfolding end_of pulled
  end_pulled [] f = refl
  end_pulled (s ∷ ss) f = rw (end_pulled ss f)

  -- The legs of a list all begin at or left of the head.
  pub detours_left : (ss : List Stop) (list : List Detour) → AllLeft m (map (leg_of (pulled m ss)) list)
  detours_left ss [] = tt
  detours_left ss (d ∷ list) = (rw (start_pulled ss d.from) (smaller_is (start_of ss d.from) m).second, detours_left ss list)

  sweep_left : (ss : List Stop) (list : List Detour) → AllLeft m (last_sweep (pulled m ss) list)
  unfolding last_sweep pulled
  sweep_left [] list = tt
  sweep_left (s ∷ ss) list = ((smaller_is s.start m).second, tt)

  pub legs_left : (ss : List Stop) (list : List Detour) → AllLeft m (legs_of (pulled m ss) list)
  unfolding legs_of
  legs_left ss list = left_both m (map (leg_of (pulled m ss)) list) (last_sweep (pulled m ss) list) (detours_left ss list) (sweep_left ss list)

  -- And the sum over the stops where they lie is that over the pulled ones.
  pub list_sum_pulled : (price : ℕ) (h : Head) (ss : List Stop) (list : List Detour) → sum_of price h (legs_of (pulled m ss) list) (pulled m ss) ≡ sum_of price h (legs_of (pulled m ss) list) ss
  list_sum_pulled price h ss list = sum_pulled (legs_of (pulled m ss) list) (legs_left ss list) price h ss
