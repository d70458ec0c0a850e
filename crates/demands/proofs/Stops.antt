-- Each joined stop lies where one of the wants does; the first where the first want does.
use Prim.Native.Nat.{ℕ, zero, suc, ◌<◌}
use mathlib.Core.Path.{◌≡◌, refl, sym, ◌∙◌}
use mathlib.Core.List.{List, [], ◌∷◌}
use native.Mathlib.Omega.{arith}
use lib.ListN.{length}
use Rattle.runs.specs.Run.{Stop, merged, join_to, joined}
use Rattle.runs.specs.Rows.{stop_at}
use Rattle.runs.proofs.Joined.{Next, Neighbours, Places, Agree, by_name, join_none, join_same, join_other, agree_joined}

-- The places of a stop among several.
pub record PlacedIn (ss : List Stop) (s : Stop) : Type 0 where
  pub index : ℕ
  pub within : index < length ss
  pub places : Places s (stop_at ss index)

here : (s : Stop) (ss : List Stop) → PlacedIn (s ∷ ss) s
here s ss = record { index = 0; within = omega arith; places = record { start = refl; end = refl } }

further : (s : Stop) (ss : List Stop) (t : Stop) → PlacedIn ss t → PlacedIn (s ∷ ss) t
further s ss t p = record { index = suc p.index; within = omega (arith, p.within); places = p.places }

join_placed : (s : Stop) (ts ss : List Stop) → ((j : ℕ) → j < length ts → PlacedIn ss (stop_at ts j)) → (j : ℕ) → j < length (join_to s ts) → PlacedIn (s ∷ ss) (stop_at (join_to s ts) j)
join_placed s [] ss each j l = only j (rw (join_none s) at l)
  where
    only : (j : ℕ) → j < length (s ∷ []) → PlacedIn (s ∷ ss) (stop_at (join_to s []) j)
    only zero l = rw (join_none s) (here s ss)
    only (suc j) l = absurd (omega arith)
join_placed s (t ∷ ts) ss each j l = by_name s t (λ e. same e j (rw (join_same s t ts e) at l)) (λ n. other n j (rw (join_other s t ts n) at l))
  where
    same : s.file ≡ t.file → (j : ℕ) → j < length (merged s t ∷ ts) → PlacedIn (s ∷ ss) (stop_at (join_to s (t ∷ ts)) j)
    same e zero l = rw (join_same s t ts e) (record { index = 0; within = omega arith; places = record { start = refl; end = refl } })
    same e (suc j) l = rw (join_same s t ts e) (further s ss (stop_at ts j) (each (suc j) (omega arith)))

    other : (s.file ≡ t.file → ⊥) → (j : ℕ) → j < length (s ∷ t ∷ ts) → PlacedIn (s ∷ ss) (stop_at (join_to s (t ∷ ts)) j)
    other n zero l = rw (join_other s t ts n) (here s ss)
    other n (suc j) l = rw (join_other s t ts n) (further s ss (stop_at (t ∷ ts) j) (each j (omega arith)))

pub joined_placed : (ss : List Stop) (j : ℕ) → j < length (joined ss) → PlacedIn ss (stop_at (joined ss) j)
unfolding joined
joined_placed [] j l = absurd (omega arith)
joined_placed (s ∷ ss) j l = join_placed s (joined ss) ss (joined_placed ss) j l

join_first : (s : Stop) (ts : List Stop) → Places s (stop_at (join_to s ts) 0)
join_first s [] = rw (join_none s) (record { start = refl; end = refl })
join_first s (t ∷ ts) =
    by_name s t
    (λ e. rw (join_same s t ts e) (record { start = refl; end = refl }))
    (λ n. rw (join_other s t ts n) (record { start = refl; end = refl }))

join_some : (s : Stop) (ts : List Stop) → 0 < length (join_to s ts)
join_some s [] = rw (join_none s) (omega arith)
join_some s (t ∷ ts) = by_name s t (λ e. rw (join_same s t ts e) (omega arith)) (λ n. rw (join_other s t ts n) (omega arith))

-- And each want where one of the joined stops does.
join_keeps : (s : Stop) (ts : List Stop) → Next Agree s ts → (w : Stop) → PlacedIn ts w → PlacedIn (join_to s ts) w
join_keeps s [] a w p = absurd (omega (arith, p.within))
join_keeps s (t ∷ ts) a w p =
    by_name s t
    (λ e. rw (join_same s t ts e) (joined_in e p.index p.within p.places))
    (λ n. rw (join_other s t ts n) (further s (t ∷ ts) w p))
  where
    joined_in : s.file ≡ t.file → (i : ℕ) → i < length (t ∷ ts) → Places w (stop_at (t ∷ ts) i) → PlacedIn (merged s t ∷ ts) w
    joined_in e zero l q = record { index = 0; within = omega arith; places = record { start = q.start ∙ sym (a e).start; end = q.end ∙ sym (a e).end } }
    joined_in e (suc i) l q = record { index = suc i; within = omega arith; places = q }

pub wants_placed : (ss : List Stop) → Neighbours Agree ss → (i : ℕ) → i < length ss → PlacedIn (joined ss) (stop_at ss i)
unfolding joined
wants_placed [] a i l = absurd (omega arith)
wants_placed (s ∷ ss) a zero l = record { index = 0; within = some; places = join_first s (joined ss) }
  where
    some : 0 < length (join_to s (joined ss))
    some = join_some s (joined ss)
wants_placed (s ∷ ss) a (suc i) l = join_keeps s (joined ss) (agree_joined s ss a.0) (stop_at ss i) (wants_placed ss a.1 i (omega arith))

pub first_placed : (ss : List Stop) → 0 < length ss → Places (stop_at ss 0) (stop_at (joined ss) 0)
unfolding joined
first_placed [] some = absurd (omega arith)
first_placed (s ∷ ss) some = join_first s (joined ss)
