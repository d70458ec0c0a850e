-- The wants handed in and the stops joined of them: the legs of a list, whether a movement serves them all and the sum are the same over both, and
-- what hangs on a stop's places alone. So the pricer need not join.
use Prim.Native.Nat.{ℕ, suc}
use mathlib.Core.Path.{◌≡◌, refl, sym, ap, ◌∙◌}
use mathlib.Core.Bool.{Bool, true, false, cond, true≢false}
use mathlib.Core.List.{List, [], ◌∷◌, map}
use lib.Dec.{T}
use Rattle.walk.specs.declared.Head.{Head}
use Rattle.walk.specs.declared.Leg.{Leg}
use Rattle.runs.specs.Run.{Run, Stop, merged, join_to, joined, want_stops_of, stops_of}
use Rattle.runs.specs.Lists.{Detour}
use Rattle.walk.specs.Walk.{after_leg, served, ServesAll, time_of, leg_from, sum_of}
use Rattle.walk.specs.Detours.{start_of, end_of, leg_of, unread_end, sweep_end, last_sweep, legs_of}
use Rattle.runs.proofs.Joined.{Next, Neighbours, Places, Agree, by_name, join_none, join_same, join_other, agree_joined, place_by, place_joined, weighed, weighed_joined}
use Rattle.runs.proofs.Stops.{wants_agree}

-- Whether, when and in which leg a stop is read hangs on its places alone.
pub served_same : (gs : List Leg) (s t : Stop) → Places s t → served gs s ≡ served gs t
unfolding served
served_same [] s t p = refl
served_same (g ∷ gs) s t p = rw (served_same gs s t p, p.start, p.end)

pub time_same : (price : ℕ) (gs : List Leg) (h : Head) (s t : Stop) → Places s t → time_of price h gs s ≡ time_of price h gs t
unfolding time_of
time_same price [] h s t p = refl
time_same price (g ∷ gs) h s t p = rw (time_same price gs (after_leg price h g) s t p, p.start, p.end)

pub leg_same : (n : ℕ) (gs : List Leg) (s t : Stop) → Places s t → leg_from n gs s ≡ leg_from n gs t
unfolding leg_from
leg_same n [] s t p = refl
leg_same n (g ∷ gs) s t p = rw (leg_same (suc n) gs s t p, p.start, p.end)

-- Two stops of one place, one after the other: the second adds nothing to the search.
cond_again : (b c : Bool) → b ≡ c → (e x y : ℕ) → x ≡ y → cond b e x ≡ cond c (cond b e x) y
cond_again true true q e x y p = refl
cond_again true false q e x y p = absurd (true≢false q)
cond_again false true q e x y p = refl
cond_again false false q e x y p = p

cond_same : (c : Bool) (x y : ℕ) → x ≡ y → x ≡ cond c x y
cond_same true x y p = refl
cond_same false x y p = p

module _ (gs : List Leg) where
  merged_served : (s t : Stop) → served gs (merged s t) ≡ served gs s
  merged_served s t = served_same gs (merged s t) s (record { start = refl; end = refl })

  unread_join : (s : Stop) (ts : List Stop) (e : ℕ) → Next Agree s ts → unread_end gs (join_to s ts) e ≡ unread_end gs ts (cond (served gs s) e s.end)
  unfolding unread_end
  unread_join s [] e a = rw (join_none s)
  unread_join s (t ∷ ts) e a =
      by_name s t
      (λ q.
      rw (join_same s t ts q, merged_served s t)
      (ap (unread_end gs ts) (cond_again (served gs s) (served gs t) (served_same gs s t (a q)) e s.end t.end (a q).end)))
      (λ n. rw (join_other s t ts n))

  unread_joined : (ss : List Stop) (e : ℕ) → Neighbours Agree ss → unread_end gs (joined ss) e ≡ unread_end gs ss e
  unfolding unread_end joined
  unread_joined [] e a = refl
  unread_joined (s ∷ ss) e a = unread_join s (joined ss) e (agree_joined s ss a.0) ∙ unread_joined ss (cond (served gs s) e s.end) a.1

  sweep_join : (s : Stop) (ts : List Stop) → Next Agree s ts → sweep_end gs (join_to s ts) ≡ unread_end gs ts s.end
  unfolding sweep_end unread_end
  sweep_join s [] a = rw (join_none s)
  sweep_join s (t ∷ ts) a =
      by_name s t
      (λ q. rw (join_same s t ts q) (ap (unread_end gs ts) (cond_same (served gs t) s.end t.end (a q).end)))
      (λ n. rw (join_other s t ts n))

  -- The last sweep ends at the same place.
  pub sweep_joined : (ss : List Stop) → Neighbours Agree ss → sweep_end gs (joined ss) ≡ sweep_end gs ss
  unfolding sweep_end joined
  sweep_joined [] a = refl
  sweep_joined (s ∷ ss) a = sweep_join s (joined ss) (agree_joined s ss a.0) ∙ unread_joined ss s.end a.1

-- A name starts and ends at the same place.
pub start_by : (ss : List Stop) (f : ℕ) → start_of ss f ≡ place_by (λ s. s.start) ss f
unfolding start_of place_by
start_by [] f = refl
start_by (s ∷ ss) f = rw (start_by ss f)

pub end_by : (ss : List Stop) (f : ℕ) → end_of ss f ≡ place_by (λ s. s.end) ss f
unfolding end_of place_by
end_by [] f = refl
end_by (s ∷ ss) f = rw (end_by ss f)

pub start_joined : (ss : List Stop) (f : ℕ) → start_of (joined ss) f ≡ start_of ss f
start_joined ss f = start_by (joined ss) f ∙ place_joined (λ s. s.start) (λ s t. refl) ss f ∙ sym (start_by ss f)

pub end_joined : (ss : List Stop) (f : ℕ) → end_of (joined ss) f ≡ end_of ss f
end_joined ss f = end_by (joined ss) f ∙ place_joined (λ s. s.end) (λ s t. refl) ss f ∙ sym (end_by ss f)

-- So a list has the same legs.
detours_joined : (ss : List Stop) (list : List Detour) → map (leg_of (joined ss)) list ≡ map (leg_of ss) list
detours_joined ss [] = refl
detours_joined ss (d ∷ list) = rw (start_joined ss d.from, end_joined ss d.to, detours_joined ss list)

last_sweep_join : (s : Stop) (ts : List Stop) (list : List Detour)
    → last_sweep (join_to s ts) list ≡ record { left = s.start; right = sweep_end (map (leg_of (join_to s ts)) list) (join_to s ts) } ∷ []
unfolding last_sweep
last_sweep_join s [] list = rw (join_none s)
last_sweep_join s (t ∷ ts) list = by_name s t (λ e. rw (join_same s t ts e)) (λ n. rw (join_other s t ts n))

last_sweep_joined : (ss : List Stop) → Neighbours Agree ss → (list : List Detour) → last_sweep (joined ss) list ≡ last_sweep ss list
unfolding last_sweep joined
last_sweep_joined [] a list = refl
last_sweep_joined (s ∷ ss) a list =
    last_sweep_join s (joined ss) list
    ∙ ap
    (λ e. record { left = s.start; right = e } ∷ [])
    (ap (λ gs. sweep_end gs (joined (s ∷ ss))) (detours_joined (s ∷ ss) list) ∙ sweep_joined (map (leg_of (s ∷ ss)) list) (s ∷ ss) a)

pub legs_joined : (ss : List Stop) → Neighbours Agree ss → (list : List Detour) → legs_of (joined ss) list ≡ legs_of ss list
unfolding legs_of
legs_joined ss a list = rw (detours_joined ss list, last_sweep_joined ss a list)

-- A movement serves the stops where it serves the wants.
serves_as : (gs : List Leg) (s t : Stop) → Places s t → T (served gs s) → T (served gs t)
serves_as gs s t p h = rw (← (served_same gs s t p)) h

module _ (gs : List Leg) where
  join_serves : (s : Stop) (ts : List Stop) → T (served gs s) → ServesAll gs ts → ServesAll gs (join_to s ts)
  unfolding ServesAll
  join_serves s [] h hs = rw (join_none s) (h, tt)
  join_serves s (t ∷ ts) h hs =
      by_name s t
      (λ e. rw (join_same s t ts e) (serves_as gs s (merged s t) (record { start = refl; end = refl }) h, hs.1))
      (λ n. rw (join_other s t ts n) (h, hs))

  pub joined_served : (ss : List Stop) → ServesAll gs ss → ServesAll gs (joined ss)
  unfolding ServesAll joined
  joined_served [] hs = tt
  joined_served (s ∷ ss) hs = join_serves s (joined ss) hs.0 (joined_served ss hs.1)

  join_served : (s : Stop) (ts : List Stop) → Next Agree s ts → ServesAll gs (join_to s ts) → T (served gs s) × ServesAll gs ts
  unfolding ServesAll
  join_served s [] a hs = rw (join_none s) at hs
  join_served s (t ∷ ts) a hs =
      by_name s t
      (λ e.
      let both = rw (join_same s t ts e) at hs in
      let here = serves_as gs (merged s t) s (record { start = refl; end = refl }) both.0 in
      (here, (serves_as gs s t (a e) here, both.1)))
      (λ n. rw (join_other s t ts n) at hs)

  pub wants_served : (ss : List Stop) → Neighbours Agree ss → ServesAll gs (joined ss) → ServesAll gs ss
  unfolding ServesAll joined
  wants_served [] a hs = tt
  wants_served (s ∷ ss) a hs = let both = join_served s (joined ss) (agree_joined s ss a.0) hs in (both.0, wants_served ss a.1 both.1)

-- The sum is the same.
sum_weighed : (price : ℕ) (h : Head) (gs : List Leg) (ss : List Stop) → sum_of price h gs ss ≡ weighed (time_of price h gs) ss
unfolding sum_of weighed
sum_weighed price h gs [] = refl
sum_weighed price h gs (s ∷ ss) = rw (sum_weighed price h gs ss)

module _ (price : ℕ) (h : Head) (gs : List Leg) where
  pub sum_joined : (ss : List Stop) → Neighbours Agree ss → sum_of price h gs (joined ss) ≡ sum_of price h gs ss
  sum_joined ss a =
      sum_weighed price h gs (joined ss)
      ∙ weighed_joined (time_of price h gs) (time_same price gs h) ss a
      ∙ sym (sum_weighed price h gs ss)

  -- The sum of a movement over a run's stops is that over its wants.
  pub run_sum_joined : (r : Run) → sum_of price h gs (stops_of r) ≡ sum_of price h gs (want_stops_of r)
  run_sum_joined r = sum_joined (want_stops_of r) (wants_agree r.starts r.lengths r.aggregates r.numbers r.counts)
