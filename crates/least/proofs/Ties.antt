-- Among the plans over a window that cost its value, `best` comes first in the order of the tie rule.
-- The order looks at the rightmost stop at which two plans differ: no detour before a detour, and then the later start.
use Prim.Native.Nat.{ℕ, zero, suc, ◌+◌, ◌≤◌, ◌<◌}
use native.Mathlib.Omega.{arith}
use native.Mathlib.Decide.{dec_le, dec_lt}
use native.Mathlib.Nat.{le_refl}
use mathlib.Core.Path.{◌≡◌, refl, ap, sym, ◌∙◌}
use mathlib.Core.Logic.{by_cases, ◌⊎◌, inl, inr}
use borrow.Author.Tests.{le-leb, lt-leb}
use Rattle.least.specs.Least.{Sooner}
use Rattle.least.proofs.Plan.{Over, start_in}
use Rattle.least.proofs.Cost.{cost}
use Rattle.least.proofs.Value.{choice_first, choice_value, choice_skip, value_least_skip, value_least}
use Rattle.least.proofs.Best.{best_none, best_skip, best_detour, best_over, best_least}
use Rattle.least.specs.Recurrence.{Plan, empty, skip, detour, value, candidate, choice, best}

-- The tie rule on plans over the window (a, b].
pub record PlanFirst (p q : Plan) (a b : ℕ) : Type 0 where
  pub stop : ℕ
  pub right : a < stop
  pub within : stop ≤ b
  pub agree : (j : ℕ) → stop < j → start_in p b j ≡ start_in q b j
  pub sooner : Sooner (start_in p b stop) (start_in q b stop)

-- Over an empty window there is one plan.
pub over_none : (p : Plan) (a b : ℕ) → Over p a b → b ≤ a → p ≡ empty
over_none empty a b o h = refl
over_none (skip p) a zero o h = absurd o
over_none (skip p) a (suc b) o h = absurd (omega arith)
over_none (detour d inner rest) a zero o h = absurd o
over_none (detour d inner rest) a (suc b) o h = absurd (omega arith)

module _ (d b j : ℕ) (inner rest : Plan) where
  pub start_rest : j ≤ d → start_in (detour d inner rest) (suc b) j ≡ start_in rest d j
  unfolding start_in
  start_rest h = rw (le-leb j d h)

  pub start_inner : d < j → j ≤ b → start_in (detour d inner rest) (suc b) j ≡ start_in inner b j
  unfolding start_in
  start_inner h l = rw (lt-leb j d h, le-leb j b l)

  pub start_beyond : d ≤ b → suc b < j → start_in (detour d inner rest) (suc b) j ≡ 0
  unfolding start_in
  start_beyond h l = rw (lt-leb j d (omega arith), lt-leb j b (omega arith), lt-leb j (suc b) l)

pub start_end : (d b : ℕ) (inner rest : Plan) → d ≤ b → start_in (detour d inner rest) (suc b) (suc b) ≡ suc d
unfolding start_in
start_end d b inner rest h = rw (lt-leb (suc b) d (omega arith), lt-leb (suc b) b (omega arith), le-leb (suc b) (suc b) (omega arith))

-- No detour of a plan ends right of its window.
pub start_right : (p : Plan) (a b j : ℕ) → Over p a b → b < j → start_in p b j ≡ 0
unfolding start_in
start_right empty a b j o h = refl
start_right (skip p) a zero j o h = refl
start_right (skip p) a (suc b) j o h = start_right p a b j o.1 (omega arith)
start_right (detour d inner rest) a zero j o h = refl
start_right (detour d inner rest) a (suc b) j o h = start_beyond d b j inner rest o.1 h

start_bounds_detour :
    (d : ℕ) (p q : Plan) (a b j : ℕ) →
    a ≤ d →
    d ≤ b →
    (0 < start_in p b j → (suc d < start_in p b j) × (start_in p b j ≤ j)) →
    (0 < start_in q d j → (a < start_in q d j) × (start_in q d j ≤ j)) →
    0 < start_in (detour d p q) (suc b) j →
    (a < start_in (detour d p q) (suc b) j) × (start_in (detour d p q) (suc b) j ≤ j)
start_bounds_detour d p q a b j h l gp gq =
    by_cases
    (dec_le j d)
    (λ m. rw (start_rest d b j p q m) gq)
    (λ m. by_cases
    (dec_le j b)
    (λ n. rw (start_inner d b j p q (omega arith) n) (λ z. omega (arith, gp z)))
    (λ n. by_cases
    (dec_le j (suc b))
    (λ i. let e : j ≡ suc b = omega arith in rw (e, start_end d b p q l) (omega arith))
    (λ i. rw (start_beyond d b j p q l (omega arith)) (omega arith))))

-- A detour starts inside the window, and not right of its end.
pub start_bounds : (p : Plan) (a b j : ℕ) → Over p a b → 0 < start_in p b j → (a < start_in p b j) × (start_in p b j ≤ j)
unfolding start_in
start_bounds empty a b j o h = absurd (omega arith)
start_bounds (skip p) a zero j o h = absurd o
start_bounds (skip p) a (suc b) j o h = start_bounds p a b j o.1 h
start_bounds (detour d p q) a zero j o h = absurd o
start_bounds (detour d p q) a (suc b) j o h = start_bounds_detour d p q a b j o.0 o.1 (start_bounds p (suc d) b j o.2) (start_bounds q a d j o.3) h

-- Plans that make the same choice at the last stop compare as their parts do, the inner ones before the rests.
skip_first : (p q : Plan) (a b : ℕ) → PlanFirst p q a b → PlanFirst (skip p) (skip q) a (suc b)
unfolding start_in
skip_first p q a b f = record {
  stop = f.stop;
  right = f.right;
  within = omega (arith, f.within);
  agree = f.agree;
  sooner = f.sooner;
}

inner_first : (d : ℕ) (p q r r' : Plan) (a b : ℕ) → a ≤ d → PlanFirst p q (suc d) b → PlanFirst (detour d p r) (detour d q r') a (suc b)
unfolding start_in
inner_first d p q r r' a b h f =
    record {
      stop = f.stop;
      right = omega (arith, f.right);
      within = omega (arith, f.within);
      agree =
          λ j l. by_cases
          (dec_le j b)
          (λ m. rw (lt-leb j d (omega (arith, f.right)), le-leb j b m) (f.agree j l))
          (λ n. rw (lt-leb j d (omega (arith, f.right)), lt-leb j b (omega arith)));
      sooner = rw (lt-leb f.stop d (omega (arith, f.right)), le-leb f.stop b f.within) f.sooner;
    }

rest_first : (d : ℕ) (p r r' : Plan) (a b : ℕ) → d ≤ b → PlanFirst r r' a d → PlanFirst (detour d p r) (detour d p r') a (suc b)
unfolding start_in
rest_first d p r r' a b h f =
    record {
      stop = f.stop;
      right = f.right;
      within = omega (arith, f.within);
      agree = λ j l. by_cases (dec_le j d) (λ m. rw (le-leb j d m) (f.agree j l)) (λ n. rw (lt-leb j d (omega arith)));
      sooner = rw (le-leb f.stop d f.within) f.sooner;
    }

-- Plans that make different choices at the last stop are told apart there.
last_first : (p q : Plan) (a b : ℕ) → a ≤ b → ((j : ℕ) → suc b < j → start_in p (suc b) j ≡ start_in q (suc b) j) → Sooner (start_in p (suc b) (suc b)) (start_in q (suc b) (suc b)) → PlanFirst p q a (suc b)
last_first p q a b h agree sooner = record {
  stop = suc b;
  right = omega arith;
  within = le_refl (suc b);
  agree = agree;
  sooner = sooner;
}

skip_before_detour : (d : ℕ) (p q r : Plan) (a b : ℕ) → a ≤ b → d ≤ b → Over p a b → PlanFirst (skip p) (detour d q r) a (suc b)
unfolding start_in
skip_before_detour d p q r a b h l o =
    last_first (skip p) (detour d q r) a b h
    (λ j k. start_right p a b j o (omega arith) ∙ sym (start_beyond d b j q r l k))
    (inl (start_right p a b (suc b) o (le_refl (suc b)), omega (arith, start_end d b q r l)))

later_start_first : (d d' : ℕ) (p q p' q' : Plan) (a b : ℕ) → a ≤ b → d ≤ b → d' < d → PlanFirst (detour d p q) (detour d' p' q') a (suc b)
later_start_first d d' p q p' q' a b h l m =
    last_first (detour d p q) (detour d' p' q') a b h
    (λ j k. start_beyond d b j p q l k ∙ sym (start_beyond d' b j p' q' (omega arith) k))
    (inr (omega (arith, start_end d' b p' q' (omega arith)), omega (arith, start_end d' b p' q' (omega arith), start_end d b p q l)))

-- Equal to a plan, or after it.
abbrev pub NotBefore : Plan → Plan → ℕ → ℕ → Type 0
NotBefore q p a b = (q ≡ p) ⊎ PlanFirst p q a b

skip_not_before : (q p : Plan) (a b : ℕ) → NotBefore q p a b → NotBefore (skip q) (skip p) a (suc b)
skip_not_before q p a b (inl e) = inl (ap skip e)
skip_not_before q p a b (inr f) = inr (skip_first p q a b f)

detour_not_before : (d : ℕ) (q q' p p' : Plan) (a b : ℕ) → a ≤ d → d ≤ b → NotBefore q p (suc d) b → NotBefore q' p' a d → NotBefore (detour d q q') (detour d p p') a (suc b)
detour_not_before d q q' p p' a b h l (inr f) g = inr (inner_first d p q p' q' a b h f)
detour_not_before d q q' p p' a b h l (inl e) (inl e') = inl (cc)
detour_not_before d q q' p p' a b h l (inl e) (inr f) = inr (rw e (rest_first d p p' q' a b l f))

module _ (L R C : ℕ → ℕ) (U : ℕ) where
  skip_case :
      (q : Plan) (a b s : ℕ) →
      a ≤ b →
      value L R C U a b (s + C (suc b)) ≤ cost L R C U q a b (s + C (suc b)) →
      (cost L R C U q a b (s + C (suc b)) ≡ value L R C U a b (s + C (suc b)) → NotBefore q (best L R C U a b (s + C (suc b))) a b) →
      cost L R C U (skip q) a (suc b) s ≡ value L R C U a (suc b) s →
      NotBefore (skip q) (best L R C U a (suc b) s) a (suc b)
  unfolding cost candidate
  skip_case q a b s h l g e =
      rw
      (best_skip L R C U a b s h (choice_skip L R C U a b s h (omega (arith, value_least_skip L R C U a b s h))))
      (skip_not_before q (best L R C U a b (s + C (suc b))) a b (g (omega (arith, value_least_skip L R C U a b s h))))

  -- The choice made is not after the detour's, since that one attains the value.
  choice_not_after : (a b s d : ℕ) → a ≤ b → d ≤ b → candidate L R C U (value L R C U) a b s (suc d) ≡ value L R C U a (suc b) s → 0 < choice L R C U a b s → suc d ≤ choice L R C U a b s
  choice_not_after a b s d h l e p =
      by_cases
      (dec_le (choice L R C U a b s) d)
      (λ m. absurd (omega (arith, choice_value L R C U a b s h, (choice_first L R C U a b s h).before d p m (omega arith))))
      (λ n. omega arith)

  detour_case :
      (d : ℕ) (q r : Plan) (a b s : ℕ) →
      a ≤ d →
      d ≤ b →
      candidate L R C U (value L R C U) a b s (suc d) ≡ value L R C U a (suc b) s →
      NotBefore q (best L R C U (suc d) b (s + C (suc b))) (suc d) b →
      NotBefore r (best L R C U a d s) a d →
      NotBefore (detour d q r) (best L R C U a (suc b) s) a (suc b)
  detour_case d q r a b s h l e g g' = go (choice L R C U a b s) refl
    where
      go : (k : ℕ) → choice L R C U a b s ≡ k → NotBefore (detour d q r) (best L R C U a (suc b) s) a (suc b)
      go zero c =
          rw
          (best_skip L R C U a b s (omega arith) c)
          (inr (skip_before_detour d (best L R C U a b (s + C (suc b))) q r a b (omega arith) l (best_over L R C U a b (s + C (suc b)))))
      go (suc d') c =
          let w : (a < suc d') × (suc d' ≤ suc b) = rw c at ((choice_first L R C U a b s (omega arith)).within (omega arith)) in
          rw
          (best_detour L R C U a b s d' (omega arith) c)
          (by_cases
          (dec_lt d d')
          (λ m. inr (later_start_first d' d (best L R C U (suc d') b (s + C (suc b))) (best L R C U a d' s) q r a b (omega arith) (omega arith) m))
          (λ n. let same : d' ≡ d = omega (arith, choice_not_after a b s d (omega arith) l e (omega arith)) in
          rw same (detour_not_before d q r (best L R C U (suc d) b (s + C (suc b))) (best L R C U a d s) a b h l g g')))

  -- A plan of least cost has an inner plan and a rest of least cost.
  pub detour_parts :
      (d : ℕ) (q r : Plan) (a b s : ℕ) →
      Over (detour d q r) a (suc b) →
      cost L R C U (detour d q r) a (suc b) s ≡ value L R C U a (suc b) s →
      (candidate L R C U (value L R C U) a b s (suc d) ≡ value L R C U a (suc b) s) × (cost L R C U q (suc d) b (s + C (suc b)) ≡ value L R C U (suc d) b (s + C (suc b))) × (cost L R C U r a d s ≡ value L R C U a d s)
  unfolding cost candidate
  detour_parts d q r a b s o e =
      let x = value_least L R C U a b s d o.0 o.1 in
      let y = best_least L R C U q (suc d) b (s + C (suc b)) o.2 in
      let z = best_least L R C U r a d s o.3 in
      omega arith

  -- A plan that costs the value is `best`, or `best` comes first.
  pub best_first : (p : Plan) (a b s : ℕ) → Over p a b → cost L R C U p a b s ≡ value L R C U a b s → NotBefore p (best L R C U a b s) a b
  best_first empty a b s o e = inl (sym (best_none L R C U a b s o))
  best_first (skip q) a zero s o e = absurd o
  best_first (skip q) a (suc b) s o e =
      skip_case q a b s o.0 (best_least L R C U q a b (s + C (suc b)) o.1) (best_first q a b (s + C (suc b)) o.1) e
  best_first (detour d q r) a zero s o e = absurd o
  best_first (detour d q r) a (suc b) s o e =
      let f = detour_parts d q r a b s o e in
      detour_case d q r a b s o.0 o.1 f.0 (best_first q (suc d) b (s + C (suc b)) o.2 f.1) (best_first r a d s o.3 f.2)
