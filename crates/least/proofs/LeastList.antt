-- The list of the table's plan is the least list of a run, and a run has one least list.
use Prim.Native.Nat.{ℕ, suc, ◌≤◌, ◌<◌}
use native.Mathlib.Omega.{arith}
use native.Mathlib.Decide.{dec_lt}
use mathlib.Core.Path.{◌≡◌, refl, ap, sym, ◌∙◌}
use mathlib.Core.Logic.{◌⊎◌, inl, inr, ⊎_elim, by_cases}
use mathlib.Core.Bool.{true≢false}
use mathlib.Core.List.{List, [], ◌∷◌}
use lib.ListN.{length}
use Rattle.refusals.specs.Refusals.{first_where}
use Rattle.runs.specs.Run.{Stop}
use Rattle.walk.specs.Walk.{sum_of}
use Rattle.runs.specs.Lists.{Detour, wanted, first_bad_entry, WellFormed}
use Rattle.runs.proofs.Search.{true_or_false}
use Rattle.runs.proofs.Sound.{Sound, SoundAny, sound_any}
use Rattle.least.specs.Least.{start_for, Sooner, ComesFirst, list_sum, LeastFor}
use Rattle.least.proofs.Plan.{Over, Owned, start_in}
use Rattle.least.proofs.Rising.{Rises, index_order}
use Rattle.least.proofs.Best.{best_over}
use Rattle.least.proofs.Ties.{PlanFirst, NotBefore, start_bounds}
use Rattle.least.proofs.Identity.{runSum}
use Rattle.least.proofs.LeastPlan.{best_sum_least, best_sum_first}
use Rattle.least.proofs.Starts.{best_owned}
use Rattle.least.proofs.Walks.{any_spaced, sound_owned, walk_sum}
use Rattle.least.proofs.Lists.{wanted_at, wanted_index, none_wanted, PlanOf, parse, numbers_rise, listed_formed, numbered, numbered_some, table_at_stop, table_off_stops}
use Rattle.least.specs.Recurrence.{Plan, plan_detours, best, file_at, left_at, right_at, count_at, best_plan, least_list}

pub least_list_none : (price : ℕ) → least_list price [] ≡ []
unfolding least_list
least_list_none price = refl

pub least_list_some : (price n : ℕ) (stops : List Stop) → length stops ≡ suc n → least_list price stops ≡ plan_detours (file_at stops) (best_plan price stops n) n
unfolding least_list
least_list_some price n [] e = absurd (omega arith)
least_list_some price n (s ∷ ss) e = let q : length ss ≡ n = omega arith in rw q

-- Numbers in place of stops keep the order of starts.
sooner_numbered : (F : ℕ → ℕ) (n c c' : ℕ) → Rises F n → ((i : ℕ) → i ≤ n → 0 < F i) → c ≤ n → c' ≤ n → Sooner c c' → Sooner (numbered F c) (numbered F c')
sooner_numbered F n c c' rises some h h' (inl s) =
    let none : c ≡ 0 = s.0 in
    rw (none, numbered_some F c' s.1) (inl (refl, some c' h'))
sooner_numbered F n c c' rises some h h' (inr s) =
    rw (numbered_some F c (omega arith), numbered_some F c' s.0) (inr (some c' h', rises c' c s.1 h))

start_within : (p : Plan) (n j : ℕ) → Over p 0 n → j ≤ n → start_in p n j ≤ n
start_within p n j o h = by_cases (dec_lt 0 (start_in p n j)) (λ l. omega (arith, start_bounds p 0 n j o l)) (λ l. omega arith)

module _ (m n : ℕ) (stops : List Stop) (ok : SoundAny stops m) (size : length stops ≡ suc n) where
  module _ (p q : Plan) (op : Over p 0 n) (oq : Over q 0 n) (f : PlanFirst p q 0 n) where
    -- Right of the stop that tells the plans apart their lists agree, at the stops' numbers and at all others.
    agree_beyond : (g : ℕ) → file_at stops f.stop < g → start_for (plan_detours (file_at stops) p n) g ≡ start_for (plan_detours (file_at stops) q n) g
    agree_beyond g h =
        ⊎_elim
        (λ e.
        let w : (i : ℕ) × (i < length stops) × (file_at stops i ≡ g) = wanted_index stops g e in
        let later : f.stop < w.0 = index_order (file_at stops) n (numbers_rise m n stops ok size) f.stop w.0 f.within (omega arith) in
        rw (← w.2, table_at_stop m n stops ok size p op w.0 (omega arith), table_at_stop m n stops ok size q oq w.0 (omega arith), f.agree w.0 later))
        (λ e.
        let off : (j : ℕ) → j ≤ n → file_at stops j ≡ g → ⊥ = λ j l i. true≢false (sym (wanted_at stops j (omega arith)) ∙ ap (wanted stops) i ∙ e) in
        table_off_stops m n stops ok size p op g off ∙ sym (table_off_stops m n stops ok size q oq g off))
        (true_or_false (wanted stops g))

    -- The tie rule on plans is the tie rule on their lists.
    lists_come_first : ComesFirst (plan_detours (file_at stops) p n) (plan_detours (file_at stops) q n)
    lists_come_first =
        record {
          file = file_at stops f.stop;
          agree = agree_beyond;
          sooner =
              rw
              (table_at_stop m n stops ok size p op f.stop f.within, table_at_stop m n stops ok size q oq f.stop f.within)
              (sooner_numbered (file_at stops) n (start_in p n f.stop) (start_in q n f.stop) (numbers_rise m n stops ok size) (λ i h. ok.named i (omega arith))
              (start_within p n f.stop op f.within) (start_within q n f.stop oq f.within) f.sooner);
        }

  list_not_before : (q p : Plan) → Over q 0 n → Over p 0 n → NotBefore q p 0 n → (plan_detours (file_at stops) q n ≡ plan_detours (file_at stops) p n) ⊎ ComesFirst (plan_detours (file_at stops) p n) (plan_detours (file_at stops) q n)
  list_not_before q p oq op (inl e) = inl (ap (λ x. plan_detours (file_at stops) x n) e)
  list_not_before q p oq op (inr f) = inr (lists_come_first p q op oq f)

  module _ (price : ℕ) where
    abbrev chosen : List Detour
    chosen = plan_detours (file_at stops) (best_plan price stops n) n

    best_over_run : Over (best_plan price stops n) 0 n
    best_over_run = best_over (left_at stops) (right_at stops) (count_at stops) price 0 n 0

    pub chosen_formed : WellFormed stops chosen
    chosen_formed = listed_formed m n stops ok size (best_plan price stops n) best_over_run

    pub chosen_owned : Owned (left_at stops) (best_plan price stops n)
    chosen_owned =
        best_owned (left_at stops) (right_at stops) (count_at stops) price n (any_spaced stops m n ok size) (λ i h. ok.counted i (omega arith)) 0 n 0 (omega arith)

    within : (i : ℕ) → i ≤ n → left_at stops i ≤ m
    within i h = ok.within i (omega arith)

    sum_of_plan : (p : Plan) → Over p 0 n → Owned (left_at stops) p → list_sum price m stops (plan_detours (file_at stops) p n) ≡ runSum (left_at stops) (right_at stops) (count_at stops) price p n m
    sum_of_plan p o own = walk_sum m n stops ok size p o own price

    -- The sum of the list's walk is no larger than that of any plan's times, and than that of the walk of any plan whose legs read no stop left of
    -- their own.
    pub chosen_lowest : (p : Plan) → Over p 0 n → list_sum price m stops chosen ≤ runSum (left_at stops) (right_at stops) (count_at stops) price p n m
    chosen_lowest p o =
        omega (
          arith,
          sum_of_plan (best_plan price stops n) best_over_run chosen_owned,
          best_sum_least (left_at stops) (right_at stops) (count_at stops) price n m (any_spaced stops m n ok size) within p o,
        )

    module _ (other : List Detour) (w : PlanOf stops n other) (own : Owned (left_at stops) w.plan) where
      other_sum : list_sum price m stops other ≡ runSum (left_at stops) (right_at stops) (count_at stops) price w.plan n m
      other_sum = ap (list_sum price m stops) (sym w.lists) ∙ sum_of_plan w.plan w.over own

      pub chosen_smallest : list_sum price m stops chosen ≤ list_sum price m stops other
      chosen_smallest = omega (arith, chosen_lowest w.plan w.over, other_sum)

      pub chosen_first : list_sum price m stops other ≡ list_sum price m stops chosen → (other ≡ chosen) ⊎ ComesFirst chosen other
      chosen_first e =
          let same : runSum (left_at stops) (right_at stops) (count_at stops) price w.plan n m ≡ runSum (left_at stops) (right_at stops) (count_at stops) price (best_plan price stops n) n m
          = omega (arith, sum_of_plan (best_plan price stops n) best_over_run chosen_owned, other_sum) in
          rw
          (← w.lists)
          (list_not_before w.plan (best_plan price stops n) w.over best_over_run
          (best_sum_first (left_at stops) (right_at stops) (count_at stops) price n m (any_spaced stops m n ok size) within w.plan w.over same))

-- Of stops that do not overlap every plan's walk is such.
chosen_least : (price m n : ℕ) (stops : List Stop) → Sound stops m → length stops ≡ suc n → LeastFor price m stops (plan_detours (file_at stops) (best_plan price stops n) n)
chosen_least price m n stops ok size =
    record {
      formed = chosen_formed m n stops any size price;
      smallest = λ other v. chosen_smallest m n stops any size price other (plan other v) (own other v);
      first = λ other v. chosen_first m n stops any size price other (plan other v) (own other v);
    }
  where
    any : SoundAny stops m
    any = sound_any stops m ok

    plan : (other : List Detour) → WellFormed stops other → PlanOf stops n other
    plan other v = parse m n stops any size other v

    own : (other : List Detour) (v : WellFormed stops other) → Owned (left_at stops) (plan other v).plan
    own other v = sound_owned stops m n ok size (plan other v).plan (plan other v).over

least_none : (price m : ℕ) → LeastFor price m [] []
unfolding first_bad_entry first_where sum_of
least_none price m = record {
  formed = refl;
  smallest = λ other v. omega arith;
  first = λ other v e. inl (none_wanted other v);
}

pub least_list_lem : (price m : ℕ) (stops : List Stop) → Sound stops m → LeastFor price m stops (least_list price stops)
least_list_lem price m [] ok = rw (least_list_none price) (least_none price m)
least_list_lem price m (s ∷ ss) ok = rw (least_list_some price (length ss) (s ∷ ss) refl) (chosen_least price m (length ss) (s ∷ ss) ok refl)

-- No start is sooner than itself, and of two lists at most one comes first.
sooner_itself : (c c' : ℕ) → c ≡ c' → Sooner c c' → ⊥
sooner_itself c c' e (inl s) = omega arith
sooner_itself c c' e (inr s) = omega arith

sooner_both : (c c' : ℕ) → Sooner c c' → Sooner c' c → ⊥
sooner_both c c' (inl s) (inl t) = omega arith
sooner_both c c' (inl s) (inr t) = omega arith
sooner_both c c' (inr s) (inl t) = omega arith
sooner_both c c' (inr s) (inr t) = omega arith

first_one_way : (l l' : List Detour) → ComesFirst l l' → ComesFirst l' l → ⊥
first_one_way l l' f g =
    by_cases
    (dec_lt f.file g.file)
    (λ h. sooner_itself (start_for l' g.file) (start_for l g.file) (sym (f.agree g.file h)) g.sooner)
    (λ h. by_cases
    (dec_lt g.file f.file)
    (λ k. sooner_itself (start_for l f.file) (start_for l' f.file) (sym (g.agree f.file k)) f.sooner)
    (λ k. let e : g.file ≡ f.file = omega arith in sooner_both (start_for l f.file) (start_for l' f.file) f.sooner (rw e at g.sooner)))

-- Two lists with the smallest sum, each of which comes first among those, are one list.
pub one_first : (sum : List Detour → ℕ) (l l' : List Detour) → sum l ≤ sum l' → sum l' ≤ sum l
    → (sum l' ≡ sum l → (l' ≡ l) ⊎ ComesFirst l l') → (sum l ≡ sum l' → (l ≡ l') ⊎ ComesFirst l' l) → l ≡ l'
one_first sum l l' h h' k k' =
    let same : sum l ≡ sum l' = omega arith in
    ⊎_elim (λ e. sym e) (λ f. ⊎_elim (λ e. e) (λ g. absurd (first_one_way l l' f g)) (k' same)) (k (sym same))

-- Two least lists of one run are one list.
pub least_unique : (price m : ℕ) (stops : List Stop) (l l' : List Detour) → LeastFor price m stops l → LeastFor price m stops l' → l ≡ l'
least_unique price m stops l l' h h' =
    one_first (list_sum price m stops) l l' (h.smallest l' h'.formed) (h'.smallest l h.formed) (h.first l' h'.formed) (h'.first l h.formed)
