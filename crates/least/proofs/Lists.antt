-- The border between lists and plans: every plan's list is well formed, every well-formed list is a plan's,
-- and both have the same table of starts by ends.
use Prim.Native.Nat.{ℕ, zero, suc, ◌-◌, ◌≤◌, ◌<◌}
use mathlib.Core.Path.{◌≡◌, refl, sym, ap, ◌∙◌}
use mathlib.Core.Bool.{true, false, not, ◌||◌, or-true, true≢false, false≢true}
use mathlib.Core.Logic.{◌⊎◌, inl, inr, ⊎_elim, by_cases, ◌≢◌}
use mathlib.Core.List.{List, [], ◌∷◌, ◌++◌, map, map-append}
use native.Mathlib.Omega.{arith}
use native.Mathlib.Decide.{dec_le, ℕ_discrete}
use lib.Dec.{leb, ltb, eqb}
use lib.ListN.{length}
use borrow.Author.Tests.{ltb-false, leb-false, not-false, le-ltb, le-leb, lt-leb, eq-eqb, ne_eqb}
use Rattle.runs.specs.Run.{Stop}
use Rattle.runs.specs.Lists.{Detour, wanted, leftmost, WellFormed}
use Rattle.runs.proofs.Search.{or_false_both}
use Rattle.runs.proofs.Sound.{SoundAny}
use Rattle.least.specs.Least.{start_for}
use Rattle.least.proofs.Plan.{Over, start_in}
use Rattle.least.proofs.Rising.{Rises, rises_not_strictly, index_order, index_same}
use Rattle.least.proofs.Walks.{files_rise}
use Rattle.least.proofs.Rules.{All, After, Ordered, all_of, all_of_two, all_append, all_split, ordered_append, ordered_split, Alone, rules_of_formed, formed_of_rules}
use Rattle.least.specs.Recurrence.{Plan, empty, skip, detour, plan_detours, file_at}

-- Entries as pairs of stops: the list of a plan with the stops' indices for numbers.
abbrev pub indices : Plan → ℕ → List Detour
indices p b = plan_detours (λ i. i) p b

abbrev pub Within : ℕ → ℕ → Detour → Type 0
Within a b d = (a < d.from) × (d.from ≤ d.to) × (d.to ≤ b)

pub within_plan : (p : Plan) (a b : ℕ) → Over p a b → All (Within a b) (indices p b)
unfolding plan_detours
within_plan empty a b o = tt
within_plan (skip p) a zero o = absurd o
within_plan (skip p) a (suc b) o = all_of (Within a b) (Within a (suc b)) (indices p b) (λ d v. omega arith) (within_plan p a b o.1)
within_plan (detour d inner rest) a zero o = absurd o
within_plan (detour d inner rest) a (suc b) o =
    all_append (Within a (suc b)) (indices inner b) _
    (all_of (Within (suc d) b) (Within a (suc b)) (indices inner b) (λ x v. omega arith) (within_plan inner (suc d) b o.2))
    (omega arith, all_of (Within a d) (Within a (suc b)) (indices rest d) (λ x v. omega arith) (within_plan rest a d o.3))

pub ordered_plan : (p : Plan) (a b : ℕ) → Over p a b → Ordered (indices p b)
unfolding plan_detours
ordered_plan empty a b o = tt
ordered_plan (skip p) a zero o = absurd o
ordered_plan (skip p) a (suc b) o = ordered_plan p a b o.1
ordered_plan (detour d inner rest) a zero o = absurd o
ordered_plan (detour d inner rest) a (suc b) o =
    let e : Detour = record { from = suc d; to = suc b } in
    let r : All (Within a d) (indices rest d) = within_plan rest a d o.3 in
    ordered_append (indices inner b) (e ∷ indices rest d) (ordered_plan inner (suc d) b o.2)
    (all_of (Within a d) (After e) (indices rest d) (λ y v. (omega arith, inl (omega arith))) r, ordered_plan rest a d o.3)
    (all_of (Within (suc d) b) (λ x. All (After x) (e ∷ indices rest d)) (indices inner b)
    (λ x v. ((omega arith, inr (omega arith)), all_of (Within a d) (After x) (indices rest d) (λ y w. (omega arith, inl (omega arith))) r))
    (within_plan inner (suc d) b o.2))

-- The entry that ends at the window's last stop splits the list; without one the window is smaller.
record Split (b : ℕ) (list : List Detour) : Type 0 where
  xs : List Detour
  e : Detour
  ys : List Detour
  parts : list ≡ xs ++ e ∷ ys
  ends : e.to ≡ b

split_at_end : (a b : ℕ) (list : List Detour) → All (Within a (suc b)) list → Split (suc b) list ⊎ All (Within a b) list
split_at_end a b [] v = inr tt
split_at_end a b (x ∷ list) v =
    by_cases (dec_le x.to b)
    (λ h.
    ⊎_elim
    (λ s. inl (record { xs = x ∷ s.xs; e = s.e; ys = s.ys; parts = ap (λ l. x ∷ l) s.parts; ends = s.ends }))
    (λ w. inr (omega arith, w))
    (split_at_end a b list v.1))
    (λ h. inl (record { xs = []; e = x; ys = list; parts = refl; ends = omega arith }))

record Parsed (a b : ℕ) (list : List Detour) : Type 0 where
  plan : Plan
  over : Over plan a b
  lists : indices plan b ≡ list

-- No entry fits an empty window.
parse_none : (a b : ℕ) (list : List Detour) → b ≤ a → All (Within a b) list → Parsed a b list
unfolding plan_detours
parse_none a b [] h v = record { plan = empty; over = h; lists = refl }
parse_none a b (x ∷ list) h v = absurd (omega arith)

parse_skip : (a b : ℕ) (list : List Detour) → a ≤ b → Parsed a b list → Parsed a (suc b) list
unfolding plan_detours
parse_skip a b list h w = record { plan = skip w.plan; over = (h, w.over); lists = w.lists }

parse_detour : (a b d : ℕ) (xs ys : List Detour) (e : Detour) → a ≤ d → d ≤ b → e.from ≡ suc d → e.to ≡ suc b
    → Parsed (suc d) b xs → Parsed a d ys → Parsed a (suc b) (xs ++ e ∷ ys)
unfolding plan_detours
parse_detour a b d xs ys e ha hd f t w v =
    record {
      plan = detour d w.plan v.plan;
      over = (ha, hd, w.over, v.over);
      lists = rw (w.lists, v.lists, ← f, ← t);
    }

abbrev Parses : ℕ → Type 0
Parses k = (a b : ℕ) (list : List Detour) → b ≤ k → All (Within a b) list → Ordered list → Parsed a b list

-- What comes before the entry that ends at the window's last stop lies inside it; what comes after, left of it.
before_inside : (a b d : ℕ) (e x : Detour) → e.from ≡ suc d → e.to ≡ suc b → Within a (suc b) x → After x e → Within (suc d) b x
before_inside a b d e x f t v w = ⊎_elim (λ h. absurd (omega arith)) (λ h. omega arith) w.1

after_left : (a b d : ℕ) (e y : Detour) → e.from ≡ suc d → e.to ≡ suc b → Within a (suc b) y → After e y → Within a d y
after_left a b d e y f t v w = ⊎_elim (λ h. omega arith) (λ h. absurd (omega arith)) w.1

parse_split : (k a b d : ℕ) (xs ys : List Detour) (e : Detour) → Parses k → b ≤ k → e.from ≡ suc d → e.to ≡ suc b
    → All (Within a (suc b)) (xs ++ e ∷ ys) → Ordered (xs ++ e ∷ ys) → Parsed a (suc b) (xs ++ e ∷ ys)
parse_split k a b d xs ys e ih hk f t v o =
    let w : All (Within a (suc b)) xs × All (Within a (suc b)) (e ∷ ys) = all_split (Within a (suc b)) xs (e ∷ ys) v in
    let u : Ordered xs × Ordered (e ∷ ys) × All (λ x. All (After x) (e ∷ ys)) xs = ordered_split xs (e ∷ ys) o in
    parse_detour a b d xs ys e (omega arith) (omega arith) f t
    (ih (suc d) b xs hk (all_of_two (Within a (suc b)) (λ x. All (After x) (e ∷ ys)) (Within (suc d) b) xs (λ x p q. before_inside a b d e x f t p q.0) w.0 u.2) u.0)
    (ih a d ys (omega arith) (all_of_two (Within a (suc b)) (After e) (Within a d) ys (λ y p q. after_left a b d e y f t p q) w.1.1 u.1.0) u.1.1)

parse_step : (k a b : ℕ) (list : List Detour) → Parses k → b ≤ suc k → All (Within a b) list → Ordered list → Parsed a b list
parse_step k a zero list ih hk v o = parse_none a zero list (omega arith) v
parse_step k a (suc b) list ih hk v o =
    by_cases (dec_le a b)
    (λ h.
    ⊎_elim
    (λ s.
    let w : All (Within a (suc b)) (s.xs ++ s.e ∷ s.ys) = rw s.parts at v in
    let u : Within a (suc b) s.e = (all_split (Within a (suc b)) s.xs (s.e ∷ s.ys) w).1.0 in
    rw s.parts (parse_split k a b (s.e.from - 1) s.xs s.ys s.e ih (omega arith) (omega arith) s.ends w (rw s.parts at o)))
    (λ w. parse_skip a b list h (ih a b list (omega arith) w o))
    (split_at_end a b list v))
    (λ h. parse_none a (suc b) list (omega arith) v)

parse_indices : (k : ℕ) → Parses k
parse_indices zero a b list hk v o = parse_none a b list (omega arith) v
parse_indices (suc k) a b list hk v o = parse_step k a b list (parse_indices k) hk v o

-- From stops to the files' numbers.
abbrev pub named : (ℕ → ℕ) → Detour → Detour
named F d = record { from = F d.from; to = F d.to }

pub listed_by_index : (F : ℕ → ℕ) (p : Plan) (b : ℕ) → plan_detours F p b ≡ map (named F) (indices p b)
unfolding plan_detours
listed_by_index F empty b = refl
listed_by_index F (skip p) zero = refl
listed_by_index F (skip p) (suc b) = listed_by_index F p b
listed_by_index F (detour d inner rest) zero = refl
listed_by_index F (detour d inner rest) (suc b) =
    rw (listed_by_index F inner b, listed_by_index F rest d) (sym (map-append (named F) (indices inner b) (record { from = suc d; to = suc b } ∷ indices rest d)))

module _ (Q : Detour → Type 0) (f : Detour → Detour) where
  all_map : (xs : List Detour) → All (λ d. Q (f d)) xs → All Q (map f xs)
  all_map [] v = tt
  all_map (x ∷ xs) v = (v.0, all_map xs v.1)

  all_unmap : (xs : List Detour) → All Q (map f xs) → All (λ d. Q (f d)) xs
  all_unmap [] v = tt
  all_unmap (x ∷ xs) v = (v.0, all_unmap xs v.1)

-- Numbers rise with the stops, and so keep and show their order.
module _ (F : ℕ → ℕ) (n : ℕ) (rises : Rises F n) where
  after_named : (e d : Detour) → Within 0 n e → Within 0 n d → After e d → After (named F e) (named F d)
  after_named e d v w h = (
    rises d.from e.from h.0 (omega arith),
    ⊎_elim (λ k. inl (rises d.to e.from k (omega arith))) (λ k. inr (rises e.to d.to k (omega arith))) h.1,
  )

  after_back : (e d : Detour) → Within 0 n e → Within 0 n d → After (named F e) (named F d) → After e d
  after_back e d v w h = (
    index_order F n rises d.from e.from (omega arith) h.0,
    ⊎_elim (λ k. inl (index_order F n rises d.to e.from (omega arith) k)) (λ k. inr (index_order F n rises e.to d.to (omega arith) k)) h.1,
  )

  ordered_named : (xs : List Detour) → All (Within 0 n) xs → Ordered xs → Ordered (map (named F) xs)
  ordered_named [] v o = tt
  ordered_named (x ∷ xs) v o = (
    all_map (After (named F x)) (named F) xs (all_of_two (Within 0 n) (After x) (λ d. After (named F x) (named F d)) xs (λ d w h. after_named x d v.0 w h) v.1 o.0),
    ordered_named xs v.1 o.1,
  )

  ordered_back : (xs : List Detour) → All (Within 0 n) xs → Ordered (map (named F) xs) → Ordered xs
  ordered_back [] v o = tt
  ordered_back (x ∷ xs) v o = (
    all_of_two (Within 0 n) (λ d. After (named F x) (named F d)) (After x) xs (λ d w h. after_back x d v.0 w h) v.1 (all_unmap (After (named F x)) (named F) xs o.0),
    ordered_back xs v.1 o.1,
  )

-- A wanted number is some stop's, and the other way round.
pub wanted_at : (stops : List Stop) (i : ℕ) → i < length stops → wanted stops (file_at stops i) ≡ true
unfolding wanted
wanted_at [] i h = absurd (omega arith)
wanted_at (s ∷ ss) zero h = rw (eq-eqb s.file s.file refl)
wanted_at (s ∷ ss) (suc i) h = rw (wanted_at ss i (omega arith)) (or-true (eqb s.file (file_at ss i)))

pub wanted_index : (stops : List Stop) (f : ℕ) → wanted stops f ≡ true → (i : ℕ) × (i < length stops) × (file_at stops i ≡ f)
unfolding wanted
wanted_index [] f e = absurd (false≢true e)
wanted_index (s ∷ ss) f e =
    by_cases (ℕ_discrete s.file f) (λ h. (0, omega arith, h))
    (λ h.
    let t : (i : ℕ) × (i < length ss) × (file_at ss i ≡ f) = wanted_index ss f (rw (ne_eqb s.file f h) at e) in
    (suc t.0, omega arith, t.2))

leftmost_at : (stops : List Stop) → leftmost stops ≡ file_at stops 0
leftmost_at [] = refl
leftmost_at (s ∷ ss) = refl

-- With no stops no entry is allowed.
pub none_wanted : (list : List Detour) → WellFormed [] list → list ≡ []
unfolding wanted
none_wanted [] v = refl
none_wanted (d ∷ list) v = absurd (true≢false (rules_of_formed [] (d ∷ list) v).0.0)

-- A plan whose list is the one given.
pub record PlanOf (stops : List Stop) (n : ℕ) (list : List Detour) : Type 0 where
  pub plan : Plan
  pub over : Over plan 0 n
  pub lists : plan_detours (file_at stops) plan n ≡ list

module _ (m n : ℕ) (stops : List Stop) (ok : SoundAny stops m) (size : length stops ≡ suc n) where
  pub numbers_rise : Rises (file_at stops) n
  numbers_rise i j h l = files_rise stops ok.ascends i j h (omega arith)

  alone_named : (d : Detour) → Within 0 n d → Alone stops (named (file_at stops) d)
  alone_named d v =
      rw (
        wanted_at stops d.from (omega arith),
        wanted_at stops d.to (omega arith),
        le-ltb (file_at stops d.to) (file_at stops d.from) (rises_not_strictly (file_at stops) n numbers_rise d.from d.to v.1 v.2),
        leftmost_at stops,
        lt-leb (file_at stops d.from) (file_at stops 0) (numbers_rise 0 d.from v.0 (omega arith)),
      )

  pub listed_formed : (p : Plan) → Over p 0 n → WellFormed stops (plan_detours (file_at stops) p n)
  listed_formed p o =
      rw (listed_by_index (file_at stops) p n)
      (formed_of_rules stops (map (named (file_at stops)) (indices p n))
      (all_map (Alone stops) (named (file_at stops)) (indices p n)
      (all_of (Within 0 n) (λ d. Alone stops (named (file_at stops) d)) (indices p n) alone_named (within_plan p 0 n o)))
      (ordered_named (file_at stops) n numbers_rise (indices p n) (within_plan p 0 n o) (ordered_plan p 0 n o)))

  alone_back : (d : Detour) → Alone stops d → (e : Detour) × Within 0 n e × (named (file_at stops) e ≡ d)
  alone_back d v =
      let a : (not (wanted stops d.from) || not (wanted stops d.to) || ltb d.to d.from ≡ false) × (leb d.from (leftmost stops) ≡ false) = or_false_both _ _ v in
      let b : (not (wanted stops d.from) || not (wanted stops d.to) ≡ false) × (ltb d.to d.from ≡ false) = or_false_both _ _ a.0 in
      let c : (not (wanted stops d.from) ≡ false) × (not (wanted stops d.to) ≡ false) = or_false_both _ _ b.0 in
      let f : (i : ℕ) × (i < length stops) × (file_at stops i ≡ d.from) = wanted_index stops d.from (not-false (wanted stops d.from) c.0) in
      let t : (i : ℕ) × (i < length stops) × (file_at stops i ≡ d.to) = wanted_index stops d.to (not-false (wanted stops d.to) c.1) in
      let low : file_at stops 0 < file_at stops f.0 = omega (arith, leb-false d.from (leftmost stops) a.1, leftmost_at stops) in
      let order : file_at stops f.0 ≤ file_at stops t.0 = omega (arith, ltb-false d.to d.from b.1) in (
        record { from = f.0; to = t.0 },
        (
          index_order (file_at stops) n numbers_rise 0 f.0 (omega arith) low,
          by_cases (dec_le f.0 t.0) (λ h. h) (λ h. absurd (omega (arith, numbers_rise t.0 f.0 (omega arith) (omega arith)))),
          omega arith,
        ),
        λ i. record { from = f.2 i; to = t.2 i },
      )

  list_back : (list : List Detour) → All (Alone stops) list → (xs : List Detour) × All (Within 0 n) xs × (map (named (file_at stops)) xs ≡ list)
  list_back [] v = ([], tt, refl)
  list_back (d ∷ list) v =
      let e : (e : Detour) × Within 0 n e × (named (file_at stops) e ≡ d) = alone_back d v.0 in
      let t : (xs : List Detour) × All (Within 0 n) xs × (map (named (file_at stops)) xs ≡ list) = list_back list v.1 in
      (e.0 ∷ t.0, (e.1, t.1), rw (e.2, t.2))

  pub parse : (list : List Detour) → WellFormed stops list → PlanOf stops n list
  parse list v =
      let r : All (Alone stops) list × Ordered list = rules_of_formed stops list v in
      let b : (xs : List Detour) × All (Within 0 n) xs × (map (named (file_at stops)) xs ≡ list) = list_back list r.0 in
      let w : Parsed 0 n b.0 = parse_indices n 0 n b.0 (omega arith) b.1 (ordered_back (file_at stops) n numbers_rise b.0 b.1 (rw (← b.2) at r.1)) in
      record {
        plan = w.plan;
        over = w.over;
        lists = rw (listed_by_index (file_at stops) w.plan n, w.lists, b.2);
      }

-- A table read past entries that end elsewhere.
module _ (j : ℕ) where
  abbrev Elsewhere : Detour → Type 0
  Elsewhere d = d.to ≢ j

  table_none : (ys : List Detour) → All Elsewhere ys → start_for ys j ≡ 0
  unfolding start_for
  table_none [] v = refl
  table_none (y ∷ ys) v = rw (ne_eqb y.to j v.0) (table_none ys v.1)

  table_past : (xs ys : List Detour) → All Elsewhere xs → start_for (xs ++ ys) j ≡ start_for ys j
  unfolding start_for
  table_past [] ys v = refl
  table_past (x ∷ xs) ys v = rw (ne_eqb x.to j v.0) (table_past xs ys v.1)

  table_before : (xs ys : List Detour) → All Elsewhere ys → start_for (xs ++ ys) j ≡ start_for xs j
  unfolding start_for
  table_before [] ys v = table_none ys v
  table_before (x ∷ xs) ys v = rw (table_before xs ys v)

  table_here : (x : Detour) (xs : List Detour) → x.to ≡ j → start_for (x ∷ xs) j ≡ x.from
  unfolding start_for
  table_here x xs e = rw (eq-eqb x.to j e)

  -- A plan's table is its list's.
  elsewhere : (p : Plan) (a b : ℕ) → Over p a b → (j ≤ a) ⊎ (b < j) → All Elsewhere (indices p b)
  elsewhere p a b o h = all_of (Within a b) Elsewhere (indices p b) (λ d v. ⊎_elim (λ l. omega arith) (λ l. omega arith) h) (within_plan p a b o)

  table_of_plan : (p : Plan) (a b : ℕ) → Over p a b → start_for (indices p b) j ≡ start_in p b j
  unfolding plan_detours start_in start_for
  table_of_plan empty a b o = refl
  table_of_plan (skip p) a zero o = absurd o
  table_of_plan (skip p) a (suc b) o = table_of_plan p a b o.1
  table_of_plan (detour d inner rest) a zero o = absurd o
  table_of_plan (detour d inner rest) a (suc b) o =
      let e : Detour = record { from = suc d; to = suc b } in
      by_cases (dec_le j d)
      (λ h.
      rw (le-leb j d h)
      (table_past (indices inner b) (e ∷ indices rest d) (elsewhere inner (suc d) b o.2 (inl (omega arith)))
      ∙ table_past (e ∷ []) (indices rest d) (omega arith, tt)
      ∙ table_of_plan rest a d o.3))
      (λ h.
      by_cases (dec_le j b)
      (λ i.
      rw (lt-leb j d (omega arith), le-leb j b i)
      (table_before (indices inner b) (e ∷ indices rest d) (omega arith, elsewhere rest a d o.3 (inr (omega arith)))
      ∙ table_of_plan inner (suc d) b o.2))
      (λ i.
      rw (lt-leb j d (omega arith), lt-leb j b (omega arith), table_past (indices inner b) (e ∷ indices rest d) (elsewhere inner (suc d) b o.2 (inr (omega arith))))
      (by_cases (dec_le j (suc b))
      (λ k. rw (le-leb j (suc b) k) (table_here e (indices rest d) (omega arith)))
      (λ k. rw (lt-leb j (suc b) (omega arith)) (table_none (e ∷ indices rest d) (omega arith, elsewhere rest a d o.3 (inr (omega arith))))))))

-- A start as a file's number; 0 stays 0, where there is none.
abbrev pub numbered : (ℕ → ℕ) → ℕ → ℕ
numbered F zero = 0
numbered F (suc c) = F (suc c)

pub numbered_some : (F : ℕ → ℕ) (c : ℕ) → 0 < c → numbered F c ≡ F c
numbered_some F zero h = absurd (omega arith)
numbered_some F (suc c) h = refl

module _ (F : ℕ → ℕ) (n : ℕ) (rises : Rises F n) where
  table_named : (xs : List Detour) (j : ℕ) → j ≤ n → All (Within 0 n) xs → start_for (map (named F) xs) (F j) ≡ numbered F (start_for xs j)
  unfolding start_for
  table_named [] j h v = refl
  table_named (x ∷ xs) j h v =
      by_cases (ℕ_discrete x.to j)
      (λ e. rw (eq-eqb (F x.to) (F j) (ap F e), eq-eqb x.to j e) (sym (numbered_some F x.from v.0.0)))
      (λ e. rw (ne_eqb (F x.to) (F j) (λ q. e (index_same F n rises x.to j v.0.2 h q)), ne_eqb x.to j e) (table_named xs j h v.1))

module _ (m n : ℕ) (stops : List Stop) (ok : SoundAny stops m) (size : length stops ≡ suc n) (p : Plan) (over : Over p 0 n) where
  -- The list's table at a stop's number is the plan's at that stop.
  pub table_at_stop : (j : ℕ) → j ≤ n → start_for (plan_detours (file_at stops) p n) (file_at stops j) ≡ numbered (file_at stops) (start_in p n j)
  table_at_stop j h =
      rw (listed_by_index (file_at stops) p n)
      (table_named (file_at stops) n (numbers_rise m n stops ok size) (indices p n) j h (within_plan p 0 n over)
      ∙ ap (numbered (file_at stops)) (table_of_plan j p 0 n over))

  -- At a number that is no stop's it is 0.
  pub table_off_stops : (f : ℕ) → ((j : ℕ) → j ≤ n → file_at stops j ≢ f) → start_for (plan_detours (file_at stops) p n) f ≡ 0
  table_off_stops f h =
      rw (listed_by_index (file_at stops) p n)
      (table_none f (map (named (file_at stops)) (indices p n))
      (all_map (Elsewhere f) (named (file_at stops)) (indices p n)
      (all_of (Within 0 n) (λ d. file_at stops d.to ≢ f) (indices p n) (λ d v. h d.to v.2) (within_plan p 0 n over))))
