-- The legs of a well-formed list from a head anywhere meet their conditions, and no other legs do.
use Prim.Native.Nat.{ℕ, zero, suc, ◌+◌, ◌-◌, ◌≤◌, ◌<◌}
use mathlib.Core.Path.{◌≡◌, refl, sym, ap, ap₂, ◌∙◌}
use mathlib.Core.Bool.{Bool, true, false}
use mathlib.Core.Logic.{◌⊎◌, inl, inr, ⊎_elim, by_cases}
use mathlib.Core.List.{List, [], ◌∷◌, ◌++◌, map}
use native.Mathlib.Omega.{arith}
use native.Mathlib.Decide.{dec_le, dec_lt}
use lib.Dec.{T}
use lib.ListN.{length, get_or, take, length-map}
use lib.Seq.{take_at, get_or_at, get_or-take, length-take-le, ext_get_or}
use Rattle.runs.specs.Run.{Run, Stop, stops_of}
use Rattle.runs.specs.Rows.{stop_at}
use Rattle.runs.specs.Lists.{Detour, entry_of, WellFormed}
use Rattle.runs.specs.AnyHead.{smaller, pulled_stop, pulled, WellFormedAny, lifted}
use Rattle.runs.proofs.Search.{true_or_false}
use Rattle.runs.proofs.Sound.{Sound}
use Rattle.runs.proofs.Stops.{run_sound}
use Rattle.runs.proofs.Formed.{formed_names, names_most}
use Rattle.runs.proofs.AnyHead.{GoodAnyRun, smaller_first, smaller_second, smaller_is, pulled_length}
use Rattle.walk.specs.declared.Leg.{Leg}
use Rattle.walk.specs.Walk.{served}
use Rattle.walk.specs.Detours.{leg_of, unread_end, sweep_end, last_sweep, legs_of}
use Rattle.walk.specs.AnyHead.{run_legs, legs_any_of}
use Rattle.walk.proofs.Walks.{found}
use Rattle.walk.proofs.Sweeps.{passed, kept}
use Rattle.walk.proofs.Pulled.{start_pulled, end_pulled, detours_left, served_pulled, sweep_pulled}
use Rattle.walk.proofs.AnyHead.{any_formed}
use Rattle.least.proofs.Lists.{none_wanted}
use Rattle.least.proofs.Sweeps.{none_reads_first, legs_count}
use Rattle.least.proofs.LeastAny.{starts_past_first}
use Rattle.demands.specs.Legs.{leg_numbered}
use Rattle.demands.specs.AnyLegs.{IsSmaller, GoesOver, SweepsUp, AreLegsOf}

-- A test that holds, and one that does not.
pub holds_true : (b : Bool) → T b → b ≡ true
holds_true true t = refl
holds_true false t = absurd t

pub holds_not : (b : Bool) → (T b → ⊥) → b ≡ false
holds_not true n = absurd (n tt)
holds_not false n = refl

-- The smaller of two places is one, and only one is.
is_smaller : (x y : ℕ) → IsSmaller x y (smaller x y)
is_smaller x y =
    record {
      one = by_cases (dec_le x y) (λ l. inl (smaller_first x y l)) (λ n. inr (smaller_second x y (omega arith)));
      first = (smaller_is x y).first;
      second = (smaller_is x y).second;
    }

one_smaller : (x y a b : ℕ) → IsSmaller x y a → IsSmaller x y b → a ≡ b
one_smaller x y a b p q =
    ⊎_elim
    (λ (e : a ≡ x). ⊎_elim (λ (f : b ≡ x). e ∙ sym f) (λ (f : b ≡ y). omega (arith, e, f, p.second, q.first)) q.one)
    (λ (e : a ≡ y). ⊎_elim (λ (f : b ≡ x). omega (arith, e, f, p.first, q.second)) (λ (f : b ≡ y). e ∙ sym f) q.one)
    p.one

-- The last stop that some legs have not read, at whose end the search for it ends.
record LastUnread (gs : List Leg) (ss : List Stop) (e : ℕ) : Type 0 where
  index : ℕ
  within : index < length ss
  unread : served gs (stop_at ss index) ≡ false
  later : (j : ℕ) → index < j → j < length ss → served gs (stop_at ss j) ≡ true
  is : e ≡ (stop_at ss index).end

module _ (gs : List Leg) where
  abbrev AllRead : List Stop → Type 0
  AllRead ss = (j : ℕ) → j < length ss → served gs (stop_at ss j) ≡ true

  -- One stop more in front.
  further : (s : Stop) (ss : List Stop) (e : ℕ) → LastUnread gs ss e → LastUnread gs (s ∷ ss) e
  further s ss e u = record { index = suc u.index; within = omega (arith, u.within); unread = u.unread; later = behind; is = u.is }
    where
      behind : (j : ℕ) → suc u.index < j → j < length (s ∷ ss) → served gs (stop_at (s ∷ ss) j) ≡ true
      behind zero l h = absurd (omega arith)
      behind (suc j) l h = u.later j (omega arith) (omega arith)

  from_first : (s : Stop) (ss : List Stop) → served gs s ≡ false → (AllRead ss × (unread_end gs ss s.end ≡ s.end)) ⊎ LastUnread gs ss (unread_end gs ss s.end)
      → LastUnread gs (s ∷ ss) (unread_end gs ss s.end)
  from_first s ss f (inl all) = record { index = 0; within = omega arith; unread = f; later = behind; is = all.1 }
    where
      behind : (j : ℕ) → 0 < j → j < length (s ∷ ss) → served gs (stop_at (s ∷ ss) j) ≡ true
      behind zero l h = absurd (omega arith)
      behind (suc j) l h = all.0 j (omega arith)
  from_first s ss f (inr u) = further s ss (unread_end gs ss s.end) u

  all_and : (s : Stop) (ss : List Stop) → served gs s ≡ true → AllRead ss → AllRead (s ∷ ss)
  all_and s ss t all zero l = t
  all_and s ss t all (suc j) l = all j (omega arith)

  unread_last : (ss : List Stop) (e : ℕ) → (AllRead ss × (unread_end gs ss e ≡ e)) ⊎ LastUnread gs ss (unread_end gs ss e)
  unfolding unread_end
  unread_last [] e = inl ((λ j l. absurd (omega arith)), refl)
  unread_last (s ∷ ss) e =
      ⊎_elim
      (λ (t : served gs s ≡ true).
      rw (passed gs s ss e t)
      (⊎_elim (λ all. inl (all_and s ss t all.0, all.1)) (λ u. inr (further s ss (unread_end gs ss e) u)) (unread_last ss e)))
      (λ (f : served gs s ≡ false). rw (kept gs s ss e f) (inr (from_first s ss f (unread_last ss s.end))))
      (true_or_false (served gs s))

  sweep_last : (s : Stop) (ss : List Stop) → served gs s ≡ false → LastUnread gs (s ∷ ss) (sweep_end gs (s ∷ ss))
  unfolding sweep_end
  sweep_last s ss f = from_first s ss f (unread_last ss s.end)

-- A detour's leg by its index, and the sweep behind all of them.
leg_in_list : (ss : List Stop) (rest : List Leg) (list : List Detour) (i : ℕ) → i < length list → get_or (map (leg_of ss) list ++ rest) i (record { left = 0; right = 0 }) ≡ leg_of ss (entry_of list i)
leg_in_list ss rest [] i l = absurd (omega arith)
leg_in_list ss rest (d ∷ list) zero l = refl
leg_in_list ss rest (d ∷ list) (suc i) l = leg_in_list ss rest list i (omega arith)

numbered : (gs : List Leg) (i : ℕ) → leg_numbered gs (i + 1) ≡ get_or gs i (record { left = 0; right = 0 })
numbered gs i = let e : i + 1 - 1 ≡ i = omega arith in rw e

-- No detour reads the leftmost stop.
pub leftmost_unread : (m M : ℕ) (s : Stop) (ss : List Stop) → Sound (s ∷ ss) M → (list : List Detour) → WellFormedAny m (s ∷ ss) list
    → served (map (leg_of (pulled m (s ∷ ss))) list) (pulled_stop m s) ≡ false
unfolding pulled
leftmost_unread m M s ss ok list formed = none_reads_first (pulled_stop m s) (pulled m ss) list (starts_past_first m M s ss ok list formed 0)

-- The last sweep of a list: where it stands among the legs, where it turns, and where it ends.
record Sweep (m : ℕ) (stops : List Stop) (list : List Detour) : Type 0 where
  leg : Leg
  behind : legs_any_of m stops list ≡ map (leg_of (pulled m stops)) list ++ leg ∷ []
  from : leg.left ≡ smaller (stop_at stops 0).start m
  to : LastUnread (map (leg_of (pulled m stops)) list) stops leg.right

its_sweep : (m M : ℕ) (stops : List Stop) → Sound stops M → (list : List Detour) → WellFormedAny m stops list → 0 < length stops → Sweep m stops list
unfolding legs_of last_sweep pulled
its_sweep m M [] ok list formed some = absurd (omega arith)
its_sweep m M (s ∷ ss) ok list formed some =
    let gs = map (leg_of (pulled m (s ∷ ss))) list in
    let left = detours_left m (s ∷ ss) list in
    record {
      leg = record { left = smaller s.start m; right = sweep_end gs (s ∷ ss) };
      behind = ap (λ e. gs ++ record { left = smaller s.start m; right = e } ∷ []) (sweep_pulled m gs left (s ∷ ss));
      from = refl;
      to = sweep_last gs s ss (sym (served_pulled m gs left s) ∙ leftmost_unread m M s ss ok list formed);
    }

no_legs_lem : (m : ℕ) (stops : List Stop) (list : List Detour) → WellFormed stops list → length stops ≡ 0 → length (legs_any_of m stops list) ≡ 0
unfolding legs_of last_sweep pulled
no_legs_lem m [] list w e = ap (λ l. length (legs_any_of m [] l)) (none_wanted list w)
no_legs_lem m (s ∷ ss) list w e = absurd (omega arith)

pub many_legs : (stops : List Stop) (list : List Detour) → 0 < length stops → length (legs_of stops list) ≡ length list + 1
many_legs [] list some = absurd (omega arith)
many_legs (s ∷ ss) list some = legs_count s ss list

detour_numbered : (m : ℕ) (stops : List Stop) (list : List Detour) (i : ℕ) → i < length list → leg_numbered (legs_any_of m stops list) (i + 1) ≡ leg_of (pulled m stops) (entry_of list i)
unfolding legs_of
detour_numbered m stops list i l = numbered (legs_any_of m stops list) i ∙ leg_in_list (pulled m stops) (last_sweep (pulled m stops) list) list i l

module _ (r : Run) (good : GoodAnyRun r) where
  sound : Sound (stops_of r) (lifted r).head
  sound = run_sound (lifted r) good.run

  -- Two legs of one detour are the same, and so are two sweeps behind the same legs.
  one_place : (i j : ℕ) → i < length (stops_of r) → j < length (stops_of r) → (stop_at (stops_of r) i).file ≡ (stop_at (stops_of r) j).file → i ≡ j
  one_place i j a b e =
      let up = names_most (stops_of r) (lifted r).head sound i j b (omega (arith, e)) a in
      let down = names_most (stops_of r) (lifted r).head sound j i a (omega (arith, e)) b in
      omega (arith, up, down)

  one_detour : (from to : ℕ) (g h : Leg) → GoesOver r from to g → GoesOver r from to h → g ≡ h
  one_detour from to g h p q =
      let i = one_place p.first q.first p.first_stop q.first_stop (p.first_name ∙ sym q.first_name) in
      let j = one_place p.last q.last p.last_stop q.last_stop (p.last_name ∙ sym q.last_name) in
      let left : g.left ≡ h.left = one_smaller (stop_at (stops_of r) q.first).start r.head g.left h.left (rw i at p.left) q.left in
      let right : g.right ≡ h.right = p.right ∙ ap (λ n. (stop_at (stops_of r) n).end) j ∙ sym q.right in
      ap₂ (λ a b. record { left = a; right = b }) left right

  no_later_here : (before : List Leg) (g h : Leg) (p : SweepsUp r before g) (q : SweepsUp r before h) → q.last ≤ p.last
  no_later_here before g h p q = by_cases (dec_lt p.last q.last) (λ l. absurd (q.unread (p.others_read q.last l q.last_stop))) (λ n. omega arith)

  one_sweep : (before : List Leg) (g h : Leg) → SweepsUp r before g → SweepsUp r before h → g ≡ h
  one_sweep before g h p q =
      let j : p.last ≡ q.last = omega (arith, no_later_here before g h p q, no_later_here before h g q p) in
      let left : g.left ≡ h.left = one_smaller (stop_at (stops_of r) 0).start r.head g.left h.left p.left q.left in
      let right : g.right ≡ h.right = p.right ∙ ap (λ n. (stop_at (stops_of r) n).end) j ∙ sym q.right in
      ap₂ (λ a b. record { left = a; right = b }) left right

  module _ (list : List Detour) (formed : WellFormedAny r.head (stops_of r) list) where
    goes_over : (g : Leg) (i : ℕ) → i < length list → g ≡ leg_of (pulled r.head (stops_of r)) (entry_of list i) → GoesOver r (entry_of list i).from (entry_of list i).to g
    goes_over g i l is =
        let names = formed_names (stops_of r) list (any_formed r.head (stops_of r) list formed) i l in
        let a = found (stops_of r) (entry_of list i).from names.0 in
        let b = found (stops_of r) (entry_of list i).to names.1 in
        let turns : g.left ≡ smaller (stop_at (stops_of r) a.index).start r.head
        = ap (λ (g : Leg). g.left) is ∙ start_pulled r.head (stops_of r) (entry_of list i).from ∙ ap (λ x. smaller x r.head) a.starts in
        record {
          first = a.index;
          first_stop = a.within;
          first_name = a.is;
          left = rw turns (is_smaller (stop_at (stops_of r) a.index).start r.head);
          last = b.index;
          last_stop = b.within;
          last_name = b.is;
          right = ap (λ (g : Leg). g.right) is ∙ end_pulled r.head (stops_of r) (entry_of list i).to ∙ b.ends;
        }

    sweeps_up : (w : Sweep r.head (stops_of r) list) → SweepsUp r (take (length list) (run_legs r list)) (leg_numbered (run_legs r list) (length list + 1))
    sweeps_up w =
        let gs = map (leg_of (pulled r.head (stops_of r))) list in
        let size : length gs ≡ length list = length-map list (leg_of (pulled r.head (stops_of r))) in
        let front : take (length list) (run_legs r list) ≡ gs = ap (take (length list)) w.behind ∙ take_at gs (w.leg ∷ []) (length list) size in
        let at : leg_numbered (run_legs r list) (length list + 1) ≡ w.leg
        = numbered (run_legs r list) (length list) ∙ ap (λ hs. get_or hs (length list) (record { left = 0; right = 0 })) w.behind ∙ get_or_at gs w.leg [] (record { left = 0; right = 0 }) (length list) size in
        rw (front, at)
        (record {
          left = rw w.from (is_smaller (stop_at (stops_of r) 0).start r.head);
          last = w.to.index;
          last_stop = w.to.within;
          unread = λ t. rw w.to.unread at t;
          others_read = λ j l h. rw (w.to.later j l h) tt;
          right = w.to.is;
        })

    pub legs_made : AreLegsOf r list (run_legs r list)
    legs_made =
        record {
          none = no_legs_lem r.head (stops_of r) list (any_formed r.head (stops_of r) list formed);
          many = λ some. many_legs (pulled r.head (stops_of r)) list (omega (arith, pulled_length r.head (stops_of r)));
          detours = λ i l. goes_over (leg_numbered (run_legs r list) (i + 1)) i l (detour_numbered r.head (stops_of r) list i l);
          sweep = λ some. sweeps_up (its_sweep r.head (lifted r).head (stops_of r) sound list formed some);
        }

    module _ (gs : List Leg) (are : AreLegsOf r list gs) where
      detour_same : (i : ℕ) → i < length list → get_or gs i (record { left = 0; right = 0 }) ≡ get_or (run_legs r list) i (record { left = 0; right = 0 })
      detour_same i l =
          sym (numbered gs i)
          ∙ one_detour (entry_of list i).from (entry_of list i).to (leg_numbered gs (i + 1)) (leg_numbered (run_legs r list) (i + 1)) (are.detours i l) (legs_made.detours i l)
          ∙ numbered (run_legs r list) i

      module _ (some : 0 < length (stops_of r)) where
        detours_same : take (length list) gs ≡ take (length list) (run_legs r list)
        detours_same =
            let n = length-take-le (length list) gs (omega (arith, are.many some)) in
            let m = length-take-le (length list) (run_legs r list) (omega (arith, legs_made.many some)) in
            ext_get_or (record { left = 0; right = 0 }) (take (length list) gs) (take (length list) (run_legs r list)) (n ∙ sym m)
            (λ i l.
            let below : i < length list = omega (arith, n) in
            get_or-take (length list) gs i (record { left = 0; right = 0 }) below
            ∙ detour_same i below
            ∙ sym (get_or-take (length list) (run_legs r list) i (record { left = 0; right = 0 }) below))

        sweep_same : get_or gs (length list) (record { left = 0; right = 0 }) ≡ get_or (run_legs r list) (length list) (record { left = 0; right = 0 })
        sweep_same =
            sym (numbered gs (length list))
            ∙ one_sweep (take (length list) (run_legs r list)) (leg_numbered gs (length list + 1)) (leg_numbered (run_legs r list) (length list + 1))
            (rw detours_same at (are.sweep some)) (legs_made.sweep some)
            ∙ numbered (run_legs r list) (length list)

        leg_same_at : (i : ℕ) → i < length list + 1 → get_or gs i (record { left = 0; right = 0 }) ≡ get_or (run_legs r list) i (record { left = 0; right = 0 })
        leg_same_at i l =
            by_cases (dec_lt i (length list)) (detour_same i)
            (λ n. let e : i ≡ length list = omega arith in rw e sweep_same)

      pub legs_one : gs ≡ run_legs r list
      legs_one =
          by_cases (dec_lt 0 (length (stops_of r)))
          (λ some.
          ext_get_or (record { left = 0; right = 0 }) gs (run_legs r list) (are.many some ∙ sym (legs_made.many some))
          (λ i l. leg_same_at some i (omega (arith, are.many some))))
          (λ n.
          let e : length (stops_of r) ≡ 0 = omega arith in
          ext_get_or (record { left = 0; right = 0 }) gs (run_legs r list) (are.none e ∙ sym (legs_made.none e)) (λ i l. absurd (omega (arith, are.none e))))
