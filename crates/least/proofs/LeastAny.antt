-- A head anywhere: the table's list of the stops as the head meets them is the least list from there, and there is one. M is a place right of every
-- stop, where 01 would have the head.
use Prim.Native.Nat.{ℕ, zero, suc, ◌+◌, ◌≤◌, ◌<◌}
use mathlib.Core.Path.{◌≡◌, refl, sym, ap, ◌∙◌}
use mathlib.Core.Bool.{false, ◌||◌, ◌&&◌, not, and-false}
use mathlib.Core.Logic.{inl, by_cases}
use mathlib.Core.List.{List, [], ◌∷◌}
use native.Mathlib.Omega.{arith}
use native.Mathlib.Decide.{dec_lt}
use lib.Dec.{leb, ltb}
use lib.ListN.{length}
use borrow.Author.Tests.{leb-false, lt-leb, lt-ltb, le-ltb}
use Rattle.refusals.specs.Refusals.{first_where}
use Rattle.runs.specs.Run.{Stop}
use Rattle.runs.specs.Rows.{stop_at}
use Rattle.runs.specs.Lists.{Detour, wanted, leftmost, entry_of, bad_alone, bad_entry, first_bad_entry, WellFormed}
use Rattle.runs.specs.AnyHead.{smaller, pulled_stop, pulled, past_head, bad_entry_any, first_bad_entry_any, WellFormedAny}
use Rattle.runs.proofs.Search.{or_false_both, first_zero, first_all}
use Rattle.runs.proofs.Sound.{Sound, SoundAny}
use Rattle.runs.proofs.AnyHead.{smaller_is, smaller_rises, smaller_above, smaller_second, pulled_length, pulled_at, wanted_pulled, leftmost_pulled, sound_right, pulled_same}
use Rattle.walk.specs.Walk.{head_at, ServesAll, time_of, sum_of}
use Rattle.walk.specs.Detours.{start_of}
use Rattle.walk.specs.AnyHead.{legs_any_of}
use Rattle.walk.proofs.Pulled.{served_from_pulled, time_pulled, start_pulled, legs_left, list_sum_pulled}
use Rattle.least.specs.Least.{list_sum, LeastFor}
use Rattle.least.specs.AnyHead.{list_sum_any, LeastAnyFor}
use Rattle.least.specs.Recurrence.{Plan, empty, skip, detour, plan_detours, file_at, left_at, right_at, count_at, best_plan, least_list}
use Rattle.least.proofs.Plan.{Over, Owned}
use Rattle.least.proofs.Best.{best_over}
use Rattle.least.proofs.Rising.{index_order}
use Rattle.least.proofs.Times.{starts_rise}
use Rattle.least.proofs.Rules.{All, all_append, all_split, all_of_index, index_of_all, rules_of_formed, formed_by_names}
use Rattle.least.proofs.Sweeps.{each_served_any, serves_each, swept_time, time_by_end, LastRead, none_reads_first, detour_past_first, ends_with_a_read}
use Rattle.least.proofs.Walks.{sound_spaced, files_rise}
use Rattle.least.proofs.Lists.{PlanOf, parse, none_wanted}
use Rattle.least.proofs.LeastList.{least_list_none, least_list_some, least_list_lem, one_first, chosen_formed, chosen_owned, chosen_smallest, chosen_first}

-- Stops as a head at m meets them.
module _ (m : ℕ) (stops : List Stop) (i : ℕ) (l : i < length stops) where
  pub pulled_file : file_at (pulled m stops) i ≡ file_at stops i
  pulled_file = ap (λ s. s.file) (pulled_at m stops i l)

  pub pulled_left : left_at (pulled m stops) i ≡ smaller (left_at stops i) m
  pulled_left = ap (λ s. s.start) (pulled_at m stops i l)

  pub pulled_right : right_at (pulled m stops) i ≡ right_at stops i
  pulled_right = ap (λ s. s.end) (pulled_at m stops i l)

  pub pulled_count : count_at (pulled m stops) i ≡ count_at stops i
  pulled_count = ap (λ s. s.count) (pulled_at m stops i l)

module _ (m M : ℕ) (stops : List Stop) (ok : Sound stops M) where
  met : (i : ℕ) → i < length (pulled m stops) → stop_at (pulled m stops) i ≡ pulled_stop m (stop_at stops i)
  met i l = pulled_at m stops i (omega (arith, pulled_length m stops))

  inside : (i : ℕ) → i < length (pulled m stops) → i < length stops
  inside i l = omega (arith, pulled_length m stops)

  pub pulled_sound : SoundAny (pulled m stops) m
  pulled_sound =
      record {
        named = λ i l. rw (met i l) (ok.named i (inside i l));
        ascends = λ i l. rw (met i (omega arith), met (suc i) l) (ok.ascends i (inside (suc i) l));
        extends = λ i l. rw (met i l) (omega (arith, (smaller_is (stop_at stops i).start m).first, ok.extends i (inside i l)));
        starts = λ i l.
            let h = inside (suc i) l in
            rw (met i (omega arith), met (suc i) l)
            (smaller_rises (stop_at stops i).start (stop_at stops (suc i)).start m (omega (arith, ok.extends i (omega arith), ok.apart i h)));
        ends = λ i l.
            let h = inside (suc i) l in
            rw (met i (omega arith), met (suc i) l) (omega (arith, ok.apart i h, ok.extends (suc i) h));
        counted = λ i l. rw (met i l) (ok.counted i (inside i l));
        within = λ i l. rw (met i l) (smaller_is (stop_at stops i).start m).second;
      }

-- A name does not lie right of the head's own stop exactly where every stop of a smaller name starts left of the head.
past_left : (m : ℕ) (ss : List Stop) (f : ℕ) → past_head m ss f ≡ false → (i : ℕ) → i < length ss → file_at ss i < f → left_at ss i < m
unfolding past_head
past_left m [] f e i l h = absurd (omega arith)
past_left m (s ∷ ss) f e zero l h =
    let here : (ltb s.file f && leb m s.start) ≡ false = (or_false_both (ltb s.file f && leb m s.start) (past_head m ss f) e).0 in
    leb-false m s.start (rw (lt-ltb s.file f h) at here)
past_left m (s ∷ ss) f e (suc i) l h = past_left m ss f (or_false_both (ltb s.file f && leb m s.start) (past_head m ss f) e).1 i (omega arith) h

left_past : (m : ℕ) (ss : List Stop) (f : ℕ) → ((i : ℕ) → i < length ss → file_at ss i < f → left_at ss i < m) → past_head m ss f ≡ false
unfolding past_head
left_past m [] f h = refl
left_past m (s ∷ ss) f h =
    let rest : past_head m ss f ≡ false = left_past m ss f (λ i l. h (suc i) (omega arith)) in
    by_cases
    (dec_lt s.file f)
    (λ l. rw (lt-leb m s.start (h 0 (omega arith) l), and-false (ltb s.file f), rest))
    (λ l. rw (le-ltb s.file f (omega arith), rest))

module _ (m : ℕ) (stops : List Stop) where
  abbrev NotPast : Detour → Type 0
  NotPast d = past_head m stops d.from ≡ false

  -- Well formed for that head: well formed for the stops as it meets them, with no start right of its own stop.
  pub any_rules : (list : List Detour) → WellFormedAny m stops list → WellFormed (pulled m stops) list × All NotPast list
  unfolding first_bad_entry_any first_bad_entry
  any_rules list v =
      let t : (i : ℕ) → i < length list → (bad_entry stops list i ≡ false) × (past_head m stops (entry_of list i).from ≡ false)
      = λ i h. or_false_both _ _ (first_zero (bad_entry_any m stops list) (length list) v i h) in (
        formed_by_names (pulled m stops) stops (wanted_pulled m stops) (leftmost_pulled m stops) list ∙ first_all (bad_entry stops list) (length list) (λ i h. (t i h).0),
        all_of_index NotPast list (λ i h. (t i h).1),
      )

  any_of_rules : (list : List Detour) → WellFormed (pulled m stops) list → All NotPast list → WellFormedAny m stops list
  unfolding first_bad_entry_any first_bad_entry
  any_of_rules list v w =
      let formed : first_bad_entry stops list ≡ 0 = sym (formed_by_names (pulled m stops) stops (wanted_pulled m stops) (leftmost_pulled m stops) list) ∙ v in
      first_all (bad_entry_any m stops list) (length list)
      (λ i h. rw (first_zero (bad_entry stops list) (length list) formed i h, index_of_all NotPast list w i h))

module _ (m M n : ℕ) (stops : List Stop) (ok : Sound stops M) (size : length stops ≡ suc n) where
  any : SoundAny (pulled m stops) m
  any = pulled_sound m M stops ok

  as_many : length (pulled m stops) ≡ suc n
  as_many = pulled_length m stops ∙ size

  -- A stop is not right of the head's own exactly where the stop before it is met left of it.
  start_owned : (d : ℕ) → suc d ≤ n → past_head m stops (file_at (pulled m stops) (suc d)) ≡ false → left_at (pulled m stops) d < left_at (pulled m stops) (suc d)
  start_owned d h e =
      let left : left_at stops d < m = past_left m stops _ e d (omega arith) (omega (arith, pulled_file m stops (suc d) (omega arith), ok.ascends d (omega arith))) in
      omega (
        arith,
        pulled_left m stops d (omega arith),
        pulled_left m stops (suc d) (omega arith),
        (smaller_is (left_at stops d) m).first,
        smaller_above (left_at stops d) (left_at stops (suc d)) m (omega (arith, ok.extends d (omega arith), ok.apart d (omega arith))) left,
      )

  owned_start : (d : ℕ) → suc d ≤ n → left_at (pulled m stops) d < left_at (pulled m stops) (suc d) → past_head m stops (file_at (pulled m stops) (suc d)) ≡ false
  owned_start d h own =
      let left : left_at stops d < m
      = by_cases (dec_lt (left_at stops d) m) (λ l. l)
      (λ l. absurd (omega (arith, pulled_left m stops d (omega arith), smaller_second (left_at stops d) m (omega arith), pulled_left m stops (suc d) (omega arith), (smaller_is (left_at stops (suc d)) m).second))) in
      left_past m stops _
      (λ i l f.
      let before : i < suc d
      = index_order (file_at stops) n (λ j k a b. files_rise stops ok.ascends j k a (omega arith)) i (suc d) (omega arith) (omega (arith, pulled_file m stops (suc d) (omega arith))) in
      omega (arith, starts_rise (left_at stops) (right_at stops) n (sound_spaced stops M n ok size) i d (omega arith) (omega arith)))

  plan_owned : (p : Plan) (a b : ℕ) → Over p a b → b ≤ n → All (NotPast m stops) (plan_detours (file_at (pulled m stops)) p b) → Owned (left_at (pulled m stops)) p
  unfolding plan_detours
  plan_owned empty a b o h v = tt
  plan_owned (skip p) a zero o h v = absurd o
  plan_owned (skip p) a (suc b) o h v = plan_owned p a b o.1 (omega arith) v
  plan_owned (detour d inner rest) a zero o h v = absurd o
  plan_owned (detour d inner rest) a (suc b) o h v =
      let w = all_split (NotPast m stops) (plan_detours (file_at (pulled m stops)) inner b) _ v in
      (start_owned d (omega arith) w.1.0, plan_owned inner (suc d) b o.2 (omega arith) w.0, plan_owned rest a d o.3 (omega arith) w.1.1)

  owned_plan : (p : Plan) (a b : ℕ) → Over p a b → b ≤ n → Owned (left_at (pulled m stops)) p → All (NotPast m stops) (plan_detours (file_at (pulled m stops)) p b)
  unfolding plan_detours
  owned_plan empty a b o h v = tt
  owned_plan (skip p) a zero o h v = absurd o
  owned_plan (skip p) a (suc b) o h v = owned_plan p a b o.1 (omega arith) v
  owned_plan (detour d inner rest) a zero o h v = absurd o
  owned_plan (detour d inner rest) a (suc b) o h v =
      all_append (NotPast m stops) (plan_detours (file_at (pulled m stops)) inner b) _
      (owned_plan inner (suc d) b o.2 (omega arith) v.1)
      (owned_start d (omega arith) v.0, owned_plan rest a d o.3 (omega arith) v.2)

  plan_of : (list : List Detour) → WellFormedAny m stops list → PlanOf (pulled m stops) n list
  plan_of list v = parse m n (pulled m stops) any as_many list (any_rules m stops list v).0

  own_of : (list : List Detour) (v : WellFormedAny m stops list) → Owned (left_at (pulled m stops)) (plan_of list v).plan
  own_of list v =
      plan_owned (plan_of list v).plan 0 n (plan_of list v).over (omega arith) (rw (plan_of list v).lists (any_rules m stops list v).1)

  some_least_any : (price : ℕ) → LeastAnyFor price m stops (plan_detours (file_at (pulled m stops)) (best_plan price (pulled m stops) n) n)
  some_least_any price =
      record {
        formed =
            any_of_rules m stops chosen (chosen_formed m n (pulled m stops) any as_many price)
            (owned_plan (best_plan price (pulled m stops) n) 0 n (best_over _ _ _ price 0 n 0) (omega arith) (chosen_owned m n (pulled m stops) any as_many price));
        smallest = λ other v. omega (arith, sum chosen, sum other, chosen_smallest m n (pulled m stops) any as_many price other (plan_of other v) (own_of other v));
        first = λ other v e. chosen_first m n (pulled m stops) any as_many price other (plan_of other v) (own_of other v) (sum other ∙ e ∙ sym (sum chosen));
      }
    where
      chosen : List Detour
      chosen = plan_detours (file_at (pulled m stops)) (best_plan price (pulled m stops) n) n

      sum : (list : List Detour) → list_sum price m (pulled m stops) list ≡ list_sum_any price m stops list
      sum list = list_sum_pulled m price (head_at m) stops list

pub pulled_none : (m : ℕ) → pulled m [] ≡ []
unfolding pulled
pulled_none m = refl

none_least_any : (price m : ℕ) → LeastAnyFor price m [] []
unfolding first_bad_entry_any first_where sum_of
none_least_any price m =
    record {
      formed = refl;
      smallest = λ other v. omega arith;
      first = λ other v e. inl (none_wanted other (rw (pulled_none m) at (any_rules m [] other v).0));
    }

-- The least list from a head at m.
pub least_any : (price m M : ℕ) (stops : List Stop) → Sound stops M → LeastAnyFor price m stops (least_list price (pulled m stops))
least_any price m M [] ok = rw (pulled_none m, least_list_none price) (none_least_any price m)
least_any price m M (s ∷ ss) ok =
    rw (least_list_some price (length ss) (pulled m (s ∷ ss)) (pulled_length m (s ∷ ss))) (some_least_any m M (length ss) (s ∷ ss) ok refl price)

pub least_any_unique : (price m : ℕ) (stops : List Stop) (l l' : List Detour) → LeastAnyFor price m stops l → LeastAnyFor price m stops l' → l ≡ l'
least_any_unique price m stops l l' h h' =
    one_first (list_sum_any price m stops) l l' (h.smallest l' h'.formed) (h'.smallest l h.formed) (h.first l' h'.formed) (h'.first l h.formed)

-- Where the head is right of every stop it is 01's least list.
pub least_any_same : (price m : ℕ) (stops : List Stop) → Sound stops m → (list : List Detour) → LeastAnyFor price m stops list → LeastFor price m stops list
least_any_same price m stops ok list least =
    let is : list ≡ least_list price (pulled m stops) = least_any_unique price m stops list _ least (least_any price m m stops ok) in
    rw (is, pulled_same m stops (sound_right stops m ok)) (least_list_lem price m stops ok)

-- The walk of a list serves every stop where it lies; and it ends with a read.
pub any_served : (m M : ℕ) (stops : List Stop) → Sound stops M → (list : List Detour) → ServesAll (legs_any_of m stops list) stops
any_served m M stops ok list =
    served_from_pulled m (legs_any_of m stops list) (legs_left m stops list) stops
    (serves_each (legs_any_of m stops list) (pulled m stops) (each_served_any (pulled m stops) m (pulled_sound m M stops ok) list))

-- An entry starts right of the leftmost stop.
past_leftmost : (ss : List Stop) (f : ℕ) (d : Detour) → leftmost ss ≡ f → bad_alone ss d ≡ false → f < d.from
past_leftmost ss f d e a =
    let both : (not (wanted ss d.from) || not (wanted ss d.to) || ltb d.to d.from ≡ false) × (leb d.from (leftmost ss) ≡ false) = or_false_both _ _ a in
    let right : leftmost ss < d.from = leb-false d.from (leftmost ss) both.1 in
    omega arith

-- Left of every start: no list but the empty one is well formed, and its walk reads each stop after one turn and the way to its end.
module _ (m M : ℕ) (s : Stop) (ss : List Stop) (ok : Sound (s ∷ ss) M) (left : (i : ℕ) → i < length (s ∷ ss) → m ≤ (stop_at (s ∷ ss) i).start) where
  pub no_detour_left : (list : List Detour) → WellFormedAny m (s ∷ ss) list → list ≡ []
  no_detour_left [] v = refl
  no_detour_left (d ∷ list) v =
      let rules = any_rules m (s ∷ ss) (d ∷ list) v in
      let inner : s.file < d.from = past_leftmost (pulled m (s ∷ ss)) s.file d (leftmost_pulled m (s ∷ ss)) (rules_of_formed (pulled m (s ∷ ss)) (d ∷ list) rules.0).0.0 in
      absurd (omega (arith, past_left m (s ∷ ss) d.from rules.1.0 0 (omega arith) inner, left 0 (omega arith)))

  pub read_at_once : (U i : ℕ) → i < length (s ∷ ss) → time_of U (head_at m) (legs_any_of m (s ∷ ss) []) (stop_at (s ∷ ss) i) + m ≡ U + (stop_at (s ∷ ss) i).end
  unfolding pulled
  read_at_once U i l =
      let at : stop_at (pulled m (s ∷ ss)) i ≡ pulled_stop m (stop_at (s ∷ ss) i) = pulled_at m (s ∷ ss) i l in
      let swept = swept_time (pulled_stop m s) (pulled m ss) m (pulled_sound m M (s ∷ ss) ok) U i (omega (arith, pulled_length m ss)) in
      let same : time_of U (head_at m) (legs_any_of m (s ∷ ss) []) (pulled_stop m (stop_at (s ∷ ss) i)) ≡ time_of U (head_at m) (legs_any_of m (s ∷ ss) []) (stop_at (s ∷ ss) i)
      = time_pulled m U (legs_any_of m (s ∷ ss) []) (legs_left m (s ∷ ss) []) (head_at m) (stop_at (s ∷ ss) i) in
      omega (arith, smaller_second s.start m (left 0 (omega arith)), rw at at swept)

-- The last event of a list's walk is a read.
module _ (m M : ℕ) (s : Stop) (ss : List Stop) (ok : Sound (s ∷ ss) M) (list : List Detour) (formed : WellFormedAny m (s ∷ ss) list) (U : ℕ) where
  pub starts_past_first : (i : ℕ) → i < length list → smaller s.start m < start_of (pulled m (s ∷ ss)) (entry_of list i).from
  unfolding first_bad_entry
  starts_past_first i l =
      let rules = any_rules m (s ∷ ss) list formed in
      let names = formed_by_names (pulled m (s ∷ ss)) (s ∷ ss) (wanted_pulled m (s ∷ ss)) (leftmost_pulled m (s ∷ ss)) list in
      let alone : bad_alone (s ∷ ss) (entry_of list i) ≡ false = (or_false_both _ _ (first_zero (bad_entry (s ∷ ss) list) (length list) (sym names ∙ rules.0) i l)).0 in
      let low : s.start < start_of (s ∷ ss) (entry_of list i).from = detour_past_first s ss M ok (entry_of list i) alone in
      let inner : s.file < (entry_of list i).from = past_leftmost (s ∷ ss) s.file (entry_of list i) refl alone in
      let here : s.start < m = past_left m (s ∷ ss) (entry_of list i).from (index_of_all (NotPast m (s ∷ ss)) list rules.1 i l) 0 (omega arith) inner in
      omega (arith, start_pulled m (s ∷ ss) (entry_of list i).from, (smaller_is s.start m).first, smaller_above s.start (start_of (s ∷ ss) (entry_of list i).from) m low here)

  last_read_any : LastRead U (head_at m) (legs_any_of m (s ∷ ss) list) (s ∷ ss)
  unfolding pulled
  last_read_any =
      let r = ends_with_a_read (pulled_stop m s) (pulled m ss) m (pulled_sound m M (s ∷ ss) ok) list (none_reads_first (pulled_stop m s) (pulled m ss) list starts_past_first) U in
      let within : r.index < length (s ∷ ss) = omega (arith, r.within, pulled_length m ss) in
      let at : stop_at (pulled m (s ∷ ss)) r.index ≡ pulled_stop m (stop_at (s ∷ ss) r.index) = pulled_at m (s ∷ ss) r.index within in
      record {
        index = r.index;
        within = within;
        clock = rw at at r.clock ∙ time_pulled m U (legs_any_of m (s ∷ ss) list) (legs_left m (s ∷ ss) list) (head_at m) (stop_at (s ∷ ss) r.index);
        place = rw at at r.place;
        latest = λ i l. time_by_end U (head_at m) (legs_any_of m (s ∷ ss) list) (stop_at (s ∷ ss) i);
      }

pub any_last_read : (m M : ℕ) (stops : List Stop) → Sound stops M → 0 < length stops → (list : List Detour) → WellFormedAny m stops list → (U : ℕ)
    → LastRead U (head_at m) (legs_any_of m stops list) stops
any_last_read m M [] ok some list formed U = absurd (omega arith)
any_last_read m M (s ∷ ss) ok some list formed U = last_read_any m M s ss ok list formed U
