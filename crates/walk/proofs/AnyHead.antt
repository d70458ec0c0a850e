-- A head anywhere: 10 by the name of the head's own stop; a judged run and list can be priced; and where 01's pricer does not refuse by 7 the two
-- pricers answer the same.
use Prim.Native.Nat.{ℕ, zero, suc, ◌≤◌, ◌<◌}
use mathlib.Core.Path.{◌≡◌, refl, sym, ap, ◌∙◌}
use mathlib.Core.Bool.{Bool, true, false, cond, not, ◌||◌, ◌&&◌, and-false, true≢false}
use mathlib.Core.Logic.{⊎_elim}
use mathlib.Core.List.{List, [], ◌∷◌}
use native.Mathlib.Omega.{arith}
use native.Mathlib.Decide.{dec_lt}
use lib.ListN.{length, get_or}
use lib.Dec.{leb, ltb, eqb}
use borrow.Author.Tests.{lt-ltb, le-ltb, leb-false, eq-eqb, ne_eqb, eqb-true, not-false}
use Rattle.refusals.specs.declared.Refusal.TheVariants.{HeadPlace, ShortRow, BadEntry}
use Rattle.refusals.specs.declared.Verdict.{Verdict}
use Rattle.refusals.specs.Refusals.{is_refusal, refuse_if, refuse_at, first_of, first_where}
use Rattle.refusals.proofs.Verdicts.{refuses, first_refuses, first_alone, all_accept, accepts_if, accepts_at}
use Rattle.runs.specs.Run.{Run, Stop, join_to, joined, want_stops_of, stops_of}
use Rattle.runs.specs.Rows.{stop_at}
use Rattle.runs.specs.Lists.{Detour, list_of, entry_of, bad_entry, first_bad_entry, WellFormed, list_verdict}
use Rattle.runs.specs.Judging.{judge_of}
use Rattle.runs.specs.AnyHead.{past_head, bad_entry_any, first_bad_entry_any, WellFormedAny, list_verdict_any, judge_any_of, lifted}
use Rattle.runs.specs.Private.{earlier_of}
use Rattle.walk.specs.Price.{priced_answer, priced_times, priced_legs, read_rows_with, short_read_rows, price_verdict, price_answer, price_rows}
use Rattle.walk.specs.AnyHead.{priced_any_answer, read_any_rows_with, price_any_verdict, price_any_answer, price_any_rows}
use Rattle.walk.specs.Rows.{ReadRows}
use Rattle.walk.specs.Private.{Ascending, own_name, Behind, Priceable}
use Rattle.runs.proofs.Search.{true_or_false, or_false_both, first_zero, first_all, first_same, first_either}
use Rattle.runs.proofs.Joined.{Next, Neighbours, Agree, by_name, join_none, join_same, join_other, agree_joined}
use Rattle.runs.proofs.Judged.{GoodRun, accepted_run}
use Rattle.runs.proofs.Stops.{wants_agree, wants_length, want_at_lem, run_sound}
use Rattle.runs.proofs.Entries.{length_list, entry_row}
use Rattle.runs.proofs.AnyHead.{Right, sound_right, pulled_same, past_none, list_any_same, GoodAnyRun, good_any, judge_any_same}
use Rattle.walk.proofs.Walks.{GoodList, accepted_list, rows_fit, list_fits_lem, legs_in_rows, any_walkable}

module _ (m : ℕ) where
  -- Which names lie past the head is the same of the wants and of the stops joined of them.
  or_twice_here : (a b c : Bool) → a ≡ b → (a || c) ≡ (a || (b || c))
  or_twice_here true b c e = refl
  or_twice_here false true c e = absurd (true≢false (sym e))
  or_twice_here false false c e = refl

  past_join : (s : Stop) (ts : List Stop) (f : ℕ) → Next Agree s ts → past_head m (join_to s ts) f ≡ ((ltb s.file f && leb m s.start) || past_head m ts f)
  unfolding past_head
  past_join s [] f a = rw (join_none s)
  past_join s (t ∷ ts) f a =
      by_name s t
      (λ e. rw (join_same s t ts e) (or_twice_here (ltb s.file f && leb m s.start) (ltb t.file f && leb m t.start) (past_head m ts f) (rw (e, (a e).start))))
      (λ n. rw (join_other s t ts n))

  pub past_joined : (ss : List Stop) → Neighbours Agree ss → (f : ℕ) → past_head m (joined ss) f ≡ past_head m ss f
  unfolding joined past_head
  past_joined [] a f = refl
  past_joined (s ∷ ss) a f = past_join s (joined ss) f (agree_joined s ss a.0) ∙ ap (λ b. (ltb s.file f && leb m s.start) || b) (past_joined ss a.1 f)

  -- A name that does not: every stop of a smaller name starts left of the head.
  and_false_second : (a b : Bool) → (a && b) ≡ false → a ≡ true → b ≡ false
  and_false_second true b e t = e
  and_false_second false b e t = absurd (true≢false (sym t))

  pub past_each : (ss : List Stop) (f : ℕ) → past_head m ss f ≡ false → (j : ℕ) → j < length ss → (stop_at ss j).file < f → (stop_at ss j).start < m
  unfolding past_head
  past_each [] f e j l h = absurd (omega arith)
  past_each (s ∷ ss) f e zero l h =
      leb-false m s.start (and_false_second (ltb s.file f) (leb m s.start) (or_false_both (ltb s.file f && leb m s.start) (past_head m ss f) e).0 (lt-ltb s.file f h))
  past_each (s ∷ ss) f e (suc j) l h = past_each ss f (or_false_both (ltb s.file f && leb m s.start) (past_head m ss f) e).1 j (omega arith) h

  -- The head's own stop is the same of both.
  own_twice : (a b : Bool) → a ≡ b → (x y z : ℕ) → cond a x z ≡ cond a x (cond b y z)
  own_twice true b e x y z = refl
  own_twice false true e x y z = absurd (true≢false (sym e))
  own_twice false false e x y z = refl

  own_join : (s : Stop) (ts : List Stop) → Next Agree s ts → own_name m (join_to s ts) ≡ cond (leb m s.start) s.file (own_name m ts)
  unfolding own_name
  own_join s [] a = rw (join_none s)
  own_join s (t ∷ ts) a =
      by_name s t
      (λ e. rw (join_same s t ts e) (own_twice (leb m s.start) (leb m t.start) (rw (a e).start) s.file t.file (own_name m ts)))
      (λ n. rw (join_other s t ts n))

  pub own_joined : (ss : List Stop) → Neighbours Agree ss → own_name m (joined ss) ≡ own_name m ss
  unfolding joined own_name
  own_joined [] a = refl
  own_joined (s ∷ ss) a = own_join s (joined ss) (agree_joined s ss a.0) ∙ ap (λ n. cond (leb m s.start) s.file n) (own_joined ss a.1)

  -- Of stops whose names rise: past the head is past its own stop.
  above_first : (s : Stop) (ss : List Stop) → Ascending (s ∷ ss) → (i : ℕ) → i < length ss → s.file < (stop_at ss i).file
  above_first s ss up zero l = up 0 (omega arith)
  above_first s ss up (suc i) l = omega (arith, above_first s ss up i (omega arith), up (suc i) (omega arith))

  none_past_here : (ss : List Stop) (f : ℕ) → ((i : ℕ) → i < length ss → f ≤ (stop_at ss i).file) → past_head m ss f ≡ false
  unfolding past_head
  none_past_here [] f h = refl
  none_past_here (s ∷ ss) f h = rw (le-ltb s.file f (h 0 (omega arith)), none_past_here ss f (λ i l. h (suc i) (omega arith)))

  own_first : (s : Stop) (ss : List Stop) (f : ℕ) → Ascending (s ∷ ss) → ((ltb s.file f && true) || past_head m ss f) ≡ ltb s.file f
  own_first s ss f up =
      elim (dec_lt s.file f) [
        | yes l ↦ rw (lt-ltb s.file f l)
        | no n ↦ rw (le-ltb s.file f (omega arith), none_past_here ss f (λ i l. omega (arith, above_first s ss up i l)))
      ]

  pub past_own : (ss : List Stop) → Ascending ss → (f : ℕ) → f ≤ 18446744073709551615 → past_head m ss f ≡ ltb (own_name m ss) f
  unfolding past_head own_name
  past_own [] up f l = sym (le-ltb 18446744073709551615 f l)
  past_own (s ∷ ss) up f l =
      ⊎_elim
      (λ (t : leb m s.start ≡ true). rw t (own_first s ss f up))
      (λ (t : leb m s.start ≡ false). rw (t, and-false (ltb s.file f)) (past_own ss (λ i h. up (suc i) (omega arith)) f l))
      (true_or_false (leb m s.start))

-- 10, of rows of one length and of others.
module _ (m : ℕ) (ss : List Stop) (froms tos : List ℕ) where
  pub uneven_same : (length froms ≡ length tos → ⊥) → list_verdict ss froms tos ≡ list_verdict_any m ss froms tos
  unfolding list_verdict list_verdict_any
  uneven_same n = rw (ne_eqb (length froms) (length tos) n)

  -- A verdict of a list is a row of checks, so it is the first of itself alone.
  pub list_alone : first_of (list_verdict ss froms tos ∷ []) ≡ list_verdict ss froms tos
  unfolding list_verdict
  list_alone = first_alone (refuse_if (not (eqb (length froms) (length tos))) BadEntry ∷ refuse_at (first_bad_entry ss (list_of froms tos)) BadEntry ∷ [])

  place_at : (p : ℕ) → (first_of (refuse_at p BadEntry ∷ [])).place ≡ p
  place_at zero = refl
  place_at (suc p) = refl

  refuse_alone : (p : ℕ) → refuse_at p BadEntry ≡ first_of (refuse_at p BadEntry ∷ [])
  refuse_alone zero = refl
  refuse_alone (suc p) = refl

  module _ (even : length froms ≡ length tos) where
    list_place : (list_verdict ss froms tos).place ≡ first_bad_entry ss (list_of froms tos)
    unfolding list_verdict
    list_place = rw (eq-eqb (length froms) (length tos) even) (place_at (first_bad_entry ss (list_of froms tos)))

    -- The earlier of 01's entry and the first that starts right of the head's own stop.
    pub any_list : (own : ℕ) → own ≡ own_name m ss → Ascending ss → ((i : ℕ) → i < length froms → get_or froms i 0 ≤ 18446744073709551615)
        → refuse_at (earlier_of (list_verdict ss froms tos).place (first_where (λ i. ltb own (get_or froms i 0)) (length froms))) BadEntry ≡ list_verdict_any m ss froms tos
    unfolding list_verdict_any first_bad_entry_any first_bad_entry
    any_list own is up small =
        rw (list_place, eq-eqb (length froms) (length tos) even, ← first) (refuse_alone (first_bad_entry_any m ss (list_of froms tos)))
      where
        same : (i : ℕ) → i < length froms → past_head m ss (entry_of (list_of froms tos) i).from ≡ ltb own (get_or froms i 0)
        same i l = rw (entry_row froms tos even i l, is) (past_own m ss up (get_or froms i 0) (small i l))

        first : first_bad_entry_any m ss (list_of froms tos) ≡ earlier_of (first_bad_entry ss (list_of froms tos)) (first_where (λ i. ltb own (get_or froms i 0)) (length froms))
        first =
            first_either (bad_entry ss (list_of froms tos)) (λ i. past_head m ss (entry_of (list_of froms tos) i).from) (length (list_of froms tos))
            ∙ ap (earlier_of (first_where (bad_entry ss (list_of froms tos)) (length (list_of froms tos))))
            (rw (length_list froms tos even) (first_same (λ i. past_head m ss (entry_of (list_of froms tos) i).from) (λ i. ltb own (get_or froms i 0)) (length froms) same))

  -- A list that is accepted is one by 01's rules, and none of its entries starts past the head.
  abbrev checks : List Verdict
  checks = refuse_if (not (eqb (length froms) (length tos))) BadEntry ∷ refuse_at (first_bad_entry_any m ss (list_of froms tos)) BadEntry ∷ []

  module _ (e : refuses (list_verdict_any m ss froms tos) ≡ false) where
    pub any_even : length froms ≡ length tos
    unfolding list_verdict_any
    any_even = eqb-true _ _ (not-false _ (accepts_if _ BadEntry refl (all_accept checks e).0))

    none_bad_here : (i : ℕ) → i < length (list_of froms tos) → bad_entry_any m ss (list_of froms tos) i ≡ false
    unfolding list_verdict_any first_bad_entry_any
    none_bad_here i l = first_zero (bad_entry_any m ss (list_of froms tos)) (length (list_of froms tos)) (accepts_at _ BadEntry refl (all_accept checks e).1.0) i l

    by_rules : refuses (list_verdict ss froms tos) ≡ false
    unfolding list_verdict first_bad_entry
    by_rules =
        rw (eq-eqb (length froms) (length tos) any_even, first_all (bad_entry ss (list_of froms tos)) (length (list_of froms tos)) (λ i l. (or_false_both (bad_entry ss (list_of froms tos) i) _ (none_bad_here i l)).0))

    pub any_good : GoodList ss froms tos
    any_good = accepted_list ss froms tos by_rules

    pub any_not_past : (i : ℕ) → i < length froms → past_head m ss (get_or froms i 0) ≡ false
    any_not_past i l = rw (entry_row froms tos any_even i l) at (or_false_both (bad_entry ss (list_of froms tos) i) _ (none_bad_here i (omega (arith, length_list froms tos any_even)))).1

-- A judged run and a list of which no entry starts past the head can be priced.
module _ (r : Run) (good : GoodAnyRun r) (froms tos : List ℕ) (g : GoodList (stops_of r) froms tos) (clear : (i : ℕ) → i < length froms → past_head r.head (stops_of r) (get_or froms i 0) ≡ false) where
  same : length r.counts ≡ length r.numbers
  same = sym good.run.wants.equal

  behind : Behind r.head r.starts r.aggregates r.numbers froms
  behind i j l h less =
      let is = want_at_lem r.starts r.lengths r.aggregates r.numbers r.counts same j h in
      let on = sym (past_joined r.head (want_stops_of r) (wants_agree r.starts r.lengths r.aggregates r.numbers r.counts) (get_or froms i 0)) ∙ clear i l in
      let size = wants_length r.starts r.lengths r.aggregates r.numbers r.counts same in
      rw is at (past_each r.head (want_stops_of r) (get_or froms i 0) on j (omega (arith, size)) (rw is less))

  pub priceable : Priceable r froms tos
  priceable =
      record {
        fit = rows_fit (lifted r) good.run froms tos g;
        few = list_fits_lem (lifted r) good.run froms tos g;
        behind = behind;
        equal = same;
        counted = good.run.wants.reads;
        within = any_walkable (lifted r) good.run froms tos g r.head good.near;
        legs = λ reach is. legs_in_rows (lifted r) good.run froms tos g r.head reach is;
      }

-- Of a run that 01 accepts: nothing is pulled, so the numbers are the same, and its list can be priced.
module _ (r : Run) (good : GoodRun r) where
  right : Right r.head (stops_of r)
  right = sound_right (stops_of r) r.head (run_sound r good)

  pub priced_same : (list : List Detour) → priced_any_answer r list ≡ priced_answer r list
  unfolding priced_any_answer priced_answer
  priced_same list = rw (pulled_same r.head (stops_of r) right)

  pub rows_same : (list : List Detour) (rows : ReadRows) → read_any_rows_with r list rows ≡ read_rows_with r list rows
  unfolding priced_times priced_legs
  rows_same list rows = rw (pulled_same r.head (stops_of r) right)

  pub run_priceable : (froms tos : List ℕ) → GoodList (stops_of r) froms tos → Priceable r froms tos
  run_priceable froms tos g = priceable r (good_any r good) froms tos g (λ i l. past_none r.head (stops_of r) right (get_or froms i 0))

-- Whatever 01's pricer does not refuse by 7, the two answer the same, and leave the same rows.
module _ (r : Run) (froms tos : List ℕ) (rows : ReadRows) (other : (price_verdict r froms tos rows).refusal ≡ HeadPlace → ⊥) where
  abbrev rest : List Verdict
  rest = list_verdict (stops_of r) froms tos ∷ refuse_if (short_read_rows (length r.numbers) rows) ShortRow ∷ []

  judged_same : judge_any_of r ≡ judge_of r
  unfolding price_verdict
  judged_same =
      judge_any_same r
      (λ is.
      ⊎_elim
      (λ (bad : refuses (judge_of r) ≡ true). other (ap (λ v. v.refusal) (sym (first_refuses (judge_of r) rest bad)) ∙ is))
      (λ (ok : refuses (judge_of r) ≡ false). true≢false (sym (ap is_refusal is) ∙ ok))
      (true_or_false (refuses (judge_of r))))

  verdict_same_here : price_any_verdict r froms tos rows ≡ price_verdict r froms tos rows
  unfolding price_verdict price_any_verdict
  verdict_same_here =
      ⊎_elim
      (λ (bad : refuses (judge_of r) ≡ true). rw (judged_same, bad))
      (λ (ok : refuses (judge_of r) ≡ false). rw (judged_same, list_any_same r.head (stops_of r) (right r (accepted_run r ok)) froms tos))
      (true_or_false (refuses (judge_of r)))

  accepted_good : refuses (price_verdict r froms tos rows) ≡ false → GoodRun r
  unfolding price_verdict
  accepted_good ok = accepted_run r (all_accept (judge_of r ∷ rest) ok).0

  pub price_any_same : (price_any_answer r froms tos rows ≡ price_answer r froms tos rows) × (price_any_rows r froms tos rows ≡ price_rows r froms tos rows)
  unfolding price_any_answer price_answer price_any_rows price_rows
  price_any_same =
      ⊎_elim
      (λ (bad : refuses (price_verdict r froms tos rows) ≡ true). (rw (verdict_same_here, bad), rw (verdict_same_here, bad)))
      (λ (ok : refuses (price_verdict r froms tos rows) ≡ false).
      (rw (verdict_same_here, ok) (priced_same r (accepted_good ok) (list_of froms tos)), rw (verdict_same_here, ok) (rows_same r (accepted_good ok) (list_of froms tos) rows)))
      (true_or_false (refuses (price_verdict r froms tos rows)))

-- A list that is well formed for the head is one by 01's rules; and the pricer refuses no such list, lent rows long enough.
pub any_formed : (m : ℕ) (ss : List Stop) (list : List Detour) → WellFormedAny m ss list → WellFormed ss list
unfolding first_bad_entry_any first_bad_entry
any_formed m ss list w =
    first_all (bad_entry ss list) (length list) (λ i l. (or_false_both (bad_entry ss list i) _ (first_zero (bad_entry_any m ss list) (length list) w i l)).0)

pub any_priced : (r : Run) (froms tos : List ℕ) (rows : ReadRows) → refuses (judge_any_of r) ≡ false → length froms ≡ length tos → WellFormedAny r.head (stops_of r) (list_of froms tos)
    → length r.numbers ≤ length rows.times → length r.numbers ≤ length rows.legs → refuses (price_any_verdict r froms tos rows) ≡ false
unfolding price_any_verdict list_verdict_any
any_priced r froms tos rows a e w l k =
    rw (a, eq-eqb (length froms) (length tos) e, w, le-ltb (length rows.times) (length r.numbers) l, le-ltb (length rows.legs) (length r.numbers) k)
