-- The members of an aggregate: where it reaches, the reads that its stop has, and the time and the leg that its wants share.
use Prim.Native.Nat.{ℕ, zero, suc, ◌+◌, ◌-◌, ◌*◌, ◌≤◌, ◌<◌}
use mathlib.Core.Path.{◌≡◌, refl, sym, ap, subst, ◌∙◌}
use mathlib.Core.Bool.{true, false, cond}
use mathlib.Core.Logic.{⊎_elim, by_cases}
use mathlib.Core.List.{List, [], ◌∷◌}
use native.Mathlib.Omega.{arith}
use native.Mathlib.Decide.{dec_lt}
use lib.ListN.{length, get_or, take, drop}
use lib.Dec.{eqb}
use borrow.Author.Tests.{eqb-true, eqb-false, eq-eqb, ne_eqb}
use Rattle.walk.specs.declared.Answer.{Answer}
use Rattle.walk.specs.declared.Leg.{Leg}
use Rattle.runs.specs.Run.{Run, Stop, end_at, first_member, last_member, stops_of, want_stops_of}
use Rattle.runs.specs.Rows.{stop_at}
use Rattle.runs.specs.Judging.{judge_of}
use Rattle.runs.specs.Private.{InTable}
use Rattle.runs.specs.Lists.{Detour, wanted, list_of}
use Rattle.runs.specs.AnyHead.{lifted}
use Rattle.walk.specs.Walk.{head_at, times_of, legs_for}
use Rattle.walk.specs.Detours.{legs_of}
use Rattle.walk.specs.AnyHead.{run_legs}
use Rattle.walk.specs.Rows.{ReadRows}
use Rattle.refusals.proofs.Verdicts.{refuses}
use Rattle.runs.proofs.Search.{true_or_false}
use Rattle.runs.proofs.Sound.{Sound}
use Rattle.runs.proofs.Members.{first_below, last_above, member_first, same_last, same_or_apart}
use Rattle.runs.proofs.Entries.{wanted_named}
use Rattle.runs.proofs.Joined.{Places, weighed, weighed_joined}
use Rattle.runs.proofs.Judged.{GoodRun, accepted_run}
use Rattle.runs.proofs.AnyHead.{GoodAnyRun, accepted_any}
use Rattle.runs.proofs.Stops.{extent, extents_apart, wants_agree, wants_length, want_at_lem, name_first, start_of_name, end_of_name, run_sound}
use Rattle.walk.proofs.Joins.{time_same, leg_same, start_by, end_by}
use Rattle.least.proofs.Rising.{rises_by_steps}
use Rattle.least.proofs.Walks.{by_file}
use Rattle.planner.specs.Rows.{reads_in}
use Rattle.demands.specs.RefusalTable.{IsFile, Together, NamesStop}
use Rattle.demands.specs.Demand2.{list_in, IsWalkOf}
use Rattle.demands.specs.AnyHead.{IsWalkAnyOf}
use Rattle.demands.specs.Aggregates.{Reaches, ReadsFrom, behind, counted, passed, IsStopAt, StopsByMembers, AggregatesReach, MembersShare, PriceMembersShare, PlanMembersShare, PriceAnyMembersShare, PlanAnyMembersShare}
use Rattle.demands.proofs.Conditions.{together_first, first_together, last_with, within_extent, named}
use Rattle.demands.proofs.AnyLifted.{members_down}
use Rattle.demands.proofs.AnyJudged.{nothing_judged_any}
use Rattle.demands.proofs.AnyHead.{good_run, price_any_good, demand2_price_any, demand2_walk_any}
use Rattle.demands.proofs.Counted.{wants_at_lem, wants_end, has_stops}
use Rattle.demands.proofs.Listed.{test_names}
use Rattle.demands.proofs.Formed.{stop_wanted}
use Rattle.demands.proofs.Planned.{run_accepted}
use Rattle.demands.proofs.Demand2.{demand2_price, demand2_walk, price_run_accepted}
use Rattle.demands.proofs.Ends.{in_row}
use Rattle.demands.proofs.Legs.{leg_in_row}

-- Of stops of which only one has a weight, and that is 1, the weighed sum is that one's count.
module _ (h : Stop → ℕ) where
  none_weigh : (ss : List Stop) → ((i : ℕ) → i < length ss → h (stop_at ss i) ≡ 0) → weighed h ss ≡ 0
  unfolding weighed
  none_weigh [] none = refl
  none_weigh (s ∷ ss) none =
      let here : s.count * h s ≡ 0 = rw (none 0 (omega arith)) (omega arith) in
      omega (arith, here, none_weigh ss (λ i l. none (suc i) (omega arith)))

  one_weighs : (ss : List Stop) (j : ℕ) → j < length ss → h (stop_at ss j) ≡ 1 → ((i : ℕ) → i < length ss → (i ≡ j → ⊥) → h (stop_at ss i) ≡ 0)
      → weighed h ss ≡ (stop_at ss j).count
  unfolding weighed
  one_weighs [] j l one none = absurd (omega arith)
  one_weighs (s ∷ ss) zero l one none =
      let here : s.count * h s ≡ s.count = rw one (omega arith) in
      omega (arith, here, none_weigh ss (λ i b. none (suc i) (omega arith) (λ e. omega arith)))
  one_weighs (s ∷ ss) (suc j) l one none =
      let here : s.count * h s ≡ 0 = rw (none 0 (omega arith) (λ e. omega arith)) (omega arith) in
      omega (arith, here, one_weighs ss j (omega arith) one (λ i b n. none (suc i) (omega arith) (λ e. n (omega arith))))

-- Whether a stop starts at a place, as a weight.
abbrev starts_at : ℕ → Stop → ℕ
starts_at x s = cond (eqb s.start x) 1 0

starts_same : (x : ℕ) (s t : Stop) → Places s t → starts_at x s ≡ starts_at x t
starts_same x s t p = ap (λ y. cond (eqb y x) 1 0) p.start

-- Sound stops have different starts.
one_start : (ss : List Stop) (m : ℕ) → Sound ss m → (j : ℕ) → j < length ss → weighed (starts_at (stop_at ss j).start) ss ≡ (stop_at ss j).count
one_start ss m ok j l =
    one_weighs (starts_at (stop_at ss j).start) ss j l (rw (eq-eqb (stop_at ss j).start (stop_at ss j).start refl))
    (λ i b n. rw (ne_eqb (stop_at ss i).start (stop_at ss j).start (apart i b n)))
  where
    rise : (i k : ℕ) → i < k → k < length ss → (stop_at ss i).start < (stop_at ss k).start
    rise i k h b =
        rises_by_steps (λ n. (stop_at ss n).start) (length ss - 1) (λ n a. omega (arith, ok.extends n (omega arith), ok.apart n (omega arith))) i k h (omega arith)

    apart : (i : ℕ) → i < length ss → (i ≡ j → ⊥) → (stop_at ss i).start ≡ (stop_at ss j).start → ⊥
    apart i b n e = by_cases (dec_lt i j) (λ h. omega (arith, rise i j h l)) (λ h. omega (arith, rise j i (omega arith) b))

module _ (r : Run) (good : GoodRun r) where
  -- Where the aggregate of a file starts.
  abbrev startWith : ℕ → ℕ
  startWith f = get_or r.starts (first_member r.aggregates (f - 1)) 0

  abbrev endWith : ℕ → ℕ
  endWith f = end_at r.starts r.lengths (last_member r.aggregates (f - 1))

  in_table : (f : ℕ) → IsFile r f → InTable r.starts f
  in_table f a = record { least = a.least; most = a.most }

  reaches : (f : ℕ) → IsFile r f → Reaches r f (startWith f) (endWith f)
  reaches f a =
      let up : suc (first_member r.aggregates (f - 1)) - 1 ≡ first_member r.aggregates (f - 1) = omega arith in
      let low = first_below r.aggregates (f - 1) in
      let member = member_first r.aggregates (f - 1) (first_member r.aggregates (f - 1)) (omega arith) (omega (arith, low, last_above r.aggregates (f - 1))) in
      let last = last_with r good.files f a in
      record {
        first = suc (first_member r.aggregates (f - 1));
        first_file = record { least = omega arith; most = omega (arith, low, a.least, a.most) };
        first_with = first_together r good.files (suc (first_member r.aggregates (f - 1))) f (omega arith) a.least (ap (first_member r.aggregates) up ∙ member);
        starts = rw up refl;
        no_sooner = λ g b t.
            let same = together_first r good.files g f b a t in
            let left = (extent r.starts r.lengths r.aggregates good.files.table good.files.rows g (in_table g b)).starts_left in
            omega (arith, left, ap (λ i. get_or r.starts i 0) same);
        last = last.which;
        last_file = last.file;
        last_with = last.together;
        ends = sym last.ends;
        no_later = λ g b t. within_extent r good.files g f b a t;
      }

  -- Files whose aggregates start at one place lie together.
  same_start : (f g : ℕ) → IsFile r f → IsFile r g → f ≤ g → startWith f ≡ startWith g → Together r f g
  same_start f g a b l e =
      first_together r good.files f g a.least b.least
      (⊎_elim
      (λ same. same)
      (λ apart.
      absurd (omega (
        arith,
        e,
        extents_apart r.starts r.lengths r.aggregates good.files.table good.files.rows f g (in_table g b) apart,
        (extent r.starts r.lengths r.aggregates good.files.table good.files.rows f (in_table f a)).extends,
      )))
      (same_or_apart r.aggregates (f - 1) (g - 1) (omega arith)))

  start_together : (f g : ℕ) → IsFile r f → IsFile r g → startWith f ≡ startWith g → Together r f g
  start_together f g a b e =
      by_cases (dec_lt g f)
      (λ l. first_together r good.files f g a.least b.least (sym (together_first r good.files g f b a (same_start g f b a (omega arith) (sym e)))))
      (λ n. same_start f g a b (omega arith) e)

  -- The wants from an index on that lie together with a file: the weight tells them.
  reads_from : (g : ℕ) → IsFile r g → (m i : ℕ) → i + m ≡ length r.numbers → ReadsFrom r g i (weighed (starts_at (startWith g)) (drop i (want_stops_of r)))
  unfolding weighed
  reads_from g a zero i e = let same : length r.numbers ≡ i = omega arith in rw (← same, wants_end r good) behind
  reads_from g a (suc m) i e =
      let l : i < length r.numbers = omega arith in
      let n = get_or r.numbers i 0 in
      let c = get_or r.counts i 0 in
      let at = named r good.files good.wants i l in
      let rest = reads_from g a m (suc i) (omega arith) in
      let others = weighed (starts_at (startWith g)) (drop (suc i) (want_stops_of r)) in
      let all : ℕ = c * cond (eqb (startWith n) (startWith g)) 1 0 + others in
      rw (wants_at_lem r good i l)
      (⊎_elim
      (λ t.
      let more : c + others ≡ all = rw t (omega arith) in
      subst (λ k. ReadsFrom r g i k) more (counted (start_together n g at a (eqb-true _ _ t)) rest))
      (λ f.
      let as_many : others ≡ all = rw f (omega arith) in
      subst (λ k. ReadsFrom r g i k) as_many (passed (λ t. eqb-false _ _ f (ap (λ k. get_or r.starts k 0) (together_first r good.files n g at a t))) rest))
      (true_or_false (eqb (startWith n) (startWith g))))

  same : length r.counts ≡ length r.numbers
  same = sym good.wants.equal

  wants_weigh : (x : ℕ) → weighed (starts_at x) (stops_of r) ≡ weighed (starts_at x) (want_stops_of r)
  wants_weigh x = weighed_joined (starts_at x) (starts_same x) (want_stops_of r) (wants_agree r.starts r.lengths r.aggregates r.numbers r.counts)

  -- The stop at an index, by its name.
  module _ (j : ℕ) (l : j < length (stops_of r)) where
    abbrev s : Stop
    s = stop_at (stops_of r) j

    asked : wanted (stops_of r) s.file ≡ true
    asked = stop_wanted (stops_of r) s.file (j, l, refl)

    has_name : NamesStop r s.file
    has_name = test_names r good s.file (sym (wanted_named r.starts r.lengths r.aggregates r.numbers r.counts same s.file) ∙ asked)

    its_start : s.start ≡ startWith s.file
    its_start =
        sym (by_file (stops_of r) (run_sound r good).ascends j l).start
        ∙ start_by (stops_of r) s.file
        ∙ start_of_name r.starts r.lengths r.aggregates r.numbers r.counts s.file asked
        ∙ ap (λ i. get_or r.starts i 0) (sym (name_first r.starts r.lengths r.aggregates r.numbers r.counts s.file asked))

    its_end : s.end ≡ endWith s.file
    its_end =
        sym (by_file (stops_of r) (run_sound r good).ascends j l).end
        ∙ end_by (stops_of r) s.file
        ∙ end_of_name r.starts r.lengths r.aggregates r.numbers r.counts s.file asked

    its_count : weighed (starts_at (startWith s.file)) (want_stops_of r) ≡ s.count
    its_count = sym (wants_weigh (startWith s.file)) ∙ ap (λ x. weighed (starts_at x) (stops_of r)) (sym its_start) ∙ one_start (stops_of r) r.head (run_sound r good) j l

    is_stop : IsStopAt r j
    is_stop =
        record {
          name = has_name;
          reach = rw (its_start, its_end) (reaches s.file has_name.file);
          reads = rw its_count at (reads_from s.file has_name.file (length r.numbers) 0 (omega arith));
        }

  want_is : (i : ℕ) → i < length r.numbers → Reaches r (get_or r.numbers i 0) (stop_at (want_stops_of r) i).start (stop_at (want_stops_of r) i).end
  want_is i l =
      rw (want_at_lem r.starts r.lengths r.aggregates r.numbers r.counts same i l) (reaches (get_or r.numbers i 0) (named r good.files good.wants i l))

  by_members : StopsByMembers r
  by_members =
      record {
        wants = wants_length r.starts r.lengths r.aggregates r.numbers r.counts same;
        reach = want_is;
        count = λ i l. ap (λ (s : Stop). s.count) (want_at_lem r.starts r.lengths r.aggregates r.numbers r.counts same i l);
        many = has_stops r good;
        rising = (run_sound r good).ascends;
        each = is_stop;
      }

  -- Wants that lie together have stops at one place.
  share_places : (i j : ℕ) → i < length r.numbers → j < length r.numbers → Together r (get_or r.numbers i 0) (get_or r.numbers j 0)
      → Places (stop_at (want_stops_of r) i) (stop_at (want_stops_of r) j)
  share_places i j a b t =
      let first = together_first r good.files (get_or r.numbers i 0) (get_or r.numbers j 0) (named r good.files good.wants i a) (named r good.files good.wants j b) t in
      rw (
        want_at_lem r.starts r.lengths r.aggregates r.numbers r.counts same i a,
        want_at_lem r.starts r.lengths r.aggregates r.numbers r.counts same j b,
      )
      (record {
        start = ap (λ k. get_or r.starts k 0) first;
        end = ap (λ k. end_at r.starts r.lengths k) (same_last r.aggregates (get_or r.numbers i 0 - 1) (get_or r.numbers j 0 - 1) first);
      })

pub aggregates_reach : AggregatesReach
aggregates_reach r nothing = members_down r (by_members (lifted r) (accepted_any r (nothing_judged_any r nothing)).run)

members_share : (r : Run) → GoodRun r → (m : ℕ) (gs : List Leg) (rows : ReadRows) → take (length r.numbers) rows.times ≡ times_of r.turn (head_at m) gs (want_stops_of r)
    → take (length r.numbers) rows.legs ≡ legs_for gs (want_stops_of r) → MembersShare r rows
members_share r good m gs rows times legs =
    record {
      times = λ i j a b t.
          in_row r good m gs rows times i a
          ∙ time_same r.turn gs (head_at m) (stop_at (want_stops_of r) i) (stop_at (want_stops_of r) j) (share_places r good i j a b t)
          ∙ sym (in_row r good m gs rows times j b);
      legs = λ i j a b t.
          leg_in_row r good gs rows legs i a
          ∙ leg_same 1 gs (stop_at (want_stops_of r) i) (stop_at (want_stops_of r) j) (share_places r good i j a b t)
          ∙ sym (leg_in_row r good gs rows legs j b);
    }

walk_shares : (r : Run) → refuses (judge_of r) ≡ false → (list : List Detour) (rows : ReadRows) (answer : Answer) → IsWalkOf r list rows answer → MembersShare r rows
walk_shares r ok list rows answer walk = members_share r (accepted_run r ok) r.head (legs_of (stops_of r) list) rows walk.times walk.legs

pub price_members_share : PriceMembersShare
price_members_share r froms tos rows answer out says fills accepts =
    walk_shares r (price_run_accepted r froms tos rows answer says accepts) (list_of froms tos) out answer (demand2_price r froms tos rows answer out says fills accepts).walk

pub plan_members_share : PlanMembersShare
plan_members_share r before answer after plans accepts =
    walk_shares r (run_accepted r before answer after plans accepts) (list_in answer after) (reads_in after) answer (demand2_walk r before answer after plans accepts)

-- For a head anywhere.
walk_any_shares : (r : Run) → GoodAnyRun r → (list : List Detour) (rows : ReadRows) (answer : Answer) → IsWalkAnyOf r list rows answer → MembersShare r rows
walk_any_shares r good list rows answer walk =
    let shares = members_share (lifted r) good.run r.head (run_legs r list) rows walk.times walk.legs in
    record { times = shares.times; legs = shares.legs }

pub price_any_members_share : PriceAnyMembersShare
price_any_members_share r froms tos rows answer out says fills accepts =
    walk_any_shares r (price_any_good r froms tos rows answer says accepts) (list_of froms tos) out answer (demand2_price_any r froms tos rows answer out says fills accepts).1

pub plan_any_members_share : PlanAnyMembersShare
plan_any_members_share r before answer after plans accepts =
    walk_any_shares r (good_run r before answer after plans accepts) (list_in answer after) (reads_in after) answer (demand2_walk_any r before answer after plans accepts)
