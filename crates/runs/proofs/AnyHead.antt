-- A head anywhere: the stops as it meets them; where it stands right of every start they are the stops themselves and 10 is 01's; 1 to 7 are 01's of
-- the same run with the head at the end of the tape, and what an accepted run is.
use Prim.Native.Nat.{ℕ, zero, suc, ◌-◌, ◌≤◌, ◌<◌}
use mathlib.Core.Path.{◌≡◌, refl, sym, ap, ◌∙◌}
use mathlib.Core.Bool.{Bool, true, false, ◌||◌, and-false}
use mathlib.Core.Logic.{⊎_elim, by_cases}
use mathlib.Core.List.{List, [], ◌∷◌, map}
use native.Mathlib.Omega.{arith}
use native.Mathlib.Decide.{dec_le, dec_lt}
use lib.ListN.{length, get_or}
use lib.Dec.{leb, ltb}
use borrow.Author.Tests.{le-leb, lt-leb, le-ltb, lt-ltb}
use Rattle.refusals.specs.declared.Refusal.TheVariants.{HeadPlace}
use Rattle.refusals.specs.declared.Verdict.{Verdict}
use Rattle.refusals.specs.Refusals.{first_of}
use Rattle.refusals.proofs.Verdicts.{refuses, first_refuses, first_passes, first_alone}
use Rattle.runs.specs.Run.{Run, Stop, stops_of, join_to, joined, last_place, highest_turn, last_member}
use Rattle.runs.specs.Rows.{stop_at}
use Rattle.runs.specs.Judging.{right_end, table_checks, wants_checks, head_checks, judge_of}
use Rattle.runs.specs.Lists.{Detour, list_of, wanted, leftmost, bad_entry, entry_of, first_bad_entry, list_verdict}
use Rattle.runs.specs.AnyHead.{smaller, pulled_stop, pulled, head_any_checks, judge_any_of, lifted_head, lifted, past_head, bad_entry_any, first_bad_entry_any, list_verdict_any}
use Rattle.runs.proofs.Search.{true_or_false, or_false_both, first_same}
use Rattle.runs.proofs.Sound.{Sound}
use Rattle.runs.proofs.Joined.{Neighbours, Agree, by_name, join_none, join_same, join_other}
use Rattle.runs.proofs.Table.{table_file}
use Rattle.runs.proofs.Judged.{GoodTable, GoodWants, GoodRun, accepted_table, accepted_wants, accepted_run, wants_named}
use Rattle.runs.proofs.Stops.{right_end_none, right_end_some, extent}

-- The smaller of two.
pub smaller_first : (x y : ℕ) → x ≤ y → smaller x y ≡ x
smaller_first x y l = rw (le-leb x y l)

pub smaller_second : (x y : ℕ) → y ≤ x → smaller x y ≡ y
smaller_second x y l = by_cases (dec_le x y) (λ h. rw (le-leb x y h) (omega arith)) (λ n. rw (lt-leb x y (omega arith)))

pub record Smaller (x y s : ℕ) : Type 0 where
  pub first : s ≤ x
  pub second : s ≤ y
  pub same : x ≤ y → s ≡ x
  pub other : y ≤ x → s ≡ y

pub smaller_is : (x y : ℕ) → Smaller x y (smaller x y)
smaller_is x y =
    record {
      first = by_cases (dec_le x y) (λ h. omega (arith, smaller_first x y h)) (λ n. omega (arith, smaller_second x y (omega arith)));
      second = by_cases (dec_le x y) (λ h. omega (arith, smaller_first x y h)) (λ n. omega (arith, smaller_second x y (omega arith)));
      same = smaller_first x y;
      other = smaller_second x y;
    }

pub smaller_above : (a x y : ℕ) → a < x → a < y → a < smaller x y
smaller_above a x y h k = by_cases (dec_le x y) (λ l. omega (arith, smaller_first x y l)) (λ n. omega (arith, smaller_second x y (omega arith)))

pub smaller_rises : (x y m : ℕ) → x ≤ y → smaller x m ≤ smaller y m
smaller_rises x y m l = by_cases (dec_le y m) (λ h. omega (arith, smaller_first y m h, (smaller_is x m).first)) (λ n. omega (arith, smaller_second y m (omega arith), (smaller_is x m).second))

-- A leg that begins at or left of the head begins at or left of a pulled start exactly where it does of the start.
pub below_smaller : (a x m : ℕ) → a ≤ m → leb a (smaller x m) ≡ leb a x
below_smaller a x m l =
    by_cases (dec_le x m)
    (λ h. rw (smaller_first x m h))
    (λ n. rw (smaller_second x m (omega arith), le-leb a m l, le-leb a x (omega arith)))

-- Pulled stops, stop by stop.
pub pulled_length : (m : ℕ) (ss : List Stop) → length (pulled m ss) ≡ length ss
unfolding pulled
pulled_length m [] = refl
pulled_length m (s ∷ ss) = ap suc (pulled_length m ss)

pub pulled_at : (m : ℕ) (ss : List Stop) (i : ℕ) → i < length ss → stop_at (pulled m ss) i ≡ pulled_stop m (stop_at ss i)
unfolding pulled
pulled_at m [] i l = absurd (omega arith)
pulled_at m (s ∷ ss) zero l = refl
pulled_at m (s ∷ ss) (suc i) l = pulled_at m ss i (omega arith)

pub wanted_pulled : (m : ℕ) (ss : List Stop) (f : ℕ) → wanted (pulled m ss) f ≡ wanted ss f
unfolding pulled wanted
wanted_pulled m [] f = refl
wanted_pulled m (s ∷ ss) f = rw (wanted_pulled m ss f)

pub leftmost_pulled : (m : ℕ) (ss : List Stop) → leftmost (pulled m ss) ≡ leftmost ss
unfolding pulled
leftmost_pulled m [] = refl
leftmost_pulled m (s ∷ ss) = refl

-- Joining and pulling.
pulled_join : (m : ℕ) (s : Stop) (ts : List Stop) → pulled m (join_to s ts) ≡ join_to (pulled_stop m s) (pulled m ts)
unfolding pulled
pulled_join m s [] = rw (join_none s, join_none (pulled_stop m s))
pulled_join m s (t ∷ ts) =
    by_name s t
    (λ e. rw (join_same s t ts e, join_same (pulled_stop m s) (pulled_stop m t) (map (pulled_stop m) ts) e))
    (λ n. rw (join_other s t ts n, join_other (pulled_stop m s) (pulled_stop m t) (map (pulled_stop m) ts) n))

pub pulled_joined : (m : ℕ) (ss : List Stop) → pulled m (joined ss) ≡ joined (pulled m ss)
unfolding joined pulled
pulled_joined m [] = refl
pulled_joined m (s ∷ ss) = pulled_join m s (joined ss) ∙ ap (join_to (pulled_stop m s)) (pulled_joined m ss)

pulled_agree : (m : ℕ) (s t : Stop) → Agree s t → Agree (pulled_stop m s) (pulled_stop m t)
pulled_agree m s t a e = record { start = ap (λ x. smaller x m) (a e).start; end = (a e).end }

pub pulled_agrees : (m : ℕ) (ss : List Stop) → Neighbours Agree ss → Neighbours Agree (pulled m ss)
unfolding pulled
pulled_agrees m [] a = tt
pulled_agrees m (s ∷ []) a = (tt, tt)
pulled_agrees m (s ∷ t ∷ ts) a = (pulled_agree m s t a.0, pulled_agrees m (t ∷ ts) a.1)

-- The head right of every start: nothing is pulled, and no name lies past it.
abbrev pub Right : ℕ → List Stop → Type 0
Right m ss = (i : ℕ) → i < length ss → (stop_at ss i).start < m

pub sound_right : (ss : List Stop) (m : ℕ) → Sound ss m → Right m ss
sound_right ss m ok i l = omega (arith, ok.extends i l, ok.reached i l)

stop_same : (m : ℕ) (s : Stop) → s.start ≤ m → pulled_stop m s ≡ s
stop_same m s l = rw (le-leb s.start m l)

pub pulled_same : (m : ℕ) (ss : List Stop) → Right m ss → pulled m ss ≡ ss
unfolding pulled
pulled_same m [] right = refl
pulled_same m (s ∷ ss) right = rw (stop_same m s (omega (arith, right 0 (omega arith))), pulled_same m ss (λ i l. right (suc i) (omega arith)))

pub past_none : (m : ℕ) (ss : List Stop) → Right m ss → (f : ℕ) → past_head m ss f ≡ false
unfolding past_head
past_none m [] right f = refl
past_none m (s ∷ ss) right f =
    rw (lt-leb m s.start (right 0 (omega arith)), and-false (ltb s.file f), past_none m ss (λ i l. right (suc i) (omega arith)) f)

or_none : (a b : Bool) → b ≡ false → (a || b) ≡ a
or_none true b e = refl
or_none false b e = e

pub entries_same : (m : ℕ) (ss : List Stop) → Right m ss → (list : List Detour) → first_bad_entry_any m ss list ≡ first_bad_entry ss list
unfolding first_bad_entry_any first_bad_entry
entries_same m ss right list =
    first_same (bad_entry_any m ss list) (bad_entry ss list) (length list) (λ i l. or_none (bad_entry ss list i) _ (past_none m ss right (entry_of list i).from))

pub list_any_same : (m : ℕ) (ss : List Stop) → Right m ss → (froms tos : List ℕ) → list_verdict_any m ss froms tos ≡ list_verdict ss froms tos
unfolding list_verdict_any list_verdict
list_any_same m ss right froms tos = rw (entries_same m ss right (list_of froms tos))

-- Of an accepted table and wants the rightmost stop ends on the tape.
right_on_tape : (r : Run) → GoodTable r.starts r.lengths r.aggregates → GoodWants (length r.starts) r.numbers r.counts → right_end (stops_of r) ≤ last_place
right_on_tape r files wants =
    by_cases (dec_lt 0 (length r.numbers))
    (λ some.
    let last = length r.numbers - 1 in
    let e = extent r.starts r.lengths r.aggregates files.table files.rows (get_or r.numbers last 0) (wants_named r.starts r.numbers r.counts wants last (omega arith)) in
    let is = right_end_some r.starts r.lengths r.aggregates r.numbers r.counts (omega arith) (sym wants.equal) in
    let on = (table_file r.starts r.lengths files.table (last_member r.aggregates (get_or r.numbers last 0 - 1)) e.inside).ends in
    omega (arith, is, on))
    (λ none. omega (arith, right_end_none r.starts r.lengths r.aggregates r.numbers r.counts (omega arith)))

head_any : (turn head right : ℕ) → right ≤ last_place → first_of (head_any_checks turn head) ≡ first_of (head_checks turn (lifted_head head) right)
head_any turn head right l =
    by_cases (dec_lt last_place head)
    (λ far. rw (lt-ltb last_place head far, lt-ltb last_place head far))
    (λ near. rw (le-ltb last_place head (omega arith), le-ltb last_place right l))

-- The judging's three parts: only that of the head differs, and it counts where the other two refuse nothing.
abbrev table_of : Run → Verdict
table_of r = first_of (table_checks r.starts r.lengths r.aggregates)

abbrev wants_of : Run → Verdict
wants_of r = first_of (wants_checks (length r.starts) r.numbers r.counts)

same_judging : (r : Run) (head head' : Verdict) → (refuses (table_of r) ≡ false → refuses (wants_of r) ≡ false → head ≡ head')
    → first_of (table_of r ∷ wants_of r ∷ head ∷ []) ≡ first_of (table_of r ∷ wants_of r ∷ head' ∷ [])
same_judging r head head' same =
    ⊎_elim
    (λ (bad : refuses (table_of r) ≡ true). sym (first_refuses (table_of r) (wants_of r ∷ head ∷ []) bad) ∙ first_refuses (table_of r) (wants_of r ∷ head' ∷ []) bad)
    (λ (ok : refuses (table_of r) ≡ false).
    ⊎_elim
    (λ (bad : refuses (wants_of r) ≡ true). rw (ok, bad))
    (λ (good : refuses (wants_of r) ≡ false). rw (same ok good))
    (true_or_false (refuses (wants_of r))))
    (true_or_false (refuses (table_of r)))

-- 1 to 7 of a head anywhere are those of 01 with the head at the end of the tape.
pub judge_any_lem : (r : Run) → judge_any_of r ≡ judge_of (lifted r)
unfolding judge_any_of judge_of
judge_any_lem r =
    same_judging r (first_of (head_any_checks r.turn r.head)) (first_of (head_checks r.turn (lifted_head r.head) (right_end (stops_of r))))
    (λ ok good.
    head_any r.turn r.head (right_end (stops_of r))
    (right_on_tape r (accepted_table r.starts r.lengths r.aggregates ok) (accepted_wants (length r.starts) r.numbers r.counts good)))

-- An accepted run: good with the head at the end of the tape, and the head on the tape.
pub record GoodAnyRun (r : Run) : Type 0 where
  pub run : GoodRun (lifted r)
  pub near : r.head ≤ last_place

lifted_near : (m : ℕ) → lifted_head m ≤ last_place → m ≤ last_place
lifted_near m l = by_cases (dec_lt last_place m) (λ far. omega (arith, rw (lt-ltb last_place m far) at l)) (λ n. omega arith)

pub accepted_any : (r : Run) → refuses (judge_any_of r) ≡ false → GoodAnyRun r
accepted_any r e =
    let good = accepted_run (lifted r) (rw (judge_any_lem r) at e) in
    record { run = good; near = lifted_near r.head good.start.near }

-- 01's good run is one.
pub good_any : (r : Run) → GoodRun r → GoodAnyRun r
good_any r good =
    record {
      run =
          record {
            files = good.files;
            wants = good.wants;
            start = rw (le-ltb last_place r.head good.start.near) (record { cheap = good.start.cheap; near = omega arith; past = omega (arith, good.start.past, good.start.near) });
          };
      near = good.start.near;
    }

-- What 01 does not refuse by 7 is judged the same.
head_same : (turn head right : ℕ) → ((first_of (head_checks turn head right)).refusal ≡ HeadPlace → ⊥) → first_of (head_any_checks turn head) ≡ first_of (head_checks turn head right)
head_same turn head right other =
    ⊎_elim
    (λ (dear : ltb highest_turn turn ≡ true). rw dear)
    (λ (cheap : ltb highest_turn turn ≡ false).
    ⊎_elim
    (λ (out : (ltb last_place head || ltb head right) ≡ true). absurd (other (rw (cheap, out))))
    (λ (fits : (ltb last_place head || ltb head right) ≡ false). rw (cheap, fits, (or_false_both (ltb last_place head) (ltb head right) fits).0))
    (true_or_false (ltb last_place head || ltb head right)))
    (true_or_false (ltb highest_turn turn))

pub judge_any_same : (r : Run) → ((judge_of r).refusal ≡ HeadPlace → ⊥) → judge_any_of r ≡ judge_of r
unfolding judge_any_of judge_of
judge_any_same r other =
    same_judging r (first_of (head_any_checks r.turn r.head)) (first_of (head_checks r.turn r.head (right_end (stops_of r))))
    (λ ok good. head_same r.turn r.head (right_end (stops_of r)) (λ is. other (ap (λ v. v.refusal) (whole ok good) ∙ is)))
  where
    last : List Verdict
    last = first_of (head_checks r.turn r.head (right_end (stops_of r))) ∷ []

    whole : refuses (table_of r) ≡ false → refuses (wants_of r) ≡ false → judge_of r ≡ first_of (head_checks r.turn r.head (right_end (stops_of r)))
    whole ok good =
        first_passes (table_of r) (wants_of r ∷ last) ok ∙ first_passes (wants_of r) last good ∙ first_alone (head_checks r.turn r.head (right_end (stops_of r)))
