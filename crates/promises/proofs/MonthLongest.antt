-- The longest time of a month is that of a want: the scan over a run's times keeps the first of the longest, and the month the first of the runs'.
use Prim.Native.Nat.{ℕ, zero, suc, ◌≤◌, ◌<◌}
use mathlib.Core.Path.{◌≡◌, refl, sym, ap, ◌∙◌, subst}
use mathlib.Core.Bool.{Bool, true, false, cond, true≢false}
use mathlib.Core.Logic.{◌⊎◌, inl, inr, ⊎_elim}
use mathlib.Core.List.{List, [], ◌∷◌, ◌++◌}
use native.Mathlib.Omega.{arith}
use lib.ListN.{length, get_or, take, length-append}
use lib.Seq.{take_at}
use lib.Dec.{ltb}
use borrow.Author.Tests.{ltb-true, ltb-false}
use Rattle.refusals.specs.declared.Refusal.TheVariants.{Accepted}
use Rattle.refusals.specs.Refusals.{is_refusal}
use Rattle.refusals.proofs.Verdicts.{refuses}
use Rattle.runs.specs.Run.{Run, stops_of}
use Rattle.runs.specs.Lists.{Detour}
use Rattle.runs.specs.Judging.{judge_of}
use Rattle.runs.proofs.Search.{true_or_false}
use Rattle.walk.specs.Price.{priced_times}
use Rattle.least.specs.Least.{LeastForRun}
use Rattle.least.proofs.LeastList.{least_unique}
use Rattle.sheet_reader.specs.Sheet.{sheet_run, sheet_name}
use Rattle.answer_plan.specs.Recall.{recall_verdict}
use Rattle.answer_outcome.specs.declared.Outcome.{Outcome}
use Rattle.answer_outcome.specs.declared.Longest.{Longest}
use Rattle.answer_outcome.specs.Outcomes.{name_in, longer, longest_from, longest_of, refused_outcome, planned_outcome, PlannedAs, OutcomeOf}
use Rattle.answer_month.specs.declared.Month.{Month}
use Rattle.answer_month.specs.Month.{empty_month, added_all}
use Rattle.promises.specs.Months.{Every, OneByOne, Outcomes, longest_time, NoneRead, FirstLongest}
use Rattle.promises.specs.MonthLongest.{FirstOfLongest, LongestInside, NoneLonger, NoWantIsLonger, OrderWithoutReads}
use Rattle.promises.proofs.MonthTotals.{month_counts}
use Rattle.promises.proofs.MonthNames.{no_reads_no_name}
use Rattle.promises.proofs.MonthOrder.{sheets_length, order_is_tie}

-- A scan either keeps what it had, since no time is longer, or finds the first of the longest.
record Beyond (most : Longest) (files times : List ℕ) (l : Longest) : Type 0 where
  above : most.time < l.time
  first : FirstOfLongest files times l.time l.file

abbrev Unbeaten : Longest → List ℕ → List ℕ → Longest → Type 0
Unbeaten most files times l = (l ≡ most) × ((i : ℕ) → i < length files → get_or times i 0 ≤ most.time)

module _ (most : Longest) (f t : ℕ) (fs ts : List ℕ) (l : Longest) where
  abbrev this : Longest
  this = record { time = t; file = f }

  behind : (bound : ℕ) → t ≤ bound → ((i : ℕ) → i < length fs → get_or ts i 0 ≤ bound) → (i : ℕ) → i < length (f ∷ fs) → get_or (t ∷ ts) i 0 ≤ bound
  behind bound here rest zero h = here
  behind bound here rest (suc i) h = rest i (omega arith)

  before : (want : ℕ) → t < l.time → ((i : ℕ) → i < want → get_or ts i 0 < l.time) → (i : ℕ) → i < suc want → get_or (t ∷ ts) i 0 < l.time
  before want here rest zero h = here
  before want here rest (suc i) h = rest i (omega arith)

  -- The want found behind one that is no longer than what was found.
  one_on : t < l.time → FirstOfLongest fs ts l.time l.file → FirstOfLongest (f ∷ fs) (t ∷ ts) l.time l.file
  one_on here w =
      record {
        want = suc w.want;
        within = omega (arith, w.within);
        has_time = w.has_time;
        has_file = w.has_file;
        shorter = before w.want here w.shorter;
        longest = behind l.time (omega arith) w.longest;
      }

  taken : most.time < t → Unbeaten this fs ts l ⊎ Beyond this fs ts l → Beyond most (f ∷ fs) (t ∷ ts) l
  taken lt (inl (same, all)) =
      let time : l.time ≡ t = ap (λ x. x.time) same in
      record {
        above = rw time lt;
        first = record {
          want = 0;
          within = omega arith;
          has_time = sym time;
          has_file = sym (ap (λ x. x.file) same);
          shorter = λ i h. absurd (omega arith);
          longest = behind l.time (omega (arith, time)) (λ i h. omega (arith, time, all i h));
        };
      }
  taken lt (inr b) = record { above = omega (arith, lt, b.above); first = one_on b.above b.first }

  kept : t ≤ most.time → Unbeaten most fs ts l ⊎ Beyond most fs ts l → Unbeaten most (f ∷ fs) (t ∷ ts) l ⊎ Beyond most (f ∷ fs) (t ∷ ts) l
  kept le (inl (same, all)) = inl (same, behind most.time le all)
  kept le (inr b) = inr (record { above = b.above; first = one_on (omega (arith, le, b.above)) b.first })

scan : (most : Longest) (files times : List ℕ) → Unbeaten most files times (longest_from most files times) ⊎ Beyond most files times (longest_from most files times)
unfolding longest_from
scan most [] times = inl (refl, λ i l. absurd (omega arith))
scan most (f ∷ fs) [] = inl (refl, λ i l. omega arith)
scan most (f ∷ fs) (t ∷ ts) =
    ⊎_elim
    (λ (q : ltb most.time t ≡ true). rw q (inr (taken most f t fs ts _ (ltb-true most.time t q) (scan (record { time = t; file = f }) fs ts))))
    (λ (q : ltb most.time t ≡ false). rw q (kept most f t fs ts _ (omega (arith, ltb-false most.time t q)) (scan most fs ts)))
    (true_or_false (ltb most.time t))

-- So of a row of times from nothing on.
module _ (files times : List ℕ) where
  abbrev nothing : Longest
  nothing = record { time = 0; file = 0 }

  pub none_longer : (i : ℕ) → i < length files → get_or times i 0 ≤ (longest_of files times).time
  none_longer i h = ⊎_elim (λ u. omega (arith, u.1 i h)) (λ (b : Beyond nothing files times (longest_of files times)). b.first.longest i h) (scan nothing files times)

  pub first_longest : 0 < (longest_of files times).time → FirstOfLongest files times (longest_of files times).time (longest_of files times).file
  first_longest some =
      ⊎_elim (λ u. absurd (omega (arith, some, ap (λ x. x.time) u.0))) (λ (b : Beyond nothing files times (longest_of files times)). b.first) (scan nothing files times)

  pub no_longest : (longest_of files times).time ≡ 0 → (longest_of files times).file ≡ 0
  no_longest none =
      ⊎_elim (λ u. ap (λ x. x.file) u.0) (λ (b : Beyond nothing files times (longest_of files times)). absurd (omega (arith, none, b.above))) (scan nothing files times)

-- The plan of an accepted sheet's outcome, by the list that it is least by.
pub passes : (sheet : List ℕ) (o : Outcome) → OutcomeOf sheet o → o.refusal ≡ Accepted → is_refusal (recall_verdict sheet).refusal ≡ false
unfolding refused_outcome
passes sheet o p e =
    ⊎_elim (λ t. absurd (true≢false (sym t ∙ ap is_refusal (sym (ap (λ x. x.refusal) (p.refused t)) ∙ e)))) (λ n. n) (true_or_false (is_refusal (recall_verdict sheet).refusal))

planned_by : (name : List ℕ) (run : Run) (o : Outcome) (list : List Detour) → PlannedAs name run o → LeastForRun run list → o ≡ planned_outcome name run list
planned_by name run o list p least = p.says ∙ ap (planned_outcome name run) (least_unique run.turn run.head (stops_of run) p.list list p.least least)

letters_back : (name : List ℕ) → take (length name) (name_in name) ≡ name
unfolding name_in
letters_back name = take_at name _ (length name) refl

module _ (sheet : List ℕ) (o : Outcome) (list : List Detour) (p : OutcomeOf sheet o) (e : o.refusal ≡ Accepted) (least : LeastForRun (sheet_run sheet) list) where
  abbrev run : Run
  run = sheet_run sheet

  pub is : o ≡ planned_outcome (sheet_name sheet) run list
  is = planned_by (sheet_name sheet) run o list (p.planned (passes sheet o p e)) least

  time_is : o.time ≡ (longest_of run.numbers (priced_times run list)).time
  unfolding planned_outcome
  time_is = ap (λ x. x.time) is

  file_is : o.file ≡ (longest_of run.numbers (priced_times run list)).file
  unfolding planned_outcome
  file_is = ap (λ x. x.file) is

  tape_is : take o.letters o.tape ≡ sheet_name sheet
  unfolding planned_outcome
  tape_is = ap (λ (x : Outcome). take x.letters x.tape) is ∙ letters_back (sheet_name sheet)

pub longest_inside : LongestInside
unfolding priced_times
longest_inside sheet o list p e some least =
    record {
      want = rw (time_is sheet o list p e least, file_is sheet o list p e least) (first_longest (sheet_run sheet).numbers (priced_times (sheet_run sheet) list) (rw (time_is sheet o list p e least) at some));
      tape = tape_is sheet o list p e least;
    }

-- The month's time is no shorter than any run's.
accepted_time : (o : Outcome) → o.refusal ≡ Accepted → longest_time o ≡ o.time
accepted_time o e = rw (ap is_refusal e)

every_append : (P : Outcome → Type 0) (xs : List Outcome) (x : Outcome) (ys : List Outcome) → Every P xs → P x → Every P ys → Every P (xs ++ (x ∷ ys))
every_append P [] x ys a b c = (b, c)
every_append P (z ∷ xs) x ys a b c = (a.0, every_append P xs x ys a.1 b c)

every_wider : (P Q : Outcome → Type 0) (xs : List Outcome) → ((x : Outcome) → P x → Q x) → Every P xs → Every Q xs
every_wider P Q [] f e = tt
every_wider P Q (x ∷ xs) f e = (f x e.0, every_wider P Q xs f e.1)

all_shorter : (runs : List Outcome) (m : Month) → NoneRead runs m ⊎ FirstLongest runs m → Every (λ r. longest_time r ≤ m.time) runs
all_shorter runs m (inl n) = every_wider (λ r. longest_time r ≡ 0) (λ r. longest_time r ≤ m.time) runs (λ x e. omega (arith, e)) n.none
all_shorter runs m (inr l) =
    let top = longest_time l.run in
    subst (λ (rs : List Outcome). Every (λ r. longest_time r ≤ m.time) rs) (sym l.stands)
    (every_append (λ r. longest_time r ≤ m.time) l.earlier l.run l.later
    (every_wider (λ r. longest_time r < top) (λ r. longest_time r ≤ m.time) l.earlier (λ x h. omega (arith, h, l.time)) l.shorter)
    (omega (arith, l.time))
    (every_wider (λ r. longest_time r ≤ top) (λ r. longest_time r ≤ m.time) l.later (λ x h. omega (arith, h, l.time)) l.longest))

each_shorter : (bound : ℕ) (sheets : List (List ℕ)) (runs : List Outcome) → Outcomes sheets runs → Every (λ r. longest_time r ≤ bound) runs → OneByOne (NoneLonger bound) sheets runs
unfolding priced_times
each_shorter bound [] [] o e = tt
each_shorter bound [] (r ∷ runs) o e = absurd o
each_shorter bound (s ∷ sheets) [] o e = absurd o
each_shorter bound (s ∷ sheets) (r ∷ runs) o e = (
  λ accepts list least want h.
      omega (arith, none_longer (sheet_run s).numbers (priced_times (sheet_run s) list) want h, time_is s r list o.0 accepts least, accepted_time r accepts, e.0),
  each_shorter bound sheets runs o.1 e.1,
)

pub no_want_is_longer : NoWantIsLonger
no_want_is_longer sheets runs few o =
    each_shorter (added_all empty_month runs).time sheets runs o (all_shorter runs (added_all empty_month runs) (month_counts sheets runs few o).longest)

pub order_without_reads : OrderWithoutReads
order_without_reads sheets sheets' runs runs' few p o o' none =
    let same = (order_is_tie sheets sheets' runs runs' few p o o').0 in
    let a = no_reads_no_name sheets runs few o none in
    let b = no_reads_no_name sheets' runs' (omega (arith, few, sheets_length p)) o' (sym same.reads ∙ none) in
    record { file = a.file ∙ sym b.file; letters = a.letters ∙ sym b.letters; tape = λ some. absurd (omega (arith, some, a.time)) }
