-- A month without reads names no tape: a run without reads has no wants, so no time. One with reads does: what is read takes time.
use Prim.Native.Nat.{ℕ, ◌≤◌, ◌<◌}
use mathlib.Core.Path.{◌≡◌, refl, sym, ap, ◌∙◌, subst}
use mathlib.Core.Bool.{Bool, true, false, cond, true≢false}
use mathlib.Core.Logic.{◌⊎◌, inl, inr, by_cases, ⊎_elim}
use mathlib.Core.List.{List, [], ◌∷◌}
use native.Mathlib.Omega.{arith}
use native.Mathlib.Decide.{dec_lt}
use lib.ListN.{length, get_or, length-map}
use lib.Dec.{ltb, leb}
use borrow.Author.Tests.{leb-true, ltb-true, ltb-false}
use Rattle.refusals.specs.Refusals.{is_refusal}
use Rattle.refusals.proofs.Verdicts.{refuses, all_accept}
use Rattle.runs.specs.Run.{Run, Stop, stops_of, want_stops_of, total}
use Rattle.runs.specs.Rows.{stop_at}
use Rattle.runs.specs.Lists.{Detour}
use Rattle.runs.specs.Judging.{judge_of}
use Rattle.runs.proofs.Judged.{accepted_run}
use Rattle.runs.proofs.Search.{true_or_false}
use Rattle.runs.proofs.Stops.{accepted_sound}
use Rattle.walk.specs.declared.Head.{Head}
use Rattle.walk.specs.declared.Leg.{Leg}
use Rattle.walk.specs.Walk.{head_at, set_off, after_leg, run_right, reads, served, time_of, times_of}
use Rattle.walk.specs.Detours.{legs_of}
use Rattle.walk.specs.Price.{priced_times}
use Rattle.walk.proofs.Joins.{served_same}
use Rattle.least.proofs.Sweeps.{each_served}
use Rattle.demands.proofs.Ends.{size, stop_of_want, entry_at}
use Rattle.text_bytes.proofs.Bytes.{and_true_both}
use Rattle.sheet_reader.specs.Sheet.{sheet_run, sheet_name}
use Rattle.sheet_reader.specs.Reading.{sheet_verdict, rule_verdict}
use Rattle.answer_plan.specs.Recall.{run_checks, verdict_by, recall_verdict}
use Rattle.answer_outcome.specs.declared.Outcome.{Outcome}
use Rattle.answer_outcome.specs.declared.Longest.{Longest}
use Rattle.answer_outcome.specs.Outcomes.{longer, longest_from, longest_of, refused_outcome, planned_outcome, OutcomeOf}
use Rattle.answer_month.specs.Month.{empty_month, added_all}
use Rattle.promises.specs.Months.{Every, Outcomes, of_accepted, in_all, longest_time, NoneRead, FirstLongest, NoReadsNoName, ReadsNameARun}
use Rattle.promises.proofs.MonthTotals.{every_at, month_counts}

first_counts : (counts : List ℕ) → total counts ≡ 0 → get_or counts 0 0 ≡ 0
first_counts [] e = refl
first_counts (c ∷ cs) e = omega (arith, e)

none_wanted : (run : Run) → refuses (judge_of run) ≡ false → total run.counts ≡ 0 → length run.numbers ≡ 0
none_wanted run ok e =
    by_cases (dec_lt 0 (length run.numbers))
    (λ l. absurd (omega (arith, ((accepted_run run ok).wants.each 0 l).counted, first_counts run.counts e)))
    (λ l. omega arith)

none_longest : (files times : List ℕ) → length files ≡ 0 → (longest_of files times).time ≡ 0
unfolding longest_from
none_longest [] times e = refl
none_longest (f ∷ files) times e = absurd (omega arith)

no_time : (name : List ℕ) (run : Run) (list : List Detour) → refuses (judge_of run) ≡ false → (planned_outcome name run list).reads ≡ 0 → (planned_outcome name run list).time ≡ 0
unfolding planned_outcome
no_time name run list ok e = none_longest run.numbers _ (none_wanted run ok e)

pub judged : (sheet : List ℕ) → is_refusal (recall_verdict sheet).refusal ≡ false → refuses (judge_of (sheet_run sheet)) ≡ false
unfolding verdict_by
judged sheet passes = (all_accept (sheet_verdict sheet ∷ rule_verdict sheet ∷ run_checks (sheet_run sheet)) passes).1.1.0

zero_either : (figure : Outcome → ℕ) (o : Outcome) → figure o ≡ 0 → of_accepted figure o ≡ 0
zero_either figure o e = go (is_refusal o.refusal)
  where
    go : (b : Bool) → cond b 0 (figure o) ≡ 0
    go true = refl
    go false = e

refused_time : (sheet : List ℕ) → (refused_outcome (recall_verdict sheet).refusal).time ≡ 0
unfolding refused_outcome
refused_time sheet = refl

planned_reads : (name : List ℕ) (run : Run) (list : List Detour) → of_accepted (λ r. r.reads) (planned_outcome name run list) ≡ (planned_outcome name run list).reads
unfolding planned_outcome
planned_reads name run list = refl

planned_time : (name : List ℕ) (run : Run) (list : List Detour) → longest_time (planned_outcome name run list) ≡ (planned_outcome name run list).time
unfolding planned_outcome
planned_time name run list = refl

timed_is : (name : List ℕ) (run : Run) (list : List Detour) → (planned_outcome name run list).time ≡ (longest_of run.numbers (priced_times run list)).time
unfolding planned_outcome
timed_is name run list = refl

planned_total : (name : List ℕ) (run : Run) (list : List Detour) → (planned_outcome name run list).reads ≡ total run.counts
unfolding planned_outcome
planned_total name run list = refl

refused_reads : (sheet : List ℕ) → (refused_outcome (recall_verdict sheet).refusal).reads ≡ 0
unfolding refused_outcome
refused_reads sheet = refl

no_reads_no_time : (sheet : List ℕ) (o : Outcome) → OutcomeOf sheet o → of_accepted (λ r. r.reads) o ≡ 0 → longest_time o ≡ 0
no_reads_no_time sheet o p e = go (is_refusal (recall_verdict sheet).refusal) refl
  where
    go : (b : Bool) → is_refusal (recall_verdict sheet).refusal ≡ b → longest_time o ≡ 0
    go true q = zero_either (λ r. r.time) o (ap (λ x. x.time) (p.refused q) ∙ refused_time sheet)
    go false q =
        let plan = p.planned q in
        let none : (planned_outcome (sheet_name sheet) (sheet_run sheet) plan.list).reads ≡ 0 =
        sym (planned_reads (sheet_name sheet) (sheet_run sheet) plan.list) ∙ ap (of_accepted (λ r. r.reads)) (sym plan.says) ∙ e in
        zero_either (λ r. r.time) o (ap (λ x. x.time) plan.says ∙ no_time (sheet_name sheet) (sheet_run sheet) plan.list (judged sheet q) none)

none_timed : (sheets : List (List ℕ)) (runs : List Outcome) → Outcomes sheets runs → in_all (λ r. r.reads) runs ≡ 0 → Every (λ r. longest_time r ≡ 0) runs
unfolding in_all
none_timed [] [] o e = tt
none_timed [] (r ∷ runs) o e = absurd o
none_timed (s ∷ sheets) [] o e = absurd o
none_timed (s ∷ sheets) (r ∷ runs) o e =
    let here : of_accepted (λ x. x.reads) r ≡ 0 = omega (arith, e) in
    let rest : in_all (λ x. x.reads) runs ≡ 0 = omega (arith, e) in
    (no_reads_no_time s r o.0 here, none_timed sheets runs o.1 rest)

pub no_reads_no_name : NoReadsNoName
no_reads_no_name sheets runs few o e =
    let f = month_counts sheets runs few o in
    let none = none_timed sheets runs o (sym f.reads ∙ e) in
    go none f.longest
  where
    go : Every (λ r. longest_time r ≡ 0) runs → NoneRead runs (added_all empty_month runs) ⊎ FirstLongest runs (added_all empty_month runs) → NoneRead runs (added_all empty_month runs)
    go none (inl n) = n
    go none (inr l) =
        let here = every_at (λ r. longest_time r ≡ 0) l.earlier l.run l.later (subst (Every (λ r. longest_time r ≡ 0)) l.stands none) in
        absurd (omega (arith, here, l.read))

-- A leg that reads a stop runs right over all of it: what is read takes time.
module _ (U : ℕ) (s : Stop) (long : s.start < s.end) where
  read_takes_time : (h : Head) (g : Leg) → reads g s ≡ true → 0 < (run_right (set_off U h g) s.end).clock
  read_takes_time h g e =
      let both = and_true_both (leb g.left s.start) (leb s.end g.right) e in
      let from = leb-true g.left s.start both.0 in
      omega (arith, from)

  time_above : (h : Head) (gs : List Leg) → served gs s ≡ true → 0 < time_of U h gs s
  unfolding served time_of
  time_above h [] e = absurd (true≢false (sym e))
  time_above h (g ∷ gs) e =
      ⊎_elim
      (λ (q : reads g s ≡ true). rw q (read_takes_time h g q))
      (λ (q : reads g s ≡ false). rw q (time_above (after_leg U h g) gs (rw q at e)))
      (true_or_false (reads g s))

-- The longest of some times is not shorter than any so far, and so not than the first.
longer_takes : (most : Longest) (f t : ℕ) → (most.time ≤ (longer most f t).time) × (t ≤ (longer most f t).time)
longer_takes most f t =
    ⊎_elim
    (λ (q : ltb most.time t ≡ true). rw q (omega (arith, ltb-true most.time t q), omega arith))
    (λ (q : ltb most.time t ≡ false). rw q (omega arith, omega (arith, ltb-false most.time t q)))
    (true_or_false (ltb most.time t))

longest_grows : (most : Longest) (files times : List ℕ) → most.time ≤ (longest_from most files times).time
unfolding longest_from
longest_grows most [] times = omega arith
longest_grows most (f ∷ files) [] = omega arith
longest_grows most (f ∷ files) (t ∷ times) = omega (arith, (longer_takes most f t).0, longest_grows (longer most f t) files times)

first_timed : (files times : List ℕ) → 0 < length files → 0 < length times → 0 < get_or times 0 0 → 0 < (longest_of files times).time
unfolding longest_from
first_timed [] times a b l = absurd (omega arith)
first_timed (f ∷ files) [] a b l = absurd (omega arith)
first_timed (f ∷ files) (t ∷ times) a b l =
    let most : Longest = record { time = 0; file = 0 } in
    omega (arith, l, (longer_takes most f t).1, longest_grows (longer most f t) files times)

-- The first want of an accepted run is read, whatever the list.
module _ (run : Run) (ok : refuses (judge_of run) ≡ false) (list : List Detour) (some : 0 < length run.numbers) where
  abbrev first : Stop
  first = stop_at (want_stops_of run) 0

  first_served : served (legs_of (stops_of run) list) first ≡ true
  first_served =
      let p = stop_of_want run (accepted_run run ok) 0 some in
      served_same (legs_of (stops_of run) list) first (stop_at (stops_of run) p.index) p.places
      ∙ each_served (stops_of run) run.head (accepted_sound run ok) list p.index p.within

  first_long : first.start < first.end
  first_long =
      let p = stop_of_want run (accepted_run run ok) 0 some in
      omega (arith, p.places.start, p.places.end, (accepted_sound run ok).extends p.index p.within)

  first_time : get_or (priced_times run list) 0 0 ≡ time_of run.turn (head_at run.head) (legs_of (stops_of run) list) first
  unfolding priced_times times_of
  first_time = entry_at (time_of run.turn (head_at run.head) (legs_of (stops_of run) list)) (want_stops_of run) 0 (omega (arith, size run (accepted_run run ok)))

  times_many : length (priced_times run list) ≡ length run.numbers
  unfolding priced_times times_of
  times_many = length-map (want_stops_of run) (time_of run.turn (head_at run.head) (legs_of (stops_of run) list)) ∙ size run (accepted_run run ok)

  longest_above : 0 < (longest_of run.numbers (priced_times run list)).time
  longest_above =
      first_timed run.numbers (priced_times run list) some (omega (arith, times_many))
      (rw first_time (time_above run.turn first first_long (head_at run.head) (legs_of (stops_of run) list) first_served))

some_wanted : (run : Run) → refuses (judge_of run) ≡ false → 0 < total run.counts → 0 < length run.numbers
some_wanted run ok l = by_length run.counts l (accepted_run run ok).wants.equal
  where
    by_length : (counts : List ℕ) → 0 < total counts → length run.numbers ≡ length counts → 0 < length run.numbers
    by_length [] l e = absurd (omega arith)
    by_length (c ∷ counts) l e = omega (arith, e)

-- So a run without a time has no reads, a refused one among them.
no_time_no_reads : (sheet : List ℕ) (o : Outcome) → OutcomeOf sheet o → longest_time o ≡ 0 → of_accepted (λ r. r.reads) o ≡ 0
no_time_no_reads sheet o p e = go (is_refusal (recall_verdict sheet).refusal) refl
  where
    none : (n : ℕ) → (0 < n → ⊥) → n ≡ 0
    none n never = by_cases (dec_lt 0 n) (λ l. absurd (never l)) (λ l. omega arith)

    go : (b : Bool) → is_refusal (recall_verdict sheet).refusal ≡ b → of_accepted (λ r. r.reads) o ≡ 0
    go true q = zero_either (λ r. r.reads) o (ap (λ x. x.reads) (p.refused q) ∙ refused_reads sheet)
    go false q =
        let plan = p.planned q in
        let run = sheet_run sheet in
        let untimed : (planned_outcome (sheet_name sheet) run plan.list).time ≡ 0 =
        sym (planned_time (sheet_name sheet) run plan.list) ∙ ap longest_time (sym plan.says) ∙ e in
        zero_either (λ r. r.reads) o
        (ap (λ x. x.reads) plan.says
        ∙ planned_total (sheet_name sheet) run plan.list
        ∙ none (total run.counts)
        (λ l. omega (arith, timed_is (sheet_name sheet) run plan.list, untimed, longest_above run (judged sheet q) plan.list (some_wanted run (judged sheet q) l))))

none_read : (sheets : List (List ℕ)) (runs : List Outcome) → Outcomes sheets runs → Every (λ r. longest_time r ≡ 0) runs → in_all (λ r. r.reads) runs ≡ 0
unfolding in_all
none_read [] [] o e = refl
none_read [] (r ∷ runs) o e = absurd o
none_read (s ∷ sheets) [] o e = absurd o
none_read (s ∷ sheets) (r ∷ runs) o e = omega (arith, no_time_no_reads s r o.0 e.0, none_read sheets runs o.1 e.1)

pub reads_name_a_run : ReadsNameARun
reads_name_a_run sheets runs few o l =
    let f = month_counts sheets runs few o in
    ⊎_elim
    (λ (n : NoneRead runs (added_all empty_month runs)). absurd (omega (arith, l, f.reads, none_read sheets runs o n.none)))
    (λ (p : FirstLongest runs (added_all empty_month runs)). p)
    f.longest
