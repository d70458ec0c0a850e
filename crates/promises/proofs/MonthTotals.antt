-- A month's totals are the figures of its runs: by the runs already added, one more at a time. A run's numbers are small enough for a thousand.
use Prim.Native.Nat.{ℕ, zero, suc, ◌+◌, ◌-◌, ◌*◌, ◌/◌, ◌%◌, ◌≤◌, ◌<◌, ◌^◌}
use mathlib.Core.Path.{◌≡◌, refl, sym, ap, ◌∙◌, subst}
use mathlib.Core.Bool.{Bool, true, false, cond, not, ◌&&◌, ◌||◌}
use mathlib.Core.Logic.{◌⊎◌, inl, inr, ⊎_elim, by_cases}
use mathlib.Core.List.{List, [], ◌∷◌, ◌++◌, append-nil}
use native.Mathlib.Omega.{arith}
use native.Mathlib.Decide.{dec_lt}
use native.Mathlib.Nat.{div-add-mod', mod-lt}
use lib.ListN.{length, get_or, set, replicate, length-append, length-set}
use lib.Seq.{append_snoc, get_or-set_same, get_or-set_other}
use lib.Dec.{ltb, leb, eqb}
use borrow.Author.Tests.{lt-ltb, le-ltb, ltb-true, ltb-false, lt-leb, eqb-true, eqb-false, eq-eqb, ne_eqb}
use Rattle.refusals.specs.Refusals.{number_of, is_refusal}
use Rattle.refusals.proofs.Verdicts.{number_small}
use Rattle.answer_outcome.specs.declared.Outcome.{Outcome}
use Rattle.answer_outcome.specs.Outcomes.{OutcomeOf}
use Rattle.answer_outcome.proofs.Bounds.{Small, outcome_small}
use Rattle.answer_month.specs.declared.Month.{Month}
use Rattle.answer_month.specs.Month.{too_large, grown, empty_month, refused_with, with_refused, with_totals, named_by, with_longest, added, added_all}
use Rattle.answer_month.specs.Page.{mean_of}
use Rattle.promises.specs.Months.{Every, Outcomes, how_many_runs, is_accepted_run, of_accepted, in_all, is_refused_by, longest_time, NoneRead, FirstLongest, MonthFigures, MonthCounts, MeanIs, MeanExact}

module _ {A : Type 0} {P Q : A → Type 0} where
  pub every_map : ((x : A) → P x → Q x) → (xs : List A) → Every P xs → Every Q xs
  every_map f [] e = tt
  every_map f (x ∷ xs) e = (f x e.0, every_map f xs e.1)

module _ {A : Type 0} (P : A → Type 0) where
  pub every_append : (xs ys : List A) → Every P xs → Every P ys → Every P (xs ++ ys)
  every_append [] ys e f = f
  every_append (x ∷ xs) ys e f = (e.0, every_append xs ys e.1 f)

  pub every_at : (xs : List A) (x : A) (ys : List A) → Every P (xs ++ (x ∷ ys)) → P x
  every_at [] x ys e = e.0
  every_at (z ∷ xs) x ys e = every_at xs x ys e.1

pub many_append : (test : Outcome → Bool) (xs ys : List Outcome) → how_many_runs test (xs ++ ys) ≡ how_many_runs test xs + how_many_runs test ys
unfolding how_many_runs
many_append test [] ys = omega arith
many_append test (x ∷ xs) ys = omega (arith, many_append test xs ys)

many_most : (test : Outcome → Bool) (xs : List Outcome) → how_many_runs test xs ≤ length xs
unfolding how_many_runs
many_most test [] = omega arith
many_most test (x ∷ xs) = go (test x) (many_most test xs)
  where
    go : (b : Bool) → how_many_runs test xs ≤ length xs → cond b 1 0 + how_many_runs test xs ≤ suc (length xs)
    go true h = omega arith
    go false h = omega arith

all_append : (figure : Outcome → ℕ) (xs ys : List Outcome) → in_all figure (xs ++ ys) ≡ in_all figure xs + in_all figure ys
unfolding in_all
all_append figure [] ys = omega arith
all_append figure (x ∷ xs) ys = omega (arith, all_append figure xs ys)

all_most : (figure : Outcome → ℕ) (most : ℕ) → (xs : List Outcome) → Every (λ o. figure o ≤ most) xs → in_all figure xs ≤ most * length xs
unfolding in_all
all_most figure most [] e = omega arith
all_most figure most (x ∷ xs) e = go (is_refusal x.refusal) (all_most figure most xs e.1)
  where
    go : (b : Bool) → in_all figure xs ≤ most * length xs → cond b 0 (figure x) + in_all figure xs ≤ most * suc (length xs)
    go true h = omega (arith, h)
    go false h = omega (arith, h, e.0)

-- One run more at the end.
module _ (done : List Outcome) (o : Outcome) where
  many_more : (test : Outcome → Bool) → how_many_runs test (done ++ (o ∷ [])) ≡ how_many_runs test done + cond (test o) 1 0
  unfolding how_many_runs
  many_more test = omega (arith, many_append test done (o ∷ []))

  all_more : (figure : Outcome → ℕ) → in_all figure (done ++ (o ∷ [])) ≡ in_all figure done + of_accepted figure o
  unfolding in_all
  all_more figure = omega (arith, all_append figure done (o ∷ []))

  length_more : length (done ++ (o ∷ [])) ≡ length done + 1
  length_more = length-append done (o ∷ [])

-- All of a month's figures but the longest time.
record Totals (runs : List Outcome) (m : Month) : Type 0 where
  sheets : m.sheets ≡ length runs
  accepted : m.accepted ≡ how_many_runs is_accepted_run runs
  refused : (n : ℕ) → refused_with m n ≡ how_many_runs (is_refused_by n) runs
  reads : m.reads ≡ in_all (λ r. r.reads) runs
  sum : m.sum ≡ in_all (λ r. r.sum) runs
  saved : m.saved ≡ in_all (λ r. r.saved) runs
  exact : m.over ≡ false
  long : length m.refused ≡ 32

pub grown_fits : (a b : ℕ) → a + b < 2 ^ 64 → grown a b ≡ a + b
unfolding grown
grown_fits a b l = rw (lt-leb (2 ^ 64) (a + b) l)

module _ (done : List Outcome) (m : Month) (t : Totals done m) (few : length done < 1000) (smalls : Every Small done) (o : Outcome) (small : Small o) where
  many_fits : (a : ℕ) (test : Outcome → Bool) → a ≡ how_many_runs test done → a + 1 < 2 ^ 64
  many_fits a test e = omega (arith, e, many_most test done)

  sheets_fit : m.sheets + 1 < 2 ^ 64
  sheets_fit = omega (arith, t.sheets)

  reads_fit : m.reads + o.reads < 2 ^ 64
  reads_fit = omega (arith, t.reads, all_most (λ r. r.reads) 1024 done (every_map (λ x s. s.reads) done smalls), small.reads)

  sum_fits : m.sum + o.sum < 2 ^ 64
  sum_fits = omega (arith, t.sum, all_most (λ r. r.sum) 4503599627370496 done (every_map (λ x s. below x.sum s.sum) done smalls), small.sum)
    where
      below : (a : ℕ) → a < 2 ^ 52 → a ≤ 4503599627370496
      below a l = omega arith

  saved_fits : m.saved + o.saved < 2 ^ 64
  saved_fits = omega (arith, t.saved, all_most (λ r. r.saved) 4503599627370496 done (every_map (λ x s. below x.saved s.saved) done smalls), small.saved)
    where
      below : (a : ℕ) → a < 2 ^ 52 → a ≤ 4503599627370496
      below a l = omega arith

  module _ (e : is_refusal o.refusal ≡ true) where
    k : ℕ
    k = number_of o.refusal

    kind_more : (n : ℕ) → get_or (set m.refused k (grown (refused_with m k) 1)) n 0 ≡ how_many_runs (is_refused_by n) (done ++ (o ∷ []))
    unfolding k
    kind_more n = many_more_by (eqb k n) refl
      where
        many_more_by : (b : Bool) → eqb (number_of o.refusal) n ≡ b → get_or (set m.refused k (grown (refused_with m k) 1)) n 0 ≡ how_many_runs (is_refused_by n) (done ++ (o ∷ []))
        many_more_by true q =
            let same : k ≡ n = eqb-true k n q in
            let here : get_or (set m.refused k (grown (refused_with m k) 1)) k 0 ≡ grown (refused_with m k) 1 = get_or-set_same m.refused k (grown (refused_with m k) 1) 0 (omega (arith, t.long, number_small o.refusal)) in
            let more : how_many_runs (is_refused_by n) (done ++ (o ∷ [])) ≡ how_many_runs (is_refused_by n) done + 1 = many_more done o (is_refused_by n) ∙ rw (e, q) refl in
            let size = t.refused k in
            subst (λ x. get_or (set m.refused k (grown (refused_with m k) 1)) x 0 ≡ how_many_runs (is_refused_by n) (done ++ (o ∷ []))) same
            (here ∙ grown_fits (refused_with m k) 1 (many_fits (refused_with m k) (is_refused_by k) size) ∙ ap (λ x. x + 1) (size ∙ ap (λ x. how_many_runs (is_refused_by x) done) same) ∙ sym more)
        many_more_by false q =
            let other : n ≡ k → ⊥ = λ z. eqb-false k n q (sym z) in
            let more : how_many_runs (is_refused_by n) (done ++ (o ∷ [])) ≡ how_many_runs (is_refused_by n) done + 0 = many_more done o (is_refused_by n) ∙ rw (e, q) refl in
            get_or-set_other m.refused k n (grown (refused_with m k) 1) 0 other ∙ t.refused n ∙ omega (arith, more)

    refused_totals : Totals (done ++ (o ∷ [])) (with_refused m (number_of o.refusal))
    unfolding with_refused k
    refused_totals =
        record {
          sheets = grown_fits m.sheets 1 sheets_fit ∙ omega (arith, t.sheets, length_more done o);
          accepted = t.accepted ∙ sym (many_more done o is_accepted_run ∙ rw e (omega arith));
          refused = kind_more;
          reads = t.reads ∙ sym (all_more done o (λ r. r.reads) ∙ rw e (omega arith));
          sum = t.sum ∙ sym (all_more done o (λ r. r.sum) ∙ rw e (omega arith));
          saved = t.saved ∙ sym (all_more done o (λ r. r.saved) ∙ rw e (omega arith));
          exact = rw (t.exact, lt-leb (2 ^ 64) (m.sheets + 1) sheets_fit, lt-leb (2 ^ 64) (refused_with m k + 1) (many_fits (refused_with m k) (is_refused_by k) (t.refused k))) refl;
          long = length-set m.refused k (grown (refused_with m k) 1) ∙ t.long;
        }

  module _ (e : is_refusal o.refusal ≡ false) where
    accepted_fits : m.accepted + 1 < 2 ^ 64
    accepted_fits = many_fits m.accepted is_accepted_run t.accepted

    accepted_totals : Totals (done ++ (o ∷ [])) (with_totals m o)
    unfolding with_totals
    accepted_totals =
        record {
          sheets = grown_fits m.sheets 1 sheets_fit ∙ omega (arith, t.sheets, length_more done o);
          accepted = grown_fits m.accepted 1 accepted_fits ∙ ap (λ x. x + 1) t.accepted ∙ sym (many_more done o is_accepted_run ∙ rw e refl);
          refused = λ n. t.refused n ∙ sym (many_more done o (is_refused_by n) ∙ rw e (omega arith));
          reads = grown_fits m.reads o.reads reads_fit ∙ ap (λ x. x + o.reads) t.reads ∙ sym (all_more done o (λ r. r.reads) ∙ rw e refl);
          sum = grown_fits m.sum o.sum sum_fits ∙ ap (λ x. x + o.sum) t.sum ∙ sym (all_more done o (λ r. r.sum) ∙ rw e refl);
          saved = grown_fits m.saved o.saved saved_fits ∙ ap (λ x. x + o.saved) t.saved ∙ sym (all_more done o (λ r. r.saved) ∙ rw e refl);
          exact =
              rw (
                t.exact,
                lt-leb (2 ^ 64) (m.sheets + 1) sheets_fit,
                lt-leb (2 ^ 64) (m.accepted + 1) accepted_fits,
                lt-leb (2 ^ 64) (m.reads + o.reads) reads_fit,
                lt-leb (2 ^ 64) (m.sum + o.sum) sum_fits,
                lt-leb (2 ^ 64) (m.saved + o.saved) saved_fits,
              )
              refl;
          long = t.long;
        }

-- The longest time so far is no run's that has been added passed.
abbrev Longest : List Outcome → Month → Type 0
Longest runs m = NoneRead runs m ⊎ FirstLongest runs m

pub none_longer : (runs : List Outcome) (m : Month) → Longest runs m → Every (λ r. longest_time r ≤ m.time) runs
none_longer runs m (inl n) = every_map (λ x z. omega (arith, z)) runs n.none
none_longer runs m (inr f) =
    subst (Every (λ r. longest_time r ≤ m.time)) (sym f.stands)
    (every_append (λ r. longest_time r ≤ m.time) f.earlier (f.run ∷ f.later)
    (every_map (λ x s. omega (arith, s, f.time)) f.earlier f.shorter)
    (omega (arith, f.time), every_map (λ x s. omega (arith, s, f.time)) f.later f.longest))

record NamesKept (m m' : Month) : Type 0 where
  time : m'.time ≡ m.time
  file : m'.file ≡ m.file
  letters : m'.letters ≡ m.letters
  tape : m'.tape ≡ m.tape

longest_stays : (done : List Outcome) (o : Outcome) (m m' : Month) → NamesKept m m' → longest_time o ≤ m.time → Longest done m → Longest (done ++ (o ∷ [])) m'
longest_stays done o m m' k le (inl n) =
    inl
    (record {
      none = every_append (λ r. longest_time r ≡ 0) done (o ∷ []) n.none (omega (arith, le, n.time), tt);
      time = k.time ∙ n.time;
      file = k.file ∙ n.file;
      letters = k.letters ∙ n.letters;
    })
longest_stays done o m m' k le (inr f) =
    inr
    (record {
      earlier = f.earlier;
      run = f.run;
      later = f.later ++ (o ∷ []);
      stands = ap (λ l. l ++ (o ∷ [])) f.stands ∙ mathlib.Core.List.append_assoc f.earlier (f.run ∷ f.later) (o ∷ []);
      read = f.read;
      shorter = f.shorter;
      longest = every_append (λ r. longest_time r ≤ longest_time f.run) f.later (o ∷ []) f.longest (omega (arith, le, f.time), tt);
      time = k.time ∙ f.time;
      file = k.file ∙ f.file;
      letters = k.letters ∙ f.letters;
      tape = k.tape ∙ f.tape;
    })

longest_new : (done : List Outcome) (o : Outcome) (m m' : Month) → m.time < longest_time o → m'.time ≡ longest_time o → m'.file ≡ o.file → m'.letters ≡ o.letters → m'.tape ≡ o.tape
    → Longest done m → Longest (done ++ (o ∷ [])) m'
longest_new done o m m' lt time file letters tape l =
    inr
    (record {
      earlier = done;
      run = o;
      later = [];
      stands = refl;
      read = omega arith;
      shorter = every_map (λ x s. omega (arith, s, lt)) done (none_longer done m l);
      longest = tt;
      time = time;
      file = file;
      letters = letters;
      tape = tape;
    })

-- One outcome more.
record Held (runs : List Outcome) (m : Month) : Type 0 where
  totals : Totals runs m
  longest : Longest runs m

module _ (done : List Outcome) (m : Month) (h : Held done m) (few : length done < 1000) (smalls : Every Small done) (o : Outcome) (small : Small o) where
  held_refused : is_refusal o.refusal ≡ true → Held (done ++ (o ∷ [])) (added m o)
  unfolding added with_refused
  held_refused e =
      let none : longest_time o ≡ 0 = rw e refl in
      rw e
      (record {
        totals = refused_totals done m h.totals few smalls o small e;
        longest = longest_stays done o m (with_refused m (number_of o.refusal)) (record { time = refl; file = refl; letters = refl; tape = refl }) (omega (arith, none)) h.longest;
      })

  held_accepted : is_refusal o.refusal ≡ false → Held (done ++ (o ∷ [])) (added m o)
  unfolding added with_longest with_totals
  held_accepted e = rw e (go (ltb m.time o.time) refl)
    where
      t : Totals (done ++ (o ∷ [])) (with_totals m o)
      t = accepted_totals done m h.totals few smalls o small e

      here : longest_time o ≡ o.time
      here = rw e refl

      go : (b : Bool) → ltb m.time o.time ≡ b → Held (done ++ (o ∷ [])) (with_longest (with_totals m o) o)
      go true q =
          let l = ltb-true m.time o.time q in
          rw q
          (record {
            totals = record { sheets = t.sheets; accepted = t.accepted; refused = t.refused; reads = t.reads; sum = t.sum; saved = t.saved; exact = t.exact; long = t.long };
            longest = longest_new done o m (named_by (with_totals m o) o) (omega (arith, here)) (sym here) refl refl refl h.longest;
          })
      go false q =
          let l = ltb-false m.time o.time q in
          rw q
          (record {
            totals = t;
            longest = longest_stays done o m (with_totals m o) (record { time = refl; file = refl; letters = refl; tape = refl }) (omega (arith, here)) h.longest;
          })

  held_more : Held (done ++ (o ∷ [])) (added m o)
  held_more = go (is_refusal o.refusal) refl
    where
      go : (b : Bool) → is_refusal o.refusal ≡ b → Held (done ++ (o ∷ [])) (added m o)
      go true e = held_refused e
      go false e = held_accepted e

held_all : (runs done : List Outcome) (m : Month) → Held done m → Every Small done → Every Small runs → length done + length runs ≤ 1000 → Held (done ++ runs) (added_all m runs)
unfolding added_all
held_all [] done m h smalls s few = subst (λ l. Held l m) (sym (append-nil done)) h
held_all (o ∷ os) done m h smalls s few =
    let next = held_more done m h (omega arith) smalls o s.0 in
    subst (λ l. Held l (added_all (added m o) os)) (append_snoc done o os)
    (held_all os (done ++ (o ∷ [])) (added m o) next (every_append Small done (o ∷ []) smalls (s.0, tt)) s.1 (omega (arith, length_more done o)))

zeros_at : (k n : ℕ) → get_or {A = ℕ} (replicate k 0) n 0 ≡ 0
zeros_at zero n = refl
zeros_at (suc k) zero = refl
zeros_at (suc k) (suc n) = zeros_at k n

held_none : Held [] empty_month
unfolding how_many_runs in_all
held_none =
    record {
      totals = record { sheets = refl; accepted = refl; refused = zeros_at 32; reads = refl; sum = refl; saved = refl; exact = refl; long = refl };
      longest = inl (record { none = tt; time = refl; file = refl; letters = refl });
    }

figures_of_lem : (runs : List Outcome) → Every Small runs → length runs ≤ 1000 → MonthFigures runs (added_all empty_month runs)
figures_of_lem runs smalls few =
    let h = held_all runs [] empty_month held_none tt smalls (omega arith) in
    let t = h.totals in
    record { sheets = t.sheets; accepted = t.accepted; refused = t.refused; reads = t.reads; sum = t.sum; saved = t.saved; longest = h.longest; exact = t.exact }

pub outcomes_small : (sheets : List (List ℕ)) (runs : List Outcome) → Outcomes sheets runs → Every Small runs × (length runs ≡ length sheets)
outcomes_small [] [] o = (tt, refl)
outcomes_small [] (r ∷ runs) o = absurd o
outcomes_small (s ∷ sheets) [] o = absurd o
outcomes_small (s ∷ sheets) (r ∷ runs) o =
    let rest = outcomes_small sheets runs o.1 in
    ((outcome_small s r o.0, rest.0), ap suc rest.1)

pub month_counts : MonthCounts
month_counts sheets runs few o =
    let s = outcomes_small sheets runs o in
    figures_of_lem runs s.0 (omega (arith, s.1))

-- The mean.
pub mean_exact : MeanExact
unfolding mean_of
mean_exact sum reads =
    record {
      none = λ e. rw (eq-eqb reads 0 e) (refl, refl);
      some = λ l. rw (ne_eqb reads 0 (λ z. omega arith)) (omega (arith, div-add-mod' sum reads), mod-lt sum l);
    }
