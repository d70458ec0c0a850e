-- A refusal's place is small, so that a number and a place fit one word together: a file, a want, or an entry at most one behind the wants.
use Prim.Native.Nat.{ℕ, zero, suc, ◌≤◌, ◌<◌}
use mathlib.Core.Path.{◌≡◌, refl}
use mathlib.Core.Bool.{Bool, true, false, not, ◌||◌}
use mathlib.Core.Logic.{by_cases, ⊎_elim}
use mathlib.Core.List.{List, [], ◌∷◌}
use native.Mathlib.Omega.{arith}
use native.Mathlib.Decide.{dec_lt}
use lib.ListN.{length}
use lib.Dec.{ltb, eqb}
use borrow.Author.Tests.{ltb-false}
use Rattle.refusals.specs.declared.Refusal.{Refusal}
use Rattle.refusals.specs.declared.Refusal.TheVariants.{FileRows, BadFile, WantRows, BadWant, TooManyReads, TurnPrice, HeadPlace, ShortRow, BadEntry}
use Rattle.refusals.specs.declared.Verdict.{Verdict}
use Rattle.refusals.specs.Refusals.{refuse_if, refuse_at, first_of, first_where}
use Rattle.runs.specs.Run.{Run, stops_of, total, most_files, most_wants, most_reads, last_place, highest_turn}
use Rattle.runs.specs.Judging.{right_end}
use Rattle.runs.specs.Judging.{bad_file, bad_want, table_checks, wants_checks, head_checks, judge_of}
use Rattle.runs.specs.Lists.{list_of, bad_entry, first_bad_entry, list_verdict}
use Rattle.walk.specs.Price.{short_read_rows, price_verdict}
use Rattle.walk.specs.Rows.{ReadRows}
use Rattle.runs.proofs.Search.{true_or_false, or_false_both, first_within, first_before}
use Rattle.refusals.proofs.Verdicts.{refuses, accepts_if}
use Rattle.runs.proofs.Judged.{GoodRun, accepted_run, table_rows_fit}
use Rattle.runs.proofs.Stops.{run_sound, stops_few}
use Rattle.walk.proofs.Walks.{GoodEntry, good_entry, entries_few, entries_none}

abbrev pub place_most : ℕ
place_most = 4096

-- In a row of checks each place is near, given that the checks before it passed.
abbrev pub AllNear : List Verdict → Type 0
AllNear [] = Unit {0}
AllNear (v ∷ vs) = (v.place ≤ place_most) × (refuses v ≡ false → AllNear vs)

pub first_near : (vs : List Verdict) → AllNear vs → (first_of vs).place ≤ place_most
first_near [] h = omega arith
first_near (v ∷ vs) h = ⊎_elim (λ e. rw e h.0) (λ e. rw e (first_near vs (h.1 e))) (true_or_false (refuses v))

pub if_near : (b : Bool) (kind : Refusal) → (refuse_if b kind).place ≤ place_most
if_near true kind = omega arith
if_near false kind = omega arith

pub at_near : (p : ℕ) (kind : Refusal) → p ≤ place_most → (refuse_at p kind).place ≤ place_most
at_near zero kind l = omega arith
at_near (suc p) kind l = l

-- Rows that passed their check have at most so many entries.
rows_few : (most n m : ℕ) (kind : Refusal) → refuses (refuse_if true kind) ≡ true → refuses (refuse_if (ltb most n || not (eqb n m)) kind) ≡ false → n ≤ most
rows_few most n m kind r e = ltb-false most n (or_false_both _ _ (accepts_if (ltb most n || not (eqb n m)) kind r e)).0

table_near : (starts lengths aggregates : List ℕ) → (first_of (table_checks starts lengths aggregates)).place ≤ place_most
table_near starts lengths aggregates =
    first_near (table_checks starts lengths aggregates) (
      if_near (ltb most_files (length starts) || not (eqb (length starts) (length lengths)) || not (eqb (length starts) (length aggregates))) FileRows,
      λ e. (
        at_near (first_where (bad_file starts lengths aggregates) (length starts)) BadFile
            (omega (arith, (table_rows_fit (length starts) (length lengths) (length aggregates) e).few, first_within (bad_file starts lengths aggregates) (length starts))),
        λ d. tt,
      ),
    )

wants_near : (files : ℕ) (numbers counts : List ℕ) → (first_of (wants_checks files numbers counts)).place ≤ place_most
wants_near files numbers counts =
    first_near (wants_checks files numbers counts) (
      if_near (ltb most_wants (length numbers) || not (eqb (length numbers) (length counts))) WantRows,
      λ e. (
        at_near (first_where (bad_want files numbers counts) (length numbers)) BadWant
            (omega (arith, rows_few most_wants (length numbers) (length counts) WantRows refl e, first_within (bad_want files numbers counts) (length numbers))),
        λ d. (if_near (ltb most_reads (total counts)) TooManyReads, λ c. tt),
      ),
    )

head_near : (turn head rightmost : ℕ) → (first_of (head_checks turn head rightmost)).place ≤ place_most
head_near turn head rightmost =
    first_near (head_checks turn head rightmost)
    (if_near (ltb highest_turn turn) TurnPrice, λ e. (if_near (ltb last_place head || ltb head rightmost) HeadPlace, λ d. tt))

pub judge_near : (r : Run) → (judge_of r).place ≤ place_most
unfolding judge_of
judge_near r =
    first_near
    (first_of (table_checks r.starts r.lengths r.aggregates)
    ∷ first_of (wants_checks (length r.starts) r.numbers r.counts)
    ∷ first_of (head_checks r.turn r.head (right_end (stops_of r)))
    ∷ []) (
      table_near r.starts r.lengths r.aggregates,
      λ e. (wants_near (length r.starts) r.numbers r.counts, λ d. (head_near r.turn r.head (right_end (stops_of r)), λ c. tt)),
    )

module _ (r : Run) (good : GoodRun r) (froms tos : List ℕ) where
  entry_near_here : (p : ℕ) → first_bad_entry (stops_of r) (list_of froms tos) ≡ p → p ≤ place_most
  unfolding first_bad_entry
  entry_near_here zero e = omega arith
  entry_near_here (suc i) e =
      let each : (j : ℕ) → j < i → GoodEntry (stops_of r) (list_of froms tos) j
      = λ j l. good_entry (stops_of r) (list_of froms tos) j (first_before (bad_entry (stops_of r) (list_of froms tos)) (length (list_of froms tos)) i e j l)
      in
      by_cases
      (dec_lt 0 (length (stops_of r)))
      (λ some. omega (arith, entries_few (stops_of r) r.head (run_sound r good) (list_of froms tos) i each some, stops_few r good, good.wants.few))
      (λ none. omega (arith, entries_none (stops_of r) r.head (run_sound r good) (list_of froms tos) i each (omega arith)))

  list_near : (list_verdict (stops_of r) froms tos).place ≤ place_most
  unfolding list_verdict
  list_near =
      first_near
      (refuse_if (not (eqb (length froms) (length tos))) BadEntry ∷ refuse_at (first_bad_entry (stops_of r) (list_of froms tos)) BadEntry ∷ []) (
        if_near (not (eqb (length froms) (length tos))) BadEntry,
        λ e. (
          at_near (first_bad_entry (stops_of r) (list_of froms tos)) BadEntry (entry_near_here _ refl),
          λ d. tt,
        ),
      )

pub price_near : (r : Run) (froms tos : List ℕ) (rows : ReadRows) → (price_verdict r froms tos rows).place ≤ place_most
unfolding price_verdict
price_near r froms tos rows =
    first_near
    (judge_of r ∷ list_verdict (stops_of r) froms tos ∷ refuse_if (short_read_rows (length r.numbers) rows) ShortRow ∷ []) (
      judge_near r,
      λ e. (list_near r (accepted_run r e) froms tos, λ d. (if_near (short_read_rows (length r.numbers) rows) ShortRow, λ c. tt)),
    )
