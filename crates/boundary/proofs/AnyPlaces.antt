-- A refusal's place is small for a head anywhere too.
use Prim.Native.Nat.{ℕ, zero, suc, ◌≤◌, ◌<◌}
use mathlib.Core.Path.{◌≡◌, refl}
use mathlib.Core.Logic.{by_cases}
use mathlib.Core.Bool.{not}
use mathlib.Core.List.{List, [], ◌∷◌}
use native.Mathlib.Omega.{arith}
use native.Mathlib.Decide.{dec_lt}
use lib.ListN.{length}
use lib.Dec.{eqb}
use Rattle.refusals.specs.declared.Refusal.TheVariants.{ShortRow, BadEntry}
use Rattle.refusals.specs.Refusals.{refuse_if, refuse_at}
use Rattle.runs.specs.Run.{Run, stops_of}
use Rattle.runs.specs.Lists.{list_of, bad_entry}
use Rattle.runs.specs.AnyHead.{judge_any_of, bad_entry_any, first_bad_entry_any, list_verdict_any, lifted}
use Rattle.runs.proofs.Search.{or_false_both, first_before}
use Rattle.runs.proofs.Stops.{run_sound, stops_few}
use Rattle.runs.proofs.AnyHead.{GoodAnyRun, judge_any_lem, accepted_any}
use Rattle.walk.specs.Price.{short_read_rows}
use Rattle.walk.specs.AnyHead.{price_any_verdict}
use Rattle.walk.specs.Rows.{ReadRows}
use Rattle.walk.proofs.Walks.{GoodEntry, good_entry, entries_few, entries_none}
use Rattle.walk.proofs.Places.{place_most, first_near, if_near, at_near, judge_near}

pub judge_any_near : (r : Run) → (judge_any_of r).place ≤ place_most
judge_any_near r = rw (judge_any_lem r) (judge_near (lifted r))

module _ (r : Run) (good : GoodAnyRun r) (froms tos : List ℕ) where
  entry_near_here : (p : ℕ) → first_bad_entry_any r.head (stops_of r) (list_of froms tos) ≡ p → p ≤ place_most
  unfolding first_bad_entry_any
  entry_near_here zero e = omega arith
  entry_near_here (suc i) e =
      let sound = run_sound (lifted r) good.run in
      let each : (j : ℕ) → j < i → GoodEntry (stops_of r) (list_of froms tos) j
      = λ j l.
      good_entry (stops_of r) (list_of froms tos) j
      (or_false_both (bad_entry (stops_of r) (list_of froms tos) j) _ (first_before (bad_entry_any r.head (stops_of r) (list_of froms tos)) (length (list_of froms tos)) i e j l)).0
      in
      by_cases
      (dec_lt 0 (length (stops_of r)))
      (λ some. omega (arith, entries_few (stops_of r) _ sound (list_of froms tos) i each some, stops_few (lifted r) good.run, good.run.wants.few))
      (λ none. omega (arith, entries_none (stops_of r) _ sound (list_of froms tos) i each (omega arith)))

  list_near : (list_verdict_any r.head (stops_of r) froms tos).place ≤ place_most
  unfolding list_verdict_any
  list_near =
      first_near
      (refuse_if (not (eqb (length froms) (length tos))) BadEntry ∷ refuse_at (first_bad_entry_any r.head (stops_of r) (list_of froms tos)) BadEntry ∷ []) (
        if_near (not (eqb (length froms) (length tos))) BadEntry,
        λ e. (
          at_near (first_bad_entry_any r.head (stops_of r) (list_of froms tos)) BadEntry (entry_near_here _ refl),
          λ d. tt,
        ),
      )

pub price_any_near : (r : Run) (froms tos : List ℕ) (rows : ReadRows) → (price_any_verdict r froms tos rows).place ≤ place_most
unfolding price_any_verdict
price_any_near r froms tos rows =
    first_near
    (judge_any_of r ∷ list_verdict_any r.head (stops_of r) froms tos ∷ refuse_if (short_read_rows (length r.numbers) rows) ShortRow ∷ []) (
      judge_any_near r,
      λ e. (list_near r (accepted_any r e) froms tos, λ d. (if_near (short_read_rows (length r.numbers) rows) ShortRow, λ c. tt)),
    )
