-- From the list that the engine wrote to the planner's answer: its price is accepted, and each row is what it should be.
use Prim.Native.Nat.{ℕ, ◌≤◌}
use mathlib.Core.Path.{◌≡◌, ap}
use mathlib.Core.Bool.{false}
use mathlib.Core.List.{List, ◌++◌, map}
use lib.ListN.{length, take, drop}
use Rattle.std.specs.Prelude.{Ok}
use Rattle.refusals.specs.Refusals.{is_refusal}
use Rattle.refusals.proofs.Verdicts.{refuses}
use Rattle.runs.specs.Run.{Run}
use Rattle.runs.specs.AnyHead.{judge_any_of}
use Rattle.runs.specs.Lists.{list_of}
use Rattle.walk.specs.declared.Answer.{Answer}
use Rattle.walk.specs.AnyHead.{price_any_verdict, price_any_answer, price_any_rows}
use Rattle.walk.specs.Rows.{read_rows}
use Rattle.engine_table.specs.Listing.{list_rows}
use Rattle.planner.specs.AnyHead.{PlannedAny}
use Rattle.planner.specs.Rows.{Rows, rows_of, reads_in}
use Rattle.planner.specs.Private.{IsNamed, engine_rows}
use Rattle.engine_stops.proofs.Halves.{list_of_halves, halves_even, front}
use Rattle.walk.proofs.AnyHead.{any_priced}
use Rattle.engine_stops.proofs.Said.{same_number}

module _ (r : Run) (rows : Rows) (accepts : is_refusal (judge_any_of r).refusal ≡ false) (long : length r.numbers ≤ length rows.times)
    (long-legs : length r.numbers ≤ length rows.legs) (n : ℕ) (froms' tos' room' : List ℕ) (listed : IsNamed r (engine_rows rows) (Ok n) (list_rows froms' tos' room')) where
  n_is : n ≡ length listed.list
  n_is = same_number listed.says

  froms_are : froms' ≡ map (λ d. d.from) listed.list ++ drop (length listed.list) rows.froms
  froms_are = ap (λ x. x.froms) listed.rows

  tos_are : tos' ≡ map (λ d. d.to) listed.list ++ drop (length listed.list) rows.tos
  tos_are = ap (λ x. x.tos) listed.rows

  froms_front : take n froms' ≡ map (λ d. d.from) listed.list
  froms_front = front (λ d. d.from) listed.list n rows.froms froms' n_is froms_are

  tos_front : take n tos' ≡ map (λ d. d.to) listed.list
  tos_front = front (λ d. d.to) listed.list n rows.tos tos' n_is tos_are

  priced_list : list_of (take n froms') (take n tos') ≡ listed.list
  priced_list =
      rw (froms_front, tos_front)
      (list_of_halves listed.list)

  priced : refuses (price_any_verdict r (take n froms') (take n tos') (reads_in rows)) ≡ false
  priced =
      any_priced r (take n froms') (take n tos') (reads_in rows) accepts
      (rw (froms_front, tos_front) (halves_even (λ d. d.from) (λ d. d.to) listed.list))
      (rw priced_list listed.least.formed) long long-legs

  -- The pricer's answer for the list is the planner's.
  pub planned_so : (answer : Answer) (times' legs' : List ℕ) → answer ≡ price_any_answer r (take n froms') (take n tos') (reads_in rows)
      → read_rows times' legs' ≡ price_any_rows r (take n froms') (take n tos') (reads_in rows)
      → PlannedAny r rows answer (rows_of froms' tos' times' legs' room')
  unfolding price_any_answer price_any_rows
  planned_so answer times' legs' a t =
      let reads = rw (priced, priced_list) at t in
      record {
        list = listed.list;
        least = listed.least;
        says = rw (priced, priced_list) at a;
        rows = rows_are froms_are tos_are (ap (λ x. x.times) reads) (ap (λ x. x.legs) reads) (ap (λ x. x.room) listed.rows);
      }
    where
      rows_are : {a a' b b' c c' d d' e e' : List ℕ} → a ≡ a' → b ≡ b' → c ≡ c' → d ≡ d' → e ≡ e' → rows_of a b c d e ≡ rows_of a' b' c' d' e'
      rows_are p q s t u = rw (p, q, s, t, u)
