-- The pricers' answers, as the code comes to them: the first refusal, or the walk's numbers. 01's pricer and that for a head anywhere go the same way.
use Prim.Native.Nat.{ℕ, ◌≤◌}
use mathlib.Core.Path.{◌≡◌, refl, sym, ap, ◌∙◌}
use mathlib.Core.Bool.{Bool, false, cond}
use mathlib.Core.List.{List, [], ◌∷◌, ◌++◌}
use lib.ListN.{length, drop}
use borrow.Author.Tests.{ltb-false}
use Rattle.refusals.specs.declared.Refusal.TheVariants.{Accepted, ShortRow}
use Rattle.refusals.specs.declared.Verdict.{Verdict}
use Rattle.walk.specs.declared.Answer.{Answer}
use Rattle.walk.specs.declared.Head.{Head}
use Rattle.std.specs.Prelude.{Result, Ok, Err}
use Rattle.refusals.specs.Refusals.{is_refusal, accepted, checked, refuse_if, first_of}
use Rattle.runs.specs.Run.{Run, want_stops_of, stops_of}
use Rattle.runs.specs.Judging.{judge_of}
use Rattle.runs.specs.Lists.{list_of, list_verdict}
use Rattle.runs.specs.AnyHead.{judge_any_of, list_verdict_any}
use Rattle.walk.specs.Walk.{head_at, walked, times_of, legs_for, sum_of}
use Rattle.walk.specs.Price.{refusal_answer, priced_answer, read_rows_with, short_read_rows, price_verdict, price_answer, price_rows}
use Rattle.walk.specs.AnyHead.{priced_any_answer, read_any_rows_with, price_any_verdict, price_any_answer, price_any_rows}
use Rattle.walk.specs.Rows.{ReadRows, read_rows}
use Rattle.walk.specs.Detours.{sweep_end}
use Rattle.walk.specs.Private.{detour_legs, row_legs, Priceable}
use Rattle.refusals.proofs.Verdicts.{refuses, none_refuses, all_accept, accepts_if}
use Rattle.refusals.proofs.Checked.{passed, stopped}
use Rattle.runs.proofs.Judged.{by_table, by_wants, by_head}
use Rattle.runs.proofs.Entries.{length_list}
use Rattle.runs.proofs.Search.{or_false_both}
use Rattle.walk.proofs.Joins.{run_sum_joined}

-- What a pricer answers of: the verdicts of the run and of the list, k wants and the rows lent; and the answer and the rows where none refuses.
pub record Parts : Type 0 where
  pub run : Verdict
  pub list : Verdict
  pub wants : ℕ
  pub rows : ReadRows
  pub answer : Answer
  pub out : ReadRows

abbrev rows_verdict : Parts → Verdict
rows_verdict p = refuse_if (short_read_rows p.wants p.rows) ShortRow

abbrev pub verdict_of : Parts → Verdict
verdict_of p = first_of (p.run ∷ p.list ∷ rows_verdict p ∷ [])

abbrev pub Answers : Parts → Answer → ReadRows → Type 0
Answers p a out =
    (a ≡ cond (is_refusal (verdict_of p).refusal) (refusal_answer (verdict_of p)) p.answer) × (out ≡ cond (is_refusal (verdict_of p).refusal) p.rows p.out)

module _ (p : Parts) where
  -- The three checks, each handed on by `?`.
  pub run_stops : (e : Verdict) → Err e ≡ checked p.run → Err e ≡ checked (verdict_of p)
  run_stops = by_table p.run p.list (rows_verdict p)

  pub list_stops : (u : Unit) → Ok u ≡ checked p.run → (e : Verdict) → Err e ≡ checked p.list → Err e ≡ checked (verdict_of p)
  list_stops u run = by_wants p.run p.list (rows_verdict p) u run

  pub rows_decide : (u : Unit) → Ok u ≡ checked p.run → (v : Unit) → Ok v ≡ checked p.list
      → (x : Result Unit Verdict) (b : Bool) → x ≡ checked (refuse_if b ShortRow) → b ≡ short_read_rows p.wants p.rows → x ≡ checked (verdict_of p)
  rows_decide u run v list x b said short = by_head p.run p.list (rows_verdict p) u run v list x (said ∙ ap (λ b. checked (refuse_if b ShortRow)) short)

  -- What is known of each where none refuses; and the answer and the rows then, and where one does.
  pub record Passed : Type 0 where
    pub run : refuses p.run ≡ false
    pub list : refuses p.list ≡ false
    pub rows : (p.wants ≤ length p.rows.times) × (p.wants ≤ length p.rows.legs)

  pub all_passed : (u : Unit) → Ok u ≡ checked (verdict_of p) → Passed
  all_passed u said =
      let all = all_accept (p.run ∷ p.list ∷ rows_verdict p ∷ []) (passed (verdict_of p) u said) in
      let long = or_false_both _ _ (accepts_if (short_read_rows p.wants p.rows) ShortRow refl all.1.1.0) in
      record { run = all.0; list = all.1.0; rows = (ltb-false _ _ long.0, ltb-false _ _ long.1) }

  pub answers_refusal : (e : Verdict) → Err e ≡ checked (verdict_of p) → (a : Answer) → a ≡ refusal_answer e → Answers p a p.rows
  answers_refusal e said a is =
      let s = stopped (verdict_of p) e said in
      (rw (s.so, is) (ap refusal_answer (sym s.is)), rw s.so)

  pub answers_price : (u : Unit) → Ok u ≡ checked (verdict_of p) → (a : Answer) (out : ReadRows) → a ≡ p.answer → out ≡ p.out → Answers p a out
  answers_price u said a out a-is out-is = let h = passed (verdict_of p) u said in (rw h a-is, rw h out-is)

-- 01's pricer.
module _ (r : Run) (froms tos : List ℕ) (rows : ReadRows) where
  abbrev pub priceParts : Parts
  priceParts =
      record {
        run = judge_of r;
        list = list_verdict (stops_of r) froms tos;
        wants = length r.numbers;
        rows = rows;
        answer = priced_answer r (list_of froms tos);
        out = read_rows_with r (list_of froms tos) rows;
      }

  -- Its checks, each handed on by `?`; what is known where none refuses; and what is answered then, and where one does.
  pub price_run_stops : (e : Verdict) → Err e ≡ checked (judge_of r) → Err e ≡ checked (price_verdict r froms tos rows)
  unfolding price_verdict
  price_run_stops = run_stops priceParts

  pub price_list_stops : (u : Unit) → Ok u ≡ checked (judge_of r) → (e : Verdict) → Err e ≡ checked (list_verdict (stops_of r) froms tos) → Err e ≡ checked (price_verdict r froms tos rows)
  unfolding price_verdict
  price_list_stops = list_stops priceParts

  pub price_rows_decide : (u : Unit) → Ok u ≡ checked (judge_of r) → (v : Unit) → Ok v ≡ checked (list_verdict (stops_of r) froms tos)
      → (x : Result Unit Verdict) (b : Bool) → x ≡ checked (refuse_if b ShortRow) → b ≡ short_read_rows (length r.numbers) rows → x ≡ checked (price_verdict r froms tos rows)
  unfolding price_verdict
  price_rows_decide = rows_decide priceParts

  pub price_passed : (u : Unit) → Ok u ≡ checked (price_verdict r froms tos rows) → Passed priceParts
  unfolding price_verdict
  price_passed = all_passed priceParts

  pub price_refusal : (e : Verdict) → Err e ≡ checked (price_verdict r froms tos rows) → (a : Answer) → a ≡ refusal_answer e → (a ≡ price_answer r froms tos rows) × (rows ≡ price_rows r froms tos rows)
  unfolding price_answer price_rows price_verdict
  price_refusal = answers_refusal priceParts

  pub price_numbers : (u : Unit) → Ok u ≡ checked (price_verdict r froms tos rows) → (a : Answer) (out : ReadRows) → a ≡ priceParts.answer → out ≡ priceParts.out
      → (a ≡ price_answer r froms tos rows) × (out ≡ price_rows r froms tos rows)
  unfolding price_answer price_rows price_verdict
  price_numbers = answers_price priceParts

  pub price_accepted : refuses (price_verdict r froms tos rows) ≡ false → price_verdict r froms tos rows ≡ accepted
  unfolding price_verdict
  price_accepted e = none_refuses (judge_of r ∷ list_verdict (stops_of r) froms tos ∷ refuse_if (short_read_rows (length r.numbers) rows) ShortRow ∷ []) e

  -- The pricer for a head anywhere.
  abbrev pub anyParts : Parts
  anyParts =
      record {
        run = judge_any_of r;
        list = list_verdict_any r.head (stops_of r) froms tos;
        wants = length r.numbers;
        rows = rows;
        answer = priced_any_answer r (list_of froms tos);
        out = read_any_rows_with r (list_of froms tos) rows;
      }

  -- Its checks, each handed on by `?`; what is known where none refuses; and what is answered then, and where one does.
  pub price_any_run_stops : (e : Verdict) → Err e ≡ checked (judge_any_of r) → Err e ≡ checked (price_any_verdict r froms tos rows)
  unfolding price_any_verdict
  price_any_run_stops = run_stops anyParts

  pub price_any_list_stops : (u : Unit) → Ok u ≡ checked (judge_any_of r) → (e : Verdict) → Err e ≡ checked (list_verdict_any r.head (stops_of r) froms tos) → Err e ≡ checked (price_any_verdict r froms tos rows)
  unfolding price_any_verdict
  price_any_list_stops = list_stops anyParts

  pub price_any_rows_decide : (u : Unit) → Ok u ≡ checked (judge_any_of r) → (v : Unit) → Ok v ≡ checked (list_verdict_any r.head (stops_of r) froms tos)
      → (x : Result Unit Verdict) (b : Bool) → x ≡ checked (refuse_if b ShortRow) → b ≡ short_read_rows (length r.numbers) rows → x ≡ checked (price_any_verdict r froms tos rows)
  unfolding price_any_verdict
  price_any_rows_decide = rows_decide anyParts

  pub price_any_passed : (u : Unit) → Ok u ≡ checked (price_any_verdict r froms tos rows) → Passed anyParts
  unfolding price_any_verdict
  price_any_passed = all_passed anyParts

  pub price_any_refusal : (e : Verdict) → Err e ≡ checked (price_any_verdict r froms tos rows) → (a : Answer) → a ≡ refusal_answer e → (a ≡ price_any_answer r froms tos rows) × (rows ≡ price_any_rows r froms tos rows)
  unfolding price_any_answer price_any_rows price_any_verdict
  price_any_refusal = answers_refusal anyParts

  pub price_any_numbers : (u : Unit) → Ok u ≡ checked (price_any_verdict r froms tos rows) → (a : Answer) (out : ReadRows) → a ≡ anyParts.answer → out ≡ anyParts.out
      → (a ≡ price_any_answer r froms tos rows) × (out ≡ price_any_rows r froms tos rows)
  unfolding price_any_answer price_any_rows price_any_verdict
  price_any_numbers = answers_price anyParts

  pub price_any_accepted : refuses (price_any_verdict r froms tos rows) ≡ false → price_any_verdict r froms tos rows ≡ accepted
  unfolding price_any_verdict
  price_any_accepted e = none_refuses (judge_any_of r ∷ list_verdict_any r.head (stops_of r) froms tos ∷ refuse_if (short_read_rows (length r.numbers) rows) ShortRow ∷ []) e

  -- The numbers of the walk over the legs that the rows hold, the sweep ending where it does.
  pub walk_numbers : Priceable r froms tos
      → (to : ℕ) → to ≡ sweep_end (detour_legs r.head r.starts r.lengths r.aggregates froms tos) (want_stops_of r)
      → (sum : ℕ) → sum ≡ sum_of r.turn (head_at r.head) (row_legs r.head r.starts r.lengths r.aggregates r.numbers froms tos to) (want_stops_of r)
      → (times : List ℕ) → times ≡ times_of r.turn (head_at r.head) (row_legs r.head r.starts r.lengths r.aggregates r.numbers froms tos to) (want_stops_of r) ++ drop (length r.numbers) rows.times
      → (legs : List ℕ) → legs ≡ legs_for (row_legs r.head r.starts r.lengths r.aggregates r.numbers froms tos to) (want_stops_of r) ++ drop (length r.numbers) rows.legs
      → (h : Head) → h ≡ walked r.turn (head_at r.head) (row_legs r.head r.starts r.lengths r.aggregates r.numbers froms tos to)
      → (record { refusal = Accepted; place = 0; sum = sum; finish = h.clock; end = h.place; detours = length froms } ≡ priced_any_answer r (list_of froms tos))
      × (read_rows times legs ≡ read_any_rows_with r (list_of froms tos) rows)
  unfolding priced_any_answer
  walk_numbers p to to_is sum sum_is_lem times times-are legs legs-are h h-is =
      let walk = p.legs to to_is in
      let whole = sum_is_lem ∙ sym (run_sum_joined r.turn (head_at r.head) (row_legs r.head r.starts r.lengths r.aggregates r.numbers froms tos to) r) in
      (rw (whole, h-is, walk, length_list froms tos p.fit.list.even), rw (times-are, legs-are, walk))
