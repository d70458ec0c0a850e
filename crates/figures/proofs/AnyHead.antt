-- What the pricer for a head anywhere answers with rows of 64 entries, and what the figures answer; and that of a run that 01 accepts they are 01's.
use Prim.Native.Nat.{ℕ, ◌≤◌, ◌<◌, ◌^◌}
use mathlib.Core.Path.{◌≡◌, refl, sym, ap, ◌∙◌}
use mathlib.Core.Bool.{true, false, not, true≢false}
use mathlib.Core.Logic.{⊎_elim}
use mathlib.Core.List.{List, [], ◌∷◌, ◌++◌}
use native.Mathlib.Omega.{arith}
use lib.ListN.{length, get_or, drop}
use lib.Dec.{eqb}
use lib.IntN.{ℤ, pos, ◌-ℤ◌}
use borrow.Author.Tests.{eq-eqb, le-ltb, lt-ltb}
use Rattle.refusals.specs.declared.Refusal.TheVariants.{ShortRow, BadEntry}
use Rattle.refusals.specs.declared.Verdict.{Verdict}
use Rattle.refusals.specs.Refusals.{is_refusal, refuse_if, refuse_at}
use Rattle.refusals.proofs.Verdicts.{refuses, all_accept, accepts_at}
use Rattle.runs.specs.Run.{Run, Stop, stops_of}
use Rattle.runs.specs.Judging.{judge_of}
use Rattle.runs.specs.Lists.{Detour, list_of}
use Rattle.runs.specs.AnyHead.{judge_any_of, list_verdict_any, first_bad_entry_any, WellFormedAny, lifted}
use Rattle.runs.proofs.Search.{true_or_false}
use Rattle.runs.proofs.Entries.{length_list}
use Rattle.runs.proofs.Judged.{accepted_run}
use Rattle.runs.proofs.Stops.{run_sound}
use Rattle.runs.proofs.AnyHead.{GoodAnyRun, accepted_any, sound_right, list_any_same, judge_any_same}
use Rattle.walk.specs.declared.Answer.{Answer}
use Rattle.walk.specs.Price.{refusal_answer}
use Rattle.walk.specs.AnyHead.{priced_any_answer, price_any_verdict, price_any_answer}
use Rattle.walk.specs.Rows.{ReadRows}
use Rattle.walk.proofs.Walks.{GoodList, list_fits_lem}
use Rattle.walk.proofs.AnyHead.{any_good, priced_same}
use Rattle.walk.proofs.Laws.{sum_any_below}
use Rattle.figures.specs.Figures.{without, figure_of, figures_of, figures_verdict, figures_answer, figures_row}
use Rattle.figures.specs.AnyHead.{figure_any_of, figures_any_of, figures_any_verdict, figures_any_answer, figures_any_row}
use Rattle.figures.specs.Private.{PriceableAny}
use Rattle.figures.proofs.Without.{without_length, without_list, without_formed_any}
use Rattle.figures.proofs.Answers.{by_length, by_entry, by_same}

-- A list that two rows of one length hold is accepted where it is well formed, and the other way round.
module _ (m : ℕ) (stops : List Stop) (froms tos : List ℕ) where
  pub list_any_accepted : length froms ≡ length tos → WellFormedAny m stops (list_of froms tos) → refuses (list_verdict_any m stops froms tos) ≡ false
  unfolding list_verdict_any
  list_any_accepted e w = rw (eq-eqb (length froms) (length tos) e, w)

  pub list_any_formed : refuses (list_verdict_any m stops froms tos) ≡ false → WellFormedAny m stops (list_of froms tos)
  unfolding list_verdict_any
  list_any_formed e =
      accepts_at _ BadEntry refl (all_accept (refuse_if (not (eqb (length froms) (length tos))) BadEntry ∷ refuse_at (first_bad_entry_any m stops (list_of froms tos)) BadEntry ∷ []) e).1.0

-- Rows that hold a time and a leg for each of 64 wants.
pub record Long (rows : ReadRows) : Type 0 where
  pub times : 64 ≤ length rows.times
  pub legs : 64 ≤ length rows.legs

module _ (r : Run) (froms tos : List ℕ) (p : PriceableAny r froms tos) where
  good : GoodAnyRun r
  good = accepted_any r p.run

  list : GoodList (stops_of r) froms tos
  list = any_good r.head (stops_of r) froms tos p.list

  pub even : length froms ≡ length tos
  even = list.even

  pub few : length froms ≤ 64
  few = omega (arith, list_fits_lem (lifted r) good.run froms tos list, good.run.wants.few)

  -- The pricer's answer is the price.
  pub priced : (rows : ReadRows) → Long rows → price_any_answer r froms tos rows ≡ priced_any_answer r (list_of froms tos)
  unfolding price_any_answer price_any_verdict
  priced rows l =
      rw (
        p.run,
        p.list,
        le-ltb (length rows.times) (length r.numbers) (omega (arith, l.times, good.run.wants.few)),
        le-ltb (length rows.legs) (length r.numbers) (omega (arith, l.legs, good.run.wants.few)),
      )
      refl

  -- And so is it without an entry.
  pub priceable_without : (i : ℕ) → i < length froms → PriceableAny r (without i froms) (without i tos)
  priceable_without i l =
      let formed = without_formed_any r.head (stops_of r) (list_of froms tos) i (omega (arith, length_list froms tos even)) (list_any_formed r.head (stops_of r) froms tos p.list) in
      record {
        run = p.run;
        list =
            list_any_accepted r.head (stops_of r) (without i froms) (without i tos) (omega (arith, even, without_length i froms l, without_length i tos (omega (arith, even))))
            (rw (without_list i froms tos even) formed);
      }

-- The sum without an entry, as the pricer gives it.
pub sum_is : (r : Run) (froms tos : List ℕ) (p : PriceableAny r froms tos) (i : ℕ) → i < length froms → (lefts rights : List ℕ) → lefts ≡ without i froms → rights ≡ without i tos
    → (rows : ReadRows) → Long rows → (a : Answer) → a ≡ price_any_answer r lefts rights rows → a.sum ≡ (priced_any_answer r (without i (list_of froms tos))).sum
sum_is r froms tos p i l lefts rights left right rows long a e =
    rw (e, left, right, priced r (without i froms) (without i tos) (priceable_without r froms tos p i l) rows long, without_list i froms tos (even r froms tos p)) refl

-- Every sum is far below what a signed word holds.
pub sum_small : (r : Run) (froms tos : List ℕ) → PriceableAny r froms tos → (priced_any_answer r (list_of froms tos)).sum < 2 ^ 58
sum_small r froms tos p = sum_any_below r froms tos p.run p.list

pub sum_without_small : (r : Run) (froms tos : List ℕ) (p : PriceableAny r froms tos) (i : ℕ) → i < length froms → (priced_any_answer r (without i (list_of froms tos))).sum < 2 ^ 58
sum_without_small r froms tos p i l =
    rw (← (without_list i froms tos (even r froms tos p))) (sum_small r (without i froms) (without i tos) (priceable_without r froms tos p i l))

-- Each figure is its entry's.
pub figure_is : (r : Run) (list : List Detour) (i a b : ℕ) → a ≡ (priced_any_answer r (without i list)).sum → b ≡ (priced_any_answer r list).sum → pos a -ℤ pos b ≡ figure_any_of r list i
unfolding figure_any_of
figure_is r list i a b left right = rw (left, right) refl

pub figure_at : (r : Run) (list : List Detour) (j : ℕ) → j < length list → figure_any_of r list j ≡ get_or (figures_any_of r list) j (pos 0)
figure_at r list j l = by_entry (figure_any_of r list) (length list) j l

pub figures_length : (r : Run) (list : List Detour) → length (figures_any_of r list) ≡ length list
figures_length r list = by_length (figure_any_of r list) (length list) 0

pub figures_size : (r : Run) (froms tos : List ℕ) → PriceableAny r froms tos → length (figures_any_of r (list_of froms tos)) ≡ length froms
figures_size r froms tos p = figures_length r (list_of froms tos) ∙ length_list froms tos (even r froms tos p)

-- The answers, by which check refuses.
module _ (r : Run) (froms tos : List ℕ) (row : List ℤ) (rows : ReadRows) (long : Long rows) where
  run_first_here : refuses (judge_any_of r) ≡ true → (price_any_verdict r froms tos rows ≡ judge_any_of r) × (figures_any_verdict r froms tos row ≡ judge_any_of r)
  unfolding price_any_verdict figures_any_verdict
  run_first_here e = (rw e refl, rw e refl)

  list_first : refuses (judge_any_of r) ≡ false → refuses (list_verdict_any r.head (stops_of r) froms tos) ≡ true
      → (price_any_verdict r froms tos rows ≡ list_verdict_any r.head (stops_of r) froms tos) × (figures_any_verdict r froms tos row ≡ list_verdict_any r.head (stops_of r) froms tos)
  unfolding price_any_verdict figures_any_verdict
  list_first e f = (rw (e, f) refl, rw (e, f) refl)

  both_refuse : (v : Verdict) → refuses v ≡ true → (price_any_verdict r froms tos rows ≡ v) × (figures_any_verdict r froms tos row ≡ v)
      → (price_any_answer r froms tos rows ≡ figures_any_answer r froms tos row) × (row ≡ figures_any_row r froms tos row)
  unfolding price_any_answer figures_any_answer figures_any_row
  both_refuse v e is = (rw (is.0, is.1) refl, rw (is.1, e) refl)

  price_refuses : (v : Verdict) → refuses v ≡ true → price_any_verdict r froms tos rows ≡ v → is_refusal (price_any_answer r froms tos rows).refusal ≡ true
  unfolding price_any_answer
  price_refuses v e is = rw (is, e) e

  pub refused_so : is_refusal (price_any_answer r froms tos rows).refusal ≡ true → (price_any_answer r froms tos rows ≡ figures_any_answer r froms tos row) × (row ≡ figures_any_row r froms tos row)
  unfolding priced_any_answer
  refused_so h =
      ⊎_elim
      (λ (e : refuses (judge_any_of r) ≡ true). both_refuse _ e (run_first_here e))
      (λ (e : refuses (judge_any_of r) ≡ false).
      ⊎_elim
      (λ (f : refuses (list_verdict_any r.head (stops_of r) froms tos) ≡ true). both_refuse _ f (list_first e f))
      (λ (f : refuses (list_verdict_any r.head (stops_of r) froms tos) ≡ false). absurd (true≢false (sym h ∙ ap (λ (a : Answer). is_refusal a.refusal) (priced r froms tos (record { run = e; list = f }) rows long))))
      (true_or_false (refuses (list_verdict_any r.head (stops_of r) froms tos))))
      (true_or_false (refuses (judge_any_of r)))

  pub passed_so : is_refusal (price_any_answer r froms tos rows).refusal ≡ false → PriceableAny r froms tos
  passed_so h =
      ⊎_elim
      (λ (e : refuses (judge_any_of r) ≡ true). absurd (true≢false (sym (price_refuses _ e (run_first_here e).0) ∙ h)))
      (λ (e : refuses (judge_any_of r) ≡ false).
      ⊎_elim
      (λ (f : refuses (list_verdict_any r.head (stops_of r) froms tos) ≡ true). absurd (true≢false (sym (price_refuses _ f (list_first e f).0) ∙ h)))
      (λ (f : refuses (list_verdict_any r.head (stops_of r) froms tos) ≡ false). record { run = e; list = f })
      (true_or_false (refuses (list_verdict_any r.head (stops_of r) froms tos))))
      (true_or_false (refuses (judge_any_of r)))

module _ (r : Run) (froms tos : List ℕ) (row : List ℤ) (p : PriceableAny r froms tos) where
  count : length (list_of froms tos) ≡ length froms
  count = length_list froms tos (even r froms tos p)

  pub short_so : length row < length froms
      → (refusal_answer (record { refusal = ShortRow; place = 0 }) ≡ figures_any_answer r froms tos row) × (row ≡ figures_any_row r froms tos row)
  unfolding figures_any_answer figures_any_row figures_any_verdict
  short_so l =
      let s = lt-ltb (length row) (length (list_of froms tos)) (omega (arith, count)) in
      (rw (p.run, p.list, s) refl, rw (p.run, p.list, s) refl)

  pub figured_so : length froms ≤ length row → (row' : List ℤ) → row' ≡ figures_any_of r (list_of froms tos) ++ drop (length froms) row
      → (priced_any_answer r (list_of froms tos) ≡ figures_any_answer r froms tos row) × (row' ≡ figures_any_row r froms tos row)
  unfolding figures_any_answer figures_any_row figures_any_verdict
  figured_so l row' is =
      let s = le-ltb (length row) (length (list_of froms tos)) (omega (arith, count)) in
      (rw (p.run, p.list, s) refl, rw (p.run, p.list, s, is, count) refl)

-- A run that 01 refuses is refused so; of any other the answer and the row are 01's.
module _ (r : Run) (froms tos : List ℕ) (row : List ℤ) where
  pub run_refused : refuses (judge_of r) ≡ true → (refusal_answer (judge_of r) ≡ figures_answer r froms tos row) × (row ≡ figures_row r froms tos row)
  unfolding figures_answer figures_row figures_verdict
  run_refused e = (rw (e, e) refl, rw (e, e) refl)

  module _ (accepts : refuses (judge_of r) ≡ false) where
    verdict_same_here : figures_any_verdict r froms tos row ≡ figures_verdict r froms tos row
    unfolding figures_any_verdict figures_verdict
    verdict_same_here =
        rw (
          judge_any_same r (λ is. true≢false (sym (ap is_refusal is) ∙ accepts)),
          list_any_same r.head (stops_of r) (sound_right (stops_of r) r.head (run_sound r (accepted_run r accepts))) froms tos,
        )

    figure_same : (list : List Detour) (i : ℕ) → figure_any_of r list i ≡ figure_of r list i
    unfolding figure_any_of figure_of
    figure_same list i = rw (priced_same r (accepted_run r accepts) (without i list), priced_same r (accepted_run r accepts) list)

    pub figures_are : (list : List Detour) → figures_any_of r list ≡ figures_of r list
    figures_are list = by_same (figure_any_of r list) (figure_of r list) (figure_same list) (length list) 0

    pub figures_same : (figures_any_answer r froms tos row ≡ figures_answer r froms tos row) × (figures_any_row r froms tos row ≡ figures_row r froms tos row)
    unfolding figures_any_answer figures_answer figures_any_row figures_row
    figures_same = (rw (verdict_same_here, priced_same r (accepted_run r accepts) (list_of froms tos)), rw (verdict_same_here, figures_are (list_of froms tos)))
