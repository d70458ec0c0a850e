-- What each detour buys with the head anywhere: the refusals by the table, each figure the exact difference of two walks' sums, and above zero in a plan.
use Prim.Native.Nat.{ℕ, ◌≤◌, ◌<◌}
use mathlib.Core.Path.{◌≡◌, refl, sym, ap, ◌∙◌}
use mathlib.Core.Bool.{Bool, true, false, true≢false}
use mathlib.Core.Logic.{⊎_elim}
use mathlib.Core.List.{List, [], ◌∷◌, ◌++◌, map}
use native.Mathlib.Omega.{arith}
use lib.ListN.{length, get_or, drop, length-append, length-drop, length-map, get_or-append}
use lib.Seq.{drop_at}
use lib.Dec.{ltb}
use lib.IntN.{ℤ, pos}
use borrow.Author.Tests.{ltb-false}
use Rattle.refusals.specs.declared.Refusal.{Refusal}
use Rattle.refusals.specs.declared.Refusal.TheVariants.{Accepted, BadEntry, ShortRow}
use Rattle.refusals.specs.Refusals.{is_refusal, number_of, refuse_if}
use Rattle.refusals.proofs.Verdicts.{refuses, all_accept, none_refuses, accepts_if}
use Rattle.runs.specs.Run.{Run, stops_of}
use Rattle.runs.specs.Lists.{Detour, list_of}
use Rattle.runs.specs.AnyHead.{judge_any_of, list_verdict_any, WellFormedAny}
use Rattle.runs.proofs.Search.{true_or_false}
use Rattle.runs.proofs.Entries.{length_list}
use Rattle.runs.proofs.AnyHead.{GoodAnyRun, accepted_any}
use Rattle.walk.specs.declared.Answer.{Answer}
use Rattle.walk.specs.declared.Leg.{Leg}
use Rattle.walk.specs.Walk.{head_at, walked, sum_of}
use Rattle.walk.specs.AnyHead.{run_legs, priced_any_answer}
use Rattle.walk.proofs.AnyHead.{any_even, any_formed}
use Rattle.least.specs.AnyHead.{LeastAnyFor, list_sum_any}
use Rattle.figures.specs.Figures.{without}
use Rattle.figures.specs.AnyHead.{figure_any_of, figures_any_of, figures_any_verdict, figures_any_answer, figures_any_row}
use Rattle.figures.specs.Private.{PriceableAny}
use Rattle.figures.proofs.Without.{without_formed_any}
use Rattle.figures.proofs.AnyHead.{list_any_accepted, list_any_formed, figures_length, figure_at, figured_so}
use Rattle.engine_stops.proofs.Halves.{list_of_halves}
use Rattle.demands.specs.Demand1.{ByTheTable, price_order}
use Rattle.demands.specs.AnyLegs.{AreLegsOf}
use Rattle.demands.specs.AnyHead.{RunAppliesAny, ListIsBadAny}
use Rattle.demands.specs.Buys.{PlanPays}
use Rattle.demands.specs.AnyBuys.{BuysAnyApplies, FiguresAnyByTable, FiguresAnyIff, IsBoughtAny, FiguresAnyTold, FiguresAnyTell, PlansAnyPay}
use Rattle.demands.proofs.Tests.{tells_below}
use Rattle.demands.proofs.Checks.{refused_iff, decides_if, decides_reworded, Finds, finds_none, finds_first}
use Rattle.demands.proofs.Demand1.{refusal_only_place}
use Rattle.demands.proofs.AnyJudged.{any_small, run_any_finds, decides_list_any}
use Rattle.demands.proofs.AnyLegs.{legs_one}
use Rattle.demands.proofs.AnyHead.{is_formed_any, planned, run_passed, not_refused, any_starts_in_rows, any_ends_in_rows}
use Rattle.demands.proofs.Buys.{is_less, less_above, without_is, ends_apart, less_without}

-- The refusals.
module _ (r : Run) (froms tos : List ℕ) (row : List ℤ) where
  of_run_here : (k : Refusal) (p : ℕ) → number_of k ≤ 7 → BuysAnyApplies r froms tos row k p → RunAppliesAny r k p
  of_run_here k p l (BuysAnyApplies.run h) = h
  of_run_here k p l (BuysAnyApplies.bad_list h) = absurd (omega arith)
  of_run_here k p l (BuysAnyApplies.short_row h) = absurd (omega arith)

  of_list : (p : ℕ) → BuysAnyApplies r froms tos row BadEntry p → ListIsBadAny r froms tos p
  of_list p (BuysAnyApplies.run h) = absurd (omega (arith, any_small r h))
  of_list p (BuysAnyApplies.bad_list h) = h

  of_row : (p : ℕ) → BuysAnyApplies r froms tos row ShortRow p → (p ≡ 0) × (length row < length froms)
  of_row p (BuysAnyApplies.run h) = absurd (omega (arith, any_small r h))
  of_row p (BuysAnyApplies.short_row h) = (refl, h)

  -- A list that is accepted has as many entries as starts.
  entries : refuses (list_verdict_any r.head (stops_of r) froms tos) ≡ false → length (list_of froms tos) ≡ length froms
  entries e = length_list froms tos (any_even r.head (stops_of r) froms tos e)

  buys_finds : Finds (BuysAnyApplies r froms tos row) price_order (figures_any_verdict r froms tos row)
  unfolding figures_any_verdict
  buys_finds =
      let short = refuse_if (ltb (length row) (length (list_of froms tos))) ShortRow in
      run_any_finds r (BuysAnyApplies r froms tos row) (λ k p. BuysAnyApplies.run) of_run_here (BadEntry ∷ ShortRow ∷ []) (list_verdict_any r.head (stops_of r) froms tos ∷ short ∷ [])
      (λ a. finds_first (BuysAnyApplies r froms tos row) (short ∷ []) refl
      (decides_reworded (λ p. BuysAnyApplies.bad_list) of_list (decides_list_any r (accepted_any r a) froms tos))
      (λ b. finds_first (BuysAnyApplies r froms tos row) {v = short} [] refl
      (decides_reworded (λ p h. rw h.0 (BuysAnyApplies.short_row h.1)) of_row
      (rw (entries b) (decides_if (ltb (length row) (length froms)) ShortRow (tells_below (length row) (length froms)))))
      (λ c. finds_none (BuysAnyApplies r froms tos row))))

  buys_says : (b : Bool) → refuses (figures_any_verdict r froms tos row) ≡ b
      → ByTheTable (BuysAnyApplies r froms tos row) price_order row (figures_any_answer r froms tos row) (figures_any_row r froms tos row)
  unfolding figures_any_answer figures_any_row priced_any_answer figures_any_verdict
  buys_says true e = rw e (record { first = buys_finds; kept = λ n. (refusal_only_place (figures_any_verdict r froms tos row), refl) })
  buys_says false e =
      rw e
      (record {
        first = rw (none_refuses (judge_any_of r ∷ list_verdict_any r.head (stops_of r) froms tos ∷ refuse_if (ltb (length row) (length (list_of froms tos))) ShortRow ∷ []) e) at buys_finds;
        kept = λ n. absurd (n refl);
      })

pub figures_any_by_table : FiguresAnyByTable
figures_any_by_table r froms tos row answer out says fills = rw (says, fills) (buys_says r froms tos row (refuses (figures_any_verdict r froms tos row)) refl)

pub figures_any_iff : FiguresAnyIff
figures_any_iff r froms tos row answer says =
    refused_iff (BuysAnyApplies r froms tos row) (figures_any_by_table r froms tos row answer (figures_any_row r froms tos row) says refl).first (refl, (refl, (refl, (refl, (refl, (refl, (refl, (refl, (refl, tt)))))))))

-- An accepted list in two rows, and a row for its figures.
module _ (r : Run) (froms tos : List ℕ) (p : PriceableAny r froms tos) where
  good : GoodAnyRun r
  good = accepted_any r p.run

  well : WellFormedAny r.head (stops_of r) (list_of froms tos)
  well = list_any_formed r.head (stops_of r) froms tos p.list

  count : length (list_of froms tos) ≡ length froms
  count = length_list froms tos (any_even r.head (stops_of r) froms tos p.list)

  size : length (figures_any_of r (list_of froms tos)) ≡ length froms
  size = figures_length r (list_of froms tos) ∙ count

  figure_in : (rest : List ℤ) (i : ℕ) → i < length froms → get_or (figures_any_of r (list_of froms tos) ++ rest) i (pos 0) ≡ figure_any_of r (list_of froms tos) i
  figure_in rest i l =
      get_or-append (figures_any_of r (list_of froms tos)) rest (pos 0) i (omega (arith, size)) ∙ sym (figure_at r (list_of froms tos) i (omega (arith, count)))

  walked_as : (list : List Detour) → WellFormedAny r.head (stops_of r) list → (gs : List Leg) → AreLegsOf r list gs → sum_of r.turn (head_at r.head) gs (stops_of r) ≡ list_sum_any r.turn r.head (stops_of r) list
  walked_as list w gs are = ap (λ hs. sum_of r.turn (head_at r.head) hs (stops_of r)) (legs_one r good list w gs are)

  pub bought_any : (i : ℕ) → i < length froms → IsBoughtAny r (list_of froms tos) i (figure_any_of r (list_of froms tos) i)
  unfolding figure_any_of priced_any_answer
  bought_any i l =
      let e = without_is (list_of froms tos) i in
      let w = without_formed_any r.head (stops_of r) (list_of froms tos) i (omega (arith, count)) well in
      record {
        formed = rw (← e) (is_formed_any r good (without i (list_of froms tos)) w);
        less = λ gs hs are whole. rw (walked_as (without i (list_of froms tos)) w gs (rw e are), walked_as (list_of froms tos) well hs whole) (is_less _ _);
      }

  told : (row : List ℤ) → length froms ≤ length row → (answer : Answer) → answer ≡ priced_any_answer r (list_of froms tos)
      → (out : List ℤ) → out ≡ figures_any_of r (list_of froms tos) ++ drop (length froms) row → FiguresAnyTold r froms tos row answer out
  unfolding priced_any_answer
  told row fits answer says out is =
      record {
        even = any_even r.head (stops_of r) froms tos p.list;
        formed = is_formed_any r good (list_of froms tos) well;
        sum = λ gs are. rw says (sym (walked_as (list_of froms tos) well gs are));
        finish = λ gs are. rw says (ap (λ hs. (walked r.turn (head_at r.head) hs).clock) (sym (legs_one r good (list_of froms tos) well gs are)));
        end = λ gs are. rw says (ap (λ hs. (walked r.turn (head_at r.head) hs).place) (sym (legs_one r good (list_of froms tos) well gs are)));
        number = rw says count;
        each = λ i l. rw (is, figure_in (drop (length froms) row) i l) (bought_any i l);
        long = rw is (omega (arith, length-append (figures_any_of r (list_of froms tos)) (drop (length froms) row), length-drop (length froms) row, size, fits));
        later = rw is (drop_at (figures_any_of r (list_of froms tos)) (drop (length froms) row) (length froms) size);
      }

-- An answer that is no refusal comes of a verdict that is none.
module _ (r : Run) (froms tos : List ℕ) (row : List ℤ) (answer : Answer) (says : answer ≡ figures_any_answer r froms tos row) (accepts : answer.refusal ≡ Accepted) where
  figures_accept : refuses (figures_any_verdict r froms tos row) ≡ false
  unfolding figures_any_answer
  figures_accept =
      ⊎_elim
      (λ e. absurd (true≢false (sym e ∙ ap is_refusal (sym (ap (λ (a : Answer). a.refusal) (rw e at says)) ∙ accepts))))
      (λ e. e)
      (true_or_false (refuses (figures_any_verdict r froms tos row)))

  figures_pass : PriceableAny r froms tos × (ltb (length row) (length (list_of froms tos)) ≡ false)
  unfolding figures_any_verdict
  figures_pass =
      let all = all_accept (judge_any_of r ∷ list_verdict_any r.head (stops_of r) froms tos ∷ refuse_if (ltb (length row) (length (list_of froms tos))) ShortRow ∷ []) figures_accept in
      (record { run = all.0; list = all.1.0 }, accepts_if _ ShortRow refl all.1.1.0)

pub figures_any_tell : FiguresAnyTell
unfolding figures_any_answer figures_any_row
figures_any_tell r froms tos row answer out says fills accepts =
    let e = figures_accept r froms tos row answer says accepts in
    let pass = figures_pass r froms tos row answer says accepts in
    let n = count r froms tos pass.0 in
    told r froms tos pass.0 row (omega (arith, ltb-false (length row) (length (list_of froms tos)) pass.1, n))
    answer (rw e at says) out ((rw e at fills) ∙ ap (λ k. figures_any_of r (list_of froms tos) ++ drop k row) n)

-- A plan's list is accepted by itself, in two rows.
module _ (r : Run) (list : List Detour) (accepts : refuses (judge_any_of r) ≡ false) (least : LeastAnyFor r.turn r.head (stops_of r) list) (row : List ℤ) (fits : length list ≤ length row) where
  rows_priceable : PriceableAny r (map (λ d. d.from) list) (map (λ d. d.to) list)
  rows_priceable =
      record {
        run = accepts;
        list =
            list_any_accepted r.head (stops_of r) (map (λ d. d.from) list) (map (λ d. d.to) list) (length-map list (λ d. d.from) ∙ sym (length-map list (λ d. d.to)))
            (rw (list_of_halves list) least.formed);
      }

  cheaper : (i : ℕ) → i < length list → list_sum_any r.turn r.head (stops_of r) list < list_sum_any r.turn r.head (stops_of r) (without i list)
  cheaper i l =
      let formed = without_formed_any r.head (stops_of r) list i l least.formed in
      less_without (list_sum_any r.turn r.head (stops_of r)) list i l (ends_apart (stops_of r) list (any_formed r.head (stops_of r) list least.formed))
      (least.smallest (without i list) formed) (least.first (without i list) formed)

  pays : (i : ℕ) → i < length list → (n : ℕ) × (0 < n) × (figure_any_of r list i ≡ pos n)
  unfolding figure_any_of priced_any_answer
  pays i l = less_above _ _ _ (is_less _ _) (cheaper i l)

  plan_pays : PlanPays (priced_any_answer r list) (figures_any_answer r (map (λ d. d.from) list) (map (λ d. d.to) list) row) (figures_any_row r (map (λ d. d.from) list) (map (λ d. d.to) list) row)
  unfolding priced_any_answer
  plan_pays =
      let so = figured_so r (map (λ d. d.from) list) (map (λ d. d.to) list) row rows_priceable (omega (arith, length-map list (λ d. d.from), fits)) _ refl in
      let at : (i : ℕ) → i < length list → get_or (figures_any_row r (map (λ d. d.from) list) (map (λ d. d.to) list) row) i (pos 0) ≡ figure_any_of r list i =
      λ i l. rw (← so.1) (figure_in r (map (λ d. d.from) list) (map (λ d. d.to) list) rows_priceable _ i (omega (arith, length-map list (λ d. d.from))) ∙ ap (λ l. figure_any_of r l i) (list_of_halves list)) in
      record {
        same = sym so.0 ∙ ap (priced_any_answer r) (list_of_halves list);
        not_below = λ i l. ((pays i l).0, at i l ∙ (pays i l).2);
        above = λ i l. ((pays i l).0, (pays i l).1, at i l ∙ (pays i l).2);
      }

  plan_so : (planned : Answer) → planned ≡ priced_any_answer r list → (starts ends : List ℕ) → starts ≡ map (λ d. d.from) list → ends ≡ map (λ d. d.to) list
      → (answer : Answer) → answer ≡ figures_any_answer r starts ends row → (out : List ℤ) → out ≡ figures_any_row r starts ends row → PlanPays planned answer out
  plan_so planned is starts ends starts_are ends_are answer says out fills = rw (says, fills, starts_are, ends_are, is) plan_pays

long_enough : (r : Run) (list : List Detour) (planned : Answer) (row : List ℤ) → planned ≡ priced_any_answer r list → planned.detours ≤ length row → length list ≤ length row
unfolding priced_any_answer
long_enough r list planned row says fits = rw says at fits

pub plans_any_pay : PlansAnyPay
plans_any_pay r before told after plans accepts row fits answer says out fills =
    let plan = planned r before told after plans accepts in
    plan_so r plan.list (run_passed r before (not_refused r before told after plans accepts)) plan.least row (long_enough r plan.list told row plan.says fits)
    told plan.says _ _
    (any_starts_in_rows r plan.list before told after plan.says plan.rows) (any_ends_in_rows r plan.list before told after plan.says plan.rows)
    answer says out fills
