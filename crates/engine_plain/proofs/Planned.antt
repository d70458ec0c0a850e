-- The engine's answer: the checks in their order, each the first that can refuse; then the price of the list that was written.
use Prim.Native.Nat.{ℕ, ◌-◌, ◌≤◌}
use mathlib.Core.Path.{◌≡◌, refl, sym, ap, ◌∙◌}
use mathlib.Core.Bool.{Bool, true, false, true≢false}
use mathlib.Core.List.{List, [], ◌∷◌, ◌++◌, map}
use native.Mathlib.Omega.{arith}
use lib.ListN.{length, take, drop, length-map}
use borrow.Author.Tests.{ltb-false}
use Rattle.refusals.specs.declared.Refusal.TheVariants.{ShortRow}
use Rattle.refusals.specs.declared.Verdict.{Verdict}
use Rattle.std.specs.Prelude.{Result, Ok, Err}
use Rattle.refusals.specs.Refusals.{is_refusal, checked, refuse_if, first_of}
use Rattle.refusals.proofs.Verdicts.{refuses, first_refuses, all_accept, accepts_if}
use Rattle.refusals.proofs.Checked.{Refuses, stopped}
use Rattle.runs.specs.Run.{Run, stops_of}
use Rattle.runs.specs.Judging.{judge_of}
use Rattle.runs.specs.Lists.{Detour, list_of}
use Rattle.runs.proofs.Search.{or_false_both}
use Rattle.runs.proofs.Stops.{accepted_sound}
use Rattle.walk.specs.declared.Answer.{Answer}
use Rattle.walk.specs.Price.{price_verdict, price_answer, price_rows}
use Rattle.walk.specs.Rows.{read_rows}
use Rattle.least.specs.Least.{LeastForRun}
use Rattle.least.specs.Recurrence.{least_list}
use Rattle.least.proofs.LeastList.{least_list_lem}
use Rattle.engine_stops.proofs.Said.{one_answer, same_number}
use Rattle.engine_stops.proofs.Halves.{list_of_halves, halves_even, front}
use Rattle.least.proofs.Priced.{price_accepted}
use Rattle.engine_plain.specs.Plain.{PlainRows, plain_rows, plain_reads, short_plain_rows, plain_verdict, PlainPlanned, PlainPlans}
use Rattle.engine_plain.specs.Private.{overlay, ListWritten, short_lengths, PlainListed, PlainLists}
use Rattle.engine_plain.proofs.Checks.{run_checks, first_of_both, second_of_both}
use Rattle.engine_plain.proofs.Overlays.{overlay_first}

-- Rows that are long enough.
pub record LongRows (wants stops froms tos times legs : ℕ) : Type 0 where
  pub starts : stops - 1 ≤ froms
  pub ends : stops - 1 ≤ tos
  pub timed : wants ≤ times
  pub legged : wants ≤ legs

pub long_rows : (wants k stops froms tos times legs : ℕ) (g : Bool) → k ≡ stops → g ≡ short_lengths wants k froms tos times legs → g ≡ false → LongRows wants stops froms tos times legs
long_rows wants k stops froms tos times legs g same is e =
    let last = or_false_both _ _ (sym (rw same at is) ∙ e) in
    let list = or_false_both _ _ last.0 in
    let reads = or_false_both _ _ list.0 in
    record {
      starts = ltb-false froms (stops - 1) list.1;
      ends = ltb-false tos (stops - 1) last.1;
      timed = ltb-false times wants reads.0;
      legged = ltb-false legs wants reads.1;
    }

module _ (r : Run) (rows : PlainRows) where
  rows_check : Verdict
  rows_check = refuse_if (short_plain_rows (length r.numbers) (length (stops_of r)) rows) ShortRow

  refused_so_here : (v : Verdict) → v ≡ plain_verdict r rows → refuses v ≡ true → PlainLists r rows (Err v) rows.froms rows.tos
  refused_so_here v e h =
      record {
        refused = λ q. record { says = ap Err e; starts = refl; ends = refl };
        listed = λ q. absurd (true≢false (sym h ∙ ap refuses e ∙ q));
      }

  pub run_refused : (e : Verdict) → Refuses (first_of (run_checks r)) e → PlainLists r rows (Err e) rows.froms rows.tos
  unfolding plain_verdict rows_check
  run_refused e s = rw (← s.is) (refused_so_here (first_of (run_checks r)) (sym (first_of_both (run_checks r) (rows_check ∷ []) s.so)) s.so)

  module _ (passed : refuses (first_of (run_checks r)) ≡ false) (k : ℕ) (k-is : k ≡ length (stops_of r)) (g : Bool)
      (g-is : g ≡ short_lengths (length r.numbers) k (length rows.froms) (length rows.tos) (length rows.times) (length rows.legs)) where
    rows_decide : plain_verdict r rows ≡ first_of (refuse_if g ShortRow ∷ [])
    unfolding plain_verdict rows_check
    rows_decide = second_of_both (run_checks r) (rows_check ∷ []) passed ∙ ap (λ b. first_of (refuse_if b ShortRow ∷ [])) (sym (rw k-is at g-is))

    pub rows_refused_lem : (e : Verdict) → Err e ≡ checked (refuse_if g ShortRow) → PlainLists r rows (Err e) rows.froms rows.tos
    rows_refused_lem e said =
        let s = stopped (refuse_if g ShortRow) e said in
        rw (← s.is) (refused_so_here (refuse_if g ShortRow) (first_refuses (refuse_if g ShortRow) [] s.so ∙ sym rows_decide) s.so)

    pub run_listed : g ≡ false → (x : Result ℕ Verdict) (froms tos : List ℕ) → PlainListed r rows x froms tos → PlainLists r rows x froms tos
    run_listed e x froms tos p =
        let accepts : refuses (plain_verdict r rows) ≡ false = ap refuses (rows_decide ∙ ap (λ b. first_of (refuse_if b ShortRow ∷ [])) e) in
        record { refused = λ q. absurd (true≢false (sym q ∙ accepts)); listed = λ q. p }

  module _ (n : ℕ) (froms tos : List ℕ) (l : PlainLists r rows (Ok n) froms tos) where
    passes : refuses (plain_verdict r rows) ≡ false
    passes = go (refuses (plain_verdict r rows)) refl
      where
        go : (b : Bool) → refuses (plain_verdict r rows) ≡ b → refuses (plain_verdict r rows) ≡ false
        go true e = one_answer (sym (l.refused e).says)
        go false e = e

    pub is_listed : PlainListed r rows (Ok n) froms tos
    is_listed = l.listed passes

    pub record PlainPasses : Type 0 where
      pub run : refuses (judge_of r) ≡ false
      pub times : length r.numbers ≤ length rows.times
      pub legs : length r.numbers ≤ length rows.legs

    pub plain_passes : PlainPasses
    unfolding plain_verdict rows_check
    plain_passes =
        let all = all_accept (run_checks r ++ (rows_check ∷ [])) passes in
        let four = or_false_both _ _ (accepts_if _ ShortRow refl all.1.1.1.1.0) in
        let three = or_false_both _ _ four.0 in
        let two = or_false_both _ _ three.0 in
        record {
          run = all.1.1.1.0;
          times = ltb-false (length rows.times) (length r.numbers) two.0;
          legs = ltb-false (length rows.legs) (length r.numbers) two.1;
        }

    pub run_planned : (a : Answer) (end : PlainRows) → PlainPlanned r rows a end → PlainPlans r rows a end
    run_planned a end p = record { refused = λ q. absurd (true≢false (sym q ∙ passes)); planned = λ q. p }

module _ (r : Run) (rows : PlainRows) (accepts : is_refusal (judge_of r).refusal ≡ false)
    (long : LongRows (length r.numbers) (length (stops_of r)) (length rows.froms) (length rows.tos) (length rows.times) (length rows.legs))
    (short : length (least_list r.turn (stops_of r)) ≤ length (stops_of r) - 1)
    (n : ℕ) (froms' tos' : List ℕ) (w : ListWritten (least_list r.turn (stops_of r)) 0 n rows.froms rows.tos froms' tos') where
  abbrev list : List Detour
  list = least_list r.turn (stops_of r)

  n_is : n ≡ length list
  n_is = omega (arith, w.behind)

  least : LeastForRun r list
  least = least_list_lem r.turn r.head (stops_of r) (accepted_sound r accepts)

  -- One half of the list in the first entries of its row.
  row_is : (g : Detour → ℕ) (row : List ℕ) → length (stops_of r) - 1 ≤ length row → overlay 0 (map g list) row ≡ map g list ++ drop (length list) row
  row_is g row h =
      overlay_first (map g list) row (omega (arith, length-map list g)) ∙ ap (λ m. map g list ++ drop m row) (length-map list g)

  froms_are : froms' ≡ map (λ d. d.from) list ++ drop (length list) rows.froms
  froms_are = w.starts ∙ row_is (λ d. d.from) rows.froms long.starts

  tos_are : tos' ≡ map (λ d. d.to) list ++ drop (length list) rows.tos
  tos_are = w.ends ∙ row_is (λ d. d.to) rows.tos long.ends

  pub listed_so : PlainListed r rows (Ok n) froms' tos'
  listed_so = record { list = list; least = least; says = ap Ok n_is; starts = froms_are; ends = tos_are }

module _ (r : Run) (rows : PlainRows) (accepts : is_refusal (judge_of r).refusal ≡ false) (timed : length r.numbers ≤ length rows.times)
    (legged : length r.numbers ≤ length rows.legs) (n : ℕ) (froms' tos' : List ℕ) (p : PlainListed r rows (Ok n) froms' tos') where
  long_is : n ≡ length p.list
  long_is = same_number p.says

  froms_front : take n froms' ≡ map (λ d. d.from) p.list
  froms_front = front (λ d. d.from) p.list n rows.froms froms' long_is p.starts

  tos_front : take n tos' ≡ map (λ d. d.to) p.list
  tos_front = front (λ d. d.to) p.list n rows.tos tos' long_is p.ends

  priced_list : list_of (take n froms') (take n tos') ≡ p.list
  priced_list = rw (froms_front, tos_front) (list_of_halves p.list)

  priced : refuses (price_verdict r (take n froms') (take n tos') (plain_reads rows)) ≡ false
  priced =
      price_accepted r (take n froms') (take n tos') (plain_reads rows) accepts
      (rw (froms_front, tos_front) (halves_even (λ d. d.from) (λ d. d.to) p.list))
      (rw priced_list p.least.formed) timed legged

  -- The pricer's answer for the list is the engine's.
  pub planned_so : (answer : Answer) (times' legs' : List ℕ) → answer ≡ price_answer r (take n froms') (take n tos') (plain_reads rows)
      → read_rows times' legs' ≡ price_rows r (take n froms') (take n tos') (plain_reads rows) → PlainPlanned r rows answer (plain_rows froms' tos' times' legs')
  unfolding price_answer price_rows
  planned_so answer times' legs' a t =
      let reads = rw (priced, priced_list) at t in
      record {
        list = p.list;
        least = p.least;
        says = rw (priced, priced_list) at a;
        rows = rows_are p.starts p.ends (ap (λ x. x.times) reads) (ap (λ x. x.legs) reads);
      }
    where
      rows_are : {a a' b b' c c' d d' : List ℕ} → a ≡ a' → b ≡ b' → c ≡ c' → d ≡ d' → plain_rows a b c d ≡ plain_rows a' b' c' d'
      rows_are p q s t = rw (p, q, s, t)
