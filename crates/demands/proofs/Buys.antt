-- What each detour buys: the refusals by the table, each figure the exact difference of two walks' sums, and above zero in a plan.
use Prim.Native.Nat.{ℕ, zero, suc, ◌+◌, ◌-◌, ◌≤◌, ◌<◌}
use mathlib.Core.Path.{◌≡◌, refl, sym, ap, ◌∙◌}
use mathlib.Core.Bool.{Bool, true, false, cond, true≢false}
use mathlib.Core.Logic.{◌⊎◌, inl, inr, ⊎_elim, by_cases}
use mathlib.Core.List.{List, [], ◌∷◌, ◌++◌, map}
use native.Mathlib.Omega.{arith}
use native.Mathlib.Decide.{dec_lt}
use lib.ListN.{length, get_or, drop, length-append, length-drop, length-map, get_or-append}
use lib.Seq.{drop_at}
use lib.Dec.{ltb, eqb}
use lib.IntN.{ℤ, pos, ◌-ℤ◌}
use borrow.Author.Tests.{lt-ltb, le-ltb, ltb-false, eqb-true, ne_eqb}
use Rattle.refusals.specs.declared.Refusal.{Refusal}
use Rattle.refusals.specs.declared.Refusal.TheVariants.{Accepted, BadEntry, ShortRow}
use Rattle.refusals.specs.Refusals.{is_refusal, number_of, accepted, refuse_if, first_where}
use Rattle.refusals.proofs.Verdicts.{refuses, all_accept, none_refuses, accepts_if}
use Rattle.runs.specs.Run.{Run, Stop, stops_of, goes_on, first_member, last_within, want_stops, join_to, joined}
use Rattle.runs.specs.Judging.{right_end}
use Rattle.runs.specs.Judging.{judge_of}
use Rattle.runs.specs.Lists.{Detour, list_of, list_verdict, entry_of, WellFormed, wanted, any_below, first_bad_entry}
use Rattle.runs.proofs.Judged.{accepted_run}
use Rattle.runs.proofs.Search.{true_or_false}
use Rattle.runs.proofs.Entries.{length_list}
use Rattle.walk.specs.declared.Answer.{Answer}
use Rattle.walk.specs.Walk.{walked, served, time_of, sum_of}
use Rattle.walk.specs.Detours.{start_of, end_of, unread_end, sweep_end, last_sweep, legs_of}
use Rattle.walk.specs.Price.{priced_answer}
use Rattle.walk.proofs.Walks.{accepted_list}
use Rattle.least.specs.Least.{start_for, ComesFirst, list_sum, LeastFor}
use Rattle.figures.specs.Figures.{without, figure_of, figures_by, figures_of, figures_verdict, figures_answer, figures_row}
use Rattle.figures.specs.Private.{Priceable}
use Rattle.figures.proofs.Without.{without_length, without_formed}
use Rattle.figures.proofs.Answers.{list_accepted, list_formed, figures_length, figure_at, figured_so}
use Rattle.engine_stops.proofs.Halves.{list_of_halves}
use Rattle.sheet_figures.specs.FigureSheet.{figure_text, figure_sheet_verdict}
use Rattle.demands.specs.RefusalTable.{RunApplies, ListIsBad}
use Rattle.demands.specs.Demand1.{ByTheTable, price_order}
use Rattle.demands.specs.Buys.{BuysApplies, FiguresAnswer, FiguresAnswerIff, Demand1FigureSheet, IsLess, left_out, IsBought, FiguresTold, FiguresTell, FiguresOne, PlanPays, PlansPay, BoughtHold}
use Rattle.demands.proofs.Tests.{tells_below}
use Rattle.demands.proofs.Checks.{refused_iff, decides_if, decides_reworded, Finds, finds_none, finds_first}
use Rattle.demands.proofs.Judged.{run_finds, run_small}
use Rattle.demands.proofs.Listed.{decides_list}
use Rattle.demands.proofs.Formed.{formed_by_the_rules, falls}
use Rattle.demands.proofs.Demand1.{refusal_only_place}
use Rattle.demands.proofs.Sheets.{sheet_says}
use Rattle.demands.proofs.Planned.{plan_in_rows, run_accepted, starts_in_rows, ends_in_rows}

-- The refusals.
module _ (r : Run) (froms tos : List ℕ) (row : List ℤ) where
  buys_of_run : (k : Refusal) (p : ℕ) → number_of k ≤ 7 → BuysApplies r froms tos row k p → RunApplies r k p
  buys_of_run k p l (BuysApplies.run h) = h
  buys_of_run k p l (BuysApplies.bad_list h) = absurd (omega arith)
  buys_of_run k p l (BuysApplies.short_row h) = absurd (omega arith)

  buys_list : (p : ℕ) → BuysApplies r froms tos row BadEntry p → ListIsBad r froms tos p
  buys_list p (BuysApplies.run h) = absurd (omega (arith, run_small r h))
  buys_list p (BuysApplies.bad_list h) = h

  buys_row_here : (p : ℕ) → BuysApplies r froms tos row ShortRow p → (p ≡ 0) × (length row < length froms)
  buys_row_here p (BuysApplies.run h) = absurd (omega (arith, run_small r h))
  buys_row_here p (BuysApplies.short_row h) = (refl, h)

  -- A list that is accepted has as many entries as starts.
  entries : refuses (list_verdict (stops_of r) froms tos) ≡ false → length (list_of froms tos) ≡ length froms
  entries e = length_list froms tos (accepted_list (stops_of r) froms tos e).even

  buys_finds : Finds (BuysApplies r froms tos row) price_order (figures_verdict r froms tos row)
  unfolding figures_verdict
  buys_finds =
      let short = refuse_if (ltb (length row) (length (list_of froms tos))) ShortRow in
      run_finds r (BuysApplies r froms tos row) (λ k p. BuysApplies.run) buys_of_run (BadEntry ∷ ShortRow ∷ []) (list_verdict (stops_of r) froms tos ∷ short ∷ [])
      (λ a. finds_first (BuysApplies r froms tos row) (short ∷ []) refl
      (decides_reworded (λ p. BuysApplies.bad_list) buys_list (decides_list r (accepted_run r a) froms tos (sym (accepted_run r a).wants.equal)))
      (λ b. finds_first (BuysApplies r froms tos row) {v = short} [] refl
      (decides_reworded (λ p h. rw h.0 (BuysApplies.short_row h.1)) buys_row_here
      (rw (entries b) (decides_if (ltb (length row) (length froms)) ShortRow (tells_below (length row) (length froms)))))
      (λ c. finds_none (BuysApplies r froms tos row))))

  buys_says : (b : Bool) → refuses (figures_verdict r froms tos row) ≡ b → ByTheTable (BuysApplies r froms tos row) price_order row (figures_answer r froms tos row) (figures_row r froms tos row)
  unfolding figures_answer figures_row priced_answer figures_verdict
  buys_says true e = rw e (record { first = buys_finds; kept = λ n. (refusal_only_place (figures_verdict r froms tos row), refl) })
  buys_says false e = rw e (record { first = rw (none_refuses (judge_of r ∷ list_verdict (stops_of r) froms tos ∷ refuse_if (ltb (length row) (length (list_of froms tos))) ShortRow ∷ []) e) at buys_finds; kept = λ n. absurd (n refl) })

pub figures_answer_lem : FiguresAnswer
figures_answer_lem r froms tos row answer out says fills = rw (says, fills) (buys_says r froms tos row (refuses (figures_verdict r froms tos row)) refl)

pub figures_refused_iff : FiguresAnswerIff
figures_refused_iff r froms tos row answer says =
    refused_iff (BuysApplies r froms tos row) (figures_answer_lem r froms tos row answer (figures_row r froms tos row) says refl).first (refl, (refl, (refl, (refl, (refl, (refl, (refl, (refl, (refl, tt)))))))))

-- The figure sheet.
pub demand1_figure_sheet : Demand1FigureSheet
unfolding figure_sheet_verdict
demand1_figure_sheet name r froms tos row answer out says fills = rw (says, fills) (sheet_says name r froms tos (figure_text name r froms tos) row)

pub figures_one : FiguresOne
figures_one r froms tos row answer answer' out out' fits fits' = (fits.0 ∙ sym fits'.0, fits.1 ∙ sym fits'.1)

-- Of two whole numbers the one less the other.
pub is_less : (a b : ℕ) → IsLess a b (pos a -ℤ pos b)
is_less a zero = IsLess.over {n = a + 0} (omega arith)
is_less a (suc b) =
    elim (dec_lt a (suc b)) [
      | yes h ↦ rw (lt-ltb a (suc b) h) (IsLess.under {n = suc b - suc a} (omega arith))
      | no n ↦ rw (le-ltb a (suc b) (omega arith)) (IsLess.over {n = a - suc b} (omega arith))
    ]

pub less_above : (a b : ℕ) (z : ℤ) → IsLess a b z → b < a → (n : ℕ) × (0 < n) × (z ≡ pos n)
less_above a b z (IsLess.over {n} e) l = (n, omega (arith, e, l), refl)
less_above a b z (IsLess.under e) l = absurd (omega (arith, e, l))

-- The list without an entry, in other words.
pub without_is : (list : List Detour) (i : ℕ) → without i list ≡ left_out list i
unfolding without
without_is [] zero = refl
without_is [] (suc i) = refl
without_is (d ∷ list) zero = refl
without_is (d ∷ list) (suc i) = ap (λ l. d ∷ l) (without_is list i)

-- What an entry of a well-formed list buys.
pub bought_at : (r : Run) (list : List Detour) (i : ℕ) → i < length list → WellFormed (stops_of r) list → IsBought r list i (figure_of r list i)
unfolding figure_of priced_answer
bought_at r list i l formed =
    let e = without_is list i in
    record { formed = rw (← e) (without_formed (stops_of r) list i l formed); less = rw (← e) (is_less _ _) }

-- An accepted list in two rows, and a row for its figures.
module _ (r : Run) (froms tos : List ℕ) (p : Priceable r froms tos) where
  even : length froms ≡ length tos
  even = (accepted_list (stops_of r) froms tos p.list).even

  count : length (list_of froms tos) ≡ length froms
  count = length_list froms tos even

  size : length (figures_of r (list_of froms tos)) ≡ length froms
  size = figures_length r (list_of froms tos) _ 0 ∙ count

  figure_in : (rest : List ℤ) (i : ℕ) → i < length froms → get_or (figures_of r (list_of froms tos) ++ rest) i (pos 0) ≡ figure_of r (list_of froms tos) i
  figure_in rest i l =
      get_or-append (figures_of r (list_of froms tos)) rest (pos 0) i (omega (arith, size)) ∙ sym (figure_at r (list_of froms tos) i (omega (arith, count)))

  bought : (i : ℕ) → i < length froms → IsBought r (list_of froms tos) i (figure_of r (list_of froms tos) i)
  bought i l = bought_at r (list_of froms tos) i (omega (arith, count)) (list_formed (stops_of r) froms tos p.list)

  told : (row : List ℤ) → length froms ≤ length row → (answer : Answer) → answer ≡ priced_answer r (list_of froms tos)
      → (out : List ℤ) → out ≡ figures_of r (list_of froms tos) ++ drop (length froms) row → FiguresTold r froms tos row answer out
  unfolding priced_answer
  told row fits answer says out is =
      record {
        even = even;
        formed = list_formed (stops_of r) froms tos p.list;
        sum = rw says refl;
        finish = rw says refl;
        end = rw says refl;
        number = rw says count;
        each = λ i l. rw (is, figure_in (drop (length froms) row) i l) (bought i l);
        long = rw is (omega (arith, length-append (figures_of r (list_of froms tos)) (drop (length froms) row), length-drop (length froms) row, size, fits));
        later = rw is (drop_at (figures_of r (list_of froms tos)) (drop (length froms) row) (length froms) size);
      }

-- An answer that is no refusal comes of a verdict that is none.
module _ (r : Run) (froms tos : List ℕ) (row : List ℤ) (answer : Answer) (says : answer ≡ figures_answer r froms tos row) (accepts : answer.refusal ≡ Accepted) where
  figures_accept : refuses (figures_verdict r froms tos row) ≡ false
  unfolding figures_answer
  figures_accept =
      ⊎_elim
      (λ e. absurd (true≢false (sym e ∙ ap is_refusal (sym (ap (λ (a : Answer). a.refusal) (rw e at says)) ∙ accepts))))
      (λ e. e)
      (true_or_false (refuses (figures_verdict r froms tos row)))

  figures_pass : Priceable r froms tos × (ltb (length row) (length (list_of froms tos)) ≡ false)
  unfolding figures_verdict
  figures_pass =
      let all = all_accept (judge_of r ∷ list_verdict (stops_of r) froms tos ∷ refuse_if (ltb (length row) (length (list_of froms tos))) ShortRow ∷ []) figures_accept in
      (record { run = all.0; list = all.1.0 }, accepts_if _ ShortRow refl all.1.1.0)

  pub figures_run : refuses (judge_of r) ≡ false
  figures_run = figures_pass.0.run

pub figures_tell : FiguresTell
unfolding figures_answer figures_row
figures_tell r froms tos row answer out says fills accepts =
    let e = figures_accept r froms tos row answer says accepts in
    let pass = figures_pass r froms tos row answer says accepts in
    let n = count r froms tos pass.0 in
    told r froms tos pass.0 row (omega (arith, ltb-false (length row) (length (list_of froms tos)) pass.1, n))
    answer (rw e at says) out ((rw e at fills) ∙ ap (λ k. figures_of r (list_of froms tos) ++ drop k row) n)

-- Where two entries of a list have different ends, the start for a file in the list without an entry is none, or the one in the list.
abbrev pub Apart : List Detour → Type 0
Apart list = (j k : ℕ) → j < k → k < length list → (entry_of list j).to ≡ (entry_of list k).to → ⊥

none_ends : (list : List Detour) (f : ℕ) → ((k : ℕ) → k < length list → (entry_of list k).to ≡ f → ⊥) → start_for list f ≡ 0
unfolding start_for
none_ends [] f none = refl
none_ends (d ∷ list) f none =
    rw (ne_eqb d.to f (none 0 (omega arith))) (none_ends list f (λ k l. none (suc k) (omega arith)))

start_without : (list : List Detour) (i f : ℕ) → Apart list → (start_for (without i list) f ≡ 0) ⊎ (start_for (without i list) f ≡ start_for list f)
unfolding start_for without
start_without [] i f apart = inl refl
start_without (d ∷ list) zero f apart = go (eqb d.to f) refl
  where
    go : (b : Bool) → eqb d.to f ≡ b → (start_for list f ≡ 0) ⊎ (start_for list f ≡ cond (eqb d.to f) d.from (start_for list f))
    go true e = inl (none_ends list f (λ k l h. apart 0 (suc k) (omega arith) (omega arith) (eqb-true d.to f e ∙ sym h)))
    go false e = inr (rw e refl)
start_without (d ∷ list) (suc i) f apart = go (eqb d.to f) refl (start_without list i f (λ j k l m. apart (suc j) (suc k) (omega arith) (omega arith)))
  where
    go : (b : Bool) → eqb d.to f ≡ b → (start_for (without i list) f ≡ 0) ⊎ (start_for (without i list) f ≡ start_for list f)
        → (cond (eqb d.to f) d.from (start_for (without i list) f) ≡ 0) ⊎ (cond (eqb d.to f) d.from (start_for (without i list) f) ≡ cond (eqb d.to f) d.from (start_for list f))
    go true e rest = inr (rw e refl)
    go false e rest = rw e rest

-- So the list never comes before itself without an entry.
pub not_first : (list : List Detour) (i : ℕ) → Apart list → ComesFirst list (without i list) → ⊥
not_first list i apart first =
    ⊎_elim
    (λ none. ⊎_elim (λ s. omega (arith, none, s.1)) (λ s. omega (arith, none, s.0)) first.sooner)
    (λ same. ⊎_elim (λ s. omega (arith, same, s.0, s.1)) (λ s. omega (arith, same, s.1)) first.sooner)
    (start_without list i first.file apart)

-- In a well-formed list no two entries have one end.
pub ends_apart : (stops : List Stop) (list : List Detour) → WellFormed stops list → Apart list
ends_apart stops list formed j k l m e =
    let rules = (formed_by_the_rules stops list).0 formed in
    let lower = falls stops list rules k j l m in
    let ordered = (rules.each j (omega arith)).ordered in
    ⊎_elim (λ h. omega (arith, e, h, ordered)) (λ h. omega (arith, e, h)) (rules.apart k j m (omega arith) lower)

-- A least list has a smaller sum than itself without an entry, whatever sums are: the list without it is no earlier at a tie.
pub less_without : (sum : List Detour → ℕ) (list : List Detour) (i : ℕ) → i < length list → Apart list → sum list ≤ sum (without i list)
    → (sum (without i list) ≡ sum list → (without i list ≡ list) ⊎ ComesFirst list (without i list)) → sum list < sum (without i list)
less_without sum list i l apart smallest first =
    by_cases (dec_lt (sum list) (sum (without i list))) (λ h. h)
    (λ n. absurd
    (⊎_elim
    (λ same. omega (arith, ap length same, without_length i list l))
    (not_first list i apart)
    (first (omega (arith, n, smallest)))))

cheaper : (price m : ℕ) (stops : List Stop) (list : List Detour) → LeastFor price m stops list → (i : ℕ) → i < length list
    → list_sum price m stops list < list_sum price m stops (without i list)
cheaper price m stops list least i l =
    let formed = without_formed stops list i l least.formed in
    less_without (list_sum price m stops) list i l (ends_apart stops list least.formed) (least.smallest (without i list) formed) (least.first (without i list) formed)

-- A plan's list is accepted by itself, in two rows.
module _ (r : Run) (list : List Detour) (accepts : refuses (judge_of r) ≡ false) (least : LeastFor r.turn r.head (stops_of r) list) (row : List ℤ) (fits : length list ≤ length row) where
  rows_priceable : Priceable r (map (λ d. d.from) list) (map (λ d. d.to) list)
  rows_priceable =
      record {
        run = accepts;
        list =
            list_accepted (stops_of r) (map (λ d. d.from) list) (map (λ d. d.to) list) (length-map list (λ d. d.from) ∙ sym (length-map list (λ d. d.to)))
            (rw (list_of_halves list) least.formed);
      }

  pays : (i : ℕ) → i < length list → (n : ℕ) × (0 < n) × (figure_of r list i ≡ pos n)
  unfolding figure_of priced_answer
  pays i l = less_above _ _ _ (is_less _ _) (cheaper r.turn r.head (stops_of r) list least i l)

  plan_pays : PlanPays (priced_answer r list) (figures_answer r (map (λ d. d.from) list) (map (λ d. d.to) list) row) (figures_row r (map (λ d. d.from) list) (map (λ d. d.to) list) row)
  unfolding priced_answer
  plan_pays =
      let so = figured_so r (map (λ d. d.from) list) (map (λ d. d.to) list) row rows_priceable (omega (arith, length-map list (λ d. d.from), fits)) _ refl in
      let at : (i : ℕ) → i < length list → get_or (figures_row r (map (λ d. d.from) list) (map (λ d. d.to) list) row) i (pos 0) ≡ figure_of r list i =
      λ i l. rw (← so.1) (figure_in r (map (λ d. d.from) list) (map (λ d. d.to) list) rows_priceable _ i (omega (arith, length-map list (λ d. d.from))) ∙ ap (λ l. figure_of r l i) (list_of_halves list)) in
      record {
        same = sym so.0 ∙ ap (priced_answer r) (list_of_halves list);
        not_below = λ i l. ((pays i l).0, at i l ∙ (pays i l).2);
        above = λ i l. ((pays i l).0, (pays i l).1, at i l ∙ (pays i l).2);
      }

  plan_so : (planned : Answer) → planned ≡ priced_answer r list → (starts ends : List ℕ) → starts ≡ map (λ d. d.from) list → ends ≡ map (λ d. d.to) list
      → (answer : Answer) → answer ≡ figures_answer r starts ends row → (out : List ℤ) → out ≡ figures_row r starts ends row → PlanPays planned answer out
  plan_so planned is starts ends starts_are ends_are answer says out fills = rw (says, fills, starts_are, ends_are, is) plan_pays

long_enough : (r : Run) (list : List Detour) (planned : Answer) (row : List ℤ) → planned ≡ priced_answer r list → planned.detours ≤ length row → length list ≤ length row
unfolding priced_answer
long_enough r list planned row says fits = rw says at fits

pub plans_pay : PlansPay
plans_pay r before planned after plans accepts row fits answer says out fills =
    let plan = plan_in_rows r before planned after plans accepts in
    plan_so r plan.list (run_accepted r before planned after plans accepts) plan.least row (long_enough r plan.list planned row plan.says fits)
    planned plan.says _ _
    (starts_in_rows r plan.list before planned after plan.says plan.rows) (ends_in_rows r plan.list before planned after plan.says plan.rows)
    answer says out fills

-- The worked figures, by evaluation.
pub bought_worked : BoughtHold
unfolding figures_answer figures_row figures_verdict figures_by figure_of without priced_answer judge_of first_where goes_on first_member last_within want_stops join_to joined right_end list_verdict list_of first_bad_entry wanted any_below start_of end_of served unread_end sweep_end last_sweep legs_of walked time_of sum_of
bought_worked = (
  record { accepted = refl; fills = refl },
  (
    record { accepted = refl; fills = refl },
    (
      record { accepted = refl; fills = refl },
      (record { accepted = refl; fills = refl }, record { accepted = refl; first = refl }),
    ),
  ),
)
