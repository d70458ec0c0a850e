-- The figures of 01: what each is, and that both sums of each are small.
use Prim.Native.Nat.{ℕ, zero, suc, ◌+◌, ◌≤◌, ◌<◌, ◌^◌}
use mathlib.Core.Path.{◌≡◌, refl, sym, ap, ◌∙◌}
use mathlib.Core.Bool.{false, not}
use mathlib.Core.List.{List, [], ◌∷◌, ◌++◌}
use native.Mathlib.Omega.{arith}
use lib.ListN.{length, get_or, drop}
use lib.Dec.{eqb}
use lib.IntN.{ℤ, pos}
use borrow.Author.Tests.{eq-eqb, le-ltb}
use Rattle.refusals.specs.declared.Refusal.TheVariants.{BadEntry}
use Rattle.refusals.specs.Refusals.{refuse_if, refuse_at}
use Rattle.refusals.proofs.Verdicts.{refuses, all_accept, accepts_at}
use Rattle.runs.specs.Run.{Run, Stop, stops_of}
use Rattle.runs.specs.Lists.{Detour, list_of, list_verdict, first_bad_entry, WellFormed}
use Rattle.runs.proofs.Entries.{length_list}
use Rattle.runs.proofs.Judged.{GoodRun, accepted_run}
use Rattle.walk.specs.Price.{priced_answer}
use Rattle.walk.proofs.Walks.{GoodList, accepted_list, list_fits_lem}
use Rattle.walk.proofs.Laws.{sum_below_lem}
use Rattle.figures.specs.Figures.{without, figure_of, figures_by, figures_of, figures_verdict, figures_answer, figures_row}
use Rattle.figures.specs.Private.{Priceable}
use Rattle.figures.proofs.Without.{without_length, without_list, without_formed}

-- A list that two rows of one length hold is accepted where it is well formed, and the other way round.
pub list_accepted : (stops : List Stop) (froms tos : List ℕ) → length froms ≡ length tos → WellFormed stops (list_of froms tos) → refuses (list_verdict stops froms tos) ≡ false
unfolding list_verdict
list_accepted stops froms tos e w = rw (eq-eqb (length froms) (length tos) e, w)

pub list_formed : (stops : List Stop) (froms tos : List ℕ) → refuses (list_verdict stops froms tos) ≡ false → WellFormed stops (list_of froms tos)
unfolding list_verdict
list_formed stops froms tos e =
    accepts_at _ BadEntry refl (all_accept (refuse_if (not (eqb (length froms) (length tos))) BadEntry ∷ refuse_at (first_bad_entry stops (list_of froms tos)) BadEntry ∷ []) e).1.0

module _ (r : Run) (froms tos : List ℕ) (p : Priceable r froms tos) where
  good : GoodRun r
  good = accepted_run r p.run

  list : GoodList (stops_of r) froms tos
  list = accepted_list (stops_of r) froms tos p.list

  pub even : length froms ≡ length tos
  even = list.even

  pub few : length froms ≤ 64
  few = omega (arith, list_fits_lem r good froms tos list, good.wants.few)

  -- And so is it without an entry.
  pub priceable_without : (i : ℕ) → i < length froms → Priceable r (without i froms) (without i tos)
  priceable_without i l =
      let formed = without_formed (stops_of r) (list_of froms tos) i (omega (arith, length_list froms tos even)) (list_formed (stops_of r) froms tos p.list) in
      record {
        run = p.run;
        list =
            list_accepted (stops_of r) (without i froms) (without i tos) (omega (arith, even, without_length i froms l, without_length i tos (omega (arith, even))))
            (rw (without_list i froms tos even) formed);
      }

-- Every sum is far below what a signed word holds.
pub sum_small : (r : Run) (froms tos : List ℕ) → Priceable r froms tos → (priced_answer r (list_of froms tos)).sum < 2 ^ 58
sum_small r froms tos p = sum_below_lem r froms tos p.run p.list

pub sum_without_small : (r : Run) (froms tos : List ℕ) (p : Priceable r froms tos) (i : ℕ) → i < length froms → (priced_answer r (without i (list_of froms tos))).sum < 2 ^ 58
sum_without_small r froms tos p i l =
    rw (← (without_list i froms tos (even r froms tos p))) (sum_small r (without i froms) (without i tos) (priceable_without r froms tos p i l))

-- The figures: as many as entries, each its entry's.
pub by_length : (buys : ℕ → ℤ) (n i : ℕ) → length (figures_by buys n i) ≡ n
unfolding figures_by
by_length buys zero i = refl
by_length buys (suc n) i = ap suc (by_length buys n (suc i))

by_at : (buys : ℕ → ℤ) (n i j : ℕ) → j < n → get_or (figures_by buys n i) j (pos 0) ≡ buys (i + j)
unfolding figures_by
by_at buys zero i j l = absurd (omega arith)
by_at buys (suc n) i zero l = ap buys (omega arith)
by_at buys (suc n) i (suc j) l = by_at buys n (suc i) j (omega arith) ∙ ap buys (omega arith)

pub by_entry : (buys : ℕ → ℤ) (n j : ℕ) → j < n → buys j ≡ get_or (figures_by buys n 0) j (pos 0)
by_entry buys n j l = let e : 0 + j ≡ j = omega arith in sym (rw e at (by_at buys n 0 j l))

pub by_same : (buys buys' : ℕ → ℤ) → ((i : ℕ) → buys i ≡ buys' i) → (n i : ℕ) → figures_by buys n i ≡ figures_by buys' n i
unfolding figures_by
by_same buys buys' e zero i = refl
by_same buys buys' e (suc n) i = rw (e i, by_same buys buys' e n (suc i))

pub figures_length : (r : Run) (list : List Detour) (n i : ℕ) → length (figures_by (figure_of r list) n i) ≡ n
figures_length r list n i = by_length (figure_of r list) n i

pub figure_at : (r : Run) (list : List Detour) (j : ℕ) → j < length list → figure_of r list j ≡ get_or (figures_of r list) j (pos 0)
figure_at r list j l = by_entry (figure_of r list) (length list) j l

module _ (r : Run) (froms tos : List ℕ) (row : List ℤ) (p : Priceable r froms tos) where
  count : length (list_of froms tos) ≡ length froms
  count = length_list froms tos (even r froms tos p)

  pub figured_so : length froms ≤ length row → (row' : List ℤ) → row' ≡ figures_of r (list_of froms tos) ++ drop (length froms) row
      → (priced_answer r (list_of froms tos) ≡ figures_answer r froms tos row) × (row' ≡ figures_row r froms tos row)
  unfolding figures_answer figures_row figures_verdict
  figured_so l row' is =
      let s = le-ltb (length row) (length (list_of froms tos)) (omega (arith, count)) in
      (rw (p.run, p.list, s) refl, rw (p.run, p.list, s, is, count) refl)
