-- The order of the sheets matters only for the tie: a reordering keeps every count and every total, and the longest time; and where one run alone has
-- that, its file and its tape.
use Prim.Native.Nat.{ℕ, zero, suc, ◌+◌, ◌≤◌, ◌<◌}
use mathlib.Core.Path.{◌≡◌, refl, sym, ap, ◌∙◌, subst}
use mathlib.Core.Bool.{Bool, true, false, cond, true≢false}
use mathlib.Core.Logic.{◌⊎◌, inl, inr, by_cases}
use mathlib.Core.List.{List, [], ◌∷◌, ◌++◌}
use native.Mathlib.Omega.{arith}
use native.Mathlib.Decide.{dec_lt}
use Rattle.std.specs.Prelude.{Ok}
use lib.ListN.{length}
use lib.Dec.{eqb}
use borrow.Author.Tests.{eq-eqb}
use Rattle.refusals.specs.declared.Verdict.{Verdict}
use Rattle.refusals.specs.Refusals.{is_refusal}
use Rattle.answer_outcome.specs.declared.Outcome.{Outcome}
use Rattle.answer_outcome.specs.Outcomes.{OutcomeOf}
use Rattle.answer_outcome.proofs.Outcomes.{outcome_once}
use Rattle.answer_month.specs.declared.Month.{Month}
use Rattle.answer_month.specs.Month.{empty_month, added, added_all}
use Rattle.answer_month.specs.Page.{PagePut}
use Rattle.promises.specs.Months.{Every, Outcomes, how_many_runs, is_accepted_run, of_accepted, in_all, is_refused_by, longest_time, NoneRead, FirstLongest, MonthFigures, Reordered, same, behind_first, swapped, both, SameTotals, SameNames, OneLongest, OrderIsTie, OnePage, OneSheetMore}
use Rattle.promises.proofs.MonthTotals.{every_map, every_append, every_at, many_append, none_longer, month_counts}

-- The outcomes of sheets are one list.
outcomes_once : (sheets : List (List ℕ)) (runs runs' : List Outcome) → Outcomes sheets runs → Outcomes sheets runs' → runs ≡ runs'
outcomes_once [] [] [] o p = refl
outcomes_once [] [] (r ∷ runs') o p = absurd p
outcomes_once [] (r ∷ runs) runs' o p = absurd o
outcomes_once (s ∷ sheets) [] runs' o p = absurd o
outcomes_once (s ∷ sheets) (r ∷ runs) [] o p = absurd p
outcomes_once (s ∷ sheets) (r ∷ runs) (r' ∷ runs') o p =
    ap (λ x. x ∷ runs) (outcome_once s r r' o.0 p.0) ∙ ap (λ l. r' ∷ l) (outcomes_once sheets runs runs' o.1 p.1)

-- Sheets in another order have their outcomes in that order.
record Carried (sheets : List (List ℕ)) (runs : List Outcome) : Type 0 where
  list : List Outcome
  outcomes : Outcomes sheets list
  order : Reordered runs list

carried : {sheets sheets' : List (List ℕ)} → Reordered sheets sheets' → (runs : List Outcome) → Outcomes sheets runs → Carried sheets' runs
carried same runs o = record { list = runs; outcomes = o; order = same }
carried (behind_first p) [] o = absurd o
carried (behind_first p) (r ∷ runs) o =
    let c = carried p runs o.1 in
    record { list = r ∷ c.list; outcomes = (o.0, c.outcomes); order = behind_first c.order }
carried swapped [] o = absurd o
carried swapped (r ∷ []) o = absurd o.1
carried swapped (r ∷ (r' ∷ runs)) o = record { list = r' ∷ (r ∷ runs); outcomes = (o.1.0, (o.0, o.1.1)); order = swapped }
carried (both p q) runs o =
    let c = carried p runs o in
    let d = carried q c.list c.outcomes in
    record { list = d.list; outcomes = d.outcomes; order = both c.order d.order }

-- What a reordering keeps.
same_length : {xs ys : List Outcome} → Reordered xs ys → length xs ≡ length ys
same_length same = refl
same_length (behind_first p) = ap suc (same_length p)
same_length swapped = refl
same_length (both p q) = same_length p ∙ same_length q

same_many : (test : Outcome → Bool) {xs ys : List Outcome} → Reordered xs ys → how_many_runs test xs ≡ how_many_runs test ys
unfolding how_many_runs
same_many test same = refl
same_many test (behind_first {x} p) = ap (λ n. cond (test x) 1 0 + n) (same_many test p)
same_many test swapped = omega arith
same_many test (both p q) = same_many test p ∙ same_many test q

same_all : (figure : Outcome → ℕ) {xs ys : List Outcome} → Reordered xs ys → in_all figure xs ≡ in_all figure ys
unfolding in_all
same_all figure same = refl
same_all figure (behind_first {x} p) = ap (λ n. of_accepted figure x + n) (same_all figure p)
same_all figure swapped = omega arith
same_all figure (both p q) = same_all figure p ∙ same_all figure q

same_every : (P : Outcome → Type 0) {xs ys : List Outcome} → Reordered xs ys → Every P xs → Every P ys
same_every P same e = e
same_every P (behind_first p) e = (e.0, same_every P p e.1)
same_every P swapped e = (e.1.0, (e.0, e.1.1))
same_every P (both p q) e = same_every P q (same_every P p e)

back : {xs ys : List Outcome} → Reordered xs ys → Reordered ys xs
back same = same
back (behind_first p) = behind_first (back p)
back swapped = swapped
back (both p q) = both (back q) (back p)

-- The longest time of one list is no longer than that of the other.
no_longer : {xs ys : List Outcome} → Reordered xs ys → (m m' : Month) → MonthFigures xs m → MonthFigures ys m' → m.time ≤ m'.time
no_longer {xs} {ys} p m m' f g = go f.longest
  where
    go : NoneRead xs m ⊎ FirstLongest xs m → m.time ≤ m'.time
    go (inl n) = omega (arith, n.time)
    go (inr l) =
        let most = same_every (λ r. longest_time r ≤ m'.time) (back p) (none_longer ys m' g.longest) in
        let here = every_at (λ r. longest_time r ≤ m'.time) l.earlier l.run l.later (subst (Every (λ r. longest_time r ≤ m'.time)) l.stands most) in
        omega (arith, l.time, here)

-- Where a test holds for one alone, it holds for no other.
none_of : (test : Outcome → Bool) (x : Outcome) (xs : List Outcome) → how_many_runs test xs ≡ 0 → Every (λ r. test r ≡ true → r ≡ x) xs
unfolding how_many_runs
none_of test x [] e = tt
none_of test x (y ∷ ys) e = (λ q. absurd (above (test y) (how_many_runs test ys) q e), none_of test x ys (rest (test y) (how_many_runs test ys) e))
  where
    above : (b : Bool) (n : ℕ) → b ≡ true → cond b 1 0 + n ≡ 0 → ⊥
    above true n q h = omega arith
    above false n q h = true≢false (sym q)

    rest : (b : Bool) (n : ℕ) → cond b 1 0 + n ≡ 0 → n ≡ 0
    rest true n h = omega arith
    rest false n h = omega arith

alone : (test : Outcome → Bool) (earlier : List Outcome) (x : Outcome) (later : List Outcome) → test x ≡ true → how_many_runs test (earlier ++ (x ∷ later)) ≤ 1
    → Every (λ r. test r ≡ true → r ≡ x) (earlier ++ (x ∷ later))
unfolding how_many_runs
alone test earlier x later q few =
    let parts = many_append test earlier (x ∷ later) in
    let here : ◌≡◌ {A = ℕ} (cond (test x) 1 0) 1 = rw q refl in
    every_append (λ r. test r ≡ true → r ≡ x) earlier (x ∷ later) (none_of test x earlier (omega (arith, parts, here)))
    (λ z. refl, none_of test x later (omega (arith, parts, here)))

module _ {xs ys : List Outcome} (p : Reordered xs ys) (m m' : Month) (f : MonthFigures xs m) (g : MonthFigures ys m') where
  same_time : m.time ≡ m'.time
  same_time = omega (arith, no_longer p m m' f g, no_longer (back p) m' m g f)

  same_totals : SameTotals m m'
  same_totals =
      record {
        sheets = f.sheets ∙ same_length p ∙ sym g.sheets;
        accepted = f.accepted ∙ same_many is_accepted_run p ∙ sym g.accepted;
        refused = λ n. f.refused n ∙ same_many (is_refused_by n) p ∙ sym (g.refused n);
        reads = f.reads ∙ same_all (λ r. r.reads) p ∙ sym g.reads;
        sum = f.sum ∙ same_all (λ r. r.sum) p ∙ sym g.sum;
        saved = f.saved ∙ same_all (λ r. r.saved) p ∙ sym g.saved;
        time = same_time;
      }

  same_run : how_many_runs (λ r. eqb (longest_time r) m.time) xs ≤ 1 → (l : FirstLongest xs m) (l' : FirstLongest ys m') → l'.run ≡ l.run
  same_run one l l' =
      let test : Outcome → Bool = λ r. eqb (longest_time r) m.time in
      let few : how_many_runs test (l.earlier ++ (l.run ∷ l.later)) ≤ 1 = subst (λ x. how_many_runs test x ≤ 1) l.stands one in
      let each = alone test l.earlier l.run l.later (eq-eqb (longest_time l.run) m.time (sym l.time)) few in
      let there = same_every (λ r. test r ≡ true → r ≡ l.run) p (subst (Every (λ r. test r ≡ true → r ≡ l.run)) (sym l.stands) each) in
      every_at (λ r. test r ≡ true → r ≡ l.run) l'.earlier l'.run l'.later (subst (Every (λ r. test r ≡ true → r ≡ l.run)) l'.stands there)
      (eq-eqb (longest_time l'.run) m.time (sym l'.time ∙ sym same_time))

  same_names : OneLongest xs m → SameNames m m'
  same_names one = go f.longest g.longest
    where
      go : NoneRead xs m ⊎ FirstLongest xs m → NoneRead ys m' ⊎ FirstLongest ys m' → SameNames m m'
      go (inl n) (inl n') = record { file = n.file ∙ sym n'.file; letters = n.letters ∙ sym n'.letters; tape = λ l. absurd (omega (arith, l, n.time)) }
      go (inl n) (inr l') = absurd (omega (arith, n.time, l'.time, l'.read, same_time))
      go (inr l) (inl n') = absurd (omega (arith, n'.time, l.time, l.read, same_time))
      go (inr l) (inr l') =
          let e = same_run one l l' in
          record {
            file = l.file ∙ sym (l'.file ∙ ap (λ r. r.file) e);
            letters = l.letters ∙ sym (l'.letters ∙ ap (λ r. r.letters) e);
            tape = λ z. l.tape ∙ sym (l'.tape ∙ ap (λ r. r.tape) e);
          }

pub sheets_length : {xs ys : List (List ℕ)} → Reordered xs ys → length xs ≡ length ys
sheets_length same = refl
sheets_length (behind_first p) = ap suc (sheets_length p)
sheets_length swapped = refl
sheets_length (both p q) = sheets_length p ∙ sheets_length q

pub order_is_tie : OrderIsTie
order_is_tie sheets sheets' runs runs' few p o o' =
    let c = carried p runs o in
    let q : Reordered runs runs' = subst (Reordered runs) (outcomes_once sheets' c.list runs' c.outcomes o') c.order in
    let f = month_counts sheets runs few o in
    let g = month_counts sheets' runs' (omega (arith, few, sheets_length p)) o' in
    (same_totals q _ _ f g, same_names q _ _ f g)

pub one_page : OnePage
one_page m v row n n' row' row'' p q = (p.bytes ∙ sym q.bytes, p.left ∙ sym q.left)

pub one_sheet_more : OneSheetMore
one_sheet_more m bytes there sheet r s p q =
    by_cases (dec_lt there bytes) (λ l. p.cut l ∙ sym (q.cut l))
    (λ n.
    let a = p.whole (omega arith) in
    let b = q.whole (omega arith) in
    a.1.1 ∙ ap (λ o. Ok (added m o)) (outcome_once sheet a.0 b.0 a.1.0 b.1.0) ∙ sym b.1.1)
