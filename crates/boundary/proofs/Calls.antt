-- Codes and verdicts: an answer's code is that of its verdict, and the calls' own checks come down to those of the crates below.
use Prim.Native.Nat.{ℕ, ◌+◌, ◌*◌, ◌≤◌, ◌<◌}
use mathlib.Core.Path.{◌≡◌, refl, ap, sym, ◌∙◌}
use mathlib.Core.Bool.{Bool, true, false, cond, true≢false}
use mathlib.Core.Logic.{⊎_elim}
use mathlib.Core.List.{List, [], ◌∷◌}
use native.Mathlib.Omega.{arith}
use lib.ListN.{length, drop, set}
use borrow.Author.Tests.{lt-ltb, le-ltb, eq-eqb}
use Rattle.refusals.specs.declared.Refusal.{Refusal}
use Rattle.refusals.specs.declared.Verdict.{Verdict}
use Rattle.refusals.specs.declared.Refusal.TheVariants.{Accepted, ShortRow}
use Rattle.walk.specs.declared.Answer.{Answer}
use Rattle.refusals.specs.Refusals.{number_of, is_refusal, refuse_if, first_of, accepted}
use Rattle.runs.specs.Run.{Run, stops_of}
use Rattle.runs.specs.Judging.{judge_of}
use Rattle.runs.specs.Lists.{list_of, list_verdict}
use Rattle.runs.specs.AnyHead.{judge_any_of, list_verdict_any}
use Rattle.walk.specs.Price.{refusal_answer, priced_answer, short_read_rows, price_verdict, price_answer, price_rows}
use Rattle.walk.specs.AnyHead.{priced_any_answer, price_any_verdict, price_any_answer, price_any_rows}
use Rattle.walk.specs.Rows.{ReadRows, read_rows}
use Rattle.runs.proofs.Search.{true_or_false}
use Rattle.refusals.proofs.Verdicts.{refuses, none_refuses}
use Rattle.walk.proofs.Priced.{Parts, priceParts, anyParts, verdict_of}
use Rattle.walk.proofs.Places.{place_most, price_near}
use Rattle.boundary.proofs.AnyPlaces.{price_any_near}
use Rattle.boundary.specs.Boundary.{code_of, sums_with, short_sums, price_call, price_reads, price_sums, price_any_call, price_any_reads, price_any_sums}

-- Four stores are the four numbers before the rest.
pub four_set : (w x y z : ℕ) (row : List ℕ) → 4 ≤ length row → set (set (set (set row 0 w) 1 x) 2 y) 3 z ≡ w ∷ x ∷ y ∷ z ∷ drop 4 row
four_set w x y z [] l = absurd (omega arith)
four_set w x y z (a ∷ []) l = absurd (omega arith)
four_set w x y z (a ∷ b ∷ []) l = absurd (omega arith)
four_set w x y z (a ∷ b ∷ c ∷ []) l = absurd (omega arith)
four_set w x y z (a ∷ b ∷ c ∷ d ∷ row) l = refl

-- A code is 0 exactly where nothing is refused.
pub code_refuses : (v : Verdict) → (code_of v ≡ 0 → ⊥) → (refuses v ≡ false → v ≡ accepted) → refuses v ≡ true
code_refuses v some none = ⊎_elim (λ h. h) (λ h. absurd (some (ap code_of (none h)))) (true_or_false (refuses v))

pub code_accepts : (v : Verdict) → code_of v ≡ 0 → refuses v ≡ false
code_accepts v e = rw (eq-eqb (number_of v.refusal) 0 (omega arith))

-- A pricer's answer and its code, 01's or that for a head anywhere: of the verdicts on run and list, the rows, and what is answered where none refuses.
abbrev call_of : Verdict → List ℕ → Verdict
call_of v sums = first_of (v ∷ refuse_if (short_sums sums) ShortRow ∷ [])

module _ (p : Parts) where
  parts_accepted : refuses (verdict_of p) ≡ false → verdict_of p ≡ accepted
  parts_accepted e = none_refuses (p.run ∷ p.list ∷ refuse_if (short_read_rows p.wants p.rows) ShortRow ∷ []) e

  module _ (a : Answer) (is : a ≡ cond (is_refusal (verdict_of p).refusal) (refusal_answer (verdict_of p)) p.answer) where
    when_refused : refuses (verdict_of p) ≡ true → a ≡ refusal_answer (verdict_of p)
    when_refused h = rw h at is

    when_accepted : refuses (verdict_of p) ≡ false → a ≡ p.answer
    when_accepted h = rw h at is

    parts_code : p.answer.refusal ≡ Accepted → p.answer.place ≡ 0 → number_of a.refusal + 256 * a.place ≡ code_of (verdict_of p)
    parts_code kind place = ⊎_elim (λ h. rw (when_refused h)) (λ h. rw (when_accepted h, kind, place, parts_accepted h)) (true_or_false (refuses (verdict_of p)))

    parts_placed : p.answer.place ≡ 0 → (verdict_of p).place ≤ place_most → a.place ≤ place_most
    parts_placed place near = ⊎_elim (λ h. rw (when_refused h) near) (λ h. rw (when_accepted h, place) (omega arith)) (true_or_false (refuses (verdict_of p)))

  -- With a row of sums that is long enough the call is judged as the pricer judges.
  module _ (sums : List ℕ) (long : 4 ≤ length sums) where
    parts_call : call_of (verdict_of p) sums ≡ verdict_of p
    parts_call =
        rw (le-ltb (length sums) 4 long)
        (⊎_elim (λ h. rw h) (λ h. rw (h, parts_accepted h)) (true_or_false (refuses (verdict_of p))))

    parts_reads : (out : ReadRows) → out ≡ cond (is_refusal (verdict_of p).refusal) p.rows p.out → out ≡ cond (is_refusal (call_of (verdict_of p) sums).refusal) p.rows p.out
    parts_reads out e = rw parts_call e

    parts_kept : refuses (verdict_of p) ≡ true → sums ≡ cond (is_refusal (call_of (verdict_of p) sums).refusal) sums (sums_with p.answer sums)
    parts_kept h = rw (parts_call, h)

    parts_filled : (out : List ℕ) → refuses (verdict_of p) ≡ false → (a : Answer) → a ≡ cond (is_refusal (verdict_of p).refusal) (refusal_answer (verdict_of p)) p.answer
        → out ≡ sums_with a sums → out ≡ cond (is_refusal (call_of (verdict_of p) sums).refusal) sums (sums_with p.answer sums)
    parts_filled out h a is e = rw (parts_call, h, ← (when_accepted a is h)) e

-- With a short row of sums the call is refused: by what comes before 8, or by 8. `b` is whether a row for times or legs is short.
module _ (run list : Verdict) where
  abbrev judged : Bool → Verdict
  judged b = first_of (run ∷ list ∷ refuse_if b ShortRow ∷ [])

  core : Verdict
  core = first_of (run ∷ list ∷ record { refusal = ShortRow; place = 0 } ∷ [])

  core_refuses : refuses core ≡ true
  unfolding core
  core_refuses =
      ⊎_elim
      (λ (h : refuses run ≡ true). rw (h, h))
      (λ (h : refuses run ≡ false). rw h (⊎_elim (λ (g : refuses list ≡ true). rw (g, g)) (λ (g : refuses list ≡ false). rw g) (true_or_false (refuses list))))
      (true_or_false (refuses run))

  short_row : (b : Bool) → first_of (first_of (refuse_if b ShortRow ∷ []) ∷ record { refusal = ShortRow; place = 0 } ∷ []) ≡ record { refusal = ShortRow; place = 0 }
  short_row true = refl
  short_row false = refl

  -- Both ways of asking come to the same.
  call_core : (b : Bool) (sums : List ℕ) → length sums < 4 → call_of (judged b) sums ≡ core
  unfolding core
  call_core b sums l =
      rw (lt-ltb (length sums) 4 l)
      (⊎_elim
      (λ (h : refuses run ≡ true). rw (h, h))
      (λ (h : refuses run ≡ false). rw h (⊎_elim (λ (g : refuses list ≡ true). rw (g, g)) (λ (g : refuses list ≡ false). rw g (short_row b)) (true_or_false (refuses list))))
      (true_or_false (refuses run)))

  short_code_here : (b : Bool) (n : ℕ) → n ≡ code_of (first_of (refuse_if b ShortRow ∷ [])) → (n ≡ 0 → ⊥) → n ≡ 8
  short_code_here true n e some = e
  short_code_here false n e some = absurd (some e)

  -- A price into empty rows that is refused names the same code.
  refused_core : (b : Bool) (n : ℕ) → n ≡ code_of (judged b) → (n ≡ 0 → ⊥) → n ≡ code_of core
  unfolding core
  refused_core b n e some =
      ⊎_elim
      (λ (h : refuses run ≡ true). rw h (rw h at e))
      (λ (h : refuses run ≡ false).
      rw h
      (⊎_elim
      (λ (g : refuses list ≡ true). rw g (rw (h, g) at e))
      (λ (g : refuses list ≡ false). rw g (short_code_here b n (rw (h, g) at e) some))
      (true_or_false (refuses list))))
      (true_or_false (refuses run))

  -- And one that is accepted leaves 8.
  accepted_core : (b : Bool) → code_of (judged b) ≡ 0 → 8 ≡ code_of core
  unfolding core
  accepted_core b e =
      ⊎_elim
      (λ (h : refuses run ≡ true). absurd (true≢false (sym h ∙ code_accepts run (rw h at e))))
      (λ (h : refuses run ≡ false).
      rw h
      (⊎_elim
      (λ (g : refuses list ≡ true). absurd (true≢false (sym g ∙ code_accepts list (rw (h, g) at e))))
      (λ (g : refuses list ≡ false). rw g)
      (true_or_false (refuses list))))
      (true_or_false (refuses run))

-- 01's pricer.
module _ (r : Run) (froms tos : List ℕ) where
  module _ (row : ReadRows) where
    module _ (a : Answer) (is : a ≡ price_answer r froms tos row) where
      pub price_code : number_of a.refusal + 256 * a.place ≡ code_of (price_verdict r froms tos row)
      unfolding price_answer price_verdict priced_answer
      price_code = parts_code (priceParts r froms tos row) a is refl refl

      pub price_placed : a.place ≤ place_most
      unfolding price_answer price_verdict priced_answer
      price_placed = parts_placed (priceParts r froms tos row) a is refl (price_near r froms tos row)

    module _ (sums : List ℕ) where
      pub call_is_price : 4 ≤ length sums → price_call r froms tos row sums ≡ price_verdict r froms tos row
      unfolding price_call price_verdict
      call_is_price l = parts_call (priceParts r froms tos row) sums l

      pub call_reads : (out : ReadRows) → 4 ≤ length sums → out ≡ price_rows r froms tos row → out ≡ price_reads r froms tos row sums
      unfolding price_reads price_rows price_call price_verdict
      call_reads out l e = parts_reads (priceParts r froms tos row) sums l out e

      pub call_sums_kept : 4 ≤ length sums → refuses (price_verdict r froms tos row) ≡ true → sums ≡ price_sums r froms tos row sums
      unfolding price_sums price_call price_verdict
      call_sums_kept l h = parts_kept (priceParts r froms tos row) sums l h

      pub call_sums_filled : (out : List ℕ) (a : Answer) → 4 ≤ length sums → refuses (price_verdict r froms tos row) ≡ false
          → a ≡ price_answer r froms tos row → out ≡ sums_with a sums → out ≡ price_sums r froms tos row sums
      unfolding price_sums price_call price_verdict price_answer
      call_sums_filled out a l h is e = parts_filled (priceParts r froms tos row) sums l out h a is e

  abbrev list : Verdict
  list = list_verdict (stops_of r) froms tos

  pub short_refused : (n : ℕ) → n ≡ code_of (price_verdict r froms tos (read_rows [] [])) → (n ≡ 0 → ⊥) → (row : ReadRows) (sums : List ℕ) → length sums < 4 → n ≡ code_of (price_call r froms tos row sums)
  unfolding price_call price_verdict
  short_refused n e some row sums l =
      refused_core (judge_of r) list (short_read_rows (length r.numbers) (read_rows [] [])) n e some
      ∙ ap code_of (sym (call_core (judge_of r) list (short_read_rows (length r.numbers) row) sums l))

  pub short_accepted : code_of (price_verdict r froms tos (read_rows [] [])) ≡ 0 → (row : ReadRows) (sums : List ℕ) → length sums < 4 → 8 ≡ code_of (price_call r froms tos row sums)
  unfolding price_call price_verdict
  short_accepted e row sums l =
      accepted_core (judge_of r) list (short_read_rows (length r.numbers) (read_rows [] [])) e
      ∙ ap code_of (sym (call_core (judge_of r) list (short_read_rows (length r.numbers) row) sums l))

  pub short_reads : (row : ReadRows) (sums : List ℕ) → length sums < 4 → row ≡ price_reads r froms tos row sums
  unfolding price_reads price_call price_verdict
  short_reads row sums l = rw (call_core (judge_of r) list (short_read_rows (length r.numbers) row) sums l, core_refuses (judge_of r) list)

  pub short_sums_lem : (row : ReadRows) (sums : List ℕ) → length sums < 4 → sums ≡ price_sums r froms tos row sums
  unfolding price_sums price_call price_verdict
  short_sums_lem row sums l = rw (call_core (judge_of r) list (short_read_rows (length r.numbers) row) sums l, core_refuses (judge_of r) list)

-- The pricer for a head anywhere.
module _ (r : Run) (froms tos : List ℕ) where
  module _ (row : ReadRows) where
    module _ (a : Answer) (is : a ≡ price_any_answer r froms tos row) where
      pub any_price_code : number_of a.refusal + 256 * a.place ≡ code_of (price_any_verdict r froms tos row)
      unfolding price_any_answer price_any_verdict priced_any_answer
      any_price_code = parts_code (anyParts r froms tos row) a is refl refl

      pub any_price_placed : a.place ≤ place_most
      unfolding price_any_answer price_any_verdict priced_any_answer
      any_price_placed = parts_placed (anyParts r froms tos row) a is refl (price_any_near r froms tos row)

    module _ (sums : List ℕ) where
      pub any_call_is_price : 4 ≤ length sums → price_any_call r froms tos row sums ≡ price_any_verdict r froms tos row
      unfolding price_any_call price_any_verdict
      any_call_is_price l = parts_call (anyParts r froms tos row) sums l

      pub any_call_reads : (out : ReadRows) → 4 ≤ length sums → out ≡ price_any_rows r froms tos row → out ≡ price_any_reads r froms tos row sums
      unfolding price_any_reads price_any_rows price_any_call price_any_verdict
      any_call_reads out l e = parts_reads (anyParts r froms tos row) sums l out e

      pub any_call_sums_kept : 4 ≤ length sums → refuses (price_any_verdict r froms tos row) ≡ true → sums ≡ price_any_sums r froms tos row sums
      unfolding price_any_sums price_any_call price_any_verdict
      any_call_sums_kept l h = parts_kept (anyParts r froms tos row) sums l h

      pub any_call_sums_filled : (out : List ℕ) (a : Answer) → 4 ≤ length sums → refuses (price_any_verdict r froms tos row) ≡ false
          → a ≡ price_any_answer r froms tos row → out ≡ sums_with a sums → out ≡ price_any_sums r froms tos row sums
      unfolding price_any_sums price_any_call price_any_verdict price_any_answer
      any_call_sums_filled out a l h is e = parts_filled (anyParts r froms tos row) sums l out h a is e

  abbrev any_list : Verdict
  any_list = list_verdict_any r.head (stops_of r) froms tos

  pub any_short_refused : (n : ℕ) → n ≡ code_of (price_any_verdict r froms tos (read_rows [] [])) → (n ≡ 0 → ⊥) → (row : ReadRows) (sums : List ℕ) → length sums < 4 → n ≡ code_of (price_any_call r froms tos row sums)
  unfolding price_any_call price_any_verdict
  any_short_refused n e some row sums l =
      refused_core (judge_any_of r) any_list (short_read_rows (length r.numbers) (read_rows [] [])) n e some
      ∙ ap code_of (sym (call_core (judge_any_of r) any_list (short_read_rows (length r.numbers) row) sums l))

  pub any_short_accepted : code_of (price_any_verdict r froms tos (read_rows [] [])) ≡ 0 → (row : ReadRows) (sums : List ℕ) → length sums < 4 → 8 ≡ code_of (price_any_call r froms tos row sums)
  unfolding price_any_call price_any_verdict
  any_short_accepted e row sums l =
      accepted_core (judge_any_of r) any_list (short_read_rows (length r.numbers) (read_rows [] [])) e
      ∙ ap code_of (sym (call_core (judge_any_of r) any_list (short_read_rows (length r.numbers) row) sums l))

  pub any_short_reads : (row : ReadRows) (sums : List ℕ) → length sums < 4 → row ≡ price_any_reads r froms tos row sums
  unfolding price_any_reads price_any_call price_any_verdict
  any_short_reads row sums l = rw (call_core (judge_any_of r) any_list (short_read_rows (length r.numbers) row) sums l, core_refuses (judge_any_of r) any_list)

  pub any_short_sums : (row : ReadRows) (sums : List ℕ) → length sums < 4 → sums ≡ price_any_sums r froms tos row sums
  unfolding price_any_sums price_any_call price_any_verdict
  any_short_sums row sums l = rw (call_core (judge_any_of r) any_list (short_read_rows (length r.numbers) row) sums l, core_refuses (judge_any_of r) any_list)
