-- Checks in their order: the first that refuses, of the texts, of the list and of its lines.
use Prim.Native.Nat.{ℕ, zero, suc, ◌+◌, ◌≤◌, ◌<◌}
use mathlib.Core.Path.{◌≡◌, refl, sym, ap, ◌∙◌}
use mathlib.Core.Bool.{Bool, true, false, cond, not}
use mathlib.Core.List.{List, [], ◌∷◌}
use native.Mathlib.Omega.{arith}
use lib.ListN.{length, get_or}
use lib.Dec.{ltb}
use native.Mathlib.Decide.{dec_lt}
use borrow.Author.Tests.{ne_eqb, not-true, not-false, ltb-true, ltb-false}
use Rattle.std.specs.Prelude.{Option, Some, None, Ok, Err}
use Rattle.refusals.specs.declared.OwnRefusal.TheVariants.{UnknownPath, NoBytes, OtherVolume}
use Rattle.refusals.specs.declared.Refusal.TheVariants.{BadText, FarFile, BadLine, TooManyReads}
use Rattle.refusals.specs.declared.Verdict.{Verdict}
use Rattle.refusals.specs.Refusals.{first_where, number_of, own_number_of, accepted, checked, refuse_at, refuse_if}
use Rattle.refusals.proofs.Checked.{passed, stopped}
use Rattle.refusals.proofs.Verdicts.{refuses, none_refuses}
use Rattle.text_lines.specs.Lines.{first_bad_of}
use Rattle.text_paths.specs.Paths.{is_asked, line_count, most_lines, paths_verdict}
use Rattle.runs.proofs.Search.{first_all, first_here, first_done}
use Rattle.std.specs.List.{position_or_len}
use Rattle.std.proofs.lemmas.List.Sums.{prefix_len_passes, prefix_len_stops, prefix_len-le-length}
use Rattle.answer_pick.specs.declared.Refused.{Refused}
use Rattle.answer_pick.specs.declared.lines.Test.{Test}
use Rattle.answer_pick.specs.Picks.{refused_if, refused_at, first_refused, list_refused}
use Rattle.answer_pick.specs.Private.{is_bad, first_bad, row_checks, numbered}

-- A place that is none, and one that is.
pub refused_none : (place number : ℕ) → place ≡ 0 → record { number = 0; place = 0 } ≡ refused_at place number
refused_none place number e = rw e

pub refused_some : (place number : ℕ) → (place ≡ 0 → ⊥) → record { number = number; place = place } ≡ refused_at place number
refused_some zero number n = absurd (n refl)
refused_some (suc place) number n = refl

-- The first line that is refused, as a search of the row finds it.
module _ (test : Test) (row : List ℕ) where
  abbrev found : ℕ
  found = position_or_len (is_bad test) row

  before : first_where (λ k. is_bad test (get_or row k 0)) found ≡ 0
  before =
      first_all (λ k. is_bad test (get_or row k 0)) found
      (λ k l. not-true (is_bad test (get_or row k 0)) (prefix_len_passes (λ x. not (is_bad test x)) row k 0 l))

  bad_here : found < length row → found + 1 ≡ first_bad test row
  bad_here l =
      sym (first_here (λ k. is_bad test (get_or row k 0)) found (length row) before
      (not-false (is_bad test (get_or row found 0)) (prefix_len_stops (λ x. not (is_bad test x)) row 0 l)) l)

  bad_nowhere : length row ≤ found → 0 ≡ first_bad test row
  bad_nowhere l = first_done (λ k. is_bad test (get_or row k 0)) found (length row) before (prefix_len-le-length (λ x. not (is_bad test x)) row) l

  module _ (r : Option ℕ) (is : r ≡ cond (ltb found (length row)) (Some found) None) where
    pub bad_found : (i : ℕ) → r ≡ Some i → i + 1 ≡ first_bad test row
    bad_found i e = go (ltb found (length row)) refl is
      where
        go : (t : Bool) → ltb found (length row) ≡ t → r ≡ cond t (Some found) None → i + 1 ≡ first_bad test row
        go true h s = let same : i ≡ found = cc in rw same (bad_here (ltb-true found (length row) h))
        go false h s = let z : ◌≡◌ {A = ℕ} 0 1 = cc in absurd (omega arith)

    pub bad_unfound : r ≡ None → 0 ≡ first_bad test row
    bad_unfound e = go (ltb found (length row)) refl is
      where
        go : (t : Bool) → ltb found (length row) ≡ t → r ≡ cond t (Some found) None → 0 ≡ first_bad test row
        go true h s = let z : ◌≡◌ {A = ℕ} 0 1 = cc in absurd (omega arith)
        go false h s = bad_nowhere (ltb-false found (length row) h)

-- The first of several checks.
pub first_some_lem : (v : Refused) (vs : List Refused) → (v.number ≡ 0 → ⊥) → v ≡ first_refused (v ∷ vs)
first_some_lem v vs n = rw (ne_eqb v.number 0 n)

pub first_next : (v : Refused) (vs : List Refused) → v.number ≡ 0 → first_refused (v ∷ vs) ≡ first_refused vs
first_next v vs e = rw e

refused_number : (place number : ℕ) → (place ≡ 0 → ⊥) → (refused_at place number).number ≡ number
refused_number zero number n = absurd (n refl)
refused_number (suc place) number n = refl

-- 41, 42, 23.
module _ (states ends : List ℕ) (unknown : ℕ) (u : unknown ≡ first_bad Test.Unknown states) where
  pub lines_unknown : (unknown ≡ 0 → ⊥) → (r : Refused) → r ≡ refused_at unknown (own_number_of UnknownPath) → r ≡ row_checks states ends
  lines_unknown n r e =
      e ∙ rw (← u)
      (first_some_lem (refused_at unknown (own_number_of UnknownPath)) (refused_at (first_bad Test.NoBytes states) (own_number_of NoBytes) ∷ refused_at (first_bad Test.Far ends) (number_of FarFile) ∷ [])
      (λ z. let s = refused_number unknown (own_number_of UnknownPath) n in omega arith))

  module _ (z : unknown ≡ 0) (without : ℕ) (w : without ≡ first_bad Test.NoBytes states) where
    none_unknown : first_bad Test.Unknown states ≡ 0
    none_unknown = sym u ∙ z

    pub lines_without : (without ≡ 0 → ⊥) → (r : Refused) → r ≡ refused_at without (own_number_of NoBytes) → r ≡ row_checks states ends
    lines_without n r e =
        e ∙ rw (none_unknown, ← w)
        (first_some_lem (refused_at without (own_number_of NoBytes)) (refused_at (first_bad Test.Far ends) (number_of FarFile) ∷ [])
        (λ y. let s = refused_number without (own_number_of NoBytes) n in omega arith))

    pub lines_far : without ≡ 0 → (far : ℕ) → far ≡ first_bad Test.Far ends → (r : Refused) → r ≡ refused_at far (number_of FarFile) → r ≡ row_checks states ends
    lines_far y far f r e = e ∙ rw (none_unknown, sym w ∙ y, ← f) (last far)
      where
        last : (p : ℕ) → refused_at p (number_of FarFile) ≡ first_refused (refused_at p (number_of FarFile) ∷ [])
        last zero = refl
        last (suc p) = refl

-- A check that accepts names no place.
last_check : (v : Refused) → (v.number ≡ 0 → v ≡ record { number = 0; place = 0 }) → v ≡ first_refused (v ∷ [])
last_check v p =
    elim (dec_lt 0 v.number) [
      | yes h ↦ rw (ne_eqb v.number 0 (λ z. omega arith))
      | no h ↦ let z : v.number ≡ 0 = omega arith in p z ∙ sym (rw z)
    ]

pub list_accepts : (list : List ℕ) → (list_refused list).number ≡ 0 → refuses (paths_verdict list) ≡ false
list_accepts list e = rw e

accepted_list : (list : List ℕ) → refuses (paths_verdict list) ≡ false → paths_verdict list ≡ accepted
unfolding paths_verdict
accepted_list list r = none_refuses (refuse_at (first_bad_of is_asked (line_count list) list) BadLine ∷ refuse_if (ltb most_lines (line_count list)) TooManyReads ∷ []) r

list_placed : (list : List ℕ) → (list_refused list).number ≡ 0 → list_refused list ≡ record { number = 0; place = 0 }
list_placed list e = rw (accepted_list list (list_accepts list e))

-- The list's verdict by its number, where it is handed on and where it is not.
pub list_passed : (list : List ℕ) (u : Unit) → Ok u ≡ checked (paths_verdict list) → record { number = 0; place = 0 } ≡ list_refused list
list_passed list u said = rw (accepted_list list (passed (paths_verdict list) u said))

pub list_stopped : (list : List ℕ) (e : Verdict) → Err e ≡ checked (paths_verdict list) → (r : Refused) → r ≡ numbered e → r ≡ list_refused list
list_stopped list e said r is = is ∙ ap numbered (sym (stopped (paths_verdict list) e said).is)

-- 20, 44, then the list's own.
module _ (good other : Bool) (list : List ℕ) where
  abbrev InputIs : Refused → Type 0
  InputIs r = r ≡ first_refused (refused_if (not good) (number_of BadText) ∷ refused_if other (own_number_of OtherVolume) ∷ list_refused list ∷ [])

  pub input_bad : not good ≡ true → (r : Refused) → r ≡ refused_if true (number_of BadText) → InputIs r
  input_bad e r is = is ∙ rw e

  module _ (g : not good ≡ false) where
    pub input_other : other ≡ true → (r : Refused) → r ≡ refused_if true (own_number_of OtherVolume) → InputIs r
    input_other e r is = is ∙ rw (g, e)

    pub input_list : other ≡ false → (r : Refused) → r ≡ list_refused list → InputIs r
    input_list e r is = is ∙ rw (g, e) (last_check (list_refused list) (list_placed list))
