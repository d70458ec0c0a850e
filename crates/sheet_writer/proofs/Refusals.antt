-- A refusal's two lines on a page.
use Prim.Native.Nat.{ℕ, ◌≤◌}
use mathlib.Core.Path.{◌≡◌, subst}
use mathlib.Core.List.{List, ◌++◌}
use native.Mathlib.Omega.{arith}
use lib.ListN.{length}
use Rattle.refusals.specs.declared.Verdict.{Verdict}
use Rattle.refusals.specs.Refusals.{number_of}
use Rattle.text_pages.specs.Printing.{number_line, Wrote, Put}
use Rattle.sheet_writer.specs.RefusalLines.{refused_key, place_key, refusal_text}
use Rattle.text_pages.proofs.Pages.{wrote_on}

pub wrote_refusal : (v : Verdict) (n : ℕ) → n ≡ number_of v.refusal → (page : List ℕ) → 56 ≤ length page → (page' : List ℕ) (at : ℕ) (page'' : List ℕ) (last : ℕ)
    → Put page 0 (number_line refused_key n) 29 page' at → Put page' at (number_line place_key v.place) 27 page'' last → Wrote page 0 (refusal_text v) 56 page'' last
unfolding refusal_text
wrote_refusal v n e page r page' at page'' last p q =
    subst (λ x. Wrote page 0 (number_line refused_key x ++ number_line place_key v.place) 56 page'' last) e
    (wrote_on (p.room (omega arith)) (omega arith) q)
