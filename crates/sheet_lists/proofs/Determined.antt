-- The contracts determine the answer and both rows.
use Prim.Native.Nat.{ℕ}
use mathlib.Core.Path.{◌≡◌, sym, ◌∙◌}
use mathlib.Core.List.{List}
use Rattle.refusals.specs.declared.Verdict.{Verdict}
use Rattle.sheet_lists.specs.declared.ListReading.{ListReading}
use Rattle.sheet_lists.specs.Reading.{ReadBy}

-- Two answers of either reader that fit are equal, and so are the rows.
pub read_determined : (v : Verdict) (many : ℕ) (text froms tos : List ℕ) (r s : ListReading) (froms' froms'' tos' tos'' : List ℕ) → ReadBy v many text froms tos r froms' tos' → ReadBy v many text froms tos s froms'' tos''
    → (r ≡ s) × ((froms' ≡ froms'') × (tos' ≡ tos''))
read_determined v many text froms tos r s froms' froms'' tos' tos'' p q =
    let verdict = p.verdict ∙ sym q.verdict in
    let detours = p.detours ∙ sym q.detours in
    (λ i. record { verdict = verdict i; detours = detours i }, (p.froms ∙ sym q.froms, p.tos ∙ sym q.tos))
