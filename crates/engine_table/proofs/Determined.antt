-- The engine's contract determines its answer and every row.
use mathlib.Core.Path.{◌≡◌, refl, sym, ap, ◌∙◌}
use mathlib.Core.Bool.{Bool, true, false}
use mathlib.Core.List.{List}
use lib.ListN.{length}
use Rattle.refusals.specs.Refusals.{is_refusal}
use Rattle.runs.specs.Run.{Run, stops_of}
use Rattle.runs.specs.Lists.{Detour}
use Rattle.least.proofs.LeastAny.{least_any_unique}
use Rattle.std.specs.Prelude.{ℕ, Result, Ok}
use Rattle.refusals.specs.declared.Verdict.{Verdict}
use Rattle.engine_table.specs.Listing.{ListRows, Lists, IsListed, NotListed, listing_verdict, list_rows_with}

module _ (r : Run) (before : ListRows) (a a' : Result ℕ Verdict) (after after' : ListRows) where
  said : List Detour → Result ℕ Verdict
  said l = Ok (length l)

  listed_once : IsListed r before a after → IsListed r before a' after' → (a ≡ a') × (after ≡ after')
  unfolding said
  listed_once p q =
      let e = least_any_unique r.turn r.head (stops_of r) p.list q.list p.least q.least in
      (p.says ∙ ap said e ∙ sym q.says, p.rows ∙ ap (λ l. list_rows_with r l before) e ∙ sym q.rows)

  refused_once : NotListed (listing_verdict r before) before a after → NotListed (listing_verdict r before) before a' after' → (a ≡ a') × (after ≡ after')
  refused_once p q = (p.says ∙ sym q.says, p.kept ∙ sym q.kept)

  -- Two results that fit the contract are equal.
  pub lists_determined : Lists r before a after → Lists r before a' after' → (a ≡ a') × (after ≡ after')
  lists_determined p q = go (is_refusal (listing_verdict r before).refusal) refl
    where
      go : (b : Bool) → is_refusal (listing_verdict r before).refusal ≡ b → (a ≡ a') × (after ≡ after')
      go true e = refused_once (p.refused e) (q.refused e)
      go false e = listed_once (p.listed e) (q.listed e)
