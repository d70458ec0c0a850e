-- A loop over two rows at once, with the index: what a turn reads.
use Prim.Native.Nat.{ℕ, ◌<◌}
use mathlib.Core.Path.{◌≡◌, ap, ◌∙◌}
use mathlib.Core.List.{List}
use native.Mathlib.Omega.{arith}
use lib.ListN.{length, get_or}
use denote.Ref.{Bor}
use Rattle.std.proofs.iter.Yields.{fronts}
use Rattle.std.proofs.Common.{Option, Some, Iter}
use Rattle.std.specs.declared.iter.Enumerate.{Enumerate}
use Rattle.std.specs.declared.iter.Zip.{Zip}
use Rattle.std.specs.Iterator.{Yields}
use Rattle.std.specs.Iterator.Adapters.{enumerate_source, enumerate_count, enumerate_steps, zip_first, zip_second}
use Rattle.std.specs.List.{zip, enumerate_from}
use Rattle.std.specs.Slice.Iter.{iter_rest}
use Rattle.std.proofs.lemmas.Iterator.{zips, YieldsList-from_slice, YieldsList-from_zip}
use Rattle.std.proofs.lemmas.Iterator.Consumers.{YieldsList-from_enumerate, YieldsList-turn}
use Rattle.std.proofs.lemmas.List.{get_or_default}
use Rattle.std.proofs.lemmas.List.FromFn.{get_or-enumerate_from, length-enumerate_from}
use Rattle.std.proofs.lemmas.Slice.Zip.{length-zip, get_or-zip}

pub record Turn (xs ys : List ℕ) (k : ℕ) (i x y : ℕ) : Type 0 where
  pub within : k < length xs
  pub index : i ≡ k
  pub first : x ≡ get_or xs k 0
  pub second : y ≡ get_or ys k 0

numbered : (xs ys : List ℕ) (k : ℕ) (p : ℕ × (ℕ × ℕ)) → k < length (enumerate_from 0 (zip xs ys)) → p ≡ get_or (enumerate_from 0 (zip xs ys)) k p → Turn xs ys k p.0 p.1.0 p.1.1
numbered xs ys k p l e =
    let many : k < length (zip xs ys) = omega (arith, length-enumerate_from 0 (zip xs ys)) in
    let both = length-zip xs ys in
    let at = e ∙ get_or-enumerate_from 0 (zip xs ys) k p many in
    let pair = get_or-zip xs ys k p.1 (omega arith) (omega arith) in
    record { within = omega arith; index = omega (arith, ap (λ (q : ℕ × (ℕ × ℕ)). q.0) at); first = ap (λ (q : ℕ × (ℕ × ℕ)). q.1.0) at ∙ ap (λ (q : ℕ × ℕ). q.0) pair ∙ get_or_default xs k _ 0 (omega arith); second = ap (λ (q : ℕ × (ℕ × ℕ)). q.1.1) at ∙ ap (λ (q : ℕ × ℕ). q.1) pair ∙ get_or_default ys k _ 0 (omega arith) }

pub turn : (xs ys : List ℕ) (yielded : List (ℕ × (Bor ℕ × Bor ℕ))) (s t u : Enumerate (Zip (Iter ℕ) (Iter ℕ))) → Yields (enumerate_steps (zips fronts fronts)) s yielded t
    → (r : Option (ℕ × (Bor ℕ × Bor ℕ))) (x : ℕ × (Bor ℕ × Bor ℕ)) → r ≡ Some x → enumerate_steps (zips fronts fronts) t r u
    → iter_rest (zip_first (enumerate_source s)) ≡ xs → iter_rest (zip_second (enumerate_source s)) ≡ ys → enumerate_count s ≡ 0
    → Turn xs ys (length yielded) x.0 x.1.0.now x.1.1.now
turn xs ys yielded s t u so_far r x is step a b z =
    let h = YieldsList-turn (YieldsList-from_enumerate {s = s} (YieldsList-from_zip {s = enumerate_source s} (YieldsList-from_slice xs a) (YieldsList-from_slice ys b)) z) yielded t so_far r u x is step in
    numbered xs ys (length yielded) (x.0, (x.1.0.now, x.1.1.now)) h.0 h.1
