-- A row of checks, each handed on by `?`: what is handed on is the verdict of the row.
use mathlib.Core.Path.{◌≡◌, refl, sym, ap}
use mathlib.Core.Bool.{Bool, true, false}
use mathlib.Core.List.{List, [], ◌∷◌}
use Rattle.std.specs.Prelude.{Result, Ok, Err}
use Rattle.refusals.specs.declared.Verdict.{Verdict}
use Rattle.refusals.specs.Refusals.{checked, first_of}
use Rattle.refusals.proofs.Verdicts.{refuses}

-- What a verdict says where its check hands nothing on, and where it does.
pub record Refuses (v e : Verdict) : Type 0 where
  pub is : v ≡ e
  pub so : refuses v ≡ true

pub passed : (v : Verdict) (u : Unit) → Ok u ≡ checked v → refuses v ≡ false
passed v u said = go (refuses v) refl
  where
    go : (b : Bool) → refuses v ≡ b → refuses v ≡ false
    go true h = absurd (ok_is_err (rw h at said))
      where
        ok_is_err : Ok u ≡ Err v → ⊥
        ok_is_err e = cc
    go false h = h

pub stopped : (v e : Verdict) → Err e ≡ checked v → Refuses v e
stopped v e said = go (refuses v) refl
  where
    go : (b : Bool) → refuses v ≡ b → Refuses v e
    go true h = let same = rw h at said in record { is = cc; so = h }
    go false h = let same = rw h at said in absurd (cc)

-- The other way round.
pub checked_passes : (v : Verdict) → refuses v ≡ false → Ok tt ≡ checked v
checked_passes v h = rw h

pub checked_stops : (v : Verdict) → refuses v ≡ true → Err v ≡ checked v
checked_stops v h = rw h

-- The first check of a row refuses; or it does not, and the others decide; the last one decides.
pub first_stops : (v : Verdict) (vs : List Verdict) (e : Verdict) → Err e ≡ checked v → Err e ≡ checked (first_of (v ∷ vs))
first_stops v vs e said = let s = stopped v e said in rw (s.so, s.so) (ap Err (sym s.is))

pub first_passes_on : (v : Verdict) (vs : List Verdict) (u : Unit) (r : Result Unit Verdict) → Ok u ≡ checked v → r ≡ checked (first_of vs) → r ≡ checked (first_of (v ∷ vs))
first_passes_on v vs u r said rest = rw (passed v u said) rest

pub last_decides : (v : Verdict) (r : Result Unit Verdict) → r ≡ checked v → r ≡ checked (first_of (v ∷ []))
last_decides v r said = go (refuses v) refl
  where
    go : (b : Bool) → refuses v ≡ b → r ≡ checked (first_of (v ∷ []))
    go true h = rw (h, h) (rw h at said)
    go false h = rw h (rw h at said)
