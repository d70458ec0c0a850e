-- What a line's state tells.
use Prim.Native.Nat.{suc}
use mathlib.Core.Path.{◌≡◌, refl}
use mathlib.Core.Bool.{Bool, true, false, cond, ◌||◌, false≢true}
use mathlib.Core.List.{[], ◌∷◌}
use native.Mathlib.Omega.{arith}
use lib.ListN.{length}
use lib.Dec.{eqb}
use borrow.Author.Tests.{ne_eqb, eqb-true}
use Rattle.tape_picks.specs.Picks.{file_span, has_no_bytes, pick_of}
use Rattle.tape_picks.specs.Promises.{PicksSay}

pub picks_say : PicksSay
unfolding pick_of
picks_say tape [] = record { unknown = refl; unreadable = λ e. absurd (false≢true e); start = λ e. absurd (false≢true e); end = λ e. absurd (false≢true e) }
picks_say tape (f ∷ []) = record { unknown = known (has_no_bytes (file_span tape f)); unreadable = λ e. readable (has_no_bytes (file_span tape f)); start = λ e. refl; end = λ e. refl }
  where
    known : (t : Bool) → (eqb (cond t 3 1) 0 || eqb (cond t 3 1) 2) ≡ false
    known true = refl
    known false = refl

    readable : (t : Bool) → eqb (cond t 3 1) 3 ≡ t
    readable true = refl
    readable false = refl
picks_say tape (f ∷ g ∷ files) =
    record {
      unknown = rw (ne_eqb (suc (suc (length files))) 1 (λ e. omega arith));
      unreadable = λ e. absurd (many e);
      start = λ e. absurd (many e);
      end = λ e. absurd (many e);
    }
  where
    many : eqb (suc (suc (length files))) 1 ≡ true → ⊥
    many e = let h = eqb-true (suc (suc (length files))) 1 e in omega arith
