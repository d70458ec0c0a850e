-- What an accepted run says of its stops: numbers rise, files have a length and do not overlap, counts are at least 1, and the head is right of them all.
use Prim.Native.Nat.{ℕ, suc, ◌≤◌, ◌<◌}
use mathlib.Core.List.{List}
use native.Mathlib.Omega.{arith}
use lib.ListN.{length}
use Rattle.runs.specs.Run.{Stop}
use Rattle.runs.specs.Rows.{stop_at}

pub record Sound (stops : List Stop) (m : ℕ) : Type 0 where
  pub named : (i : ℕ) → i < length stops → 0 < (stop_at stops i).file
  pub ascends : (i : ℕ) → suc i < length stops → (stop_at stops i).file < (stop_at stops (suc i)).file
  pub extends : (i : ℕ) → i < length stops → (stop_at stops i).start < (stop_at stops i).end
  pub apart : (i : ℕ) → suc i < length stops → (stop_at stops i).end ≤ (stop_at stops (suc i)).start
  pub counted : (i : ℕ) → i < length stops → 0 < (stop_at stops i).count
  pub reached : (i : ℕ) → i < length stops → (stop_at stops i).end ≤ m

-- What holds of stops as a head at m meets them, wherever it stands: they may overlap and start at one place, no start is right of the head, and
-- ends may be.
pub record SoundAny (stops : List Stop) (m : ℕ) : Type 0 where
  pub named : (i : ℕ) → i < length stops → 0 < (stop_at stops i).file
  pub ascends : (i : ℕ) → suc i < length stops → (stop_at stops i).file < (stop_at stops (suc i)).file
  pub extends : (i : ℕ) → i < length stops → (stop_at stops i).start < (stop_at stops i).end
  pub starts : (i : ℕ) → suc i < length stops → (stop_at stops i).start ≤ (stop_at stops (suc i)).start
  pub ends : (i : ℕ) → suc i < length stops → (stop_at stops i).end < (stop_at stops (suc i)).end
  pub counted : (i : ℕ) → i < length stops → 0 < (stop_at stops i).count
  pub within : (i : ℕ) → i < length stops → (stop_at stops i).start ≤ m

pub sound_any : (stops : List Stop) (m : ℕ) → Sound stops m → SoundAny stops m
sound_any stops m ok =
    record {
      named = ok.named;
      ascends = ok.ascends;
      extends = ok.extends;
      starts = λ i l. omega (arith, ok.extends i (omega arith), ok.apart i l);
      ends = λ i l. omega (arith, ok.apart i l, ok.extends (suc i) l);
      counted = ok.counted;
      within = λ i l. omega (arith, ok.extends i l, ok.reached i l);
    }
