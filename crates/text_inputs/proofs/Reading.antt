-- A line as it is read: byte by byte into a row, up to an LF.
use Prim.Native.Nat.{ℕ, zero, suc, ◌+◌, ◌-◌, ◌≤◌, ◌<◌}
use mathlib.Core.Path.{◌≡◌, refl, sym, ap, ◌∙◌}
use mathlib.Core.Bool.{Bool, true, false, true≢false, ◌||◌}
use mathlib.Core.List.{List, [], ◌∷◌}
use native.Mathlib.Omega.{arith}
use lib.ListN.{length, take, drop, set, length-set}
use lib.Seq.{take-suc-set, take-set-le, drop-set-lt, drop-drop}
use lib.Dec.{eqb}
use Rattle.text_bytes.specs.Text.{line_feed, has}
use Rattle.text_bytes.proofs.Decimals.{has_append}
use Rattle.text_inputs.specs.Inputs.{LineRead}

-- So far: n bytes of the row, no LF among them, and the rest as it was.
pub record Reading (row₀ : List ℕ) (n : ℕ) (row : List ℕ) : Type 0 where
  pub held : n ≤ length row
  pub long : length row ≡ length row₀
  pub none : has line_feed (take n row) ≡ false
  pub kept : drop n row ≡ drop n row₀

pub nothing_read : (row : List ℕ) → Reading row 0 row
unfolding has
nothing_read row = record { held = omega arith; long = refl; none = refl; kept = refl }

-- Fewer bytes have no LF either.
fewer : (m n : ℕ) (row : List ℕ) → m ≤ n → has line_feed (take n row) ≡ false → has line_feed (take m row) ≡ false
unfolding has
fewer zero n row l e = refl
fewer (suc m) n [] l e = refl
fewer (suc m) zero (x ∷ row) l e = absurd (omega arith)
fewer (suc m) (suc n) (x ∷ row) l e =
    let both = neither (eqb x line_feed) (has line_feed (take n row)) e in
    rw both.0 (fewer m n row (omega arith) both.1)
  where
    neither : (a b : Bool) → (a || b) ≡ false → (a ≡ false) × (b ≡ false)
    neither true b h = absurd (true≢false h)
    neither false b h = (refl, h)

module _ (row₀ row : List ℕ) (n : ℕ) (r : Reading row₀ n row) where
  -- The input, or the row, has ended.
  pub line_ended : LineRead row₀ n row
  line_ended = record { held = omega (arith, r.held, r.long); one = fewer (n - 1) n row (omega arith) r.none; kept = r.kept }

  module _ (b : ℕ) (l : n < length row) where
    behind_set : drop (n + 1) (set row n b) ≡ drop (n + 1) row₀
    behind_set = drop-set-lt (n + 1) row n b (omega arith) ∙ sym (drop-drop 1 n row) ∙ ap (drop 1) r.kept ∙ drop-drop 1 n row₀

    -- The LF itself.
    pub line_whole : LineRead row₀ (n + 1) (set row n b)
    line_whole =
        let same : n + 1 - 1 ≡ n = omega arith in
        record { held = omega (arith, l, r.long); one = rw (same, take-set-le n row n b (omega arith)) r.none; kept = behind_set }

    pub one_more : eqb b line_feed ≡ false → Reading row₀ (n + 1) (set row n b)
    unfolding has
    one_more e =
        let next : n + 1 ≡ suc n = omega arith in
        record {
          held = simp length-set (omega (arith, l));
          long = simp length-set r.long;
          none = rw (next, take-suc-set row n b l, has_append line_feed (take n row) (b ∷ []), r.none, e);
          kept = behind_set;
        }
