-- What follows so many lines of a text ends it.
use Prim.Native.Nat.{ℕ, zero, suc, ◌+◌, ◌-◌, ◌≤◌}
use mathlib.Core.Path.{◌≡◌, refl}
use mathlib.Core.Bool.{Bool, true, false, cond}
use mathlib.Core.List.{List, [], ◌∷◌}
use native.Mathlib.Omega.{arith}
use lib.ListN.{length, drop}
use lib.Seq.{drop-drop}
use lib.Dec.{eqb}
use Rattle.text_bytes.specs.Text.{line_feed, behind}
use Rattle.text_lines.specs.Lines.{after_lines}

pub record Ends (end text : List ℕ) : Type 0 where
  pub short : length end ≤ length text
  pub rest : drop (length text - length end) text ≡ end

pub ends_all : (text : List ℕ) → Ends text text
ends_all text = record { short = omega arith; rest = let e : length text - length text ≡ 0 = omega arith in rw e }

pub ends_on : (a b c : List ℕ) → Ends a b → Ends b c → Ends a c
ends_on a b c p q =
    let s : length c - length b + (length b - length a) ≡ length c - length a = omega (arith, p.short, q.short) in
    record { short = omega (arith, p.short, q.short); rest = rw (← s, ← drop-drop (length b - length a) (length c - length b) c, q.rest) p.rest }

pub behind_ends : (c : ℕ) (text : List ℕ) → Ends (behind c text) text
unfolding behind
behind_ends c [] = record { short = omega arith; rest = refl }
behind_ends c (b ∷ text) = go (behind_ends c text) (eqb b c)
  where
    step : (end : List ℕ) → Ends end text → Ends end (b ∷ text)
    step end p =
        let s : length (b ∷ text) - length end ≡ suc (length text - length end) = omega (arith, p.short) in
        record { short = omega (arith, p.short); rest = rw s p.rest }

    go : Ends (behind c text) text → (t : Bool) → Ends (cond t text (behind c text)) (b ∷ text)
    go p true = step text (ends_all text)
    go p false = step (behind c text) p

pub after_ends : (n : ℕ) (text : List ℕ) → Ends (after_lines n text) text
unfolding after_lines
after_ends zero text = ends_all text
after_ends (suc n) text = ends_on (behind line_feed (after_lines n text)) (after_lines n text) text (behind_ends line_feed (after_lines n text)) (after_ends n text)

pub after_shorter : (n : ℕ) (text : List ℕ) → length (after_lines (suc n) text) ≤ length (after_lines n text)
unfolding after_lines
after_shorter n text = (behind_ends line_feed (after_lines n text)).short
