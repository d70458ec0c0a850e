-- A file noted at the lines of its path, place by place of the order.
use Prim.Native.Nat.{ℕ, ◌+◌, ◌≤◌, ◌<◌, max}
use mathlib.Core.Path.{◌≡◌, ◌∙◌}
use mathlib.Core.Bool.{Bool}
use mathlib.Core.List.{List}
use mathlib.Core.Logic.{by_cases}
use native.Mathlib.Omega.{arith}
use native.Mathlib.Decide.{ℕ_discrete}
use lib.ListN.{length, get_or, set}
use lib.Seq.{get_or-set_same, get_or-set_other}
use Rattle.tape_spans.specs.declared.Span.{Span}
use Rattle.tape_picks.specs.declared.Pick.{Pick}
use Rattle.tape_picks.specs.Private.{pick_in, noted_pick, ends_at, OrderHeld, AllFit}

-- A line's entries written, and those of another line.
module _ (states starts ends : List ℕ) (line : ℕ) (next : Pick) where
  abbrev pub written : ℕ → Pick
  written = pick_in (set states line next.state) (set starts line next.start) (set ends line next.end)

  written_here : line < length states → line < length starts → line < length ends → written line ≡ next
  written_here a b c = rw (get_or-set_same states line next.state 0 a, get_or-set_same starts line next.start 0 b, get_or-set_same ends line next.end 0 c)

  written_elsewhere : (other : ℕ) → (other ≡ line → ⊥) → written other ≡ pick_in states starts ends other
  written_elsewhere other n =
      rw (get_or-set_other states line other next.state 0 n, get_or-set_other starts line other next.start 0 n, get_or-set_other ends line other next.end 0 n)

-- Before a place of the range: the lines of the places before it have their file more, all others are as they were.
pub record Noting (from to order : List ℕ) (count low high length : ℕ) (span : Span) (before after : ℕ → Pick) (k : ℕ) : Type 0 where
  pub begun : low ≤ k
  pub few : k ≤ max low high
  pub inside : (j : ℕ) → low ≤ j → j < k → after (get_or order j 0) ≡ noted_pick (before (get_or order j 0)) span (ends_at from to (get_or order j 0) length)
  pub outside : (j : ℕ) → j < count → ((low ≤ j) × (j < k) → ⊥) → after (get_or order j 0) ≡ before (get_or order j 0)

module _ (from to order : List ℕ) (count low high length : ℕ) (span : Span) where
  module _ (held : OrderHeld order count) (before : ℕ → Pick) (states starts ends : List ℕ) (fit : AllFit count states starts ends) (k : ℕ)
      (p : Noting from to order count low high length span before (pick_in states starts ends) k) (l : k < high) (m : high ≤ count) where
    pub line_within : get_or order k 0 < count
    line_within = held.within k (omega arith)

    pub noting_more : (here : Bool) → here ≡ ends_at from to (get_or order k 0) length → (next : Pick) → next ≡ noted_pick (pick_in states starts ends (get_or order k 0)) span here
        → Noting from to order count low high length span before (written states starts ends (get_or order k 0) next) (k + 1)
    noting_more here h next e =
        record {
          begun = omega (arith, p.begun);
          few = omega arith;
          inside = λ j a b. by_cases (ℕ_discrete j k) (λ s. here_is j s) (λ n. at_other j (omega arith) n ∙ p.inside j a (omega arith));
          outside = λ j a b. at_other j a (λ s. b (omega (arith, p.begun, s), omega arith)) ∙ p.outside j a (λ q. b (q.0, omega (arith, q.1)));
        }
      where
        at_other : (j : ℕ) → j < count → (j ≡ k → ⊥) → written states starts ends (get_or order k 0) next (get_or order j 0) ≡ pick_in states starts ends (get_or order j 0)
        at_other j a n = written_elsewhere states starts ends (get_or order k 0) next (get_or order j 0) (λ s. n (held.apart j k a (omega arith) s))

        here_is : (j : ℕ) → j ≡ k → written states starts ends (get_or order k 0) next (get_or order j 0) ≡ noted_pick (before (get_or order j 0)) span (ends_at from to (get_or order j 0) length)
        here_is j s =
            let w = line_within in
            rw s
            (written_here states starts ends (get_or order k 0) next (omega (arith, fit.0)) (omega (arith, fit.1.0)) (omega (arith, fit.1.1))
            ∙ e
            ∙ rw (h, p.outside k (omega arith) (λ q. omega (arith, q.1))))
