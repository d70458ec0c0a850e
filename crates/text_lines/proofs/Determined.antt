-- Of two answers that fit one contract, neither differs from the other.
use Prim.Native.Nat.{ℕ, ◌-◌, ◌≤◌}
use mathlib.Core.Path.{◌≡◌, refl, ap, sym, ◌∙◌}
use mathlib.Core.Bool.{Bool, false≢true}
use mathlib.Core.List.{List}
use native.Mathlib.Omega.{arith}
use lib.ListN.{length, take, drop, length-drop}
use lib.Seq.{length-take-le}
use Rattle.text_lines.specs.declared.Keyed.{Keyed}
use Rattle.text_lines.specs.declared.NumberLine.{NumberLine}
use Rattle.text_lines.specs.declared.PairLine.{PairLine}
use Rattle.text_lines.specs.declared.TripleLine.{TripleLine}
use Rattle.text_lines.specs.declared.BadLine.{BadLine}
use Rattle.std.specs.Prelude.{Option, Some, None, Result, Ok, Err}
use Rattle.text_lines.specs.Found.{ValueAt, ValueFound, Passed, NumberLineFound, PairLineFound, TripleLineFound, LinesFound}

-- A place in a text is known by what stands from there on.
pub place_determined : (text : List ℕ) (m n : ℕ) → m ≤ length text → n ≤ length text → drop m text ≡ drop n text → m ≡ n
place_determined text m n l k e = omega (arith, sym (length-drop m text) ∙ ap length e ∙ length-drop n text)

next_determined : (test : List ℕ → Bool) (text : List ℕ) (at m n : ℕ) → Passed test text at m → Passed test text at n → m ≡ n
next_determined test text at m n p q = place_determined text m n p.within q.within (p.rest ∙ sym q.rest)

-- A value's start and end.
value_length : (key text : List ℕ) (at from end : ℕ) → ValueAt key text at from end → length (take (end - from) (drop from text)) ≡ end - from
value_length key text at from end v =
    length-take-le (end - from) (drop from text) (rw (length-drop from text) (omega (arith, v.within)))

pub value_determined : (key text : List ℕ) (at : ℕ) (r s : Option Keyed) → ValueFound key text at r → ValueFound key text at s → r ≡ s
value_determined key text at (Some v) (Some w) p q =
    let start : v.from ≡ w.from = p.start ∙ sym q.start in
    let size : v.end - v.from ≡ w.end - w.from = sym (value_length key text at v.from v.end p) ∙ ap length (p.value ∙ sym q.value) ∙ value_length key text at w.from w.end q in
    let stop : v.end ≡ w.end = omega (arith, p.ordered, q.ordered) in
    rw (start, stop)
value_determined key text at (Some v) None p q = absurd (false≢true (sym q ∙ rw (p.ended, p.begun)))
value_determined key text at None (Some w) p q = absurd (false≢true (sym p ∙ rw (q.ended, q.begun)))
value_determined key text at None None p q = refl

pub number_line_determined : (test : List ℕ → Bool) (value : List ℕ → ℕ) (text : List ℕ) (at : ℕ) (r s : Option NumberLine) → NumberLineFound test value text at r → NumberLineFound test value text at s → r ≡ s
number_line_determined test value text at (Some l) (Some m) p q =
    let number : l.number ≡ m.number = p.1 ∙ sym q.1 in
    let next : l.next ≡ m.next = next_determined test text at l.next m.next p.0 q.0 in
    rw (number, next)
number_line_determined test value text at (Some l) None p q = absurd (false≢true (sym q ∙ p.0.good))
number_line_determined test value text at None (Some m) p q = absurd (false≢true (sym p ∙ q.0.good))
number_line_determined test value text at None None p q = refl

pub pair_line_determined : (key text : List ℕ) (at : ℕ) (r s : Option PairLine) → PairLineFound key text at r → PairLineFound key text at s → r ≡ s
pair_line_determined key text at (Some l) (Some m) p q =
    let first : l.first ≡ m.first = p.left ∙ sym q.left in
    let second : l.second ≡ m.second = p.right ∙ sym q.right in
    let next : l.next ≡ m.next = next_determined _ text at l.next m.next p.passed q.passed in
    rw (first, second, next)
pair_line_determined key text at (Some l) None p q = absurd (false≢true (sym q ∙ p.passed.good))
pair_line_determined key text at None (Some m) p q = absurd (false≢true (sym p ∙ q.passed.good))
pair_line_determined key text at None None p q = refl

pub triple_line_determined : (key text : List ℕ) (at : ℕ) (r s : Option TripleLine) → TripleLineFound key text at r → TripleLineFound key text at s → r ≡ s
triple_line_determined key text at (Some l) (Some m) p q =
    let first : l.first ≡ m.first = p.left ∙ sym q.left in
    let second : l.second ≡ m.second = p.middle ∙ sym q.middle in
    let third : l.third ≡ m.third = p.right ∙ sym q.right in
    let next : l.next ≡ m.next = next_determined _ text at l.next m.next p.passed q.passed in
    rw (first, second, third, next)
triple_line_determined key text at (Some l) None p q = absurd (false≢true (sym q ∙ p.passed.good))
triple_line_determined key text at None (Some m) p q = absurd (false≢true (sym p ∙ q.passed.good))
triple_line_determined key text at None None p q = refl

pub lines_determined : (test : List ℕ → Bool) (text : List ℕ) (at count : ℕ) (r s : Result ℕ BadLine) → LinesFound test text at count r → LinesFound test text at count s → r ≡ s
lines_determined test text at count (Ok next) (Ok last) p q = ap Ok (place_determined text next last p.within q.within (p.rest ∙ sym q.rest))
lines_determined test text at count (Ok next) (Err bad) p q = absurd (omega (arith, p.none, q.first, q.some))
lines_determined test text at count (Err bad) (Ok next) p q = absurd (omega (arith, q.none, p.first, p.some))
lines_determined test text at count (Err bad) (Err other) p q = let line : bad.line ≡ other.line = sym p.first ∙ q.first in rw line
