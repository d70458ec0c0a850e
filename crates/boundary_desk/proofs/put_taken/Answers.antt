-- Two numbers, then office 1's places and office 2's.
use mathlib.Core.Path.{ap, ◌∙◌}
use mathlib.Core.List.{List}
use Prim.Native.Nat.{ℕ}
use Rattle.std.proofs.Common.{arith, rules}
use lib.Seq.{paste}
use Rattle.boundary_desk.proofs.Filling.{two_set}
use Rattle.boundary_desk.proofs.Taking.{s1, taken_so}
use Rattle.boundary_desk.proofs.put_taken.Goals as goal

pub returns : goal.returns
returns c =
    let a = c.args in
    let b = a.boarded in
    taken_so a.row (search rules) b c.requires.leaves a.taken.now c.requires.in_bounds _ _
    (c.put_places.ensures
    ∙ ap (λ (x : List ℕ). paste x 2 (s1 a.row (search rules) b c.requires.leaves a.taken.now c.requires.in_bounds) b.taken.one) (two_set b.taken.one b.taken.two a.taken.now (omega (arith, c.requires.in_bounds))))
    c.put_places-2.ensures
