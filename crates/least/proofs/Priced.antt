-- The pricer refuses no well-formed list of a run that the judging accepts, lent rows long enough: for engines, which price the list that they find.
use Prim.Native.Nat.{ℕ, ◌≤◌}
use mathlib.Core.Path.{◌≡◌}
use mathlib.Core.Bool.{false}
use mathlib.Core.List.{List}
use lib.ListN.{length}
use borrow.Author.Tests.{le-ltb, eq-eqb}
use Rattle.refusals.proofs.Verdicts.{refuses}
use Rattle.runs.specs.Run.{Run, stops_of}
use Rattle.runs.specs.Judging.{judge_of}
use Rattle.runs.specs.Lists.{list_of, list_verdict, WellFormed}
use Rattle.walk.specs.Price.{price_verdict}
use Rattle.walk.specs.Rows.{ReadRows}

pub price_accepted : (r : Run) (froms tos : List ℕ) (rows : ReadRows) → refuses (judge_of r) ≡ false → length froms ≡ length tos → WellFormed (stops_of r) (list_of froms tos)
    → length r.numbers ≤ length rows.times → length r.numbers ≤ length rows.legs → refuses (price_verdict r froms tos rows) ≡ false
unfolding price_verdict list_verdict
price_accepted r froms tos rows a e w l k =
    rw (a, eq-eqb (length froms) (length tos) e, w, le-ltb (length rows.times) (length r.numbers) l, le-ltb (length rows.legs) (length r.numbers) k)
