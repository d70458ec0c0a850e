-- `desk_waits::put_waiting` meets its contract: office 1's lines, office 2's and the last, one behind the other.
-- Assumes nothing.
use mathlib.Core.Path.{◌≡◌}
use native.Mathlib.Omega.{arith}
use lib.ListN.{length}
use Rattle.text_pages.proofs.Pages.{wrote_long}
use Rattle.desk_waits.proofs.Lines.{text_wrote}
use borrow.Author.Rules.{rules}
use Rattle.desk_waits.proofs.put_waiting.Statement.{statement}
use Rattle.desk_waits.proofs.put_waiting.Tie as tie

-- The way back from a place in the code to the one that the name says.
abbrev at-put_waits-last_at : tie.After-slice_known-4-1 → tie.After-put_waits-last_at
at-put_waits-last_at c = c.before.before.before.before.before.before.before.before

-- The way back from a place in the code to the one that the name says.
abbrev at-start : tie.After-put_waits-twos_at → tie.Start
at-start c = c.before.before.before

abbrev at_ones : tie.After-put_waits-last_at → tie.After-put_waits-twos_at
at_ones c = c.before.before.before.before

long : (s : tie.Start) → length s.args.row ≡ 32
long s = search rules

put-waits-requires : tie.Need-put_waits-twos_at-requires
put-waits-requires c κs =
    let s = c in
    let w = s.requires.0 in
    (omega (arith, w.few), (w.few, omega (arith, w.few, s.requires.1)))

put-waits-requires-2 : tie.Need-put_waits-last_at-requires
put-waits-requires-2 c κs =
    let p = c in
    let s = at-start p.before.before.before in
    let w = s.requires.0 in
    let v = p.put_waits-twos_at.ensures in
    (omega (arith, w.less), (w.less, omega (arith, w.few, w.less, s.requires.1, v.within, wrote_long v (omega (arith, w.few, s.requires.1)))))

put-pair-line-requires : tie.Need-put_pair_line-requires
put-pair-line-requires c κs = search rules

same_length : tie.Need-shape_of-page
same_length c = search rules

returns : tie.Need-returns
returns c =
    let l = c in
    let q = l in
    let p = at_ones (at-put_waits-last_at q) in
    let s = at-start p in
    text_wrote s.args.row (long s) s.args.ones s.args.twos s.requires.0 _ _ _ _ _ _ _ s.requires.1 p.put_waits-twos_at.ensures q.put_waits-last_at.ensures l.put_pair_line.ensures

pub put_waiting_spec : {M : Type 1} → statement M
put_waiting_spec =
    tie.close
    (tie.spec
    put-waits-requires
    put-waits-requires-2
    put-pair-line-requires
    same_length
    returns)
