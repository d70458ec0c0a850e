use Rattle.tape_picks.specs.Private.{pick_in}
use Rattle.tape_picks.proofs.Noting.{Noting}
use Rattle.tape_picks.proofs.notes.note.Given as goal

-- The lines of the places passed have their file more, all others are as they were.
abbrev pub invariant-loop-k : goal.invariant-loop-k
invariant-loop-k l = Noting l.from l.to l.order l.count l.range.low l.range.high l.range.length l.span (pick_in l.fn.states l.fn.starts l.fn.ends) (pick_in l.states l.starts l.ends) l.k
