use Rattle.sheet_lists.proofs.Counting.{Counted}
use Rattle.sheet_lists.proofs.count_lines.Given as goal

abbrev pub invariant-loop-byte : goal.invariant-loop-byte
invariant-loop-byte l = Counted l.text l.lines l.byte-index
