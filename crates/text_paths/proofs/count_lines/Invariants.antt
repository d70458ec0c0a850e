use Rattle.text_paths.proofs.Asked.{LinesLeft}
use Rattle.text_paths.proofs.count_lines.Given as goal

abbrev pub invariant-loop-byte : goal.invariant-loop-byte
invariant-loop-byte l = LinesLeft l.text l.count l.begun l.byte-index
