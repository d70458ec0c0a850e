use Rattle.text_paths.proofs.Asked.{PathLeft}
use Rattle.text_paths.proofs.is_path.Given as goal

abbrev pub invariant-loop-byte : goal.invariant-loop-byte
invariant-loop-byte l = PathLeft l.text l.begun l.byte-index
