use Rattle.text_bytes.proofs.Bytes.{Growing}
use Rattle.text_bytes.proofs.read_number.Given as goal

abbrev pub invariant-loop-byte : goal.invariant-loop-byte
invariant-loop-byte l = Growing l.text l.value l.byte-index
