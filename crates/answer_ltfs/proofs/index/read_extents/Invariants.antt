use Rattle.std.proofs.Common.{length}
use Rattle.tape_markup.specs.Places.{tokens_at}
use Rattle.tape_files.specs.Index.{extent_name}
use Rattle.tape_files.proofs.Bare.{ReadTo}
use Rattle.answer_ltfs.proofs.Files.{extent_step}
use Rattle.answer_ltfs.proofs.index.read_extents.Given as goal

abbrev pub invariant-loop-inner : goal.invariant-loop-inner
invariant-loop-inner l = ReadTo extent_step extent_name l.text l.initial.here l.initial.file l.file l.here

abbrev pub decreases-loop-inner : goal.decreases-loop-inner
decreases-loop-inner l = length (tokens_at l.text l.here)
