use Rattle.std.proofs.Common.{length}
use Rattle.tape_markup.specs.Places.{tokens_at}
use Rattle.tape_files.specs.Index.{extent_info_name}
use Rattle.tape_files.proofs.Bare.{ReadTo}
use Rattle.answer_ltfs.proofs.Files.{info_step}
use Rattle.answer_ltfs.proofs.index.read_file.Given as goal

abbrev pub invariant-loop-inner : goal.invariant-loop-inner
invariant-loop-inner l = ReadTo info_step extent_info_name l.text l.initial.here l.initial.file l.file l.here

abbrev pub decreases-loop-inner : goal.decreases-loop-inner
decreases-loop-inner l = length (tokens_at l.text l.here)
