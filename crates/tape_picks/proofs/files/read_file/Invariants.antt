use Rattle.std.proofs.Common.{length}
use Rattle.tape_markup.specs.Places.{tokens_at}
use Rattle.tape_files.specs.Index.{extent_info_name}
use Rattle.tape_files.proofs.Bare.{ReadTo}
use Rattle.tape_picks.proofs.Extents.{info_step}
use Rattle.tape_picks.proofs.files.read_file.Given as goal

-- The extents left add to the file what all add.
abbrev pub invariant-loop-inner : goal.invariant-loop-inner
invariant-loop-inner l = ReadTo (info_step l.tape) extent_info_name l.text l.initial.here l.initial.file l.file l.here

abbrev pub decreases-loop-inner : goal.decreases-loop-inner
decreases-loop-inner l = length (tokens_at l.text l.here)
