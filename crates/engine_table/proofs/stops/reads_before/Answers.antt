-- The first counts by themselves.
use mathlib.Core.Path.{◌∙◌}
use Rattle.engine_table.proofs.Sizes.{reads_of_part}
use Rattle.engine_table.proofs.stops.reads_before.Goals as goal

pub returns : goal.returns
returns c = c.count_reads.ensures ∙ reads_of_part c.args.counts.now c.args.n c.requires.n_in_bounds c.requires.counts_bound
