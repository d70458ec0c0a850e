-- The last member lies in the row, or is the file itself.
use Rattle.std.proofs.Common.{arith, ◌-◌}
use mathlib.Core.Logic.{⊎_elim}
use Rattle.runs.proofs.Members.{last_bound}
use Rattle.runs.proofs.lists.last_file.Goals as goal

pub overflow_add-result : goal.overflow_add-result
overflow_add-result c =
    ⊎_elim (λ l. omega (arith, c.last_member.ensures, l)) (λ e. omega (arith, c.last_member.ensures, e)) (last_bound c.args.aggregates.now (c.args.file - 1))
