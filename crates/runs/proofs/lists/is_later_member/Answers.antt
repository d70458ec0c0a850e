-- Number 0 is no file.
use mathlib.Core.Path.{sym}
use Rattle.runs.proofs.Members.{goes_on_zero}
use Rattle.runs.proofs.lists.is_later_member.Goals as goal

pub returns-then-file-eq0 : goal.returns-then-file-eq0
returns-then-file-eq0 c = rw c.if-file-eq0.true (sym (goes_on_zero _))
