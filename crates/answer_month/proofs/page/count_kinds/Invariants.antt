use Rattle.std.proofs.Common.{◌≡◌, ◌+◌, ◌≤◌, drop}
use Rattle.answer_month.specs.Page.{kinds_in}
use Rattle.answer_month.proofs.page.count_kinds.Given as goal

abbrev pub invariant-loop-refused : goal.invariant-loop-refused
invariant-loop-refused l = record { all : l.kinds + kinds_in (drop l.refused-index l.runs) ≡ kinds_in l.runs; few : l.kinds ≤ l.refused-index }
