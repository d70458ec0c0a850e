-- A stop that a file names stands on some row.
use mathlib.Core.Path.{sym, ◌∙◌}
use borrow.Author.Tests.{not-false}
use Rattle.runs.proofs.Entries.{named_some}
use Rattle.runs.proofs.lists.bad_alone.Goals as goal

pub bounds-numbers-0 : goal.bounds-numbers-0
bounds-numbers-0 c = named_some _ _ _ (sym c.names_stop.ensures ∙ not-false _ c.if-not-names_stop.false-raw)
