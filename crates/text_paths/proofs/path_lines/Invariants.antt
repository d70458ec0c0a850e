use Rattle.text_lines.proofs.Passing.{LinesSeen}
use Rattle.text_paths.specs.Paths.{is_asked}
use Rattle.text_paths.proofs.path_lines.Given as goal

abbrev pub invariant-loop-i : goal.invariant-loop-i
invariant-loop-i l = LinesSeen is_asked l.text 0 l.count l.next l.i
