use Rattle.std.proofs.Common.{map, take}
use Rattle.planner.specs.Private.{first_file_in}
use Rattle.planner.proofs.Filling.{Filling}
use Rattle.planner.proofs.name_files.Given as goal

abbrev pub invariant-loop-file : goal.invariant-loop-file
invariant-loop-file l = Filling (map (first_file_in l.firsts) (take l.entries l.fn.row)) (take l.entries l.fn.row) l.file-items l.file-index
