-- `answer_field::field` meets its contract: what is written of the list of the sheet's run is the answer to the sheet.
-- Assumes nothing.
use Rattle.engine_plain.proofs.Checks.{run_passed}
use Rattle.answer_plan.proofs.Answered.{recalled}
use Rattle.answer_field.specs.Field.{field_checks}
use borrow.Author.Rules.{rules}
use Rattle.answer_field.proofs.field.Statement.{statement}
use Rattle.answer_field.proofs.field.Tie as tie

read-run-requires : tie.Need-read_run-run-requires
read-run-requires c κs = search rules

list-run-requires : tie.Need-list_run-list-requires
list-run-requires c κs = search rules

write-list-requires : tie.Need-write_list-requires
write-list-requires c κs = search rules

same_length : tie.Need-shape_of-out
same_length c = c.write_list.auto.out

returns : tie.Need-returns
returns c =
    let w = c in
    let l = w in
    recalled field_checks run_passed _ _ l.read_run-run.ensures l.list_run-list.result l.list_run-list.ensures _ _ _ w.write_list.ensures

pub field_spec : {M : Type 1} → statement M
field_spec =
    tie.close
    (tie.spec
    read-run-requires
    list-run-requires
    write-list-requires
    same_length
    returns)
