use Rattle.sheet_reader.proofs.Answers.{name_read, name_from, no_name, no_name_from}
use Rattle.sheet_reader.proofs.reader.tape_name.Goals as goal

pub returns-in-Err-clause-result_value : goal.returns-in-Err-clause-result_value
returns-in-Err-clause-result_value c = no_name _ _ c.in-Err.ensures

pub returns-in-Err-clause-ref_ptr_value : goal.returns-in-Err-clause-ref_ptr_value
returns-in-Err-clause-ref_ptr_value c = no_name_from _ _ c.in-Err.ensures _

pub returns-in-Ok-clause-result_value : goal.returns-in-Ok-clause-result_value
returns-in-Ok-clause-result_value c = name_read _ _ c.in-Ok.ensures

pub returns-in-Ok-clause-ref_ptr_value : goal.returns-in-Ok-clause-ref_ptr_value
returns-in-Ok-clause-ref_ptr_value c = name_from _ _ c.in-Ok.ensures _
