use Rattle.tape_names.proofs.Names.{name_missing, name_first}
use Rattle.tape_names.proofs.own_name.Goals as goal

pub returns-in-Ok : goal.returns-in-Ok
returns-in-Ok c = name_first _ _ _ _ _ _ _ _ c.in-Ok.ensures.here _ c.read_name.ensures

pub returns-in-Err : goal.returns-in-Err
returns-in-Err c = name_missing _ _ _ _ _ _ c.in-Err.ensures.none
