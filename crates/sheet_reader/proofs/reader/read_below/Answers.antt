use Rattle.sheet_reader.proofs.Order.{files_bad_below, files_good_below}
use Rattle.sheet_reader.proofs.reader.read_below.Goals as goal

pub read_wants-requires : goal.read_wants-requires
read_wants-requires c = files_good_below _ _ _ _ c.requires c.in-Ok.ensures

pub returns-in-Err : goal.returns-in-Err
returns-in-Err c = files_bad_below _ _ _ _ c.requires c.in-Err.ensures
