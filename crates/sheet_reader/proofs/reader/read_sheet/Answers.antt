use Rattle.sheet_reader.proofs.Answers.{refused_read, files_ready, sheet_read}
use Rattle.sheet_reader.proofs.reader.read_sheet.Goals as goal

pub fill_triple-requires : goal.fill_triple-requires
fill_triple-requires c = files_ready _ _ _ _ _ _ _ c.in-Ok.ensures

pub returns-in-Err : goal.returns-in-Err
returns-in-Err c = refused_read _ _ _ _ _ _ _ c.in-Err.ensures _ c.unread.ensures

pub returns-in-Ok : goal.returns-in-Ok
returns-in-Ok c =
    let files = c.fill_triple.ensures in
    sheet_read _ _ _ _ _ _ _ c.in-Ok.ensures _ _ _ _ _ files.firsts_after files.seconds_after files.thirds_after c.fill_pairs.ensures
