use Rattle.std.proofs.lemmas.Option.{unwrap_or-slice_get}
use Rattle.sheet_picks.proofs.Sheets.{last_read}
use Rattle.sheet_picks.proofs.sheet.last_end.Goals as goal

pub returns : goal.returns
returns c =
    let row = c.args.lasts.now in
    rw (c.unwrap_or.ensures, c.copied.ensures, c.last.ensures.value, unwrap_or-slice_get) (last_read row)
