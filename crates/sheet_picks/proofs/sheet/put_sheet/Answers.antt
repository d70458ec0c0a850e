-- The first five lines, the files, the number of wants and the wants, one behind the other.
use mathlib.Core.Path.{◌∙◌, ap}
use Rattle.sheet_picks.specs.Sheets.{given_or}
use Rattle.sheet_picks.proofs.Sheets.{files_room, wants_room, sheet_put}
use Rattle.sheet_picks.proofs.sheet.put_sheet.Goals as goal

pub put_files-wants_at-requires : goal.put_files-wants_at-requires
put_files-wants_at-requires c = record {
  entry_rows = c.requires.entry_rows;
  firsts_in_bounds = files_room c.args.name.now c.args.starts.now c.args.firsts.now c.args.lasts.now c.args.head.now c.args.turn.now c.requires.firsts_len_bound _ c.requires.sheet_most_in_bounds _ _ _ _ c.put_top-file_at.ensures;
}

pub put_wants-requires : goal.put_wants-requires
put_wants-requires c = record {
  entry_rows = c.requires.entry_rows;
  firsts_in_bounds = wants_room c.args.name.now c.args.starts.now c.args.firsts.now c.args.lasts.now c.args.head.now c.args.turn.now c.requires.firsts_len_bound _ c.requires.sheet_most_in_bounds _ _ _ _ c.put_top-file_at.ensures _ _ c.put_files-wants_at.ensures _ _ c.put_number_line-want_at.ensures;
}

pub returns : goal.returns
returns c =
    let h = c.given_or-place.ensures ∙ ap (λ x. given_or x c.args.head.now) c.last_end.ensures in
    sheet_put c.args.name.now c.args.starts.now c.args.firsts.now c.args.lasts.now c.args.head.now c.args.turn.now c.requires.firsts_len_bound _ c.requires.sheet_most_in_bounds _ _ _ _ c.put_top-file_at.ensures _ _ c.put_files-wants_at.ensures _ _ c.put_number_line-want_at.ensures h c.given_or-price.ensures _ _ c.put_wants.ensures
