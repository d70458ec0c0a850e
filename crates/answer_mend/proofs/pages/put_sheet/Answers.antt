-- Part by part.
use mathlib.Core.Path.{sym}
use lib.Seq.{length-take-le}
use Rattle.answer_mend.proofs.Texts.{table_within, tail_within, third_within, wants_room, sheet_put}
use Rattle.answer_mend.proofs.pages.put_sheet.Goals as goal

pub slice_bounds-put-end : goal.slice_bounds-put-end
slice_bounds-put-end c =
    sym (length-take-le _ c.args.sheet.now (third_within c.args.page.now _ _ _ _ _ c.requires.writable c.requires.page_len))

pub slice_bounds-put-count : goal.slice_bounds-put-count
slice_bounds-put-count c =
    table_within c.args.page.now _ _ _ _ _ c.requires.writable c.requires.page_len

pub slice_bounds-put-start : goal.slice_bounds-put-start
slice_bounds-put-start c =
    table_within c.args.page.now _ _ _ _ _ c.requires.writable c.requires.page_len

pub slice_bounds-put-end-3 : goal.slice_bounds-put-end-3
slice_bounds-put-end-3 c =
    tail_within c.args.page.now _ _ _ _ _ c.requires.writable c.requires.page_len

pub put_wants-requires : goal.put_wants-requires
put_wants-requires c =
    let room = wants_room c.args.page.now _ _ _ _ _ c.requires.writable c.requires.page_len c.put-turn_at.ensures c.put_number_line-rule_at.ensures c.put-files_at.ensures
    c.put_number_line-table_at.ensures c.put-wants_at.ensures c.put_number_line-body_at.ensures in
    record { few_reads = room.0; row_in_bounds = room.1 }

pub returns : goal.returns
returns c =
    sheet_put c.args.page.now _ _ _ _ _ c.requires.writable c.requires.page_len c.put-turn_at.ensures c.put_number_line-rule_at.ensures c.put-files_at.ensures
    c.put_number_line-table_at.ensures c.put-wants_at.ensures c.put_number_line-body_at.ensures c.put_wants.ensures
