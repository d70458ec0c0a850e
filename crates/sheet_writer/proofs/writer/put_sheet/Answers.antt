-- The first lines, the files, the number of wants and the wants.
use Rattle.std.proofs.Common.{arith}
use Rattle.sheet_writer.specs.Writing.{sheet_text}
use Rattle.text_pages.proofs.Pages.{wrote_both, wrote_on, wrote_within}
use Rattle.sheet_writer.proofs.writer.put_sheet.Goals as goal

pub returns : goal.returns
unfolding sheet_text
returns c =
    let z = c.requires in
    let two = wrote_both c.put_top-file_at.ensures c.put_triples-wants_at.ensures in
    let three = wrote_on two (omega arith) c.put_number_line-want_at.ensures in
    wrote_within (wrote_both three c.put_pairs.ensures) _ (omega arith)
