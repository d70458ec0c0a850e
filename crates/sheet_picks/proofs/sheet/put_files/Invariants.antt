use Rattle.std.proofs.Common.{length}
use Rattle.text_pages.proofs.Pages.{LinesPut}
use Rattle.sheet_picks.proofs.Sheets.{file_lines}
use Rattle.sheet_picks.proofs.sheet.put_files.Given as goal

abbrev pub invariant-loop-first : goal.invariant-loop-first
invariant-loop-first l =
    LinesPut l.fn.page l.at 68 (file_lines l.firsts l.lasts 0) (length l.firsts) (file_lines l.firsts l.lasts (length l.yielded)) l.page l.next (length l.yielded)
