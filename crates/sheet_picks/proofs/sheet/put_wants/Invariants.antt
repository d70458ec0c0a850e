use Rattle.std.proofs.Common.{length}
use Rattle.text_pages.proofs.Pages.{LinesPut}
use Rattle.sheet_picks.proofs.Sheets.{want_lines}
use Rattle.sheet_picks.proofs.sheet.put_wants.Given as goal

abbrev pub invariant-loop-i : goal.invariant-loop-i
invariant-loop-i l = LinesPut l.fn.page l.at 47 (want_lines l.starts l.firsts l.lasts 0) (length l.firsts) (want_lines l.starts l.firsts l.lasts l.i) l.page l.next l.i
