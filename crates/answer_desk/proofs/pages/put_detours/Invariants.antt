-- What stands on the page and the lines left make the whole.
use Rattle.std.proofs.Common.{take, drop}
use Rattle.text_pages.specs.Printing.{pair_lines}
use Rattle.text_pages.proofs.Pages.{LinesPut}
use Rattle.sheet_writer.specs.PlanSheet.{detour_key}
use Rattle.answer_desk.proofs.pages.put_detours.Given as goal

abbrev pub invariant-loop-i : goal.invariant-loop-i
invariant-loop-i l =
    LinesPut l.initial.page l.at 49 (pair_lines detour_key (take l.n l.froms) (take l.n l.tos)) l.n (pair_lines detour_key (drop l.i (take l.n l.froms)) (drop l.i (take l.n l.tos))) l.page l.next l.i
