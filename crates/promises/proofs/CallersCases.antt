-- Worked: two entries read from their lines, a row that is too short for them, the stops of document 01's sheet in four rows, lines of a month, and neighbours. All of it computes.
use mathlib.Core.Path.{◌≡◌, refl, ap, ◌∙◌}
use Rattle.refusals.specs.Refusals.{accepted, first_where}
use Rattle.runs.specs.Run.{goes_on, first_member, last_within, want_stops, join_to, joined}
use Rattle.runs.specs.Judging.{judge_of, right_end}
use Rattle.text_bytes.specs.Text.{has, before, behind, starts_with, is_number, all_of, value_from}
use Rattle.text_lines.specs.Lines.{line_of, after_lines, is_pair_line, is_pair, first_bad_of, each_of}
use Rattle.sheet_reader.specs.Lines.{turn_with}
use Rattle.sheet_reader.specs.Sheet.{sheet_head, sheet_turn_with, sheet_files, file_text, wants_text, sheet_wants, want_text, sheet_run}
use Rattle.sheet_reader.specs.Reading.{read_row}
use Rattle.sheet_lists.specs.Form.{lines_in, lines_up_to, first_bad_to_end, is_plan, list_bad_line, list_detours, list_text}
use Rattle.sheet_lists.specs.Reading.{list_form}
use Rattle.engine_stops.specs.Joining.{join_verdict, join_answer, join_rows_of}
use Rattle.answer_month.specs.Parts.{is_count, count_of, part_of}
use Rattle.tape_ranges.specs.Ranges.{ranges_from, neighbour_overlap}
use Rattle.promises.specs.Callers.{JoinsTheExample}
use Rattle.promises.specs.CallersRead.{two_entries, ReadsTwoEntries, ShortForTwoEntries}
use Rattle.promises.specs.CallersMonth.{LinesOfAMonth}
use Rattle.promises.specs.CallersLines.{NeighboursWorked}

entries_formed : list_form two_entries ≡ accepted
unfolding list_form list_bad_line is_plan lines_in lines_up_to first_bad_to_end first_bad_of first_where is_pair_line is_pair is_number all_of value_from starts_with line_of after_lines has before behind
entries_formed = refl

pub reads_two_entries : ReadsTwoEntries
unfolding read_row list_detours list_text lines_in lines_up_to is_plan each_of value_from starts_with line_of after_lines has before behind
reads_two_entries r starts' ends' h = (h.detours ∙ rw entries_formed, h.froms ∙ rw entries_formed, h.tos ∙ rw entries_formed)

pub short_for_two_entries : ShortForTwoEntries
unfolding list_detours lines_in lines_up_to is_plan starts_with
short_for_two_entries r starts' ends' h = h.verdict ∙ rw entries_formed

pub joins_the_example : JoinsTheExample
unfolding join_verdict join_answer join_rows_of judge_of first_where goes_on first_member last_within want_stops join_to joined right_end sheet_run sheet_head sheet_turn_with turn_with sheet_files file_text wants_text sheet_wants want_text each_of line_of after_lines has before behind value_from
joins_the_example answer after says fills = (says, fills)

pub lines_of_a_month : LinesOfAMonth
unfolding part_of count_of is_count is_number all_of value_from has before behind
lines_of_a_month = (refl, refl, refl, refl)

pub neighbours_worked : NeighboursWorked
unfolding neighbour_overlap ranges_from
neighbours_worked = (refl, refl, refl)
