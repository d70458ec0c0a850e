-- The example of document 01, computed: the sheet that is written, what reading it gives, a damaged sheet, and the plan sheet. Then one with an
-- aggregate.
use Prim.Native.Nat.{ℕ}
use mathlib.Core.Path.{◌≡◌, refl}
use mathlib.Core.List.{List, [], ◌∷◌}
use Rattle.runs.specs.Run.{Run, run_of, goes_on, first_member, last_within, want_stops, join_to, joined}
use Rattle.runs.specs.Judging.{right_end}
use Rattle.refusals.specs.Refusals.{first_where}
use Rattle.walk.specs.Walk.{walked, served, time_of, times_of, leg_from, legs_for, sum_of}
use Rattle.runs.specs.Lists.{list_of}
use Rattle.walk.specs.Detours.{start_of, end_of, unread_end, sweep_end, legs_of, last_sweep}
use Rattle.walk.specs.Price.{priced_answer, priced_times, priced_legs}
use Rattle.text_bytes.specs.Text.{bytes, has, before, behind, starts_with, all_of, value_from, is_number, is_name, decimal_in}
use Rattle.text_lines.specs.Lines.{line_of, after_lines, is_number_line, is_pair, is_pair_line, is_triple, is_triple_line, first_bad_of, each_of}
use Rattle.sheet_reader.specs.Lines.{is_tape_line, is_count_line, is_turn_line, turn_with, is_rule_line}
use Rattle.sheet_reader.specs.Sheet.{sheet_head, sheet_turn_with, sheet_files, file_text, wants_text, sheet_wants, want_text, end_text, first_bad_top, first_bad_below, first_bad_line, sheet_run}
use Rattle.text_pages.specs.Printing.{pair_lines, triple_lines}
use Rattle.sheet_writer.specs.Writing.{top_text, sheet_text}
use Rattle.sheet_writer.specs.PlanSheet.{plan_top, plan_lines, plan_text}

abbrev pub sheet : List ℕ
sheet = bytes "tape=VX0041\nhead=60\nturn=1\nrule=least\nfiles=3\nfile=0,10,0\nfile=10,4,0\nfile=20,30,0\nwants=3\nwant=1,1\nwant=2,3\nwant=3,1\n"

-- The same with a leading zero in line 7.
abbrev pub damaged : List ℕ
damaged = bytes "tape=VX0041\nhead=60\nturn=1\nrule=least\nfiles=3\nfile=0,10,0\nfile=010,4,0\nfile=20,30,0\nwants=3\nwant=1,1\nwant=2,3\nwant=3,1\n"

abbrev pub plan : List ℕ
plan = bytes "tape=VX0041\nsum=367\nreads=5\nfinish=121\nend=50\ndetours=1\ndetour=2,2\ntime=1,81,2\ntime=2,55,1\ntime=3,121,2\n"

abbrev pub name : List ℕ
name = bytes "VX0041"

abbrev pub run : Run
run = run_of (0 ∷ 10 ∷ 20 ∷ []) (10 ∷ 4 ∷ 30 ∷ []) (0 ∷ 0 ∷ 0 ∷ []) (1 ∷ 2 ∷ 3 ∷ []) (1 ∷ 3 ∷ 1 ∷ []) 60 1

pub example_written : sheet_text name run ≡ sheet
unfolding sheet_text top_text pair_lines triple_lines decimal_in
example_written = refl

pub example_planned : plan_text name run (2 ∷ []) (2 ∷ []) ≡ plan
unfolding plan_text plan_lines plan_top pair_lines triple_lines decimal_in priced_answer priced_times priced_legs list_of goes_on first_member last_within want_stops join_to joined walked time_of times_of leg_from legs_for sum_of start_of end_of served unread_end sweep_end legs_of last_sweep right_end
example_planned = refl

pub example_described : first_bad_line sheet ≡ 0
unfolding first_bad_line first_bad_top first_bad_below first_bad_of first_where end_text want_text sheet_wants wants_text file_text sheet_files is_pair_line is_triple_line is_triple is_pair is_rule_line is_turn_line is_count_line is_number_line is_tape_line after_lines line_of is_name is_number value_from all_of starts_with behind before has
example_described = refl

pub damaged_refused : first_bad_line damaged ≡ 7
unfolding first_bad_line first_bad_top first_bad_below first_bad_of first_where end_text want_text sheet_wants wants_text file_text sheet_files is_pair_line is_triple_line is_triple is_pair is_rule_line is_turn_line is_count_line is_number_line is_tape_line after_lines line_of is_name is_number value_from all_of starts_with behind before has
damaged_refused = refl

pub example_read : sheet_run sheet ≡ run
unfolding sheet_run each_of sheet_head sheet_turn_with turn_with want_text sheet_wants wants_text file_text sheet_files after_lines line_of value_from behind before has
example_read = refl

-- Two numbers on a line of a file, as before there were aggregates.
abbrev pub old : List ℕ
old = bytes "tape=VX0041\nhead=60\nturn=1\nrule=least\nfiles=3\nfile=0,10,0\nfile=10,4\nfile=20,30,0\nwants=3\nwant=1,1\nwant=2,3\nwant=3,1\n"

pub old_refused : first_bad_line old ≡ 7
unfolding first_bad_line first_bad_top first_bad_below first_bad_of first_where end_text want_text sheet_wants wants_text file_text sheet_files is_pair_line is_triple_line is_triple is_pair is_rule_line is_turn_line is_count_line is_number_line is_tape_line after_lines line_of is_name is_number value_from all_of starts_with behind before has
old_refused = refl

-- Files 2 and 3 lie in aggregate 7, with a gap between them, and only file 3 is wanted: the aggregate is read whole, and named by file 2.
abbrev pub aggregate_sheet : List ℕ
aggregate_sheet = bytes "tape=VX0041\nhead=60\nturn=1\nrule=least\nfiles=4\nfile=0,10,0\nfile=10,4,7\nfile=16,4,7\nfile=20,30,0\nwants=3\nwant=1,1\nwant=3,3\nwant=4,1\n"

abbrev pub aggregate_plan : List ℕ
aggregate_plan = bytes "tape=VX0041\nsum=409\nreads=5\nfinish=133\nend=50\ndetours=1\ndetour=2,2\ntime=1,93,2\ntime=3,61,1\ntime=4,133,2\n"

abbrev pub aggregate_run : Run
aggregate_run = run_of (0 ∷ 10 ∷ 16 ∷ 20 ∷ []) (10 ∷ 4 ∷ 4 ∷ 30 ∷ []) (0 ∷ 7 ∷ 7 ∷ 0 ∷ []) (1 ∷ 3 ∷ 4 ∷ []) (1 ∷ 3 ∷ 1 ∷ []) 60 1

pub aggregate_written : sheet_text name aggregate_run ≡ aggregate_sheet
unfolding sheet_text top_text pair_lines triple_lines decimal_in
aggregate_written = refl

pub aggregate_read : sheet_run aggregate_sheet ≡ aggregate_run
unfolding sheet_run each_of sheet_head sheet_turn_with turn_with want_text sheet_wants wants_text file_text sheet_files after_lines line_of value_from behind before has
aggregate_read = refl

pub aggregate_planned : plan_text name aggregate_run (2 ∷ []) (2 ∷ []) ≡ aggregate_plan
unfolding plan_text plan_lines plan_top pair_lines triple_lines decimal_in priced_answer priced_times priced_legs list_of goes_on first_member last_within want_stops join_to joined walked time_of times_of leg_from legs_for sum_of start_of end_of served unread_end sweep_end legs_of last_sweep right_end
aggregate_planned = refl
