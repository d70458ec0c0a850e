-- The hypotheses of the demands can be met: the sheet of document 01 gives an accepted run, a refusal, and for demand 3 two runs with a
-- movement that is the walk of no detour list.
use Prim.Native.Nat.{ℕ, zero, suc, ◌+◌, ◌≤◌}
use mathlib.Core.Path.{◌≡◌, refl, sym, ap, ◌∙◌}
use mathlib.Core.Bool.{Bool, true, false, cond, true≢false}
use mathlib.Core.Logic.{inl, inr}
use mathlib.Core.List.{List, [], ◌∷◌, ◌++◌, map}
use native.Mathlib.Omega.{arith}
use lib.ListN.{length, take, replicate, length-replicate}
use native.Mathlib.Nat.{le_refl}
use borrow.Author.Tests.{le-ltb}
use lib.Dec.{eqb}
use Rattle.refusals.specs.declared.Refusal.{Refusal}
use Rattle.refusals.specs.declared.Refusal.TheVariants.{Accepted, BadEntry, BadLine, RetiredRule, ShortRoom}
use Rattle.walk.specs.declared.Answer.{Answer}
use Rattle.walk.specs.declared.Leg.{Leg}
use Rattle.refusals.specs.Refusals.{is_refusal, first_where}
use Rattle.runs.specs.Run.{Run, run_of, goes_on, first_member, last_within, want_stops, join_to, joined, stops_of}
use Rattle.runs.specs.Judging.{right_end}
use Rattle.runs.specs.Rows.{stop_at}
use Rattle.runs.specs.Judging.{judge_of}
use Rattle.walk.specs.Walk.{head_at, Moves, served, ServesAll, time_of, sum_of}
use Rattle.runs.specs.Lists.{Detour, wanted, any_below, first_bad_entry, list_verdict, list_of}
use Rattle.walk.specs.Detours.{start_of, end_of, leg_of, unread_end, sweep_end, last_sweep, legs_of}
use Rattle.walk.specs.Price.{refusal_answer, priced_answer, price_verdict, price_answer, price_rows}
use Rattle.walk.specs.Rows.{ReadRows, read_rows}
use Rattle.refusals.proofs.Verdicts.{refuses}
use Rattle.walk.proofs.Sweeps.{sweeps_to}
use Rattle.least.specs.Wants.{reads_of_file}
use Rattle.least.specs.Recurrence.{plan_detours, W, lowest, scan, filledTo, filled, candidate, next, value, choice, built, nextPlan, best, least_list}
use Rattle.planner.specs.Plan.{Plans, plan_verdict}
use Rattle.planner.specs.Rows.{Rows, rows_of}
use Rattle.engine_plain.specs.Plain.{PlainRows, plain_rows, plain_verdict}
use Rattle.boundary.specs.Boundary.{code_of, sums_with, price_call, price_reads, price_sums, plan_call, PlanCalled}
use Rattle.text_bytes.specs.Text.{bytes, all_of, is_number, is_name, value_from, starts_with, has, before, behind}
use Rattle.sheet_reader.specs.declared.Reading.{Reading}
use Rattle.text_lines.specs.Lines.{line_of, after_lines, is_number_line, is_pair, is_pair_line, is_triple_line, first_bad_of}
use Rattle.sheet_reader.specs.Lines.{is_tape_line, is_count_line, is_turn_line, is_rule_line, names_sweep}
use Rattle.sheet_reader.specs.Sheet.{says_sweep, sheet_files, file_text, wants_text, sheet_wants, want_text, end_text, first_bad_top, first_bad_below, first_bad_line, sheet_run, sheet_name}
use Rattle.sheet_reader.specs.Reading.{sheet_verdict, rule_verdict, read_verdict, read_answer, read_row, RunRows, run_rows, rows_verdict, read_name}
use Rattle.sheet_writer.specs.declared.Written.{Written}
use Rattle.sheet_writer.specs.Writing.{sheet_text, row_verdict, write_verdict, written_answer, written_row}
use Rattle.answer_rewrite.specs.Rewriting.{price_is_empty, bytes_before, rewritten, rewrite_verdict}
use Rattle.demands.specs.RefusalTable.{FirstBad, NothingApplies, FirstThatApplies, none, here, later, SomeApplies}
use Rattle.demands.specs.Demand1.{ByTheTable, PlanApplies, plan_order}
use Rattle.demands.specs.Lines.{LineIsBad, lines_due}
use Rattle.demands.specs.Sheets.{GivesBack, run_read, RunComesBack}
use Rattle.demands.specs.SheetLines.{OnItsLines, BehindRead}
use Rattle.demands.specs.Turns.{Rewrites}
use Rattle.demands.specs.Formed.{ObeysTheRules}
use Rattle.demands.specs.Demand2.{IsTheWalk, IsPriceOf, IsLeast}
use Rattle.demands.specs.Demand3.{AsksNoLess}
use Rattle.demands.specs.Movements.{AsksNoLessByFile, Attained}
use Rattle.demands.specs.Plain.{SameAnswer}
use Rattle.demands.specs.Calls.{PriceCallWalks, PlanCallWalks}
use Rattle.demands.specs.Cases.{example_run, four_files}
use Rattle.demands.proofs.Judged.{nothing_judged, judged_nothing}
use Rattle.demands.proofs.Formed.{formed_by_the_rules}
use Rattle.demands.proofs.Demand1.{demand1_price, demand1_plan, plan_refused_iff}
use Rattle.demands.proofs.Demand2.{demand2_price, demand2_walk, demand2_least}
use Rattle.demands.proofs.Demand3.{no_less_by_file, demand3, demand3_by_file, demand3_same, demand3_attained}
use Rattle.demands.proofs.Called.{demand2_price_call, demand2_plan_call, demand3_plan_call}
use Rattle.demands.proofs.FirstLine.{lines_by_the_table}
use Rattle.demands.proofs.Sheets.{demand1_read}
use Rattle.demands.proofs.WriteRead.{demand2_round_trip, write_then_read}
use Rattle.demands.proofs.SheetLines.{read_holds_its_lines}
use Rattle.demands.proofs.Turns.{rewritten_bytes}
use Rattle.demands.proofs.Plain.{plain_as_planned}
use Rattle.demands.proofs.Fits.{plan_answer, plan_rows, plans_for_every_input, plain_answer, plain_after, plain_for_every_input}

-- The sheet's run with rows and room that just suffice: the planner accepts, and reports 367.
abbrev pub sheet_rows : ℕ → Rows
sheet_rows words = rows_of (7 ∷ 7 ∷ []) (7 ∷ 7 ∷ []) (7 ∷ 7 ∷ 7 ∷ []) (7 ∷ 7 ∷ 7 ∷ []) (replicate words 7)

abbrev pub sheet_answer : ℕ → Answer
sheet_answer words = plan_answer example_run (sheet_rows words)

abbrev pub sheet_after : ℕ → Rows
sheet_after words = plan_rows example_run (sheet_rows words)

pub sheet_accepted : (sheet_answer 54).refusal ≡ Accepted
unfolding plan_answer plan_verdict judge_of first_where goes_on first_member last_within want_stops join_to joined right_end priced_answer
sheet_accepted = refl

pub sheet_reports : (sheet_answer 54).sum ≡ 367
unfolding plan_answer plan_verdict judge_of first_where goes_on first_member last_within want_stops join_to joined right_end priced_answer start_of end_of served unread_end sweep_end last_sweep legs_of time_of sum_of least_list plan_detours W lowest scan filledTo filled candidate next value choice built nextPlan best
sheet_reports = refl

-- The plain engine accepts it too, and answers what the planner answers.
abbrev pub plain_sheet_rows : PlainRows
plain_sheet_rows = plain_rows (7 ∷ 7 ∷ []) (7 ∷ 7 ∷ []) (7 ∷ 7 ∷ 7 ∷ []) (7 ∷ 7 ∷ 7 ∷ [])

plain_sheet_accepted : (plain_answer example_run plain_sheet_rows).refusal ≡ Accepted
unfolding plain_answer plain_verdict judge_of first_where goes_on first_member last_within want_stops join_to joined right_end priced_answer
plain_sheet_accepted = refl

pub plain_sheet_planned : SameAnswer example_run (plain_answer example_run plain_sheet_rows) (plain_after example_run plain_sheet_rows) (sheet_answer 54) (sheet_after 54)
plain_sheet_planned =
    plain_as_planned example_run plain_sheet_rows (plain_answer example_run plain_sheet_rows) (plain_after example_run plain_sheet_rows) (sheet_rows 54) (sheet_answer 54) (sheet_after 54)
    (plain_for_every_input example_run plain_sheet_rows) plain_sheet_accepted (plans_for_every_input example_run (sheet_rows 54)) sheet_accepted

-- Rows for the times and legs of four wants, and of three.
abbrev zeros : ReadRows
zeros = read_rows (0 ∷ 0 ∷ 0 ∷ 0 ∷ []) (0 ∷ 0 ∷ 0 ∷ 0 ∷ [])

abbrev threes : ReadRows
threes = read_rows (7 ∷ 7 ∷ 7 ∷ []) (7 ∷ 7 ∷ 7 ∷ [])

-- One word less, and it refuses by 9; the pricer refuses (3,4)(2,4) at entry 2.
pub short_room_refused : (sheet_answer 53).refusal ≡ ShortRoom
unfolding plan_answer plan_verdict judge_of first_where goes_on first_member last_within want_stops join_to joined right_end
short_room_refused = refl

pub crossing_list_refused : price_answer four_files (3 ∷ 2 ∷ []) (4 ∷ 4 ∷ []) zeros ≡ refusal_answer (record { refusal = BadEntry; place = 2 })
unfolding price_answer price_verdict judge_of first_where goes_on first_member last_within want_stops join_to joined right_end list_verdict list_of first_bad_entry wanted any_below
crossing_list_refused = refl

-- 01's rules: (3,3)(2,4) obeys them, (3,4)(2,4) with its equal ends does not.
abbrev two_detours : ℕ → ℕ → ℕ → ℕ → List Detour
two_detours a b c d = record { from = a; to = b } ∷ record { from = c; to = d } ∷ []

pub nested_obeys : ObeysTheRules (stops_of four_files) (two_detours 3 3 2 4)
unfolding first_bad_entry first_where goes_on first_member last_within want_stops join_to joined wanted any_below
nested_obeys = (formed_by_the_rules (stops_of four_files) (two_detours 3 3 2 4)).0 refl

pub equal_ends_break : ObeysTheRules (stops_of four_files) (two_detours 3 4 2 4) → ⊥
unfolding first_bad_entry first_where goes_on first_member last_within want_stops join_to joined wanted any_below
equal_ends_break rules = let formed : ◌≡◌ {A = ℕ} 2 0 = (formed_by_the_rules (stops_of four_files) (two_detours 3 4 2 4)).1 rules in omega arith

-- Demand 3. The first run asks more than the sheet's: one more read of file 2, a higher price, a head further right.
abbrev pub more_asked : Run
more_asked = run_of (0 ∷ 10 ∷ 20 ∷ []) (10 ∷ 4 ∷ 30 ∷ []) (0 ∷ 0 ∷ 0 ∷ []) (1 ∷ 2 ∷ 3 ∷ []) (1 ∷ 4 ∷ 1 ∷ []) 70 2

-- Legs that turn in gaps, inside files and beyond the last one; only the last begins where a file does.
abbrev pub wanderings : List Leg
wanderings = record { left = 18; right = 55 } ∷ record { left = 5; right = 15 } ∷ record { left = 0; right = 33 } ∷ []

more_accepted : NothingApplies more_asked
unfolding judge_of first_where goes_on first_member last_within want_stops join_to joined right_end
more_accepted = judged_nothing more_asked refl

sheet_judged : NothingApplies example_run
unfolding judge_of first_where goes_on first_member last_within want_stops join_to joined right_end
sheet_judged = judged_nothing example_run refl

no_fewer_reads : (a b c : Bool) → cond a 1 0 + (cond b 3 0 + (cond c 1 0 + 0)) ≤ cond a 1 0 + (cond b 4 0 + (cond c 1 0 + 0))
no_fewer_reads a true c = omega arith
no_fewer_reads a false c = omega arith

more_by_file : AsksNoLessByFile more_asked example_run
unfolding reads_of_file
more_by_file =
    record { starts = refl; lengths = refl; aggregates = refl; reads = λ f. no_fewer_reads (eqb 1 f) (eqb 2 f) (eqb 3 f); turn = omega arith; head = omega arith }

more_asks_no_less : AsksNoLess more_asked example_run
more_asks_no_less = no_less_by_file more_asked example_run more_accepted sheet_judged more_by_file

wanderings_move : (head : ℕ) → 18 ≤ head → Moves head wanderings
wanderings_move head far = omega arith

wanderings_serve : ServesAll wanderings (stops_of more_asked) × ServesAll wanderings (stops_of example_run)
unfolding ServesAll served goes_on first_member last_within want_stops join_to joined
wanderings_serve = ((tt, (tt, (tt, tt))), (tt, (tt, (tt, tt))))

-- Their last leg stops short of the rightmost wanted end, where that of every detour list stops.
last_right : List Leg → ℕ
last_right [] = 0
last_right (g ∷ []) = g.right
last_right (g ∷ h ∷ gs) = last_right (h ∷ gs)

last_right_joined : (gs : List Leg) (g : Leg) → last_right (gs ++ (g ∷ [])) ≡ g.right
unfolding last_right
last_right_joined [] g = refl
last_right_joined (a ∷ []) g = refl
last_right_joined (a ∷ b ∷ gs) g = last_right_joined (b ∷ gs) g

-- No wanted file ends where it does.
none_ends_there : (i : ℕ) → ◌≡◌ {A = ℕ} 33 (stop_at (stops_of more_asked) i).end → ⊥
unfolding goes_on first_member last_within want_stops join_to joined
none_ends_there zero e = omega arith
none_ends_there (suc zero) e = omega arith
none_ends_there (suc (suc zero)) e = omega arith
none_ends_there (suc (suc (suc i))) e = omega arith

pub wanderings_no_list : (list : List Detour) → wanderings ≡ legs_of (stops_of more_asked) list → ⊥
unfolding last_right legs_of last_sweep goes_on first_member last_within want_stops join_to joined
wanderings_no_list list e =
    let detours : List Leg = map (leg_of (stops_of more_asked)) list in
    let to = sweeps_to detours (stops_of more_asked) (omega arith) in
    none_ends_there to.index (ap last_right e ∙ last_right_joined detours (record { left = 0; right = sweep_end detours (stops_of more_asked) }) ∙ to.is)

-- So each demand speaks of something.
sheet_plans : (words : ℕ) → Plans example_run (sheet_rows words) (sheet_answer words) (sheet_after words)
sheet_plans words = plans_for_every_input example_run (sheet_rows words)

pub short_room_keeps_rows : sheet_after 53 ≡ sheet_rows 53
short_room_keeps_rows =
    ((demand1_plan example_run (sheet_rows 53) (sheet_answer 53) (sheet_after 53) (sheet_plans 53)).kept
    (λ e. true≢false (ap is_refusal (sym short_room_refused ∙ e)))).1

-- A build that refuses everything, whatever its definitions say: no refusal of the sheet's run, with rows and room that suffice, goes by the table.
none_first : {applies : Refusal → ℕ → Type 0} {order : List Refusal} {kind : Refusal} {place : ℕ} → (SomeApplies applies order → ⊥)
    → FirstThatApplies applies order kind place → kind ≡ Accepted
none_first nothing none = refl
none_first nothing (here h) = absurd (nothing (inl (_, h)))
none_first nothing (later skipped rest) = none_first (λ s. nothing (inr s)) rest

pub no_refusal_of_the_sheet : (answer : Answer) (after : Rows) → ByTheTable (PlanApplies example_run (sheet_rows 54)) plan_order (sheet_rows 54) answer after
    → answer.refusal ≡ Accepted
no_refusal_of_the_sheet answer after table =
    none_first (λ s. (plan_refused_iff example_run (sheet_rows 54) (sheet_answer 54) (sheet_after 54) (sheet_plans 54)).1 s sheet_accepted) table.first

pub crossing_list_keeps_row : price_rows four_files (3 ∷ 2 ∷ []) (4 ∷ 4 ∷ []) zeros ≡ zeros
crossing_list_keeps_row =
    ((demand1_price four_files (3 ∷ 2 ∷ []) (4 ∷ 4 ∷ []) zeros (refusal_answer (record { refusal = BadEntry; place = 2 }))
    (price_rows four_files (3 ∷ 2 ∷ []) (4 ∷ 4 ∷ []) zeros)
    (sym crossing_list_refused) refl).kept
    (λ e. true≢false (ap is_refusal e))).1

-- The pricer accepts (2,2) on the sheet's run.
detour_accepted : (price_answer example_run (2 ∷ []) (2 ∷ []) threes).refusal ≡ Accepted
unfolding price_answer price_verdict judge_of first_where goes_on first_member last_within want_stops join_to joined right_end list_verdict list_of first_bad_entry wanted any_below priced_answer
detour_accepted = refl

pub detour_is_priced : IsPriceOf example_run (2 ∷ []) (2 ∷ []) (price_rows example_run (2 ∷ []) (2 ∷ []) threes) (price_answer example_run (2 ∷ []) (2 ∷ []) threes)
detour_is_priced =
    demand2_price example_run (2 ∷ []) (2 ∷ []) threes (price_answer example_run (2 ∷ []) (2 ∷ []) threes)
    (price_rows example_run (2 ∷ []) (2 ∷ []) threes) refl refl detour_accepted

pub sheet_is_the_walk : IsTheWalk example_run (sheet_answer 54) (sheet_after 54)
sheet_is_the_walk = demand2_walk example_run (sheet_rows 54) (sheet_answer 54) (sheet_after 54) (sheet_plans 54) sheet_accepted

pub sheet_is_least : IsLeast example_run (sheet_answer 54) (sheet_after 54)
sheet_is_least = demand2_least example_run (sheet_rows 54) (sheet_answer 54) (sheet_after 54) (sheet_plans 54) sheet_accepted

pub wanderings_beat_nothing : 367 ≤ sum_of more_asked.turn (head_at more_asked.head) wanderings (stops_of more_asked)
wanderings_beat_nothing =
    rw
    sheet_reports at
    (demand3 more_asked example_run (sheet_rows 54) (sheet_answer 54) (sheet_after 54) more_accepted (sheet_plans 54) sheet_accepted more_asks_no_less wanderings (wanderings_move 70 (omega arith)) wanderings_serve.0)

pub wanderings_beat_nothing_there : 367 ≤ sum_of example_run.turn (head_at example_run.head) wanderings (stops_of example_run)
wanderings_beat_nothing_there =
    rw
    sheet_reports at
    (demand3_same example_run (sheet_rows 54) (sheet_answer 54) (sheet_after 54) (sheet_plans 54) sheet_accepted wanderings (wanderings_move 60 (omega arith)) wanderings_serve.1)

pub wanderings_beat_nothing_by_file : 367 ≤ sum_of more_asked.turn (head_at more_asked.head) wanderings (stops_of more_asked)
wanderings_beat_nothing_by_file =
    rw
    sheet_reports at
    (demand3_by_file more_asked example_run (sheet_rows 54) (sheet_answer 54) (sheet_after 54) more_accepted (sheet_plans 54) sheet_accepted more_by_file wanderings (wanderings_move 70 (omega arith)) wanderings_serve.0)

-- And some movement has the sum 367.
pub sheet_attained : Attained example_run 367
sheet_attained = rw sheet_reports at (demand3_attained example_run (sheet_rows 54) (sheet_answer 54) (sheet_after 54) (sheet_plans 54) sheet_accepted)

-- At the C boundary the same, with a row of sums of five words.
abbrev five_words : List ℕ
five_words = 7 ∷ 7 ∷ 7 ∷ 7 ∷ 7 ∷ []

detour_called_accepted : code_of (price_call example_run (2 ∷ []) (2 ∷ []) threes five_words) ≡ 0
unfolding price_call price_verdict judge_of first_where goes_on first_member last_within want_stops join_to joined right_end list_verdict list_of first_bad_entry wanted any_below
detour_called_accepted = refl

pub detour_called : PriceCallWalks example_run (2 ∷ []) (2 ∷ [])
    (price_reads example_run (2 ∷ []) (2 ∷ []) threes five_words) (price_sums example_run (2 ∷ []) (2 ∷ []) threes five_words)
detour_called =
    demand2_price_call example_run (2 ∷ []) (2 ∷ []) threes five_words
    (code_of (price_call example_run (2 ∷ []) (2 ∷ []) threes five_words))
    (price_reads example_run (2 ∷ []) (2 ∷ []) threes five_words) (price_sums example_run (2 ∷ []) (2 ∷ []) threes five_words)
    (record { says = refl; reads_are = refl; sums_are = refl })
    detour_called_accepted

call_passes : refuses (plan_call example_run 1 (sheet_rows 54) five_words) ≡ false
unfolding plan_call judge_of first_where goes_on first_member last_within want_stops join_to joined right_end
call_passes = refl

plan_passes : refuses (plan_verdict example_run (sheet_rows 54)) ≡ false
unfolding plan_verdict judge_of first_where goes_on first_member last_within want_stops join_to joined right_end
plan_passes = refl

sheet_called : PlanCalled example_run 1 (sheet_rows 54) five_words 0 (sheet_after 54) (sums_with (sheet_answer 54) five_words)
sheet_called =
    record {
      refused = λ e. absurd (true≢false (sym e ∙ call_passes));
      planned = λ e. record { says = refl; answer = sheet_answer 54; planned = (sheet_plans 54).planned plan_passes; sums_are = refl };
    }

-- With rule 0 in the place of 1 it is refused.
pub rule_zero_refused : code_of (plan_call example_run 0 (sheet_rows 54) five_words) ≡ 14
unfolding plan_call judge_of first_where goes_on first_member last_within want_stops join_to joined right_end
rule_zero_refused = refl

pub sheet_call_walks : PlanCallWalks example_run (sheet_after 54) (sums_with (sheet_answer 54) five_words)
sheet_call_walks = demand2_plan_call example_run 1 (sheet_rows 54) five_words 0 (sheet_after 54) (sums_with (sheet_answer 54) five_words) sheet_called refl

pub wanderings_beat_no_call : 367 ≤ sum_of more_asked.turn (head_at more_asked.head) wanderings (stops_of more_asked)
wanderings_beat_no_call =
    rw
    sheet_reports at
    (demand3_plan_call more_asked example_run 1 (sheet_rows 54) five_words 0 (sheet_after 54) (sums_with (sheet_answer 54) five_words) more_accepted sheet_called refl more_asks_no_less wanderings (wanderings_move 70 (omega arith)) wanderings_serve.0)

-- The sheet's run is written, and read back into rows that are just long enough.
abbrev example_name : List ℕ
example_name = 86 ∷ 88 ∷ 48 ∷ 48 ∷ 52 ∷ 49 ∷ []

sheet_named : is_name example_name ≡ true
unfolding is_name all_of
sheet_named = refl

pub sheet_reads_back : GivesBack example_name example_run (7 ∷ 7 ∷ 7 ∷ []) (7 ∷ 7 ∷ 7 ∷ []) (7 ∷ 7 ∷ 7 ∷ []) (7 ∷ 7 ∷ 7 ∷ []) (7 ∷ 7 ∷ 7 ∷ [])
sheet_reads_back =
    demand2_round_trip example_name example_run sheet_judged (omega arith) sheet_named (7 ∷ 7 ∷ 7 ∷ []) (7 ∷ 7 ∷ 7 ∷ []) (7 ∷ 7 ∷ 7 ∷ []) (7 ∷ 7 ∷ 7 ∷ []) (7 ∷ 7 ∷ 7 ∷ [])
    (omega arith) (omega arith) (omega arith) (omega arith) (omega arith)

-- Written into a row that is just long enough, and that row read.
abbrev sevens : RunRows
sevens = run_rows (7 ∷ 7 ∷ 7 ∷ []) (7 ∷ 7 ∷ 7 ∷ []) (7 ∷ 7 ∷ 7 ∷ []) (7 ∷ 7 ∷ 7 ∷ []) (7 ∷ 7 ∷ 7 ∷ 7 ∷ [])

abbrev sheet_row : List ℕ
sheet_row = replicate (length (sheet_text example_name example_run)) 7

abbrev sheet_written : Written
sheet_written = written_answer (write_verdict example_name example_run sheet_row) (sheet_text example_name example_run)

abbrev sheet_out : List ℕ
sheet_out = written_row (write_verdict example_name example_run sheet_row) (sheet_text example_name example_run) sheet_row

write_passes : refuses (write_verdict example_name example_run sheet_row) ≡ false
unfolding write_verdict row_verdict
write_passes =
    let size = length (sheet_text example_name example_run) in
    rw (nothing_judged example_run sheet_judged, sheet_named, length-replicate {A = ℕ} size 7, le-ltb size size (le_refl size))

write_accepted : sheet_written.refusal ≡ Accepted
unfolding written_answer
write_accepted = rw write_passes

abbrev read_back : List ℕ → Reading
read_back sheet = read_answer (rows_verdict sheet sevens) sheet

abbrev rows_back : List ℕ → RunRows
rows_back sheet =
    let v = rows_verdict sheet sevens in
    let run = sheet_run sheet in
    run_rows (read_row v run.starts sevens.starts) (read_row v run.lengths sevens.lengths) (read_row v run.aggregates sevens.aggregates) (read_row v run.numbers sevens.numbers) (read_row v run.counts sevens.counts)

pub written_comes_back : RunComesBack example_name example_run (take sheet_written.bytes sheet_out) (read_back (take sheet_written.bytes sheet_out)) (rows_back (take sheet_written.bytes sheet_out))
unfolding read_answer sheet_run
written_comes_back =
    let sheet = take sheet_written.bytes sheet_out in
    write_then_read example_name example_run sheet_row sheet_written sheet_out (record { answer = refl; left = refl }) write_accepted sevens (read_back sheet) (rows_back sheet)
    (record { starts = omega arith; lengths = omega arith; aggregates = omega arith; numbers = omega arith; counts = omega arith })
    (record { answer = refl; starts = refl; lengths = refl; aggregates = refl; numbers = refl; counts = refl })

-- An empty sheet is refused at line 1, and the rows stay.
empty_refused : (read_back []).refusal ≡ BadLine
unfolding read_answer read_verdict sheet_verdict first_bad_line first_bad_top is_tape_line starts_with line_of has after_lines
empty_refused = refl

pub empty_keeps_rows : rows_back [] ≡ sevens
unfolding read_answer sheet_run
empty_keeps_rows =
    ((demand1_read [] sevens (read_back []) (rows_back []) (record { answer = refl; starts = refl; lengths = refl; aggregates = refl; numbers = refl; counts = refl })).kept
    (λ e. true≢false (ap is_refusal (sym empty_refused ∙ e)))).1

-- The second line of this sheet is the first that is not as described.
abbrev letter_for_head : List ℕ
letter_for_head = bytes "tape=VX0041\nhead=x\n"

second_line_found : first_bad_line letter_for_head ≡ 2
unfolding first_bad_line first_bad_top is_tape_line is_number_line starts_with line_of has before behind after_lines is_name is_number all_of
second_line_found = refl

pub second_line_bad : FirstBad (LineIsBad letter_for_head) (lines_due letter_for_head) 2
second_line_bad = (lines_by_the_table letter_for_head 1).0 second_line_found

-- A sheet that names the retired rule is refused with 19 at its fourth line, and its name is handed on.
abbrev sweep_sheet : List ℕ
sweep_sheet = bytes "tape=A\nhead=0\nturn=0\nrule=sweep\nfiles=0\nwants=0\n"

pub sweep_refused : ((read_back sweep_sheet).refusal ≡ RetiredRule) × ((read_back sweep_sheet).place ≡ 4)
unfolding read_answer read_verdict sheet_verdict rule_verdict says_sweep names_sweep first_bad_line first_bad_top first_bad_below first_bad_of first_where end_text want_text sheet_wants wants_text file_text sheet_files is_pair_line is_pair is_rule_line is_turn_line is_count_line is_number_line is_tape_line after_lines line_of is_name is_number value_from all_of starts_with behind before has
sweep_refused = (refl, refl)

pub sweep_named : read_name sweep_sheet ≡ bytes "A"
unfolding read_name sheet_name sheet_verdict first_bad_line first_bad_top first_bad_below first_bad_of first_where end_text want_text sheet_wants wants_text file_text sheet_files is_pair_line is_pair is_rule_line is_turn_line is_count_line is_number_line is_tape_line after_lines line_of is_name is_number value_from all_of starts_with behind before has
sweep_named = refl

-- An old sheet whose run is refused by 4: it is rewritten all the same.
abbrev old_sheet : List ℕ
old_sheet = bytes "tape=A\nhead=0\nturn=\nrule=least\nfiles=0\nwants=1\nwant=0,0\n"

abbrev old_row : List ℕ
old_row = replicate 60 7

abbrev old_written : Written
old_written = written_answer (rewrite_verdict old_sheet old_row) (rewritten old_sheet)

abbrev old_out : List ℕ
old_out = written_row (rewrite_verdict old_sheet old_row) (rewritten old_sheet) old_row

old_passes : refuses (rewrite_verdict old_sheet old_row) ≡ false
unfolding rewrite_verdict rewritten price_is_empty bytes_before row_verdict sheet_verdict first_bad_line first_bad_top first_bad_below first_bad_of first_where end_text want_text sheet_wants wants_text file_text sheet_files is_pair_line is_pair is_rule_line is_turn_line is_count_line is_number_line is_tape_line after_lines line_of is_name is_number value_from all_of starts_with behind before has
old_passes = refl

old_accepted : old_written.refusal ≡ Accepted
unfolding written_answer
old_accepted = rw old_passes

pub old_rewrites : Rewrites old_sheet old_row old_written old_out
old_rewrites = rewritten_bytes old_sheet old_row old_written old_out (record { answer = refl; left = refl }) old_accepted

pub old_rewritten : rewritten old_sheet ≡ bytes "tape=A\nhead=0\nturn=0\nrule=least\nfiles=0\nwants=1\nwant=0,0\n"
unfolding rewritten price_is_empty bytes_before after_lines line_of starts_with behind before has
old_rewritten = refl

-- It is read as well: what stands on its lines, whatever the planner says of it, and later entries stay.
old_read : (read_back old_sheet).refusal ≡ Accepted
unfolding read_answer read_verdict sheet_verdict rule_verdict says_sweep names_sweep first_bad_line first_bad_top first_bad_below first_bad_of first_where end_text want_text sheet_wants wants_text file_text sheet_files is_pair_line is_pair is_rule_line is_turn_line is_count_line is_number_line is_tape_line after_lines line_of is_name is_number value_from all_of starts_with behind before has
old_read = refl

pub old_holds_its_lines : OnItsLines old_sheet (read_name old_sheet) (run_read (read_back old_sheet) (rows_back old_sheet)) × BehindRead (read_back old_sheet) sevens (rows_back old_sheet)
unfolding read_answer sheet_run
old_holds_its_lines =
    read_holds_its_lines old_sheet sevens (read_back old_sheet) (rows_back old_sheet) (record { answer = refl; starts = refl; lengths = refl; aggregates = refl; numbers = refl; counts = refl }) old_read
