-- What the plan sheet writer answers, step by step: the run, the name, the list as the pricer judges it, the row. Then that of a run that 01 accepts
-- the sheet is 01's.
use Prim.Native.Nat.{ℕ, ◌≤◌}
use mathlib.Core.Path.{◌≡◌, ap, sym, ◌∙◌}
use mathlib.Core.Bool.{true, false, not, true≢false}
use mathlib.Core.Logic.{⊎_elim}
use mathlib.Core.List.{List, [], ◌∷◌, ◌++◌, map}
use native.Mathlib.Omega.{arith}
use lib.ListN.{length, take, drop}
use lib.Seq.{take_at}
use lib.Dec.{ltb}
use borrow.Author.Tests.{le-ltb}
use Rattle.refusals.specs.declared.Refusal.TheVariants.{BadName}
use Rattle.refusals.specs.declared.Verdict.{Verdict}
use Rattle.walk.specs.declared.Answer.{Answer}
use Rattle.std.specs.Prelude.{Ok, Err}
use Rattle.refusals.specs.Refusals.{is_refusal, checked, refuse_if, first_of, accepted}
use Rattle.refusals.proofs.Verdicts.{refuses}
use Rattle.refusals.proofs.Checked.{passed, stopped, first_stops}
use Rattle.runs.specs.Run.{Run, Stop, stops_of, want_stops_of, total, most_wants}
use Rattle.runs.specs.Judging.{judge_of}
use Rattle.runs.specs.Lists.{list_of, list_verdict}
use Rattle.runs.specs.AnyHead.{judge_any_of, list_verdict_any, lifted}
use Rattle.walk.specs.Walk.{head_at, times_of, legs_for}
use Rattle.walk.specs.Price.{refusal_answer, priced_times, priced_legs}
use Rattle.walk.specs.AnyHead.{run_legs, priced_any_answer, price_any_verdict, price_any_answer, price_any_rows}
use Rattle.walk.specs.Rows.{read_rows}
use Rattle.runs.proofs.Search.{true_or_false}
use Rattle.runs.proofs.Judged.{accepted_run}
use Rattle.runs.proofs.AnyHead.{Right, sound_right, pulled_same, list_any_same, GoodAnyRun, accepted_any, judge_any_same}
use Rattle.walk.proofs.Walks.{GoodList, list_fits_lem}
use Rattle.walk.proofs.AnyHead.{any_good, priced_same}
use Rattle.walk.proofs.Filling.{one_each}
use Rattle.runs.proofs.Stops.{wants_length, run_sound}
use Rattle.text_bytes.specs.Text.{is_name}
use Rattle.sheet_writer.specs.Writing.{row_verdict}
use Rattle.sheet_writer.specs.PlanSheet.{plan_lines, plan_text, plan_sheet_verdict, PlanWritten}
use Rattle.sheet_writer.specs.AnyHead.{plan_any_text, plan_any_sheet_verdict, PlanAnyWritten}
use Rattle.sheet_writer.specs.declared.Written.{Written}
use Rattle.text_pages.specs.Printing.{Wrote}
use Rattle.sheet_writer.specs.Private.{plan_most, PlanFits}
use Rattle.sheet_writer.proofs.Sheets.{last_verdict, judged_refused, judged_passes, run_passes, name_fits}

-- What the judging of the run and the name's say together.
abbrev plan_judged : List ℕ → Run → Verdict
plan_judged name run = first_of (judge_any_of run ∷ refuse_if (not (is_name name)) BadName ∷ [])

module _ (name : List ℕ) (run : Run) (froms tos row : List ℕ) where
  abbrev times-of : List ℕ
  times-of = times_of run.turn (head_at run.head) (run_legs run (list_of froms tos)) (want_stops_of run)

  abbrev legs-of : List ℕ
  legs-of = legs_for (run_legs run (list_of froms tos)) (want_stops_of run)

  pub plan_refused : (e : Verdict) → Err e ≡ checked (plan_judged name run) → Err e ≡ checked (plan_any_sheet_verdict name run froms tos row)
  unfolding plan_any_sheet_verdict
  plan_refused = judged_refused name (judge_any_of run) false (list_verdict_any run.head (stops_of run) froms tos ∷ row_verdict (plan_any_text name run froms tos) row ∷ [])

  module _ (u : Unit) (good : Ok u ≡ checked (plan_judged name run)) where
    pub plan_good : GoodAnyRun run
    plan_good = accepted_any run (run_passes name (judge_any_of run) false u good)

    plan_passes_here : plan_any_sheet_verdict name run froms tos row ≡ first_of (list_verdict_any run.head (stops_of run) froms tos ∷ row_verdict (plan_any_text name run froms tos) row ∷ [])
    unfolding plan_any_sheet_verdict
    plan_passes_here = judged_passes name (judge_any_of run) false u good (list_verdict_any run.head (stops_of run) froms tos ∷ row_verdict (plan_any_text name run froms tos) row ∷ [])

    -- a is what the pricer answered with rows for times and legs that are long enough.
    module _ (times legs : List ℕ) (room : most_wants ≤ length times) (space : most_wants ≤ length legs) (a : Answer)
        (a-is : a ≡ price_any_answer run froms tos (read_rows times legs)) where
      list : Verdict
      list = list_verdict_any run.head (stops_of run) froms tos

      abbrev told : Verdict
      told = record { refusal = a.refusal; place = a.place }

      long_enough_here : (row : List ℕ) → most_wants ≤ length row → ltb (length row) (length run.numbers) ≡ false
      long_enough_here row l = le-ltb (length row) (length run.numbers) (omega (arith, plan_good.run.wants.few))

      price_verdict_here : price_any_verdict run froms tos (read_rows times legs) ≡ first_of (list ∷ accepted ∷ [])
      unfolding price_any_verdict list
      price_verdict_here = rw (run_passes name (judge_any_of run) false u good, long_enough_here times room, long_enough_here legs space)

      priced_refused : refuses list ≡ true → a ≡ refusal_answer list
      unfolding price_any_answer
      priced_refused e = a-is ∙ rw (price_verdict_here, e, e)

      priced_good : refuses list ≡ false → a ≡ priced_any_answer run (list_of froms tos)
      unfolding price_any_answer
      priced_good e = a-is ∙ rw (price_verdict_here, e)

      list_says : refuses list ≡ refuses told
      unfolding priced_any_answer
      list_says =
          ⊎_elim
          (λ e. ap (λ x. is_refusal x.refusal) (sym (priced_refused e)))
          (λ e. e ∙ sym (ap (λ x. is_refusal x.refusal) (priced_good e)))
          (true_or_false (refuses list))

      pub plan_list_refused : (e : Verdict) → Err e ≡ checked told → Err e ≡ checked (plan_any_sheet_verdict name run froms tos row)
      unfolding list
      plan_list_refused e said =
          let so = list_says ∙ (stopped told e said).so in
          said ∙ ap checked (sym (plan_passes_here ∙ rw so (ap (λ x. record { refusal = x.refusal; place = x.place }) (sym (priced_refused so)))))

      module _ (w : Unit) (accepts : Ok w ≡ checked told) where
        fine : refuses list ≡ false
        fine = list_says ∙ passed told w accepts

        pub good_list_lem : GoodList (stops_of run) froms tos
        unfolding list
        good_list_lem = any_good run.head (stops_of run) froms tos fine

        pub plan_last : plan_any_sheet_verdict name run froms tos row ≡ row_verdict (plan_any_text name run froms tos) row
        unfolding list
        plan_last = plan_passes_here ∙ rw fine (last_verdict (plan_any_text name run froms tos) row)

        -- The times and legs that the pricer left in the rows.
        module _ (times' legs' : List ℕ) (rows_are : read_rows times' legs' ≡ price_any_rows run froms tos (read_rows times legs)) where
          timed : times' ≡ times-of ++ drop (length run.numbers) times
          unfolding price_any_rows
          timed = ap (λ x. x.times) rows_are ∙ rw (price_verdict_here, fine)

          numbered : legs' ≡ legs-of ++ drop (length run.numbers) legs
          unfolding price_any_rows
          numbered = ap (λ x. x.legs) rows_are ∙ rw (price_verdict_here, fine)

          -- One number for each want.
          each_want : (f : Stop → ℕ) → length (map f (want_stops_of run)) ≡ length run.numbers
          each_want f = one_each f (want_stops_of run) ∙ wants_length run.starts run.lengths run.aggregates run.numbers run.counts (sym plan_good.run.wants.equal)

          first_entries_here : (values later : List ℕ) → length values ≡ length run.numbers → (row : List ℕ) → row ≡ values ++ later → take (length run.numbers) row ≡ values
          first_entries_here values later e row h = ap (take (length run.numbers)) h ∙ take_at values later (length run.numbers) e

          times_taken : take (length run.numbers) times' ≡ times-of
          unfolding times_of
          times_taken = first_entries_here (times-of) (drop (length run.numbers) times) (each_want _) times' timed

          legs_taken : take (length run.numbers) legs' ≡ legs-of
          unfolding legs_for
          legs_taken = first_entries_here (legs-of) (drop (length run.numbers) legs) (each_want _) legs' numbered

          pub times_length : length run.numbers ≡ length (take (length run.numbers) times')
          unfolding times_of
          times_length = sym (ap length times_taken ∙ each_want _)

          pub legs_length : length run.numbers ≡ length (take (length run.numbers) legs')
          unfolding legs_for
          legs_length = sym (ap length legs_taken ∙ each_want _)

          pub plan_fits : (page : List ℕ) → plan_most ≤ length page
              → PlanFits page name froms tos run.numbers (take (length run.numbers) times') (take (length run.numbers) legs')
          plan_fits page wide =
              record {
                room = wide;
                short = name_fits name (judge_any_of run) false u good;
                few = omega (arith, list_fits_lem (lifted run) plan_good.run froms tos good_list_lem, plan_good.run.wants.few);
                even = good_list_lem.even;
                wants = plan_good.run.wants.few;
                timed = times_length;
                numbered = legs_length;
              }

          pub plan_wrote : (reads : ℕ) → reads ≡ total run.counts → (page page' : List ℕ) (n : ℕ)
              → Wrote page 0 (plan_lines name reads a froms tos run.numbers (take (length run.numbers) times') (take (length run.numbers) legs')) plan_most page' n
              → Wrote page 0 (plan_any_text name run froms tos) plan_most page' n
          unfolding plan_any_text
          plan_wrote reads e page page' n w =
              rw (← e, ← priced_good (fine), ← times_taken, ← legs_taken) w

-- Of a run that 01 accepts nothing is pulled: the sheet, the checks and what is written are 01's.
module _ (name : List ℕ) (run : Run) (accepts : refuses (judge_of run) ≡ false) (froms tos : List ℕ) where
  right : Right run.head (stops_of run)
  right = sound_right (stops_of run) run.head (run_sound run (accepted_run run accepts))

  pub text_same : plan_any_text name run froms tos ≡ plan_text name run froms tos
  unfolding plan_any_text plan_text priced_times priced_legs
  text_same = rw (priced_same run (accepted_run run accepts) (list_of froms tos), pulled_same run.head (stops_of run) right)

  pub sheet_same : (row : List ℕ) → plan_any_sheet_verdict name run froms tos row ≡ plan_sheet_verdict name run froms tos row
  unfolding plan_any_sheet_verdict plan_sheet_verdict
  sheet_same row =
      rw (judge_any_same run (λ is. true≢false (sym (ap is_refusal is) ∙ accepts)), list_any_same run.head (stops_of run) right froms tos, text_same)

  pub written_same : (row : List ℕ) (r : Written) (row' : List ℕ) → PlanAnyWritten name run froms tos row r row' → PlanWritten name run froms tos row r row'
  written_same row r row' h = record { answer = h.answer ∙ rw (sheet_same row, text_same); left = h.left ∙ rw (sheet_same row, text_same) }

-- One that the judging refuses is refused so.
pub run_refused : (name : List ℕ) (run : Run) (froms tos row : List ℕ) (e : Verdict) → Err e ≡ checked (judge_of run) → Err e ≡ checked (plan_sheet_verdict name run froms tos row)
unfolding plan_sheet_verdict
run_refused name run froms tos row =
    first_stops (judge_of run) (refuse_if (not (is_name name)) BadName ∷ list_verdict (stops_of run) froms tos ∷ row_verdict (plan_text name run froms tos) row ∷ [])
