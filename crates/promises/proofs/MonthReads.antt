-- Every input of a month is read: whatever its next line says there is a step, and behind 1,000 sheets there is no further sheet.
use Prim.Native.Nat.{ℕ, zero, suc, ◌+◌, ◌≤◌, ◌<◌}
use mathlib.Core.Path.{◌≡◌, refl, sym, ap, ◌∙◌}
use mathlib.Core.Bool.{Bool, true, false, cond, true≢false}
use mathlib.Core.Logic.{by_cases}
use mathlib.Core.List.{List}
use native.Mathlib.Omega.{arith}
use native.Mathlib.Decide.{dec_lt}
use lib.ListN.{length, take, drop}
use borrow.Author.Tests.{le-leb}
use Rattle.refusals.specs.Refusals.{is_refusal}
use Rattle.runs.specs.Run.{stops_of}
use Rattle.runs.proofs.Stops.{accepted_sound}
use Rattle.least.specs.Recurrence.{least_list}
use Rattle.least.proofs.LeastList.{least_list_lem}
use Rattle.text_bytes.specs.Text.{is_empty}
use Rattle.sheet_reader.specs.Sheet.{sheet_run, sheet_name}
use Rattle.answer_plan.specs.Recall.{recall_verdict}
use Rattle.answer_outcome.specs.declared.Outcome.{Outcome}
use Rattle.answer_outcome.specs.Outcomes.{refused_outcome, planned_outcome, OutcomeOf}
use Rattle.answer_month.specs.declared.Month.{Month}
use Rattle.std.specs.Prelude.{Option, Some, None, Result, Ok, Err}
use Rattle.answer_month.specs.declared.BadPart.{BadPart}
use Rattle.answer_month.specs.Month.{empty_month, added}
use Rattle.answer_month.specs.Parts.{part_of}
use Rattle.promises.specs.Months.{line_held, rest_of, kept_of, ReadsOn, at_end, no_part, cut_short, one_more, EveryInputIsRead}
use Rattle.promises.proofs.MonthNames.{judged}
use Rattle.promises.proofs.MonthInput.{one_more_sheet}

-- Every sheet has an outcome: its refusal, or that of the least list, which there is.
outcome_for : (sheet : List ℕ) → (o : Outcome) × OutcomeOf sheet o
outcome_for sheet = go (is_refusal (recall_verdict sheet).refusal) refl
  where
    go : (b : Bool) → is_refusal (recall_verdict sheet).refusal ≡ b → (o : Outcome) × OutcomeOf sheet o
    go true e =
        (refused_outcome (recall_verdict sheet).refusal, record { refused = λ h. refl; planned = λ h. absurd (true≢false (sym e ∙ h)) })
    go false e =
        let run = sheet_run sheet in
        let list = least_list run.turn (stops_of run) in (
          planned_outcome (sheet_name sheet) run list,
          record {
            refused = λ h. absurd (true≢false (sym h ∙ e));
            planned = λ h. record { list = list; least = least_list_lem run.turn run.head (stops_of run) (accepted_sound run (judged sheet e)); says = refl };
          },
        )

abbrev Read : Month → List ℕ → Type 0
Read m input = (last : Month) × ((good : Bool) × ReadsOn m input last good)

-- Behind 1,000 sheets no line is a sheet's.
few_sheets : (sheets : ℕ) (line : List ℕ) (n : ℕ) → part_of sheets line ≡ Ok (Some n) → sheets < 1000
unfolding part_of
few_sheets sheets line n e =
    by_cases (dec_lt sheets 1000) (λ l. l) (λ l. absurd (none (is_empty line) (rw (le-leb 1000 sheets (omega arith)) at e)))
  where
    is_sheet : Result (Option ℕ) BadPart → Bool
    is_sheet (Ok None) = false
    is_sheet (Ok (Some m)) = true
    is_sheet (Err e) = false

    none : (b : Bool) → cond {A = Result (Option ℕ) BadPart} b (Ok None) (Err (record {})) ≡ Ok (Some n) → ⊥
    none true q = true≢false (sym (ap is_sheet q))
    none false q = true≢false (sym (ap is_sheet q))

-- A sheet of so many bytes: added, or cut short.
module _ (m : Month) (input : List ℕ) (next : (o : Outcome) → m.sheets < 1000 → (rest : List ℕ) → Read (added m o) rest) where
  sheet_read_here : (n : ℕ) → part_of m.sheets (line_held input) ≡ Ok (Some n) → Read m input
  sheet_read_here n e =
      let there = length (take n (rest_of input)) in
      let o = outcome_for (kept_of n (rest_of input)) in
      by_cases (dec_lt there n)
      (λ l. (m, (false, cut_short e (record { cut = λ h. refl; whole = λ h. absurd (omega arith) }))))
      (λ l.
      let more = next o.0 (few_sheets m.sheets (line_held input) n e) (drop n (rest_of input)) in
      (more.0, (more.1.0, one_more e (record { cut = λ h. absurd (omega arith); whole = λ h. (o.0, (o.1, refl)) }) more.1.1)))

  part_read : (p : Result (Option ℕ) BadPart) → part_of m.sheets (line_held input) ≡ p → Read m input
  part_read (Ok None) e = (m, (true, at_end e))
  part_read (Ok (Some n)) e = sheet_read_here n e
  part_read (Err b) e = (m, (false, no_part e))

-- From a month that has room for so many sheets more.
read_on : (k : ℕ) (m : Month) (input : List ℕ) → 1000 ≤ m.sheets + k → Read m input
read_on zero m input l = part_read m input (λ o few rest. absurd (omega arith)) (part_of m.sheets (line_held input)) refl
read_on (suc k) m input l =
    part_read m input (λ o few rest. read_on k (added m o) rest (omega (arith, one_more_sheet m o few))) (part_of m.sheets (line_held input)) refl

pub every_input_is_read : EveryInputIsRead
every_input_is_read input = read_on 1000 empty_month input (omega arith)
