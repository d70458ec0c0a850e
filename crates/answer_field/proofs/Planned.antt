-- What the plain engine leaves in the program's rows: nothing where it refuses, else the least list.
use Prim.Native.Nat.{ℕ, ◌≤◌, ◌-◌}
use mathlib.Core.Path.{◌≡◌, refl, sym, ap, ◌∙◌}
use mathlib.Core.Bool.{Bool, true, false}
use mathlib.Core.List.{List, [], ◌∷◌, ◌++◌, map}
use native.Mathlib.Omega.{arith}
use lib.ListN.{length}
use borrow.Author.Tests.{le-ltb}
use Rattle.refusals.specs.declared.Refusal.TheVariants.{ShortRow}
use Rattle.refusals.specs.declared.Verdict.{Verdict}
use Rattle.refusals.specs.Refusals.{refuse_if, first_of}
use Rattle.refusals.proofs.Verdicts.{refuses, none_refuses}
use Rattle.runs.specs.Run.{Run, stops_of}
use Rattle.runs.specs.Alone.{zeros}
use Rattle.runs.specs.Judging.{judge_of}
use Rattle.runs.proofs.Judged.{accepted_run}
use Rattle.runs.proofs.Stops.{stops_few}
use Rattle.walk.specs.declared.Answer.{Answer}
use Rattle.walk.specs.Price.{refusal_answer, priced_answer}
use Rattle.engine_plain.specs.Plain.{PlainRows, short_plain_rows, plain_verdict, PlainPlanned, PlainPlans}
use Rattle.engine_plain.proofs.Checks.{first_of_both, second_of_both, run_passed, run_few}
use Rattle.answer_plan.proofs.Planned.{listed_in, by_value, same_value}
use Rattle.answer_field.specs.Field.{field_checks}
use Rattle.answer_field.specs.Private.{RowsFielded}

-- The program's rows.
pub record Lent (rows : PlainRows) : Type 0 where
  pub froms : length rows.froms ≡ 63
  pub tos : length rows.tos ≡ 63
  pub times : length rows.times ≡ 8
  pub legs : length rows.legs ≡ 8

module _ (run : Run) (rows : PlainRows) (lent : Lent rows) where
  -- No row is too short for eight wants.
  none_short : refuses (first_of (field_checks run)) ≡ false → short_plain_rows (length run.numbers) (length (stops_of run)) rows ≡ false
  none_short e =
      let few = run_few run e in
      let stops = stops_few run (accepted_run run (run_passed run e)) in
      rw (le-ltb (length rows.times) (length run.numbers) (omega (arith, few, lent.times)), le-ltb (length rows.legs) (length run.numbers) (omega (arith, few, lent.legs)), le-ltb (length rows.froms) (length (stops_of run) - 1) (omega (arith, few, stops, lent.froms)), le-ltb (length rows.tos) (length (stops_of run) - 1) (omega (arith, few, stops, lent.tos)))

  run_verdict : plain_verdict run rows ≡ first_of (field_checks run)
  unfolding plain_verdict
  run_verdict = go (refuses (first_of (field_checks run))) refl
    where
      short : List Verdict
      short = refuse_if (short_plain_rows (length run.numbers) (length (stops_of run)) rows) ShortRow ∷ []

      go : (b : Bool) → refuses (first_of (field_checks run)) ≡ b → plain_verdict run rows ≡ first_of (field_checks run)
      go true e = first_of_both (field_checks run) short e
      go false e = second_of_both (field_checks run) short e ∙ ap (λ b. first_of (refuse_if b ShortRow ∷ [])) (none_short e) ∙ sym (none_refuses (field_checks run) e)

-- The engine's answer and its list by value, where it was lent rows of zeros for that.
pub rows_fielded : (run : Run) (rows : PlainRows) → Lent rows → rows.froms ≡ zeros 63 → rows.tos ≡ zeros 63 → (a : Answer) (after : PlainRows) → PlainPlans run rows a after → RowsFielded run (by_value a after.froms after.tos)
unfolding priced_answer
rows_fielded run rows lent zf zt a after plans =
    let v-is = run_verdict run rows lent in
    record {
      refused = λ e.
          let p = plans.refused (ap refuses v-is ∙ e) in
          same_value (p.says ∙ ap refusal_answer v-is) (ap (λ x. x.froms) p.kept ∙ zf) (ap (λ x. x.tos) p.kept ∙ zt);
      planned = λ e.
          let p = plans.planned (ap refuses v-is ∙ e) in
          record {
            list = p.list;
            least = p.least;
            says =
                same_value p.says (listed_in (λ d. d.from) p.list rows.froms after.froms zf (ap (λ x. x.froms) p.rows))
                (listed_in (λ d. d.to) p.list rows.tos after.tos zt (ap (λ x. x.tos) p.rows));
          };
    }
