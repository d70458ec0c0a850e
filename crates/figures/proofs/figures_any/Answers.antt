use Rattle.std.proofs.Common.{◌≡◌, true, false, replicate, sym, ap, ◌∙◌, arith, rules}
use Rattle.refusals.specs.Refusals.{is_refusal}
use Rattle.runs.specs.Run.{run_of}
use Rattle.walk.specs.declared.Answer.{Answer}
use Rattle.walk.specs.Rows.{read_rows}
use Rattle.figures.proofs.AnyHead.{Long, priced, refused_so, passed_so, short_so, figured_so}
use Rattle.figures.proofs.figures_any.Goals as goal

-- The rows that the code lends the pricer.
long : Long (read_rows (replicate 64 0) (replicate 64 0))
long = record { times = omega arith; legs = omega arith }

pub returns-then-ne-clause-value : goal.returns-then-ne-clause-value
returns-then-ne-clause-value c =
    let run = (run_of c.args.starts.now c.args.lengths.now c.args.aggregates.now c.args.numbers.now c.args.counts.now c.args.head c.args.turn) in
    let e : is_refusal c.price_any-answer.result.refusal ≡ true = search rules in
    let said = ap (λ (a : Answer). is_refusal a.refusal) (sym c.price_any-answer.ensures.value) ∙ e in
    let so = refused_so run c.args.froms.now c.args.tos.now c.args.row.now _ long said in
    c.price_any-answer.ensures.value ∙ so.0

pub returns-then-ne-clause-row_after : goal.returns-then-ne-clause-row_after
returns-then-ne-clause-row_after c =
    let run = (run_of c.args.starts.now c.args.lengths.now c.args.aggregates.now c.args.numbers.now c.args.counts.now c.args.head c.args.turn) in
    let e : is_refusal c.price_any-answer.result.refusal ≡ true = search rules in
    let said = ap (λ (a : Answer). is_refusal a.refusal) (sym c.price_any-answer.ensures.value) ∙ e in
    let so = refused_so run c.args.froms.now c.args.tos.now c.args.row.now _ long said in
    so.1

pub returns-then-row-froms-clause-value : goal.returns-then-row-froms-clause-value
returns-then-row-froms-clause-value c =
    let run = (run_of c.args.starts.now c.args.lengths.now c.args.aggregates.now c.args.numbers.now c.args.counts.now c.args.head c.args.turn) in
    let e : is_refusal c.price_any-answer.result.refusal ≡ false = search rules in
    let said = ap (λ (a : Answer). is_refusal a.refusal) (sym c.price_any-answer.ensures.value) ∙ e in
    let passed = passed_so run c.args.froms.now c.args.tos.now c.args.row.now _ long said in
    let so = short_so run c.args.froms.now c.args.tos.now c.args.row.now passed c.if-row-froms.true in
    c.refuse.ensures ∙ so.0

pub returns-then-row-froms-clause-row_after : goal.returns-then-row-froms-clause-row_after
returns-then-row-froms-clause-row_after c =
    let run = (run_of c.args.starts.now c.args.lengths.now c.args.aggregates.now c.args.numbers.now c.args.counts.now c.args.head c.args.turn) in
    let e : is_refusal c.price_any-answer.result.refusal ≡ false = search rules in
    let said = ap (λ (a : Answer). is_refusal a.refusal) (sym c.price_any-answer.ensures.value) ∙ e in
    let passed = passed_so run c.args.froms.now c.args.tos.now c.args.row.now _ long said in
    let so = short_so run c.args.froms.now c.args.tos.now c.args.row.now passed c.if-row-froms.true in
    so.1

pub fill_figures-requires-clause-priceable_any : goal.fill_figures-requires-clause-priceable_any
fill_figures-requires-clause-priceable_any c =
    let run = (run_of c.args.starts.now c.args.lengths.now c.args.aggregates.now c.args.numbers.now c.args.counts.now c.args.head c.args.turn) in
    let e : is_refusal c.price_any-answer.result.refusal ≡ false = search rules in
    let said = ap (λ (a : Answer). is_refusal a.refusal) (sym c.price_any-answer.ensures.value) ∙ e in
    let passed = passed_so run c.args.froms.now c.args.tos.now c.args.row.now _ long said in
    passed

pub fill_figures-requires-clause-sum_value : goal.fill_figures-requires-clause-sum_value
fill_figures-requires-clause-sum_value c =
    let run = (run_of c.args.starts.now c.args.lengths.now c.args.aggregates.now c.args.numbers.now c.args.counts.now c.args.head c.args.turn) in
    let e : is_refusal c.price_any-answer.result.refusal ≡ false = search rules in
    let said = ap (λ (a : Answer). is_refusal a.refusal) (sym c.price_any-answer.ensures.value) ∙ e in
    let passed = passed_so run c.args.froms.now c.args.tos.now c.args.row.now _ long said in
    let price = c.price_any-answer.ensures.value ∙ priced run c.args.froms.now c.args.tos.now passed _ long in
    ap (λ (a : Answer). a.sum) price

pub returns-clause-value : goal.returns-clause-value
returns-clause-value c =
    let run = (run_of c.args.starts.now c.args.lengths.now c.args.aggregates.now c.args.numbers.now c.args.counts.now c.args.head c.args.turn) in
    let e : is_refusal c.price_any-answer.result.refusal ≡ false = search rules in
    let said = ap (λ (a : Answer). is_refusal a.refusal) (sym c.price_any-answer.ensures.value) ∙ e in
    let passed = passed_so run c.args.froms.now c.args.tos.now c.args.row.now _ long said in
    let price = c.price_any-answer.ensures.value ∙ priced run c.args.froms.now c.args.tos.now passed _ long in
    let so = figured_so run c.args.froms.now c.args.tos.now c.args.row.now passed c.if-row-froms.false _ c.fill_figures.ensures in
    price ∙ so.0

pub returns-clause-row_after : goal.returns-clause-row_after
returns-clause-row_after c =
    let run = (run_of c.args.starts.now c.args.lengths.now c.args.aggregates.now c.args.numbers.now c.args.counts.now c.args.head c.args.turn) in
    let e : is_refusal c.price_any-answer.result.refusal ≡ false = search rules in
    let said = ap (λ (a : Answer). is_refusal a.refusal) (sym c.price_any-answer.ensures.value) ∙ e in
    let passed = passed_so run c.args.froms.now c.args.tos.now c.args.row.now _ long said in
    let so = figured_so run c.args.froms.now c.args.tos.now c.args.row.now passed c.if-row-froms.false _ c.fill_figures.ensures in
    so.1
