use Rattle.std.proofs.Common.{◌≡◌, ◌+◌, ◌-◌, sym, ◌∙◌, arith}
use Rattle.engine_table.proofs.Facts.{even_counts, few_reads_lem}
use Rattle.engine_table.proofs.Asking.{start_loop, count_before, start_found, start_on, start_last}
use Rattle.engine_table.proofs.reading.detour_start.Goals as goal

pub reads_before-w-requires-clause-n_in_bounds : goal.reads_before-w-requires-clause-n_in_bounds
reads_before-w-requires-clause-n_in_bounds c = omega (arith, even_counts _ _ _ _ _ _ c.requires.asked.filled.judged)

pub reads_before-w-requires-clause-counts_bound : goal.reads_before-w-requires-clause-counts_bound
reads_before-w-requires-clause-counts_bound c =
    let j = c.requires.asked.filled.judged in
    omega (arith, few_reads_lem _ _ _ _ _ _ j, j.run.whole)

pub loop-c-init : goal.loop-c-init
loop-c-init c =
    let e : c.args.b + 2 - 1 ≡ c.args.b + 1 = omega arith in
    rw e (start_loop _ _ _ _ _ _ _ _ _ _ c.requires.asked _ c.reads_before-w.ensures c.requires.s_nonzero)

pub returns-then-detour_cost-least : goal.returns-then-detour_cost-least
returns-then-detour_cost-least c =
    start_found _ _ _ _ _ _ _ _ _ _ c.requires.asked _ _ c.loop-c.invariant (sym c.detour_cost.ensures ∙ c.if-detour_cost-least.true ∙ c.requires.least_value)

pub bounds-counts-c : goal.bounds-counts-c
bounds-counts-c c = omega (arith, even_counts _ _ _ _ _ _ c.requires.asked.filled.judged)

pub overflow_sub-w-in-loop-c : goal.overflow_sub-w-in-loop-c
overflow_sub-w-in-loop-c c = count_before _ _ _ _ _ _ _ _ _ _ c.requires.asked _ _ c.loop-c.invariant

pub loop-c-preserved : goal.loop-c-preserved
loop-c-preserved c =
    start_on _ _ _ _ _ _ _ _ _ _ c.requires.asked _ _ c.loop-c.invariant (omega arith)
    (λ e. c.if-detour_cost-least.false (c.detour_cost.ensures ∙ e ∙ sym c.requires.least_value))

pub returns : goal.returns
returns c = omega (arith, start_last _ _ _ _ _ _ _ _ _ _ c.requires.asked _ _ c.loop-c.invariant (omega arith))
