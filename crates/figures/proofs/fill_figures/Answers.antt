use Rattle.std.proofs.Common.{◌<◌, ◌^◌, ◌++◌, drop, pos, ap, ◌∙◌, arith}
use Rattle.runs.specs.Run.{run_of}
use Rattle.runs.specs.Lists.{list_of}
use Rattle.runs.proofs.Entries.{length_list}
use Rattle.figures.specs.AnyHead.{figures_any_of}
use Rattle.figures.proofs.Filling.{filling_start, filling_more, filling_all}
use Rattle.figures.proofs.Differences.{stored_is}
use Rattle.figures.proofs.AnyHead.{even, sum_small, sum_without_small, figure_is, figure_at, figures_size}
use Rattle.figures.proofs.fill_figures.Goals as goal

pub loop-i-init : goal.loop-i-init
loop-i-init c =
    let run = (run_of c.args.starts.now c.args.lengths.now c.args.aggregates.now c.args.numbers.now c.args.counts.now c.args.head c.args.turn) in
    let size = figures_size run c.args.froms.now c.args.tos.now c.requires.priceable_any in
    filling_start (pos 0) _ _ (omega (arith, size))

pub less-requires : goal.less-requires
less-requires c =
    let run = (run_of c.args.starts.now c.args.lengths.now c.args.aggregates.now c.args.numbers.now c.args.counts.now c.args.head c.args.turn) in
    let left : c.sum_without-left.result < 2 ^ 58 = rw c.sum_without-left.ensures (sum_without_small run c.args.froms.now c.args.tos.now c.requires.priceable_any _ c.loop-i-test.true) in
    let whole : c.args.sum < 2 ^ 58 = rw c.requires.sum_value (sum_small run c.args.froms.now c.args.tos.now c.requires.priceable_any) in
    (left, whole)

pub loop-i-preserved : goal.loop-i-preserved
loop-i-preserved c =
    let run = (run_of c.args.starts.now c.args.lengths.now c.args.aggregates.now c.args.numbers.now c.args.counts.now c.args.head c.args.turn) in
    let size = figures_size run c.args.froms.now c.args.tos.now c.requires.priceable_any in
    let left : c.sum_without-left.result < 2 ^ 58 = rw c.sum_without-left.ensures (sum_without_small run c.args.froms.now c.args.tos.now c.requires.priceable_any _ c.loop-i-test.true) in
    let whole : c.args.sum < 2 ^ 58 = rw c.requires.sum_value (sum_small run c.args.froms.now c.args.tos.now c.requires.priceable_any) in
    let list = list_of c.args.froms.now c.args.tos.now in
    let within = length_list c.args.froms.now c.args.tos.now (even run c.args.froms.now c.args.tos.now c.requires.priceable_any) in
    filling_more (pos 0) _ _ _ _ c.loop-i.invariant (omega (arith, size)) _
    (stored_is _ _ left whole _ c.less.ensures ∙ figure_is run list _ _ _ c.sum_without-left.ensures c.requires.sum_value ∙ figure_at run list _ (omega (arith, within)))

pub returns : goal.returns
returns c =
    let run = (run_of c.args.starts.now c.args.lengths.now c.args.aggregates.now c.args.numbers.now c.args.counts.now c.args.head c.args.turn) in
    let size = figures_size run c.args.froms.now c.args.tos.now c.requires.priceable_any in
    filling_all (pos 0) _ _ _ _ c.loop-i.invariant (omega (arith, size)) ∙ ap (λ n. figures_any_of run (list_of c.args.froms.now c.args.tos.now) ++ drop n c.args.row.now) size
