use Rattle.std.proofs.Common.{arith}
use Rattle.walk.proofs.Filling.{filled_one, filled_times, filled_legs, filled_sum, product_fits, sum_fits}
use Rattle.walk.proofs.pricing.fill_reads.Goals as goal

pub overflow_mul-sum : goal.overflow_mul-sum
overflow_mul-sum c =
    record { fits = product_fits _ _ _ _ _ c.requires.counts_len.0 _ _ _ _ _ _ _ _ _ c.loop-i.invariant c.requires.walk_fits.within c.loop-i-test.true _ c.read_of-read.ensures c.requires.counts_len.1 }

pub overflow_add-sum : goal.overflow_add-sum
overflow_add-sum c =
    record { fits = sum_fits _ _ _ _ _ c.requires.counts_len.0 _ _ _ _ _ _ _ _ _ c.loop-i.invariant c.requires.walk_fits.within c.loop-i-test.true _ c.read_of-read.ensures c.requires.counts_len.1 }

pub loop-i-preserved : goal.loop-i-preserved
loop-i-preserved c =
    let p = c.loop-i.invariant in
    filled_one _ _ _ _ _ c.requires.counts_len.0 _ _ _ _ _ _ _ _ _ p c.requires.walk_fits.within c.loop-i-test.true _ c.read_of-read.ensures
    (omega (arith, p.timed.same)) (omega (arith, p.numbered.same))

pub returns-clause-value : goal.returns-clause-value
returns-clause-value c = filled_sum _ _ _ _ _ c.requires.counts_len.0 _ _ _ _ _ _ _ _ _ c.loop-i.invariant c.loop-i-test.false

pub returns-clause-times_after : goal.returns-clause-times_after
returns-clause-times_after c = filled_times _ _ _ _ _ c.requires.counts_len.0 _ _ _ _ _ _ _ _ _ c.loop-i.invariant c.loop-i-test.false

pub returns-clause-legs_after : goal.returns-clause-legs_after
returns-clause-legs_after c = filled_legs _ _ _ _ _ c.requires.counts_len.0 _ _ _ _ _ _ _ _ _ c.loop-i.invariant c.loop-i-test.false
