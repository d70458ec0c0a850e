use Rattle.std.proofs.Common.{◌≡◌, ◌-◌, length, get_or, refl, ap, sym, ◌∙◌, arith}
use Rattle.std.proofs.lemmas.List.{length-reverse}
use Rattle.std.proofs.lemmas.Iterator.Adapters.{YieldsList-from_rev_slice}
use Rattle.std.proofs.lemmas.Iterator.Consumers.{YieldsList-turn, YieldsList-end}
use Rattle.walk.specs.Private.{right_of}
use Rattle.walk.proofs.Between.{wants_by_number}
use Rattle.walk.proofs.Sweeps.{from_right, found_unread, found_first, no_sweep}
use Rattle.walk.proofs.pricing.sweep_end.Goals as goal

pub returns-in_default : goal.returns-in_default
returns-in_default c = λ m cs e behind. no_sweep _ _ _ _ _ cs c.in_default.ensures.cases

pub detour_reads-requires-clause-file_nonzero : goal.detour_reads-requires-clause-file_nonzero
detour_reads-requires-clause-file_nonzero c =
    let t = YieldsList-turn (YieldsList-from_rev_slice c.in-Some.later.now cc) c.loop-file.yielded _ c.loop-file.yielded_by _ _ c.in-Some-file.file c.in-Some-file.is c.next.ensures.steps in
    let file = from_right c.args.numbers.now c.in-Some.first.now c.in-Some.later.now c.in-Some.ensures.cases.0 (length c.loop-file.yielded) c.in-Some-file.file.now t.0 t.1 in
    rw file.1 (c.requires.wants (length c.args.numbers.now - 1 - length c.loop-file.yielded) (omega arith)).least

pub extent_end-requires-clause-in_table : goal.extent_end-requires-clause-in_table
extent_end-requires-clause-in_table c =
    let t = YieldsList-turn (YieldsList-from_rev_slice c.in-Some.later.now cc) c.loop-file.yielded _ c.loop-file.yielded_by _ _ c.in-Some-file.file c.in-Some-file.is c.next.ensures.steps in
    let file = from_right c.args.numbers.now c.in-Some.first.now c.in-Some.later.now c.in-Some.ensures.cases.0 (length c.loop-file.yielded) c.in-Some-file.file.now t.0 t.1 in
    rw file.1 (c.requires.wants (length c.args.numbers.now - 1 - length c.loop-file.yielded) (omega arith))

pub returns-then-not-detour_reads : goal.returns-then-not-detour_reads
returns-then-not-detour_reads c =
    let t = YieldsList-turn (YieldsList-from_rev_slice c.in-Some.later.now cc) c.loop-file.yielded _ c.loop-file.yielded_by _ _ c.in-Some-file.file c.in-Some-file.is c.next.ensures.steps in
    let file = from_right c.args.numbers.now c.in-Some.first.now c.in-Some.later.now c.in-Some.ensures.cases.0 (length c.loop-file.yielded) c.in-Some-file.file.now t.0 t.1 in
    λ m cs e behind.
    c.extent_end.ensures
    ∙ ap (right_of c.args.starts.now c.args.lengths.now c.args.aggregates.now) file.1
    ∙ found_unread _ _ _ _ _ c.loop-file.invariant _ _ _ cs e (wants_by_number _ _ _ _ _ _ c.requires m behind) (rw file.1 at (sym c.detour_reads.ensures ∙ c.if-not-detour_reads.true)) file.0

pub returns : goal.returns
returns c =
    let all = YieldsList-end (YieldsList-from_rev_slice c.in-Some.later.now cc) c.loop-file.yielded _ c.loop-file.yielded_by _ _ c.in-None.is c.next.ensures.steps in
    let first : c.in-Some.first.now ≡ get_or c.args.numbers.now 0 0 = rw c.in-Some.ensures.cases.0 refl in
    λ m cs e behind.
    c.extent_end-2.ensures
    ∙ ap (right_of c.args.starts.now c.args.lengths.now c.args.aggregates.now) first
    ∙ found_first _ _ _ _ _ c.loop-file.invariant _ _ _ cs e (wants_by_number _ _ _ _ _ _ c.requires m behind) (omega (arith, all.1, length-reverse c.in-Some.later.now, c.in-Some.ensures.cases.1))
