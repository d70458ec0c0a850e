use Rattle.std.proofs.Common.{sym, ◌∙◌, rules, arith}
use Rattle.tape_markup.proofs.Scanning.{sought_at, sought_never, tag_ends, tag_breaks, tag_unended, tag_passed}
use Rattle.tape_markup.proofs.scan.tag_end.Goals as goal

pub returns-then-is_bare : goal.returns-then-is_bare
returns-then-is_bare c =
    sought_at _ _ _ _ _ c.loop-i.invariant 1 (omega arith) (search rules) (tag_ends c.args.text.now c.loop-i.i c.loop-i.quote (search rules) (sym c.is_bare.ensures ∙ c.if-is_bare.true))

pub returns-then-is_bare-2 : goal.returns-then-is_bare-2
returns-then-is_bare-2 c =
    sought_never _ _ _ _ _ c.loop-i.invariant
    (tag_breaks c.args.text.now c.loop-i.i c.loop-i.quote (search rules) (sym c.is_bare.ensures ∙ c.if-is_bare.false) (sym c.is_bare-in-loop-i.ensures ∙ c.if-is_bare-2.true))

pub loop-i-preserved : goal.loop-i-preserved
loop-i-preserved c =
    tag_passed _ _ _ _ _ _ c.loop-i.invariant (search rules) (sym c.is_bare.ensures ∙ c.if-is_bare.false) (sym c.is_bare-in-loop-i.ensures ∙ c.if-is_bare-2.false) c.quote_after-quote.ensures

pub returns : goal.returns
returns c = sought_never _ _ _ _ _ c.loop-i.invariant (tag_unended _ _ _ c.loop-i-test.false)
