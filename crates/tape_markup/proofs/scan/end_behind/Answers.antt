use Rattle.std.proofs.Common.{sym, ap, ◌∙◌, rules}
use Rattle.text_bytes.specs.Text.{starts_with}
use Rattle.tape_markup.proofs.Scanning.{rest_all, sought_never, wanted_nowhere, wanted_passed, wanted_found}
use Rattle.tape_markup.proofs.scan.end_behind.Goals as goal

pub returns-then-stands_at : goal.returns-then-stands_at
returns-then-stands_at c = wanted_found _ _ _ _ _ c.loop-i.invariant (search rules) (search rules) (ap (starts_with c.args.wanted.now) (rest_all c.args.text.now c.loop-i.i) ∙ (sym c.stands_at.ensures ∙ c.if-stands_at.true))

pub loop-i-preserved : goal.loop-i-preserved
loop-i-preserved c = wanted_passed _ _ _ _ _ c.loop-i.invariant (search rules) (ap (starts_with c.args.wanted.now) (rest_all c.args.text.now c.loop-i.i) ∙ (sym c.stands_at.ensures ∙ c.if-stands_at.false))

pub returns : goal.returns
returns c = sought_never _ _ _ _ _ c.loop-i.invariant (wanted_nowhere _ _ _ c.loop-i-test.false)
