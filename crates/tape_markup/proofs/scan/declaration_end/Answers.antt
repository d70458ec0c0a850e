use Rattle.std.proofs.Common.{sym, ◌∙◌, rules, arith, get_or}
use Rattle.tape_markup.proofs.Scanning.{sought_at, sought_never, depth_grows, declaration_ends, declaration_unended, declaration_passed}
use Rattle.tape_markup.proofs.scan.declaration_end.Goals as goal

pub returns-then-ends_declaration : goal.returns-then-ends_declaration
returns-then-ends_declaration c =
    sought_at _ _ _ _ _ c.loop-i.invariant.sought 1 (omega arith) (search rules) (declaration_ends c.args.text.now c.loop-i.i c.loop-i.quote c.loop-i.depth (search rules) (sym c.ends_declaration.ensures ∙ c.if-ends_declaration.true))

pub loop-i-preserved : goal.loop-i-preserved
loop-i-preserved c = record {
  sought = declaration_passed _ _ _ _ _ _ _ _ c.loop-i.invariant.sought (search rules) (sym c.ends_declaration.ensures ∙ c.if-ends_declaration.false) c.quote_after-quote.ensures c.depth_after-depth.ensures;
  few = omega (arith, depth_grows c.loop-i.quote c.loop-i.depth (get_or c.args.text.now c.loop-i.i 0));
}

pub returns : goal.returns
returns c = sought_never _ _ _ _ _ c.loop-i.invariant.sought (declaration_unended _ _ _ _ c.loop-i-test.false)
