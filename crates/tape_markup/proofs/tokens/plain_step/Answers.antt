use Prim.Native.Nat.{◌+◌}
use mathlib.Core.Path.{sym, ◌∙◌}
use lib.ListN.{length}
use lib.Dec.{ltb}
use borrow.Author.Tests.{ltb-true}
use Rattle.text_bytes.proofs.Bytes.{and_true_both}
use Rattle.tape_markup.specs.Steps.{step_at}
use borrow.Author.Rules.{rules}
use Rattle.tape_markup.proofs.tokens.plain_step.Goals as goal

pub returns-then-not-is_plain : goal.returns-then-not-is_plain
unfolding step_at
returns-then-not-is_plain c = rw (sym c.is_plain.ensures ∙ c.if-not-is_plain.true)

pub bounds-text-at : goal.bounds-text-at
bounds-text-at c =
    let a = c.args in
    let both = and_true_both (ltb (a.at + 3) a.end) (ltb a.at (length a.text.now)) (sym c.is_plain.ensures ∙ c.if-not-is_plain.false) in
    ltb-true _ _ both.1

pub overflow_add-result : goal.overflow_add-result
overflow_add-result c =
    let a = c.args in
    let both = and_true_both (ltb (a.at + 3) a.end) (ltb a.at (length a.text.now)) (sym c.is_plain.ensures ∙ c.if-not-is_plain.false) in
    let l = ltb-true (a.at + 3) a.end both.0 in
    search rules

pub returns : goal.returns
unfolding step_at
returns c = rw (sym c.is_plain.ensures ∙ c.if-not-is_plain.false)
