-- Each beginning is tried where those before it do not fit.
use mathlib.Core.Path.{sym, ◌∙◌}
use Rattle.tape_markup.proofs.tokens.opening_of.Goals as goal

pub returns-then-starts : goal.returns-then-starts
returns-then-starts c = sym c.starts.ensures ∙ c.if-starts.true

pub returns-then-starts-2 : goal.returns-then-starts-2
returns-then-starts-2 c = (sym c.starts.ensures ∙ c.if-starts.false, sym c.starts-2.ensures ∙ c.if-starts-2.true)

pub returns-then-starts-3 : goal.returns-then-starts-3
returns-then-starts-3 c = (
  sym c.starts.ensures ∙ c.if-starts.false,
  sym c.starts-2.ensures ∙ c.if-starts-2.false,
  sym c.starts-3.ensures ∙ c.if-starts-3.true,
)

pub returns-then-starts-4 : goal.returns-then-starts-4
returns-then-starts-4 c = (
  sym c.starts.ensures ∙ c.if-starts.false,
  sym c.starts-2.ensures ∙ c.if-starts-2.false,
  sym c.starts-3.ensures ∙ c.if-starts-3.false,
  sym c.starts-4.ensures ∙ c.if-starts-4.true,
)

pub returns-then-starts-5 : goal.returns-then-starts-5
returns-then-starts-5 c = (
  sym c.starts.ensures ∙ c.if-starts.false,
  sym c.starts-2.ensures ∙ c.if-starts-2.false,
  sym c.starts-3.ensures ∙ c.if-starts-3.false,
  sym c.starts-4.ensures ∙ c.if-starts-4.false,
  sym c.starts-5.ensures ∙ c.if-starts-5.true,
)

pub returns : goal.returns
returns c = (
  sym c.starts.ensures ∙ c.if-starts.false,
  sym c.starts-2.ensures ∙ c.if-starts-2.false,
  sym c.starts-3.ensures ∙ c.if-starts-3.false,
  sym c.starts-4.ensures ∙ c.if-starts-4.false,
  sym c.starts-5.ensures ∙ c.if-starts-5.false,
)
