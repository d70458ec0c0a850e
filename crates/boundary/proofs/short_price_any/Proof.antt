-- `boundary::short_price_any` meets its contract: a price into empty rows finds what comes before 8.
-- Assumes nothing.
use mathlib.Core.Path.{sym, ◌∙◌}
use mathlib.Core.List.{[]}
use Rattle.runs.specs.Run.{Run, run_of}
use Rattle.walk.specs.Rows.{read_rows}
use Rattle.boundary.proofs.Calls.{any_price_code, any_price_placed, any_short_refused, any_short_accepted}
use borrow.Author.Rules.{rules}
use Rattle.boundary.proofs.short_price_any.Statement.{statement}
use Rattle.boundary.proofs.short_price_any.Tie as tie

slice-aggregate-price-any : tie.Need-slice_bounds-price_any-end
slice-aggregate-price-any c = search rules

slice-aggregate-price-any-2 : tie.Need-slice_bounds-price_any-end-2
slice-aggregate-price-any-2 c = search rules

price-any-requires : tie.Need-price_any-a-requires
price-any-requires c κs = search rules

-- The run that was handed in.
abbrev start : tie.After-price_any-a → tie.Start
start p = p.before.before.before.before.before.before.before.before.before.before

abbrev run : tie.Start → Run
run s = let a = s.args in run_of a.starts.now a.lengths.now a.aggregates.now a.numbers.now a.counts.now a.head a.turn

code-requires : tie.Need-code-found-requires
code-requires c κs =
    let p = c in
    let s = start p.before.before in
    any_price_placed (run s) s.args.froms.now s.args.tos.now (read_rows [] []) p.price_any-a.result p.price_any-a.ensures.0

returns : tie.Need-returns-then-found-eq0
returns c = λ rows sums l.
    let p = c in
    let s = start p.before.before.before.before in
    any_short_accepted (run s) s.args.froms.now s.args.tos.now (sym (any_price_code (run s) s.args.froms.now s.args.tos.now (read_rows [] []) p.price_any-a.result p.price_any-a.ensures.0) ∙ sym c.code-found.ensures ∙ c.if-found-eq0.true) rows sums l

returns-2 : tie.Need-returns
returns-2 c = λ rows sums l.
    let p = c in
    let s = start p.before.before.before.before in
    any_short_refused (run s) s.args.froms.now s.args.tos.now _ (c.code-found.ensures ∙ any_price_code (run s) s.args.froms.now s.args.tos.now (read_rows [] []) p.price_any-a.result p.price_any-a.ensures.0) c.if-found-eq0.false rows sums l

pub short_price_any_spec : {M : Type 1} → statement M
short_price_any_spec =
    tie.close (tie.spec
    slice-aggregate-price-any
    slice-aggregate-price-any-2
    price-any-requires
    code-requires
    returns
    returns-2)
