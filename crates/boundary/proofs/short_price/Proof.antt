-- `boundary::short_price` meets its contract: a price into empty rows finds what comes before 8.
-- Assumes nothing.
use mathlib.Core.Path.{sym, ◌∙◌}
use mathlib.Core.List.{[]}
use Rattle.runs.specs.Run.{Run, run_of}
use Rattle.walk.specs.Rows.{read_rows}
use Rattle.boundary.proofs.Calls.{price_code, price_placed, short_refused, short_accepted}
use borrow.Author.Rules.{rules}
use Rattle.boundary.proofs.short_price.Statement.{statement}
use Rattle.boundary.proofs.short_price.Tie as tie

slice-aggregate-price : tie.Need-slice_bounds-price-end
slice-aggregate-price c = search rules

slice-aggregate-price-2 : tie.Need-slice_bounds-price-end-2
slice-aggregate-price-2 c = search rules

price-requires : tie.Need-price-a-requires
price-requires c κs = search rules

-- The run that was handed in.
abbrev start : tie.After-price-a → tie.Start
start p = p.before.before.before.before.before.before.before.before.before.before

abbrev run : tie.Start → Run
run s = let a = s.args in run_of a.starts.now a.lengths.now a.aggregates.now a.numbers.now a.counts.now a.head a.turn

code-requires : tie.Need-code-found-requires
code-requires c κs =
    let p = c in
    let s = start p.before.before in
    price_placed (run s) s.args.froms.now s.args.tos.now (read_rows [] []) p.price-a.result p.price-a.ensures.0

returns : tie.Need-returns-then-found-eq0
returns c = λ rows sums l.
    let p = c in
    let s = start p.before.before.before.before in
    short_accepted (run s) s.args.froms.now s.args.tos.now (sym (price_code (run s) s.args.froms.now s.args.tos.now (read_rows [] []) p.price-a.result p.price-a.ensures.0) ∙ sym c.code-found.ensures ∙ c.if-found-eq0.true) rows sums l

returns-2 : tie.Need-returns
returns-2 c = λ rows sums l.
    let p = c in
    let s = start p.before.before.before.before in
    short_refused (run s) s.args.froms.now s.args.tos.now _ (c.code-found.ensures ∙ price_code (run s) s.args.froms.now s.args.tos.now (read_rows [] []) p.price-a.result p.price-a.ensures.0) c.if-found-eq0.false rows sums l

pub short_price_spec : {M : Type 1} → statement M
short_price_spec =
    tie.close (tie.spec
    slice-aggregate-price
    slice-aggregate-price-2
    price-requires
    code-requires
    returns
    returns-2)
