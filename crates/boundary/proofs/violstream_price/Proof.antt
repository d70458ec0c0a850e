-- `boundary::violstream_price` meets its contract: the pricer's own answer, with 8 for the row of sums where nothing comes before it.
-- Assumes nothing.
use mathlib.Core.Path.{sym, ap, ◌∙◌}
use Rattle.runs.specs.Run.{Run, run_of}
use Rattle.walk.specs.Price.{price_verdict}
use Rattle.walk.specs.Rows.{ReadRows, read_rows}
use Rattle.boundary.specs.Boundary.{code_of}
use Rattle.walk.proofs.Priced.{price_accepted}
use Rattle.boundary.proofs.Calls.{price_code, price_placed, code_refuses, code_accepts, call_is_price, call_reads, call_sums_kept, call_sums_filled, short_reads, short_sums_lem}
use borrow.Author.Rules.{rules}
use Rattle.boundary.proofs.violstream_price.Statement.{statement}
use Rattle.boundary.proofs.violstream_price.Tie as tie

-- The run and the rows that were handed in.
abbrev run : tie.Start → Run
run s = let a = s.args in run_of a.starts.now a.lengths.now a.aggregates.now a.numbers.now a.counts.now a.head a.turn

abbrev rows : tie.Start → ReadRows
rows s = read_rows s.args.times.now s.args.legs.now

short-price-requires : tie.Need-short_price-requires
short-price-requires c κs = search rules

-- The rows that the pricer left.
abbrev after : tie.After-price-a → ReadRows
after p = let l = p.price-a.new in read_rows l.times l.legs

-- The way back from a place in the code to the one that the name says.
abbrev at-start : tie.After-slice_known-3-1 → tie.Start
at-start c = c.before.before.before.before.before.before.before.before.before.before

abbrev at_price : tie.After-code-price → tie.After-price-a
at_price c = c.before.before.before.before.before

returns : tie.Need-returns-then-sums-lt4
returns c =
    let s = at-start c.before.before in
    record {
      says = c.short_price.ensures (rows s) s.args.sums.now c.if-sums-lt4.true;
      reads_are = short_reads (run s) s.args.detour_starts.now s.args.detour_ends.now (rows s) s.args.sums.now c.if-sums-lt4.true;
      sums_are = short_sums_lem (run s) s.args.detour_starts.now s.args.detour_ends.now (rows s) s.args.sums.now c.if-sums-lt4.true;
    }

price-requires : tie.Need-price-a-requires
price-requires c κs = search rules

code-requires : tie.Need-code-price-requires
code-requires c κs = price_placed _ _ _ _ _ c.price-a.ensures.0

same_length : tie.Need-shape_of-times-then-price-ne0
same_length c = (at_price c.before).price-a.auto.times

returns-2 : tie.Need-returns-then-price-ne0
returns-2 c =
    let p = at_price c.before in
    let e = p in
    let s = at-start e.before.before.before.before in
    let is = c.code-price.ensures ∙ price_code (run s) s.args.detour_starts.now s.args.detour_ends.now (rows s) _ p.price-a.ensures.0 in
    record {
      says = is ∙ sym (ap code_of (call_is_price (run s) s.args.detour_starts.now s.args.detour_ends.now (rows s) s.args.sums.now e.if-sums-lt4.false));
      reads_are = call_reads (run s) s.args.detour_starts.now s.args.detour_ends.now (rows s) s.args.sums.now (after p) e.if-sums-lt4.false p.price-a.ensures.1;
      sums_are =
          call_sums_kept (run s) s.args.detour_starts.now s.args.detour_ends.now (rows s) s.args.sums.now e.if-sums-lt4.false
          (code_refuses _ (λ z. c.if-price-ne0.true (is ∙ z)) (price_accepted (run s) s.args.detour_starts.now s.args.detour_ends.now (rows s)));
    }

fill-sums-requires : tie.Need-fill_sums-requires
fill-sums-requires c κs = search rules

same-length-2 : tie.Need-shape_of-legs-then-price-ne0
same-length-2 c = (at_price c.before).price-a.auto.legs

same-length-3 : tie.Need-shape_of-times
same-length-3 c = (at_price c.before.before.before.before.before).price-a.auto.times

same-length-4 : tie.Need-shape_of-legs
same-length-4 c = (at_price c.before.before.before.before.before).price-a.auto.legs

same-length-5 : tie.Need-shape_of-sums
same-length-5 c = c.fill_sums.auto.sums

returns-3 : tie.Need-returns
returns-3 c =
    let fs = c in
    let d = fs in
    let p = at_price d.before.before.before.before.before in
    let e = p in
    let s = at-start e.before.before.before.before in
    let is = d.code-price.ensures ∙ price_code (run s) s.args.detour_starts.now s.args.detour_ends.now (rows s) _ p.price-a.ensures.0 in
    let none = sym is ∙ d.if-price-ne0.false in
    record {
      says = is ∙ sym (ap code_of (call_is_price (run s) s.args.detour_starts.now s.args.detour_ends.now (rows s) s.args.sums.now e.if-sums-lt4.false));
      reads_are = call_reads (run s) s.args.detour_starts.now s.args.detour_ends.now (rows s) s.args.sums.now (after p) e.if-sums-lt4.false p.price-a.ensures.1;
      sums_are =
          call_sums_filled (run s) s.args.detour_starts.now s.args.detour_ends.now (rows s) s.args.sums.now _ _ e.if-sums-lt4.false
          (code_accepts (price_verdict (run s) s.args.detour_starts.now s.args.detour_ends.now (rows s)) none) p.price-a.ensures.0 fs.fill_sums.ensures;
    }

pub violstream_price_spec : {M : Type 1} → statement M
violstream_price_spec =
    tie.close
    (tie.spec
    short-price-requires
    returns
    price-requires
    code-requires
    same_length
    same-length-2
    returns-2
    fill-sums-requires
    same-length-3
    same-length-4
    same-length-5
    returns-3)
