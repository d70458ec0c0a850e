-- `boundary::violstream_plan` meets its contract: 1 to 7, then 14, then 8 for the row of sums, and else the planner's own answer.
-- Assumes nothing.
use native.Mathlib.Omega.{arith}
use Rattle.runs.specs.Run.{Run, run_of}
use Rattle.planner.specs.Rows.{Rows, rows_of}
use Rattle.boundary.proofs.Plans.{rule_refused, sums_refused, plan_placed, plan_refused, plan_filled}
use borrow.Author.Rules.{rules}
use Rattle.boundary.proofs.violstream_plan.Statement.{statement}
use Rattle.boundary.proofs.violstream_plan.Tie as tie

-- The run and the rows that were handed in.
abbrev run : tie.Start → Run
run s = let a = s.args in run_of a.starts.now a.lengths.now a.aggregates.now a.numbers.now a.counts.now a.head a.turn

abbrev rows : tie.Start → Rows
rows s = let a = s.args in rows_of a.detour_starts.now a.detour_ends.now a.times.now a.legs.now a.room.now

abbrev start : tie.Else-rule-ne-LEAST_RULE → tie.Start
start e = e.before.before.before.before.before.before.before.before.before.before.before.before

refused-code-requires : tie.Need-refused_code-requires
refused-code-requires c κs = search rules

-- The rows that the planner left.
abbrev after : tie.After-plan-a → Rows
after p = let l = p.plan-a.new in rows_of l.froms l.tos l.times l.legs l.room

-- The way back from a place in the code to the one that the name says.
abbrev at-start : tie.Then-rule-ne-LEAST_RULE → tie.Start
at-start c = c.before.before.before.before.before.before.before.before.before.before.before.before

abbrev at-if2 : tie.After-plan-a → tie.Else-sums-lt4
at-if2 c = c.before.before.before.before.before.before

abbrev at-plan : tie.After-slice_known-11-1 → tie.After-plan-a
at-plan c = c.before.before.before.before.before.before.before.before.before.before

returns : tie.Need-returns-then-rule-ne-LEAST_RULE
returns c =
    let t = c in
    let s = at-start t.before in
    rule_refused (run s) s.args.rule (rows s) s.args.sums.now (λ e. omega (arith, e, t.if-rule-ne-LEAST_RULE.true)) _ c.refused_code.ensures

refused-code-requires-2 : tie.Need-refused_code-requires-then-sums-lt4
refused-code-requires-2 c κs = search rules

returns-2 : tie.Need-returns-then-sums-lt4
returns-2 c =
    let e = c in
    let s = start e.before.before in
    sums_refused (run s) s.args.rule (rows s) s.args.sums.now e.if-rule-ne-LEAST_RULE.false c.if-sums-lt4.true _ c.refused_code-then-sums-lt4.ensures

plan-requires : tie.Need-plan-a-requires
plan-requires c κs = search rules

code-requires : tie.Need-code-plan-requires
code-requires c κs =
    let p = at-plan c in
    let g = at-if2 p in
    let e = g in
    let s = start e.before in
    plan_placed (run s) s.args.rule (rows s) s.args.sums.now e.if-rule-ne-LEAST_RULE.false g.if-sums-lt4.false p.plan-a.result (after p) p.plan-a.ensures

same_length : tie.Need-shape_of-detour_starts-then-plan-ne0
same_length c = (at-plan c.before.before).plan-a.auto.froms

same-length-2 : tie.Need-shape_of-detour_ends-then-plan-ne0
same-length-2 c = (at-plan c.before.before).plan-a.auto.tos

same-length-3 : tie.Need-shape_of-times-then-plan-ne0
same-length-3 c = (at-plan c.before.before).plan-a.auto.times

same-length-4 : tie.Need-shape_of-legs-then-plan-ne0
same-length-4 c = (at-plan c.before.before).plan-a.auto.legs

same-length-5 : tie.Need-shape_of-room-then-plan-ne0
same-length-5 c = (at-plan c.before.before).plan-a.auto.room

returns-3 : tie.Need-returns-then-plan-ne0
returns-3 c =
    let p = at-plan c.before.before in
    let g = at-if2 p in
    let e = g in
    let s = start e.before in
    plan_refused (run s) s.args.rule (rows s) s.args.sums.now e.if-rule-ne-LEAST_RULE.false g.if-sums-lt4.false p.plan-a.result (after p) p.plan-a.ensures
    _ c.code-plan.ensures c.if-plan-ne0.true

fill-sums-requires : tie.Need-fill_sums-requires
fill-sums-requires c κs = search rules

same-length-6 : tie.Need-shape_of-detour_starts
same-length-6 c = (at-plan c.before.before.before.before.before.before).plan-a.auto.froms

same-length-7 : tie.Need-shape_of-detour_ends
same-length-7 c = (at-plan c.before.before.before.before.before.before).plan-a.auto.tos

same-length-8 : tie.Need-shape_of-times
same-length-8 c = (at-plan c.before.before.before.before.before.before).plan-a.auto.times

same-length-9 : tie.Need-shape_of-legs
same-length-9 c = (at-plan c.before.before.before.before.before.before).plan-a.auto.legs

same-length-10 : tie.Need-shape_of-sums
same-length-10 c = c.fill_sums.auto.sums

same-length-11 : tie.Need-shape_of-room
same-length-11 c = (at-plan c.before.before.before.before.before.before).plan-a.auto.room

returns-4 : tie.Need-returns
returns-4 c =
    let fs = c in
    let d = fs in
    let p = at-plan d.before.before.before.before.before.before in
    let g = at-if2 p in
    let e = g in
    let s = start e.before in
    plan_filled (run s) s.args.rule (rows s) s.args.sums.now e.if-rule-ne-LEAST_RULE.false g.if-sums-lt4.false p.plan-a.result (after p) p.plan-a.ensures
    _ d.code-plan.ensures d.if-plan-ne0.false _ fs.fill_sums.ensures

pub violstream_plan_spec : {M : Type 1} → statement M
violstream_plan_spec =
    tie.close
    (tie.spec
    refused-code-requires
    returns
    refused-code-requires-2
    returns-2
    plan-requires
    code-requires
    same_length
    same-length-2
    same-length-3
    same-length-4
    same-length-5
    returns-3
    fill-sums-requires
    same-length-6
    same-length-7
    same-length-8
    same-length-9
    same-length-10
    same-length-11
    returns-4)
