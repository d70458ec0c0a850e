-- `boundary::violstream_plan_any` meets its contract: 1 to 7, then 8 for the row of sums, and else the planner's own answer.
-- Assumes nothing.
use mathlib.Core.Path.{sym, ap, ◌∙◌}
use Rattle.runs.specs.Run.{Run, run_of}
use Rattle.runs.specs.AnyHead.{lifted}
use Rattle.runs.specs.Judging.{judge_of}
use Rattle.runs.proofs.AnyHead.{judge_any_lem}
use Rattle.planner.specs.Rows.{Rows, rows_of}
use Rattle.boundary.specs.Private.{code_unless}
use Rattle.boundary.proofs.AnyPlans.{any_sums_refused, any_plan_placed, any_plan_refused, any_plan_filled}
use borrow.Author.Rules.{rules}
use Rattle.boundary.proofs.violstream_plan_any.Statement.{statement}
use Rattle.boundary.proofs.violstream_plan_any.Tie as tie

-- The run and the rows that were handed in.
abbrev run : tie.Start → Run
run s = let a = s.args in run_of a.starts.now a.lengths.now a.aggregates.now a.numbers.now a.counts.now a.head a.turn

abbrev rows : tie.Start → Rows
rows s = let a = s.args in rows_of a.detour_starts.now a.detour_ends.now a.times.now a.legs.now a.room.now

-- The rows that the planner left.
abbrev after : tie.After-plan_any-a → Rows
after p = let l = p.plan_any-a.new in rows_of l.froms l.tos l.times l.legs l.room

-- The way back from a place in the code to the one that the name says.
abbrev at-start : tie.Then-sums-lt4 → tie.Start
at-start c = c.before.before.before.before.before.before.before.before.before.before.before.before

abbrev start : tie.Else-sums-lt4 → tie.Start
start e = e.before.before.before.before.before.before.before.before.before.before.before.before

abbrev at-if1 : tie.After-plan_any-a → tie.Else-sums-lt4
at-if1 c = c.before.before.before.before.before.before

abbrev at-plan : tie.After-slice_known-11-1 → tie.After-plan_any-a
at-plan c = c.before.before.before.before.before.before.before.before.before.before

lift-head-requires : tie.Need-lift_head-lifted-requires
lift-head-requires c κs = search rules

refused-code-requires : tie.Need-refused_code-requires
refused-code-requires c κs = search rules

returns : tie.Need-returns-then-sums-lt4
returns c =
    let l = c in
    let s = at-start l.before.before in
    any_sums_refused (run s) (rows s) s.args.sums.now l.if-sums-lt4.true _
    (◌∙◌ {b = code_unless (judge_of (lifted (run s))) 8} (rw l.lift_head-lifted.ensures at c.refused_code.ensures) (ap (λ v. code_unless v 8) (sym (judge_any_lem (run s)))))

plan-any-requires : tie.Need-plan_any-a-requires
plan-any-requires c κs = search rules

code-requires : tie.Need-code-planned-requires
code-requires c κs =
    let p = at-plan c in
    let e = at-if1 p in
    let s = start e in
    any_plan_placed (run s) (rows s) s.args.sums.now e.if-sums-lt4.false p.plan_any-a.result (after p) p.plan_any-a.ensures

same_length : tie.Need-shape_of-detour_starts-then-planned-ne0
same_length c = (at-plan c.before.before).plan_any-a.auto.froms

same-length-2 : tie.Need-shape_of-detour_ends-then-planned-ne0
same-length-2 c = (at-plan c.before.before).plan_any-a.auto.tos

same-length-3 : tie.Need-shape_of-times-then-planned-ne0
same-length-3 c = (at-plan c.before.before).plan_any-a.auto.times

same-length-4 : tie.Need-shape_of-legs-then-planned-ne0
same-length-4 c = (at-plan c.before.before).plan_any-a.auto.legs

same-length-5 : tie.Need-shape_of-room-then-planned-ne0
same-length-5 c = (at-plan c.before.before).plan_any-a.auto.room

returns-2 : tie.Need-returns-then-planned-ne0
returns-2 c =
    let p = at-plan c.before.before in
    let e = at-if1 p in
    let s = start e in
    any_plan_refused (run s) (rows s) s.args.sums.now e.if-sums-lt4.false p.plan_any-a.result (after p) p.plan_any-a.ensures _ c.code-planned.ensures c.if-planned-ne0.true

fill-sums-requires : tie.Need-fill_sums-requires
fill-sums-requires c κs = search rules

same-length-6 : tie.Need-shape_of-detour_starts
same-length-6 c = (at-plan c.before.before.before.before.before.before).plan_any-a.auto.froms

same-length-7 : tie.Need-shape_of-detour_ends
same-length-7 c = (at-plan c.before.before.before.before.before.before).plan_any-a.auto.tos

same-length-8 : tie.Need-shape_of-times
same-length-8 c = (at-plan c.before.before.before.before.before.before).plan_any-a.auto.times

same-length-9 : tie.Need-shape_of-legs
same-length-9 c = (at-plan c.before.before.before.before.before.before).plan_any-a.auto.legs

same-length-10 : tie.Need-shape_of-sums
same-length-10 c = c.fill_sums.auto.sums

same-length-11 : tie.Need-shape_of-room
same-length-11 c = (at-plan c.before.before.before.before.before.before).plan_any-a.auto.room

returns-3 : tie.Need-returns
returns-3 c =
    let fs = c in
    let d = fs in
    let p = at-plan d.before.before.before.before.before.before in
    let e = at-if1 p in
    let s = start e in
    any_plan_filled (run s) (rows s) s.args.sums.now e.if-sums-lt4.false p.plan_any-a.result (after p) p.plan_any-a.ensures _ d.code-planned.ensures d.if-planned-ne0.false _ fs.fill_sums.ensures

pub violstream_plan_any_spec : {M : Type 1} → statement M
violstream_plan_any_spec =
    tie.close
    (tie.spec
    lift-head-requires
    refused-code-requires
    returns
    plan-any-requires
    code-requires
    same_length
    same-length-2
    same-length-3
    same-length-4
    same-length-5
    returns-2
    fill-sums-requires
    same-length-6
    same-length-7
    same-length-8
    same-length-9
    same-length-10
    same-length-11
    returns-3)
