use Rattle.std.proofs.Common.{ℕ, ◌+◌, ◌-◌, ◌∙◌, leb, ◌&&◌, arith, ap, rules, tests}
use Rattle.std.proofs.lemmas.Iterator.{YieldsList-from_slice, YieldsList-from_zip}
use Rattle.std.proofs.lemmas.Iterator.Search.{any_from_yields_List}
use Rattle.runs.proofs.Members.{first_below}
use Rattle.runs.proofs.Stops.{first_file_lem}
use Rattle.walk.specs.Private.{read_by_number}
use Rattle.walk.proofs.Between.{read_by_number-list_any}
use Rattle.walk.proofs.pricing.detour_reads.Goals as goal

pub overflow_add-first : goal.overflow_add-first
overflow_add-first c = omega (arith, c.first_member.ensures, first_below c.args.aggregates.now (c.args.file - 1))

pub returns : goal.returns
returns c =
    let name = c.first_member.result + 1 in
    any_from_yields_List (λ (p : ℕ × ℕ). leb p.0 name && leb name p.1) c.any.new.self _ _ c.any.ensures.ran (YieldsList-from_zip (YieldsList-from_slice c.args.froms.now cc) (YieldsList-from_slice c.args.tos.now cc)) (λ x b q k. search (rules, tests))
    ∙ read_by_number-list_any c.args.froms.now c.args.tos.now name
    ∙ ap (read_by_number c.args.froms.now c.args.tos.now) (omega (arith, c.first_member.ensures, first_file_lem c.args.aggregates.now c.args.file c.requires.file_nonzero))
