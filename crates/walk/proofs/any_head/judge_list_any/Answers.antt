-- The earlier of 01's entry and the first that starts past the head's own stop.
use mathlib.Core.Path.{sym, ap, ◌∙◌}
use native.Mathlib.Omega.{arith}
use lib.ListN.{length, get_or}
use lib.Dec.{ltb}
use Rattle.refusals.specs.declared.Refusal.TheVariants.{BadEntry}
use Rattle.refusals.specs.declared.Verdict.{Verdict}
use Rattle.refusals.specs.Refusals.{checked, refuse_at, first_where}
use Rattle.runs.specs.Run.{joined, want_stops}
use Rattle.runs.specs.Lists.{list_verdict}
use Rattle.runs.specs.Private.{earlier_of}
use Rattle.runs.proofs.Stops.{wants_agree}
use Rattle.walk.proofs.AnyHead.{own_joined, uneven_same, list_alone, any_list}
use Rattle.walk.proofs.any_head.judge_list_any.Goals as goal

pub returns-then-froms-tos : goal.returns-then-froms-tos
returns-then-froms-tos c =
    let a = c.args in
    λ l cs e up. c.judge_list-list.ensures a.starts.now l cs e ∙ ap checked (uneven_same a.head _ a.froms.now a.tos.now c.if-froms-tos.true)

pub returns : goal.returns
returns c =
    let a = c.args in
    λ l cs e up.
    let v = list_verdict (joined (want_stops a.starts.now l a.aggregates.now a.numbers.now cs)) a.froms.now a.tos.now in
    let said = c.judge_list-list.ensures a.starts.now l cs e in
    let alone = list_alone a.head _ a.froms.now a.tos.now in
    let found = c.place_of.ensures v (said ∙ ap checked (sym alone)) ∙ ap (λ (v : Verdict). v.place) alone in
    c.at.ensures
    ∙ ap (λ p. checked (refuse_at p BadEntry))
    (c.first_past.ensures ∙ ap (λ p. earlier_of p (first_where (λ i. ltb c.own_stop-own.result (get_or a.froms.now i 0)) (length a.froms.now))) found)
    ∙ ap checked
    (any_list a.head _ a.froms.now a.tos.now c.if-froms-tos.false c.own_stop-own.result
    (c.own_stop-own.ensures l cs e ∙ sym (own_joined a.head _ (wants_agree a.starts.now l a.aggregates.now a.numbers.now cs))) up
    (λ i h. omega (arith, c.type_inv.froms i)))
