-- The rows hold the names of the open elements, which what is left has to close.
use mathlib.Core.Path.{refl, sym, ◌∙◌}
use native.Mathlib.Omega.{arith}
use Rattle.tape_markup.proofs.Meets.{step_told, begins_fewer, unread_token, unread_past}
use Rattle.tape_markup.proofs.Texts.{text_less, balance_text}
use Rattle.tape_markup.proofs.Names.{balancing_none, balance_end, balance_broken, balance_past, balance_byte, balance_full, balance_open, balance_outside, balance_name, balance_other, balance_close}
use Rattle.tape_markup.proofs.balance.is_balanced.Goals as goal

pub loop-next-init : goal.loop-next-init
loop-next-init c = balancing_none _ _ _ refl refl

pub returns-in-End : goal.returns-in-End
returns-in-End c = balance_end _ _ _ _ _ c.loop-next.invariant (step_told _ _ _ c.loop-next.invariant.within (sym c.in-End.is ∙ c.step_from-step.ensures))

pub returns-in-Broken : goal.returns-in-Broken
returns-in-Broken c = balance_broken _ _ _ _ _ c.loop-next.invariant (step_told _ _ _ c.loop-next.invariant.within (sym c.in-Broken.is ∙ c.step_from-step.ensures))

pub loop-next-smaller-in-Byte : goal.loop-next-smaller-in-Byte
loop-next-smaller-in-Byte c =
    let m = step_told _ _ _ c.loop-next.invariant.within (sym c.in-Byte.is ∙ c.step_from-step.ensures) in
    text_less _ _ _ _ m.within c.behind_text-place.ensures (unread_token _ _ _ (begins_fewer _ _ _ _ m))

pub loop-next-preserved-in-Byte : goal.loop-next-preserved-in-Byte
loop-next-preserved-in-Byte c =
    balance_text _ _ _ _ _ _ (balance_byte _ _ _ _ _ c.loop-next.invariant _ _ (step_told _ _ _ c.loop-next.invariant.within (sym c.in-Byte.is ∙ c.step_from-step.ensures))) c.behind_text-place.ensures

pub returns-then-open-eq-MOST_OPEN : goal.returns-then-open-eq-MOST_OPEN
returns-then-open-eq-MOST_OPEN c =
    let m = step_told _ _ _ c.loop-next.invariant.within (sym c.in-Start.is ∙ c.step_from-step.ensures) in
    balance_full _ _ _ _ _ c.loop-next.invariant _ _ m.0 c.if-open-eq-MOST_OPEN.true

pub bounds-froms-open : goal.bounds-froms-open
bounds-froms-open c = omega (arith, c.loop-next.invariant.few, c.if-open-eq-MOST_OPEN.false)

pub bounds-tos-open : goal.bounds-tos-open
bounds-tos-open c = omega (arith, c.loop-next.invariant.few, c.if-open-eq-MOST_OPEN.false)

pub overflow_add-open : goal.overflow_add-open
overflow_add-open c = omega (arith, c.loop-next.invariant.few)

pub loop-next-smaller-in-Start : goal.loop-next-smaller-in-Start
loop-next-smaller-in-Start c =
    let m = step_told _ _ _ c.loop-next.invariant.within (sym c.in-Start.is ∙ c.step_from-step.ensures) in
    text_less _ _ _ _ m.0.within c.behind_text-place-in-Start.ensures (unread_token _ _ _ (begins_fewer _ _ _ _ m.0))

pub loop-next-preserved-in-Start : goal.loop-next-preserved-in-Start
loop-next-preserved-in-Start c =
    let m = step_told _ _ _ c.loop-next.invariant.within (sym c.in-Start.is ∙ c.step_from-step.ensures) in
    balance_text _ _ _ _ _ _ (balance_open _ _ _ _ _ c.loop-next.invariant _ _ _ m.0 m.1 c.if-open-eq-MOST_OPEN.false) c.behind_text-place-in-Start.ensures

pub returns-then-open-eq0 : goal.returns-then-open-eq0
returns-then-open-eq0 c =
    let m = step_told _ _ _ c.loop-next.invariant.within (sym c.in-Finish.is ∙ c.step_from-step.ensures) in
    balance_outside _ _ _ _ _ c.loop-next.invariant _ _ m.0 c.if-open-eq0.true

pub bounds-froms-open-in-Finish : goal.bounds-froms-open-in-Finish
bounds-froms-open-in-Finish c = omega (arith, c.loop-next.invariant.few)

pub bounds-tos-open-in-Finish : goal.bounds-tos-open-in-Finish
bounds-tos-open-in-Finish c = omega (arith, c.loop-next.invariant.few)

pub same_names-requires : goal.same_names-requires
same_names-requires c =
    let m = step_told _ _ _ c.loop-next.invariant.within (sym c.in-Finish.is ∙ c.step_from-step.ensures) in
    let n = balance_name _ _ _ _ _ c.loop-next.invariant c.if-open-eq0.false in
    record { from_le_to = (n.ordered, n.within); start_le_end = (m.1.ordered, m.1.within) }

pub returns-then-not-same_names : goal.returns-then-not-same_names
returns-then-not-same_names c =
    let m = step_told _ _ _ c.loop-next.invariant.within (sym c.in-Finish.is ∙ c.step_from-step.ensures) in
    balance_other _ _ _ _ _ c.loop-next.invariant _ _ m.0 c.if-open-eq0.false (sym c.same_names.ensures ∙ c.if-not-same_names.true)

pub loop-next-smaller-in-Finish : goal.loop-next-smaller-in-Finish
loop-next-smaller-in-Finish c =
    let m = step_told _ _ _ c.loop-next.invariant.within (sym c.in-Finish.is ∙ c.step_from-step.ensures) in
    text_less _ _ _ _ m.0.within c.behind_text-place-in-Finish.ensures (unread_token _ _ _ (begins_fewer _ _ _ _ m.0))

pub loop-next-preserved-in-Finish : goal.loop-next-preserved-in-Finish
loop-next-preserved-in-Finish c =
    let m = step_told _ _ _ c.loop-next.invariant.within (sym c.in-Finish.is ∙ c.step_from-step.ensures) in
    balance_text _ _ _ _ _ _ (balance_close _ _ _ _ _ c.loop-next.invariant _ _ m.0 c.if-open-eq0.false
    (sym c.same_names.ensures ∙ c.if-not-same_names.false)) c.behind_text-place-in-Finish.ensures

pub loop-next-smaller : goal.loop-next-smaller
loop-next-smaller c =
    let m = step_told _ _ _ c.loop-next.invariant.within (sym c.in-Past.is ∙ c.step_from-step.ensures) in
    text_less _ _ _ _ m.within c.behind_text-place-in-Past.ensures (unread_past _ _ _ m)

pub loop-next-preserved : goal.loop-next-preserved
loop-next-preserved c =
    let m = step_told _ _ _ c.loop-next.invariant.within (sym c.in-Past.is ∙ c.step_from-step.ensures) in
    balance_text _ _ _ _ _ _ (balance_past _ _ _ _ _ c.loop-next.invariant _ m) c.behind_text-place-in-Past.ensures
