-- What a choice and a window still owe: each call leaves less to decide, each sum fits a word, and the loop keeps the least of the choices met.
use Rattle.std.proofs.Common.{◌≡◌, ◌+◌, ◌-◌, ◌*◌, ◌≤◌, ◌<◌, ℕ, Fits, w64}
use native.Mathlib.Omega.{arith}
use native.Mathlib.Nat.{le_of_lt}
use Rattle.runs.specs.Run.{last_place, highest_turn, most_reads}
use Rattle.engine_plain.proofs.Sizes.{asked_early}
use Rattle.engine_plain.proofs.Windows.{some_stop, reads_fit, skipped_few, asked_inner, asked_rest, asked_from, two_fit, skip_so, skip_fits, detour_part_fits, detour_so, detour_fits, no_window, lower_min, window_starts, window_turn, window_ends}
use Rattle.engine_plain.proofs.asking.+choice_window.Goals as goal

-- Each call leaves less to decide.
skip_falls : (a b t : ℕ) → 2 * (b - a) ≡ t → a < b → 2 * (b - 1 - a) + 1 < t
skip_falls a b t e h = omega arith

inner_falls : (a b c t : ℕ) → 2 * (b - a) ≡ t → a < c → c ≤ b → 2 * (b - 1 - c) + 1 < t
inner_falls a b c t e h k = omega arith

rest_falls : (a b c t : ℕ) → 2 * (b - a) ≡ t → a < c → c ≤ b → 2 * (c - 1 - a) + 1 < t
rest_falls a b c t e h k = omega arith

start_some : (c : ℕ) → (c ≡ 0 → ⊥) → 1 ≤ c
start_some c h = omega arith

-- What a choice comes to fits a word, and so do the two sums that it starts with.
choice_fits : (n turn : ℕ) → n ≤ 2 * (turn + 2 * last_place) * most_reads → turn ≤ highest_turn → Fits w64 n
choice_fits n turn h k = omega arith

front_fits : (n : ℕ) → n ≤ 2 * (highest_turn + last_place) * most_reads + 2 * last_place * most_reads → Fits w64 n
front_fits n h = omega arith

pub choice-overflow_add-skipped : goal.choice-overflow_add-skipped
choice-overflow_add-skipped t c = reads_fit _ (skipped_few _ _ _ _ _ _ _ c.requires.asked)

pub choice-early_of-requires : goal.choice-early_of-requires
choice-early_of-requires t c = asked_early _ _ _ _ _ _ _ c.requires.asked _ (le_of_lt c.requires.may_choose.some)

pub choice-window-requires : goal.choice-window-requires
choice-window-requires t c =
    let some = c.requires.may_choose.some in
    (skip_falls _ _ _ c.decreases some, asked_inner _ _ _ _ _ _ _ c.requires.asked _ (some_stop _ _ some))

pub choice-overflow_add-result : goal.choice-overflow_add-result
choice-overflow_add-result t c =
    choice_fits _ _ (skip_fits _ _ _ _ _ _ _ c.requires.asked _ _ c.early_of.ensures c.window.ensures (some_stop _ _ c.requires.may_choose.some)) c.requires.asked.laid.cheap

pub choice-returns-then-c-eq0 : goal.choice-returns-then-c-eq0
choice-returns-then-c-eq0 t c =
    rw c.if-c-eq0.true (skip_so _ _ _ _ _ _ _ c.requires.asked _ _ c.early_of.ensures c.window.ensures (some_stop _ _ c.requires.may_choose.some))

pub choice-early_of-requires-2 : goal.choice-early_of-requires-2
choice-early_of-requires-2 t c = asked_early _ _ _ _ _ _ _ c.requires.asked _ c.requires.may_choose.up_to

pub choice-overflow_add-result-2 : goal.choice-overflow_add-result-2
choice-overflow_add-result-2 t c =
    front_fits _ (two_fit _ _ _ _ _ _ _ (asked_from _ _ _ _ _ _ _ c.requires.asked c.args.c) _ _ c.wait_of.ensures c.early_of-2.ensures c.requires.may_choose.up_to)

pub choice-window-requires-2 : goal.choice-window-requires-2
choice-window-requires-2 t c =
    let m = c.requires.may_choose in
    (inner_falls _ _ _ _ c.decreases (m.after (start_some _ c.if-c-eq0.false)) m.up_to, asked_inner _ _ _ _ _ _ _ c.requires.asked _ (some_stop _ _ m.some))

pub choice-overflow_add-result-3 : goal.choice-overflow_add-result-3
choice-overflow_add-result-3 t c =
    choice_fits _ _
    (detour_part_fits _ _ _ _ _ _ _ c.requires.asked _ _ _ _ c.wait_of.ensures c.early_of-2.ensures c.window-2.ensures c.requires.may_choose c.if-c-eq0.false)
    c.requires.asked.laid.cheap

pub choice-window-requires-3 : goal.choice-window-requires-3
choice-window-requires-3 t c =
    let m = c.requires.may_choose in
    let some = start_some _ c.if-c-eq0.false in
    (rest_falls _ _ _ _ c.decreases (m.after some) m.up_to, asked_rest _ _ _ _ _ _ _ c.requires.asked _ some m.up_to)

pub choice-overflow_add-result-4 : goal.choice-overflow_add-result-4
choice-overflow_add-result-4 t c =
    choice_fits _ _
    (detour_fits _ _ _ _ _ _ _ c.requires.asked _ _ _ _ c.wait_of.ensures c.early_of-2.ensures c.window-2.ensures c.requires.may_choose c.if-c-eq0.false _ c.window-3.ensures)
    c.requires.asked.laid.cheap

pub choice-returns : goal.choice-returns
choice-returns t c = detour_so _ _ _ _ _ _ _ c.requires.asked _ _ _ _ c.wait_of.ensures c.early_of-2.ensures c.window-2.ensures c.requires.may_choose c.if-c-eq0.false _ c.window-3.ensures

pub window-returns-then-b-a : goal.window-returns-then-b-a
window-returns-then-b-a t c = no_window _ _ _ _ _ _ _ c.requires c.if-b-a.true

pub window-loop-c-init : goal.window-loop-c-init
window-loop-c-init t c = window_starts _ _ _ _ _ _ _ c.if-b-a.false _ c.choice-least.ensures

pub window-loop-c-preserved : goal.window-loop-c-preserved
window-loop-c-preserved t c = window_turn _ _ _ _ _ _ _ _ _ c.loop-c.invariant (omega arith) _ _ c.choice.ensures (lower_min _ _ _ c.min-least.ensures)

pub window-returns-else-b-a : goal.window-returns-else-b-a
window-returns-else-b-a t c = window_ends _ _ _ _ _ _ _ _ _ c.loop-c.invariant (omega arith)

pub window-returns-else-b-a-2 : goal.window-returns-else-b-a-2
window-returns-else-b-a-2 t c =
    window_ends _ _ _ _ _ _ _ _ _ (window_turn _ _ _ _ _ _ _ _ _ c.loop-c.invariant (omega arith) _ _ c.choice.ensures (lower_min _ _ _ c.min-least.ensures)) (omega arith)
