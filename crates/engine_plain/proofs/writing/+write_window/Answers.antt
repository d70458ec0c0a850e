-- What a window's list still owes: each call has fewer stops to decide, room in both rows, and what is written is the window's list.
use Rattle.std.proofs.Common.{◌≡◌, ◌+◌, ◌-◌, ◌*◌, ◌^◌, ◌≤◌, ◌<◌, length, ℕ, Fits, w64}
use native.Mathlib.Omega.{arith}
use native.Mathlib.Nat.{lt_of_le_of_lt}
use Rattle.engine_plain.proofs.Windows.{some_stop, row_in, reads_fit, skipped_few, asked_inner, asked_rest}
use Rattle.engine_plain.proofs.Listed.{none_written, fits_skip, skip_written, inside, fits_inner, from_in, to_in, fits_rest, detour_written}
use Rattle.engine_plain.proofs.writing.+write_window.Goals as goal

-- Each call leaves fewer stops undecided.
skip_falls : (a b t : ℕ) → b - a ≡ t → a < b → b - 1 - a < t
skip_falls a b t e h = omega arith

inner_falls : (a b c t : ℕ) → b - a ≡ t → a < c → c ≤ b → b - 1 - c < t
inner_falls a b c t e h k = omega arith

rest_falls : (a b c t : ℕ) → b - a ≡ t → a < c → c ≤ b → c - 1 - a < t
rest_falls a b c t e h k = omega arith

pub returns-then-b-a : goal.returns-then-b-a
returns-then-b-a t c = none_written _ _ _ _ _ _ _ _ _ _ _ c.requires.asked c.requires.list_fits c.if-b-a.true

pub overflow_add-skipped : goal.overflow_add-skipped
overflow_add-skipped t c = reads_fit _ (skipped_few _ _ _ _ _ _ _ c.requires.asked)

pub write_window-requires : goal.write_window-requires
write_window-requires t c = (
  skip_falls _ _ _ c.decreases c.if-b-a.false,
  (
    asked_inner _ _ _ _ _ _ _ c.requires.asked _ (some_stop _ _ c.if-b-a.false),
    fits_skip _ _ _ _ _ _ _ _ _ _ _ _ c.requires.asked c.requires.list_fits c.if-b-a.false c.chosen-c.ensures,
  ),
)

pub returns-then-c-eq0 : goal.returns-then-c-eq0
returns-then-c-eq0 t c =
    skip_written _ _ _ _ _ _ _ _ _ _ _ _ c.requires.asked c.requires.list_fits c.if-b-a.false c.chosen-c.ensures c.if-c-eq0.true _ _ _ c.write_window.ensures

-- A place in a row that kept its length fits a word, and so does the one behind it.
kept_bytes : (i n k : ℕ) → i < n → n ≡ k → (k < 2 ^ 64) × (k * 8 < 2 ^ 63) → Fits w64 (i * 8)
kept_bytes i n k h e r = omega (arith, r.1)

next_fits : (i n k : ℕ) → i < n → n ≡ k → (k < 2 ^ 64) × (k * 8 < 2 ^ 63) → Fits w64 (i + 1)
next_fits i n k h e r = omega (arith, r.0)

pub write_window-at-requires : goal.write_window-at-requires
write_window-at-requires t c =
    let found = inside _ _ _ _ _ _ _ _ _ _ _ _ c.requires.asked c.requires.list_fits c.if-b-a.false c.chosen-c.ensures c.if-c-eq0.false in (
      inner_falls _ _ _ _ c.decreases found.0 found.1,
      (
        asked_inner _ _ _ _ _ _ _ c.requires.asked _ (some_stop _ _ c.if-b-a.false),
        fits_inner _ _ _ _ _ _ _ _ _ _ _ _ c.requires.asked c.requires.list_fits c.if-b-a.false c.chosen-c.ensures c.if-c-eq0.false,
      ),
    )

pub offset_bounds-firsts-c : goal.offset_bounds-firsts-c
offset_bounds-firsts-c t c =
    let found = inside _ _ _ _ _ _ _ _ _ _ _ _ c.requires.asked c.requires.list_fits c.if-b-a.false c.chosen-c.ensures c.if-c-eq0.false in
    let start_in = lt_of_le_of_lt found.1 (row_in _ _ _ c.requires.asked.inside c.requires.list_fits.named) in
    omega (arith, start_in, c.well_formed.0.1)

pub bounds-firsts-c : goal.bounds-firsts-c
bounds-firsts-c t c =
    let found = inside _ _ _ _ _ _ _ _ _ _ _ _ c.requires.asked c.requires.list_fits c.if-b-a.false c.chosen-c.ensures c.if-c-eq0.false in
    let start_in = lt_of_le_of_lt found.1 (row_in _ _ _ c.requires.asked.inside c.requires.list_fits.named) in
    start_in

pub offset_bounds-froms-at : goal.offset_bounds-froms-at
offset_bounds-froms-at t c =
    kept_bytes _ _ (length c.args.froms.now) (from_in _ _ _ _ _ _ _ _ _ _ _ _ c.requires.asked c.requires.list_fits c.if-b-a.false c.chosen-c.ensures c.if-c-eq0.false _ _ _ c.write_window-at.ensures) c.write_window-at.auto.froms c.well_formed.1.1.1.1.1.1.1.1.0

pub bounds-froms-at : goal.bounds-froms-at
bounds-froms-at t c =
    from_in _ _ _ _ _ _ _ _ _ _ _ _ c.requires.asked c.requires.list_fits c.if-b-a.false c.chosen-c.ensures c.if-c-eq0.false _ _ _ c.write_window-at.ensures

pub offset_bounds-tos-at : goal.offset_bounds-tos-at
offset_bounds-tos-at t c =
    kept_bytes _ _ (length c.args.tos.now) (to_in _ _ _ _ _ _ _ _ _ _ _ _ c.requires.asked c.requires.list_fits c.if-b-a.false c.chosen-c.ensures c.if-c-eq0.false _ _ _ c.write_window-at.ensures) c.write_window-at.auto.tos c.well_formed.1.1.1.1.1.1.1.1.1.0

pub bounds-tos-at : goal.bounds-tos-at
bounds-tos-at t c =
    to_in _ _ _ _ _ _ _ _ _ _ _ _ c.requires.asked c.requires.list_fits c.if-b-a.false c.chosen-c.ensures c.if-c-eq0.false _ _ _ c.write_window-at.ensures

pub overflow_add-at : goal.overflow_add-at
overflow_add-at t c =
    next_fits _ _ (length c.args.froms.now) (from_in _ _ _ _ _ _ _ _ _ _ _ _ c.requires.asked c.requires.list_fits c.if-b-a.false c.chosen-c.ensures c.if-c-eq0.false _ _ _ c.write_window-at.ensures) c.write_window-at.auto.froms c.well_formed.1.1.1.1.1.1.1.1.0

pub write_window-requires-2 : goal.write_window-requires-2
write_window-requires-2 t c =
    let found = inside _ _ _ _ _ _ _ _ _ _ _ _ c.requires.asked c.requires.list_fits c.if-b-a.false c.chosen-c.ensures c.if-c-eq0.false in (
      rest_falls _ _ _ _ c.decreases found.0 found.1,
      (
        asked_rest _ _ _ _ _ _ _ c.requires.asked _ (some_stop _ _ found.0) found.1,
        fits_rest _ _ _ _ _ _ _ _ _ _ _ _ c.requires.asked c.requires.list_fits c.if-b-a.false c.chosen-c.ensures c.if-c-eq0.false _ _ _ c.write_window-at.ensures _ _,
      ),
    )

pub returns : goal.returns
returns t c =
    detour_written _ _ _ _ _ _ _ _ _ _ _ _ c.requires.asked c.requires.list_fits c.if-b-a.false c.chosen-c.ensures c.if-c-eq0.false _ _ _ c.write_window-at.ensures _ _ _ c.write_window-2.ensures
