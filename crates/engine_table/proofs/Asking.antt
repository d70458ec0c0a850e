-- Looking for the choice in the filled table: the words asked for are right, so the sums formed of them are what each choice comes to.
use Prim.Native.Nat.{ℕ, suc, ◌+◌, ◌-◌, ◌*◌, ◌≤◌, ◌<◌, ◌^◌}
use mathlib.Core.Path.{◌≡◌, refl, sym, ap, ◌∙◌}
use mathlib.Core.List.{List}
use native.Mathlib.Omega.{arith}
use native.Mathlib.Numerals.{add-one}
use lib.ListN.{length, get_or}
use Rattle.runs.specs.Run.{Stop}
use Rattle.runs.specs.Alone.{lone_stops}
use Rattle.least.proofs.Value.{choice_first, choice_skip, choice_here, choice_not_here}
use Rattle.least.specs.Recurrence.{left_at, right_at, count_at}
use Rattle.engine_table.specs.Private.{Asked, RowTask, DetourFrom, row_at, reads_in, reads_first, worth, choice_worth, chosen, start_at, stop_end, LowerFits, SkipFits}
use Rattle.engine_table.proofs.Sizes.{reads_more, sum_first, sum_second}
use Rattle.engine_table.proofs.Facts.{reads_at}
use Rattle.engine_table.proofs.Cells.{row_inside}
use Rattle.engine_table.proofs.RowLoop.{skip_word, skip_fits}
use Rattle.engine_table.proofs.Steps.{detour_word, detour_fits}

-- Before the choice c: the start is not right of c, w reads standing left of c.
pub record StartLoop (starts lengths numbers counts : List ℕ) (turn a b s c w : ℕ) : Type 0 where
  pub from : a < c
  pub up_to : c ≤ b + 1
  pub left : w ≡ reads_in counts c
  pub some : 0 < chosen (lone_stops starts lengths numbers counts) turn a b s
  pub most : chosen (lone_stops starts lengths numbers counts) turn a b s ≤ c

module _ (starts lengths numbers counts : List ℕ) (turn reads : ℕ) (room : List ℕ) (a b s : ℕ) (q : Asked starts lengths numbers counts turn reads room a b s) where
  abbrev stops : List Stop
  stops = lone_stops starts lengths numbers counts

  -- A filled table is one whose earlier columns are right.
  pub asked_task : RowTask starts lengths numbers counts turn reads room a b (s + 1)
  asked_task =
      record {
        judged = q.filled.judged;
        window = q.window;
        inside = q.inside;
        big = q.filled.big;
        columns = λ a' b' h h'. q.filled.holds a' b' (omega (arith, q.inside)) (omega (arith, q.inside)) h';
        span = omega (arith, q.span);
      }

  least_word : get_or room (row_at (length numbers) reads a (b + 1) + s) 0 ≡ worth (lone_stops starts lengths numbers counts) turn a (suc b) s
  least_word =
      let e : suc (b + 1) ≡ b + 2 = omega arith in
      q.filled.holds a (b + 1) (omega (arith, q.window, q.inside)) q.inside (omega (arith, q.window)) s
      (omega (arith, ap (reads_first stops) e, reads_at starts lengths numbers counts turn reads q.filled.judged (b + 2) (omega (arith, q.inside)), q.span))
      ∙ ap (λ x. worth stops turn a x s) (add-one b)

  pub least_at : (at : ℕ) → at ≡ row_at (length numbers) reads a (b + 1) → get_or room (at + s) 0 ≡ worth (lone_stops starts lengths numbers counts) turn a (suc b) s
  least_at at e = rw e least_word

  pub least_inside : (at : ℕ) → at ≡ row_at (length numbers) reads a (b + 1) → at + s < length room
  least_inside at e =
      omega (arith, row_inside (length numbers) reads a (b + 1) s 1 (omega (arith, q.window, q.inside)) q.inside (omega (arith, q.span)), q.filled.big)

  -- What the code has at hand for the detour from c.
  module _ (c w : ℕ) (d : DetourFrom counts a b c w)
      (slope : ℕ) (slope-is : slope ≡ 2 * (turn + (stop_end starts lengths numbers (b + 1) - start_at starts numbers c)))
      (e : ℕ) (e-is : e ≡ 2 * (start_at starts numbers (b + 1) - start_at starts numbers c) * get_or counts (b + 1) 0)
      (at rest : ℕ) (at-is : at ≡ row_at (length numbers) reads c b) (rest_is : rest ≡ row_at (length numbers) reads a (c - 1)) where
    pub detour_sum : slope * w + e + slope * s + get_or room (at + get_or counts (b + 1) 0 + s) 0 + get_or room (rest + s) 0 ≡ choice_worth (lone_stops starts lengths numbers counts) turn a b s c
    detour_sum = detour_word starts lengths numbers counts turn reads room a b (s + 1) asked_task c w d slope slope-is e e-is (row_at (length numbers) reads a (b + 1)) at rest refl at-is rest_is s (omega arith)

    fits : LowerFits (row_at (length numbers) reads a (b + 1)) (at + get_or counts (b + 1) 0) rest (slope * w + e) slope (s + 1) room
    fits = detour_fits starts lengths numbers counts turn reads room a b (s + 1) asked_task c w d slope slope-is e e-is (row_at (length numbers) reads a (b + 1)) at rest refl at-is rest_is

    pub detour_sum_fits : slope * w + e + slope * s + get_or room (at + get_or counts (b + 1) 0 + s) 0 + get_or room (rest + s) 0 < 2 ^ 64
    detour_sum_fits = fits.fits s (omega arith)

    -- And so do its parts.
    pub detour_part_fits : slope * w + e + slope * s + get_or room (at + get_or counts (b + 1) 0 + s) 0 < 2 ^ 64
    detour_part_fits = sum_first (slope * w + e + slope * s + get_or room (at + get_or counts (b + 1) 0 + s) 0) (get_or room (rest + s) 0) detour_sum_fits

    pub detour_line_fits : slope * w + e + slope * s < 2 ^ 64
    detour_line_fits = sum_first (slope * w + e + slope * s) (get_or room (at + get_or counts (b + 1) 0 + s) 0) detour_part_fits

    pub detour_skip_fits : slope * s < 2 ^ 64
    detour_skip_fits = sum_second (slope * w + e) (slope * s) detour_line_fits

    pub inner_inside : at + get_or counts (b + 1) 0 + s < length room
    inner_inside = omega (arith, fits.inner_in)

    pub rest_inside : rest + s < length room
    rest_inside = omega (arith, fits.rest_in)

  module _ (e : ℕ) (e-is : e ≡ 2 * (start_at starts numbers (b + 1) - start_at starts numbers a) * get_or counts (b + 1) 0)
      (at : ℕ) (at-is : at ≡ row_at (length numbers) reads a b) where
    pub skip_sum : e + get_or room (at + get_or counts (b + 1) 0 + s) 0 ≡ choice_worth (lone_stops starts lengths numbers counts) turn a b s 0
    skip_sum = skip_word starts lengths numbers counts turn reads a b (s + 1) room asked_task e e-is (row_at (length numbers) reads a (b + 1)) at refl at-is s (omega arith)

    skip_fit : SkipFits (row_at (length numbers) reads a (b + 1)) (at + get_or counts (b + 1) 0) e (s + 1) room
    skip_fit = skip_fits starts lengths numbers counts turn reads a b (s + 1) room asked_task e e-is (row_at (length numbers) reads a (b + 1)) at refl at-is

    pub skip_sum_fits : e + get_or room (at + get_or counts (b + 1) 0 + s) 0 < 2 ^ 64
    skip_sum_fits = skip_fit.fits s (omega arith)

    pub skip_inside : at + get_or counts (b + 1) 0 + s < length room
    skip_inside = omega (arith, skip_fit.from_in)

    module _ (cell : ℕ) (cell-is : cell ≡ row_at (length numbers) reads a (b + 1)) where
      pub skip_found : e + get_or room (at + get_or counts (b + 1) 0 + s) 0 ≡ get_or room (cell + s) 0 → 0 ≡ chosen (lone_stops starts lengths numbers counts) turn a b s
      skip_found h = sym (choice_skip (left_at stops) (right_at stops) (count_at stops) turn a b s q.window (sym skip_sum ∙ h ∙ least_at cell cell-is))

      pub not_skipped : (e + get_or room (at + get_or counts (b + 1) 0 + s) 0 ≡ get_or room (cell + s) 0 → ⊥) → 0 < chosen (lone_stops starts lengths numbers counts) turn a b s
      not_skipped n =
          let d = choice_not_here (left_at stops) (right_at stops) (count_at stops) turn a b s 0 q.window (λ h. n (skip_sum ∙ h ∙ sym (least_at cell cell-is))) in
          omega arith

  chosen_within : 0 < chosen stops turn a b s → (a < chosen stops turn a b s) × (chosen stops turn a b s ≤ suc b)
  chosen_within h = (choice_first (left_at stops) (right_at stops) (count_at stops) turn a b s q.window).within h

  pub start_loop : (w : ℕ) → w ≡ reads_in counts (b + 1) → 0 < chosen (lone_stops starts lengths numbers counts) turn a b s → StartLoop starts lengths numbers counts turn a b s (b + 1) w
  start_loop w e h = record { from = omega (arith, q.window); up_to = omega arith; left = e; some = h; most = omega (arith, chosen_within h) }

  module _ (c w : ℕ) (l : StartLoop starts lengths numbers counts turn a b s c w) where
    counts_back : reads_in counts c ≡ reads_in counts (c - 1) + get_or counts (c - 1) 0
    counts_back = let e : c - 1 + 1 ≡ c = omega (arith, l.from) in rw e at (reads_more counts (c - 1))

    pub count_before : get_or counts (c - 1) 0 ≤ w
    count_before = omega (arith, l.left, counts_back)

    back_one : suc (c - 1) ≡ c
    back_one = omega (arith, l.from)

    pub start_found : choice_worth (lone_stops starts lengths numbers counts) turn a b s c ≡ worth (lone_stops starts lengths numbers counts) turn a (suc b) s → c ≡ chosen (lone_stops starts lengths numbers counts) turn a b s
    start_found e =
        omega (arith, choice_here (left_at stops) (right_at stops) (count_at stops) turn a b s (c - 1) q.window (omega (arith, l.up_to)) l.some (omega (arith, l.most)) (rw back_one e))

    pub start_on : a + 1 < c → (choice_worth (lone_stops starts lengths numbers counts) turn a b s c ≡ worth (lone_stops starts lengths numbers counts) turn a (suc b) s → ⊥) → StartLoop starts lengths numbers counts turn a b s (c - 1) (w - get_or counts (c - 1) 0)
    start_on h n =
        let d = choice_not_here (left_at stops) (right_at stops) (count_at stops) turn a b s c q.window n in
        record { from = omega arith; up_to = omega (arith, l.up_to); left = omega (arith, l.left, counts_back); some = l.some; most = omega (arith, l.most) }

    -- One choice is left.
    pub start_last : c ≤ a + 1 → c ≡ chosen (lone_stops starts lengths numbers counts) turn a b s
    start_last h = omega (arith, l.most, chosen_within l.some)
