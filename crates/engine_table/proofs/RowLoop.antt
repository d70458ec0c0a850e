-- The loop over the choices of a row: with what is lowest so far and the choices still to come, each word comes to its worth.
use Prim.Native.Nat.{ℕ, suc, ◌+◌, ◌-◌, ◌*◌, ◌≤◌, ◌<◌}
use mathlib.Core.Path.{◌≡◌, sym, ◌∙◌}
use mathlib.Core.List.{List}
use native.Mathlib.Omega.{arith}
use native.Mathlib.Numerals.{add-one}
use native.Mathlib.Nat.{le_refl}
use lib.ListN.{length, get_or}
use Rattle.runs.specs.Run.{Stop, last_place, highest_turn, most_reads}
use Rattle.runs.specs.Alone.{lone_stops}
use Rattle.least.proofs.Scan.{lowest_one_more, lowest_end}
use Rattle.least.proofs.Value.{value_step}
use Rattle.least.proofs.Lines.{lower_below_first, supported_lower, supported_same}
use Rattle.least.proofs.Edges.{candidate_supported}
use Rattle.least.specs.Slopes.{Supported}
use Rattle.least.specs.Recurrence.{lower, lowest, left_at, right_at, count_at}
use Rattle.engine_table.specs.Private.{Kept, Written, SkipFits, RowTask, SoFar, row_at, reads_in, start_at, worth, choice_worth}
use Rattle.engine_table.proofs.Sizes.{reads_more}
use Rattle.engine_table.proofs.Words.{kept_none, kept_more, kept_on}
use Rattle.engine_table.proofs.Facts.{cheap_turn}
use Rattle.engine_table.proofs.Cells.{holds_kept}
use Rattle.engine_table.proofs.Choices.{candidate_skip}
use Rattle.engine_table.proofs.Steps.{inner_word, count_span, room_for, earlier_apart, skipped, early_is, choice_small}

module _ (starts lengths numbers counts : List ℕ) (turn reads : ℕ) (a b n : ℕ) where
  abbrev k : ℕ
  k = length numbers

  abbrev stops : List Stop
  stops = lone_stops starts lengths numbers counts

  abbrev cell : ℕ
  cell = row_at k reads a (b + 1)

  -- Writing the row leaves what it is made of.
  pub task_kept : (xs ys : List ℕ) → Kept (row_at (length numbers) reads a (b + 1)) n xs ys → RowTask starts lengths numbers counts turn reads xs a b n → RowTask starts lengths numbers counts turn reads ys a b n
  task_kept xs ys w t =
      record {
        judged = t.judged;
        window = t.window;
        inside = t.inside;
        big = omega (arith, w.same, t.big);
        columns =
            λ a' b' h h'.
            holds_kept stops turn k reads xs ys a (b + 1) n a' b' w (omega (arith, t.span)) t.inside (omega (arith, t.inside)) (λ e e'. omega arith)
            (t.columns a' b' h h');
        span = t.span;
      }

  -- Before the choice c: the choices up to here are in, w reads stand left of c.
  pub record RowLoop (xs ys : List ℕ) (c w : ℕ) : Type 0 where
    pub task : RowTask starts lengths numbers counts turn reads ys a b n
    pub kept : Kept (row_at (length numbers) reads a (b + 1)) n xs ys
    pub from : a ≤ c
    pub up_to : c ≤ b + 1
    pub left : w ≡ reads_in counts c
    pub so_far : SoFar (row_at (length numbers) reads a (b + 1)) n ys
    pub words : (s : ℕ) → s < n → lowest (choice_worth (lone_stops starts lengths numbers counts) turn a b s) a c (get_or ys (row_at (length numbers) reads a (b + 1) + s) 0) ≡ worth (lone_stops starts lengths numbers counts) turn a (suc b) s

  choice_edge : (c : ℕ) → c ≤ b + 1 → Supported (λ s. choice_worth stops turn a b s c) n
  choice_edge c h = candidate_supported (left_at stops) (right_at stops) (count_at stops) turn a b c n (omega arith)

  -- The row with one choice more.
  so_far_lowered : (ys zs : List ℕ) (c : ℕ) → c ≤ b + 1 → SoFar cell n ys → ((s : ℕ) → s < n → get_or zs (cell + s) 0 ≡ lower (get_or ys (cell + s) 0) (choice_worth stops turn a b s c)) → SoFar cell n zs
  so_far_lowered ys zs c h so e =
      record {
        edge =
            supported_same (λ s. lower (get_or ys (cell + s) 0) (choice_worth stops turn a b s c)) (λ s. get_or zs (cell + s) 0) n (λ s l. sym (e s l))
            (supported_lower (λ s. get_or ys (cell + s) 0) (λ s. choice_worth stops turn a b s c) n so.edge (choice_edge c h));
        small = λ s l. rw (e s l) (omega (arith, lower_below_first (get_or ys (cell + s) 0) (choice_worth stops turn a b s c), so.small s l));
      }

  module _ (xs ys : List ℕ) (c w : ℕ) (r : RowLoop xs ys c w) where
    counts_back : 0 < c → reads_in counts c ≡ reads_in counts (c - 1) + get_or counts (c - 1) 0
    counts_back h = let e : c - 1 + 1 ≡ c = omega arith in rw e at (reads_more counts (c - 1))

    pub count_left : a < c → get_or counts (c - 1) 0 ≤ w
    count_left h = omega (arith, r.left, counts_back (omega arith))

    pub row_turn : (zs : List ℕ) → a < c
        → Written (row_at (length numbers) reads a (b + 1)) n (λ s. lower (get_or ys (row_at (length numbers) reads a (b + 1) + s) 0) (choice_worth (lone_stops starts lengths numbers counts) turn a b s c)) ys zs
        → RowLoop xs zs (c - 1) (w - get_or counts (c - 1) 0)
    row_turn zs h z =
        record {
          task = task_kept ys zs z.kept r.task;
          kept = kept_on cell n xs ys zs r.kept z.kept;
          from = omega arith;
          up_to = omega (arith, r.up_to);
          left = omega (arith, r.left, counts_back (omega arith));
          so_far = so_far_lowered ys zs c r.up_to r.so_far z.words;
          words = λ s l. rw (z.words s l) (sym (lowest_one_more (choice_worth stops turn a b s) a c (get_or ys (cell + s) 0) h) ∙ r.words s l);
        }

    -- No choice is left.
    pub row_words : c ≤ a → (s : ℕ) → s < n → get_or ys (row_at (length numbers) reads a (b + 1) + s) 0 ≡ worth (lone_stops starts lengths numbers counts) turn a (suc b) s
    row_words h s l = sym (lowest_end (choice_worth stops turn a b s) a c (get_or ys (cell + s) 0) h) ∙ r.words s l

  module _ (room : List ℕ) (t : RowTask starts lengths numbers counts turn reads room a b n) (more : ℕ)
      (more-is : more ≡ 2 * (start_at starts numbers (b + 1) - start_at starts numbers a) * get_or counts (b + 1) 0)
      (row from : ℕ) (row_is : row ≡ row_at (length numbers) reads a (b + 1)) (from_is : from ≡ row_at (length numbers) reads a b) where
    pub skip_word : (s : ℕ) → s < n → more + get_or room (from + get_or counts (b + 1) 0 + s) 0 ≡ choice_worth stops turn a b s 0
    skip_word s l =
        rw
        (from_is, inner_word starts lengths numbers counts turn reads room a b n t a s (omega (arith, t.window)) l, more-is, ← early_is starts lengths numbers counts turn reads t.judged b t.inside a (omega (arith, t.window)))
        (sym (candidate_skip (left_at stops) (right_at stops) (count_at stops) turn (worth stops turn) a b s))

    skip_small : (s : ℕ) → s < n → choice_worth stops turn a b s 0 ≤ 2 * (highest_turn + 2 * last_place) * most_reads
    skip_small s l =
        omega (arith, choice_small starts lengths numbers counts turn reads t.judged b t.inside a s 0 (omega arith) (skipped starts lengths numbers counts turn reads room a b n t s l), cheap_turn starts lengths numbers counts turn reads t.judged)

    pub skip_fits : SkipFits row (from + get_or counts (b + 1) 0) more n room
    skip_fits =
        record {
          cell_in = omega (arith, row_is, room_for starts lengths numbers counts turn reads room a b n t a (b + 1) 0 (omega (arith, t.window, t.inside)) t.inside (omega (arith, count_span starts lengths numbers counts turn reads room a b n t)));
          from_in = rw from_is (room_for starts lengths numbers counts turn reads room a b n t a b (get_or counts (b + 1) 0) (omega (arith, t.window, t.inside)) (omega (arith, t.inside)) (count_span starts lengths numbers counts turn reads room a b n t));
          apart = rw (from_is, row_is) (earlier_apart starts lengths numbers counts turn reads room a b n t a b (get_or counts (b + 1) 0) (le_refl b) (count_span starts lengths numbers counts turn reads room a b n t));
          fits = λ s l. omega (arith, skip_word s l, skip_small s l);
        }

    so_far_skipped : (ys : List ℕ) → ((s : ℕ) → s < n → get_or ys (cell + s) 0 ≡ choice_worth stops turn a b s 0) → SoFar cell n ys
    so_far_skipped ys e =
        record {
          edge = supported_same (λ s. choice_worth stops turn a b s 0) (λ s. get_or ys (cell + s) 0) n (λ s l. sym (e s l)) (choice_edge 0 (omega arith));
          small = λ s l. rw (e s l) (skip_small s l);
        }

    pub row_starts : (left : ℕ) → left ≡ reads_in counts (b + 1) → (ys : List ℕ) → Written row n (λ s. more + get_or room (from + get_or counts (b + 1) 0 + s) 0) room ys → RowLoop ys ys (b + 1) left
    row_starts left e ys w =
        let z = rw row_is at w in
        record {
          task = task_kept room ys z.kept t;
          kept = kept_more cell 0 n ys ys (omega arith) (kept_none cell ys);
          from = omega (arith, t.window);
          up_to = le_refl (b + 1);
          left = e;
          so_far = so_far_skipped ys (λ s l. z.words s l ∙ skip_word s l);
          words =
              λ s l.
              rw (z.words s l, skip_word s l, add-one b)
              (sym (value_step (left_at stops) (right_at stops) (count_at stops) turn a b s t.window));
        }

  pub row_filled : (room xs ys : List ℕ) (row : ℕ) (f : ℕ → ℕ) (c w : ℕ) → row ≡ row_at (length numbers) reads a (b + 1) → Written row n f room xs → RowLoop xs ys c w → c ≤ a
      → Written (row_at (length numbers) reads a (b + 1)) n (λ s. worth (lone_stops starts lengths numbers counts) turn a (suc b) s) room ys
  row_filled room xs ys row f c w e z r h =
      let first = rw e at z.kept in
      record { kept = kept_on cell n room xs ys first r.kept; words = row_words xs ys c w r h }
