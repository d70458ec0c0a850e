-- The loops over the rows of a column and over the columns: what is filled stays, and the empty windows are zero.
use Prim.Native.Nat.{ℕ, suc, ◌+◌, ◌-◌, ◌*◌, ◌≤◌, ◌<◌}
use mathlib.Core.Path.{◌≡◌, sym, ap, ◌∙◌}
use mathlib.Core.Logic.{inl, by_cases}
use mathlib.Core.List.{List}
use native.Mathlib.Omega.{arith}
use native.Mathlib.Decide.{dec_le, dec_lt}
use native.Mathlib.Numerals.{add-one}
use native.Mathlib.Nat.{mul-le-mul_right}
use lib.ListN.{length, get_or}
use Rattle.runs.specs.Run.{Stop}
use Rattle.runs.specs.Alone.{lone_stops}
use Rattle.least.proofs.Value.{value_none}
use Rattle.least.specs.Recurrence.{left_at, right_at, count_at}
use Rattle.engine_table.specs.Private.{Judged, Written, ColumnTask, DoneUpTo, CellsHold, Columns, Done, Beyond, row_at, table_size, reads_in, reads_first, worth}
use Rattle.engine_table.proofs.Sizes.{reads_none, reads_more}
use Rattle.engine_table.proofs.Facts.{reads_at, reads_up_to_lem}
use Rattle.engine_table.proofs.Cells.{row_inside, row_kept, holds_kept, beyond_kept, beyond_on, beyond_none}

module _ (starts lengths numbers counts : List ℕ) (turn reads : ℕ) (j : Judged starts lengths numbers counts turn reads) where
  abbrev k : ℕ
  k = length numbers

  abbrev stops : List Stop
  stops = lone_stops starts lengths numbers counts

  empty_worth : (a b s : ℕ) → b ≤ a → worth stops turn a b s ≡ 0
  empty_worth a b s h = value_none (left_at stops) (right_at stops) (count_at stops) turn a b s h

  -- The two rows of empty windows that column b + 1 needs are zeroed together.
  module _ (xs ys : List ℕ) (b at : ℕ) (inside : b + 1 < length numbers) (at-is : at ≡ row_at (length numbers) reads (b + 1) b) (w : Written at (2 * (reads + 1)) (λ s. 0) xs ys) where
    cleared : Written (row_at k reads (b + 1) b) (2 * (reads + 1)) (λ s. 0) xs ys
    cleared = rw at-is at w

    pub cleared_beyond : Beyond (table_size (length numbers) reads) xs ys
    cleared_beyond = beyond_kept (table_size k reads) (row_at k reads (b + 1) b) (2 * (reads + 1)) xs ys (omega (arith, row_inside k reads (b + 1) (b + 1) 0 (reads + 1) inside inside (omega arith))) cleared.kept

    earlier_rows : (a' b' : ℕ) → a' ≤ b → b' ≤ b → CellsHold stops turn k reads xs a' b' → CellsHold stops turn k reads ys a' b'
    earlier_rows a' b' h h' v s l =
        row_kept ((b + 1) * k + b) 2 (a' * k + b') (reads + 1) (2 * (reads + 1)) s xs ys cleared.kept (omega arith) (omega arith)
        (inl (omega (arith, mul-le-mul_right k h)))
        ∙ v s l

    below_diagonal : CellsHold stops turn k reads ys (b + 1) b
    below_diagonal s l = cleared.words s (omega arith) ∙ sym (empty_worth (b + 1) b s (omega arith))

    pub on_diagonal : CellsHold stops turn k reads ys (b + 1) (b + 1)
    on_diagonal s l =
        let e : row_at k reads (b + 1) (b + 1) + s ≡ row_at k reads (b + 1) b + (reads + 1 + s) = omega arith in
        rw e (cleared.words (reads + 1 + s) (omega arith) ∙ sym (empty_worth (b + 1) (b + 1) s (omega arith)))

    pub columns_cleared : Done stops turn k reads xs b → Columns stops turn k reads ys b
    columns_cleared d a' b' h h' =
        by_cases
        (dec_le a' b)
        (λ l. earlier_rows a' b' l h (d a' b' h l h'))
        (λ n. let e : a' ≡ b + 1 = omega arith in let e' : b' ≡ b = omega arith in rw (e, e') below_diagonal)

module _ (starts lengths numbers counts : List ℕ) (turn reads b n : ℕ) where
  -- Before row a of column b + 1: the rows above it are right.
  pub record ColumnLoop (xs ys : List ℕ) (a : ℕ) : Type 0 where
    pub judged : Judged starts lengths numbers counts turn reads
    pub inside : b + 1 < length numbers
    pub big : table_size (length numbers) reads ≤ length ys
    pub span : n + reads_in counts (b + 2) ≡ reads + 1
    pub columns : Columns (lone_stops starts lengths numbers counts) turn (length numbers) reads ys b
    pub edge : CellsHold (lone_stops starts lengths numbers counts) turn (length numbers) reads ys (b + 1) (b + 1)
    pub rows : (a' : ℕ) → a' < a → CellsHold (lone_stops starts lengths numbers counts) turn (length numbers) reads ys a' (b + 1)
    pub beyond : Beyond (table_size (length numbers) reads) xs ys
    pub within : a ≤ b + 1

  pub column_starts : (xs ys : List ℕ) (at : ℕ) → ColumnTask starts lengths numbers counts turn reads xs b n → at ≡ row_at (length numbers) reads (b + 1) b → Written at (2 * (reads + 1)) (λ s. 0) xs ys → ColumnLoop ys ys 0
  column_starts xs ys at t e w =
      record {
        judged = t.judged;
        inside = t.inside;
        big = omega (arith, t.big, w.kept.same);
        span = t.span;
        columns = columns_cleared starts lengths numbers counts turn reads t.judged xs ys b at t.inside e w t.done;
        edge = on_diagonal starts lengths numbers counts turn reads t.judged xs ys b at t.inside e w;
        rows = λ a' h. absurd (omega arith);
        beyond = beyond_none (table_size (length numbers) reads) ys;
        within = omega arith;
      }

  module _ (xs ys : List ℕ) (a : ℕ) (l : ColumnLoop xs ys a) where
    span_reads : (s : ℕ) → s + reads_first (lone_stops starts lengths numbers counts) (suc (b + 1)) ≤ reads → s < n
    span_reads s h =
        let e : suc (b + 1) ≡ b + 2 = omega arith in
        omega (arith, l.span, h, ap (reads_first (lone_stops starts lengths numbers counts)) e, reads_at starts lengths numbers counts turn reads l.judged (b + 2) (omega (arith, l.inside)))

    pub column_turn : (zs : List ℕ) → a ≤ b → Written (row_at (length numbers) reads a (b + 1)) n (worth (lone_stops starts lengths numbers counts) turn a (suc b)) ys zs → ColumnLoop xs zs (a + 1)
    column_turn zs h w =
        record {
          judged = l.judged;
          inside = l.inside;
          big = omega (arith, l.big, w.kept.same);
          span = l.span;
          columns = λ a' b' m m'. keeps a' b' (omega (arith, l.inside)) (λ e e'. omega arith) (l.columns a' b' m m');
          edge = keeps (b + 1) (b + 1) l.inside (λ e e'. omega arith) l.edge;
          rows =
              λ a' m.
              by_cases
              (dec_lt a' a)
              (λ o. keeps a' (b + 1) l.inside (λ e e'. omega arith) (l.rows a' o))
              (λ o. let e : a' ≡ a = omega arith in rw e here);
          beyond = beyond_on (table_size (length numbers) reads) xs ys zs l.beyond (beyond_kept (table_size (length numbers) reads) (row_at (length numbers) reads a (b + 1)) n ys zs fits w.kept);
          within = omega arith;
        }
      where
        small : n ≤ reads + 1
        small = omega (arith, l.span)

        fits : row_at (length numbers) reads a (b + 1) + n ≤ table_size (length numbers) reads
        fits = omega (arith, row_inside (length numbers) reads a (b + 1) 0 n (omega (arith, l.inside)) l.inside (omega (arith, small)))

        keeps : (a' b' : ℕ) → b' < length numbers → (a' ≡ a → b' ≡ b + 1 → ⊥) → CellsHold (lone_stops starts lengths numbers counts) turn (length numbers) reads ys a' b' → CellsHold (lone_stops starts lengths numbers counts) turn (length numbers) reads zs a' b'
        keeps a' b' m d v = holds_kept (lone_stops starts lengths numbers counts) turn (length numbers) reads ys zs a (b + 1) n a' b' w.kept small l.inside m d v

        here : CellsHold (lone_stops starts lengths numbers counts) turn (length numbers) reads zs a (b + 1)
        here s m = w.words s (span_reads s m) ∙ ap (λ x. worth (lone_stops starts lengths numbers counts) turn a x s) (sym (add-one b))

    column_ends : b < a → DoneUpTo starts lengths numbers counts turn reads xs ys (b + 1)
    column_ends h =
        record {
          done =
              λ a' b' m m' m''.
              by_cases
              (dec_le b' b)
              (λ o. l.columns a' b' o m'')
              (λ o. let e : b' ≡ b + 1 = omega arith in
              by_cases
              (dec_lt a' a)
              (λ p. rw e (l.rows a' p))
              (λ p. let q : a' ≡ b + 1 = omega (arith, l.within) in rw (e, q) l.edge));
          beyond = l.beyond;
        }

  pub column_done : (room xs ys : List ℕ) (at a : ℕ) → ColumnTask starts lengths numbers counts turn reads room b n → at ≡ row_at (length numbers) reads (b + 1) b → Written at (2 * (reads + 1)) (λ s. 0) room xs → ColumnLoop xs ys a → b < a
      → DoneUpTo starts lengths numbers counts turn reads room ys (b + 1)
  column_done room xs ys at a t e w l h =
      let d = column_ends xs ys a l h in
      record {
        done = d.done;
        beyond = beyond_on (table_size (length numbers) reads) room xs ys (cleared_beyond starts lengths numbers counts turn reads t.judged room xs b at t.inside e w) d.beyond;
      }

  -- Room for the two rows of empty windows.
  pub clear_fits : (room : List ℕ) (at : ℕ) → ColumnTask starts lengths numbers counts turn reads room b n → at ≡ row_at (length numbers) reads (b + 1) b → at + 2 * (reads + 1) ≤ length room
  clear_fits room at t e = omega (arith, t.big, row_inside (length numbers) reads (b + 1) (b + 1) 0 (reads + 1) t.inside t.inside (omega arith))

-- The columns one after the other: before column b + 1 those up to b are done, left reads standing left of stop b + 1.
module _ (starts lengths numbers counts : List ℕ) (turn reads : ℕ) where
  pub record TableLoop (xs ys : List ℕ) (b left : ℕ) : Type 0 where
    pub judged : Judged starts lengths numbers counts turn reads
    pub inside : b < length numbers
    pub big : table_size (length numbers) reads ≤ length ys
    pub filled : DoneUpTo starts lengths numbers counts turn reads xs ys b
    pub reads_left : left ≡ reads_in counts (b + 1)

  pub table_starts : (room xs : List ℕ) (left : ℕ) → Judged starts lengths numbers counts turn reads → 0 < length numbers → table_size (length numbers) reads ≤ length room → Written 0 (reads + 1) (λ s. 0) room xs → left ≡ get_or counts 0 0 → TableLoop xs xs 0 left
  table_starts room xs left j some big w e =
      record {
        judged = j;
        inside = some;
        big = omega (arith, w.kept.same);
        filled = record { done = λ a' b' h h' h''. let p : a' ≡ 0 = omega arith in let q : b' ≡ 0 = omega arith in rw (p, q) first; beyond = beyond_none (table_size (length numbers) reads) xs };
        reads_left = omega (arith, reads_more counts 0, reads_none counts);
      }
    where
      first : CellsHold (lone_stops starts lengths numbers counts) turn (length numbers) reads xs 0 0
      first s l =
          let at : row_at (length numbers) reads 0 0 + s ≡ 0 + s = omega arith in
          rw at (w.words s (omega arith) ∙ sym (value_none (left_at (lone_stops starts lengths numbers counts)) (right_at (lone_stops starts lengths numbers counts)) (count_at (lone_stops starts lengths numbers counts)) turn 0 0 s (omega arith)))

  module _ (xs ys : List ℕ) (b left : ℕ) (l : TableLoop xs ys b left) where
    more_left : b + 1 < length numbers → left + get_or counts (b + 1) 0 ≡ reads_in counts (b + 2)
    more_left h = let e : b + 1 + 1 ≡ b + 2 = omega arith in omega (arith, l.reads_left, reads_more counts (b + 1), ap (reads_in counts) e)

    pub left_within : b + 1 < length numbers → left + get_or counts (b + 1) 0 ≤ reads
    left_within h = omega (arith, more_left h, reads_up_to_lem starts lengths numbers counts turn reads l.judged (b + 2) (omega arith))

    pub column_task_lem : (n : ℕ) → b + 1 < length numbers → n ≡ reads - (left + get_or counts (b + 1) 0) + 1 → ColumnTask starts lengths numbers counts turn reads ys b n
    column_task_lem n h e =
        record {
          judged = l.judged;
          inside = h;
          big = l.big;
          done = l.filled.done;
          span = omega (arith, more_left h, left_within h);
        }

    pub table_turn : (zs : List ℕ) → b + 1 < length numbers → DoneUpTo starts lengths numbers counts turn reads ys zs (b + 1) → TableLoop xs zs (b + 1) (left + get_or counts (b + 1) 0)
    table_turn zs h d =
        let e : b + 1 + 1 ≡ b + 2 = omega arith in
        record {
          judged = l.judged;
          inside = h;
          big = omega (arith, l.big, d.beyond.same);
          filled = record { done = d.done; beyond = beyond_on (table_size (length numbers) reads) xs ys zs l.filled.beyond d.beyond };
          reads_left = rw e (more_left h);
        }

  pub table_beyond : (room xs ys : List ℕ) (b left : ℕ) → 0 < length numbers → Written 0 (reads + 1) (λ s. 0) room xs → TableLoop xs ys b left → Beyond (table_size (length numbers) reads) room ys
  table_beyond room xs ys b left some w l =
      beyond_on (table_size (length numbers) reads) room xs ys
      (beyond_kept (table_size (length numbers) reads) 0 (reads + 1) room xs (omega (arith, row_inside (length numbers) reads 0 0 0 (reads + 1) some some (omega arith))) w.kept)
      l.filled.beyond
