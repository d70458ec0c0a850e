-- The loop that reads the list off: a stop is skipped, a detour is put off until its inner window is done, or a window is done and its detour is written.
use Prim.Native.Nat.{ℕ, suc, ◌+◌, ◌-◌, ◌≤◌, ◌<◌}
use mathlib.Core.Path.{◌≡◌, refl, sym, ap, ◌∙◌}
use mathlib.Core.List.{List, [], ◌∷◌, ◌++◌, append_assoc, append-nil}
use native.Mathlib.Omega.{arith}
use native.Mathlib.Numerals.{add-one}
use lib.ListN.{length, get_or, set, take, drop, length-append, length-set}
use lib.Seq.{get_or-set_same, drop-set-lt, drop-drop, length-take-le}
use Rattle.runs.specs.Run.{Stop}
use Rattle.runs.specs.Alone.{lone_stops}
use Rattle.runs.specs.Lists.{Detour, list_of}
use Rattle.runs.proofs.Entries.{length_list}
use Rattle.least.proofs.Value.{choice_first}
use Rattle.least.specs.Recurrence.{file_at, left_at, right_at, count_at}
use Rattle.engine_table.specs.Private.{Judged, Filled, Asked, ListWritten, reads_in, chosen, list_at}
use Rattle.engine_table.proofs.Sizes.{reads_more, reads_rise}
use Rattle.engine_table.proofs.Facts.{count_at_lem, file_at_lem, reads_up_to_lem, few_stops, few_reads_lem}
use Rattle.engine_table.proofs.Stack.{list_set, list_none, list_skip, list_detour, list_few, owed, owed_kept, owed_none, owed_top, Stacked, stacked_kept, depth_below, TopFrame, top_frame}

-- Joining the parts of the list.
join_pushed : (w inner rest o : List Detour) (d : Detour) → w ++ ((inner ++ d ∷ rest) ++ o) ≡ w ++ (inner ++ (d ∷ (rest ++ o)))
join_pushed w inner rest o d = rw (append_assoc inner (d ∷ rest) o)

join_popped : (w rest : List Detour) (d : Detour) → w ++ ([] ++ (d ∷ rest)) ≡ (w ++ (d ∷ [])) ++ rest
join_popped w rest d = rw (append_assoc w (d ∷ []) rest)

join_length : (w l o whole : List Detour) → w ++ (l ++ o) ≡ whole → length w + length o ≤ length whole
join_length w l o whole e = omega (arith, ap length e, length-append w (l ++ o), length-append l o)

-- Entries past the one that is written.
later_set : (xs ys : List ℕ) (n x : ℕ) → drop n xs ≡ drop n ys → drop (n + 1) (set xs n x) ≡ drop (n + 1) ys
later_set xs ys n x e = drop-set-lt (n + 1) xs n x (omega arith) ∙ sym (drop-drop 1 n xs) ∙ ap (drop 1) e ∙ drop-drop 1 n ys

module _ (starts lengths numbers counts : List ℕ) (turn reads : ℕ) where
  abbrev stops : List Stop
  stops = lone_stops starts lengths numbers counts

  abbrev k : ℕ
  k = length numbers

  pub record ReadLoop (froms₀ tos₀ froms tos edges ends skips : List ℕ) (depth n a b s : ℕ) : Type 0 where
    pub left : a ≤ b + 1
    pub left_in : a < length numbers
    pub inside : b < length numbers
    pub span : s + reads_in counts (b + 1) ≤ reads
    pub stacked : Stacked counts (length numbers) reads edges ends skips depth a
    pub entries : list_of (take n froms) (take n tos) ++ (list_at (lone_stops starts lengths numbers counts) turn a b s ++ owed (lone_stops starts lengths numbers counts) turn edges ends skips depth a) ≡ list_at (lone_stops starts lengths numbers counts) turn 0 (length numbers - 1) 0
    pub same_froms : length froms ≡ length froms₀
    pub same_tos : length tos ≡ length tos₀
    pub many_froms : length numbers ≤ length froms + 1
    pub many_tos : length numbers ≤ length tos + 1
    pub fits_froms : n ≤ length froms
    pub fits_tos : n ≤ length tos
    pub later_froms : drop n froms ≡ drop n froms₀
    pub later_tos : drop n tos ≡ drop n tos₀
    pub rows : (length edges ≡ 64) × (length ends ≡ 64) × (length skips ≡ 64)

  pub read_starts : (froms tos edges ends skips : List ℕ) → Judged starts lengths numbers counts turn reads → 0 < length numbers → length numbers ≤ length froms + 1 → length numbers ≤ length tos + 1
      → length edges ≡ 64 → length ends ≡ 64 → length skips ≡ 64 → ReadLoop froms tos froms tos edges ends skips 0 0 0 (length numbers - 1) 0
  unfolding owed list_of
  read_starts froms tos edges ends skips j some h l e e' e'' =
      let whole : length numbers - 1 + 1 ≡ length numbers = omega arith in
      record {
        left = omega arith;
        left_in = some;
        inside = omega arith;
        span = rw whole (omega (arith, reads_up_to_lem starts lengths numbers counts turn reads j (length numbers) (omega arith)));
        stacked = tt;
        entries = append-nil (list_at stops turn 0 (length numbers - 1) 0);
        same_froms = refl;
        same_tos = refl;
        many_froms = h;
        many_tos = l;
        fits_froms = omega arith;
        fits_tos = omega arith;
        later_froms = refl;
        later_tos = refl;
        rows = (e, e', e'');
      }

  module _ (room : List ℕ) (f : Filled starts lengths numbers counts turn reads room) (froms₀ tos₀ froms tos edges ends skips : List ℕ) (depth n a b s : ℕ) (r : ReadLoop froms₀ tos₀ froms tos edges ends skips depth n a b s) where
    pub stack_room : a < b → depth < 64
    stack_room h = omega (arith, depth_below counts k reads edges ends skips depth a r.stacked, r.inside, few_stops starts lengths numbers counts turn reads f.judged)

    pub window_asked : a < b → Asked starts lengths numbers counts turn reads room a (b - 1) s
    window_asked h =
        let e : b - 1 + 2 ≡ b + 1 = omega arith in
        record {
          filled = f;
          window = omega arith;
          inside = omega (arith, r.inside);
          span = rw e r.span;
        }

    next_span : a < b → s + get_or counts b 0 + reads_in counts (b - 1 + 1) ≤ reads
    next_span h = let e : b - 1 + 1 ≡ b = omega arith in rw e (omega (arith, r.span, reads_more counts b))

    pub skips_small : a < b → s + get_or counts b 0 ≤ 1024
    skips_small h = omega (arith, next_span h, few_reads_lem starts lengths numbers counts turn reads f.judged)

    count_here : count_at stops b ≡ get_or counts b 0
    count_here = count_at_lem starts lengths numbers counts turn reads f.judged b r.inside

    skipped : a < b → chosen stops turn a (b - 1) s ≡ 0 → list_at stops turn a b s ≡ list_at stops turn a (b - 1) (s + get_or counts b 0)
    skipped h e =
        let q : suc (b - 1) ≡ b = omega arith in
        rw (q, count_here) at (list_skip stops turn a (b - 1) s (omega arith) e)

    pub read_skip : a < b → (c : ℕ) → c ≡ chosen (lone_stops starts lengths numbers counts) turn a (b - 1) s → c ≡ 0 → ReadLoop froms₀ tos₀ froms tos edges ends skips depth n a (b - 1) (s + get_or counts b 0)
    read_skip h c e z =
        record {
          left = omega arith;
          left_in = r.left_in;
          inside = omega (arith, r.inside);
          span = next_span h;
          stacked = r.stacked;
          entries = rw (skipped h (sym e ∙ z)) at r.entries;
          same_froms = r.same_froms;
          same_tos = r.same_tos;
          many_froms = r.many_froms;
          many_tos = r.many_tos;
          fits_froms = r.fits_froms;
          fits_tos = r.fits_tos;
          later_froms = r.later_froms;
          later_tos = r.later_tos;
          rows = r.rows;
        }

    -- The entries that a push leaves: the inner window's, then what it owes now.
    pushed : a < b → (c : ℕ) → c ≡ chosen stops turn a (b - 1) s → (c ≡ 0 → ⊥)
        → list_at stops turn a b s ≡ list_at stops turn c (b - 1) (s + get_or counts b 0) ++ record { from = file_at stops c; to = file_at stops b } ∷ list_at stops turn a (c - 1) s
    pushed h c e n =
        let q : suc (b - 1) ≡ b = omega arith in
        let p : suc (c - 1) ≡ c = omega arith in
        rw (q, p, count_here) at (list_detour stops turn a (b - 1) s (c - 1) (omega arith) (sym e ∙ sym p))

    chosen_in : a < b → (c : ℕ) → c ≡ chosen stops turn a (b - 1) s → (c ≡ 0 → ⊥) → (a < c) × (c ≤ b)
    chosen_in h c e n =
        let w = (choice_first (left_at stops) (right_at stops) (count_at stops) turn a (b - 1) s (omega arith)).within (omega arith) in
        (omega arith, omega arith)

    -- The new frame is the top one.
    owed_pushed : (c : ℕ) → depth < 64
        → owed stops turn (set edges depth a) (set ends depth b) (set skips depth s) (suc depth) c
        ≡ record { from = file_at stops c; to = file_at stops b } ∷ (list_at stops turn a (c - 1) s ++ owed stops turn edges ends skips depth a)
    unfolding owed
    owed_pushed c h =
        rw
        (get_or-set_same edges depth a 0 (omega (arith, r.rows.0)), get_or-set_same ends depth b 0 (omega (arith, r.rows.1)), get_or-set_same skips depth s 0 (omega (arith, r.rows.2)), owed_kept stops turn edges ends skips depth depth a b s a (omega arith))

    stacked_pushed : (c : ℕ) → depth < 64 → a < c → c ≤ b → Stacked counts k reads (set edges depth a) (set ends depth b) (set skips depth s) (suc depth) c
    stacked_pushed c h l m =
        rw
        (get_or-set_same edges depth a 0 (omega (arith, r.rows.0)), get_or-set_same ends depth b 0 (omega (arith, r.rows.1)), get_or-set_same skips depth s 0 (omega (arith, r.rows.2)))
        (l, r.inside, waiting, stacked_kept counts k reads edges ends skips depth depth a b s a (omega arith) r.stacked)
      where
        waiting : s + reads_in counts c ≤ reads
        waiting = omega (arith, r.span, reads_rise counts c (b + 1) (omega arith))

    pub read_push : a < b → (c : ℕ) → c ≡ chosen (lone_stops starts lengths numbers counts) turn a (b - 1) s → (c ≡ 0 → ⊥)
        → ReadLoop froms₀ tos₀ froms tos (set edges depth a) (set ends depth b) (set skips depth s) (depth + 1) n c (b - 1) (s + get_or counts b 0)
    read_push h c e z =
        let w = chosen_in h c e z in
        let l = stack_room h in
        record {
          left = omega arith;
          left_in = omega (arith, r.inside);
          inside = omega (arith, r.inside);
          span = next_span h;
          stacked = rw (add-one depth) (stacked_pushed c l w.0 w.1);
          entries =
              rw (add-one depth, owed_pushed c l)
              (sym (join_pushed (list_of (take n froms) (take n tos)) (list_at stops turn c (b - 1) (s + get_or counts b 0)) (list_at stops turn a (c - 1) s) (owed stops turn edges ends skips depth a) (record { from = file_at stops c; to = file_at stops b }))
              ∙ (rw (pushed h c e z) at r.entries));
          same_froms = r.same_froms;
          same_tos = r.same_tos;
          many_froms = r.many_froms;
          many_tos = r.many_tos;
          fits_froms = r.fits_froms;
          fits_tos = r.fits_tos;
          later_froms = r.later_froms;
          later_tos = r.later_tos;
          rows = (length-set edges depth a ∙ r.rows.0, length-set ends depth b ∙ r.rows.1, length-set skips depth s ∙ r.rows.2);
        }

    -- A window is done.
    done : b ≤ a → list_of (take n froms) (take n tos) ++ ([] ++ owed stops turn edges ends skips depth a) ≡ list_at stops turn 0 (k - 1) 0
    done h = rw (list_none stops turn a b s h) at r.entries

    written : length (list_of (take n froms) (take n tos)) ≡ n
    written =
        length_list (take n froms) (take n tos) (length-take-le n froms r.fits_froms ∙ sym (length-take-le n tos r.fits_tos))
        ∙ length-take-le n froms r.fits_froms

    module _ (h : b ≤ a) (some : depth ≡ 0 → ⊥) where
      pub frame : TopFrame counts (length numbers) reads edges ends skips (depth - 1) a
      frame = top_frame counts k reads edges ends skips depth a some r.stacked

      pub frame_depth : (0 < depth) × (depth ≤ 64)
      frame_depth =
          (omega arith, omega (arith, depth_below counts k reads edges ends skips depth a r.stacked, r.left_in, few_stops starts lengths numbers counts turn reads f.judged))

      popped : list_of (take n froms) (take n tos) ++ ([] ++ (record { from = file_at stops a; to = file_at stops (get_or ends (depth - 1) 0) } ∷ (list_at stops turn (get_or edges (depth - 1) 0) (a - 1) (get_or skips (depth - 1) 0) ++ owed stops turn edges ends skips (depth - 1) (get_or edges (depth - 1) 0))))
          ≡ list_at stops turn 0 (k - 1) 0
      popped = rw (owed_top stops turn edges ends skips depth a some) at (done h)

      entry_room : n + 1 < length numbers
      entry_room =
          omega (
            arith,
            written,
            list_few stops turn 0 (k - 1) 0,
            join_length (list_of (take n froms) (take n tos)) [] (record { from = file_at stops a; to = file_at stops (get_or ends (depth - 1) 0) } ∷ (list_at stops turn (get_or edges (depth - 1) 0) (a - 1) (get_or skips (depth - 1) 0) ++ owed stops turn edges ends skips (depth - 1) (get_or edges (depth - 1) 0))) (list_at stops turn 0 (k - 1) 0) popped,
          )

      pub from_room : n < length froms
      from_room = omega (arith, entry_room, r.many_froms)

      pub to_room : n < length tos
      to_room = omega (arith, entry_room, r.many_tos)

      pub read_pop : ReadLoop froms₀ tos₀ (set froms n (get_or numbers a 0)) (set tos n (get_or numbers (get_or ends (depth - 1) 0) 0)) edges ends skips (depth - 1) (n + 1) (get_or edges (depth - 1) 0) (a - 1) (get_or skips (depth - 1) 0)
      read_pop =
          let t = frame in
          let q : a - 1 + 1 ≡ a = omega arith in
          record {
            left = omega arith;
            left_in = omega (arith, r.left_in);
            inside = omega (arith, r.left_in);
            span = rw q t.span;
            stacked = t.under;
            entries =
                rw
                (list_set froms tos n (get_or numbers a 0) (get_or numbers (get_or ends (depth - 1) 0) 0) from_room to_room, ← file_at_lem starts lengths numbers counts turn reads f.judged a r.left_in, ← file_at_lem starts lengths numbers counts turn reads f.judged (get_or ends (depth - 1) 0) t.end)
                (sym (join_popped (list_of (take n froms) (take n tos)) (list_at stops turn (get_or edges (depth - 1) 0) (a - 1) (get_or skips (depth - 1) 0) ++ owed stops turn edges ends skips (depth - 1) (get_or edges (depth - 1) 0)) (record { from = file_at stops a; to = file_at stops (get_or ends (depth - 1) 0) }))
                ∙ popped);
            same_froms = length-set froms n (get_or numbers a 0) ∙ r.same_froms;
            same_tos = length-set tos n (get_or numbers (get_or ends (depth - 1) 0) 0) ∙ r.same_tos;
            many_froms = omega (arith, r.many_froms, length-set froms n (get_or numbers a 0));
            many_tos = omega (arith, r.many_tos, length-set tos n (get_or numbers (get_or ends (depth - 1) 0) 0));
            fits_froms = omega (arith, from_room, length-set froms n (get_or numbers a 0));
            fits_tos = omega (arith, to_room, length-set tos n (get_or numbers (get_or ends (depth - 1) 0) 0));
            later_froms = later_set froms froms₀ n (get_or numbers a 0) r.later_froms;
            later_tos = later_set tos tos₀ n (get_or numbers (get_or ends (depth - 1) 0) 0) r.later_tos;
            rows = r.rows;
          }

    -- No window waits.
    pub read_ends : b ≤ a → depth ≡ 0 → ListWritten (list_at (lone_stops starts lengths numbers counts) turn 0 (length numbers - 1) 0) n froms₀ tos₀ froms tos
    read_ends h e =
        record {
          fits_from = r.fits_froms;
          fits_to = r.fits_tos;
          entries = sym (append-nil (list_of (take n froms) (take n tos))) ∙ (rw (owed_none stops turn edges ends skips depth a e) at (done h));
          later_from = r.later_froms;
          later_to = r.later_tos;
        }
