-- Paths and lines as loops go through them: a path byte by byte, the path of one line, the lines counted, and the verdict.
use Prim.Native.Nat.{ℕ, zero, suc, ◌+◌, ◌-◌, ◌≤◌, ◌<◌}
use mathlib.Core.Path.{◌≡◌, refl, ap, sym, ◌∙◌}
use mathlib.Core.Bool.{Bool, true, false, cond, not, ◌&&◌, ◌||◌, true≢false, false≢true}
use mathlib.Core.List.{List, [], ◌∷◌}
use native.Mathlib.Omega.{arith}
use native.Mathlib.Numerals.{add-one}
use lib.ListN.{length, get_or, take, drop, drop_of_length-le, length-drop}
use lib.Seq.{drop-cons, drop-drop, length-take-le, take-nil, drop-nil}
use lib.Dec.{eqb, ltb}
use borrow.Author.Tests.{eq-eqb, ne_eqb}
use Rattle.refusals.specs.declared.Refusal.TheVariants.{BadLine, TooManyReads}
use Rattle.refusals.specs.Refusals.{refuse_if, refuse_at, first_of}
use Rattle.text_bytes.specs.Text.{line_feed, has, starts_with}
use Rattle.std.specs.Prelude.{Option, Some, None}
use Rattle.text_lines.specs.Lines.{line_of, first_bad_of}
use Rattle.text_lines.specs.Found.{ValueAt, LinesPassed, LineBad}
use Rattle.text_lines.proofs.Passing.{line_passed}
use Rattle.text_paths.specs.declared.PathLine.{PathLine}
use Rattle.text_paths.specs.Paths.{slash, names_from, is_path, slashes_of, asked_path, is_asked, lines_from, line_count, most_lines, paths_verdict}
use Rattle.text_paths.specs.Rows.{PathAt, PathFound}
use Rattle.text_paths.specs.Private.{counted_at}

-- A path, byte by byte: what is left decides, with whether a name has begun.
pub record PathLeft (text : List ℕ) (begun : Bool) (i : ℕ) : Type 0 where
  pub within : i ≤ length text
  pub same : is_path text ≡ names_from begun (drop i text)

pub path_none : (text : List ℕ) → PathLeft text false 0
path_none text = record { within = omega arith; same = refl }

not_stray : (begun here : Bool) → (not begun && here) ≡ false → (begun || not here) ≡ true
not_stray true here e = refl
not_stray false true e = absurd (true≢false e)
not_stray false false e = refl

is_stray_lem : (begun here : Bool) → (not begun && here) ≡ true → (begun || not here) ≡ false
is_stray_lem true here e = absurd (false≢true e)
is_stray_lem false true e = refl
is_stray_lem false false e = absurd (false≢true e)

module _ (text : List ℕ) (begun : Bool) (i : ℕ) (p : PathLeft text begun i) where
  abbrev isHere : Bool
  isHere = eqb (get_or text i 0) slash

  path_here : i < length text → is_path text ≡ ((begun || not isHere) && names_from (not isHere) (drop (i + 1) text))
  unfolding names_from
  path_here l = p.same ∙ rw (drop-cons text i 0 l, add-one)

  pub path_stray : i < length text → (not begun && isHere) ≡ true → false ≡ is_path text
  path_stray l e = sym (path_here l ∙ rw (is_stray_lem begun isHere e))

  pub path_passed : i < length text → (not begun && isHere) ≡ false → PathLeft text (not isHere) (i + 1)
  path_passed l e = record { within = omega arith; same = path_here l ∙ rw (not_stray begun isHere e) }

  pub path_done : length text ≤ i → begun ≡ is_path text
  unfolding names_from
  path_done l = sym (p.same ∙ rw (drop_of_length-le text {i = i} l))

-- The `/` before a path.
module _ (text : List ℕ) (at end : ℕ) (ordered : at ≤ end) (within : end ≤ length text) where
  pub none_before : at ≡ end → at ≡ at + slashes_of (take (end - at) (drop at text))
  unfolding slashes_of
  none_before e = let z : end - at ≡ 0 = omega arith in rw z (omega arith)

  part_cons : (at ≡ end → ⊥) → take (end - at) (drop at text) ≡ get_or text at 0 ∷ take (end - suc at) (drop (suc at) text)
  part_cons n =
      let z : end - at ≡ suc (end - suc at) = omega arith in
      rw (z, drop-cons text at 0 (omega arith))

  pub one_before : (at ≡ end → ⊥) → get_or text at 0 ≡ slash → at + 1 ≡ at + slashes_of (take (end - at) (drop at text))
  unfolding slashes_of
  one_before n e = rw (part_cons n, eq-eqb (get_or text at 0) slash e)

  pub no_slash : (at ≡ end → ⊥) → (get_or text at 0 ≡ slash → ⊥) → at ≡ at + slashes_of (take (end - at) (drop at text))
  unfolding slashes_of
  no_slash n e = rw (part_cons n, ne_eqb (get_or text at 0) slash e) (omega arith)

-- The end of a part is a part of the end.
pub drop_take : (n m : ℕ) (xs : List ℕ) → drop n (take m xs) ≡ take (m - n) (drop n xs)
drop_take n m [] = rw (take-nil m, drop-nil n, take-nil (m - n))
drop_take zero m (x ∷ xs) = rw (native.Mathlib.Nat.sub-zero m)
drop_take (suc n) zero (x ∷ xs) = let e : 0 - suc n ≡ 0 = omega arith in rw e
drop_take (suc n) (suc m) (x ∷ xs) = let e : suc m - suc n ≡ m - n = omega arith in rw e (drop_take n m xs)

-- The path of the line at a position.
module _ (text : List ℕ) (at : ℕ) where
  pub line_absent : (has line_feed (drop at text) && starts_with [] (line_of (drop at text))) ≡ false → is_asked (line_of (drop at text)) ≡ false
  unfolding is_asked asked_path slashes_of names_from starts_with line_of
  line_absent none = go (has line_feed (drop at text)) refl none
    where
      go : (b : Bool) → has line_feed (drop at text) ≡ b → (b && true) ≡ false → is_asked (line_of (drop at text)) ≡ false
      go true h f = absurd (true≢false f)
      go false h f = rw h

  module _ (start end : ℕ) (v : ValueAt [] text at start end) where
    start_is : start ≡ at
    start_is = omega (arith, v.start)

    line_is_here : take (end - start) (drop start text) ≡ line_of (drop at text)
    line_is_here = v.value

    line_size : end ≡ at + length (line_of (drop at text))
    line_size =
        let s = start_is in
        let size : length (take (end - start) (drop start text)) ≡ end - start = length-take-le (end - start) (drop start text) (rw (length-drop start text) (omega (arith, v.within))) in
        let same = ap length line_is_here in
        omega (arith, v.ordered)

    module _ (from : ℕ) (from_is : from ≡ start + slashes_of (take (end - start) (drop start text))) (t : Bool) (told : t ≡ is_path (take (end - from) (drop from text))) where
      slashes : ℕ
      slashes = slashes_of (take (end - start) (drop start text))

      path_is : take (end - from) (drop from text) ≡ asked_path (line_of (drop at text))
      unfolding asked_path
      path_is =
          let shift : end - from ≡ end - start - slashes_of (line_of (drop at text)) = rw (← line_is_here) (omega (arith, from_is)) in
          let place : from ≡ start + slashes_of (line_of (drop at text)) = rw (← line_is_here) from_is in
          rw (shift, place, ← drop-drop (slashes_of (line_of (drop at text))) start text, ← drop_take (slashes_of (line_of (drop at text))) (end - start) (drop start text), line_is_here)

      asked_is : is_asked (line_of (drop at text)) ≡ t
      unfolding is_asked
      asked_is = sym (told ∙ ap is_path path_is)

      pub path_bad : t ≡ false → is_asked (line_of (drop at text)) ≡ false
      path_bad f = asked_is ∙ f

      pub path_good : t ≡ true → PathAt text at from end
      path_good f =
          record {
            passed = line_passed [] text at start end v is_asked (asked_is ∙ f);
            start = from_is ∙ rw (line_is_here, start_is);
            stop = line_size;
          }

-- The lines counted so far, and what is left.
pub record LinesLeft (text : List ℕ) (count : ℕ) (begun : Bool) (i : ℕ) : Type 0 where
  pub within : i ≤ length text
  pub few : count + cond begun 1 0 ≤ i
  pub same : line_count text ≡ count + lines_from begun (drop i text)

pub lines_uncounted : (text : List ℕ) → LinesLeft text 0 false 0
lines_uncounted text = record { within = omega arith; few = omega arith; same = omega arith }

module _ (text : List ℕ) (count : ℕ) (begun : Bool) (i : ℕ) (p : LinesLeft text count begun i) where
  pub lines_counted : i < length text → (next : ℕ) → next ≡ counted_at count (get_or text i 0) → LinesLeft text next (not (eqb (get_or text i 0) line_feed)) (i + 1)
  unfolding lines_from
  lines_counted l next e = go (eqb (get_or text i 0) line_feed) refl
    where
      here : lines_from begun (drop i text) ≡ lines_from begun (get_or text i 0 ∷ drop (i + 1) text)
      here = rw (drop-cons text i 0 l, add-one)

      go : (b : Bool) → eqb (get_or text i 0) line_feed ≡ b → LinesLeft text next (not (eqb (get_or text i 0) line_feed)) (i + 1)
      go true h =
          let n : next ≡ suc count = e ∙ rw h in
          let z : lines_from begun (get_or text i 0 ∷ drop (i + 1) text) ≡ suc (lines_from false (drop (i + 1) text)) = rw h in
          record { within = omega arith; few = rw h (omega (arith, p.few)); same = rw h (omega (arith, p.same, here)) }
      go false h =
          let n : next ≡ count = e ∙ rw h in
          let z : lines_from begun (get_or text i 0 ∷ drop (i + 1) text) ≡ lines_from true (drop (i + 1) text) = rw h in
          record { within = omega arith; few = rw h (omega (arith, p.few)); same = rw h (omega (arith, p.same, here)) }

  pub lines_open : begun ≡ true → count < i
  lines_open e = let f : count + 1 ≤ i = rw e at p.few in omega arith

  pub lines_ended : begun ≡ true → length text ≤ i → count + 1 ≡ line_count text
  unfolding lines_from
  lines_ended e l = sym (p.same ∙ rw (drop_of_length-le text {i = i} l, e))

  pub lines_whole : begun ≡ false → length text ≤ i → count ≡ line_count text
  unfolding lines_from
  lines_whole e l = sym (p.same ∙ rw (drop_of_length-le text {i = i} l, e) (omega arith))

-- 11 before 5.
module _ (text : List ℕ) (count : ℕ) (is : count ≡ line_count text) where
  pub list_bad : (line : ℕ) → LineBad is_asked text 0 count line → refuse_at line BadLine ≡ paths_verdict text
  unfolding paths_verdict
  list_bad line bad = go line (rw is at bad.first) bad.some
    where
      go : (n : ℕ) → first_bad_of is_asked (line_count text) text ≡ n → 0 < n → refuse_at n BadLine ≡ first_of (refuse_at (first_bad_of is_asked (line_count text) text) BadLine ∷ refuse_if (ltb most_lines (line_count text)) TooManyReads ∷ [])
      go zero h l = absurd (omega arith)
      go (suc n) h l = rw h

  pub list_ended : (next : ℕ) → LinesPassed is_asked text 0 count next → refuse_if (ltb most_lines count) TooManyReads ≡ paths_verdict text
  unfolding paths_verdict
  list_ended next passed = go (ltb most_lines count) refl (rw is at passed.none)
    where
      go : (b : Bool) → ltb most_lines count ≡ b → first_bad_of is_asked (line_count text) text ≡ 0
          → refuse_if (ltb most_lines count) TooManyReads ≡ first_of (refuse_at (first_bad_of is_asked (line_count text) text) BadLine ∷ refuse_if (ltb most_lines (line_count text)) TooManyReads ∷ [])
      go true h none = rw (none, ← is, h)
      go false h none = rw (none, ← is, h)

-- Of two answers that fit one line, neither differs from the other.
pub path_determined : (text : List ℕ) (at : ℕ) (r s : Option PathLine) → PathFound text at r → PathFound text at s → r ≡ s
path_determined text at (Some path) (Some other) p q =
    let from : path.from ≡ other.from = p.start ∙ sym q.start in
    let end : path.end ≡ other.end = p.stop ∙ sym q.stop in
    rw (from, end)
path_determined text at (Some path) None p q = absurd (true≢false (sym p.passed.good ∙ q))
path_determined text at None (Some path) p q = absurd (true≢false (sym q.passed.good ∙ p))
path_determined text at None None p q = refl
