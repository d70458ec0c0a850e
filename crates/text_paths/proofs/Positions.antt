-- Where the paths of a list stand, two rows filled with that, and that the positions hold the path.
use Prim.Native.Nat.{ℕ, zero, suc, ◌+◌, ◌-◌, ◌≤◌, ◌<◌}
use mathlib.Core.Path.{◌≡◌, refl, ap, sym, ◌∙◌}
use mathlib.Core.Bool.{Bool, true, false, cond}
use mathlib.Core.List.{List, [], ◌∷◌, ◌++◌}
use native.Mathlib.Omega.{arith}
use native.Mathlib.Numerals.{add-one}
use lib.ListN.{length, take, drop, set, length-drop}
use lib.Seq.{drop-cons, drop-drop, set_at, append_snoc}
use lib.Dec.{eqb}
use Rattle.text_bytes.specs.Text.{line_feed, has, before, behind}
use Rattle.text_lines.specs.Lines.{line_of, after_lines, line_after, each_of, first_bad_of, held_in}
use Rattle.text_lines.proofs.Passing.{LinesSeen, lines_none, line_seen, line_bad_here, lines_passed}
use Rattle.text_lines.proofs.Filling.{length_each, length_row}
use Rattle.text_paths.specs.Paths.{slash, slashes_of, asked_path, is_asked, path_after}
use Rattle.text_paths.proofs.Asked.{drop_take}
use Rattle.text_paths.specs.Rows.{PathAt, line_start, path_start, path_end, paths_filled, PathsRead}

-- Where a line starts, by what is left there.
line_start_lem : (text : List ℕ) (here i : ℕ) → here ≤ length text → drop here text ≡ after_lines i text → here ≡ line_start text i
unfolding line_start
line_start_lem text here i l e = rw (← e, length-drop here text) (omega arith)

-- One value more in its place.
each_set : (value : ℕ → ℕ) (n : ℕ) (row : List ℕ) → n < length row → set (each_of value n ++ drop n row) n (value n) ≡ each_of value (n + 1) ++ drop (n + 1) row
unfolding each_of
each_set value n row l =
    rw (drop-cons row n 0 l, set_at (each_of value n) _ (drop (suc n) row) (value n) n (length_each value n), add-one, append_snoc)

-- Before the line at an index: the rows hold the positions so far, and what is left of the list is at hand.
pub record PathsFilling (text : List ℕ) (most : ℕ) (starts₀ ends₀ : List ℕ) (here i : ℕ) (starts ends : List ℕ) : Type 0 where
  pub seen : LinesSeen is_asked text 0 most here i
  pub left : starts ≡ each_of (path_start text) i ++ drop i starts₀
  pub right : ends ≡ each_of (path_end text) i ++ drop i ends₀

module _ (text : List ℕ) (count most : ℕ) (starts₀ ends₀ : List ℕ) (held : most ≡ held_in count starts₀ ends₀) where
  room : most ≤ length starts₀
  room = omega (arith, held)

  space : most ≤ length ends₀
  space = omega (arith, held)

  pub paths_none : PathsFilling text most starts₀ ends₀ 0 0 starts₀ ends₀
  unfolding each_of
  paths_none = record { seen = lines_none is_asked text 0 most 0 (omega arith) refl; left = refl; right = refl }

  module _ (here i : ℕ) (starts ends : List ℕ) (p : PathsFilling text most starts₀ ends₀ here i starts ends) where
    pub starts_long : length starts ≡ length starts₀
    starts_long = rw p.left (length_row (path_start text) i starts₀ (omega (arith, room, p.seen.few)))

    pub ends_long : length ends ≡ length ends₀
    ends_long = rw p.right (length_row (path_end text) i ends₀ (omega (arith, space, p.seen.few)))

    pub path_filled : i < most → (from end : ℕ) → PathAt text here from end → PathsFilling text most starts₀ ends₀ (end + 1) (i + 1) (set starts i from) (set ends i end)
    unfolding path_start path_end
    path_filled l from end q =
        let line : line_of (drop here text) ≡ line_after i text = ap line_of p.seen.rest in
        let begins : here ≡ line_start text i = line_start_lem text here i p.seen.within p.seen.rest in
        let first : from ≡ path_start text i = q.start ∙ rw (line, ← begins) in
        let last : end ≡ path_end text i = q.stop ∙ rw (line, ← begins) in
        record {
          seen = line_seen is_asked text 0 most here i p.seen l (end + 1) q.passed;
          left = rw (p.left, first) (each_set (path_start text) i starts₀ (omega (arith, room)));
          right = rw (p.right, last) (each_set (path_end text) i ends₀ (omega (arith, space)));
        }

    all_filled : paths_filled text count starts₀ ends₀ ≡ i → PathsRead text count starts₀ ends₀ starts ends
    all_filled e = record { left = rw e p.left; right = rw e p.right }

    pub paths_stopped : i < most → is_asked (line_of (drop here text)) ≡ false → PathsRead text count starts₀ ends₀ starts ends
    unfolding paths_filled
    paths_stopped l bad =
        let first : first_bad_of is_asked most text ≡ suc i = (line_bad_here is_asked text 0 most here i p.seen l bad).first ∙ add-one i in
        all_filled (rw (← held, first))

    pub paths_ended : most ≤ i → PathsRead text count starts₀ ends₀ starts ends
    unfolding paths_filled
    paths_ended l =
        let q = lines_passed is_asked text 0 most here i p.seen l in
        let e : most ≡ i = omega (arith, p.seen.few) in
        all_filled (rw (← held, q.none) e)

-- What is left of a text behind some lines is an end of it.
record EndOf (text rest : List ℕ) : Type 0 where
  at : ℕ
  within : at ≤ length text
  is : rest ≡ drop at text

end_behind_lem : (c : ℕ) (text : List ℕ) → EndOf text (behind c text)
unfolding behind
end_behind_lem c [] = record { at = 0; within = omega arith; is = refl }
end_behind_lem c (b ∷ text) = go (eqb b c) refl (end_behind_lem c text)
  where
    go : (t : Bool) → eqb b c ≡ t → EndOf text (behind c text) → EndOf (b ∷ text) (cond t text (behind c text))
    go true h e = record { at = 1; within = omega arith; is = refl }
    go false h e = record { at = suc e.at; within = omega (arith, e.within); is = e.is }

end_after : (i : ℕ) (text : List ℕ) → EndOf text (after_lines i text)
unfolding after_lines
end_after zero text = record { at = 0; within = omega arith; is = refl }
end_after (suc i) text =
    let e = end_after i text in
    let b = end_behind_lem line_feed (after_lines i text) in
    let size = ap length e.is ∙ length-drop e.at text in
    record {
      at = e.at + b.at;
      within = omega (arith, e.within, b.within);
      is = b.is ∙ ap (drop b.at) e.is ∙ drop-drop b.at e.at text;
    }

line_rest : (text : List ℕ) (i : ℕ) → drop (line_start text i) text ≡ after_lines i text
unfolding line_start
line_rest text i =
    let e = end_after i text in
    let size = ap length e.is ∙ length-drop e.at text in
    let at : length text - length (after_lines i text) ≡ e.at = omega (arith, e.within) in
    rw at (sym e.is)

-- A line is a beginning of what is left.
before_front : (c : ℕ) (text : List ℕ) → take (length (before c text)) text ≡ before c text
unfolding before
before_front c [] = refl
before_front c (b ∷ text) = go (eqb b c) refl (before_front c text)
  where
    go : (t : Bool) → eqb b c ≡ t → take (length (before c text)) text ≡ before c text
        → take (length (cond t [] (b ∷ before c text))) (b ∷ text) ≡ cond t [] (b ∷ before c text)
    go true h e = refl
    go false h e = ap (λ t. b ∷ t) e

line_front : (text : List ℕ) → take (length (line_of text)) text ≡ line_of text
unfolding line_of
line_front text = go (has line_feed text)
  where
    go : (t : Bool) → take (length (cond t (before line_feed text) [])) text ≡ cond t (before line_feed text) []
    go true = before_front line_feed text
    go false = refl

slashes_few : (line : List ℕ) → slashes_of line ≤ length line
unfolding slashes_of
slashes_few [] = omega arith
slashes_few (b ∷ line) = go (eqb b slash)
  where
    go : (t : Bool) → cond t 1 0 ≤ suc (length line)
    go true = omega arith
    go false = omega arith

-- Between the two positions stands the path that the line asks for.
pub path_stands : (text : List ℕ) (i : ℕ) → take (path_end text i - path_start text i) (drop (path_start text i) text) ≡ path_after i text
unfolding path_start path_end asked_path
path_stands text i =
    let line = line_after i text in
    let size : line_start text i + length line - (line_start text i + slashes_of line) ≡ length line - slashes_of line = omega (arith, slashes_few line) in
    rw (size, ← drop-drop (slashes_of line) (line_start text i) text, line_rest text i, ← drop_take (slashes_of line) (length line) (after_lines i text), line_front (after_lines i text))
