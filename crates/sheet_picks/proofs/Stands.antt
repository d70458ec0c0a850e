-- The rows that say where each path of a list stands, as they are filled.
use Prim.Native.Nat.{ℕ, zero, suc, ◌≤◌, ◌<◌}
use mathlib.Core.Path.{◌≡◌, refl, ◌∙◌}
use mathlib.Core.Bool.{Bool, true, false, cond}
use mathlib.Core.Logic.{⊎_elim}
use mathlib.Core.List.{List, [], ◌∷◌, ◌++◌}
use native.Mathlib.Omega.{arith}
use lib.ListN.{length, get_or, drop, get_or-append}
use lib.Seq.{get_or_at}
use lib.Dec.{eqb, ltb}
use borrow.Author.Tests.{ltb-false}
use Rattle.refusals.specs.declared.Refusal.TheVariants.{BadLine, TooManyReads}
use Rattle.refusals.specs.Refusals.{refuse_if, refuse_at}
use Rattle.refusals.proofs.Verdicts.{refuses, all_accept, accepts_if, accepts_at}
use Rattle.runs.proofs.Search.{below_or_here}
use Rattle.text_bytes.specs.Text.{line_feed, has, before, behind}
use Rattle.text_lines.specs.Lines.{line_of, after_lines, line_after, each_of, first_bad_of, held_in}
use Rattle.text_lines.proofs.Filling.{length_each, length_row}
use Rattle.text_paths.specs.Paths.{slash, slashes_of, is_asked, line_count, most_lines, paths_verdict}
use Rattle.text_paths.specs.Rows.{line_start, path_start, path_end, paths_filled, PathsRead}
use Rattle.text_paths.proofs.Positions.{path_stands}
use Rattle.sheet_picks.specs.Private.{PathStands, PathRows}

-- A value of each, at its place.
pub each_at : (value : ℕ → ℕ) (n i : ℕ) → i < n → get_or (each_of value n) i 0 ≡ value i
unfolding each_of
each_at value zero i l = absurd (omega arith)
each_at value (suc n) i l = ⊎_elim here (λ k. there k (each_at value n i k)) (below_or_here n i l)
  where
    there : i < n → get_or (each_of value n) i 0 ≡ value i → get_or (each_of value n ++ (value n ∷ [])) i 0 ≡ value i
    there k e = get_or-append (each_of value n) (value n ∷ []) 0 i (omega (arith, length_each value n)) ∙ e

    here : i ≡ n → get_or (each_of value n ++ (value n ∷ [])) i 0 ≡ value i
    here e = rw e (get_or_at (each_of value n) (value n) [] 0 n (length_each value n))

-- A line is no longer than what is left, and what is left no longer than the text.
before_few : (c : ℕ) (text : List ℕ) → length (before c text) ≤ length text
unfolding before
before_few c [] = omega arith
before_few c (b ∷ text) = go (eqb b c) (before_few c text)
  where
    go : (t : Bool) → length (before c text) ≤ length text → length (cond t [] (b ∷ before c text)) ≤ suc (length text)
    go true l = omega arith
    go false l = omega arith

behind_few : (c : ℕ) (text : List ℕ) → length (behind c text) ≤ length text
unfolding behind
behind_few c [] = omega arith
behind_few c (b ∷ text) = go (eqb b c) (behind_few c text)
  where
    go : (t : Bool) → length (behind c text) ≤ length text → length (cond t text (behind c text)) ≤ suc (length text)
    go true l = omega arith
    go false l = omega arith

line_few : (text : List ℕ) → length (line_of text) ≤ length text
unfolding line_of
line_few text = go (has line_feed text)
  where
    go : (t : Bool) → length (cond t (before line_feed text) []) ≤ length text
    go true = before_few line_feed text
    go false = omega arith

after_few : (i : ℕ) (text : List ℕ) → length (after_lines i text) ≤ length text
unfolding after_lines
after_few zero text = omega arith
after_few (suc i) text = omega (arith, behind_few line_feed (after_lines i text), after_few i text)

slashes_few : (line : List ℕ) → slashes_of line ≤ length line
unfolding slashes_of
slashes_few [] = omega arith
slashes_few (b ∷ line) = go (eqb b slash)
  where
    go : (t : Bool) → cond t 1 0 ≤ suc (length line)
    go true = omega arith
    go false = omega arith

stands : (list : List ℕ) (i : ℕ) → PathStands list (path_start list i) (path_end list i) i
unfolding path_start path_end line_start
stands list i =
    record {
      ordered = omega (arith, slashes_few (line_after i list));
      within = omega (arith, line_few (after_lines i list), after_few i list);
      path = path_stands list i;
    }

-- A list that is accepted has a place in both rows for each of its lines.
module _ (list : List ℕ) (v : refuses (paths_verdict list) ≡ false) where
  lines_good_here : first_bad_of is_asked (line_count list) list ≡ 0
  unfolding paths_verdict
  lines_good_here = accepts_at (first_bad_of is_asked (line_count list) list) BadLine refl (all_accept (refuse_at (first_bad_of is_asked (line_count list) list) BadLine ∷ refuse_if (ltb most_lines (line_count list)) TooManyReads ∷ []) v).0

  pub lines_few : line_count list ≤ 1024
  unfolding paths_verdict
  lines_few =
      ltb-false most_lines (line_count list)
      (accepts_if (ltb most_lines (line_count list)) TooManyReads refl (all_accept (refuse_at (first_bad_of is_asked (line_count list) list) BadLine ∷ refuse_if (ltb most_lines (line_count list)) TooManyReads ∷ []) v).1.0)

  module _ (froms₀ tos₀ : List ℕ) (left : length froms₀ ≡ 1024) (right : length tos₀ ≡ 1024) (count : ℕ) (is : count ≡ line_count list) (froms tos : List ℕ) (p : PathsRead list count froms₀ tos₀ froms tos) where
    filled : paths_filled list count froms₀ tos₀ ≡ line_count list
    unfolding paths_filled
    filled =
        let f = lines_few in
        let held : held_in count froms₀ tos₀ ≡ line_count list = omega arith in
        rw (held, lines_good_here)

    entry : (value : ℕ → ℕ) (row₀ row : List ℕ) → row ≡ each_of value (line_count list) ++ drop (line_count list) row₀ → (i : ℕ) → i < line_count list → get_or row i 0 ≡ value i
    entry value row₀ row e i l =
        rw e (get_or-append (each_of value (line_count list)) (drop (line_count list) row₀) 0 i (omega (arith, length_each value (line_count list)))) ∙ each_at value (line_count list) i l

    pub paths_ready : PathRows list froms tos
    paths_ready =
        let f = lines_few in
        let a : froms ≡ each_of (path_start list) (line_count list) ++ drop (line_count list) froms₀ = rw filled at p.left in
        let b : tos ≡ each_of (path_end list) (line_count list) ++ drop (line_count list) tos₀ = rw filled at p.right in
        record {
          left = rw (a, length_row (path_start list) (line_count list) froms₀ (omega arith)) (omega arith);
          right = rw (b, length_row (path_end list) (line_count list) tos₀ (omega arith)) (omega arith);
          stands = λ i l. rw (entry (path_start list) froms₀ froms a i l, entry (path_end list) tos₀ tos b i l) (stands list i);
        }
