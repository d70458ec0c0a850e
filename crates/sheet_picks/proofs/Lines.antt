-- Lines of one path: where each path stands, the first of them, and how many there are.
use Prim.Native.Nat.{ℕ, zero, suc, ◌+◌, ◌-◌, ◌≤◌, ◌<◌}
use mathlib.Core.Path.{◌≡◌, refl, ◌∙◌}
use mathlib.Core.Bool.{Bool, true, false, cond}
use mathlib.Core.Logic.{⊎_elim}
use mathlib.Core.List.{List, [], ◌∷◌}
use native.Mathlib.Omega.{arith}
use native.Mathlib.Numerals.{add-one}
use lib.ListN.{length, get_or, take, drop}
use borrow.Author.Tests.{eq-eqb, ne_eqb}
use Rattle.refusals.specs.Refusals.{first_where}
use Rattle.runs.proofs.Search.{below_or_here, first_here, first_all}
use Rattle.text_bytes.specs.Text.{is_text, starts_with}
use Rattle.text_paths.specs.Paths.{line_count, path_after}
use Rattle.sheet_picks.specs.Names.{same_path, is_first_line, lines_where}
use Rattle.sheet_picks.specs.Private.{PathRows, first_reads}

-- Two parts of a list are the paths of two lines.
pub same_stands : (list froms tos : List ℕ) (rows : PathRows list froms tos) (i h : ℕ) (li : i < line_count list) (lh : h < line_count list) (r : Bool)
    → r ≡ is_text (take (get_or tos i 0 - get_or froms i 0) (drop (get_or froms i 0) list)) (take (get_or tos h 0 - get_or froms h 0) (drop (get_or froms h 0) list)) → r ≡ same_path list i h
same_stands list froms tos rows i h li lh r e = e ∙ rw ((rows.stands i li).path, (rows.stands h lh).path)

pub begins_itself : (text : List ℕ) → starts_with text text ≡ true
unfolding starts_with
begins_itself [] = refl
begins_itself (b ∷ text) = rw (eq-eqb b b refl, begins_itself text)

pub same_itself : (list : List ℕ) (i : ℕ) → same_path list i i ≡ true
same_itself list i = rw (eq-eqb (length (path_after i list)) (length (path_after i list)) refl, begins_itself (path_after i list))

-- The lines passed: how many are of the path, and none before the line itself.
pub record ReadsSeen (list : List ℕ) (i reads h : ℕ) : Type 0 where
  pub few : h ≤ line_count list
  pub small : reads ≤ h
  pub count : reads ≡ lines_where (same_path list i) h
  pub none : (g : ℕ) → g < h → g < i → same_path list i g ≡ false

pub seen_none : (list : List ℕ) (i : ℕ) → ReadsSeen list i 0 0
unfolding lines_where
seen_none list i = record { few = omega arith; small = omega arith; count = refl; none = λ g l m. absurd (omega arith) }

module _ (list : List ℕ) (i reads h : ℕ) (p : ReadsSeen list i reads h) where
  pub seen_more : h < line_count list → same_path list i h ≡ true → i ≤ h → ReadsSeen list i (reads + 1) (h + 1)
  unfolding lines_where
  seen_more l t late =
      record {
        few = omega arith;
        small = omega (arith, p.small);
        count = rw (add-one h, add-one reads, t, p.count);
        none = λ g m b. p.none g (omega arith) b;
      }

  pub seen_other : h < line_count list → same_path list i h ≡ false → ReadsSeen list i reads (h + 1)
  unfolding lines_where
  seen_other l t =
      record {
        few = omega arith;
        small = omega (arith, p.small);
        count = rw (add-one h, t, p.count);
        none = λ g m b. ⊎_elim (λ s. rw s t) (λ k. p.none g k b) (below_or_here h g (omega arith));
      }

  first_found : same_path list i h ≡ true → h < i → first_where (same_path list i) (suc i) ≡ h + 1
  first_found t l = first_here (same_path list i) h (suc i) (first_all (same_path list i) h (λ g m. p.none g m (omega arith))) t (omega arith)

  pub seen_earlier : same_path list i h ≡ true → h < i → 0 ≡ first_reads list i
  seen_earlier t l = rw (first_found t l, ne_eqb (h + 1) (suc i) (λ s. omega arith))

  is_first : i < h → is_first_line list i ≡ true
  is_first l =
      eq-eqb (first_where (same_path list i) (suc i)) (suc i)
      (first_here (same_path list i) i (suc i) (first_all (same_path list i) i (λ g m. p.none g (omega arith) m)) (same_itself list i) (omega arith) ∙ add-one i)

  pub seen_all : i < line_count list → line_count list ≤ h → reads ≡ first_reads list i
  seen_all l m =
      let e : h ≡ line_count list = omega (arith, p.few) in
      p.count ∙ rw (is_first (omega arith), e)

-- A line that is the first of its path counts itself.
where_some : (kind : ℕ → Bool) (n i : ℕ) → i < n → kind i ≡ true → 0 < lines_where kind n
unfolding lines_where
where_some kind zero i l e = absurd (omega arith)
where_some kind (suc n) i l e = ⊎_elim (λ s. rw (← s, e) (omega arith)) (λ k. more (kind n) (where_some kind n i k e)) (below_or_here n i l)
  where
    more : (t : Bool) → 0 < lines_where kind n → 0 < cond t (suc (lines_where kind n)) (lines_where kind n)
    more true m = omega arith
    more false m = m

module _ (list : List ℕ) (i : ℕ) (l : i < line_count list) where
  pub reads_some : is_first_line list i ≡ true → 0 < lines_where (same_path list i) (line_count list)
  reads_some e = where_some (same_path list i) (line_count list) i l (same_itself list i)

  pub reads_first : (r : ℕ) → r ≡ first_reads list i → (r ≡ 0 → ⊥) → (is_first_line list i ≡ true) × (r ≡ lines_where (same_path list i) (line_count list))
  reads_first r e n = go (is_first_line list i) refl
    where
      go : (t : Bool) → is_first_line list i ≡ t → (is_first_line list i ≡ true) × (r ≡ lines_where (same_path list i) (line_count list))
      go true h = (h, e ∙ rw h)
      go false h = absurd (n (e ∙ rw h))

  pub reads_later : (r : ℕ) → r ≡ first_reads list i → r ≡ 0 → is_first_line list i ≡ false
  reads_later r e n = go (is_first_line list i) refl
    where
      go : (t : Bool) → is_first_line list i ≡ t → is_first_line list i ≡ false
      go true h = let s : r ≡ lines_where (same_path list i) (line_count list) = e ∙ rw h in absurd (omega (arith, reads_some h))
      go false h = h
