-- Ends as loops look for them: what is passed is counted, and what is left of the text decides.
use Prim.Native.Nat.{ℕ, suc, ◌+◌, ◌-◌, ◌≤◌, ◌<◌}
use mathlib.Core.Path.{◌≡◌, refl, ap, sym, ◌∙◌}
use mathlib.Core.Bool.{Bool, true, false, cond, ◌&&◌}
use mathlib.Core.List.{List, [], ◌∷◌}
use native.Mathlib.Omega.{arith}
use native.Mathlib.Numerals.{add-one}
use lib.ListN.{length, get_or, take, drop, drop_of_length-le, length-drop}
use lib.Seq.{drop-cons, take_all}
use lib.Dec.{eqb}
use Rattle.std.specs.List.{prefix_len}
use Rattle.std.proofs.lemmas.List.Folds.{length-prefix_len}
use Rattle.std.proofs.lemmas.List.Sums.{prefix_len-le-length}
use Rattle.text_bytes.specs.Text.{starts_with}
use Rattle.text_bytes.proofs.Bytes.{begun_long}
use Rattle.tape_markup.specs.Markup.{End, after, never, further, end_behind, tag_end, quote_after, declaration_end, depth_after, front_of}
use Rattle.tape_markup.specs.Private.{EndAt}

pub further_twice : (m n : ℕ) (e : End) → further m (further n e) ≡ further (m + n) e
further_twice m n (after k) = ap after (omega arith)
further_twice m n never = refl

-- Where another byte stands at a position, none of what begins with this one does.
pub other_first : (text wanted : List ℕ) (i : ℕ) → i < length text → 0 < length wanted → eqb (get_or wanted 0 0) (get_or text i 0) ≡ false → false ≡ starts_with wanted (drop i text)
unfolding starts_with
other_first text [] i l z e = absurd (omega arith)
other_first text (k ∷ key) i l z e = rw (drop-cons text i 0 l, e) refl

-- An end looked for from one position on, by another: the end from there on, so many bytes further.
pub record Sought (text : List ℕ) (at i : ℕ) (whole left : End) : Type 0 where
  pub from : at ≤ i
  pub within : i ≤ length text
  pub same : whole ≡ further (i - at) left

module _ (text : List ℕ) (at i : ℕ) (whole left : End) (p : Sought text at i whole left) where
  pub sought_more : (later : End) → i < length text → left ≡ further 1 later → Sought text at (i + 1) whole later
  sought_more later l e =
      let f = p.from in
      let d : (i - at) + 1 ≡ (i + 1) - at = omega arith in
      record { from = omega arith; within = omega arith; same = p.same ∙ ap (further (i - at)) e ∙ further_twice (i - at) 1 later ∙ ap (λ (n : ℕ). further n later) d }

  pub sought_at : (k : ℕ) → 0 < k → i + k ≤ length text → left ≡ after k → EndAt whole text at (i + k)
  sought_at k s l e =
      let f = p.from in
      let d : (i - at) + k ≡ (i + k) - at = omega arith in
      record { size = p.same ∙ ap (further (i - at)) e ∙ ap after d; beyond = omega arith; within = l }

  pub sought_never : left ≡ never → whole ≡ never
  sought_never e = p.same ∙ ap (further (i - at)) e

-- A tag: at its end, at a byte that does not belong in it, at any other byte, at the end of the text.
module _ (text : List ℕ) (i quote : ℕ) where
  pub tag_ends : i < length text → (eqb quote 0 && eqb (get_or text i 0) 62) ≡ true → tag_end quote (drop i text) ≡ after 1
  unfolding tag_end
  tag_ends l e = rw (drop-cons text i 0 l, e)

  pub tag_breaks : i < length text → (eqb quote 0 && eqb (get_or text i 0) 62) ≡ false → (eqb quote 0 && eqb (get_or text i 0) 60) ≡ true → tag_end quote (drop i text) ≡ never
  unfolding tag_end
  tag_breaks l e b = rw (drop-cons text i 0 l, e, b)

  pub tag_goes_on : i < length text → (eqb quote 0 && eqb (get_or text i 0) 62) ≡ false → (eqb quote 0 && eqb (get_or text i 0) 60) ≡ false → tag_end quote (drop i text) ≡ further 1 (tag_end (quote_after quote (get_or text i 0)) (drop (i + 1) text))
  unfolding tag_end
  tag_goes_on l e b = rw (add-one i, drop-cons text i 0 l, e, b)

  pub tag_unended : length text ≤ i → tag_end quote (drop i text) ≡ never
  unfolding tag_end
  tag_unended l = rw (drop_of_length-le text l)

-- A declaration, likewise.
module _ (text : List ℕ) (i quote depth : ℕ) where
  pub declaration_ends : i < length text → (eqb quote 0 && eqb depth 0 && eqb (get_or text i 0) 62) ≡ true → declaration_end quote depth (drop i text) ≡ after 1
  unfolding declaration_end
  declaration_ends l e = rw (drop-cons text i 0 l, e)

  pub declaration_goes_on : i < length text → (eqb quote 0 && eqb depth 0 && eqb (get_or text i 0) 62) ≡ false → declaration_end quote depth (drop i text) ≡ further 1 (declaration_end (quote_after quote (get_or text i 0)) (depth_after quote depth (get_or text i 0)) (drop (i + 1) text))
  unfolding declaration_end
  declaration_goes_on l e = rw (add-one i, drop-cons text i 0 l, e)

  pub declaration_unended : length text ≤ i → declaration_end quote depth (drop i text) ≡ never
  unfolding declaration_end
  declaration_unended l = rw (drop_of_length-le text l)

-- Brackets open by at most one a byte.
pub depth_grows : (quote depth b : ℕ) → depth_after quote depth b ≤ suc depth
depth_grows quote depth b = by_test (eqb quote 0) (eqb b 91) (eqb b 93)
  where
    by_test : (q o s : Bool) → cond q (cond o (suc depth) (cond s (depth - 1) depth)) depth ≤ suc depth
    by_test true true s = omega arith
    by_test true false true = omega arith
    by_test true false false = omega arith
    by_test false o s = omega arith

-- The part of a text from a position to its end.
pub rest_all : (text : List ℕ) (at : ℕ) → take (length text - at) (drop at text) ≡ drop at text
rest_all text at = take_all (length text - at) (drop at text) (rw (length-drop at text) (omega arith))

-- Some bytes looked for, likewise.
module _ (wanted text : List ℕ) (i : ℕ) where
  pub wanted_here : i < length text → starts_with wanted (drop i text) ≡ true → end_behind wanted (drop i text) ≡ after (length wanted)
  unfolding end_behind
  wanted_here l e = rw (drop-cons text i 0 l) (rw (rw (drop-cons text i 0 l) at e) refl)

  pub wanted_later : i < length text → starts_with wanted (drop i text) ≡ false → end_behind wanted (drop i text) ≡ further 1 (end_behind wanted (drop (i + 1) text))
  unfolding end_behind
  wanted_later l e = rw (add-one i, drop-cons text i 0 l) (rw (rw (drop-cons text i 0 l) at e) refl)

  pub wanted_nowhere : length text ≤ i → end_behind wanted (drop i text) ≡ never
  unfolding end_behind
  wanted_nowhere l = rw (drop_of_length-le text l)

-- The bytes of a kind at the front of a text, as `take_while` finds them.
front_prefix : (kind : ℕ → Bool) (text : List ℕ) → prefix_len kind text ≡ front_of kind text
unfolding front_of
front_prefix kind [] = refl
front_prefix kind (b ∷ text) =
    let more : 1 + prefix_len kind text ≡ suc (front_of kind text) = omega (arith, front_prefix kind text) in
    ap (λ (n : ℕ). cond (kind b) n 0) more

pub front_counted : (kind : ℕ → Bool) (text : List ℕ) (at n : ℕ) → at ≤ length text → n ≡ length (take (prefix_len kind (drop at text)) (drop at text)) → (at + n ≡ at + front_of kind (drop at text)) × (at + n ≤ length text)
front_counted kind text at n l e =
    let f : n ≡ prefix_len kind (drop at text) = e ∙ length-prefix_len kind (drop at text) in
    (ap (λ (k : ℕ). at + k) (f ∙ front_prefix kind (drop at text)), omega (arith, prefix_len-le-length kind (drop at text), length-drop at text))

-- A turn of each loop.
module _ (text : List ℕ) (at i : ℕ) (whole : End) where
  pub tag_passed : (quote later : ℕ) → Sought text at i whole (tag_end quote (drop i text)) → i < length text → (eqb quote 0 && eqb (get_or text i 0) 62) ≡ false → (eqb quote 0 && eqb (get_or text i 0) 60) ≡ false → later ≡ quote_after quote (get_or text i 0) → Sought text at (i + 1) whole (tag_end later (drop (i + 1) text))
  tag_passed quote later p l e b q =
      sought_more text at i whole (tag_end quote (drop i text)) p (tag_end later (drop (i + 1) text)) l
      (tag_goes_on text i quote l e b ∙ ap (λ (n : ℕ). further 1 (tag_end n (drop (i + 1) text))) (sym q))

  pub declaration_passed : (quote depth later deeper : ℕ) → Sought text at i whole (declaration_end quote depth (drop i text)) → i < length text → (eqb quote 0 && eqb depth 0 && eqb (get_or text i 0) 62) ≡ false → later ≡ quote_after quote (get_or text i 0) → deeper ≡ depth_after quote depth (get_or text i 0) → Sought text at (i + 1) whole (declaration_end later deeper (drop (i + 1) text))
  declaration_passed quote depth later deeper p l e q d =
      sought_more text at i whole (declaration_end quote depth (drop i text)) p (declaration_end later deeper (drop (i + 1) text)) l
      (declaration_goes_on text i quote depth l e
      ∙ ap (λ (n : ℕ). further 1 (declaration_end n (depth_after quote depth (get_or text i 0)) (drop (i + 1) text))) (sym q)
      ∙ ap (λ (n : ℕ). further 1 (declaration_end later n (drop (i + 1) text))) (sym d))

  pub wanted_passed : (wanted : List ℕ) → Sought text at i whole (end_behind wanted (drop i text)) → i < length text → starts_with wanted (take (length text - i) (drop i text)) ≡ false → Sought text at (i + 1) whole (end_behind wanted (drop (i + 1) text))
  wanted_passed wanted p l e =
      sought_more text at i whole (end_behind wanted (drop i text)) p (end_behind wanted (drop (i + 1) text)) l
      (wanted_later wanted text i l (sym (ap (starts_with wanted) (rest_all text i)) ∙ e))

  pub wanted_found : (wanted : List ℕ) → Sought text at i whole (end_behind wanted (drop i text)) → i < length text → 0 < length wanted → starts_with wanted (take (length text - i) (drop i text)) ≡ true → EndAt whole text at (i + length wanted)
  wanted_found wanted p l s e =
      let b : starts_with wanted (drop i text) ≡ true = sym (ap (starts_with wanted) (rest_all text i)) ∙ e in
      let h = begun_long wanted (drop i text) b in
      let d = length-drop i text in
      sought_at text at i whole (end_behind wanted (drop i text)) p (length wanted) s (omega arith) (wanted_here wanted text i l b)
