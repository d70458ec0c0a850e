-- The step that each kind of markup behind a `<` makes.
use Prim.Native.Nat.{ℕ, zero, suc, ◌+◌, ◌-◌, ◌≤◌, ◌<◌}
use mathlib.Core.Path.{◌≡◌, refl, ap, sym, ◌∙◌}
use mathlib.Core.Bool.{true, false, cond, ◌&&◌}
use mathlib.Core.List.{List}
use native.Mathlib.Omega.{arith}
use native.Mathlib.Decide.{dec_le}
use native.Mathlib.Numerals.{add-one}
use lib.ListN.{length, get_or, take, drop, drop_of_length-le, length-drop, get_or-eq_default}
use lib.Seq.{drop-cons, drop-drop, get_or-drop}
use lib.Dec.{eqb, ltb}
use borrow.Author.Tests.{eq-eqb, ne_eqb, le-ltb}
use Rattle.text_bytes.specs.Text.{starts_with}
use Rattle.text_bytes.proofs.Bytes.{begun_long}
use Rattle.tape_markup.specs.declared.Place.{Place}
use Rattle.tape_markup.specs.declared.Step.{Step}
use Rattle.std.specs.Prelude.{Option, Some, None}
use Rattle.tape_markup.specs.declared.tokens.Opening.{Opening}
use Rattle.tape_markup.specs.Markup.{End, never, further, end_behind, tag_end, declaration_end, front_of, is_blank, name_size}
use Rattle.tape_markup.specs.Markup.{comment_start, comment_end, plain_start, plain_end, instruction_start, instruction_end, declaration_start, end_tag_start}
use Rattle.tape_markup.specs.Markup.{opens, alone, closes, broken, passed_to, plain_to, tag_to, start_tag, end_tag_to, end_tag, piece_of}
use Rattle.tape_markup.specs.Steps.{piece_step, step_at}
use Rattle.tape_markup.specs.Private.{EndAt, EndFound, OpeningMet, past_to}
use Rattle.tape_markup.proofs.Scanning.{rest_all}

-- A position of a text: behind its end, at a byte, at a `<`.
module _ (text : List ℕ) (at : ℕ) where
  pub step_end : length text ≤ at → Step.End ≡ step_at text (Place.Text at)
  unfolding step_at
  step_end l = rw (drop_of_length-le text l)

  pub step_byte : at < length text → (get_or text at 0 ≡ 60 → ⊥) → Step.Byte (get_or text at 0) (Place.Text (at + 1)) ≡ step_at text (Place.Text at)
  unfolding step_at
  step_byte l n = rw (drop-cons text at 0 l, ne_eqb _ _ n)

  pub step_markup : at < length text → get_or text at 0 ≡ 60 → piece_step at (piece_of (drop (at + 1) text)) ≡ step_at text (Place.Text at)
  unfolding step_at
  step_markup l e = rw (add-one at, drop-cons text at 0 l, eq-eqb _ _ e)

-- Something passed over, which begins so many bytes behind its `<`.
pub passed_step : (text : List ℕ) (at from m : ℕ) (e : End) (ending : Option ℕ) → from ≡ at + 1 + m → EndFound e text from ending → past_to ending ≡ piece_step at (passed_to (further m e))
passed_step text at from m e (Some next) s p =
    let b = p.beyond in
    let z : at + 1 + (m + (next - from)) ≡ next = omega arith in
    rw p.size (rw z)
passed_step text at from m e None s p = rw p

-- A start tag: its name ends at one position, and the tag at another.
module _ (text : List ℕ) (at to n : ℕ) (size : to ≡ at + 1 + n) where
  start_is : (at + 1 ≡ to → ⊥) → start_tag (drop (at + 1) text) n ≡ tag_to (drop (at + 1) text) n (tag_end 0 (drop to text))
  start_is s = by_size n (omega arith) ∙ ap (λ (t : List ℕ). tag_to (drop (at + 1) text) n (tag_end 0 t)) (drop-drop n (at + 1) text ∙ ap (λ (i : ℕ). drop i text) (sym size))
    where
      by_size : (m : ℕ) → 0 < m → start_tag (drop (at + 1) text) m ≡ tag_to (drop (at + 1) text) m (tag_end 0 (drop m (drop (at + 1) text)))
      by_size zero l = absurd (omega arith)
      by_size (suc m) l = refl

  pub start_never : (at + 1 ≡ to → ⊥) → tag_end 0 (drop to text) ≡ never → Step.Broken ≡ piece_step at (start_tag (drop (at + 1) text) n)
  start_never s e = rw (start_is s, e)

  module _ (end : ℕ) (s : at + 1 ≡ to → ⊥) (p : EndAt (tag_end 0 (drop to text)) text to end) where
    slash_is : (ltb 1 (end - to) && eqb (get_or (drop (at + 1) text) (n + (end - to - 2)) 0) 47) ≡ (ltb 1 (end - to) && eqb (get_or text (end - 2) 0) 47)
    slash_is = elim (dec_le 2 (end - to)) [ yes l ↦ long l | no l ↦ short l ]
      where
        long : 2 ≤ end - to → (ltb 1 (end - to) && eqb (get_or (drop (at + 1) text) (n + (end - to - 2)) 0) 47) ≡ (ltb 1 (end - to) && eqb (get_or text (end - 2) 0) 47)
        long l =
            let z : at + 1 + (n + (end - to - 2)) ≡ end - 2 = omega arith in
            rw (get_or-drop (at + 1) text (n + (end - to - 2)) 0, z)

        short : (2 ≤ end - to → ⊥) → (ltb 1 (end - to) && eqb (get_or (drop (at + 1) text) (n + (end - to - 2)) 0) 47) ≡ (ltb 1 (end - to) && eqb (get_or text (end - 2) 0) 47)
        short l = rw (le-ltb 1 (end - to) (omega arith))

    tag_is : start_tag (drop (at + 1) text) n ≡ cond (ltb 1 (end - to) && eqb (get_or text (end - 2) 0) 47) (alone n (n + (end - to))) (opens n (n + (end - to)))
    tag_is = start_is s ∙ ap (tag_to (drop (at + 1) text) n) p.size ∙ rw slash_is

    ends : at + 1 + (n + (end - to)) ≡ end
    ends =
        let b = p.beyond in
        omega arith

    pub alone_step : (ltb 1 (end - to) && eqb (get_or text (end - 2) 0) 47) ≡ true → Step.Start (at + 1) to (Place.Shut (at + 1) to end) ≡ piece_step at (start_tag (drop (at + 1) text) n)
    alone_step t = rw (tag_is, t) (rw (ends, ← size))

    pub opens_step : (ltb 1 (end - to) && eqb (get_or text (end - 2) 0) 47) ≡ false → Step.Start (at + 1) to (Place.Text end) ≡ piece_step at (start_tag (drop (at + 1) text) n)
    opens_step t = rw (tag_is, t) (rw (ends, ← size))

-- An end tag: its name ends at one position, the blanks behind it at another.
module _ (text : List ℕ) (at to n : ℕ) (size : to ≡ at + 2 + n) where
  module _ (end : ℕ) (s : at + 2 ≡ to → ⊥) (blanks : end ≡ to + front_of is_blank (drop to text)) where
    close_is : end_tag (drop (at + 2) text) n ≡ cond (eqb (get_or text end 0) 62) (closes n (2 + (n + front_of is_blank (drop to text)))) broken
    close_is =
        let z : at + 2 + (n + front_of is_blank (drop to text)) ≡ end = omega arith in
        by_size n (omega arith)
        ∙ ap (λ (t : List ℕ). end_tag_to (drop (at + 2) text) n (n + front_of is_blank t)) (drop-drop n (at + 2) text ∙ ap (λ (i : ℕ). drop i text) (sym size))
        ∙ rw (get_or-drop (at + 2) text (n + front_of is_blank (drop to text)) 0, z)
      where
        by_size : (m : ℕ) → 0 < m → end_tag (drop (at + 2) text) m ≡ end_tag_to (drop (at + 2) text) m (m + front_of is_blank (drop m (drop (at + 2) text)))
        by_size zero l = absurd (omega arith)
        by_size (suc m) l = refl

    pub close_over : length text ≤ end → Step.Broken ≡ piece_step at (end_tag (drop (at + 2) text) n)
    close_over l = rw (close_is, get_or-eq_default text 0 l)

    pub close_other : (get_or text end 0 ≡ 62 → ⊥) → Step.Broken ≡ piece_step at (end_tag (drop (at + 2) text) n)
    close_other o = rw (close_is, ne_eqb _ _ o)

    pub close_step : get_or text end 0 ≡ 62 → Step.Finish (at + 2) to (Place.Text (end + 1)) ≡ piece_step at (end_tag (drop (at + 2) text) n)
    close_step e =
        let z : at + 1 + (2 + (n + front_of is_blank (drop to text))) ≡ end + 1 = omega arith in
        rw (close_is, eq-eqb _ _ e) (rw (z, ← size))

-- What a `<` begins, by how the text behind it was told.
module _ (text : List ℕ) (at : ℕ) (opening : Opening) (told : OpeningMet (take (length text - (at + 1)) (drop (at + 1) text)) opening) where
  told_at : OpeningMet (drop (at + 1) text) opening
  told_at = rw (rest_all text (at + 1)) at told

  further_on_here : (m j : ℕ) → at + 1 + m ≡ j → drop m (drop (at + 1) text) ≡ drop j text
  further_on_here m j e = drop-drop m (at + 1) text ∙ ap (λ (i : ℕ). drop i text) e

  fits : (key : List ℕ) → starts_with key (drop (at + 1) text) ≡ true → 0 < length key → at + 1 + length key ≤ length text
  fits key e s = omega (arith, begun_long key (drop (at + 1) text) e, length-drop (at + 1) text)

  pub comment_fits : opening ≡ Opening.Comment → at + 4 ≤ length text
  comment_fits e = omega (arith, fits comment_start (rw e at told_at) (omega arith))

  pub plain_fits : opening ≡ Opening.Plain → at + 9 ≤ length text
  plain_fits e =
      let o : OpeningMet (drop (at + 1) text) Opening.Plain = rw e at told_at in
      omega (arith, fits plain_start o.1 (omega arith))

  pub instruction_fits : opening ≡ Opening.Instruction → at + 2 ≤ length text
  instruction_fits e =
      let o : OpeningMet (drop (at + 1) text) Opening.Instruction = rw e at told_at in
      omega (arith, fits instruction_start o.2 (omega arith))

  pub declaration_fits : opening ≡ Opening.Declaration → at + 2 ≤ length text
  declaration_fits e =
      let o : OpeningMet (drop (at + 1) text) Opening.Declaration = rw e at told_at in
      omega (arith, fits declaration_start o.3 (omega arith))

  pub end_tag_fits : opening ≡ Opening.EndTag → at + 2 ≤ length text
  end_tag_fits e =
      let o : OpeningMet (drop (at + 1) text) Opening.EndTag = rw e at told_at in
      omega (arith, fits end_tag_start o.4 (omega arith))

  pub comment_step : opening ≡ Opening.Comment → (ending : Option ℕ) (r : Step) → EndFound (end_behind comment_end (drop (at + 4) text)) text (at + 4) ending → r ≡ past_to ending → r ≡ piece_step at (piece_of (drop (at + 1) text))
  unfolding piece_of
  comment_step e ending r f p =
      let o : starts_with comment_start (drop (at + 1) text) ≡ true = rw e at told_at in
      rw (o, further_on_here 3 (at + 4) (omega arith))
      (p ∙ passed_step text at (at + 4) 3 (end_behind comment_end (drop (at + 4) text)) ending (omega arith) f)

  pub plain_told : opening ≡ Opening.Plain → (r : Step) → r ≡ piece_step at (plain_to (end_behind plain_end (drop (at + 9) text))) → r ≡ piece_step at (piece_of (drop (at + 1) text))
  unfolding piece_of
  plain_told e r p =
      let o : OpeningMet (drop (at + 1) text) Opening.Plain = rw e at told_at in
      rw (o.0, o.1, further_on_here 8 (at + 9) (omega arith)) p

  pub instruction_step : opening ≡ Opening.Instruction → (ending : Option ℕ) (r : Step) → EndFound (end_behind instruction_end (drop (at + 2) text)) text (at + 2) ending → r ≡ past_to ending → r ≡ piece_step at (piece_of (drop (at + 1) text))
  unfolding piece_of
  instruction_step e ending r f p =
      let o : OpeningMet (drop (at + 1) text) Opening.Instruction = rw e at told_at in
      rw (o.0, o.1, o.2, further_on_here 1 (at + 2) (omega arith))
      (p ∙ passed_step text at (at + 2) 1 (end_behind instruction_end (drop (at + 2) text)) ending (omega arith) f)

  pub declaration_step : opening ≡ Opening.Declaration → (ending : Option ℕ) (r : Step) → EndFound (declaration_end 0 0 (drop (at + 2) text)) text (at + 2) ending → r ≡ past_to ending → r ≡ piece_step at (piece_of (drop (at + 1) text))
  unfolding piece_of
  declaration_step e ending r f p =
      let o : OpeningMet (drop (at + 1) text) Opening.Declaration = rw e at told_at in
      rw (o.0, o.1, o.2, o.3, further_on_here 1 (at + 2) (omega arith))
      (p ∙ passed_step text at (at + 2) 1 (declaration_end 0 0 (drop (at + 2) text)) ending (omega arith) f)

  pub end_tag_told : opening ≡ Opening.EndTag → (r : Step) → r ≡ piece_step at (end_tag (drop (at + 2) text) (name_size (drop (at + 2) text))) → r ≡ piece_step at (piece_of (drop (at + 1) text))
  unfolding piece_of
  end_tag_told e r p =
      let o : OpeningMet (drop (at + 1) text) Opening.EndTag = rw e at told_at in
      rw (o.0, o.1, o.2, o.3, o.4, further_on_here 1 (at + 2) (omega arith)) p

  pub start_tag_told : opening ≡ Opening.StartTag → (r : Step) → r ≡ piece_step at (start_tag (drop (at + 1) text) (name_size (drop (at + 1) text))) → r ≡ piece_step at (piece_of (drop (at + 1) text))
  unfolding piece_of
  start_tag_told e r p =
      let o : OpeningMet (drop (at + 1) text) Opening.StartTag = rw e at told_at in
      rw (o.0, o.1, o.2, o.3, o.4) p
