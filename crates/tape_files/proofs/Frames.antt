-- What is left of the elements around a place: the next element in the one around it, and past the end of that one.
use Prim.Native.Nat.{ℕ, zero, suc, ◌+◌, ◌-◌, ◌≤◌}
use mathlib.Core.Path.{◌≡◌, refl, ap, sym, ◌∙◌}
use mathlib.Core.List.{List, [], ◌∷◌, ◌++◌, map}
use native.Mathlib.Omega.{arith}
use native.Mathlib.Numerals.{add-one}
use lib.ListN.{length}
use Rattle.tape_markup.specs.declared.Place.{Place}
use Rattle.tape_markup.specs.Markup.{Token, Open, Close, Char, Broken}
use Rattle.tape_markup.specs.Tree.{Forest, innermost, enclosing, frame, frames}
use Rattle.tape_markup.specs.Steps.{behind_text}
use Rattle.tape_markup.proofs.Meets.{begins_fewer}
use Rattle.tape_markup.proofs.Texts.{text_told, told_fewer, frames_chars}
use Rattle.tape_markup.specs.Places.{part, NameIn, PlaceIn, place_at, tokens_at, Begins, Passes}
use Rattle.std.specs.Prelude.{Result, Ok, Err}
use Rattle.tape_files.specs.declared.Child.{Child}
use Rattle.tape_files.specs.Elements.{frames_at, inside, Left, bare, ElementMet, NoElement, ChildMet}

-- What is left, by the tokens from a place on.
pub frames_none : (text : List ℕ) (here : Place) → tokens_at text here ≡ [] → frames_at text here ≡ []
unfolding frames_at frames
frames_none text here e = ap frames e

pub frames_broken : (text : List ℕ) (here : Place) → tokens_at text here ≡ Broken ∷ [] → frames_at text here ≡ []
unfolding frames_at frames
frames_broken text here e = ap frames e

pub frames_first : (text : List ℕ) (here next : Place) (token : Token) → Begins (tokens_at text here) text token next → frames_at text here ≡ frame token (frames_at text next)
unfolding frames_at frames
frames_first text here next token p = ap frames p.first

pub frames_past : (text : List ℕ) (here next : Place) → Passes (tokens_at text here) text (place_at here) next → frames_at text here ≡ frames_at text next
unfolding frames_at
frames_past text here next p = ap frames p.same

-- Bytes before an element do not matter where it is looked for.
bare_chars : (bytes : List ℕ) (tokens : List Token) → bare (innermost (frames (map Char bytes ++ tokens))) ≡ bare (innermost (frames tokens))
unfolding bare frames
bare_chars [] tokens = refl
bare_chars (b ∷ bytes) tokens = bare_chars bytes tokens

-- Looking for the next element: the bytes passed are not of it.
pub record Seeking (text : List ℕ) (place here : Place) : Type 0 where
  pub within : PlaceIn text here
  pub held : bare (inside text place) ≡ bare (inside text here)
  pub outer : enclosing (frames_at text place) ≡ enclosing (frames_at text here)
  pub fewer : length (tokens_at text here) ≤ length (tokens_at text place)

pub seeking_none : (text : List ℕ) (place : Place) → PlaceIn text place → Seeking text place place
seeking_none text place p = record { within = p; held = refl; outer = refl; fewer = omega arith }

module _ (text : List ℕ) (place here : Place) (p : Seeking text place here) where
  nothing_left : frames_at text here ≡ [] → NoElement text place here
  unfolding bare
  nothing_left e =
      let f = p.fewer in
      record {
        none = p.held ∙ ap (λ (l : List Forest). bare (innermost l)) e;
        left = record { outer = e ∙ sym (ap enclosing e) ∙ sym p.outer; within = p.within; fewer = f };
      }

  pub seek_end : tokens_at text here ≡ [] → NoElement text place here
  seek_end e = nothing_left (frames_none text here e)

  pub seek_broken : tokens_at text here ≡ Broken ∷ [] → NoElement text place here
  seek_broken e = nothing_left (frames_broken text here e)

  pub seek_past : (next : Place) → Passes (tokens_at text here) text (place_at here) next → Seeking text place next
  seek_past next q =
      let e = frames_past text here next q in
      record {
        within = q.within;
        held = p.held ∙ ap (λ (l : List Forest). bare (innermost l)) e;
        outer = p.outer ∙ ap enclosing e;
        fewer = omega (arith, ap length q.same, p.fewer);
      }

  pub seek_text : (next : Place) → next ≡ behind_text text here → Seeking text place next
  unfolding frames_at
  seek_text next e =
      let t = text_told text here next p.within e in
      record {
        within = t.within;
        held = p.held ∙ ap (λ (l : List Token). bare (innermost (frames l))) t.same ∙ bare_chars t.bytes (tokens_at text next);
        outer = p.outer ∙ ap (λ (l : List Token). enclosing (frames l)) t.same ∙ frames_chars t.bytes (tokens_at text next);
        fewer = omega (arith, told_fewer text here next t, p.fewer);
      }

  pub seek_byte : (b : ℕ) (next : Place) → Begins (tokens_at text here) text (Char b) next → Seeking text place next
  unfolding bare
  seek_byte b next q =
      let e = frames_first text here next (Char b) q in
      record {
        within = q.within;
        held = p.held ∙ ap (λ (l : List Forest). bare (innermost l)) e;
        outer = p.outer ∙ ap enclosing e;
        fewer = omega (arith, begins_fewer text here next (Char b) q, p.fewer);
      }

  pub seek_start : (from to : ℕ) (next : Place) → Begins (tokens_at text here) text (Open (part from to text)) next → NameIn text from to → ElementMet text place from to next
  unfolding bare
  seek_start from to next q n =
      let e = frames_first text here next (Open (part from to text)) q in
      record {
        name = n;
        within = q.within;
        here = p.held ∙ ap (λ (l : List Forest). bare (innermost l)) e;
        outer = p.outer ∙ ap enclosing e;
        fewer = omega (arith, begins_fewer text here next (Open (part from to text)) q, p.fewer);
      }

  pub seek_finish : (name : List ℕ) (next : Place) → Begins (tokens_at text here) text (Close name) next → NoElement text place next
  unfolding bare
  seek_finish name next q =
      let e = frames_first text here next (Close name) q in
      record {
        none = p.held ∙ ap (λ (l : List Forest). bare (innermost l)) e;
        left = record {
          outer = sym (p.outer ∙ ap enclosing e);
          within = q.within;
          fewer = omega (arith, begins_fewer text here next (Close name) q, p.fewer);
        };
      }

-- So many elements outwards.
unfoldable pub outwards : ℕ → List Forest → List Forest
outwards zero left = left
outwards (suc n) left = outwards n (enclosing left)

-- Leaving an element, so many elements inside of it.
pub record Leaving (text : List ℕ) (place here : Place) (depth : ℕ) : Type 0 where
  pub within : PlaceIn text here
  pub outer : outwards depth (enclosing (frames_at text here)) ≡ enclosing (frames_at text place)
  pub deep : depth + length (tokens_at text here) ≤ length (tokens_at text place)

pub leaving_none : (text : List ℕ) (place : Place) → PlaceIn text place → Leaving text place place 0
unfolding outwards
leaving_none text place p = record { within = p; outer = refl; deep = omega arith }

outwards_none : (n : ℕ) → outwards n [] ≡ []
unfolding outwards
outwards_none zero = refl
outwards_none (suc n) = outwards_none n

module _ (text : List ℕ) (place here : Place) (depth : ℕ) (p : Leaving text place here depth) where
  -- Where the text ends too early, nothing is left of any element.
  pub leave_over : frames_at text here ≡ [] → Left text place here
  leave_over e =
      record {
        outer = e ∙ sym (outwards_none depth) ∙ ap (λ (l : List Forest). outwards depth (enclosing l)) (sym e) ∙ p.outer;
        within = p.within;
        fewer = omega (arith, p.deep);
      }

  -- What is no tag leaves the elements around it as they are.
  leave_same : (next : Place) → enclosing (frames_at text here) ≡ enclosing (frames_at text next) → PlaceIn text next → length (tokens_at text next) ≤ length (tokens_at text here) → Leaving text place next depth
  leave_same next e w l =
      record { within = w; outer = ap (outwards depth) (sym e) ∙ p.outer; deep = omega (arith, p.deep, l) }

  pub leave_text : (next : Place) → next ≡ behind_text text here → Leaving text place next depth
  unfolding frames_at
  leave_text next e =
      let t = text_told text here next p.within e in
      leave_same next
      (ap (λ (l : List Token). enclosing (frames l)) t.same ∙ frames_chars t.bytes (tokens_at text next))
      t.within
      (told_fewer text here next t)

  pub leave_byte : (b : ℕ) (next : Place) → Begins (tokens_at text here) text (Char b) next → Leaving text place next depth
  leave_byte b next q =
      let f = begins_fewer text here next (Char b) q in
      leave_same next (ap enclosing (frames_first text here next (Char b) q)) q.within (omega arith)

  pub leave_past : (next : Place) → Passes (tokens_at text here) text (place_at here) next → Leaving text place next depth
  leave_past next q =
      let s = ap length q.same in
      leave_same next (ap enclosing (frames_past text here next q)) q.within (omega arith)

  -- A start tag goes one element in, an end tag one out.
  pub leave_start : (name : List ℕ) (next : Place) → Begins (tokens_at text here) text (Open name) next → Leaving text place next (depth + 1)
  unfolding outwards
  leave_start name next q =
      record {
        within = q.within;
        outer = rw (add-one depth) (ap (outwards depth) (sym (ap enclosing (frames_first text here next (Open name) q))) ∙ p.outer);
        deep = omega (arith, begins_fewer text here next (Open name) q, p.deep);
      }

  module _ (name : List ℕ) (next : Place) (q : Begins (tokens_at text here) text (Close name) next) where
    out : frames_at text next ≡ enclosing (frames_at text here)
    out = sym (ap enclosing (frames_first text here next (Close name) q))

    pub leave_finish : (depth ≡ 0 → ⊥) → Leaving text place next (depth - 1)
    unfolding outwards
    leave_finish n =
        record {
          within = q.within;
          outer = by_depth depth n p.outer;
          deep = omega (arith, begins_fewer text here next (Close name) q, p.deep);
        }
      where
        step : (d : ℕ) → suc d - 1 ≡ d
        step d = omega arith

        by_depth : (d : ℕ) → (d ≡ 0 → ⊥) → outwards d (enclosing (frames_at text here)) ≡ enclosing (frames_at text place) → outwards (d - 1) (enclosing (frames_at text next)) ≡ enclosing (frames_at text place)
        by_depth zero m e = absurd (omega arith)
        by_depth (suc d) m e = rw (step d) (ap (λ (l : List Forest). outwards d (enclosing l)) out ∙ e)

    pub leave_last : depth ≡ 0 → Left text place next
    unfolding outwards
    leave_last z =
        record {
          outer = out ∙ ap (λ (d : ℕ). outwards d (enclosing (frames_at text here))) (sym z) ∙ p.outer;
          within = q.within;
          fewer = omega (arith, begins_fewer text here next (Close name) q, p.deep);
        }

-- What is met behind the bytes of text at a place is met from that place on.
module _ (text : List ℕ) (place here : Place) (w : PlaceIn text place) (e : here ≡ behind_text text place) where
  behind : Seeking text place here
  behind = seek_text text place place (seeking_none text place w) here e

  pub left_behind : (next : Place) → Left text here next → Left text place next
  left_behind next l =
      record { outer = l.outer ∙ sym behind.outer; within = l.within; fewer = omega (arith, l.fewer, behind.fewer) }

  pub child_behind : (child : Result Child Place) → ChildMet text here child → ChildMet text place child
  child_behind (Ok child) m =
      record {
        name = m.name;
        within = m.within;
        here = behind.held ∙ m.here;
        outer = behind.outer ∙ m.outer;
        fewer = omega (arith, m.fewer, behind.fewer);
      }
  child_behind (Err next) m = record { none = behind.held ∙ m.none; left = left_behind next m.left }
