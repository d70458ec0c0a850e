-- A step from a place in a text meets the first of the tokens from there on: every piece of markup ends in the text.
use Prim.Native.Nat.{ℕ, zero, suc, ◌+◌, ◌-◌, ◌*◌, ◌≤◌, ◌<◌}
use mathlib.Core.Path.{◌≡◌, refl, ap, ◌∙◌}
use mathlib.Core.Bool.{Bool, true, false, cond, ◌&&◌}
use mathlib.Core.List.{List, [], ◌∷◌, ◌++◌, map}
use native.Mathlib.Omega.{arith}
use native.Mathlib.Decide.{dec_lt, ℕ_discrete}
use native.Mathlib.Numerals.{add-one}
use lib.ListN.{length, get_or, take, drop, drop_of_length-le, length-drop, get_or-eq_default}
use lib.Seq.{drop-cons, drop-nil, drop-drop}
use lib.Dec.{eqb, ltb}
use borrow.Author.Tests.{eq-eqb, ne_eqb, lt-ltb, le-ltb}
use Rattle.text_bytes.specs.Text.{starts_with}
use Rattle.text_bytes.proofs.Bytes.{begun_long}
use Rattle.tape_markup.specs.declared.Place.{Place}
use Rattle.tape_markup.specs.declared.Step.{Step}
use Rattle.tape_markup.specs.Markup.{Token, Open, Close, Char, End, after, never, further, end_behind, tag_end, quote_after, declaration_end, depth_after, front_of, is_blank, name_size}
use Rattle.tape_markup.specs.Markup.{comment_start, comment_end, plain_start, plain_end, instruction_start, instruction_end, declaration_start, end_tag_start}
use Rattle.tape_markup.specs.Markup.{Piece, opens, alone, closes, plain, passed, broken, passed_to, plain_to, tag_to, start_tag, end_tag_to, end_tag, piece_of, piece_tokens, tokens_behind, tokens_of}
use Rattle.tape_markup.specs.Steps.{piece_step, step_at}
use Rattle.tape_markup.specs.Places.{part, NameIn, PlaceIn, place_at, tokens_at, Begins, Passes, StepMet}
use Rattle.tape_markup.specs.Promises.{StepsSayTokens}
use Rattle.tape_markup.proofs.Pieces.{step_end, step_byte, step_markup}

-- An end of a text of so many bytes: behind at least so many, and not past them all.
abbrev EndIn : ℕ → ℕ → End → Type 0
EndIn least size (after k) = (least ≤ k) × (k ≤ size)
EndIn least size never = 0 ≤ 0

record Ends (least size : ℕ) (e : End) : Type 0 where
  is : EndIn least size e

ends_further : {least size : ℕ} (e : End) → Ends least size e → Ends least (suc size) (further 1 e)
ends_further (after k) l = let h = l.is in record { is = (omega arith, omega arith) }
ends_further never l = record { is = l.is }

ends_either : {least size : ℕ} {a b : End} (t : Bool) → Ends least size a → Ends least size b → Ends least size (cond t a b)
ends_either true a b = a
ends_either false a b = b

wanted_in : (wanted text : List ℕ) → Ends (length wanted) (length text) (end_behind wanted text)
unfolding end_behind
wanted_in wanted [] = record { is = omega arith }
wanted_in wanted (b ∷ text) = by_test (starts_with wanted (b ∷ text)) refl (wanted_in wanted text)
  where
    by_test : (t : Bool) → starts_with wanted (b ∷ text) ≡ t → Ends (length wanted) (length text) (end_behind wanted text) → Ends (length wanted) (suc (length text)) (cond t (after (length wanted)) (further 1 (end_behind wanted text)))
    by_test true e h = record { is = (omega arith, omega (arith, begun_long wanted (b ∷ text) e)) }
    by_test false e h = ends_further (end_behind wanted text) h

tag_in : (quote : ℕ) (text : List ℕ) → Ends 1 (length text) (tag_end quote text)
unfolding tag_end
tag_in quote [] = record { is = omega arith }
tag_in quote (b ∷ text) =
    ends_either (eqb quote 0 && eqb b 62) (record { is = (omega arith, omega arith) })
    (ends_either (eqb quote 0 && eqb b 60) (record { is = omega arith }) (ends_further (tag_end (quote_after quote b) text) (tag_in (quote_after quote b) text)))

declaration_in : (quote depth : ℕ) (text : List ℕ) → Ends 1 (length text) (declaration_end quote depth text)
unfolding declaration_end
declaration_in quote depth [] = record { is = omega arith }
declaration_in quote depth (b ∷ text) =
    ends_either (eqb quote 0 && eqb depth 0 && eqb b 62) (record { is = (omega arith, omega arith) })
    (ends_further (declaration_end (quote_after quote b) (depth_after quote depth b) text) (declaration_in (quote_after quote b) (depth_after quote depth b) text))

-- A piece that ends in a text of so many bytes, with its name in it.
abbrev PieceIn : ℕ → Piece → Type 0
PieceIn size (opens name k) = (name ≤ k) × (k ≤ size)
PieceIn size (alone name k) = (name ≤ k) × (k ≤ size)
PieceIn size (closes name k) = (1 + name ≤ k) × (k ≤ size)
PieceIn size (plain k) = (11 ≤ k) × (k ≤ size)
PieceIn size (passed k) = k ≤ size
PieceIn size broken = 0 ≤ 0

record Fits (size : ℕ) (p : Piece) : Type 0 where
  is : PieceIn size p

fits_either : {size : ℕ} {p q : Piece} (t : Bool) → Fits size p → Fits size q → Fits size (cond t p q)
fits_either true a b = a
fits_either false a b = b

fits_broken : (size : ℕ) → Fits size broken
fits_broken size = record { is = omega arith }

passed_in : (text : List ℕ) (m : ℕ) {least : ℕ} (e : End) → 0 < least → Ends least (length (drop m text)) e → Fits (length text) (passed_to (further m e))
passed_in text m (after k) s l = let h = l.is in record { is = omega (arith, length-drop m text) }
passed_in text m never s l = fits_broken (length text)

plain_in : (text : List ℕ) (e : End) → Ends 3 (length (drop 8 text)) e → Fits (length text) (plain_to e)
plain_in text (after k) l = let h = l.is in record { is = (omega arith, omega (arith, length-drop 8 text)) }
plain_in text never l = fits_broken (length text)

tag_to_in : (text : List ℕ) (size : ℕ) (e : End) → Ends 1 (length (drop size text)) e → Fits (length text) (tag_to text size e)
tag_to_in text size (after k) l =
    let h = l.is in
    fits_either (ltb 1 k && eqb (get_or text (size + (k - 2)) 0) 47)
    (record { is = (omega arith, omega (arith, length-drop size text)) })
    (record { is = (omega arith, omega (arith, length-drop size text)) })
tag_to_in text size never l = fits_broken (length text)

start_in_lem : (text : List ℕ) (n : ℕ) → Fits (length text) (start_tag text n)
start_in_lem text zero = fits_broken (length text)
start_in_lem text (suc n) = tag_to_in text (suc n) (tag_end 0 (drop (suc n) text)) (tag_in 0 (drop (suc n) text))

-- The `>` of an end tag stands in the text.
end_tag_to_in : (text : List ℕ) (size k : ℕ) → size ≤ k → Fits (length text) (end_tag_to (drop 1 text) size k)
end_tag_to_in text size k s = elim (dec_lt k (length (drop 1 text))) [ yes l ↦ inside l | no l ↦ outside l ]
  where
    inside : k < length (drop 1 text) → Fits (length text) (end_tag_to (drop 1 text) size k)
    inside l = fits_either (eqb (get_or (drop 1 text) k 0) 62) (record { is = (omega arith, omega (arith, length-drop 1 text)) }) (fits_broken (length text))

    outside : (k < length (drop 1 text) → ⊥) → Fits (length text) (end_tag_to (drop 1 text) size k)
    outside l =
        let past : length (drop 1 text) ≤ k = omega arith in
        rw (get_or-eq_default (drop 1 text) 0 past) (fits_broken (length text))

end_tag_in : (text : List ℕ) (n : ℕ) → Fits (length text) (end_tag (drop 1 text) n)
end_tag_in text zero = fits_broken (length text)
end_tag_in text (suc n) = end_tag_to_in text (suc n) (suc n + front_of is_blank (drop (suc n) (drop 1 text))) (omega arith)

piece_in : (text : List ℕ) → Fits (length text) (piece_of text)
unfolding piece_of
piece_in text =
    fits_either (starts_with comment_start text) (passed_in text 3 (end_behind comment_end (drop 3 text)) (omega arith) (wanted_in comment_end (drop 3 text)))
    (fits_either (starts_with plain_start text) (plain_in text (end_behind plain_end (drop 8 text)) (wanted_in plain_end (drop 8 text)))
    (fits_either (starts_with instruction_start text) (passed_in text 1 (end_behind instruction_end (drop 1 text)) (omega arith) (wanted_in instruction_end (drop 1 text)))
    (fits_either (starts_with declaration_start text) (passed_in text 1 (declaration_end 0 0 (drop 1 text)) (omega arith) (declaration_in 0 0 (drop 1 text)))
    (fits_either (starts_with end_tag_start text) (end_tag_in text (name_size (drop 1 text)))
    (start_in_lem text (name_size text))))))

-- Bytes that belong to markup already read are passed over.
tokens_behind_lem : (text : List ℕ) (k : ℕ) → tokens_behind text k ≡ tokens_of (drop k text)
unfolding tokens_behind
tokens_behind_lem [] k = rw (drop-nil {A = ℕ} k)
tokens_behind_lem (b ∷ text) zero = refl
tokens_behind_lem (b ∷ text) (suc k) = tokens_behind_lem text k

-- A piece's tokens go by what follows it.
piece_same : (text : List ℕ) (p : Piece) (f g : ℕ → List Token) → ((k : ℕ) → f k ≡ g k) → piece_tokens text p f ≡ piece_tokens text p g
piece_same text (opens name k) f g e = ap (λ (l : List Token). Open (take name text) ∷ l) (e k)
piece_same text (alone name k) f g e = ap (λ (l : List Token). Open (take name text) ∷ Close (take name text) ∷ l) (e k)
piece_same text (closes name k) f g e = ap (λ (l : List Token). Close (take name (drop 1 text)) ∷ l) (e k)
piece_same text (plain k) f g e = ap (λ (l : List Token). map Char (take (k - 11) (drop 8 text)) ++ l) (e k)
piece_same text (passed k) f g e = e k
piece_same text broken f g e = refl

module _ (text : List ℕ) (at : ℕ) where
  tokens_end : length text ≤ at → tokens_of (drop at text) ≡ []
  unfolding tokens_behind
  tokens_end l = rw (drop_of_length-le text l)

  tokens_byte : at < length text → (get_or text at 0 ≡ 60 → ⊥) → tokens_of (drop at text) ≡ Char (get_or text at 0) ∷ tokens_of (drop (at + 1) text)
  unfolding tokens_behind
  tokens_byte l n = rw (add-one at, drop-cons text at 0 l, ne_eqb _ _ n)

  abbrev behind : ℕ → List Token
  behind k = tokens_of (drop (at + 1 + k) text)

  tokens_markup : at < length text → get_or text at 0 ≡ 60 → tokens_of (drop at text) ≡ piece_tokens (drop (at + 1) text) (piece_of (drop (at + 1) text)) behind
  unfolding tokens_behind
  tokens_markup l e = here ∙ piece_same (drop (at + 1) text) (piece_of (drop (at + 1) text)) (tokens_behind (drop (at + 1) text)) behind later
    where
      here : tokens_of (drop at text) ≡ piece_tokens (drop (at + 1) text) (piece_of (drop (at + 1) text)) (tokens_behind (drop (at + 1) text))
      here = rw (add-one at, drop-cons text at 0 l, eq-eqb _ _ e)

      later : (k : ℕ) → tokens_behind (drop (at + 1) text) k ≡ tokens_of (drop (at + 1 + k) text)
      later k = tokens_behind_lem (drop (at + 1) text) k ∙ ap tokens_of (drop-drop k (at + 1) text)

  name_is : (name : ℕ) → take name (drop (at + 1) text) ≡ part (at + 1) (at + 1 + name) text
  name_is name =
      let z : at + 1 + name - (at + 1) ≡ name = omega arith in
      rw z

  end_name_is : (name : ℕ) → take name (drop 1 (drop (at + 1) text)) ≡ part (at + 2) (at + 2 + name) text
  end_name_is name =
      let z : at + 2 + name - (at + 2) ≡ name = omega arith in
      let i : at + 1 + 1 ≡ at + 2 = omega arith in
      rw (z, drop-drop 1 (at + 1) text, i)

  plain_is : (k : ℕ) → take (k - 11) (drop 8 (drop (at + 1) text)) ≡ part (at + 9) (at + 1 + k - 3) text
  plain_is k =
      let z : at + 1 + k - 3 - (at + 9) ≡ k - 11 = omega arith in
      let i : at + 1 + 8 ≡ at + 9 = omega arith in
      rw (z, drop-drop 8 (at + 1) text, i)

  -- What a `<` there begins.
  piece_meets : (p : Piece) → at < length text → PieceIn (length (drop (at + 1) text)) p → StepMet (piece_tokens (drop (at + 1) text) p behind) text at (piece_step at p)
  unfolding tokens_at
  piece_meets (opens name k) l f =
      let d = length-drop (at + 1) text in
      (record { first = rw (name_is name); within = omega arith }, record { ordered = omega arith; within = omega arith })
  piece_meets (alone name k) l f =
      let d = length-drop (at + 1) text in
      let named : NameIn text (at + 1) (at + 1 + name) = record { ordered = omega arith; within = omega arith } in
      (record { first = rw (name_is name); within = (named, omega arith, omega arith) }, named)
  piece_meets (closes name k) l f =
      let d = length-drop (at + 1) text in
      (record { first = rw (end_name_is name); within = omega arith }, record { ordered = omega arith; within = omega arith })
  piece_meets (plain k) l f =
      let d = length-drop (at + 1) text in
      record { same = rw (plain_is k); within = (omega arith, omega arith); beyond = omega arith }
  piece_meets (passed k) l f =
      let d = length-drop (at + 1) text in
      record { same = refl; within = omega arith; beyond = omega arith }
  piece_meets broken l f = refl

  text_meets : at ≤ length text → StepMet (tokens_at text (Place.Text at)) text at (step_at text (Place.Text at))
  unfolding tokens_at
  text_meets w = elim (dec_lt at (length text)) [ yes l ↦ by_byte l | no l ↦ over l ]
    where
      over : (at < length text → ⊥) → StepMet (tokens_at text (Place.Text at)) text at (step_at text (Place.Text at))
      over l = rw (← step_end text at (omega arith)) (tokens_end (omega arith))

      by_byte : at < length text → StepMet (tokens_at text (Place.Text at)) text at (step_at text (Place.Text at))
      by_byte l = elim (ℕ_discrete (get_or text at 0) 60) [
        | yes e ↦ rw (← step_markup text at l e, tokens_markup l e) (piece_meets (piece_of (drop (at + 1) text)) l (piece_in (drop (at + 1) text)).is)
        | no n ↦ rw (← step_byte text at l n) (record { first = tokens_byte l n; within = omega arith })
      ]

-- The bytes of a CDATA section, one at a time; behind the last of them `]]>` is passed over.
plain_meets : (text : List ℕ) (at end : ℕ) → PlaceIn text (Place.Plain at end) → StepMet (tokens_at text (Place.Plain at end)) text at (step_at text (Place.Plain at end))
unfolding tokens_at step_at
plain_meets text at end w = elim (dec_lt (at + 3) end) [ yes l ↦ byte l | no l ↦ over l ]
  where
    byte : at + 3 < end → StepMet (tokens_at text (Place.Plain at end)) text at (step_at text (Place.Plain at end))
    byte l =
        let z : end - 3 - at ≡ suc (end - 3 - suc at) = omega arith in
        rw (lt-ltb (at + 3) end l, lt-ltb at (length text) (omega arith))
        (record { first = rw (add-one at, z, drop-cons text at 0 (omega arith)); within = (omega arith, omega arith) })

    over : (at + 3 < end → ⊥) → StepMet (tokens_at text (Place.Plain at end)) text at (step_at text (Place.Plain at end))
    over l =
        let z : end - 3 - at ≡ 0 = omega arith in
        rw (le-ltb (at + 3) end (omega arith)) (record { same = rw z; within = omega arith; beyond = omega arith })

pub steps_say_tokens : StepsSayTokens
unfolding tokens_at step_at
steps_say_tokens text (Place.Text at) w = text_meets text at w
steps_say_tokens text (Place.Plain at end) w = plain_meets text at end w
steps_say_tokens text (Place.Shut from to at) w = (record { first = refl; within = w.2 }, w.0)

-- The same of the step that a function answers.
pub step_told : (text : List ℕ) (place : Place) (step : Step) → PlaceIn text place → step ≡ step_at text place → StepMet (tokens_at text place) text (place_at place) step
step_told text place step w e = rw e (steps_say_tokens text place w)

-- A place in a text stands at most at its end.
pub place_within : (text : List ℕ) (place : Place) → PlaceIn text place → place_at place ≤ length text
place_within text (Place.Text at) p = p
place_within text (Place.Plain at end) p = omega arith
place_within text (Place.Shut from to at) p = p.2

-- One token fewer.
pub begins_fewer : (text : List ℕ) (here next : Place) (token : Token) → Begins (tokens_at text here) text token next → length (tokens_at text next) < length (tokens_at text here)
begins_fewer text here next token p = omega (arith, ap length p.first)

-- What is still to be read: the tokens left, and, among places with the same tokens, the bytes.
unfoldable pub unread : List ℕ → Place → ℕ
unread text place = length (tokens_at text place) * suc (length text) + (length text - place_at place)

less_unread : (fewer more size a b : ℕ) → fewer < more → fewer * suc size + (size - a) < more * suc size + (size - b)
less_unread fewer zero size a b l = absurd (omega arith)
less_unread fewer (suc more) size a b l = omega (arith, mono fewer more (omega arith))
  where
    mono : (m n : ℕ) → m ≤ n → m * suc size ≤ n * suc size
    mono zero n h = omega arith
    mono (suc m) zero h = absurd (omega arith)
    mono (suc m) (suc n) h = omega (arith, mono m n (omega arith))

pub unread_token : (text : List ℕ) (here next : Place) → length (tokens_at text next) < length (tokens_at text here) → unread text next < unread text here
unfolding unread
unread_token text here next l = less_unread (length (tokens_at text next)) (length (tokens_at text here)) (length text) (place_at next) (place_at here) l

pub unread_past : (text : List ℕ) (here next : Place) → Passes (tokens_at text here) text (place_at here) next → unread text next < unread text here
unfolding unread
unread_past text here next q =
    let w = place_within text next q.within in
    let b = q.beyond in
    rw q.same (omega arith)
