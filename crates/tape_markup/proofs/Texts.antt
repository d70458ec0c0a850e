-- The bytes of text at a place, passed over at once: behind them stand the same tokens.
use Prim.Native.Nat.{ℕ, zero, suc, ◌+◌, ◌*◌, ◌≤◌, ◌<◌}
use mathlib.Core.Path.{◌≡◌, refl, ap, ◌∙◌}
use mathlib.Core.Bool.{Bool, true, false, cond}
use mathlib.Core.List.{List, [], ◌∷◌, ◌++◌, map}
use native.Mathlib.Omega.{arith}
use lib.ListN.{length, take, drop, drop_of_length-le, length-drop}
use lib.Seq.{drop-drop}
use lib.Dec.{eqb}
use Rattle.tape_markup.specs.declared.Place.{Place}
use Rattle.tape_markup.specs.Markup.{Token, Char, front_of, is_char, tokens_behind, tokens_of}
use Rattle.tape_markup.specs.Tree.{enclosing, frames, closes_all}
use Rattle.tape_markup.specs.Steps.{behind_text}
use Rattle.tape_markup.specs.Places.{PlaceIn, place_at, tokens_at, Told}
use Rattle.tape_markup.specs.Promises.{TextIsPassed}
use Rattle.tape_markup.proofs.Meets.{unread}
use Rattle.tape_markup.proofs.Names.{Balancing, names, closes_byte}

-- A place at or past the end stays; any other goes to the first `<`.
pub text_over : (text : List ℕ) (at : ℕ) → length text ≤ at → Place.Text at ≡ behind_text text (Place.Text at)
unfolding behind_text front_of
text_over text at l = rw (drop_of_length-le text l) (ap Place.Text (omega arith))

pub text_behind : (text : List ℕ) (at next : ℕ) → next ≡ at + front_of is_char (drop at text) → Place.Text next ≡ behind_text text (Place.Text at)
unfolding behind_text
text_behind text at next e = ap Place.Text e

-- The tokens of a text begin with the bytes before its first `<`.
chars_none : (text : List ℕ) (n : ℕ) → n ≡ 0 → tokens_of text ≡ map Char (take n text) ++ tokens_of (drop n text)
chars_none text n e = rw e

chars_one : (b : ℕ) (text : List ℕ) (n : ℕ) → eqb b 60 ≡ false → tokens_of text ≡ map Char (take n text) ++ tokens_of (drop n text) → tokens_of (b ∷ text) ≡ map Char (take (suc n) (b ∷ text)) ++ tokens_of (drop (suc n) (b ∷ text))
unfolding tokens_behind
chars_one b text n e h = rw e (ap (λ (l : List Token). Char b ∷ l) h)

chars_first : (text : List ℕ) → tokens_of text ≡ map Char (take (front_of is_char text) text) ++ tokens_of (drop (front_of is_char text) text)
unfolding front_of
chars_first [] = refl
chars_first (b ∷ text) = by_test (eqb b 60) refl (chars_first text)
  where
    by_test : (t : Bool) → eqb b 60 ≡ t → tokens_of text ≡ map Char (take (front_of is_char text) text) ++ tokens_of (drop (front_of is_char text) text) → tokens_of (b ∷ text) ≡ map Char (take (front_of is_char (b ∷ text)) (b ∷ text)) ++ tokens_of (drop (front_of is_char (b ∷ text)) (b ∷ text))
    by_test true e h = chars_none (b ∷ text) (front_of is_char (b ∷ text)) (rw e)
    by_test false e h =
        let n : front_of is_char (b ∷ text) ≡ suc (front_of is_char text) = rw e in
        rw n (chars_one b text (front_of is_char text) e h)

front_within : (kind : ℕ → Bool) (text : List ℕ) → front_of kind text ≤ length text
unfolding front_of
front_within kind [] = omega arith
front_within kind (b ∷ text) = by_test (kind b) (front_within kind text)
  where
    by_test : (t : Bool) → front_of kind text ≤ length text → cond t (suc (front_of kind text)) 0 ≤ suc (length text)
    by_test true h = omega arith
    by_test false h = omega arith

pub text_is_passed : TextIsPassed
unfolding behind_text tokens_at
text_is_passed text (Place.Text at) w =
    let f = front_within is_char (drop at text) in
    let d = length-drop at text in
    record {
      bytes = take (front_of is_char (drop at text)) (drop at text);
      same = chars_first (drop at text) ∙ ap (λ (l : List ℕ). map Char (take (front_of is_char (drop at text)) (drop at text)) ++ tokens_of l) (drop-drop (front_of is_char (drop at text)) at text);
      within = omega arith;
    }
text_is_passed text (Place.Plain at end) w = record { bytes = []; same = refl; within = w }
text_is_passed text (Place.Shut from to at) w = record { bytes = []; same = refl; within = w }

-- The same of the place that a function answers.
pub text_told : (text : List ℕ) (place next : Place) → PlaceIn text place → next ≡ behind_text text place → Told (tokens_at text place) text next
text_told text place next w e = rw e (text_is_passed text place w)

-- No more tokens, and where they are as many, no step back.
chars_more : (bytes : List ℕ) (tokens : List Token) → length (map Char bytes ++ tokens) ≡ length bytes + length tokens
chars_more [] tokens = omega arith
chars_more (b ∷ bytes) tokens = omega (arith, chars_more bytes tokens)

pub told_fewer : (text : List ℕ) (place next : Place) → Told (tokens_at text place) text next → length (tokens_at text next) ≤ length (tokens_at text place)
told_fewer text place next t = omega (arith, ap length t.same, chars_more t.bytes (tokens_at text next))

pub text_forth : (text : List ℕ) (place next : Place) → next ≡ behind_text text place → place_at place ≤ place_at next
unfolding behind_text
text_forth text (Place.Text at) next e = rw e (omega arith)
text_forth text (Place.Plain at end) next e = rw e (omega arith)
text_forth text (Place.Shut from to at) next e = rw e (omega arith)

pub text_unread : (text : List ℕ) (place next : Place) → PlaceIn text place → next ≡ behind_text text place → unread text next ≤ unread text place
unfolding unread
text_unread text place next w e =
    let f = told_fewer text place next (text_told text place next w e) in
    let m = mono (length (tokens_at text next)) (length (tokens_at text place)) f in
    omega (arith, text_forth text place next e)
  where
    mono : (m n : ℕ) → m ≤ n → m * suc (length text) ≤ n * suc (length text)
    mono zero n h = omega arith
    mono (suc m) zero h = absurd (omega arith)
    mono (suc m) (suc n) h = omega (arith, mono m n (omega arith))

pub text_less : (text : List ℕ) (here place next : Place) → PlaceIn text place → next ≡ behind_text text place → unread text place < unread text here → unread text next < unread text here
text_less text here place next w e l = omega (arith, text_unread text place next w e, l)

-- Bytes say nothing of the elements around a place, nor of the names open there.
pub frames_chars : (bytes : List ℕ) (tokens : List Token) → enclosing (frames (map Char bytes ++ tokens)) ≡ enclosing (frames tokens)
unfolding frames
frames_chars [] tokens = refl
frames_chars (b ∷ bytes) tokens = frames_chars bytes tokens

closes_chars : (opened : List (List ℕ)) (bytes : List ℕ) (tokens : List Token) → closes_all opened (map Char bytes ++ tokens) ≡ closes_all opened tokens
closes_chars opened [] tokens = refl
closes_chars opened (b ∷ bytes) tokens = closes_byte opened b (map Char bytes ++ tokens) ∙ closes_chars opened bytes tokens

pub balance_text : (text froms tos : List ℕ) (count : ℕ) (place next : Place) → Balancing text froms tos count place → next ≡ behind_text text place → Balancing text froms tos count next
balance_text text froms tos count place next p e =
    let t = text_told text place next p.within e in
    record {
      within = t.within;
      same = p.same ∙ ap (closes_all (names text froms tos count)) t.same ∙ closes_chars (names text froms tos count) t.bytes (tokens_at text next);
      few = p.few;
      begins = p.begins;
      ends = p.ends;
      named = p.named;
    }
