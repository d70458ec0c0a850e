-- A text has no more tokens than bytes, from every place in it on.
use Prim.Native.Nat.{ℕ, zero, suc, ◌+◌, ◌-◌, ◌≤◌, ◌<◌}
use mathlib.Core.Bool.{Bool, true, false, cond, ◌&&◌}
use mathlib.Core.List.{List, [], ◌∷◌, map}
use native.Mathlib.Omega.{arith}
use lib.ListN.{length, get_or, take, drop, length-append, length-map, length-take, length-drop}
use Rattle.text_bytes.specs.Text.{starts_with}
use lib.Dec.{eqb, ltb}
use Rattle.tape_markup.specs.declared.Place.{Place}
use Rattle.tape_markup.specs.Markup.{Token, Char, End, after, never, further, end_behind, tag_end, declaration_end, front_of, is_blank, name_size}
use Rattle.tape_markup.specs.Markup.{comment_start, comment_end, plain_start, plain_end, instruction_start, instruction_end, declaration_start, end_tag_start}
use Rattle.tape_markup.specs.Markup.{Piece, broken, passed_to, plain_to, tag_to, start_tag, end_tag, piece_of, piece_tokens, token_step, tokens_behind, tokens_of}
use Rattle.tape_markup.specs.Places.{part, PlaceIn, tokens_at}

-- A piece that begins a text of so many bytes, with its `<` before it: if no more tokens than bytes follow, there are no more in all.
record Few (text : List ℕ) (size : ℕ) (p : Piece) : Type 0 where
  bound : (later : ℕ → List Token) → ((k : ℕ) → length (later k) ≤ size - k) → length (piece_tokens text p later) ≤ suc size

few_either : {text : List ℕ} {size : ℕ} {p q : Piece} (t : Bool) → Few text size p → Few text size q → Few text size (cond t p q)
few_either true a b = a
few_either false a b = b

module _ (text : List ℕ) where
  few_broken : (size : ℕ) → Few text size broken
  few_broken size = record { bound = λ later h. omega arith }

  few_passed : (size : ℕ) (e : End) → Few text size (passed_to e)
  few_passed size (after k) = record { bound = λ later h. omega (arith, h k) }
  few_passed size never = few_broken size

  few_plain : (e : End) → Few text (length text) (plain_to e)
  few_plain (after k) =
      let t = length-take (8 + k - 11) (drop 8 text) in
      let d = length-drop 8 text in
      let m = length-map (take (8 + k - 11) (drop 8 text)) Char in
      record { bound = λ later h. omega (arith, h (8 + k), length-append (map Char (take (8 + k - 11) (drop 8 text))) (later (8 + k))) }
  few_plain never = few_broken (length text)

  few_tag : (size : ℕ) (e : End) → 0 < size → 0 < length text → Few text (length text) (tag_to text size e)
  few_tag size (after k) s l =
      few_either (ltb 1 k && eqb (get_or text (size + (k - 2)) 0) 47)
      (record { bound = λ later h. omega (arith, h (size + k)) })
      (record { bound = λ later h. omega (arith, h (size + k)) })
  few_tag size never s l = few_broken (length text)

  few_start : (n : ℕ) → 0 < length text → Few text (length text) (start_tag text n)
  few_start zero l = few_broken (length text)
  few_start (suc n) l = few_tag (suc n) (tag_end 0 (drop (suc n) text)) (omega arith) l

  few_end_tag : (size : ℕ) (behind : List ℕ) (n : ℕ) → Few text size (end_tag behind n)
  few_end_tag size behind zero = few_broken size
  few_end_tag size behind (suc n) =
      few_either (eqb (get_or behind (suc n + front_of is_blank (drop (suc n) behind)) 0) 62)
      (record { bound = λ later h. omega (arith, h (2 + (suc n + front_of is_blank (drop (suc n) behind)))) })
      (few_broken size)

few_start_tag : (text : List ℕ) → Few text (length text) (start_tag text (name_size text))
few_start_tag [] = few_broken [] 0
few_start_tag (b ∷ text) = few_start (b ∷ text) (name_size (b ∷ text)) (omega arith)

few_piece : (text : List ℕ) → Few text (length text) (piece_of text)
unfolding piece_of
few_piece text =
    few_either (starts_with comment_start text) (few_passed text (length text) (further 3 (end_behind comment_end (drop 3 text))))
    (few_either (starts_with plain_start text) (few_plain text (end_behind plain_end (drop 8 text)))
    (few_either (starts_with instruction_start text) (few_passed text (length text) (further 1 (end_behind instruction_end (drop 1 text))))
    (few_either (starts_with declaration_start text) (few_passed text (length text) (further 1 (declaration_end 0 0 (drop 1 text))))
    (few_either (starts_with end_tag_start text) (few_end_tag text (length text) (drop 1 text) (name_size (drop 1 text)))
    (few_start_tag text)))))

few_step : (b : ℕ) (text : List ℕ) (k : ℕ) → ((j : ℕ) → length (tokens_behind text j) ≤ length text - j) → length (token_step k b text (tokens_behind text)) ≤ suc (length text) - k
few_step b text zero h = by_test (eqb b 60)
  where
    by_test : (t : Bool) → length (cond t (piece_tokens text (piece_of text) (tokens_behind text)) (Char b ∷ tokens_behind text 0)) ≤ suc (length text) - 0
    by_test true = omega (arith, (few_piece text).bound (tokens_behind text) h)
    by_test false = omega (arith, h 0)
few_step b text (suc k) h = omega (arith, h k)

pub few_behind : (text : List ℕ) (k : ℕ) → length (tokens_behind text k) ≤ length text - k
unfolding tokens_behind
few_behind [] k = omega arith
few_behind (b ∷ text) k = few_step b text k (few_behind text)

pub few_from : (text : List ℕ) (at : ℕ) → length (tokens_of (drop at text)) ≤ length text - at
few_from text at = omega (arith, few_behind (drop at text) 0, length-drop at text)

-- No place in a text has more tokens from it on than the text has bytes.
pub few_tokens : (text : List ℕ) (place : Place) → PlaceIn text place → length (tokens_at text place) ≤ length text
unfolding tokens_at
few_tokens text (Place.Text at) l = omega (arith, few_from text at)
few_tokens text (Place.Plain at end) l =
    let t = length-take (end - 3 - at) (drop at text) in
    let m = length-map (part at (end - 3) text) Char in
    let a = length-append (map Char (part at (end - 3) text)) (tokens_of (drop end text)) in
    let f = few_from text end in
    omega arith
few_tokens text (Place.Shut from to at) l =
    let f = few_from text at in
    omega arith
