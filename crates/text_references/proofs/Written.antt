-- Byte by byte a reading comes to the character that is written.
use Prim.Native.Nat.{ℕ, ◌+◌, ◌-◌, ◌*◌, ◌≤◌, min}
use mathlib.Core.Path.{◌≡◌, refl, sym, ◌∙◌}
use mathlib.Core.Bool.{Bool, true, false, cond, ◌&&◌, and-false}
use mathlib.Core.Logic.{by_cases}
use mathlib.Core.List.{List, [], ◌∷◌}
use native.Mathlib.Decide.{dec_le}
use native.Mathlib.Omega.{arith}
use lib.ListN.{length}
use lib.Dec.{eqb}
use borrow.Author.Tests.{eq-eqb, ne_eqb, eqb-true, eqb-false, lt-leb}
use Rattle.text_bytes.specs.Text.{bytes, starts_with, is_text, all_of, is_digit, value_from}
use Rattle.text_bytes.proofs.Bytes.{digit_bounds}
use Rattle.text_references.specs.declared.Reading.{Reading}
use Rattle.text_references.specs.References.{is_hex_digit, hex_digit, hex_from, numbered, character_of}
use Rattle.text_references.specs.Readings.{too_far, unread, read_behind, numbered_by, of_four, are_four, character_in}
use Rattle.text_references.specs.Promises.{ReadingsSayCharacters}
use Rattle.text_references.proofs.Digits.{cap_again}

-- What is no reference stays none.
dead_stays : (text : List ℕ) → character_in (read_behind Reading.Dead text) ≡ 0
unfolding read_behind
dead_stays [] = refl
dead_stays (b ∷ text) = dead_stays text

-- A number that has reached the limit is as little a character as one above it.
cap_numbered : (n : ℕ) → numbered_by (min too_far n) ≡ numbered_by n
cap_numbered n = by_cases (dec_le too_far n) large small
  where
    large : too_far ≤ n → numbered_by (min too_far n) ≡ numbered_by n
    large h = let e : min too_far n ≡ too_far = omega arith in rw (e, lt-leb n 1114111 (omega arith), and-false)

    small : (too_far ≤ n → ⊥) → numbered_by (min too_far n) ≡ numbered_by n
    small h = let e : min too_far n ≡ n = omega arith in rw e

-- The digits of a number, one by one.
decimal_run : (text : List ℕ) (n : ℕ) → character_in (read_behind (Reading.Decimal (min too_far n)) text) ≡ numbered (all_of is_digit text) (value_from n text)
unfolding read_behind all_of value_from
decimal_run [] n = cap_numbered n
decimal_run (b ∷ text) n = go (is_digit b) refl (decimal_run text)
  where
    go : (t : Bool) → is_digit b ≡ t → ((n : ℕ) → character_in (read_behind (Reading.Decimal (min too_far n)) text) ≡ numbered (all_of is_digit text) (value_from n text))
        → character_in (read_behind (Reading.Decimal (min too_far n)) (b ∷ text)) ≡ numbered (all_of is_digit (b ∷ text)) (value_from n (b ∷ text))
    go true e rest = rw (e, cap_again 10 n (b - 48) (omega arith)) (rest (n * 10 + (b - 48)))
    go false e rest = rw e (dead_stays text)

hex_run : (text : List ℕ) (n : ℕ) → character_in (read_behind (Reading.Hex (min too_far n)) text) ≡ numbered (all_of is_hex_digit text) (hex_from n text)
unfolding read_behind all_of hex_from
hex_run [] n = cap_numbered n
hex_run (b ∷ text) n = go (is_hex_digit b) refl (hex_run text)
  where
    go : (t : Bool) → is_hex_digit b ≡ t → ((n : ℕ) → character_in (read_behind (Reading.Hex (min too_far n)) text) ≡ numbered (all_of is_hex_digit text) (hex_from n text))
        → character_in (read_behind (Reading.Hex (min too_far n)) (b ∷ text)) ≡ numbered (all_of is_hex_digit (b ∷ text)) (hex_from n (b ∷ text))
    go true e rest = rw (e, cap_again 16 n (hex_digit b) (omega arith)) (rest (n * 16 + hex_digit b))
    go false e rest = rw e (dead_stays text)

-- Letters are compared either way round.
same_letter : (a b : ℕ) → eqb a b ≡ eqb b a
same_letter a b = go (eqb a b) refl
  where
    go : (t : Bool) → eqb a b ≡ t → eqb a b ≡ eqb b a
    go true e = e ∙ sym (eq-eqb b a (sym (eqb-true a b e)))
    go false e = e ∙ sym (ne_eqb b a (λ h. eqb-false a b e (sym h)))

other_length : (key text : List ℕ) → (length key ≡ length text → ⊥) → is_text key text ≡ false
other_length key text n = rw (ne_eqb (length key) (length text) n)

other_first : (k b : ℕ) (key text : List ℕ) → eqb k b ≡ false → is_text (k ∷ key) (b ∷ text) ≡ false
unfolding starts_with
other_first k b key text e = rw (e, and-false)

-- Two, three and four letters.
two_letters : (l g t : Bool) → ◌≡◌ {A = ℕ} (cond t (cond l 60 (cond g 62 0)) 0) (cond (l && (t && true)) 60 (cond (g && (t && true)) 62 0))
two_letters true true true = refl
two_letters true true false = refl
two_letters true false true = refl
two_letters true false false = refl
two_letters false true true = refl
two_letters false true false = refl
two_letters false false true = refl
two_letters false false false = refl

three_letters : (x y z : Bool) → ◌≡◌ {A = ℕ} (cond (x && y && z) 38 0) (cond (x && (y && (z && true))) 38 0)
three_letters true true true = refl
three_letters true true false = refl
three_letters true false z = refl
three_letters false y z = refl

four_letters : (x y z w : Bool) → (x && y && z && w) ≡ (x && (y && (z && (w && true))))
four_letters true true true true = refl
four_letters true true true false = refl
four_letters true true false w = refl
four_letters true false z w = refl
four_letters false y z w = refl

-- The five names, of what does not begin with a `#`.
abbrev names : List ℕ → ℕ
names written =
    cond (is_text (bytes "amp") written) 38
    (cond (is_text (bytes "lt") written) 60
    (cond (is_text (bytes "gt") written) 62 (cond (is_text (bytes "quot") written) 34 (cond (is_text (bytes "apos") written) 39 0))))

no_hash : (b : ℕ) (text : List ℕ) → eqb b 35 ≡ false → character_of (b ∷ text) ≡ names (b ∷ text)
unfolding character_of starts_with
no_hash b text e = let f : eqb 35 b ≡ false = same_letter 35 b ∙ e in rw f

four_run : (b c d e : ℕ) → of_four b c d e ≡ names (b ∷ c ∷ d ∷ e ∷ [])
unfolding starts_with
four_run b c d e =
    let q : are_four b c d e (bytes "quot") ≡ (eqb 113 b && (eqb 117 c && (eqb 111 d && (eqb 116 e && true)))) = rw (same_letter 113 b, same_letter 117 c, same_letter 111 d, same_letter 116 e) (four_letters (eqb b 113) (eqb c 117) (eqb d 111) (eqb e 116)) in
    let a : are_four b c d e (bytes "apos") ≡ (eqb 97 b && (eqb 112 c && (eqb 111 d && (eqb 115 e && true)))) = rw (same_letter 97 b, same_letter 112 c, same_letter 111 d, same_letter 115 e) (four_letters (eqb b 97) (eqb c 112) (eqb d 111) (eqb e 115)) in
    rw (q, a)

many_letters : (b c d e f : ℕ) (text : List ℕ) → names (b ∷ c ∷ d ∷ e ∷ f ∷ text) ≡ 0
many_letters b c d e f text =
    rw (
      other_length (bytes "amp") (b ∷ c ∷ d ∷ e ∷ f ∷ text) (λ h. omega arith),
      other_length (bytes "lt") (b ∷ c ∷ d ∷ e ∷ f ∷ text) (λ h. omega arith),
      other_length (bytes "gt") (b ∷ c ∷ d ∷ e ∷ f ∷ text) (λ h. omega arith),
      other_length (bytes "quot") (b ∷ c ∷ d ∷ e ∷ f ∷ text) (λ h. omega arith),
      other_length (bytes "apos") (b ∷ c ∷ d ∷ e ∷ f ∷ text) (λ h. omega arith),
    )

letters_run : (b : ℕ) (text : List ℕ) → character_in (read_behind (Reading.Letters 1 b 0 0 0) text) ≡ names (b ∷ text)
unfolding read_behind starts_with
letters_run b [] = refl
letters_run b (c ∷ []) = rw (same_letter 108 b, same_letter 103 b, same_letter 116 c) (two_letters (eqb b 108) (eqb b 103) (eqb c 116))
letters_run b (c ∷ d ∷ []) = rw (same_letter 97 b, same_letter 109 c, same_letter 112 d) (three_letters (eqb b 97) (eqb c 109) (eqb d 112))
letters_run b (c ∷ d ∷ e ∷ []) = four_run b c d e
letters_run b (c ∷ d ∷ e ∷ f ∷ text) = dead_stays text ∙ sym (many_letters b c d e f text)

-- What begins with a `#`: a number behind `#x`, or one behind it alone.
hash_run : (text : List ℕ) → character_in (read_behind Reading.Hash text) ≡ character_of (35 ∷ text)
unfolding read_behind character_of starts_with all_of value_from
hash_run [] = refl
hash_run (b ∷ text) = go (is_digit b) refl (eqb b 120) refl
  where
    none : (key : List ℕ) (k : ℕ) → eqb k 35 ≡ false → is_text (k ∷ key) (35 ∷ b ∷ text) ≡ false
    none key k e = other_first k 35 key (b ∷ text) e

    go : (d : Bool) → is_digit b ≡ d → (x : Bool) → eqb b 120 ≡ x → character_in (read_behind Reading.Hash (b ∷ text)) ≡ character_of (35 ∷ b ∷ text)
    go d h true e =
        let is : b ≡ 120 = eqb-true b 120 e in
        rw (is, other_first 97 35 (bytes "mp") (120 ∷ text) refl, other_first 108 35 (bytes "t") (120 ∷ text) refl, other_first 113 35 (bytes "uot") (120 ∷ text) refl)
        (hex_run text 0)
    go true h false e =
        let f : eqb 120 b ≡ false = same_letter 120 b ∙ e in
        let d = digit_bounds b (is_digit b) refl h in
        let z : min too_far (0 + (b - 48)) ≡ b - 48 = omega arith in
        rw (h, f, none (bytes "mp") 97 refl, none (bytes "t") 108 refl, none (bytes "uot") 113 refl) (rw z at (decimal_run text (0 + (b - 48))))
    go false h false e =
        let f : eqb 120 b ≡ false = same_letter 120 b ∙ e in
        rw (h, e, f, none (bytes "mp") 97 refl, none (bytes "t") 108 refl, none (bytes "uot") 113 refl) (dead_stays text)

pub readings_say_characters : ReadingsSayCharacters
unfolding read_behind character_of starts_with
readings_say_characters [] = refl
readings_say_characters (b ∷ text) = go (eqb b 35) refl
  where
    go : (t : Bool) → eqb b 35 ≡ t → character_in (read_behind unread (b ∷ text)) ≡ character_of (b ∷ text)
    go true e = let is : b ≡ 35 = eqb-true b 35 e in rw is (hash_run text)
    go false e = rw e (letters_run b text ∙ sym (no_hash b text e))
