-- The references in a name: `&amp; &lt; &gt; &quot; &apos; &#N; &#xH;` mean their characters, in UTF-8. Any other `&` stands for itself.
use Rattle.std.specs.Prelude.{ℕ, suc, zero, ◌+◌, ◌-◌, ◌*◌, ◌/◌, ◌%◌, Bool, cond, not, ◌&&◌, ◌||◌, List, [], ◌∷◌, ◌++◌, length, drop, eqb, ltb}
use Prim.Native.Char.{code}
use Rattle.text_bytes.specs.Text.{bytes, has, before, starts_with, is_text, all_of, between, is_digit, value_of}

abbrev pub ampersand : ℕ
ampersand = code "&"

abbrev pub semicolon : ℕ
semicolon = code ";"

-- A character's number: 1 to 1,114,111, and none of 55,296 to 57,343.
abbrev pub is_character : ℕ → Bool
is_character n = between 1 1114111 n && not (between 55296 57343 n)

-- Hexadecimal digits, and their value behind a number already read.
abbrev pub is_hex_digit : ℕ → Bool
is_hex_digit b = is_digit b || between (code "a") (code "f") b || between (code "A") (code "F") b

abbrev pub hex_digit : ℕ → ℕ
hex_digit b = cond (is_digit b) (b - code "0") (cond (between (code "a") (code "f") b) (b - 87) (b - 55))

unfoldable pub hex_from : ℕ → List ℕ → ℕ
hex_from n [] = n
hex_from n (b ∷ text) = hex_from (n * 16 + hex_digit b) text

-- A character written by its number, 0 where it is none. (No digits have the value 0, which is no character.)
abbrev pub numbered : Bool → ℕ → ℕ
numbered digits n = cond (digits && is_character n) n 0

-- The character that stands for what is written between a `&` and a `;`, by its number; 0 where there is none.
unfoldable pub character_of : List ℕ → ℕ
character_of written =
    cond (is_text (bytes "amp") written) (code "&")
    (cond (is_text (bytes "lt") written) (code "<")
    (cond (is_text (bytes "gt") written) (code ">")
    (cond (is_text (bytes "quot") written) (code "\"")
    (cond (is_text (bytes "apos") written) (code "'")
    (cond (starts_with (bytes "#x") written) (numbered (all_of is_hex_digit (drop 2 written)) (hex_from 0 (drop 2 written)))
    (cond (starts_with (bytes "#") written) (numbered (all_of is_digit (drop 1 written)) (value_of (drop 1 written))) 0))))))

-- The bytes of a character in UTF-8; none for a number that is no character.
abbrev pub later_byte : ℕ → ℕ
later_byte n = 128 + n % 64

unfoldable pub utf8 : ℕ → List ℕ
utf8 n =
    cond (not (is_character n)) []
    (cond (ltb n 128) (n ∷ [])
    (cond (ltb n 2048) ((192 + n / 64) ∷ later_byte n ∷ [])
    (cond (ltb n 65536) ((224 + n / 4096) ∷ later_byte (n / 64) ∷ later_byte n ∷ [])
    ((240 + n / 262144) ∷ later_byte (n / 4096) ∷ later_byte (n / 64) ∷ later_byte n ∷ []))))

-- The character of a reference whose `&` stands before a text: of what is written before the first `;`.
unfoldable pub reference_in : List ℕ → ℕ
reference_in text = cond (has semicolon text) (character_of (before semicolon text)) 0

-- What a text stands for, where so many of its bytes belong to a reference already read.
abbrev pub decoded_step : ℕ → ℕ → List ℕ → (ℕ → List ℕ) → List ℕ
decoded_step zero b text later =
    cond (eqb b ampersand && not (eqb (reference_in text) 0)) (utf8 (reference_in text) ++ later (suc (length (before semicolon text)))) (b ∷ later 0)
decoded_step (suc k) b text later = later k

unfoldable pub decoded_behind : List ℕ → ℕ → List ℕ
decoded_behind [] k = []
decoded_behind (b ∷ text) k = decoded_step k b text (decoded_behind text)

-- What a name stands for.
abbrev pub decoded : List ℕ → List ℕ
decoded text = decoded_behind text 0
