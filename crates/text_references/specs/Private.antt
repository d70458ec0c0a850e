-- What the private functions find. No public contract cites this file.
use Rattle.std.specs.Prelude.{ℕ, ◌+◌, ◌/◌, ◌<◌, ◌≡◌, true, false, cond, List, [], ◌∷◌, ltb, Option, Some, None}
use Rattle.text_references.specs.References.{is_hex_digit, hex_digit, later_byte}

-- The value of a byte that is a hexadecimal digit.
abbrev pub HexDigitFound : ℕ → Option ℕ → Type 0
HexDigitFound b (Some n) = (is_hex_digit b ≡ true) × (n ≡ hex_digit b) × (n < 16)
HexDigitFound b None = is_hex_digit b ≡ false

-- The three or four bytes of a character, by the last two.
abbrev pub long_bytes : ℕ → ℕ → ℕ → List ℕ
long_bytes n third last = cond (ltb n 65536) ((224 + n / 4096) ∷ third ∷ last ∷ []) ((240 + n / 262144) ∷ later_byte (n / 4096) ∷ third ∷ last ∷ [])
