-- Texts are lists of bytes. What a number and a tape name are, and a number's own text.
use Rattle.std.specs.Prelude.{ℕ, suc, zero, ◌+◌, ◌-◌, ◌*◌, ◌/◌, ◌%◌, ◌^◌, Bool, true, false, cond, not, ◌&&◌, ◌||◌, List, [], ◌∷◌, ◌++◌, length, leb, ltb, eqb}
use Prim.Native.Char.{code}
use Prim.Native.String.{String}
use Prim.Native.String as Letters

-- The bytes of a text that is written in letters, as "tape=". Every letter of a sheet is below 128, so it is one byte: its code.
abbrev pub bytes : String → List ℕ
bytes Letters.[] = []
bytes (Letters.◌∷◌ letter letters) = code letter ∷ bytes letters

abbrev pub line_feed : ℕ
line_feed = code "\n"

abbrev pub comma : ℕ
comma = code ","

abbrev pub is_empty : List ℕ → Bool
is_empty [] = true
is_empty (b ∷ text) = false

-- Whether a byte stands in a text, what stands before the first such byte, and what stands behind it.
unfoldable pub has : ℕ → List ℕ → Bool
has c [] = false
has c (b ∷ text) = eqb b c || has c text

unfoldable pub before : ℕ → List ℕ → List ℕ
before c [] = []
before c (b ∷ text) = cond (eqb b c) [] (b ∷ before c text)

unfoldable pub behind : ℕ → List ℕ → List ℕ
behind c [] = []
behind c (b ∷ text) = cond (eqb b c) text (behind c text)

-- Whether a text begins with another, and whether the two are the same.
unfoldable pub starts_with : List ℕ → List ℕ → Bool
starts_with [] text = true
starts_with (k ∷ key) [] = false
starts_with (k ∷ key) (b ∷ text) = eqb k b && starts_with key text

abbrev pub is_text : List ℕ → List ℕ → Bool
is_text wanted text = eqb (length wanted) (length text) && starts_with wanted text

-- Whether every byte of a text is of a kind.
unfoldable pub all_of : (ℕ → Bool) → List ℕ → Bool
all_of kind [] = true
all_of kind (b ∷ text) = kind b && all_of kind text

abbrev pub between : ℕ → ℕ → ℕ → Bool
between least most b = leb least b && leb b most

-- 0 to 9, and A to Z.
abbrev pub is_digit : ℕ → Bool
is_digit b = between (code "0") (code "9") b

abbrev pub is_letter : ℕ → Bool
is_letter b = between (code "A") (code "Z") b

-- The value of decimal digits, behind a number already read.
unfoldable pub value_from : ℕ → List ℕ → ℕ
value_from n [] = n
value_from n (b ∷ text) = value_from (n * 10 + (b - code "0")) text

abbrev pub value_of : List ℕ → ℕ
value_of text = value_from 0 text

abbrev pub leading_zero : List ℕ → Bool
leading_zero [] = false
leading_zero (b ∷ []) = false
leading_zero (b ∷ c ∷ text) = eqb b (code "0")

-- A number: decimal digits, at least one, without a leading zero, below 2 to the 64.
unfoldable pub is_number : List ℕ → Bool
is_number text = not (is_empty text) && not (leading_zero text) && all_of is_digit text && ltb (value_of text) (2 ^ 64)

-- A tape name: 1 to 16 of A-Z and 0-9.
abbrev pub is_name_byte : ℕ → Bool
is_name_byte b = is_digit b || is_letter b

unfoldable pub is_name : List ℕ → Bool
is_name text = between 1 16 (length text) && all_of is_name_byte text

-- A number's text: its decimal digits without leading zeros. (The number itself is more than its digits are many.)
unfoldable pub decimal_in : ℕ → ℕ → List ℕ
decimal_in zero n = (code "0" + n) ∷ []
decimal_in (suc most) n =
    let more : List ℕ = decimal_in most (n / 10) in
    cond (ltb n 10) ((code "0" + n) ∷ []) (more ++ ((code "0" + n % 10) ∷ []))

abbrev pub decimal : ℕ → List ℕ
decimal n = decimal_in n n
