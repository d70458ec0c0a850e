-- What is known of the bytes behind a `&`, one by one: the first four, as long as they may be letters of a name; or a number, which stops growing where
-- it is above every character's.
use Rattle.std.specs.Prelude.{ℕ, ◌+◌, ◌-◌, ◌*◌, min, ◌≡◌, Bool, cond, ◌&&◌, List, [], ◌∷◌, ◌++◌, length, drop, get_or, eqb}
use Prim.Native.Char.{code}
use Rattle.text_bytes.specs.Text.{bytes, is_digit}
use Rattle.text_references.specs.declared.Reading.{Reading}
use Rattle.text_references.specs.declared.Utf8.{Utf8}
use Rattle.text_references.specs.References.{is_character, is_hex_digit, hex_digit}

-- Nothing is read yet.
abbrev pub unread : Reading
unread = Reading.Letters 0 0 0 0 0

-- No character has this number, and a number that reaches it stays there.
abbrev pub too_far : ℕ
too_far = 1114112

abbrev pub capped_at : ℕ → ℕ → ℕ → ℕ
capped_at base n digit = min too_far (n * base + digit)

-- One more letter, behind those read so far.
abbrev pub next_letter : ℕ → ℕ → ℕ → ℕ → ℕ → Reading
next_letter count first second third b =
    cond (eqb count 0) (cond (eqb b (code "#")) Reading.Hash (Reading.Letters 1 b 0 0 0))
    (cond (eqb count 1) (Reading.Letters 2 first b 0 0)
    (cond (eqb count 2) (Reading.Letters 3 first second b 0)
    (cond (eqb count 3) (Reading.Letters 4 first second third b) Reading.Dead)))

-- One more byte.
abbrev pub read_next : Reading → ℕ → Reading
read_next (Reading.Letters count first second third fourth) b = next_letter count first second third b
read_next Reading.Hash b = cond (is_digit b) (Reading.Decimal (b - code "0")) (cond (eqb b (code "x")) (Reading.Hex 0) Reading.Dead)
read_next (Reading.Decimal n) b = cond (is_digit b) (Reading.Decimal (capped_at 10 n (b - code "0"))) Reading.Dead
read_next (Reading.Hex n) b = cond (is_hex_digit b) (Reading.Hex (capped_at 16 n (hex_digit b))) Reading.Dead
read_next Reading.Dead b = Reading.Dead

-- The bytes of a text, one after the other.
unfoldable pub read_behind : Reading → List ℕ → Reading
read_behind reading [] = reading
read_behind reading (b ∷ text) = read_behind (read_next reading b) text

-- The character of two, three or four letters, 0 for none.
abbrev pub of_two : ℕ → ℕ → ℕ
of_two first second = cond (eqb second (code "t")) (cond (eqb first (code "l")) (code "<") (cond (eqb first (code "g")) (code ">") 0)) 0

abbrev pub of_three : ℕ → ℕ → ℕ → ℕ
of_three first second third = cond (eqb first (code "a") && eqb second (code "m") && eqb third (code "p")) (code "&") 0

abbrev pub are_four : ℕ → ℕ → ℕ → ℕ → List ℕ → Bool
are_four a b c d wanted = eqb a (get_or wanted 0 0) && eqb b (get_or wanted 1 0) && eqb c (get_or wanted 2 0) && eqb d (get_or wanted 3 0)

abbrev pub of_four : ℕ → ℕ → ℕ → ℕ → ℕ
of_four first second third fourth =
    cond (are_four first second third fourth (bytes "quot")) (code "\"") (cond (are_four first second third fourth (bytes "apos")) (code "'") 0)

abbrev pub of_letters : ℕ → ℕ → ℕ → ℕ → ℕ → ℕ
of_letters count first second third fourth =
    cond (eqb count 2) (of_two first second) (cond (eqb count 3) (of_three first second third) (cond (eqb count 4) (of_four first second third fourth) 0))

-- The character of a number, 0 for none.
abbrev pub numbered_by : ℕ → ℕ
numbered_by n = cond (is_character n) n 0

-- The character that a reading comes to where a `;` follows it, 0 for none.
abbrev pub character_in : Reading → ℕ
character_in (Reading.Letters count first second third fourth) = of_letters count first second third fourth
character_in Reading.Hash = 0
character_in (Reading.Decimal n) = numbered_by n
character_in (Reading.Hex n) = numbered_by n
character_in Reading.Dead = 0

-- The bytes of a character, in so many of four fields; 0 in the others.
abbrev pub fields_of : Utf8 → List ℕ
fields_of r = r.first ∷ r.second ∷ r.third ∷ r.fourth ∷ []

abbrev pub with_zeros : List ℕ → List ℕ
with_zeros text = text ++ drop (length text) (0 ∷ 0 ∷ 0 ∷ 0 ∷ [])

pub record Holds (text : List ℕ) (r : Utf8) : Type 0 where
  pub size : r.count ≡ length text
  pub fields : fields_of r ≡ with_zeros text
