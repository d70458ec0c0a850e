-- A text is a list of bytes. Its tokens: what a reader from left to right meets. Only what balance needs is told apart:
-- attributes, comments, declarations and processing instructions are passed over, and `<x/>` is a start tag and its end tag.
use Rattle.std.specs.Prelude.{ℕ, suc, zero, ◌+◌, ◌-◌, Bool, cond, not, ◌&&◌, ◌||◌, List, [], ◌∷◌, ◌++◌, map, length, take, drop, get_or, eqb, ltb}
use Prim.Native.Char.{code}
use Rattle.text_bytes.specs.Text.{bytes, starts_with, between, is_digit, is_letter}

-- A start tag with its name, an end tag with its name, a byte of text, and a place where markup goes wrong: nothing is read behind it.
pub data Token : Type 0 where
  Open : List ℕ → Token
  Close : List ℕ → Token
  Char : ℕ → Token
  Broken : Token

-- Where something ends: behind so many bytes, or nowhere.
pub data End : Type 0 where
  after : ℕ → End
  never : End

-- The same end, counted from so many bytes before.
abbrev pub further : ℕ → End → End
further n (after k) = after (n + k)
further n never = never

-- Behind the first place where a text stands.
unfoldable pub end_behind : List ℕ → List ℕ → End
end_behind wanted [] = never
end_behind wanted (b ∷ text) = cond (starts_with wanted (b ∷ text)) (after (length wanted)) (further 1 (end_behind wanted text))

-- The quote that is open behind a byte, 0 for none: `"` and `'` each end where the same quote comes again.
abbrev pub quote_after : ℕ → ℕ → ℕ
quote_after quote b = cond (eqb quote 0) (cond (eqb b (code "\"") || eqb b (code "'")) b 0) (cond (eqb b quote) 0 quote)

-- A tag ends at the first `>` outside quotes. A `<` outside quotes does not belong in it.
unfoldable pub tag_end : ℕ → List ℕ → End
tag_end quote [] = never
tag_end quote (b ∷ text) =
    cond (eqb quote 0 && eqb b (code ">")) (after 1)
    (cond (eqb quote 0 && eqb b (code "<")) never (further 1 (tag_end (quote_after quote b) text)))

-- How many `[` are open behind a byte.
abbrev pub depth_after : ℕ → ℕ → ℕ → ℕ
depth_after quote depth b = cond (eqb quote 0) (cond (eqb b (code "[")) (suc depth) (cond (eqb b (code "]")) (depth - 1) depth)) depth

-- A declaration ends at the first `>` outside quotes and outside `[ ]`.
unfoldable pub declaration_end : ℕ → ℕ → List ℕ → End
declaration_end quote depth [] = never
declaration_end quote depth (b ∷ text) =
    cond (eqb quote 0 && eqb depth 0 && eqb b (code ">")) (after 1)
    (further 1 (declaration_end (quote_after quote b) (depth_after quote depth b) text))

-- How many bytes at the front of a text are of a kind.
unfoldable pub front_of : (ℕ → Bool) → List ℕ → ℕ
front_of kind [] = 0
front_of kind (b ∷ text) = cond (kind b) (suc (front_of kind text)) 0

-- A byte that begins no markup.
abbrev pub is_char : ℕ → Bool
is_char b = not (eqb b (code "<"))

abbrev pub is_blank : ℕ → Bool
is_blank b = eqb b (code " ") || eqb b (code "\t") || eqb b (code "\n") || eqb b (code "\r")

-- A name begins with a letter, `_`, `:` or a byte above 127, and goes on with these, digits, `-` and `.`.
abbrev pub begins_name : ℕ → Bool
begins_name b = is_letter b || between (code "a") (code "z") b || eqb b (code "_") || eqb b (code ":") || ltb 127 b

abbrev pub in_name : ℕ → Bool
in_name b = begins_name b || is_digit b || eqb b (code "-") || eqb b (code ".")

-- The size of the name at the front of a text; 0 where none begins there.
abbrev pub name_size : List ℕ → ℕ
name_size [] = 0
name_size (b ∷ text) = cond (begins_name b) (front_of in_name (b ∷ text)) 0

-- What a `<` begins: a start tag, an element by itself, an end tag, a CDATA section, something that is passed over. The last number is its size
-- behind the `<`, the first, where there are two, the size of its name.
pub data Piece : Type 0 where
  opens : ℕ → ℕ → Piece
  alone : ℕ → ℕ → Piece
  closes : ℕ → ℕ → Piece
  plain : ℕ → Piece
  passed : ℕ → Piece
  broken : Piece

abbrev pub passed_to : End → Piece
passed_to (after k) = passed k
passed_to never = broken

-- A CDATA section, `<![CDATA[`, its bytes, and `]]>`, by the end of what stands behind its last `[`.
abbrev pub plain_to : End → Piece
plain_to (after k) = plain (8 + k)
plain_to never = broken

-- A start tag with a name of that size. `/` right before its `>` makes it an element by itself.
abbrev pub tag_to : List ℕ → ℕ → End → Piece
tag_to text size (after k) =
    cond (ltb 1 k && eqb (get_or text (size + (k - 2)) 0) (code "/")) (alone size (size + k)) (opens size (size + k))
tag_to text size never = broken

abbrev pub start_tag : List ℕ → ℕ → Piece
start_tag text zero = broken
start_tag text (suc n) = tag_to text (suc n) (tag_end 0 (drop (suc n) text))

-- An end tag, behind its `/`: a name of that size, blanks, `>`, and nothing else.
abbrev pub end_tag_to : List ℕ → ℕ → ℕ → Piece
end_tag_to text size k = cond (eqb (get_or text k 0) (code ">")) (closes size (2 + k)) broken

abbrev pub end_tag : List ℕ → ℕ → Piece
end_tag text zero = broken
end_tag text (suc n) = end_tag_to text (suc n) (suc n + front_of is_blank (drop (suc n) text))

-- What stands behind the `<` of each kind of markup, and how some of them end.
abbrev pub comment_start : List ℕ
comment_start = bytes "!--"

abbrev pub comment_end : List ℕ
comment_end = bytes "-->"

abbrev pub plain_start : List ℕ
plain_start = bytes "![CDATA["

abbrev pub plain_end : List ℕ
plain_end = bytes "]]>"

abbrev pub instruction_start : List ℕ
instruction_start = bytes "?"

abbrev pub instruction_end : List ℕ
instruction_end = bytes "?>"

abbrev pub declaration_start : List ℕ
declaration_start = bytes "!"

abbrev pub end_tag_start : List ℕ
end_tag_start = bytes "/"

-- What stands behind a `<`.
unfoldable pub piece_of : List ℕ → Piece
piece_of text =
    cond (starts_with comment_start text) (passed_to (further 3 (end_behind comment_end (drop 3 text))))
    (cond (starts_with plain_start text) (plain_to (end_behind plain_end (drop 8 text)))
    (cond (starts_with instruction_start text) (passed_to (further 1 (end_behind instruction_end (drop 1 text))))
    (cond (starts_with declaration_start text) (passed_to (further 1 (declaration_end 0 0 (drop 1 text))))
    (cond (starts_with end_tag_start text) (end_tag (drop 1 text) (name_size (drop 1 text)))
    (start_tag text (name_size text))))))

-- Its tokens, before those of what is left behind so many bytes. The name of an end tag stands behind its `/`.
abbrev pub piece_tokens : List ℕ → Piece → (ℕ → List Token) → List Token
piece_tokens text (opens name k) later = Open (take name text) ∷ later k
piece_tokens text (alone name k) later = Open (take name text) ∷ Close (take name text) ∷ later k
piece_tokens text (closes name k) later = Close (take name (drop 1 text)) ∷ later k
piece_tokens text (plain k) later = map Char (take (k - 11) (drop 8 text)) ++ later k
piece_tokens text (passed k) later = later k
piece_tokens text broken later = Broken ∷ []

-- The tokens from a byte on, where so many bytes of the text belong to markup already read.
abbrev pub token_step : ℕ → ℕ → List ℕ → (ℕ → List Token) → List Token
token_step zero b text later = cond (eqb b (code "<")) (piece_tokens text (piece_of text) later) (Char b ∷ later 0)
token_step (suc k) b text later = later k

unfoldable pub tokens_behind : List ℕ → ℕ → List Token
tokens_behind [] k = []
tokens_behind (b ∷ text) k = token_step k b text (tokens_behind text)

-- The tokens of a text.
abbrev pub tokens_of : List ℕ → List Token
tokens_of text = tokens_behind text 0
