-- Balance, and the tree of elements that a text says. A text that is not balanced is refused before its tree counts.
use Rattle.std.specs.Prelude.{ℕ, Bool, true, false, ◌&&◌, List, [], ◌∷◌, length, ltb}
use Rattle.text_bytes.specs.Text.{is_text}
use Rattle.tape_markup.specs.Markup.{Token, Open, Close, Char, Broken, tokens_of}

-- The elements that may be open at once, the outermost among them.
abbrev pub most_open : ℕ
most_open = 32

-- Whether tokens close what is open, innermost first, and open nothing that they do not close.
unfoldable pub closes_all : List (List ℕ) → List Token → Bool
closes_all [] [] = true
closes_all (name ∷ names) [] = false
closes_all names (Open name ∷ tokens) = ltb (length names) most_open && closes_all (name ∷ names) tokens
closes_all [] (Close name ∷ tokens) = false
closes_all (opened ∷ names) (Close name ∷ tokens) = is_text opened name && closes_all names tokens
closes_all names (Char b ∷ tokens) = closes_all names tokens
closes_all names (Broken ∷ tokens) = false

unfoldable pub is_balanced : List ℕ → Bool
is_balanced text = closes_all [] (tokens_of text)

-- What stands in an element, or outside of all: nothing more; a byte and what follows it; an element, what it holds, and what follows it.
pub data Forest : Type 0 where
  none : Forest
  char : ℕ → Forest → Forest
  element : List ℕ → Forest → Forest → Forest

-- What is left from a place in a text on: first of the element around the place, then of the element around that one, and so on outwards.
abbrev pub innermost : List Forest → Forest
innermost [] = none
innermost (forest ∷ outer) = forest

abbrev pub enclosing : List Forest → List Forest
enclosing [] = []
enclosing (forest ∷ outer) = outer

abbrev pub frame : Token → List Forest → List Forest
frame (Open name) left = element name (innermost left) (innermost (enclosing left)) ∷ enclosing (enclosing left)
frame (Close name) left = none ∷ left
frame (Char b) left = char b (innermost left) ∷ enclosing left
frame Broken left = []

unfoldable pub frames : List Token → List Forest
frames [] = []
frames (token ∷ tokens) = frame token (frames tokens)

-- The tree of a text: from its beginning on nothing is open.
unfoldable pub tree_of : List ℕ → Forest
tree_of text = innermost (frames (tokens_of text))
