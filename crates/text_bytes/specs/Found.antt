-- What is found in a text, by cases of the answer.
use Rattle.std.specs.Prelude.{ℕ, ◌+◌, ◌<◌, ◌≡◌, true, false, List, length, take, drop, Option, Some, None}
use Rattle.text_bytes.specs.Text.{has, before, behind, is_number, value_of}

-- A byte stands in a text, first at an index.
pub record FirstAt (c : ℕ) (text : List ℕ) (i : ℕ) : Type 0 where
  pub within : i < length text
  pub stands : has c text ≡ true
  pub front : before c text ≡ take i text
  pub back : behind c text ≡ drop (i + 1) text

abbrev pub FoundIn : ℕ → List ℕ → Option ℕ → Type 0
FoundIn c text (Some i) = FirstAt c text i
FoundIn c text None = has c text ≡ false

-- A text that is a number, and which.
pub record NumberIs (text : List ℕ) (n : ℕ) : Type 0 where
  pub good : is_number text ≡ true
  pub value : n ≡ value_of text

abbrev pub NumberFound : List ℕ → Option ℕ → Type 0
NumberFound text (Some n) = NumberIs text n
NumberFound text None = is_number text ≡ false
