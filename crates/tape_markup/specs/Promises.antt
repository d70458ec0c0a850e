-- What is promised of steps, trees and balance, beyond the contracts. All is proved: proofs/Meets.antt, proofs/Texts.antt, proofs/Spelled.antt and
-- proofs/Balanced.antt.
use Rattle.std.specs.Prelude.{◌≡◌, ◌↔◌, true, List, [], ◌∷◌, ◌++◌, ℕ, suc, ◌≤◌, max}
use Rattle.tape_markup.specs.declared.Place.{Place}
use Rattle.tape_markup.specs.Markup.{Token, Open, Close, Char, tokens_of}
use Rattle.tape_markup.specs.Tree.{Forest, none, char, element, most_open, is_balanced, tree_of}
use Rattle.tape_markup.specs.Steps.{step_at, behind_text}
use Rattle.tape_markup.specs.Places.{PlaceIn, place_at, tokens_at, Told, StepMet}

-- A step from a place in a text meets the first of the tokens from there on, or stands further on before the same tokens.
abbrev pub StepsSayTokens : Type 0
StepsSayTokens = (text : List ℕ) (place : Place) → PlaceIn text place → StepMet (tokens_at text place) text (place_at place) (step_at text place)

-- Behind the bytes of text at a place stand the same tokens, but for those bytes.
abbrev pub TextIsPassed : Type 0
TextIsPassed = (text : List ℕ) (place : Place) → PlaceIn text place → Told (tokens_at text place) text (behind_text text place)

-- The tree of a balanced text says all that the text says, and nothing else: spelled out, it is the text's tokens.
unfoldable pub spelled : Forest → List Token
spelled none = []
spelled (char b rest) = Char b ∷ spelled rest
spelled (element name inside rest) = Open name ∷ (spelled inside ++ (Close name ∷ spelled rest))

abbrev pub TreeSaysAll : Type 0
TreeSaysAll = (text : List ℕ) → is_balanced text ≡ true → spelled (tree_of text) ≡ tokens_of text

-- How deep a forest is: the elements around its innermost place, the outermost among them.
unfoldable pub depth : Forest → ℕ
depth none = 0
depth (char b rest) = depth rest
depth (element name inside rest) = max (suc (depth inside)) (depth rest)

-- A text is balanced exactly when its tokens are the spelling of a forest that is at most 32 deep.
abbrev pub SaysForest : List ℕ → Type 0
SaysForest text = (forest : Forest) × (depth forest ≤ most_open) × (spelled forest ≡ tokens_of text)

abbrev pub BalancedExactly : Type 0
BalancedExactly = (text : List ℕ) → is_balanced text ≡ true ↔ SaysForest text

-- Two forests with one spelling are equal: a text says one forest at most.
abbrev pub SpellingIsOne : Type 0
SpellingIsOne = (one other : Forest) → spelled one ≡ spelled other → one ≡ other

-- That forest is the text's tree.
abbrev pub TreeIsTheForest : Type 0
TreeIsTheForest = (text : List ℕ) (forest : Forest) → spelled forest ≡ tokens_of text → tree_of text ≡ forest
