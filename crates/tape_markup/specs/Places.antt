-- What a place in a text means: the tokens from it on. And what a step meets of them.
use Rattle.std.specs.Prelude.{ℕ, ◌+◌, ◌-◌, ◌≤◌, ◌<◌, ◌≡◌, List, [], ◌∷◌, ◌++◌, map, length, take, drop}
use Rattle.tape_markup.specs.declared.Place.{Place}
use Rattle.tape_markup.specs.declared.Step.{Step}
use Rattle.tape_markup.specs.Markup.{Token, Open, Close, Char, Broken, tokens_of}

-- The part of a text from one position to another.
abbrev pub part : ℕ → ℕ → List ℕ → List ℕ
part from to text = take (to - from) (drop from text)

pub record NameIn (text : List ℕ) (from to : ℕ) : Type 0 where
  pub ordered : from ≤ to
  pub within : to ≤ length text

-- A place in a text, and the position it stands at.
abbrev pub PlaceIn : List ℕ → Place → Type 0
PlaceIn text (Place.Text at) = at ≤ length text
PlaceIn text (Place.Plain at end) = (at + 3 ≤ end) × (end ≤ length text)
PlaceIn text (Place.Shut from to at) = NameIn text from to × (0 < at) × (at ≤ length text)

abbrev pub place_at : Place → ℕ
place_at (Place.Text at) = at
place_at (Place.Plain at end) = at
place_at (Place.Shut from to at) = at

unfoldable pub tokens_at : List ℕ → Place → List Token
tokens_at text (Place.Text at) = tokens_of (drop at text)
tokens_at text (Place.Plain at end) = map Char (part at (end - 3) text) ++ tokens_of (drop end text)
tokens_at text (Place.Shut from to at) = Close (part from to text) ∷ tokens_of (drop at text)

-- Tokens that begin with one, and those from the next place on.
pub record Begins (tokens : List Token) (text : List ℕ) (token : Token) (next : Place) : Type 0 where
  pub first : tokens ≡ token ∷ tokens_at text next
  pub within : PlaceIn text next

-- Markup that has no token.
pub record Passes (tokens : List Token) (text : List ℕ) (at : ℕ) (next : Place) : Type 0 where
  pub same : tokens ≡ tokens_at text next
  pub within : PlaceIn text next
  pub beyond : at < place_at next

-- Bytes of text, and the tokens from the next place on.
pub record Told (tokens : List Token) (text : List ℕ) (next : Place) : Type 0 where
  pub bytes : List ℕ
  pub same : tokens ≡ map Char bytes ++ tokens_at text next
  pub within : PlaceIn text next

-- What a step from a position on meets of some tokens.
abbrev pub StepMet : List Token → List ℕ → ℕ → Step → Type 0
StepMet tokens text at Step.End = tokens ≡ []
StepMet tokens text at Step.Broken = tokens ≡ Broken ∷ []
StepMet tokens text at (Step.Byte byte next) = Begins tokens text (Char byte) next
StepMet tokens text at (Step.Start from to next) = Begins tokens text (Open (part from to text)) next × NameIn text from to
StepMet tokens text at (Step.Finish from to next) = Begins tokens text (Close (part from to text)) next × NameIn text from to
StepMet tokens text at (Step.Past next) = Passes tokens text at next
