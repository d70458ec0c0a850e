-- What the private functions ask and find. No public contract cites this file.
use Rattle.std.specs.Prelude.{ℕ, ◌-◌, ◌≤◌, ◌<◌, ◌≡◌, Bool, true, false, ◌&&◌, Option, Some, None, List, length, get_or, eqb, ltb}
use Prim.Native.Char.{code}
use Rattle.text_bytes.specs.Text.{starts_with}
use Rattle.tape_markup.specs.declared.Place.{Place}
use Rattle.tape_markup.specs.declared.Step.{Step}
use Rattle.tape_markup.specs.declared.tokens.Opening.{Opening}
use Rattle.tape_markup.specs.Markup.{End, after, never, comment_start, plain_start, instruction_start, declaration_start, end_tag_start}

-- An end, as a position behind the one from which it was looked for.
pub record EndAt (end : End) (text : List ℕ) (at next : ℕ) : Type 0 where
  pub size : end ≡ after (next - at)
  pub beyond : at < next
  pub within : next ≤ length text

abbrev pub EndFound : End → List ℕ → ℕ → Option ℕ → Type 0
EndFound end text at (Some next) = EndAt end text at next
EndFound end text at None = end ≡ never

-- A tag whose name ends at one position and itself at another, with a `/` right before its `>`.
abbrev pub is_alone : List ℕ → ℕ → ℕ → Bool
is_alone text to end = ltb 1 (end - to) && eqb (get_or text (end - 2) 0) (code "/")

-- A byte that ends a declaration, with a quote and brackets open or not.
abbrev pub ends_declaration : ℕ → ℕ → ℕ → Bool
ends_declaration quote depth b = eqb quote 0 && eqb depth 0 && eqb b (code ">")

abbrev pub past_to : Option ℕ → Step
past_to (Some next) = Step.Past (Place.Text next)
past_to None = Step.Broken

-- Which kind of markup a text begins. Each is tried only where those before it do not fit.
abbrev pub OpeningMet : List ℕ → Opening → Type 0
OpeningMet text Opening.Comment = starts_with comment_start text ≡ true
OpeningMet text Opening.Plain = (starts_with comment_start text ≡ false) × (starts_with plain_start text ≡ true)
OpeningMet text Opening.Instruction =
    (starts_with comment_start text ≡ false) × (starts_with plain_start text ≡ false) × (starts_with instruction_start text ≡ true)
OpeningMet text Opening.Declaration =
    (starts_with comment_start text ≡ false)
    × (starts_with plain_start text ≡ false)
    × (starts_with instruction_start text ≡ false)
    × (starts_with declaration_start text ≡ true)
OpeningMet text Opening.EndTag =
    (starts_with comment_start text ≡ false)
    × (starts_with plain_start text ≡ false)
    × (starts_with instruction_start text ≡ false)
    × (starts_with declaration_start text ≡ false)
    × (starts_with end_tag_start text ≡ true)
OpeningMet text Opening.StartTag =
    (starts_with comment_start text ≡ false)
    × (starts_with plain_start text ≡ false)
    × (starts_with instruction_start text ≡ false)
    × (starts_with declaration_start text ≡ false)
    × (starts_with end_tag_start text ≡ false)
