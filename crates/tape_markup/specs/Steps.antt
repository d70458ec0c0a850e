-- One step of a reader from each place, whether or not the place lies in the text: what is met, and the place behind it.
use Rattle.std.specs.Prelude.{ℕ, ◌+◌, cond, ◌&&◌, List, [], ◌∷◌, length, drop, get_or, eqb, ltb}
use Prim.Native.Char.{code}
use Rattle.tape_markup.specs.declared.Place.{Place}
use Rattle.tape_markup.specs.declared.Step.{Step}
use Rattle.tape_markup.specs.Markup.{Piece, opens, alone, closes, plain, passed, broken, piece_of, front_of, is_char}

-- What a `<` at a position begins.
abbrev pub piece_step : ℕ → Piece → Step
piece_step at (opens name size) = Step.Start (at + 1) (at + 1 + name) (Place.Text (at + 1 + size))
piece_step at (alone name size) = Step.Start (at + 1) (at + 1 + name) (Place.Shut (at + 1) (at + 1 + name) (at + 1 + size))
piece_step at (closes name size) = Step.Finish (at + 2) (at + 2 + name) (Place.Text (at + 1 + size))
piece_step at (plain size) = Step.Past (Place.Plain (at + 9) (at + 1 + size))
piece_step at (passed size) = Step.Past (Place.Text (at + 1 + size))
piece_step at broken = Step.Broken

-- What stands at a position, given by what is left of the text there.
abbrev pub text_step : ℕ → List ℕ → Step
text_step at [] = Step.End
text_step at (b ∷ text) = cond (eqb b (code "<")) (piece_step at (piece_of text)) (Step.Byte b (Place.Text (at + 1)))

-- The bytes of a CDATA section stand before its `]]>`, which is passed over.
unfoldable pub step_at : List ℕ → Place → Step
step_at text (Place.Text at) = text_step at (drop at text)
step_at text (Place.Plain at end) =
    cond (ltb (at + 3) end && ltb at (length text)) (Step.Byte (get_or text at 0) (Place.Plain (at + 1) end)) (Step.Past (Place.Text end))
step_at text (Place.Shut from to at) = Step.Finish from to (Place.Text at)

-- The place behind the bytes of text at another: before the next `<`, or at the text's end. A place in a CDATA section, or before an end tag, stays.
unfoldable pub behind_text : List ℕ → Place → Place
behind_text text (Place.Text at) = Place.Text (at + front_of is_char (drop at text))
behind_text text (Place.Plain at end) = Place.Plain at end
behind_text text (Place.Shut from to at) = Place.Shut from to at
