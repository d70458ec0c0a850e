-- What the bytes of a name come to, one after the other. No public contract cites this file.
use Rattle.std.specs.Prelude.{ℕ, cond, Option, Some, None, List, eqb}
use Rattle.text_references.specs.declared.Reading.{Reading}
use Rattle.text_references.specs.References.{ampersand, semicolon, utf8}
use Rattle.text_references.specs.Readings.{unread, read_next, character_in}
use Rattle.text_order.specs.declared.Range.{Range}
use Rattle.text_order.specs.Order.{narrowed_in, narrowed_all}
use Rattle.tape_names.specs.declared.Begun.{Begun}
use Rattle.tape_names.specs.declared.Naming.{Naming}

-- Nothing is read yet.
abbrev pub no_naming : Range → Naming
no_naming range = record { whole = range; begun = None }

-- A `;` behind a reading: its character, or all of it as it stands.
unfoldable pub said_from : List ℕ → List ℕ → List ℕ → List ℕ → Range → Range → Reading → Range
said_from list starts ends order before longer reading = cond (eqb (character_in reading) 0) longer (narrowed_all list starts ends order before (utf8 (character_in reading)))

-- One more byte: a `&`; one behind no `&`; the `;` of a reference, or of none; one between the two.
abbrev pub begun_by : List ℕ → List ℕ → List ℕ → List ℕ → Option Begun → ℕ → Range → Naming
begun_by list starts ends order None byte longer = record { whole = longer; begun = None }
begun_by list starts ends order (Some begun) byte longer =
    cond (eqb byte semicolon)
    (record { whole = said_from list starts ends order begun.before longer begun.reading; begun = None })
    (record { whole = longer; begun = Some (record { before = begun.before; reading = read_next begun.reading byte }) })

abbrev pub naming_by : List ℕ → List ℕ → List ℕ → List ℕ → Naming → ℕ → Range → Naming
naming_by list starts ends order naming byte longer =
    cond (eqb byte ampersand) (record { whole = longer; begun = Some (record { before = naming.whole; reading = unread }) })
    (begun_by list starts ends order naming.begun byte longer)

unfoldable pub with_byte : List ℕ → List ℕ → List ℕ → List ℕ → Naming → ℕ → Naming
with_byte list starts ends order naming byte = naming_by list starts ends order naming byte (narrowed_in list starts ends order naming.whole byte)
