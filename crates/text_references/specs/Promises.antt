-- What is promised of references. Readings come, byte by byte, to the character that is written (proofs/Written.antt). And a name can be decoded from left to right
-- without holding more of it than the reading behind its last `&` (proofs/Streams.antt): what follows changes nothing of what is decoded, but where it ends a reference.
use Rattle.std.specs.Prelude.{ℕ, ◌≡◌, false, cond, List, [], ◌∷◌, ◌++◌, eqb}
use Rattle.text_bytes.specs.Text.{has}
use Rattle.text_references.specs.References.{ampersand, semicolon, character_of, utf8, decoded}
use Rattle.text_references.specs.Readings.{unread, read_behind, character_in}

abbrev pub ReadingsSayCharacters : Type 0
ReadingsSayCharacters = (written : List ℕ) → character_in (read_behind unread written) ≡ character_of written

-- Whatever follows a text, and a `&` that follows it, begins anew.
abbrev pub Ended : List ℕ → Type 0
Ended text = (rest : List ℕ) → decoded (text ++ rest) ≡ decoded text ++ decoded rest

abbrev pub EndedBy : List ℕ → Type 0
EndedBy text = (rest : List ℕ) → decoded (text ++ ampersand ∷ rest) ≡ decoded text ++ decoded (ampersand ∷ rest)

-- A byte that is no `&` stands for itself.
pub record ByteDecoded (text : List ℕ) (b : ℕ) : Type 0 where
  pub ended : Ended (text ++ b ∷ [])
  pub said : decoded (text ++ b ∷ []) ≡ decoded text ++ b ∷ []

abbrev pub BytesSayThemselves : Type 0
BytesSayThemselves = (text : List ℕ) (b : ℕ) → Ended text → eqb b ampersand ≡ false → ByteDecoded text b

-- A `&` and what is written behind it, as long as no `;` and no other `&` is.
pub record Written (written : List ℕ) : Type 0 where
  pub unended : has semicolon written ≡ false
  pub alone : has ampersand written ≡ false

-- So far it stands for itself, and a further `&` leaves it so.
pub record ReferenceBegun (text written : List ℕ) : Type 0 where
  pub ended : EndedBy (text ++ ampersand ∷ written)
  pub said : decoded (text ++ ampersand ∷ written) ≡ decoded text ++ ampersand ∷ written

abbrev pub BegunSaysItself : Type 0
BegunSaysItself = (text written : List ℕ) → EndedBy text → Written written → ReferenceBegun text written

-- A `;` behind it: the character that was written, or all of it as it stands.
abbrev pub said_by : List ℕ → List ℕ
said_by written = cond (eqb (character_of written) 0) (ampersand ∷ (written ++ semicolon ∷ [])) (utf8 (character_of written))

pub record ReferenceEnded (text written : List ℕ) : Type 0 where
  pub ended : Ended (text ++ ampersand ∷ (written ++ semicolon ∷ []))
  pub said : decoded (text ++ ampersand ∷ (written ++ semicolon ∷ [])) ≡ decoded text ++ said_by written

abbrev pub EndedSaysCharacter : Type 0
EndedSaysCharacter = (text written : List ℕ) → EndedBy text → Written written → ReferenceEnded text written
