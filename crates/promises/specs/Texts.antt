-- Numbers as the statements on texts write them.
use Rattle.std.specs.Prelude.{ℕ, List, [], ◌∷◌, ◌++◌}
use Rattle.text_bytes.specs.Text.{bytes, decimal}

-- Numbers with commas between them.
abbrev pub pair : ℕ → ℕ → List ℕ
pair a b = decimal a ++ bytes "," ++ decimal b

abbrev pub triple : ℕ → ℕ → ℕ → List ℕ
triple a b c = pair a b ++ bytes "," ++ decimal c

-- A line for each pair of two rows, and for each triple of three, behind a key.
abbrev pub pairs_on : List ℕ → List ℕ → List ℕ → List ℕ
pairs_on key [] seconds = []
pairs_on key (a ∷ firsts) [] = []
pairs_on key (a ∷ firsts) (b ∷ seconds) = (key ++ pair a b ++ bytes "\n") ++ pairs_on key firsts seconds

abbrev pub triples_on : List ℕ → List ℕ → List ℕ → List ℕ → List ℕ
triples_on key [] seconds thirds = []
triples_on key (a ∷ firsts) [] thirds = []
triples_on key (a ∷ firsts) (b ∷ seconds) [] = []
triples_on key (a ∷ firsts) (b ∷ seconds) (c ∷ thirds) = (key ++ triple a b c ++ bytes "\n") ++ triples_on key firsts seconds thirds
