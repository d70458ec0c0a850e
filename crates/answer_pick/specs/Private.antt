-- What the private functions ask and find. No public contract cites this file.
use Rattle.std.specs.Prelude.{ℕ, ◌≡◌, Result, Ok, Err, Bool, true, not, ◌&&◌, ◌||◌, List, [], ◌∷◌, length, get_or, eqb, ltb}
use Rattle.refusals.specs.declared.OwnRefusal.TheVariants.{UnknownPath, NoBytes}
use Rattle.refusals.specs.declared.Refusal.TheVariants.{FarFile}
use Rattle.refusals.specs.declared.Verdict.{Verdict}
use Rattle.refusals.specs.Refusals.{first_where, number_of, own_number_of}
use Rattle.runs.specs.Run.{last_place}
use Rattle.tape_markup.specs.Tree.{is_balanced, tree_of}
use Rattle.tape_files.specs.declared.Label.{Label}
use Rattle.tape_files.specs.Values.{is_value, value_in}
use Rattle.tape_files.specs.Volumes.{other_volume}
use Rattle.tape_picks.specs.Picks.{FilesFound}
use Rattle.sheet_picks.specs.declared.Picks.{Picks}
use Rattle.sheet_picks.specs.Writing.{PicksWritten}
use Rattle.answer_pick.specs.declared.Picked.{Picked}
use Rattle.answer_pick.specs.declared.Refused.{Refused}
use Rattle.answer_pick.specs.declared.lines.Test.{Test}
use Rattle.answer_pick.specs.Picks.{are_readable, tape_of, refused_at, first_refused}

-- A line that is refused, by what was found for it: its state, or the end of its file.
abbrev pub is_bad : Test → ℕ → Bool
is_bad Test.Unknown state = eqb state 0 || eqb state 2
is_bad Test.NoBytes state = eqb state 3
is_bad Test.Far end = ltb last_place end

abbrev pub first_bad : Test → List ℕ → ℕ
first_bad test row = first_where (λ i. is_bad test (get_or row i 0)) (length row)

abbrev pub row_checks : List ℕ → List ℕ → Refused
row_checks states ends =
    first_refused
    (refused_at (first_bad Test.Unknown states) (own_number_of UnknownPath)
    ∷ refused_at (first_bad Test.NoBytes states) (own_number_of NoBytes)
    ∷ refused_at (first_bad Test.Far ends) (number_of FarFile)
    ∷ [])

-- What a label says, where it is good.
abbrev pub label_says : ℕ → List ℕ → Label → Bool
label_says unit label read = is_balanced label && (is_value read.size && is_value read.partition) && (eqb unit 0 || not (eqb (value_in read.size) 0))

-- 44 where the texts can be read.
abbrev pub other_if : Bool → List ℕ → List ℕ → Bool
other_if good label index = good && other_volume (tree_of label) (tree_of index)

-- A verdict by the number of its kind.
abbrev pub numbered : Verdict → Refused
numbered v = record { number = number_of v.refusal; place = v.place }

-- The answer of a refusal, and of what the sheet's writer answered.
abbrev pub refused_answer : Refused → Picked
refused_answer v = record { number = v.number; place = v.place; bytes = 0; named = 0 }

abbrev pub picked_of : Result Picks Verdict → Picked
picked_of (Ok p) = record { number = 0; place = 0; bytes = p.bytes; named = p.named }
picked_of (Err v) = refused_answer (numbered v)

-- The lines judged by their rows, then both texts or neither.
pub record LinesPicked (name list states starts ends head turn out names : List ℕ) (r : Picked) (out' names' : List ℕ) : Type 0 where
  pub picks : Result Picks Verdict
  pub refused : ((row_checks states ends).number ≡ 0 → ⊥) → (r ≡ refused_answer (row_checks states ends)) × (out' ≡ out) × (names' ≡ names)
  pub written : (row_checks states ends).number ≡ 0 → PicksWritten name list starts ends head turn out names picks out' names' × (r ≡ picked_of picks)

-- An index that was read, and the rows of its files where it can be.
pub record IndexRead (unit : ℕ) (label index list states starts ends : List ℕ) (good : Bool) (states' starts' ends' : List ℕ) : Type 0 where
  pub judged : good ≡ are_readable unit label index
  pub found : good ≡ true → FilesFound (tape_of unit label) index list states starts ends true states' starts' ends'
