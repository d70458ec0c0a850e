-- What pick answers, for every input, and the two rows that it leaves: the run sheet and the names, both or neither.
use Rattle.std.specs.Prelude.{ℕ, ◌≡◌, cond, ◌||◌, List, [], ◌∷◌, ◌++◌, length, drop, eqb, ltb}
use Rattle.refusals.specs.declared.Refusal.TheVariants.{WantRows, ShortRow}
use Rattle.refusals.specs.Refusals.{number_of}
use Rattle.text_lines.specs.Lines.{each_of}
use Rattle.text_paths.specs.Paths.{line_count}
use Rattle.sheet_picks.specs.Entries.{most_entries, EntriesOf}
use Rattle.sheet_picks.specs.Sheets.{picked_sheet}
use Rattle.sheet_picks.specs.Names.{names_text}
use Rattle.answer_pick.specs.declared.Refused.{Refused}
use Rattle.answer_pick.specs.declared.Picked.{Picked}
use Rattle.answer_pick.specs.Picks.{tape_of, asked_span, refused_if, first_refused, pick_refused}

-- Where the file of each line starts and ends.
abbrev pub asked_starts : ℕ → List ℕ → List ℕ → List ℕ → List ℕ
asked_starts unit label index list = each_of (λ i. (asked_span (tape_of unit label) index list i).start) (line_count list)

abbrev pub asked_ends : ℕ → List ℕ → List ℕ → List ℕ → List ℕ
asked_ends unit label index list = each_of (λ i. (asked_span (tape_of unit label) index list i).end) (line_count list)

-- 3 behind the other checks: over 64 entries. 8 last: either row is shorter than its text.
abbrev pub entries_refused : List ℕ → Refused
entries_refused firsts = refused_if (ltb most_entries (length firsts)) (number_of WantRows)

abbrev pub rows_refused : List ℕ → List ℕ → List ℕ → List ℕ → Refused
rows_refused sheet named out names = refused_if (ltb (length out) (length sheet) || ltb (length names) (length named)) (number_of ShortRow)

-- The answer of a refusal, whose sizes are 0, and of two texts.
abbrev pub answer_of : Refused → List ℕ → List ℕ → Picked
answer_of v sheet named =
    cond (eqb v.number 0) (record { number = 0; place = 0; bytes = length sheet; named = length named }) (record { number = v.number; place = v.place; bytes = 0; named = 0 })

-- A row afterwards: its text, then the later bytes as they were; on a refusal the whole row as it was.
abbrev pub row_after : Refused → List ℕ → List ℕ → List ℕ
row_after v text row = cond (eqb v.number 0) (text ++ drop (length text) row) row

pub record PickHanded (v : Refused) (sheet named out names : List ℕ) (r : Picked) (out' names' : List ℕ) : Type 0 where
  pub answer : r ≡ answer_of v sheet named
  pub sheet_left : out' ≡ row_after v sheet out
  pub names_left : names' ≡ row_after v named names

-- The whole: where the first checks accept, the entries of the files that are asked for; and the answer for them.
pub record PickAnswered (unit : ℕ) (name label index list head turn out names : List ℕ) (r : Picked) (out' names' : List ℕ) : Type 0 where
  pub firsts : List ℕ
  pub lasts : List ℕ
  pub entries : (pick_refused unit name label index list).number ≡ 0 → EntriesOf (asked_starts unit label index list) (asked_ends unit label index list) firsts lasts
  pub handed :
      PickHanded
      (first_refused
      (pick_refused unit name label index list
      ∷ entries_refused firsts
      ∷ rows_refused (picked_sheet name (asked_starts unit label index list) firsts lasts head turn) (names_text list (asked_starts unit label index list) firsts lasts) out names
      ∷ []))
      (picked_sheet name (asked_starts unit label index list) firsts lasts head turn)
      (names_text list (asked_starts unit label index list) firsts lasts)
      out
      names
      r
      out'
      names'
