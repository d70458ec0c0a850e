-- What the writer of picked sheets answers, for every input, and the two rows that it leaves.
use Rattle.std.specs.Prelude.{ℕ, ◌≡◌, Result, Ok, Err, cond, not, ◌||◌, List, [], ◌∷◌, length, ltb}
use Rattle.refusals.specs.declared.Refusal.TheVariants.{WantRows, ShortRow, BadName}
use Rattle.refusals.specs.declared.Verdict.{Verdict}
use Rattle.refusals.specs.Refusals.{is_refusal, refuse_if, first_of}
use Rattle.text_bytes.specs.Text.{is_name}
use Rattle.text_paths.specs.Paths.{paths_verdict}
use Rattle.sheet_writer.specs.Writing.{written_row}
use Rattle.sheet_picks.specs.declared.Picks.{Picks}
use Rattle.sheet_picks.specs.Entries.{most_entries, EntriesOf}
use Rattle.sheet_picks.specs.Sheets.{picked_sheet}
use Rattle.sheet_picks.specs.Names.{names_text}

-- 13, then 11 and 5 of the list, then 3 for over 64 entries.
unfoldable pub picks_verdict : List ℕ → List ℕ → ℕ → Verdict
picks_verdict name list entries = first_of (refuse_if (not (is_name name)) BadName ∷ paths_verdict list ∷ refuse_if (ltb most_entries entries) WantRows ∷ [])

-- 8 last, when either row is shorter than its text.
abbrev pub text_rows_verdict : List ℕ → List ℕ → List ℕ → List ℕ → Verdict
text_rows_verdict sheet named out names = refuse_if (ltb (length out) (length sheet) || ltb (length names) (length named)) ShortRow

-- The answer to a verdict and two texts, and the rows: how many bytes each text has, each text, then the later bytes as they were; on a refusal the verdict
-- alone, and the whole row as it was.
pub record PicksHanded (v : Verdict) (sheet named out names : List ℕ) (r : Result Picks Verdict) (out' names' : List ℕ) : Type 0 where
  pub answer : r ≡ cond (is_refusal v.refusal) (Err v) (Ok (record { bytes = length sheet; named = length named }))
  pub sheet_left : out' ≡ written_row v sheet out
  pub names_left : names' ≡ written_row v named names

abbrev pub HandedFor : Verdict → List ℕ → List ℕ → List ℕ → List ℕ → Result Picks Verdict → List ℕ → List ℕ → Type 0
HandedFor v sheet named out names r out' names' = PicksHanded (first_of (v ∷ text_rows_verdict sheet named out names ∷ [])) sheet named out names r out' names'

-- The writer: the entries of the wanted files, and the answer for them.
pub record PicksWritten (name list starts ends head turn out names : List ℕ) (r : Result Picks Verdict) (out' names' : List ℕ) : Type 0 where
  pub firsts : List ℕ
  pub lasts : List ℕ
  pub entries : EntriesOf starts ends firsts lasts
  pub handed : HandedFor (picks_verdict name list (length firsts)) (picked_sheet name starts firsts lasts head turn) (names_text list starts firsts lasts) out names r out' names'
