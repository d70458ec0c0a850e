-- A run sheet mended: the text of the mended sheet, a line for each change, what is answered, for every input of bytes, and the rows that take the two
-- texts. The sheet's parts are those of `sheet_loose`.
use Rattle.std.specs.Prelude.{ℕ, suc, zero, ◌+◌, ◌-◌, ◌≡◌, Bool, cond, not, ◌||◌, List, [], ◌∷◌, ◌++◌, length, take, eqb, ltb}
use Rattle.refusals.specs.declared.Refusal.TheVariants.{Accepted, WantRows, TooManyReads, ShortRow, LongSheet}
use Rattle.refusals.specs.declared.Verdict.{Verdict}
use Rattle.refusals.specs.Refusals.{is_refusal, refuse_if, first_of}
use Rattle.runs.specs.Run.{most_wants, most_reads}
use Rattle.text_bytes.specs.Text.{bytes, comma, decimal}
use Rattle.text_lines.specs.Lines.{after_lines}
use Rattle.sheet_reader.specs.Lines.{turn_key, rule_key, least_text, files_key, wants_key, want_key}
use Rattle.sheet_reader.specs.Sheet.{longest_sheet, sheet_turn, says_sweep, sheet_files, file_text}
use Rattle.sheet_reader.specs.Reading.{read_row}
use Rattle.sheet_loose.specs.Loose.{loose_files, wants_said, price_left_out, wanted_files, wanted_counts}
use Rattle.sheet_loose.specs.Reading.{loose_verdict}
use Rattle.text_pages.specs.Printing.{line, number_line, pair_lines}
use Rattle.answer_mend.specs.declared.Mended.{Mended}
use Rattle.answer_mend.specs.declared.wants.Fate.{Fate}
use Rattle.answer_mend.specs.declared.wants.Fate.TheVariants.{Stays, Moved, Added, Dropped}
use Rattle.answer_mend.specs.Wants.{remaining, reads_in_all, reads_each, fate_of}

-- The first lines of a text, byte for byte.
abbrev pub first_lines : ℕ → List ℕ → List ℕ
first_lines n text = take (length text - length (after_lines n text)) text

-- The files that remain of a sheet's want lines, ascending, and the reads of each.
unfoldable pub sheet_remaining : List ℕ → List ℕ
sheet_remaining sheet = remaining (wanted_files sheet) (wanted_counts sheet) (length (wanted_files sheet))

unfoldable pub sheet_reads : List ℕ → List ℕ
sheet_reads sheet = reads_each (wanted_files sheet) (wanted_counts sheet) (sheet_remaining sheet)

-- The mended sheet: the first two lines as they stand, the price written out, the rule, the file lines as they stand, the wants that remain; each count
-- says how many lines follow.
unfoldable pub mended_text : List ℕ → List ℕ
mended_text sheet =
    first_lines 2 sheet
    ++ number_line turn_key (sheet_turn sheet)
    ++ line rule_key least_text
    ++ number_line files_key (loose_files sheet)
    ++ first_lines (loose_files sheet) (file_text sheet)
    ++ number_line wants_key (length (sheet_remaining sheet))
    ++ pair_lines want_key (sheet_remaining sheet) (sheet_reads sheet)

-- A change: the number of the old line, and what happened to it.
abbrev pub change_line : ℕ → List ℕ → List ℕ
change_line n word = bytes "change=" ++ decimal n ++ line (comma ∷ []) word

abbrev pub change_if : Bool → ℕ → List ℕ → List ℕ
change_if changed n word = cond changed (change_line n word) []

abbrev pub fate_line : ℕ → Fate → List ℕ
fate_line n Stays = []
fate_line n Moved = change_line n (bytes "moved")
fate_line n Added = change_line n (bytes "added")
fate_line n Dropped = change_line n (bytes "dropped")

-- The fates of so many want lines, the first of which stands behind the line `above`.
unfoldable pub fate_lines : ℕ → List ℕ → List ℕ → ℕ → List ℕ
fate_lines above files counts zero = []
fate_lines above files counts (suc i) = fate_lines above files counts i ++ fate_line (above + (i + 1)) (fate_of files counts i)

-- The changes, in the order of the old lines: the price left out, the retired rule, a count that is not the number of lines written below it, and the
-- want lines that do not stay.
unfoldable pub changes_text : List ℕ → List ℕ
changes_text sheet =
    change_if (price_left_out sheet) 3 (bytes "turn")
    ++ change_if (says_sweep sheet) 4 (bytes "rule")
    ++ change_if (not (eqb (sheet_files sheet) (loose_files sheet))) 5 (bytes "files")
    ++ change_if (not (eqb (wants_said sheet) (length (sheet_remaining sheet)))) (loose_files sheet + 6) (bytes "wants")
    ++ fate_lines (loose_files sheet + 6) (wanted_files sheet) (wanted_counts sheet) (length (wanted_files sheet))

-- 3 when over 64 wants remain, then 5 when the reads pass 1,024.
abbrev pub wants_verdicts : List ℕ → List Verdict
wants_verdicts sheet =
    refuse_if (ltb most_wants (length (sheet_remaining sheet))) WantRows
    ∷ refuse_if (ltb most_reads (reads_in_all (wanted_counts sheet))) TooManyReads
    ∷ []

-- Then 12 when the mended sheet would be over the limit, then 8 when either row is too short.
abbrev pub texts_verdicts : List ℕ → List ℕ → List ℕ → List ℕ → List Verdict
texts_verdicts text changes out notes =
    refuse_if (ltb longest_sheet (length text)) LongSheet
    ∷ refuse_if (ltb (length out) (length text) || ltb (length notes) (length changes)) ShortRow
    ∷ []

unfoldable pub mend_verdict : List ℕ → List ℕ → List ℕ → Verdict
mend_verdict sheet out notes =
    first_of (loose_verdict sheet ∷ first_of (wants_verdicts sheet) ∷ first_of (texts_verdicts (mended_text sheet) (changes_text sheet) out notes) ∷ [])

-- A refusal's answer: kind and place, every other number 0.
abbrev pub refused_mending : Verdict → Mended
refused_mending v = record { refusal = v.refusal; place = v.place; bytes = 0; noted = 0 }

-- The answer to a verdict and two texts, and the rows: each text, then the later bytes as they were; on a refusal the whole row as it was.
pub record MendHanded (v : Verdict) (text changes out notes : List ℕ) (r : Mended) (out' notes' : List ℕ) : Type 0 where
  pub answer : r ≡ cond (is_refusal v.refusal) (refused_mending v) (record { refusal = Accepted; place = 0; bytes = length text; noted = length changes })
  pub sheet : out' ≡ read_row v text out
  pub listed : notes' ≡ read_row v changes notes

-- The mender.
abbrev pub SheetMended : List ℕ → List ℕ → List ℕ → Mended → List ℕ → List ℕ → Type 0
SheetMended sheet out notes r out' notes' = MendHanded (mend_verdict sheet out notes) (mended_text sheet) (changes_text sheet) out notes r out' notes'
