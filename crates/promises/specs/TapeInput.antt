-- The input of `ltfs`. Put together as described, and of at most 524,288 bytes, it is answered by the tape's own table: the run sheet, or the two lines of the
-- first refusal that applies; beside a sheet the report has two lines, beside a refusal none. Any other is refused by 13, where its first line is no tape line, else by 20.
use Rattle.std.specs.Prelude.{ℕ, ◌≤◌, ◌<◌, ◌≡◌, true, List, [], ◌++◌, length, take}
use Rattle.refusals.specs.declared.Refusal.{Refusal}
use Rattle.refusals.specs.declared.Refusal.TheVariants.{Accepted}
use Rattle.text_bytes.specs.Text.{bytes, is_name, decimal}
use Rattle.sheet_reader.specs.Lines.{tape_key}
use Rattle.answer_ltfs.specs.declared.Told.{Told}
use Rattle.tape_markup.specs.Tree.{tree_of}
use Rattle.tape_files.specs.Index.{data_partition_of, index_files}
use Rattle.answer_ltfs.specs.TapeTable.{is_empty_file, lies_elsewhere, how_many, ltfs_sheet}
use Rattle.answer_ltfs.specs.Input.{InputAnswered}
use Rattle.demands.specs.RefusalTable.{FirstThatApplies}
use Rattle.demands.specs.Lines.{Stands, Name}
use Rattle.demands.specs.Tapes.{TapeApplies, tape_order}
use Rattle.promises.specs.Lengths.{sheet_row, report_row}
use Rattle.promises.specs.Answers.{two_lines}

-- The two lines of the report: how many files were left out, empty or in the other partition.
abbrev pub left_out_lines : ℕ → ℕ → List ℕ
left_out_lines empty other = (bytes "empty=" ++ decimal empty ++ bytes "\n") ++ (bytes "other=" ++ decimal other ++ bytes "\n")

-- Name, label and index put together: a line with the name; a line with the label's number of bytes, and the label; so the index, and nothing behind it.
abbrev pub put_together : List ℕ → List ℕ → List ℕ → List ℕ
put_together name label index =
    (bytes "tape=" ++ name ++ bytes "\n")
    ++ ((bytes "label=" ++ decimal (length label) ++ bytes "\n")
    ++ (label
    ++ ((bytes "index=" ++ decimal (length index) ++ bytes "\n")
    ++ index)))

pub record TapePrinted (name label index row printed noted : List ℕ) : Type 0 where
  pub kind : Refusal
  pub place : ℕ
  pub first : FirstThatApplies (TapeApplies name label index row) tape_order kind place
  pub refused : (kind ≡ Accepted → ⊥) → printed ≡ two_lines kind place
  pub asked : kind ≡ Accepted → printed ≡ ltfs_sheet name label index
  pub silent : (kind ≡ Accepted → ⊥) → noted ≡ []
  pub left_out : kind ≡ Accepted
      → noted ≡ left_out_lines (how_many is_empty_file (index_files (tree_of index))) (how_many (lies_elsewhere (data_partition_of (tree_of label))) (index_files (tree_of index)))

-- The first bytes of rows as long as the program's are printed.
abbrev pub TapeByItsTable : Type 0
TapeByItsTable =
    (name label index out notes : List ℕ) (r : Told) (out' notes' : List ℕ)
    → is_name name ≡ true
    → length (put_together name label index) ≤ 524288
    → InputAnswered (put_together name label index) out notes r out' notes'
    → sheet_row ≤ length out
    → report_row ≤ length notes
    → TapePrinted name label index out (take r.bytes out') (take r.noted notes')

-- No tape line first; a longer input; one that is put together from no name, label and index. Nothing is reported beside the two lines.
pub record OthersRefused (input printed noted : List ℕ) : Type 0 where
  pub unnamed : (Stands tape_key Name input 0 → ⊥) → (printed ≡ bytes "refused=13\nplace=0\n") × (noted ≡ [])
  pub long : Stands tape_key Name input 0 → 524288 < length input → (printed ≡ bytes "refused=20\nplace=0\n") × (noted ≡ [])
  pub unframed : Stands tape_key Name input 0
      → ((name label index : List ℕ) → is_name name ≡ true → input ≡ put_together name label index → ⊥)
      → (printed ≡ bytes "refused=20\nplace=0\n") × (noted ≡ [])

abbrev pub OtherTapesRefused : Type 0
OtherTapesRefused =
    (input out notes : List ℕ) (r : Told) (out' notes' : List ℕ)
    → InputAnswered input out notes r out' notes'
    → sheet_row ≤ length out
    → report_row ≤ length notes
    → OthersRefused input (take r.bytes out') (take r.noted notes')
