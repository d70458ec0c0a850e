-- The page of a month, and the row that takes it.
use Rattle.std.specs.Prelude.{ℕ, suc, ◌+◌, ◌/◌, ◌%◌, ◌≡◌, cond, List, [], ◌∷◌, ◌++◌, take, eqb}
use Rattle.refusals.specs.declared.Verdict.{Verdict}
use Rattle.refusals.specs.Refusals.{number_of, is_refusal}
use Rattle.text_bytes.specs.Text.{bytes, comma, decimal}
use Rattle.text_pages.specs.Printing.{number_line, pair_line}
use Rattle.answer_plan.specs.Recall.{bytes_put, row_put}
use Rattle.answer_month.specs.declared.Month.{Month}
use Rattle.answer_month.specs.declared.Mean.{Mean}

-- How many numbers have runs refused with them, and a line for each of these: number and runs.
abbrev pub one_if : ℕ → ℕ
one_if runs = cond (eqb runs 0) 0 1

unfoldable pub kinds_in : List ℕ → ℕ
kinds_in [] = 0
kinds_in (runs ∷ rest) = one_if runs + kinds_in rest

unfoldable pub refusal_line : ℕ → ℕ → List ℕ
refusal_line number runs = cond (eqb runs 0) [] (pair_line (bytes "refusal=") number runs)

-- From a number on.
unfoldable pub refusal_lines : ℕ → List ℕ → List ℕ
refusal_lines number [] = []
refusal_lines number (runs ∷ rest) = refusal_line number runs ++ refusal_lines (suc number) rest

unfoldable pub month_top : ℕ → List ℕ → List ℕ
month_top accepted runs = number_line (bytes "accepted=") accepted ++ number_line (bytes "refusals=") (kinds_in runs) ++ refusal_lines 0 runs

-- The mean over the reads as whole part and remainder; 0 and 0 where nothing is read.
unfoldable pub mean_of : ℕ → ℕ → Mean
mean_of sum reads = cond (eqb reads 0) (record { whole = 0; rest = 0 }) (record { whole = sum / reads; rest = sum % reads })

unfoldable pub sums_text : ℕ → ℕ → List ℕ
sums_text reads sum =
    number_line (bytes "reads=") reads
    ++ number_line (bytes "sum=") sum
    ++ pair_line (bytes "mean=") (mean_of sum reads).whole (mean_of sum reads).rest

-- Time, tape and file.
unfoldable pub longest_text : ℕ → List ℕ → ℕ → List ℕ
longest_text time tape file = bytes "longest=" ++ decimal time ++ (comma ∷ []) ++ tape ++ number_line (comma ∷ []) file

-- The tape's letters: so many of its bytes.
abbrev pub month_tape : Month → List ℕ
month_tape m = take m.letters m.tape

-- What the plans save; and the lines of a refusal, where there is one.
unfoldable pub month_end : ℕ → Verdict → List ℕ
month_end saved v =
    number_line (bytes "saved=") saved
    ++ cond (is_refusal v.refusal) (number_line (bytes "refused=") (number_of v.refusal) ++ number_line (bytes "place=") v.place) []

-- The whole page of a month, and of a verdict on its input.
unfoldable pub page_text : Month → Verdict → List ℕ
page_text m v =
    month_top m.accepted m.refused
    ++ sums_text m.reads m.sum
    ++ longest_text m.time (month_tape m) m.file
    ++ month_end m.saved v

-- The number of its bytes, and the row that holds it; a row shorter than the page stays, and the number is 0.
pub record PagePut (m : Month) (v : Verdict) (row : List ℕ) (n : ℕ) (row' : List ℕ) : Type 0 where
  pub bytes : n ≡ bytes_put (page_text m v) row
  pub left : row' ≡ row_put (page_text m v) row
