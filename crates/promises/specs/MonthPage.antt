-- The page of a month (L13), line by line. What the numbers are, `MonthFigures` says of the runs.
use Rattle.std.specs.Prelude.{ℕ, suc, ◌<◌, ◌≡◌, List, [], ◌∷◌, ◌++◌, take}
use Rattle.refusals.specs.declared.Refusal.TheVariants.{Accepted}
use Rattle.refusals.specs.declared.Verdict.{Verdict}
use Rattle.text_bytes.specs.Text.{bytes, decimal}
use Rattle.answer_month.specs.declared.Month.{Month}
use Rattle.answer_month.specs.declared.Mean.{Mean}
use Rattle.answer_month.specs.Page.{PagePut}
use Rattle.promises.specs.Months.{MeanIs}
use Rattle.promises.specs.Answers.{two_lines}
use Rattle.promises.specs.Texts.{pair}

-- The runs refused with a number, with the next one and so on: how many of these numbers have runs, and a line for each that has, in their order.
pub data RefusalsTold : List ℕ → ℕ → ℕ → List ℕ → Type 0 where
  no_more : {number : ℕ} → RefusalsTold [] number 0 []
  no_runs : {number kinds : ℕ} {rest text : List ℕ} → RefusalsTold rest (suc number) kinds text → RefusalsTold (0 ∷ rest) number kinds text
  some_runs : {number runs kinds : ℕ} {rest text : List ℕ}
      → 0 < runs
      → RefusalsTold rest (suc number) kinds text
      → RefusalsTold (runs ∷ rest) number (suc kinds) ((bytes "refusal=" ++ pair number runs ++ bytes "\n") ++ text)

-- The page: what was accepted and refused; reads, sum and mean; the longest time with its tape and file; what the plans save; and the two lines of a refusal
-- of the input, where it is refused.
pub record PageTells (m : Month) (v : Verdict) (page : List ℕ) : Type 0 where
  pub kinds : ℕ
  pub refusals : List ℕ
  pub listed : RefusalsTold m.refused 0 kinds refusals
  pub mean : Mean
  pub exact : MeanIs m.sum m.reads mean
  pub last : List ℕ
  pub good : v.refusal ≡ Accepted → last ≡ []
  pub bad : (v.refusal ≡ Accepted → ⊥) → last ≡ two_lines v.refusal v.place
  pub whole : page
      ≡ ((bytes "accepted=" ++ decimal m.accepted ++ bytes "\n") ++ (bytes "refusals=" ++ decimal kinds ++ bytes "\n") ++ refusals)
      ++ ((bytes "reads=" ++ decimal m.reads ++ bytes "\n") ++ (bytes "sum=" ++ decimal m.sum ++ bytes "\n") ++ (bytes "mean=" ++ pair mean.whole mean.rest ++ bytes "\n"))
      ++ (bytes "longest=" ++ decimal m.time ++ bytes "," ++ take m.letters m.tape ++ (bytes "," ++ decimal m.file ++ bytes "\n"))
      ++ ((bytes "saved=" ++ decimal m.saved ++ bytes "\n") ++ last)

-- Whatever row is lent: if anything stands in it, that is the page. `MonthIsWhole` says that something does.
abbrev pub PageTellsAll : Type 0
PageTellsAll =
    (m : Month) (v : Verdict) (row : List ℕ) (n : ℕ) (row' : List ℕ)
    → PagePut m v row n row'
    → 0 < n
    → PageTells m v (take n row')
