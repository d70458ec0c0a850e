-- The contract determines the answer's bytes.
use Prim.Native.Nat.{ℕ}
use mathlib.Core.Path.{◌≡◌, refl, sym, ap, ◌∙◌}
use mathlib.Core.Bool.{Bool, true, false}
use mathlib.Core.List.{List, map}
use Rattle.refusals.specs.declared.Verdict.{Verdict}
use Rattle.refusals.specs.Refusals.{is_refusal}
use Rattle.runs.specs.Run.{Run, stops_of}
use Rattle.least.proofs.LeastList.{least_unique}
use Rattle.sheet_figures.specs.FigureSheet.{figure_text}
use Rattle.answer_plan.specs.Recall.{bytes_put, row_put}
use Rattle.answer_buys.specs.Buys.{BuysText, AnswersBuys, BuysWritten, SheetBought}

module _ (v : Verdict) (name : List ℕ) (run : Run) where
  figured_once_here : (text text' : List ℕ) → BuysText name run text → BuysText name run text' → text ≡ text'
  figured_once_here text text' p q =
      p.says
      ∙ ap (λ l. figure_text name run (map (λ d. d.from) l) (map (λ d. d.to) l)) (least_unique run.turn run.head (stops_of run) p.list q.list p.least q.least)
      ∙ sym q.says

  answer_once_here : (text text' : List ℕ) → AnswersBuys v name run text → AnswersBuys v name run text' → text ≡ text'
  answer_once_here text text' p q = go (is_refusal v.refusal) refl
    where
      go : (b : Bool) → is_refusal v.refusal ≡ b → text ≡ text'
      go true e = p.refused e ∙ sym (q.refused e)
      go false e = figured_once_here text text' (p.figured e) (q.figured e)

  bought_once : (row : List ℕ) (n n' : ℕ) (row' row'' : List ℕ) → BuysWritten v name run row n row' → BuysWritten v name run row n' row'' → (n ≡ n') × (row' ≡ row'')
  bought_once row n n' row' row'' p q =
      let e = answer_once_here p.text q.text p.answers q.answers in
      (p.bytes ∙ ap (λ t. bytes_put t row) e ∙ sym q.bytes, p.left ∙ ap (λ t. row_put t row) e ∙ sym q.left)

-- Two results that fit the contract are equal.
pub buys_determined : (sheet row : List ℕ) (n n' : ℕ) (row' row'' : List ℕ) → SheetBought sheet row n row' → SheetBought sheet row n' row'' → (n ≡ n') × (row' ≡ row'')
buys_determined sheet row n n' row' row'' p q = bought_once _ _ _ row n n' row' row'' p q
