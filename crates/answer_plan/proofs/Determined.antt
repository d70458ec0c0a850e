-- The contract determines the answer's bytes.
use Prim.Native.Nat.{ℕ}
use mathlib.Core.Path.{◌≡◌, refl, sym, ap, ◌∙◌}
use mathlib.Core.Bool.{Bool, true, false}
use mathlib.Core.List.{List, map}
use Rattle.refusals.specs.declared.Verdict.{Verdict}
use Rattle.refusals.specs.Refusals.{is_refusal, accepted}
use Rattle.runs.specs.Run.{Run, stops_of}
use Rattle.least.proofs.LeastList.{least_unique}
use Rattle.sheet_runs.specs.declared.SheetRun.{SheetRun}
use Rattle.sheet_writer.proofs.Sheets.{handed_determined}
use Rattle.sheet_writer.specs.PlanSheet.{plan_text}
use Rattle.answer_plan.specs.declared.PlannedList.{PlannedList}
use Rattle.answer_plan.specs.PlannedLists.{in_list, ListedUnder, ListWritten}
use Rattle.answer_plan.specs.Recall.{PlanOf, Answers, AnswersRun, Given, Recalled, SheetRecalled, bytes_put, row_put}

-- Where one text was asked for, one text answers, and one row holds it.
module _ (Asked : List ℕ → Run → List ℕ → Type 0) (once : (name : List ℕ) (run : Run) (text text' : List ℕ) → Asked name run text → Asked name run text' → text ≡ text') (v : Verdict) (name : List ℕ) (run : Run) where
  pub answers_once : (text text' : List ℕ) → Answers Asked v name run text → Answers Asked v name run text' → text ≡ text'
  answers_once text text' p q = go (is_refusal v.refusal) refl
    where
      go : (b : Bool) → is_refusal v.refusal ≡ b → text ≡ text'
      go true e = p.refused e ∙ sym (q.refused e)
      go false e = once name run text text' (p.planned e) (q.planned e)

  pub given_once : (row : List ℕ) (n n' : ℕ) (row' row'' : List ℕ) → Given Asked v name run row n row' → Given Asked v name run row n' row'' → (n ≡ n') × (row' ≡ row'')
  given_once row n n' row' row'' p q =
      let e = answers_once p.text q.text p.answers q.answers in
      (p.bytes ∙ ap (λ t. bytes_put t row) e ∙ sym q.bytes, p.left ∙ ap (λ t. row_put t row) e ∙ sym q.left)

plan_once : (name : List ℕ) (run : Run) (text text' : List ℕ) → PlanOf name run text → PlanOf name run text' → text ≡ text'
plan_once name run text text' p q =
    p.says
    ∙ ap (λ l. plan_text name run (map (λ d. d.from) l) (map (λ d. d.to) l)) (least_unique run.turn run.head (stops_of run) p.list q.list p.least q.least)
    ∙ sym q.says

pub answer_once : (v : Verdict) (name : List ℕ) (run : Run) (text text' : List ℕ) → AnswersRun v name run text → AnswersRun v name run text' → text ≡ text'
answer_once v name run text text' p q = answers_once PlanOf plan_once v name run text text' p q

pub recalled_once : (v : Verdict) (name : List ℕ) (run : Run) (row : List ℕ) (n n' : ℕ) (row' row'' : List ℕ) → Recalled v name run row n row' → Recalled v name run row n' row'' → (n ≡ n') × (row' ≡ row'')
recalled_once v name run row n n' row' row'' p q = given_once PlanOf plan_once v name run row n n' row' row'' p q

-- Two results that fit the contract are equal.
pub recall_determined : (sheet row : List ℕ) (n n' : ℕ) (row' row'' : List ℕ) → SheetRecalled sheet row n row' → SheetRecalled sheet row n' row'' → (n ≡ n') × (row' ≡ row'')
recall_determined sheet row n n' row' row'' p q = recalled_once _ _ _ row n n' row' row'' p q

-- So are two lists by value under one verdict, and what is written of one.
pub list_once : (v : Verdict) (run : Run) (l l' : PlannedList) → ListedUnder v run l → ListedUnder v run l' → l ≡ l'
list_once v run l l' p q = go (is_refusal v.refusal) refl
  where
    go : (b : Bool) → is_refusal v.refusal ≡ b → l ≡ l'
    go true e = p.refused e ∙ sym (q.refused e)
    go false e =
        let a = p.planned e in
        let b = q.planned e in
        a.says ∙ ap (in_list accepted) (least_unique run.turn run.head (stops_of run) a.list b.list a.least b.least) ∙ sym b.says

pub written_once : (sheet : List ℕ) (r : SheetRun) (l : PlannedList) (row : List ℕ) (n n' : ℕ) (row' row'' : List ℕ) → ListWritten sheet r l row n row' → ListWritten sheet r l row n' row'' → (n ≡ n') × (row' ≡ row'')
written_once sheet r l row n n' row' row'' p q = go (is_refusal l.verdict.refusal) refl
  where
    joined : (p.text ≡ q.text) × (row' ≡ row'') → (n ≡ n') × (row' ≡ row'')
    joined e = (p.bytes ∙ ap (λ x. x.bytes) e.0 ∙ sym q.bytes, e.1)

    go : (b : Bool) → is_refusal l.verdict.refusal ≡ b → (n ≡ n') × (row' ≡ row'')
    go true e = joined (handed_determined _ _ _ _ _ _ _ (p.refused e) (q.refused e))
    go false e = joined (handed_determined _ _ _ _ _ _ _ (p.planned e) (q.planned e))
