-- The contracts determine the answers' bytes, the records and the room.
use Prim.Native.Nat.{ℕ}
use mathlib.Core.Path.{◌≡◌, refl, sym, ap, ◌∙◌, subst}
use mathlib.Core.Bool.{Bool, true, false}
use mathlib.Core.List.{List}
use lib.ListN.{length}
use Rattle.refusals.specs.declared.Verdict.{Verdict}
use Rattle.refusals.specs.Refusals.{is_refusal}
use Rattle.runs.specs.Run.{Run, stops_of}
use Rattle.runs.specs.Lists.{Detour}
use Rattle.least.specs.AnyHead.{LeastAny}
use Rattle.least.proofs.LeastAny.{least_any_unique}
use Rattle.std.specs.Prelude.{Option, Some, None}
use Rattle.text_inputs.specs.declared.Framed.{Framed}
use Rattle.sheet_reader.specs.Sheet.{sheet_run, sheet_name}
use Rattle.sheet_writer.specs.declared.Written.{Written}
use Rattle.sheet_writer.specs.Writing.{Handed, row_verdict}
use Rattle.sheet_writer.proofs.Sheets.{handed_determined}
use Rattle.answer_plan.specs.Recall.{bytes_put, row_put}
use Rattle.sheet_lists.specs.Form.{plan_froms, plan_tos}
use Rattle.answer_check.specs.RunRules.{RunRules, head_anywhere}
use Rattle.answer_check.specs.Pricing.{RowHolds, SheetPriced}
use Rattle.answer_check.specs.Checking.{check_text, verdict_on, VerdictOf, AnswersCheck, Checked, CheckGiven, SheetChecked, CheckAnswered}
use Rattle.answer_check.specs.Inputs.{framed_input, AnsweredIn, InputPriced, InputChecked}

-- One text in a row.
pub held_once : (text text' row : List ℕ) → text ≡ text' → (n n' : ℕ) (row' row'' : List ℕ) → RowHolds text row n row' → RowHolds text' row n' row'' → (n ≡ n') × (row' ≡ row'')
held_once text text' row e n n' row' row'' p q = (p.bytes ∙ ap (λ t. bytes_put t row) e ∙ sym q.bytes, p.left ∙ ap (λ t. row_put t row) e ∙ sym q.left)

pub price_determined : (sheet list row : List ℕ) (n n' : ℕ) (row' row'' : List ℕ) → SheetPriced sheet list row n row' → SheetPriced sheet list row n' row'' → (n ≡ n') × (row' ≡ row'')
price_determined sheet list row n n' row' row'' p q = held_once _ _ row refl n n' row' row'' p q

-- By rules of which a run has one least list.
module _ (rules : RunRules) (one : (run : Run) (list list' : List Detour) → rules.Least run list → rules.Least run list' → list ≡ list') (v : Verdict) (name : List ℕ) (run : Run) (plan froms tos : List ℕ) where
  verdict_once_here : (text text' : List ℕ) → VerdictOf rules name run plan froms tos text → VerdictOf rules name run plan froms tos text' → text ≡ text'
  verdict_once_here text text' p q = p.says ∙ ap (check_text rules name run plan froms tos) (one run p.list q.list p.least q.least) ∙ sym q.says

  -- One text answers.
  pub answer_once : (text text' : List ℕ) → AnswersCheck rules v name run plan froms tos text → AnswersCheck rules v name run plan froms tos text' → text ≡ text'
  answer_once text text' p q = go (is_refusal v.refusal) refl
    where
      go : (b : Bool) → is_refusal v.refusal ≡ b → text ≡ text'
      go true e = p.refused e ∙ sym (q.refused e)
      go false e = verdict_once_here text text' (p.checked e) (q.checked e)

  pub checked_once : (row : List ℕ) (n n' : ℕ) (row' row'' : List ℕ) → Checked rules v name run plan froms tos row n row' → Checked rules v name run plan froms tos row n' row'' → (n ≡ n') × (row' ≡ row'')
  checked_once row n n' row' row'' p q = held_once p.text q.text row (answer_once p.text q.text p.answers q.answers) n n' row' row'' p.holds q.holds

pub one_least : (run : Run) (list list' : List Detour) → LeastAny run list → LeastAny run list' → list ≡ list'
one_least run list list' p q = least_any_unique run.turn run.head (stops_of run) list list' p q

given_determined : (words : ℕ) (sheet plan row : List ℕ) (n n' : ℕ) (row' row'' : List ℕ) → CheckGiven head_anywhere words sheet plan row n row' → CheckGiven head_anywhere words sheet plan row n' row'' → (n ≡ n') × (row' ≡ row'')
given_determined words sheet plan row n n' row' row'' p q = checked_once head_anywhere one_least _ _ _ _ _ _ row n n' row' row'' p q

pub check_text_determined : (sheet plan row room : List ℕ) (n n' : ℕ) (row' row'' room' room'' : List ℕ) → SheetChecked sheet plan row room n row' room' → SheetChecked sheet plan row room n' row'' room''
    → (n ≡ n') × ((row' ≡ row'') × (room' ≡ room''))
check_text_determined sheet plan row room n n' row' row'' room' room'' p q =
    let same = given_determined (length room) sheet plan row n n' row' row'' p.given q.given in
    (same.0, (same.1, p.cleared ∙ sym q.cleared))

pub check_determined : (sheet plan row room : List ℕ) (w w' : Written) (row' row'' room' room'' : List ℕ) → CheckAnswered sheet plan row room w row' room' → CheckAnswered sheet plan row room w' row'' room''
    → (w ≡ w') × ((row' ≡ row'') × (room' ≡ room''))
check_determined sheet plan row room w w' row' row'' room' room'' p q = go (is_refusal (verdict_on (length room) sheet plan).refusal) refl
  where
    joined : (w ≡ w') × (row' ≡ row'') → (w ≡ w') × ((row' ≡ row'') × (room' ≡ room''))
    joined e = (e.0, (e.1, p.cleared ∙ sym q.cleared))

    go : (b : Bool) → is_refusal (verdict_on (length room) sheet plan).refusal ≡ b → (w ≡ w') × ((row' ≡ row'') × (room' ≡ room''))
    go true e = let a = p.refused e in let b = q.refused e in joined (a.says ∙ sym b.says, a.kept ∙ sym b.kept)
    go false e =
        let a = p.checked e in
        let b = q.checked e in
        let same = verdict_once_here head_anywhere one_least (verdict_on (length room) sheet plan) (sheet_name sheet) (sheet_run sheet) plan (plan_froms plan) (plan_tos plan) a.text b.text a.asked b.asked in
        joined (handed_determined (row_verdict b.text row) b.text row w w' row' row'' (subst (λ t. Handed (row_verdict t row) t row w row') same a.handed) b.handed)

-- Where the answer to two texts is determined, so is that to an input of both.
module _ (Answers : List ℕ → List ℕ → List ℕ → ℕ → List ℕ → Type 0)
    (once : (a b row : List ℕ) (n n' : ℕ) (row' row'' : List ℕ) → Answers a b row n row' → Answers a b row n' row'' → (n ≡ n') × (row' ≡ row'')) (input : List ℕ) where
  answered_once : (f : Option Framed) (row : List ℕ) (n n' : ℕ) (row' row'' : List ℕ) → AnsweredIn Answers input f row n row' → AnsweredIn Answers input f row n' row'' → (n ≡ n') × (row' ≡ row'')
  answered_once (Some f) row n n' row' row'' p q = once _ _ row n n' row' row'' p q
  answered_once None row n n' row' row'' p q = held_once _ _ row refl n n' row' row'' p q

pub price_input_determined : (input row : List ℕ) (n n' : ℕ) (row' row'' : List ℕ) → InputPriced input row n row' → InputPriced input row n' row'' → (n ≡ n') × (row' ≡ row'')
price_input_determined input row n n' row' row'' p q = answered_once SheetPriced price_determined input (framed_input input) row n n' row' row'' p q

pub check_input_determined : (input row room : List ℕ) (n n' : ℕ) (row' row'' room' room'' : List ℕ) → InputChecked input row room n row' room' → InputChecked input row room n' row'' room''
    → (n ≡ n') × ((row' ≡ row'') × (room' ≡ room''))
check_input_determined input row room n n' row' row'' room' room'' p q =
    let same = answered_once (CheckGiven head_anywhere (length room)) (given_determined (length room)) input (framed_input input) row n n' row' row'' p.given q.given in
    (same.0, (same.1, p.cleared ∙ sym q.cleared))
