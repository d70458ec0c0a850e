-- The contracts determine the answer, the row and the room.
use Prim.Native.Nat.{ℕ}
use mathlib.Core.Path.{◌≡◌, refl, sym, ap, ◌∙◌, subst}
use mathlib.Core.Bool.{Bool, true, false}
use mathlib.Core.List.{List, map}
use lib.ListN.{length}
use Rattle.refusals.specs.Refusals.{is_refusal, accepted}
use Rattle.refusals.specs.declared.Verdict.{Verdict}
use Rattle.runs.specs.Run.{Run, stops_of}
use Rattle.least.proofs.LeastAny.{least_any_unique}
use Rattle.sheet_reader.specs.Sheet.{sheet_run, sheet_name}
use Rattle.sheet_writer.specs.declared.Written.{Written}
use Rattle.sheet_writer.specs.Writing.{Handed, row_verdict}
use Rattle.sheet_writer.specs.AnyHead.{plan_any_text}
use Rattle.sheet_writer.proofs.Sheets.{handed_determined}
use Rattle.answer_plan.specs.declared.PlannedList.{PlannedList}
use Rattle.answer_plan.specs.PlannedLists.{in_list, TextHanded}
use Rattle.answer_plan.proofs.Determined.{given_once}
use Rattle.answer_any.specs.AnyRun.{any_verdict, PlanAnyOf, SheetRecalledAny, SheetAnswered}
use Rattle.answer_any.specs.AnyLists.{ListsAny}

-- One plan sheet.
pub plan_any_once : (name : List ℕ) (run : Run) (text text' : List ℕ) → PlanAnyOf name run text → PlanAnyOf name run text' → text ≡ text'
plan_any_once name run text text' p q =
    p.says
    ∙ ap (λ l. plan_any_text name run (map (λ d. d.from) l) (map (λ d. d.to) l)) (least_any_unique run.turn run.head (stops_of run) p.list q.list p.least q.least)
    ∙ sym q.says

-- Two results that fit a contract are equal.
pub recall_any_determined : (sheet row room : List ℕ) (n n' : ℕ) (row' row'' room' room'' : List ℕ) → SheetRecalledAny sheet row room n row' room' → SheetRecalledAny sheet row room n' row'' room''
    → (n ≡ n') × ((row' ≡ row'') × (room' ≡ room''))
recall_any_determined sheet row room n n' row' row'' room' room'' p q =
    let same = given_once PlanAnyOf plan_any_once _ _ _ row n n' row' row'' p.given q.given in
    (same.0, (same.1, p.cleared ∙ sym q.cleared))

handed_once : (name : List ℕ) (run : Run) (row : List ℕ) (w w' : Written) (row' row'' : List ℕ) → TextHanded (PlanAnyOf name run) row w row' → TextHanded (PlanAnyOf name run) row w' row'' → (w ≡ w') × (row' ≡ row'')
handed_once name run row w w' row' row'' p q =
    let e = plan_any_once name run p.text q.text p.asked q.asked in
    handed_determined (row_verdict q.text row) q.text row w w' row' row'' (subst (λ t. Handed (row_verdict t row) t row w row') e p.handed) q.handed

pub answer_determined : (sheet row room : List ℕ) (w w' : Written) (row' row'' room' room'' : List ℕ) → SheetAnswered sheet row room w row' room' → SheetAnswered sheet row room w' row'' room''
    → (w ≡ w') × ((row' ≡ row'') × (room' ≡ room''))
answer_determined sheet row room w w' row' row'' room' room'' p q = go (is_refusal (any_verdict (length room) sheet).refusal) refl
  where
    joined : (w ≡ w') × (row' ≡ row'') → (w ≡ w') × ((row' ≡ row'') × (room' ≡ room''))
    joined e = (e.0, (e.1, p.cleared ∙ sym q.cleared))

    go : (b : Bool) → is_refusal (any_verdict (length room) sheet).refusal ≡ b → (w ≡ w') × ((row' ≡ row'') × (room' ≡ room''))
    go true e = let a = p.refused e in let b = q.refused e in joined (a.says ∙ sym b.says, a.kept ∙ sym b.kept)
    go false e = joined (handed_once (sheet_name sheet) (sheet_run sheet) row w w' row' row'' (p.planned e) (q.planned e))

-- The list by value too.
pub lists_once : (v : Verdict) (run : Run) (room : List ℕ) (l l' : PlannedList) (room' room'' : List ℕ) → ListsAny v run room l room' → ListsAny v run room l' room'' → (l ≡ l') × (room' ≡ room'')
lists_once v run room l l' room' room'' p q = (go (is_refusal v.refusal) refl, p.cleared ∙ sym q.cleared)
  where
    go : (b : Bool) → is_refusal v.refusal ≡ b → l ≡ l'
    go true e = p.listed.refused e ∙ sym (q.listed.refused e)
    go false e =
        let a = p.listed.planned e in
        let b = q.listed.planned e in
        a.says ∙ ap (in_list accepted) (least_any_unique run.turn run.head (stops_of run) a.list b.list a.least b.least) ∙ sym b.says
