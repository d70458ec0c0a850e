-- The contract determines the answer's bytes and the room.
use Prim.Native.Nat.{ℕ}
use mathlib.Core.Path.{◌≡◌, refl, sym, ap, ◌∙◌, subst}
use mathlib.Core.Bool.{Bool, true, false}
use mathlib.Core.List.{List, map}
use lib.ListN.{length}
use Rattle.refusals.specs.Refusals.{is_refusal}
use Rattle.runs.specs.Run.{Run, stops_of}
use Rattle.least.proofs.LeastAny.{least_any_unique}
use Rattle.sheet_reader.specs.Sheet.{sheet_run, sheet_name}
use Rattle.sheet_writer.specs.declared.Written.{Written}
use Rattle.sheet_writer.specs.Writing.{row_verdict, Handed}
use Rattle.sheet_writer.proofs.Sheets.{handed_determined}
use Rattle.sheet_figures.specs.AnyHead.{figure_any_text}
use Rattle.answer_plan.proofs.Determined.{given_once}
use Rattle.answer_any.specs.AnyRun.{any_verdict}
use Rattle.answer_buys_any.specs.AnyBuys.{BuysAnyOf, SheetBoughtAny, SheetFiguredAny}

-- One figure sheet.
pub buys_any_once : (name : List ℕ) (run : Run) (text text' : List ℕ) → BuysAnyOf name run text → BuysAnyOf name run text' → text ≡ text'
buys_any_once name run text text' p q =
    p.says
    ∙ ap (λ l. figure_any_text name run (map (λ d. d.from) l) (map (λ d. d.to) l)) (least_any_unique run.turn run.head (stops_of run) p.list q.list p.least q.least)
    ∙ sym q.says

-- Two results that fit the contract are equal.
pub buys_any_determined : (sheet row room : List ℕ) (n n' : ℕ) (row' row'' room' room'' : List ℕ) → SheetBoughtAny sheet row room n row' room' → SheetBoughtAny sheet row room n' row'' room''
    → (n ≡ n') × ((row' ≡ row'') × (room' ≡ room''))
buys_any_determined sheet row room n n' row' row'' room' room'' p q =
    let same = given_once BuysAnyOf buys_any_once _ _ _ row n n' row' row'' p.given q.given in
    (same.0, (same.1, p.cleared ∙ sym q.cleared))

pub figured_any_determined : (sheet row room : List ℕ) (w w' : Written) (row' row'' room' room'' : List ℕ) → SheetFiguredAny sheet row room w row' room' → SheetFiguredAny sheet row room w' row'' room''
    → (w ≡ w') × ((row' ≡ row'') × (room' ≡ room''))
figured_any_determined sheet row room w w' row' row'' room' room'' p q = go (is_refusal (any_verdict (length room) sheet).refusal) refl
  where
    joined : (w ≡ w') × (row' ≡ row'') → (w ≡ w') × ((row' ≡ row'') × (room' ≡ room''))
    joined e = (e.0, (e.1, p.cleared ∙ sym q.cleared))

    go : (b : Bool) → is_refusal (any_verdict (length room) sheet).refusal ≡ b → (w ≡ w') × ((row' ≡ row'') × (room' ≡ room''))
    go true e = let a = p.refused e in let b = q.refused e in joined (a.says ∙ sym b.says, a.kept ∙ sym b.kept)
    go false e =
        let a = p.figured e in
        let b = q.figured e in
        let same = buys_any_once (sheet_name sheet) (sheet_run sheet) a.text b.text a.asked b.asked in
        joined (handed_determined (row_verdict b.text row) b.text row w w' row' row'' (subst (λ t. Handed (row_verdict t row) t row w row') same a.handed) b.handed)
