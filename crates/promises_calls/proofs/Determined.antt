-- Two results of a boarding, of an event, of a run sheet answered, of its figures or of a plan sheet checked, that fit the call's contract are equal, in the code and in every row.
use Prim.Native.Nat.{ℕ}
use mathlib.Core.Path.{◌≡◌, refl, sym, ap, ◌∙◌}
use mathlib.Core.Bool.{true, false, cond}
use mathlib.Core.Logic.{⊎_elim}
use mathlib.Core.List.{List, ◌∷◌}
use lib.ListN.{length, drop}
use Rattle.refusals.specs.declared.Verdict.{Verdict}
use Rattle.refusals.specs.Refusals.{is_refusal}
use Rattle.runs.specs.Run.{Run}
use Rattle.runs.specs.Lists.{Detour}
use Rattle.runs.proofs.Search.{true_or_false}
use Rattle.planner.specs.Rows.{Rows}
use Rattle.desk_boardings.specs.declared.BoardedRow.{BoardedRow}
use Rattle.desk_boardings.specs.Boardings.{Tape}
use Rattle.text_lines.specs.Lines.{line_of}
use Rattle.answer_desk.specs.declared.Answered.{Answered}
use Rattle.answer_desk.specs.Answers.{verdict_in}
use Rattle.answer_desk.specs.Events.{event_of}
use Rattle.answer_desk.proofs.Determined.{answer_determined}
use Rattle.desk_rows.proofs.Determined.{board_in_determined}
use Rattle.sheet_reader.specs.Sheet.{sheet_run, sheet_name}
use Rattle.sheet_writer.specs.Writing.{written_row}
use Rattle.sheet_lists.specs.Form.{plan_froms, plan_tos}
use Rattle.answer_any.specs.AnyRun.{any_verdict, PlanAnyOf}
use Rattle.answer_any.proofs.Determined.{plan_any_once}
use Rattle.answer_buys_any.specs.AnyBuys.{BuysAnyOf}
use Rattle.answer_buys_any.proofs.Determined.{buys_any_once}
use Rattle.answer_check.specs.RunRules.{head_anywhere}
use Rattle.answer_check.specs.Checking.{check_text, VerdictOf, verdict_on}
use Rattle.answer_check.proofs.Determined.{one_least}
use Rattle.boundary.specs.Boundary.{code_of, sums_with}
use Rattle.boundary_desk.specs.Records.{table_at, records_with, with_lasts, with_first, places_if}
use Rattle.boundary_desk.specs.Calls.{boarding_of, board_places, taken_with, BoardCalled, one_line, day_at, EventCalled}
use Rattle.boundary_texts.specs.Texts.{text_verdict, SheetCalled, AnswerCalled, BuysCalled, CheckCalled}

module _ (rows : List (List ℕ)) (lasts : List ℕ) (tape : Tape) (head turn : ℕ) (lent : Rows) (taken sums : List ℕ)
    (code code' : ℕ) (rows' rows'' : List (List ℕ)) (after after' : Rows) (taken' taken'' sums' sums'' : List ℕ)
    (p : BoardCalled rows lasts tape head turn lent taken sums code rows' after taken' sums')
    (q : BoardCalled rows lasts tape head turn lent taken sums code' rows'' after' taken'' sums'') where
  pub board_call_determined : (code ≡ code') × ((rows' ≡ rows'') × ((after ≡ after') × ((taken' ≡ taken'') × (sums' ≡ sums''))))
  board_call_determined =
      let e = board_in_determined (board_places rows lasts taken sums) tape (table_at rows) (boarding_of lasts head turn) lent p.done q.done after after' p.boards q.boards in (
        p.says ∙ ap (λ (d : BoardedRow). code_of (verdict_in d.boarded.answer)) e.0 ∙ sym q.says,
        (
          p.rows_are ∙ ap (λ (d : BoardedRow). cond (is_refusal d.boarded.answer.refusal) rows (records_with d.row rows)) e.0 ∙ sym q.rows_are,
          (
            e.1,
            (
              p.taken_is ∙ ap (λ (d : BoardedRow). cond (is_refusal d.boarded.answer.refusal) taken (taken_with (table_at rows) d.boarded taken)) e.0 ∙ sym q.taken_is,
              p.sums_are ∙ ap (λ (d : BoardedRow). cond (is_refusal d.boarded.answer.refusal) sums (sums_with d.boarded.answer sums)) e.0 ∙ sym q.sums_are,
            ),
          ),
        ),
      )

module _ (rows : List (List ℕ)) (lasts : List ℕ) (tape : Tape) (line out room sizes : List ℕ)
    (code code' : ℕ) (rows' rows'' : List (List ℕ)) (lasts' lasts'' out' out'' room' room'' sizes' sizes'' : List ℕ)
    (p : EventCalled rows lasts tape line out room sizes code rows' lasts' out' room' sizes')
    (q : EventCalled rows lasts tape line out room sizes code' rows'' lasts'' out'' room'' sizes'') where
  pub event_call_determined : (code ≡ code') × ((rows' ≡ rows'') × ((lasts' ≡ lasts'') × ((out' ≡ out'') × ((room' ≡ room'') × (sizes' ≡ sizes'')))))
  event_call_determined =
      let e =
      answer_determined (places_if 1 sizes (places_if 2 lasts (length rows))) tape (day_at rows lasts) room out p.done q.done room' room'' out' out'' (event_of (line_of (one_line line))) p.answers q.answers
      in (
        p.says ∙ ap (λ (d : Answered). code_of d.verdict) e.0 ∙ sym q.says,
        (
          p.rows_are ∙ ap (λ (d : Answered). cond (is_refusal d.verdict.refusal) rows (records_with d.day.row rows)) e.0 ∙ sym q.rows_are,
          (
            p.lasts_are ∙ ap (λ (d : Answered). cond (is_refusal d.verdict.refusal) lasts (with_lasts d.day.lasts lasts)) e.0 ∙ sym q.lasts_are,
            (
              e.1.1,
              (
                e.1.0,
                p.sizes_are ∙ ap (λ (d : Answered). cond (is_refusal d.verdict.refusal) sizes (with_first d.bytes sizes)) e.0 ∙ sym q.sizes_are,
              ),
            ),
          ),
        ),
      )

-- A call under a verdict on its sheets, where there is one text that can be asked for.
module _ (v : Verdict) (Asked : List ℕ → Type 0) (once : (text text' : List ℕ) → Asked text → Asked text' → text ≡ text') (out sizes : List ℕ) (code code' : ℕ) (out' out'' sizes' sizes'' : List ℕ)
    (p : SheetCalled v Asked out sizes code out' sizes') (q : SheetCalled v Asked out sizes code' out'' sizes'') where
  called_once : (code ≡ code') × ((out' ≡ out'') × (sizes' ≡ sizes''))
  called_once =
      ⊎_elim
      (λ (e : is_refusal v.refusal ≡ true).
      let a = p.refused e in
      let b = q.refused e in
      (a.says ∙ sym b.says, (a.out_is ∙ sym b.out_is, a.sizes_are ∙ sym b.sizes_are)))
      (λ (e : is_refusal v.refusal ≡ false).
      let a = p.answered e in
      let b = q.answered e in
      let same = once a.text b.text a.asked b.asked in (
        a.says ∙ ap (λ (t : List ℕ). code_of (text_verdict t out sizes)) same ∙ sym b.says,
        (
          a.out_is ∙ ap (λ (t : List ℕ). written_row (text_verdict t out sizes) t out) same ∙ sym b.out_is,
          a.sizes_are ∙ ap (λ (t : List ℕ). cond (is_refusal (text_verdict t out sizes).refusal) sizes (length t ∷ drop 1 sizes)) same ∙ sym b.sizes_are,
        ),
      ))
      (true_or_false (is_refusal v.refusal))

pub answer_call_determined : (sheet out room sizes : List ℕ) (code code' : ℕ) (out' out'' room' room'' sizes' sizes'' : List ℕ) → AnswerCalled sheet out room sizes code out' room' sizes' → AnswerCalled sheet out room sizes code' out'' room'' sizes''
    → ((code ≡ code') × ((out' ≡ out'') × (sizes' ≡ sizes''))) × (room' ≡ room'')
answer_call_determined sheet out room sizes code code' out' out'' room' room'' sizes' sizes'' p q = (
  called_once (any_verdict (length room) sheet) (PlanAnyOf (sheet_name sheet) (sheet_run sheet)) (plan_any_once (sheet_name sheet) (sheet_run sheet)) out sizes code code' out' out'' sizes' sizes'' p.called q.called,
  p.cleared ∙ sym q.cleared,
)

pub buys_call_determined : (sheet out room sizes : List ℕ) (code code' : ℕ) (out' out'' room' room'' sizes' sizes'' : List ℕ) → BuysCalled sheet out room sizes code out' room' sizes' → BuysCalled sheet out room sizes code' out'' room'' sizes''
    → ((code ≡ code') × ((out' ≡ out'') × (sizes' ≡ sizes''))) × (room' ≡ room'')
buys_call_determined sheet out room sizes code code' out' out'' room' room'' sizes' sizes'' p q = (
  called_once (any_verdict (length room) sheet) (BuysAnyOf (sheet_name sheet) (sheet_run sheet)) (buys_any_once (sheet_name sheet) (sheet_run sheet)) out sizes code code' out' out'' sizes' sizes'' p.called q.called,
  p.cleared ∙ sym q.cleared,
)

verdict_once : (name : List ℕ) (run : Run) (plan froms tos text text' : List ℕ) → VerdictOf head_anywhere name run plan froms tos text → VerdictOf head_anywhere name run plan froms tos text' → text ≡ text'
verdict_once name run plan froms tos text text' p q =
    p.says ∙ ap (λ (l : List Detour). check_text head_anywhere name run plan froms tos l) (one_least run p.list q.list p.least q.least) ∙ sym q.says

pub check_call_determined : (sheet plan out room sizes : List ℕ) (code code' : ℕ) (out' out'' room' room'' sizes' sizes'' : List ℕ) → CheckCalled sheet plan out room sizes code out' room' sizes' → CheckCalled sheet plan out room sizes code' out'' room'' sizes''
    → ((code ≡ code') × ((out' ≡ out'') × (sizes' ≡ sizes''))) × (room' ≡ room'')
check_call_determined sheet plan out room sizes code code' out' out'' room' room'' sizes' sizes'' p q = (
  called_once (verdict_on (length room) sheet plan) (VerdictOf head_anywhere (sheet_name sheet) (sheet_run sheet) plan (plan_froms plan) (plan_tos plan))
      (verdict_once (sheet_name sheet) (sheet_run sheet) plan (plan_froms plan) (plan_tos plan)) out sizes code code' out' out'' sizes' sizes'' p.called q.called,
  p.cleared ∙ sym q.cleared,
)
