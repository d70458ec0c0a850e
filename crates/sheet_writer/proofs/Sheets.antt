-- What the run sheet writer answers and leaves in the row, step by step.
use Prim.Native.Nat.{ℕ, ◌≤◌}
use mathlib.Core.Path.{◌≡◌, refl, ap, sym, ◌∙◌}
use mathlib.Core.Bool.{Bool, true, false, not, ◌||◌, true≢false}
use mathlib.Core.List.{List, [], ◌∷◌, ◌++◌}
use native.Mathlib.Omega.{arith}
use lib.ListN.{length, take, drop, take-append-drop}
use lib.Dec.{ltb, leb}
use borrow.Author.Tests.{leb-true, ltb-false, not-false}
use Rattle.refusals.specs.declared.Refusal.TheVariants.{BadName, ShortRow}
use Rattle.refusals.specs.declared.Verdict.{Verdict}
use Rattle.std.specs.Prelude.{Result, Ok, Err}
use Rattle.refusals.specs.Refusals.{is_refusal, accepted, checked, refuse_if, first_of}
use Rattle.runs.specs.Run.{Run}
use Rattle.runs.specs.Judging.{judge_of}
use Rattle.runs.proofs.Judged.{accepted_run}
use Rattle.runs.proofs.Search.{or_false_both}
use Rattle.refusals.proofs.Verdicts.{AllAccept, all_accept, accepts_if}
use Rattle.refusals.proofs.Checked.{passed, stopped, last_decides}
use Rattle.sheet_writer.specs.declared.Written.{Written}
use Rattle.text_bytes.specs.Text.{is_name, is_name_byte, all_of, between}
use Rattle.sheet_reader.specs.Sheet.{most_sheet_files}
use Rattle.sheet_writer.specs.Writing.{sheet_text, checked_after, row_verdict, write_verdict, written_of, written_answer, written_row, Handed}
use Rattle.text_pages.specs.Printing.{Wrote, Put}
use Rattle.sheet_writer.specs.Private.{sheet_most, SheetFits}
use Rattle.text_bytes.proofs.Bytes.{and_true_both}

-- A name judged behind another check: the two in turn.
pub judged_after : (v w : Verdict) (before r : Result Unit Verdict) → before ≡ checked v → r ≡ checked_after before w → r ≡ checked (first_of (v ∷ w ∷ []))
judged_after v w before r is after = go (is_refusal v.refusal) refl (rw is at after)
  where
    go : (b : Bool) → is_refusal v.refusal ≡ b → r ≡ checked_after (checked v) w → r ≡ checked (first_of (v ∷ w ∷ []))
    go true e a = rw (e, e) (rw e at a)
    go false e a = rw e (last_decides w r (rw e at a))

-- A refusal: the answer is the refusal's, and the row stays.
pub refused_handed : (verdict e : Verdict) (text row : List ℕ) (n : ℕ) (r : Written) → Err e ≡ checked verdict → r ≡ written_of e n → Handed verdict text row r row
unfolding written_answer written_row
refused_handed verdict e text row n r said r-is = let s = stopped verdict e said in record { answer = r-is ∙ rw (← s.is, s.so); left = rw s.so }

-- A text is handed to a row that has room for it.
pub text_handed : (text row row' : List ℕ) (m : ℕ) → Put row 0 text (length text) row' m → (u : Unit) → Ok u ≡ checked (row_verdict text row) → (v : Verdict) → v ≡ accepted
    → (r : Written) → r ≡ written_of v (length text) → Handed (row_verdict text row) text row r row'
unfolding written_answer written_row row_verdict
text_handed text row row' m put u said v v-is r r-is =
    let fits = accepts_if (ltb (length row) (length text)) ShortRow refl (passed (row_verdict text row) u said) in
    let w = put.room (omega (arith, ltb-false (length row) (length text) fits)) in
    let size : length text ≡ m = omega (arith, w.after) in
    record {
      answer = r-is ∙ rw (v-is, fits);
      left = rw (fits, size, ← w.later) (sym (take-append-drop m row') ∙ ap (λ t. t ++ drop m row') w.bytes);
    }

-- The first bytes of a page are the text put there.
pub part_length : (page text : List ℕ) (most : ℕ) (page' : List ℕ) (n : ℕ) → Wrote page 0 text most page' n → n ≡ length (take n page')
part_length page text most page' n w = omega (arith, w.after, ap length w.bytes)

-- Handing out the first bytes of a page is handing out the text.
pub page_handed : (page text : List ℕ) (most : ℕ) (page' : List ℕ) (n : ℕ) → Wrote page 0 text most page' n → (verdict : Verdict) (row : List ℕ) → verdict ≡ row_verdict text row
    → (r : Written) (row' : List ℕ) → Handed (row_verdict (take n page') row) (take n page') row r row' → Handed verdict text row r row'
page_handed page text most page' n w verdict row e r row' h =
    record { answer = h.answer ∙ rw (e, ← w.bytes); left = h.left ∙ rw (e, ← w.bytes) }

-- Of two rows of checks the first decides where it refuses, else the second.
pub front_refuses : (vs ws : List Verdict) → is_refusal (first_of vs).refusal ≡ true → first_of (vs ++ ws) ≡ first_of vs
front_refuses [] ws e = absurd (true≢false (sym e))
front_refuses (v ∷ vs) ws e = go (is_refusal v.refusal) refl (front_refuses vs ws)
  where
    go : (f : Bool) → is_refusal v.refusal ≡ f → (is_refusal (first_of vs).refusal ≡ true → first_of (vs ++ ws) ≡ first_of vs) → first_of (v ∷ vs ++ ws) ≡ first_of (v ∷ vs)
    go true h rest = rw (h)
    go false h rest = rw (h) (rest (rw h at e))

pub front_passes : (vs ws : List Verdict) → is_refusal (first_of vs).refusal ≡ false → first_of (vs ++ ws) ≡ first_of ws
front_passes [] ws e = refl
front_passes (v ∷ vs) ws e = go (is_refusal v.refusal) refl (front_passes vs ws)
  where
    go : (f : Bool) → is_refusal v.refusal ≡ f → (is_refusal (first_of vs).refusal ≡ false → first_of (vs ++ ws) ≡ first_of ws) → first_of (v ∷ vs ++ ws) ≡ first_of ws
    go true h rest = absurd (true≢false (sym h ∙ (rw h at e)))
    go false h rest = rw h (rest (rw h at e))

-- The last check of a row of checks is the verdict, once the others have passed.
pub first_row : (b : Bool) → first_of (refuse_if b ShortRow ∷ []) ≡ refuse_if b ShortRow
first_row true = refl
first_row false = refl

pub last_verdict : (text row : List ℕ) → first_of (row_verdict text row ∷ []) ≡ row_verdict text row
unfolding row_verdict
last_verdict text row = first_row (ltb (length row) (length text))

pub name_length : (name : List ℕ) → is_name name ≡ true → length name ≤ 16
unfolding is_name
name_length name e =
    let both = and_true_both (between 1 16 (length name)) (all_of is_name_byte name) e in
    let bounds = and_true_both (leb 1 (length name)) (leb (length name) 16) both.0 in
    leb-true (length name) 16 bounds.1

-- The judging of the run, j, and the name's, handed on by `?`.
module _ (name : List ℕ) (j : Verdict) (over : Bool) where
  abbrev name_check : Verdict
  name_check = refuse_if (over || not (is_name name)) BadName

  pub judged_refused : (ws : List Verdict) (e : Verdict) → Err e ≡ checked (first_of (j ∷ name_check ∷ [])) → Err e ≡ checked (first_of (j ∷ name_check ∷ ws))
  judged_refused ws e said = said ∙ ap checked (sym (front_refuses (j ∷ name_check ∷ []) ws (stopped (first_of (j ∷ name_check ∷ [])) e said).so))

  module _ (u : Unit) (said : Ok u ≡ checked (first_of (j ∷ name_check ∷ []))) where
    pub judged_passes : (ws : List Verdict) → first_of (j ∷ name_check ∷ ws) ≡ first_of ws
    judged_passes ws = front_passes (j ∷ name_check ∷ []) ws (passed (first_of (j ∷ name_check ∷ [])) u said)

    passes : AllAccept (j ∷ name_check ∷ [])
    passes = all_accept (j ∷ name_check ∷ []) (passed (first_of (j ∷ name_check ∷ [])) u said)

    pub run_passes : is_refusal j.refusal ≡ false
    run_passes = passes.0

    name_passes : (over ≡ false) × (not (is_name name) ≡ false)
    name_passes = or_false_both over (not (is_name name)) (accepts_if (over || not (is_name name)) BadName refl passes.1.0)

    pub few_files : over ≡ false
    few_files = name_passes.0

    pub name_fits : length name ≤ 16
    name_fits = name_length name (not-false (is_name name) name_passes.1)

-- The run sheet writer.
module _ (name : List ℕ) (run : Run) (row : List ℕ) where
  abbrev over : Bool
  over = ltb most_sheet_files (length run.starts)

  pub write_refused : (e : Verdict) → Err e ≡ checked (first_of (judge_of run ∷ refuse_if (over || not (is_name name)) BadName ∷ [])) → Err e ≡ checked (write_verdict name run row)
  unfolding write_verdict
  write_refused = judged_refused name (judge_of run) over (row_verdict (sheet_text name run) row ∷ [])

  module _ (u : Unit) (said : Ok u ≡ checked (first_of (judge_of run ∷ refuse_if (over || not (is_name name)) BadName ∷ []))) where
    pub sheet_fits : (page : List ℕ) → sheet_most ≤ length page → SheetFits page name run.starts run.lengths run.aggregates run.numbers run.counts
    sheet_fits page room =
        let g = accepted_run run (run_passes name (judge_of run) over u said) in
        record {
          room = room;
          short = name_fits name (judge_of run) over u said;
          files = ltb-false most_sheet_files (length run.starts) (few_files name (judge_of run) over u said);
          table = g.files.table.equal;
          numbered = g.files.rows;
          wants = g.wants.few;
          pairs = g.wants.equal;
        }

    pub sheet_last : write_verdict name run row ≡ row_verdict (sheet_text name run) row
    unfolding write_verdict
    sheet_last = judged_passes name (judge_of run) over u said (row_verdict (sheet_text name run) row ∷ []) ∙ last_verdict (sheet_text name run) row

-- A writer's contract determines the answer and the row.
pub handed_determined : (v : Verdict) (text row : List ℕ) (r s : Written) (row' row'' : List ℕ) → Handed v text row r row' → Handed v text row s row'' → (r ≡ s) × (row' ≡ row'')
handed_determined v text row r s row' row'' p q = (p.answer ∙ sym q.answer, p.left ∙ sym q.left)
