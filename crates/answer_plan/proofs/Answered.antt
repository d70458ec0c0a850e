-- From a sheet's run by value, its list and what is written of it to the answer to the sheet, whatever the engine checks and whatever the text is.
use Prim.Native.Nat.{ℕ, ◌-◌}
use mathlib.Core.Path.{◌≡◌, refl, sym, ap, ◌∙◌, subst}
use mathlib.Core.Bool.{Bool, true, false, not, true≢false}
use mathlib.Core.List.{List, [], ◌∷◌, map}
use lib.ListN.{length, take}
use lib.Seq.{take_at}
use Rattle.refusals.specs.declared.Refusal.TheVariants.{BadName}
use Rattle.refusals.specs.declared.Verdict.{Verdict}
use Rattle.refusals.specs.Refusals.{is_refusal, refuse_if, first_of}
use Rattle.refusals.proofs.Verdicts.{refuses, first_refuses, first_passes, all_accept}
use Rattle.runs.specs.Run.{Run, stops_of}
use Rattle.runs.specs.Alone.{zeros}
use Rattle.runs.specs.Judging.{judge_of}
use Rattle.runs.specs.Lists.{Detour, list_verdict}
use Rattle.least.specs.Least.{LeastForRun}
use Rattle.engine_stops.proofs.Halves.{list_accepted, list_of_halves, half_long, halves_even}
use Rattle.text_bytes.specs.Text.{is_name}
use Rattle.sheet_reader.specs.Sheet.{sheet_run, sheet_name}
use Rattle.sheet_reader.specs.Reading.{read_name}
use Rattle.sheet_runs.specs.declared.SheetRun.{SheetRun}
use Rattle.sheet_runs.specs.SheetRuns.{filled_up, run_by_value, run_held}
use Rattle.sheet_runs.proofs.Runs.{SheetHolds, refused_first, sheet_holds}
use Rattle.sheet_writer.specs.declared.Written.{Written}
use Rattle.sheet_writer.specs.Writing.{Handed, row_verdict}
use Rattle.sheet_writer.specs.RefusalLines.{refusal_text, RefusalWritten}
use Rattle.sheet_writer.specs.PlanSheet.{plan_text, plan_sheet_verdict}
use Rattle.sheet_writer.proofs.Sheets.{last_verdict}
use Rattle.answer_plan.specs.declared.PlannedList.{PlannedList}
use Rattle.answer_plan.specs.Recall.{verdict_by, TextOf, SheetGiven, SheetRecalledBy}
use Rattle.answer_plan.specs.PlannedLists.{ListsRun, RunListed, WrittenBy, ListWritten, TextHanded}
use Rattle.answer_plan.proofs.Planned.{handed_bytes, handed_row}

-- What is written of a name, a run and a list that are equal to others.
pub moved : (Writes : List ℕ → Run → List ℕ → List ℕ → List ℕ → Written → List ℕ → Type 0) {name name' : List ℕ} {run run' : Run} {froms froms' tos tos' row : List ℕ} {w : Written} {row' : List ℕ}
    → name ≡ name' → run ≡ run' → froms ≡ froms' → tos ≡ tos' → Writes name run froms tos row w row' → Writes name' run' froms' tos' row w row'
moved Writes {name' = name'} {run = run} {run' = run'} {froms = froms} {froms' = froms'} {tos = tos} {row = row} {w = w} {row' = row'} e f g h is =
    let named = subst (λ x. Writes x run froms tos row w row') e is in
    let ran = subst (λ x. Writes name' x froms tos row w row') f named in
    let started = subst (λ x. Writes name' run' x tos row w row') g ran in
    subst (λ x. Writes name' run' froms' x row w row') h started

-- What is written of a list by value: the lines of its refusal, or the text of the name, the run and the list that are taken from the rows.
module _ (Writes : List ℕ → Run → List ℕ → List ℕ → List ℕ → Written → List ℕ → Type 0) (sheet : List ℕ) (r : SheetRun) (l : PlannedList) (row : List ℕ) (f : Bool) (f-is : f ≡ is_refusal l.verdict.refusal) where
  pub refusal_written : f ≡ true → (w : Written) (row' : List ℕ) → RefusalWritten l.verdict row w row' → WrittenBy Writes sheet r l row w.bytes row'
  refusal_written e w row' h = record { text = w; bytes = refl; refused = λ q. h; planned = λ q. absurd (true≢false (sym e ∙ f-is ∙ q)) }

  pub text_written : f ≡ false → {name froms tos : List ℕ} → name ≡ read_name sheet → froms ≡ take l.detours l.froms → tos ≡ take l.detours l.tos
      → (w : Written) (row' : List ℕ) → Writes name (run_held r) froms tos row w row' → WrittenBy Writes sheet r l row w.bytes row'
  text_written e n a b w row' is =
      record { text = w; bytes = refl; refused = λ q. absurd (true≢false (sym q ∙ sym f-is ∙ e)); planned = λ q. moved Writes n refl a b is }

-- What a writer of a list's text goes by: its judging of the run, its rules for a list, and what least is. The least list meets the rules.
module _ (judged : Run → Verdict) (ruled : Run → List ℕ → List ℕ → Verdict) (Least : Run → List Detour → Type 0) (text_of : List ℕ → Run → List ℕ → List ℕ → List ℕ) where
  -- Its checks: 1 to 7, then 13, then 10, then 8.
  abbrev pub text_verdict : List ℕ → Run → List ℕ → List ℕ → List ℕ → Verdict
  text_verdict name run froms tos row =
      first_of
      (judged run
      ∷ refuse_if (not (is_name name)) BadName
      ∷ ruled run froms tos
      ∷ row_verdict (text_of name run froms tos) row
      ∷ [])

  abbrev pub TextWritten : List ℕ → Run → List ℕ → List ℕ → List ℕ → Written → List ℕ → Type 0
  TextWritten name run froms tos row w row' = Handed (text_verdict name run froms tos row) (text_of name run froms tos) row w row'

  abbrev pub Meets : Type 0
  Meets = (run : Run) (list : List Detour) → Least run list → refuses (ruled run (map (λ d. d.from) list) (map (λ d. d.to) list)) ≡ false

  -- Of the writer's checks on the least list of a run that passes only that of the row is left.
  row_decides_here : Meets → (name : List ℕ) (run : Run) (list : List Detour) (row : List ℕ) → is_name name ≡ true → refuses (judged run) ≡ false → Least run list
      → text_verdict name run (map (λ d. d.from) list) (map (λ d. d.to) list) row ≡ row_verdict (text_of name run (map (λ d. d.from) list) (map (λ d. d.to) list)) row
  row_decides_here meets name run list row named passes least =
      rw (passes, named, meets run list least) (last_verdict (text_of name run (map (λ d. d.from) list) (map (λ d. d.to) list)) row)

-- The entries of a list in a row.
front : (f : Detour → ℕ) (list : List Detour) → take (length list) (filled_up 63 (map f list)) ≡ map f list
front f list = take_at (map f list) (zeros (63 - length (map f list))) (length list) (half_long f list)

module _ (checks : Run → List Verdict) (sheet : List ℕ) (r : SheetRun) (is : r ≡ run_by_value sheet) where
  abbrev v : Verdict
  v = first_of (r.verdict ∷ checks (run_held r))

  -- The verdict on the run by value is that on the sheet.
  pub verdict_is : v ≡ verdict_by checks sheet
  unfolding verdict_by
  verdict_is = go (refuses r.verdict) refl
    where
      go : (b : Bool) → refuses r.verdict ≡ b → v ≡ verdict_by checks sheet
      go true e = sym (first_refuses r.verdict (checks (run_held r)) e) ∙ refused_first sheet r is true (sym e) refl (checks (sheet_run sheet))
      go false e =
          let h = sheet_holds sheet r is false (sym e) refl in
          first_passes r.verdict (checks (run_held r)) e ∙ ap (λ x. first_of (checks x)) h.run ∙ h.decides (checks (sheet_run sheet))

  pub holds : refuses v ≡ false → SheetHolds sheet r
  holds e = sheet_holds sheet r is false (sym (all_accept (r.verdict ∷ checks (run_held r)) e).0) refl

  -- The list by value is refused as the sheet is.
  pub list_refused_lem : {Least : Run → List Detour → Type 0} (l : PlannedList) → ListsRun Least checks r l → refuses v ≡ true → l.verdict ≡ verdict_by checks sheet
  list_refused_lem l listed e = ap (λ x. x.verdict) (listed.refused e) ∙ verdict_is

  -- A writer's text of it is that of the sheet's run.
  module _ (judged : Run → Verdict) (ruled : Run → List ℕ → List ℕ → Verdict) (Least : Run → List Detour → Type 0) (text_of : List ℕ → Run → List ℕ → List ℕ → List ℕ)
      (meets : Meets judged ruled Least text_of) (judges : (run : Run) → refuses (first_of (checks run)) ≡ false → refuses (judged run) ≡ false) (l : PlannedList) (listed : ListsRun Least checks r l) where
    abbrev text : List Detour → List ℕ
    text list = text_of (sheet_name sheet) (sheet_run sheet) (map (λ d. d.from) list) (map (λ d. d.to) list)

    passes : (e : refuses v ≡ false) → refuses (judged (sheet_run sheet)) ≡ false
    passes e = rw (holds e).run at (judges (run_held r) (rw (first_passes r.verdict (checks (run_held r)) (all_accept (r.verdict ∷ checks (run_held r)) e).0) at e))

    pub text_handed : refuses v ≡ false → (row : List ℕ) (w : Written) (row' : List ℕ)
        → TextWritten judged ruled Least text_of (read_name sheet) (run_held r) (take l.detours l.froms) (take l.detours l.tos) row w row'
        → TextHanded (TextOf Least text_of (sheet_name sheet) (sheet_run sheet)) row w row'
    text_handed e row w row' written =
        let plan = listed.planned e in
        let h = holds e in
        let least : Least (sheet_run sheet) plan.list = subst (λ x. Least x plan.list) h.run plan.least in
        let named : is_name (sheet_name sheet) ≡ true = subst (λ x. is_name x ≡ true) h.name h.named in
        let froms = ap (λ x. take x.detours x.froms) plan.says ∙ front (λ d. d.from) plan.list in
        let tos = ap (λ x. take x.detours x.tos) plan.says ∙ front (λ d. d.to) plan.list in
        record {
          text = text plan.list;
          asked = record { list = plan.list; least = least; says = refl };
          handed =
              subst (λ x. Handed x (text plan.list) row w row') (row_decides_here judged ruled Least text_of meets (sheet_name sheet) (sheet_run sheet) plan.list row named (passes e) least)
              (moved (TextWritten judged ruled Least text_of) h.name h.run froms tos written);
        }

    module _ (row : List ℕ) (n : ℕ) (row' : List ℕ) (written : WrittenBy (TextWritten judged ruled Least text_of) sheet r l row n row') where
      given_refused : refuses v ≡ true → SheetGiven (TextOf Least text_of) checks sheet row n row'
      given_refused e =
          let says = ap (λ x. x.verdict) (listed.refused e) in
          let handed = written.refused (ap refuses says ∙ e) in
          record {
            text = refusal_text l.verdict;
            answers = record { refused = λ q. ap refusal_text (list_refused_lem l listed e); planned = λ q. absurd (true≢false (sym e ∙ ap refuses verdict_is ∙ q)) };
            bytes = written.bytes ∙ handed_bytes (refusal_text l.verdict) row written.text row' handed;
            left = handed_row (refusal_text l.verdict) row written.text row' handed;
          }

      given_planned : refuses v ≡ false → SheetGiven (TextOf Least text_of) checks sheet row n row'
      given_planned e =
          let t = text_handed e row written.text row' (written.planned (ap (λ x. refuses x.verdict) (listed.planned e).says)) in
          record {
            text = t.text;
            answers = record { refused = λ q. absurd (true≢false (sym q ∙ sym (ap refuses verdict_is) ∙ e)); planned = λ q. t.asked };
            bytes = written.bytes ∙ handed_bytes t.text row written.text row' t.handed;
            left = handed_row t.text row written.text row' t.handed;
          }

      pub given : SheetGiven (TextOf Least text_of) checks sheet row n row'
      given = go (refuses v) refl
        where
          go : (b : Bool) → refuses v ≡ b → SheetGiven (TextOf Least text_of) checks sheet row n row'
          go true e = given_refused e
          go false e = given_planned e

-- 01's rules for a list, which its least list meets.
abbrev pub list_rule : Run → List ℕ → List ℕ → Verdict
list_rule run froms tos = list_verdict (stops_of run) froms tos

pub least_meets : (run : Run) (list : List Detour) → LeastForRun run list → refuses (list_rule run (map (λ d. d.from) list) (map (λ d. d.to) list)) ≡ false
least_meets run list least =
    list_accepted (stops_of run) (map (λ d. d.from) list) (map (λ d. d.to) list) (halves_even (λ d. d.from) (λ d. d.to) list) (rw (list_of_halves list) least.formed)

-- The answer to a sheet that holds a text of 01's least list; and where that is the plan sheet.
module _ (checks : Run → List Verdict) (judges : (run : Run) → refuses (first_of (checks run)) ≡ false → refuses (judge_of run) ≡ false) (sheet : List ℕ) (r : SheetRun) (is : r ≡ run_by_value sheet) (l : PlannedList)
    (listed : RunListed checks r l) where
  pub answered : (text_of : List ℕ → Run → List ℕ → List ℕ → List ℕ) (row : List ℕ) (n : ℕ) (row' : List ℕ) → WrittenBy (TextWritten judge_of list_rule LeastForRun text_of) sheet r l row n row'
      → SheetGiven (TextOf LeastForRun text_of) checks sheet row n row'
  answered text_of row n row' written = given checks sheet r is judge_of list_rule LeastForRun text_of least_meets judges l listed row n row' written

  pub recalled : (row : List ℕ) (n : ℕ) (row' : List ℕ) → ListWritten sheet r l row n row' → SheetRecalledBy checks sheet row n row'
  unfolding plan_sheet_verdict
  recalled row n row' written = answered plan_text row n row' (record { text = written.text; bytes = written.bytes; refused = written.refused; planned = written.planned })
