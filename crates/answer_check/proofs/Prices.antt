-- What the pricer says of a run and a list by value; and from that and what is written of the list to the answer to a run sheet and a list.
use Prim.Native.Nat.{ℕ, ◌≤◌}
use mathlib.Core.Path.{◌≡◌, refl, sym, ap, ◌∙◌, subst}
use mathlib.Core.Bool.{Bool, true, false, true≢false}
use mathlib.Core.List.{List, ◌∷◌}
use native.Mathlib.Omega.{arith}
use lib.ListN.{length, take, length-take}
use borrow.Author.Tests.{le-ltb}
use Rattle.refusals.specs.declared.Verdict.{Verdict}
use Rattle.refusals.specs.Refusals.{is_refusal, first_of, checked}
use Rattle.refusals.proofs.Checked.{passed, stopped, checked_passes, checked_stops}
use Rattle.refusals.proofs.Verdicts.{refuses, test_says, first_refuses, first_passes, all_accept, none_refuses}
use Rattle.std.specs.Prelude.{Result, Ok, Err}
use Rattle.runs.specs.Run.{Run, stops_of}
use Rattle.runs.specs.Lists.{list_of}
use Rattle.runs.specs.AnyHead.{judge_any_of, list_verdict_any}
use Rattle.walk.specs.declared.Answer.{Answer}
use Rattle.walk.specs.Price.{refusal_answer}
use Rattle.walk.specs.AnyHead.{priced_any_answer, price_any_verdict, price_any_answer}
use Rattle.walk.specs.Rows.{ReadRows}
use Rattle.text_bytes.specs.Text.{is_name}
use Rattle.sheet_reader.specs.Sheet.{sheet_run, sheet_name}
use Rattle.sheet_reader.specs.Reading.{sheet_verdict, rule_verdict}
use Rattle.sheet_runs.specs.declared.SheetRun.{SheetRun}
use Rattle.sheet_runs.specs.SheetRuns.{run_by_value, run_held}
use Rattle.sheet_runs.proofs.Runs.{SheetHolds, refused_first, sheet_holds}
use Rattle.sheet_writer.specs.declared.Written.{Written}
use Rattle.sheet_writer.specs.Writing.{row_verdict, Handed}
use Rattle.sheet_writer.specs.AnyHead.{plan_any_text, plan_any_sheet_verdict, PlanAnyWritten}
use Rattle.sheet_writer.specs.RefusalLines.{refusal_text}
use Rattle.sheet_writer.proofs.Sheets.{last_verdict}
use Rattle.answer_plan.specs.declared.PlannedList.{PlannedList}
use Rattle.answer_plan.specs.Recall.{verdict_by}
use Rattle.answer_plan.proofs.Planned.{handed_bytes, handed_row}
use Rattle.answer_plan.proofs.Answered.{moved}
use Rattle.answer_any.specs.AnyLists.{TextOfList}
use Rattle.sheet_lists.specs.Form.{list_froms, list_tos}
use Rattle.sheet_lists.specs.Reading.{list_form}
use Rattle.answer_check.specs.RunRules.{head_anywhere}
use Rattle.answer_check.specs.Pricing.{pricing_verdict, price_text, RowHolds, SheetPriced}
use Rattle.answer_check.specs.Private.{HandedIn, list_checks, PricedList, first_refusal, judged_list}

-- An answer's verdict; and what `?` makes of the answer.
abbrev pub verdict_in : Answer → Verdict
verdict_in a = record { refusal = a.refusal; place = a.place }

abbrev pub ToldBy : Answer → Result ℕ Verdict → Type 0
ToldBy a (Ok sum) = (Ok tt ≡ checked (verdict_in a)) × (sum ≡ a.sum)
ToldBy a (Err v) = Err v ≡ checked (verdict_in a)

-- The pricer's rows hold 64 entries, so that 8 never applies.
module _ (run : Run) (froms tos : List ℕ) (rows : ReadRows) (few : length run.numbers ≤ 64) (times : length rows.times ≡ 64) (legs : length rows.legs ≡ 64) where
  price_verdict_here : price_any_verdict run froms tos rows ≡ first_of (list_checks run froms tos)
  unfolding price_any_verdict
  price_verdict_here =
      rw (le-ltb (length rows.times) (length run.numbers) (omega (arith, few, times)), le-ltb (length rows.legs) (length run.numbers) (omega (arith, few, legs))) refl

  -- The pricer's refusal is theirs, and what it hands on by `?` is theirs too.
  says_so : (a : Answer) → a ≡ price_any_answer run froms tos rows
      → (verdict_in a ≡ first_of (list_checks run froms tos)) × (refuses (first_of (list_checks run froms tos)) ≡ false → a.sum ≡ (priced_any_answer run (list_of froms tos)).sum)
  unfolding price_any_answer priced_any_answer
  says_so a is = go (refuses (first_of (list_checks run froms tos))) refl
    where
      go : (b : Bool) → refuses (first_of (list_checks run froms tos)) ≡ b
          → (verdict_in a ≡ first_of (list_checks run froms tos)) × (refuses (first_of (list_checks run froms tos)) ≡ false → a.sum ≡ (priced_any_answer run (list_of froms tos)).sum)
      go true e =
          let said : a ≡ refusal_answer (first_of (list_checks run froms tos)) = rw (price_verdict_here, e) at is in
          (ap verdict_in said, λ q. absurd (true≢false (sym e ∙ q)))
      go false e =
          let said : a ≡ priced_any_answer run (list_of froms tos) = rw (price_verdict_here, e) at is in
          (ap verdict_in said ∙ sym (none_refuses (list_checks run froms tos) e), λ q. ap (λ x. x.sum) said)

  list_priced : (a : Answer) → a ≡ price_any_answer run froms tos rows → (r : Result ℕ Verdict) → ToldBy a r → PricedList run froms tos r
  list_priced a is (Ok sum) told = let s = says_so a is in let e = ap refuses (sym s.0) ∙ passed _ _ told.0 in (e, told.1 ∙ s.1 e)
  list_priced a is (Err v) told = let t = stopped _ _ told in (ap refuses (sym t.is) ∙ t.so, sym t.is ∙ (says_so a is).0)

-- The run and the list by value.
pub priced_held : (r : SheetRun) (l : PlannedList) (run : Run) → run ≡ run_held r → (froms tos : List ℕ) → froms ≡ take l.detours l.froms → tos ≡ take l.detours l.tos → length r.numbers ≡ 64
    → (rows : ReadRows) → length rows.times ≡ 64 → length rows.legs ≡ 64 → (a : Answer) → a ≡ price_any_answer run froms tos rows
    → (p : Result ℕ Verdict) → ToldBy a p → PricedList (run_held r) (take l.detours l.froms) (take l.detours l.tos) p
priced_held r l run e froms tos f t long rows times legs a is p told =
    let few : length (take r.wants r.numbers) ≤ 64 = rw length-take (omega (arith, long)) in
    list_priced (run_held r) (take l.detours l.froms) (take l.detours l.tos) rows few times legs a (is ∙ rw (e, f, t) refl) p told

-- A text handed out is held.
pub handed_holds : (text row : List ℕ) (w : Written) (row' : List ℕ) → Handed (row_verdict text row) text row w row' → RowHolds text row w.bytes row'
handed_holds text row w row' h = record { bytes = handed_bytes text row w row' h; left = handed_row text row w row' h }

-- The writer's checks on a run and a list that pass: only that of the row is left.
pub row_decides : (name : List ℕ) (run : Run) (froms tos row : List ℕ) → is_name name ≡ true → refuses (judge_any_of run) ≡ false → refuses (list_verdict_any run.head (stops_of run) froms tos) ≡ false
    → plan_any_sheet_verdict name run froms tos row ≡ row_verdict (plan_any_text name run froms tos) row
unfolding plan_any_sheet_verdict
row_decides name run froms tos row named passes listed = rw (passes, named, listed) (last_verdict (plan_any_text name run froms tos) row)

pub stays : (v w : Verdict) → refuses v ≡ true → v ≡ first_refusal v w
stays v w e = rw e

pub passes : (v w : Verdict) → refuses v ≡ false → w ≡ first_refusal v w
passes v w e = rw e

pub goes_on : (v w : Verdict) (u : Unit) (r : Result Unit Verdict) → Ok u ≡ checked v → r ≡ checked w → r ≡ checked (first_refusal v w)
goes_on v w u r said rest = rw (passed v u said) rest

pub first_says : (v w : Verdict) → refuses (first_refusal v w) ≡ false → (refuses v ≡ false) × (refuses w ≡ false)
first_says v w e = go (refuses v) refl
  where
    go : (f : Bool) → refuses v ≡ f → (refuses v ≡ false) × (refuses w ≡ false)
    go true h = absurd (true≢false (sym h ∙ (rw h at e)))
    go false h = (h, rw h at e)

-- The verdict on a run sheet and another text, from those on the sheet's run, on the text's form and on both together.
module _ (sheet : List ℕ) (r : SheetRun) (is : r ≡ run_by_value sheet) where
  pub sheet_ok : refuses r.verdict ≡ false → SheetHolds sheet r
  sheet_ok e = sheet_holds sheet r is false (sym e) refl

  pub in_order : (form last : Verdict) (checks : List Verdict) → (refuses r.verdict ≡ false → refuses form ≡ false → last ≡ first_of checks)
      → first_refusal r.verdict (first_refusal form last) ≡ first_of (sheet_verdict sheet ∷ rule_verdict sheet ∷ form ∷ checks)
  in_order form last checks rest = go (refuses r.verdict) refl (refuses form) refl
    where
      go : (a : Bool) → refuses r.verdict ≡ a → (b : Bool) → refuses form ≡ b → first_refusal r.verdict (first_refusal form last) ≡ first_of (sheet_verdict sheet ∷ rule_verdict sheet ∷ form ∷ checks)
      go true e b f = sym (stays r.verdict (first_refusal form last) e) ∙ refused_first sheet r is true (sym e) refl (form ∷ checks)
      go false e true f = sym (passes r.verdict (first_refusal form last) e) ∙ sym (stays form last f) ∙ first_refuses form checks f ∙ (sheet_ok e).decides (form ∷ checks)
      go false e false f = sym (passes r.verdict (first_refusal form last) e) ∙ sym (passes form last f) ∙ rest e f ∙ sym (first_passes form checks f) ∙ (sheet_ok e).decides (form ∷ checks)

  -- The price of a list for a run sheet.
  module _ (list row : List ℕ) (l : PlannedList) (handed : HandedIn (list_form list) (list_froms list) (list_tos list) l) where
    abbrev verdict : Verdict
    verdict = judged_list r l

    same_rules : refuses r.verdict ≡ false → refuses (list_form list) ≡ false
        → first_of (list_checks (run_held r) (take l.detours l.froms) (take l.detours l.tos)) ≡ first_of (list_checks (sheet_run sheet) (list_froms list) (list_tos list))
    same_rules e f =
        ap (λ x. first_of (list_checks x (take l.detours l.froms) (take l.detours l.tos))) (sheet_ok e).run
        ∙ ap (λ x. first_of (list_checks (sheet_run sheet) x (take l.detours l.tos))) (handed.starts f)
        ∙ ap (λ x. first_of (list_checks (sheet_run sheet) (list_froms list) x)) (handed.ends f)

    verdict_is_here : verdict ≡ pricing_verdict head_anywhere sheet list
    unfolding verdict_by
    verdict_is_here =
        ap (λ f. first_refusal r.verdict (first_refusal f (first_of (list_checks (run_held r) (take l.detours l.froms) (take l.detours l.tos))))) handed.verdict
        ∙ in_order (list_form list) (first_of (list_checks (run_held r) (take l.detours l.froms) (take l.detours l.tos))) (list_checks (sheet_run sheet) (list_froms list) (list_tos list)) same_rules

    module _ (v : Verdict) (v-is : v ≡ judged_list r l) (f : Bool) (f-is : f ≡ is_refusal v.refusal) where
      pub price_refused : f ≡ true → (w : Written) (row' : List ℕ) → Handed (row_verdict (refusal_text v) row) (refusal_text v) row w row' → SheetPriced sheet list row w.bytes row'
      unfolding price_text
      price_refused e w row' h =
          let t : refuses (pricing_verdict head_anywhere sheet list) ≡ true = test_says (v-is ∙ verdict_is_here) f-is e in
          rw (t, ← verdict_is_here, ← v-is) (handed_holds (refusal_text v) row w row' h)

      pub price_written : f ≡ false → (w : Written) (row' : List ℕ) → TextOfList sheet r l row w row' → SheetPriced sheet list row w.bytes row'
      unfolding price_text
      price_written e w row' written =
          let t : refuses (pricing_verdict head_anywhere sheet list) ≡ false = test_says (v-is ∙ verdict_is_here) f-is e in
          let both = first_says r.verdict _ (test_says v-is f-is e) in
          let rest = first_says l.verdict _ both.1 in
          let h = sheet_ok both.0 in
          let form : refuses (list_form list) ≡ false = ap refuses (sym handed.verdict) ∙ rest.0 in
          let rules : refuses (first_of (list_checks (sheet_run sheet) (list_froms list) (list_tos list))) ≡ false = ap refuses (sym (same_rules both.0 form)) ∙ rest.1 in
          let all = all_accept (list_checks (sheet_run sheet) (list_froms list) (list_tos list)) rules in
          let named : is_name (sheet_name sheet) ≡ true = subst (λ x. is_name x ≡ true) h.name h.named in
          let text =
          subst (λ x. Handed x (plan_any_text (sheet_name sheet) (sheet_run sheet) (list_froms list) (list_tos list)) row w row') (row_decides (sheet_name sheet) (sheet_run sheet) (list_froms list) (list_tos list) row named all.0 all.1.0)
          (moved PlanAnyWritten h.name h.run (handed.starts form) (handed.ends form) written) in
          rw t (handed_holds (plan_any_text (sheet_name sheet) (sheet_run sheet) (list_froms list) (list_tos list)) row w row' text)
