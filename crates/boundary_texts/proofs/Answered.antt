-- The contracts of the calls that write one text, from the promise of the answer by value.
use Prim.Native.Nat.{ℕ, ◌≤◌, ◌<◌}
use mathlib.Core.Path.{◌≡◌, refl, sym, ap, ◌∙◌}
use mathlib.Core.Bool.{Bool, true, false, cond, ◌||◌}
use mathlib.Core.Logic.{⊎_elim}
use mathlib.Core.List.{List, [], ◌∷◌}
use native.Mathlib.Omega.{arith}
use lib.ListN.{length, drop, set}
use lib.Dec.{ltb}
use borrow.Author.Tests.{lt-ltb, le-ltb}
use Rattle.refusals.specs.declared.Refusal.TheVariants.{ShortRow, ShortRoom}
use Rattle.refusals.specs.declared.Verdict.{Verdict}
use Rattle.refusals.specs.Refusals.{is_refusal, checked}
use Rattle.std.specs.Prelude.{Result}
use Rattle.std.specs.Result.{is_err}
use Rattle.runs.proofs.Search.{true_or_false}
use Rattle.walk.proofs.Places.{place_most, if_near}
use Rattle.planner.specs.Plan.{room_for}
use Rattle.sheet_reader.specs.Sheet.{sheet_run, sheet_name}
use Rattle.sheet_writer.specs.declared.Written.{Written}
use Rattle.sheet_writer.specs.Writing.{row_verdict, written_answer, written_row, Handed}
use Rattle.sheet_lists.specs.Form.{plan_froms, plan_tos}
use Rattle.answer_plan.specs.PlannedLists.{TextHanded}
use Rattle.answer_any.specs.AnyRun.{any_checks, any_verdict, PlanAnyOf, NotAnswered, SheetAnswered}
use Rattle.answer_buys_any.specs.AnyBuys.{BuysAnyOf, SheetFiguredAny}
use Rattle.answer_check.specs.RunRules.{head_anywhere}
use Rattle.answer_check.specs.Checking.{check_checks, VerdictOf, verdict_on, CheckAnswered}
use Rattle.boundary.specs.Boundary.{code_of}
use Rattle.boundary.proofs.AnyPlaces.{judge_any_near}
use Rattle.promises.proofs.Lengths.{verdict_near}
use Rattle.promises.proofs.InputLengths.{check_checks_near}
use Rattle.boundary_texts.specs.Texts.{text_verdict, TextCalled, SheetCalled, AnswerCalled, BuysCalled, CheckCalled}
use Rattle.boundary_texts.specs.Private.{written_verdict, Told}

-- A verdict told is an error where it refuses.
pub told_says : (v : Verdict) (r : Result Unit Verdict) → r ≡ checked v → is_err r ≡ is_refusal v.refusal
told_says v r e = go (is_refusal v.refusal) refl
  where
    go : (b : Bool) → is_refusal v.refusal ≡ b → is_err r ≡ is_refusal v.refusal
    go true h = rw (e, h) refl
    go false h = rw (e, h) refl

one_set : (x : ℕ) (row : List ℕ) → 1 ≤ length row → set row 0 x ≡ x ∷ drop 1 row
one_set x [] l = absurd (omega arith)
one_set x (a ∷ row) l = refl

-- A code where there is no row for the length, and the length told.
module _ (v : Verdict) (code : ℕ) (code_is : code ≡ code_of v) (flag : Bool) (flag_is : flag ≡ is_refusal v.refusal) where
  pub code_refused : flag ≡ true → code ≡ cond (is_refusal v.refusal) (code_of v) 8
  code_refused e = let here : is_refusal v.refusal ≡ true = sym flag_is ∙ e in rw here code_is

  pub code_eight : flag ≡ false → 8 ≡ cond (is_refusal v.refusal) (code_of v) 8
  code_eight e = let here : is_refusal v.refusal ≡ false = sym flag_is ∙ e in rw here refl

  module _ (bytes : ℕ) (sizes : List ℕ) where
    pub told_refused : flag ≡ true → Told v bytes sizes code sizes
    told_refused e = let here : is_refusal v.refusal ≡ true = sym flag_is ∙ e in record { says = code_is; sizes_are = rw here refl }

    pub told_one : flag ≡ false → 1 ≤ length sizes → Told v bytes sizes code (set sizes 0 bytes)
    told_one e one = let here : is_refusal v.refusal ≡ false = sym flag_is ∙ e in record { says = code_is; sizes_are = rw here (one_set bytes sizes one) }

pub or_false : (b : Bool) → (b || false) ≡ b
or_false true = refl
or_false false = refl

pub or_true : (b : Bool) → (b || true) ≡ true
or_true true = refl
or_true false = refl

-- With a row for the length 8 is as without it; with none it is always 8.
same_verdict : (text out sizes : List ℕ) → 1 ≤ length sizes → row_verdict text out ≡ text_verdict text out sizes
unfolding row_verdict
same_verdict text out sizes l = rw (le-ltb (length sizes) 1 l, or_false (ltb (length out) (length text))) refl

short_verdict : (text out sizes : List ℕ) → length sizes < 1 → text_verdict text out sizes ≡ record { refusal = ShortRow; place = 0 }
short_verdict text out sizes l = rw (lt-ltb (length sizes) 1 l, or_true (ltb (length out) (length text))) refl

row_near : (text row : List ℕ) → (row_verdict text row).place ≤ place_most
unfolding row_verdict
row_near text row = if_near (ltb (length row) (length text)) ShortRow

-- 8, or no refusal.
row_eight : (text row : List ℕ) → cond (is_refusal (row_verdict text row).refusal) (code_of (row_verdict text row)) 8 ≡ 8
unfolding row_verdict
row_eight text row =
    ⊎_elim
    (λ (e : ltb (length row) (length text) ≡ true). rw e refl)
    (λ (e : ltb (length row) (length text) ≡ false). rw e refl)
    (true_or_false (ltb (length row) (length text)))

-- A text handed out.
module _ (text row : List ℕ) (w : Written) (row' : List ℕ) (p : Handed (row_verdict text row) text row w row') where
  handed_verdict : written_verdict w ≡ row_verdict text row
  unfolding row_verdict written_answer
  handed_verdict =
      ⊎_elim
      (λ (e : ltb (length row) (length text) ≡ true). ap written_verdict p.answer ∙ rw e refl)
      (λ (e : ltb (length row) (length text) ≡ false). ap written_verdict p.answer ∙ rw e refl)
      (true_or_false (ltb (length row) (length text)))

  handed_bytes_here : is_refusal (row_verdict text row).refusal ≡ false → w.bytes ≡ length text
  unfolding written_answer
  handed_bytes_here h = ap (λ (x : Written). x.bytes) p.answer ∙ rw h refl

-- What is answered by value, under the verdict on the sheets.
pub record Answers (v : Verdict) (Asked : List ℕ → Type 0) (row : List ℕ) (w : Written) (row' : List ℕ) : Type 0 where
  pub refused : is_refusal v.refusal ≡ true → NotAnswered v row w row'
  pub handed : is_refusal v.refusal ≡ false → TextHanded Asked row w row'

module _ {v : Verdict} {Asked : List ℕ → Type 0} {row : List ℕ} {w : Written} {row' : List ℕ} (p : Answers v Asked row w row') where
  pub place_near : v.place ≤ place_most → w.place ≤ place_most
  place_near near =
      ⊎_elim
      (λ (h : is_refusal v.refusal ≡ true). rw (p.refused h).says near)
      (λ (h : is_refusal v.refusal ≡ false).
      let t = p.handed h in
      rw (ap (λ (x : Verdict). x.place) (handed_verdict t.text row w row' t.handed)) (row_near t.text row))
      (true_or_false (is_refusal v.refusal))

  -- With a row for the length.
  module _ (sizes : List ℕ) (one : 1 ≤ length sizes) (code : ℕ) (sizes' : List ℕ) (told : Told (written_verdict w) w.bytes sizes code sizes') where
    told_text : TextHanded Asked row w row' → TextCalled Asked row sizes code row' sizes'
    told_text t =
        let same = same_verdict t.text row sizes one in
        let is : written_verdict w ≡ text_verdict t.text row sizes = handed_verdict t.text row w row' t.handed ∙ same in
        let here : is_refusal w.refusal ≡ is_refusal (text_verdict t.text row sizes).refusal = ap (λ (x : Verdict). is_refusal x.refusal) is in
        record {
          text = t.text;
          asked = t.asked;
          says = told.says ∙ ap code_of is;
          out_is = t.handed.left ∙ ap (λ (x : Verdict). written_row x t.text row) same;
          sizes_are =
              ⊎_elim
              (λ (h : is_refusal (text_verdict t.text row sizes).refusal ≡ true). let kept : sizes' ≡ sizes = rw (here ∙ h) at told.sizes_are in rw h kept)
              (λ (h : is_refusal (text_verdict t.text row sizes).refusal ≡ false).
              let many = handed_bytes_here t.text row w row' t.handed (ap (λ (x : Verdict). is_refusal x.refusal) same ∙ h) in
              let filled : sizes' ≡ w.bytes ∷ drop 1 sizes = rw (here ∙ h) at told.sizes_are in
              rw h (filled ∙ ap (λ (n : ℕ). n ∷ drop 1 sizes) many))
              (true_or_false (is_refusal (text_verdict t.text row sizes).refusal));
        }

    pub called : SheetCalled v Asked row sizes code row' sizes'
    called =
        record {
          refused = λ h.
              let is : written_verdict w ≡ v = ap written_verdict (p.refused h).says in
              let here : is_refusal w.refusal ≡ true = ap (λ (x : Verdict). is_refusal x.refusal) is ∙ h in
              record { says = told.says ∙ ap code_of is; out_is = (p.refused h).kept; sizes_are = rw here at told.sizes_are };
          answered = λ h. told_text (p.handed h);
        }

-- With none: what an answer into an empty row says, and 8 where it accepts.
module _ {v : Verdict} {Asked : List ℕ → Type 0} {w : Written} {none' : List ℕ} (p : Answers v Asked [] w none')
    (code : ℕ) (is : code ≡ cond (is_refusal w.refusal) (code_of (written_verdict w)) 8) where
  pub short_called : (out sizes : List ℕ) → length sizes < 1 → SheetCalled v Asked out sizes code out sizes
  unfolding written_row
  short_called out sizes l =
      record {
        refused = λ h.
            let same : written_verdict w ≡ v = ap written_verdict (p.refused h).says in
            let here : is_refusal w.refusal ≡ true = ap (λ (x : Verdict). is_refusal x.refusal) same ∙ h in
            let own : code ≡ code_of (written_verdict w) = rw here at is in
            record { says = own ∙ ap code_of same; out_is = refl; sizes_are = refl };
        answered = λ h.
            let t = p.handed h in
            let eight : code ≡ 8 = is ∙ ap (λ (x : Verdict). cond (is_refusal x.refusal) (code_of x) 8) (handed_verdict t.text [] w none' t.handed) ∙ row_eight t.text [] in
            let short = short_verdict t.text out sizes l in
            record { text = t.text; asked = t.asked; says = eight ∙ ap code_of (sym short); out_is = rw short refl; sizes_are = rw short refl };
      }

-- A run sheet to its plan sheet.
any_near : (words : ℕ) (sheet : List ℕ) → (any_verdict words sheet).place ≤ place_most
any_near words sheet =
    verdict_near sheet (any_checks words) (judge_any_near (sheet_run sheet), λ e. (if_near (ltb words (room_for (sheet_run sheet))) ShortRoom, λ d. tt))

module _ {sheet out room : List ℕ} {w : Written} {out' room' : List ℕ} (p : SheetAnswered sheet out room w out' room') where
  answers : Answers (any_verdict (length room) sheet) (PlanAnyOf (sheet_name sheet) (sheet_run sheet)) out w out'
  answers = record { refused = p.refused; handed = p.planned }

  pub answer_near : (u : Verdict) → u ≡ written_verdict w → u.place ≤ place_most
  answer_near u is = rw is (place_near answers (any_near (length room) sheet))

  pub answer_called : (sizes : List ℕ) → 1 ≤ length sizes → (u : Verdict) → u ≡ written_verdict w → (code : ℕ) (sizes' : List ℕ) → Told u w.bytes sizes code sizes' → AnswerCalled sheet out room sizes code out' room' sizes'
  answer_called sizes one u is code sizes' told = record { called = called answers sizes one code sizes' (rw is at told); cleared = p.cleared }

module _ {sheet room : List ℕ} {w : Written} {none' room' : List ℕ} (p : SheetAnswered sheet [] room w none' room') where
  pub answer_short : (u : Verdict) → u ≡ written_verdict w → (code : ℕ) → code ≡ cond (is_refusal u.refusal) (code_of u) 8 → (out sizes : List ℕ) → length sizes < 1 → AnswerCalled sheet out room sizes code out room' sizes
  answer_short u is code code_is out sizes l = record { called = short_called (answers p) code (rw is at code_is) out sizes l; cleared = p.cleared }

-- A run sheet to its figure sheet.
module _ {sheet out room : List ℕ} {w : Written} {out' room' : List ℕ} (p : SheetFiguredAny sheet out room w out' room') where
  figures : Answers (any_verdict (length room) sheet) (BuysAnyOf (sheet_name sheet) (sheet_run sheet)) out w out'
  figures = record { refused = p.refused; handed = p.figured }

  pub figured_near : (u : Verdict) → u ≡ written_verdict w → u.place ≤ place_most
  figured_near u is = rw is (place_near figures (any_near (length room) sheet))

  pub buys_called : (sizes : List ℕ) → 1 ≤ length sizes → (u : Verdict) → u ≡ written_verdict w → (code : ℕ) (sizes' : List ℕ) → Told u w.bytes sizes code sizes' → BuysCalled sheet out room sizes code out' room' sizes'
  buys_called sizes one u is code sizes' told = record { called = called figures sizes one code sizes' (rw is at told); cleared = p.cleared }

module _ {sheet room : List ℕ} {w : Written} {none' room' : List ℕ} (p : SheetFiguredAny sheet [] room w none' room') where
  pub buys_short : (u : Verdict) → u ≡ written_verdict w → (code : ℕ) → code ≡ cond (is_refusal u.refusal) (code_of u) 8 → (out sizes : List ℕ) → length sizes < 1 → BuysCalled sheet out room sizes code out room' sizes
  buys_short u is code code_is out sizes l = record { called = short_called (figures p) code (rw is at code_is) out sizes l; cleared = p.cleared }

-- A run sheet and a plan sheet to the verdict.
check_near : (words : ℕ) (sheet plan : List ℕ) → (verdict_on words sheet plan).place ≤ place_most
check_near words sheet plan = verdict_near sheet (check_checks head_anywhere words plan) (check_checks_near words plan (sheet_run sheet))

module _ {sheet plan out room : List ℕ} {w : Written} {out' room' : List ℕ} (p : CheckAnswered sheet plan out room w out' room') where
  checks : Answers (verdict_on (length room) sheet plan) (VerdictOf head_anywhere (sheet_name sheet) (sheet_run sheet) plan (plan_froms plan) (plan_tos plan)) out w out'
  checks = record { refused = p.refused; handed = p.checked }

  pub checked_near : (u : Verdict) → u ≡ written_verdict w → u.place ≤ place_most
  checked_near u is = rw is (place_near checks (check_near (length room) sheet plan))

  pub check_called : (sizes : List ℕ) → 1 ≤ length sizes → (u : Verdict) → u ≡ written_verdict w → (code : ℕ) (sizes' : List ℕ) → Told u w.bytes sizes code sizes' → CheckCalled sheet plan out room sizes code out' room' sizes'
  check_called sizes one u is code sizes' told = record { called = called checks sizes one code sizes' (rw is at told); cleared = p.cleared }

module _ {sheet plan room : List ℕ} {w : Written} {none' room' : List ℕ} (p : CheckAnswered sheet plan [] room w none' room') where
  pub check_short : (u : Verdict) → u ≡ written_verdict w → (code : ℕ) → code ≡ cond (is_refusal u.refusal) (code_of u) 8 → (out sizes : List ℕ) → length sizes < 1 → CheckCalled sheet plan out room sizes code out room' sizes
  check_short u is code code_is out sizes l = record { called = short_called (checks p) code (rw is at code_is) out sizes l; cleared = p.cleared }
