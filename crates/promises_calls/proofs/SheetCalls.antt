-- The calls that take sheets, by the table.
use Prim.Native.Nat.{ℕ, ◌+◌, ◌*◌, ◌≤◌, ◌<◌}
use mathlib.Core.Path.{◌≡◌, refl, sym, ap, ◌∙◌, subst}
use mathlib.Core.Bool.{Bool, true, false, cond, ◌||◌, true≢false}
use mathlib.Core.Logic.{⊎_elim, ◌⊎◌, inl, inr}
use mathlib.Core.List.{List, [], ◌∷◌, ◌++◌}
use native.Mathlib.Omega.{arith}
use lib.ListN.{length, drop, replicate}
use lib.Dec.{ltb}
use borrow.Author.Tests.{lt-ltb, le-ltb}
use Rattle.refusals.specs.declared.Refusal.{Refusal}
use Rattle.refusals.specs.declared.Refusal.TheVariants.{ShortRow, LongSheet}
use Rattle.refusals.specs.declared.Verdict.{Verdict}
use Rattle.refusals.specs.Refusals.{is_refusal, refuse_if, first_of, accepted}
use Rattle.refusals.proofs.Verdicts.{refuses, none_refuses, first_alone}
use Rattle.runs.specs.Run.{Run, total}
use Rattle.runs.specs.AnyHead.{judge_any_of}
use Rattle.runs.proofs.Search.{true_or_false}
use Rattle.planner.specs.Plan.{room_for}
use Rattle.sheet_reader.specs.Sheet.{longest_sheet, sheet_run, sheet_name}
use Rattle.sheet_reader.specs.Reading.{read_row}
use Rattle.sheet_writer.specs.Writing.{written_row}
use Rattle.sheet_loose.specs.Reading.{loose_verdict}
use Rattle.sheet_lists.specs.Form.{plan_froms, plan_tos}
use Rattle.sheet_lists.specs.Reading.{plan_form}
use Rattle.answer_plan.specs.Recall.{verdict_by}
use Rattle.answer_any.specs.AnyRun.{any_checks, any_verdict, PlanAnyOf, room_left}
use Rattle.answer_any.proofs.Planned.{room_kept, room_cleared}
use Rattle.answer_buys_any.specs.AnyBuys.{BuysAnyOf}
use Rattle.answer_check.specs.RunRules.{head_anywhere}
use Rattle.answer_check.specs.Checking.{VerdictOf, verdict_on}
use Rattle.answer_mend.specs.Mending.{mended_text, changes_text}
use Rattle.boundary.specs.Boundary.{code_of}
use Rattle.boundary.proofs.Calls.{code_accepts}
use Rattle.boundary_texts.specs.Texts.{text_verdict, TextCalled, SheetCalled, AnswerCalled, CheckCalled, both_verdicts, mend_call, MendCalled}
use Rattle.demands.specs.RefusalTable.{HasStops, SomeApplies}
use Rattle.demands.proofs.Tests.{tells_below, tells_either}
use Rattle.demands.proofs.Checks.{decides_if, decides_reworded, Finds, finds_none, finds_first, AllRefuse, refused_iff}
use Rattle.promises.specs.Answers.{room_order}
use Rattle.promises.specs.AnswersAny.{AnyApplies}
use Rattle.promises.specs.PlanLines.{PlanAnyPrinted, FiguresAnyPrinted}
use Rattle.promises.specs.CheckWhole.{VerdictText}
use Rattle.promises.specs.ListLines.{PlanFormApplies, form_order}
use Rattle.promises.specs.TwoTexts.{EarlyApplies, early_order, PlannedApplies, planned_order}
use Rattle.promises.specs.Mender.{SheetApplies, sheet_order, texts_order}
use Rattle.promises.proofs.DeskSteps.{not_accepted}
use Rattle.promises.proofs.Answers.{room_all}
use Rattle.promises.proofs.AnswersAny.{any_finds, one}
use Rattle.promises.proofs.AnyLengths.{any_passes}
use Rattle.promises.proofs.PlanLines.{plan_any_printed}
use Rattle.promises.proofs.AnyFigures.{figures_printed}
use Rattle.promises.proofs.Checks.{even_plan}
use Rattle.promises.proofs.CheckWhole.{whole_text}
use Rattle.promises.proofs.InputLengths.{check_passes}
use Rattle.promises.proofs.ListLines.{plan_form_by_the_table}
use Rattle.promises.proofs.TwoTexts.{early_finds, planned_finds, first_of_sheet, first_of_text, first_of_run}
use Rattle.promises.proofs.Mender.{long, line, wants, reads, sheet_finds, rows_joined}
use Rattle.promises_calls.specs.CallRefusals.{CodeSays}
use Rattle.promises_calls.specs.SheetCalls.{RefusedSo, TextTold, RoomCleared, AnswerTold, AnswerCallAnswers, BuysCallAnswers, CheckCallAnswers, BothApply, long_text, short_row, MendCallAnswers}

-- What a verdict finds of an order decides whether it refuses.
module _ (Applies : Refusal → ℕ → Type 0) (order : List Refusal) (all : AllRefuse order) (v : Verdict) (finds : Finds Applies order v) where
  pub some_refuses : SomeApplies Applies order → refuses v ≡ true
  some_refuses s = not_accepted v.refusal ((refused_iff Applies finds all).1 s)

  pub none_passes : (SomeApplies Applies order → ⊥) → refuses v ≡ false
  none_passes n = ⊎_elim (λ (e : refuses v ≡ true). absurd (n ((refused_iff Applies finds all).0 (λ a. true≢false (sym e ∙ ap is_refusal a))))) (λ (e : refuses v ≡ false). e) (true_or_false (refuses v))

  pub says_so : (code : ℕ) → code ≡ code_of v → CodeSays Applies order code
  says_so code is = record { kind = v.refusal; place = v.place; is = is; first = finds }

-- A call under a verdict on its sheets.
module _ (v : Verdict) (Asked : List ℕ → Type 0) (out sizes : List ℕ) (code : ℕ) (out' sizes' : List ℕ) (called : SheetCalled v Asked out sizes code out' sizes') where
  refused_so_here : (Applies : Refusal → ℕ → Type 0) (order : List Refusal) → Finds Applies order v → refuses v ≡ true → (room room' : List ℕ) → room' ≡ room → RefusedSo Applies order out room sizes code out' room' sizes'
  refused_so_here Applies order finds e room room' stays =
      let r = called.refused e in
      record { says = record { kind = v.refusal; place = v.place; is = r.says; first = finds }; out_stays = r.out_is; room_stays = stays; sizes_stay = r.sizes_are }

  either_short : (text : List ℕ) → (length out < length text) ⊎ (length sizes < 1) → (ltb (length out) (length text) || ltb (length sizes) 1) ≡ true
  either_short text (inl l) = rw (lt-ltb (length out) (length text) l) refl
  either_short text (inr l) = rw (lt-ltb (length sizes) 1 l) (last (ltb (length out) (length text)))
    where
      last : (b : Bool) → (b || true) ≡ true
      last true = refl
      last false = refl

  told_text : (Told : List ℕ → Type 0) → ((text : List ℕ) → Asked text → Told text) → refuses v ≡ false → TextTold Told out sizes code out' sizes'
  unfolding written_row
  told_text Told means e =
      let t = called.answered e in
      record {
        text = t.text;
        asked = means t.text t.asked;
        short = λ s.
            let b = either_short t.text s in
            let says : code ≡ 8 = rw b at t.says in
            let stays : out' ≡ out = rw b at t.out_is in
            let sizes-stay : sizes' ≡ sizes = rw b at t.sizes_are in
            (says, (stays, sizes-stay));
        whole = λ l m.
            let b = le-ltb (length out) (length t.text) l in
            let c = le-ltb (length sizes) 1 m in
            let says : code ≡ 0 = rw (b, c) at t.says in
            let holds : out' ≡ t.text ++ drop (length t.text) out = rw (b, c) at t.out_is in
            let counts : sizes' ≡ length t.text ∷ drop 1 sizes = rw (b, c) at t.sizes_are in
            (says, (holds, counts));
      }

-- A run sheet to a text of its least list.
answer_told : (Asked Told : List ℕ → Run → List ℕ → Type 0) → ((name : List ℕ) (run : Run) → refuses (judge_any_of run) ≡ false → (text : List ℕ) → Asked name run text → Told name run text)
    → (sheet out room sizes : List ℕ) (code : ℕ) (out' room' sizes' : List ℕ) → SheetCalled (any_verdict (length room) sheet) (Asked (sheet_name sheet) (sheet_run sheet)) out sizes code out' sizes'
    → room' ≡ room_left sheet room → AnswerTold Told sheet out room sizes code out' room' sizes'
answer_told Asked Told means sheet out room sizes code out' room' sizes' called cleared =
    let v = any_verdict (length room) sheet in
    let Applies = AnyApplies (length room) sheet in
    let finds = any_finds (length room) sheet in
    let name = sheet_name sheet in
    let run = sheet_run sheet in
    record {
      refused = λ s.
          let e = some_refuses Applies room_order room_all v finds s in
          refused_so_here v (Asked name run) out sizes code out' sizes' called Applies room_order finds e room room' (cleared ∙ room_kept v run room e);
      answered = λ n.
          let e = none_passes Applies room_order room_all v finds n in
          let passes = (any_passes (length room) sheet e).1 in (
            told_text v (Asked name run) out sizes code out' sizes' called (Told name run) (means name run passes) e,
            λ stops s. cleared ∙ room_cleared v run room e ∙ ap (λ (m : ℕ). replicate m 0 ++ drop m room) (sym (one (length room) sheet stops passes s)),
          );
    }

pub answer_call_answers : AnswerCallAnswers
answer_call_answers sheet out room sizes code out' room' sizes' called =
    answer_told PlanAnyOf PlanAnyPrinted plan_any_printed sheet out room sizes code out' room' sizes' called.called called.cleared

pub buys_call_answers : BuysCallAnswers
buys_call_answers sheet out room sizes code out' room' sizes' called =
    answer_told BuysAnyOf FiguresAnyPrinted (λ name run passes text p. figures_printed run passes p.list p.least name text p.says) sheet out room sizes code out' room' sizes' called.called called.cleared

-- A run sheet and a plan sheet to the verdict.
module _ (sheet plan out room sizes : List ℕ) (code : ℕ) (out' room' sizes' : List ℕ) (called : CheckCalled sheet plan out room sizes code out' room' sizes') where
  abbrev v : Verdict
  v = verdict_on (length room) sheet plan

  abbrev OfRun : Refusal → ℕ → Type 0
  OfRun = PlannedApplies (length room) (sheet_run sheet)

  abbrev Asked : List ℕ → Type 0
  Asked = VerdictOf head_anywhere (sheet_name sheet) (sheet_run sheet) plan (plan_froms plan) (plan_tos plan)

  abbrev Shown : List ℕ → Type 0
  Shown = VerdictText (sheet_name sheet) (sheet_run sheet) plan (plan_froms plan) (plan_tos plan)

  all_early : AllRefuse early_order
  all_early = (refl, (refl, (refl, tt)))

  all_form : AllRefuse form_order
  all_form = (refl, (refl, tt))

  all_planned_here : AllRefuse planned_order
  all_planned_here = (refl, (refl, (refl, (refl, (refl, (refl, (refl, (refl, tt))))))))

  by_sheet : SomeApplies (EarlyApplies sheet) early_order → Finds (EarlyApplies sheet) early_order v
  unfolding verdict_by
  by_sheet = first_of_sheet (EarlyApplies sheet) (PlanFormApplies plan) OfRun planned_order sheet (plan_form plan) (any_checks (length room) (sheet_run sheet)) (early_finds sheet) (plan_form_by_the_table plan) (planned_finds (length room) (sheet_run sheet)) Shown []

  by_plan : (SomeApplies (EarlyApplies sheet) early_order → ⊥) → SomeApplies (PlanFormApplies plan) form_order → Finds (PlanFormApplies plan) form_order v
  unfolding verdict_by
  by_plan = first_of_text (EarlyApplies sheet) (PlanFormApplies plan) OfRun planned_order sheet (plan_form plan) (any_checks (length room) (sheet_run sheet)) (early_finds sheet) (plan_form_by_the_table plan) (planned_finds (length room) (sheet_run sheet)) Shown []

  by_run : (SomeApplies (EarlyApplies sheet) early_order → ⊥) → (SomeApplies (PlanFormApplies plan) form_order → ⊥) → Finds OfRun planned_order v
  unfolding verdict_by
  by_run = first_of_run (EarlyApplies sheet) (PlanFormApplies plan) OfRun planned_order sheet (plan_form plan) (any_checks (length room) (sheet_run sheet)) (early_finds sheet) (plan_form_by_the_table plan) (planned_finds (length room) (sheet_run sheet)) Shown []

  refused_by : (Applies : Refusal → ℕ → Type 0) (order : List Refusal) → AllRefuse order → Finds Applies order v → SomeApplies Applies order → RefusedSo Applies order out room sizes code out' room' sizes'
  refused_by Applies order all finds s =
      let e = some_refuses Applies order all v finds s in
      refused_so_here v Asked out sizes code out' sizes' called.called Applies order finds e room room' (called.cleared ∙ room_kept v (sheet_run sheet) room e)

  shown : refuses v ≡ false → (text : List ℕ) → Asked text → Shown text
  shown e text p =
      subst Shown (sym p.says) (whole_text (sheet_name sheet) (sheet_run sheet) (check_passes (length room) sheet plan e).1 plan (plan_froms plan) (plan_tos plan) (even_plan plan) p.list p.least)

  answered_by_here : refuses v ≡ false → TextTold Shown out sizes code out' sizes' × RoomCleared (sheet_run sheet) room room'
  answered_by_here e = (
    told_text v Asked out sizes code out' sizes' called.called Shown (shown e) e,
    λ stops s.
        called.cleared ∙ room_cleared v (sheet_run sheet) room e
        ∙ ap (λ (m : ℕ). replicate m 0 ++ drop m room) (sym (one (length room) sheet stops (check_passes (length room) sheet plan e).1 s)),
  )

pub check_call_answers : CheckCallAnswers
check_call_answers sheet plan out room sizes code out' room' sizes' called =
    let by = refused_by sheet plan out room sizes code out' room' sizes' called in
    let words = length room in
    let run = sheet_run sheet in
    record {
      of_sheet = λ s. by (EarlyApplies sheet) early_order (refl, (refl, (refl, tt))) (by_sheet sheet plan out room sizes code out' room' sizes' called s) s;
      of_plan = λ n s. by (PlanFormApplies plan) form_order (refl, (refl, tt)) (by_plan sheet plan out room sizes code out' room' sizes' called n s) s;
      of_run = λ n m s. by (PlannedApplies words run) planned_order (all_planned_here sheet plan out room sizes code out' room' sizes' called) (by_run sheet plan out room sizes code out' room' sizes' called n m) s;
      answered = λ n m o. answered_by_here sheet plan out room sizes code out' room' sizes' called
          (none_passes (PlannedApplies words run) planned_order (all_planned_here sheet plan out room sizes code out' room' sizes' called) (verdict_on words sheet plan) (by_run sheet plan out room sizes code out' room' sizes' called n m) o);
    }

-- A run sheet mended.
module _ (text changes out notes sizes : List ℕ) where
  abbrev Both : Refusal → ℕ → Type 0
  Both = BothApply text changes out notes sizes

  abbrev Short : Type 0
  Short = ((length out < length text) ⊎ (length notes < length changes)) ⊎ (length sizes < 2)

  long_there : (p : ℕ) → (p ≡ 0) × (16384 < length text) → Both LongSheet p
  long_there p h = rw h.0 (long_text h.1)

  long_back : (p : ℕ) → Both LongSheet p → (p ≡ 0) × (16384 < length text)
  long_back p (long_text l) = (refl, l)

  short_there : (p : ℕ) → (p ≡ 0) × Short → Both ShortRow p
  short_there p h = rw h.0 (short_row h.1)

  short_back : (p : ℕ) → Both ShortRow p → (p ≡ 0) × Short
  short_back p (short_row s) = (refl, s)

  both_find : Finds Both texts_order (first_of (both_verdicts text changes out notes sizes))
  both_find =
      let rows = ltb (length out) (length text) || ltb (length notes) (length changes) in
      let short = rows || ltb (length sizes) 2 in
      finds_first Both (refuse_if short ShortRow ∷ []) refl (decides_reworded long_there long_back (decides_if (ltb longest_sheet (length text)) LongSheet (tells_below longest_sheet (length text))))
      (λ a. finds_first Both [] refl
      (decides_reworded short_there short_back
      (decides_if short ShortRow
      (tells_either rows (ltb (length sizes) 2)
      (tells_either (ltb (length out) (length text)) (ltb (length notes) (length changes)) (tells_below (length out) (length text)) (tells_below (length notes) (length changes)))
      (tells_below (length sizes) 2))))
      (λ b. finds_none Both))

module _ (sheet out notes sizes : List ℕ) where
  abbrev ofSheet : Verdict
  ofSheet = first_of (long sheet ∷ line sheet ∷ wants sheet ∷ reads sheet ∷ [])

  abbrev ofTexts : Verdict
  ofTexts = first_of (both_verdicts (mended_text sheet) (changes_text sheet) out notes sizes)

  call_is : mend_call sheet out notes sizes ≡ first_of (ofSheet ∷ ofTexts ∷ [])
  unfolding mend_call loose_verdict
  call_is = rows_joined (long sheet) (line sheet) (wants sheet) (reads sheet) ofTexts

  all_sheet : AllRefuse sheet_order
  all_sheet = (refl, (refl, (refl, (refl, tt))))

  of_sheet_is : SomeApplies (SheetApplies sheet) sheet_order → mend_call sheet out notes sizes ≡ ofSheet
  of_sheet_is s = let e = some_refuses (SheetApplies sheet) sheet_order all_sheet ofSheet (sheet_finds sheet) s in call_is ∙ rw e refl

  of_texts_is : (SomeApplies (SheetApplies sheet) sheet_order → ⊥) → mend_call sheet out notes sizes ≡ ofTexts
  of_texts_is n =
      let e = none_passes (SheetApplies sheet) sheet_order all_sheet ofSheet (sheet_finds sheet) n in
      call_is ∙ rw e (first_alone (both_verdicts (mended_text sheet) (changes_text sheet) out notes sizes))

  zero_code : refuses (mend_call sheet out notes sizes) ≡ false → code_of (mend_call sheet out notes sizes) ≡ 0
  zero_code e = ap code_of (call_is ∙ none_refuses (ofSheet ∷ ofTexts ∷ []) (ap refuses (sym call_is) ∙ e))

pub mend_call_answers : MendCallAnswers
unfolding read_row
mend_call_answers sheet out notes sizes code out' notes' sizes' called =
    let v = mend_call sheet out notes sizes in
    let text = mended_text sheet in
    let changes = changes_text sheet in
    record {
      of_sheet = λ s. says_so (SheetApplies sheet) sheet_order (refl, (refl, (refl, (refl, tt)))) (ofSheet sheet out notes sizes) (sheet_finds sheet) code (called.says ∙ ap code_of (of_sheet_is sheet out notes sizes s));
      of_texts = λ n. says_so (BothApply text changes out notes sizes) texts_order (refl, (refl, tt)) (ofTexts sheet out notes sizes) (both_find text changes out notes sizes) code (called.says ∙ ap code_of (of_texts_is sheet out notes sizes n));
      kept = λ n.
          ⊎_elim
          (λ (e : refuses v ≡ true).
          let a : out' ≡ out = rw e at called.out_is in
          let b : notes' ≡ notes = rw e at called.notes_are in
          let c : sizes' ≡ sizes = rw e at called.sizes_are in
          (a, (b, c)))
          (λ (e : refuses v ≡ false). absurd (n (called.says ∙ zero_code sheet out notes sizes e)))
          (true_or_false (refuses v));
      told = λ z.
          let e : refuses v ≡ false = code_accepts v (sym called.says ∙ z) in
          let a : out' ≡ text ++ drop (length text) out = rw e at called.out_is in
          let b : notes' ≡ changes ++ drop (length changes) notes = rw e at called.notes_are in
          let c : sizes' ≡ length text ∷ length changes ∷ drop 2 sizes = rw e at called.sizes_are in
          (a, (b, c));
    }
