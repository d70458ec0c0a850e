-- `price` and `check` by the table, stage by stage.
use Prim.Native.Nat.{ℕ, ◌≤◌, ◌<◌}
use mathlib.Core.Path.{◌≡◌, refl, ap, sym, ◌∙◌, subst}
use mathlib.Core.Bool.{Bool, true, false, cond, true≢false}
use mathlib.Core.Logic.{◌⊎◌, inl, inr, ⊎_elim}
use mathlib.Core.List.{List, [], ◌∷◌, ◌++◌}
use native.Mathlib.Omega.{arith}
use lib.ListN.{length, take, drop, replicate}
use lib.Seq.{take-append_seam, drop-append_seam}
use lib.Dec.{ltb}
use borrow.Author.Tests.{ltb-true}
use Rattle.refusals.specs.declared.Refusal.{Refusal}
use Rattle.refusals.specs.declared.Refusal.TheVariants.{Accepted, ShortRow, ShortRoom, BadEntry, BadLine, LongSheet, RetiredRule}
use Rattle.refusals.specs.declared.Verdict.{Verdict}
use Rattle.refusals.specs.Refusals.{number_of, is_refusal, refuse_if, refuse_at, first_of}
use Rattle.refusals.proofs.Verdicts.{refuses, first_refuses, first_passes}
use Rattle.runs.specs.Run.{Run, stops_of}
use Rattle.runs.specs.AnyHead.{judge_any_of, lifted, list_verdict_any}
use Rattle.runs.proofs.Search.{true_or_false}
use Rattle.runs.proofs.AnyHead.{accepted_any}
use Rattle.planner.specs.Plan.{room_for}
use Rattle.sheet_reader.specs.Lines.{sweep_text}
use Rattle.sheet_reader.specs.Sheet.{longest_sheet, says_sweep, first_bad_line, sheet_run, sheet_name}
use Rattle.sheet_reader.specs.Reading.{sheet_verdict, rule_verdict}
use Rattle.sheet_writer.specs.declared.Written.{Written}
use Rattle.sheet_writer.specs.Writing.{row_verdict, written_answer, written_row}
use Rattle.sheet_writer.specs.RefusalLines.{refusal_text}
use Rattle.sheet_lists.specs.Form.{plan_froms, plan_tos, list_froms, list_tos}
use Rattle.sheet_lists.specs.Reading.{plan_form, list_form}
use Rattle.answer_plan.specs.Recall.{verdict_by}
use Rattle.answer_plan.specs.PlannedLists.{TextHanded}
use Rattle.answer_any.specs.AnyRun.{any_checks, room_after, NotAnswered}
use Rattle.answer_any.proofs.Planned.{room_kept, room_cleared}
use Rattle.answer_check.specs.RunRules.{head_anywhere}
use Rattle.answer_check.specs.Pricing.{pricing_verdict, price_text}
use Rattle.answer_check.specs.Checking.{verdict_on, room_checked, VerdictOf, SheetChecked, CheckAnswered}
use Rattle.answer_check.proofs.Determined.{one_least, answer_once}
use Rattle.demands.specs.RefusalTable.{FirstBad, SomeApplies}
use Rattle.demands.specs.AnyHead.{RunAppliesAny, ListIsBadAny}
use Rattle.demands.specs.Lines.{LineIsBad, lines_due, Ruled}
use Rattle.demands.proofs.Tests.{tells_below}
use Rattle.demands.proofs.Checks.{decides_if, decides_there, decides_reworded, Finds, finds_none, finds_first, first_of_joined, AllRefuse, refused_iff}
use Rattle.demands.proofs.Counted.{has_stops, stops_one}
use Rattle.demands.proofs.AnyLifted.{stops_down, stops_up}
use Rattle.demands.proofs.AnyJudged.{any_small, run_any_finds, decides_list_any}
use Rattle.demands.proofs.Lines.{tells_sweep}
use Rattle.demands.proofs.FirstLine.{decides_line}
use Rattle.promises.specs.Answers.{WordsApply, short_room, two_lines}
use Rattle.promises.specs.Rooms.{RoomOfPlan}
use Rattle.promises.specs.Lengths.{check_row}
use Rattle.promises.specs.CheckWhole.{VerdictText}
use Rattle.promises.specs.ListLines.{PlanFormApplies, ListFormApplies, form_order}
use Rattle.promises.specs.TwoTexts.{EarlyApplies, early_order, PricedApplies, priced_order, PlannedApplies, planned_order, InThreeStages, PriceByTheTable, CheckByTheTable, AsPrinted, RoomAfterwards, CheckLeavesTheRoom, CallerIsTold}
use Rattle.promises.proofs.Checks.{put_whole}
use Rattle.promises.proofs.DeskSteps.{not_accepted}
use Rattle.promises.proofs.Answers.{lines_are}
use Rattle.promises.proofs.InputLengths.{price_held, check_passes, check_fits}
use Rattle.promises.proofs.AnswersAny.{one}
use Rattle.promises.proofs.AnyRecord.{NoEight, not_eight}
use Rattle.promises.proofs.CheckWhole.{check_prints_all}
use Rattle.promises.proofs.ListLines.{plan_form_by_the_table, list_form_by_the_table}

-- The run sheet by itself.
module _ (sheet : List ℕ) where
  long_back : (p : ℕ) → EarlyApplies sheet LongSheet p → (p ≡ 0) × (16384 < length sheet)
  long_back p (EarlyApplies.too_long h) = (refl, h)

  line_back : (p : ℕ) → EarlyApplies sheet BadLine p → FirstBad (LineIsBad sheet) (lines_due sheet) p
  line_back p (EarlyApplies.bad_line h) = h

  rule_back_here : (p : ℕ) → EarlyApplies sheet RetiredRule p → (p ≡ 4) × Ruled sweep_text sheet
  rule_back_here p (EarlyApplies.retired_rule h) = (refl, h)

  pub early_finds : Finds (EarlyApplies sheet) early_order (first_of (sheet_verdict sheet ∷ rule_verdict sheet ∷ []))
  unfolding sheet_verdict rule_verdict says_sweep
  early_finds =
      let long = refuse_if (ltb longest_sheet (length sheet)) LongSheet in
      let line = refuse_at (first_bad_line sheet) BadLine in
      let rule = refuse_at (cond (says_sweep sheet) 4 0) RetiredRule in
      rw
      (first_of_joined (long ∷ line ∷ []) (rule ∷ []))
      (finds_first (EarlyApplies sheet) (line ∷ rule ∷ []) refl
      (decides_reworded (λ p h. rw h.0 (EarlyApplies.too_long h.1)) long_back (decides_if _ LongSheet (tells_below longest_sheet (length sheet))))
      (λ a. finds_first (EarlyApplies sheet) (rule ∷ []) refl (decides_reworded (λ p. EarlyApplies.bad_line) line_back (decides_line sheet))
      (λ b. finds_first (EarlyApplies sheet) [] refl
      (decides_reworded (λ p h. rw h.0 (EarlyApplies.retired_rule h.1)) rule_back_here (decides_there _ 3 RetiredRule (tells_sweep sheet)))
      (λ c. finds_none (EarlyApplies sheet)))))

-- The run with a list.
module _ (r : Run) (froms tos : List ℕ) where
  priced_of_run : (k : Refusal) (p : ℕ) → number_of k ≤ 7 → PricedApplies r froms tos k p → RunAppliesAny r k p
  priced_of_run k p l (PricedApplies.run h) = h
  priced_of_run k p l (PricedApplies.bad_list h) = absurd (omega arith)

  list_back : (p : ℕ) → PricedApplies r froms tos BadEntry p → ListIsBadAny r froms tos p
  list_back p (PricedApplies.run h) = absurd (omega (arith, any_small r h))
  list_back p (PricedApplies.bad_list h) = h

  priced_finds : Finds (PricedApplies r froms tos) priced_order (first_of (judge_any_of r ∷ list_verdict_any r.head (stops_of r) froms tos ∷ []))
  priced_finds =
      run_any_finds r (PricedApplies r froms tos) (λ k p. PricedApplies.run) priced_of_run (BadEntry ∷ []) (list_verdict_any r.head (stops_of r) froms tos ∷ [])
      (λ a. finds_first (PricedApplies r froms tos) [] refl
      (decides_reworded (λ p. PricedApplies.bad_list) list_back (decides_list_any r (accepted_any r a) froms tos))
      (λ b. finds_none (PricedApplies r froms tos)))

-- The run with the room.
module _ (words : ℕ) (r : Run) where
  room_number : (k : Refusal) (p : ℕ) → WordsApply words r k p → number_of k ≡ 9
  room_number k p (short_room s h) = refl

  planned_of_run : (k : Refusal) (p : ℕ) → number_of k ≤ 7 → PlannedApplies words r k p → RunAppliesAny r k p
  planned_of_run k p l (PlannedApplies.run h) = h
  planned_of_run k p l (PlannedApplies.room h) = absurd (omega (arith, room_number k p h))

  room_back : refuses (judge_any_of r) ≡ false → (p : ℕ) → PlannedApplies words r ShortRoom p → (p ≡ 0) × (words < room_for r)
  room_back a p (PlannedApplies.run h) = absurd (omega (arith, any_small r h))
  room_back a p (PlannedApplies.room (short_room s h)) = (refl, rw (stops_one (lifted r) (accepted_any r a).run (stops_up r s)) at h)

  pub planned_finds : Finds (PlannedApplies words r) planned_order (first_of (any_checks words r))
  planned_finds =
      let short = refuse_if (ltb words (room_for r)) ShortRoom in
      run_any_finds r (PlannedApplies words r) (λ k p. PlannedApplies.run) planned_of_run (ShortRoom ∷ []) (short ∷ [])
      (λ a. finds_first (PlannedApplies words r) [] refl
      (decides_reworded (λ p h. rw h.0 (PlannedApplies.room (short_room (stops_down r (has_stops (lifted r) (accepted_any r a).run)) h.1))) (room_back a) (decides_if _ ShortRoom (tells_below words (room_for r))))
      (λ b. finds_none (PlannedApplies words r)))

-- Three verdicts in a row, and what each finds.
module _ (OfSheet OfText OfRun : Refusal → ℕ → Type 0) (order : List Refusal) (sheet : List ℕ) (form : Verdict) (others : List Verdict)
    (early : Finds OfSheet early_order (first_of (sheet_verdict sheet ∷ rule_verdict sheet ∷ []))) (text : Finds OfText form_order form) (run : Finds OfRun order (first_of others))
    (Asked : List ℕ → Type 0) (printed : List ℕ) where
  abbrev e₀ : Verdict
  e₀ = first_of (sheet_verdict sheet ∷ rule_verdict sheet ∷ [])

  abbrev v : Verdict
  v = first_of (sheet_verdict sheet ∷ rule_verdict sheet ∷ form ∷ others)

  in_two : first_of (e₀ ∷ form ∷ others) ≡ v
  in_two = first_of_joined (sheet_verdict sheet ∷ rule_verdict sheet ∷ []) (form ∷ others)

  all_early : AllRefuse early_order
  all_early = (refl, (refl, (refl, tt)))

  all_form : AllRefuse form_order
  all_form = (refl, (refl, tt))

  none_so : refuses e₀ ≡ false → SomeApplies OfSheet early_order → ⊥
  none_so e s = true≢false (sym (not_accepted e₀.refusal ((refused_iff OfSheet early all_early).1 s)) ∙ e)

  some_so : refuses e₀ ≡ true → SomeApplies OfSheet early_order
  some_so e = (refused_iff OfSheet early all_early).0 (λ a. true≢false (sym e ∙ ap is_refusal a))

  none_text : refuses form ≡ false → SomeApplies OfText form_order → ⊥
  none_text e s = true≢false (sym (not_accepted form.refusal ((refused_iff OfText text all_form).1 s)) ∙ e)

  some_text_here : refuses form ≡ true → SomeApplies OfText form_order
  some_text_here e = (refused_iff OfText text all_form).0 (λ a. true≢false (sym e ∙ ap is_refusal a))

  v_early : refuses e₀ ≡ true → e₀ ≡ v
  v_early e = first_refuses e₀ (form ∷ others) e ∙ in_two

  v_form : refuses e₀ ≡ false → refuses form ≡ true → form ≡ v
  v_form e f = first_refuses form others f ∙ sym (first_passes e₀ (form ∷ others) e) ∙ in_two

  v_run : refuses e₀ ≡ false → refuses form ≡ false → first_of others ≡ v
  v_run e f = sym (first_passes form others f) ∙ sym (first_passes e₀ (form ∷ others) e) ∙ in_two

  moved : (applies : Refusal → ℕ → Type 0) (o : List Refusal) (w : Verdict) → w ≡ v → Finds applies o w → Finds applies o v
  moved applies o w e f = subst (Finds applies o) e f

  -- What is found in all, by what applies.
  pub first_of_sheet : SomeApplies OfSheet early_order → Finds OfSheet early_order v
  first_of_sheet s = ⊎_elim (λ e. moved OfSheet early_order e₀ (v_early e) early) (λ e. absurd (none_so e s)) (true_or_false (refuses e₀))

  pub first_of_text : (SomeApplies OfSheet early_order → ⊥) → SomeApplies OfText form_order → Finds OfText form_order v
  first_of_text n s =
      ⊎_elim (λ e. absurd (n (some_so e)))
      (λ e. ⊎_elim (λ f. moved OfText form_order form (v_form e f) text) (λ f. absurd (none_text f s)) (true_or_false (refuses form)))
      (true_or_false (refuses e₀))

  pub first_of_run : (SomeApplies OfSheet early_order → ⊥) → (SomeApplies OfText form_order → ⊥) → Finds OfRun order v
  first_of_run n m =
      ⊎_elim (λ e. absurd (n (some_so e)))
      (λ e. ⊎_elim (λ f. absurd (m (some_text_here f))) (λ f. moved OfRun order (first_of others) (v_run e f) run) (true_or_false (refuses form)))
      (true_or_false (refuses e₀))

  -- Refused exactly where one of them applies.
  pub some_refuses : AllRefuse order → SomeApplies OfSheet early_order ⊎ (SomeApplies OfText form_order ⊎ SomeApplies OfRun order) → refuses v ≡ true
  some_refuses all s =
      ⊎_elim (λ (e : refuses e₀ ≡ true). ap refuses (sym (v_early e)) ∙ e)
      (λ (e : refuses e₀ ≡ false).
      ⊎_elim (λ (f : refuses form ≡ true). ap refuses (sym (v_form e f)) ∙ f)
      (λ (f : refuses form ≡ false).
      ap refuses (sym (v_run e f))
      ∙ ⊎_elim (λ h. absurd (none_so e h)) (λ t. ⊎_elim (λ h. absurd (none_text f h)) (λ h. not_accepted (first_of others).refusal ((refused_iff OfRun run all).1 h)) t) s)
      (true_or_false (refuses form)))
      (true_or_false (refuses e₀))

  pub none_passes : AllRefuse order → (SomeApplies OfSheet early_order → ⊥) → (SomeApplies OfText form_order → ⊥) → (SomeApplies OfRun order → ⊥) → refuses v ≡ false
  none_passes all a b c =
      ⊎_elim (λ (e : refuses e₀ ≡ true). absurd (a (some_so e)))
      (λ (e : refuses e₀ ≡ false).
      ⊎_elim (λ (f : refuses form ≡ true). absurd (b (some_text_here f)))
      (λ (f : refuses form ≡ false).
      ap refuses (sym (v_run e f))
      ∙ ⊎_elim (λ (g : refuses (first_of others) ≡ true). absurd (c ((refused_iff OfRun run all).0 (λ is. true≢false (sym g ∙ ap is_refusal is))))) (λ g. g) (true_or_false (refuses (first_of others))))
      (true_or_false (refuses form)))
      (true_or_false (refuses e₀))

  -- None of them is 8, where none of their orders has it.
  pub never_eight : NoEight order → number_of v.refusal ≡ 8 → ⊥
  never_eight none is =
      ⊎_elim
      (λ (e : refuses e₀ ≡ true). not_eight OfSheet early_order (λ k. omega arith, (λ k. omega arith, (λ k. omega arith, tt))) (moved OfSheet early_order e₀ (v_early e) early) is)
      (λ (e : refuses e₀ ≡ false).
      ⊎_elim
      (λ (f : refuses form ≡ true). not_eight OfText form_order (λ k. omega arith, (λ k. omega arith, tt)) (moved OfText form_order form (v_form e f) text) is)
      (λ (f : refuses form ≡ false). not_eight OfRun order none (moved OfRun order (first_of others) (v_run e f) run) is)
      (true_or_false (refuses form)))
      (true_or_false (refuses e₀))

  module _ (lines : refuses v ≡ true → printed ≡ refusal_text v) (asked : refuses v ≡ false → Asked printed) where
    pub in_stages : InThreeStages OfSheet OfText OfRun order Asked printed
    in_stages =
        record {
          kind = v.refusal;
          place = v.place;
          of_sheet = first_of_sheet;
          of_text = first_of_text;
          of_run = first_of_run;
          refused = λ n. lines (not_accepted v.refusal n) ∙ lines_are v;
          asked = λ e. asked (ap is_refusal e);
        }

pub price_by_the_table : PriceByTheTable
unfolding verdict_by price_text
price_by_the_table sheet list row n row' c wide =
    let h = price_held sheet list in
    let whole = put_whole (price_text head_anywhere (pricing_verdict head_anywhere sheet list) (sheet_name sheet) (sheet_run sheet) list) row n row' c.bytes c.left (omega (arith, h.0)) in
    in_stages (EarlyApplies sheet) (ListFormApplies list) (PricedApplies (sheet_run sheet) (list_froms list) (list_tos list)) priced_order sheet (list_form list)
    (judge_any_of (sheet_run sheet) ∷ list_verdict_any (sheet_run sheet).head (stops_of (sheet_run sheet)) (list_froms list) (list_tos list) ∷ []) (early_finds sheet) (list_form_by_the_table list)
    (priced_finds (sheet_run sheet) (list_froms list) (list_tos list)) _ (take n row')
    (λ e. whole ∙ rw e) (λ e. whole ∙ rw e)

pub check_by_the_table : CheckByTheTable
unfolding verdict_by
check_by_the_table sheet plan row room n row' room' c wide =
    let g = c.given in
    let h = check_fits (length room) sheet plan g.text g.answers in
    let whole = put_whole g.text row n row' g.holds.bytes g.holds.left (omega (arith, h.0)) in
    in_stages (EarlyApplies sheet) (PlanFormApplies plan) (PlannedApplies (length room) (sheet_run sheet)) planned_order sheet (plan_form plan) (any_checks (length room) (sheet_run sheet)) (early_finds sheet)
    (plan_form_by_the_table plan) (planned_finds (length room) (sheet_run sheet)) _ (take n row')
    (λ e. whole ∙ g.answers.refused e) (λ e. check_prints_all sheet plan row room n row' room' c wide e)

-- The room.
all_planned : AllRefuse planned_order
all_planned = (refl, (refl, (refl, (refl, (refl, (refl, (refl, (refl, tt))))))))

module _ (sheet plan room room' : List ℕ) (is : room' ≡ room_checked sheet plan room) where
  abbrev judging : Verdict
  judging = verdict_on (length room) sheet plan

  abbrev OfRoom : Refusal → ℕ → Type 0
  OfRoom = PlannedApplies (length room) (sheet_run sheet)

  is_refused_here : SomeApplies (EarlyApplies sheet) early_order ⊎ (SomeApplies (PlanFormApplies plan) form_order ⊎ SomeApplies OfRoom planned_order) → refuses judging ≡ true
  unfolding verdict_by
  is_refused_here =
      some_refuses (EarlyApplies sheet) (PlanFormApplies plan) OfRoom planned_order sheet (plan_form plan) (any_checks (length room) (sheet_run sheet)) (early_finds sheet) (plan_form_by_the_table plan)
      (planned_finds (length room) (sheet_run sheet)) (λ t. Unit {0}) [] all_planned

  is_accepted_here : (SomeApplies (EarlyApplies sheet) early_order → ⊥) → (SomeApplies (PlanFormApplies plan) form_order → ⊥) → (SomeApplies OfRoom planned_order → ⊥) → refuses judging ≡ false
  unfolding verdict_by
  is_accepted_here =
      none_passes (EarlyApplies sheet) (PlanFormApplies plan) OfRoom planned_order sheet (plan_form plan) (any_checks (length room) (sheet_run sheet)) (early_finds sheet) (plan_form_by_the_table plan)
      (planned_finds (length room) (sheet_run sheet)) (λ t. Unit {0}) [] all_planned

  room_by_stops : refuses judging ≡ false → RoomOfPlan (sheet_run sheet) room room'
  room_by_stops e =
      let run = sheet_run sheet in
      let passes = (check_passes (length room) sheet plan e).1 in
      let has = stops_down run (has_stops (lifted run) (accepted_any run passes).run) in
      record {
        stops = length (stops_of (lifted run));
        are = has;
        left = is ∙ room_cleared judging run room e ∙ ap (λ m. replicate m 0 ++ drop m room) (sym (one (length room) sheet (length (stops_of (lifted run))) passes has));
      }

pub check_leaves_the_room : CheckLeavesTheRoom
check_leaves_the_room sheet plan row room n row' room' c =
    record {
      kept = λ some. c.cleared ∙ room_kept (verdict_on (length room) sheet plan) (sheet_run sheet) room (is_refused_here sheet plan room room' c.cleared some);
      cleared = λ a b d. room_by_stops sheet plan room room' c.cleared (is_accepted_here sheet plan room room' c.cleared a b d);
    }

-- For a caller, beside what is printed of the same sheet: the refusal whose lines are printed, or the text that is printed, of which there is one.
planned_none : NoEight planned_order
planned_none = (λ e. omega arith, (λ e. omega arith, (λ e. omega arith, (λ e. omega arith, (λ e. omega arith, (λ e. omega arith, (λ e. omega arith, (λ e. omega arith, tt))))))))

apart : ShortRow ≡ Accepted → ⊥
apart is = let z : ◌≡◌ {A = ℕ} 8 0 = ap number_of is in omega arith

module _ (Of Asks : List ℕ → Type 0) (sheet : List ℕ) (said : Verdict) (not_short : said.refusal ≡ ShortRow → ⊥) (row room : List ℕ) (w : Written) (row' room' printed : List ℕ)
    (refused : refuses said ≡ true → NotAnswered said row w row') (handed : refuses said ≡ false → TextHanded Of row w row') (is-left : room' ≡ room_after said (sheet_run sheet) room)
    (lines : refuses said ≡ true → printed ≡ refusal_text said) (one-text : (e : refuses said ≡ false) → (handed e).text ≡ printed) (asks : refuses said ≡ false → Asks printed)
    (judged : refuses said ≡ false → refuses (judge_any_of (sheet_run sheet)) ≡ false) where
  told_refusal : refuses said ≡ true → AsPrinted Asks row w row' printed
  told_refusal e =
      let p = refused e in
      let kind : w.refusal ≡ said.refusal = ap (λ x. x.refusal) p.says in
      record {
        text = λ is. absurd (true≢false (sym e ∙ ap is_refusal (sym kind ∙ is)));
        counted = λ is. absurd (true≢false (sym e ∙ ap is_refusal (sym kind ∙ is)));
        short = λ is. absurd (not_short (sym kind ∙ is));
        lines = λ a b. lines e ∙ lines_are said ∙ ap (λ x. two_lines x.refusal x.place) (sym p.says);
        unwritten = λ a. (ap (λ x. x.bytes) p.says, p.kept);
        behind = ap (drop w.bytes) p.kept;
      }

  module _ (e : refuses said ≡ false) where
    abbrev asked : TextHanded Of row w row'
    asked = handed e

    told_short : ltb (length row) (length asked.text) ≡ true → AsPrinted Asks row w row' printed
    unfolding row_verdict written_answer written_row
    told_short t =
        let says : w ≡ record { refusal = ShortRow; place = 0; bytes = 0 } = asked.handed.answer ∙ rw t in
        let stays : row' ≡ row = asked.handed.left ∙ rw t in
        record {
          text = λ is. absurd (apart (sym (ap (λ x. x.refusal) says) ∙ is));
          counted = λ is. absurd (apart (sym (ap (λ x. x.refusal) says) ∙ is));
          short = λ is. (ap (λ x. x.place) says, subst (λ x. length row < length x) (one-text e) (ltb-true (length row) (length asked.text) t), asks e);
          lines = λ a b. absurd (b (ap (λ x. x.refusal) says));
          unwritten = λ a. (ap (λ x. x.bytes) says, stays);
          behind = ap (drop w.bytes) stays;
        }

    told_text : ltb (length row) (length asked.text) ≡ false → AsPrinted Asks row w row' printed
    unfolding row_verdict written_answer written_row
    told_text t =
        let says : w ≡ record { refusal = Accepted; place = 0; bytes = length asked.text } = asked.handed.answer ∙ rw t in
        let holds : row' ≡ asked.text ++ drop (length asked.text) row = asked.handed.left ∙ rw t in
        let front : take w.bytes row' ≡ asked.text = ap (λ x. take x.bytes row') says ∙ ap (take (length asked.text)) holds ∙ take-append_seam asked.text (drop (length asked.text) row) in
        record {
          text = λ is. (front ∙ one-text e, asks e);
          counted = λ is. (ap (λ x. x.bytes) says ∙ ap length (one-text e), ap (λ x. x.place) says);
          short = λ is. absurd (apart (sym is ∙ ap (λ x. x.refusal) says));
          lines = λ a b. absurd (a (ap (λ x. x.refusal) says));
          unwritten = λ a. absurd (a (ap (λ x. x.refusal) says));
          behind =
              ap (λ x. drop x.bytes row') says ∙ ap (drop (length asked.text)) holds ∙ drop-append_seam asked.text (drop (length asked.text) row)
              ∙ sym (ap (λ x. drop x.bytes row) says);
        }

    or_short : (w.refusal ≡ Accepted) ⊎ (w.refusal ≡ ShortRow)
    unfolding row_verdict written_answer
    or_short =
        ⊎_elim
        (λ (t : ltb (length row) (length asked.text) ≡ true). inr (ap (λ x. x.refusal) asked.handed.answer ∙ rw t))
        (λ (t : ltb (length row) (length asked.text) ≡ false). inl (ap (λ x. x.refusal) asked.handed.answer ∙ rw t))
        (true_or_false (ltb (length row) (length asked.text)))

  room_left_here : (b : Bool) → refuses said ≡ b → RoomAfterwards (sheet_run sheet) w.refusal room room'
  room_left_here true e =
      let kind : w.refusal ≡ said.refusal = ap (λ x. x.refusal) (refused e).says in
      record {
        kept = λ a b. is-left ∙ room_kept said (sheet_run sheet) room e;
        cleared = λ stops s is. absurd (⊎_elim (λ x. true≢false (sym e ∙ ap is_refusal (sym kind ∙ x))) (λ x. not_short (sym kind ∙ x)) is);
      }
  room_left_here false e =
      record {
        kept = λ a b. absurd (⊎_elim a b (or_short e));
        cleared = λ stops s is.
            is-left ∙ room_cleared said (sheet_run sheet) room e
            ∙ ap (λ m. replicate m 0 ++ drop m room) (sym (one (length room) sheet stops (judged e) s));
      }

  as_printed : (b : Bool) → refuses said ≡ b → AsPrinted Asks row w row' printed
  as_printed true e = told_refusal e
  as_printed false e = ⊎_elim (told_short e) (told_text e) (true_or_false (ltb (length row) (length (handed e).text)))

  pub caller_told : AsPrinted Asks row w row' printed × RoomAfterwards (sheet_run sheet) w.refusal room room'
  caller_told = (as_printed (refuses said) refl, room_left_here (refuses said) refl)

module _ (sheet plan room out : List ℕ) (n : ℕ) (out' room'' : List ℕ) (d : SheetChecked sheet plan out room n out' room'') (wide : check_row ≤ length out) where
  abbrev checked : Verdict
  checked = verdict_on (length room) sheet plan

  whole : take n out' ≡ d.given.text
  whole = let g = d.given in let h = check_fits (length room) sheet plan g.text g.answers in put_whole g.text out n out' g.holds.bytes g.holds.left (omega (arith, h.0))

  not_short : checked.refusal ≡ ShortRow → ⊥
  unfolding verdict_by
  not_short is =
      never_eight (EarlyApplies sheet) (PlanFormApplies plan) (PlannedApplies (length room) (sheet_run sheet)) planned_order sheet (plan_form plan) (any_checks (length room) (sheet_run sheet)) (early_finds sheet)
      (plan_form_by_the_table plan) (planned_finds (length room) (sheet_run sheet)) (λ t. Unit {0}) [] planned_none (ap number_of is)

  one_verdict : refuses checked ≡ false → (text : List ℕ) → VerdictOf head_anywhere (sheet_name sheet) (sheet_run sheet) plan (plan_froms plan) (plan_tos plan) text → text ≡ take n out'
  one_verdict e text asked =
      answer_once head_anywhere one_least checked (sheet_name sheet) (sheet_run sheet) plan (plan_froms plan) (plan_tos plan) text d.given.text
      (record { refused = λ q. absurd (true≢false (sym q ∙ e)); checked = λ q. asked }) d.given.answers
      ∙ sym whole

pub caller_is_told : CallerIsTold
caller_is_told sheet plan row room out w row' room' n out' room'' c d wide =
    let told = caller_told (VerdictOf head_anywhere (sheet_name sheet) (sheet_run sheet) plan (plan_froms plan) (plan_tos plan))
    (VerdictText (sheet_name sheet) (sheet_run sheet) plan (plan_froms plan) (plan_tos plan)) sheet (verdict_on (length room) sheet plan) (not_short sheet plan room out n out' room'' d wide) row room w row' room' (take n out')
    c.refused c.checked c.cleared
    (λ e. whole sheet plan room out n out' room'' d wide ∙ d.given.answers.refused e)
    (λ e. one_verdict sheet plan room out n out' room'' d wide e (c.checked e).text (c.checked e).asked)
    (λ e. check_prints_all sheet plan out room n out' room'' d wide e)
    (λ e. (check_passes (length room) sheet plan e).1) in
    (told.0, (told.1, c.cleared ∙ sym d.cleared))
