-- The programs that take one run sheet, by the table: each check decides its condition, and what is printed is the first refusal's two lines or the sheet asked for.
use Prim.Native.Nat.{ℕ, ◌≤◌, ◌<◌}
use mathlib.Core.Path.{◌≡◌, refl, ap, sym, ◌∙◌, subst}
use mathlib.Core.Bool.{true, false, cond}
use mathlib.Core.Logic.{◌⊎◌, inl, inr, ⊎_elim}
use mathlib.Core.List.{List, [], ◌∷◌, ◌++◌, append_assoc}
use native.Mathlib.Omega.{arith}
use lib.ListN.{length, get_or}
use lib.Dec.{ltb}
use borrow.Author.Tests.{le-ltb, lt-ltb}
use Rattle.refusals.specs.declared.Refusal.{Refusal}
use Rattle.refusals.specs.declared.Refusal.TheVariants.{Accepted, FileRows, BadFile, WantRows, BadWant, TooManyReads, TurnPrice, HeadPlace, ShortRoom, BadLine, LongSheet, RetiredRule, OverEightWants}
use Rattle.refusals.specs.declared.Verdict.{Verdict}
use Rattle.refusals.specs.Refusals.{number_of, is_refusal, accepted, refuse_if, refuse_at, first_of}
use Rattle.refusals.proofs.Verdicts.{refuses, none_refuses, accepts_if}
use Rattle.runs.specs.Run.{Run, most_wants}
use Rattle.runs.specs.Judging.{table_checks, judge_of}
use Rattle.runs.proofs.Search.{true_or_false}
use Rattle.runs.proofs.Judged.{accepted_run}
use Rattle.planner.specs.Plan.{room_for}
use Rattle.engine_plain.specs.Plain.{uneven_wants, most_plain_wants}
use Rattle.engine_plain.proofs.Checks.{late_behind}
use Rattle.sheet_reader.specs.Lines.{sweep_text}
use Rattle.sheet_reader.specs.Sheet.{longest_sheet, says_sweep, first_bad_line, sheet_run, sheet_name}
use Rattle.sheet_reader.specs.Reading.{sheet_verdict, rule_verdict}
use Rattle.text_bytes.specs.Text.{line_feed, decimal}
use Rattle.sheet_writer.specs.declared.Written.{Written}
use Rattle.sheet_writer.specs.Writing.{row_verdict, written_answer, written_row, Handed}
use Rattle.sheet_writer.specs.RefusalLines.{refused_key, place_key, refusal_text}
use Rattle.answer_plan.specs.Recall.{run_checks, room_words, verdict_by, recall_verdict}
use Rattle.answer_plan.proofs.Planned.{handed_bytes, handed_row}
use Rattle.answer_field.specs.Field.{field_checks}
use Rattle.demands.specs.RefusalTable.{FirstBad, RunApplies, FirstThatApplies, here, later}
use Rattle.demands.specs.Lines.{LineIsBad, lines_due, Ruled}
use Rattle.demands.proofs.Tests.{tells_below}
use Rattle.demands.proofs.Checks.{decides_if, decides_there, decides_reworded, Finds, finds_none, finds_first, first_of_joined, AllRefuse, refused_iff}
use Rattle.demands.proofs.Conditions.{rows_unfit}
use Rattle.demands.proofs.Judged.{run_finds, table_finds, run_small, want_rows_only}
use Rattle.demands.proofs.Counted.{has_stops, stops_one}
use Rattle.demands.proofs.Lines.{tells_sweep}
use Rattle.demands.proofs.FirstLine.{decides_line}
use Rattle.promises.specs.Answers.{SheetRunApplies, AnswerApplies, too_long, bad_line, retired_rule, run, engine, RoomApplies, short_room, EightApplies, over_eight, room_order, eight_order, two_lines, RefusalByItsLines, LinesHanded, RefusalIsHanded, PrintedByTheTable, PlanByTheTable, FieldByTheTable, BuysByTheTable}
use Rattle.promises.specs.BuysLines.{FiguresOf}
use Rattle.promises.specs.PlanLines.{PlanPrinted}
use Rattle.promises.proofs.BuysLines.{figures_of_lem}
use Rattle.promises.proofs.PlanLines.{plan_printed}
use Rattle.promises.proofs.Checks.{put_whole}
use Rattle.promises.proofs.Lengths.{refusal_short, run_judges, field_judges, run_checks_near, field_checks_near, plan_held, buys_held}

-- The lines of a refusal.
regrouped : (a n f b p : List ℕ) → (a ++ n ++ f) ++ (b ++ p ++ f) ≡ a ++ n ++ (f ++ b) ++ p ++ f
regrouped a n f b p = simp append_assoc

pub lines_are : (v : Verdict) → refusal_text v ≡ two_lines v.refusal v.place
unfolding refusal_text
lines_are v = regrouped refused_key (decimal (number_of v.refusal)) (line_feed ∷ []) place_key (decimal v.place)

pub refusal_by_its_lines : RefusalByItsLines
refusal_by_its_lines v row w row' h near wide =
    put_whole (refusal_text v) row w.bytes row' (handed_bytes (refusal_text v) row w row' h) (handed_row (refusal_text v) row w row' h) (omega (arith, refusal_short v near)) ∙ lines_are v

pub handed_lines : (text row : List ℕ) (w : Written) (row' : List ℕ) → Handed (row_verdict text row) text row w row' → LinesHanded text row w row'
unfolding row_verdict written_answer written_row
handed_lines text row w row' h =
    record {
      held = λ l. (rw (le-ltb (length row) (length text) l) at h.answer, rw (le-ltb (length row) (length text) l) at h.left);
      short = λ l. (rw (lt-ltb (length row) (length text) l) at h.answer, rw (lt-ltb (length row) (length text) l) at h.left);
    }

pub refusal_is_handed : RefusalIsHanded
refusal_is_handed v row w row' h = subst (λ (text : List ℕ). LinesHanded text row w row') (lines_are v) (handed_lines (refusal_text v) row w row' h)

-- From a verdict that finds the first of an order, and a text that is the refusal's lines or begins as no such lines do, to what is printed.
module _ (applies : Refusal → ℕ → Type 0) (order : List Refusal) (all : AllRefuse order) (v : Verdict) (finds : Finds applies order v) (passes : refuses v ≡ false → v ≡ accepted)
    (Asked : List ℕ → Type 0) (text : List ℕ) (begins : Asked text → get_or text 0 0 ≡ 116) (lines : refuses v ≡ true → text ≡ refusal_text v) (asked : refuses v ≡ false → Asked text) where
  refuses_so : (v.refusal ≡ Accepted → ⊥) → refuses v ≡ true
  refuses_so n = ⊎_elim (λ e. e) (λ e. absurd (n (ap (λ w. w.refusal) (passes e)))) (true_or_false (refuses v))

  two_lines_here : (v.refusal ≡ Accepted → ⊥) → text ≡ two_lines v.refusal v.place
  two_lines_here n = lines (refuses_so n) ∙ lines_are v

  no_lines : v.refusal ≡ Accepted → (k : Refusal) (p : ℕ) → text ≡ two_lines k p → ⊥
  no_lines e k p is = let z : ◌≡◌ {A = ℕ} 116 114 = sym (begins (asked (ap is_refusal e))) ∙ ap (λ t. get_or t 0 0) is in omega arith

  pub by_the_table : PrintedByTheTable applies order Asked text
  by_the_table =
      let both = refused_iff applies finds all in
      record {
        kind = v.refusal;
        place = v.place;
        first = finds;
        refused = two_lines_here;
        asked = λ e. asked (ap is_refusal e);
        iff = (λ h. both.0 (λ e. no_lines e h.0 h.1.0 h.1.1), λ s. (v.refusal, (v.place, two_lines_here (both.1 s))));
      }

pub run_few : (r : Run) (k : Refusal) (p : ℕ) → RunApplies r k p → number_of k ≤ 7
run_few r k p h = run_small r h

-- The checks of a sheet at the front of a row: 12, 11 and 19, then what the others find. An engine's own numbers are 9 or 24.
module _ (Judged : Run → Refusal → ℕ → Type 0) (small : (r : Run) (k : Refusal) (p : ℕ) → Judged r k p → number_of k ≤ 7) (Engine : Run → Refusal → ℕ → Type 0)
    (own : (r : Run) (k : Refusal) (p : ℕ) → Engine r k p → (number_of k ≡ 9) ⊎ (number_of k ≡ 24)) (sheet : List ℕ) where
  abbrev Applies : Refusal → ℕ → Type 0
  Applies = SheetRunApplies Judged Engine sheet

  other : (k : Refusal) (p : ℕ) → Engine (sheet_run sheet) k p → (number_of k ≡ 9 → ⊥) → (number_of k ≡ 24 → ⊥) → ⊥
  other k p h a b = ⊎_elim a b (own (sheet_run sheet) k p h)

  long_back : (p : ℕ) → Applies LongSheet p → (p ≡ 0) × (16384 < length sheet)
  long_back p (too_long h) = (refl, h)
  long_back p (run h) = absurd (omega (arith, small (sheet_run sheet) _ _ h))
  long_back p (engine h) = absurd (other LongSheet p h (λ e. omega arith) (λ e. omega arith))

  line_back : (p : ℕ) → Applies BadLine p → FirstBad (LineIsBad sheet) (lines_due sheet) p
  line_back p (bad_line h) = h
  line_back p (run h) = absurd (omega (arith, small (sheet_run sheet) _ _ h))
  line_back p (engine h) = absurd (other BadLine p h (λ e. omega arith) (λ e. omega arith))

  rule_back_here : (p : ℕ) → Applies RetiredRule p → (p ≡ 4) × Ruled sweep_text sheet
  rule_back_here p (retired_rule h) = (refl, h)
  rule_back_here p (run h) = absurd (omega (arith, small (sheet_run sheet) _ _ h))
  rule_back_here p (engine h) = absurd (other RetiredRule p h (λ e. omega arith) (λ e. omega arith))

  pub of_run : (k : Refusal) (p : ℕ) → number_of k ≤ 7 → Applies k p → Judged (sheet_run sheet) k p
  of_run k p l (too_long h) = absurd (omega arith)
  of_run k p l (bad_line h) = absurd (omega arith)
  of_run k p l (retired_rule h) = absurd (omega arith)
  of_run k p l (run h) = h
  of_run k p l (engine h) = absurd (other k p h (λ e. omega arith) (λ e. omega arith))

  pub sheet_finds : (checks : Run → List Verdict) (order : List Refusal) → Finds Applies order (first_of (checks (sheet_run sheet)))
      → Finds Applies (LongSheet ∷ BadLine ∷ RetiredRule ∷ order) (verdict_by checks sheet)
  unfolding verdict_by sheet_verdict rule_verdict says_sweep
  sheet_finds checks order others =
      let long = refuse_if (ltb longest_sheet (length sheet)) LongSheet in
      let line = refuse_at (first_bad_line sheet) BadLine in
      let rule = refuse_at (cond (says_sweep sheet) 4 0) RetiredRule in
      rw
      (first_of_joined (long ∷ line ∷ []) (rule ∷ checks (sheet_run sheet)))
      (finds_first Applies (line ∷ rule ∷ checks (sheet_run sheet)) refl
      (decides_reworded (λ p h. rw h.0 (too_long h.1)) long_back (decides_if _ LongSheet (tells_below longest_sheet (length sheet))))
      (λ a. finds_first Applies (rule ∷ checks (sheet_run sheet)) refl (decides_reworded (λ p. bad_line) line_back (decides_line sheet))
      (λ b. finds_first Applies (checks (sheet_run sheet)) refl
      (decides_reworded (λ p h. rw h.0 (retired_rule h.1)) rule_back_here (decides_there _ 3 RetiredRule (tells_sweep sheet)))
      (λ c. others))))

  pub sheet_accepts : (checks : Run → List Verdict) → refuses (verdict_by checks sheet) ≡ false → verdict_by checks sheet ≡ accepted
  unfolding verdict_by
  sheet_accepts checks e = none_refuses (sheet_verdict sheet ∷ rule_verdict sheet ∷ checks (sheet_run sheet)) e

-- 9.
pub room_own : (r : Run) (k : Refusal) (p : ℕ) → RoomApplies r k p → (number_of k ≡ 9) ⊎ (number_of k ≡ 24)
room_own r k p (short_room s h) = inl refl

module _ (sheet : List ℕ) where
  abbrev r : Run
  r = sheet_run sheet

  room_back : refuses (judge_of r) ≡ false → (p : ℕ) → AnswerApplies RoomApplies sheet ShortRoom p → (p ≡ 0) × (5120 < room_for r)
  room_back a p (run h) = absurd (omega (arith, run_small r h))
  room_back a p (engine (short_room s h)) = (refl, rw (stops_one r (accepted_run r a) s) at h)

  pub room_finds : Finds (AnswerApplies RoomApplies sheet) room_order (recall_verdict sheet)
  room_finds =
      let room = refuse_if (ltb room_words (room_for r)) ShortRoom in
      sheet_finds RunApplies run_few RoomApplies room_own sheet run_checks (FileRows ∷ BadFile ∷ WantRows ∷ BadWant ∷ TooManyReads ∷ TurnPrice ∷ HeadPlace ∷ ShortRoom ∷ [])
      (run_finds r (AnswerApplies RoomApplies sheet) (λ k p. run) (of_run RunApplies run_few RoomApplies room_own sheet) (ShortRoom ∷ []) (room ∷ [])
      (λ a. finds_first (AnswerApplies RoomApplies sheet) [] refl
      (decides_reworded (λ p h. rw h.0 (engine (short_room (has_stops r (accepted_run r a)) h.1))) (room_back a) (decides_if _ ShortRoom (tells_below room_words (room_for r))))
      (λ b. finds_none (AnswerApplies RoomApplies sheet))))

-- 24, behind 3: behind it the run's own checks find what they find, 1, 2 and 3 no longer among it.
eight_own : (r : Run) (k : Refusal) (p : ℕ) → EightApplies r k p → (number_of k ≡ 9) ⊎ (number_of k ≡ 24)
eight_own r k p (over_eight h) = inr refl

drop_front : {applies : Refusal → ℕ → Type 0} {k kind : Refusal} {place : ℕ} {rest : List Refusal} → (k ≡ kind → ⊥) → FirstThatApplies applies (k ∷ rest) kind place → FirstThatApplies applies rest kind place
drop_front n (here h) = absurd (n refl)
drop_front n (later s f) = f

module _ (sheet : List ℕ) where
  abbrev q : Run
  q = sheet_run sheet

  abbrev Eight : Refusal → ℕ → Type 0
  Eight = AnswerApplies EightApplies sheet

  eight_back : (p : ℕ) → Eight OverEightWants p → (p ≡ 0) × (8 < length q.numbers)
  eight_back p (run h) = absurd (omega (arith, run_small q h))
  eight_back p (engine (over_eight h)) = (refl, h)

  behind_finds : refuses (first_of (table_checks q.starts q.lengths q.aggregates)) ≡ false → uneven_wants q ≡ false
      → Finds Eight (BadWant ∷ TooManyReads ∷ TurnPrice ∷ HeadPlace ∷ []) (first_of (judge_of q ∷ []))
  behind_finds t u =
      let late = late_behind q false t u in
      drop_front late.2
      (drop_front late.1
      (drop_front late.0 (run_finds q Eight (λ k p. run) (of_run RunApplies run_few EightApplies eight_own sheet) [] [] (λ a. finds_none Eight))))

  pub eight_finds : Finds Eight eight_order (verdict_by field_checks sheet)
  eight_finds =
      let over = refuse_if (ltb most_plain_wants (length q.numbers)) OverEightWants in
      sheet_finds RunApplies run_few EightApplies eight_own sheet field_checks (FileRows ∷ BadFile ∷ WantRows ∷ OverEightWants ∷ BadWant ∷ TooManyReads ∷ TurnPrice ∷ HeadPlace ∷ [])
      (table_finds q Eight (λ k p l. run) (λ k p l. of_run RunApplies run_few EightApplies eight_own sheet k p (omega arith))
      (WantRows ∷ OverEightWants ∷ BadWant ∷ TooManyReads ∷ TurnPrice ∷ HeadPlace ∷ []) (refuse_if (uneven_wants q) WantRows ∷ over ∷ judge_of q ∷ [])
      (λ t. finds_first Eight (over ∷ judge_of q ∷ []) refl
      (decides_reworded (λ p h. rw h.0 (run (RunApplies.want_rows h.1))) (λ p h. want_rows_only q p (of_run RunApplies run_few EightApplies eight_own sheet WantRows p (omega arith) h)) (decides_if (uneven_wants q) WantRows (rows_unfit most_wants (length q.numbers) (length q.counts))))
      (λ u. finds_first Eight (judge_of q ∷ []) refl
      (decides_reworded (λ p h. rw h.0 (engine (over_eight h.1))) eight_back (decides_if _ OverEightWants (tells_below 8 (length q.numbers))))
      (λ v. behind_finds t (accepts_if (uneven_wants q) WantRows refl u)))))

-- The orders have refusals alone.
pub room_all : AllRefuse room_order
room_all = (refl, (refl, (refl, (refl, (refl, (refl, (refl, (refl, (refl, (refl, (refl, tt)))))))))))

eight_all : AllRefuse eight_order
eight_all = (refl, (refl, (refl, (refl, (refl, (refl, (refl, (refl, (refl, (refl, (refl, tt)))))))))))

plan_begun : (name : List ℕ) (r : Run) (text : List ℕ) → PlanPrinted name r text → get_or text 0 0 ≡ 116
plan_begun name r text p = ap (λ t. get_or t 0 0) p.whole

figures_begun : (name : List ℕ) (r : Run) (text : List ℕ) → FiguresOf name r text → get_or text 0 0 ≡ 116
figures_begun name r text p = ap (λ t. get_or t 0 0) p.whole

pub plan_by_the_table : PlanByTheTable
plan_by_the_table sheet row n row' c wide =
    let h = plan_held run_checks run_judges run_checks_near sheet c.text c.answers in
    subst (PrintedByTheTable (AnswerApplies RoomApplies sheet) room_order (PlanPrinted (sheet_name sheet) (sheet_run sheet)))
    (sym (put_whole c.text row n row' c.bytes c.left (omega (arith, h.0))))
    (by_the_table (AnswerApplies RoomApplies sheet) room_order room_all (recall_verdict sheet) (room_finds sheet) (sheet_accepts RunApplies run_few RoomApplies room_own sheet run_checks)
    (PlanPrinted (sheet_name sheet) (sheet_run sheet)) c.text (plan_begun (sheet_name sheet) (sheet_run sheet) c.text) c.answers.refused
    (λ e. plan_printed (sheet_name sheet) (sheet_run sheet) c.text (c.answers.planned e)))

pub field_by_the_table : FieldByTheTable
field_by_the_table sheet row n row' c wide =
    let h = plan_held field_checks field_judges field_checks_near sheet c.text c.answers in
    subst (PrintedByTheTable (AnswerApplies EightApplies sheet) eight_order (PlanPrinted (sheet_name sheet) (sheet_run sheet)))
    (sym (put_whole c.text row n row' c.bytes c.left (omega (arith, h.0))))
    (by_the_table (AnswerApplies EightApplies sheet) eight_order eight_all (verdict_by field_checks sheet) (eight_finds sheet) (sheet_accepts RunApplies run_few EightApplies eight_own sheet field_checks)
    (PlanPrinted (sheet_name sheet) (sheet_run sheet)) c.text (plan_begun (sheet_name sheet) (sheet_run sheet) c.text) c.answers.refused
    (λ e. plan_printed (sheet_name sheet) (sheet_run sheet) c.text (c.answers.planned e)))

pub buys_by_the_table : BuysByTheTable
buys_by_the_table sheet row n row' c wide =
    let h = buys_held sheet c.text c.answers in
    subst (PrintedByTheTable (AnswerApplies RoomApplies sheet) room_order (FiguresOf (sheet_name sheet) (sheet_run sheet)))
    (sym (put_whole c.text row n row' c.bytes c.left (omega (arith, h.0))))
    (by_the_table (AnswerApplies RoomApplies sheet) room_order room_all (recall_verdict sheet) (room_finds sheet) (sheet_accepts RunApplies run_few RoomApplies room_own sheet run_checks)
    (FiguresOf (sheet_name sheet) (sheet_run sheet)) c.text (figures_begun (sheet_name sheet) (sheet_run sheet) c.text) c.answers.refused
    (λ e. figures_of_lem (sheet_name sheet) (sheet_run sheet) c.text (c.answers.figured e)))
