-- Any run by the table: each check decides its condition. What `plan` prints other than 7 and 9 is printed; and the record for a caller.
use Prim.Native.Nat.{ℕ, ◌*◌, ◌+◌, ◌≤◌, ◌<◌}
use mathlib.Core.Path.{◌≡◌, refl, ap, sym, ◌∙◌, subst}
use mathlib.Core.Bool.{true, false}
use mathlib.Core.Logic.{◌⊎◌, inl}
use mathlib.Core.List.{List, [], ◌∷◌}
use native.Mathlib.Omega.{arith}
use lib.ListN.{length, get_or, take}
use lib.Dec.{ltb}
use Rattle.refusals.specs.declared.Refusal.{Refusal}
use Rattle.refusals.specs.declared.Refusal.TheVariants.{FileRows, BadFile, WantRows, BadWant, TooManyReads, TurnPrice, HeadPlace, ShortRoom}
use Rattle.refusals.specs.Refusals.{number_of, is_refusal, refuse_if}
use Rattle.refusals.proofs.Verdicts.{refuses}
use Rattle.runs.specs.Run.{Run, total}
use Rattle.runs.specs.AnyHead.{judge_any_of, lifted}
use Rattle.runs.proofs.AnyHead.{accepted_any}
use Rattle.planner.specs.Plan.{room_for}
use Rattle.sheet_reader.specs.Sheet.{sheet_run, sheet_name}
use Rattle.answer_plan.specs.Recall.{run_checks, recall_verdict}
use Rattle.answer_any.specs.AnyRun.{any_checks, any_verdict}
use Rattle.answer_any.proofs.Same.{answer_same}
use Rattle.demands.specs.RefusalTable.{HasStops}
use Rattle.demands.specs.AnyHead.{RunAppliesAny}
use Rattle.demands.proofs.Tests.{tells_below}
use Rattle.demands.proofs.Checks.{decides_if, decides_reworded, Finds, finds_none, finds_first}
use Rattle.demands.proofs.Counted.{has_stops, stops_one}
use Rattle.demands.proofs.AnyLifted.{stops_down, stops_up}
use Rattle.demands.proofs.AnyJudged.{any_small, run_any_finds}
use Rattle.promises.specs.Answers.{run, engine, WordsApply, short_room, room_order, two_lines, PrintedByTheTable}
use Rattle.promises.specs.AnswersAny.{AnyApplies, AnyByTheTable, AnyPrintsAsPlan}
use Rattle.promises.specs.PlanLines.{PlanAnyPrinted}
use Rattle.promises.proofs.PlanLines.{plan_any_printed}
use Rattle.promises.proofs.Checks.{put_whole}
use Rattle.promises.proofs.Lengths.{run_judges, run_checks_near, plan_held}
use Rattle.promises.proofs.Answers.{lines_are, by_the_table, of_run, sheet_finds, sheet_accepts, room_all}
use Rattle.promises.proofs.AnyLengths.{any_passes, any_held}

pub any_few : (r : Run) (k : Refusal) (p : ℕ) → RunAppliesAny r k p → number_of k ≤ 7
any_few r k p h = any_small r h

-- 9, by the room that is lent.
pub words_own : (words : ℕ) (r : Run) (k : Refusal) (p : ℕ) → WordsApply words r k p → (number_of k ≡ 9) ⊎ (number_of k ≡ 24)
words_own words r k p (short_room s h) = inl refl

module _ (words : ℕ) (sheet : List ℕ) where
  abbrev r : Run
  r = sheet_run sheet

  abbrev Applies : Refusal → ℕ → Type 0
  Applies = AnyApplies words sheet

  pub one : (n : ℕ) → refuses (judge_any_of r) ≡ false → HasStops r n → n * n * (total r.counts + 1) ≡ room_for r
  one n a s = rw (stops_one (lifted r) (accepted_any r a).run (stops_up r s))

  room_back : refuses (judge_any_of r) ≡ false → (p : ℕ) → Applies ShortRoom p → (p ≡ 0) × (words < room_for r)
  room_back a p (run h) = absurd (omega (arith, any_small r h))
  room_back a p (engine (short_room s h)) = (refl, rw (one _ a s) at h)

  pub any_finds : Finds Applies room_order (any_verdict words sheet)
  any_finds =
      let room = refuse_if (ltb words (room_for r)) ShortRoom in
      sheet_finds RunAppliesAny any_few (WordsApply words) (words_own words) sheet (any_checks words) (FileRows ∷ BadFile ∷ WantRows ∷ BadWant ∷ TooManyReads ∷ TurnPrice ∷ HeadPlace ∷ ShortRoom ∷ [])
      (run_any_finds r Applies (λ k p. run) (of_run RunAppliesAny any_few (WordsApply words) (words_own words) sheet) (ShortRoom ∷ []) (room ∷ [])
      (λ a. finds_first Applies [] refl
      (decides_reworded (λ p h. rw h.0 (engine (short_room (stops_down r (has_stops (lifted r) (accepted_any r a).run)) h.1))) (room_back a) (decides_if _ ShortRoom (tells_below words (room_for r))))
      (λ b. finds_none Applies)))

any_begun : (name : List ℕ) (r : Run) (text : List ℕ) → PlanAnyPrinted name r text → get_or text 0 0 ≡ 116
any_begun name r text p = ap (λ t. get_or t 0 0) p.whole

pub any_by_the_table : AnyByTheTable
any_by_the_table sheet row room n row' room' c wide =
    let g = c.given in
    let h = any_held (length room) sheet g.text g.answers in
    subst (PrintedByTheTable (AnyApplies (length room) sheet) room_order (PlanAnyPrinted (sheet_name sheet) (sheet_run sheet)))
    (sym (put_whole g.text row n row' g.bytes g.left (omega (arith, h.0))))
    (by_the_table (AnyApplies (length room) sheet) room_order room_all (any_verdict (length room) sheet) (any_finds (length room) sheet)
    (sheet_accepts RunAppliesAny any_few (WordsApply (length room)) (words_own (length room)) sheet (any_checks (length room)))
    (PlanAnyPrinted (sheet_name sheet) (sheet_run sheet)) g.text (any_begun (sheet_name sheet) (sheet_run sheet) g.text) g.answers.refused
    (λ e. plan_any_printed (sheet_name sheet) (sheet_run sheet) (any_passes (length room) sheet e).1 g.text (g.answers.planned e)))

-- What `plan` prints other than 7 and 9.
pub any_prints_as_plan : AnyPrintsAsPlan
any_prints_as_plan sheet row room n m row' row'' room' c d wide enough place short =
    let h = plan_held run_checks run_judges run_checks_near sheet c.text c.answers in
    let printed : take n row' ≡ c.text = put_whole c.text row n row' c.bytes c.left (omega (arith, h.0)) in
    let told : (kind : Refusal) → is_refusal kind ≡ true → (recall_verdict sheet).refusal ≡ kind → take n row' ≡ two_lines kind (recall_verdict sheet).place =
    λ kind refuses-so is. printed ∙ c.answers.refused (ap is_refusal is ∙ refuses-so) ∙ lines_are (recall_verdict sheet) ∙ ap (λ k. two_lines k (recall_verdict sheet).place) is in
    let same = answer_same sheet (length room) enough (λ is. place _ (told HeadPlace refl is)) (λ is. short _ (told ShortRoom refl is)) row room n m row' row'' room' refl c d in
    rw (same.0, same.1)
