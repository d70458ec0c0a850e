-- The record for a caller by the table: the sheet's refusals, then 8 of the row; what the row and the room hold.
use Prim.Native.Nat.{ℕ, ◌*◌, ◌+◌}
use mathlib.Core.Path.{◌≡◌, refl, ap, sym, ◌∙◌, subst}
use mathlib.Core.Bool.{Bool, true, false, true≢false}
use mathlib.Core.Logic.{◌⊎◌, ⊎_elim}
use mathlib.Core.List.{List, [], ◌∷◌, ◌++◌}
use native.Mathlib.Omega.{arith}
use lib.ListN.{length, take, drop, replicate}
use lib.Seq.{take-append_seam, drop-append_seam}
use lib.Dec.{ltb}
use borrow.Author.Tests.{ltb-true, ltb-false}
use Rattle.refusals.specs.declared.Refusal.{Refusal}
use Rattle.refusals.specs.declared.Refusal.TheVariants.{Accepted, ShortRow}
use Rattle.refusals.specs.declared.Verdict.{Verdict}
use Rattle.refusals.specs.Refusals.{number_of, is_refusal}
use Rattle.refusals.proofs.Verdicts.{refuses}
use Rattle.runs.proofs.Search.{true_or_false}
use Rattle.runs.specs.Run.{total, stops_of}
use Rattle.runs.specs.AnyHead.{judge_any_of, lifted}
use Rattle.runs.proofs.AnyHead.{accepted_any}
use Rattle.sheet_reader.specs.Sheet.{sheet_run, sheet_name}
use Rattle.sheet_writer.specs.declared.Written.{Written}
use Rattle.sheet_writer.specs.Writing.{row_verdict, written_answer, written_row}
use Rattle.answer_plan.specs.PlannedLists.{TextHanded}
use Rattle.answer_any.specs.AnyRun.{any_checks, any_verdict, PlanAnyOf, room_left, SheetAnswered}
use Rattle.answer_any.proofs.Planned.{room_kept, room_cleared}
use Rattle.answer_any.proofs.Determined.{plan_any_once}
use Rattle.demands.specs.RefusalTable.{HasStops, FirstThatApplies, none, here, later}
use Rattle.demands.specs.AnyHead.{RunAppliesAny}
use Rattle.demands.proofs.Checks.{AllRefuse, refused_iff}
use Rattle.demands.proofs.Counted.{has_stops}
use Rattle.demands.proofs.AnyLifted.{stops_down}
use Rattle.demands.proofs.AnyJudged.{any_small}
use Rattle.promises.specs.Answers.{run, engine, WordsApply, room_order}
use Rattle.promises.specs.AnswersAny.{AnyApplies, RoomPrinted, AnyLeavesTheRoom, RecordApplies, of_sheet, short_row, RecordByTheTable, AnswerByTheTable}
use Rattle.promises.specs.AnyFigures.{BuysAnyLeavesTheRoom}
use Rattle.promises.specs.PlanLines.{PlanAnyPrinted}
use Rattle.promises.proofs.DeskDays.{accepts}
use Rattle.promises.proofs.PlanLines.{plan_any_printed, plan_any_back}
use Rattle.promises.proofs.Answers.{room_all, sheet_accepts}
use Rattle.promises.proofs.AnyLengths.{any_passes}
use Rattle.promises.proofs.AnswersAny.{any_few, words_own, one, any_finds}

-- Orders in which 8 is not.
abbrev pub NoEight : List Refusal → Type 0
NoEight [] = Unit {0}
NoEight (k ∷ ks) = (number_of k ≡ 8 → ⊥) × NoEight ks

pub no_eight : NoEight room_order
no_eight = (λ e. omega arith, (λ e. omega arith, (λ e. omega arith, (λ e. omega arith, (λ e. omega arith, (λ e. omega arith, (λ e. omega arith, (λ e. omega arith, (λ e. omega arith, (λ e. omega arith, (λ e. omega arith, tt)))))))))))

pub not_eight : (applies : Refusal → ℕ → Type 0) {kind : Refusal} {place : ℕ} (order : List Refusal) → NoEight order → FirstThatApplies applies order kind place → number_of kind ≡ 8 → ⊥
not_eight applies [] o none e = omega arith
not_eight applies (k ∷ ks) o (here h) e = o.0 e
not_eight applies (k ∷ ks) o (later s f) e = not_eight applies ks o.1 f e

module _ (words : ℕ) (sheet row : List ℕ) where
  abbrev Sheets : Refusal → ℕ → Type 0
  Sheets = AnyApplies words sheet

  abbrev Records : Refusal → ℕ → Type 0
  Records = RecordApplies words sheet row

  of_the_sheet : (k : Refusal) (p : ℕ) → (number_of k ≡ 8 → ⊥) → Records k p → Sheets k p
  of_the_sheet k p n (of_sheet h) = h
  of_the_sheet k p n (short_row t a l) = absurd (n refl)

  no_short_row : (p : ℕ) → Sheets ShortRow p → ⊥
  no_short_row p (run h) = omega (arith, any_small (sheet_run sheet) h)
  no_short_row p (engine h) = ⊎_elim (λ e. omega arith) (λ e. omega arith) (words_own words (sheet_run sheet) ShortRow p h)

  -- What is first of the sheet's refusals is first of all; and where there is none, what comes behind them is.
  found : {kind : Refusal} {place : ℕ} (order more : List Refusal) → NoEight order → (kind ≡ Accepted → ⊥) → FirstThatApplies Sheets order kind place → FirstThatApplies Records (order ++ more) kind place
  found [] more o n none = absurd (n refl)
  found (k ∷ ks) more o n (here h) = here (of_sheet h)
  found (k ∷ ks) more o n (later s f) = later (λ p h. s p (of_the_sheet k p o.0 h)) (found ks more o.1 n f)

  passed : {place : ℕ} {kind : Refusal} {spot : ℕ} (order more : List Refusal) → NoEight order → AllRefuse order → FirstThatApplies Sheets order Accepted place → FirstThatApplies Records more kind spot
      → FirstThatApplies Records (order ++ more) kind spot
  passed [] more o all none rest = rest
  passed (k ∷ ks) more o all (here h) rest = absurd (true≢false (sym all.0))
  passed (k ∷ ks) more o all (later s f) rest = later (λ p h. s p (of_the_sheet k p o.0 h)) (passed ks more o.1 all.1 f rest)

-- The room, by the verdict and by the table.
module _ (sheet room room' : List ℕ) (is : room' ≡ room_left sheet room) where
  abbrev judging : Verdict
  judging = any_verdict (length room) sheet

  room_by_stops : refuses judging ≡ false → (stops : ℕ) → HasStops (sheet_run sheet) stops
      → room' ≡ replicate (stops * stops * (total (sheet_run sheet).counts + 1)) 0 ++ drop (stops * stops * (total (sheet_run sheet).counts + 1)) room
  room_by_stops e stops s =
      is ∙ room_cleared judging (sheet_run sheet) room e
      ∙ ap (λ n. replicate n 0 ++ drop n room) (sym (one (length room) sheet stops (any_passes (length room) sheet e).1 s))

  room_printed : RoomPrinted sheet room room'
  room_printed =
      let by-table = refused_iff (AnyApplies (length room) sheet) (any_finds (length room) sheet) room_all in
      record {
        kept = λ some.
            ⊎_elim (λ (e : refuses judging ≡ true). is ∙ room_kept judging (sheet_run sheet) room e)
            (λ (e : refuses judging ≡ false). absurd (by-table.1 some (accepts judging.refusal e)))
            (true_or_false (refuses judging));
        cleared = λ none.
            ⊎_elim (λ (e : refuses judging ≡ true). absurd (none (by-table.0 (λ k. true≢false (sym e ∙ ap is_refusal k)))))
            (λ (e : refuses judging ≡ false).
            let run = sheet_run sheet in
            let has = stops_down run (has_stops (lifted run) (accepted_any run (any_passes (length room) sheet e).1).run) in
            record { stops = length (stops_of (lifted run)); are = has; left = room_by_stops e (length (stops_of (lifted run))) has })
            (true_or_false (refuses judging));
      }

pub any_leaves_the_room : AnyLeavesTheRoom
any_leaves_the_room sheet row room n row' room' c = room_printed sheet room room' c.cleared

pub buys_any_leaves_the_room : BuysAnyLeavesTheRoom
buys_any_leaves_the_room sheet row room n row' room' c = room_printed sheet room room' c.cleared

module _ (sheet row room : List ℕ) (w : Written) (row' room' : List ℕ) (c : SheetAnswered sheet row room w row' room') where
  abbrev v : Verdict
  v = any_verdict (length room) sheet

  -- One of the sheet's refusals.
  by_the_sheet : refuses v ≡ true → RecordByTheTable sheet row room w row' room'
  by_the_sheet e =
      let p = c.refused e in
      let kind : w.refusal ≡ v.refusal = ap (λ x. x.refusal) p.says in
      let no : w.refusal ≡ Accepted → ⊥ = λ is. true≢false (sym e ∙ ap is_refusal (sym kind ∙ is)) in
      let other : w.refusal ≡ ShortRow → ⊥ = λ is. not_eight (AnyApplies (length room) sheet) room_order no_eight (any_finds (length room) sheet) (ap number_of (sym kind ∙ is)) in
      record {
        first = rw p.says (found (length room) sheet row room_order (ShortRow ∷ []) no_eight (λ is. no (kind ∙ is)) (any_finds (length room) sheet));
        unwritten = λ n. (ap (λ x. x.bytes) p.says, p.kept);
        text = λ is. absurd (no is);
        counted = let z : w.bytes ≡ 0 = ap (λ x. x.bytes) p.says in rw z;
        behind = rw p.kept;
        kept = λ n m. c.cleared ∙ room_kept v (sheet_run sheet) room e;
        cleared = λ stops s is. absurd (⊎_elim no other is);
      }

  -- A plan: the row takes its sheet, or is too short for it.
  module _ (e : refuses v ≡ false) where
    abbrev plan : TextHanded (PlanAnyOf (sheet_name sheet) (sheet_run sheet)) row w row'
    plan = c.planned e

    judged : refuses (judge_any_of (sheet_run sheet)) ≡ false
    judged = (any_passes (length room) sheet e).1

    printed : PlanAnyPrinted (sheet_name sheet) (sheet_run sheet) plan.text
    printed = plan_any_printed (sheet_name sheet) (sheet_run sheet) judged plan.text plan.asked

    left : (stops : ℕ) → HasStops (sheet_run sheet) stops → room' ≡ replicate (stops * stops * (total (sheet_run sheet).counts + 1)) 0 ++ drop (stops * stops * (total (sheet_run sheet).counts + 1)) room
    left = room_by_stops sheet room room' c.cleared e

    none_before : FirstThatApplies (AnyApplies (length room) sheet) room_order Accepted 0
    none_before = rw (sheet_accepts RunAppliesAny any_few (WordsApply (length room)) (words_own (length room)) sheet (any_checks (length room)) e) at (any_finds (length room) sheet)

    too_short : ltb (length row) (length plan.text) ≡ true → RecordByTheTable sheet row room w row' room'
    unfolding row_verdict written_answer written_row
    too_short t =
        let says : w ≡ record { refusal = ShortRow; place = 0; bytes = 0 } = plan.handed.answer ∙ rw t in
        let stays : row' ≡ row = plan.handed.left ∙ rw t in
        record {
          first = rw says (passed (length room) sheet row room_order (ShortRow ∷ []) no_eight room_all none_before (here (short_row plan.text printed (ltb-true (length row) (length plan.text) t))));
          unwritten = λ n. (ap (λ x. x.bytes) says, stays);
          text = λ is. absurd (apart (sym (ap (λ x. x.refusal) says) ∙ is));
          counted = let z : w.bytes ≡ 0 = ap (λ x. x.bytes) says in rw z;
          behind = rw stays;
          kept = λ n m. absurd (m (ap (λ x. x.refusal) says));
          cleared = λ stops s is. left stops s;
        }
      where
        apart : ShortRow ≡ Accepted → ⊥
        apart is = let z : ◌≡◌ {A = ℕ} 8 0 = ap number_of is in omega arith

    fits : ltb (length row) (length plan.text) ≡ false → RecordByTheTable sheet row room w row' room'
    unfolding row_verdict written_answer written_row
    fits t =
        let says : w ≡ record { refusal = Accepted; place = 0; bytes = length plan.text } = plan.handed.answer ∙ rw t in
        let holds : row' ≡ plan.text ++ drop (length plan.text) row = plan.handed.left ∙ rw t in
        record {
          first = rw says (passed (length room) sheet row room_order (ShortRow ∷ []) no_eight room_all none_before (later long_enough_here none));
          unwritten = λ n. absurd (n (ap (λ x. x.refusal) says));
          text = λ is.
              subst (PlanAnyPrinted (sheet_name sheet) (sheet_run sheet))
              (sym (ap (λ x. take x.bytes row') says ∙ ap (take (length plan.text)) holds ∙ take-append_seam plan.text (drop (length plan.text) row))) printed;
          counted =
              ap (λ x. x.bytes) says
              ∙ ap length (sym (ap (λ x. take x.bytes row') says ∙ ap (take (length plan.text)) holds ∙ take-append_seam plan.text (drop (length plan.text) row)));
          behind =
              ap (λ x. drop x.bytes row') says ∙ ap (drop (length plan.text)) holds ∙ drop-append_seam plan.text (drop (length plan.text) row)
              ∙ sym (ap (λ x. drop x.bytes row) says);
          kept = λ n m. absurd (n (ap (λ x. x.refusal) says));
          cleared = λ stops s is. left stops s;
        }
      where
        long_enough_here : (p : ℕ) → RecordApplies (length room) sheet row ShortRow p → ⊥
        long_enough_here p (of_sheet h) = no_short_row (length room) sheet row p h
        long_enough_here p (short_row text a l) =
            omega (arith, l, ltb-false (length row) (length plan.text) t, ap length (plan_any_once (sheet_name sheet) (sheet_run sheet) text plan.text (plan_any_back (sheet_name sheet) (sheet_run sheet) judged text a) plan.asked))

pub answer_by_the_table : AnswerByTheTable
answer_by_the_table sheet row room w row' room' c = go (refuses (any_verdict (length room) sheet)) refl
  where
    go : (b : Bool) → refuses (any_verdict (length room) sheet) ≡ b → RecordByTheTable sheet row room w row' room'
    go true e = by_the_sheet sheet row room w row' room' c e
    go false e =
        ⊎_elim
        (λ (t : ltb (length row) (length (c.planned e).text) ≡ true). too_short sheet row room w row' room' c e t)
        (λ (t : ltb (length row) (length (c.planned e).text) ≡ false). fits sheet row room w row' room' c e t)
        (true_or_false (ltb (length row) (length (c.planned e).text)))
