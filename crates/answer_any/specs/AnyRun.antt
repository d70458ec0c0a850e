-- What is answered to the bytes of a run sheet, whatever they are, with the head anywhere and in working room that is lent: the plan sheet of the least
-- list for that head, or the first refusal that applies. Then the row that takes the answer and the room.
use Rattle.std.specs.Prelude.{ℕ, ◌≡◌, true, false, cond, List, [], ◌∷◌, ◌++◌, length, drop, replicate, ltb}
use Rattle.refusals.specs.declared.Refusal.TheVariants.{ShortRoom}
use Rattle.refusals.specs.declared.Verdict.{Verdict}
use Rattle.refusals.specs.Refusals.{is_refusal, refuse_if}
use Rattle.runs.specs.Run.{Run}
use Rattle.runs.specs.AnyHead.{judge_any_of}
use Rattle.least.specs.AnyHead.{LeastAny}
use Rattle.planner.specs.Plan.{room_for}
use Rattle.sheet_reader.specs.Sheet.{sheet_run, sheet_name}
use Rattle.sheet_writer.specs.declared.Written.{Written}
use Rattle.sheet_writer.specs.Writing.{refused_writing}
use Rattle.sheet_writer.specs.AnyHead.{plan_any_text}
use Rattle.answer_plan.specs.Recall.{verdict_by, TextOf, SheetGiven}
use Rattle.answer_plan.specs.PlannedLists.{TextHanded}

-- 1 to 7, where 7 is only a head above the limit, then 9 by the words of room that are lent.
abbrev pub any_checks : ℕ → Run → List Verdict
any_checks words run = judge_any_of run ∷ refuse_if (ltb words (room_for run)) ShortRoom ∷ []

-- 12, then 11 with its line, then 19 with the fourth, then these.
abbrev pub any_verdict : ℕ → List ℕ → Verdict
any_verdict words sheet = verdict_by (any_checks words) sheet

-- The plan sheet of the least list for the head where it stands. There is one such list.
abbrev pub PlanAnyOf : List ℕ → Run → List ℕ → Type 0
PlanAnyOf name run text = TextOf LeastAny plan_any_text name run text

-- The room afterwards, under a verdict: as it was on a refusal, else zero in the words that the plan takes and the later ones as they were.
unfoldable pub room_after : Verdict → Run → List ℕ → List ℕ
room_after v run room = cond (is_refusal v.refusal) room (replicate (room_for run) 0 ++ drop (room_for run) room)

abbrev pub room_left : List ℕ → List ℕ → List ℕ
room_left sheet room = room_after (any_verdict (length room) sheet) (sheet_run sheet) room

-- For a program: the number of bytes of the plan sheet, or of a refusal's two lines, and the row that holds them.
pub record SheetRecalledAny (sheet row room : List ℕ) (n : ℕ) (row' room' : List ℕ) : Type 0 where
  pub given : SheetGiven PlanAnyOf (any_checks (length room)) sheet row n row'
  pub cleared : room' ≡ room_left sheet room

-- For a caller: a refusal's record and the row as it was.
pub record NotAnswered (v : Verdict) (row : List ℕ) (w : Written) (row' : List ℕ) : Type 0 where
  pub says : w ≡ refused_writing v
  pub kept : row' ≡ row

-- Else the plan sheet is handed out: 8 where the row is shorter, which is then as it was. The room is left as the plan leaves it, by 8 too.
pub record SheetAnswered (sheet row room : List ℕ) (w : Written) (row' room' : List ℕ) : Type 0 where
  pub refused : is_refusal (any_verdict (length room) sheet).refusal ≡ true → NotAnswered (any_verdict (length room) sheet) row w row'
  pub planned : is_refusal (any_verdict (length room) sheet).refusal ≡ false → TextHanded (PlanAnyOf (sheet_name sheet) (sheet_run sheet)) row w row'
  pub cleared : room' ≡ room_left sheet room
