-- The working room behind an accepted event.
use Prim.Native.Nat.{ℕ}
use mathlib.Core.Path.{◌≡◌, sym, ap, subst, ◌∙◌}
use mathlib.Core.Bool.{true≢false}
use mathlib.Core.List.{List}
use lib.ListN.{length}
use Rattle.std.specs.Prelude.{Some, None}
use Rattle.refusals.specs.declared.Refusal.TheVariants.{Accepted}
use Rattle.refusals.specs.Refusals.{is_refusal}
use Rattle.runs.specs.Run.{stops_of}
use Rattle.runs.proofs.Judged.{accepted_run}
use Rattle.planner.specs.Plan.{Plans}
use Rattle.planner.specs.Rows.{Rows}
use Rattle.desk_tickets.specs.declared.Ticket.{Ticket}
use Rattle.desk_boardings.specs.declared.Boarding.{Boarding}
use Rattle.desk_boardings.specs.declared.BoardedRow.{BoardedRow}
use Rattle.desk_boardings.specs.Boardings.{Tape, board_run, Boards}
use Rattle.answer_desk.specs.declared.Event.{Event}
use Rattle.answer_desk.specs.declared.Answered.{Answered}
use Rattle.answer_desk.specs.Days.{rows_lent}
use Rattle.desk_rows.specs.declared.Told.{Told}
use Rattle.desk_rows.specs.declared.ToldRow.{ToldRow}
use Rattle.desk_rows.specs.Desk.{table_in}
use Rattle.desk_rows.specs.Events.{day_of}
use Rattle.demands.specs.Behind.{BehindPlan}
use Rattle.demands.proofs.Counted.{has_stops}
use Rattle.demands.proofs.Planned.{run_accepted}
use Rattle.demands.proofs.Behind.{plan_behind}
use Rattle.promises.specs.DeskTells.{boarding_at}
use Rattle.promises.specs.Rooms.{RoomOfPlan}
use Rattle.promises.specs.DeskRoom.{EventLeavesTheRoom, LentLeavesTheRoom, ProgramLeavesTheRoom}
use Rattle.promises.proofs.DeskSteps.{board_accepted}
use Rattle.promises.proofs.DeskDays.{accepts}
use Rattle.promises.proofs.DeskTells.{told_so}

-- A boarding that is accepted is planned, and leaves its rows and the room as the plan does.
module _ (len : ℕ) (tape : Tape) (row : List Ticket) (b : Boarding) (before after : Rows) (r : BoardedRow) (boards : Boards len tape row b before r after)
    (accepted : r.boarded.answer.refusal ≡ Accepted) where
  plans : Plans (board_run tape row b) before r.boarded.answer after
  plans = (boards.planned (board_accepted len tape row b before after r boards (ap is_refusal accepted))).plans

  pub boarded_behind : BehindPlan (board_run tape row b) r.boarded.answer.detours before after
  boarded_behind = plan_behind (board_run tape row b) before r.boarded.answer after plans accepted

  room_of_plan : RoomOfPlan (board_run tape row b) before.room after.room
  room_of_plan =
      let run = board_run tape row b in
      let stops = has_stops run (accepted_run run (run_accepted run before r.boarded.answer after plans accepted)) in
      record { stops = length (stops_of run); are = stops; left = boarded_behind.room (length (stops_of run)) stops }

pub event_leaves_the_room : EventLeavesTheRoom
event_leaves_the_room len tape day room out (Some (Event.File o f c)) r room' out' p served = p.1
event_leaves_the_room len tape day room out (Some (Event.Withdraw o n)) r room' out' p served = p.1
event_leaves_the_room len tape day room out (Some (Event.Board head turn)) r room' out' p served =
    let told = told_so day _ room out r room' out' p.answers served in
    let b = boarding_at day head turn in
    subst (RoomOfPlan (board_run tape day.row b) room) (sym told.2.left)
    (room_of_plan len tape day.row b (rows_lent room) p.rows p.done p.boards (accepts p.done.boarded.answer.refusal told.0))
event_leaves_the_room len tape day room out None r room' out' p served =
    absurd (true≢false (ap is_refusal (ap (λ (x : Answered). x.verdict.refusal) (sym p.says) ∙ served)))

-- So on a lent row, and by the program.
lent_by_event : EventLeavesTheRoom → LentLeavesTheRoom
lent_by_event leaves ts l tape room out e r exit room' out' f served =
    leaves (length ts) tape (day_of (table_in ts) l) room out e f.answered room' out' f.answers (ap (λ (y : Told). y.verdict.refusal) (sym f.says) ∙ served)

pub lent_leaves_the_room : LentLeavesTheRoom
lent_leaves_the_room = lent_by_event event_leaves_the_room

held_by_event : EventLeavesTheRoom → ProgramLeavesTheRoom
held_by_event leaves row l tape room out e r room' out' f served =
    leaves 32 tape (day_of row l) room out e f.held room' out' f.answers (ap (λ (y : ToldRow). y.told.verdict.refusal) (sym f.says) ∙ served)

pub program_leaves_the_room : ProgramLeavesTheRoom
program_leaves_the_room = held_by_event event_leaves_the_room
