-- What `answer_held` and `answer` hand back is what `answer_desk` answers: so the promises on a day at the desk hold of them.
use Prim.Native.Nat.{ℕ, ◌≤◌}
use mathlib.Core.Path.{◌≡◌, sym, ap, subst, ◌∙◌}
use mathlib.Core.List.{List, [], ◌∷◌}
use native.Mathlib.Omega.{arith}
use lib.ListN.{length}
use Rattle.desk_tickets.specs.declared.Ticket.{Ticket}
use Rattle.desk_tickets.specs.declared.Lasts.{Lasts}
use Rattle.desk_boardings.specs.Boardings.{Tape}
use Rattle.answer_desk.specs.declared.Day as desk
use Rattle.desk_rows.specs.declared.Told.{Told}
use Rattle.desk_rows.specs.declared.ToldRow.{ToldRow}
use Rattle.desk_rows.specs.Desk.{table_in}
use Rattle.desk_rows.specs.Events.{day_of, told_by, told_row}
use Rattle.promises.specs.DeskDays.{Exchange, Held}
use Rattle.promises.specs.DeskTells.{TextStands}
use Rattle.promises.specs.DeskHeld.{HeldByTheProgram, ProgramHoldsADay, ProgramMakesCalls, ProgramTells, ProgramKeeps, RefusedAnswerLeavesTheRow}
use Rattle.promises.proofs.DeskWhole.{as_it_was}
use Rattle.promises.proofs.DeskDays.{day_so, day_at_the_desk, refused_event_changes_nothing}
use Rattle.promises.proofs.DeskTells.{accepted_event_tells}

by_the_program : {tape : Tape} {row last : List Ticket} {l m : Lasts} {xs : List Exchange} → HeldByTheProgram tape row l xs last m → Held tape (day_of row l) xs (day_of last m)
by_the_program HeldByTheProgram.table_ends = Held.ends
by_the_program (HeldByTheProgram.table_goes_on {next = next} {m = given} t rest) =
    let f = t.fits in
    let a = f.held in
    Held.goes_on
    (record {
      len = 32;
      room = t.room;
      room' = t.room';
      out = t.out;
      out' = t.out';
      places = omega arith;
      words = t.words;
      bytes = t.bytes;
      result = a;
      fits = f.answers;
      says = t.says ∙ ap (λ (y : ToldRow). y.told.verdict.refusal) f.says;
      leaves = day_so a.day next given (t.table ∙ ap (λ (y : ToldRow). y.row) f.says) (t.leaves ∙ ap (λ (y : ToldRow). y.told.lasts) f.says);
    })
    (by_the_program rest)

pub program_holds_a_day : ProgramHoldsADay
program_holds_a_day tape row last l m xs held = by_the_program held

pub program_makes_calls : ProgramMakesCalls
program_makes_calls tape first last l m xs held = day_at_the_desk.1 tape (day_of first l) (day_of last m) xs (by_the_program held)

pub program_tells : ProgramTells
program_tells row l tape room out e r room' out' f served =
    let a = f.held in
    subst (λ (y : ToldRow). TextStands 32 tape (day_of row l) room out e (day_of y.row y.told.lasts) y.told.bytes out') (sym f.says)
    (accepted_event_tells 32 tape (day_of row l) room out e a room' out' f.answers (ap (λ (y : ToldRow). y.told.verdict.refusal) (sym f.says) ∙ served))

pub program_keeps : ProgramKeeps
program_keeps row l tape room out e r room' out' f some =
    let a = f.held in
    let h = refused_event_changes_nothing 32 tape (day_of row l) room out e a room' out' f.answers (λ yes. some (ap (λ (y : ToldRow). y.told.verdict.refusal) f.says ∙ yes)) in (
      ap (λ (y : ToldRow). y.row) f.says ∙ ap (λ (d : desk.Day). d.row) h.0,
      ap (λ (y : ToldRow). y.told.lasts) f.says ∙ ap (λ (d : desk.Day). d.lasts) h.0,
      h.1,
      h.2,
      ap (λ (y : ToldRow). y.told.bytes) f.says ∙ h.3,
    )

pub refused_answer_leaves_the_row : RefusedAnswerLeavesTheRow
refused_answer_leaves_the_row ts l tape room out e r exit room' out' f some =
    let a = f.answered in
    let h = refused_event_changes_nothing (length ts) tape (day_of (table_in ts) l) room out e a room' out' f.answers (λ yes. some (ap (λ (y : Told). y.verdict.refusal) f.says ∙ yes)) in (
      as_it_was ts exit a.day.row f.row (ap (λ (d : desk.Day). d.row) h.0),
      ap (λ (y : Told). y.lasts) f.says ∙ ap (λ (d : desk.Day). d.lasts) h.0,
      h.1,
      h.2,
      ap (λ (y : Told). y.bytes) f.says ∙ h.3,
    )
