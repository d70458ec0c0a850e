-- An event on a lent row, from the promises of what is called: the table out of the row, the event answered by value, the table back into the row.
use Prim.Native.Nat.{ℕ, ◌-◌, ◌≤◌}
use mathlib.Core.Path.{◌≡◌, ap, subst, ◌∙◌}
use mathlib.Core.List.{List, ◌++◌, append-nil}
use native.Mathlib.Omega.{arith}
use lib.ListN.{length, take, replicate, drop_of_length-le}
use lib.Seq.{take_all}
use Rattle.std.specs.Prelude.{Option}
use Rattle.desk_tickets.specs.declared.Ticket.{Ticket}
use Rattle.desk_tickets.specs.declared.Lasts.{Lasts}
use Rattle.desk_tickets.specs.WaitingTable.{no_ticket}
use Rattle.desk_boardings.specs.Boardings.{Tape}
use Rattle.answer_desk.specs.declared.Event.{Event}
use Rattle.answer_desk.specs.Days.{EventAnswered}
use Rattle.desk_rows.specs.declared.Told.{Told}
use Rattle.desk_rows.specs.declared.ToldRow.{ToldRow}
use Rattle.desk_rows.specs.Desk.{table_in, with_table}
use Rattle.desk_rows.specs.Events.{day_of, told_row, LentAnswered, HeldAnswered}
use Rattle.desk_rows.proofs.Kept.{table_then_rest}

module _ (l : Lasts) (tape : Tape) (room out : List ℕ) (e : Option Event) (room' out' : List ℕ) where
  -- A table of 32 records is the table in it, and what is written back is all of it.
  module _ (row : List Ticket) (all : length row ≡ 32) where
    table_itself : table_in row ≡ row
    unfolding table_in
    table_itself =
        let none : 32 - length row ≡ 0 = omega arith in
        ap (λ (n : ℕ). take 32 row ++ replicate n no_ticket) none ∙ append-nil (take 32 row) ∙ take_all 32 row (omega arith)

    written_over : (table : List Ticket) → length table ≡ 32 → with_table table row ≡ table
    written_over table whole = table_then_rest table row whole (omega arith) ∙ ap (λ (t : List Ticket). table ++ t) (let past : length row ≤ 32 = omega arith in drop_of_length-le row past) ∙ append-nil table

    pub held_so : (exit : List Ticket) (told : Told) → LentAnswered row l tape room out e told exit room' out' → (r : ToldRow) → r ≡ told_row exit told → HeldAnswered row l tape room out e r room' out'
    held_so exit told lent r is =
        let a = lent.answered in
        record {
          held = a;
          answers = subst (λ (n : ℕ). EventAnswered n tape (day_of row l) room out e a room' out') all
              (subst (λ (t : List Ticket). EventAnswered (length row) tape (day_of t l) room out e a room' out') table_itself lent.answers);
          says = is ∙ so (lent.row ∙ written_over a.day.row lent.whole) lent.says;
        }
      where
        so : {x y : List Ticket} {s t : Told} → x ≡ y → s ≡ t → told_row x s ≡ told_row y t
        so p q = cc
