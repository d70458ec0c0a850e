-- What the thin functions promise, from the promises of what they call: the table out of the row, the work by value, the table back into the row.
use Prim.Native.Nat.{ℕ}
use mathlib.Core.Path.{◌≡◌, refl, sym, ap, subst, subst⁻¹, ◌∙◌}
use mathlib.Core.Logic.{⊎_elim}
use mathlib.Core.Bool.{Bool, true, false, cond}
use mathlib.Core.List.{List}
use lib.ListN.{length}
use Rattle.refusals.specs.Refusals.{is_refusal}
use Rattle.runs.proofs.Search.{true_or_false}
use Rattle.walk.specs.declared.Answer.{Answer}
use Rattle.walk.specs.Price.{refusal_answer}
use Rattle.planner.specs.Rows.{Rows}
use Rattle.desk_tickets.specs.declared.Ticket.{Ticket}
use Rattle.desk_tickets.specs.declared.Lasts.{Lasts}
use Rattle.desk_tickets.specs.WaitingTable.{records_verdict}
use Rattle.desk_boardings.specs.declared.Boarding.{Boarding}
use Rattle.desk_boardings.specs.declared.Boarded.{Boarded}
use Rattle.desk_boardings.specs.declared.BoardedRow.{BoardedRow}
use Rattle.desk_boardings.specs.Boarders.{row_staying, wants_of}
use Rattle.desk_boardings.specs.Boardings.{Tape, Boards, boarded_by, not_boarded, taken_of, want_rows}
use Rattle.desk_rows.specs.Desk.{table_in, with_table, boarded_row, BoardsLent}

abbrev told_by : Boarded → List Ticket → BoardedRow
told_by b row = record { boarded = b; row = row }

abbrev left : List Ticket → Lasts → Answer → BoardedRow
left table l a = record { boarded = record { answer = a; taken = taken_of table; wants = want_rows (wants_of table); lasts = l }; row = row_staying table }

-- Where the answer refuses, the table stays.
refused_table : (table : List Ticket) (l : Lasts) (a : Answer) (flag : Bool) → flag ≡ is_refusal a.refusal → flag ≡ true → table ≡ (boarded_by table l a).row
refused_table table l a flag is h = subst (λ (x : Bool). table ≡ (cond x (not_boarded table l a) (left table l a)).row) (sym h ∙ is) refl

-- The table afterwards is the same whatever the last numbers.
same_table : (table : List Ticket) (l m : Lasts) (a : Answer) → (boarded_by table l a).row ≡ (boarded_by table m a).row
same_table table l m a = by_flag (is_refusal a.refusal)
  where
    by_flag : (flag : Bool) → (cond flag (not_boarded table l a) (left table l a)).row ≡ (cond flag (not_boarded table m a) (left table m a)).row
    by_flag true = refl
    by_flag false = refl

module _ (len : ℕ) (tape : Tape) (table : List Ticket) (b : Boarding) (before : Rows) (done : BoardedRow) (after : Rows) where
  -- A boarding's table is told by its answer, also where the row of records is refused.
  table_by_answer : Boards len tape table b before done after → done.row ≡ (boarded_by table done.boarded.lasts done.boarded.answer).row
  table_by_answer boards =
      ⊎_elim
      (λ (h : is_refusal (records_verdict len table b.lasts).refusal ≡ true).
      subst⁻¹ (λ (d : BoardedRow). d.row ≡ (boarded_by table d.boarded.lasts d.boarded.answer).row)
      (boards.refused h).says
      (refused_table table b.lasts (refusal_answer (records_verdict len table b.lasts)) (is_refusal (records_verdict len table b.lasts).refusal) refl h))
      (λ (h : is_refusal (records_verdict len table b.lasts).refusal ≡ false).
      ap (λ (d : BoardedRow). d.row) (boards.planned h).says ∙ same_table table b.lasts done.boarded.lasts done.boarded.answer)
      (true_or_false (is_refusal (records_verdict len table b.lasts).refusal))

  boards_by_answer : Boards len tape table b before done after → done ≡ boarded_row table done.boarded
  boards_by_answer boards = ap (λ (row : List Ticket). told_by done.boarded row) (table_by_answer boards)

pub boarded_so_lem : (ts exit table : List Ticket) (tape : Tape) (b : Boarding) (before after : Rows) (done : BoardedRow)
    → table ≡ table_in ts
    → Boards (length ts) tape table b before done after
    → exit ≡ with_table done.row ts
    → BoardsLent ts tape b before done.boarded after exit
boarded_so_lem ts exit table tape b before after done out boards back =
    let here : Boards (length ts) tape (table_in ts) b before done after = rw out at boards in
    let same : done ≡ boarded_row (table_in ts) done.boarded = boards_by_answer (length ts) tape (table_in ts) b before done after here in
    record {
      boards = subst (λ (d : BoardedRow). Boards (length ts) tape (table_in ts) b before d after) same here;
      row = back ∙ ap (λ (d : BoardedRow). with_table d.row ts) same;
    }
