-- One call after another over a lent row: what one leaves is the table that the next one finds, and later records are never touched.
use Prim.Native.Nat.{ℕ, ◌-◌, ◌≤◌}
use mathlib.Core.Path.{◌≡◌, ap, ◌∙◌}
use mathlib.Core.List.{List, ◌++◌, append-nil}
use native.Mathlib.Omega.{arith}
use lib.ListN.{length, take, drop, replicate, length-append, length-drop}
use lib.Seq.{take_all, take_at, drop_at}
use Rattle.desk_tickets.specs.declared.Ticket.{Ticket}
use Rattle.desk_tickets.specs.WaitingTable.{no_ticket}
use Rattle.desk_rows.specs.Desk.{table_in, with_table}

module _ (table ts : List Ticket) (whole : length table ≡ 32) (long : 32 ≤ length ts) where
  pub table_then_rest : with_table table ts ≡ table ++ drop 32 ts
  unfolding with_table
  table_then_rest = ap (λ (t : List Ticket). t ++ drop 32 ts) (take_all (length ts) table (omega arith))

  pub row_keeps_its_length : length (with_table table ts) ≡ length ts
  row_keeps_its_length = ap length table_then_rest ∙ simp (length-append, length-drop) (omega arith)

  pub later_records_kept : drop 32 (with_table table ts) ≡ drop 32 ts
  later_records_kept = ap (λ (row : List Ticket). drop 32 row) table_then_rest ∙ drop_at table (drop 32 ts) 32 whole

  pub table_comes_back : table_in (with_table table ts) ≡ table
  unfolding table_in
  table_comes_back =
      let none : 32 - length (with_table table ts) ≡ 0 = omega (arith, row_keeps_its_length) in
      ap (λ (n : ℕ). take 32 (with_table table ts) ++ replicate n no_ticket) none
      ∙ append-nil (take 32 (with_table table ts))
      ∙ ap (λ (row : List Ticket). take 32 row) table_then_rest
      ∙ take_at table (drop 32 ts) 32 whole
