-- For the functions that put the text on a page. No public contract cites this file.
use Rattle.std.specs.Prelude.{ℕ, ◌≤◌, ◌≡◌, List, take, drop}
use Rattle.desk_tickets.specs.declared.Ticket.{Ticket}
use Rattle.desk_tickets.specs.WaitingTable.{waiting}

-- So many wait at each office, in its first places.
pub record Waiters (row : List Ticket) (ones twos : ℕ) : Type 0 where
  pub few : ones ≤ 16
  pub less : twos ≤ 16
  pub at_one : take ones (drop 0 row) ≡ waiting 1 row
  pub at_two : take twos (drop 16 row) ≡ waiting 2 row
