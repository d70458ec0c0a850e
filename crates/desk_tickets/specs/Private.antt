-- For the contracts of private functions. No public contract cites this file.
use Rattle.std.specs.Prelude.{ℕ, suc, cond, List, [], ◌∷◌, ◌++◌, take, drop, eqb}
use Rattle.desk_tickets.specs.declared.Ticket.{Ticket}
use Rattle.desk_tickets.specs.WaitingTable.{places, placed}

-- Some records without n of them, from index p on.
abbrev pub without_some : ℕ → ℕ → List Ticket → List Ticket
without_some p n h = take p h ++ drop n (drop p h)

-- The places from `first` on, once so have left.
abbrev pub closed_up : ℕ → ℕ → ℕ → List Ticket → List Ticket
closed_up first p n row = placed (without_some p n (take places (drop first row)))

-- Where the ticket with a number stands, from 0; behind them all where none has it.
unfoldable pub index_of : ℕ → List Ticket → ℕ
index_of n [] = 0
index_of n (t ∷ ts) = cond (eqb t.number n) 0 (suc (index_of n ts))
