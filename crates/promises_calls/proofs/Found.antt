-- A table of 32 records that is written into a row of C's records is found there again, and later records stay.
use Prim.Native.Nat.{ℕ, zero, suc, ◌≤◌}
use mathlib.Core.Path.{◌≡◌, refl, sym, ap, ◌∙◌}
use mathlib.Core.List.{List, [], ◌∷◌, ◌++◌, map, append_assoc, map-append}
use native.Mathlib.Omega.{arith}
use lib.ListN.{length, take, drop, replicate, length-map}
use lib.Seq.{take_at, drop_at, take-append-le}
use Rattle.desk_tickets.specs.declared.Ticket.{Ticket}
use Rattle.desk_tickets.specs.WaitingTable.{no_ticket}
use Rattle.boundary_desk.specs.Records.{words_of, ticket_in, table_at, records_with}
use Rattle.promises_calls.specs.DeskCalls.{RecordsAreTickets}

read_again : (ts : List Ticket) → map ticket_in (map words_of ts) ≡ ts
read_again [] = refl
read_again (t ∷ ts) = ap (λ (r : List Ticket). t ∷ r) (read_again ts)

take_map : (n : ℕ) (rows : List (List ℕ)) → take n (map ticket_in rows) ≡ map ticket_in (take n rows)
take_map zero rows = refl
take_map (suc n) [] = refl
take_map (suc n) (words ∷ rows) = ap (λ (r : List Ticket). ticket_in words ∷ r) (take_map n rows)

pub records_are_tickets : RecordsAreTickets
unfolding table_at
records_are_tickets rows lasts long =
    (take-append-le 32 (map ticket_in rows) (replicate 32 no_ticket) (omega (arith, long, length-map rows ticket_in)) ∙ take_map 32 rows, refl)

module _ (table : List Ticket) (rows : List (List ℕ)) (whole : length table ≡ 32) where
  pub table_found : table_at (records_with table rows) ≡ table
  unfolding table_at records_with
  table_found =
      ap (λ (r : List Ticket). take 32 (r ++ replicate 32 no_ticket)) (map-append ticket_in (map words_of table) (drop 32 rows) ∙ ap (λ (r : List Ticket). r ++ map ticket_in (drop 32 rows)) (read_again table))
      ∙ ap (λ (r : List Ticket). take 32 r) (append_assoc table (map ticket_in (drop 32 rows)) (replicate 32 no_ticket))
      ∙ take_at table (map ticket_in (drop 32 rows) ++ replicate 32 no_ticket) 32 whole

  pub later_found : drop 32 (records_with table rows) ≡ drop 32 rows
  unfolding records_with
  later_found = drop_at (map words_of table) (drop 32 rows) 32 (length-map table words_of ∙ whole)
