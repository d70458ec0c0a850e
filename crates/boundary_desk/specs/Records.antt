-- The waiting table in C's memory: a row of `struct violstream_ticket`, each record four words, and the last numbers given in a row of two words.
use Rattle.std.specs.Prelude.{ℕ, cond, List, [], ◌∷◌, ◌++◌, map, length, get_or, take, drop, replicate, ltb}
use Rattle.desk_tickets.specs.declared.Ticket.{Ticket}
use Rattle.desk_tickets.specs.declared.Lasts.{Lasts}
use Rattle.desk_tickets.specs.WaitingTable.{all_places, no_ticket}

-- The words of a record, in the struct's order: office, file, count, number. A ticket's record, and the ticket in a record.
abbrev pub words_of : Ticket → List ℕ
words_of t = t.office ∷ t.file ∷ t.count ∷ t.number ∷ []

abbrev pub ticket_in : List ℕ → Ticket
ticket_in words = record { office = get_or words 0 0; file = get_or words 1 0; count = get_or words 2 0; number = get_or words 3 0 }

-- The table that a row of records holds: its first 32, and empty places where it has fewer.
unfoldable pub table_at : List (List ℕ) → List Ticket
table_at rows = take all_places (map ticket_in rows ++ replicate all_places no_ticket)

-- The row with a table in its first 32 records; later records stay.
unfoldable pub records_with : List Ticket → List (List ℕ) → List (List ℕ)
records_with table rows = map words_of table ++ drop all_places rows

-- The last numbers in a row, and the row with others; later words stay.
abbrev pub lasts_in : List ℕ → Lasts
lasts_in words = record { one = get_or words 0 0; two = get_or words 1 0 }

abbrev pub with_lasts : Lasts → List ℕ → List ℕ
with_lasts l words = l.one ∷ l.two ∷ drop 2 words

-- A row for one number, with it; later words stay.
abbrev pub with_first : ℕ → List ℕ → List ℕ
with_first n words = n ∷ drop 1 words

-- How many places a row of records counts for: none where a row beside it has fewer words than are asked of it. So 8 is given for either, at one place in
-- the order of refusals.
abbrev pub places_if : ℕ → List ℕ → ℕ → ℕ
places_if least words len = cond (ltb (length words) least) 0 len
