-- Rows of records and of words: the table in a row, and a row whose first entries are being written.
use Prim.Native.Nat.{ℕ, suc, ◌+◌, ◌-◌, ◌≤◌, ◌<◌}
use mathlib.Core.Path.{◌≡◌, refl, sym, ap, ◌∙◌}
use mathlib.Core.Logic.{by_cases}
use mathlib.Core.List.{List, [], ◌∷◌, ◌++◌, map, append-nil}
use native.Mathlib.Decide.{dec_lt}
use native.Mathlib.Numerals.{add-one}
use native.Mathlib.Omega.{arith}
use lib.ListN.{length, get_or, take, drop, set, replicate, length-set, length-map, length-replicate, length-append, get_or-replicate, drop_of_length-le, get_or-append, get_or-map, get_or-eq_default}
use lib.Seq.{paste, paste-zero, paste-suc, take_all, length-take-le, drop-cons, get_or-append-add}
use Rattle.text_bytes.specs.Text.{line_feed, behind}
use Rattle.text_bytes.specs.Found.{FirstAt}
use Rattle.desk_tickets.specs.declared.Ticket.{Ticket}
use Rattle.desk_tickets.specs.WaitingTable.{no_ticket}
use Rattle.boundary_desk.specs.Records.{words_of, ticket_in, table_at, records_with}
use Rattle.boundary_desk.specs.Calls.{one_line}

-- Two stores are the two numbers before the rest; one is the number before the rest.
pub two_set : (x y : ℕ) (row : List ℕ) → 2 ≤ length row → set (set row 0 x) 1 y ≡ x ∷ y ∷ drop 2 row
two_set x y [] l = absurd (omega arith)
two_set x y (a ∷ []) l = absurd (omega arith)
two_set x y (a ∷ b ∷ row) l = refl

pub one_set : (x : ℕ) (row : List ℕ) → 1 ≤ length row → set row 0 x ≡ x ∷ drop 1 row
one_set x [] l = absurd (omega arith)
one_set x (a ∷ row) l = refl

-- Behind a row's end stands an empty place.
pub record_past : (rows : List (List ℕ)) (i : ℕ) → length rows ≤ i → no_ticket ≡ ticket_in (get_or rows i [])
record_past rows i l = ap ticket_in (sym (get_or-eq_default rows [] l))

-- A copy of the first entries, one more.
pub paste_next : {A : Type 0} (d s : List A) (i : ℕ) (z : A) → i < length d → i < length s → set (paste d 0 s i) i (get_or s i z) ≡ paste d 0 s (i + 1)
paste_next d s i z inside there =
    let e : 0 + i ≡ i = omega arith in
    ap (λ k. set (paste d 0 s i) k (get_or s i z)) (sym e) ∙ paste-suc d 0 s i z (rw e inside) there ∙ ap (λ k. paste d 0 s k) (sym (add-one i))

-- The records of a row and empty places behind them.
abbrev pub records_and : List (List ℕ) → List Ticket
records_and rows = map ticket_in rows ++ replicate 32 no_ticket

module _ (rows : List (List ℕ)) where
  pub records_long : 32 ≤ length (records_and rows)
  records_long = omega (arith, length-append (map ticket_in rows) (replicate 32 no_ticket), length-replicate 32 no_ticket)

  pub table_long : length (table_at rows) ≡ 32
  unfolding table_at
  table_long = length-take-le 32 (records_and rows) records_long

  pub record_is : (i : ℕ) → i < 32 → ticket_in (get_or rows i []) ≡ get_or (records_and rows) i no_ticket
  record_is i l =
      by_cases (dec_lt i (length rows))
      (λ (h : i < length rows).
      sym (get_or-append (map ticket_in rows) (replicate 32 no_ticket) no_ticket i (rw (length-map rows ticket_in) h) ∙ get_or-map ticket_in rows i []))
      (λ n.
      let h : length rows ≤ i = omega (arith, n) in
      let past : length (map ticket_in rows) + (i - length rows) ≡ i = omega (arith, length-map rows ticket_in, h) in
      let few : i - length rows < 32 = omega (arith, l) in
      sym (record_past rows i h)
      ∙ sym (get_or-replicate 32 (i - length rows) no_ticket no_ticket few)
      ∙ sym (get_or-append-add (map ticket_in rows) (replicate 32 no_ticket) (i - length rows) no_ticket)
      ∙ ap (λ k. get_or (records_and rows) k no_ticket) past)

  pub table_read : (d : List Ticket) → length d ≡ 32 → paste d 0 (records_and rows) 32 ≡ table_at rows
  unfolding table_at
  table_read d l =
      let none : length d ≤ 0 + 32 = omega arith in
      ap (λ r. take 32 (records_and rows) ++ r) (drop_of_length-le d none) ∙ append-nil (take 32 (records_and rows))

pub table_written : (rows : List (List ℕ)) (table : List Ticket) → length table ≡ 32 → paste rows 0 (map words_of table) 32 ≡ records_with table rows
unfolding records_with
table_written rows table l = ap (λ r. r ++ drop 32 rows) (take_all 32 (map words_of table) (omega (arith, length-map table words_of)))

pub words_there : (table : List Ticket) (i : ℕ) → words_of (get_or table i no_ticket) ≡ get_or (map words_of table) i (words_of no_ticket)
words_there table i = sym (get_or-map words_of table i no_ticket)

-- A table of which the first i places are read from a row.
pub record Read (rows : List (List ℕ)) (empty row : List Ticket) (i : ℕ) : Type 0 where
  pub within : i ≤ 32
  pub long : length empty ≡ 32
  pub is : row ≡ paste empty 0 (records_and rows) i

module _ (rows : List (List ℕ)) (empty : List Ticket) where
  pub read_none : length empty ≡ 32 → Read rows empty empty 0
  read_none l = record { within = omega arith; long = l; is = paste-zero empty 0 (records_and rows) }

  module _ (row : List Ticket) (i : ℕ) (p : Read rows empty row i) where
    pub read_more : i < 32 → (t : Ticket) → t ≡ ticket_in (get_or rows i []) → Read rows empty (set row i t) (i + 1)
    read_more l t e =
        record {
          within = omega arith;
          long = p.long;
          is =
              ap (λ r. set r i t) p.is
              ∙ ap (λ x. set (paste empty 0 (records_and rows) i) i x) (e ∙ record_is rows i l)
              ∙ paste_next empty (records_and rows) i no_ticket (omega (arith, p.long)) (omega (arith, records_long rows));
        }

    pub read_all : 32 ≤ i → row ≡ table_at rows
    read_all l =
        let last : i ≡ 32 = omega (arith, p.within) in
        p.is ∙ ap (λ k. paste empty 0 (records_and rows) k) last ∙ table_read rows empty p.long

-- A row of which the first i records are written.
pub record Put (before : List (List ℕ)) (table : List Ticket) (rows : List (List ℕ)) (i : ℕ) : Type 0 where
  pub within : i ≤ 32
  pub same : length rows ≡ length before
  pub is : rows ≡ paste before 0 (map words_of table) i

module _ (before : List (List ℕ)) (table : List Ticket) where
  pub put_none : Put before table before 0
  put_none = record { within = omega arith; same = refl; is = paste-zero before 0 (map words_of table) }

  module _ (rows : List (List ℕ)) (i : ℕ) (p : Put before table rows i) (all : length table ≡ 32) where
    pub put_more : 32 ≤ length before → i < 32 → (t : Ticket) → t ≡ get_or table i no_ticket → (words : List ℕ) → words ≡ words_of t → Put before table (set rows i words) (i + 1)
    put_more fits l t t-is words e =
        record {
          within = omega arith;
          same = length-set rows i words ∙ p.same;
          is =
              ap (λ r. set r i words) p.is
              ∙ ap (λ x. set (paste before 0 (map words_of table) i) i x) (e ∙ ap words_of t-is ∙ words_there table i)
              ∙ paste_next before (map words_of table) i (words_of no_ticket) (omega arith) (omega (arith, all, length-map table words_of));
        }

    pub put_all : 32 ≤ i → rows ≡ records_with table before
    put_all l =
        let last : i ≡ 32 = omega (arith, p.within) in
        p.is ∙ ap (λ k. paste before 0 (map words_of table) k) last ∙ table_written before table all

-- Bytes that go on behind their first line.
pub line_goes_on : (bytes : List ℕ) (i : ℕ) → FirstAt line_feed bytes i → (i + 1 ≡ length bytes → ⊥) → take 0 bytes ≡ one_line bytes
line_goes_on bytes i at ne =
    let inside : i + 1 < length bytes = omega (arith, at.within, ne) in
    let more : behind line_feed bytes ≡ get_or bytes (i + 1) 0 ∷ drop (suc (i + 1)) bytes = at.back ∙ drop-cons bytes (i + 1) 0 inside in
    rw (at.stands, more) refl
