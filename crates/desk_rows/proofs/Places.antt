-- The places that a row of records and the table have in common: as many as the row has, and at most 32.
use Prim.Native.Nat.{ℕ, zero, suc, ◌-◌, ◌≤◌, min}
use mathlib.Core.Path.{◌≡◌, refl, sym, ◌∙◌}
use mathlib.Core.Logic.{by_cases}
use mathlib.Core.List.{List, ◌++◌}
use native.Mathlib.Decide.{dec_le}
use native.Mathlib.Numerals.{unary_clauses}
use native.Mathlib.Omega.{arith}
use lib.ListN.{length, take, drop, replicate, drop_of_length-le}
use lib.Seq.{take_all}
use Rattle.desk_tickets.specs.declared.Ticket.{Ticket}
use Rattle.desk_tickets.specs.WaitingTable.{no_ticket}
use Rattle.desk_rows.specs.Desk.{table_in, with_table}

drop_replicate : {A : Type 0} (i n : ℕ) (a : A) → drop i (replicate n a) ≡ replicate (n - i) a
drop_replicate zero n a = simp unary_clauses refl
drop_replicate (suc i) zero a = let none : 0 - suc i ≡ 0 = omega arith in rw none refl
drop_replicate (suc i) (suc n) a = simp unary_clauses (drop_replicate i n a)

module _ {A : Type 0} (xs : List A) (n m : ℕ) (common : n ≡ min (length xs) m) where
  take_common : take n xs ≡ take m xs
  take_common =
      by_cases (dec_le (length xs) m)
      (λ l. let past : length xs ≤ n = omega (arith, l) in take_all n xs past ∙ sym (take_all m xs l))
      (λ l. let e : n ≡ m = omega (arith, l) in rw e refl)

  drop_common : drop n xs ≡ drop m xs
  drop_common =
      by_cases (dec_le (length xs) m)
      (λ l. let past : length xs ≤ n = omega (arith, l) in drop_of_length-le xs past ∙ sym (drop_of_length-le xs l))
      (λ l. let e : n ≡ m = omega (arith, l) in rw e refl)

module _ (ts : List Ticket) (n : ℕ) (common : n ≡ min (length ts) 32) where
  pub table_from_places : take n ts ++ drop n (replicate 32 no_ticket) ≡ table_in ts
  unfolding table_in
  table_from_places =
      let left : 32 - n ≡ 32 - length ts = omega arith in
      rw (take_common ts n 32 common, drop_replicate n 32 no_ticket, left) refl

  pub row_from_places : (table : List Ticket) → length table ≡ 32 → take n table ++ drop n ts ≡ with_table table ts
  unfolding with_table
  row_from_places table whole = rw (take_common table n (length ts) (omega arith), drop_common ts n 32 common) refl
