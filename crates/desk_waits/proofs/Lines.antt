-- The lines of tickets that wait, one behind the other, and the text of them all.
use Prim.Native.Nat.{ℕ, ◌+◌, ◌-◌, ◌*◌, ◌≤◌, ◌<◌}
use mathlib.Core.Path.{◌≡◌, refl, sym, ap, subst, ◌∙◌}
use mathlib.Core.List.{List, [], ◌++◌}
use native.Mathlib.Omega.{arith}
use native.Mathlib.Numerals.{add-one}
use lib.ListN.{length, get_or, take, drop, drop_of_length-le, length-drop}
use lib.Seq.{drop-cons, length-take-le}
use Rattle.text_pages.specs.Printing.{pair_line, Wrote, Put}
use Rattle.text_pages.proofs.Pages.{wrote_both, wrote_on, wrote_within}
use Rattle.desk_tickets.specs.declared.Ticket.{Ticket}
use Rattle.desk_tickets.specs.WaitingTable.{no_ticket, waiting}
use Rattle.desk_waits.specs.Waits.{waits_line, waits_lines, waiting_key, waiting_text}
use Rattle.desk_waits.specs.Private.{Waiters}

-- The lines that are left.
module _ (ts : List Ticket) (i : ℕ) where
  left_of_here : i < length ts → (t : Ticket) → t ≡ get_or ts i no_ticket → waits_lines i (drop i ts) ≡ waits_line i t ++ waits_lines (i + 1) (drop (i + 1) ts)
  unfolding waits_lines
  left_of_here l t e = rw (drop-cons ts i no_ticket l, add-one i, e)

  over_at_here : length ts ≤ i → waits_lines i (drop i ts) ≡ []
  unfolding waits_lines
  over_at_here l = rw (drop_of_length-le ts l)

module _ (row : List Ticket) (all : length row ≡ 32) (first n : ℕ) (fits : first + n ≤ 32) where
  pub tickets_long : length (take n (drop first row)) ≡ n
  tickets_long = length-take-le n (drop first row) (rw (length-drop first row, all) (omega arith))

  -- The code's own part of the row.
  same : first + n - first ≡ n
  same = omega arith

  pub part_long : length (take (first + n - first) (drop first row)) ≡ n
  part_long = rw same tickets_long

  pub waits_left : (i : ℕ) → i < n
      → waits_lines i (drop i (take n (drop first row))) ≡ waits_line i (get_or (take (first + n - first) (drop first row)) i no_ticket) ++ waits_lines (i + 1) (drop (i + 1) (take n (drop first row)))
  waits_left i l = rw same (left_of_here (take n (drop first row)) i (rw tickets_long l) (get_or (take n (drop first row)) i no_ticket) refl)

  pub waits_over : (i : ℕ) → n ≤ i → waits_lines i (drop i (take n (drop first row))) ≡ []
  waits_over i l = over_at_here (take n (drop first row)) i (rw tickets_long l)

-- The text from its three parts.
module _ (row : List Ticket) (all : length row ≡ 32) (ones twos : ℕ) (waiters : Waiters row ones twos) where
  one_many : ones ≡ length (waiting 1 row)
  one_many = sym (tickets_long row all 0 ones (omega (arith, waiters.few))) ∙ ap length waiters.at_one

  two_many : twos ≡ length (waiting 2 row)
  two_many = sym (tickets_long row all 16 twos (omega (arith, waiters.less))) ∙ ap length waiters.at_two

  text_is_here : waits_lines 0 (take ones (drop 0 row)) ++ waits_lines 0 (take twos (drop 16 row)) ++ pair_line waiting_key ones twos ≡ waiting_text row
  unfolding waiting_text
  text_is_here = rw (waiters.at_one, waiters.at_two, one_many, two_many) refl

  pub text_wrote : (page page₁ page₂ page₃ : List ℕ) (at₁ at₂ at₃ : ℕ)
      → 4274 ≤ length page
      → Wrote page 0 (waits_lines 0 (take ones (drop 0 row))) (ones * 132) page₁ at₁
      → Wrote page₁ at₁ (waits_lines 0 (take twos (drop 16 row))) (twos * 132) page₂ at₂
      → Put page₂ at₂ (pair_line waiting_key ones twos) 50 page₃ at₃
      → Wrote page 0 (waiting_text row) 4274 page₃ at₃
  text_wrote page page₁ page₂ page₃ at₁ at₂ at₃ room p q r =
      let w = wrote_on (wrote_both p q) (omega (arith, waiters.few, waiters.less)) r in
      wrote_within (subst (λ t. Wrote page 0 t (ones * 132 + twos * 132 + 50) page₃ at₃) text_is_here w) 4274 (omega (arith, waiters.few, waiters.less))
