-- The place of a file looked for from the front; and the lines of tickets, one behind the other.
use Prim.Native.Nat.{ℕ, suc, ◌+◌, ◌-◌, ◌≤◌, ◌<◌}
use mathlib.Core.Path.{◌≡◌, refl, sym, ap, ◌∙◌}
use mathlib.Core.Bool.{true, false}
use mathlib.Core.List.{List, [], ◌∷◌, ◌++◌, append_assoc}
use native.Mathlib.Omega.{arith}
use native.Mathlib.Numerals.{add-one}
use lib.Dec.{eqb}
use lib.ListN.{length, get_or, take, drop, drop_of_length-le, length-drop}
use lib.Seq.{drop-cons, get_or-take, length-take-le}
use Rattle.desk_tickets.specs.declared.Ticket.{Ticket}
use Rattle.desk_tickets.specs.WaitingTable.{no_ticket}
use Rattle.text_pages.specs.Printing.{pair_line, pair_lines}
use Rattle.text_pages.proofs.Pages.{pairs_left, pairs_over}
use Rattle.sheet_writer.specs.PlanSheet.{detour_key}
use Rattle.answer_desk.specs.declared.Reads.{Reads}
use Rattle.answer_desk.specs.Answers.{place_in, closed_line, closed_lines}

place_here : (file n : ℕ) (ns : List ℕ) → eqb n file ≡ true → place_in file (n ∷ ns) ≡ 0
unfolding place_in
place_here file n ns e = rw e

place_later : (file n : ℕ) (ns : List ℕ) → eqb n file ≡ false → place_in file (n ∷ ns) ≡ suc (place_in file ns)
unfolding place_in
place_later file n ns e = rw e

place_end : (file : ℕ) → place_in file [] ≡ 0
unfolding place_in
place_end file = refl

-- Not among the first i.
pub record Sought (file : ℕ) (ns : List ℕ) (i : ℕ) : Type 0 where
  pub within : i ≤ length ns
  pub so : place_in file ns ≡ i + place_in file (drop i ns)

module _ (file : ℕ) (ns : List ℕ) where
  at_place : (i : ℕ) → i < length ns → place_in file (drop i ns) ≡ place_in file (get_or ns i 0 ∷ drop (suc i) ns)
  at_place i l = ap (place_in file) (drop-cons ns i 0 l)

  pub sought_more : (i : ℕ) → Sought file ns i → i < length ns → eqb (get_or ns i 0) file ≡ false → Sought file ns (i + 1)
  sought_more i s l e =
      let here = at_place i l ∙ place_later file (get_or ns i 0) (drop (suc i) ns) e in
      rw (add-one i) record { within = l; so = s.so ∙ omega arith }

  pub sought_here : (i : ℕ) → Sought file ns i → i < length ns → eqb (get_or ns i 0) file ≡ true → i ≡ place_in file ns
  sought_here i s l e = let here = at_place i l ∙ place_here file (get_or ns i 0) (drop (suc i) ns) e in omega (arith, s.so)

  pub sought_all : (i : ℕ) → Sought file ns i → length ns ≤ i → i ≡ place_in file ns
  sought_all i s l = let here = ap (place_in file) (drop_of_length-le ns l) ∙ place_end file in omega (arith, s.so)

-- The lines of tickets that are left.
module _ (reads : Reads) (ts : List Ticket) (i : ℕ) where
  pub closed_left : i < length ts → (t : Ticket) → t ≡ get_or ts i no_ticket → closed_lines reads (drop i ts) ≡ closed_line reads t ++ closed_lines reads (drop (i + 1) ts)
  unfolding closed_lines
  closed_left l t e = rw (drop-cons ts i no_ticket l, add-one, e)

  pub closed_over : length ts ≤ i → closed_lines reads (drop i ts) ≡ []
  unfolding closed_lines
  closed_over l = rw (drop_of_length-le ts l)

pub closed_both : (reads : Reads) (a b : List Ticket) → closed_lines reads (a ++ b) ≡ closed_lines reads a ++ closed_lines reads b
unfolding closed_lines
closed_both reads [] b = refl
closed_both reads (t ∷ a) b = rw (closed_both reads a b) (sym (append_assoc (closed_line reads t) (closed_lines reads a) (closed_lines reads b)))

-- The lines of the first n of eight detours that are left.
module _ (n : ℕ) (froms tos : List ℕ) (few : n ≤ 8) (f : length froms ≡ 8) (t : length tos ≡ 8) (i : ℕ) where
  front : length (take n froms) ≡ n
  front = length-take-le n froms (omega arith)

  even : length (take n froms) ≡ length (take n tos)
  even = front ∙ sym (length-take-le n tos (omega arith))

  pub detours_left : i < n
      → pair_lines detour_key (drop i (take n froms)) (drop i (take n tos))
      ≡ pair_line detour_key (get_or froms i 0) (get_or tos i 0) ++ pair_lines detour_key (drop (i + 1) (take n froms)) (drop (i + 1) (take n tos))
  detours_left l =
      pairs_left detour_key (take n froms) (take n tos) even i (rw front l)
      ∙ ap (λ x. pair_line detour_key x (get_or (take n tos) i 0) ++ pair_lines detour_key (drop (i + 1) (take n froms)) (drop (i + 1) (take n tos))) (get_or-take n froms i 0 l)
      ∙ ap (λ x. pair_line detour_key (get_or froms i 0) x ++ pair_lines detour_key (drop (i + 1) (take n froms)) (drop (i + 1) (take n tos))) (get_or-take n tos i 0 l)

  pub detours_over : n ≤ i → pair_lines detour_key (drop i (take n froms)) (drop i (take n tos)) ≡ []
  detours_over l = pairs_over detour_key (take n froms) (take n tos) even i (rw front l)

-- The lines of n tickets of a row, from place `first` on, that are left.
module _ (reads : Reads) (row : List Ticket) (all : length row ≡ 32) (first n : ℕ) (fits : first + n ≤ 32) (i : ℕ) where
  tickets_long_here : length (take n (drop first row)) ≡ n
  tickets_long_here = length-take-le n (drop first row) (rw (length-drop first row, all) (omega arith))

  -- The code's own part of the row.
  same : first + n - first ≡ n
  same = omega arith

  pub part_long : length (take (first + n - first) (drop first row)) ≡ n
  part_long = rw same tickets_long_here

  pub tickets_left : i < n
      → closed_lines reads (drop i (take n (drop first row))) ≡ closed_line reads (get_or (take (first + n - first) (drop first row)) i no_ticket) ++ closed_lines reads (drop (i + 1) (take n (drop first row)))
  tickets_left l = rw same (closed_left reads (take n (drop first row)) i (rw tickets_long_here l) (get_or (take n (drop first row)) i no_ticket) refl)

  pub tickets_over : n ≤ i → closed_lines reads (drop i (take n (drop first row))) ≡ []
  tickets_over l = closed_over reads (take n (drop first row)) i (rw tickets_long_here l)
