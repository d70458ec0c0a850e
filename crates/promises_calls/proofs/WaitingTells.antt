-- Each ticket's line in the text of who waits, and that it leaves as its line says.
use Prim.Native.Nat.{ℕ, zero, suc, ◌+◌, ◌/◌, ◌≤◌, ◌<◌}
use mathlib.Core.Path.{◌≡◌, refl, sym, ap, subst, ◌∙◌}
use mathlib.Core.Bool.{true, cond}
use mathlib.Core.Logic.{⊎_elim, ◌⊎◌, inl, inr}
use mathlib.Core.List.{List, [], ◌∷◌, ◌++◌, append_assoc}
use native.Mathlib.Omega.{arith}
use lib.ListN.{length, get_or, take, drop}
use lib.Dec.{eqb}
use lib.Seq.{drop-cons}
use Rattle.text_pages.specs.Printing.{pair_line}
use Rattle.desk_tickets.specs.declared.Ticket.{Ticket}
use Rattle.desk_tickets.specs.WaitingTable.{no_ticket, waiting}
use Rattle.desk_waits.specs.Waits.{leaves_by, waits_line, waits_lines, waiting_key, waiting_text}
use Rattle.promises.specs.Desk.{Kept, IsTable, Call, Day, IsOffice, departures, withdrawn_in, LeavesOn}
use Rattle.promises.proofs.Desk.{leaves_in_time}
use Rattle.promises_calls.specs.WaitingTells.{ticket_at, LineStands, EachLineStands, LeavesAsTold}

-- Lines split behind the first j.
split : (i j : ℕ) (ts : List Ticket) → j ≤ length ts → waits_lines i ts ≡ waits_lines i (take j ts) ++ waits_lines (i + j) (drop j ts)
unfolding waits_lines
split i zero ts l = let e : i + 0 ≡ i = omega arith in rw e refl
split i (suc j) [] l = absurd (omega arith)
split i (suc j) (t ∷ ts) l =
    let e : suc i + j ≡ i + suc j = omega arith in
    ap (λ (r : List ℕ). waits_line i t ++ r) (split (suc i) j ts (omega arith))
    ∙ sym (append_assoc (waits_line i t) (waits_lines (suc i) (take j ts)) (waits_lines (suc i + j) (drop j ts)))
    ∙ ap (λ (n : ℕ). waits_line i t ++ waits_lines (suc i) (take j ts) ++ waits_lines n (drop j ts)) e

first : (j : ℕ) (t : Ticket) (ts : List Ticket) → waits_lines j (t ∷ ts) ≡ waits_line j t ++ waits_lines (suc j) ts
unfolding waits_lines
first j t ts = refl

next : (j : ℕ) (ts : List Ticket) → j < length ts → waits_lines j (drop j ts) ≡ waits_line j (get_or ts j no_ticket) ++ waits_lines (suc j) (drop (suc j) ts)
next j ts l = ap (λ (r : List Ticket). waits_lines j r) (drop-cons ts j no_ticket l) ∙ first j (get_or ts j no_ticket) (drop (suc j) ts)

-- The line of the ticket behind the first j.
line_at : (j : ℕ) (ts : List Ticket) → j < length ts → waits_lines 0 ts ≡ waits_lines 0 (take j ts) ++ waits_line j (get_or ts j no_ticket) ++ waits_lines (suc j) (drop (suc j) ts)
line_at j ts l =
    let e : 0 + j ≡ j = omega arith in
    split 0 j ts (omega arith)
    ∙ ap (λ (n : ℕ). waits_lines 0 (take j ts) ++ waits_lines n (drop j ts)) e
    ∙ ap (λ (r : List ℕ). waits_lines 0 (take j ts) ++ r) (next j ts l)
    ∙ sym (append_assoc (waits_lines 0 (take j ts)) (waits_line j (get_or ts j no_ticket)) (waits_lines (suc j) (drop (suc j) ts)))

-- Office 1's, and office 2's behind all of office 1's.
module _ (j : ℕ) (row : List Ticket) where
  line_of_one : j < length (waiting 1 row) → LineStands 1 j row
  unfolding waiting_text
  line_of_one l =
      let a = waits_lines 0 (take j (waiting 1 row)) in
      let b = waits_line j (ticket_at 1 j row) in
      let c = waits_lines (suc j) (drop (suc j) (waiting 1 row)) in
      let d = waits_lines 0 (waiting 2 row) in
      let e = pair_line waiting_key (length (waiting 1 row)) (length (waiting 2 row)) in
      record {
        before = a;
        behind = c ++ d ++ e;
        stands = ap (λ (r : List ℕ). r ++ d ++ e) (line_at j (waiting 1 row) l) ∙ append_assoc (a ++ b ++ c) d e ∙ append_assoc (a ++ b) c (d ++ e) ∙ ap (λ (r : List ℕ). a ++ b ++ r) (sym (append_assoc c d e));
        ahead = refl;
      }

  line_of_two : j < length (waiting 2 row) → LineStands 2 j row
  unfolding waiting_text
  line_of_two l =
      let o = waits_lines 0 (waiting 1 row) in
      let a = waits_lines 0 (take j (waiting 2 row)) in
      let b = waits_line j (ticket_at 2 j row) in
      let c = waits_lines (suc j) (drop (suc j) (waiting 2 row)) in
      let e = pair_line waiting_key (length (waiting 1 row)) (length (waiting 2 row)) in
      record {
        before = o ++ a;
        behind = c ++ e;
        stands =
            ap (λ (r : List ℕ). o ++ r ++ e) (line_at j (waiting 2 row) l)
            ∙ ap (λ (r : List ℕ). r ++ e) (sym (append_assoc o (a ++ b) c) ∙ ap (λ (r : List ℕ). r ++ c) (sym (append_assoc o a b)))
            ∙ append_assoc (o ++ a ++ b) c e;
        ahead = refl;
      }

pub each_line_stands : EachLineStands
each_line_stands office j row is l =
    ⊎_elim
    (λ (one : office ≡ 1). subst (λ (o : ℕ). LineStands o j row) (sym one) (line_of_one j row (rw one at l)))
    (λ (two : office ≡ 2). subst (λ (o : ℕ). LineStands o j row) (sym two) (line_of_two j row (rw two at l)))
    is

pub leaves_as_told : LeavesAsTold
leaves_as_told office j k last cs is table day l enough =
    ⊎_elim
    (λ gone. inl gone)
    (λ goes. inr (goes.0, omega (arith, goes.1)))
    (leaves_in_time office (ticket_at office j k.row).number j k last cs is table day l refl enough)
