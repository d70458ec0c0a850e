-- From an empty table, for one tape table: what waits was filed, and what was filed names a file of the tape. So only 6, 7, 8 and 9 are left.
use Prim.Native.Nat.{ℕ, zero, suc, ◌≤◌, ◌<◌}
use mathlib.Core.Path.{◌≡◌, refl, sym, ap, subst, ◌∙◌}
use mathlib.Core.Bool.{Bool, true, false, not, cond, ◌&&◌}
use mathlib.Core.List.{List, [], ◌∷◌, ◌++◌}
use mathlib.Core.Logic.{inl, inr}
use native.Mathlib.Omega.{arith}
use lib.Dec.{eqb, leb}
use lib.ListN.{length, get_or, drop}
use borrow.Author.Tests.{leb-true}
use Rattle.refusals.specs.Refusals.{is_refusal}
use Rattle.runs.specs.Run.{most_files}
use Rattle.desk_tickets.specs.declared.Ticket.{Ticket}
use Rattle.desk_tickets.specs.declared.Lasts.{Lasts}
use Rattle.desk_tickets.specs.declared.Filing.{Filing}
use Rattle.desk_tickets.specs.declared.FiledRow.{FiledRow}
use Rattle.desk_tickets.specs.WaitingTable.{offices, most_count, no_ticket, up_to, waiting}
use Rattle.desk_tickets.specs.Filings.{in_range, ticket_of, file_row}
use Rattle.desk_tickets.specs.Withdrawals.{without_number}
use Rattle.desk_tickets.proofs.Sound.{and_true_both}
use Rattle.desk_tickets.proofs.Placed.{waiting_one, waiting_two}
use Rattle.desk_tickets.proofs.Storing.{file_accepted}
use Rattle.desk_tickets.proofs.Kept.{Stands}
use Rattle.desk_boardings.specs.Boardings.{Tape}
use Rattle.promises.specs.Desk.{Kept, at_first, IsOffice, Call, filing, withdrawal, files, withdraws, boards, Day, over, then, leaving, joining, takes_back, queue_in}
use Rattle.promises.specs.DeskWants.{ForTape, RefusedForTheRunFromEmpty}
use Rattle.promises.proofs.Desk.{told, empty_sound, empty_table, table_from_empty, in_order}
use Rattle.promises.proofs.DeskWants.{Each, each_append, refused_for_the_run}

Named : ℕ → Ticket → Type 0
Named n t = t.file ≤ n

each_at : (P : Ticket → Type 0) (ts : List Ticket) → Each P ts → (i : ℕ) → i < length ts → P (get_or ts i no_ticket)
unfolding Each
each_at P [] e i l = absurd (omega arith)
each_at P (t ∷ ts) e zero l = e.0
each_at P (t ∷ ts) e (suc i) l = each_at P ts e.1 i (omega arith)

each_drop : (P : Ticket → Type 0) (n : ℕ) (ts : List Ticket) → Each P ts → Each P (drop n ts)
unfolding Each
each_drop P zero ts e = e
each_drop P (suc n) [] e = tt
each_drop P (suc n) (t ∷ ts) e = each_drop P n ts e.1

each_without : (P : Ticket → Type 0) (m : ℕ) (ts : List Ticket) → Each P ts → Each P (without_number m ts)
unfolding Each without_number
each_without P m [] e = tt
each_without P m (t ∷ ts) e = by_case (eqb t.number m) (each_without P m ts e.1)
  where
    by_case : (b : Bool) → Each P (without_number m ts) → Each P (cond b ts (t ∷ without_number m ts))
    by_case true rest = e.1
    by_case false rest = (e.0, rest)

file_of_tape : (f : Filing) → in_range f ≡ true → f.file ≤ f.files
file_of_tape f e =
    let a = (and_true_both (up_to offices f.office && up_to f.files f.file && up_to most_files f.file) (up_to most_count f.count) e).0 in
    let b = (and_true_both (up_to offices f.office && up_to f.files f.file) (up_to most_files f.file) a).0 in
    let c = (and_true_both (up_to offices f.office) (up_to f.files f.file) b).1 in
    leb-true f.file f.files (and_true_both (not (eqb f.file 0)) (leb f.file f.files) c).1

filed_named : (n office len : ℕ) (row : List Ticket) (f : Filing) (r : FiledRow) → r ≡ file_row len row f → f.files ≡ n → Each (Named n) (joining office (filing len f r))
unfolding Each Named
filed_named n office len row f r is same = by_verdict (is_refusal r.filed.verdict.refusal) refl
  where
    by_office : (b : Bool) → f.file ≤ n → Each (Named n) (cond b (ticket_of f ∷ []) [])
    by_office true l = (l, tt)
    by_office false l = tt

    by_verdict : (b : Bool) → is_refusal r.filed.verdict.refusal ≡ b → Each (Named n) (joining office (filing len f r))
    by_verdict true v = rw v tt
    by_verdict false v = rw v (by_office (eqb f.office office) (rw same at (file_of_tape f (file_accepted len row f (told len row f r is ∙ v)).ranged)))

named_on : (tape : Tape) (office : ℕ) {k last : Kept} {cs : List Call} (ts : List Ticket) → Day k cs last → ForTape tape cs → Each (Named (length tape.starts)) ts
    → Each (Named (length tape.starts)) (queue_in office cs ts)
unfolding Each
named_on tape office ts over h e = e
named_on tape office ts (then (files {len} {k} {f} {r} l is) day) h e =
    named_on tape office (ts ++ joining office (filing len f r)) day h.1
    (each_append (Named (length tape.starts)) ts (joining office (filing len f r)) e (filed_named (length tape.starts) office len k.row f r is h.0))
named_on tape office ts (then (withdraws {len} {k} {w} {r} l is) day) h e =
    named_on tape office (cond (takes_back office (withdrawal len w r)) (without_number w.number ts) ts ++ []) day h
    (each_append (Named (length tape.starts)) (cond (takes_back office (withdrawal len w r)) (without_number w.number ts) ts) [] (by_case (takes_back office (withdrawal len w r))) tt)
  where
    by_case : (b : Bool) → Each (Named (length tape.starts)) (cond b (without_number w.number ts) ts)
    by_case true = each_without (Named (length tape.starts)) w.number ts e
    by_case false = e
named_on tape office ts (then {c = c} (boards l fits) day) h e =
    named_on tape office (drop (leaving office c) (ts ++ [])) day h
    (each_drop (Named (length tape.starts)) (leaving office c) (ts ++ []) (each_append (Named (length tape.starts)) ts [] e tt))

none_waits : (office : ℕ) → IsOffice office → waiting office at_first.row ≡ []
none_waits office (inl e) = rw e (waiting_one at_first.lasts [] [] at_first.row empty_sound)
none_waits office (inr e) = rw e (waiting_two at_first.lasts [] [] at_first.row empty_sound)

pub refused_for_the_run_from_empty : RefusedForTheRunFromEmpty
unfolding Named Each
refused_for_the_run_from_empty len tape k cs b before after r day one_tape tape-ok same fits =
    refused_for_the_run len tape k.row b before after r (subst (λ (x : Lasts). Stands x k.row) (sym same) (table_from_empty k cs day)) tape-ok
    (λ office i o l. each_at (Named (length tape.starts)) (waiting office k.row) (waiting_named office o) i l) fits
  where
    waiting_named : (office : ℕ) → IsOffice office → Each (Named (length tape.starts)) (waiting office k.row)
    waiting_named office o =
        let order : waiting office k.row ≡ queue_in office cs [] = in_order office at_first k cs o empty_table day ∙ ap (queue_in office cs) (none_waits office o) in
        rw order (named_on tape office [] day one_tape tt)
