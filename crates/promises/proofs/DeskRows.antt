-- A day on a lent row is a day on the table in it: what a call leaves has 32 records, so the next call finds just that table.
use Prim.Native.Nat.{ℕ, ◌+◌, ◌-◌, ◌≤◌}
use mathlib.Core.Path.{◌≡◌, refl, sym, ap, ◌∙◌, subst}
use mathlib.Core.List.{List, [], ◌∷◌}
use native.Mathlib.Omega.{arith}
use mathlib.Core.Bool.{false}
use mathlib.Core.Logic.{⊎_elim}
use lib.ListN.{length, take, drop, replicate, length-append, length-replicate}
use lib.Seq.{length-take-le}
use Rattle.desk_tickets.specs.declared.Ticket.{Ticket}
use Rattle.desk_tickets.specs.declared.Lasts.{Lasts}
use Rattle.desk_tickets.specs.declared.Filed.{Filed}
use Rattle.desk_tickets.specs.declared.FiledRow.{FiledRow}
use Rattle.desk_tickets.specs.declared.Withdrawn.{Withdrawn}
use Rattle.desk_tickets.specs.declared.WithdrawnRow.{WithdrawnRow}
use Rattle.refusals.specs.Refusals.{is_refusal}
use Rattle.refusals.proofs.Verdicts.{refuses}
use Rattle.runs.proofs.Search.{true_or_false}
use Rattle.desk_tickets.specs.WaitingTable.{Sound, no_ticket, places, placed, waiting, records_verdict}
use Rattle.desk_tickets.specs.Filings.{file_verdict, file_row}
use Rattle.desk_tickets.specs.Withdrawals.{withdraw_verdict, withdraw_row}
use Rattle.desk_tickets.proofs.Storing.{accepted_sound, file_accepted}
use Rattle.desk_tickets.proofs.Leaving.{withdraw_accepted}
use Rattle.desk_tickets.proofs.Kept.{not_filed_so, not_withdrawn_so}
use Rattle.desk_boardings.specs.declared.BoardedRow.{BoardedRow}
use Rattle.desk_boardings.specs.Boardings.{Boards}
use Rattle.desk_rows.specs.Desk.{table_in, with_table, boarded_row}
use Rattle.desk_rows.proofs.Kept.{row_keeps_its_length, later_records_kept, table_comes_back}
use Rattle.promises.specs.Desk.{Kept, IsTable, Call, Fits, Day}
use Rattle.promises.specs.DeskRows.{LentFits, LentDay, kept_in, DayOnALentRow}
use Rattle.promises.proofs.DeskSteps.{board_accepted, refused_is}
use Rattle.promises.proofs.Desk.{table_stays}

placed_length : (ts : List Ticket) → length ts ≤ places → length (placed ts) ≡ places
placed_length ts l = length-append ts (replicate (places - length ts) no_ticket) ∙ ap (λ n. length ts + n) (length-replicate (places - length ts) no_ticket) ∙ omega arith

-- A sound table has 32 records.
table_whole : (k : Kept) → IsTable k → length k.row ≡ 32
table_whole k s =
    let ones = waiting 1 k.row in
    let twos = waiting 2 k.row in
    ap length s.is ∙ length-append (placed ones) (placed twos) ∙ omega (arith, placed_length ones s.one.few, placed_length twos s.two.few)

-- The table in a row of 32 records or more has 32.
row_whole : (ts : List Ticket) → 32 ≤ length ts → length (table_in ts) ≡ 32
unfolding table_in
row_whole ts long =
    length-append (take 32 ts) (replicate (32 - length ts) no_ticket)
    ∙ omega (arith, length-take-le 32 ts long, length-replicate (32 - length ts) no_ticket)

-- A call from a sound table leaves a sound table.
call_stays : (k next : Kept) (c : Call) → IsTable k → Fits k c next → IsTable next
call_stays k next c s f = table_stays k next (c ∷ []) s (Day.then f Day.over)

-- Whatever a table of 32 records holds, a call leaves 32: a refused one the same, and an accepted one has found a sound table.
module _ (k : Kept) (all : length k.row ≡ 32) where
  found_sound : (len : ℕ) (l : Lasts) → l ≡ k.lasts → refuses (records_verdict len k.row l) ≡ false → IsTable k
  found_sound len l is e = subst (λ (m : Lasts). Sound m (waiting 1 k.row) (waiting 2 k.row) k.row) is (accepted_sound len k.row l all e)

  whole_after_here : {next : Kept} {c : Call} → Fits k c next → length next.row ≡ 32
  whole_after_here fits = by_answer fits fits
    where
      by_answer : {next : Kept} {c : Call} → Fits k c next → Fits k c next → length next.row ≡ 32
      by_answer {next} (Fits.files {len = len} {f = f} {r = r} last is) fits =
          ⊎_elim
          (λ t. ap (λ (x : FiledRow). length x.row) (is ∙ not_filed_so len k.row f t) ∙ all)
          (λ p. table_whole next (call_stays k next _ (found_sound len f.lasts last (file_accepted len k.row f p).table) fits))
          (true_or_false (refuses (file_verdict len k.row f)))
      by_answer {next} (Fits.withdraws {len = len} {w = w} {r = r} last is) fits =
          ⊎_elim
          (λ t. ap (λ (x : WithdrawnRow). length x.row) (is ∙ not_withdrawn_so len k.row w t) ∙ all)
          (λ p. table_whole next (call_stays k next _ (found_sound len w.lasts last (withdraw_accepted len k.row w p).table) fits))
          (true_or_false (refuses (withdraw_verdict len k.row w)))
      by_answer {next} (Fits.boards {len = len} {tape = tape} {b = b} {before = before} {after = after} {r = r} last boards) fits =
          ⊎_elim
          (λ t. ap (λ (x : BoardedRow). length x.row) (refused_is len tape k.row b before after r boards t) ∙ all)
          (λ p. table_whole next (call_stays k next _ (found_sound len b.lasts last (board_accepted len tape k.row b before after r boards p)) fits))
          (true_or_false (is_refusal r.boarded.answer.refusal))

-- What a call on the row is, once the table that it leaves has 32 records.
filed_as : (d : FiledRow) (r : Filed) (row : List Ticket) → r ≡ d.filed → row ≡ d.row → ◌≡◌ {A = FiledRow} (record { filed = r; row = row }) d
filed_as d r row a b = rw (a, b)

withdrawn_as : (d : WithdrawnRow) (r : Withdrawn) (row : List Ticket) → r ≡ d.withdrawn → row ≡ d.row → ◌≡◌ {A = WithdrawnRow} (record { withdrawn = r; row = row }) d
withdrawn_as d r row a b = rw (a, b)

-- A table of 32 records written back into the row: that table is found there, the row keeps its length, and later records stay.
record Back (ts exit table : List Ticket) : Type 0 where
  found : table_in exit ≡ table
  long : length exit ≡ length ts
  later : drop 32 exit ≡ drop 32 ts

back : (ts exit table : List Ticket) → 32 ≤ length ts → length table ≡ 32 → exit ≡ with_table table ts → Back ts exit table
back ts exit table long whole is =
    record {
      found = ap table_in is ∙ table_comes_back table ts whole long;
      long = ap length is ∙ row_keeps_its_length table ts whole long;
      later = ap (λ (row : List Ticket). drop 32 row) is ∙ later_records_kept table ts whole long;
    }

record OneCall (ts : List Ticket) (l : Lasts) (c : Call) (next : List Ticket) (m : Lasts) : Type 0 where
  fits : Fits (kept_in ts l) c (kept_in next m)
  long : length next ≡ length ts
  later : drop 32 next ≡ drop 32 ts

one_call : {ts next : List Ticket} {l m : Lasts} {c : Call} → 32 ≤ length ts → LentFits ts l c next m → OneCall ts l c next m
one_call {ts} {next} {l} long (LentFits.lent_filing {f = f} {r = r} last says writes) =
    let d = file_row (length ts) (table_in ts) f in
    let b = back ts next d.row long (whole_after_here (kept_in ts l) (row_whole ts long) (Fits.files last refl)) writes in
    record { fits = Fits.files last (filed_as d r (table_in next) says b.found); long = b.long; later = b.later }
one_call {ts} {next} {l} long (LentFits.lent_withdrawal {w = w} {r = r} last says writes) =
    let d = withdraw_row (length ts) (table_in ts) w in
    let b = back ts next d.row long (whole_after_here (kept_in ts l) (row_whole ts long) (Fits.withdraws last refl)) writes in
    record { fits = Fits.withdraws last (withdrawn_as d r (table_in next) says b.found); long = b.long; later = b.later }
one_call {ts} {next} {l} long (LentFits.lent_boarding {tape = tape} {b = given} {before = before} {after = after} {r = r} last lent) =
    let d = boarded_row (table_in ts) r in
    let b = back ts next d.row long (whole_after_here (kept_in ts l) (row_whole ts long) (Fits.boards last lent.boards)) lent.row in
    record {
      fits = Fits.boards last (subst (λ (row : List Ticket). Boards (length ts) tape (table_in ts) given before (record { boarded = r; row = row }) after) (sym b.found) lent.boards);
      long = b.long;
      later = b.later;
    }

on_a_row : {ts last : List Ticket} {l m : Lasts} {cs : List Call} → 32 ≤ length ts → LentDay ts l cs last m → Day (kept_in ts l) cs (kept_in last m) × (drop 32 last ≡ drop 32 ts)
on_a_row long LentDay.lent_over = (Day.over, refl)
on_a_row long (LentDay.lent_then first rest) =
    let one = one_call long first in
    let more = on_a_row (omega (arith, long, one.long)) rest in
    (Day.then one.fits more.0, more.1 ∙ one.later)

pub day_on_a_lent_row : DayOnALentRow
day_on_a_lent_row ts last l m cs long day = on_a_row long day
