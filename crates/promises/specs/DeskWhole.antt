-- Requests L6 and L7 as whole sentences, from the statements of Desk, DeskRefusals and DeskRows: a ticket from its filing on; a ticket that waits can be
-- withdrawn; 26 both ways; a refusal on a lent row of any length.
use Rattle.std.specs.Prelude.{ℕ, ◌+◌, ◌≤◌, ◌<◌, ◌/◌, ◌≡◌, true, ◌⊎◌, ◌↔◌, List, ◌++◌, length, get_or}
use Rattle.refusals.specs.declared.Refusal.TheVariants.{Accepted}
use Rattle.desk_tickets.specs.declared.Ticket.{Ticket}
use Rattle.desk_tickets.specs.declared.Lasts.{Lasts}
use Rattle.desk_tickets.specs.declared.Filing.{Filing}
use Rattle.desk_tickets.specs.declared.FiledRow.{FiledRow}
use Rattle.desk_tickets.specs.declared.Withdrawal.{Withdrawal}
use Rattle.desk_tickets.specs.WaitingTable.{no_ticket, waiting}
use Rattle.desk_tickets.specs.Withdrawals.{withdraw_row}
use Rattle.promises.specs.Desk.{Kept, at_first, Call, filing, Fits, Day, departures, withdrawn_in, LeavesOn, answered}
use Rattle.promises.specs.DeskRefusals.{RecordIsBad, IsTableOf, IsWaiting}
use Rattle.promises.specs.DeskRows.{LentFits}

-- Ticket n of an office, with j of its office's ahead: it is withdrawn, or it leaves on an accepted boarding with at most j / 4 accepted ones before.
abbrev pub LeftOrWithdrawn : ℕ → ℕ → ℕ → Kept → Kept → List Call → Type 0
LeftOrWithdrawn office n j k last cs =
    (withdrawn_in office n cs ≡ true) ⊎ ((leaves : LeavesOn office n k last cs) × (departures leaves.before ≤ j / 4))

-- From its filing, with j ahead: by accepted boarding j / 4 + 1. And at any later moment at which it waits, by what is then ahead, counted from that moment.
pub record FromFiling (office n j : ℕ) (filed last : Kept) (cs : List Call) : Type 0 where
  pub by_then : j / 4 + 1 ≤ departures cs → LeftOrWithdrawn office n j filed last cs
  pub at_any_moment : (before behind : List Call) (here : Kept) (ahead : ℕ)
      → cs ≡ before ++ behind
      → Day filed before here
      → Day here behind last
      → ahead < length (waiting office here.row)
      → (get_or (waiting office here.row) ahead no_ticket).number ≡ n
      → ahead / 4 + 1 ≤ departures behind
      → LeftOrWithdrawn office n ahead here last behind

-- Whatever was called before and whatever is called afterwards, by either office.
abbrev pub LeavesFromItsFiling : Type 0
LeavesFromItsFiling =
    (earlier cs : List Call) (k filed last : Kept) (len : ℕ) (f : Filing) (r : FiledRow)
    → Day at_first earlier k
    → Fits k (filing len f r) filed
    → r.filed.verdict.refusal ≡ Accepted
    → Day filed cs last
    → FromFiling f.office r.filed.number (length (waiting f.office k.row)) filed last cs

-- A ticket that waits can be withdrawn, whatever was filed, withdrawn and boarded before.
abbrev pub WithdrawalServes : Type 0
WithdrawalServes =
    (k : Kept) (cs : List Call) (len : ℕ) (w : Withdrawal)
    → Day at_first cs k
    → w.lasts ≡ k.lasts
    → 32 ≤ len
    → IsWaiting w.office w.number k.row
    → (withdraw_row len k.row w).withdrawn.verdict.refusal ≡ Accepted

-- 26 both ways: 32 records are a table of two offices exactly where none of them is bad.
abbrev pub TableHasNoBadRecord : Type 0
TableHasNoBadRecord =
    (l : Lasts) (row : List Ticket)
    → length row ≡ 32
    → IsTableOf l row ↔ ((i : ℕ) → i < 32 → RecordIsBad l row i → ⊥)

-- A refused call on a lent row, of any length, leaves every record and the last numbers as they were.
abbrev pub RefusedLeavesTheRow : Type 0
RefusedLeavesTheRow =
    (ts exit : List Ticket) (l m : Lasts) (c : Call)
    → LentFits ts l c exit m
    → (answered c ≡ Accepted → ⊥)
    → (exit ≡ ts) × (m ≡ l)

-- Who waits, by the places of a table: an office's tickets are the records from its first place on, up to 16, none of them empty; and they end where an empty one stands.
pub record WaitAt (first : ℕ) (row ts : List Ticket) : Type 0 where
  pub few : length ts ≤ 16
  pub each : (i : ℕ) → i < length ts → (get_or ts i no_ticket ≡ get_or row (first + i) no_ticket) × (get_or row (first + i) no_ticket ≡ no_ticket → ⊥)
  pub end : (length ts ≡ 16) ⊎ (get_or row (first + length ts) no_ticket ≡ no_ticket)

abbrev pub WaitAtTheirPlaces : Type 0
WaitAtTheirPlaces = (row : List Ticket) → length row ≡ 32 → WaitAt 0 row (waiting 1 row) × WaitAt 16 row (waiting 2 row)
