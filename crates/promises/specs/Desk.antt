-- Requests L6 and L7: two offices, one tape, and tickets that are withdrawn. Calls that fit the contracts of filing, withdrawing and boarding, one
-- after the other, on one waiting table and the last numbers given.
use Rattle.std.specs.Prelude.{ℕ, zero, suc, ◌+◌, ◌≤◌, ◌<◌, ◌/◌, min, ◌≡◌, Bool, true, false, not, cond, ◌&&◌, ◌⊎◌, List, [], ◌∷◌, ◌++◌, eqb, length, get_or, take, drop, replicate}
use Rattle.refusals.specs.declared.Refusal.{Refusal}
use Rattle.refusals.specs.declared.Refusal.TheVariants.{Accepted}
use Rattle.refusals.specs.Refusals.{is_refusal}
use Rattle.runs.specs.Run.{Run, stops_of}
use Rattle.walk.specs.declared.Leg.{Leg}
use Rattle.walk.specs.Walk.{head_at, Moves, ServesAll, sum_of}
use Rattle.planner.specs.Rows.{Rows}
use Rattle.desk_tickets.specs.declared.Ticket.{Ticket}
use Rattle.desk_tickets.specs.declared.Lasts.{Lasts}
use Rattle.desk_tickets.specs.declared.Filing.{Filing}
use Rattle.desk_tickets.specs.declared.FiledRow.{FiledRow}
use Rattle.desk_tickets.specs.declared.Withdrawal.{Withdrawal}
use Rattle.desk_tickets.specs.declared.WithdrawnRow.{WithdrawnRow}
use Rattle.desk_tickets.specs.WaitingTable.{Sound, no_ticket, last_of, waiting}
use Rattle.desk_tickets.specs.Filings.{in_range, ticket_of, file_row}
use Rattle.desk_tickets.specs.Withdrawals.{without_number, withdraw_row}
use Rattle.desk_boardings.specs.declared.Boarding.{Boarding}
use Rattle.desk_boardings.specs.declared.BoardedRow.{BoardedRow}
use Rattle.desk_boardings.specs.Boarders.{boarders}
use Rattle.desk_boardings.specs.Boardings.{Tape, board_run, Boards}
use Rattle.demands.specs.RefusalTable.{NothingApplies}
use Rattle.demands.specs.Demand2.{IsTheWalk, IsLeast}
use Rattle.demands.specs.Demand3.{AsksNoLess}

-- What is kept from call to call: the waiting table, and the last number given to each office.
pub record Kept : Type 0 where
  pub row : List Ticket
  pub lasts : Lasts

-- At first: 32 empty places, and no number given.
abbrev pub at_first : Kept
at_first = record { row = replicate 32 (record { office = 0; file = 0; count = 0; number = 0 }); lasts = record { one = 0; two = 0 } }

-- A table that two offices' tickets wait in: each office's numbers ascend, and none is above the last given.
abbrev pub IsTable : Kept → Type 0
IsTable k = Sound k.lasts (waiting 1 k.row) (waiting 2 k.row) k.row

-- A call: what was handed in beside the table, and what came back.
pub data Call : Type 0 where
  filing : (len : ℕ) → Filing → FiledRow → Call
  withdrawal : (len : ℕ) → Withdrawal → WithdrawnRow → Call
  boarding : (len : ℕ) → Tape → Boarding → (before after : Rows) → BoardedRow → Call

-- It fits the contract: the table and the last numbers go in, and the next ones come back.
pub data Fits : Kept → Call → Kept → Type 0 where
  files : {len : ℕ} {k : Kept} {f : Filing} {r : FiledRow} → f.lasts ≡ k.lasts → r ≡ file_row len k.row f
      → Fits k (filing len f r) (record { row = r.row; lasts = r.filed.lasts })
  withdraws : {len : ℕ} {k : Kept} {w : Withdrawal} {r : WithdrawnRow} → w.lasts ≡ k.lasts → r ≡ withdraw_row len k.row w
      → Fits k (withdrawal len w r) (record { row = r.row; lasts = r.withdrawn.lasts })
  boards : {len : ℕ} {tape : Tape} {k : Kept} {b : Boarding} {before after : Rows} {r : BoardedRow} → b.lasts ≡ k.lasts → Boards len tape k.row b before r after
      → Fits k (boarding len tape b before after r) (record { row = r.row; lasts = r.boarded.lasts })

-- Calls one after the other.
pub data Day : Kept → List Call → Kept → Type 0 where
  over : {k : Kept} → Day k [] k
  then : {k next last : Kept} {c : Call} {cs : List Call} → Fits k c next → Day next cs last → Day k (c ∷ cs) last

-- Whether a call is an accepted boarding, and how many of a day are.
abbrev pub departs : Call → Bool
departs (filing len f r) = false
departs (withdrawal len w r) = false
departs (boarding len tape b before after r) = not (is_refusal r.boarded.answer.refusal)

abbrev pub departures : List Call → ℕ
departures [] = 0
departures (c ∷ cs) = cond (departs c) (1 + departures cs) (departures cs)

-- How many tickets of an office leave with a boarding, as its answer says.
abbrev pub leaving : ℕ → Call → ℕ
leaving office (filing len f r) = 0
leaving office (withdrawal len w r) = 0
leaving office (boarding len tape b before after r) = cond (eqb office 1) r.boarded.taken.one r.boarded.taken.two

-- The ticket that joins an office's with an accepted filing.
abbrev pub joining : ℕ → Call → List Ticket
joining office (filing len f r) = cond (is_refusal r.filed.verdict.refusal) [] (cond (eqb f.office office) (ticket_of f ∷ []) [])
joining office (withdrawal len w r) = []
joining office (boarding len tape b before after r) = []

-- Whether a call is an accepted withdrawal at an office; whether of a number; whether one of a day is.
abbrev pub takes_back : ℕ → Call → Bool
takes_back office (filing len f r) = false
takes_back office (withdrawal len w r) = not (is_refusal r.withdrawn.verdict.refusal) && eqb w.office office
takes_back office (boarding len tape b before after r) = false

abbrev pub named : Call → ℕ
named (filing len f r) = 0
named (withdrawal len w r) = w.number
named (boarding len tape b before after r) = 0

abbrev pub withdrawn : ℕ → ℕ → Call → Bool
withdrawn office n c = takes_back office c && eqb (named c) n

abbrev pub withdrawn_in : ℕ → ℕ → List Call → Bool
withdrawn_in office n [] = false
withdrawn_in office n (c ∷ cs) = cond (withdrawn office n c) true (withdrawn_in office n cs)

-- An office's tickets after a call: without the withdrawn one, with the filed one behind them, less those that boarded, from the front. And after a day.
abbrev pub queue_after : ℕ → Call → List Ticket → List Ticket
queue_after office c ts = drop (leaving office c) (cond (takes_back office c) (without_number (named c) ts) ts ++ joining office c)

abbrev pub queue_in : ℕ → List Call → List Ticket → List Ticket
queue_in office [] ts = ts
queue_in office (c ∷ cs) ts = queue_in office cs (queue_after office c ts)

-- The numbers that a day's accepted filings give to an office, in order.
abbrev pub given_by : ℕ → Call → List ℕ
given_by office (filing len f r) = cond (is_refusal r.filed.verdict.refusal) [] (cond (eqb f.office office) (r.filed.number ∷ []) [])
given_by office (withdrawal len w r) = []
given_by office (boarding len tape b before after r) = []

abbrev pub given : ℕ → List Call → List ℕ
given office [] = []
given office (c ∷ cs) = given_by office c ++ given office cs

-- So many numbers from the one behind n on.
abbrev pub counted_from : ℕ → ℕ → List ℕ
counted_from n zero = []
counted_from n (suc m) = suc n ∷ counted_from (suc n) m

abbrev pub IsOffice : ℕ → Type 0
IsOffice office = (office ≡ 1) ⊎ (office ≡ 2)

-- Whatever the calls, a table stays a table; so from an empty one on.
abbrev pub TableStays : Type 0
TableStays = (k last : Kept) (cs : List Call) → IsTable k → Day k cs last → IsTable last

abbrev pub TableFromEmpty : Type 0
TableFromEmpty = (last : Kept) (cs : List Call) → Day at_first cs last → IsTable last

-- Numbers given to an office count up by one from the last given, boarded and withdrawn tickets included; so from 1, and none is given twice.
abbrev pub NumbersCountUp : Type 0
NumbersCountUp =
    (office : ℕ) (k last : Kept) (cs : List Call)
    → IsOffice office
    → Day k cs last
    → (given office cs ≡ counted_from (last_of office k.lasts) (length (given office cs)))
    × (last_of office last.lasts ≡ last_of office k.lasts + length (given office cs))

abbrev pub NoneGivenTwice : Type 0
NoneGivenTwice =
    (office : ℕ) (k last : Kept) (cs : List Call)
    → IsOffice office
    → Day k cs last
    → (i j : ℕ) → i < j → j < length (given office cs) → get_or (given office cs) i 0 < get_or (given office cs) j 0

-- Order of filing is kept: an office's tickets are those that waited and joined, in order, less the withdrawn and those boarded from the front. What the
-- other office files and withdraws stands nowhere in it; how many board, each boarding's answer says.
abbrev pub InOrder : Type 0
InOrder =
    (office : ℕ) (k last : Kept) (cs : List Call)
    → IsOffice office
    → IsTable k
    → Day k cs last
    → waiting office last.row ≡ queue_in office cs (waiting office k.row)

-- So at any moment an office's tickets stand by their numbers, which were given in order of filing.
abbrev pub StandByNumber : Type 0
StandByNumber =
    (office i j : ℕ) (k : Kept)
    → IsOffice office
    → IsTable k
    → i < j
    → j < length (waiting office k.row)
    → (get_or (waiting office k.row) i no_ticket).number < (get_or (waiting office k.row) j no_ticket).number

-- The freed place serves: with at most 15 waiting, numbers left, and a filing in range on a row long enough, it is accepted, whatever was filed,
-- withdrawn and boarded before.
abbrev pub FreedPlaceServes : Type 0
FreedPlaceServes =
    (k : Kept) (cs : List Call) (len : ℕ) (f : Filing)
    → Day at_first cs k
    → f.lasts ≡ k.lasts
    → 32 ≤ len
    → in_range f ≡ true
    → length (waiting f.office k.row) ≤ 15
    → last_of f.office k.lasts < 65535
    → (file_row len k.row f).filed.verdict.refusal ≡ Accepted

-- What a call does to a ticket that waits with j of its office's tickets ahead: it is the call that withdraws it; or a boarding that takes it; or it waits on,
-- the same ticket, with no more ahead, and four fewer after an accepted boarding.
pub record WaitsOn (j : ℕ) (ts next : List Ticket) (c : Call) : Type 0 where
  pub ahead : ℕ
  pub fewer : ahead ≤ j
  pub there : ahead < length next
  pub same : get_or next ahead no_ticket ≡ get_or ts j no_ticket
  pub four : departs c ≡ true → 4 + ahead ≤ j

abbrev pub Fate : ℕ → ℕ → List Ticket → List Ticket → Call → Type 0
Fate office j ts next c =
    (withdrawn office (get_or ts j no_ticket).number c ≡ true) ⊎ (((departs c ≡ true) × (j < leaving office c)) ⊎ WaitsOn j ts next c)

abbrev pub OnlyTheseTakeAway : Type 0
OnlyTheseTakeAway =
    (office j : ℕ) (k next : Kept) (c : Call)
    → IsOffice office
    → IsTable k
    → Fits k c next
    → j < length (waiting office k.row)
    → Fate office j (waiting office k.row) (waiting office next.row) c

-- A ticket leaves on a boarding of a day: the calls before, that boarding, and where the ticket stood then, among those taken.
pub record LeavesOn (office n : ℕ) (k last : Kept) (cs : List Call) : Type 0 where
  pub before : List Call
  pub call : Call
  pub behind : List Call
  pub here : Kept
  pub next : Kept
  pub split : cs ≡ before ++ call ∷ behind
  pub first : Day k before here
  pub fits : Fits here call next
  pub rest : Day next behind last
  pub accepted : departs call ≡ true
  pub place : ℕ
  pub waits : place < length (waiting office here.row)
  pub is : (get_or (waiting office here.row) place no_ticket).number ≡ n
  pub taken : place < leaving office call

-- At any moment: a ticket with j of its office's tickets still ahead leaves by accepted boarding number j / 4 + 1 from that moment, unless it is withdrawn.
abbrev pub LeavesInTime : Type 0
LeavesInTime =
    (office n j : ℕ) (k last : Kept) (cs : List Call)
    → IsOffice office
    → IsTable k
    → Day k cs last
    → j < length (waiting office k.row)
    → (get_or (waiting office k.row) j no_ticket).number ≡ n
    → j / 4 + 1 ≤ departures cs
    → (withdrawn_in office n cs ≡ true) ⊎ ((leaves : LeavesOn office n k last cs) × (departures leaves.before ≤ j / 4))

-- From its filing: the ticket, with the number that the answer names, stands behind its own office's tickets, as many as are ahead of it.
abbrev pub FiledBehind : Type 0
FiledBehind =
    (len : ℕ) (k next : Kept) (f : Filing) (r : FiledRow)
    → IsTable k
    → Fits k (filing len f r) next
    → r.filed.verdict.refusal ≡ Accepted
    → (waiting f.office next.row ≡ waiting f.office k.row ++ ticket_of f ∷ []) × (r.filed.number ≡ (ticket_of f).number)

-- What a call answers; refused, it leaves the table and the last numbers as they went in.
abbrev pub answered : Call → Refusal
answered (filing len f r) = r.filed.verdict.refusal
answered (withdrawal len w r) = r.withdrawn.verdict.refusal
answered (boarding len tape b before after r) = r.boarded.answer.refusal

abbrev pub RefusedChangesNothing : Type 0
RefusedChangesNothing = (k next : Kept) (c : Call) → Fits k c next → (answered c ≡ Accepted → ⊥) → (next.row ≡ k.row) × (next.lasts ≡ k.lasts)

-- What one boarding does: accepted, it takes the first tickets of each office, four or all it has, at most eight in all, and eight where so many wait;
-- refused, none. They are the boarders, of whose tickets the wants are made.
pub record Takes (row : List Ticket) (r : BoardedRow) : Type 0 where
  pub one : min 4 (length (waiting 1 row)) ≤ r.boarded.taken.one
  pub two : min 4 (length (waiting 2 row)) ≤ r.boarded.taken.two
  pub there_one : r.boarded.taken.one ≤ length (waiting 1 row)
  pub there_two : r.boarded.taken.two ≤ length (waiting 2 row)
  pub all : r.boarded.taken.one + r.boarded.taken.two ≡ min 8 (length (waiting 1 row) + length (waiting 2 row))
  pub stay_one : waiting 1 r.row ≡ drop r.boarded.taken.one (waiting 1 row)
  pub stay_two : waiting 2 r.row ≡ drop r.boarded.taken.two (waiting 2 row)
  pub who : boarders row ≡ take r.boarded.taken.one (waiting 1 row) ++ take r.boarded.taken.two (waiting 2 row)

abbrev pub BoardingTakes : Type 0
BoardingTakes =
    (len : ℕ) (tape : Tape) (row : List Ticket) (b : Boarding) (before after : Rows) (r : BoardedRow)
    → IsTable (record { row = row; lasts = b.lasts })
    → Boards len tape row b before r after
    → r.boarded.answer.refusal ≡ Accepted
    → Takes row r

-- Whatever is handed in, some answer fits; of a filing and of a withdrawal the contract is an equation.
abbrev pub EveryBoardingAnswered : Type 0
EveryBoardingAnswered =
    (len : ℕ) (tape : Tape) (row : List Ticket) (b : Boarding) (before : Rows) → (r : BoardedRow) × ((after : Rows) × Boards len tape row b before r after)

abbrev pub RefusalKeeps : Type 0
RefusalKeeps =
    (len : ℕ) (tape : Tape) (row : List Ticket) (b : Boarding) (before after : Rows) (r : BoardedRow)
    → Boards len tape row b before r after
    → (r.boarded.answer.refusal ≡ Accepted → ⊥)
    → (r.row ≡ row) × (after ≡ before) × (r.boarded.taken.one ≡ 0) × (r.boarded.taken.two ≡ 0)

-- A filing is never refused because of the other office's tickets: two tables in which its own office's tickets are the same answer alike.
abbrev pub OwnOfficeDecides : Type 0
OwnOfficeDecides =
    (len : ℕ) (row row' : List Ticket) (f : Filing)
    → IsTable (record { row = row; lasts = f.lasts })
    → IsTable (record { row = row'; lasts = f.lasts })
    → waiting f.office row ≡ waiting f.office row'
    → (file_row len row f).filed ≡ (file_row len row' f).filed

-- Demands 2 and 3 hold of each boarded run: no movement for a run that asks for no less beats its sum.
pub record RunHolds (r : Run) (b : BoardedRow) (after : Rows) : Type 0 where
  pub walk : IsTheWalk r b.boarded.answer after
  pub least : IsLeast r b.boarded.answer after
  pub unbeaten : (first : Run)
      → NothingApplies first
      → AsksNoLess first r
      → (gs : List Leg)
      → Moves first.head gs
      → ServesAll gs (stops_of first)
      → b.boarded.answer.sum ≤ sum_of first.turn (head_at first.head) gs (stops_of first)

abbrev pub BoardedRunHolds : Type 0
BoardedRunHolds =
    (len : ℕ) (tape : Tape) (row : List Ticket) (b : Boarding) (before after : Rows) (r : BoardedRow)
    → Boards len tape row b before r after
    → r.boarded.answer.refusal ≡ Accepted
    → RunHolds (board_run tape row b) r after
