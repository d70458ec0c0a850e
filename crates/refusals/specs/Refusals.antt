-- The refusal table of document 01 and of the requests after it: a number for each kind, a place for each verdict, and "the first that applies".
use Rattle.std.specs.Prelude.{ℕ, suc, zero, Result, Ok, Err, Bool, true, false, not, cond, List, [], ◌∷◌, eqb}
use Rattle.refusals.specs.declared.Refusal.{Refusal}
use Rattle.refusals.specs.declared.Refusal.TheVariants.{Accepted, FileRows, BadFile, WantRows, BadWant, TooManyReads, TurnPrice, HeadPlace, ShortRow, ShortRoom, BadEntry, BadLine, LongSheet, BadName, BadRule, BadTicket, OfficeFull, NotWaiting, NumbersSpent, RetiredRule, BadText, ManyExtents, Overlap, FarFile, OverEightWants, BadSheetCount, BadRecord}
use Rattle.refusals.specs.declared.OwnRefusal.{OwnRefusal}
use Rattle.refusals.specs.declared.OwnRefusal.TheVariants.{UnknownPath, NoBytes, OtherWindow, OtherVolume}
use Rattle.refusals.specs.declared.Verdict.{Verdict}

-- The number that the paper gives each kind; 0 where nothing is refused.
abbrev pub number_of : Refusal → ℕ
number_of Accepted = 0
number_of FileRows = 1
number_of BadFile = 2
number_of WantRows = 3
number_of BadWant = 4
number_of TooManyReads = 5
number_of TurnPrice = 6
number_of HeadPlace = 7
number_of ShortRow = 8
number_of ShortRoom = 9
number_of BadEntry = 10
number_of BadLine = 11
number_of LongSheet = 12
number_of BadName = 13
number_of BadRule = 14
number_of BadTicket = 15
number_of OfficeFull = 16
number_of NotWaiting = 17
number_of NumbersSpent = 18
number_of RetiredRule = 19
number_of BadText = 20
number_of ManyExtents = 21
number_of Overlap = 22
number_of FarFile = 23
number_of OverEightWants = 24
number_of BadSheetCount = 25
number_of BadRecord = 26

-- The part of the table that is our own: a path of a list that is that of no file or of several; a file without bytes, or with some in the other partition; an event that
-- is not for this window; label and index of different volumes.
abbrev pub own_number_of : OwnRefusal → ℕ
own_number_of UnknownPath = 41
own_number_of NoBytes = 42
own_number_of OtherWindow = 43
own_number_of OtherVolume = 44

abbrev pub is_refusal : Refusal → Bool
is_refusal kind = not (eqb (number_of kind) 0)

-- A check that finds nothing.
abbrev pub accepted : Verdict
accepted = record { refusal = Accepted; place = 0 }

-- A verdict as the answer of a check: nothing, or the verdict that refuses.
abbrev pub checked : Verdict → Result Unit Verdict
checked v = cond (is_refusal v.refusal) (Err v) (Ok tt)

-- A check whose refusal has no place of its own.
abbrev pub refuse_if : Bool → Refusal → Verdict
refuse_if true kind = record { refusal = kind; place = 0 }
refuse_if false kind = accepted

-- A check that names the first bad file, want, entry or line, counted from 1; 0 where there is none.
abbrev pub refuse_at : ℕ → Refusal → Verdict
refuse_at zero kind = accepted
refuse_at (suc p) kind = record { refusal = kind; place = suc p }

-- Of a row of checks, the first that refuses.
abbrev pub first_of : List Verdict → Verdict
first_of [] = accepted
first_of (v ∷ vs) = cond (is_refusal v.refusal) v (first_of vs)

-- One more place looked at: the place found so far (0 for none) stays, else the place just behind n, if the test holds there.
abbrev pub one_more : ℕ → Bool → ℕ → ℕ
one_more zero true n = suc n
one_more zero false n = 0
one_more (suc p) b n = suc p

-- The first of n entries at which a test holds, counted from 1; 0 where it holds at none. The test takes the entry's index, from 0.
unfoldable pub first_where : (ℕ → Bool) → ℕ → ℕ
first_where bad zero = 0
first_where bad (suc n) = one_more (first_where bad n) (bad n) n
