-- A row of checks: what the first refusal is, step by step, and what acceptance says of each check.
use Prim.Native.Nat.{ℕ, zero, suc, ◌≤◌}
use native.Mathlib.Omega.{arith}
use mathlib.Core.Path.{◌≡◌, refl, sym, ◌∙◌}
use mathlib.Core.Bool.{Bool, true, false, true≢false}
use mathlib.Core.List.{List, [], ◌∷◌}
use Rattle.refusals.specs.declared.Refusal.{Refusal}
use Rattle.refusals.specs.declared.Refusal.TheVariants.{Accepted, FileRows, BadFile, WantRows, BadWant, TooManyReads, TurnPrice, HeadPlace, ShortRow, ShortRoom, BadEntry, BadLine, LongSheet, BadName, BadRule, BadTicket, OfficeFull, NotWaiting, NumbersSpent, RetiredRule, BadText, ManyExtents, Overlap, FarFile, OverEightWants, BadSheetCount, BadRecord}
use Rattle.refusals.specs.declared.Verdict.{Verdict}
use Rattle.refusals.specs.Refusals.{number_of, is_refusal, accepted, refuse_if, refuse_at, first_of}

-- A verdict is a refusal or not.
abbrev pub refuses : Verdict → Bool
refuses v = is_refusal v.refusal

pub refuse_at_lem : (p : ℕ) (k : Refusal) → (p ≡ 0 → ⊥) → refuse_at p k ≡ record { refusal = k; place = p }
refuse_at_lem zero k some = absurd (some refl)
refuse_at_lem (suc p) k some = refl

-- A test of a verdict says whether it refuses.
pub test_says : {v w : Verdict} {f b : Bool} → v ≡ w → f ≡ refuses v → f ≡ b → refuses w ≡ b
test_says v-is f-is e = rw (← v-is, ← f-is, e)

-- The first check refuses, and that is the verdict; or it does not, and the others decide.
pub first_refuses : (v : Verdict) (vs : List Verdict) → refuses v ≡ true → v ≡ first_of (v ∷ vs)
first_refuses v vs e = rw e

pub first_passes : (v : Verdict) (vs : List Verdict) → refuses v ≡ false → first_of (v ∷ vs) ≡ first_of vs
first_passes v vs e = rw e

-- The last check decides.
pub last_if : {v : Verdict} {x b : Bool} (k : Refusal) → is_refusal k ≡ true → v ≡ refuse_if x k → x ≡ b → v ≡ first_of (refuse_if b k ∷ [])
last_if {b = true} k e is same = rw e (rw same at is)
last_if {b = false} k e is same = rw same at is

pub last_at_lem : {v : Verdict} {x p : ℕ} (k : Refusal) → is_refusal k ≡ true → v ≡ refuse_at x k → x ≡ p → v ≡ first_of (refuse_at p k ∷ [])
last_at_lem {p = zero} k e is same = rw same at is
last_at_lem {p = suc p} k e is same = rw e (rw same at is)

-- A row within a row says the same.
pub first_alone : (vs : List Verdict) → first_of (first_of vs ∷ []) ≡ first_of vs
first_alone [] = refl
first_alone (v ∷ vs) = go (refuses v) refl (first_alone vs)
  where
    go : (b : Bool) → refuses v ≡ b → first_of (first_of vs ∷ []) ≡ first_of vs → first_of (first_of (v ∷ vs) ∷ []) ≡ first_of (v ∷ vs)
    go true h rest = rw (h, h)
    go false h rest = rw h rest

-- Where no check refuses, the verdict is acceptance, with place 0.
pub none_refuses : (vs : List Verdict) → refuses (first_of vs) ≡ false → first_of vs ≡ accepted
none_refuses [] e = refl
none_refuses (v ∷ vs) e = go (refuses v) refl (none_refuses vs)
  where
    go : (b : Bool) → refuses v ≡ b → (refuses (first_of vs) ≡ false → first_of vs ≡ accepted) → first_of (v ∷ vs) ≡ accepted
    go true h rest = absurd (true≢false (sym h ∙ (rw h at e)))
    go false h rest = rw h (rest (rw h at e))

-- Where the row accepts, so does each check.
abbrev pub AllAccept : List Verdict → Type 0
AllAccept [] = Unit {0}
AllAccept (v ∷ vs) = (refuses v ≡ false) × AllAccept vs

pub all_accept : (vs : List Verdict) → refuses (first_of vs) ≡ false → AllAccept vs
all_accept [] e = tt
all_accept (v ∷ vs) e = go (refuses v) refl (all_accept vs)
  where
    go : (b : Bool) → refuses v ≡ b → (refuses (first_of vs) ≡ false → AllAccept vs) → AllAccept (v ∷ vs)
    go true h rest = absurd (true≢false (sym h ∙ (rw h at e)))
    go false h rest = (h, rest (rw (first_passes v vs h) at e))

pub accepts_if : (b : Bool) (k : Refusal) → is_refusal k ≡ true → refuses (refuse_if b k) ≡ false → b ≡ false
accepts_if true k r e = absurd (true≢false (sym r ∙ e))
accepts_if false k r e = refl

pub accepts_at : (p : ℕ) (k : Refusal) → is_refusal k ≡ true → refuses (refuse_at p k) ≡ false → p ≡ 0
accepts_at zero k r e = refl
accepts_at (suc p) k r e = absurd (true≢false (sym r ∙ e))

-- No number is over 26.
pub number_small : (kind : Refusal) → number_of kind ≤ 26
number_small Accepted = omega arith
number_small FileRows = omega arith
number_small BadFile = omega arith
number_small WantRows = omega arith
number_small BadWant = omega arith
number_small TooManyReads = omega arith
number_small TurnPrice = omega arith
number_small HeadPlace = omega arith
number_small ShortRow = omega arith
number_small ShortRoom = omega arith
number_small BadEntry = omega arith
number_small BadLine = omega arith
number_small LongSheet = omega arith
number_small BadName = omega arith
number_small BadRule = omega arith
number_small BadTicket = omega arith
number_small OfficeFull = omega arith
number_small NotWaiting = omega arith
number_small NumbersSpent = omega arith
number_small RetiredRule = omega arith
number_small BadText = omega arith
number_small ManyExtents = omega arith
number_small Overlap = omega arith
number_small FarFile = omega arith
number_small OverEightWants = omega arith
number_small BadSheetCount = omega arith
number_small BadRecord = omega arith
