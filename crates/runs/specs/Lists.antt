-- Detour lists: pairs of stops, each by its name, and the rules that make one well formed. A stop's name is the number of its first file.
use Rattle.std.specs.Prelude.{ℕ, suc, zero, ◌≡◌, Bool, false, not, ◌||◌, List, [], ◌∷◌, length, get_or, leb, ltb, eqb}
use Rattle.refusals.specs.declared.Refusal.TheVariants.{BadEntry}
use Rattle.refusals.specs.declared.Verdict.{Verdict}
use Rattle.refusals.specs.Refusals.{refuse_if, refuse_at, first_of, first_where}
use Rattle.runs.specs.Run.{Stop}

-- A detour (from, to): on first reaching the start of stop `from` the head goes right to the end of stop `to` and comes back.
pub record Detour : Type 0 where
  pub from : ℕ
  pub to : ℕ

-- The list that two rows of one length hold.
unfoldable pub list_of : List ℕ → List ℕ → List Detour
list_of [] tos = []
list_of (a ∷ froms) [] = []
list_of (a ∷ froms) (b ∷ tos) = record { from = a; to = b } ∷ list_of froms tos

-- Whether a number names a stop.
unfoldable pub wanted : List Stop → ℕ → Bool
wanted [] f = false
wanted (s ∷ ss) f = eqb s.file f || wanted ss f

abbrev pub leftmost : List Stop → ℕ
leftmost [] = 0
leftmost (s ∷ ss) = s.file

-- An entry by itself: it names two stops, from ≤ to, and starts strictly right of the leftmost.
abbrev pub bad_alone : List Stop → Detour → Bool
bad_alone stops d =
    not (wanted stops d.from) || not (wanted stops d.to) || ltb d.to d.from || leb d.from (leftmost stops)

-- An entry d against an earlier one e: starts strictly fall, and then either d ends left of e's start or e ends left of d's end.
abbrev pub bad_after : Detour → Detour → Bool
bad_after e d = leb e.from d.from || not (ltb d.to e.from || ltb e.to d.to)

unfoldable pub any_below : (ℕ → Bool) → ℕ → Bool
any_below test zero = false
any_below test (suc n) = any_below test n || test n

abbrev pub entry_of : List Detour → ℕ → Detour
entry_of list i = get_or list i (record { from = 0; to = 0 })

abbrev pub bad_entry : List Stop → List Detour → ℕ → Bool
bad_entry stops list i = bad_alone stops (entry_of list i) || any_below (λ j. bad_after (entry_of list j) (entry_of list i)) i

-- The first entry that breaks a rule by itself or against an earlier one, counted from 1; 0 where none does.
unfoldable pub first_bad_entry : List Stop → List Detour → ℕ
first_bad_entry stops list = first_where (bad_entry stops list) (length list)

abbrev pub WellFormed : List Stop → List Detour → Type 0
WellFormed stops list = first_bad_entry stops list ≡ 0

-- 10: place 0 if starts and ends differ in number, else the first bad entry.
unfoldable pub list_verdict : List Stop → List ℕ → List ℕ → Verdict
list_verdict stops froms tos =
    first_of
    (refuse_if (not (eqb (length froms) (length tos))) BadEntry
    ∷ refuse_at (first_bad_entry stops (list_of froms tos)) BadEntry
    ∷ [])
