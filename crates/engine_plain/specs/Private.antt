-- The stops in rows and the recurrence over them, for the contracts of private functions. No public contract cites this file.
use Rattle.std.specs.Prelude.{ℕ, zero, suc, ◌+◌, ◌-◌, ◌≤◌, ◌<◌, ◌≡◌, Result, Ok, Err, Bool, true, false, not, cond, ◌&&◌, ◌||◌, List, [], ◌∷◌, ◌++◌, map, length, drop, get_or, ltb, leb, eqb}
use denote.Triple.Both.{Both}
use Rattle.refusals.specs.declared.Refusal.{Refusal}
use Rattle.refusals.specs.declared.Refusal.TheVariants.{OverEightWants}
use Rattle.refusals.specs.declared.Verdict.{Verdict}
use Rattle.refusals.specs.Refusals.{number_of, is_refusal}
use Rattle.runs.specs.Rows.{Lent, MutRow}
use Rattle.runs.specs.Run.{Run, end_at, total, last_place, highest_turn, most_reads}
use Rattle.runs.specs.Lists.{Detour}
use Rattle.engine_plain.specs.Plain.{PlainRows, plain_rows, plain_verdict, most_plain_wants}
use Rattle.least.specs.Least.{LeastForRun}
use Rattle.least.specs.Recurrence.{W, value, candidate, choice, plan_detours, best}

-- Where stop i starts and ends, how often it is wanted and its first file, from 0 and read off the rows.
abbrev pub start_at : List ℕ → ℕ → ℕ
start_at lefts i = get_or lefts i 0

abbrev pub stop_end : List ℕ → List ℕ → ℕ → ℕ
stop_end lefts spans i = end_at lefts spans i

abbrev pub reads_at : List ℕ → ℕ → ℕ
reads_at reads i = get_or reads i 0

abbrev pub name_of : List ℕ → ℕ → ℕ
name_of firsts i = get_or firsts i 0

-- The reads of the first n stops.
unfoldable pub reads_up_to : List ℕ → ℕ → ℕ
reads_up_to reads n = W (reads_at reads) n

-- Rows that hold stops from left to right, as an accepted run's are.
pub record Laid (lefts spans reads : List ℕ) (turn : ℕ) : Type 0 where
  pub even_spans : length spans ≡ length lefts
  pub even_reads : length reads ≡ length lefts
  pub rising : (i j : ℕ) → i ≤ j → j < length lefts → get_or lefts i 0 ≤ get_or lefts j 0
  pub near : (i : ℕ) → i < length lefts → end_at lefts spans i ≤ last_place
  pub cheap : turn ≤ highest_turn
  pub few : total reads ≤ most_reads

-- What the window (a, b] is worth with s reads skipped right of it, and what a choice at stop b comes to: 0 skips it, c starts a detour at c.
abbrev pub worth : List ℕ → List ℕ → List ℕ → ℕ → ℕ → ℕ → ℕ → ℕ
worth lefts spans reads turn a b s = value (start_at lefts) (stop_end lefts spans) (reads_at reads) turn a b s

abbrev pub choice_worth : List ℕ → List ℕ → List ℕ → ℕ → ℕ → ℕ → ℕ → ℕ → ℕ
choice_worth lefts spans reads turn a b s c =
    candidate (start_at lefts) (stop_end lefts spans) (reads_at reads) turn (worth lefts spans reads turn) a (b - 1) s c

-- The choice that the least plan makes at stop b, and its list for a window.
abbrev pub chosen_at : List ℕ → List ℕ → List ℕ → ℕ → ℕ → ℕ → ℕ → ℕ
chosen_at lefts spans reads turn a b s = choice (start_at lefts) (stop_end lefts spans) (reads_at reads) turn a (b - 1) s

abbrev pub list_at : List ℕ → List ℕ → List ℕ → List ℕ → ℕ → ℕ → ℕ → ℕ → List Detour
list_at firsts lefts spans reads turn a b s =
    plan_detours (name_of firsts) (best (start_at lefts) (stop_end lefts spans) (reads_at reads) turn a b s) b

-- A window that may be asked for: (a, b], with s reads skipped right of it.
pub record Asked (lefts spans reads : List ℕ) (turn a b s : ℕ) : Type 0 where
  pub laid : Laid lefts spans reads turn
  pub inside : b < length lefts
  pub span : s + reads_up_to reads (b + 1) ≤ most_reads

-- Stop b, and stop a left of it or itself: what b pays the leg from a fits a word.
pub record EarlyFits (lefts reads : List ℕ) (a b : ℕ) : Type 0 where
  pub within : b < length lefts
  pub even : length reads ≡ length lefts
  pub left : a ≤ b
  pub onward : get_or lefts a 0 ≤ get_or lefts b 0
  pub near : get_or lefts b 0 ≤ last_place
  pub few : get_or reads b 0 ≤ most_reads

-- A choice at stop b of it.
pub record MayChoose (a b c : ℕ) : Type 0 where
  pub some : a < b
  pub up_to : c ≤ b
  pub after : 0 < c → a < c

-- A row with a list's entries written over it from an index on.
unfoldable pub overlay : ℕ → List ℕ → List ℕ → List ℕ
overlay zero [] row = row
overlay zero (x ∷ xs) [] = []
overlay zero (x ∷ xs) (y ∷ row) = x ∷ overlay zero xs row
overlay (suc n) xs [] = []
overlay (suc n) xs (y ∷ row) = y ∷ overlay n xs row

-- Rows with room for a window's list from an entry on, and what is written there: the list, and the number of the entry behind it.
pub record ListFits (firsts lefts : List ℕ) (a b n : ℕ) (froms tos : List ℕ) : Type 0 where
  pub named : length firsts ≡ length lefts
  pub in_froms : n + (b - a) ≤ length froms
  pub in_tos : n + (b - a) ≤ length tos

pub record ListWritten (list : List Detour) (n next : ℕ) (froms tos froms' tos' : List ℕ) : Type 0 where
  pub behind : next ≡ n + length list
  pub starts : froms' ≡ overlay n (map (λ d. d.from) list) froms
  pub ends : tos' ≡ overlay n (map (λ d. d.to) list) tos

-- Rows of stops with their first files.
pub record StopRows (firsts lefts spans reads : List ℕ) (turn : ℕ) : Type 0 where
  pub laid : Laid lefts spans reads turn
  pub named : length firsts ≡ length lefts

-- Whether a refusal comes before 24 in the order of the checks: 1, 2 and 3.
abbrev pub comes_first : Refusal → Bool
comes_first kind = not (eqb (number_of kind) 0) && leb (number_of kind) 3

-- A run's verdict with 24 at its place.
abbrev pub with24 : Verdict → ℕ → Verdict
with24 v wants = cond (comes_first v.refusal) v (cond (ltb most_plain_wants wants) (record { refusal = OverEightWants; place = 0 }) v)

-- The same of what a joining answers: 24 also where it refuses nothing.
abbrev pub answer24 : Result ℕ Verdict → ℕ → Result ℕ Verdict
answer24 (Ok k) wants = cond (ltb most_plain_wants wants) (Err (record { refusal = OverEightWants; place = 0 })) (Ok k)
answer24 (Err v) wants = Err (with24 v wants)

-- 8, by the lengths of the rows.
abbrev pub short_lengths : ℕ → ℕ → ℕ → ℕ → ℕ → ℕ → Bool
short_lengths wants stops froms tos times legs = ltb times wants || ltb legs wants || ltb froms (stops - 1) || ltb tos (stops - 1)

-- The rows that are handed in, of which those for times and legs are only judged by their lengths.
abbrev pub plain_rows_judged : {T L : Type 0} → Both MutRow MutRow → Both MutRow MutRow → Lent T → Lent L → PlainRows
plain_rows_judged froms tos times legs = plain_rows froms.entry.now tos.entry.now times.entry.now legs.entry.now

-- The list, after all that the engine judges: a refusal and nothing changed, or the least list in the first entries of two rows.
pub record PlainNotListed (v : Verdict) (before : PlainRows) (answer : Result ℕ Verdict) (froms tos : List ℕ) : Type 0 where
  pub says : answer ≡ Err v
  pub starts : froms ≡ before.froms
  pub ends : tos ≡ before.tos

pub record PlainListed (r : Run) (before : PlainRows) (answer : Result ℕ Verdict) (froms tos : List ℕ) : Type 0 where
  pub list : List Detour
  pub least : LeastForRun r list
  pub says : answer ≡ Ok (length list)
  pub starts : froms ≡ map (λ d. d.from) list ++ drop (length list) before.froms
  pub ends : tos ≡ map (λ d. d.to) list ++ drop (length list) before.tos

pub record PlainLists (r : Run) (before : PlainRows) (answer : Result ℕ Verdict) (froms tos : List ℕ) : Type 0 where
  pub refused : is_refusal (plain_verdict r before).refusal ≡ true → PlainNotListed (plain_verdict r before) before answer froms tos
  pub listed : is_refusal (plain_verdict r before).refusal ≡ false → PlainListed r before answer froms tos
