-- Pricing a list and checking a plan sheet, with the head anywhere. `check` says `walk=yes` exactly when the sheet handed in is the plan sheet of its list,
-- and else names the first line that differs; and `least=yes` exactly when that list is the least one, and else by how much its sum is larger.
-- `price` answers with the plan sheet of the list handed in. Where 01 takes the run, both go by its words.
use Rattle.std.specs.Prelude.{ℕ, suc, ◌+◌, ◌-◌, ◌≤◌, ◌≡◌, ◌↔◌, false, cond, List, [], ◌∷◌, ◌++◌, length, take, eqb}
use Rattle.refusals.specs.Refusals.{is_refusal}
use Rattle.runs.specs.Run.{Run, stops_of}
use Rattle.runs.specs.Lists.{Detour, list_of}
use Rattle.runs.specs.AnyHead.{WellFormedAny}
use Rattle.least.specs.Least.{LeastForRun}
use Rattle.least.specs.AnyHead.{LeastAny, list_sum_any}
use Rattle.text_bytes.specs.Text.{bytes, decimal, line_feed}
use Rattle.text_lines.specs.Lines.{line_after}
use Rattle.sheet_reader.specs.Sheet.{sheet_run, sheet_name}
use Rattle.sheet_writer.specs.PlanSheet.{plan_text}
use Rattle.sheet_writer.specs.AnyHead.{plan_any_text}
use Rattle.sheet_lists.specs.Form.{plan_froms, plan_tos, list_froms, list_tos}
use Rattle.answer_check.specs.RunRules.{head_anywhere}
use Rattle.answer_check.specs.Pricing.{pricing_verdict, SheetPriced}
use Rattle.answer_check.specs.Checking.{verdict_on, SheetChecked}
use Rattle.demands.specs.RefusalTable.{NothingApplies, ListIsBad}
use Rattle.demands.specs.AnyHead.{ListIsBadAny}

-- By how much the sum of a list is larger than the least sum of a run.
pub record Larger (run : Run) (list : List Detour) (by : ℕ) : Type 0 where
  pub least : List Detour
  pub is : LeastAny run least
  pub sum : list_sum_any run.turn run.head (stops_of run) list ≡ list_sum_any run.turn run.head (stops_of run) least + by

-- The first so many lines of a text, each with its LF; the whole of it where it has no more.
unfoldable pub leading_lines : List ℕ → ℕ → List ℕ
leading_lines [] n = []
leading_lines (b ∷ text) n = cond (eqb n 0) [] (b ∷ leading_lines text (cond (eqb b line_feed) (n - 1) n))

-- A line, counted from 1, is the first in which two texts differ: those before it are the same in both, byte for byte, and with it they are not.
pub record FirstDiffers (found expected : List ℕ) (line : ℕ) : Type 0 where
  pub before : ℕ
  pub next : line ≡ suc before
  pub same : leading_lines found before ≡ leading_lines expected before
  pub differ : leading_lines found line ≡ leading_lines expected line → ⊥

-- A list in two rows is well formed for a run, its head where it stands.
abbrev pub FormedFor : Run → List ℕ → List ℕ → Type 0
FormedFor run froms tos = WellFormedAny run.head (stops_of run) (list_of froms tos)

-- What the lines of a verdict say of a plan sheet, for a tape name and a run.
pub record CheckSaid (name : List ℕ) (run : Run) (plan froms tos text : List ℕ) : Type 0 where
  pub formed : (line_after 0 text ≡ bytes "formed=yes") ↔ FormedFor run froms tos
  pub walk : FormedFor run froms tos → ((line_after 1 text ≡ bytes "walk=yes") ↔ (plan ≡ plan_any_text name run froms tos))
  pub differs : FormedFor run froms tos → (n : ℕ) → line_after 1 text ≡ bytes "walk=no," ++ decimal n → FirstDiffers plan (plan_any_text name run froms tos) n
  pub least : FormedFor run froms tos → ((line_after 2 text ≡ bytes "least=yes") ↔ LeastAny run (list_of froms tos))
  pub by : FormedFor run froms tos → (n : ℕ) → line_after 2 text ≡ bytes "least=no," ++ decimal n → Larger run (list_of froms tos) n

-- Whatever is handed in and not refused, and whatever answer fits the contract.
abbrev pub CheckTells : Type 0
CheckTells =
    (sheet plan row room : List ℕ) (n : ℕ) (row' room' : List ℕ) (c : SheetChecked sheet plan row room n row' room')
    → is_refusal (verdict_on (length room) sheet plan).refusal ≡ false
    → CheckSaid (sheet_name sheet) (sheet_run sheet) plan (plan_froms plan) (plan_tos plan) c.given.text

-- That text is what a row with room for it begins with.
abbrev pub CheckPrinted : Type 0
CheckPrinted =
    (sheet plan row room : List ℕ) (n : ℕ) (row' room' : List ℕ) (c : SheetChecked sheet plan row room n row' room')
    → length c.given.text ≤ length row
    → take n row' ≡ c.given.text

-- A plan sheet checks as well formed, the walk's and the least, in so many words of working room or more. So does what `plan` and `plan --any` print (PlanChecked).
abbrev pub ChecksAsAll : List ℕ → List ℕ → ℕ → Type 0
ChecksAsAll sheet plan words =
    (out room : List ℕ) (m : ℕ) (out' room' : List ℕ) (c : SheetChecked sheet plan out room m out' room')
    → words ≤ length room
    → c.given.text ≡ bytes "formed=yes\nwalk=yes\nleast=yes\n"

-- The price of a list that is not refused: it is well formed, and a row with room for it begins with its plan sheet.
abbrev pub PriceTells : Type 0
PriceTells =
    (sheet list row : List ℕ) (n : ℕ) (row' : List ℕ)
    → SheetPriced sheet list row n row'
    → is_refusal (pricing_verdict head_anywhere sheet list).refusal ≡ false
    → FormedFor (sheet_run sheet) (list_froms list) (list_tos list)
    × (length (plan_any_text (sheet_name sheet) (sheet_run sheet) (list_froms list) (list_tos list)) ≤ length row
    → take n row' ≡ plan_any_text (sheet_name sheet) (sheet_run sheet) (list_froms list) (list_tos list))

-- Where 01's table of 1 to 7 takes a run, the words of the tables of `price` and `check` (TwoTexts) are 01's: the same lists are bad, at the same place; a list has 01's plan
-- sheet; and the same list is the least. Of a run that it does not take these tables differ from 01's in 7 alone.
pub record AsBy01 (name : List ℕ) (r : Run) : Type 0 where
  pub bad : (froms tos : List ℕ) (place : ℕ) → ListIsBadAny r froms tos place ↔ ListIsBad r froms tos place
  pub sheet : (froms tos : List ℕ) → plan_any_text name r froms tos ≡ plan_text name r froms tos
  pub least : (list : List Detour) → LeastAny r list ↔ LeastForRun r list

abbrev pub StaysBy01 : Type 0
StaysBy01 = (name : List ℕ) (r : Run) → NothingApplies r → AsBy01 name r
