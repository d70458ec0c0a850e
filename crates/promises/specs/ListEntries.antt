-- The list that a text holds, by its lines: entry i is the two numbers of the detour line behind i others, and there are as many entries as such lines.
use Rattle.std.specs.Prelude.{ℕ, ◌+◌, ◌≤◌, ◌<◌, ◌≡◌, false, List, [], ◌∷◌, ◌++◌, length, take, get_or}
use Rattle.refusals.specs.Refusals.{is_refusal}
use Rattle.text_bytes.specs.Text.{bytes, decimal, comma}
use Rattle.text_lines.specs.Lines.{after_lines}
use Rattle.sheet_writer.specs.PlanSheet.{detours_key, detour_key}
use Rattle.sheet_lists.specs.Form.{plan_froms, plan_tos, list_froms, list_tos}
use Rattle.sheet_lists.specs.Reading.{plan_form, list_form}
use Rattle.answer_check.specs.Pricing.{SheetPriced}
use Rattle.demands.specs.Lines.{Stands}
use Rattle.promises.specs.Lengths.{price_row}
use Rattle.promises.specs.Answers.{example_sheet}
use Rattle.promises.specs.ListLines.{IsPlanSheet}

-- Behind some lines there is one for each entry: the start file, a comma and the end file.
pub record EntriesOn (text : List ℕ) (first : ℕ) (froms tos : List ℕ) : Type 0 where
  pub even : length froms ≡ length tos
  pub entry : (i : ℕ) → i < length froms → Stands detour_key (λ value. value ≡ decimal (get_or froms i 0) ++ (comma ∷ decimal (get_or tos i 0))) text (first + i)

-- A plan sheet says on its sixth line how many entries it has, and has them on the next ones.
pub record OnPlanSheet (plan froms tos : List ℕ) : Type 0 where
  pub count : Stands detours_key (λ value. value ≡ decimal (length froms)) plan 5
  pub entries : EntriesOn plan 6 froms tos

-- A list that is no plan sheet has its entries from its first line to its end.
pub record OnBareList (list froms tos : List ℕ) : Type 0 where
  pub entries : EntriesOn list 0 froms tos
  pub end : after_lines (length froms) list ≡ []

-- Whatever is handed in and not refused.
abbrev pub PlanHoldsItsLines : Type 0
PlanHoldsItsLines = (plan : List ℕ) → is_refusal (plan_form plan).refusal ≡ false → OnPlanSheet plan (plan_froms plan) (plan_tos plan)

abbrev pub ListHoldsItsLines : Type 0
ListHoldsItsLines =
    (list : List ℕ)
    → is_refusal (list_form list).refusal ≡ false
    → (IsPlanSheet list → OnPlanSheet list (list_froms list) (list_tos list)) × ((IsPlanSheet list → ⊥) → OnBareList list (list_froms list) (list_tos list))

-- The sheet of document 01 with the list (3,3), (2,2).
abbrev pub priced_plan : List ℕ
priced_plan = bytes "tape=VX0041\nsum=565\nreads=5\nfinish=143\nend=10\ndetours=2\ndetour=3,3\ndetour=2,2\ntime=1,143,3\ntime=2,117,2\ntime=3,71,1\n"

abbrev pub PricesTheExample : Type 0
PricesTheExample =
    (row : List ℕ) (n : ℕ) (row' : List ℕ)
    → SheetPriced example_sheet (bytes "detour=3,3\ndetour=2,2\n") row n row'
    → price_row ≤ length row
    → take n row' ≡ priced_plan
