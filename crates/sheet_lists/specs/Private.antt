-- What the functions that read parts of a plan sheet or a list find, by cases of their answers. No public contract cites this file.
use Rattle.std.specs.Prelude.{ℕ, ◌≤◌, ◌<◌, ◌≡◌, List, [], length, drop, Result, Ok, Err}
use Rattle.refusals.specs.declared.Refusal.TheVariants.{ShortRow}
use Rattle.refusals.specs.declared.Refusal.TheVariants as Refusal
use Rattle.text_lines.specs.declared.BadLine.{BadLine}
use Rattle.refusals.specs.Refusals.{refuse_if, refuse_at}
use Rattle.text_lines.specs.Lines.{is_pair_line, first_bad_of}
use Rattle.sheet_reader.specs.Reading.{short_pair_rows}
use Rattle.sheet_writer.specs.PlanSheet.{detour_key}
use Rattle.sheet_lists.specs.declared.ListReading.{ListReading}
use Rattle.sheet_lists.specs.declared.Top.{Top}
use Rattle.sheet_lists.specs.declared.Form.{Form}
use Rattle.sheet_lists.specs.Form.{most_detours, detours_told, detour_text, plan_bad_top, plan_bad_below}
use Rattle.sheet_lists.specs.Reading.{ReadBy}

-- The first six lines of a plan sheet: the number of detours, and what follows.
pub record TopIs (plan : List ℕ) (detours next : ℕ) : Type 0 where
  pub none : plan_bad_top plan ≡ 0
  pub count : detours ≡ detours_told plan
  pub few : detours ≤ most_detours
  pub within : next ≤ length plan
  pub rest : drop next plan ≡ detour_text plan

pub record LineIs (first line : ℕ) : Type 0 where
  pub same : first ≡ line
  pub some : 0 < line

abbrev pub TopFound : List ℕ → Result Top BadLine → Type 0
TopFound plan (Ok top) = TopIs plan top.detours top.next
TopFound plan (Err bad) = LineIs (plan_bad_top plan) bad.line

-- Where the detour lines start, once what stands above is as described.
pub record BelowAt (plan : List ℕ) (at detours : ℕ) : Type 0 where
  pub count : detours ≡ detours_told plan
  pub few : detours ≤ most_detours
  pub within : at ≤ length plan
  pub rest : drop at plan ≡ detour_text plan

-- A text whose form is good: so many detour lines, all as described, from a position on.
pub record FormIs (bad count : ℕ) (text list : List ℕ) (at detours : ℕ) : Type 0 where
  pub none : bad ≡ 0
  pub same : detours ≡ count
  pub few : count ≤ most_detours
  pub within : at ≤ length list
  pub rest : drop at list ≡ text
  pub passed : first_bad_of (is_pair_line detour_key) count text ≡ 0

-- By cases: what is bad first, of a text that says how many detours there are and where.
abbrev pub FormFound : ℕ → ℕ → List ℕ → List ℕ → Result Form BadLine → Type 0
FormFound first count text list (Ok form) = FormIs first count text list form.at form.detours
FormFound first count text list (Err bad) = LineIs first bad.line

-- The lines below the first six.
abbrev pub BelowFound : List ℕ → Result Form BadLine → Type 0
BelowFound plan form = FormFound (plan_bad_below plan) (detours_told plan) (detour_text plan) plan form

-- A form that some text has.
abbrev pub FormWithin : List ℕ → Result Form BadLine → Type 0
FormWithin list (Ok form) = FormIs 0 form.detours (drop form.at list) list form.at form.detours
FormWithin list (Err bad) = 0 < bad.line

-- What is answered to a form.
abbrev pub ReadAs : List ℕ → Result Form BadLine → List ℕ → List ℕ → ListReading → List ℕ → List ℕ → Type 0
ReadAs list (Ok form) froms tos r froms' tos' = ReadBy (refuse_if (short_pair_rows form.detours froms tos) ShortRow) form.detours (drop form.at list) froms tos r froms' tos'
ReadAs list (Err bad) froms tos r froms' tos' = ReadBy (refuse_at bad.line Refusal.BadLine) 0 [] froms tos r froms' tos'
