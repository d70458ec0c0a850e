-- What the functions that put a sheet on a page ask and leave. No public contract cites this file.
use Rattle.std.specs.Prelude.{ℕ, ◌≤◌, ◌≡◌, List, length}
use Rattle.runs.specs.Run.{most_wants}
use Rattle.sheet_reader.specs.Sheet.{most_sheet_files}

-- No run sheet is longer than this, whatever its numbers are: 112 bytes for the first lines, 68 for each of 256 files, 27 for the number of wants and
-- 49 for each of 64 wants. (That of an accepted run is shorter, and within the limit of a sheet: proofs/RoundTrip.)
abbrev pub sheet_most : ℕ
sheet_most = 20683

-- What fits on a page: a name and rows within the sheet's limits.
pub record SheetFits (page name starts lengths aggregates numbers counts : List ℕ) : Type 0 where
  pub room : sheet_most ≤ length page
  pub short : length name ≤ 16
  pub files : length starts ≤ most_sheet_files
  pub table : length starts ≡ length lengths
  pub numbered : length starts ≡ length aggregates
  pub wants : length numbers ≤ most_wants
  pub pairs : length numbers ≡ length counts

-- No plan sheet is longer than this: 156 bytes for the first lines, 49 for each of 64 detours and 68 for each of 64 times.
abbrev pub plan_most : ℕ
plan_most = 7644

-- What fits on a plan's page: a name, a list, times and legs within the run's limits.
pub record PlanFits (page name froms tos numbers times legs : List ℕ) : Type 0 where
  pub room : plan_most ≤ length page
  pub short : length name ≤ 16
  pub few : length froms ≤ most_wants
  pub even : length froms ≡ length tos
  pub wants : length numbers ≤ most_wants
  pub timed : length numbers ≡ length times
  pub numbered : length numbers ≡ length legs
