-- What the functions that put a figure sheet on a page ask. No public contract cites this file.
use Rattle.std.specs.Prelude.{ℕ, ◌≤◌, ◌≡◌, List, length, ℤ}
use Rattle.runs.specs.Run.{most_wants}

-- No figure sheet is longer than this: 76 bytes for the first lines and 69 for each of 64 detours.
abbrev pub figure_most : ℕ
figure_most = 4492

-- What fits on its page: a name, a list and its figures within the run's limits.
pub record FigureFits (page name froms tos : List ℕ) (figures : List ℤ) : Type 0 where
  pub room : figure_most ≤ length page
  pub short : length name ≤ 16
  pub few : length froms ≤ most_wants
  pub even : length froms ≡ length tos
  pub figured : length froms ≡ length figures
