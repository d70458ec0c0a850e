-- What the functions that read parts of a loose sheet find, by cases of their answers. No public contract cites this file.
use Rattle.std.specs.Prelude.{ℕ, ◌≤◌, ◌<◌, ◌≡◌, Bool, List, length, drop, Result, Ok, Err}
use Rattle.refusals.specs.declared.Verdict.{Verdict}
use Rattle.refusals.specs.Refusals.{checked}
use Rattle.text_lines.specs.Lines.{after_lines, is_pair_line, first_bad_of, lines_before}
use Rattle.sheet_reader.specs.Lines.{want_key}
use Rattle.sheet_reader.specs.Sheet.{most_sheet_files, sheet_turn, says_sweep, sheet_files, file_text}
use Rattle.sheet_loose.specs.declared.Parts.{Parts}
use Rattle.sheet_loose.specs.declared.Top.{Top}
use Rattle.text_lines.specs.declared.BadLine.{BadLine}
use Rattle.sheet_loose.specs.declared.Block.{Block}
use Rattle.sheet_loose.specs.declared.Below.{Below}
use Rattle.sheet_loose.specs.Loose.{loose_files, loose_wants_text, loose_want_text, loose_wants, wants_said, price_left_out, first_bad_loose_top, first_bad_loose_below, first_bad_loose}
use Rattle.sheet_loose.specs.Reading.{loose_verdict, sheet_parts}

-- A text that ends a sheet stands at a position.
pub record Stands (sheet text : List ℕ) (at : ℕ) : Type 0 where
  pub within : at ≤ length sheet
  pub rest : drop at sheet ≡ text

-- The first five lines: their values, and what follows them.
pub record TopIs (sheet : List ℕ) (top : Top) : Type 0 where
  pub none : first_bad_loose_top sheet ≡ 0
  pub start : Stands sheet (after_lines 2 sheet) top.third
  pub turn : top.turn ≡ sheet_turn sheet
  pub empty : top.empty ≡ price_left_out sheet
  pub sweep : top.sweep ≡ says_sweep sheet
  pub said : top.said ≡ sheet_files sheet
  pub next : Stands sheet (file_text sheet) top.next

pub record TopBad (sheet : List ℕ) (line : ℕ) : Type 0 where
  pub first : first_bad_loose_top sheet ≡ line
  pub some : 0 < line

abbrev pub TopFound : List ℕ → Result Top BadLine → Type 0
TopFound sheet (Ok top) = TopIs sheet top
TopFound sheet (Err bad) = TopBad sheet bad.line

-- Lines of one kind, as many as come and no more than so many.
pub record BlockFound (test : List ℕ → Bool) (most : ℕ) (sheet : List ℕ) (at : ℕ) (r : Block) : Type 0 where
  pub many : r.count ≡ lines_before most (first_bad_of test most (drop at sheet))
  pub few : r.count ≤ most
  pub none : first_bad_of test r.count (drop at sheet) ≡ 0
  pub next : Stands sheet (after_lines r.count (drop at sheet)) r.next

-- Where the `wants` line starts, once what stands above is as described.
pub record WantsAt (sheet : List ℕ) (at files : ℕ) : Type 0 where
  pub count : files ≡ loose_files sheet
  pub few : files ≤ most_sheet_files
  pub here : Stands sheet (loose_wants_text sheet) at

-- The lines below: what `wants=` says, and the want lines.
pub record BelowIs (sheet : List ℕ) (said at wants : ℕ) : Type 0 where
  pub none : first_bad_loose_below sheet ≡ 0
  pub says : said ≡ wants_said sheet
  pub many : wants ≡ loose_wants sheet
  pub here : Stands sheet (loose_want_text sheet) at
  pub good : first_bad_of (is_pair_line want_key) wants (drop at sheet) ≡ 0

pub record BelowBad (sheet : List ℕ) (line : ℕ) : Type 0 where
  pub first : first_bad_loose_below sheet ≡ line
  pub some : 0 < line

abbrev pub BelowFound : List ℕ → Result Below BadLine → Type 0
BelowFound sheet (Ok below) = BelowIs sheet below.said below.at below.wants
BelowFound sheet (Err bad) = BelowBad sheet bad.line

-- All lines of a sheet: its parts, and that its want lines are as described.
pub record PartsAre (sheet : List ℕ) (parts : Parts) : Type 0 where
  pub none : first_bad_loose sheet ≡ 0
  pub same : parts ≡ sheet_parts sheet
  pub good : first_bad_of (is_pair_line want_key) parts.wants (drop parts.body sheet) ≡ 0
  pub rest : drop parts.body sheet ≡ loose_want_text sheet

pub record LineBad (sheet : List ℕ) (line : ℕ) : Type 0 where
  pub first : first_bad_loose sheet ≡ line
  pub some : 0 < line

abbrev pub LinesFound : List ℕ → Result Parts BadLine → Type 0
LinesFound sheet (Ok parts) = PartsAre sheet parts
LinesFound sheet (Err bad) = LineBad sheet bad.line

-- What 12 and 11 say of a sheet.
pub record PartsGood (sheet : List ℕ) (parts : Parts) : Type 0 where
  pub accepted : Ok tt ≡ checked (loose_verdict sheet)
  pub are : PartsAre sheet parts

abbrev pub PartsFound : List ℕ → Result Parts Verdict → Type 0
PartsFound sheet (Ok parts) = PartsGood sheet parts
PartsFound sheet (Err v) = Err v ≡ checked (loose_verdict sheet)
