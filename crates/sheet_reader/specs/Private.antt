-- What the functions that read parts of a sheet find, by cases of their answers. No public contract cites this file.
use Rattle.std.specs.Prelude.{ℕ, ◌≤◌, ◌<◌, ◌≡◌, ◌||◌, List, [], ◌∷◌, length, drop, ltb, Result, Ok, Err}
use Rattle.refusals.specs.declared.Refusal.TheVariants.{ShortRow}
use Rattle.refusals.specs.declared.Verdict.{Verdict}
use Rattle.refusals.specs.Refusals.{checked, refuse_if, first_of}
use Rattle.sheet_reader.specs.declared.reader.Top.{Top}
use Rattle.sheet_reader.specs.declared.reader.Below.{Below}
use Rattle.sheet_reader.specs.declared.reader.Parts.{Parts}
use Rattle.text_lines.specs.declared.BadLine.{BadLine}
use Rattle.text_lines.specs.Lines.{is_pair_line, is_triple_line, first_bad_of}
use Rattle.sheet_reader.specs.Lines.{file_key, want_key}
use Rattle.sheet_reader.specs.Found.{NamePart}
use Rattle.sheet_reader.specs.Sheet.{most_sheet_files, sheet_head, sheet_turn, says_sweep, sheet_files, file_text, wants_text, sheet_wants, want_text, first_bad_top, first_bad_below, first_bad_line}
use Rattle.sheet_reader.specs.Reading.{sheet_verdict, rule_verdict}

-- The first five lines: their values, and what follows them.
pub record TopIs (sheet : List ℕ) (top : Top) : Type 0 where
  pub none : first_bad_top sheet ≡ 0
  pub name : NamePart sheet top.end
  pub head : top.head ≡ sheet_head sheet
  pub turn : top.turn ≡ sheet_turn sheet
  pub sweep : top.sweep ≡ says_sweep sheet
  pub files : top.files ≡ sheet_files sheet
  pub few : top.files ≤ most_sheet_files
  pub within : top.next ≤ length sheet
  pub rest : drop top.next sheet ≡ file_text sheet

pub record TopBad (sheet : List ℕ) (line : ℕ) : Type 0 where
  pub first : first_bad_top sheet ≡ line
  pub some : 0 < line

abbrev pub TopFound : List ℕ → Result Top BadLine → Type 0
TopFound sheet (Ok top) = TopIs sheet top
TopFound sheet (Err bad) = TopBad sheet bad.line

-- Where the file lines and the `wants` line start, once what stands above is as described.
pub record FilesAt (sheet : List ℕ) (at files : ℕ) : Type 0 where
  pub count : files ≡ sheet_files sheet
  pub few : files ≤ most_sheet_files
  pub within : at ≤ length sheet
  pub rest : drop at sheet ≡ file_text sheet

pub record WantsAt (sheet : List ℕ) (at files : ℕ) : Type 0 where
  pub count : files ≡ sheet_files sheet
  pub few : files ≤ most_sheet_files
  pub within : at ≤ length sheet
  pub rest : drop at sheet ≡ wants_text sheet
  pub none : first_bad_of (is_triple_line file_key) (sheet_files sheet) (file_text sheet) ≡ 0

-- The lines below the first five: the number of wants, and where the want lines start.
pub record BelowIs (sheet : List ℕ) (wants at : ℕ) : Type 0 where
  pub none : first_bad_below sheet ≡ 0
  pub filed : first_bad_of (is_triple_line file_key) (sheet_files sheet) (file_text sheet) ≡ 0
  pub wanted : first_bad_of (is_pair_line want_key) (sheet_wants sheet) (want_text sheet) ≡ 0
  pub count : wants ≡ sheet_wants sheet
  pub within : at ≤ length sheet
  pub rest : drop at sheet ≡ want_text sheet

pub record BelowBad (sheet : List ℕ) (line : ℕ) : Type 0 where
  pub first : first_bad_below sheet ≡ line
  pub some : 0 < line

abbrev pub BelowFound : List ℕ → Result Below BadLine → Type 0
BelowFound sheet (Ok below) = BelowIs sheet below.wants below.at
BelowFound sheet (Err bad) = BelowBad sheet bad.line

-- All lines of a sheet.
pub record PartsAre (sheet : List ℕ) (parts : Parts) : Type 0 where
  pub upper : TopIs sheet parts.top
  pub below : BelowIs sheet parts.below.wants parts.below.at

pub record PartsBad (sheet : List ℕ) (line : ℕ) : Type 0 where
  pub first : first_bad_line sheet ≡ line
  pub some : 0 < line

abbrev pub PartsFound : List ℕ → Result Parts BadLine → Type 0
PartsFound sheet (Ok parts) = PartsAre sheet parts
PartsFound sheet (Err bad) = PartsBad sheet bad.line

-- What 12 and 11 say of a sheet.
pub record SheetGood (sheet : List ℕ) (parts : Parts) : Type 0 where
  pub accepted : Ok tt ≡ checked (sheet_verdict sheet)
  pub are : PartsAre sheet parts

abbrev pub SheetFound : List ℕ → Result Parts Verdict → Type 0
SheetFound sheet (Ok parts) = SheetGood sheet parts
SheetFound sheet (Err v) = Err v ≡ checked (sheet_verdict sheet)

-- What they, then 19, then 8 say of a sheet and rows of these lengths.
abbrev pub run_verdict : List ℕ → ℕ → ℕ → ℕ → ℕ → ℕ → Verdict
run_verdict sheet starts lengths aggregates numbers counts =
    first_of
    (sheet_verdict sheet
    ∷ rule_verdict sheet
    ∷ refuse_if (((ltb starts (sheet_files sheet) || ltb lengths (sheet_files sheet)) || ltb aggregates (sheet_files sheet)) || (ltb numbers (sheet_wants sheet) || ltb counts (sheet_wants sheet))) ShortRow
    ∷ [])

pub record RunGood (sheet : List ℕ) (starts lengths aggregates numbers counts : ℕ) (parts : Parts) : Type 0 where
  pub accepted : Ok tt ≡ checked (run_verdict sheet starts lengths aggregates numbers counts)
  pub are : PartsAre sheet parts

abbrev pub RunFound : List ℕ → ℕ → ℕ → ℕ → ℕ → ℕ → Result Parts Verdict → Type 0
RunFound sheet starts lengths aggregates numbers counts (Ok parts) = RunGood sheet starts lengths aggregates numbers counts parts
RunFound sheet starts lengths aggregates numbers counts (Err v) = Err v ≡ checked (run_verdict sheet starts lengths aggregates numbers counts)

-- Lines of three numbers that are all as described, and rows with room for them.
pub record TriplesReady (key sheet : List ℕ) (at count : ℕ) (firsts seconds thirds : List ℕ) : Type 0 where
  pub within : at ≤ length sheet
  pub none : first_bad_of (is_triple_line key) count (drop at sheet) ≡ 0
  pub room : count ≤ length firsts
  pub space : count ≤ length seconds
  pub more : count ≤ length thirds
