-- The whole answer of `check` to a run sheet and a plan sheet that are not refused, line by line, each by a condition of its own: also where an answer is no.
use Rattle.std.specs.Prelude.{ℕ, suc, ◌≤◌, ◌≡◌, false, List, ◌++◌, length, take}
use Rattle.refusals.specs.Refusals.{is_refusal}
use Rattle.runs.specs.Run.{Run}
use Rattle.runs.specs.Lists.{Detour, list_of}
use Rattle.least.specs.AnyHead.{LeastAny}
use Rattle.text_bytes.specs.Text.{bytes, decimal}
use Rattle.text_lines.specs.Lines.{line_after}
use Rattle.sheet_reader.specs.Sheet.{sheet_run, sheet_name}
use Rattle.sheet_writer.specs.AnyHead.{plan_any_text}
use Rattle.sheet_lists.specs.Form.{plan_froms, plan_tos}
use Rattle.answer_check.specs.Checking.{verdict_on, SheetChecked}
use Rattle.demands.specs.RefusalTable.{FirstBad}
use Rattle.demands.specs.AnyHead.{EntryIsBadAny, IsFormedAny}
use Rattle.promises.specs.Checks.{Larger, FirstDiffers}
use Rattle.promises.specs.Lengths.{check_row}
use Rattle.promises.specs.Answers.{example_sheet}

-- The line on the list: it is the least, or it is not and its sum is larger by so much.
pub data LeastLine (run : Run) (list : List Detour) : List ℕ → Type 0 where
  least : LeastAny run list → LeastLine run list (bytes "least=yes\n")
  larger : {by : ℕ} → (LeastAny run list → ⊥) → Larger run list by → LeastLine run list (bytes "least=no," ++ decimal by ++ bytes "\n")

-- One line with the first entry that breaks a rule; or three, of a list that breaks none; and two more where the plan sheet is not that of its list: the first
-- line that differs, as it stands and as it should, empty where there is none.
pub data VerdictText (name : List ℕ) (run : Run) (plan froms tos : List ℕ) : List ℕ → Type 0 where
  unformed : {n : ℕ} → FirstBad (EntryIsBadAny run froms tos) (length froms) n → VerdictText name run plan froms tos (bytes "formed=no," ++ decimal n ++ bytes "\n")
  the_walk : {last : List ℕ} → IsFormedAny run (list_of froms tos) → plan ≡ plan_any_text name run froms tos → LeastLine run (list_of froms tos) last
      → VerdictText name run plan froms tos (bytes "formed=yes\nwalk=yes\n" ++ last)
  another : {n : ℕ} {last : List ℕ} → IsFormedAny run (list_of froms tos) → FirstDiffers plan (plan_any_text name run froms tos) (suc n) → LeastLine run (list_of froms tos) last
      → VerdictText name run plan froms tos
      (bytes "formed=yes\nwalk=no," ++ decimal (suc n) ++ bytes "\n" ++ last
      ++ bytes "found=" ++ line_after n plan ++ bytes "\nexpected=" ++ line_after n (plan_any_text name run froms tos) ++ bytes "\n")

-- The first n bytes of a row as long as the program's are printed.
abbrev pub CheckPrintsAll : Type 0
CheckPrintsAll =
    (sheet plan row room : List ℕ) (n : ℕ) (row' room' : List ℕ)
    → SheetChecked sheet plan row room n row' room'
    → check_row ≤ length row
    → is_refusal (verdict_on (length room) sheet plan).refusal ≡ false
    → VerdictText (sheet_name sheet) (sheet_run sheet) plan (plan_froms plan) (plan_tos plan) (take n row')

-- The plan of document 01's sheet with a 6 for a 5 in its ninth line, for the same run.
abbrev pub wrong_plan : List ℕ
wrong_plan = bytes "tape=VX0041\nsum=367\nreads=5\nfinish=121\nend=50\ndetours=1\ndetour=2,2\ntime=1,81,2\ntime=2,56,1\ntime=3,121,2\n"

abbrev pub PrintsTheDifference : Type 0
PrintsTheDifference =
    (row room : List ℕ) (n : ℕ) (row' room' : List ℕ)
    → SheetChecked example_sheet wrong_plan row room n row' room'
    → check_row ≤ length row
    → 5120 ≤ length room
    → take n row' ≡ bytes "formed=yes\nwalk=no,9\nleast=yes\nfound=time=2,56,1\nexpected=time=2,55,1\n"

-- The same run of a tape that was just mounted, its head at 0: all is read from left to right. With that head no detour is well formed, (2,2) neither.
abbrev pub mounted_sheet : List ℕ
mounted_sheet = bytes "tape=VX0041\nhead=0\nturn=1\nrule=least\nfiles=3\nfile=0,10,0\nfile=10,4,0\nfile=20,30,0\nwants=3\nwant=1,1\nwant=2,3\nwant=3,1\n"

abbrev pub mounted_plan : List ℕ
mounted_plan = bytes "tape=VX0041\nsum=107\nreads=5\nfinish=51\nend=50\ndetours=0\ntime=1,11,1\ntime=2,15,1\ntime=3,51,1\n"

abbrev pub ChecksMounted : Type 0
ChecksMounted =
    (row room : List ℕ) (n m : ℕ) (row' room' row'' room'' : List ℕ)
    → SheetChecked mounted_sheet mounted_plan row room n row' room'
    → SheetChecked mounted_sheet wrong_plan row room m row'' room''
    → check_row ≤ length row
    → 5120 ≤ length room
    → (take n row' ≡ bytes "formed=yes\nwalk=yes\nleast=yes\n") × (take m row'' ≡ bytes "formed=no,1\n")
