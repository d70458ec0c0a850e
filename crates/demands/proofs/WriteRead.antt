-- What the run sheet writer writes reads back (demand 2): the bytes are the sheet, and the reader gives the run and the name.
use Prim.Native.Nat.{ℕ, ◌≤◌}
use mathlib.Core.Path.{◌≡◌, refl, sym, ap, ◌∙◌}
use mathlib.Core.Bool.{Bool, true, false, not, ◌||◌, true≢false}
use mathlib.Core.List.{List, [], ◌∷◌}
use lib.ListN.{length, drop}
use lib.Seq.{take-append_seam, take_at}
use lib.Dec.{ltb}
use borrow.Author.Tests.{le-ltb, ltb-false, not-false}
use Rattle.refusals.specs.declared.Refusal.TheVariants.{Accepted, BadName}
use Rattle.refusals.specs.declared.Verdict.{Verdict}
use Rattle.refusals.specs.Refusals.{is_refusal, accepted, refuse_if}
use Rattle.runs.specs.Run.{Run}
use Rattle.runs.specs.Judging.{judge_of}
use Rattle.refusals.proofs.Verdicts.{refuses, all_accept, accepts_if}
use Rattle.runs.proofs.Search.{or_false_both}
use Rattle.runs.proofs.Judged.{accepted_run}
use Rattle.text_bytes.specs.Text.{is_name}
use Rattle.sheet_reader.specs.Sheet.{most_sheet_files, sheet_files, sheet_wants, sheet_head, sheet_turn, sheet_run}
use Rattle.sheet_reader.specs.Reading.{sheet_verdict, rule_verdict, read_verdict, read_answer, read_row, RunRows, SheetRead}
use Rattle.sheet_reader.specs.declared.Reading.{Reading}
use Rattle.sheet_writer.specs.declared.Written.{Written}
use Rattle.sheet_writer.specs.Writing.{refused_writing, sheet_text, row_verdict, write_verdict, written_answer, written_row}
use Rattle.sheet_reader.proofs.Rows.{length_each}
use Rattle.sheet_writer.proofs.RoundTrip.{round_trip}
use Rattle.demands.proofs.Judged.{judged_accepted, judged_nothing, nothing_judged}
use Rattle.demands.proofs.Sheets.{one_rule}
use Rattle.demands.specs.Sheets.{Demand2Written, GivesBack, Demand2RoundTrip, run_read, RunComesBack, WriteThenRead}

-- The counts of a sheet are the lengths of its rows.
files_in_lem : (sheet : List ℕ) → sheet_files sheet ≡ length (sheet_run sheet).starts
unfolding sheet_run
files_in_lem sheet = sym (length_each _ (sheet_files sheet))

wants_in : (sheet : List ℕ) → sheet_wants sheet ≡ length (sheet_run sheet).numbers
unfolding sheet_run
wants_in sheet = sym (length_each _ (sheet_wants sheet))

head_in : (sheet : List ℕ) → sheet_head sheet ≡ (sheet_run sheet).head
unfolding sheet_run
head_in sheet = refl

turn_in : (sheet : List ℕ) → sheet_turn sheet ≡ (sheet_run sheet).turn
unfolding sheet_run
turn_in sheet = refl

-- A sheet that is as described and names no retired rule is read wherever the five rows are long enough.
reads_sheet : (sheet starts lengths aggregates numbers counts : List ℕ) → sheet_verdict sheet ≡ accepted → rule_verdict sheet ≡ accepted
    → sheet_files sheet ≤ length starts → sheet_files sheet ≤ length lengths → sheet_files sheet ≤ length aggregates → sheet_wants sheet ≤ length numbers → sheet_wants sheet ≤ length counts
    → read_verdict sheet starts lengths aggregates numbers counts ≡ accepted
unfolding read_verdict
reads_sheet sheet starts lengths aggregates numbers counts e f a b g c d =
    rw (e, f, le-ltb (length starts) (sheet_files sheet) a, le-ltb (length lengths) (sheet_files sheet) b, le-ltb (length aggregates) (sheet_files sheet) g, le-ltb (length numbers) (sheet_wants sheet) c, le-ltb (length counts) (sheet_wants sheet) d)

-- An accepted writing has an accepted verdict.
pub written_passes : (v : Verdict) (text : List ℕ) (answer : Written) → answer ≡ written_answer v text → answer.refusal ≡ Accepted → refuses v ≡ false
unfolding written_answer
written_passes v text answer a e = by_test (refuses v) refl
  where
    by_test : (b : Bool) → refuses v ≡ b → refuses v ≡ false
    by_test true h =
        let is : answer ≡ refused_writing v = a ∙ rw h in
        absurd (true≢false (sym h ∙ ap is_refusal (sym (ap (λ (w : Written). w.refusal) is) ∙ e)))
    by_test false h = h

pub demand2_written : Demand2Written
unfolding written_answer written_row
demand2_written name r row answer out a o e =
    let h = written_passes (write_verdict name r row) (sheet_text name r) answer a e in
    let is : answer ≡ record { refusal = Accepted; place = 0; bytes = length (sheet_text name r) } = a ∙ rw h in
    rw (is, o, h) (take-append_seam (sheet_text name r) (drop (length (sheet_text name r)) row))

pub demand2_round_trip : Demand2RoundTrip
unfolding read_answer read_row
demand2_round_trip name r nothing few named starts lengths aggregates numbers counts a b g c d =
    let e = nothing_judged r nothing in
    let sheet = sheet_text name r in
    let back = round_trip name r (judged_accepted r e) few named in
    let good = accepted_run r e in
    let files : sheet_files sheet ≡ length r.starts = files_in_lem sheet ∙ ap (λ run. length run.starts) back.same_run in
    let wants : sheet_wants sheet ≡ length r.numbers = wants_in sheet ∙ ap (λ run. length run.numbers) back.same_run in
    let even : length r.starts ≡ length r.lengths = good.files.table.equal in
    let numbered : length r.starts ≡ length r.aggregates = good.files.rows in
    let pairs : length r.numbers ≡ length r.counts = good.wants.equal in
    let reads = reads_sheet sheet starts lengths aggregates numbers counts back.accepts back.ruled (rw files a) (rw (files, even) b) (rw (files, numbered) g) (rw wants c) (rw (wants, pairs) d) in
    let head : sheet_head sheet ≡ r.head = head_in sheet ∙ ap (λ run. run.head) back.same_run in
    let turn : sheet_turn sheet ≡ r.turn = turn_in sheet ∙ ap (λ run. run.turn) back.same_run in
    record {
      answer = rw (reads, head, turn, files, wants);
      starts_are = rw (reads, back.same_run);
      lengths_are = rw (reads, back.same_run);
      aggregates_are = rw (reads, back.same_run);
      numbers_are = rw (reads, back.same_run);
      counts_are = rw (reads, back.same_run);
      name_is = back.same_name;
    }

-- What an accepted verdict of the writer says.
write_needs : (name : List ℕ) (r : Run) (row : List ℕ) → refuses (write_verdict name r row) ≡ false
    → (refuses (judge_of r) ≡ false) × (length r.starts ≤ most_sheet_files) × (is_name name ≡ true)
unfolding write_verdict
write_needs name r row e =
    let many = ltb most_sheet_files (length r.starts) in
    let all = all_accept (judge_of r ∷ refuse_if (many || not (is_name name)) BadName ∷ row_verdict (sheet_text name r) row ∷ []) e in
    let both = or_false_both many (not (is_name name)) (accepts_if _ BadName refl all.1.0) in
    (all.0, ltb-false most_sheet_files (length r.starts) both.0, not-false (is_name name) both.1)

-- The sheet, read into rows that are long enough.
module _ (name : List ℕ) (r : Run) (before : RunRows) (answer : Reading) (after : RunRows) (files : length r.lengths ≡ length r.starts) (members : length r.aggregates ≡ length r.starts) (wants : length r.counts ≡ length r.numbers)
    (read : SheetRead (sheet_text name r) before answer after) (back : GivesBack name r before.starts before.lengths before.aggregates before.numbers before.counts) where
  is_back : answer ≡ record { refusal = Accepted; place = 0; head = r.head; turn = r.turn; files = length r.starts; wants = length r.numbers }
  unfolding read_answer
  is_back = read.answer ∙ back.answer

  run_back : run_read answer after ≡ r
  unfolding sheet_run
  run_back =
      rw
      (is_back, read.starts, back.starts_are, read.lengths, back.lengths_are, read.aggregates, back.aggregates_are, read.numbers, back.numbers_are, read.counts, back.counts_are)
      (rw (
        take_at r.starts (drop (length r.starts) before.starts) (length r.starts) refl,
        take_at r.lengths (drop (length r.lengths) before.lengths) (length r.starts) files,
        take_at r.aggregates (drop (length r.aggregates) before.aggregates) (length r.starts) members,
        take_at r.numbers (drop (length r.numbers) before.numbers) (length r.numbers) refl,
        take_at r.counts (drop (length r.counts) before.counts) (length r.numbers) wants,
      ))

  comes_back : RunComesBack name r (sheet_text name r) answer after
  comes_back = record { accepted = rw is_back; run = run_back; ruled = one_rule (sheet_text name r) before answer after read (rw is_back); named = back.name_is }

pub write_then_read : WriteThenRead
write_then_read name r row written out writes accepts before answer after long read =
    let text = demand2_written name r row written out writes.answer writes.left accepts in
    let needs = write_needs name r row (written_passes (write_verdict name r row) (sheet_text name r) written writes.answer accepts) in
    let good = accepted_run r needs.0 in
    let back = demand2_round_trip name r (judged_nothing r needs.0) needs.1 needs.2 before.starts before.lengths before.aggregates before.numbers before.counts long.starts long.lengths long.aggregates long.numbers long.counts in
    rw text (comes_back name r before answer after (sym good.files.table.equal) (sym good.files.rows) (sym good.wants.equal) (rw text at read) back)
