-- The request on empty turn prices: what the reader gives, what the rewriting gives, and that the one reads the other as the old reader read the old sheet.
use Prim.Native.Nat.{ℕ, ◌+◌, ◌≤◌, ◌<◌}
use Prim.Native.Char.{code}
use mathlib.Core.Path.{◌≡◌, refl, sym, ap, ◌∙◌}
use mathlib.Core.Bool.{Bool, true, false, true≢false}
use mathlib.Core.Logic.{◌⊎◌, inl, inr, ⊎_elim}
use mathlib.Core.List.{List, [], ◌∷◌, ◌++◌}
use native.Mathlib.Omega.{arith}
use lib.ListN.{length, take, drop, length-append}
use lib.Seq.{take-append_seam, drop-append_seam}
use lib.Dec.{ltb}
use borrow.Author.Tests.{le-ltb, ltb-true, ltb-false, ne_eqb}
use Rattle.refusals.specs.declared.Refusal.TheVariants.{Accepted, BadLine, LongSheet, ShortRow}
use Rattle.refusals.specs.declared.Verdict.{Verdict}
use Rattle.refusals.specs.Refusals.{is_refusal, accepted, refuse_if, refuse_at, first_of}
use Rattle.refusals.proofs.Verdicts.{refuses, first_refuses, first_passes, all_accept, accepts_if}
use Rattle.text_bytes.specs.Text.{line_feed, has, is_empty, is_text, starts_with}
use Rattle.sheet_reader.specs.declared.Reading.{Reading}
use Rattle.text_lines.specs.Lines.{after_lines, line_after}
use Rattle.sheet_reader.specs.Lines.{turn_key, turn_with}
use Rattle.sheet_reader.specs.Sheet.{longest_sheet, first_bad_line, says_sweep, sheet_files, sheet_wants, sheet_turn_with}
use Rattle.sheet_reader.specs.Reading.{sheet_verdict, rule_verdict, read_verdict, read_row, RunRows, rows_verdict, read_answer_with, ReadWith, read_name}
use Rattle.sheet_reader.proofs.Good.{short_sheet, accepted_sheet, good_lines}
use Rattle.sheet_writer.specs.declared.Written.{Written}
use Rattle.sheet_writer.specs.Writing.{row_verdict, written_answer, written_row}
use Rattle.sheet_writer.proofs.Reread.{key_value}
use Rattle.answer_rewrite.specs.Rewriting.{price_is_empty, rewritten, rewrite_verdict, SheetRewritten}
use Rattle.answer_rewrite.proofs.Meaning.{upper, rest_is, old_cut, new_cut, unchanged, keeps}
use Rattle.demands.specs.RefusalTable.{FirstBad}
use Rattle.demands.specs.Lines.{LineIsBad, lines_due}
use Rattle.demands.specs.Turns.{EmptyPrice, GivenPrice, DrivesOwnPrice, ReadsButThePrice, OtherReaders, RewrittenBytes, RewrittenMeans, RewrittenOnce, UnreadApplies, SheetJudged, ResultApplies, RewriteFinds, unread, result, Demand1Rewrite}
use Rattle.demands.proofs.Tests.{Tells, tells_below}
use Rattle.demands.proofs.Checks.{decides_if, decides_reworded, Finds, finds_none, finds_first}
use Rattle.demands.proofs.FirstLine.{decides_line}
use Rattle.demands.proofs.Lines.{line_read, number_flat, number_some, tells_turn}
use Rattle.demands.proofs.Sheets.{same_rows, read_passes, told}
use Rattle.demands.proofs.WriteRead.{written_passes}

-- The third line: an empty `turn=`, or one with a number.
module _ (sheet : List ℕ) where
  empty_line : EmptyPrice sheet → line_after 2 sheet ≡ turn_key
  unfolding has
  empty_line p = line_read turn_key p.value p.rest (after_lines 2 sheet) refl (ap (has line_feed) p.kind) p.is ∙ ap (λ v. turn_key ++ v) p.kind

  given_line : (p : GivenPrice sheet) → line_after 2 sheet ≡ turn_key ++ p.value
  unfolding has
  given_line p = line_read turn_key p.value p.rest (after_lines 2 sheet) refl (number_flat line_feed refl p.value p.kind) p.is

  is_empty_here : EmptyPrice sheet → price_is_empty sheet ≡ true
  unfolding price_is_empty starts_with
  is_empty_here p = ap (is_text turn_key) (empty_line p)

  is_given : GivenPrice sheet → price_is_empty sheet ≡ false
  unfolding price_is_empty
  is_given p = ap (is_text turn_key) (given_line p) ∙ longer p.value (number_some p.value p.kind)
    where
      longer : (v : List ℕ) → is_empty v ≡ false → is_text turn_key (turn_key ++ v) ≡ false
      longer [] e = absurd (true≢false e)
      longer (b ∷ v) e = rw (ne_eqb 5 (length (turn_key ++ (b ∷ v))) (λ h. omega (arith, h)))

  -- In a sheet that can be read one of the two does.
  price_stands : refuses (sheet_verdict sheet) ≡ false → EmptyPrice sheet ⊎ GivenPrice sheet
  price_stands readable =
      let s = (tells_turn sheet 2).when_true (good_lines sheet readable).turn in
      ⊎_elim (λ e. inl (record { value = s.value; rest = s.rest; is = s.is; kind = e })) (λ n. inr (record { value = s.value; rest = s.rest; is = s.is; kind = n })) s.kind

-- What the reader hands on.
pub drives_own_price : DrivesOwnPrice
unfolding sheet_turn_with turn_with
drives_own_price sheet before answer after read accepts =
    let price : answer.turn ≡ sheet_turn_with 12000 sheet = ap (λ (x : Reading). x.turn) read.answer ∙ rw (read_passes sheet before answer after read accepts) in
    record {
      empty = λ p. price ∙ rw (empty_line sheet p);
      given = λ p. price ∙ rw (given_line sheet p, key_value turn_key p.value, number_some p.value p.kind);
    }

-- Another reader, to whom an empty price means e.
module _ (e : ℕ) (sheet : List ℕ) (v : Verdict) where
  price_other : GivenPrice sheet → sheet_turn_with e sheet ≡ sheet_turn_with 12000 sheet
  unfolding sheet_turn_with turn_with
  price_other p = rw (given_line sheet p, key_value turn_key p.value, number_some p.value p.kind)

  price_none : EmptyPrice sheet → sheet_turn_with e sheet ≡ e
  unfolding sheet_turn_with turn_with
  price_none p = rw (empty_line sheet p)

  reads_but : (b : Bool) → is_refusal v.refusal ≡ b → ReadsButThePrice e sheet (read_answer_with 12000 v sheet) (read_answer_with e v sheet)
  reads_but true r =
      rw r
      (record {
        refusal = refl;
        place = refl;
        head = refl;
        files = refl;
        wants = refl;
        refused = λ n. refl;
        given = λ p. refl;
        empty = λ p h. absurd (true≢false (sym r ∙ ap is_refusal h));
      })
  reads_but false r =
      rw r
      (record {
        refusal = refl;
        place = refl;
        head = refl;
        files = refl;
        wants = refl;
        refused = λ n. absurd (n refl);
        given = price_other;
        empty = λ p h. price_none p;
      })

pub other_readers : OtherReaders
other_readers e sheet before answer other after rows read read' = (
  rw (read.answer, read'.answer) (reads_but e sheet (rows_verdict sheet before) (is_refusal (rows_verdict sheet before).refusal) refl),
  same_rows rows after
      (read'.starts ∙ sym read.starts)
      (read'.lengths ∙ sym read.lengths)
      (read'.aggregates ∙ sym read.aggregates)
      (read'.numbers ∙ sym read.numbers)
      (read'.counts ∙ sym read.counts),
)

-- An accepted rewriting.
module _ (sheet row : List ℕ) (answer : Written) (out : List ℕ) (says : SheetRewritten sheet row answer out) (accepts : answer.refusal ≡ Accepted) where
  passes : refuses (rewrite_verdict sheet row) ≡ false
  passes = written_passes (rewrite_verdict sheet row) (rewritten sheet) answer says.answer accepts

  each_passes : (refuses (sheet_verdict sheet) ≡ false) × (length (rewritten sheet) ≤ longest_sheet)
  unfolding rewrite_verdict
  each_passes =
      let all = all_accept (sheet_verdict sheet ∷ refuse_if (ltb longest_sheet (length (rewritten sheet))) LongSheet ∷ row_verdict (rewritten sheet) row ∷ []) passes in
      (all.0, ltb-false longest_sheet (length (rewritten sheet)) (accepts_if (ltb longest_sheet (length (rewritten sheet))) LongSheet refl all.1.0))

  good : refuses (sheet_verdict sheet) ≡ false
  good = each_passes.0

  answer_is_here : answer ≡ record { refusal = Accepted; place = 0; bytes = length (rewritten sheet) }
  unfolding written_answer
  answer_is_here = says.answer ∙ rw passes

  out_is : out ≡ rewritten sheet ++ drop (length (rewritten sheet)) row
  unfolding written_row
  out_is = says.left ∙ rw passes

  text_is_here : take answer.bytes out ≡ rewritten sheet
  text_is_here = rw (answer_is_here, out_is) (take-append_seam (rewritten sheet) (drop (length (rewritten sheet)) row))

  later_is_here : drop answer.bytes out ≡ drop answer.bytes row
  later_is_here = rw (answer_is_here, out_is) (drop-append_seam (rewritten sheet) (drop (length (rewritten sheet)) row))

  -- The result is accepted by 12 and 11.
  result_good : sheet_verdict (rewritten sheet) ≡ accepted
  unfolding sheet_verdict
  result_good = rw (le-ltb longest_sheet (length (rewritten sheet)) each_passes.1, (keeps sheet good).lines)

  passes_again : (more : List ℕ) → length (rewritten sheet) ≤ length more → refuses (rewrite_verdict (rewritten sheet) more) ≡ false
  unfolding rewrite_verdict row_verdict
  passes_again more long =
      rw (result_good, (keeps sheet good).again, le-ltb longest_sheet (length (rewritten sheet)) each_passes.1, le-ltb (length more) (length (rewritten sheet)) long)

  name_kept : read_name (rewritten sheet) ≡ read_name sheet
  unfolding read_name
  name_kept = rw (result_good, accepted_sheet sheet good) (keeps sheet good).name

pub rewritten_bytes : RewrittenBytes
rewritten_bytes sheet row answer out says accepts =
    let readable = good sheet row answer out says accepts in
    let text = text_is_here sheet row answer out says accepts in
    record {
      either = price_stands sheet readable;
      empty = λ p.
          let e = is_empty_here sheet p in
          record { above = upper sheet readable e; back = after_lines 3 sheet; third = rest_is sheet readable e; old = old_cut sheet readable e; new = text ∙ new_cut sheet readable e };
      given = λ p. text ∙ unchanged sheet readable (is_given sheet p);
      counted = ap (λ (w : Written). w.bytes) (answer_is_here sheet row answer out says accepts) ∙ ap length (sym text);
      later = later_is_here sheet row answer out says accepts;
    }

-- Two sheets that hold the same, each to its reader.
module _ (e : ℕ) (old new : List ℕ) (rows : RunRows) (old-good : sheet_verdict old ≡ accepted) (new-good : sheet_verdict new ≡ accepted) (rule : says_sweep new ≡ says_sweep old) (files : sheet_files new ≡ sheet_files old) (wants : sheet_wants new ≡ sheet_wants old) where
  same_verdict_here : rows_verdict new rows ≡ rows_verdict old rows
  unfolding read_verdict rule_verdict
  same_verdict_here = rw (old-good, new-good, rule, files, wants)

pub rewritten_means : RewrittenMeans
unfolding read_row
rewritten_means sheet row written out says accepts e rows old new oldRows newRows old_read new-read =
    let readable = good sheet row written out says accepts in
    let text = text_is_here sheet row written out says accepts in
    let kept = keeps sheet readable in
    let run = kept.run e in
    let verdict = same_verdict_here e sheet (rewritten sheet) rows (accepted_sheet sheet readable) (result_good sheet row written out says accepts) kept.rule kept.files kept.wants in
    let read : ReadWith e (rewritten sheet) rows new newRows = rw text at new-read in
    record {
      answers = read.answer ∙ rw (verdict, ap (λ r. r.head) run, ap (λ r. r.turn) run, kept.files, kept.wants) (sym old_read.answer);
      rows = same_rows newRows oldRows
          (read.starts ∙ rw (verdict, ap (λ r. r.starts) run) (sym old_read.starts))
          (read.lengths ∙ rw (verdict, ap (λ r. r.lengths) run) (sym old_read.lengths))
          (read.aggregates ∙ rw (verdict, ap (λ r. r.aggregates) run) (sym old_read.aggregates))
          (read.numbers ∙ rw (verdict, ap (λ r. r.numbers) run) (sym old_read.numbers))
          (read.counts ∙ rw (verdict, ap (λ r. r.counts) run) (sym old_read.counts));
      named = ap read_name text ∙ name_kept sheet row written out says accepts;
    }

-- The result rewritten.
pub rewritten_once : RewrittenOnce
unfolding written_answer written_row
rewritten_once sheet row written out says accepts more again outAgain room says-again =
    let text = text_is_here sheet row written out says accepts in
    let once = (keeps sheet (good sheet row written out says accepts)).again in
    let is = answer_is_here sheet row written out says accepts in
    let long : length (rewritten sheet) ≤ length more = rw is at room in
    let reads : SheetRewritten (rewritten sheet) more again outAgain = rw text at says-again in
    let passes = passes_again sheet row written out says accepts more long in
    let answered : again ≡ record { refusal = Accepted; place = 0; bytes = length (rewritten sheet) } = reads.answer ∙ rw (passes, once) in
    let filled : outAgain ≡ rewritten sheet ++ drop (length (rewritten sheet)) more = reads.left ∙ rw (passes, once) in
    (answered ∙ sym is, rw (text, answered, filled) (take-append_seam (rewritten sheet) (drop (length (rewritten sheet)) more)))

-- The refusals.
module _ (sheet : List ℕ) where
  sheet_long_here : (p : ℕ) → UnreadApplies sheet LongSheet p → (p ≡ 0) × (longest_sheet < length sheet)
  sheet_long_here p (UnreadApplies.too_long h) = (refl, h)

  sheet_line : (p : ℕ) → UnreadApplies sheet BadLine p → FirstBad (LineIsBad sheet) (lines_due sheet) p
  sheet_line p (UnreadApplies.bad_line h) = h

  unread_finds : Finds (UnreadApplies sheet) (LongSheet ∷ BadLine ∷ []) (sheet_verdict sheet)
  unfolding sheet_verdict
  unread_finds =
      finds_first (UnreadApplies sheet) (refuse_at (first_bad_line sheet) BadLine ∷ []) refl
      (decides_reworded (λ p h. rw h.0 (UnreadApplies.too_long h.1)) sheet_long_here (decides_if _ LongSheet (tells_below longest_sheet (length sheet))))
      (λ a. finds_first (UnreadApplies sheet) [] refl (decides_reworded (λ p. UnreadApplies.bad_line) sheet_line (decides_line sheet))
      (λ b. finds_none (UnreadApplies sheet)))

  -- The result is a byte longer where a 0 is put in.
  longer_by_one : refuses (sheet_verdict sheet) ≡ false → EmptyPrice sheet → length (rewritten sheet) ≡ length sheet + 1
  longer_by_one good p =
      let e = is_empty_here sheet p in
      let above = upper sheet good e ++ turn_key in
      let back = after_lines 3 sheet in
      let old = ap length (old_cut sheet good e) ∙ length-append above (line_feed ∷ back) in
      let new = ap length (new_cut sheet good e) ∙ length-append above (code "0" ∷ (line_feed ∷ back)) in
      omega (arith, old, new)

  as_long : refuses (sheet_verdict sheet) ≡ false → GivenPrice sheet → length (rewritten sheet) ≡ length sheet
  as_long good p = ap length (unchanged sheet good (is_given sheet p))

  abbrev Overfull : Type 0
  Overfull = EmptyPrice sheet × (length sheet ≡ 16384)

  abbrev TooShort : List ℕ → Type 0
  TooShort row = (EmptyPrice sheet × (length row < length sheet + 1)) ⊎ (GivenPrice sheet × (length row < length sheet))

  tells_overfull : refuses (sheet_verdict sheet) ≡ false → Tells (ltb longest_sheet (length (rewritten sheet))) Overfull
  tells_overfull good =
      record {
        when_true = λ e.
            let l = ltb-true longest_sheet (length (rewritten sheet)) e in
            ⊎_elim (λ p. (p, omega (arith, l, longer_by_one good p, short_sheet sheet good))) (λ g. absurd (omega (arith, l, as_long good g, short_sheet sheet good))) (price_stands sheet good);
        when_false = λ e h. omega (arith, ltb-false longest_sheet (length (rewritten sheet)) e, longer_by_one good h.0, h.1);
      }

  tells_too_short : (row : List ℕ) → refuses (sheet_verdict sheet) ≡ false → Tells (ltb (length row) (length (rewritten sheet))) (TooShort row)
  tells_too_short row good =
      record {
        when_true = λ e.
            let l = ltb-true (length row) (length (rewritten sheet)) e in
            ⊎_elim (λ p. inl (p, omega (arith, l, longer_by_one good p))) (λ g. inr (g, omega (arith, l, as_long good g))) (price_stands sheet good);
        when_false = λ e.
            let l = ltb-false (length row) (length (rewritten sheet)) e in
            ⊎_elim (λ h. omega (arith, l, longer_by_one good h.0, h.1)) (λ h. omega (arith, l, as_long good h.0, h.1));
      }

  module _ (row : List ℕ) where
    abbrev resultChecks : List Verdict
    resultChecks = refuse_if (ltb longest_sheet (length (rewritten sheet))) LongSheet ∷ refuse_if (ltb (length row) (length (rewritten sheet))) ShortRow ∷ []

    result_long : (p : ℕ) → ResultApplies sheet row LongSheet p → (p ≡ 0) × Overfull
    result_long p (ResultApplies.too_long e l) = (refl, (e, l))

    result_row : (p : ℕ) → ResultApplies sheet row ShortRow p → (p ≡ 0) × TooShort row
    result_row p (ResultApplies.short_empty e l) = (refl, inl (e, l))
    result_row p (ResultApplies.short_given g l) = (refl, inr (g, l))

    result_finds : refuses (sheet_verdict sheet) ≡ false → Finds (ResultApplies sheet row) (LongSheet ∷ ShortRow ∷ []) (first_of resultChecks)
    result_finds good =
        finds_first (ResultApplies sheet row) (refuse_if (ltb (length row) (length (rewritten sheet))) ShortRow ∷ []) refl
        (decides_reworded (λ p h. rw h.0 (ResultApplies.too_long h.1.0 h.1.1)) result_long (decides_if _ LongSheet (tells_overfull good)))
        (λ a. finds_first (ResultApplies sheet row) [] refl
        (decides_reworded (λ p h. rw h.0 (⊎_elim (λ q. ResultApplies.short_empty q.0 q.1) (λ q. ResultApplies.short_given q.0 q.1) h.1)) result_row (decides_if _ ShortRow (tells_too_short row good)))
        (λ b. finds_none (ResultApplies sheet row)))

    verdict_refused : refuses (sheet_verdict sheet) ≡ true → rewrite_verdict sheet row ≡ sheet_verdict sheet
    unfolding rewrite_verdict row_verdict
    verdict_refused e = sym (first_refuses (sheet_verdict sheet) resultChecks e)

    verdict_passed : refuses (sheet_verdict sheet) ≡ false → rewrite_verdict sheet row ≡ first_of resultChecks
    unfolding rewrite_verdict row_verdict
    verdict_passed e = first_passes (sheet_verdict sheet) resultChecks e

    verdict_finds : (b : Bool) → refuses (sheet_verdict sheet) ≡ b → RewriteFinds sheet row (rewrite_verdict sheet row).refusal (rewrite_verdict sheet row).place
    verdict_finds true e = rw (verdict_refused e) (unread (λ k. true≢false (sym e ∙ ap is_refusal k)) unread_finds)
    verdict_finds false e = rw (verdict_passed e) (result (rw (accepted_sheet sheet e) at unread_finds) (result_finds e))

pub sheet_judged : SheetJudged
sheet_judged sheet = unread_finds sheet

pub demand1_rewrite : Demand1Rewrite
unfolding rewrite_verdict
demand1_rewrite sheet row answer out says =
    let checks = sheet_verdict sheet ∷ refuse_if (ltb longest_sheet (length (rewritten sheet))) LongSheet ∷ row_verdict (rewritten sheet) row ∷ [] in
    let tells = told checks (rewritten sheet) row answer out says in
    record {
      first = rw (tells.kind, tells.place) (verdict_finds sheet row (refuses (sheet_verdict sheet)) refl);
      kept = tells.kept;
    }
