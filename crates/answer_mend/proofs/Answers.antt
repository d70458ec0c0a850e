-- What is answered, check by check, and the rows that are left.
use Prim.Native.Nat.{ℕ, ◌≤◌}
use mathlib.Core.Path.{◌≡◌, refl, ap, sym, ◌∙◌, subst}
use mathlib.Core.Bool.{Bool, true, false, ◌||◌}
use mathlib.Core.List.{List, [], ◌∷◌, ◌++◌}
use native.Mathlib.Omega.{arith}
use lib.ListN.{length, take, drop}
use lib.Seq.{take_at}
use lib.Dec.{ltb}
use borrow.Author.Tests.{ltb-true, ltb-false, lt-ltb, le-ltb}
use Rattle.refusals.specs.declared.Refusal.TheVariants.{Accepted, WantRows, TooManyReads, LongSheet, ShortRow, BadLine}
use Rattle.refusals.specs.declared.Verdict.{Verdict}
use Rattle.refusals.specs.Refusals.{is_refusal, accepted, checked, refuse_if, refuse_at, first_of}
use Rattle.refusals.proofs.Verdicts.{refuses, first_passes, first_alone, all_accept, none_refuses, accepts_if}
use Rattle.refusals.proofs.Checked.{passed, stopped, first_stops}
use Rattle.runs.specs.Run.{most_wants, most_reads}
use Rattle.runs.proofs.Search.{or_false_both}
use Rattle.sheet_reader.specs.Sheet.{longest_sheet}
use Rattle.sheet_reader.specs.Reading.{read_row}
use Rattle.sheet_reader.proofs.Rows.{length_each}
use Rattle.std.specs.Prelude.{Ok, Err}
use Rattle.text_pages.specs.Printing.{Wrote, Put}
use Rattle.text_pages.proofs.Pages.{wrote_page}
use Rattle.sheet_loose.specs.declared.Parts.{Parts}
use Rattle.sheet_loose.specs.Loose.{loose_wants, first_bad_loose, wanted_files, wanted_counts}
use Rattle.sheet_loose.specs.Reading.{loose_verdict, want_rows_verdict, sheet_parts, loose_parts, LooseRead}
use Rattle.sheet_loose.proofs.Wants.{wants_few}
use Rattle.answer_mend.specs.declared.Mended.{Mended}
use Rattle.answer_mend.specs.Wants.{remaining, reads_in_all}
use Rattle.answer_mend.specs.Mending.{sheet_remaining, mended_text, changes_text, wants_verdicts, texts_verdicts, mend_verdict, refused_mending, MendHanded, SheetMended}
use Rattle.answer_mend.specs.Private.{Gathered, SheetRead, Writable}

-- A text in the first bytes of a row.
row_put : (text row row' : List ℕ) (next : ℕ) → length text ≤ length row → Put row 0 text (length text) row' next → row' ≡ text ++ drop (length text) row
row_put text row row' next fits p =
    let w = p.room (omega arith) in
    let e : next ≡ length text = w.after ∙ omega arith in
    wrote_page w ∙ rw e

-- A verdict that its check hands on, and one that accepts.
module _ (v : Verdict) (text changes out notes : List ℕ) where
  pub handed_none : (e : Verdict) → Err e ≡ checked v → (r : Mended) → r ≡ refused_mending e → MendHanded v text changes out notes r out notes
  unfolding read_row
  handed_none e said r r-is =
      let s = stopped v e said in
      record { answer = r-is ∙ ap refused_mending (sym s.is) ∙ rw s.so; sheet = rw s.so; listed = rw s.so }

  pub handed_both : refuses v ≡ false → (out' notes' : List ℕ) → out' ≡ text ++ drop (length text) out → notes' ≡ changes ++ drop (length changes) notes
      → MendHanded v text changes out notes (record { refusal = Accepted; place = 0; bytes = length text; noted = length changes }) out' notes'
  unfolding read_row
  handed_both accepts out' notes' out-is notes-are = record { answer = rw accepts; sheet = out-is ∙ rw accepts; listed = notes-are ∙ rw accepts }

-- Both texts fit their rows.
module _ (text changes out notes : List ℕ) (u : Unit) (said : Ok u ≡ checked (first_of (texts_verdicts text changes out notes))) where
  accepts_here : refuses (first_of (texts_verdicts text changes out notes)) ≡ false
  accepts_here = passed _ u said

  both_fit_here : (ltb (length out) (length text) ≡ false) × (ltb (length notes) (length changes) ≡ false)
  both_fit_here =
      let all = all_accept (texts_verdicts text changes out notes) accepts_here in
      or_false_both (ltb (length out) (length text)) (ltb (length notes) (length changes))
      (accepts_if (ltb (length out) (length text) || ltb (length notes) (length changes)) ShortRow refl all.1.0)

  pub both_put : (out' notes' : List ℕ) (a b : ℕ) → Put out 0 text (length text) out' a → Put notes 0 changes (length changes) notes' b
      → MendHanded (first_of (texts_verdicts text changes out notes)) text changes out notes (record { refusal = Accepted; place = 0; bytes = length text; noted = length changes }) out' notes'
  both_put out' notes' a b p q =
      let fits = both_fit_here in
      handed_both (first_of (texts_verdicts text changes out notes)) text changes out notes accepts_here out' notes'
      (row_put text out out' a (ltb-false (length out) (length text) fits.0) p) (row_put changes notes notes' b (ltb-false (length notes) (length changes) fits.1) q)

-- A text on a page of its own.
pub page_text_lem : (page text : List ℕ) (most : ℕ) (page' : List ℕ) (next : ℕ) → Wrote page 0 text most page' next → take next page' ≡ text
page_text_lem page text most page' next w = w.bytes

pub page_part : (page text : List ℕ) (most : ℕ) (page' : List ℕ) (next : ℕ) → Wrote page 0 text most page' next → next ≡ length (take next page')
page_part page text most page' next w = omega (arith, w.after, ap length w.bytes)

pub texts_handed : (text changes text' changes' out notes : List ℕ) (r : Mended) (out' notes' : List ℕ) → text' ≡ text → changes' ≡ changes
    → MendHanded (first_of (texts_verdicts text' changes' out notes)) text' changes' out notes r out' notes' → MendHanded (first_of (texts_verdicts text changes out notes)) text changes out notes r out' notes'
texts_handed text changes text' changes' out notes r out' notes' e f h = rw (e, f) at h

-- The wants gathered: many is how many there are, or over 64.
module _ (sheet : List ℕ) (parts : Parts) (wanted counts : List ℕ) (read : SheetRead sheet parts wanted counts) (many : ℕ) (row : List ℕ)
    (gathered : Gathered (remaining wanted counts (length wanted)) many row) where
  -- 3 and 5, as they are judged.
  abbrev judged : Verdict
  judged = first_of (refuse_if (ltb most_wants many) WantRows ∷ refuse_if (ltb most_reads (reads_in_all counts)) TooManyReads ∷ [])

  same_remaining : remaining wanted counts (length wanted) ≡ sheet_remaining sheet
  unfolding sheet_remaining
  same_remaining = rw (read.files, read.reads)

  over_same : ltb most_wants many ≡ ltb most_wants (length (sheet_remaining sheet))
  over_same = go (ltb most_wants many) refl
    where
      go : (b : Bool) → ltb most_wants many ≡ b → ltb most_wants many ≡ ltb most_wants (length (sheet_remaining sheet))
      go true e = e ∙ sym (lt-ltb most_wants (length (sheet_remaining sheet)) (rw same_remaining at (gathered.many (ltb-true most_wants many e))))
      go false e =
          let held = gathered.few (ltb-false most_wants many e) in
          ap (λ n. ltb most_wants n) (held.many ∙ ap length same_remaining)

  wants_judged : judged ≡ first_of (wants_verdicts sheet)
  wants_judged = rw (over_same, read.reads)

  module _ (text changes out notes : List ℕ) where
    abbrev rest : List Verdict
    rest = first_of (texts_verdicts text changes out notes) ∷ []

    pub wants_none : (e : Verdict) → Err e ≡ checked judged → (r : Mended) → r ≡ refused_mending e → MendHanded (first_of (first_of (wants_verdicts sheet) ∷ rest)) text changes out notes r out notes
    wants_none e said r r-is =
        handed_none (first_of (first_of (wants_verdicts sheet) ∷ rest)) text changes out notes e
        (first_stops (first_of (wants_verdicts sheet)) rest e (said ∙ ap checked wants_judged)) r r-is

    pub wants_handed : (u : Unit) → Ok u ≡ checked judged → (r : Mended) (out' notes' : List ℕ) → MendHanded (first_of (texts_verdicts text changes out notes)) text changes out notes r out' notes'
        → MendHanded (first_of (first_of (wants_verdicts sheet) ∷ rest)) text changes out notes r out' notes'
    wants_handed u said r out' notes' h =
        let accepts : refuses (first_of (wants_verdicts sheet)) ≡ false = passed _ u (said ∙ ap checked wants_judged) in
        let alone : first_of rest ≡ first_of (texts_verdicts text changes out notes) = first_alone (texts_verdicts text changes out notes) in
        let whole : first_of (texts_verdicts text changes out notes) ≡ first_of (first_of (wants_verdicts sheet) ∷ rest) = sym (first_passes (first_of (wants_verdicts sheet)) rest accepts ∙ alone) in
        subst (λ w. MendHanded w text changes out notes r out' notes') whole h

  module _ (u : Unit) (said : Ok u ≡ checked judged) where
    wants_fit_here : (many ≤ most_wants) × (reads_in_all counts ≤ most_reads)
    wants_fit_here =
        let all = all_accept (refuse_if (ltb most_wants many) WantRows ∷ refuse_if (ltb most_reads (reads_in_all counts)) TooManyReads ∷ []) (passed judged u said) in
        (ltb-false most_wants many (accepts_if (ltb most_wants many) WantRows refl all.0), ltb-false most_reads (reads_in_all counts) (accepts_if (ltb most_reads (reads_in_all counts)) TooManyReads refl all.1.0))

    pub wants_writable : Writable sheet parts wanted counts (take many row)
    wants_writable =
        let fit = wants_fit_here in
        let held = gathered.few fit.0 in
        record {
          read = read;
          row_is = held.held ∙ same_remaining;
          few = omega (arith, fit.0, ap length held.held, held.many);
          reads = fit.1;
        }

-- The sheet read. Rows of 2,730 entries are never too short, so the verdict is that of 12 and 11.
module _ (sheet wanted₀ counts₀ : List ℕ) (long : length wanted₀ ≡ 2730) (even : length counts₀ ≡ 2730) (parts : Parts) (wanted counts : List ℕ) (read : LooseRead sheet wanted₀ counts₀ parts wanted counts) where
  abbrev lv : Verdict
  lv = loose_verdict sheet

  module _ (passed : is_refusal lv.refusal ≡ false) where
    read_short : length sheet ≤ longest_sheet
    unfolding loose_verdict
    read_short =
        let all = all_accept (refuse_if (ltb longest_sheet (length sheet)) LongSheet ∷ refuse_at (first_bad_loose sheet) BadLine ∷ []) passed in
        ltb-false longest_sheet (length sheet) (accepts_if (ltb longest_sheet (length sheet)) LongSheet refl all.0)

    read_accepted : lv ≡ accepted
    unfolding loose_verdict
    read_accepted = none_refuses (refuse_if (ltb longest_sheet (length sheet)) LongSheet ∷ refuse_at (first_bad_loose sheet) BadLine ∷ []) passed

    few_lines : loose_wants sheet ≤ 2730
    few_lines = omega (arith, read_short, wants_few sheet)

    rows_fit : want_rows_verdict sheet wanted₀ counts₀ ≡ accepted
    unfolding want_rows_verdict
    rows_fit =
        let few = few_lines in
        rw (passed, le-ltb (length wanted₀) (loose_wants sheet) (omega arith), le-ltb (length counts₀) (loose_wants sheet) (omega arith))

    parts_are : parts ≡ sheet_parts sheet
    unfolding loose_parts
    parts_are = read.answer ∙ rw rows_fit

    files_are : wanted ≡ wanted_files sheet ++ drop (length (wanted_files sheet)) wanted₀
    unfolding read_row
    files_are = read.files ∙ rw rows_fit

    reads_are : counts ≡ wanted_counts sheet ++ drop (length (wanted_counts sheet)) counts₀
    unfolding read_row
    reads_are = read.reads ∙ rw rows_fit

    lines_are : parts.wants ≡ loose_wants sheet
    lines_are = ap (λ p. p.wants) parts_are

  rows_same : parts.verdict ≡ lv
  unfolding loose_parts want_rows_verdict
  rows_same = go (is_refusal lv.refusal) refl
    where
      go : (b : Bool) → is_refusal lv.refusal ≡ b → parts.verdict ≡ lv
      go true e = ap (λ p. p.verdict) read.answer ∙ rw (e, e)
      go false e = ap (λ p. p.verdict) (parts_are e) ∙ sym (read_accepted e)

  module _ (out notes : List ℕ) where
    pub mend_none : (e : Verdict) → Err e ≡ checked parts.verdict → (r : Mended) → r ≡ refused_mending e → SheetMended sheet out notes r out notes
    unfolding mend_verdict
    mend_none e said r r-is =
        handed_none (mend_verdict sheet out notes) (mended_text sheet) (changes_text sheet) out notes e
        (first_stops lv (first_of (wants_verdicts sheet) ∷ first_of (texts_verdicts (mended_text sheet) (changes_text sheet) out notes) ∷ []) e (said ∙ ap checked rows_same)) r r-is

  module _ (u : Unit) (said : Ok u ≡ checked parts.verdict) where
    passes : is_refusal lv.refusal ≡ false
    passes = passed lv u (said ∙ ap checked rows_same)

    pub lines_within : parts.wants ≤ 2730
    lines_within = rw (lines_are passes) (few_lines passes)

    pub sheet_read : SheetRead sheet parts (take parts.wants wanted) (take parts.wants counts)
    unfolding wanted_files wanted_counts
    sheet_read =
        let many = lines_are passes in
        let size : length (wanted_files sheet) ≡ loose_wants sheet = length_each _ (loose_wants sheet) in
        let size' : length (wanted_counts sheet) ≡ loose_wants sheet = length_each _ (loose_wants sheet) in
        let files : take parts.wants wanted ≡ wanted_files sheet = ap (take parts.wants) (files_are passes) ∙ take_at (wanted_files sheet) (drop (length (wanted_files sheet)) wanted₀) parts.wants (size ∙ sym many) in
        let reads : take parts.wants counts ≡ wanted_counts sheet = ap (take parts.wants) (reads_are passes) ∙ take_at (wanted_counts sheet) (drop (length (wanted_counts sheet)) counts₀) parts.wants (size' ∙ sym many) in
        record {
          short = read_short passes;
          parts_are = parts_are passes;
          files = files;
          reads = reads;
          lines = omega (arith, ap length files, size, few_lines passes);
          even = ap length files ∙ size ∙ sym size' ∙ sym (ap length reads);
        }

    pub wanted_sized : parts.wants ≡ length (take parts.wants wanted)
    unfolding wanted_files
    wanted_sized = lines_are passes ∙ sym (length_each _ (loose_wants sheet)) ∙ sym (ap length sheet_read.files)

    pub counts_sized : parts.wants ≡ length (take parts.wants counts)
    counts_sized = wanted_sized ∙ sheet_read.even

    pub mend_rest : (out notes : List ℕ) (r : Mended) (out' notes' : List ℕ)
        → MendHanded (first_of (first_of (wants_verdicts sheet) ∷ first_of (texts_verdicts (mended_text sheet) (changes_text sheet) out notes) ∷ [])) (mended_text sheet) (changes_text sheet) out notes r out' notes'
        → SheetMended sheet out notes r out' notes'
    unfolding mend_verdict
    mend_rest out notes r out' notes' h =
        subst (λ w. MendHanded w (mended_text sheet) (changes_text sheet) out notes r out' notes')
        (sym (first_passes lv (first_of (wants_verdicts sheet) ∷ first_of (texts_verdicts (mended_text sheet) (changes_text sheet) out notes) ∷ []) passes)) h

-- The contract determines the answer and both rows.
pub mend_determined : (sheet out notes : List ℕ) (r s : Mended) (out' out'' notes' notes'' : List ℕ) → SheetMended sheet out notes r out' notes' → SheetMended sheet out notes s out'' notes''
    → (r ≡ s) × ((out' ≡ out'') × (notes' ≡ notes''))
mend_determined sheet out notes r s out' out'' notes' notes'' p q = (p.answer ∙ sym q.answer, (p.sheet ∙ sym q.sheet, p.listed ∙ sym q.listed))
