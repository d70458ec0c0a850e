-- The texts of `month`, `mend`, `rewrite` and `ltfs` are no longer than the rows of their programs.
use Prim.Native.Nat.{ℕ, zero, suc, ◌+◌, ◌-◌, ◌*◌, ◌^◌, ◌≤◌, ◌<◌}
use mathlib.Core.Path.{◌≡◌, refl, ap, sym, ◌∙◌}
use mathlib.Core.Bool.{Bool, true, false, cond, not, true≢false, ◌||◌}
use mathlib.Core.Logic.{◌⊎◌, ⊎_elim, by_cases}
use mathlib.Core.List.{List, [], ◌∷◌, ◌++◌}
use native.Mathlib.Omega.{arith}
use native.Mathlib.Decide.{dec_lt}
use native.Mathlib.Nat.{mod-lt, div-le_self}
use lib.ListN.{length, drop, get_or, length-append, length-take}
use lib.Seq.{take-append_seam}
use lib.Dec.{ltb, eqb}
use borrow.Author.Tests.{le-ltb, ltb-false, eqb-false}
use Rattle.refusals.specs.declared.Refusal.{Refusal}
use Rattle.refusals.specs.declared.Refusal.TheVariants.{WantRows, TooManyReads, ShortRow, BadLine, LongSheet}
use Rattle.refusals.specs.declared.Verdict.{Verdict}
use Rattle.refusals.specs.Refusals.{number_of, is_refusal, accepted, refuse_if, refuse_at, first_of}
use Rattle.refusals.proofs.Verdicts.{refuses, accepts_if, number_small}
use Rattle.runs.specs.Run.{most_wants, most_reads}
use Rattle.runs.proofs.Search.{true_or_false}
use Rattle.walk.proofs.Places.{place_most, first_near, if_near}
use Rattle.text_bytes.specs.Text.{bytes, comma, is_empty, decimal}
use Rattle.text_lines.specs.Lines.{line_of, line_after, is_number_line, first_in}
use Rattle.text_pages.specs.Printing.{line, number_line, pair_text, pair_line}
use Rattle.text_pages.proofs.Pages.{decimal_short}
use Rattle.sheet_reader.specs.Lines.{head_key, files_key, wants_key, want_key, is_tape_line, is_turn_line, is_rule_line}
use Rattle.sheet_reader.specs.Sheet.{longest_sheet, says_sweep, sheet_files, unless, first_bad_line}
use Rattle.sheet_reader.specs.Reading.{sheet_verdict}
use Rattle.sheet_reader.proofs.Rows.{length_each}
use Rattle.sheet_writer.specs.declared.Written.{Written}
use Rattle.sheet_writer.specs.Writing.{row_verdict, written_answer, written_row}
use Rattle.sheet_writer.specs.RefusalLines.{refusal_text}
use Rattle.sheet_loose.specs.Loose.{loose_files, loose_wants_text, loose_want_text, loose_wants, loose_end, wants_said, price_left_out, first_bad_loose_top, first_bad_loose_below, first_bad_loose, wanted_files, wanted_counts}
use Rattle.sheet_loose.specs.Reading.{loose_verdict}
use Rattle.sheet_loose.proofs.Wants.{wants_few}
use Rattle.answer_plan.proofs.Planned.{handed_bytes, handed_row}
use Rattle.answer_rewrite.specs.Rewriting.{rewritten, rewrite_verdict}
use Rattle.answer_mend.specs.declared.wants.Fate.{Fate}
use Rattle.answer_mend.specs.Wants.{reads_in_all, fate_of}
use Rattle.answer_mend.specs.Mending.{sheet_remaining, mended_text, change_line, change_if, fate_line, fate_lines, changes_text, wants_verdicts, texts_verdicts, mend_verdict}
use Rattle.answer_mend.proofs.Texts.{few_files}
use Rattle.answer_month.specs.declared.Month.{Month}
use Rattle.answer_month.specs.Page.{one_if, kinds_in, refusal_line, refusal_lines, month_top, mean_of, sums_text, longest_text, month_tape, month_end, page_text}
use Rattle.demands.specs.RefusalTable.{FirstThatApplies, none, here, later, SomeApplies}
use Rattle.demands.proofs.Sheets.{told}
use Rattle.promises.specs.Lengths.{InWords, month_row, MonthIsWhole, sheet_row, changes_row, MendIsWhole, RewriteIsWhole, refusal_row, RefusalIsWhole, WaitingIsWhole}
use Rattle.promises.specs.Mender.{SheetApplies, sheet_order, TextsApply, long_text, short_row, texts_order}
use Rattle.promises.proofs.Mends.{mended_rows}
use Rattle.promises.proofs.Mender.{mender_refuses, nothing_applies, says}
use Rattle.promises.proofs.Lengths.{some_begun, takes_all, first_few, unless_few, at_near, sheet_near, line_length, number_length, refusal_short, refusal_begins}

-- A line with two numbers.
pair_length : (key : List ℕ) (a b : ℕ) → a < 2 ^ 64 → b < 2 ^ 64 → length (pair_line key a b) ≤ length key + 42
pair_length key a b l m =
    omega (arith, line_length key (pair_text a b), length-append (decimal a ++ (comma ∷ [])) (decimal b), length-append (decimal a) (comma ∷ []), decimal_short a l, decimal_short b m)

-- The month's page.
kinds_few : (runs : List ℕ) → kinds_in runs ≤ length runs
unfolding kinds_in
kinds_few [] = omega arith
kinds_few (n ∷ runs) = omega (arith, one_few_here n, kinds_few runs)
  where
    one_few_here : (m : ℕ) → one_if m ≤ 1
    one_few_here m = go (eqb m 0)
      where
        go : (b : Bool) → cond b 0 1 ≤ 1
        go true = omega arith
        go false = omega arith

refusal_line_few : (number runs : ℕ) → number < 2 ^ 64 → runs < 2 ^ 64 → length (refusal_line number runs) ≤ 50
unfolding refusal_line
refusal_line_few number runs l m = go (eqb runs 0) refl
  where
    go : (b : Bool) → eqb runs 0 ≡ b → length (refusal_line number runs) ≤ 50
    go true e = rw e (omega arith)
    go false e = rw e (omega (arith, pair_length (bytes "refusal=") number runs l m))

refusal_lines_few : (number : ℕ) (runs : List ℕ) → number + length runs < 2 ^ 64 → ((i : ℕ) → i < length runs → get_or runs i 0 < 2 ^ 64) → length (refusal_lines number runs) ≤ length runs * 50
unfolding refusal_lines
refusal_lines_few number [] l small = omega arith
refusal_lines_few number (n ∷ runs) l small =
    omega (
      arith,
      length-append (refusal_line number n) (refusal_lines (suc number) runs),
      refusal_line_few number n (omega arith) (small 0 (omega arith)),
      refusal_lines_few (suc number) runs (omega arith) (λ i k. small (suc i) (omega arith)),
    )

top_few : (accepted : ℕ) (runs : List ℕ) → accepted < 2 ^ 64 → length runs ≤ 32 → ((i : ℕ) → i < length runs → get_or runs i 0 < 2 ^ 64) → length (month_top accepted runs) ≤ 1660
unfolding month_top
top_few accepted runs l few small =
    omega (
      arith,
      length-append (number_line (bytes "accepted=") accepted ++ number_line (bytes "refusals=") (kinds_in runs)) (refusal_lines 0 runs),
      length-append (number_line (bytes "accepted=") accepted) (number_line (bytes "refusals=") (kinds_in runs)),
      number_length (bytes "accepted=") accepted l,
      number_length (bytes "refusals=") (kinds_in runs) (omega (arith, kinds_few runs)),
      refusal_lines_few 0 runs (omega arith) small,
    )

mean_few : (sum reads : ℕ) → sum < 2 ^ 64 → reads < 2 ^ 64 → ((mean_of sum reads).whole < 2 ^ 64) × ((mean_of sum reads).rest < 2 ^ 64)
unfolding mean_of
mean_few sum reads l m = go (eqb reads 0) refl
  where
    go : (b : Bool) → eqb reads 0 ≡ b → ((mean_of sum reads).whole < 2 ^ 64) × ((mean_of sum reads).rest < 2 ^ 64)
    go true e = rw e (omega arith, omega arith)
    go false e = let some : 0 < reads = omega (arith, eqb-false reads 0 e) in rw e (omega (arith, div-le_self sum reads), omega (arith, mod-lt sum some))

sums_few : (reads sum : ℕ) → reads < 2 ^ 64 → sum < 2 ^ 64 → length (sums_text reads sum) ≤ 99
unfolding sums_text
sums_few reads sum l m =
    let mean = mean_few sum reads m l in
    omega (
      arith,
      length-append (number_line (bytes "reads=") reads ++ number_line (bytes "sum=") sum) (pair_line (bytes "mean=") (mean_of sum reads).whole (mean_of sum reads).rest),
      length-append (number_line (bytes "reads=") reads) (number_line (bytes "sum=") sum),
      number_length (bytes "reads=") reads l,
      number_length (bytes "sum=") sum m,
      pair_length (bytes "mean=") (mean_of sum reads).whole (mean_of sum reads).rest mean.0 mean.1,
    )

longest_few : (time : ℕ) (tape : List ℕ) (file : ℕ) → time < 2 ^ 64 → length tape ≤ 16 → file < 2 ^ 64 → length (longest_text time tape file) ≤ 67
unfolding longest_text
longest_few time tape file l t m =
    omega (
      arith,
      length-append (bytes "longest=" ++ decimal time ++ (comma ∷ []) ++ tape) (number_line (comma ∷ []) file),
      length-append (bytes "longest=" ++ decimal time ++ (comma ∷ [])) tape,
      length-append (bytes "longest=" ++ decimal time) (comma ∷ []),
      length-append (bytes "longest=") (decimal time),
      decimal_short time l,
      number_length (comma ∷ []) file m,
    )

end_few : (saved : ℕ) (v : Verdict) → saved < 2 ^ 64 → v.place < 2 ^ 64 → length (month_end saved v) ≤ 83
unfolding month_end
end_few saved v l m = go (is_refusal v.refusal) refl
  where
    go : (b : Bool) → is_refusal v.refusal ≡ b → length (month_end saved v) ≤ 83
    go true e =
        rw e
        (omega (
          arith,
          length-append (number_line (bytes "saved=") saved) (number_line (bytes "refused=") (number_of v.refusal) ++ number_line (bytes "place=") v.place),
          length-append (number_line (bytes "refused=") (number_of v.refusal)) (number_line (bytes "place=") v.place),
          number_length (bytes "saved=") saved l,
          number_length (bytes "refused=") (number_of v.refusal) (omega (arith, number_small v.refusal)),
          number_length (bytes "place=") v.place m,
        ))
    go false e = rw e (omega (arith, length-append (number_line (bytes "saved=") saved) [], number_length (bytes "saved=") saved l))

page_few : (m : Month) (v : Verdict) → InWords m v → length (page_text m v) ≤ month_row
unfolding page_text
page_few m v w =
    omega (
      arith,
      length-append (month_top m.accepted m.refused ++ sums_text m.reads m.sum ++ longest_text m.time (month_tape m) m.file) (month_end m.saved v),
      length-append (month_top m.accepted m.refused ++ sums_text m.reads m.sum) (longest_text m.time (month_tape m) m.file),
      length-append (month_top m.accepted m.refused) (sums_text m.reads m.sum),
      top_few m.accepted m.refused w.accepted w.many w.refused,
      sums_few m.reads m.sum w.reads w.sum,
      longest_few m.time (month_tape m) m.file w.time (omega (arith, length-take m.letters m.tape, w.letters)) w.file,
      end_few m.saved v w.saved w.place,
    )

page_begins : (m : Month) (v : Verdict) → get_or (page_text m v) 0 0 ≡ 97
unfolding page_text month_top
page_begins m v = refl

pub month_is_whole : MonthIsWhole
month_is_whole m v w =
    takes_all month_row
    (λ row n row' p. record { text = page_text m v; bytes = p.bytes; left = p.left; short = page_few m v w; some = some_begun (page_text m v) 96 (page_begins m v) })
    (λ row n row' other k other' a b. refl)

-- A refusal's two lines.
pub refusal_is_whole : RefusalIsWhole
refusal_is_whole v l =
    takes_all refusal_row
    (λ row n row' a. record {
      text = refusal_text v;
      bytes = a.1.1 ∙ handed_bytes (refusal_text v) row a.0 row' a.1.0;
      left = handed_row (refusal_text v) row a.0 row' a.1.0;
      short = omega (arith, refusal_short v l);
      some = some_begun (refusal_text v) 113 (refusal_begins v);
    })
    (λ row n row' other k other' a b. refl)

-- The line of those who wait.
pub waiting_is_whole : WaitingIsWhole
waiting_is_whole ones twos row n row' put wide = (put.room (omega (arith, wide))).bytes

-- The changes of a mended sheet.
change_length : (n : ℕ) (word : List ℕ) → n < 2 ^ 64 → length word ≤ 7 → length (change_line n word) ≤ 36
change_length n word l m =
    omega (arith, length-append (bytes "change=" ++ decimal n) (line (comma ∷ []) word), length-append (bytes "change=") (decimal n), line_length (comma ∷ []) word, decimal_short n l)

change_if_length : (b : Bool) (n : ℕ) (word : List ℕ) → n < 2 ^ 64 → length word ≤ 7 → length (change_if b n word) ≤ 36
change_if_length true n word l m = change_length n word l m
change_if_length false n word l m = omega arith

fate_length : (n : ℕ) (f : Fate) → n < 2 ^ 64 → length (fate_line n f) ≤ 36
fate_length n Fate.Stays l = omega arith
fate_length n Fate.Moved l = change_length n (bytes "moved") l (omega arith)
fate_length n Fate.Added l = change_length n (bytes "added") l (omega arith)
fate_length n Fate.Dropped l = change_length n (bytes "dropped") l (omega arith)

fates_length : (above : ℕ) (files counts : List ℕ) (i : ℕ) → above + i < 2 ^ 64 → length (fate_lines above files counts i) ≤ i * 36
unfolding fate_lines
fates_length above files counts zero l = omega arith
fates_length above files counts (suc i) l =
    omega (
      arith,
      length-append (fate_lines above files counts i) (fate_line (above + (i + 1)) (fate_of files counts i)),
      fates_length above files counts i (omega arith),
      fate_length (above + (i + 1)) (fate_of files counts i) (omega arith),
    )

module _ (sheet : List ℕ) (short : length sheet ≤ 16384) where
  few_wants_here : length (wanted_files sheet) ≤ 2730
  unfolding wanted_files
  few_wants_here = omega (arith, short, wants_few sheet, length_each (λ i. first_in want_key (line_after i (loose_want_text sheet))) (loose_wants sheet))

  changes_few : length (changes_text sheet) ≤ changes_row
  unfolding changes_text
  changes_few =
      let files = few_files sheet in
      let wants = few_wants_here in
      let turn = change_if (price_left_out sheet) 3 (bytes "turn") in
      let rule = change_if (says_sweep sheet) 4 (bytes "rule") in
      let table = change_if (not (eqb (sheet_files sheet) (loose_files sheet))) 5 (bytes "files") in
      let said = change_if (not (eqb (wants_said sheet) (length (sheet_remaining sheet)))) (loose_files sheet + 6) (bytes "wants") in
      let fates = fate_lines (loose_files sheet + 6) (wanted_files sheet) (wanted_counts sheet) (length (wanted_files sheet)) in
      omega (
        arith,
        length-append (turn ++ rule ++ table ++ said) fates,
        length-append (turn ++ rule ++ table) said,
        length-append (turn ++ rule) table,
        length-append turn rule,
        change_if_length (price_left_out sheet) 3 (bytes "turn") (omega arith) (omega arith),
        change_if_length (says_sweep sheet) 4 (bytes "rule") (omega arith) (omega arith),
        change_if_length (not (eqb (sheet_files sheet) (loose_files sheet))) 5 (bytes "files") (omega arith) (omega arith),
        change_if_length (not (eqb (wants_said sheet) (length (sheet_remaining sheet)))) (loose_files sheet + 6) (bytes "wants") (omega (arith, files)) (omega arith),
        fates_length (loose_files sheet + 6) (wanted_files sheet) (wanted_counts sheet) (length (wanted_files sheet)) (omega (arith, files, wants)),
      )

  loose_few : first_bad_loose sheet ≤ place_most
  unfolding first_bad_loose first_bad_loose_top first_bad_loose_below
  loose_few =
      let files = few_files sheet in
      let wants = wants_few sheet in
      first_few place_most (first_bad_loose_top sheet ∷ first_bad_loose_below sheet ∷ []) (
        first_few place_most
            (unless (is_tape_line (line_after 0 sheet)) 1
            ∷ unless (is_number_line head_key (line_after 1 sheet)) 2
            ∷ unless (is_turn_line (line_after 2 sheet)) 3
            ∷ unless (is_rule_line (line_after 3 sheet)) 4
            ∷ unless (is_number_line files_key (line_after 4 sheet)) 5
            ∷ []) (
              unless_few (is_tape_line (line_after 0 sheet)) 1 place_most (omega arith),
              λ a. (
                unless_few (is_number_line head_key (line_after 1 sheet)) 2 place_most (omega arith),
                λ b. (
                  unless_few (is_turn_line (line_after 2 sheet)) 3 place_most (omega arith),
                  λ c. (unless_few (is_rule_line (line_after 3 sheet)) 4 place_most (omega arith), λ d. (unless_few (is_number_line files_key (line_after 4 sheet)) 5 place_most (omega arith), λ e. tt)),
                ),
              ),
            ),
        λ t. (
          first_few place_most
              (unless (is_number_line wants_key (line_of (loose_wants_text sheet))) (loose_files sheet + 6)
              ∷ unless (is_empty (loose_end sheet)) (loose_files sheet + loose_wants sheet + 7)
              ∷ []) (
                unless_few (is_number_line wants_key (line_of (loose_wants_text sheet))) (loose_files sheet + 6) place_most (omega (arith, files)),
                λ a. (unless_few (is_empty (loose_end sheet)) (loose_files sheet + loose_wants sheet + 7) place_most (omega (arith, short, files, wants)), λ b. tt),
              ),
          λ b. tt,
        ),
      )

pub mend_near : (sheet out notes : List ℕ) → (mend_verdict sheet out notes).place ≤ place_most
unfolding mend_verdict loose_verdict
mend_near sheet out notes =
    let texts = texts_verdicts (mended_text sheet) (changes_text sheet) out notes in
    first_near (loose_verdict sheet ∷ first_of (wants_verdicts sheet) ∷ first_of texts ∷ []) (
      first_near (refuse_if (ltb longest_sheet (length sheet)) LongSheet ∷ refuse_at (first_bad_loose sheet) BadLine ∷ []) (
        if_near (ltb longest_sheet (length sheet)) LongSheet,
        λ a. (at_near (first_bad_loose sheet) BadLine (loose_few sheet (ltb-false longest_sheet (length sheet) (accepts_if (ltb longest_sheet (length sheet)) LongSheet refl a))), λ b. tt),
      ),
      λ c. (
        first_near (wants_verdicts sheet) (if_near (ltb most_wants (length (sheet_remaining sheet))) WantRows, λ a. (if_near (ltb most_reads (reads_in_all (wanted_counts sheet))) TooManyReads, λ b. tt)),
        λ d. (
          first_near texts (
            if_near (ltb longest_sheet (length (mended_text sheet))) LongSheet,
            λ a. (if_near (ltb (length out) (length (mended_text sheet)) || ltb (length notes) (length (changes_text sheet))) ShortRow, λ b. tt),
          ),
          λ e. tt,
        ),
      ),
    )

-- 8 is none of the sheet's refusals, and of the texts' none that applies.
not_of_sheet : (sheet : List ℕ) {kind : Refusal} {place : ℕ} → FirstThatApplies (SheetApplies sheet) sheet_order kind place → kind ≡ ShortRow → ⊥
not_of_sheet sheet (here h) e = omega (arith, ap number_of e)
not_of_sheet sheet (later a (here h)) e = omega (arith, ap number_of e)
not_of_sheet sheet (later a (later b (here h))) e = omega (arith, ap number_of e)
not_of_sheet sheet (later a (later b (later c (here h)))) e = omega (arith, ap number_of e)
not_of_sheet sheet (later a (later b (later c (later d none)))) e = omega (arith, ap number_of e)

not_of_texts : (text changes out notes : List ℕ) → sheet_row ≤ length out → length changes ≤ length notes → {kind : Refusal} {place : ℕ} → FirstThatApplies (TextsApply text changes out notes) texts_order kind place → kind ≡ ShortRow → ⊥
not_of_texts text changes out notes wide long (here h) e = omega (arith, ap number_of e)
not_of_texts text changes out notes wide long (later a (here (short_row s))) e =
    by_cases (dec_lt 16384 (length text)) (λ l. a 0 (long_text l)) (λ n. ⊎_elim (λ h. omega arith) (λ h. omega arith) s)
not_of_texts text changes out notes wide long (later a (later b none)) e = omega (arith, ap number_of e)

pub mend_is_whole : MendIsWhole
mend_is_whole sheet out notes r out' notes' h wide long =
    let m = mender_refuses sheet out notes r out' notes' h in
    record {
      fits = λ e. let clear : SomeApplies (SheetApplies sheet) sheet_order → ⊥ = λ s. not_of_sheet sheet (m.of_sheet s) e in
          not_of_texts (mended_text sheet) (changes_text sheet) out notes wide (omega (arith, changes_few sheet (nothing_applies sheet clear).within)) (m.of_texts clear) e;
      text = λ a. (mended_rows sheet out notes r out' notes' h a).text;
      changes = λ a. (mended_rows sheet out notes r out' notes' h a).changes;
      near = omega (arith, (says sheet out notes r out' notes' h).1, mend_near sheet out notes);
    }

-- A rewritten sheet.
kinds : (b : Bool) (n : ℕ) (c : Bool) → number_of (first_of (first_of (refuse_if b LongSheet ∷ refuse_at n BadLine ∷ []) ∷ refuse_if c LongSheet ∷ [])).refusal ≡ 8 → ⊥
kinds true n c e = omega (arith, e)
kinds false (suc n) c e = omega (arith, e)
kinds false zero true e = omega (arith, e)
kinds false zero false e = omega (arith, e)

module _ (sheet row : List ℕ) (wide : sheet_row ≤ length row) where
  abbrev result : List ℕ
  result = rewritten sheet

  abbrev long : Bool
  long = ltb longest_sheet (length result)

  row_passes : rewrite_verdict sheet row ≡ first_of (sheet_verdict sheet ∷ refuse_if long LongSheet ∷ [])
  unfolding rewrite_verdict row_verdict
  row_passes = go long refl
    where
      go : (b : Bool) → long ≡ b → rewrite_verdict sheet row ≡ first_of (sheet_verdict sheet ∷ refuse_if long LongSheet ∷ [])
      go true e = rw e
      go false e = let few = ltb-false longest_sheet (length result) e in rw (e, le-ltb (length row) (length result) (omega arith))

  not_short : (rewrite_verdict sheet row).refusal ≡ ShortRow → ⊥
  unfolding sheet_verdict
  not_short e = kinds (ltb longest_sheet (length sheet)) (first_bad_line sheet) long (ap (λ v. number_of v.refusal) (sym row_passes) ∙ ap number_of e)

  rewrite_near : (rewrite_verdict sheet row).place ≤ place_most
  rewrite_near = rw row_passes (first_near (sheet_verdict sheet ∷ refuse_if long LongSheet ∷ []) (sheet_near sheet, λ a. (if_near long LongSheet, λ b. tt)))

pub rewrite_is_whole : RewriteIsWhole
unfolding rewrite_verdict written_answer written_row
rewrite_is_whole sheet row r row' h wide =
    let vs = sheet_verdict sheet ∷ refuse_if (ltb longest_sheet (length (rewritten sheet))) LongSheet ∷ row_verdict (rewritten sheet) row ∷ [] in
    let t = told vs (rewritten sheet) row r row' h in
    record {
      fits = λ e. not_short sheet row wide (sym t.kind ∙ e);
      text = λ a.
          ⊎_elim
          (λ (e : refuses (rewrite_verdict sheet row) ≡ true). absurd (true≢false (sym e ∙ ap is_refusal (sym t.kind ∙ a))))
          (λ (e : refuses (rewrite_verdict sheet row) ≡ false).
          let size : r.bytes ≡ length (rewritten sheet) = ap (λ (x : Written). x.bytes) h.answer ∙ rw e in
          let left : row' ≡ rewritten sheet ++ drop (length (rewritten sheet)) row = h.left ∙ rw e in
          rw (size, left) (take-append_seam (rewritten sheet) (drop (length (rewritten sheet)) row)))
          (true_or_false (refuses (rewrite_verdict sheet row)));
      near = omega (arith, t.place, rewrite_near sheet row wide);
    }
