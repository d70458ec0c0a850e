-- The promises of the request on mending.
use Prim.Native.Nat.{ℕ, zero, suc, ◌+◌, ◌≤◌, ◌<◌}
use mathlib.Core.Path.{◌≡◌, refl, ap, sym, ◌∙◌, subst}
use mathlib.Core.Bool.{Bool, true, false, true≢false, not, cond}
use mathlib.Core.List.{List, [], ◌∷◌, ◌++◌}
use native.Mathlib.Omega.{arith}
use lib.ListN.{length, drop, get_or}
use lib.Seq.{take-append_seam, drop-append_seam}
use lib.Dec.{eqb, ltb}
use borrow.Author.Tests.{eq-eqb, ne_eqb, eqb-true, eqb-false, lt-ltb, le-ltb, ltb-true, ltb-false}
use Rattle.refusals.specs.declared.Refusal.{Refusal}
use Rattle.refusals.specs.declared.Refusal.TheVariants.{Accepted, WantRows, TooManyReads, BadLine, LongSheet}
use Rattle.refusals.specs.declared.Verdict.{Verdict}
use Rattle.refusals.specs.Refusals.{is_refusal, accepted, refuse_if, refuse_at, first_of}
use Rattle.refusals.proofs.Verdicts.{all_accept, accepts_if, accepts_at}
use Rattle.runs.specs.Run.{most_wants, most_reads}
use Rattle.runs.specs.Lists.{any_below}
use Rattle.runs.proofs.Search.{any_here}
use Rattle.sheet_reader.specs.Reading.{read_row}
use Rattle.text_bytes.specs.Text.{bytes, is_empty, starts_with, is_text}
use Rattle.text_bytes.proofs.Bytes.{and_true_both}
use Rattle.text_bytes.proofs.Split.{key_split, whole_key}
use Rattle.sheet_reader.specs.Lines.{turn_key, rule_key, sweep_text, want_key, names_sweep}
use Rattle.sheet_reader.specs.Sheet.{longest_sheet, sheet_turn, says_sweep, sheet_files, file_text, sheet_run}
use Rattle.sheet_reader.proofs.Rows.{length_each}
use Rattle.sheet_loose.specs.Loose.{loose_files, loose_want_text, loose_wants, wants_said, price_left_out, first_bad_loose, wanted_files, wanted_counts}
use Rattle.sheet_loose.specs.Reading.{loose_verdict}
use Rattle.answer_mend.specs.declared.Mended.{Mended}
use Rattle.answer_mend.specs.declared.wants.Fate.{Fate}
use Rattle.answer_mend.specs.declared.wants.Fate.TheVariants.{Stays, Moved, Added, Dropped}
use Rattle.answer_mend.specs.Wants.{reads_in_all, asked_of, reads_of_want, same_above, higher_above, fate_of}
use Rattle.answer_mend.specs.Mending.{first_lines, sheet_remaining, sheet_reads, mended_text, change_if, changes_text, fate_line, fate_lines, wants_verdicts, texts_verdicts, mend_verdict, SheetMended}
use Rattle.answer_mend.proofs.Answers.{mend_determined}
use Rattle.demands.proofs.Judged.{nothing_judged}
use Rattle.promises.specs.Mends.{InRows, MendedRows, MendingDetermined, WasMended, SameReads, ReadsKept, SheetInOrder, MendedInOrder, MendedIsRead, SameFile, HigherFile, FateBy, FatesByConditions, FateSaid, FatesSaid, ListedWhen, EveryChangeListed, OnceIsEnough, AcceptedComesBack, AcceptedAsWritten, AcceptedTaken}
use Rattle.promises.proofs.Gathered.{rising_at, Clean, remaining_clean, clean_remaining, clean_each, clean_stays, reads_kept, total_kept}
use Rattle.runs.specs.Judging.{judge_of}
use Rattle.text_lines.specs.Lines.{after_lines, line_after, value_text, first_in}
use Rattle.sheet_reader.specs.Reading.{sheet_verdict, rule_verdict}
use Rattle.promises.proofs.Early.{none_early, early_read, early_least}
use Rattle.promises.proofs.Same.{empty_is, fair_wants, old_sheet_lem, new_sheet, same_sheet, one_change}
use Rattle.promises.proofs.Written.{written_so, mended_short}
use Rattle.promises.proofs.Taken.{reads_total, reads_by_file, taken, five_longer}
use Rattle.promises.proofs.Strict.{strict, numbers_read, counts_read}
use Rattle.promises.proofs.Again.{lines_even, upper_again, turn_again, price_there, rule_there, files_said, files_again, table_again, wants_said_lem, wants_again, named_again, asked_again, good_again, remaining_once, reads_once, fates_none}

accepted_passes : (kind : Refusal) → kind ≡ Accepted → is_refusal kind ≡ false
accepted_passes kind e = rw e

pub mended_rows : MendedRows
unfolding read_row
mended_rows sheet out notes answer out' notes' h e = go (is_refusal v.refusal) refl
  where
    v : Verdict
    v = mend_verdict sheet out notes

    go : (b : Bool) → is_refusal v.refusal ≡ b → InRows sheet out notes answer out' notes'
    go true refused =
        let kind : answer.refusal ≡ v.refusal = ap (λ a. a.refusal) h.answer ∙ rw refused in
        absurd (true≢false (sym refused ∙ accepted_passes v.refusal (sym kind ∙ e)))
    go false passed =
        let bytes : answer.bytes ≡ length (mended_text sheet) = ap (λ a. a.bytes) h.answer ∙ rw passed in
        let noted : answer.noted ≡ length (changes_text sheet) = ap (λ a. a.noted) h.answer ∙ rw passed in
        let row : out' ≡ mended_text sheet ++ drop (length (mended_text sheet)) out = h.sheet ∙ rw passed in
        let list : notes' ≡ changes_text sheet ++ drop (length (changes_text sheet)) notes = h.listed ∙ rw passed in
        record {
          counted = (bytes, noted);
          text = rw (bytes, row) (take-append_seam (mended_text sheet) (drop (length (mended_text sheet)) out));
          below = rw (bytes, row) (drop-append_seam (mended_text sheet) (drop (length (mended_text sheet)) out));
          changes = rw (noted, list) (take-append_seam (changes_text sheet) (drop (length (changes_text sheet)) notes));
          behind = rw (noted, list) (drop-append_seam (changes_text sheet) (drop (length (changes_text sheet)) notes));
        }

pub mending_determined : MendingDetermined
mending_determined = mend_determined

-- What it says of a sheet that 12, 11, 3 and 5 do not apply to it.
pub record Facts (sheet : List ℕ) : Type 0 where
  pub within : length sheet ≤ longest_sheet
  pub good : first_bad_loose sheet ≡ 0
  pub few : length (sheet_remaining sheet) ≤ most_wants
  pub reads : reads_in_all (wanted_counts sheet) ≤ most_reads

accepted_verdict : (sheet out notes : List ℕ) (answer : Mended) (out' notes' : List ℕ) → SheetMended sheet out notes answer out' notes' → answer.refusal ≡ Accepted
    → is_refusal (mend_verdict sheet out notes).refusal ≡ false
accepted_verdict sheet out notes answer out' notes' h e = go (is_refusal (mend_verdict sheet out notes).refusal) refl
  where
    go : (b : Bool) → is_refusal (mend_verdict sheet out notes).refusal ≡ b → is_refusal (mend_verdict sheet out notes).refusal ≡ false
    go true refused =
        let kind : answer.refusal ≡ (mend_verdict sheet out notes).refusal = ap (λ a. a.refusal) h.answer ∙ rw refused in
        accepted_passes (mend_verdict sheet out notes).refusal (sym kind ∙ e)
    go false passed = passed

facts : (sheet out notes : List ℕ) → is_refusal (mend_verdict sheet out notes).refusal ≡ false → Facts sheet × (length (mended_text sheet) ≤ longest_sheet)
unfolding mend_verdict loose_verdict
facts sheet out notes passed =
    let all = all_accept (loose_verdict sheet ∷ first_of (wants_verdicts sheet) ∷ first_of (texts_verdicts (mended_text sheet) (changes_text sheet) out notes) ∷ []) passed in
    let read = all_accept (refuse_if (ltb longest_sheet (length sheet)) LongSheet ∷ refuse_at (first_bad_loose sheet) BadLine ∷ []) all.0 in
    let wants = all_accept (wants_verdicts sheet) all.1.0 in
    let texts = all_accept (texts_verdicts (mended_text sheet) (changes_text sheet) out notes) all.1.1.0 in (
      record {
        within = ltb-false longest_sheet (length sheet) (accepts_if (ltb longest_sheet (length sheet)) LongSheet refl read.0);
        good = accepts_at (first_bad_loose sheet) BadLine refl read.1.0;
        few = ltb-false most_wants (length (sheet_remaining sheet)) (accepts_if (ltb most_wants (length (sheet_remaining sheet))) WantRows refl wants.0);
        reads = ltb-false most_reads (reads_in_all (wanted_counts sheet)) (accepts_if (ltb most_reads (reads_in_all (wanted_counts sheet))) TooManyReads refl wants.1.0);
      },
      ltb-false longest_sheet (length (mended_text sheet)) (accepts_if (ltb longest_sheet (length (mended_text sheet))) LongSheet refl texts.0),
    )

module _ (sheet text : List ℕ) (m : WasMended sheet text) where
  judged : Facts sheet × (length (mended_text sheet) ≤ longest_sheet)
  judged = facts sheet m.out m.notes (accepted_verdict sheet m.out m.notes m.answer m.out' m.notes' m.contract m.accepted)

  pub known : Facts sheet
  known = judged.0

  pub not_long : length (mended_text sheet) ≤ longest_sheet
  not_long = judged.1

  pub text_mended : text ≡ mended_text sheet
  text_mended = sym m.text_is ∙ (mended_rows sheet m.out m.notes m.answer m.out' m.notes' m.contract m.accepted).text

-- What the mended sheet of such a sheet is.
module _ (sheet text : List ℕ) (k : Facts sheet) (e : text ≡ mended_text sheet) where
  abbrev row : List ℕ
  row = sheet_remaining sheet

  abbrev asked : List ℕ
  asked = sheet_reads sheet

  named : wanted_files text ≡ row
  named = ap wanted_files e ∙ named_again sheet k.good k.few k.reads

  counted : wanted_counts text ≡ asked
  counted = ap wanted_counts e ∙ asked_again sheet k.good k.few k.reads

  total_is : reads_in_all asked ≡ reads_in_all (wanted_counts sheet)
  unfolding sheet_remaining sheet_reads
  total_is = total_kept (wanted_files sheet) (wanted_counts sheet) (lines_even sheet k.good k.few k.reads)

  row_clean : Clean row asked
  unfolding sheet_remaining sheet_reads
  row_clean = remaining_clean (wanted_files sheet) (wanted_counts sheet)

  file_kept_here : (file : ℕ) → reads_of_want row asked file ≡ reads_of_want (wanted_files sheet) (wanted_counts sheet) file
  unfolding sheet_remaining sheet_reads
  file_kept_here file = reads_kept (wanted_files sheet) (wanted_counts sheet) file

  pub same_reads : SameReads sheet text
  same_reads =
      record {
        each = λ file.
            rw (named, counted)
            (sym (reads_by_file row asked row_clean.even file) ∙ file_kept_here file ∙ reads_by_file (wanted_files sheet) (wanted_counts sheet) (lines_even sheet k.good k.few k.reads) file);
        in_all = rw counted (sym (reads_total asked) ∙ total_is ∙ reads_total (wanted_counts sheet));
      }

  pub in_order : SheetInOrder text
  in_order =
      record {
        described = ap first_bad_loose e ∙ good_again sheet k.good k.few k.reads;
        wants = rw (named, counted) (record { even = row_clean.even; ascending = λ i j. rising_at 0 row row_clean.rising i j; some = row_clean.some });
        few = rw named k.few;
        files_said = rw e (files_said sheet k.good k.few k.reads ∙ sym (files_again sheet k.good k.few k.reads));
        wants_said = rw e (wants_said_lem sheet k.good k.few k.reads ∙ sym (wants_again sheet k.good k.few k.reads));
      }

pub reads_are_kept : ReadsKept
reads_are_kept sheet text m = same_reads sheet text (known sheet text m) (text_mended sheet text m)

pub mended_in_order : MendedInOrder
mended_in_order sheet text m = in_order sheet text (known sheet text m) (text_mended sheet text m)

pub mended_is_read : MendedIsRead
unfolding sheet_verdict rule_verdict
mended_is_read sheet text m =
    let k = known sheet text m in
    let e = text_mended sheet text m in
    let order = in_order sheet text k e in
    let short : length text ≤ longest_sheet = rw e (not_long sheet text m) in
    let few : loose_wants text ≤ most_wants = rw (e, wants_again sheet k.good k.few k.reads) k.few in
    let least : says_sweep text ≡ false = ap says_sweep e ∙ rule_there sheet k.good k.few k.reads in
    record {
      taken = none_early text (rw (le-ltb longest_sheet (length text) short, strict text order.described order.files_said order.wants_said few)) (rw least);
      numbers = numbers_read text order.described order.files_said order.wants_said few;
      counts = counts_read text order.described order.files_said order.wants_said few;
    }

-- A sheet with the parts of another has its mended text; one with nothing to change lists none.
same_parts : (t sheet : List ℕ) → first_lines 2 t ≡ first_lines 2 sheet → sheet_turn t ≡ sheet_turn sheet → first_lines (loose_files t) (file_text t) ≡ first_lines (loose_files sheet) (file_text sheet)
    → loose_files t ≡ loose_files sheet → sheet_remaining t ≡ sheet_remaining sheet → sheet_reads t ≡ sheet_reads sheet → mended_text t ≡ mended_text sheet
unfolding mended_text
same_parts t sheet upper turn table files wants reads = rw (upper, turn, table, files, wants, reads)

no_changes : (t : List ℕ) → price_left_out t ≡ false → says_sweep t ≡ false → sheet_files t ≡ loose_files t → wants_said t ≡ length (sheet_remaining t)
    → fate_lines (loose_files t + 6) (wanted_files t) (wanted_counts t) (length (wanted_files t)) ≡ [] → changes_text t ≡ []
unfolding changes_text
no_changes t price rule files wants fates = rw (price, rule, eq-eqb (sheet_files t) (loose_files t) files, eq-eqb (wants_said t) (length (sheet_remaining t)) wants, fates)

module _ (sheet text : List ℕ) (m : WasMended sheet text) where
  known₂ : Facts sheet
  known₂ = known sheet text m

  wants_same_here : sheet_remaining text ≡ sheet_remaining sheet
  wants_same_here = remaining_once text (sheet_remaining sheet) (sheet_reads sheet) (named sheet text (known sheet text m) (text_mended sheet text m)) (counted sheet text (known sheet text m) (text_mended sheet text m)) (clean_remaining (sheet_remaining sheet) (sheet_reads sheet) (row_clean sheet text (known sheet text m) (text_mended sheet text m)))

  reads_same : sheet_reads text ≡ sheet_reads sheet
  reads_same = reads_once text (sheet_remaining sheet) (sheet_reads sheet) (named sheet text (known sheet text m) (text_mended sheet text m)) (counted sheet text (known sheet text m) (text_mended sheet text m)) wants_same_here (clean_each (sheet_remaining sheet) (sheet_reads sheet) (row_clean sheet text (known sheet text m) (text_mended sheet text m)))

  mended_again : mended_text text ≡ text
  mended_again =
      let k = known₂ in
      let e = text_mended sheet text m in
      same_parts text sheet (ap (first_lines 2) e ∙ upper_again sheet k.good k.few k.reads) (ap sheet_turn e ∙ turn_again sheet k.good k.few k.reads)
      (ap (λ t. first_lines (loose_files t) (file_text t)) e ∙ table_again sheet k.good k.few k.reads) (ap loose_files e ∙ files_again sheet k.good k.few k.reads) wants_same_here reads_same
      ∙ sym e

  unchanged : changes_text text ≡ []
  unchanged =
      let k = known₂ in
      let e = text_mended sheet text m in
      let order = in_order sheet text k e in
      no_changes text (ap price_left_out e ∙ price_there sheet k.good k.few k.reads) (ap says_sweep e ∙ rule_there sheet k.good k.few k.reads) order.files_said
      (ap wants_said e ∙ wants_said_lem sheet k.good k.few k.reads ∙ ap length (sym wants_same_here))
      (rw (named sheet text k e, counted sheet text k e)
      (fates_none (loose_files text + 6) (sheet_remaining sheet) (sheet_reads sheet) (length (sheet_remaining sheet)) (clean_stays (sheet_remaining sheet) (sheet_reads sheet) (row_clean sheet text k e))))

  -- Given a row that takes it, it is accepted.
  accepted_again : (out notes : List ℕ) → length text ≤ length out → mend_verdict text out notes ≡ accepted
  unfolding mend_verdict loose_verdict
  accepted_again out notes fits =
      let k = known₂ in
      let e = text_mended sheet text m in
      let short : length text ≤ longest_sheet = rw e (not_long sheet text m) in
      let reads : reads_in_all (wanted_counts text) ≤ most_reads = rw (counted sheet text k e, total_is sheet text k e) k.reads in
      rw (
        le-ltb longest_sheet (length text) short,
        (in_order sheet text k e).described,
        wants_same_here,
        le-ltb most_wants (length (sheet_remaining sheet)) k.few,
        le-ltb most_reads (reads_in_all (wanted_counts text)) reads,
        mended_again,
        unchanged,
        le-ltb longest_sheet (length text) short,
        le-ltb (length out) (length text) fits,
        le-ltb (length notes) 0 (omega arith),
      )

pub once_is_enough : OnceIsEnough
unfolding read_row
once_is_enough sheet text m out notes answer out' notes' h fits =
    let v = accepted_again sheet text m out notes fits in
    let same = mended_again sheet text m in
    let none = unchanged sheet text m in
    let row : out' ≡ text ++ drop (length text) out = h.sheet ∙ rw (v, same) in
    (h.answer ∙ rw (v, same, none), rw row (take-append_seam text (drop (length text) out)))

-- A line's fate by its conditions.
module _ (files counts : List ℕ) (line : ℕ) where
  abbrev asks : ℕ → Bool
  asks i = not (eqb (asked_of (get_or files line 0) (get_or files i 0) (get_or counts i 0)) 0)

  abbrev above-it : ℕ → Bool
  above-it i = ltb (get_or files line 0) (get_or files i 0)

  any_none : (test : ℕ → Bool) (n : ℕ) → ((i : ℕ) → i < n → test i ≡ false) → any_below test n ≡ false
  unfolding any_below
  any_none test zero h = refl
  any_none test (suc n) h = rw (any_none test n (λ i l. h i (omega arith)), h n (omega arith))

  same_there : (above : ℕ) → SameFile files counts line above → same_above files counts line ≡ true
  unfolding same_above
  same_there above p = any_here asks above line (rw (eq-eqb (get_or files above 0) (get_or files line 0) p.same, ne_eqb (get_or counts above 0) 0 p.some)) p.higher_up

  same_nowhere : ((above : ℕ) → SameFile files counts line above → ⊥) → same_above files counts line ≡ false
  unfolding same_above
  same_nowhere none = any_none asks line (λ i l. go i l (eqb (get_or files i 0) (get_or files line 0)) refl (eqb (get_or counts i 0) 0) refl)
    where
      go : (i : ℕ) → i < line → (s : Bool) → eqb (get_or files i 0) (get_or files line 0) ≡ s → (z : Bool) → eqb (get_or counts i 0) 0 ≡ z → not (eqb (cond s (get_or counts i 0) 0) 0) ≡ false
      go i l true s true z = rw z
      go i l true s false z = absurd (none i (record { higher_up = l; same = eqb-true (get_or files i 0) (get_or files line 0) s; some = eqb-false (get_or counts i 0) 0 z }))
      go i l false s z e = refl

  higher_there : (above : ℕ) → HigherFile files line above → higher_above files line ≡ true
  unfolding higher_above
  higher_there above p = any_here above-it above line (lt-ltb (get_or files line 0) (get_or files above 0) p.higher) p.higher_up

  higher_nowhere : ((above : ℕ) → HigherFile files line above → ⊥) → higher_above files line ≡ false
  unfolding higher_above
  higher_nowhere none = any_none above-it line (λ i l. go i l (ltb (get_or files line 0) (get_or files i 0)) refl)
    where
      go : (i : ℕ) → i < line → (t : Bool) → ltb (get_or files line 0) (get_or files i 0) ≡ t → ltb (get_or files line 0) (get_or files i 0) ≡ false
      go i l true t = absurd (none i (record { higher_up = l; higher = ltb-true (get_or files line 0) (get_or files i 0) t }))
      go i l false t = t

  fate_by : FateBy files counts line (fate_of files counts line)
  unfolding fate_of
  fate_by =
      record {
        dropped = λ z. rw (eq-eqb (get_or counts line 0) 0 z);
        added = λ some above p. rw (ne_eqb (get_or counts line 0) 0 some, same_there above p);
        moved = λ some none above p. rw (ne_eqb (get_or counts line 0) 0 some, same_nowhere none, higher_there above p);
        stays = λ some none low. rw (ne_eqb (get_or counts line 0) 0 some, same_nowhere none, higher_nowhere low);
      }

pub fates_by_conditions : FatesByConditions
fates_by_conditions files counts line = fate_by files counts line

-- What is said of the want lines.
fate_said : (n : ℕ) (fate : Fate) → FateSaid n fate (fate_line n fate)
fate_said n Stays = FateSaid.nothing
fate_said n Moved = FateSaid.moved
fate_said n Added = FateSaid.added
fate_said n Dropped = FateSaid.dropped

fates_said : (files counts : List ℕ) (above n : ℕ) → FatesSaid files counts above n (fate_lines above files counts n)
unfolding fate_lines
fates_said files counts above zero = FatesSaid.of_none
fates_said files counts above (suc n) = FatesSaid.of_one_more (fates_said files counts above n) (fate_by files counts n) (fate_said (above + (n + 1)) (fate_of files counts n))

-- A part of the changes, from its test.
listed_when : (Changes : Type 0) (test : Bool) (n : ℕ) (word : List ℕ) → (test ≡ true → Changes) → (test ≡ false → Changes → ⊥) → ListedWhen Changes (change_if test n word) n word
listed_when Changes true n word changes stays = record { something = λ c. refl; nothing = λ none. absurd (none (changes refl)) }
listed_when Changes false n word changes stays = record { something = λ c. absurd (stays refl c); nothing = λ none. refl }

-- A count that is not the number of lines.
count_listed : (said lines n : ℕ) (word : List ℕ) → ListedWhen (said ≡ lines → ⊥) (change_if (not (eqb said lines)) n word) n word
count_listed said lines n word = go (eqb said lines) refl
  where
    go : (t : Bool) → eqb said lines ≡ t → ListedWhen (said ≡ lines → ⊥) (change_if (not (eqb said lines)) n word) n word
    go true t = rw t (listed_when (said ≡ lines → ⊥) false n word (λ e. absurd (true≢false (sym e))) (λ e other. other (eqb-true said lines t)))
    go false t = rw t (listed_when (said ≡ lines → ⊥) true n word (λ e. eqb-false said lines t) (λ e. absurd (true≢false e)))

price_given : (text : List ℕ) → is_empty text ≡ false → text ≡ [] → ⊥
price_given text some e = true≢false (ap is_empty (sym e) ∙ some)

sweep_line : (text : List ℕ) → names_sweep text ≡ true → text ≡ rule_key ++ sweep_text
unfolding names_sweep
sweep_line text e =
    let both = and_true_both (starts_with rule_key text) (is_text sweep_text (value_text rule_key text)) e in
    let is = and_true_both (eqb (length sweep_text) (length (value_text rule_key text))) (starts_with sweep_text (value_text rule_key text)) both.1 in
    key_split rule_key text both.0 ∙ ap (λ t. rule_key ++ t) (whole_key sweep_text (value_text rule_key text) (eqb-true (length sweep_text) (length (value_text rule_key text)) is.0) is.1)

sweep_named : names_sweep (rule_key ++ sweep_text) ≡ true
unfolding names_sweep starts_with
sweep_named = refl

turn_listed : (sheet : List ℕ) → ListedWhen (value_text turn_key (line_after 2 sheet) ≡ []) (change_if (price_left_out sheet) 3 (bytes "turn")) 3 (bytes "turn")
unfolding price_left_out
turn_listed sheet =
    let value = value_text turn_key (line_after 2 sheet) in
    listed_when (value ≡ []) (is_empty value) 3 (bytes "turn") (empty_is value) (price_given value)

lines_many : (sheet : List ℕ) → length (wanted_files sheet) ≡ loose_wants sheet
unfolding wanted_files
lines_many sheet = length_each (λ i. first_in want_key (line_after i (loose_want_text sheet))) (loose_wants sheet)

pub every_change_listed : EveryChangeListed
unfolding changes_text says_sweep
every_change_listed sheet text m =
    let k = known sheet text m in
    let e = text_mended sheet text m in
    let files-are : loose_files text ≡ loose_files sheet = ap loose_files e ∙ files_again sheet k.good k.few k.reads in
    let wants-are : loose_wants text ≡ length (sheet_remaining sheet) = ap loose_wants e ∙ wants_again sheet k.good k.few k.reads in
    let fates = fate_lines (loose_files sheet + 6) (wanted_files sheet) (wanted_counts sheet) (length (wanted_files sheet)) in
    record {
      turn = change_if (price_left_out sheet) 3 (bytes "turn");
      rule = change_if (says_sweep sheet) 4 (bytes "rule");
      files = change_if (not (eqb (sheet_files sheet) (loose_files sheet))) 5 (bytes "files");
      wants = change_if (not (eqb (wants_said sheet) (length (sheet_remaining sheet)))) (loose_files sheet + 6) (bytes "wants");
      fates = fates;
      whole = (mended_rows sheet m.out m.notes m.answer m.out' m.notes' m.contract m.accepted).changes;
      turn_line = turn_listed sheet;
      rule_line = listed_when (line_after 3 sheet ≡ rule_key ++ sweep_text) (says_sweep sheet) 4 (bytes "rule") (sweep_line (line_after 3 sheet)) (λ least is. true≢false (sym sweep_named ∙ ap names_sweep (sym is) ∙ least));
      files_line = rw files-are (count_listed (sheet_files sheet) (loose_files sheet) 5 (bytes "files"));
      wants_line = rw wants-are (count_listed (wants_said sheet) (length (sheet_remaining sheet)) (loose_files sheet + 6) (bytes "wants"));
      want_lines = subst (λ (n : ℕ). FatesSaid (wanted_files sheet) (wanted_counts sheet) (loose_files sheet + 6) n fates) (lines_many sheet) (fates_said (wanted_files sheet) (wanted_counts sheet) (loose_files sheet + 6) (length (wanted_files sheet)));
    }

-- A price that is left out, or not.
left_out_so : (sheet : List ℕ) → value_text turn_key (line_after 2 sheet) ≡ [] → price_left_out sheet ≡ true
unfolding price_left_out
left_out_so sheet e = ap is_empty e

not_left_out : (sheet : List ℕ) → (value_text turn_key (line_after 2 sheet) ≡ [] → ⊥) → price_left_out sheet ≡ false
unfolding price_left_out
not_left_out sheet some = go (is_empty (value_text turn_key (line_after 2 sheet))) refl
  where
    go : (b : Bool) → is_empty (value_text turn_key (line_after 2 sheet)) ≡ b → is_empty (value_text turn_key (line_after 2 sheet)) ≡ false
    go true e = absurd (some (empty_is (value_text turn_key (line_after 2 sheet)) e))
    go false e = e

pub accepted_comes_back : AcceptedComesBack
unfolding sheet_run
accepted_comes_back sheet none nothing =
    let good : is_refusal (sheet_verdict sheet).refusal ≡ false = rw (early_read sheet none) in
    let least = early_least sheet none in
    let run = nothing_judged (sheet_run sheet) nothing in
    record {
      above = first_lines 2 sheet;
      back = after_lines 3 sheet;
      old = old_sheet_lem sheet good (fair_wants sheet run) least;
      new = new_sheet sheet good (fair_wants sheet run) least;
      given = λ some. same_sheet sheet good (fair_wants sheet run) least (not_left_out sheet some);
      listed = subst (λ (part : List ℕ). ListedWhen (value_text turn_key (line_after 2 sheet) ≡ []) part 3 (bytes "turn")) (sym (one_change sheet good (fair_wants sheet run) least)) (turn_listed sheet);
    }

pub accepted_as_written : AcceptedAsWritten
accepted_as_written sheet none nothing = written_so sheet (rw (early_read sheet none)) (nothing_judged (sheet_run sheet) nothing) (early_least sheet none)

pub accepted_taken : AcceptedTaken
accepted_taken sheet none nothing out notes answer out' notes' h row list =
    record { taken = fits; given = λ some. given (not_left_out sheet some); left_out = λ e. five_longer sheet good run least (left_out_so sheet e) }
  where
    good : is_refusal (sheet_verdict sheet).refusal ≡ false
    good = rw (early_read sheet none)

    least : says_sweep sheet ≡ false
    least = early_least sheet none

    run : is_refusal (judge_of (sheet_run sheet)).refusal ≡ false
    run = nothing_judged (sheet_run sheet) nothing

    fits : answer ≡ record { refusal = Accepted; place = 0; bytes = length (mended_text sheet); noted = length (changes_text sheet) }
    fits = h.answer ∙ rw (taken sheet good run least out notes (mended_short sheet good run least) row list)

    given : price_left_out sheet ≡ false → answer ≡ record { refusal = Accepted; place = 0; bytes = length sheet; noted = 0 }
    given there =
        let same = same_sheet sheet good (fair_wants sheet run) least there in
        let none : changes_text sheet ≡ [] = one_change sheet good (fair_wants sheet run) least ∙ rw there in
        fits ∙ rw (same, none)
