-- What the mender leaves alone, line by line; and where it lists no change, all of it.
use Prim.Native.Nat.{ℕ, zero, suc, ◌+◌, ◌≤◌, ◌<◌}
use mathlib.Core.Path.{◌≡◌, refl, ap, sym, ◌∙◌}
use mathlib.Core.Bool.{Bool, true, false, not, ◌||◌}
use mathlib.Core.Logic.{⊎_elim}
use mathlib.Core.List.{List, [], ◌∷◌, ◌++◌}
use native.Mathlib.Omega.{arith}
use native.Mathlib.Decide.{dec_lt}
use lib.ListN.{length, get_or}
use lib.Dec.{eqb}
use borrow.Author.Tests.{eqb-true, not-false, le-ltb}
use Rattle.refusals.proofs.Verdicts.{refuses}
use Rattle.runs.specs.Run.{most_wants}
use Rattle.runs.proofs.Search.{true_or_false}
use Rattle.text_bytes.specs.Text.{bytes, is_empty, is_number, starts_with, decimal}
use Rattle.text_bytes.proofs.Bytes.{and_true_both}
use Rattle.text_bytes.proofs.Split.{key_split}
use Rattle.text_lines.specs.Lines.{line_after, value_text, first_in}
use Rattle.sheet_reader.specs.Lines.{turn_key, want_key, is_turn_line, turn_with, empty_turn}
use Rattle.sheet_reader.specs.Sheet.{longest_sheet, sheet_turn, sheet_turn_with, says_sweep, sheet_files, file_text, sheet_run}
use Rattle.sheet_reader.specs.Reading.{sheet_verdict}
use Rattle.sheet_reader.proofs.Rows.{length_each}
use Rattle.sheet_loose.specs.Loose.{loose_files, loose_want_text, loose_wants, wants_said, price_left_out, wanted_files, wanted_counts}
use Rattle.answer_mend.specs.declared.wants.Fate.{Fate}
use Rattle.answer_mend.specs.declared.wants.Fate.TheVariants.{Stays, Moved, Added, Dropped}
use Rattle.answer_mend.specs.Wants.{fate_of}
use Rattle.answer_mend.specs.Mending.{sheet_remaining, mended_text, change_if, changes_text, fate_line, fate_lines}
use Rattle.promises.specs.Mends.{SameFile, HigherFile}
use Rattle.promises.specs.Mender.{FileLine, LeftAlone, MenderLeavesAlone, UnlistedIsSame}
use Rattle.promises.proofs.Gathered.{Clean, clean_remaining}
use Rattle.promises.proofs.Copied.{copied_line}
use Rattle.promises.proofs.Again.{lines_even, line₀, line₁, line₂, line₃, text₅, table_ended, files_again, good_again, remaining_once}
use Rattle.promises.proofs.Described.{described}
use Rattle.promises.proofs.Same.{empty_is, floor, rising_steps, price_value, same_sheet}
use Rattle.promises.proofs.Taken.{empty_price_lem}
use Rattle.promises.proofs.Strict.{strict, numbers_read, counts_read}
use Rattle.promises.proofs.Mends.{Facts, known, text_mended, fates_by_conditions}
use Rattle.promises.proofs.MenderLines.{file_at_lem, file_among}

turn_line_lem : (text : List ℕ) → is_turn_line text ≡ true → (value_text turn_key text ≡ [] → ⊥) → text ≡ turn_key ++ decimal (turn_with empty_turn text)
unfolding is_turn_line
turn_line_lem text turn given =
    let some : is_empty (value_text turn_key text) ≡ false = ⊎_elim (λ t. absurd (given (empty_is (value_text turn_key text) t))) (λ f. f) (true_or_false (is_empty (value_text turn_key text))) in
    key_split turn_key text (and_true_both (starts_with turn_key text) (is_empty (value_text turn_key text) || is_number (value_text turn_key text)) turn).0
    ∙ ap (λ t. turn_key ++ t) (sym (price_value text turn some))

module _ (sheet text : List ℕ) (k : Facts sheet) (mended : text ≡ mended_text sheet) where
  price_kept : (value_text turn_key (line_after 2 sheet) ≡ [] → ⊥) → line_after 2 text ≡ line_after 2 sheet
  unfolding sheet_turn_with
  price_kept given = ap (line_after 2) mended ∙ line₂ sheet k.good k.few k.reads ∙ sym (turn_line_lem (line_after 2 sheet) (described sheet k.good).turn given)

  file_kept_here : (i : ℕ) → i < loose_files sheet → line_after (5 + i) text ≡ line_after (5 + i) sheet
  file_kept_here i l =
      ap (line_after (5 + i)) mended ∙ sym (file_at_lem (mended_text sheet) i) ∙ ap (line_after i) (text₅ sheet k.good k.few k.reads)
      ∙ copied_line (loose_files sheet) (file_text sheet) _ (table_ended sheet k.good k.few k.reads) i l ∙ file_at_lem sheet i

  old_file : (i : ℕ) → FileLine sheet i → line_after i text ≡ line_after i sheet
  old_file i s = let among = file_among sheet k.good i s in rw among.2 (file_kept_here among.0 among.1)

  new_file : (i : ℕ) → FileLine text i → line_after i text ≡ line_after i sheet
  new_file i s =
      let among = file_among (mended_text sheet) (good_again sheet k.good k.few k.reads) i (rw mended at s) in
      rw among.2 (file_kept_here among.0 (omega (arith, among.1, files_again sheet k.good k.few k.reads)))

  -- The price of an empty one.
  price_written_here : value_text turn_key (line_after 2 sheet) ≡ [] → line_after 2 text ≡ bytes "turn=12000"
  unfolding sheet_turn_with turn_with
  price_written_here none =
      let price : decimal (sheet_turn sheet) ≡ bytes "12000" = rw none empty_price_lem in
      ap (line_after 2) mended ∙ line₂ sheet k.good k.few k.reads ∙ ap (λ t. turn_key ++ t) price

  pub left_alone : LeftAlone sheet text
  left_alone =
      record {
        tape = ap (line_after 0) mended ∙ line₀ sheet k.good k.few k.reads;
        head = ap (line_after 1) mended ∙ line₁ sheet k.good k.few k.reads;
        price = price_kept;
        written_out = price_written_here;
        rule = ap (line_after 3) mended ∙ line₃ sheet k.good k.few k.reads;
        files = λ i. ⊎_elim (old_file i) (new_file i);
      }

pub mender_leaves_alone : MenderLeavesAlone
mender_leaves_alone sheet text m = left_alone sheet text (known sheet text m) (text_mended sheet text m)

-- Nothing is listed.
both_empty : (s t : List ℕ) → s ++ t ≡ [] → (s ≡ []) × (t ≡ [])
both_empty [] t e = (refl, e)
both_empty (b ∷ s) t e = let z : ◌≡◌ {A = ℕ} 0 1 = cc in absurd (omega arith)

unchanged : (changed : Bool) (n : ℕ) (word : List ℕ) → change_if changed n word ≡ [] → changed ≡ false
unchanged true n word e = let z : ◌≡◌ {A = ℕ} 0 1 = cc in absurd (omega arith)
unchanged false n word e = refl

same_count : (said lines n : ℕ) (word : List ℕ) → change_if (not (eqb said lines)) n word ≡ [] → said ≡ lines
same_count said lines n word e = eqb-true said lines (not-false (eqb said lines) (unchanged (not (eqb said lines)) n word e))

says_stays : (n : ℕ) (fate : Fate) → fate_line n fate ≡ [] → fate ≡ Stays
says_stays n Stays e = refl
says_stays n Moved e = let z : ◌≡◌ {A = ℕ} 0 1 = cc in absurd (omega arith)
says_stays n Added e = let z : ◌≡◌ {A = ℕ} 0 1 = cc in absurd (omega arith)
says_stays n Dropped e = let z : ◌≡◌ {A = ℕ} 0 1 = cc in absurd (omega arith)

all_stay : (above : ℕ) (files counts : List ℕ) (n : ℕ) → fate_lines above files counts n ≡ [] → (i : ℕ) → i < n → fate_of files counts i ≡ Stays
unfolding fate_lines
all_stay above files counts zero e i l = absurd (omega arith)
all_stay above files counts (suc n) e i l =
    let both = both_empty (fate_lines above files counts n) (fate_line (above + (n + 1)) (fate_of files counts n)) e in
    go (all_stay above files counts n both.0) both.1 (dec_lt i n)
  where
    go : ((i : ℕ) → i < n → fate_of files counts i ≡ Stays) → fate_line (above + (n + 1)) (fate_of files counts n) ≡ [] → Dec (i < n) → fate_of files counts i ≡ Stays
    go rest last (yes m) = rest i m
    go rest last (no m) = let same : i ≡ n = omega arith in rw same (says_stays (above + (n + 1)) (fate_of files counts n) last)

-- Lines that all stay are in order.
module _ (files counts : List ℕ) (stay : (i : ℕ) → i < length files → fate_of files counts i ≡ Stays) where
  some_reads : (i : ℕ) → i < length files → get_or counts i 0 ≡ 0 → ⊥
  some_reads i l z = let other : fate_of files counts i ≡ Dropped = (fates_by_conditions files counts i).dropped z in let e : ◌≡◌ {A = ℕ} 0 1 = cc (stay i l) in omega arith

  no_same : (i : ℕ) → i < length files → (above : ℕ) → SameFile files counts i above → ⊥
  no_same i l above s = let other = (fates_by_conditions files counts i).added (some_reads i l) above s in let e : ◌≡◌ {A = ℕ} 0 1 = cc (stay i l, other) in omega arith

  no_higher : (i : ℕ) → i < length files → (above : ℕ) → HigherFile files i above → ⊥
  no_higher i l above s = let other = (fates_by_conditions files counts i).moved (some_reads i l) (no_same i l) above s in let e : ◌≡◌ {A = ℕ} 0 1 = cc (stay i l, other) in omega arith

  steps : (i : ℕ) → i < length files → floor 0 files i ≤ get_or files i 0
  steps zero l = omega arith
  steps (suc i) l =
      let low : get_or files (suc i) 0 < get_or files i 0 → ⊥ = λ h. no_higher (suc i) l i (record { higher_up = omega arith; higher = h }) in
      let apart : get_or files i 0 ≡ get_or files (suc i) 0 → ⊥ = λ h. no_same (suc i) l i (record { higher_up = omega arith; same = h; some = some_reads i (omega arith) }) in
      omega arith

  clean_lines : length files ≡ length counts → Clean files counts
  clean_lines even = record { even = even; rising = rising_steps 0 files steps; some = some_reads }

record Unlisted (sheet : List ℕ) : Type 0 where
  price : price_left_out sheet ≡ false
  rule : says_sweep sheet ≡ false
  files : sheet_files sheet ≡ loose_files sheet
  wants : wants_said sheet ≡ length (sheet_remaining sheet)
  stay : (i : ℕ) → i < length (wanted_files sheet) → fate_of (wanted_files sheet) (wanted_counts sheet) i ≡ Stays

unlisted : (sheet : List ℕ) → changes_text sheet ≡ [] → Unlisted sheet
unfolding changes_text
unlisted sheet e =
    let price = change_if (price_left_out sheet) 3 (bytes "turn") in
    let rule = change_if (says_sweep sheet) 4 (bytes "rule") in
    let files = change_if (not (eqb (sheet_files sheet) (loose_files sheet))) 5 (bytes "files") in
    let wants = change_if (not (eqb (wants_said sheet) (length (sheet_remaining sheet)))) (loose_files sheet + 6) (bytes "wants") in
    let a = both_empty (price ++ rule ++ files ++ wants) (fate_lines (loose_files sheet + 6) (wanted_files sheet) (wanted_counts sheet) (length (wanted_files sheet))) e in
    let b = both_empty (price ++ rule ++ files) wants a.0 in
    let c = both_empty (price ++ rule) files b.0 in
    let d = both_empty price rule c.0 in
    record {
      price = unchanged (price_left_out sheet) 3 (bytes "turn") d.0;
      rule = unchanged (says_sweep sheet) 4 (bytes "rule") d.1;
      files = same_count (sheet_files sheet) (loose_files sheet) 5 (bytes "files") c.1;
      wants = same_count (wants_said sheet) (length (sheet_remaining sheet)) (loose_files sheet + 6) (bytes "wants") b.1;
      stay = all_stay (loose_files sheet + 6) (wanted_files sheet) (wanted_counts sheet) (length (wanted_files sheet)) a.1;
    }

module _ (sheet : List ℕ) (k : Facts sheet) (u : Unlisted sheet) where
  clean : Clean (wanted_files sheet) (wanted_counts sheet)
  clean = clean_lines (wanted_files sheet) (wanted_counts sheet) u.stay (lines_even sheet k.good k.few k.reads)

  many : length (sheet_remaining sheet) ≡ loose_wants sheet
  unfolding wanted_files
  many =
      ap length (remaining_once sheet (wanted_files sheet) (wanted_counts sheet) refl refl (clean_remaining (wanted_files sheet) (wanted_counts sheet) clean))
      ∙ length_each (λ i. first_in want_key (line_after i (loose_want_text sheet))) (loose_wants sheet)

  said : wants_said sheet ≡ loose_wants sheet
  said = u.wants ∙ many

  few_lines : loose_wants sheet ≤ most_wants
  few_lines = rw many at k.few

  taken : refuses (sheet_verdict sheet) ≡ false
  unfolding sheet_verdict
  taken = rw (le-ltb longest_sheet (length sheet) k.within, strict sheet k.good u.files said few_lines)

  in_order : Clean (sheet_run sheet).numbers (sheet_run sheet).counts
  in_order = rw (numbers_read sheet k.good u.files said few_lines, counts_read sheet k.good u.files said few_lines) clean

  same : mended_text sheet ≡ sheet
  same = same_sheet sheet taken in_order u.rule u.price

pub unlisted_is_same : UnlistedIsSame
unlisted_is_same sheet text m none = text_mended sheet text m ∙ same sheet (known sheet text m) (unlisted sheet none)
