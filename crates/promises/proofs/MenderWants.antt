-- The mender's 3 and 5: the files with reads on some want line are those that remain, and the counts of the want lines add up to the reads in all.
use Prim.Native.Nat.{ℕ, zero, suc, ◌+◌, ◌≤◌, ◌<◌}
use mathlib.Core.Path.{◌≡◌, refl, ap, sym, ◌∙◌}
use mathlib.Core.Bool.{Bool, true, false, true≢false, not, cond}
use mathlib.Core.List.{List, [], ◌∷◌, ◌++◌}
use native.Mathlib.Omega.{arith}
use lib.ListN.{length, drop, get_or}
use lib.Seq.{drop-cons, drop-length}
use lib.Dec.{eqb, ltb}
use borrow.Author.Tests.{eq-eqb, ne_eqb, eqb-true}
use Rattle.runs.specs.Run.{most_wants, most_reads, total}
use Rattle.runs.proofs.Search.{any_here}
use Rattle.text_bytes.specs.Text.{comma, line_feed, has, before, behind, value_of, decimal}
use Rattle.text_bytes.proofs.Split.{before_here, behind_here}
use Rattle.text_lines.specs.Lines.{line_of, after_lines, line_after, value_text, number_behind, first_in, second_in}
use Rattle.sheet_reader.specs.Lines.{files_key, wants_key, want_key}
use Rattle.sheet_reader.specs.Sheet.{sheet_files}
use Rattle.sheet_reader.proofs.Rows.{length_each}
use Rattle.sheet_writer.proofs.Reread.{key_value}
use Rattle.sheet_loose.specs.Loose.{loose_files, loose_wants, loose_wants_text, loose_want_text, wants_said, first_bad_loose, wanted_files, wanted_counts}
use Rattle.answer_mend.specs.Wants.{remaining, reads_in_all}
use Rattle.answer_mend.specs.Mending.{sheet_remaining}
use Rattle.demands.proofs.Tests.{Tells, tells_equal, tells_below, tells_not, tells_some, tells_reworded}
use Rattle.demands.specs.Lines.{Stands, Number}
use Rattle.demands.proofs.SheetLines.{each_value}
use Rattle.demands.proofs.Canonical.{number_text}
use Rattle.demands.proofs.Lines.{tells_number, number_flat, pair_flat, line_read}
use Rattle.promises.specs.Mender.{WantLine, Asks, HasReads, WantsRemain, CountsFrom, end, want, other, PartsRead, PartsAreRead}
use Rattle.promises.proofs.Gathered.{Rising, remaining_rising, rising_least, rising_at, is_in, in_at, find_in, asks, in_remaining}
use Rattle.promises.proofs.Taken.{reads_total}
use Rattle.promises.proofs.MenderLines.{tail_behind, all_mended, files_come, wants_come, wants_there, want_lines_lem, want_at_lem, want_among, nothing_stands, nothing_behind}
use Rattle.promises.proofs.Described.{described}

-- What a want line asks for stands on it, and each asks for something.
asks_read : (sheet : List ℕ) (i file count : ℕ) → Asks sheet i file count → (first_in want_key (line_after i sheet) ≡ file) × (second_in want_key (line_after i sheet) ≡ count)
unfolding has
asks_read sheet i file count a =
    let s = a.line in
    let p = s.kind in
    let is = line_read want_key s.value s.rest (after_lines i sheet) refl (pair_flat s.value p) s.is in
    let value : value_text want_key (line_after i sheet) ≡ p.first ++ (comma ∷ p.others) = ap (value_text want_key) is ∙ key_value want_key s.value ∙ p.is in
    let flat = number_flat comma refl p.first p.left in (
      ap (λ t. value_of (before comma t)) value ∙ ap value_of (before_here comma p.first p.others flat) ∙ a.of_file,
      ap (λ t. value_of (behind comma t)) value ∙ ap value_of (behind_here comma p.first p.others flat) ∙ a.reads,
    )

line_asks : (sheet : List ℕ) (i : ℕ) → WantLine sheet i → Asks sheet i (first_in want_key (line_after i sheet)) (second_in want_key (line_after i sheet))
line_asks sheet i s =
    let read = asks_read sheet i _ _ (record { line = s; of_file = refl; reads = refl }) in
    record { line = s; of_file = sym read.0; reads = sym read.1 }

-- The counts add up in one way.
nothing_counts : {sheet : List ℕ} {i n : ℕ} → after_lines i sheet ≡ [] → CountsFrom sheet i n → n ≡ 0
unfolding after_lines behind
nothing_counts e (end f) = refl
nothing_counts e (want a rest) = absurd (nothing_stands e a.line)
nothing_counts e (other n rest) = nothing_counts (ap (behind line_feed) e) rest

pub counts_once : {sheet : List ℕ} {i n m : ℕ} → CountsFrom sheet i n → CountsFrom sheet i m → n ≡ m
counts_once (end e) c = sym (nothing_counts e c)
counts_once (want a rest) (end e) = absurd (nothing_stands e a.line)
counts_once (want {count = c} a rest) (want b others) =
    let one = (asks_read _ _ _ _ a).1 in
    let two = (asks_read _ _ _ _ b).1 in
    omega (arith, one, two, counts_once rest others)
counts_once (want a rest) (other n others) = absurd (n a.line)
counts_once (other n rest) (end e) = nothing_counts e (other n rest)
counts_once (other n rest) (want b others) = absurd (n b.line)
counts_once (other n rest) (other k others) = counts_once rest others

-- Ascending files, all among a row that ascends, are no more than it has.
row_least : (b x : ℕ) (row : List ℕ) → Rising b row → is_in x row ≡ true → b ≤ x
row_least b x row rising e = let found = find_in x row e in omega (arith, rising_least b row rising found.0 found.1.0, found.1.1)

no_more_files : (b : ℕ) (row files : List ℕ) → Rising b row → ((i j : ℕ) → i < j → j < length files → get_or files i 0 < get_or files j 0)
    → ((i : ℕ) → i < length files → is_in (get_or files i 0) row ≡ true) → length files ≤ length row
no_more_files b [] [] rising up each = omega arith
no_more_files b [] (f ∷ files) rising up each = absurd (true≢false (sym (each 0 (omega arith))))
no_more_files b (g ∷ row) [] rising up each = omega arith
no_more_files b (g ∷ row) (f ∷ files) rising up each =
    let rest = no_more_files (suc g) row files rising.1 (λ i j l m. up (suc i) (suc j) (omega arith) (omega arith)) (λ i l. inner i l) in
    omega arith
  where
    least : g ≤ f
    least = row_least g f (g ∷ row) (omega arith, rising.1) (each 0 (omega arith))

    inner : (i : ℕ) → i < length files → is_in (get_or files i 0) row ≡ true
    inner i l =
        let above : f < get_or files i 0 = up 0 (suc i) (omega arith) (omega arith) in
        let here = each (suc i) (omega arith) in
        rw (ne_eqb (get_or files i 0) g (λ e. omega (arith, least))) at here

-- The number on a line.
said : (key : List ℕ) → has line_feed key ≡ false → (sheet : List ℕ) (i n : ℕ) → n ≡ number_behind key (line_after i sheet) → Stands key Number sheet i → Stands key (λ value. value ≡ decimal n) sheet i
said key plain sheet i n is s =
    let line = line_read key s.value s.rest (after_lines i sheet) plain (number_flat line_feed refl s.value s.kind) s.is in
    record { value = s.value; rest = s.rest; is = s.is; kind = sym (ap decimal (is ∙ ap (number_behind key) line ∙ ap value_of (key_value key s.value)) ∙ number_text s.value s.kind) }

module _ (sheet : List ℕ) (good : first_bad_loose sheet ≡ 0) where
  abbrev F : ℕ
  F = loose_files sheet

  abbrev W : ℕ
  W = loose_wants sheet

  abbrev files : List ℕ
  files = wanted_files sheet

  abbrev counts : List ℕ
  counts = wanted_counts sheet

  files_long : length files ≡ W
  unfolding wanted_files
  files_long = length_each (λ i. first_in want_key (line_after i (loose_want_text sheet))) W

  counts_long : length counts ≡ W
  unfolding wanted_counts
  counts_long = length_each (λ i. second_in want_key (line_after i (loose_want_text sheet))) W

  named_at : (k : ℕ) → k < W → get_or files k 0 ≡ first_in want_key (line_after (6 + F + k) sheet)
  unfolding wanted_files
  named_at k l = each_value (λ i. first_in want_key (line_after i (loose_want_text sheet))) W k l ∙ ap (first_in want_key) (want_at_lem sheet k)

  counted_at_here : (k : ℕ) → k < W → get_or counts k 0 ≡ second_in want_key (line_after (6 + F + k) sheet)
  unfolding wanted_counts
  counted_at_here k l = each_value (λ i. second_in want_key (line_after i (loose_want_text sheet))) W k l ∙ ap (second_in want_key) (want_at_lem sheet k)

  asks_at : (k : ℕ) → k < W → Asks sheet (6 + F + k) (get_or files k 0) (get_or counts k 0)
  asks_at k l = rw (named_at k l, counted_at_here k l) (line_asks sheet (6 + F + k) (want_lines_lem sheet k l))

  parts_read : PartsRead sheet
  unfolding sheet_files wants_said has
  parts_read =
      let top = (tells_number sheet 4 files_key (omega arith) refl).when_true (described sheet good).files in
      record {
        mended = all_mended sheet good;
        table = files_come sheet good;
        wants = wants_come sheet good;
        even = (files_long, counts_long);
        each = asks_at;
        files_said = said files_key refl sheet 4 (number_behind files_key (line_after 4 sheet)) refl top;
        wants_said = said wants_key refl sheet (5 + F) (number_behind wants_key (line_of (loose_wants_text sheet))) (ap (λ t. number_behind wants_key (line_of t)) (tail_behind sheet)) (wants_there sheet good);
      }

  -- A file has reads exactly when it is among those that remain.
  tells_asks : (x i : ℕ) → Tells (asks files counts x i) ((get_or files i 0 ≡ x) × (get_or counts i 0 ≡ 0 → ⊥))
  tells_asks x i = go (eqb (get_or files i 0) x) refl
    where
      go : (b : Bool) → eqb (get_or files i 0) x ≡ b → Tells (not (eqb (cond b (get_or counts i 0) 0) 0)) ((get_or files i 0 ≡ x) × (get_or counts i 0 ≡ 0 → ⊥))
      go true e = tells_reworded (λ n. (eqb-true (get_or files i 0) x e, n)) (λ h. h.1) (tells_not (eqb (get_or counts i 0) 0) (tells_equal (get_or counts i 0) 0))
      go false e = record { when_true = λ f. absurd (true≢false (sym f)); when_false = λ f h. true≢false (sym (eq-eqb (get_or files i 0) x h.0) ∙ e) }

  abbrev row : List ℕ
  row = remaining files counts (length files)

  pub remains : (x : ℕ) → HasReads sheet x → is_in x row ≡ true
  remains x h =
      let among = want_among sheet good h.at h.asks.line in
      let k = among.0 in
      let a = rw among.2 at h.asks in
      let read = asks_read sheet (6 + F + k) x h.count a in
      let named : get_or files k 0 ≡ x = named_at k among.1 ∙ read.0 in
      let counted : get_or counts k 0 ≡ h.count = counted_at_here k among.1 ∙ read.1 in
      in_remaining files counts x (length files)
      ∙ any_here (asks files counts x) k (length files) (rw (eq-eqb (get_or files k 0) x named, ne_eqb (get_or counts k 0) 0 (λ z. h.some (sym counted ∙ z)))) (rw files_long among.1)

  pub has_reads : (x : ℕ) → is_in x row ≡ true → HasReads sheet x
  has_reads x e =
      let found = (tells_some (asks files counts x) (λ i. (get_or files i 0 ≡ x) × (get_or counts i 0 ≡ 0 → ⊥)) (tells_asks x) (length files)).when_true (sym (in_remaining files counts x (length files)) ∙ e) in
      let k = found.0 in
      record { at = 6 + F + k; count = get_or counts k 0; asks = rw found.2.0 at (asks_at k (omega (arith, found.1, files_long))); some = found.2.1 }

  remain_there : 64 < length row → WantsRemain sheet
  remain_there over =
      record { files = row; over = over; ascending = rising_at 0 row (remaining_rising files counts (length files)); each = λ i l. has_reads (get_or row i 0) (in_at row i l) }

  remain_back : WantsRemain sheet → 64 < length row
  remain_back r =
      let few = no_more_files 0 row r.files (remaining_rising files counts (length files)) r.ascending (λ i l. remains (get_or r.files i 0) (r.each i l)) in
      omega (arith, r.over)

  pub tells_remain : Tells (ltb most_wants (length (sheet_remaining sheet))) (WantsRemain sheet)
  unfolding sheet_remaining
  tells_remain = tells_reworded remain_there remain_back (tells_below most_wants (length row))

  -- The counts of the want lines, from the last one up, and those of the lines above, which are no want lines.
  wants_counted : (d k : ℕ) → k + d ≡ W → CountsFrom sheet (6 + F + k) (total (drop k counts))
  wants_counted zero k e =
      let last : length counts ≡ k = omega (arith, counts_long) in
      let here : W ≡ k = omega arith in
      rw (← last, drop-length counts, last, ← here) (end (nothing_behind sheet good))
  wants_counted (suc d) k e =
      let next : 6 + F + suc k ≡ suc (6 + F + k) = omega arith in
      rw (drop-cons counts k 0 (omega (arith, counts_long))) (want (asks_at k (omega arith)) (rw next at (wants_counted d (suc k) (omega arith))))

  above_counted : (d i n : ℕ) → i + d ≡ 6 + F → CountsFrom sheet (6 + F) n → CountsFrom sheet i n
  above_counted zero i n e c = let same : i ≡ 6 + F = omega arith in rw same c
  above_counted (suc d) i n e c = other (λ s. omega (arith, (want_among sheet good i s).2)) (above_counted d (suc i) n (omega arith) c)

  all_counted_here : CountsFrom sheet 0 (total counts)
  all_counted_here =
      let first : 6 + F + 0 ≡ 6 + F = omega arith in
      above_counted (6 + F) 0 (total counts) (omega arith) (rw first at (wants_counted W 0 (omega arith)))

  pub tells_reads : Tells (ltb most_reads (reads_in_all counts)) ((n : ℕ) × CountsFrom sheet 0 n × (1024 < n))
  tells_reads =
      tells_reworded (λ l. (total counts, all_counted_here, omega (arith, reads_total counts, l))) (λ h. omega (arith, counts_once h.1 all_counted_here, reads_total counts, h.2))
      (tells_below most_reads (reads_in_all counts))

pub parts_are_read : PartsAreRead
parts_are_read sheet good = parts_read sheet good
