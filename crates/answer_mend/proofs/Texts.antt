-- The two texts on their pages, line by line.
use Prim.Native.Nat.{ℕ, zero, suc, ◌+◌, ◌-◌, ◌*◌, ◌≤◌, ◌<◌}
use mathlib.Core.Path.{◌≡◌, refl, ap, sym, ◌∙◌}
use mathlib.Core.Bool.{Bool, true, false, not}
use mathlib.Core.List.{List, [], ◌∷◌, ◌++◌, append-nil}
use native.Mathlib.Omega.{arith}
use native.Mathlib.Numerals.{add-one}
use lib.ListN.{length, take, drop, get_or, length-drop}
use lib.Seq.{length-take-le}
use lib.Dec.{eqb}
use Rattle.refusals.specs.Refusals.{first_where}
use Rattle.runs.proofs.Search.{first_within}
use Rattle.text_bytes.specs.Text.{bytes, comma, decimal}
use Rattle.text_lines.specs.Lines.{line_after, after_lines, is_triple_line, first_bad_of, lines_before}
use Rattle.sheet_reader.specs.Lines.{turn_key, rule_key, least_text, files_key, file_key, wants_key, want_key}
use Rattle.sheet_reader.specs.Sheet.{longest_sheet, most_sheet_files, says_sweep, sheet_files, sheet_turn, file_text}
use Rattle.text_pages.specs.Printing.{line, number_line, pair_line, pair_lines, Wrote, Put}
use Rattle.text_pages.proofs.Pages.{wrote_both, wrote_on, wrote_within, wrote_long, put_three, LinesPut, line_put, pairs_left}
use Rattle.sheet_loose.specs.declared.Parts.{Parts}
use Rattle.sheet_loose.specs.Loose.{loose_files, loose_wants_text, wants_said, price_left_out}
use Rattle.sheet_loose.specs.Reading.{begins_at}
use Rattle.answer_mend.specs.declared.wants.Fate.{Fate}
use Rattle.answer_mend.specs.Wants.{reads_of_want, reads_each, fate_of}
use Rattle.answer_mend.specs.Mending.{first_lines, sheet_reads, mended_text, change_line, change_if, fate_line, fate_lines, changes_text}
use Rattle.answer_mend.specs.Private.{FewReads, Writable}
use Rattle.sheet_loose.proofs.Ends.{Ends, after_ends, after_shorter}

-- A text that is not put, and one that is.
pub nothing_put : (page : List ℕ) (at most : ℕ) → Wrote page at [] most page at
nothing_put page at most = record { after = omega arith; bytes = sym (append-nil (take at page)); later = refl; within = omega arith }

pub change_put : (page : List ℕ) (at n : ℕ) (word page₁ : List ℕ) (at₁ : ℕ) (page₂ : List ℕ) (at₂ : ℕ) (page₃ : List ℕ) (at₃ : ℕ) → length word ≤ 7 → at + 36 ≤ length page
    → Put page at (bytes "change=") (length (bytes "change=")) page₁ at₁ → Put page₁ at₁ (decimal n) 20 page₂ at₂
    → Put page₂ at₂ (line (comma ∷ []) word) (length (comma ∷ []) + length word + 1) page₃ at₃ → Wrote page at (change_line n word) 36 page₃ at₃
change_put page at n word page₁ at₁ page₂ at₂ page₃ at₃ short room p q s = (put_three 36 room (omega arith) p q s).room room

module _ (page : List ℕ) (at n : ℕ) (page' : List ℕ) (next : ℕ) where
  pub change_said : (word : List ℕ) (changed : Bool) → changed ≡ true → Wrote page at (change_line n word) 36 page' next → Wrote page at (change_if changed n word) 36 page' next
  change_said word changed e w = rw e w

  pub fate_said : (word : List ℕ) (fate other : Fate) → fate ≡ other → change_line n word ≡ fate_line n other → Wrote page at (change_line n word) 36 page' next → Wrote page at (fate_line n fate) 36 page' next
  fate_said word fate other e f w = rw e (rw f at w)

pub change_unsaid : (page : List ℕ) (at n : ℕ) (word : List ℕ) (changed : Bool) → changed ≡ false → Wrote page at (change_if changed n word) 36 page at
change_unsaid page at n word changed e = rw e (nothing_put page at 36)

pub fate_unsaid : (page : List ℕ) (at n : ℕ) (fate : Fate) → fate ≡ Fate.Stays → Wrote page at (fate_line n fate) 36 page at
fate_unsaid page at n fate e = rw e (nothing_put page at 36)

-- The fates of the lines so far.
pub record FatesPut (page₀ : List ℕ) (at above : ℕ) (wanted counts page : List ℕ) (next i : ℕ) : Type 0 where
  pub few : i ≤ length wanted
  pub long : length page ≡ length page₀
  pub wrote : Wrote page₀ at (fate_lines above wanted counts i) (i * 36) page next

pub fates_none : (page : List ℕ) (at above : ℕ) (wanted counts : List ℕ) → FatesPut page at above wanted counts page at 0
unfolding fate_lines
fates_none page at above wanted counts = record { few = omega arith; long = refl; wrote = nothing_put page at 0 }

module _ (page₀ : List ℕ) (at above : ℕ) (wanted counts : List ℕ) (room : at + length wanted * 36 ≤ length page₀) (page : List ℕ) (next i : ℕ)
    (p : FatesPut page₀ at above wanted counts page next i) where
  pub fate_more : i < length wanted → (page' : List ℕ) (last : ℕ) → length page' ≡ length page → (fate : Fate) → fate ≡ fate_of wanted counts i
      → Wrote page next (fate_line (above + (i + 1)) fate) 36 page' last → FatesPut page₀ at above wanted counts page' last (i + 1)
  unfolding fate_lines
  fate_more l page' last same fate fate-is w =
      let w' : Wrote page next (fate_line (above + (i + 1)) (fate_of wanted counts i)) 36 page' last = rw fate-is at w in
      let both : Wrote page₀ at (fate_lines above wanted counts (suc i)) (i * 36 + 36) page' last = wrote_both p.wrote w' in
      let many : i * 36 + 36 ≡ (i + 1) * 36 = omega arith in
      record { few = omega arith; long = same ∙ p.long; wrote = rw (← many, add-one) both }

  pub fates_all : length wanted ≤ i → Wrote page₀ at (fate_lines above wanted counts (length wanted)) (length wanted * 36) page next
  fates_all l = let e : i ≡ length wanted = omega (arith, p.few) in rw e at p.wrote

-- The wants that remain.
pub each_long : (files counts row : List ℕ) → length row ≡ length (reads_each files counts row)
unfolding reads_each
each_long files counts [] = refl
each_long files counts (f ∷ row) = ap suc (each_long files counts row)

pub each_at : (files counts row : List ℕ) (i : ℕ) → i < length row → get_or (reads_each files counts row) i 0 ≡ reads_of_want files counts (get_or row i 0)
unfolding reads_each
each_at files counts [] i l = absurd (omega arith)
each_at files counts (f ∷ row) zero l = refl
each_at files counts (f ∷ row) (suc i) l = each_at files counts row i (omega arith)

module _ (page₀ : List ℕ) (at : ℕ) (row wanted counts : List ℕ) (room : at + length row * 47 ≤ length page₀) (page : List ℕ) (next i : ℕ)
    (p : LinesPut page₀ at 47 (pair_lines want_key row (reads_each wanted counts row)) (length row) (pair_lines want_key (drop i row) (drop i (reads_each wanted counts row))) page next i) where
  pub want_put : i < length row → (reads : ℕ) → reads ≡ reads_of_want wanted counts (get_or row i 0) → (page' : List ℕ) (last : ℕ)
      → Put page next (pair_line want_key (get_or row i 0) reads) (length want_key + 42) page' last
      → LinesPut page₀ at 47 (pair_lines want_key row (reads_each wanted counts row)) (length row) (pair_lines want_key (drop (i + 1) row) (drop (i + 1) (reads_each wanted counts row))) page' last (i + 1)
  want_put l reads reads-are page' last q =
      let here : get_or (reads_each wanted counts row) i 0 ≡ reads = each_at wanted counts row i l ∙ sym reads-are in
      let left = pairs_left want_key row (reads_each wanted counts row) (each_long wanted counts row) i l in
      line_put page₀ at 47 (pair_lines want_key row (reads_each wanted counts row)) (length row) room (pair_lines want_key (drop i row) (drop i (reads_each wanted counts row))) page next i p l
      (pair_line want_key (get_or row i 0) reads) (pair_lines want_key (drop (i + 1) row) (drop (i + 1) (reads_each wanted counts row))) (rw here at left) (length want_key + 42) (omega arith) page' last q

-- Where the parts of a sheet start.
module _ (sheet : List ℕ) where
  table_ends_here : Ends (file_text sheet) sheet
  unfolding file_text
  table_ends_here = after_ends 5 sheet

  tail_ends : Ends (loose_wants_text sheet) (file_text sheet)
  unfolding loose_wants_text
  tail_ends = after_ends (loose_files sheet) (file_text sheet)

  pub third_first : begins_at sheet (after_lines 2 sheet) ≤ begins_at sheet (file_text sheet)
  unfolding file_text
  third_first = omega (arith, after_shorter 2 sheet, after_shorter 3 sheet, after_shorter 4 sheet)

  pub table_first : begins_at sheet (file_text sheet) ≤ begins_at sheet (loose_wants_text sheet)
  table_first = omega (arith, tail_ends.short)

  pub table_cut : take (begins_at sheet (loose_wants_text sheet) - begins_at sheet (file_text sheet)) (drop (begins_at sheet (file_text sheet)) sheet) ≡ first_lines (loose_files sheet) (file_text sheet)
  unfolding loose_wants_text
  table_cut =
      let s : begins_at sheet (loose_wants_text sheet) - begins_at sheet (file_text sheet) ≡ length (file_text sheet) - length (loose_wants_text sheet) = omega (arith, tail_ends.short, table_ends_here.short) in
      rw (s, table_ends_here.rest)

  pub few_files : loose_files sheet ≤ most_sheet_files
  unfolding loose_files first_bad_of
  few_files = go (first_where (λ i. not (is_triple_line file_key (line_after i (file_text sheet)))) most_sheet_files) (first_within (λ i. not (is_triple_line file_key (line_after i (file_text sheet)))) most_sheet_files)
    where
      go : (n : ℕ) → n ≤ most_sheet_files → lines_before most_sheet_files n ≤ most_sheet_files
      go zero l = omega arith
      go (suc n) l = omega arith

-- The mended sheet.
module _ (page sheet : List ℕ) (parts : Parts) (wanted counts row : List ℕ) (ok : Writable sheet parts wanted counts row) (long : length page ≡ 19483) where
  third_is : parts.third ≡ begins_at sheet (after_lines 2 sheet)
  third_is = ap (λ p. p.third) ok.read.parts_are

  table_is : parts.table ≡ begins_at sheet (file_text sheet)
  table_is = ap (λ p. p.table) ok.read.parts_are

  tail_is : parts.tail ≡ begins_at sheet (loose_wants_text sheet)
  tail_is = ap (λ p. p.tail) ok.read.parts_are

  pub third_within : parts.third ≤ length sheet
  third_within = omega (arith, third_is)

  pub table_within : parts.table ≤ parts.tail
  table_within = omega (arith, table_is, tail_is, table_first sheet)

  pub tail_within : parts.tail ≤ length sheet
  tail_within = omega (arith, tail_is)

  few_reads_here : FewReads wanted counts
  few_reads_here = record { even = ok.read.even; reads = ok.reads }

  upper_size : length (take parts.third sheet) ≡ parts.third
  upper_size = length-take-le parts.third sheet third_within

  abbrev tableText : List ℕ
  tableText = take (parts.tail - parts.table) (drop parts.table sheet)

  table_size_here : length tableText ≡ parts.tail - parts.table
  table_size_here = length-take-le (parts.tail - parts.table) (drop parts.table sheet) (rw (length-drop parts.table sheet) (omega (arith, tail_within)))

  -- All that is copied is no longer than the sheet.
  copied : length (take parts.third sheet) + length tableText ≤ longest_sheet
  copied = omega (arith, upper_size, table_size_here, third_is, table_is, third_first sheet, table_within, tail_within, ok.read.short)

  module _ {page₁ : List ℕ} {at₁ : ℕ} (p₁ : Put page 0 (take parts.third sheet) (length (take parts.third sheet)) page₁ at₁)
      {page₂ : List ℕ} {at₂ : ℕ} (p₂ : Put page₁ at₁ (number_line turn_key parts.turn) (length turn_key + 21) page₂ at₂)
      {page₃ : List ℕ} {at₃ : ℕ} (p₃ : Put page₂ at₂ (line rule_key least_text) (length (line rule_key least_text)) page₃ at₃)
      {page₄ : List ℕ} {at₄ : ℕ} (p₄ : Put page₃ at₃ (number_line files_key parts.files) (length files_key + 21) page₄ at₄)
      {page₅ : List ℕ} {at₅ : ℕ} (p₅ : Put page₄ at₄ tableText (length tableText) page₅ at₅)
      {page₆ : List ℕ} {at₆ : ℕ} (p₆ : Put page₅ at₅ (number_line wants_key (length row)) (length wants_key + 21) page₆ at₆) where
    abbrev upper : List ℕ
    upper =
        take parts.third sheet
        ++ number_line turn_key parts.turn
        ++ line rule_key least_text
        ++ number_line files_key parts.files
        ++ tableText
        ++ number_line wants_key (length row)

    abbrev upperMost : ℕ
    upperMost = length (take parts.third sheet) + (length turn_key + 21) + length (line rule_key least_text) + (length files_key + 21) + length tableText + (length wants_key + 21)

    upper_put : Wrote page 0 upper upperMost page₆ at₆
    upper_put =
        let c = copied in
        let w₁ = p₁.room (omega arith) in
        let w₂ = wrote_on w₁ (omega arith) p₂ in
        let w₃ = wrote_on w₂ (omega arith) p₃ in
        let w₄ = wrote_on w₃ (omega arith) p₄ in
        let w₅ = wrote_on w₄ (omega arith) p₅ in
        wrote_on w₅ (omega arith) p₆

    pub wants_room : (FewReads wanted counts) × (at₆ + length row * 47 ≤ length page₆)
    wants_room =
        let c = copied in
        let w = upper_put in
        let same = wrote_long w (omega arith) in
        (few_reads_here, omega (arith, w.within, ok.few))

    pub sheet_put : {page₇ : List ℕ} {at₇ : ℕ} → Wrote page₆ at₆ (pair_lines want_key row (reads_each wanted counts row)) (length row * 47) page₇ at₇ → Wrote page 0 (mended_text sheet) 19483 page₇ at₇
    unfolding mended_text sheet_reads
    sheet_put w₇ =
        let c = copied in
        let all = wrote_within (wrote_both upper_put w₇) 19483 (omega (arith, ok.few)) in
        let turn_is : parts.turn ≡ sheet_turn sheet = ap (λ p. p.turn) ok.read.parts_are in
        let files_are : parts.files ≡ loose_files sheet = ap (λ p. p.files) ok.read.parts_are in
        let cut : tableText ≡ first_lines (loose_files sheet) (file_text sheet) = rw (table_is, tail_is) (table_cut sheet) in
        rw (third_is, turn_is, files_are, cut, ok.row_is, ok.read.files, ok.read.reads) at all

-- The changes.
module _ (page sheet : List ℕ) (parts : Parts) (wanted counts row : List ℕ) (ok : Writable sheet parts wanted counts row) (long : length page ≡ 98424) where
  files_are : parts.files ≡ loose_files sheet
  files_are = ap (λ p. p.files) ok.read.parts_are

  pub above_few : parts.files + 6 ≤ 262
  above_few = omega (arith, files_are, few_files sheet)

  module _ {page₁ : List ℕ} {at₁ : ℕ} (w₁ : Wrote page 0 (change_if parts.empty 3 (bytes "turn")) 36 page₁ at₁) (s₁ : length page₁ ≡ length page) where
    pub room₂ : at₁ + 36 ≤ length page₁
    room₂ = omega (arith, w₁.within)

    module _ {page₂ : List ℕ} {at₂ : ℕ} (w₂ : Wrote page₁ at₁ (change_if parts.sweep 4 (bytes "rule")) 36 page₂ at₂) (s₂ : length page₂ ≡ length page₁) where
      pub room₃ : at₂ + 36 ≤ length page₂
      room₃ = omega (arith, w₁.within, w₂.within)

      module _ {page₃ : List ℕ} {at₃ : ℕ} (w₃ : Wrote page₂ at₂ (change_if (not (eqb parts.listed parts.files)) 5 (bytes "files")) 36 page₃ at₃) (s₃ : length page₃ ≡ length page₂) where
        pub room₄ : at₃ + 36 ≤ length page₃
        room₄ = omega (arith, w₁.within, w₂.within, w₃.within)

        module _ {page₄ : List ℕ} {at₄ : ℕ} (w₄ : Wrote page₃ at₃ (change_if (not (eqb parts.asked (length row))) (parts.files + 6) (bytes "wants")) 36 page₄ at₄) (s₄ : length page₄ ≡ length page₃) where
          pub fates_room : (length wanted ≡ length counts) × ((parts.files + 6 ≤ 262) × (at₄ + length wanted * 36 ≤ length page₄))
          fates_room = (ok.read.even, (above_few, omega (arith, w₁.within, w₂.within, w₃.within, w₄.within, ok.read.lines)))

          pub changes_put : {page₅ : List ℕ} {at₅ : ℕ} → Wrote page₄ at₄ (fate_lines (parts.files + 6) wanted counts (length wanted)) (length wanted * 36) page₅ at₅ → Wrote page 0 (changes_text sheet) 98424 page₅ at₅
          unfolding changes_text
          changes_put w₅ =
              let all = wrote_within (wrote_both (wrote_both (wrote_both (wrote_both w₁ w₂) w₃) w₄) w₅) 98424 (omega (arith, ok.read.lines)) in
              let empty_is : parts.empty ≡ price_left_out sheet = ap (λ p. p.empty) ok.read.parts_are in
              let sweep-is : parts.sweep ≡ says_sweep sheet = ap (λ p. p.sweep) ok.read.parts_are in
              let listed-is : parts.listed ≡ sheet_files sheet = ap (λ p. p.listed) ok.read.parts_are in
              let asked_is : parts.asked ≡ wants_said sheet = ap (λ p. p.asked) ok.read.parts_are in
              rw (empty_is, sweep-is, listed-is, files_are, asked_is, ok.row_is, ok.read.files, ok.read.reads) at all
