-- The sheet of the entries: a file and a want for each, and the lines put one behind the other.
use Prim.Native.Nat.{ℕ, zero, suc, ◌+◌, ◌-◌, ◌*◌, ◌≤◌, ◌<◌}
use mathlib.Core.Path.{◌≡◌, refl, ap, sym, ◌∙◌}
use mathlib.Core.List.{List, [], ◌∷◌, ◌++◌}
use native.Mathlib.Omega.{arith}
use native.Mathlib.Numerals.{add-one}
use lib.ListN.{length, get_or, drop, length-replicate, get_or-replicate}
use Rattle.runs.specs.Alone.{zeros}
use Rattle.text_lines.specs.Lines.{each_of}
use Rattle.text_lines.proofs.Filling.{length_each}
use Rattle.text_pages.specs.Printing.{number_line, pair_line, pair_lines, triple_line, triple_lines, Wrote, Put}
use Rattle.text_pages.proofs.Pages.{wrote_long, wrote_within, wrote_on, wrote_both, LinesPut, line_put, lines_put, pairs_left, pairs_over, triples_left, triples_over}
use Rattle.sheet_reader.specs.Lines.{file_key, wants_key, want_key}
use Rattle.sheet_writer.specs.Writing.{top_text, sheet_text}
use Rattle.tape_entries.specs.Entries.{reads_of_entry}
use Rattle.sheet_picks.specs.Entries.{last_or, entry_lengths, entry_reads}
use Rattle.sheet_picks.specs.Sheets.{given_or, picked_run, picked_sheet}
use Rattle.sheet_picks.specs.Private.{EntryRows, sheet_most}
use Rattle.sheet_picks.proofs.Stands.{each_at}

-- The last of a row, by its place.
last_at_lem : (x : ℕ) (row : List ℕ) → get_or (x ∷ row) (length row) 0 ≡ last_or x row
unfolding last_or
last_at_lem x [] = refl
last_at_lem x (y ∷ row) = last_at_lem y row

pub last_none : (row : List ℕ) → length row ≡ 0 → 0 ≡ last_or 0 row
unfolding last_or
last_none [] e = refl
last_none (x ∷ row) e = absurd (omega arith)

pub last_some : (row : List ℕ) → (length row ≡ 0 → ⊥) → get_or row (length row - 1) 0 ≡ last_or 0 row
unfolding last_or
last_some [] n = absurd (n refl)
last_some (x ∷ row) n = let e : suc (length row) - 1 ≡ length row = omega arith in rw e (last_at_lem x row)

pub last_read : (row : List ℕ) → get_or row (length row - 1) 0 ≡ last_or 0 row
unfolding last_or
last_read [] = refl
last_read (x ∷ row) = last_some (x ∷ row) (λ e. omega arith)

-- Lengths and reads by their places.
pub lengths_long : (firsts lasts : List ℕ) → length firsts ≡ length lasts → length firsts ≡ length (entry_lengths firsts lasts)
unfolding entry_lengths
lengths_long [] lasts e = refl
lengths_long (f ∷ firsts) [] e = absurd (omega arith)
lengths_long (f ∷ firsts) (l ∷ lasts) e = ap suc (lengths_long firsts lasts (omega arith))

pub length_at : (firsts lasts : List ℕ) (i : ℕ) → i < length firsts → i < length lasts → get_or (entry_lengths firsts lasts) i 0 ≡ get_or lasts i 0 - get_or firsts i 0
unfolding entry_lengths
length_at [] lasts i l m = absurd (omega arith)
length_at (f ∷ firsts) [] i l m = absurd (omega arith)
length_at (f ∷ firsts) (k ∷ lasts) zero l m = refl
length_at (f ∷ firsts) (k ∷ lasts) (suc i) l m = length_at firsts lasts i (omega arith) (omega arith)

pub reads_long : (starts firsts lasts : List ℕ) → length firsts ≡ length lasts → length firsts ≡ length (entry_reads starts firsts lasts)
unfolding entry_reads
reads_long starts [] lasts e = refl
reads_long starts (f ∷ firsts) [] e = absurd (omega arith)
reads_long starts (f ∷ firsts) (l ∷ lasts) e = ap suc (reads_long starts firsts lasts (omega arith))

pub reads_at : (starts firsts lasts : List ℕ) (i : ℕ) → i < length firsts → i < length lasts → get_or (entry_reads starts firsts lasts) i 0 ≡ reads_of_entry (get_or firsts i 0) (get_or lasts i 0) starts
unfolding entry_reads
reads_at starts [] lasts i l m = absurd (omega arith)
reads_at starts (f ∷ firsts) [] i l m = absurd (omega arith)
reads_at starts (f ∷ firsts) (k ∷ lasts) zero l m = refl
reads_at starts (f ∷ firsts) (k ∷ lasts) (suc i) l m = reads_at starts firsts lasts i (omega arith) (omega arith)

-- The file lines that are left, and one of them put.
abbrev pub file_lines : List ℕ → List ℕ → ℕ → List ℕ
file_lines firsts lasts i = triple_lines file_key (drop i firsts) (drop i (entry_lengths firsts lasts)) (drop i (zeros (length firsts)))

module _ (page₀ : List ℕ) (at : ℕ) (firsts lasts : List ℕ) (rows : EntryRows firsts lasts) (room : at + length firsts * 68 ≤ length page₀) (page : List ℕ) (next i : ℕ)
    (p : LinesPut page₀ at 68 (file_lines firsts lasts 0) (length firsts) (file_lines firsts lasts i) page next i) where
  zeros_long_here : length firsts ≡ length (zeros (length firsts))
  zeros_long_here = sym (length-replicate (length firsts) 0)

  file_left : i < length firsts → file_lines firsts lasts i ≡ triple_line file_key (get_or firsts i 0) (get_or lasts i 0 - get_or firsts i 0) 0 ++ file_lines firsts lasts (i + 1)
  file_left l =
      triples_left file_key firsts (entry_lengths firsts lasts) (lengths_long firsts lasts rows.even) i (zeros (length firsts)) zeros_long_here l
      ∙ rw (length_at firsts lasts i l (omega (arith, rows.even)), get_or-replicate {A = ℕ} (length firsts) i 0 0 l)

  pub file_put : i < length firsts → (length' : ℕ) → length' ≡ get_or lasts i 0 - get_or firsts i 0 → (page' : List ℕ) (last : ℕ)
      → Put page next (triple_line file_key (get_or firsts i 0) length' 0) 68 page' last
      → LinesPut page₀ at 68 (file_lines firsts lasts 0) (length firsts) (file_lines firsts lasts (i + 1)) page' last (i + 1)
  file_put l length' e page' last q = line_put page₀ at 68 (file_lines firsts lasts 0) (length firsts) room _ page next i p l _ _ (rw (e) (file_left l)) 68 (omega arith) page' last q

  pub files_put : length firsts ≤ i → Wrote page₀ at (file_lines firsts lasts 0) (length firsts * 68) page next
  files_put l =
      lines_put page₀ at 68 (file_lines firsts lasts 0) (length firsts) room _ page next i p l
      (triples_over file_key firsts (entry_lengths firsts lasts) (lengths_long firsts lasts rows.even) i (zeros (length firsts)) zeros_long_here l)

-- The want lines that are left, and one of them put.
abbrev pub want_lines : List ℕ → List ℕ → List ℕ → ℕ → List ℕ
want_lines starts firsts lasts i = pair_lines want_key (drop i (each_of suc (length firsts))) (drop i (entry_reads starts firsts lasts))

module _ (page₀ : List ℕ) (at : ℕ) (starts firsts lasts : List ℕ) (rows : EntryRows firsts lasts) (room : at + length firsts * 47 ≤ length page₀) (page : List ℕ) (next i : ℕ)
    (p : LinesPut page₀ at 47 (want_lines starts firsts lasts 0) (length firsts) (want_lines starts firsts lasts i) page next i) where
  wants_even_here : length (each_of suc (length firsts)) ≡ length (entry_reads starts firsts lasts)
  wants_even_here = length_each suc (length firsts) ∙ reads_long starts firsts lasts rows.even

  want_left : i < length firsts → want_lines starts firsts lasts i ≡ pair_line want_key (i + 1) (reads_of_entry (get_or firsts i 0) (get_or lasts i 0) starts) ++ want_lines starts firsts lasts (i + 1)
  want_left l =
      pairs_left want_key (each_of suc (length firsts)) (entry_reads starts firsts lasts) wants_even_here i (omega (arith, length_each suc (length firsts)))
      ∙ rw (each_at suc (length firsts) i l, reads_at starts firsts lasts i l (omega (arith, rows.even)), add-one)

  pub want_put : i < length firsts → (reads : ℕ) → reads ≡ reads_of_entry (get_or firsts i 0) (get_or lasts i 0) starts → (page' : List ℕ) (last : ℕ)
      → Put page next (pair_line want_key (i + 1) reads) 47 page' last → LinesPut page₀ at 47 (want_lines starts firsts lasts 0) (length firsts) (want_lines starts firsts lasts (i + 1)) page' last (i + 1)
  want_put l reads e page' last q = line_put page₀ at 47 (want_lines starts firsts lasts 0) (length firsts) room _ page next i p l _ _ (rw e (want_left l)) 47 (omega arith) page' last q

  pub wants_put : length firsts ≤ i → Wrote page₀ at (want_lines starts firsts lasts 0) (length firsts * 47) page next
  wants_put l =
      lines_put page₀ at 47 (want_lines starts firsts lasts 0) (length firsts) room _ page next i p l
      (pairs_over want_key (each_of suc (length firsts)) (entry_reads starts firsts lasts) wants_even_here i (omega (arith, length_each suc (length firsts))))

-- The whole sheet, part by part.
module _ (name starts firsts lasts head turn : List ℕ) (few : length firsts ≤ 64) (page : List ℕ) (room : sheet_most ≤ length page) (place price : ℕ)
    (page₁ : List ℕ) (at₁ : ℕ) (top : Wrote page 0 (top_text name place price (length firsts)) 112 page₁ at₁) where
  pub files_room : at₁ + length firsts * 68 ≤ length page₁
  files_room = omega (arith, wrote_long top (omega arith), top.within)

  module _ (page₂ : List ℕ) (at₂ : ℕ) (files : Wrote page₁ at₁ (file_lines firsts lasts 0) (length firsts * 68) page₂ at₂) (page₃ : List ℕ) (at₃ : ℕ)
      (number : Put page₂ at₂ (number_line wants_key (length firsts)) 27 page₃ at₃) where
    three : Wrote page 0 (top_text name place price (length firsts) ++ file_lines firsts lasts 0 ++ number_line wants_key (length firsts)) (112 + length firsts * 68 + 27) page₃ at₃
    three = wrote_on (wrote_both top files) (omega arith) number

    pub wants_room : at₃ + length firsts * 47 ≤ length page₃
    wants_room = omega (arith, wrote_long three (omega arith), three.within)

    pub sheet_put : place ≡ given_or (last_or 0 lasts) head → price ≡ given_or 12000 turn → (page₄ : List ℕ) (at₄ : ℕ)
        → Wrote page₃ at₃ (want_lines starts firsts lasts 0) (length firsts * 47) page₄ at₄ → Wrote page 0 (picked_sheet name starts firsts lasts head turn) sheet_most page₄ at₄
    unfolding picked_sheet picked_run sheet_text
    sheet_put h t page₄ at₄ wants =
        let all = wrote_within (wrote_both three wants) sheet_most (omega arith) in
        rw (← h, ← t, length_each suc (length firsts)) all
