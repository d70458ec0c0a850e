-- Texts measured against a row and laid on it, one behind the other; the names line by line and entry by entry.
use Prim.Native.Nat.{ℕ, suc, ◌+◌, ◌-◌, ◌≤◌, ◌<◌}
use mathlib.Core.Path.{◌≡◌, refl, ap, sym, ◌∙◌, subst}
use mathlib.Core.Bool.{Bool, true, false, not, true≢false, false≢true}
use mathlib.Core.List.{List, [], ◌∷◌, ◌++◌, append_assoc, append-nil}
use native.Mathlib.Omega.{arith}
use native.Mathlib.Numerals.{add-one}
use native.Mathlib.Decide.{dec_lt}
use lib.ListN.{length, get_or, take, drop, length-append, drop_of_length-le}
use lib.Seq.{drop-cons}
use Rattle.text_bytes.specs.Text.{bytes, comma, line_feed}
use Rattle.text_pages.specs.Printing.{line, pair_text, Wrote, Put}
use Rattle.text_pages.proofs.Pages.{wrote_long, wrote_within, wrote_on, wrote_both}
use Rattle.text_paths.specs.Paths.{line_count, path_after}
use Rattle.sheet_picks.specs.Names.{name_line, same_path, is_first_line, lines_where, texts_of, lies_in_entry, name_of_line, names_of_entry, names_onward, names_text}
use Rattle.sheet_picks.specs.Private.{PathStands, EntryRows, first_reads, NextAt, name_head, Laid}
use Rattle.sheet_picks.proofs.Lines.{reads_first, reads_later}

-- Nothing laid.
pub laid_none : (writing : Bool) (row : List ℕ) (at : ℕ) → Laid writing row at [] row at
laid_none writing row at =
    record {
      long = refl;
      measured = record { fits = λ l. omega arith; over = λ l. omega arith };
      kept = λ _. refl;
      put = λ _ l. record { after = omega arith; bytes = sym (append-nil (take at row)); later = refl; within = omega arith };
    }

-- One text behind another.
module _ (writing : Bool) (row : List ℕ) (at : ℕ) (a row₁ : List ℕ) (at₁ : ℕ) (p : Laid writing row at a row₁ at₁) (b row₂ : List ℕ) (at₂ : ℕ) (q : Laid writing row₁ at₁ b row₂ at₂) where
  size : length (a ++ b) ≡ length a + length b
  size = length-append a b

  both_fit_here : at + length (a ++ b) ≤ length row → (at₁ ≡ at + length a) × (at₁ + length b ≤ length row₁)
  both_fit_here l =
      let s = size in
      let h : at₁ ≡ at + length a = p.measured.fits (omega arith) in
      (h, omega (arith, p.long))

  both_over : length row < at + length (a ++ b) → length row < at₂
  both_over l =
      let s = size in
      elim (dec_lt (length row) (at + length a)) [
        | yes h ↦ let o = p.measured.over h in omega (arith, p.long, q.measured.over (omega (arith, p.long)))
        | no h ↦ let f : at₁ ≡ at + length a = p.measured.fits (omega arith) in omega (arith, p.long, q.measured.over (omega (arith, p.long)))
      ]

  pub laid_both : Laid writing row at (a ++ b) row₂ at₂
  laid_both =
      record {
        long = q.long ∙ p.long;
        measured =
            record {
              fits = λ l. let h = both_fit_here l in omega (arith, size, h.0, q.measured.fits h.1);
              over = both_over;
            };
        kept = λ w. q.kept w ∙ p.kept w;
        put = λ w l.
            let h = both_fit_here l in
            let s = size in
            wrote_within (wrote_both (p.put w (omega arith)) (q.put w h.1)) (length (a ++ b)) (omega arith);
      }

-- The part of a page that a text fills is as long as the text.
pub part_size : (page text : List ℕ) (most : ℕ) (page' : List ℕ) (size : ℕ) → Wrote page 0 text most page' size → size ≡ length (take size page')
part_size page text most page' size w = omega (arith, w.after, ap length w.bytes)

-- A line of names: its beginning, and what is behind that.
pub head_put : (number reads : ℕ) {page : List ℕ} {page₁ : List ℕ} {at₁ : ℕ} {page₂ : List ℕ} {at₂ : ℕ} {page₃ : List ℕ} {at₃ : ℕ} → 47 ≤ length page
    → Put page 0 (bytes "name=") 5 page₁ at₁ → Put page₁ at₁ (pair_text number reads) 41 page₂ at₂ → Put page₂ at₂ (comma ∷ []) 1 page₃ at₃
    → Wrote page 0 (name_head number reads) 47 page₃ at₃
head_put number reads l p q r = wrote_on (wrote_on (p.room (omega arith)) (omega arith) q) (omega arith) r

pub name_split : (number reads : ℕ) (path : List ℕ) → name_head number reads ++ line [] path ≡ name_line number reads path
name_split number reads path = simp append_assoc

name_size_lem : (number reads : ℕ) (path : List ℕ) → length (name_line number reads path) ≡ length (name_head number reads) + length path + 1
name_size_lem number reads path =
    ap length (sym (name_split number reads path)) ∙ length-append (name_head number reads) (line [] path)
    ∙ rw (length-append path (line_feed ∷ [])) (omega arith)

module _ (row : List ℕ) (at number reads : ℕ) (path page page' : List ℕ) (size : ℕ) (w : Wrote page 0 (name_head number reads) 47 page' size) (next : ℕ)
    (n : NextAt (length row) at (size + length path + 1) next) where
  head_size : size ≡ length (name_head number reads)
  head_size = omega (arith, w.after)

  line_size : length (name_line number reads path) ≡ size + length path + 1
  line_size = name_size_lem number reads path ∙ rw (← head_size)

  measured : NextAt (length row) at (length (name_line number reads path)) next
  measured = rw line_size n

  pub name_measured : Laid false row at (name_line number reads path) row next
  name_measured = record { long = refl; measured = measured; kept = λ _. refl; put = λ e. absurd (false≢true e) }

  pub name_over : length row < next → (writing : Bool) → writing ≡ true → Laid writing row at (name_line number reads path) row next
  name_over l writing t =
      record {
        long = refl;
        measured = measured;
        kept = λ _. refl;
        put = λ _ h. absurd (omega (arith, measured.fits h));
      }

  name_fits_here : next ≤ length row → at + (size + length path + 1) ≤ length row
  name_fits_here l = elim (dec_lt (length row) (at + (size + length path + 1))) [ yes h ↦ absurd (omega (arith, n.over h)) | no h ↦ omega arith ]

  pub name_put : next ≤ length row → (row₁ : List ℕ) (at₁ : ℕ) → Put row at (take size page') (length (take size page')) row₁ at₁
      → (row₂ : List ℕ) (at₂ : ℕ) → Put row₁ at₁ (line [] path) (0 + length path + 1) row₂ at₂ → (writing : Bool) → writing ≡ true
      → Laid writing row at (name_line number reads path) row₂ at₂
  name_put l row₁ at₁ p row₂ at₂ q writing t =
      let room = name_fits_here l in
      let head : take size page' ≡ name_head number reads = w.bytes in
      let p' : Put row at (name_head number reads) size row₁ at₁ = subst (λ k. Put row at (name_head number reads) k row₁ at₁) (sym head_size) (subst (λ x. Put row at x (length x) row₁ at₁) head p) in
      let w₁ : Wrote row at (name_head number reads) size row₁ at₁ = p'.room (omega arith) in
      let w₂ : Wrote row at (name_head number reads ++ line [] path) (size + (0 + length path + 1)) row₂ at₂ = wrote_on w₁ (omega arith) q in
      let w₃ : Wrote row at (name_line number reads path) (size + (0 + length path + 1)) row₂ at₂ = subst (λ x. Wrote row at x (size + (0 + length path + 1)) row₂ at₂) (name_split number reads path) w₂ in
      let s = line_size in
      record {
        long = wrote_long w₃ (omega arith);
        measured = record { fits = λ _. w₃.after; over = λ h. absurd (omega arith) };
        kept = λ f. absurd (true≢false (sym t ∙ f));
        put = λ _ _. wrote_within w₃ (length (name_line number reads path)) (omega arith);
      }

-- What the names of an entry say of a line.
module _ (list starts : List ℕ) (number first last i : ℕ) where
  pub no_name_outside : lies_in_entry starts first last i ≡ false → name_of_line list starts number first last i ≡ []
  unfolding name_of_line
  no_name_outside e = rw e

  pub no_name_later : lies_in_entry starts first last i ≡ true → is_first_line list i ≡ false → name_of_line list starts number first last i ≡ []
  unfolding name_of_line
  no_name_later e f = rw (e, f)

  name_here : lies_in_entry starts first last i ≡ true → is_first_line list i ≡ true
      → name_of_line list starts number first last i ≡ name_line number (lines_where (same_path list i) (line_count list)) (path_after i list)
  unfolding name_of_line
  name_here e f = rw (e, f)

  module _ (writing : Bool) (row : List ℕ) (at : ℕ) where
    pub laid_outside : (t : Bool) → t ≡ lies_in_entry starts first last i → not t ≡ true → Laid writing row at (name_of_line list starts number first last i) row at
    laid_outside false told e = rw (no_name_outside (sym told)) (laid_none writing row at)
    laid_outside true told e = absurd (false≢true e)

    module _ (t : Bool) (told : t ≡ lies_in_entry starts first last i) (in-it : not t ≡ false) (l : i < line_count list) (reads : ℕ) (r : reads ≡ first_reads list i) where
      inside : lies_in_entry starts first last i ≡ true
      inside = sym told ∙ borrow.Author.Tests.not-false t in-it

      pub laid_later : reads ≡ 0 → Laid writing row at (name_of_line list starts number first last i) row at
      laid_later z = rw (no_name_later inside (reads_later list i l reads r z)) (laid_none writing row at)

      pub laid_name : (reads ≡ 0 → ⊥) → (from end : ℕ) → PathStands list from end i → (row' : List ℕ) (next : ℕ)
          → Laid writing row at (name_line number reads (take (end - from) (drop from list))) row' next → Laid writing row at (name_of_line list starts number first last i) row' next
      laid_name z from end s row' next p =
          let f = reads_first list i l reads r z in
          rw (name_here inside f.0, ← f.1, ← s.path) p

-- The names of an entry so far.
pub record EntrySoFar (list starts : List ℕ) (number first last : ℕ) (writing : Bool) (row₀ : List ℕ) (at : ℕ) (row : List ℕ) (next i : ℕ) : Type 0 where
  pub few : i ≤ line_count list
  pub so_far : Laid writing row₀ at (texts_of (name_of_line list starts number first last) i) row next

module _ (list starts : List ℕ) (number first last : ℕ) (writing : Bool) (row₀ : List ℕ) (at : ℕ) where
  pub entry_none : EntrySoFar list starts number first last writing row₀ at row₀ at 0
  unfolding texts_of
  entry_none = record { few = omega arith; so_far = laid_none writing row₀ at }

  module _ (row : List ℕ) (next i : ℕ) (p : EntrySoFar list starts number first last writing row₀ at row next i) where
    pub entry_more : i < line_count list → (row' : List ℕ) (next' : ℕ) → Laid writing row next (name_of_line list starts number first last i) row' next'
        → EntrySoFar list starts number first last writing row₀ at row' next' (i + 1)
    unfolding texts_of
    entry_more l row' next' q =
        record { few = omega arith; so_far = rw add-one (laid_both writing row₀ at _ row next p.so_far _ row' next' q) }

    pub entry_all : line_count list ≤ i → Laid writing row₀ at (names_of_entry list starts number first last) row next
    unfolding names_of_entry
    entry_all l = let e : i ≡ line_count list = omega (arith, p.few) in rw (← e) p.so_far

-- The names of the entries passed, and those that are left.
pub record NamesSoFar (list starts firsts lasts : List ℕ) (writing : Bool) (row₀ row : List ℕ) (next k : ℕ) : Type 0 where
  pub few : k ≤ length firsts
  pub text : List ℕ
  pub whole : text ++ names_onward list starts (suc k) (drop k firsts) (drop k lasts) ≡ names_text list starts firsts lasts
  pub so_far : Laid writing row₀ 0 text row next

module _ (list starts firsts lasts : List ℕ) (writing : Bool) (row₀ : List ℕ) where
  pub names_none : NamesSoFar list starts firsts lasts writing row₀ row₀ 0 0
  names_none = record { few = omega arith; text = []; whole = refl; so_far = laid_none writing row₀ 0 }

  module _ (rows : EntryRows firsts lasts) (row : List ℕ) (next k : ℕ) (p : NamesSoFar list starts firsts lasts writing row₀ row next k) where
    names_left : k < length firsts → names_onward list starts (suc k) (drop k firsts) (drop k lasts)
        ≡ names_of_entry list starts (suc k) (get_or firsts k 0) (get_or lasts k 0) ++ names_onward list starts (suc (suc k)) (drop (suc k) firsts) (drop (suc k) lasts)
    unfolding names_onward
    names_left l = rw (drop-cons firsts k 0 l, drop-cons lasts k 0 (omega (arith, rows.even)))

    pub names_more : k < length firsts → (row' : List ℕ) (next' : ℕ) → Laid writing row next (names_of_entry list starts (k + 1) (get_or firsts k 0) (get_or lasts k 0)) row' next'
        → NamesSoFar list starts firsts lasts writing row₀ row' next' (k + 1)
    names_more l row' next' q =
        let here = names_of_entry list starts (k + 1) (get_or firsts k 0) (get_or lasts k 0) in
        record {
          few = omega arith;
          text = p.text ++ here;
          whole = rw (add-one, append_assoc, ← names_left l) p.whole;
          so_far = laid_both writing row₀ 0 p.text row next p.so_far here row' next' q;
        }

    pub names_all : length firsts ≤ k → Laid writing row₀ 0 (names_text list starts firsts lasts) row next
    unfolding names_onward
    names_all l =
        let none : names_onward list starts (suc k) (drop k firsts) (drop k lasts) ≡ [] = rw (drop_of_length-le firsts {i = k} l) in
        let e : p.text ≡ names_text list starts firsts lasts = sym (append-nil p.text) ∙ ap (λ x. p.text ++ x) (sym none) ∙ p.whole in
        subst (λ x. Laid writing row₀ 0 x row next) e p.so_far
