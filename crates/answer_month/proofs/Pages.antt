-- The parts of a month's page put one behind the other.
use Prim.Native.Nat.{ℕ, ◌+◌, ◌*◌, ◌≤◌, ◌<◌}
use mathlib.Core.Path.{◌≡◌, refl, sym, ap, ◌∙◌, subst}
use mathlib.Core.Bool.{Bool, true, false, not, cond}
use mathlib.Core.List.{List, [], ◌∷◌, ◌++◌, append-nil, append_assoc}
use native.Mathlib.Omega.{arith}
use native.Mathlib.Numerals.{add-one}
use lib.ListN.{length, get_or, take, drop, drop_of_length-le, length-take}
use lib.Seq.{drop-cons}
use lib.Dec.{ltb, eqb}
use borrow.Author.Tests.{eq-eqb, ne_eqb, ltb-true, ltb-false}
use Rattle.refusals.specs.declared.Verdict.{Verdict}
use Rattle.refusals.specs.Refusals.{number_of, is_refusal, checked}
use Rattle.std.specs.Prelude.{Result}
use Rattle.std.specs.Result.{is_ok}
use Rattle.text_bytes.specs.Text.{bytes, comma, decimal}
use Rattle.text_pages.specs.Printing.{number_line, pair_line, Wrote, Put}
use Rattle.text_pages.proofs.Pages.{wrote_page, wrote_long, wrote_within, wrote_both, wrote_on}
use Rattle.answer_plan.specs.Recall.{bytes_put, row_put}
use Rattle.answer_month.specs.declared.Month.{Month}
use Rattle.answer_month.specs.declared.Mean.{Mean}
use Rattle.answer_month.specs.Page.{one_if, kinds_in, refusal_line, refusal_lines, mean_of, month_top, sums_text, longest_text, month_tape, month_end, page_text, PagePut}

-- The numbers that have runs, counted.
pub one_few : (runs : ℕ) → one_if runs ≤ 1
one_few runs = go (eqb runs 0)
  where
    go : (b : Bool) → cond b 0 1 ≤ 1
    go true = omega arith
    go false = omega arith

pub kinds_turn : (runs : List ℕ) (i : ℕ) → i < length runs → kinds_in (drop i runs) ≡ one_if (get_or runs i 0) + kinds_in (drop (i + 1) runs)
unfolding kinds_in
kinds_turn runs i l = rw (drop-cons runs i 0 l, add-one i)

pub kinds_done : (runs : List ℕ) (i : ℕ) → length runs ≤ i → kinds_in (drop i runs) ≡ 0
unfolding kinds_in
kinds_done runs i l = rw (drop_of_length-le runs l) refl

-- Their lines.
pub lines_left : (runs : List ℕ) (i : ℕ) → i < length runs → refusal_lines i (drop i runs) ≡ refusal_line i (get_or runs i 0) ++ refusal_lines (i + 1) (drop (i + 1) runs)
unfolding refusal_lines
lines_left runs i l = rw (drop-cons runs i 0 l, add-one i)

pub lines_over : (runs : List ℕ) (i : ℕ) → length runs ≤ i → refusal_lines i (drop i runs) ≡ []
unfolding refusal_lines
lines_over runs i l = rw (drop_of_length-le runs l) refl

module _ (page : List ℕ) (at number runs : ℕ) (room : at + 50 ≤ length page) where
  pub refusal_none : runs ≡ 0 → Wrote page at (refusal_line number runs) 50 page at
  unfolding refusal_line
  refusal_none e =
      rw (eq-eqb runs 0 e)
      (record { after = omega arith; bytes = sym (append-nil (take at page)); later = refl; within = omega arith })

  pub refusal_some : (runs ≡ 0 → ⊥) → (page' : List ℕ) (next : ℕ) → Put page at (pair_line (bytes "refusal=") number runs) 50 page' next → Wrote page at (refusal_line number runs) 50 page' next
  unfolding refusal_line
  refusal_some some page' next p = rw (ne_eqb runs 0 some) (p.room room)

-- The page's four parts.
pub put_top_lem : (accepted kinds : ℕ) (runs : List ℕ) → kinds ≡ kinds_in runs → (page page₁ page₂ page₃ : List ℕ) (at₁ at₂ at₃ : ℕ) → 60 + length runs * 50 ≤ length page
    → Put page 0 (number_line (bytes "accepted=") accepted) 30 page₁ at₁ → Put page₁ at₁ (number_line (bytes "refusals=") kinds) 30 page₂ at₂
    → Wrote page₂ at₂ (refusal_lines 0 runs) (length runs * 50) page₃ at₃ → Wrote page 0 (month_top accepted runs) (60 + length runs * 50) page₃ at₃
unfolding month_top
put_top_lem accepted kinds runs is page page₁ page₂ page₃ at₁ at₂ at₃ room p q s =
    let two = wrote_on (p.room (omega arith)) (omega arith) (subst (λ k. Put page₁ at₁ (number_line (bytes "refusals=") k) 30 page₂ at₂) is q) in
    wrote_both two s

pub top_room : (accepted kinds : ℕ) (runs page page₁ page₂ : List ℕ) (at₁ at₂ : ℕ) → 60 + length runs * 50 ≤ length page
    → Put page 0 (number_line (bytes "accepted=") accepted) 30 page₁ at₁ → Put page₁ at₁ (number_line (bytes "refusals=") kinds) 30 page₂ at₂ → at₂ + length runs * 50 ≤ length page₂
top_room accepted kinds runs page page₁ page₂ at₁ at₂ room p q =
    let two = wrote_on (p.room (omega arith)) (omega arith) q in
    omega (arith, two.within, wrote_long two (omega arith))

pub put_sums_lem : (reads sum : ℕ) (mean : Mean) → mean ≡ mean_of sum reads → (page page₁ page₂ page₃ : List ℕ) (at at₁ at₂ at₃ : ℕ) → at + 99 ≤ length page
    → Put page at (number_line (bytes "reads=") reads) 27 page₁ at₁ → Put page₁ at₁ (number_line (bytes "sum=") sum) 25 page₂ at₂
    → Put page₂ at₂ (pair_line (bytes "mean=") mean.whole mean.rest) 47 page₃ at₃ → Wrote page at (sums_text reads sum) 99 page₃ at₃
unfolding sums_text
put_sums_lem reads sum mean is page page₁ page₂ page₃ at at₁ at₂ at₃ room p q s =
    let last = subst (λ m. Put page₂ at₂ (pair_line (bytes "mean=") m.whole m.rest) 47 page₃ at₃) is s in
    wrote_on (wrote_on (p.room (omega arith)) (omega arith) q) (omega arith) last

pub put_longest_lem : (time : ℕ) (tape : List ℕ) (file : ℕ) → length tape ≤ 16 → (page page₁ page₂ page₃ page₄ page₅ : List ℕ) (at at₁ at₂ at₃ at₄ at₅ : ℕ) → at + 67 ≤ length page
    → Put page at (bytes "longest=") 8 page₁ at₁ → Put page₁ at₁ (decimal time) 20 page₂ at₂ → Put page₂ at₂ (comma ∷ []) 1 page₃ at₃ → Put page₃ at₃ tape (length tape) page₄ at₄
    → Put page₄ at₄ (number_line (comma ∷ []) file) 22 page₅ at₅ → Wrote page at (longest_text time tape file) 67 page₅ at₅
unfolding longest_text
put_longest_lem time tape file short page page₁ page₂ page₃ page₄ page₅ at at₁ at₂ at₃ at₄ at₅ room p q s t u =
    let three = wrote_on (wrote_on (p.room (omega arith)) (omega arith) q) (omega arith) s in
    wrote_within (wrote_on (wrote_on three (omega arith) t) (omega arith) u) 67 (omega arith)

pub short_tape : (tape name : List ℕ) (letters : ℕ) → name ≡ take letters tape → 16 ≡ length tape → length name ≤ 16
short_tape tape name letters e long = rw (e, length-take) (omega (arith, long))

module _ (saved : ℕ) (v : Verdict) (r : Result Unit Verdict) (told : r ≡ checked v) (page page₁ : List ℕ) (at at₁ : ℕ) (room : at + 83 ≤ length page) (p : Put page at (number_line (bytes "saved=") saved) 27 page₁ at₁) where
  refuses_by : (b : Bool) → is_ok r ≡ b → is_refusal v.refusal ≡ not b
  refuses_by b e = go (is_refusal v.refusal) refl (rw told at e)
    where
      go : (x : Bool) → is_refusal v.refusal ≡ x → is_ok (checked v) ≡ b → is_refusal v.refusal ≡ not b
      go true h s = h ∙ ap not (rw h at s)
      go false h s = h ∙ ap not (rw h at s)

  pub put_saved : is_ok r ≡ true → Wrote page at (month_end saved v) 83 page₁ at₁
  unfolding month_end
  put_saved n =
      let alone = wrote_within (p.room (omega arith)) 83 (omega arith) in
      rw (refuses_by true n) (subst (λ t. Wrote page at t 83 page₁ at₁) (sym (append-nil (number_line (bytes "saved=") saved))) alone)

  pub put_refused : is_ok r ≡ false → (number : ℕ) → number ≡ number_of v.refusal → (page₂ page₃ : List ℕ) (at₂ at₃ : ℕ) → Put page₁ at₁ (number_line (bytes "refused=") number) 29 page₂ at₂
      → Put page₂ at₂ (number_line (bytes "place=") v.place) 27 page₃ at₃ → Wrote page at (month_end saved v) 83 page₃ at₃
  unfolding month_end
  put_refused n number is page₂ page₃ at₂ at₃ q s =
      let said = subst (λ n. Put page₁ at₁ (number_line (bytes "refused=") n) 29 page₂ at₂) is q in
      let all = wrote_on (wrote_on (p.room (omega arith)) (omega arith) said) (omega arith) s in
      rw (refuses_by false n) (subst (λ t. Wrote page at t 83 page₃ at₃) (append_assoc (number_line (bytes "saved=") saved) (number_line (bytes "refused=") (number_of v.refusal)) (number_line (bytes "place=") v.place)) all)

-- A text in the first bytes of a row, or not.
module _ (text row : List ℕ) where
  bytes_none_here : ltb (length row) (length text) ≡ true → bytes_put text row ≡ 0
  unfolding bytes_put
  bytes_none_here e = rw e refl

  bytes_some : ltb (length row) (length text) ≡ false → bytes_put text row ≡ length text
  unfolding bytes_put
  bytes_some e = rw e refl

  row_none : ltb (length row) (length text) ≡ true → row_put text row ≡ row
  unfolding row_put
  row_none e = rw e refl

  row_some : ltb (length row) (length text) ≡ false → row_put text row ≡ text ++ drop (length text) row
  unfolding row_put
  row_some e = rw e refl

row_with_lem : {row : List ℕ} {text : List ℕ} {most : ℕ} {row' : List ℕ} {n : ℕ} → Wrote row 0 text most row' n → row' ≡ text ++ drop (length text) row
row_with_lem {row} {text} {n = n} w = let e : n ≡ length text = omega (arith, w.after) in wrote_page w ∙ ap (λ k. text ++ drop k row) e

-- The whole page, on one that has room for the longest.
module _ (m : Month) (v : Verdict) (thirtytwo : length m.refused ≡ 32) (page₀ : List ℕ) (long : length page₀ ≡ 2048)
    (page₁ : List ℕ) (at₁ : ℕ) (top : Wrote page₀ 0 (month_top m.accepted m.refused) (60 + length m.refused * 50) page₁ at₁) where
  pub room_two : at₁ + 99 ≤ length page₁
  room_two = omega (arith, top.within, wrote_long top (omega arith))

  module _ (page₂ : List ℕ) (at₂ : ℕ) (sums : Wrote page₁ at₁ (sums_text m.reads m.sum) 99 page₂ at₂) where
    pub room_three : at₂ + 67 ≤ length page₂
    room_three = omega (arith, top.within, sums.within, wrote_long top (omega arith), wrote_long sums room_two)

    module _ (name : List ℕ) (is : name ≡ month_tape m) (page₃ : List ℕ) (at₃ : ℕ) (longest : Wrote page₂ at₂ (longest_text m.time name m.file) 67 page₃ at₃) where
      pub room_four : at₃ + 83 ≤ length page₃
      room_four = omega (arith, top.within, sums.within, longest.within, wrote_long top (omega arith), wrote_long sums room_two, wrote_long longest room_three)

      module _ (page₄ : List ℕ) (at₄ : ℕ) (end : Wrote page₃ at₃ (month_end m.saved v) 83 page₄ at₄) where
        whole : Wrote page₀ 0 (page_text m v) (60 + length m.refused * 50 + 99 + 67 + 83) page₄ at₄
        unfolding page_text
        whole =
            let named = subst (λ t. Wrote page₂ at₂ (longest_text m.time t m.file) 67 page₃ at₃) is longest in
            wrote_both (wrote_both (wrote_both top sums) named) end

        pub page_kept : length page₄ ≡ 2048
        page_kept = wrote_long whole (omega arith) ∙ long

        pub page_within : at₄ ≤ 2048
        page_within = omega (arith, whole.within)

        pub page_is : take at₄ page₄ ≡ page_text m v
        page_is = whole.bytes

        -- Handed out.
        pub page_put : (row : List ℕ) (n : ℕ) (row' : List ℕ) → Put row 0 (take at₄ page₄) (length (take at₄ page₄)) row' n → PagePut m v row n row'
        page_put row n row' p = go (ltb (length row) (length (page_text m v))) refl
          where
            put : Put row 0 (page_text m v) (length (page_text m v)) row' n
            put = subst (λ t. Put row 0 t (length t) row' n) page_is p

            go : (b : Bool) → ltb (length row) (length (page_text m v)) ≡ b → PagePut m v row n row'
            go true e =
                let l = ltb-true (length row) (length (page_text m v)) e in
                let none = put.full (omega arith) in
                record { bytes = none.1 ∙ sym (bytes_none_here (page_text m v) row e); left = none.0 ∙ sym (row_none (page_text m v) row e) }
            go false e =
                let l = ltb-false (length row) (length (page_text m v)) e in
                let w = put.room (omega arith) in
                let size : n ≡ length (page_text m v) = omega (arith, w.after) in
                record { bytes = size ∙ sym (bytes_some (page_text m v) row e); left = row_with_lem w ∙ sym (row_some (page_text m v) row e) }
