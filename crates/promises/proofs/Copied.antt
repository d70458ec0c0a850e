-- Lines copied from one text to the front of another.
use Prim.Native.Nat.{ℕ, zero, suc, ◌+◌, ◌-◌, ◌≤◌, ◌<◌}
use mathlib.Core.Path.{◌≡◌, refl, ap, sym, ◌∙◌}
use mathlib.Core.Bool.{Bool, true, false}
use mathlib.Core.List.{List, [], ◌∷◌, ◌++◌, append_assoc}
use native.Mathlib.Omega.{arith}
use lib.ListN.{length, take, length-append}
use lib.Seq.{take-append-add}
use Rattle.text_bytes.specs.Text.{line_feed, has, before, behind}
use Rattle.text_bytes.proofs.Split.{split_at, none_before, has_here, before_here, behind_here}
use Rattle.text_lines.specs.Lines.{line_of, after_lines, line_after}
use Rattle.sheet_writer.proofs.Reread.{after_front}
use Rattle.sheet_loose.proofs.Ends.{after_ends}
use Rattle.answer_mend.specs.Mending.{first_lines}

-- The first of several lines, with its LF, and the others.
module _ (text : List ℕ) (ended : has line_feed text ≡ true) where
  abbrev behind-it : List ℕ
  behind-it = behind line_feed text

  text_is_here : text ≡ before line_feed text ++ (line_feed ∷ behind-it)
  text_is_here = split_at line_feed text ended

  first_more : (n : ℕ) → first_lines (suc n) text ≡ before line_feed text ++ (line_feed ∷ first_lines n behind-it)
  first_more n =
      let after = after_front n text in
      let size = ap length text_is_here ∙ length-append (before line_feed text) (line_feed ∷ behind-it) in
      let short = (after_ends n behind-it).short in
      let many : length text - length (after_lines (suc n) text) ≡ length (before line_feed text) + suc (length behind-it - length (after_lines n behind-it)) = omega (arith, ap length after) in
      ap (λ k. take k text) many
      ∙ ap (take (length (before line_feed text) + suc (length behind-it - length (after_lines n behind-it)))) text_is_here
      ∙ take-append-add (before line_feed text) (line_feed ∷ behind-it) (suc (length behind-it - length (after_lines n behind-it)))

  module _ (n : ℕ) (rest : List ℕ) where
    copied_more : first_lines (suc n) text ++ rest ≡ before line_feed text ++ (line_feed ∷ (first_lines n behind-it ++ rest))
    copied_more = ap (λ t. t ++ rest) (first_more n) ∙ append_assoc (before line_feed text) (line_feed ∷ first_lines n behind-it) rest

    copied_behind : behind line_feed (first_lines (suc n) text ++ rest) ≡ first_lines n behind-it ++ rest
    copied_behind = ap (behind line_feed) copied_more ∙ behind_here line_feed (before line_feed text) (first_lines n behind-it ++ rest) (none_before line_feed text)

    copied_first : line_of (first_lines (suc n) text ++ rest) ≡ line_of text
    unfolding line_of
    copied_first =
        rw (copied_more, has_here line_feed (before line_feed text) (first_lines n behind-it ++ rest), before_here line_feed (before line_feed text) (first_lines n behind-it ++ rest) (none_before line_feed text), ended)

-- Each of so many lines has its LF.
abbrev pub Ended : ℕ → List ℕ → Type 0
Ended zero text = Unit {0}
Ended (suc n) text = (has line_feed text ≡ true) × Ended n (behind line_feed text)

pub ended_all : (n : ℕ) (text : List ℕ) → ((i : ℕ) → i < n → has line_feed (after_lines i text) ≡ true) → Ended n text
unfolding after_lines
ended_all zero text h = tt
ended_all (suc n) text h = (h 0 (omega arith), ended_all n (behind line_feed text) (λ i l. rw (after_front i text) at (h (suc i) (omega arith))))

nothing_first : (text : List ℕ) → first_lines 0 text ≡ []
unfolding after_lines
nothing_first text = let e : length text - length text ≡ 0 = omega arith in rw e

pub copied_after : (n : ℕ) (text rest : List ℕ) → Ended n text → after_lines n (first_lines n text ++ rest) ≡ rest
unfolding after_lines
copied_after zero text rest p = rw (nothing_first text)
copied_after (suc n) text rest p =
    after_front n (first_lines (suc n) text ++ rest) ∙ ap (after_lines n) (copied_behind text p.0 n rest) ∙ copied_after n (behind line_feed text) rest p.1

pub copied_line : (n : ℕ) (text rest : List ℕ) → Ended n text → (i : ℕ) → i < n → line_after i (first_lines n text ++ rest) ≡ line_after i text
unfolding after_lines
copied_line zero text rest p i l = absurd (omega arith)
copied_line (suc n) text rest p zero l = copied_first text p.0 n rest
copied_line (suc n) text rest p (suc i) l =
    ap line_of (after_front i (first_lines (suc n) text ++ rest) ∙ ap (after_lines i) (copied_behind text p.0 n rest))
    ∙ copied_line n (behind line_feed text) rest p.1 i (omega arith)
    ∙ ap line_of (sym (after_front i text))

-- What is copied is what comes first.
pub copied_again : (n : ℕ) (text rest : List ℕ) → Ended n text → first_lines n (first_lines n text ++ rest) ≡ first_lines n text
copied_again n text rest p =
    let after = copied_after n text rest p in
    let size = length-append (first_lines n text) rest in
    let many : length (first_lines n text ++ rest) - length (after_lines n (first_lines n text ++ rest)) ≡ length (first_lines n text) = omega (arith, ap length after) in
    ap (λ k. take k (first_lines n text ++ rest)) many ∙ lib.Seq.take-append_seam (first_lines n text) rest
