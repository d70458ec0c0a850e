-- A byte count's line, read; and what stands where a part begins.
use Prim.Native.Nat.{ℕ, ◌+◌, ◌≤◌, ◌<◌}
use mathlib.Core.Path.{◌≡◌, refl, subst}
use mathlib.Core.Bool.{false}
use mathlib.Core.List.{List, [], ◌∷◌}
use native.Mathlib.Omega.{arith}
use lib.ListN.{length, take, drop, length-drop, drop_of_length-le}
use borrow.Author.Tests.{le-leb, lt-leb}
use Rattle.text_bytes.specs.Text.{line_feed, is_empty, has, is_number}
use Rattle.text_bytes.specs.Found.{FirstAt, FoundIn, NumberIs, NumberFound}
use Rattle.text_bytes.proofs.Bytes.{not_empty}
use Rattle.std.specs.Prelude.{Option, Some, None, Result, Ok, Err}
use Rattle.answer_month.specs.declared.BadPart.{BadPart}
use Rattle.answer_month.specs.Parts.{most_sheets, is_count, count_of, part_of}
use Rattle.answer_month.specs.Private.{line_behind}

pub no_line : (line : List ℕ) (r : Option ℕ) → FoundIn line_feed line r → r ≡ None → Err (record {}) ≡ count_of line
unfolding count_of is_count
no_line line r found e =
    let none : has line_feed line ≡ false = subst (FoundIn line_feed line) e found in
    rw none refl

module _ (line : List ℕ) (r : Option ℕ) (found : FoundIn line_feed line r) (i : ℕ) (e : r ≡ Some i) where
  pub ends_at : FirstAt line_feed line i
  ends_at = subst (FoundIn line_feed line) e found

  pub more_behind : (i + 1 ≡ length line → ⊥) → Err (record {}) ≡ count_of line
  unfolding count_of is_count
  more_behind h =
      let some : 0 < length (drop (i + 1) line) = rw length-drop (omega (arith, h, ends_at.within)) in
      rw (ends_at.stands, ends_at.back, not_empty (drop (i + 1) line) some) refl

  module _ (last : i + 1 ≡ length line) (n : Option ℕ) (number : NumberFound (take i line) n) where
    nothing_behind_here : drop (i + 1) line ≡ []
    nothing_behind_here = drop_of_length-le line {i = i + 1} (omega (arith, last))

    pub not_number : n ≡ None → Err (record {}) ≡ count_of line
    unfolding count_of is_count
    not_number q =
        let bad : is_number (take i line) ≡ false = subst (NumberFound (take i line)) q number in
        rw (ends_at.stands, ends_at.back, nothing_behind_here, ends_at.front, bad) refl

    pub counts : (bytes : ℕ) → n ≡ Some bytes → Ok (Some bytes) ≡ count_of line
    unfolding count_of is_count
    counts bytes q =
        let good : NumberIs (take i line) bytes = subst (NumberFound (take i line)) q number in
        rw (ends_at.stands, ends_at.back, nothing_behind_here, ends_at.front, good.good, good.value) refl

pub part_end : (sheets : ℕ) (line : List ℕ) → length line ≡ 0 → Ok None ≡ part_of sheets line
unfolding part_of
part_end sheets [] e = refl
part_end sheets (b ∷ line) e = absurd (omega arith)

module _ (sheets : ℕ) (line : List ℕ) (some : length line ≡ 0 → ⊥) where
  begins : is_empty line ≡ false
  begins = not_empty line (omega (arith, some))

  pub part_line : (p : Result (Option ℕ) BadPart) → p ≡ line_behind sheets line → p ≡ part_of sheets line
  unfolding part_of
  part_line p e = rw begins e

pub behind_past : (sheets : ℕ) (line : List ℕ) → most_sheets ≤ sheets → Err (record {}) ≡ line_behind sheets line
behind_past sheets line h = rw (le-leb most_sheets sheets h) refl

pub behind_line : (sheets : ℕ) (line : List ℕ) → sheets < most_sheets → (p : Result (Option ℕ) BadPart) → p ≡ count_of line → p ≡ line_behind sheets line
behind_line sheets line h p e = rw (lt-leb most_sheets sheets h) e
