-- The loops that look for a bad file and a bad want, and what is known of a file or a want that is not bad.
use Prim.Native.Nat.{ℕ, ◌+◌, ◌≤◌, ◌<◌}
use mathlib.Core.Path.{◌≡◌, refl, sym, ◌∙◌}
use mathlib.Core.Bool.{Bool, true, false, ◌||◌}
use mathlib.Core.List.{List}
use native.Mathlib.Omega.{arith}
use native.Mathlib.Numerals.{add-one}
use lib.ListN.{length, get_or, drop}
use lib.Seq.{drop-cons}
use lib.Dec.{ltb, leb, eqb}
use borrow.Author.Tests.{eqb-false, ltb-false, leb-false, le-ltb, lt-leb, ne_eqb}
use Rattle.refusals.specs.Refusals.{first_where}
use Rattle.runs.specs.Run.{end_at, last_place, most_reads, total}
use Rattle.runs.specs.Rows.{counted_reads}
use Rattle.runs.specs.Judging.{bad_place, bad_want, end_before, number_before}
use Rattle.runs.proofs.Search.{first_none, first_more, first_here, or_false_both}

-- A test of `==` that fails against 0.
not_zero : (n : ℕ) → eqb n 0 ≡ false → 0 < n
not_zero n e = let h : n ≡ 0 → ⊥ = eqb-false n 0 e in omega arith

-- A file that is not bad has a length, starts at or after the end before it, and ends within the tape.
pub record GoodFile (starts lengths : List ℕ) (i : ℕ) : Type 0 where
  pub long : 0 < get_or lengths i 0
  pub after : end_before starts lengths i ≤ get_or starts i 0
  pub ends : end_at starts lengths i ≤ last_place

pub good_file : (starts lengths : List ℕ) (i : ℕ) → bad_place starts lengths i ≡ false → GoodFile starts lengths i
good_file starts lengths i e =
    let both = or_false_both _ _ e in
    let two = or_false_both _ _ both.0 in
    record {
      long = not_zero (get_or lengths i 0) two.0;
      after = ltb-false (get_or starts i 0) (end_before starts lengths i) two.1;
      ends = ltb-false last_place (end_at starts lengths i) both.1;
    }

-- Before the file at index i: none before it is bad, and the end of the last one is at hand.
pub record FilesPassed (starts lengths : List ℕ) (before i : ℕ) : Type 0 where
  pub within : i ≤ length starts
  pub last : before ≡ end_before starts lengths i
  pub none : first_where (bad_place starts lengths) i ≡ 0

pub files_none : (starts lengths : List ℕ) → FilesPassed starts lengths 0 0
files_none starts lengths = record { within = omega arith; last = refl; none = first_none (bad_place starts lengths) }

module _ (starts lengths : List ℕ) (before i : ℕ) (p : FilesPassed starts lengths before i) (l : i < length starts) (t : Bool)
    (test : t ≡ (eqb (get_or lengths i 0) 0 || ltb (get_or starts i 0) before || ltb last_place (get_or starts i 0 + get_or lengths i 0))) where
  tested : bad_place starts lengths i ≡ t
  tested = rw (test, p.last)

  pub bad_place_found : t ≡ true → i + 1 ≡ first_where (bad_place starts lengths) (length starts)
  bad_place_found e = sym (first_here (bad_place starts lengths) i (length starts) p.none (tested ∙ e) l)

  pub file_passed : t ≡ false → FilesPassed starts lengths (get_or starts i 0 + get_or lengths i 0) (i + 1)
  file_passed e =
      record {
        within = omega arith;
        last = rw add-one;
        none = first_more (bad_place starts lengths) i p.none (tested ∙ e);
      }

  pub end_fits : t ≡ false → get_or starts i 0 + get_or lengths i 0 ≤ last_place
  end_fits e = (good_file starts lengths i (tested ∙ e)).ends

-- A want that is not bad names a file of the table, above the one before it, at least once.
pub record GoodWant (files : ℕ) (numbers counts : List ℕ) (i : ℕ) : Type 0 where
  pub named : 0 < get_or numbers i 0
  pub in_table : get_or numbers i 0 ≤ files
  pub above : number_before numbers i < get_or numbers i 0
  pub counted : 0 < get_or counts i 0

pub good_want : (files : ℕ) (numbers counts : List ℕ) (i : ℕ) → bad_want files numbers counts i ≡ false → GoodWant files numbers counts i
good_want files numbers counts i e =
    let all = or_false_both _ _ e in
    let three = or_false_both _ _ all.0 in
    let two = or_false_both _ _ three.0 in
    record {
      named = not_zero (get_or numbers i 0) two.0;
      in_table = ltb-false files (get_or numbers i 0) two.1;
      above = leb-false (get_or numbers i 0) (number_before numbers i) three.1;
      counted = not_zero (get_or counts i 0) all.1;
    }

-- And the other way round, for a file and for a want.
pub file_good : (starts lengths : List ℕ) (i : ℕ) → GoodFile starts lengths i → bad_place starts lengths i ≡ false
file_good starts lengths i g =
    rw (
      ne_eqb (get_or lengths i 0) 0 (omega (arith, g.long)),
      le-ltb (get_or starts i 0) (end_before starts lengths i) g.after,
      le-ltb last_place (end_at starts lengths i) g.ends,
    )

pub want_good : (files : ℕ) (numbers counts : List ℕ) (i : ℕ) → GoodWant files numbers counts i → bad_want files numbers counts i ≡ false
want_good files numbers counts i g =
    rw (
      ne_eqb (get_or numbers i 0) 0 (omega (arith, g.named)),
      le-ltb files (get_or numbers i 0) g.in_table,
      lt-leb (get_or numbers i 0) (number_before numbers i) g.above,
      ne_eqb (get_or counts i 0) 0 (omega (arith, g.counted)),
    )

-- Before the want at index i: none before it is bad, and the last number is at hand.
pub record WantsPassed (files : ℕ) (numbers counts : List ℕ) (before i : ℕ) : Type 0 where
  pub within : i ≤ length numbers
  pub last : before ≡ number_before numbers i
  pub none : first_where (bad_want files numbers counts) i ≡ 0

pub wants_none : (files : ℕ) (numbers counts : List ℕ) → WantsPassed files numbers counts 0 0
wants_none files numbers counts = record { within = omega arith; last = refl; none = first_none (bad_want files numbers counts) }

module _ (files : ℕ) (numbers counts : List ℕ) (before i : ℕ) (p : WantsPassed files numbers counts before i) (l : i < length numbers) (t : Bool)
    (test : t ≡ (eqb (get_or numbers i 0) 0 || ltb files (get_or numbers i 0) || leb (get_or numbers i 0) before || eqb (get_or counts i 0) 0)) where
  want_tested : bad_want files numbers counts i ≡ t
  want_tested = rw (test, p.last)

  pub bad_want_found : t ≡ true → i + 1 ≡ first_where (bad_want files numbers counts) (length numbers)
  bad_want_found e = sym (first_here (bad_want files numbers counts) i (length numbers) p.none (want_tested ∙ e) l)

  pub want_passed : t ≡ false → WantsPassed files numbers counts (get_or numbers i 0) (i + 1)
  want_passed e =
      record {
        within = omega arith;
        last = rw add-one;
        none = first_more (bad_want files numbers counts) i p.none (want_tested ∙ e);
      }

-- Adding counts: what has been added, with what is left, is the total, and it has not passed the limit.
pub record Counted (counts : List ℕ) (sum i : ℕ) : Type 0 where
  pub within : i ≤ length counts
  pub small : sum ≤ most_reads
  pub whole : sum + total (drop i counts) ≡ total counts

-- One count more stands at the head of what is left.
pub total_drop : (counts : List ℕ) (i : ℕ) → i < length counts → total (drop i counts) ≡ get_or counts i 0 + total (drop (i + 1) counts)
total_drop counts i l = rw (add-one, drop-cons counts i 0)

-- Within the limit the count is exact.
pub counted_exact : (counts : List ℕ) → total counts ≤ most_reads → counted_reads counts ≡ total counts
counted_exact counts h = rw (le-ltb most_reads (total counts) h)
