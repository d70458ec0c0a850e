-- A detour list read off its two rows: the entries, the rules, and the loops that look for a bad one.
use Prim.Native.Nat.{ℕ, zero, suc, ◌+◌, ◌-◌, ◌≤◌, ◌<◌}
use mathlib.Core.Path.{◌≡◌, refl, ap, sym, ◌∙◌}
use mathlib.Core.Bool.{Bool, true, false, not, ◌||◌, ◌&&◌, true≢false, or-true, and-false}
use mathlib.Core.List.{List, [], ◌∷◌}
use native.Mathlib.Omega.{arith}
use native.Mathlib.Decide.{dec_lt}
use lib.ListN.{length, get_or, take}
use Rattle.std.proofs.lemmas.Grind.{common_steps}
use lib.Dec.{eqb, ltb, leb}
use borrow.Author.Tests.{eqb-true, eq-eqb, leb-true, le-leb, not-true}
use Rattle.std.specs.List.{list_any}
use Rattle.refusals.specs.declared.Verdict.{Verdict}
use Rattle.refusals.specs.Refusals.{first_where}
use Rattle.runs.specs.Run.{goes_on, first_member, first_file, want_stops, joined}
use Rattle.runs.specs.Lists.{Detour, list_of, wanted, leftmost, bad_alone, bad_after, bad_entry, any_below, entry_of, first_bad_entry, list_verdict}
use Rattle.runs.specs.Private.{last_file, some_between, row_named, row_entry, row_alone, row_clash, row_bad}
use Rattle.runs.proofs.Search.{first_same, any_same, first_none, first_more, first_here, any_none, any_more, any_here, ltb_same, leb_not_ltb}
use Rattle.runs.proofs.Members.{and_true_both, goes_on_zero, first_below, first_begins, first_on, first_is, last_above, last_on, member_last}
use Rattle.runs.proofs.Joined.{wanted_joined, leftmost_joined}

-- Looking for a number between two, as `any` does.
pub some_between-list_any : (numbers : List ℕ) (low high : ℕ) → list_any (λ n. leb low n && leb n high) numbers ≡ some_between numbers low high
unfolding some_between
some_between-list_any [] low high = refl
some_between-list_any (n ∷ numbers) low high = rw (some_between-list_any numbers low high)

-- A row with a number between two is not empty.
between_some : (numbers : List ℕ) (low high : ℕ) → some_between numbers low high ≡ true → 0 < length numbers
unfolding some_between
between_some [] low high e = absurd (true≢false (sym e))
between_some (n ∷ numbers) low high e = omega arith

pub named_some : (aggregates numbers : List ℕ) (f : ℕ) → row_named aggregates numbers f ≡ true → 0 < length numbers
named_some aggregates numbers f e = between_some numbers f (last_file aggregates f) (and_true_both (not (goes_on aggregates (f - 1))) (some_between numbers f (last_file aggregates f)) e).1

-- The list in two rows has their entries.
pub length_list : (froms tos : List ℕ) → length froms ≡ length tos → length (list_of froms tos) ≡ length froms
unfolding list_of
length_list [] tos e = refl
length_list (a ∷ froms) [] e = absurd (omega arith)
length_list (a ∷ froms) (b ∷ tos) e = ap suc (length_list froms tos (omega arith))

pub entry_row : (froms tos : List ℕ) → length froms ≡ length tos → (i : ℕ) → i < length froms → entry_of (list_of froms tos) i ≡ row_entry froms tos i
unfolding list_of
entry_row [] tos e i l = absurd (omega arith)
entry_row (a ∷ froms) [] e i l = absurd (omega arith)
entry_row (a ∷ froms) (b ∷ tos) e zero l = refl
entry_row (a ∷ froms) (b ∷ tos) e (suc i) l = entry_row froms tos (omega arith) i (omega arith)

-- Two tests that say the same.
same_test : (a b : Bool) → (a ≡ true → b ≡ true) → (b ≡ true → a ≡ true) → a ≡ b
same_test true b f g = sym (f refl)
same_test false true f g = absurd (true≢false (sym (g refl)))
same_test false false f g = refl

module _ (aggregates : List ℕ) where
  -- The first file of a wanted file's aggregate: it does not go on, and the wanted file lies from it to the last one.
  name_reaches : (n : ℕ) → (goes_on aggregates (first_file aggregates n - 1) ≡ false) × (first_file aggregates n ≤ n) × (n ≤ last_file aggregates (first_file aggregates n))
  name_reaches zero = (goes_on_zero aggregates, omega arith, omega arith)
  name_reaches (suc i) =
      let e : suc (first_member aggregates i) - 1 ≡ first_member aggregates i = omega arith in
      let last = member_last aggregates i (first_member aggregates i) (omega arith) (omega (arith, first_below aggregates i, last_above aggregates i)) in
      (rw e (first_begins aggregates i), omega (arith, first_below aggregates i), omega (arith, last, last_above aggregates i))

  reached_name : (f n : ℕ) → goes_on aggregates (f - 1) ≡ false → f ≤ n → n ≤ last_file aggregates f → first_file aggregates n ≡ f
  reached_name zero n e l h = let z : n ≡ 0 = omega arith in rw z refl
  reached_name (suc m) zero e l h = absurd (omega arith)
  reached_name (suc m) (suc i) e l h =
      let k : suc m - 1 ≡ m = omega arith in
      ap suc (first_is aggregates m i (rw k at e) (omega arith) (λ j a b. last_on aggregates m j a (omega arith)))

  name_is : (f n : ℕ) → eqb (first_file aggregates n) f ≡ (not (goes_on aggregates (f - 1)) && (leb f n && leb n (last_file aggregates f)))
  name_is f n = same_test _ _ there back
    where
      there : eqb (first_file aggregates n) f ≡ true → (not (goes_on aggregates (f - 1)) && (leb f n && leb n (last_file aggregates f))) ≡ true
      there e =
          let is : first_file aggregates n ≡ f = eqb-true _ _ e in
          let r = name_reaches n in
          rw (← is, r.0, le-leb (first_file aggregates n) n r.1, le-leb n (last_file aggregates (first_file aggregates n)) r.2)

      back : (not (goes_on aggregates (f - 1)) && (leb f n && leb n (last_file aggregates f))) ≡ true → eqb (first_file aggregates n) f ≡ true
      back e =
          let both = and_true_both _ _ e in
          let two = and_true_both _ _ both.1 in
          eq-eqb _ _ (reached_name f n (not-true _ both.0) (leb-true f n two.0) (leb-true n (last_file aggregates f) two.1))

  -- A first file is at or left of the leftmost stop's where it is at or left of the leftmost want.
  left_of_first : (f n : ℕ) → goes_on aggregates (f - 1) ≡ false → leb f (first_file aggregates n) ≡ leb f n
  left_of_first f n e =
      leb_not_ltb f (first_file aggregates n)
      ∙ ap not (ltb_same (first_file aggregates n) f n f (there f n e) (λ l. omega (arith, (name_reaches n).1)))
      ∙ sym (leb_not_ltb f n)
    where
      there : (g m : ℕ) → goes_on aggregates (g - 1) ≡ false → first_file aggregates m < g → m < g
      there g zero h l = l
      there zero (suc i) h l = absurd (omega arith)
      there (suc k) (suc i) h l = elim (dec_lt i k) [ yes y ↦ omega arith | no x ↦ absurd (true≢false (sym (inside x) ∙ (rw one at h))) ]
        where
          one : suc k - 1 ≡ k
          one = omega arith

          inside : ¬ (i < k) → goes_on aggregates k ≡ true
          inside x = first_on aggregates i k (omega arith) (omega arith)

-- Which names are wanted, and which is the leftmost, is in the rows of aggregates and numbers.
spread : (g a b : Bool) → ((g && a) || (g && b)) ≡ (g && (a || b))
spread true a b = refl
spread false a b = refl

module _ (starts lengths aggregates : List ℕ) where
  wanted_wants : (ns cs : List ℕ) → length cs ≡ length ns → (f : ℕ) → wanted (want_stops starts lengths aggregates ns cs) f ≡ row_named aggregates ns f
  unfolding wanted some_between want_stops
  wanted_wants [] cs e f = sym (and-false (not (goes_on aggregates (f - 1))))
  wanted_wants (n ∷ ns) [] e f = absurd (omega arith)
  wanted_wants (n ∷ ns) (c ∷ cs) e f =
      rw (name_is aggregates f n, wanted_wants ns cs (omega arith) f)
      (spread (not (goes_on aggregates (f - 1))) (leb f n && leb n (last_file aggregates f)) (some_between ns f (last_file aggregates f)))

  leftmost_wants : (ns cs : List ℕ) → length cs ≡ length ns → leftmost (want_stops starts lengths aggregates ns cs) ≡ first_file aggregates (get_or ns 0 0)
  unfolding want_stops
  leftmost_wants [] cs e = refl
  leftmost_wants (n ∷ ns) [] e = absurd (omega arith)
  leftmost_wants (n ∷ ns) (c ∷ cs) e = refl

  module _ (ns cs : List ℕ) (same : length cs ≡ length ns) where
    pub wanted_named : (f : ℕ) → wanted (joined (want_stops starts lengths aggregates ns cs)) f ≡ row_named aggregates ns f
    wanted_named f = wanted_joined (want_stops starts lengths aggregates ns cs) f ∙ wanted_wants ns cs same f

    pub leftmost_first : leftmost (joined (want_stops starts lengths aggregates ns cs)) ≡ first_file aggregates (get_or ns 0 0)
    leftmost_first = leftmost_joined (want_stops starts lengths aggregates ns cs) ∙ leftmost_wants ns cs same

    alone_row : (d : Detour) → bad_alone (joined (want_stops starts lengths aggregates ns cs)) d ≡ row_alone aggregates ns d.from d.to
    alone_row d = rw (wanted_named d.from, wanted_named d.to, leftmost_first) (by_name (row_named aggregates ns d.from) refl)
      where
        by_name : (b : Bool) → row_named aggregates ns d.from ≡ b
            → (not (row_named aggregates ns d.from) || not (row_named aggregates ns d.to) || ltb d.to d.from || leb d.from (first_file aggregates (get_or ns 0 0)))
            ≡ (not (row_named aggregates ns d.from) || not (row_named aggregates ns d.to) || ltb d.to d.from || leb d.from (get_or ns 0 0))
        by_name true e = rw (left_of_first aggregates d.from (get_or ns 0 0) (not-true _ (and_true_both _ _ e).0))
        by_name false e = rw e

    module _ (froms tos : List ℕ) (even : length froms ≡ length tos) where
      pub bad_row : (i : ℕ) → i < length froms → bad_entry (joined (want_stops starts lengths aggregates ns cs)) (list_of froms tos) i ≡ row_bad aggregates ns froms tos i
      bad_row i l =
          rw (
            any_same
                (λ j. bad_after (entry_of (list_of froms tos) j) (entry_of (list_of froms tos) i))
                (λ j. bad_after (row_entry froms tos j) (row_entry froms tos i))
                i
                (λ j lj. rw (entry_row froms tos even j (omega arith), entry_row froms tos even i l)),
            entry_row froms tos even i l,
          )
          (ap (λ b. b || row_clash froms tos i) (alone_row (row_entry froms tos i)))

      -- So the first bad entry is found in the rows.
      pub first_bad_row : first_bad_entry (joined (want_stops starts lengths aggregates ns cs)) (list_of froms tos) ≡ first_where (row_bad aggregates ns froms tos) (length froms)
      unfolding first_bad_entry
      first_bad_row =
          rw (length_list froms tos even) (first_same (bad_entry (joined (want_stops starts lengths aggregates ns cs)) (list_of froms tos)) (row_bad aggregates ns froms tos) (length froms) bad_row)

-- An entry against the earlier ones: none before j clashes with it.
pub record Unclashed (froms tos : List ℕ) (i j : ℕ) : Type 0 where
  pub within : j ≤ i
  pub none : any_below (λ k. bad_after (row_entry froms tos k) (row_entry froms tos i)) j ≡ false

module _ (froms tos : List ℕ) (i : ℕ) where
  pub unclashed_none : Unclashed froms tos i 0
  unclashed_none = record { within = omega arith; none = any_none (λ k. bad_after (row_entry froms tos k) (row_entry froms tos i)) }

  module _ (j : ℕ) (p : Unclashed froms tos i j) (t : Bool) (test : t ≡ bad_after (row_entry froms tos j) (row_entry froms tos i)) where
    pub clash_found : j < i → t ≡ true → true ≡ row_clash froms tos i
    clash_found l e = sym (any_here (λ k. bad_after (row_entry froms tos k) (row_entry froms tos i)) j i (sym test ∙ e) l)

    pub unclashed_more : j < i → t ≡ false → Unclashed froms tos i (j + 1)
    unclashed_more l e =
        record { within = omega arith; none = any_more (λ k. bad_after (row_entry froms tos k) (row_entry froms tos i)) j p.none (sym test ∙ e) }

-- What a loop over the entries before i reads at its turn k.
pub earlier_number : (row : List ℕ) (i k n : ℕ) → (k < length (take i row)) → ((d : ℕ) → n ≡ get_or (take i row) k d) → (k < i) × (n ≡ get_or row k 0)
earlier_number row i k n l e = let h = e 0 in grind (arith, common_steps)

-- Before the entry at index i: none before it is bad.
pub record EntriesPassed (aggregates numbers froms tos : List ℕ) (i : ℕ) : Type 0 where
  pub within : i ≤ length froms
  pub none : first_where (row_bad aggregates numbers froms tos) i ≡ 0

pub entries_none : (aggregates numbers froms tos : List ℕ) → EntriesPassed aggregates numbers froms tos 0
entries_none aggregates numbers froms tos = record { within = omega arith; none = first_none (row_bad aggregates numbers froms tos) }

module _ (aggregates numbers froms tos : List ℕ) (i : ℕ) (p : EntriesPassed aggregates numbers froms tos i) (l : i < length froms) (t : Bool)
    (alone : t ≡ row_alone aggregates numbers (get_or froms i 0) (get_or tos i 0)) where
  pub bad_by_itself : t ≡ true → i + 1 ≡ first_where (row_bad aggregates numbers froms tos) (length froms)
  bad_by_itself e = sym (first_here (row_bad aggregates numbers froms tos) i (length froms) p.none (rw (← alone, e)) l)

  module _ (u : Bool) (clash : u ≡ row_clash froms tos i) where
    pub bad_against : u ≡ true → i + 1 ≡ first_where (row_bad aggregates numbers froms tos) (length froms)
    bad_against e = sym (first_here (row_bad aggregates numbers froms tos) i (length froms) p.none (rw (← clash, e, or-true)) l)

    pub entry_passed : t ≡ false → u ≡ false → EntriesPassed aggregates numbers froms tos (i + 1)
    entry_passed e d =
        record { within = omega arith; none = first_more (row_bad aggregates numbers froms tos) i p.none (rw (← alone, ← clash, e, d)) }

-- Two verdicts that fit `judge_list`'s contract are equal: counts as many as the wants are there, the numbers themselves.
abbrev pub FitsList : List ℕ → List ℕ → List ℕ → List ℕ → Verdict → Type 0
FitsList aggregates numbers froms tos v =
    (starts lengths counts : List ℕ) → length counts ≡ length numbers → v ≡ list_verdict (joined (want_stops starts lengths aggregates numbers counts)) froms tos

pub list_determined : (aggregates numbers froms tos : List ℕ) (v w : Verdict) → FitsList aggregates numbers froms tos v → FitsList aggregates numbers froms tos w → v ≡ w
list_determined aggregates numbers froms tos v w p q = p [] [] numbers refl ∙ sym (q [] [] numbers refl)
