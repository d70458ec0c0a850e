-- Rows 1 to 7 of the refusal table: each Boolean test of the judging tells its condition, both ways; the one for the rightmost wanted end
-- where the table and the wants are good.
use Prim.Native.Nat.{ℕ, zero, suc, ◌-◌, ◌≤◌, ◌<◌}
use mathlib.Core.Path.{◌≡◌, refl, sym, ap, ◌∙◌}
use mathlib.Core.Bool.{not, ◌||◌, ◌&&◌, true≢false}
use mathlib.Core.Logic.{◌⊎◌, inl, inr, ⊎_elim, by_cases}
use native.Mathlib.Omega.{arith}
use native.Mathlib.Decide.{dec_lt}
use lib.ListN.{length, get_or}
use lib.Dec.{leb, ltb, eqb}
use borrow.Author.Tests.{ltb-true, ltb-false}
use Rattle.runs.specs.Run.{Run, most_files, most_aggregates, last_place, end_at, goes_on, first_member, last_member, stops_of}
use Rattle.runs.specs.Judging.{right_end}
use Rattle.runs.specs.Lists.{any_below}
use Rattle.runs.specs.Judging.{end_before, bad_place, returns, bad_number, bad_file, bad_want}
use Rattle.runs.proofs.Table.{ends_rise}
use Rattle.runs.proofs.Members.{first_below, last_above, last_within_lem, member_first, same_last, same_or_apart}
use Rattle.runs.proofs.Numbers.{same_number_first, same_first_number}
use Rattle.runs.proofs.Stops.{right_end_none, right_end_some}
use Rattle.runs.proofs.Judged.{GoodTable, GoodWants, wants_named, not_past_last}
use Rattle.demands.specs.RefusalTable.{IsFile, Together, Returns, FileIsBad, WantIsBad, WantedWith, end_of_file}
use Rattle.demands.proofs.Tests.{Tells, tells_equal, tells_below, tells_at_most, tells_not, tells_either, tells_both, tells_some, tells_reworded, tells_regrouped}

-- 7: a file that lies together with a wanted one ends right of the head.
pub record WantedBeyond (r : Run) : Type 0 where
  pub which : ℕ
  pub file : IsFile r which
  pub wanted : WantedWith r which
  pub beyond : r.head < end_of_file r which

-- 1 and 3: too many, or rows of unequal number.
pub rows_unfit : (most n m : ℕ) → Tells (ltb most n || not (eqb n m)) ((most < n) ⊎ (n ≡ m → ⊥))
rows_unfit most n m = tells_either (ltb most n) (not (eqb n m)) (tells_below most n) (tells_not (eqb n m) (tells_equal n m))

pub table_rows_unfit : (files lengths aggregates : ℕ)
    → Tells (ltb most_files files || not (eqb files lengths) || not (eqb files aggregates)) ((most_files < files) ⊎ ((files ≡ lengths → ⊥) ⊎ (files ≡ aggregates → ⊥)))
table_rows_unfit files lengths aggregates =
    tells_regrouped
    (tells_either (ltb most_files files || not (eqb files lengths)) (not (eqb files aggregates))
    (rows_unfit most_files files lengths)
    (tells_not (eqb files aggregates) (tells_equal files aggregates)))

module _ (r : Run) where
  -- Whether an entry goes on with the one before it.
  abbrev GoesOn : ℕ → Type 0
  GoesOn i = (k : ℕ) × (i ≡ suc k) × (0 < get_or r.aggregates i 0) × (get_or r.aggregates k 0 ≡ get_or r.aggregates i 0)

  goes_on_lem : (i : ℕ) → Tells (goes_on r.aggregates i) (GoesOn i)
  unfolding goes_on
  goes_on_lem zero = record { when_true = λ e. absurd (true≢false (sym e)); when_false = λ e h. omega (arith, h.1) }
  goes_on_lem (suc i) =
      let n = get_or r.aggregates (suc i) 0 in
      let m = get_or r.aggregates i 0 in
      tells_reworded
      (λ h. (i, refl, positive h.0, h.1))
      (λ h. let k : h.0 ≡ i = omega (arith, h.1) in ((λ z. omega (arith, h.2)), rw k at h.3))
      (tells_both (not (eqb n 0)) (eqb m n) (tells_not (eqb n 0) (tells_equal n 0)) (tells_equal m n))
    where
      positive : (get_or r.aggregates (suc i) 0 ≡ 0 → ⊥) → 0 < get_or r.aggregates (suc i) 0
      positive h = omega arith

  number_returns : (i : ℕ) → Tells (returns r.aggregates i) (Returns r i)
  number_returns i =
      let n = get_or r.aggregates i 0 in
      tells_reworded there back
      (tells_both (not (eqb n 0) && not (goes_on r.aggregates i)) (any_below (λ j. eqb (get_or r.aggregates j 0) n) i)
      (tells_both (not (eqb n 0)) (not (goes_on r.aggregates i)) (tells_not (eqb n 0) (tells_equal n 0)) (tells_not (goes_on r.aggregates i) (goes_on_lem i)))
      (tells_some (λ j. eqb (get_or r.aggregates j 0) n) (λ j. get_or r.aggregates j 0 ≡ n) (λ j. tells_equal (get_or r.aggregates j 0) n) i))
    where
      positive : (get_or r.aggregates i 0 ≡ 0 → ⊥) → 0 < get_or r.aggregates i 0
      positive h = omega arith

      there : (((get_or r.aggregates i 0 ≡ 0 → ⊥) × (GoesOn i → ⊥)) × ((j : ℕ) × (j < i) × (get_or r.aggregates j 0 ≡ get_or r.aggregates i 0))) → Returns r i
      there h =
          let at : i ≡ suc (i - 1) = omega (arith, h.1.1) in
          record { numbered = positive h.0.0; met = h.1; left = (i - 1, at, λ e. h.0.1 (i - 1, at, positive h.0.0, e)) }

      back : Returns r i → (((get_or r.aggregates i 0 ≡ 0 → ⊥) × (GoesOn i → ⊥)) × ((j : ℕ) × (j < i) × (get_or r.aggregates j 0 ≡ get_or r.aggregates i 0)))
      back h =
          (((λ z. omega (arith, h.numbered)), (λ g. let k : g.0 ≡ h.left.0 = omega (arith, g.1, h.left.1) in h.left.2 (rw k at g.3))), h.met)

  number_is_bad : (i : ℕ) → Tells (bad_number r.aggregates i) ((most_aggregates < get_or r.aggregates i 0) ⊎ Returns r i)
  number_is_bad i =
      tells_either (ltb most_aggregates (get_or r.aggregates i 0)) (returns r.aggregates i) (tells_below most_aggregates (get_or r.aggregates i 0)) (number_returns i)

  -- A start before the previous end; the first file has no file before it.
  before_previous : (i : ℕ) → Tells (ltb (get_or r.starts i 0) (end_before r.starts r.lengths i)) ((j : ℕ) × (i ≡ suc j) × (get_or r.starts i 0 < end_of_file r (suc j)))
  before_previous zero = record {
    when_true = λ e. let l : get_or r.starts 0 0 < 0 = ltb-true (get_or r.starts 0 0) 0 e in absurd (omega arith);
    when_false = λ e h. omega (arith, h.1);
  }
  before_previous (suc i) =
      let prev : suc i - 1 ≡ i = omega arith in
      tells_reworded
      (λ l. (i, refl, rw prev l))
      (λ h. let k : h.0 ≡ i = omega (arith, h.1) in rw (k, prev) at h.2)
      (tells_below (get_or r.starts (suc i) 0) (end_at r.starts r.lengths i))

  place_is_bad : (i : ℕ)
      → Tells (bad_place r.starts r.lengths i)
      ((get_or r.lengths i 0 ≡ 0) ⊎ (((j : ℕ) × (i ≡ suc j) × (get_or r.starts i 0 < end_of_file r (suc j))) ⊎ (last_place < end_of_file r (suc i))))
  place_is_bad i =
      let here : suc i - 1 ≡ i = omega arith in
      tells_regrouped
      (tells_either
      (eqb (get_or r.lengths i 0) 0 || ltb (get_or r.starts i 0) (end_before r.starts r.lengths i))
      (ltb last_place (end_at r.starts r.lengths i))
      (tells_either (eqb (get_or r.lengths i 0) 0) (ltb (get_or r.starts i 0) (end_before r.starts r.lengths i)) (tells_equal (get_or r.lengths i 0) 0) (before_previous i))
      (rw here (tells_below last_place (end_at r.starts r.lengths i))))

  pub file_is_bad : (i : ℕ) → Tells (bad_file r.starts r.lengths r.aggregates i) (FileIsBad r i)
  file_is_bad i = tells_either (bad_place r.starts r.lengths i) (bad_number r.aggregates i) (place_is_bad i) (number_is_bad i)

  -- Number, table, the number before and the count.
  want_tested : (i before : ℕ)
      → Tells (eqb (get_or r.numbers i 0) 0 || ltb (length r.starts) (get_or r.numbers i 0) || leb (get_or r.numbers i 0) before || eqb (get_or r.counts i 0) 0)
      ((get_or r.numbers i 0 ≡ 0) ⊎ ((length r.starts < get_or r.numbers i 0) ⊎ ((get_or r.numbers i 0 ≤ before) ⊎ (get_or r.counts i 0 ≡ 0))))
  want_tested i before =
      let n = get_or r.numbers i 0 in
      let c = get_or r.counts i 0 in
      let files = length r.starts in
      tells_regrouped
      (tells_regrouped
      (tells_either (eqb n 0 || ltb files n || leb n before) (eqb c 0)
      (tells_either (eqb n 0 || ltb files n) (leb n before) (tells_either (eqb n 0) (ltb files n) (tells_equal n 0) (tells_below files n)) (tells_at_most n before))
      (tells_equal c 0)))

  -- The first want has none before it: against 0 it fails only with number 0.
  pub want_is_bad : (i : ℕ) → Tells (bad_want (length r.starts) r.numbers r.counts i) (WantIsBad r i)
  want_is_bad zero =
      tells_reworded
      (⊎_elim inl (⊎_elim (λ l. inr (inl l)) (⊎_elim (λ l. inl (omega arith)) (λ e. inr (inr (inr e))))))
      (⊎_elim inl (⊎_elim (λ l. inr (inl l)) (⊎_elim (λ h. absurd (omega (arith, h.1))) (λ e. inr (inr (inr e))))))
      (want_tested 0 0)
  want_is_bad (suc i) =
      tells_reworded
      (⊎_elim inl (⊎_elim (λ l. inr (inl l)) (⊎_elim (λ l. inr (inr (inl (i, refl, l)))) (λ e. inr (inr (inr e))))))
      (⊎_elim inl (⊎_elim (λ l. inr (inl l)) (⊎_elim (λ h. inr (inr (inl (previous h.0 h.1 h.2)))) (λ e. inr (inr (inr e))))))
      (want_tested (suc i) (get_or r.numbers i 0))
    where
      previous : (j : ℕ) → suc i ≡ suc j → get_or r.numbers (suc i) 0 ≤ get_or r.numbers j 0 → get_or r.numbers (suc i) 0 ≤ get_or r.numbers i 0
      previous j e l = let k : j ≡ i = omega arith in rw k at l

  -- In a good table, files lie together just where they have the same first member.
  module _ (files : GoodTable r.starts r.lengths r.aggregates) where
    same_index : (f g : ℕ) → 0 < f → 0 < g → f - 1 ≡ g - 1 → f ≡ g
    same_index f g a b e = omega arith

    pub together_first : (f g : ℕ) → IsFile r f → IsFile r g → Together r f g → first_member r.aggregates (f - 1) ≡ first_member r.aggregates (g - 1)
    together_first f g a b (inl e) = rw e refl
    together_first f g a b (inr h) =
        same_number_first r.aggregates (length r.starts) files.numbers (f - 1) (g - 1) (omega (arith, a.least, a.most)) (omega (arith, b.least, b.most)) h.0 h.1

    pub first_together : (f g : ℕ) → 0 < f → 0 < g → first_member r.aggregates (f - 1) ≡ first_member r.aggregates (g - 1) → Together r f g
    first_together f g a b e = ⊎_elim (λ h. inl (same_index f g a b h)) inr (same_first_number r.aggregates (f - 1) (g - 1) e)

    -- The last file that lies together with one, and where it ends.
    pub record LastWith (n : ℕ) : Type 0 where
      pub which : ℕ
      pub file : IsFile r which
      pub together : Together r which n
      pub ends : end_of_file r which ≡ end_at r.starts r.lengths (last_member r.aggregates (n - 1))

    pub last_with : (n : ℕ) → IsFile r n → LastWith n
    last_with n at =
        let up : suc (last_member r.aggregates (n - 1)) - 1 ≡ last_member r.aggregates (n - 1) = omega arith in
        let inside = last_within_lem r.aggregates (n - 1) (omega (arith, at.least, at.most, files.rows)) in
        let member = member_first r.aggregates (n - 1) (last_member r.aggregates (n - 1)) (omega (arith, first_below r.aggregates (n - 1), last_above r.aggregates (n - 1))) (omega arith) in
        record {
          which = suc (last_member r.aggregates (n - 1));
          file = record { least = omega arith; most = omega (arith, inside, files.rows) };
          together = first_together (suc (last_member r.aggregates (n - 1))) n (omega arith) at.least (ap (first_member r.aggregates) up ∙ member);
          ends = rw up refl;
        }

    -- A file that lies together with another ends no further right than the last of that one's aggregate.
    pub within_extent : (f g : ℕ) → IsFile r f → IsFile r g → Together r f g → end_of_file r f ≤ end_at r.starts r.lengths (last_member r.aggregates (g - 1))
    within_extent f g a b t =
        let same = same_last r.aggregates (f - 1) (g - 1) (together_first f g a b t) in
        let inside = last_within_lem r.aggregates (g - 1) (omega (arith, b.least, b.most, files.rows)) in
        ends_rise r.starts r.lengths files.table (f - 1) (last_member r.aggregates (g - 1)) (omega (arith, same, last_above r.aggregates (f - 1))) (omega (arith, inside, files.rows))

    last_rises : (i j : ℕ) → i ≤ j → last_member r.aggregates i ≤ last_member r.aggregates j
    last_rises i j l =
        ⊎_elim
        (λ e. omega (arith, same_last r.aggregates i j e))
        (λ lt. omega (arith, first_below r.aggregates j, last_above r.aggregates j))
        (same_or_apart r.aggregates i j l)

    -- The rightmost wanted end is that of the last want's aggregate, and nothing that lies together with a want ends right of it.
    module _ (wants : GoodWants (length r.starts) r.numbers r.counts) where
      pub named : (i : ℕ) → i < length r.numbers → IsFile r (get_or r.numbers i 0)
      named i l = let n = wants_named r.starts r.numbers r.counts wants i l in record { least = n.least; most = n.most }

      right_is : 0 < length r.numbers → end_at r.starts r.lengths (last_member r.aggregates (get_or r.numbers (length r.numbers - 1) 0 - 1)) ≡ right_end (stops_of r)
      right_is some = right_end_some r.starts r.lengths r.aggregates r.numbers r.counts (λ e. omega arith) (sym wants.equal)

      within_right_end : (f : ℕ) → IsFile r f → WantedWith r f → end_of_file r f ≤ right_end (stops_of r)
      within_right_end f a w =
          let here = named w.want w.within in
          let last = named (length r.numbers - 1) (omega (arith, w.within)) in
          let rise = last_rises (get_or r.numbers w.want 0 - 1) (get_or r.numbers (length r.numbers - 1) 0 - 1)
          (omega (arith, not_past_last (length r.starts) r.numbers r.counts wants w.want w.within)) in
          let inside = last_within_lem r.aggregates (get_or r.numbers (length r.numbers - 1) 0 - 1) (omega (arith, last.least, last.most, files.rows)) in
          omega (
            arith,
            within_extent f (get_or r.numbers w.want 0) a here w.together,
            ends_rise r.starts r.lengths files.table (last_member r.aggregates (get_or r.numbers w.want 0 - 1)) (last_member r.aggregates (get_or r.numbers (length r.numbers - 1) 0 - 1)) rise (omega (arith, inside, files.rows)),
            right_is (omega (arith, w.within)),
          )

      pub head_left_of_end : Tells (ltb r.head (right_end (stops_of r))) (WantedBeyond r)
      head_left_of_end =
          record {
            when_true = λ e. last_beyond (ltb-true r.head (right_end (stops_of r)) e);
            when_false = λ e h. omega (arith, ltb-false r.head (right_end (stops_of r)) e, within_right_end h.which h.file h.wanted, h.beyond);
          }
        where
          last_one : r.head < right_end (stops_of r) → 0 < length r.numbers → WantedBeyond r
          last_one l some =
              let last = last_with (get_or r.numbers (length r.numbers - 1) 0) (named (length r.numbers - 1) (omega arith)) in
              record {
                which = last.which;
                file = last.file;
                wanted = record { want = length r.numbers - 1; within = omega arith; together = last.together };
                beyond = omega (arith, last.ends, right_is some);
              }

          last_beyond : r.head < right_end (stops_of r) → WantedBeyond r
          last_beyond l =
              by_cases
              (dec_lt 0 (length r.numbers))
              (λ h. last_one l h)
              (λ h. absurd (omega (arith, right_end_none r.starts r.lengths r.aggregates r.numbers r.counts (omega arith))))
