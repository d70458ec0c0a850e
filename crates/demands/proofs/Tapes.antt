-- Demand 1 for the tape tables of LTFS indexes.
use Prim.Native.Nat.{ℕ, ◌<◌}
use mathlib.Core.Path.{◌≡◌, refl, sym, ap, ◌∙◌}
use mathlib.Core.Bool.{Bool, true, false, not, ◌&&◌, true≢false}
use mathlib.Core.Logic.{◌⊎◌, inl, inr, ⊎_elim}
use mathlib.Core.List.{List, [], ◌∷◌}
use lib.ListN.{length}
use lib.Dec.{ltb}
use Rattle.refusals.specs.declared.Refusal.{Refusal}
use Rattle.refusals.specs.declared.Refusal.TheVariants.{ShortRow, BadName, BadText, ManyExtents, Overlap, FarFile}
use Rattle.refusals.specs.declared.Verdict.{Verdict}
use Rattle.refusals.specs.Refusals.{accepted, is_refusal, refuse_if}
use Rattle.runs.specs.Run.{last_place}
use Rattle.refusals.proofs.Verdicts.{none_refuses, refuses}
use Rattle.text_bytes.specs.Text.{is_name}
use Rattle.sheet_reader.specs.Sheet.{most_sheet_files}
use Rattle.sheet_writer.specs.Writing.{row_verdict, written_row}
use Rattle.tape_markup.specs.Tree.{is_balanced, tree_of}
use Rattle.tape_markup.proofs.Balanced.{balanced_exactly}
use Rattle.tape_files.specs.Index.{some, is_good_label, is_good_index, index_files}
use Rattle.tape_ranges.specs.Ranges.{end_of_range}
use Rattle.answer_ltfs.specs.TapeTable.{in_several, are_far, some_overlap, ranges_in, tape_table, are_good_texts, ltfs_sheet, ltfs_verdict, ltfs_report, ltfs_row}
use Rattle.demands.specs.Tapes.{SaysElements, TapeApplies, tape_order, TapeAnswers, Demand1Tape}
use Rattle.demands.proofs.Tests.{Tells, tells_below, tells_either, tells_true, tells_false}
use Rattle.demands.proofs.Checks.{decides_if, decides_reworded, Finds, finds_none, finds_first}

-- Not all of four tests hold: one does not.
not_all : (a b c d : Bool) → Tells (not (a && b && c && d)) ((a ≡ false) ⊎ ((b ≡ false) ⊎ ((c ≡ false) ⊎ (d ≡ false))))
not_all false b c d = record { when_true = λ e. inl refl; when_false = λ e. absurd (true≢false e) }
not_all true false c d = record { when_true = λ e. inr (inl refl); when_false = λ e. absurd (true≢false e) }
not_all true true false d = record { when_true = λ e. inr (inr (inl refl)); when_false = λ e. absurd (true≢false e) }
not_all true true true false = record { when_true = λ e. inr (inr (inr refl)); when_false = λ e. absurd (true≢false e) }
not_all true true true true =
    record { when_true = λ e. absurd (true≢false (sym e)); when_false = λ e. ⊎_elim true≢false (⊎_elim true≢false (⊎_elim true≢false true≢false)) }

-- The test for balance tells whether a forest at most 32 deep spells the text.
says_none : (text : List ℕ) → is_balanced text ≡ false → SaysElements text → ⊥
says_none text e forest = true≢false (sym ((balanced_exactly text).1 forest) ∙ e)

not_balanced : (text : List ℕ) → (SaysElements text → ⊥) → is_balanced text ≡ false
not_balanced text n = go (is_balanced text) refl
  where
    go : (b : Bool) → is_balanced text ≡ b → is_balanced text ≡ false
    go true e = absurd (n ((balanced_exactly text).0 e))
    go false e = e

module _ (name label index row : List ℕ) where
  abbrev Applies : Refusal → ℕ → Type 0
  Applies = TapeApplies name label index row

  abbrev BadTexts : Type 0
  BadTexts =
      (is_balanced label ≡ false)
      ⊎ ((is_balanced index ≡ false) ⊎ ((is_good_label (tree_of label) ≡ false) ⊎ (is_good_index (tree_of index) ≡ false)))

  abbrev IsFar : Type 0
  IsFar =
      (most_sheet_files < length (ranges_in label index))
      ⊎ (some (λ range. ltb last_place (end_of_range range)) (ranges_in label index) ≡ true)

  tape_name_here : (p : ℕ) → Applies BadName p → (p ≡ 0) × (is_name name ≡ false)
  tape_name_here p (TapeApplies.bad_name h) = (refl, h)

  bad_text : (p : ℕ) → (p ≡ 0) × BadTexts → Applies BadText p
  bad_text p h =
      rw h.0
      (⊎_elim (λ e. TapeApplies.label_unbalanced (says_none label e)) (⊎_elim (λ e. TapeApplies.index_unbalanced (says_none index e)) (⊎_elim TapeApplies.label_values TapeApplies.index_values)) h.1)

  tape_text : (p : ℕ) → Applies BadText p → (p ≡ 0) × BadTexts
  tape_text p (TapeApplies.label_unbalanced h) = (refl, inl (not_balanced label h))
  tape_text p (TapeApplies.index_unbalanced h) = (refl, inr (inl (not_balanced index h)))
  tape_text p (TapeApplies.label_values h) = (refl, inr (inr (inl h)))
  tape_text p (TapeApplies.index_values h) = (refl, inr (inr (inr h)))

  tape_several : (p : ℕ) → Applies ManyExtents p → (p ≡ 0) × (some in_several (index_files (tree_of index)) ≡ true)
  tape_several p (TapeApplies.several h) = (refl, h)

  tape_far : (p : ℕ) → Applies FarFile p → (p ≡ 0) × IsFar
  tape_far p (TapeApplies.many h) = (refl, inl h)
  tape_far p (TapeApplies.far h) = (refl, inr h)

  tape_overlap : (p : ℕ) → Applies Overlap p → (p ≡ 0) × (some_overlap (tape_table label index) ≡ true)
  tape_overlap p (TapeApplies.overlap h) = (refl, h)

  tape_row : (p : ℕ) → Applies ShortRow p → (p ≡ 0) × (length row < length (ltfs_sheet name label index))
  tape_row p (TapeApplies.short_row h) = (refl, h)

  checks : List Verdict
  checks =
      refuse_if (not (is_name name)) BadName
      ∷ refuse_if (not (are_good_texts label index)) BadText
      ∷ refuse_if (some in_several (index_files (tree_of index))) ManyExtents
      ∷ refuse_if (are_far (ranges_in label index)) FarFile
      ∷ refuse_if (some_overlap (tape_table label index)) Overlap
      ∷ row_verdict (ltfs_sheet name label index) row
      ∷ []

  tape_finds : Finds Applies tape_order (ltfs_verdict name label index row)
  unfolding ltfs_verdict are_good_texts are_far row_verdict
  tape_finds =
      let ranges = ranges_in label index in
      let short = row_verdict (ltfs_sheet name label index) row in
      let overlaps = refuse_if (some_overlap (tape_table label index)) Overlap in
      let far = refuse_if (are_far ranges) FarFile in
      let several = refuse_if (some in_several (index_files (tree_of index))) ManyExtents in
      let bad = refuse_if (not (are_good_texts label index)) BadText in
      finds_first Applies (bad ∷ several ∷ far ∷ overlaps ∷ short ∷ []) refl
      (decides_reworded (λ p h. rw h.0 (TapeApplies.bad_name h.1)) tape_name_here (decides_if _ BadName (tells_false (is_name name))))
      (λ a. finds_first Applies (several ∷ far ∷ overlaps ∷ short ∷ []) refl
      (decides_reworded bad_text tape_text
      (decides_if _ BadText (not_all (is_balanced label) (is_balanced index) (is_good_label (tree_of label)) (is_good_index (tree_of index)))))
      (λ b. finds_first Applies (far ∷ overlaps ∷ short ∷ []) refl
      (decides_reworded (λ p h. rw h.0 (TapeApplies.several h.1)) tape_several (decides_if _ ManyExtents (tells_true (some in_several (index_files (tree_of index))))))
      (λ c. finds_first Applies (overlaps ∷ short ∷ []) refl
      (decides_reworded (λ p h. rw h.0 (⊎_elim TapeApplies.many TapeApplies.far h.1)) tape_far
      (decides_if _ FarFile
      (tells_either (ltb most_sheet_files (length ranges)) (some (λ range. ltb last_place (end_of_range range)) ranges)
      (tells_below most_sheet_files (length ranges))
      (tells_true (some (λ range. ltb last_place (end_of_range range)) ranges)))))
      (λ d. finds_first Applies (short ∷ []) refl
      (decides_reworded (λ p h. rw h.0 (TapeApplies.overlap h.1)) tape_overlap (decides_if _ Overlap (tells_true (some_overlap (tape_table label index)))))
      (λ e. finds_first Applies [] refl
      (decides_reworded (λ p h. rw h.0 (TapeApplies.short_row h.1)) tape_row (decides_if _ ShortRow (tells_below (length row) (length (ltfs_sheet name label index)))))
      (λ f. finds_none Applies))))))

  tape_accepted : refuses (ltfs_verdict name label index row) ≡ false → ltfs_verdict name label index row ≡ accepted
  unfolding ltfs_verdict checks
  tape_accepted e = none_refuses checks e

  tape_says : (b : Bool) → refuses (ltfs_verdict name label index row) ≡ b
      → TapeAnswers name label index row (ltfs_report (ltfs_verdict name label index row) name label index) (ltfs_row (ltfs_verdict name label index row) name label index row)
  unfolding ltfs_report ltfs_row written_row
  tape_says true e =
      rw e
      (record {
        first = tape_finds;
        kept = λ n. (record { bytes = refl; empty = refl; other = refl }, refl);
        sheet = λ h. absurd (true≢false (sym e ∙ ap is_refusal h));
      })
  tape_says false e =
      rw e
      (record {
        first = rw (tape_accepted e) at tape_finds;
        kept = λ n. absurd (n refl);
        sheet = λ h. record { bytes = refl; written = refl; empty = refl; other = refl };
      })

pub demand1_tape : Demand1Tape
demand1_tape name label index row answer out says fills =
    rw (says, fills) (tape_says name label index row (refuses (ltfs_verdict name label index row)) refl)
