-- What the mender refuses, each exactly when its reason holds and in their order; what it leaves alone; and the worked cases.
use Prim.Native.Nat.{ℕ, ◌+◌, ◌≤◌, ◌<◌}
use mathlib.Core.Path.{◌≡◌, refl, ap, sym, ◌∙◌}
use mathlib.Core.Bool.{Bool, true, false, true≢false, cond, ◌||◌}
use mathlib.Core.Logic.{◌⊎◌, inl, inr, ⊎_elim, by_cases}
use mathlib.Core.List.{List, [], ◌∷◌}
use native.Mathlib.Omega.{arith}
use native.Mathlib.Decide.{dec_lt}
use lib.ListN.{length}
use lib.Dec.{ltb}
use borrow.Author.Tests.{ltb-false}
use Rattle.refusals.specs.declared.Refusal.{Refusal}
use Rattle.refusals.specs.declared.Refusal.TheVariants.{Accepted, WantRows, TooManyReads, ShortRow, BadLine, LongSheet}
use Rattle.refusals.specs.declared.Verdict.{Verdict}
use Rattle.refusals.specs.Refusals.{number_of, is_refusal, accepted, refuse_if, refuse_at, first_of}
use Rattle.refusals.proofs.Verdicts.{refuses, all_accept, none_refuses, first_alone, accepts_if, accepts_at}
use Rattle.runs.specs.Run.{most_wants, most_reads}
use Rattle.runs.proofs.Search.{true_or_false}
use Rattle.sheet_reader.specs.Sheet.{longest_sheet}
use Rattle.sheet_reader.specs.Reading.{read_row}
use Rattle.sheet_loose.specs.Loose.{first_bad_loose, wanted_counts}
use Rattle.sheet_loose.specs.Reading.{loose_verdict}
use Rattle.answer_mend.specs.declared.Mended.{Mended}
use Rattle.answer_mend.specs.Wants.{reads_in_all}
use Rattle.answer_mend.specs.Mending.{sheet_remaining, mended_text, changes_text, texts_verdicts, mend_verdict, SheetMended}
use Rattle.demands.specs.RefusalTable.{FirstBad, FirstThatApplies, here, later, SomeApplies}
use Rattle.demands.proofs.Tests.{tells_below, tells_either}
use Rattle.demands.proofs.Checks.{decides_if, decides_reworded, Finds, finds_none, finds_first, first_of_joined, refused_iff}
use Rattle.promises.specs.ListLines.{form_order}
use Rattle.promises.specs.Mender.{FileLine, NotMended, WantsRemain, CountsFrom, SheetApplies, long_sheet, bad_line, many_wants, many_reads, sheet_order, TextsApply, long_text, short_row, texts_order, MenderRefuses, TopStands, OneFileTooMany, OldPartsAreRead, LongTextIsMended}
use Rattle.promises.proofs.DeskSteps.{not_accepted}
use Rattle.promises.proofs.MenderLines.{decides_line}
use Rattle.promises.proofs.Mends.{Facts, same_reads, in_order}
use Rattle.promises.proofs.MenderKept.{left_alone}
use Rattle.promises.proofs.MenderWants.{tells_remain, tells_reads, parts_are_read}

-- The sheet's refusals.
module _ (sheet : List ℕ) where
  long_there : (p : ℕ) → (p ≡ 0) × (16384 < length sheet) → SheetApplies sheet LongSheet p
  long_there p h = rw h.0 (long_sheet h.1)

  long_back : (p : ℕ) → SheetApplies sheet LongSheet p → (p ≡ 0) × (16384 < length sheet)
  long_back p (long_sheet l) = (refl, l)

  line_back : (p : ℕ) → SheetApplies sheet BadLine p → FirstBad (NotMended sheet) p p
  line_back p (bad_line f) = f

  wants_there_here : (p : ℕ) → (p ≡ 0) × WantsRemain sheet → SheetApplies sheet WantRows p
  wants_there_here p h = rw h.0 (many_wants h.1)

  wants_back : (p : ℕ) → SheetApplies sheet WantRows p → (p ≡ 0) × WantsRemain sheet
  wants_back p (many_wants w) = (refl, w)

  reads_there : (p : ℕ) → (p ≡ 0) × ((n : ℕ) × CountsFrom sheet 0 n × (1024 < n)) → SheetApplies sheet TooManyReads p
  reads_there p h = rw h.0 (many_reads h.1.1 h.1.2)

  reads_back : (p : ℕ) → SheetApplies sheet TooManyReads p → (p ≡ 0) × ((n : ℕ) × CountsFrom sheet 0 n × (1024 < n))
  reads_back p (many_reads {n} c l) = (refl, (n, c, l))

  abbrev pub long : Verdict
  long = refuse_if (ltb longest_sheet (length sheet)) LongSheet

  abbrev pub line : Verdict
  line = refuse_at (first_bad_loose sheet) BadLine

  abbrev pub wants : Verdict
  wants = refuse_if (ltb most_wants (length (sheet_remaining sheet))) WantRows

  abbrev pub reads : Verdict
  reads = refuse_if (ltb most_reads (reads_in_all (wanted_counts sheet))) TooManyReads

  pub sheet_finds : Finds (SheetApplies sheet) sheet_order (first_of (long ∷ line ∷ wants ∷ reads ∷ []))
  sheet_finds =
      finds_first (SheetApplies sheet) (line ∷ wants ∷ reads ∷ []) refl (decides_reworded long_there long_back (decides_if (ltb longest_sheet (length sheet)) LongSheet (tells_below longest_sheet (length sheet))))
      (λ a. finds_first (SheetApplies sheet) (wants ∷ reads ∷ []) refl
      (decides_reworded (λ p h. bad_line h) line_back (decides_line sheet (ltb-false longest_sheet (length sheet) (accepts_if (ltb longest_sheet (length sheet)) LongSheet refl a))))
      (λ b. finds_first (SheetApplies sheet) (reads ∷ []) refl (decides_reworded wants_there_here wants_back (decides_if (ltb most_wants (length (sheet_remaining sheet))) WantRows (tells_remain sheet (described b))))
      (λ c. finds_first (SheetApplies sheet) [] refl (decides_reworded reads_there reads_back (decides_if (ltb most_reads (reads_in_all (wanted_counts sheet))) TooManyReads (tells_reads sheet (described b))))
      (λ d. finds_none (SheetApplies sheet)))))
    where
      described : refuses line ≡ false → first_bad_loose sheet ≡ 0
      described b = accepts_at (first_bad_loose sheet) BadLine refl b

  -- 12 and 11 alone, as the reader of a loose sheet has them.
  pub form_finds : Finds (SheetApplies sheet) form_order (loose_verdict sheet)
  unfolding loose_verdict
  form_finds =
      finds_first (SheetApplies sheet) (line ∷ []) refl (decides_reworded long_there long_back (decides_if (ltb longest_sheet (length sheet)) LongSheet (tells_below longest_sheet (length sheet))))
      (λ a. finds_first (SheetApplies sheet) [] refl
      (decides_reworded (λ p h. bad_line h) line_back (decides_line sheet (ltb-false longest_sheet (length sheet) (accepts_if (ltb longest_sheet (length sheet)) LongSheet refl a))))
      (λ b. finds_none (SheetApplies sheet)))

  pub not_eight : (k : Refusal) (p : ℕ) → SheetApplies sheet k p → number_of k ≡ 8 → ⊥
  not_eight k p (long_sheet l) e = omega arith
  not_eight k p (bad_line f) e = omega arith
  not_eight k p (many_wants w) e = omega arith
  not_eight k p (many_reads c l) e = omega arith

-- The texts'.
module _ (text changes out notes : List ℕ) where
  over_there : (p : ℕ) → (p ≡ 0) × (16384 < length text) → TextsApply text changes out notes LongSheet p
  over_there p h = rw h.0 (long_text h.1)

  over_back : (p : ℕ) → TextsApply text changes out notes LongSheet p → (p ≡ 0) × (16384 < length text)
  over_back p (long_text l) = (refl, l)

  row_there : (p : ℕ) → (p ≡ 0) × ((length out < length text) ⊎ (length notes < length changes)) → TextsApply text changes out notes ShortRow p
  row_there p h = rw h.0 (short_row h.1)

  row_back : (p : ℕ) → TextsApply text changes out notes ShortRow p → (p ≡ 0) × ((length out < length text) ⊎ (length notes < length changes))
  row_back p (short_row s) = (refl, s)

  texts_find : Finds (TextsApply text changes out notes) texts_order (first_of (texts_verdicts text changes out notes))
  texts_find =
      let applies = TextsApply text changes out notes in
      let short = ltb (length out) (length text) || ltb (length notes) (length changes) in
      finds_first applies (refuse_if short ShortRow ∷ []) refl (decides_reworded over_there over_back (decides_if (ltb longest_sheet (length text)) LongSheet (tells_below longest_sheet (length text))))
      (λ a. finds_first applies [] refl
      (decides_reworded row_there row_back
      (decides_if short ShortRow (tells_either (ltb (length out) (length text)) (ltb (length notes) (length changes)) (tells_below (length out) (length text)) (tells_below (length notes) (length changes)))))
      (λ b. finds_none applies))

-- Two rows of checks, one behind the other, are one.
pub rows_joined : (a b c d x : Verdict) → first_of (first_of (a ∷ b ∷ []) ∷ first_of (c ∷ d ∷ []) ∷ x ∷ []) ≡ first_of (first_of (a ∷ b ∷ c ∷ d ∷ []) ∷ x ∷ [])
rows_joined a b c d x =
    first_of_joined (a ∷ b ∷ []) (first_of (c ∷ d ∷ []) ∷ x ∷ [])
    ∙ ap (λ v. cond (refuses a) a (cond (refuses b) b v)) (first_of_joined (c ∷ d ∷ []) (x ∷ []))
    ∙ sym (first_of_joined (a ∷ b ∷ c ∷ d ∷ []) (x ∷ []))

module _ (sheet out notes : List ℕ) where
  abbrev ofSheet : Verdict
  ofSheet = first_of (long sheet ∷ line sheet ∷ wants sheet ∷ reads sheet ∷ [])

  abbrev ofTexts : Verdict
  ofTexts = first_of (texts_verdicts (mended_text sheet) (changes_text sheet) out notes)

  verdict_is_here : mend_verdict sheet out notes ≡ first_of (ofSheet ∷ ofTexts ∷ [])
  unfolding mend_verdict loose_verdict
  verdict_is_here = rows_joined (long sheet) (line sheet) (wants sheet) (reads sheet) ofTexts

  by_sheet : refuses ofSheet ≡ true → mend_verdict sheet out notes ≡ ofSheet
  by_sheet e = verdict_is_here ∙ rw e

  by_texts : refuses ofSheet ≡ false → mend_verdict sheet out notes ≡ ofTexts
  by_texts e = verdict_is_here ∙ rw e (first_alone (texts_verdicts (mended_text sheet) (changes_text sheet) out notes))

  module _ (r : Mended) (out' notes' : List ℕ) (h : SheetMended sheet out notes r out' notes') where
    -- The answer has the verdict's number and place.
    pub says : (r.refusal ≡ (mend_verdict sheet out notes).refusal) × (r.place ≡ (mend_verdict sheet out notes).place)
    says = go (refuses (mend_verdict sheet out notes)) refl
      where
        go : (b : Bool) → refuses (mend_verdict sheet out notes) ≡ b → (r.refusal ≡ (mend_verdict sheet out notes).refusal) × (r.place ≡ (mend_verdict sheet out notes).place)
        go true e = (ap (λ a. a.refusal) h.answer ∙ rw e, ap (λ a. a.place) h.answer ∙ rw e)
        go false e =
            let none : mend_verdict sheet out notes ≡ accepted = verdict_is_here ∙ none_refuses (ofSheet ∷ ofTexts ∷ []) (ap refuses (sym verdict_is_here) ∙ e) in
            (ap (λ a. a.refusal) h.answer ∙ rw (e, none), ap (λ a. a.place) h.answer ∙ rw (e, none))

    -- A refusal tells nothing and leaves the rows.
    kept_so_here : (r.refusal ≡ Accepted → ⊥) → (r.bytes ≡ 0) × (r.noted ≡ 0) × (out' ≡ out) × (notes' ≡ notes)
    unfolding read_row
    kept_so_here n =
        ⊎_elim
        (λ (e : refuses (mend_verdict sheet out notes) ≡ true). (
          ap (λ (a : Mended). a.bytes) h.answer ∙ rw e,
          ap (λ (a : Mended). a.noted) h.answer ∙ rw e,
          h.sheet ∙ rw e,
          h.listed ∙ rw e,
        ))
        (λ (e : refuses (mend_verdict sheet out notes) ≡ false). absurd (n (ap (λ (a : Mended). a.refusal) h.answer ∙ rw e)))
        (true_or_false (refuses (mend_verdict sheet out notes)))

    found : (applies : Refusal → ℕ → Type 0) (order : List Refusal) (v : Verdict) → mend_verdict sheet out notes ≡ v → Finds applies order v → FirstThatApplies applies order r.refusal r.place
    found applies order v e f = rw (says.0, says.1, e) f

pub mender_refuses : MenderRefuses
mender_refuses sheet out notes r out' notes' h =
    let OfSheet = SheetApplies sheet in
    let OfTexts = TextsApply (mended_text sheet) (changes_text sheet) out notes in
    let iff = refused_iff OfSheet (sheet_finds sheet) (refl, (refl, (refl, (refl, tt)))) in
    let texts = texts_find (mended_text sheet) (changes_text sheet) out notes in
    ⊎_elim
    (λ (e : refuses (ofSheet sheet out notes) ≡ true).
    let some = iff.0 (λ a. true≢false (sym e ∙ ap is_refusal a)) in
    let first = found sheet out notes r out' notes' h OfSheet sheet_order (ofSheet sheet out notes) (by_sheet sheet out notes e) (sheet_finds sheet) in
    record {
      of_sheet = λ s. first;
      of_texts = λ n. absurd (n some);
      iff = (λ n. inl some, λ s. (refused_iff OfSheet first (refl, (refl, (refl, (refl, tt))))).1 some);
      kept = kept_so_here sheet out notes r out' notes' h;
    })
    (λ (e : refuses (ofSheet sheet out notes) ≡ false).
    let none : SomeApplies OfSheet sheet_order → ⊥ = λ s. true≢false (sym (not_accepted (ofSheet sheet out notes).refusal (iff.1 s)) ∙ e) in
    let first = found sheet out notes r out' notes' h OfTexts texts_order (ofTexts sheet out notes) (by_texts sheet out notes e) texts in
    let both = refused_iff OfTexts first (refl, (refl, tt)) in
    record {
      of_sheet = λ s. absurd (none s);
      of_texts = λ n. first;
      iff = (λ n. inr (both.0 n), λ s. ⊎_elim (λ t. absurd (none t)) both.1 s);
      kept = kept_so_here sheet out notes r out' notes' h;
    })
    (true_or_false (refuses (ofSheet sheet out notes)))

-- A 257th file line.
module _ (sheet : List ℕ) (short : length sheet ≤ 16384) (top : TopStands sheet) (all : (j : ℕ) → j ≤ 256 → FileLine sheet (5 + j)) where
  none_before : (j : ℕ) → j < 261 → NotMended sheet j → ⊥
  none_before j l (NotMended.tape e n) = n (rw e top.tape)
  none_before j l (NotMended.head e n) = n (rw e top.head)
  none_before j l (NotMended.turn e n) = n (rw e top.turn)
  none_before j l (NotMended.rule e n) = n (rw e top.rule)
  none_before j l (NotMended.files e n) = n (rw e top.files)
  none_before j l (NotMended.file_257 e every) = omega arith
  none_before j l (NotMended.wants {n} come e other) = come.0.no_more (all n (omega arith))
  none_before j l (NotMended.beyond {n} {m} come more e other) = come.0.no_more (all n (omega arith))

  the_last : FirstBad (NotMended sheet) 262 262
  the_last = record { index = 261; within = omega arith; at = refl; here = NotMended.file_257 refl all; before = none_before }

  its_place : (p : ℕ) → FirstBad (NotMended sheet) p p → p ≡ 262
  its_place p f =
      by_cases (dec_lt f.index 261) (λ l. absurd (none_before f.index l f.here))
      (λ n. by_cases (dec_lt 261 f.index) (λ l. absurd (f.before 261 l (NotMended.file_257 refl all))) (λ m. omega (arith, f.at)))

  at_that_line : {kind : Refusal} {place : ℕ} → FirstThatApplies (SheetApplies sheet) sheet_order kind place → (kind ≡ BadLine) × (place ≡ 262)
  at_that_line (here h) = absurd (omega (arith, short, (long_back sheet _ h).1))
  at_that_line (later skipped (here h)) = (refl, its_place _ (line_back sheet _ h))
  at_that_line (later skipped (later passes rest)) = absurd (passes 262 (bad_line the_last))

pub one_file_too_many : OneFileTooMany
one_file_too_many sheet out notes r out' notes' h short top all =
    at_that_line sheet short top all ((mender_refuses sheet out notes r out' notes' h).of_sheet (inr (inl (262, bad_line (the_last sheet short top all)))))

-- What 12, 11, 3 and 5 say of a sheet where none of them applies.
pub nothing_applies : (sheet : List ℕ) → (SomeApplies (SheetApplies sheet) sheet_order → ⊥) → Facts sheet
nothing_applies sheet none =
    let passes : refuses (first_of (long sheet ∷ line sheet ∷ wants sheet ∷ reads sheet ∷ [])) ≡ false =
    ⊎_elim (λ t. absurd (none ((refused_iff (SheetApplies sheet) (sheet_finds sheet) (refl, (refl, (refl, (refl, tt))))).0 (λ a. true≢false (sym t ∙ ap is_refusal a))))) (λ f. f)
    (true_or_false (refuses (first_of (long sheet ∷ line sheet ∷ wants sheet ∷ reads sheet ∷ [])))) in
    let all = all_accept (long sheet ∷ line sheet ∷ wants sheet ∷ reads sheet ∷ []) passes in
    record {
      within = ltb-false longest_sheet (length sheet) (accepts_if (ltb longest_sheet (length sheet)) LongSheet refl all.0);
      good = accepts_at (first_bad_loose sheet) BadLine refl all.1.0;
      few = ltb-false most_wants (length (sheet_remaining sheet)) (accepts_if (ltb most_wants (length (sheet_remaining sheet))) WantRows refl all.1.1.0);
      reads = ltb-false most_reads (reads_in_all (wanted_counts sheet)) (accepts_if (ltb most_reads (reads_in_all (wanted_counts sheet))) TooManyReads refl all.1.1.1.0);
    }

pub old_parts_are_read : OldPartsAreRead
old_parts_are_read sheet none = parts_are_read sheet (nothing_applies sheet none).good

pub long_text_is_mended : LongTextIsMended
long_text_is_mended sheet none =
    let k = nothing_applies sheet none in
    record { order = in_order sheet (mended_text sheet) k refl; reads = same_reads sheet (mended_text sheet) k refl; alone = left_alone sheet (mended_text sheet) k refl }
