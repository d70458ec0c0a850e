-- 11 of a plan sheet and of a list: the search over their lines, stretch by stretch, finds the first that is bad.
use Prim.Native.Nat.{ℕ, zero, suc, ◌+◌, ◌-◌, ◌≤◌, ◌<◌}
use mathlib.Core.Path.{◌≡◌, refl, ap, sym, ◌∙◌, subst}
use mathlib.Core.Bool.{Bool, true, false, not, true≢false}
use mathlib.Core.Logic.{◌⊎◌, inl, inr, ⊎_elim, by_cases}
use mathlib.Core.List.{List, [], ◌∷◌}
use native.Mathlib.Omega.{arith}
use native.Mathlib.Decide.{dec_lt}
use lib.ListN.{length, drop}
use lib.Dec.{ltb, eqb}
use borrow.Author.Tests.{not-true, not-false, ltb-true, ltb-false}
use Rattle.refusals.specs.declared.Refusal.{Refusal}
use Rattle.refusals.specs.declared.Refusal.TheVariants.{BadLine, LongSheet}
use Rattle.refusals.specs.Refusals.{refuse_at, first_of, first_where}
use Rattle.runs.proofs.Search.{true_or_false, first_zero, or_false_both}
use Rattle.text_bytes.specs.Text.{line_feed, is_empty, has, behind, starts_with}
use Rattle.text_bytes.proofs.Split.{key_split}
use Rattle.text_lines.specs.Lines.{line_of, after_lines, line_after, is_number_line, is_pair_line, is_triple_line, first_bad_of}
use Rattle.sheet_reader.specs.Lines.{tape_key, is_tape_line, is_count_line}
use Rattle.sheet_reader.specs.Sheet.{longest_sheet, unless, shifted, first_some}
use Rattle.sheet_writer.specs.PlanSheet.{sum_key, reads_key, finish_key, end_key, detours_key, detour_key, time_key}
use Rattle.sheet_writer.proofs.Reread.{key_begins}
use Rattle.sheet_lists.specs.Form.{most_detours, lines_in, lines_up_to, first_bad_to_end, detours_told, detour_text, time_text, first_failing, plan_bad_top, plan_bad_below, plan_bad_line, is_plan, list_bad_line}
use Rattle.sheet_lists.specs.Reading.{form_checks, plan_form, list_form}
use Rattle.demands.specs.RefusalTable.{FirstBad}
use Rattle.demands.specs.Lines.{Stands, Name, Number, UpTo, Pair, Triple}
use Rattle.demands.proofs.Tests.{Tells, tells_below}
use Rattle.demands.proofs.Checks.{Decides, refused, passed, found_at, decides_if, decides_reworded, Finds, finds_none, finds_first}
use Rattle.demands.proofs.Lines.{tells_tape, tells_number, tells_count, tells_pair_line, tells_triple_line, tells_end}
use Rattle.demands.proofs.FirstLine.{Search, joined, ended, one_line, after_both}
use Rattle.promises.specs.ListLines.{PlanLineIsBad, ListLineIsBad, IsPlanSheet, PlanFormApplies, ListFormApplies, form_order, PlanFormByTheTable, ListFormByTheTable}

-- How many lines are left behind some.
no_feed : (text : List ℕ) → has line_feed text ≡ false → (lines_in text ≡ 0) × (behind line_feed text ≡ [])
unfolding has behind lines_in
no_feed [] e = (refl, refl)
no_feed (b ∷ text) e = let both = or_false_both (eqb b line_feed) (has line_feed text) e in rw both.0 (no_feed text both.1)

one_feed : (text : List ℕ) → has line_feed text ≡ true → lines_in text ≡ suc (lines_in (behind line_feed text))
unfolding has behind lines_in
one_feed [] e = absurd (true≢false (sym e))
one_feed (b ∷ text) e = go (eqb b line_feed) refl (one_feed text)
  where
    go : (t : Bool) → eqb b line_feed ≡ t → (has line_feed text ≡ true → lines_in text ≡ suc (lines_in (behind line_feed text))) → lines_in (b ∷ text) ≡ suc (lines_in (behind line_feed (b ∷ text)))
    go true f rest = rw f
    go false f rest = rw f (rest (rw f at e))

no_lines : (text : List ℕ) → text ≡ [] → lines_in text ≡ 0
unfolding lines_in
no_lines text e = rw e

lines_left : (j : ℕ) (text : List ℕ) → lines_in (after_lines j text) ≡ lines_in text - j
unfolding after_lines
lines_left zero text = omega arith
lines_left (suc j) text =
    let left = lines_left j text in
    ⊎_elim
    (λ (e : has line_feed (after_lines j text) ≡ true). omega (arith, left, one_feed (after_lines j text) e))
    (λ (e : has line_feed (after_lines j text) ≡ false). let none = no_feed (after_lines j text) e in omega (arith, left, none.0, no_lines (behind line_feed (after_lines j text)) none.1))
    (true_or_false (has line_feed (after_lines j text)))

-- A line that is there is some text; behind the last line nothing is left but what no LF ends, and behind that nothing.
line_there : (j : ℕ) (text : List ℕ) → j < lines_in text → after_lines j text ≡ [] → ⊥
unfolding lines_in
line_there j text l e = let z : lines_in (after_lines j text) ≡ 0 = rw e in omega (arith, z, lines_left j text)

no_line : (j : ℕ) (text : List ℕ) → lines_in text ≤ j → has line_feed (after_lines j text) ≡ false
no_line j text l =
    ⊎_elim
    (λ (e : has line_feed (after_lines j text) ≡ true). absurd (omega (arith, lines_left j text, one_feed (after_lines j text) e)))
    (λ (e : has line_feed (after_lines j text) ≡ false). e)
    (true_or_false (has line_feed (after_lines j text)))

none_later : (j : ℕ) (text : List ℕ) → lines_in text < j → after_lines j text ≡ []
unfolding after_lines
none_later zero text l = absurd (omega arith)
none_later (suc j) text l = (no_feed (after_lines j text) (no_line j text (omega arith))).1

up_to : (most : ℕ) (text : List ℕ) → (lines_up_to most text ≤ most) × (lines_up_to most text ≤ lines_in text) × (lines_up_to most text < most → lines_up_to most text ≡ lines_in text)
unfolding lines_up_to
up_to most text =
    ⊎_elim
    (λ (e : ltb most (lines_in text) ≡ true). let l = ltb-true most (lines_in text) e in rw e (omega arith, omega arith, λ h. absurd (omega arith)))
    (λ (e : ltb most (lines_in text) ≡ false). let l = ltb-false most (lines_in text) e in rw e (l, omega arith, λ h. refl))
    (true_or_false (ltb most (lines_in text)))

-- The same search in other words.
reworded : {A B : ℕ → Type 0} {x lo hi hi' : ℕ} → ((i : ℕ) → A i → B i) → ((i : ℕ) → B i → A i) → hi ≤ hi' → Search A x lo hi → Search B x lo hi'
reworded on off l s =
    record {
      within = λ i b. let w = s.within i (off i b) in (w.0, omega (arith, w.1));
      none = λ e i b. s.none e i (off i b);
      some = λ i e. let f = s.some i e in (on i f.0, λ j k b. f.1 j k (off j b));
    }

-- It finds a line exactly where that is the first bad one.
finds_it : {Bad : ℕ → Type 0} {x lo hi : ℕ} → Search Bad x lo hi → Decides BadLine (λ p. FirstBad Bad p p) (refuse_at x BadLine)
finds_it {Bad} {x} s = go x refl
  where
    go : (y : ℕ) → x ≡ y → Decides BadLine (λ p. FirstBad Bad p p) (refuse_at x BadLine)
    go zero e = passed (rw e) (λ p f. s.none e f.index f.here)
    go (suc n) e = let f = s.some n e in refused (suc n) (rw e) (record { index = n; within = omega arith; at = refl; here = f.0; before = f.1 })

-- A stretch of lines of one kind: so many, or to the end.
module _ (text : List ℕ) (Good : ℕ → Type 0) (test : List ℕ → Bool) (tells : (i : ℕ) → Tells (test (line_after i text)) (Good i)) (empty : test [] ≡ false) where
  abbrev Among : ℕ → ℕ → ℕ → Type 0
  Among lo count i = (lo ≤ i) × (i < lo + count) × (Good i → ⊥)

  abbrev off : ℕ → ℕ → Bool
  off lo k = not (test (line_after k (after_lines lo text)))

  at_line : (lo k : ℕ) → test (line_after k (after_lines lo text)) ≡ test (line_after (lo + k) text)
  at_line lo k = ap (λ t. test (line_of t)) (after_both k lo (lo + k) text refl)

  clean : (lo n : ℕ) → first_where (off lo) n ≡ 0 → (i : ℕ) → lo ≤ i → i < lo + n → Good i
  clean lo n e i l h =
      let same : lo + (i - lo) ≡ i = omega arith in
      let good = not-false (test (line_after (i - lo) (after_lines lo text))) (first_zero (off lo) n e (i - lo) (omega arith)) in
      (tells i).when_true (ap (λ k. test (line_after k text)) (sym same) ∙ sym (at_line lo (i - lo)) ∙ good)

  among : (lo count : ℕ) → Search (Among lo count) (shifted lo (first_bad_of test count (after_lines lo text))) lo (lo + count)
  unfolding first_bad_of
  among lo count = go (first_where (off lo) count) refl
    where
      go : (p : ℕ) → first_where (off lo) count ≡ p → Search (Among lo count) (shifted lo (first_where (off lo) count)) lo (lo + count)
      go zero e = rw e (record { within = λ j h. (h.0, h.1); none = λ z j h. h.2 (clean lo count e j h.0 h.1); some = λ j z. absurd (omega (arith, z)) })
      go (suc q) e =
          let found = found_at (off lo) count q e in
          let bad : Good (lo + q) → ⊥ = (tells (lo + q)).when_false (sym (at_line lo q) ∙ not-true (test (line_after q (after_lines lo text))) found.1) in
          rw e
          (record {
            within = λ j h. (h.0, h.1);
            none = λ z. absurd (omega (arith, z));
            some = λ j z.
                let same : j ≡ lo + q = omega (arith, z) in
                ((omega arith, omega (arith, found.0), rw same bad), λ k l h. h.2 (clean lo q found.2 k h.0 (omega (arith, same))));
          })

  abbrev ToEnd : ℕ → ℕ → ℕ → Type 0
  ToEnd lo most i =
      ((lo ≤ i) × (i < lo + most) × (after_lines i text ≡ [] → ⊥) × (Good i → ⊥))
      ⊎ ((i ≡ lo + most) × (after_lines i text ≡ [] → ⊥))

  module _ (lo most : ℕ) where
    abbrev rest : List ℕ
    rest = after_lines lo text

    abbrev L : ℕ
    L = lines_up_to most rest

    abbrev Parts : ℕ → Type 0
    Parts i = Among lo L i ⊎ (((i ≡ lo + L) × (after_lines i text ≡ [] → ⊥)) ⊎ ⊥)

    there : (i : ℕ) → lo ≤ i → after_lines i text ≡ after_lines (i - lo) rest
    there i l = sym (after_both (i - lo) lo i text (omega arith))

    -- Where fewer lines than the limit are left, what no LF ends is no line of the kind.
    no_good : L < most → Good (lo + L) → ⊥
    unfolding line_of
    no_good l g =
        let none : has line_feed (after_lines L rest) ≡ false = no_line L rest (omega (arith, (up_to most rest).2 l)) in
        let line : line_after (lo + L) text ≡ [] = ap line_of (sym (after_both L lo (lo + L) text refl)) ∙ rw none in
        ⊎_elim
        (λ (e : test (line_after (lo + L) text) ≡ true). true≢false (sym e ∙ ap test line ∙ empty))
        (λ (e : test (line_after (lo + L) text) ≡ false). (tells (lo + L)).when_false e g)
        (true_or_false (test (line_after (lo + L) text)))

    none_past_here : L < most → (i : ℕ) → lo + L < i → after_lines i text ≡ []
    none_past_here l i h = there i (omega arith) ∙ none_later (i - lo) rest (omega (arith, (up_to most rest).2 l))

    on : (i : ℕ) → Parts i → ToEnd lo most i
    on i =
        ⊎_elim
        (λ h. inl (h.0, omega (arith, h.1, (up_to most rest).0), λ e. line_there (i - lo) rest (omega (arith, h.0, h.1, (up_to most rest).1)) (sym (there i h.0) ∙ e), h.2))
        (⊎_elim
        (λ h. by_cases (dec_lt L most)
        (λ l. inl (omega (arith, h.0), omega (arith, h.0), h.1, λ g. no_good l (subst Good h.0 g)))
        (λ n. inr (omega (arith, h.0, (up_to most rest).0), h.1)))
        (λ z. absurd z))

    back : (i : ℕ) → ToEnd lo most i → Parts i
    back i =
        ⊎_elim
        (λ h. by_cases (dec_lt i (lo + L)) (λ l. inl (h.0, l, h.3))
        (λ n. inr (inl (by_cases (dec_lt (lo + L) i) (λ l. absurd (h.2 (none_past_here (omega (arith, h.1)) i l))) (λ m. omega arith), h.2))))
        (λ h. by_cases (dec_lt L most) (λ l. absurd (h.1 (none_past_here l i (omega (arith, h.0))))) (λ n. inr (inl (omega (arith, h.0, (up_to most rest).0), h.1))))

    one_row : (a : ℕ) (c : Bool) → shifted lo (first_some (a ∷ unless c (L + 1) ∷ [])) ≡ first_some (shifted lo a ∷ unless c (lo + L + 1) ∷ [])
    one_row zero true = refl
    one_row zero false = go (L + 1) refl
      where
        go : (n : ℕ) → L + 1 ≡ n → shifted lo (first_some ((L + 1) ∷ [])) ≡ first_some ((lo + L + 1) ∷ [])
        go zero e = absurd (omega (arith, e))
        go (suc n) e = let same : lo + L + 1 ≡ suc (lo + n) = omega (arith, e) in let sum : lo + suc n ≡ suc (lo + n) = omega arith in rw (e, same) sum
    one_row (suc a) c = let same : lo + suc a ≡ suc (lo + a) = omega arith in rw same refl

    pub to_end : Search (ToEnd lo most) (shifted lo (first_bad_to_end test most rest)) lo (lo + most + 1)
    unfolding first_bad_to_end
    to_end =
        let done = is_empty (after_lines L rest) in
        let one : Search (λ j. (j ≡ lo + L) × (after_lines j text ≡ [] → ⊥)) (unless done (lo + L + 1)) (lo + L) (suc (lo + L)) =
        one_line (λ j. after_lines j text ≡ []) done (lo + L) (lo + L + 1) (omega arith) (rw (after_both L lo (lo + L) text refl) (tells_end text (lo + L))) in
        rw (one_row (first_bad_of test L rest) done)
        (reworded on back (omega (arith, (up_to most rest).0))
        (joined (shifted lo (first_bad_of test L rest)) (unless done (lo + L + 1) ∷ []) (omega arith) (omega arith) (omega arith) (among lo L)
        (joined (unless done (lo + L + 1)) [] (omega arith) (omega arith) (omega arith) one (ended (suc (lo + L))))))

-- A row of tests, line by line, is a row of single lines.
abbrev as_row : List ℕ → ℕ → List (List ℕ → Bool) → List ℕ
as_row text n [] = []
as_row text n (test ∷ tests) = unless (test (line_after n text)) (suc n) ∷ as_row text (suc n) tests

failing_row : (text : List ℕ) (n : ℕ) (tests : List (List ℕ → Bool)) → first_failing n tests (after_lines n text) ≡ first_some (as_row text n tests)
unfolding first_failing after_lines
failing_row text n [] = refl
failing_row text n (test ∷ tests) = go (test (line_after n text)) refl (failing_row text (suc n) tests)
  where
    go : (b : Bool) → test (line_after n text) ≡ b → first_failing (suc n) tests (behind line_feed (after_lines n text)) ≡ first_some (as_row text (suc n) tests) → first_failing n (test ∷ tests) (after_lines n text) ≡ first_some (as_row text n (test ∷ tests))
    go true e more = rw e more
    go false e more = rw e

-- The plan sheet.
module _ (plan : List ℕ) where
  abbrev T : ℕ
  T = detours_told plan

  abbrev Unless : (ℕ → Type 0) → ℕ → ℕ → Type 0
  Unless Good at j = (j ≡ at) × (Good j → ⊥)

  abbrev TopIsBad : ℕ → Type 0
  TopIsBad i =
      Unless (Stands tape_key Name plan) 0 i
      ⊎ (Unless (Stands sum_key Number plan) 1 i
      ⊎ (Unless (Stands reads_key Number plan) 2 i
      ⊎ (Unless (Stands finish_key Number plan) 3 i ⊎ (Unless (Stands end_key Number plan) 4 i ⊎ (Unless (Stands detours_key (UpTo 63) plan) 5 i ⊎ ⊥)))))

  top_search : Search TopIsBad (plan_bad_top plan) 0 6
  unfolding plan_bad_top has after_lines
  top_search =
      let tape = is_tape_line (line_after 0 plan) in
      let sum = is_number_line sum_key (line_after 1 plan) in
      let reads = is_number_line reads_key (line_after 2 plan) in
      let finish = is_number_line finish_key (line_after 3 plan) in
      let end = is_number_line end_key (line_after 4 plan) in
      let detours = is_count_line detours_key most_detours (line_after 5 plan) in
      rw (failing_row plan 0 (is_tape_line ∷ is_number_line sum_key ∷ is_number_line reads_key ∷ is_number_line finish_key ∷ is_number_line end_key ∷ is_count_line detours_key most_detours ∷ []))
      (joined (unless tape 1) (unless sum 2 ∷ unless reads 3 ∷ unless finish 4 ∷ unless end 5 ∷ unless detours 6 ∷ []) (omega arith) (omega arith) (omega arith)
      (one_line (Stands tape_key Name plan) tape 0 1 refl (tells_tape plan 0))
      (joined (unless sum 2) (unless reads 3 ∷ unless finish 4 ∷ unless end 5 ∷ unless detours 6 ∷ []) (omega arith) (omega arith) (omega arith)
      (one_line (Stands sum_key Number plan) sum 1 2 refl (tells_number plan 1 sum_key (omega arith) refl))
      (joined (unless reads 3) (unless finish 4 ∷ unless end 5 ∷ unless detours 6 ∷ []) (omega arith) (omega arith) (omega arith)
      (one_line (Stands reads_key Number plan) reads 2 3 refl (tells_number plan 2 reads_key (omega arith) refl))
      (joined (unless finish 4) (unless end 5 ∷ unless detours 6 ∷ []) (omega arith) (omega arith) (omega arith)
      (one_line (Stands finish_key Number plan) finish 3 4 refl (tells_number plan 3 finish_key (omega arith) refl))
      (joined (unless end 5) (unless detours 6 ∷ []) (omega arith) (omega arith) (omega arith)
      (one_line (Stands end_key Number plan) end 4 5 refl (tells_number plan 4 end_key (omega arith) refl))
      (joined (unless detours 6) [] (omega arith) (omega arith) (omega arith)
      (one_line (Stands detours_key (UpTo 63) plan) detours 5 6 refl (tells_count plan 5 detours_key (omega arith) refl most_detours))
      (ended 6)))))))

  tells_detour : (i : ℕ) → Tells (is_pair_line detour_key (line_after i plan)) (Stands detour_key Pair plan i)
  unfolding has
  tells_detour i = tells_pair_line plan i detour_key (omega arith) refl

  tells_time : (i : ℕ) → Tells (is_triple_line time_key (line_after i plan)) (Stands time_key Triple plan i)
  unfolding has
  tells_time i = tells_triple_line plan i time_key (omega arith) refl

  no_detour : is_pair_line detour_key [] ≡ false
  unfolding is_pair_line starts_with
  no_detour = refl

  no_time_here : is_triple_line time_key [] ≡ false
  unfolding is_triple_line starts_with
  no_time_here = refl

  abbrev BelowIsBad : ℕ → Type 0
  BelowIsBad i = Among plan (Stands detour_key Pair plan) (is_pair_line detour_key) tells_detour no_detour 6 T i ⊎ (ToEnd plan (Stands time_key Triple plan) (is_triple_line time_key) tells_time no_time_here (6 + T) 64 i ⊎ ⊥)

  time_behind : time_text plan ≡ after_lines (6 + T) plan
  unfolding time_text detour_text
  time_behind = after_both T 6 (6 + T) plan refl

  below_search : Search BelowIsBad (plan_bad_below plan) 6 (6 + T + 64 + 1)
  unfolding plan_bad_below detour_text
  below_search =
      let detours = shifted 6 (first_bad_of (is_pair_line detour_key) T (after_lines 6 plan)) in
      let times = shifted (6 + T) (first_bad_to_end (is_triple_line time_key) 64 (after_lines (6 + T) plan)) in
      let order : T + 6 ≡ 6 + T = omega arith in
      rw (time_behind, order)
      (joined detours (times ∷ []) (omega arith) (omega arith) (omega arith) (among plan (Stands detour_key Pair plan) (is_pair_line detour_key) tells_detour no_detour 6 T)
      (joined times [] (omega arith) (omega arith) (omega arith) (to_end plan (Stands time_key Triple plan) (is_triple_line time_key) tells_time no_time_here (6 + T) 64) (ended (6 + T + 64 + 1))))

  in_stretch : (i : ℕ) → PlanLineIsBad plan i → TopIsBad i ⊎ (BelowIsBad i ⊎ ⊥)
  in_stretch i (PlanLineIsBad.tape e n) = inl (inl (e, n))
  in_stretch i (PlanLineIsBad.sum e n) = inl (inr (inl (e, n)))
  in_stretch i (PlanLineIsBad.reads e n) = inl (inr (inr (inl (e, n))))
  in_stretch i (PlanLineIsBad.finish e n) = inl (inr (inr (inr (inl (e, n)))))
  in_stretch i (PlanLineIsBad.end e n) = inl (inr (inr (inr (inr (inl (e, n))))))
  in_stretch i (PlanLineIsBad.detours e n) = inl (inr (inr (inr (inr (inr (inl (e, n)))))))
  in_stretch i (PlanLineIsBad.detour l h n) = inr (inl (inl (l, h, n)))
  in_stretch i (PlanLineIsBad.time l h s n) = inr (inl (inr (inl (inl (l, h, s, n)))))
  in_stretch i (PlanLineIsBad.beyond e s) = inr (inl (inr (inl (inr (e, s)))))

  in_table : (i : ℕ) → TopIsBad i ⊎ (BelowIsBad i ⊎ ⊥) → PlanLineIsBad plan i
  in_table i =
      ⊎_elim
      (⊎_elim (λ h. PlanLineIsBad.tape h.0 h.1)
      (⊎_elim (λ h. PlanLineIsBad.sum h.0 h.1)
      (⊎_elim (λ h. PlanLineIsBad.reads h.0 h.1)
      (⊎_elim (λ h. PlanLineIsBad.finish h.0 h.1)
      (⊎_elim (λ h. PlanLineIsBad.end h.0 h.1) (⊎_elim (λ h. PlanLineIsBad.detours h.0 h.1) (λ h. absurd h)))))))
      (⊎_elim
      (⊎_elim (λ h. PlanLineIsBad.detour h.0 h.1 h.2)
      (⊎_elim (⊎_elim (λ h. PlanLineIsBad.time h.0 h.1 h.2 h.3) (λ h. PlanLineIsBad.beyond h.0 h.1)) (λ h. absurd h)))
      (λ h. absurd h))

  pub plan_search : Search (PlanLineIsBad plan) (plan_bad_line plan) 0 (6 + T + 64 + 1)
  unfolding plan_bad_line
  plan_search =
      reworded in_table in_stretch (omega arith)
      (joined (plan_bad_top plan) (plan_bad_below plan ∷ []) (omega arith) (omega arith) (omega arith) top_search
      (joined (plan_bad_below plan) [] (omega arith) (omega arith) (omega arith) below_search (ended (6 + T + 64 + 1))))

-- A list that is no plan sheet.
module _ (list : List ℕ) where
  bare_in : (i : ℕ) → ListLineIsBad list i → ToEnd list (Stands detour_key Pair list) (is_pair_line detour_key) (tells_detour list) (no_detour list) 0 63 i
  bare_in i (ListLineIsBad.detour l s n) = inl (omega arith, omega arith, s, n)
  bare_in i (ListLineIsBad.beyond e s) = inr (omega arith, s)

  bare_out : (i : ℕ) → ToEnd list (Stands detour_key Pair list) (is_pair_line detour_key) (tells_detour list) (no_detour list) 0 63 i → ListLineIsBad list i
  bare_out i = ⊎_elim (λ h. ListLineIsBad.detour (omega (arith, h.1)) h.2 h.3) (λ h. ListLineIsBad.beyond (omega (arith, h.0)) h.1)

  unshifted : (n : ℕ) → shifted 0 n ≡ n
  unshifted zero = refl
  unshifted (suc n) = omega arith

  bare_search : Search (ListLineIsBad list) (first_bad_to_end (is_pair_line detour_key) 63 list) 0 64
  unfolding after_lines
  bare_search =
      rw (unshifted (first_bad_to_end (is_pair_line detour_key) 63 list)) at
      (reworded {hi' = 64} bare_out bare_in (omega arith) (to_end list (Stands detour_key Pair list) (is_pair_line detour_key) (tells_detour list) (no_detour list) 0 63))

-- 12, then 11.
form_finds : (applies : Refusal → ℕ → Type 0) (bad : ℕ) (text : List ℕ) → ((p : ℕ) → (p ≡ 0) × (16384 < length text) → applies LongSheet p) → ((p : ℕ) → applies LongSheet p → (p ≡ 0) × (16384 < length text))
    → Decides BadLine (applies BadLine) (refuse_at bad BadLine) → Finds applies form_order (first_of (form_checks bad text))
form_finds applies bad text there back line =
    finds_first applies (refuse_at bad BadLine ∷ []) refl (decides_reworded there back (decides_if _ LongSheet (tells_below longest_sheet (length text))))
    (λ a. finds_first applies [] refl line (λ b. finds_none applies))

plan_long_back : (plan : List ℕ) (p : ℕ) → PlanFormApplies plan LongSheet p → (p ≡ 0) × (16384 < length plan)
plan_long_back plan p (PlanFormApplies.too_long h) = (refl, h)

plan_line_back : (plan : List ℕ) (p : ℕ) → PlanFormApplies plan BadLine p → FirstBad (PlanLineIsBad plan) p p
plan_line_back plan p (PlanFormApplies.bad_line h) = h

pub plan_form_by_the_table : PlanFormByTheTable
unfolding plan_form
plan_form_by_the_table plan =
    form_finds (PlanFormApplies plan) (plan_bad_line plan) plan (λ p h. rw h.0 (PlanFormApplies.too_long h.1)) (plan_long_back plan)
    (decides_reworded (λ p. PlanFormApplies.bad_line) (plan_line_back plan) (finds_it (plan_search plan)))

module _ (list : List ℕ) where
  pub is_plan_lem : is_plan list ≡ true → IsPlanSheet list
  unfolding is_plan
  is_plan_lem e = (drop (length tape_key) list, key_split tape_key list e)

  pub plan_is : IsPlanSheet list → is_plan list ≡ true
  unfolding is_plan
  plan_is p = rw p.1 (key_begins tape_key p.0)

  list_long_back : (p : ℕ) → ListFormApplies list LongSheet p → (p ≡ 0) × (16384 < length list)
  list_long_back p (ListFormApplies.too_long h) = (refl, h)

  of_plan : is_plan list ≡ true → (p : ℕ) → ListFormApplies list BadLine p → FirstBad (PlanLineIsBad list) p p
  of_plan e p (ListFormApplies.plan_line q h) = h
  of_plan e p (ListFormApplies.detour_line n h) = absurd (n (is_plan_lem e))

  of_lines : is_plan list ≡ false → (p : ℕ) → ListFormApplies list BadLine p → FirstBad (ListLineIsBad list) p p
  of_lines e p (ListFormApplies.plan_line q h) = absurd (true≢false (sym (plan_is q) ∙ e))
  of_lines e p (ListFormApplies.detour_line n h) = h

  list_line : Decides BadLine (ListFormApplies list BadLine) (refuse_at (list_bad_line list) BadLine)
  unfolding list_bad_line
  list_line =
      ⊎_elim
      (λ (e : is_plan list ≡ true). rw e (decides_reworded (λ p. ListFormApplies.plan_line (is_plan_lem e)) (of_plan e) (finds_it (plan_search list))))
      (λ (e : is_plan list ≡ false). rw e (decides_reworded (λ p. ListFormApplies.detour_line (λ q. true≢false (sym (plan_is q) ∙ e))) (of_lines e) (finds_it (bare_search list))))
      (true_or_false (is_plan list))

pub list_form_by_the_table : ListFormByTheTable
unfolding list_form
list_form_by_the_table list = form_finds (ListFormApplies list) (list_bad_line list) list (λ p h. rw h.0 (ListFormApplies.too_long h.1)) (list_long_back list) (list_line list)
