-- The mender's 11: the search for the first line that is not as described finds the first line that is not mended; and what each line of a sheet is that has
-- no such line.
use Prim.Native.Nat.{ℕ, zero, suc, ◌+◌, ◌-◌, ◌≤◌, ◌<◌}
use mathlib.Core.Path.{◌≡◌, refl, ap, sym, ◌∙◌}
use mathlib.Core.Bool.{Bool, true, false, true≢false, not, ◌||◌}
use mathlib.Core.Logic.{◌⊎◌, inl, inr, ⊎_elim, by_cases}
use mathlib.Core.List.{List, [], ◌∷◌, ◌++◌, append_assoc}
use native.Mathlib.Omega.{arith}
use native.Mathlib.Decide.{dec_lt}
use lib.ListN.{length, drop, get_or}
use lib.Dec.{eqb}
use borrow.Author.Tests.{eq-eqb, not-true, not-false}
use Rattle.refusals.specs.declared.Refusal.TheVariants.{BadLine}
use Rattle.refusals.specs.Refusals.{refuse_at, first_where}
use Rattle.runs.proofs.Search.{true_or_false, first_zero, first_all}
use Rattle.text_bytes.specs.Text.{line_feed, is_empty, has, behind}
use Rattle.text_lines.specs.Lines.{line_of, after_lines, line_after, is_number_line, is_pair_line, is_triple_line, first_bad_of, lines_before}
use Rattle.sheet_reader.specs.Lines.{tape_key, head_key, turn_key, rule_key, files_key, file_key, wants_key, want_key, is_tape_line, is_turn_line, is_rule_line}
use Rattle.sheet_reader.specs.Sheet.{longest_sheet, most_sheet_files, file_text, unless}
use Rattle.sheet_loose.specs.Loose.{loose_files, loose_wants_text, loose_want_text, loose_wants, loose_end, first_bad_loose_top, first_bad_loose_below, first_bad_loose}
use Rattle.sheet_loose.proofs.Passing.{wants_long}
use Rattle.sheet_loose.proofs.Wants.{lines_good, want_text_ends, wants_few}
use Rattle.answer_mend.proofs.Texts.{few_files}
use Rattle.demands.specs.RefusalTable.{FirstBad}
use Rattle.demands.specs.Lines.{Stands, Name, Number, NumberOrNothing, RuleName}
use Rattle.demands.proofs.Tests.{Tells, tells_not, tells_holds}
use Rattle.demands.proofs.Checks.{Decides, refused, passed, found_at}
use Rattle.demands.proofs.Lines.{tells_tape, tells_turn, tells_rule, tells_number, tells_pair_line, tells_triple_line, tells_end}
use Rattle.demands.proofs.FirstLine.{Search, joined, ended, one_line, after_both}
use Rattle.promises.specs.Mender.{FileLine, WantLine, Come, FileLines, NotMended}
use Rattle.promises.proofs.Again.{come_so_many}
use Rattle.promises.proofs.Described.{described}

pub tells_fails : (a : Bool) {P : Type 0} → Tells a P → (P → ⊥) → a ≡ false
tells_fails a t n = not-true a (tells_holds (not a) (tells_not a t) n)

-- The lines of a kind that come: all pass, and behind them, if they may be more, is one that does not.
module _ (test : List ℕ → Bool) (most : ℕ) (text : List ℕ) where
  come_good : (i : ℕ) → i < lines_before most (first_bad_of test most text) → test (line_after i text) ≡ true
  unfolding first_bad_of
  come_good i l =
      not-false (test (line_after i text))
      (first_zero (λ j. not (test (line_after j text))) (lines_before most (first_bad_of test most text)) (lines_good test most text) i l)

  come_end : lines_before most (first_bad_of test most text) < most → test (line_after (lines_before most (first_bad_of test most text)) text) ≡ false
  unfolding first_bad_of
  come_end = go (first_where (λ j. not (test (line_after j text))) most) refl
    where
      go : (p : ℕ) → first_where (λ j. not (test (line_after j text))) most ≡ p → lines_before most p < most → test (line_after (lines_before most p) text) ≡ false
      go zero e l = absurd (omega arith)
      go (suc q) e l = not-true (test (line_after q text)) (found_at (λ j. not (test (line_after j text))) most q e).1

-- Two keys with different bytes at one place do not begin one text.
abbrev pub clash : List ℕ → List ℕ → Bool
clash [] l = false
clash (a ∷ k) [] = false
clash (a ∷ k) (b ∷ l) = not (eqb a b) || clash k l

clash_apart : (k l : List ℕ) → clash k l ≡ true → (s t : List ℕ) → k ++ s ≡ l ++ t → ⊥
clash_apart [] l c s t e = true≢false (sym c)
clash_apart (a ∷ k) [] c s t e = true≢false (sym c)
clash_apart (a ∷ k) (b ∷ l) c s t e =
    let same : eqb a b ≡ true = eq-eqb a b (ap (λ x. get_or x 0 0) e) in
    clash_apart k l (rw same at c) s t (ap (drop 1) e)

pub keys_apart : (k l : List ℕ) {K L : List ℕ → Type 0} {sheet : List ℕ} {i : ℕ} → clash k l ≡ true → Stands k K sheet i → Stands l L sheet i → ⊥
keys_apart k l c s t =
    clash_apart k l c (s.value ++ (line_feed ∷ s.rest)) (t.value ++ (line_feed ∷ t.rest))
    (sym (append_assoc k s.value (line_feed ∷ s.rest)) ∙ sym s.is ∙ t.is ∙ append_assoc l t.value (line_feed ∷ t.rest))

after_nothing : (d : ℕ) (text : List ℕ) → text ≡ [] → after_lines d text ≡ []
unfolding after_lines behind
after_nothing zero text e = e
after_nothing (suc d) text e = rw (after_nothing d text e)

pub nothing_stands : {k : List ℕ} {K : List ℕ → Type 0} {sheet : List ℕ} {i : ℕ} → after_lines i sheet ≡ [] → Stands k K sheet i → ⊥
nothing_stands {k} e s =
    let long : length (k ++ s.value ++ (line_feed ∷ s.rest)) ≡ 0 = ap length (sym s.is ∙ e) in
    omega (arith, lib.ListN.length-append (k ++ s.value) (line_feed ∷ s.rest))

module _ (sheet : List ℕ) where
  abbrev F : ℕ
  F = loose_files sheet

  abbrev W : ℕ
  W = loose_wants sheet

  pub tail_behind : loose_wants_text sheet ≡ after_lines (5 + F) sheet
  unfolding loose_wants_text file_text
  tail_behind = after_both F 5 (5 + F) sheet refl

  pub body_behind : loose_want_text sheet ≡ after_lines (6 + F) sheet
  unfolding loose_want_text
  body_behind = ap (after_lines 1) tail_behind ∙ after_both 1 (5 + F) (6 + F) sheet (omega arith)

  end_behind_here : loose_end sheet ≡ after_lines (6 + F + W) sheet
  unfolding loose_end
  end_behind_here = ap (after_lines W) body_behind ∙ after_both W (6 + F) (6 + F + W) sheet refl

  pub file_at_lem : (k : ℕ) → line_after k (file_text sheet) ≡ line_after (5 + k) sheet
  unfolding file_text
  file_at_lem k = ap line_of (after_both k 5 (5 + k) sheet refl)

  pub want_at_lem : (k : ℕ) → line_after k (loose_want_text sheet) ≡ line_after (6 + F + k) sheet
  want_at_lem k = ap (λ t. line_after k t) body_behind ∙ ap line_of (after_both k (6 + F) (6 + F + k) sheet refl)

  tells_file : (k : ℕ) → Tells (is_triple_line file_key (line_after k (file_text sheet))) (FileLine sheet (5 + k))
  unfolding has
  tells_file k = rw (file_at_lem k) (tells_triple_line sheet (5 + k) file_key (omega arith) refl)

  tells_want : (k : ℕ) → Tells (is_pair_line want_key (line_after k (loose_want_text sheet))) (WantLine sheet (6 + F + k))
  unfolding has
  tells_want k = rw (want_at_lem k) (tells_pair_line sheet (6 + F + k) want_key (omega arith) refl)

  -- The file lines and the want lines that come, and no others.
  pub file_lines_lem : (k : ℕ) → k < F → FileLine sheet (5 + k)
  unfolding loose_files
  file_lines_lem k l = (tells_file k).when_true (come_good (is_triple_line file_key) most_sheet_files (file_text sheet) k l)

  no_file_here : F < 256 → FileLine sheet (5 + F) → ⊥
  unfolding loose_files
  no_file_here l = (tells_file F).when_false (come_end (is_triple_line file_key) most_sheet_files (file_text sheet) l)

  so_many_files : (n : ℕ) → n ≤ 256 → ((i : ℕ) → i < n → FileLine sheet (5 + i)) → (n < 256 → FileLine sheet (5 + n) → ⊥) → F ≡ n
  unfolding loose_files
  so_many_files n few each no_more =
      come_so_many (is_triple_line file_key) most_sheet_files n (file_text sheet) few (λ i l. tells_holds _ (tells_file i) (each i l)) (λ m. tells_fails _ (tells_file n) (no_more m))

  pub want_lines_lem : (k : ℕ) → k < W → WantLine sheet (6 + F + k)
  unfolding loose_wants
  want_lines_lem k l = (tells_want k).when_true (come_good (is_pair_line want_key) longest_sheet (loose_want_text sheet) k l)

  files_or_more : FileLines sheet F ⊎ ((F ≡ 256) × FileLine sheet (5 + 256))
  files_or_more =
      by_cases (dec_lt F 256)
      (λ l. inl (record { each = file_lines_lem; no_more = no_file_here l }, few_files sheet))
      (λ n. let full : F ≡ 256 = omega (arith, few_files sheet) in
      ⊎_elim
      (λ (t : is_triple_line file_key (line_after F (file_text sheet)) ≡ true). inr (full, rw full at ((tells_file F).when_true t)))
      (λ (f : is_triple_line file_key (line_after F (file_text sheet)) ≡ false). inl (record { each = file_lines_lem; no_more = (tells_file F).when_false f }, few_files sheet))
      (true_or_false (is_triple_line file_key (line_after F (file_text sheet)))))

  module _ (short : length sheet ≤ 16384) where
    no_want : WantLine sheet (6 + F + W) → ⊥
    unfolding loose_wants
    no_want = (tells_want W).when_false (come_end (is_pair_line want_key) longest_sheet (loose_want_text sheet) (omega (arith, short, wants_few sheet)))

    so_many_wants : (m : ℕ) → Come (WantLine sheet) (6 + F) m → W ≡ m
    unfolding loose_wants first_bad_of
    so_many_wants m come =
        let good : (i : ℕ) → i < m → is_pair_line want_key (line_after i (loose_want_text sheet)) ≡ true = λ i l. tells_holds _ (tells_want i) (come.each i l) in
        let long = wants_long (loose_want_text sheet) m (first_all (λ j. not (is_pair_line want_key (line_after j (loose_want_text sheet)))) m (λ i l. ap not (good i l))) in
        come_so_many (is_pair_line want_key) longest_sheet m (loose_want_text sheet) (omega (arith, long, (want_text_ends sheet).short, short)) good
        (λ l. tells_fails _ (tells_want m) come.no_more)

    -- The search, line by line.
    abbrev Unless : (ℕ → Type 0) → ℕ → ℕ → Type 0
    Unless Good at j = (j ≡ at) × (Good j → ⊥)

    abbrev TopIsBad : ℕ → Type 0
    TopIsBad i =
        Unless (Stands tape_key Name sheet) 0 i
        ⊎ (Unless (Stands head_key Number sheet) 1 i
        ⊎ (Unless (Stands turn_key NumberOrNothing sheet) 2 i
        ⊎ (Unless (Stands rule_key RuleName sheet) 3 i ⊎ (Unless (Stands files_key Number sheet) 4 i ⊎ ⊥))))

    abbrev BelowIsBad : ℕ → Type 0
    BelowIsBad i = Unless (Stands wants_key Number sheet) (5 + F) i ⊎ (Unless (λ j. after_lines j sheet ≡ []) (6 + F + W) i ⊎ ⊥)

    top_search : Search TopIsBad (first_bad_loose_top sheet) 0 5
    unfolding first_bad_loose_top has
    top_search =
        let tape = is_tape_line (line_after 0 sheet) in
        let head = is_number_line head_key (line_after 1 sheet) in
        let turn = is_turn_line (line_after 2 sheet) in
        let rule = is_rule_line (line_after 3 sheet) in
        let files = is_number_line files_key (line_after 4 sheet) in
        joined (unless tape 1) (unless head 2 ∷ unless turn 3 ∷ unless rule 4 ∷ unless files 5 ∷ []) (omega arith) (omega arith) (omega arith)
        (one_line (Stands tape_key Name sheet) tape 0 1 refl (tells_tape sheet 0))
        (joined (unless head 2) (unless turn 3 ∷ unless rule 4 ∷ unless files 5 ∷ []) (omega arith) (omega arith) (omega arith)
        (one_line (Stands head_key Number sheet) head 1 2 refl (tells_number sheet 1 head_key (omega arith) refl))
        (joined (unless turn 3) (unless rule 4 ∷ unless files 5 ∷ []) (omega arith) (omega arith) (omega arith)
        (one_line (Stands turn_key NumberOrNothing sheet) turn 2 3 refl (tells_turn sheet 2))
        (joined (unless rule 4) (unless files 5 ∷ []) (omega arith) (omega arith) (omega arith)
        (one_line (Stands rule_key RuleName sheet) rule 3 4 refl (tells_rule sheet 3))
        (joined (unless files 5) [] (omega arith) (omega arith) (omega arith)
        (one_line (Stands files_key Number sheet) files 4 5 refl (tells_number sheet 4 files_key (omega arith) refl))
        (ended 5)))))

    below_search : Search BelowIsBad (first_bad_loose_below sheet) (5 + F) (7 + F + W)
    unfolding first_bad_loose_below has
    below_search =
        let count = is_number_line wants_key (line_of (loose_wants_text sheet)) in
        let done = is_empty (loose_end sheet) in
        joined (unless count (F + 6)) (unless done (F + W + 7) ∷ []) (omega arith) (omega arith) (omega arith)
        (one_line (Stands wants_key Number sheet) count (5 + F) (F + 6) (omega arith) (rw tail_behind (tells_number sheet (5 + F) wants_key (omega arith) refl)))
        (joined (unless done (F + W + 7)) [] (omega arith) (omega arith) (omega arith)
        (one_line (λ j. after_lines j sheet ≡ []) done (6 + F + W) (F + W + 7) (omega arith) (rw end_behind_here (tells_end sheet (6 + F + W))))
        (ended (7 + F + W)))

    line_search : Search (λ i. TopIsBad i ⊎ (BelowIsBad i ⊎ ⊥)) (first_bad_loose sheet) 0 (7 + F + W)
    unfolding first_bad_loose
    line_search =
        joined (first_bad_loose_top sheet) (first_bad_loose_below sheet ∷ []) (omega arith) (omega arith) (omega arith) top_search
        (joined (first_bad_loose_below sheet) [] (omega arith) (omega arith) (omega arith) below_search (ended (7 + F + W)))

    -- The same in the words of the request.
    in_stretch : (i : ℕ) → NotMended sheet i → TopIsBad i ⊎ (BelowIsBad i ⊎ ⊥)
    in_stretch i (NotMended.tape e n) = inl (inl (e, n))
    in_stretch i (NotMended.head e n) = inl (inr (inl (e, n)))
    in_stretch i (NotMended.turn e n) = inl (inr (inr (inl (e, n))))
    in_stretch i (NotMended.rule e n) = inl (inr (inr (inr (inl (e, n)))))
    in_stretch i (NotMended.files e n) = inl (inr (inr (inr (inr (inl (e, n))))))
    in_stretch i (NotMended.file_257 e all) =
        let full : F ≡ 256 = so_many_files 256 (omega arith) (λ j l. all j (omega arith)) (λ l. absurd (omega arith)) in
        inr (inl (inl (omega arith, λ s. keys_apart file_key wants_key refl (rw (← e) at (all 256 (omega arith))) s)))
    in_stretch i (NotMended.wants {n} come e other) =
        let many : F ≡ n = so_many_files n come.1 come.0.each (λ l. come.0.no_more) in
        inr (inl (inl (omega arith, other)))
    in_stretch i (NotMended.beyond {n} {m} come wants e more) =
        let many : F ≡ n = so_many_files n come.1 come.0.each (λ l. come.0.no_more) in
        let few : W ≡ m = so_many_wants m (rw (← many) at wants) in
        inr (inl (inr (inl (omega arith, more))))

    found_line : (i : ℕ) → (TopIsBad i ⊎ (BelowIsBad i ⊎ ⊥)) → ((j : ℕ) → j < i → (TopIsBad j ⊎ (BelowIsBad j ⊎ ⊥)) → ⊥) → NotMended sheet i
    found_line i bad first =
        ⊎_elim
        (⊎_elim (λ h. NotMended.tape h.0 h.1)
        (⊎_elim (λ h. NotMended.head h.0 h.1)
        (⊎_elim (λ h. NotMended.turn h.0 h.1)
        (⊎_elim (λ h. NotMended.rule h.0 h.1)
        (⊎_elim (λ h. NotMended.files h.0 h.1) (λ h. absurd h))))))
        (⊎_elim (⊎_elim at_wants (⊎_elim at_end (λ h. absurd h))) (λ h. absurd h))
        bad
      where
        at_wants : Unless (Stands wants_key Number sheet) (5 + F) i → NotMended sheet i
        at_wants h =
            ⊎_elim (λ come. NotMended.wants come h.0 h.1)
            (λ more. NotMended.file_257 (omega (arith, h.0, more.0)) (λ j l.
            by_cases (dec_lt j F) (λ m. file_lines_lem j m) (λ n. let last : 5 + 256 ≡ 5 + j = omega (arith, more.0) in rw last at more.1)))
            files_or_more

        at_end : Unless (λ j. after_lines j sheet ≡ []) (6 + F + W) i → NotMended sheet i
        at_end h =
            ⊎_elim (λ come. NotMended.beyond come (record { each = want_lines_lem; no_more = no_want }) h.0 h.1)
            (λ more.
            let there : 5 + 256 ≡ 5 + F = omega (arith, more.0) in
            absurd (first (5 + F) (omega (arith, h.0)) (inr (inl (inl (refl, λ s. keys_apart file_key wants_key refl (rw there at more.1) s))))))
            files_or_more

    pub decides_line : Decides BadLine (λ p. FirstBad (NotMended sheet) p p) (refuse_at (first_bad_loose sheet) BadLine)
    decides_line = go (first_bad_loose sheet) refl
      where
        go : (n : ℕ) → first_bad_loose sheet ≡ n → Decides BadLine (λ p. FirstBad (NotMended sheet) p p) (refuse_at (first_bad_loose sheet) BadLine)
        go zero e = passed (rw e) (λ p f. line_search.none e f.index (in_stretch f.index f.here))
        go (suc n) e =
            let found = line_search.some n e in
            refused (suc n) (rw e)
            (record {
              index = n;
              within = omega arith;
              at = refl;
              here = found_line n found.0 found.1;
              before = λ j l h. found.1 j l (in_stretch j h);
            })

  -- What each line is, of a sheet that is as described.
  pub data LineIs (i : ℕ) : Type 0 where
    tape : Stands tape_key Name sheet i → LineIs i
    head : Stands head_key Number sheet i → LineIs i
    turn : Stands turn_key NumberOrNothing sheet i → LineIs i
    rule : Stands rule_key RuleName sheet i → LineIs i
    files : Stands files_key Number sheet i → LineIs i
    file : (k : ℕ) → i ≡ 5 + k → k < F → FileLine sheet i → LineIs i
    wants : Stands wants_key Number sheet i → LineIs i
    want : (k : ℕ) → i ≡ 6 + F + k → k < W → WantLine sheet i → LineIs i
    end : 6 + F + W ≤ i → after_lines i sheet ≡ [] → LineIs i

  module _ (good : first_bad_loose sheet ≡ 0) where
    pub nothing_behind : after_lines (6 + F + W) sheet ≡ []
    nothing_behind = (tells_end sheet (6 + F + W)).when_true (rw end_behind_here at (described sheet good).end)

    pub wants_there : Stands wants_key Number sheet (5 + F)
    unfolding has
    wants_there = (tells_number sheet (5 + F) wants_key (omega arith) refl).when_true (rw tail_behind at (described sheet good).wants)

    pub files_come : FileLines sheet F
    files_come =
        ⊎_elim (λ come. come) (λ more. let there : 5 + 256 ≡ 5 + F = omega (arith, more.0) in absurd (keys_apart file_key wants_key refl (rw there at more.1) wants_there)) files_or_more

    line_below : (i : ℕ) → 5 ≤ i → LineIs i
    line_below i five =
        by_cases (dec_lt i (5 + F))
        (λ l. let is : 5 + (i - 5) ≡ i = omega arith in file (i - 5) (sym is) (omega arith) (rw is at (file_lines_lem (i - 5) (omega arith))))
        (λ n. by_cases (dec_lt i (6 + F))
        (λ l. let is : 5 + F ≡ i = omega arith in
        wants (rw is at wants_there))
        (λ m. by_cases (dec_lt i (6 + F + W))
        (λ l. let is : 6 + F + (i - (6 + F)) ≡ i = omega arith in want (i - (6 + F)) (sym is) (omega arith) (rw is at (want_lines_lem (i - (6 + F)) (omega arith))))
        (λ l. end (omega arith) (sym (after_both (i - (6 + F + W)) (6 + F + W) i sheet (omega arith)) ∙ after_nothing (i - (6 + F + W)) (after_lines (6 + F + W) sheet) nothing_behind))))

    pub line_is : (i : ℕ) → LineIs i
    unfolding has
    line_is zero = tape ((tells_tape sheet 0).when_true (described sheet good).tape)
    line_is (suc zero) = head ((tells_number sheet 1 head_key (omega arith) refl).when_true (described sheet good).head)
    line_is (suc (suc zero)) = turn ((tells_turn sheet 2).when_true (described sheet good).turn)
    line_is (suc (suc (suc zero))) = rule ((tells_rule sheet 3).when_true (described sheet good).rule)
    line_is (suc (suc (suc (suc zero)))) = files ((tells_number sheet 4 files_key (omega arith) refl).when_true (described sheet good).files)
    line_is (suc (suc (suc (suc (suc i))))) = line_below (suc (suc (suc (suc (suc i))))) (omega arith)

    -- Every want line and every file line is one of those that come.
    pub want_among : (i : ℕ) → WantLine sheet i → (k : ℕ) × (k < W) × (i ≡ 6 + F + k)
    want_among i s = go (line_is i)
      where
        go : LineIs i → (k : ℕ) × (k < W) × (i ≡ 6 + F + k)
        go (tape t) = absurd (keys_apart tape_key want_key refl t s)
        go (head t) = absurd (keys_apart head_key want_key refl t s)
        go (turn t) = absurd (keys_apart turn_key want_key refl t s)
        go (rule t) = absurd (keys_apart rule_key want_key refl t s)
        go (files t) = absurd (keys_apart files_key want_key refl t s)
        go (file k e l t) = absurd (keys_apart file_key want_key refl t s)
        go (wants t) = absurd (keys_apart wants_key want_key refl t s)
        go (want k e l t) = (k, l, e)
        go (end l e) = absurd (nothing_stands e s)

    pub file_among : (i : ℕ) → FileLine sheet i → (k : ℕ) × (k < F) × (i ≡ 5 + k)
    file_among i s = go (line_is i)
      where
        go : LineIs i → (k : ℕ) × (k < F) × (i ≡ 5 + k)
        go (tape t) = absurd (keys_apart tape_key file_key refl t s)
        go (head t) = absurd (keys_apart head_key file_key refl t s)
        go (turn t) = absurd (keys_apart turn_key file_key refl t s)
        go (rule t) = absurd (keys_apart rule_key file_key refl t s)
        go (files t) = absurd (keys_apart files_key file_key refl t s)
        go (file k e l t) = (k, l, e)
        go (wants t) = absurd (keys_apart wants_key file_key refl t s)
        go (want k e l t) = absurd (keys_apart want_key file_key refl t s)
        go (end l e) = absurd (nothing_stands e s)

    -- So each of them is mended.
    pub wants_come : Come (WantLine sheet) (6 + F) W
    wants_come = record { each = want_lines_lem; no_more = nothing_stands nothing_behind }

    pub all_mended : (i : ℕ) → NotMended sheet i → ⊥
    unfolding has
    all_mended i (NotMended.tape e n) = n (rw e ((tells_tape sheet 0).when_true (described sheet good).tape))
    all_mended i (NotMended.head e n) = n (rw e ((tells_number sheet 1 head_key (omega arith) refl).when_true (described sheet good).head))
    all_mended i (NotMended.turn e n) = n (rw e ((tells_turn sheet 2).when_true (described sheet good).turn))
    all_mended i (NotMended.rule e n) = n (rw e ((tells_rule sheet 3).when_true (described sheet good).rule))
    all_mended i (NotMended.files e n) = n (rw e ((tells_number sheet 4 files_key (omega arith) refl).when_true (described sheet good).files))
    all_mended i (NotMended.file_257 e all) = let last = file_among (5 + 256) (all 256 (omega arith)) in omega (arith, last.1, last.2, few_files sheet)
    all_mended i (NotMended.wants {n} come e other) =
        let many : F ≡ n = so_many_files n come.1 come.0.each (λ l. come.0.no_more) in
        let here : i ≡ 5 + F = omega arith in
        other (rw here wants_there)
    all_mended i (NotMended.beyond {n} {m} come below e more) =
        let many : F ≡ n = so_many_files n come.1 come.0.each (λ l. come.0.no_more) in
        let lines : Come (WantLine sheet) (6 + F) m = rw (← many) at below in
        let few : W < m → ⊥ = λ l. nothing_stands nothing_behind (lines.each W l) in
        let all : m < W → ⊥ = λ l. lines.no_more (want_lines_lem m l) in
        let here : i ≡ 6 + F + W = omega arith in
        more (rw here nothing_behind)
