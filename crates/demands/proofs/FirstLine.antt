-- Row 11: the reader's search for the first line that is not as described finds the first bad line. A search over a stretch of lines is
-- one over its parts, in their order.
use Prim.Native.Nat.{ℕ, zero, suc, ◌+◌, ◌-◌, ◌≤◌, ◌<◌}
use mathlib.Core.Path.{◌≡◌, refl, ap, ◌∙◌}
use mathlib.Core.Bool.{Bool, true, false, not}
use mathlib.Core.Logic.{◌⊎◌, inl, inr, ⊎_elim, by_cases}
use mathlib.Core.List.{List, [], ◌∷◌}
use native.Mathlib.Omega.{arith}
use native.Mathlib.Decide.{dec_lt}
use lib.ListN.{length}
use borrow.Author.Tests.{not-true, not-false}
use Rattle.refusals.specs.declared.Refusal.TheVariants.{BadLine}
use Rattle.refusals.specs.Refusals.{refuse_at, first_where}
use Rattle.runs.specs.Run.{most_wants}
use Rattle.runs.proofs.Search.{first_zero}
use Rattle.text_bytes.specs.Text.{line_feed, is_empty, has, behind}
use Rattle.text_lines.specs.Lines.{line_of, after_lines, line_after, is_number_line, is_pair_line, is_triple_line, first_bad_of}
use Rattle.sheet_reader.specs.Lines.{tape_key, head_key, turn_key, rule_key, files_key, file_key, wants_key, want_key, is_tape_line, is_turn_line, is_rule_line, is_count_line}
use Rattle.sheet_reader.specs.Sheet.{most_sheet_files, sheet_files, sheet_wants, file_text, wants_text, want_text, end_text, unless, shifted, first_some, first_bad_top, first_bad_below, first_bad_line}
use Rattle.demands.specs.RefusalTable.{FirstBad}
use Rattle.demands.specs.Lines.{Stands, Name, Number, NumberOrNothing, RuleName, UpTo, Pair, Triple, LineIsBad, lines_due, LinesByTheTable}
use Rattle.demands.proofs.Tests.{Tells}
use Rattle.demands.proofs.Checks.{Decides, refused, passed, found_at}
use Rattle.demands.proofs.Lines.{tells_tape, tells_turn, tells_rule, tells_number, tells_count, tells_pair_line, tells_triple_line, tells_end}

-- What a search says: the number of the first bad line, or 0; and bad lines lie in its stretch only.
pub record Search (Bad : ℕ → Type 0) (x lo hi : ℕ) : Type 0 where
  pub within : (i : ℕ) → Bad i → (lo ≤ i) × (i < hi)
  pub none : x ≡ 0 → (i : ℕ) → Bad i → ⊥
  pub some : (i : ℕ) → x ≡ suc i → Bad i × ((j : ℕ) → j < i → Bad j → ⊥)

-- One stretch, then others behind it.
pub joined : {A B : ℕ → Type 0} {lo mid next hi : ℕ} (x : ℕ) (xs : List ℕ) → lo ≤ mid → mid ≤ next → next ≤ hi → Search A x lo mid → Search B (first_some xs) next hi
    → Search (λ i. A i ⊎ B i) (first_some (x ∷ xs)) lo hi
joined zero xs l m h a b =
    record {
      within = λ i. ⊎_elim (λ p. omega (arith, a.within i p)) (λ q. omega (arith, b.within i q));
      none = λ e i. ⊎_elim (a.none refl i) (b.none e i);
      some = λ i e. (inr (b.some i e).0, λ j k. ⊎_elim (a.none refl j) ((b.some i e).1 j k));
    }
joined (suc n) xs l m h a b =
    record {
      within = λ i. ⊎_elim (λ p. omega (arith, a.within i p)) (λ q. omega (arith, b.within i q));
      none = λ e. absurd (omega arith);
      some = λ i e. let found = a.some i e in (inl found.0, λ j k. ⊎_elim (found.1 j k) (λ q. omega (arith, (b.within j q).0, (a.within i found.0).1)));
    }

pub ended : (hi : ℕ) → Search (λ i. ⊥) 0 hi hi
ended hi = record { within = λ i h. absurd h; none = λ e i h. h; some = λ i e. absurd (omega arith) }

-- One line.
pub one_line : (Good : ℕ → Type 0) (b : Bool) (i number : ℕ) → number ≡ suc i → Tells b (Good i) → Search (λ j. (j ≡ i) × (Good j → ⊥)) (unless b number) i (suc i)
one_line Good true i number e t =
    record {
      within = λ j h. omega (arith, h.0);
      none = λ z j h. h.1 (rw h.0 (t.when_true refl));
      some = λ j z. absurd (omega arith);
    }
one_line Good false i number e t =
    record {
      within = λ j h. omega (arith, h.0);
      none = λ z. absurd (omega arith);
      some = λ j z. let same : j ≡ i = omega arith in ((same, rw same (t.when_false refl)), λ k l h. omega (arith, h.0));
    }

-- Many lines of one kind.
module _ (Good : ℕ → Type 0) (good : ℕ → Bool) (lo count : ℕ) (tells : (k : ℕ) → Tells (good k) (Good (lo + k))) where
  bad : ℕ → Bool
  bad k = not (good k)

  clean : (n : ℕ) → first_where bad n ≡ 0 → (j : ℕ) → lo ≤ j → j < lo + n → Good j
  unfolding bad
  clean n e j l h =
      let at : lo + (j - lo) ≡ j = omega arith in
      rw at at ((tells (j - lo)).when_true (not-false (good (j - lo)) (first_zero bad n e (j - lo) (omega arith))))

  abbrev BadHere : ℕ → Type 0
  BadHere j = (lo ≤ j) × (j < lo + count) × (Good j → ⊥)

  many_lines : Search BadHere (shifted lo (first_where bad count)) lo (lo + count)
  unfolding bad
  many_lines = go (first_where bad count) refl
    where
      go : (p : ℕ) → first_where bad count ≡ p → Search BadHere (shifted lo p) lo (lo + count)
      go zero e =
          record {
            within = λ j h. (h.0, h.1);
            none = λ z j h. h.2 (clean count e j h.0 h.1);
            some = λ j z. absurd (omega arith);
          }
      go (suc q) e =
          let found = found_at bad count q e in
          record {
            within = λ j h. (h.0, h.1);
            none = λ z. absurd (omega arith);
            some = λ j z.
                let same : j ≡ lo + q = omega arith in (
                  (omega arith, omega (arith, found.0), rw same ((tells q).when_false (not-true (good q) found.1))),
                  λ k l h. h.2 (clean q found.2 k h.0 (omega arith)),
                );
          }

-- Lines behind lines.
pub after_both : (m n k : ℕ) (sheet : List ℕ) → n + m ≡ k → after_lines m (after_lines n sheet) ≡ after_lines k sheet
unfolding after_lines
after_both zero n k sheet e = let same : n ≡ k = omega arith in rw same
after_both (suc m) n zero sheet e = absurd (omega arith)
after_both (suc m) n (suc k) sheet e = ap (behind line_feed) (after_both m n k sheet (omega arith))

module _ (sheet : List ℕ) where
  abbrev F : ℕ
  F = sheet_files sheet

  abbrev W : ℕ
  W = sheet_wants sheet

  abbrev Unless : (ℕ → Type 0) → ℕ → ℕ → Type 0
  Unless Good at j = (j ≡ at) × (Good j → ⊥)

  abbrev Among : (ℕ → Type 0) → ℕ → ℕ → ℕ → Type 0
  Among Good lo count j = (lo ≤ j) × (j < lo + count) × (Good j → ⊥)

  abbrev TopIsBad : ℕ → Type 0
  TopIsBad i =
      Unless (Stands tape_key Name sheet) 0 i
      ⊎ (Unless (Stands head_key Number sheet) 1 i
      ⊎ (Unless (Stands turn_key NumberOrNothing sheet) 2 i
      ⊎ (Unless (Stands rule_key RuleName sheet) 3 i ⊎ (Unless (Stands files_key (UpTo most_sheet_files) sheet) 4 i ⊎ ⊥))))

  abbrev BelowIsBad : ℕ → Type 0
  BelowIsBad i =
      Among (Stands file_key Triple sheet) 5 F i
      ⊎ (Unless (Stands wants_key (UpTo most_wants) sheet) (5 + F) i
      ⊎ (Among (Stands want_key Pair sheet) (6 + F) W i ⊎ (Unless (λ j. after_lines j sheet ≡ []) (6 + F + W) i ⊎ ⊥)))

  top_search : Search TopIsBad (first_bad_top sheet) 0 5
  unfolding first_bad_top has
  top_search =
      let tape = is_tape_line (line_after 0 sheet) in
      let head = is_number_line head_key (line_after 1 sheet) in
      let turn = is_turn_line (line_after 2 sheet) in
      let rule = is_rule_line (line_after 3 sheet) in
      let files = is_count_line files_key most_sheet_files (line_after 4 sheet) in
      joined (unless tape 1) (unless head 2 ∷ unless turn 3 ∷ unless rule 4 ∷ unless files 5 ∷ []) (omega arith) (omega arith) (omega arith)
      (one_line (Stands tape_key Name sheet) tape 0 1 refl (tells_tape sheet 0))
      (joined (unless head 2) (unless turn 3 ∷ unless rule 4 ∷ unless files 5 ∷ []) (omega arith) (omega arith) (omega arith)
      (one_line (Stands head_key Number sheet) head 1 2 refl (tells_number sheet 1 head_key (omega arith) refl))
      (joined (unless turn 3) (unless rule 4 ∷ unless files 5 ∷ []) (omega arith) (omega arith) (omega arith)
      (one_line (Stands turn_key NumberOrNothing sheet) turn 2 3 refl (tells_turn sheet 2))
      (joined (unless rule 4) (unless files 5 ∷ []) (omega arith) (omega arith) (omega arith)
      (one_line (Stands rule_key RuleName sheet) rule 3 4 refl (tells_rule sheet 3))
      (joined (unless files 5) [] (omega arith) (omega arith) (omega arith)
      (one_line (Stands files_key (UpTo most_sheet_files) sheet) files 4 5 refl (tells_count sheet 4 files_key (omega arith) refl most_sheet_files))
      (ended 5)))))

  -- What follows the files' lines, the wants' line and the wants.
  pub wants_behind : wants_text sheet ≡ after_lines (5 + F) sheet
  unfolding wants_text file_text
  wants_behind = after_both F 5 (5 + F) sheet refl

  pub want_behind : want_text sheet ≡ after_lines (6 + F) sheet
  unfolding want_text
  want_behind = ap (after_lines 1) wants_behind ∙ after_both 1 (5 + F) (6 + F) sheet (omega arith)

  end_behind_here : end_text sheet ≡ after_lines (6 + F + W) sheet
  unfolding end_text
  end_behind_here = ap (after_lines W) want_behind ∙ after_both W (6 + F) (6 + F + W) sheet refl

  lines_search : (Good : ℕ → Type 0) (test : List ℕ → Bool) → ((i : ℕ) → Tells (test (line_after i sheet)) (Good i))
      → (text : List ℕ) (lo lines count : ℕ) → lines ≡ lo → text ≡ after_lines lo sheet
      → Search (Among Good lo count) (shifted lines (first_bad_of test count text)) lo (lo + count)
  unfolding first_bad_of bad
  lines_search Good test tells text lo lines count same is =
      rw (same, is)
      (many_lines Good (λ k. test (line_after k (after_lines lo sheet))) lo count (λ k. rw (after_both k lo (lo + k) sheet refl) (tells (lo + k))))

  below_search : Search BelowIsBad (first_bad_below sheet) 5 (lines_due sheet)
  unfolding first_bad_below file_text has
  below_search =
      let file = shifted 5 (first_bad_of (is_triple_line file_key) F (file_text sheet)) in
      let count = is_count_line wants_key most_wants (line_of (wants_text sheet)) in
      let want = shifted (F + 6) (first_bad_of (is_pair_line want_key) W (want_text sheet)) in
      let done = is_empty (end_text sheet) in
      joined file (unless count (F + 6) ∷ want ∷ unless done (F + W + 7) ∷ []) (omega arith) (omega arith) (omega arith)
      (lines_search (Stands file_key Triple sheet) (is_triple_line file_key) (λ i. tells_triple_line sheet i file_key (omega arith) refl) (file_text sheet) 5 5 F refl refl)
      (joined (unless count (F + 6)) (want ∷ unless done (F + W + 7) ∷ []) (omega arith) (omega arith) (omega arith)
      (one_line (Stands wants_key (UpTo most_wants) sheet) count (5 + F) (F + 6) (omega arith) (rw wants_behind (tells_count sheet (5 + F) wants_key (omega arith) refl most_wants)))
      (joined want (unless done (F + W + 7) ∷ []) (omega arith) (omega arith) (omega arith)
      (lines_search (Stands want_key Pair sheet) (is_pair_line want_key) (λ i. tells_pair_line sheet i want_key (omega arith) refl) (want_text sheet) (6 + F) (F + 6) W (omega arith) want_behind)
      (joined (unless done (F + W + 7)) [] (omega arith) (omega arith) (omega arith)
      (one_line (λ j. after_lines j sheet ≡ []) done (6 + F + W) (F + W + 7) (omega arith) (rw end_behind_here (tells_end sheet (6 + F + W))))
      (ended (lines_due sheet)))))

  line_search : Search (λ i. TopIsBad i ⊎ (BelowIsBad i ⊎ ⊥)) (first_bad_line sheet) 0 (lines_due sheet)
  unfolding first_bad_line
  line_search =
      joined (first_bad_top sheet) (first_bad_below sheet ∷ []) (omega arith) (omega arith) (omega arith) top_search
      (joined (first_bad_below sheet) [] (omega arith) (omega arith) (omega arith) below_search (ended (lines_due sheet)))

  -- The same in the words of the table.
  in_stretch : (i : ℕ) → LineIsBad sheet i → TopIsBad i ⊎ (BelowIsBad i ⊎ ⊥)
  in_stretch i (LineIsBad.tape e n) = inl (inl (e, n))
  in_stretch i (LineIsBad.head e n) = inl (inr (inl (e, n)))
  in_stretch i (LineIsBad.turn e n) = inl (inr (inr (inl (e, n))))
  in_stretch i (LineIsBad.rule e n) = inl (inr (inr (inr (inl (e, n)))))
  in_stretch i (LineIsBad.files e n) = inl (inr (inr (inr (inr (inl (e, n))))))
  in_stretch i (LineIsBad.file l h n) = inr (inl (inl (l, h, n)))
  in_stretch i (LineIsBad.wants e n) = inr (inl (inr (inl (e, n))))
  in_stretch i (LineIsBad.want l h n) = inr (inl (inr (inr (inl (l, h, n)))))
  in_stretch i (LineIsBad.beyond e n) = inr (inl (inr (inr (inr (inl (e, n))))))

  in_table : (i : ℕ) → TopIsBad i ⊎ (BelowIsBad i ⊎ ⊥) → LineIsBad sheet i
  in_table i =
      ⊎_elim
      (⊎_elim (λ h. LineIsBad.tape h.0 h.1)
      (⊎_elim (λ h. LineIsBad.head h.0 h.1)
      (⊎_elim (λ h. LineIsBad.turn h.0 h.1)
      (⊎_elim (λ h. LineIsBad.rule h.0 h.1)
      (⊎_elim (λ h. LineIsBad.files h.0 h.1) (λ h. absurd h))))))
      (⊎_elim
      (⊎_elim (λ h. LineIsBad.file h.0 h.1 h.2)
      (⊎_elim (λ h. LineIsBad.wants h.0 h.1)
      (⊎_elim (λ h. LineIsBad.want h.0 h.1 h.2)
      (⊎_elim (λ h. LineIsBad.beyond h.0 h.1) (λ h. absurd h)))))
      (λ h. absurd h))

  found_line : (n : ℕ) → first_bad_line sheet ≡ suc n → FirstBad (LineIsBad sheet) (lines_due sheet) (suc n)
  found_line n e =
      let found = line_search.some n e in
      record {
        index = n;
        within = (line_search.within n found.0).1;
        at = refl;
        here = in_table n found.0;
        before = λ j l h. found.1 j l (in_stretch j h);
      }

  pub no_bad : first_bad_line sheet ≡ 0 → (i : ℕ) → LineIsBad sheet i → ⊥
  no_bad e i here = line_search.none e i (in_stretch i here)

  pub no_line : first_bad_line sheet ≡ 0 → (p : ℕ) → FirstBad (LineIsBad sheet) (lines_due sheet) p → ⊥
  no_line e p f = no_bad e f.index f.here

  pub none_found : ((p : ℕ) → FirstBad (LineIsBad sheet) (lines_due sheet) p → ⊥) → first_bad_line sheet ≡ 0
  none_found none = go (first_bad_line sheet) refl
    where
      go : (n : ℕ) → first_bad_line sheet ≡ n → first_bad_line sheet ≡ 0
      go zero e = e
      go (suc n) e = absurd (none (suc n) (found_line n e))

  pub line_found : (p : ℕ) → FirstBad (LineIsBad sheet) (lines_due sheet) p → first_bad_line sheet ≡ p
  line_found p f = go (first_bad_line sheet) refl
    where
      go : (n : ℕ) → first_bad_line sheet ≡ n → first_bad_line sheet ≡ p
      go zero e = absurd (no_line e p f)
      go (suc n) e =
          let found = line_search.some n e in
          by_cases
          (dec_lt n f.index)
          (λ l. absurd (f.before n l (in_table n found.0)))
          (λ h. by_cases (dec_lt f.index n) (λ l. absurd (found.1 f.index l (in_stretch f.index f.here))) (λ g. omega (arith, e, f.at)))

  pub decides_line : Decides BadLine (FirstBad (LineIsBad sheet) (lines_due sheet)) (refuse_at (first_bad_line sheet) BadLine)
  decides_line = go (first_bad_line sheet) refl
    where
      go : (n : ℕ) → first_bad_line sheet ≡ n → Decides BadLine (FirstBad (LineIsBad sheet) (lines_due sheet)) (refuse_at (first_bad_line sheet) BadLine)
      go zero e = passed (rw e) (no_line e)
      go (suc n) e = refused (suc n) (rw e) (found_line n e)

pub lines_by_the_table : LinesByTheTable
lines_by_the_table sheet n = (found_line sheet n, line_found sheet (suc n))
