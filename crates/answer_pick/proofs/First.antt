-- What is answered is the first refusal that applies, by conditions of their own.
use Prim.Native.Nat.{ℕ, zero, suc, ◌<◌}
use mathlib.Core.Path.{◌≡◌, refl, ap, sym, ◌∙◌}
use mathlib.Core.Bool.{Bool, true, false, cond, not, ◌||◌, or-true, true≢false, false≢true}
use mathlib.Core.Logic.{◌⊎◌, inl, inr, ⊎_elim}
use mathlib.Core.List.{List, [], ◌∷◌, ◌++◌}
use native.Mathlib.Omega.{arith}
use native.Mathlib.Decide.{dec_lt}
use lib.ListN.{length, get_or}
use lib.Dec.{eqb, ltb}
use borrow.Author.Tests.{ne_eqb, eq-eqb, eqb-true, ltb-true, lt-ltb, not-true}
use Rattle.refusals.specs.declared.OwnRefusal.TheVariants.{UnknownPath, NoBytes, OtherVolume}
use Rattle.refusals.specs.declared.Refusal.TheVariants.{BadName, BadText, FarFile, BadLine, TooManyReads}
use Rattle.refusals.specs.Refusals.{number_of, own_number_of, first_where, one_more}
use Rattle.runs.specs.Run.{last_place}
use Rattle.runs.proofs.Search.{first_zero, first_within, first_before}
use Rattle.text_bytes.specs.Text.{is_name}
use Rattle.text_lines.specs.Lines.{line_after, first_bad_of}
use Rattle.text_paths.specs.Paths.{is_asked, line_count, most_lines, path_after, paths_verdict}
use Rattle.tape_markup.specs.Tree.{tree_of}
use Rattle.tape_files.specs.Volumes.{other_volume}
use Rattle.tape_files.specs.NamedFiles.{named_files}
use Rattle.sheet_picks.specs.Entries.{most_entries}
use Rattle.sheet_picks.specs.Sheets.{picked_sheet}
use Rattle.sheet_picks.specs.Names.{names_text}
use Rattle.answer_pick.specs.declared.Refused.{Refused}
use Rattle.answer_pick.specs.declared.Picked.{Picked}
use Rattle.answer_pick.specs.Picks.{are_readable, tape_of, asked_files, asked_span, is_unknown, is_without, is_too_far, refused_if, refused_at, first_refused, first_line, list_refused, input_checks, line_checks, pick_refused}
use Rattle.answer_pick.specs.Answer.{asked_starts, entries_refused, rows_refused, answer_of}
use Rattle.answer_pick.specs.Applies.{FirstLineThat, HasNoFile, CannotBeRead, EndsTooFar, PickApplies, pick_order, FirstToApply, none, here, later, bad_name, bad_text, another_volume, bad_line, many_lines, unknown_path, no_bytes, far_file, many_entries, short_row, RefusesTheFirst, EntriesArePicked}
use Rattle.answer_pick.proofs.Readable.{readable_good, good_readable}
use Rattle.answer_pick.proofs.Promised.{first_parts, one_named, only_one}

-- A check of one number: where it accepts its condition fails, where it refuses the condition holds at its place.
record Check (applies : ℕ → ℕ → Type 0) (number : ℕ) (v : Refused) : Type 0 where
  accepts : v.number ≡ 0 → (p : ℕ) → applies number p → ⊥
  refuses : (v.number ≡ 0 → ⊥) → (v.number ≡ number) × applies number v.place

abbrev AllChecks : (ℕ → ℕ → Type 0) → List ℕ → List Refused → Type 0
AllChecks applies [] [] = Unit {0}
AllChecks applies [] (v ∷ vs) = ⊥
AllChecks applies (n ∷ ns) [] = ⊥
AllChecks applies (n ∷ ns) (v ∷ vs) = Check applies n v × AllChecks applies ns vs

first_applies : (applies : ℕ → ℕ → Type 0) (ns : List ℕ) (vs : List Refused) → AllChecks applies ns vs → FirstToApply applies ns (first_refused vs).number (first_refused vs).place
first_applies applies [] [] c = none
first_applies applies [] (v ∷ vs) c = absurd c
first_applies applies (n ∷ ns) [] c = absurd c
first_applies applies (n ∷ ns) (v ∷ vs) c =
    elim (dec_lt 0 v.number) [
      | yes h ↦ rw (ne_eqb v.number 0 (λ z. omega arith)) (found (c.0.refuses (λ z. omega arith)))
      | no h ↦ let z : v.number ≡ 0 = omega arith in rw z (later (c.0.accepts z) (first_applies applies ns vs c.1))
    ]
  where
    found : (v.number ≡ n) × applies n v.place → FirstToApply applies (n ∷ ns) v.number v.place
    found q = rw q.0 (here q.1)

-- Checks in checks.
flat : (xs ys : List Refused) → first_refused (first_refused xs ∷ ys) ≡ first_refused (xs ++ ys)
flat [] ys = refl
flat (x ∷ xs) ys = go (eqb x.number 0) refl (flat xs ys)
  where
    go : (t : Bool) → eqb x.number 0 ≡ t → first_refused (first_refused xs ∷ ys) ≡ first_refused (xs ++ ys)
        → first_refused (cond t (first_refused xs) x ∷ ys) ≡ cond t (first_refused (xs ++ ys)) x
    go true h e = e
    go false h e = rw h

-- A check without a place, and one with the first such line.
if_check : (applies : ℕ → ℕ → Type 0) (number : ℕ) → 0 < number → (b : Bool) → (b ≡ true → applies number 0) → ((p : ℕ) → applies number p → b ≡ true) → Check applies number (refused_if b number)
if_check applies number l true f g = record { accepts = λ z. absurd (omega arith); refuses = λ _. (refl, f refl) }
if_check applies number l false f g = record { accepts = λ _ p a. false≢true (g p a); refuses = λ n. absurd (n refl) }

first_true : (bad : ℕ → Bool) (n p : ℕ) → first_where bad n ≡ suc p → bad p ≡ true
unfolding first_where
first_true bad zero p e = absurd (omega arith)
first_true bad (suc n) p e = go (first_where bad n) refl (bad n) refl e (first_true bad n p)
  where
    go : (q : ℕ) → first_where bad n ≡ q → (b : Bool) → bad n ≡ b → one_more q b n ≡ suc p → (first_where bad n ≡ suc p → bad p ≡ true) → bad p ≡ true
    go zero f true b h rest = let s : n ≡ p = omega arith in rw (← s) b
    go zero f false b h rest = absurd (omega arith)
    go (suc q) f t b h rest = rest (f ∙ h)

module _ (bad : ℕ → Bool) (is : ℕ → Type 0) (lines : ℕ) (to : (i : ℕ) → i < lines → bad i ≡ true → is i) (from : (i : ℕ) → i < lines → is i → bad i ≡ true) where
  line_found_here : (line : ℕ) → first_where bad lines ≡ suc line → FirstLineThat is lines (suc line)
  line_found_here line e =
      let w : line < lines = omega (arith, first_within bad lines) in
      record {
        line = line;
        place_is = refl;
        listed = w;
        here = to line w (first_true bad lines line e);
        none = λ k l a. false≢true (sym (first_before bad lines line e k l) ∙ from k (omega arith) a);
      }

  line_none_here : first_where bad lines ≡ 0 → (p : ℕ) → FirstLineThat is lines p → ⊥
  line_none_here e p f = false≢true (sym (first_zero bad lines e f.line f.listed) ∙ from f.line f.listed f.here)

  at_check : (applies : ℕ → ℕ → Type 0) (number : ℕ) → 0 < number → ((p : ℕ) → FirstLineThat is lines p → applies number p) → ((p : ℕ) → applies number p → FirstLineThat is lines p)
      → Check applies number (refused_at (first_where bad lines) number)
  at_check applies number l f g = go (first_where bad lines) refl
    where
      go : (p : ℕ) → first_where bad lines ≡ p → Check applies number (refused_at p number)
      go zero e = record { accepts = λ _ p a. line_none_here e p (g p a); refuses = λ n. absurd (n refl) }
      go (suc p) e = record { accepts = λ z. absurd (omega arith); refuses = λ _. (refl, f (suc p) (line_found_here p e)) }

flip : (b : Bool) → (b ≡ true → ⊥) → not b ≡ true
flip true n = absurd (n refl)
flip false n = refl

skip : (v : Refused) (a b : List Refused) → first_refused a ≡ first_refused b → first_refused (v ∷ a) ≡ first_refused (v ∷ b)
skip v a b e = ap (λ x. cond (eqb v.number 0) x v) e

-- The list's two numbers.
list_flat : (list : List ℕ)
    → list_refused list ≡ first_refused (refused_at (first_bad_of is_asked (line_count list) list) (number_of BadLine) ∷ refused_if (ltb most_lines (line_count list)) (number_of TooManyReads) ∷ [])
unfolding paths_verdict
list_flat list = go (first_bad_of is_asked (line_count list) list) refl (ltb most_lines (line_count list)) refl
  where
    go : (p : ℕ) → first_bad_of is_asked (line_count list) list ≡ p → (b : Bool) → ltb most_lines (line_count list) ≡ b
        → list_refused list ≡ first_refused (refused_at (first_bad_of is_asked (line_count list) list) (number_of BadLine) ∷ refused_if (ltb most_lines (line_count list)) (number_of TooManyReads) ∷ [])
    go zero e true f = rw (e, f)
    go zero e false f = rw (e, f)
    go (suc p) e b f = rw e

module _ (unit : ℕ) (name label index list firsts sheet named out names : List ℕ) where
  abbrev Applies : ℕ → ℕ → Type 0
  Applies = PickApplies unit name label index list firsts sheet named out names

  abbrev nameCheck : Refused
  nameCheck = refused_if (not (is_name name)) (number_of BadName)

  abbrev textCheck : Refused
  textCheck = refused_if (not (are_readable unit label index)) (number_of BadText)

  abbrev volumeCheck : Refused
  volumeCheck = refused_if (other_volume (tree_of label) (tree_of index)) (own_number_of OtherVolume)

  abbrev badCheck : Refused
  badCheck = refused_at (first_bad_of is_asked (line_count list) list) (number_of BadLine)

  abbrev manyCheck : Refused
  manyCheck = refused_if (ltb most_lines (line_count list)) (number_of TooManyReads)

  abbrev unknownCheck : Refused
  unknownCheck = refused_at (first_line (is_unknown index list) list) (own_number_of UnknownPath)

  abbrev withoutCheck : Refused
  withoutCheck = refused_at (first_line (is_without (tape_of unit label) index list) list) (own_number_of NoBytes)

  abbrev farCheck : Refused
  farCheck = refused_at (first_line (is_too_far (tape_of unit label) index list) list) (number_of FarFile)

  -- All checks in one row.
  abbrev inARow : List Refused
  inARow =
      nameCheck
      ∷ textCheck
      ∷ volumeCheck
      ∷ badCheck
      ∷ manyCheck
      ∷ unknownCheck
      ∷ withoutCheck
      ∷ farCheck
      ∷ entries_refused firsts
      ∷ rows_refused sheet named out names
      ∷ []

  abbrev list_checks : List Refused
  list_checks = badCheck ∷ manyCheck ∷ []

  abbrev linesChecks : List Refused
  linesChecks = unknownCheck ∷ withoutCheck ∷ farCheck ∷ []

  input_flat : input_checks unit name label index list ≡ first_refused (nameCheck ∷ textCheck ∷ volumeCheck ∷ list_checks)
  unfolding input_checks
  input_flat =
      ap (λ v. first_refused (nameCheck ∷ textCheck ∷ volumeCheck ∷ v ∷ [])) (list_flat list)
      ∙ skip nameCheck (textCheck ∷ volumeCheck ∷ first_refused list_checks ∷ []) (textCheck ∷ volumeCheck ∷ list_checks)
      (skip textCheck (volumeCheck ∷ first_refused list_checks ∷ []) (volumeCheck ∷ list_checks) (skip volumeCheck (first_refused list_checks ∷ []) list_checks (flat list_checks [])))

  all_flat : (last : List Refused)
      → first_refused (pick_refused unit name label index list ∷ last) ≡ first_refused (nameCheck ∷ textCheck ∷ volumeCheck ∷ badCheck ∷ manyCheck ∷ linesChecks ++ last)
  unfolding pick_refused line_checks
  all_flat last =
      flat (input_checks unit name label index list ∷ first_refused linesChecks ∷ []) last
      ∙ ap (λ v. first_refused (v ∷ first_refused linesChecks ∷ last)) input_flat
      ∙ flat (nameCheck ∷ textCheck ∷ volumeCheck ∷ list_checks) (first_refused linesChecks ∷ last)
      ∙ skip nameCheck (textCheck ∷ volumeCheck ∷ badCheck ∷ manyCheck ∷ first_refused linesChecks ∷ last) (textCheck ∷ volumeCheck ∷ badCheck ∷ manyCheck ∷ linesChecks ++ last)
      (skip textCheck (volumeCheck ∷ badCheck ∷ manyCheck ∷ first_refused linesChecks ∷ last) (volumeCheck ∷ badCheck ∷ manyCheck ∷ linesChecks ++ last)
      (skip volumeCheck (badCheck ∷ manyCheck ∷ first_refused linesChecks ∷ last) (badCheck ∷ manyCheck ∷ linesChecks ++ last)
      (skip badCheck (manyCheck ∷ first_refused linesChecks ∷ last) (manyCheck ∷ linesChecks ++ last)
      (skip manyCheck (first_refused linesChecks ∷ last) (linesChecks ++ last) (flat linesChecks last)))))

  -- A line without its one file.
  no_file_here : (i : ℕ) → is_unknown index list i ≡ true → HasNoFile index list i
  unfolding asked_files
  no_file_here i e f o = false≢true (sym (not-true (eqb (length (asked_files index list i)) 1) e) ∙ eq-eqb (length (asked_files index list i)) 1 (only_one (path_after i list) (named_files (tree_of index)) f o))

  unknown : (i : ℕ) → HasNoFile index list i → is_unknown index list i ≡ true
  unfolding asked_files
  unknown i n = flip (eqb (length (asked_files index list i)) 1) (λ e. let o = one_named (path_after i list) (named_files (tree_of index)) (eqb-true (length (asked_files index list i)) 1 e) in n o.file o.only)

  -- Each check is that of its number.
  name_check : Check Applies 13 nameCheck
  name_check = if_check Applies 13 (omega arith) (not (is_name name)) (λ e. bad_name (λ t. false≢true (sym (not-true (is_name name) e) ∙ t))) (λ p a. back p a)
    where
      back : (p : ℕ) → Applies 13 p → not (is_name name) ≡ true
      back p (bad_name n) = flip (is_name name) n

  text_check : Check Applies 20 textCheck
  text_check =
      if_check Applies 20 (omega arith) (not (are_readable unit label index)) (λ e. bad_text (λ t. false≢true (sym (not-true (are_readable unit label index) e) ∙ good_readable unit label index t))) (λ p a. back p a)
    where
      back : (p : ℕ) → Applies 20 p → not (are_readable unit label index) ≡ true
      back p (bad_text n) = flip (are_readable unit label index) (λ e. n (readable_good unit label index e))

  volume_check : Check Applies 44 volumeCheck
  volume_check = if_check Applies 44 (omega arith) (other_volume (tree_of label) (tree_of index)) another_volume (λ p a. back p a)
    where
      back : (p : ℕ) → Applies 44 p → other_volume (tree_of label) (tree_of index) ≡ true
      back p (another_volume e) = e

  bad_check : Check Applies 11 badCheck
  unfolding first_bad_of
  bad_check =
      at_check (λ i. not (is_asked (line_after i list))) (λ i. is_asked (line_after i list) ≡ true → ⊥) (line_count list)
      (λ i l e t. false≢true (sym (not-true (is_asked (line_after i list)) e) ∙ t)) (λ i l n. flip (is_asked (line_after i list)) n) Applies 11 (omega arith) (λ p f. bad_line f) (λ p a. back p a)
    where
      back : (p : ℕ) → Applies 11 p → FirstLineThat (λ i. is_asked (line_after i list) ≡ true → ⊥) (line_count list) p
      back p (bad_line f) = f

  many_check : Check Applies 5 manyCheck
  many_check = if_check Applies 5 (omega arith) (ltb most_lines (line_count list)) (λ e. many_lines (ltb-true most_lines (line_count list) e)) (λ p a. back p a)
    where
      back : (p : ℕ) → Applies 5 p → ltb most_lines (line_count list) ≡ true
      back p (many_lines l) = lt-ltb most_lines (line_count list) l

  unknown_check : Check Applies 41 unknownCheck
  unknown_check =
      at_check (is_unknown index list) (HasNoFile index list) (line_count list) (λ i l e. no_file_here i e) (λ i l n. unknown i n) Applies 41 (omega arith) (λ p f. unknown_path f) (λ p a. back p a)
    where
      back : (p : ℕ) → Applies 41 p → FirstLineThat (HasNoFile index list) (line_count list) p
      back p (unknown_path f) = f

  without_check : Check Applies 42 withoutCheck
  without_check =
      at_check (is_without (tape_of unit label) index list) (CannotBeRead unit label index list) (line_count list) (λ i l e. to (asked_span (tape_of unit label) index list i).some (asked_span (tape_of unit label) index list i).elsewhere e)
      (λ i l a. from (asked_span (tape_of unit label) index list i).some (asked_span (tape_of unit label) index list i).elsewhere a) Applies 42 (omega arith) (λ p f. no_bytes f) (λ p a. back p a)
    where
      to : (some elsewhere : Bool) → (not some || elsewhere) ≡ true → (some ≡ true → ⊥) ⊎ (elsewhere ≡ true)
      to false elsewhere e = inl false≢true
      to true elsewhere e = inr e

      from : (some elsewhere : Bool) → (some ≡ true → ⊥) ⊎ (elsewhere ≡ true) → (not some || elsewhere) ≡ true
      from false elsewhere a = refl
      from true true a = refl
      from true false a = ⊎_elim (λ n. absurd (n refl)) (λ e. e) a

      back : (p : ℕ) → Applies 42 p → FirstLineThat (CannotBeRead unit label index list) (line_count list) p
      back p (no_bytes f) = f

  far_check : Check Applies 23 farCheck
  far_check =
      at_check (is_too_far (tape_of unit label) index list) (EndsTooFar unit label index list) (line_count list) (λ i l e. ltb-true last_place (asked_span (tape_of unit label) index list i).end e)
      (λ i l a. lt-ltb last_place (asked_span (tape_of unit label) index list i).end a) Applies 23 (omega arith) (λ p f. far_file f) (λ p a. back p a)
    where
      back : (p : ℕ) → Applies 23 p → FirstLineThat (EndsTooFar unit label index list) (line_count list) p
      back p (far_file f) = f

  entries_check : Check Applies 3 (entries_refused firsts)
  entries_check = if_check Applies 3 (omega arith) (ltb most_entries (length firsts)) (λ e. many_entries (ltb-true most_entries (length firsts) e)) (λ p a. back p a)
    where
      back : (p : ℕ) → Applies 3 p → ltb most_entries (length firsts) ≡ true
      back p (many_entries l) = lt-ltb most_entries (length firsts) l

  rows_check : Check Applies 8 (rows_refused sheet named out names)
  rows_check =
      if_check Applies 8 (omega arith) (ltb (length out) (length sheet) || ltb (length names) (length named)) (λ e. short_row (to (ltb (length out) (length sheet)) refl e)) (λ p a. back p a)
    where
      to : (b : Bool) → ltb (length out) (length sheet) ≡ b → (b || ltb (length names) (length named)) ≡ true → (length out < length sheet) ⊎ (length names < length named)
      to true h e = inl (ltb-true (length out) (length sheet) h)
      to false h e = inr (ltb-true (length names) (length named) e)

      from : (length out < length sheet) ⊎ (length names < length named) → (ltb (length out) (length sheet) || ltb (length names) (length named)) ≡ true
      from a = ⊎_elim (λ l. rw (lt-ltb (length out) (length sheet) l)) (λ l. rw (lt-ltb (length names) (length named) l) (or-true (ltb (length out) (length sheet)))) a

      back : (p : ℕ) → Applies 8 p → (ltb (length out) (length sheet) || ltb (length names) (length named)) ≡ true
      back p (short_row a) = from a

  all_checks : AllChecks Applies pick_order inARow
  all_checks = (name_check, (text_check, (volume_check, (bad_check, (many_check, (unknown_check, (without_check, (far_check, (entries_check, (rows_check, tt))))))))))

  pub first_of_all : FirstToApply Applies pick_order (first_refused inARow).number (first_refused inARow).place
  first_of_all = first_applies Applies pick_order inARow all_checks

  -- A check whose number does not apply accepts.
  accepts_so : (number : ℕ) (v : Refused) → Check Applies number v → ((place : ℕ) → Applies number place → ⊥) → v.number ≡ 0
  accepts_so number v c clear = elim (dec_lt 0 v.number) [ yes h ↦ absurd (clear v.place (c.refuses (λ z. omega (arith, h, z))).1) | no h ↦ omega (arith, h) ]

  -- Where none of the first eight applies, nothing is refused up to 23.
  pub none_refused : ((i place : ℕ) → i < 8 → Applies (get_or pick_order i 0) place → ⊥) → (pick_refused unit name label index list).number ≡ 0
  none_refused clear =
      let early = all_flat [] in
      let zero : (first_refused (pick_refused unit name label index list ∷ [])).number ≡ 0 =
      ap (λ (x : Refused). x.number) early
      ∙ rw (
        accepts_so 13 nameCheck name_check (λ place. clear 0 place (omega arith)),
        accepts_so 20 textCheck text_check (λ place. clear 1 place (omega arith)),
        accepts_so 44 volumeCheck volume_check (λ place. clear 2 place (omega arith)),
        accepts_so 11 badCheck bad_check (λ place. clear 3 place (omega arith)),
        accepts_so 5 manyCheck many_check (λ place. clear 4 place (omega arith)),
        accepts_so 41 unknownCheck unknown_check (λ place. clear 5 place (omega arith)),
        accepts_so 42 withoutCheck without_check (λ place. clear 6 place (omega arith)),
        accepts_so 23 farCheck far_check (λ place. clear 7 place (omega arith)),
      ) in
      (first_parts (pick_refused unit name label index list) [] zero).0

-- A check that accepts names no place, so the answer has number and place of the first that applies.
placed : (vs : List Refused) → (first_refused vs).number ≡ 0 → (first_refused vs).place ≡ 0
placed [] e = refl
placed (v ∷ vs) e = go (eqb v.number 0) refl e (placed vs)
  where
    go : (t : Bool) → eqb v.number 0 ≡ t → (cond t (first_refused vs) v).number ≡ 0 → ((first_refused vs).number ≡ 0 → (first_refused vs).place ≡ 0) → (cond t (first_refused vs) v).place ≡ 0
    go true h e rest = rest e
    go false h e rest = absurd (true≢false (sym (eq-eqb v.number 0 e) ∙ h))

answered : (vs : List Refused) (sheet named : List ℕ) → ((answer_of (first_refused vs) sheet named).number ≡ (first_refused vs).number) × ((answer_of (first_refused vs) sheet named).place ≡ (first_refused vs).place)
answered vs sheet named = go (eqb (first_refused vs).number 0) refl
  where
    go : (t : Bool) → eqb (first_refused vs).number 0 ≡ t → ((answer_of (first_refused vs) sheet named).number ≡ (first_refused vs).number) × ((answer_of (first_refused vs) sheet named).place ≡ (first_refused vs).place)
    go true h = let z = eqb-true (first_refused vs).number 0 h in (rw h (sym z), rw h (sym (placed vs z)))
    go false h = (rw h, rw h)

pub refuses_the_first : RefusesTheFirst
refuses_the_first unit name label index list head turn out names r out' names' p =
    let starts = asked_starts unit label index list in
    let sheet = picked_sheet name starts p.firsts p.lasts head turn in
    let named = names_text list starts p.firsts p.lasts in
    let vs = pick_refused unit name label index list ∷ entries_refused p.firsts ∷ rows_refused sheet named out names ∷ [] in
    let a = answered vs sheet named in
    let f = all_flat unit name label index list p.firsts sheet named out names (entries_refused p.firsts ∷ rows_refused sheet named out names ∷ []) in
    let number : r.number ≡ (first_refused (inARow unit name label index list p.firsts sheet named out names)).number = ap (λ (x : Picked). x.number) p.handed.answer ∙ a.0 ∙ ap (λ (x : Refused). x.number) f in
    let place : r.place ≡ (first_refused (inARow unit name label index list p.firsts sheet named out names)).place = ap (λ (x : Picked). x.place) p.handed.answer ∙ a.1 ∙ ap (λ (x : Refused). x.place) f in
    rw (number, place) (first_of_all unit name label index list p.firsts sheet named out names)

pub entries_are_picked : EntriesArePicked
entries_are_picked unit name label index list head turn out names r out' names' p clear =
    let starts = asked_starts unit label index list in
    p.entries (none_refused unit name label index list p.firsts (picked_sheet name starts p.firsts p.lasts head turn) (names_text list starts p.firsts p.lasts) out names clear)
