-- The files that remain of want lines: ascending, each with reads, and gathered again the same.
use Prim.Native.Nat.{ℕ, zero, suc, ◌+◌, ◌≤◌, ◌<◌}
use mathlib.Core.Path.{◌≡◌, refl, ap, sym, ◌∙◌}
use mathlib.Core.Bool.{Bool, true, false, true≢false, not, cond, ◌||◌, or-true, or-false}
use mathlib.Core.List.{List, [], ◌∷◌, ◌++◌}
use native.Mathlib.Omega.{arith}
use native.Mathlib.Decide.{dec_lt}
use lib.ListN.{length, take, get_or}
use lib.Seq.{take-suc, take-length, ext_get_or}
use lib.Dec.{eqb, ltb}
use borrow.Author.Tests.{eq-eqb, ne_eqb, eqb-true, eqb-false, lt-ltb, le-ltb, ltb-true, ltb-false, not-true, not-false}
use Rattle.runs.specs.Lists.{any_below}
use Rattle.runs.proofs.Search.{any_here, any_zero, or_false_both}
use Rattle.answer_mend.specs.declared.wants.Fate.TheVariants.{Stays}
use Rattle.answer_mend.specs.Wants.{sum_below, lower_file, higher_file, enter, entered, remaining, reads_in_all, asked_of, reads_of_want, reads_each, same_above, higher_above, fate_of}
use Rattle.answer_mend.proofs.Texts.{each_long, each_at}

-- Ascending, from a number on.
abbrev pub Rising : ℕ → List ℕ → Type 0
Rising b [] = Unit {0}
Rising b (g ∷ files) = (b ≤ g) × Rising (suc g) files

rising_lower : (a b : ℕ) (files : List ℕ) → a ≤ b → Rising b files → Rising a files
rising_lower a b [] l p = tt
rising_lower a b (g ∷ files) l p = (omega (arith, p.0), p.1)

enter_rising : (b f : ℕ) (files : List ℕ) → b ≤ f → Rising b files → Rising b (enter f files)
unfolding enter
enter_rising b f [] l p = (l, tt)
enter_rising b f (g ∷ files) l p = go (enter_rising (suc f) g files) (enter_rising (suc g) f files) (eqb f g) refl (ltb f g) refl
  where
    go : (suc f ≤ g → Rising (suc f) files → Rising (suc f) (enter g files)) → (suc g ≤ f → Rising (suc g) files → Rising (suc g) (enter f files))
        → (s : Bool) → eqb f g ≡ s → (t : Bool) → ltb f g ≡ t → Rising b (cond s (g ∷ files) (cond t f g ∷ enter (cond t g f) files))
    go low high true s t e = p
    go low high false s true e = (l, low (ltb-true f g e) (rising_lower (suc f) (suc g) files (omega (arith, ltb-true f g e)) p.1))
    go low high false s false e = let n : f ≡ g → ⊥ = eqb-false f g s in (p.0, high (omega (arith, ltb-false f g e)) p.1)

pub remaining_rising : (files counts : List ℕ) (n : ℕ) → Rising 0 (remaining files counts n)
unfolding remaining
remaining_rising files counts zero = tt
remaining_rising files counts (suc n) = go (remaining_rising files counts n) (eqb (get_or counts n 0) 0)
  where
    go : Rising 0 (remaining files counts n) → (t : Bool) → Rising 0 (cond t (remaining files counts n) (enter (get_or files n 0) (remaining files counts n)))
    go p true = p
    go p false = enter_rising 0 (get_or files n 0) (remaining files counts n) (omega arith) p

pub rising_least : (b : ℕ) (files : List ℕ) → Rising b files → (i : ℕ) → i < length files → b ≤ get_or files i 0
rising_least b [] p i l = absurd (omega arith)
rising_least b (g ∷ files) p zero l = p.0
rising_least b (g ∷ files) p (suc i) l = omega (arith, rising_least (suc g) files p.1 i (omega arith), p.0)

pub rising_at : (b : ℕ) (files : List ℕ) → Rising b files → (i j : ℕ) → i < j → j < length files → get_or files i 0 < get_or files j 0
rising_at b [] p i j l m = absurd (omega arith)
rising_at b (g ∷ files) p i zero l m = absurd (omega arith)
rising_at b (g ∷ files) p zero (suc j) l m = rising_least (suc g) files p.1 j (omega arith)
rising_at b (g ∷ files) p (suc i) (suc j) l m = rising_at (suc g) files p.1 i j (omega arith) (omega arith)

rising_apart : (b : ℕ) (files : List ℕ) → Rising b files → (i j : ℕ) → i < length files → j < length files → (i ≡ j → ⊥) → get_or files i 0 ≡ get_or files j 0 → ⊥
rising_apart b files p i j l m d e =
    elim (dec_lt i j) [
      | yes h ↦ omega (arith, rising_at b files p i j h m, e)
      | no h ↦ omega (arith, rising_at b files p j i (omega arith) l, e)
    ]

-- Whether a file is among others.
abbrev pub is_in : ℕ → List ℕ → Bool
is_in x [] = false
is_in x (g ∷ files) = eqb x g || is_in x files

in_enter : (x f : ℕ) (files : List ℕ) → is_in x (enter f files) ≡ (eqb x f || is_in x files)
unfolding enter
in_enter x f [] = refl
in_enter x f (g ∷ files) = go (in_enter x g files) (in_enter x f files) (eqb f g) refl (ltb f g)
  where
    swap : (a b c : Bool) → (b || (a || c)) ≡ (a || (b || c))
    swap true true c = refl
    swap true false c = refl
    swap false b c = refl

    twice : (a c : Bool) → (a || c) ≡ (a || (a || c))
    twice true c = refl
    twice false c = refl

    go : is_in x (enter g files) ≡ (eqb x g || is_in x files) → is_in x (enter f files) ≡ (eqb x f || is_in x files)
        → (s : Bool) → eqb f g ≡ s → (t : Bool) → is_in x (cond s (g ∷ files) (cond t f g ∷ enter (cond t g f) files)) ≡ (eqb x f || (eqb x g || is_in x files))
    go low high true s t = rw (eqb-true f g s) (twice (eqb x g) (is_in x files))
    go low high false s true = rw low
    go low high false s false = rw high (swap (eqb x f) (eqb x g) (is_in x files))

-- A file remains when some line asks reads of it.
abbrev pub asks : List ℕ → List ℕ → ℕ → ℕ → Bool
asks files counts x i = not (eqb (asked_of x (get_or files i 0) (get_or counts i 0)) 0)

pub in_remaining : (files counts : List ℕ) (x n : ℕ) → is_in x (remaining files counts n) ≡ any_below (asks files counts x) n
unfolding remaining any_below
in_remaining files counts x zero = refl
in_remaining files counts x (suc n) = go (in_remaining files counts x n) (eqb (get_or counts n 0) 0) refl (eqb (get_or files n 0) x) refl
  where
    last : (a b : Bool) → (a || b) ≡ (b || a)
    last true true = refl
    last true false = refl
    last false true = refl
    last false false = refl

    go : is_in x (remaining files counts n) ≡ any_below (asks files counts x) n → (z : Bool) → eqb (get_or counts n 0) 0 ≡ z → (s : Bool) → eqb (get_or files n 0) x ≡ s
        → is_in x (cond z (remaining files counts n) (enter (get_or files n 0) (remaining files counts n))) ≡ (any_below (asks files counts x) n || not (eqb (cond s (get_or counts n 0) 0) 0))
    go p true z true s = rw (z, or-false, p)
    go p true z false s = rw (or-false, p)
    go p false z true s = rw (in_enter x (get_or files n 0) (remaining files counts n), z, or-true, eq-eqb x (get_or files n 0) (sym (eqb-true (get_or files n 0) x s)))
    go p false z false s = rw (in_enter x (get_or files n 0) (remaining files counts n), or-false, ne_eqb x (get_or files n 0) (λ e. eqb-false (get_or files n 0) x s (sym e)), p)

pub in_at : (files : List ℕ) (i : ℕ) → i < length files → is_in (get_or files i 0) files ≡ true
in_at [] i l = absurd (omega arith)
in_at (g ∷ files) zero l = rw (eq-eqb g g refl)
in_at (g ∷ files) (suc i) l = rw (in_at files i (omega arith), or-true)

not_in : (x : ℕ) (files : List ℕ) → is_in x files ≡ false → (i : ℕ) → i < length files → get_or files i 0 ≡ x → ⊥
not_in x files e i l same = true≢false (sym (in_at files i l) ∙ rw same e)

pub find_in : (x : ℕ) (files : List ℕ) → is_in x files ≡ true → (i : ℕ) × ((i < length files) × (get_or files i 0 ≡ x))
find_in x [] e = absurd (true≢false (sym e))
find_in x (g ∷ files) e = go (eqb x g) refl (find_in x files)
  where
    go : (t : Bool) → eqb x g ≡ t → (is_in x files ≡ true → (i : ℕ) × ((i < length files) × (get_or files i 0 ≡ x))) → (i : ℕ) × ((i < length (g ∷ files)) × (get_or (g ∷ files) i 0 ≡ x))
    go true t rest = (0, (omega arith, sym (eqb-true x g t)))
    go false t rest = let found = rest (rw t at e) in (suc found.0, (omega (arith, found.1.0), found.1.1))

-- Sums of few values.
pub sum_nothing : (value : ℕ → ℕ) (n : ℕ) → ((i : ℕ) → i < n → value i ≡ 0) → sum_below value n ≡ 0
unfolding sum_below
sum_nothing value zero h = refl
sum_nothing value (suc n) h = omega (arith, sum_nothing value n (λ i l. h i (omega arith)), h n (omega arith))

sum_one : (value : ℕ → ℕ) (n j : ℕ) → j < n → ((i : ℕ) → i < n → (i ≡ j → ⊥) → value i ≡ 0) → sum_below value n ≡ value j
unfolding sum_below
sum_one value zero j l h = absurd (omega arith)
sum_one value (suc n) j l h = go (λ m. sum_one value n j m (λ i k d. h i (omega arith) d)) (eqb n j) refl
  where
    go : (j < n → sum_below value n ≡ value j) → (t : Bool) → eqb n j ≡ t → sum_below value n + value n ≡ value j
    go rest true t =
        let e = eqb-true n j t in
        let none = sum_nothing value n (λ i k. h i (omega arith) (λ d. omega (arith, d))) in
        omega (arith, none, ap value e)
    go rest false t =
        let d : n ≡ j → ⊥ = eqb-false n j t in
        let here = h n (omega arith) d in
        omega (arith, here, rest (omega arith))

sum_some : (value : ℕ → ℕ) (n : ℕ) → any_below (λ i. not (eqb (value i) 0)) n ≡ true → (sum_below value n ≡ 0 → ⊥)
unfolding sum_below any_below
sum_some value zero e z = true≢false (sym e)
sum_some value (suc n) e z = go (sum_some value n) (any_below (λ i. not (eqb (value i) 0)) n) refl
  where
    go : (any_below (λ i. not (eqb (value i) 0)) n ≡ true → (sum_below value n ≡ 0 → ⊥)) → (t : Bool) → any_below (λ i. not (eqb (value i) 0)) n ≡ t → ⊥
    go rest true t = rest t (omega (arith, z))
    go rest false t = let some : not (eqb (value n) 0) ≡ true = rw t at e in eqb-false (value n) 0 (not-true (eqb (value n) 0) some) (omega (arith, z))

-- The reads of a file that remains are not 0; those of one that does not are.
module _ (files counts : List ℕ) where
  abbrev rest : List ℕ
  rest = remaining files counts (length files)

  pub remains_asked : (x : ℕ) → is_in x rest ≡ true → (reads_of_want files counts x ≡ 0 → ⊥)
  unfolding reads_of_want
  remains_asked x e = sum_some (λ i. asked_of x (get_or files i 0) (get_or counts i 0)) (length files) (sym (in_remaining files counts x (length files)) ∙ e)

  pub gone_unasked : (x : ℕ) → is_in x rest ≡ false → reads_of_want files counts x ≡ 0
  unfolding reads_of_want
  gone_unasked x e =
      let none = any_zero (asks files counts x) (length files) (sym (in_remaining files counts x (length files)) ∙ e) in
      sum_nothing (λ i. asked_of x (get_or files i 0) (get_or counts i 0)) (length files) (λ i l. eqb-true (asked_of x (get_or files i 0) (get_or counts i 0)) 0 (not-false (eqb (asked_of x (get_or files i 0) (get_or counts i 0)) 0) (none i l)))

-- Rows that ascend, with counts that are not 0.
pub record Clean (row counts : List ℕ) : Type 0 where
  pub even : length row ≡ length counts
  pub rising : Rising 0 row
  pub some : (i : ℕ) → i < length row → get_or counts i 0 ≡ 0 → ⊥

pub remaining_clean : (files counts : List ℕ) → Clean (rest files counts) (reads_each files counts (rest files counts))
remaining_clean files counts =
    record {
      even = each_long files counts (rest files counts);
      rising = remaining_rising files counts (length files);
      some = λ i l z. remains_asked files counts (get_or (rest files counts) i 0) (in_at (rest files counts) i l) (sym (each_at files counts (rest files counts) i l) ∙ z);
    }

-- Entering a file higher than all others puts it last.
abbrev Below : ℕ → List ℕ → Type 0
Below x [] = Unit {0}
Below x (g ∷ files) = (g < x) × Below x files

enter_last : (x : ℕ) (files : List ℕ) → Below x files → enter x files ≡ files ++ (x ∷ [])
unfolding enter
enter_last x [] p = refl
enter_last x (g ∷ files) p = rw (ne_eqb x g (λ e. omega (arith, e, p.0)), le-ltb x g (omega (arith, p.0)), enter_last x files p.1)

below_take : (b : ℕ) (row : List ℕ) → Rising b row → (i : ℕ) → i < length row → Below (get_or row i 0) (take i row)
below_take b [] p i l = absurd (omega arith)
below_take b (g ∷ row) p zero l = tt
below_take b (g ∷ row) p (suc i) l = (rising_least (suc g) row p.1 i (omega arith), below_take (suc g) row p.1 i (omega arith))

module _ (row counts : List ℕ) (clean : Clean row counts) where
  remaining_take : (n : ℕ) → n ≤ length row → remaining row counts n ≡ take n row
  unfolding remaining
  remaining_take zero l = refl
  remaining_take (suc n) l =
      rw (ne_eqb (get_or counts n 0) 0 (clean.some n l), remaining_take n (omega arith), enter_last (get_or row n 0) (take n row) (below_take 0 row clean.rising n l))
      (sym (take-suc row n 0 l))

  -- Gathered again they are the same.
  pub clean_remaining : remaining row counts (length row) ≡ row
  clean_remaining = remaining_take (length row) (omega arith) ∙ take-length row

  apart : (i j : ℕ) → i < length row → j < length row → (i ≡ j → ⊥) → get_or row i 0 ≡ get_or row j 0 → ⊥
  apart = rising_apart 0 row clean.rising

  pub clean_reads : (j : ℕ) → j < length row → reads_of_want row counts (get_or row j 0) ≡ get_or counts j 0
  unfolding reads_of_want
  clean_reads j l =
      sum_one (λ i. asked_of (get_or row j 0) (get_or row i 0) (get_or counts i 0)) (length row) j l (λ i m d. rw (ne_eqb (get_or row i 0) (get_or row j 0) (apart i j m l d)))
      ∙ rw (eq-eqb (get_or row j 0) (get_or row j 0) refl)

  pub clean_each : reads_each row counts row ≡ counts
  clean_each =
      ext_get_or 0 (reads_each row counts row) counts (sym (each_long row counts row) ∙ clean.even)
      (λ i l. let m : i < length row = omega (arith, each_long row counts row) in each_at row counts row i m ∙ clean_reads i m)

  -- No line of theirs moves, is added or is dropped.
  any_false : (test : ℕ → Bool) (n : ℕ) → ((i : ℕ) → i < n → test i ≡ false) → any_below test n ≡ false
  unfolding any_below
  any_false test zero h = refl
  any_false test (suc n) h = rw (any_false test n (λ i l. h i (omega arith)), h n (omega arith))

  pub clean_stays : (i : ℕ) → i < length row → fate_of row counts i ≡ Stays
  unfolding fate_of same_above higher_above
  clean_stays i l =
      let same = any_false (λ j. not (eqb (asked_of (get_or row i 0) (get_or row j 0) (get_or counts j 0)) 0)) i (λ j m. rw (ne_eqb (get_or row j 0) (get_or row i 0) (apart j i (omega arith) l (λ e. omega (arith, e))))) in
      let high = any_false (λ j. ltb (get_or row i 0) (get_or row j 0)) i (λ j m. le-ltb (get_or row i 0) (get_or row j 0) (omega (arith, rising_at 0 row clean.rising j i m l))) in
      rw (ne_eqb (get_or counts i 0) 0 (clean.some i l), same, high)

-- The reads of every file are kept.
pub reads_kept : (files counts : List ℕ) (x : ℕ) → reads_of_want (rest files counts) (reads_each files counts (rest files counts)) x ≡ reads_of_want files counts x
unfolding reads_of_want
reads_kept files counts x = go (is_in x row) refl
  where
    row : List ℕ
    row = remaining files counts (length files)

    reads : List ℕ
    reads = reads_each files counts row

    go : (t : Bool) → is_in x row ≡ t → sum_below (λ i. asked_of x (get_or row i 0) (get_or reads i 0)) (length row) ≡ sum_below (λ i. asked_of x (get_or files i 0) (get_or counts i 0)) (length files)
    go true t =
        let found = find_in x row t in
        let j = found.0 in
        let kept = clean_reads row reads (remaining_clean files counts) j found.1.0 ∙ each_at files counts row j found.1.0 in
        rw found.1.1 at kept
    go false t =
        sum_nothing (λ i. asked_of x (get_or row i 0) (get_or reads i 0)) (length row) (λ i l. rw (ne_eqb (get_or row i 0) x (not_in x row t i l)))
        ∙ sym (gone_unasked files counts x t)

-- The total over the files that remain is the total over the lines.
sum_add : (f g : ℕ → ℕ) (n : ℕ) → sum_below (λ i. f i + g i) n ≡ sum_below f n + sum_below g n
unfolding sum_below
sum_add f g zero = refl
sum_add f g (suc n) = omega (arith, sum_add f g n)

sum_same : (f g : ℕ → ℕ) (n : ℕ) → ((i : ℕ) → i < n → f i ≡ g i) → sum_below f n ≡ sum_below g n
unfolding sum_below
sum_same f g zero h = refl
sum_same f g (suc n) h = omega (arith, sum_same f g n (λ i l. h i (omega arith)), h n (omega arith))

zero_asked : (f named c : ℕ) → c ≡ 0 → asked_of f named c ≡ 0
zero_asked f named c z = go (eqb named f)
  where
    go : (t : Bool) → ◌≡◌ {A = ℕ} (cond t c 0) 0
    go true = z
    go false = refl

module _ (files counts row : List ℕ) (rising : Rising 0 row) (all : (i : ℕ) → i < length files → (get_or counts i 0 ≡ 0 → ⊥) → is_in (get_or files i 0) row ≡ true) where
  abbrev ask : ℕ → ℕ → ℕ
  ask j i = asked_of (get_or row j 0) (get_or files i 0) (get_or counts i 0)

  -- A line's reads go to one file.
  one_file : (i : ℕ) → i < length files → sum_below (λ j. ask j i) (length row) ≡ get_or counts i 0
  one_file i l = go (eqb (get_or counts i 0) 0) refl
    where
      go : (t : Bool) → eqb (get_or counts i 0) 0 ≡ t → sum_below (λ j. ask j i) (length row) ≡ get_or counts i 0
      go true t =
          let z = eqb-true (get_or counts i 0) 0 t in
          sum_nothing (λ j. ask j i) (length row) (λ j m. zero_asked (get_or row j 0) (get_or files i 0) (get_or counts i 0) z) ∙ sym z
      go false t =
          let found = find_in (get_or files i 0) row (all i l (eqb-false (get_or counts i 0) 0 t)) in
          let j = found.0 in
          sum_one (λ k. ask k i) (length row) j found.1.0
          (λ k m d. rw (ne_eqb (get_or files i 0) (get_or row k 0) (λ e. rising_apart 0 row rising k j m found.1.0 d (sym e ∙ sym found.1.1))))
          ∙ rw (eq-eqb (get_or files i 0) (get_or row j 0) (sym found.1.1))

  lines_total : (n : ℕ) → n ≤ length files → sum_below (λ j. sum_below (ask j) n) (length row) ≡ sum_below (λ i. get_or counts i 0) n
  unfolding sum_below
  lines_total zero l = sum_nothing (λ j. sum_below (ask j) 0) (length row) (λ j m. refl)
  lines_total (suc n) l = sum_add (λ j. sum_below (ask j) n) (λ j. ask j n) (length row) ∙ rw (lines_total n (omega arith), one_file n l)

pub total_kept : (files counts : List ℕ) → length files ≡ length counts → reads_in_all (reads_each files counts (rest files counts)) ≡ reads_in_all counts
unfolding reads_in_all reads_of_want
total_kept files counts equal =
    ap (sum_below (λ j. get_or reads j 0)) (sym (each_long files counts row))
    ∙ sum_same (λ j. get_or reads j 0) (λ j. sum_below (λ i. asked_of (get_or row j 0) (get_or files i 0) (get_or counts i 0)) (length files)) (length row) (λ j l. each_at files counts row j l)
    ∙ lines_total files counts row (remaining_rising files counts (length files)) asked_in (length files) (omega arith)
    ∙ ap (sum_below (λ i. get_or counts i 0)) equal
  where
    row : List ℕ
    row = remaining files counts (length files)

    reads : List ℕ
    reads = reads_each files counts row

    asked_in : (i : ℕ) → i < length files → (get_or counts i 0 ≡ 0 → ⊥) → is_in (get_or files i 0) row ≡ true
    asked_in i l some =
        in_remaining files counts (get_or files i 0) (length files)
        ∙ any_here (asks files counts (get_or files i 0)) i (length files) (rw (eq-eqb (get_or files i 0) (get_or files i 0) refl, ne_eqb (get_or counts i 0) 0 some)) l
