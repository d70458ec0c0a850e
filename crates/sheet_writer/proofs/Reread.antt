-- Reading what was written, line by line.
use Prim.Native.Nat.{ℕ, zero, suc, ◌^◌, ◌≤◌, ◌<◌}
use mathlib.Core.Path.{◌≡◌, refl, ap, sym, ◌∙◌}
use mathlib.Core.Bool.{Bool, true, false, not}
use mathlib.Core.List.{List, [], ◌∷◌, ◌++◌, append_assoc}
use native.Mathlib.Omega.{arith}
use lib.ListN.{length, get_or, take}
use lib.Seq.{drop-append_seam, take-suc, take-length}
use borrow.Author.Tests.{eq-eqb, le-leb}
use Rattle.runs.proofs.Search.{first_all}
use Rattle.text_bytes.specs.Text.{line_feed, comma, has, before, behind, starts_with, value_of, decimal}
use Rattle.text_lines.specs.Lines.{line_of, after_lines, line_after, value_text, is_number_line, number_behind, is_pair, is_pair_line, first_in, second_in, is_triple, is_triple_line, middle_in, third_in, first_bad_of, each_of}
use Rattle.sheet_reader.specs.Lines.{is_count_line}
use Rattle.text_pages.specs.Printing.{line, pair_text, pair_line, triple_text, triple_line, pair_lines, triple_lines}
use Rattle.text_bytes.proofs.Decimals.{has_append, decimal_without, decimal_number, decimal_value}
use Rattle.text_bytes.proofs.Split.{has_here, before_here, behind_here}

-- A line and what follows it.
module _ (key text rest : List ℕ) (plain : has line_feed key ≡ false) (flat : has line_feed text ≡ false) where
  whole_line : has line_feed (key ++ text) ≡ false
  whole_line = rw (has_append line_feed key text, plain) flat

  line_then : line key text ++ rest ≡ (key ++ text) ++ line_feed ∷ rest
  line_then = append_assoc (key ++ text) (line_feed ∷ []) rest

  pub line_first : line_of (line key text ++ rest) ≡ key ++ text
  unfolding line_of
  line_first = rw (line_then, has_here line_feed (key ++ text) rest, before_here line_feed (key ++ text) rest whole_line)

  pub line_behind_lem : behind line_feed (line key text ++ rest) ≡ rest
  line_behind_lem = ap (behind line_feed) line_then ∙ behind_here line_feed (key ++ text) rest whole_line

-- A key and what stands behind it.
pub key_begins : (key text : List ℕ) → starts_with key (key ++ text) ≡ true
unfolding starts_with
key_begins [] text = refl
key_begins (k ∷ key) text = rw (eq-eqb k k refl, key_begins key text)

pub key_value : (key text : List ℕ) → value_text key (key ++ text) ≡ text
key_value key text = drop-append_seam key text

-- A number line reads back.
module _ (key : List ℕ) (n : ℕ) (small : n < 2 ^ 64) where
  pub number_back : is_number_line key (key ++ decimal n) ≡ true
  unfolding is_number_line
  number_back = rw (key_begins key (decimal n), key_value key (decimal n), decimal_number n small)

  pub value_back : number_behind key (key ++ decimal n) ≡ n
  value_back = ap value_of (key_value key (decimal n)) ∙ decimal_value n

  pub count_back : (most : ℕ) → n ≤ most → is_count_line key most (key ++ decimal n) ≡ true
  unfolding is_count_line
  count_back most l = rw (number_back, le-leb (number_behind key (key ++ decimal n)) most (rw value_back l))

-- A line of a pair reads back.
module _ (a b : ℕ) where
  pair_split : pair_text a b ≡ decimal a ++ comma ∷ decimal b
  pair_split = append_assoc (decimal a) (comma ∷ []) (decimal b)

  left_part : before comma (pair_text a b) ≡ decimal a
  left_part = ap (before comma) pair_split ∙ before_here comma (decimal a) (decimal b) (decimal_without comma a refl)

  right_part : behind comma (pair_text a b) ≡ decimal b
  right_part = ap (behind comma) pair_split ∙ behind_here comma (decimal a) (decimal b) (decimal_without comma a refl)

  pair_flat_here : has line_feed (pair_text a b) ≡ false
  unfolding has
  pair_flat_here =
      ap (has line_feed) pair_split
      ∙ has_append line_feed (decimal a) (comma ∷ decimal b)
      ∙ rw (decimal_without line_feed a refl, decimal_without line_feed b refl)

  module _ (key : List ℕ) where
    pub pair_back : a < 2 ^ 64 → b < 2 ^ 64 → is_pair_line key (key ++ pair_text a b) ≡ true
    unfolding is_pair_line is_pair
    pair_back l m = rw (key_begins key (pair_text a b), key_value key (pair_text a b), left_part, right_part, decimal_number a l, decimal_number b m)

    pub first_back : first_in key (key ++ pair_text a b) ≡ a
    first_back = ap (λ t. value_of (before comma t)) (key_value key (pair_text a b)) ∙ ap value_of left_part ∙ decimal_value a

    pub second_back : second_in key (key ++ pair_text a b) ≡ b
    second_back = ap (λ t. value_of (behind comma t)) (key_value key (pair_text a b)) ∙ ap value_of right_part ∙ decimal_value b

-- A line of three numbers reads back: the first of them, and a pair behind its comma.
module _ (a b c : ℕ) where
  triple_split : triple_text a b c ≡ decimal a ++ comma ∷ pair_text b c
  triple_split = simp append_assoc

  front_part : before comma (triple_text a b c) ≡ decimal a
  front_part = ap (before comma) triple_split ∙ before_here comma (decimal a) (pair_text b c) (decimal_without comma a refl)

  back_part : behind comma (triple_text a b c) ≡ pair_text b c
  back_part = ap (behind comma) triple_split ∙ behind_here comma (decimal a) (pair_text b c) (decimal_without comma a refl)

  triple_flat_here : has line_feed (triple_text a b c) ≡ false
  unfolding has
  triple_flat_here =
      ap (has line_feed) triple_split
      ∙ has_append line_feed (decimal a) (comma ∷ pair_text b c)
      ∙ rw (decimal_without line_feed a refl, pair_flat_here b c)

  module _ (key : List ℕ) where
    value_is_here : value_text key (key ++ triple_text a b c) ≡ triple_text a b c
    value_is_here = key_value key (triple_text a b c)

    pub triple_back : a < 2 ^ 64 → b < 2 ^ 64 → c < 2 ^ 64 → is_triple_line key (key ++ triple_text a b c) ≡ true
    unfolding is_triple_line is_triple is_pair
    triple_back l m n =
        rw (key_begins key (triple_text a b c), value_is_here, front_part, back_part, left_part b c, right_part b c, decimal_number a l, decimal_number b m, decimal_number c n)

    pub left_back : first_in key (key ++ triple_text a b c) ≡ a
    left_back = ap (λ t. value_of (before comma t)) value_is_here ∙ ap value_of front_part ∙ decimal_value a

    pub middle_back : middle_in key (key ++ triple_text a b c) ≡ b
    middle_back = ap (λ t. value_of (before comma (behind comma t))) value_is_here ∙ ap (λ t. value_of (before comma t)) back_part ∙ ap value_of (left_part b c) ∙ decimal_value b

    pub third_back : third_in key (key ++ triple_text a b c) ≡ c
    third_back = ap (λ t. value_of (behind comma (behind comma t))) value_is_here ∙ ap (λ t. value_of (behind comma t)) back_part ∙ ap value_of (right_part b c) ∙ decimal_value c

-- Lines are passed from the front as from the back.
pub after_front : (n : ℕ) (text : List ℕ) → after_lines (suc n) text ≡ after_lines n (behind line_feed text)
unfolding after_lines
after_front zero text = refl
after_front (suc n) text = ap (behind line_feed) (after_front n text)

-- A value for each index, of a row itself.
each_same : (f g : ℕ → ℕ) (n : ℕ) → ((i : ℕ) → i < n → f i ≡ g i) → each_of f n ≡ each_of g n
unfolding each_of
each_same f g zero h = refl
each_same f g (suc n) h = rw (each_same f g n (λ i l. h i (omega arith)), h n (omega arith))

each_take : (row : List ℕ) (n : ℕ) → n ≤ length row → each_of (λ i. get_or row i 0) n ≡ take n row
unfolding each_of
each_take row zero l = refl
each_take row (suc n) l = rw (each_take row n (omega arith)) (sym (take-suc row n 0 l))

pub each_row : (f : ℕ → ℕ) (row : List ℕ) → ((i : ℕ) → i < length row → f i ≡ get_or row i 0) → each_of f (length row) ≡ row
each_row f row h = each_same f (λ i. get_or row i 0) (length row) h ∙ each_take row (length row) (omega arith) ∙ take-length row

-- Lines with one key, and what follows them: the text of each by its index.
module _ (key : List ℕ) (plain : has line_feed key ≡ false) (rest : List ℕ) where
  lines_of : (ℕ → List ℕ) → ℕ → List ℕ
  lines_of texts zero = []
  lines_of texts (suc n) = line key (texts 0) ++ lines_of (λ i. texts (suc i)) n

  module _ (texts : ℕ → List ℕ) (flat : has line_feed (texts 0) ≡ false) (n : ℕ) where
    lines_more : lines_of texts (suc n) ++ rest ≡ line key (texts 0) ++ (lines_of (λ i. texts (suc i)) n ++ rest)
    unfolding lines_of
    lines_more = append_assoc (line key (texts 0)) (lines_of (λ i. texts (suc i)) n) rest

    first_line_here : line_of (lines_of texts (suc n) ++ rest) ≡ key ++ texts 0
    first_line_here = ap line_of lines_more ∙ line_first key (texts 0) (lines_of (λ i. texts (suc i)) n ++ rest) plain flat

    behind_first : behind line_feed (lines_of texts (suc n) ++ rest) ≡ lines_of (λ i. texts (suc i)) n ++ rest
    behind_first = ap (behind line_feed) lines_more ∙ line_behind_lem key (texts 0) (lines_of (λ i. texts (suc i)) n ++ rest) plain flat

  line_at : (texts : ℕ → List ℕ) → ((i : ℕ) → has line_feed (texts i) ≡ false) → (n i : ℕ) → i < n → line_after i (lines_of texts n ++ rest) ≡ key ++ texts i
  unfolding after_lines
  line_at texts flat zero i l = absurd (omega arith)
  line_at texts flat (suc n) zero l = first_line_here texts (flat 0) n
  line_at texts flat (suc n) (suc i) l =
      ap line_of (after_front i (lines_of texts (suc n) ++ rest) ∙ ap (after_lines i) (behind_first texts (flat 0) n))
      ∙ line_at (λ j. texts (suc j)) (λ j. flat (suc j)) n i (omega arith)

  lines_behind : (texts : ℕ → List ℕ) → ((i : ℕ) → has line_feed (texts i) ≡ false) → (n : ℕ) → after_lines n (lines_of texts n ++ rest) ≡ rest
  unfolding after_lines lines_of
  lines_behind texts flat zero = refl
  lines_behind texts flat (suc n) =
      after_front n (lines_of texts (suc n) ++ rest)
      ∙ ap (after_lines n) (behind_first texts (flat 0) n)
      ∙ lines_behind (λ j. texts (suc j)) (λ j. flat (suc j)) n

  module _ (texts : ℕ → List ℕ) (flat : (i : ℕ) → has line_feed (texts i) ≡ false) (n : ℕ) where
    lines_good_here : (test : List ℕ → Bool) → ((i : ℕ) → i < n → test (key ++ texts i) ≡ true) → first_bad_of test n (lines_of texts n ++ rest) ≡ 0
    unfolding first_bad_of
    lines_good_here test good = first_all (λ i. not (test (line_after i (lines_of texts n ++ rest)))) n (λ i l. ap not (ap test (line_at texts flat n i l) ∙ good i l))

    values_back : (value : List ℕ → ℕ) (row : List ℕ) → n ≡ length row → ((i : ℕ) → value (key ++ texts i) ≡ get_or row i 0) → each_of (λ i. value (line_after i (lines_of texts n ++ rest))) n ≡ row
    values_back value row e back =
        ap (each_of (λ i. value (line_after i (lines_of texts n ++ rest)))) e
        ∙ each_row (λ i. value (line_after i (lines_of texts n ++ rest))) row (λ i l. ap value (line_at texts flat n i (omega arith)) ∙ back i)

  -- Lines of pairs.
  pair_texts : List ℕ → List ℕ → ℕ → List ℕ
  pair_texts xs ys i = pair_text (get_or xs i 0) (get_or ys i 0)

  pairs_are : (xs ys : List ℕ) → length xs ≡ length ys → pair_lines key xs ys ≡ lines_of (pair_texts xs ys) (length xs)
  unfolding pair_lines lines_of pair_texts
  pairs_are [] ys e = refl
  pairs_are (a ∷ xs) [] e = absurd (omega arith)
  pairs_are (a ∷ xs) (b ∷ ys) e = ap (λ t. pair_line key a b ++ t) (pairs_are xs ys (omega arith))

  module _ (xs ys : List ℕ) (equal : length xs ≡ length ys) where
    pairs_flat : (i : ℕ) → has line_feed (pair_texts xs ys i) ≡ false
    unfolding pair_texts
    pairs_flat i = pair_flat_here (get_or xs i 0) (get_or ys i 0)

    pub pairs_behind : after_lines (length xs) (pair_lines key xs ys ++ rest) ≡ rest
    pairs_behind = rw (pairs_are xs ys equal) (lines_behind (pair_texts xs ys) pairs_flat (length xs))

    pub pairs_good : ((i : ℕ) → i < length xs → get_or xs i 0 < 2 ^ 64) → ((i : ℕ) → i < length xs → get_or ys i 0 < 2 ^ 64) → first_bad_of (is_pair_line key) (length xs) (pair_lines key xs ys ++ rest) ≡ 0
    unfolding pair_texts
    pairs_good small little =
        rw (pairs_are xs ys equal)
        (lines_good_here (pair_texts xs ys) pairs_flat (length xs) (is_pair_line key) (λ i l. pair_back (get_or xs i 0) (get_or ys i 0) key (small i l) (little i l)))

    pub firsts_back : each_of (λ i. first_in key (line_after i (pair_lines key xs ys ++ rest))) (length xs) ≡ xs
    unfolding pair_texts
    firsts_back = rw (pairs_are xs ys equal) (values_back (pair_texts xs ys) pairs_flat (length xs) (first_in key) xs refl (λ i. first_back (get_or xs i 0) (get_or ys i 0) key))

    pub seconds_back : each_of (λ i. second_in key (line_after i (pair_lines key xs ys ++ rest))) (length xs) ≡ ys
    unfolding pair_texts
    seconds_back = rw (pairs_are xs ys equal) (values_back (pair_texts xs ys) pairs_flat (length xs) (second_in key) ys equal (λ i. second_back (get_or xs i 0) (get_or ys i 0) key))

  -- Lines of three numbers.
  triple_texts : List ℕ → List ℕ → List ℕ → ℕ → List ℕ
  triple_texts xs ys zs i = triple_text (get_or xs i 0) (get_or ys i 0) (get_or zs i 0)

  triples_are : (xs ys zs : List ℕ) → length xs ≡ length ys → length xs ≡ length zs → triple_lines key xs ys zs ≡ lines_of (triple_texts xs ys zs) (length xs)
  unfolding triple_lines lines_of triple_texts
  triples_are [] ys zs e f = refl
  triples_are (a ∷ xs) [] zs e f = absurd (omega arith)
  triples_are (a ∷ xs) (b ∷ ys) [] e f = absurd (omega arith)
  triples_are (a ∷ xs) (b ∷ ys) (c ∷ zs) e f = ap (λ t. triple_line key a b c ++ t) (triples_are xs ys zs (omega arith) (omega arith))

  module _ (xs ys zs : List ℕ) (equal : length xs ≡ length ys) (same : length xs ≡ length zs) where
    triples_flat : (i : ℕ) → has line_feed (triple_texts xs ys zs i) ≡ false
    unfolding triple_texts
    triples_flat i = triple_flat_here (get_or xs i 0) (get_or ys i 0) (get_or zs i 0)

    pub triples_behind : after_lines (length xs) (triple_lines key xs ys zs ++ rest) ≡ rest
    triples_behind = rw (triples_are xs ys zs equal same) (lines_behind (triple_texts xs ys zs) triples_flat (length xs))

    pub triples_good : ((i : ℕ) → i < length xs → get_or xs i 0 < 2 ^ 64) → ((i : ℕ) → i < length xs → get_or ys i 0 < 2 ^ 64) → ((i : ℕ) → i < length xs → get_or zs i 0 < 2 ^ 64)
        → first_bad_of (is_triple_line key) (length xs) (triple_lines key xs ys zs ++ rest) ≡ 0
    unfolding triple_texts
    triples_good small little less =
        rw (triples_are xs ys zs equal same)
        (lines_good_here (triple_texts xs ys zs) triples_flat (length xs) (is_triple_line key)
        (λ i l. triple_back (get_or xs i 0) (get_or ys i 0) (get_or zs i 0) key (small i l) (little i l) (less i l)))

    pub lefts_back : each_of (λ i. first_in key (line_after i (triple_lines key xs ys zs ++ rest))) (length xs) ≡ xs
    unfolding triple_texts
    lefts_back =
        rw (triples_are xs ys zs equal same)
        (values_back (triple_texts xs ys zs) triples_flat (length xs) (first_in key) xs refl (λ i. left_back (get_or xs i 0) (get_or ys i 0) (get_or zs i 0) key))

    pub middles_back : each_of (λ i. middle_in key (line_after i (triple_lines key xs ys zs ++ rest))) (length xs) ≡ ys
    unfolding triple_texts
    middles_back =
        rw (triples_are xs ys zs equal same)
        (values_back (triple_texts xs ys zs) triples_flat (length xs) (middle_in key) ys equal (λ i. middle_back (get_or xs i 0) (get_or ys i 0) (get_or zs i 0) key))

    pub thirds_back : each_of (λ i. third_in key (line_after i (triple_lines key xs ys zs ++ rest))) (length xs) ≡ zs
    unfolding triple_texts
    thirds_back =
        rw (triples_are xs ys zs equal same)
        (values_back (triple_texts xs ys zs) triples_flat (length xs) (third_in key) zs same (λ i. third_back (get_or xs i 0) (get_or ys i 0) (get_or zs i 0) key))
