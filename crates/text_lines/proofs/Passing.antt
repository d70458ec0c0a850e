-- From line to line: where a line ends, what stands behind its key, and what its reader has found.
use Prim.Native.Nat.{ℕ, zero, suc, ◌+◌, ◌-◌, ◌≤◌, ◌<◌}
use mathlib.Core.Path.{◌≡◌, refl, ap, sym, ◌∙◌, subst}
use mathlib.Core.Bool.{Bool, true, false, cond, ◌&&◌, ◌||◌, and-false, true≢false}
use mathlib.Core.List.{List, [], ◌∷◌}
use mathlib.Core.Logic.{⊎_elim}
use native.Mathlib.Omega.{arith}
use native.Mathlib.Nat.{eq-or-lt_of_le, le_of_suc-le-suc}
use native.Mathlib.Numerals.{add-one}
use lib.Dec.{eqb}
use lib.ListN.{length, take, drop, length-drop, drop_of_length-le}
use lib.Seq.{take_all, drop-drop, length-take-le, drop-nil, take-nil}
use Rattle.refusals.specs.Refusals.{first_where}
use Rattle.text_bytes.specs.Text.{line_feed, comma, is_empty, has, before, behind, starts_with, is_number}
use Rattle.text_bytes.specs.Found.{FirstAt, NumberIs}
use Rattle.text_lines.specs.Lines.{line_of, after_lines, line_after, value_text, is_number_line, number_behind, is_pair, is_pair_line, is_triple, is_triple_line, first_bad_of}
use Rattle.text_lines.specs.Found.{ValueAt, Passed, PairAt, TripleAt, LinesPassed, LineBad}
use Rattle.text_lines.specs.Private.{PairIs, TripleIs}
use Rattle.text_bytes.proofs.Bytes.{not_empty, short_text, begun_long}

-- The end of a part is a part of the end.
drop_take : (n m : ℕ) (xs : List ℕ) → drop n (take m xs) ≡ take (m - n) (drop n xs)
drop_take n m [] = rw (take-nil m, drop-nil n, take-nil (m - n))
drop_take zero m (x ∷ xs) = rw (native.Mathlib.Nat.sub-zero m)
drop_take (suc n) zero (x ∷ xs) = let e : 0 - suc n ≡ 0 = omega arith in rw e
drop_take (suc n) (suc m) (x ∷ xs) = let e : suc m - suc n ≡ m - n = omega arith in rw e (drop_take n m xs)

empty_text : (text : List ℕ) → length text ≡ 0 → is_empty text ≡ true
empty_text [] e = refl
empty_text (b ∷ text) e = absurd (omega arith)

-- Behind a text's end stands nothing, as at its end, so no line.
pub nothing_behind : (text : List ℕ) (at : ℕ) → length text < at → drop (length text) text ≡ drop at text
nothing_behind text at l = drop_of_length-le text {i = length text} (omega arith) ∙ sym (drop_of_length-le text {i = at} (omega arith))

pub line_behind_lem : (key text : List ℕ) (at : ℕ) → length text < at → (has line_feed (drop at text) && starts_with key (line_of (drop at text))) ≡ false
unfolding has
line_behind_lem key text at l = let none : drop at text ≡ [] = drop_of_length-le text {i = at} (omega arith) in rw none

-- Looking for the LF from a position on.
module _ (key text : List ℕ) (at : ℕ) (here : at ≤ length text) where
  rest_all : take (length text - at) (drop at text) ≡ drop at text
  rest_all = take_all (length text - at) (drop at text) (rw (length-drop at text) (omega arith))

  pub line_missing : has line_feed (take (length text - at) (drop at text)) ≡ false → (has line_feed (drop at text) && starts_with key (line_of (drop at text))) ≡ false
  line_missing none = rw (rw rest_all at none)

  module _ (i : ℕ) (first : FirstAt line_feed (take (length text - at) (drop at text)) i) where
    line_ends_here : FirstAt line_feed (drop at text) i
    line_ends_here = subst (λ t. FirstAt line_feed t i) rest_all first

    line_is_here : line_of (drop at text) ≡ take i (drop at text)
    unfolding line_of
    line_is_here = rw line_ends_here.stands line_ends_here.front

    pub line_within : at + i < length text
    line_within = omega (arith, rw (length-drop at text) at line_ends_here.within)

    part_is : take (at + i - at) (drop at text) ≡ line_of (drop at text)
    part_is = let s : at + i - at ≡ i = omega arith in rw (s, line_is_here)

    module _ (t : Bool) (begins : t ≡ starts_with key (take (at + i - at) (drop at text))) where
      begun_is : starts_with key (line_of (drop at text)) ≡ t
      begun_is = sym (rw part_is at begins)

      pub line_unkeyed : t ≡ false → (has line_feed (drop at text) && starts_with key (line_of (drop at text))) ≡ false
      line_unkeyed f = rw (begun_is ∙ f, and-false)

      pub line_keyed : t ≡ true → ValueAt key text at (at + length key) (at + i)
      line_keyed f =
          let within = line_within in
          let long : length key ≤ length (line_of (drop at text)) = begun_long key (line_of (drop at text)) (begun_is ∙ f) in
          let size : length (take i (drop at text)) ≡ i = length-take-le i (drop at text) (rw (length-drop at text) (omega arith)) in
          let shift : at + i - (at + length key) ≡ i - length key = omega arith in
          let next : at + i + 1 ≡ at + (i + 1) = omega arith in
          record {
            ended = line_ends_here.stands;
            begun = begun_is ∙ f;
            start = refl;
            ordered = omega (arith, ap length line_is_here);
            within = within;
            value = rw (shift, line_is_here, drop_take (length key) i (drop at text), drop-drop (length key) at text);
            rest = rw (next, line_ends_here.back, drop-drop (i + 1) at text);
          }

-- What a reader of one line has found, from what stands behind the key.
module _ (key text : List ℕ) (at from end : ℕ) (v : ValueAt key text at from end) where
  pub line_passed : (test : List ℕ → Bool) → test (line_of (drop at text)) ≡ true → Passed test text at (end + 1)
  line_passed test good = record { good = good; within = let w = v.within in omega arith; rest = v.rest }

  value_length_here : length (value_text key (line_of (drop at text))) ≡ end - from
  value_length_here = ap length (sym v.value) ∙ length-take-le (end - from) (drop from text) (rw (length-drop from text) (omega (arith, v.within)))

  pub some_text : (from ≡ end → ⊥) → is_empty (value_text key (line_of (drop at text))) ≡ false
  some_text n = not_empty (value_text key (line_of (drop at text))) (omega (arith, value_length_here, v.ordered))

  pub no_text : from ≡ end → is_empty (value_text key (line_of (drop at text))) ≡ true
  no_text d = empty_text (value_text key (line_of (drop at text))) (omega (arith, value_length_here))

  -- A number behind the key.
  pub no_number : is_number (take (end - from) (drop from text)) ≡ false → is_number (value_text key (line_of (drop at text))) ≡ false
  no_number none = rw v.value at none

  pub number_is : (n : ℕ) → NumberIs (take (end - from) (drop from text)) n → NumberIs (value_text key (line_of (drop at text))) n
  number_is n = subst (λ t. NumberIs t n) v.value

  pub number_line_bad : is_number (take (end - from) (drop from text)) ≡ false → is_number_line key (line_of (drop at text)) ≡ false
  unfolding is_number_line
  number_line_bad none = rw (no_number none, and-false)

  pub number_line_good : (n : ℕ) → NumberIs (take (end - from) (drop from text)) n → Passed (is_number_line key) text at (end + 1) × (n ≡ number_behind key (line_of (drop at text)))
  unfolding is_number_line
  number_line_good n is = let number = number_is n is in (line_passed (is_number_line key) (rw (v.begun, number.good)), number.value)

  -- Two numbers behind the key.
  pub pair_line_bad : is_pair (take (end - from) (drop from text)) ≡ false → is_pair_line key (line_of (drop at text)) ≡ false
  unfolding is_pair_line
  pair_line_bad none = let e : is_pair (value_text key (line_of (drop at text))) ≡ false = rw v.value at none in rw (e, and-false)

  pub pair_line_good : (a b : ℕ) → PairIs (take (end - from) (drop from text)) a b → PairAt key text at a b (end + 1)
  unfolding is_pair_line
  pair_line_good a b is =
      let p : PairIs (value_text key (line_of (drop at text))) a b = subst (λ t. PairIs t a b) v.value is in
      record { passed = line_passed (is_pair_line key) (rw v.begun p.good); left = p.left; right = p.right }

  -- Three.
  pub triple_line_bad : is_triple (take (end - from) (drop from text)) ≡ false → is_triple_line key (line_of (drop at text)) ≡ false
  unfolding is_triple_line
  triple_line_bad none = let e : is_triple (value_text key (line_of (drop at text))) ≡ false = rw v.value at none in rw (e, and-false)

  pub triple_line_good : (a b c : ℕ) → TripleIs (take (end - from) (drop from text)) a b c → TripleAt key text at a b c (end + 1)
  unfolding is_triple_line
  triple_line_good a b c is =
      let p : TripleIs (value_text key (line_of (drop at text))) a b c = subst (λ t. TripleIs t a b c) v.value is in
      record { passed = line_passed (is_triple_line key) (rw v.begun p.good); left = p.left; middle = p.middle; right = p.right }

-- A line without its key, or without its LF, is not as described.
module _ (key text : List ℕ) (none : (has line_feed text && starts_with key (line_of text)) ≡ false) where
  pub unkeyed_line : 0 < length key → starts_with key (line_of text) ≡ false
  unfolding line_of
  unkeyed_line l = go (has line_feed text) refl
    where
      go : (b : Bool) → has line_feed text ≡ b → starts_with key (line_of text) ≡ false
      go true e = let f : starts_with key (before line_feed text) ≡ false = rw e at none in rw e f
      go false e = rw e (sym (short_text key [] l))

  unkeyed_value : (good : List ℕ → Bool) → good [] ≡ false → (starts_with key (line_of text) && good (value_text key (line_of text))) ≡ false
  unfolding line_of
  unkeyed_value good empty = go (has line_feed text) refl
    where
      go : (b : Bool) → has line_feed text ≡ b → (starts_with key (line_of text) && good (value_text key (line_of text))) ≡ false
      go true e = let f : starts_with key (before line_feed text) ≡ false = rw e at none in rw (e, f)
      go false e = rw (e, drop-nil (length key), empty, and-false)

  pub unkeyed_number : is_number_line key (line_of text) ≡ false
  unfolding is_number_line is_number
  unkeyed_number = unkeyed_value is_number refl

  pub unkeyed_pair : is_pair_line key (line_of text) ≡ false
  unfolding is_pair_line is_pair is_number before
  unkeyed_pair = unkeyed_value is_pair refl

  pub unkeyed_triple : is_triple_line key (line_of text) ≡ false
  unfolding is_triple_line is_triple is_number before
  unkeyed_triple = unkeyed_value is_triple refl

-- Nothing stands behind a byte that is not there.
behind_nowhere : (c : ℕ) (text : List ℕ) → has c text ≡ false → behind c text ≡ []
unfolding has behind
behind_nowhere c [] e = refl
behind_nowhere c (b ∷ text) e = go (eqb b c) e (behind_nowhere c text)
  where
    go : (f : Bool) → (f || has c text) ≡ false → (has c text ≡ false → behind c text ≡ []) → cond f text (behind c text) ≡ []
    go true h rest = absurd (true≢false h)
    go false h rest = rest h

-- A pair of numbers in a text, from its first comma.
module _ (text : List ℕ) where
  pub no_comma : has comma text ≡ false → is_pair text ≡ false
  unfolding is_pair is_number
  no_comma none = rw (behind_nowhere comma text none, and-false)

  module _ (i : ℕ) (comma_here : FirstAt comma text i) where
    behind_all : take (length text - (i + 1)) (drop (i + 1) text) ≡ behind comma text
    behind_all = take_all (length text - (i + 1)) (drop (i + 1) text) (rw (length-drop (i + 1) text) (omega arith)) ∙ sym comma_here.back

    pub left_bad : is_number (take i text) ≡ false → is_pair text ≡ false
    unfolding is_pair
    left_bad none = rw (comma_here.front, none)

    pub right_bad : is_number (take (length text - (i + 1)) (drop (i + 1) text)) ≡ false → is_pair text ≡ false
    unfolding is_pair
    right_bad none = rw (← behind_all, none, and-false)

    pub pair_is : (a b : ℕ) → NumberIs (take i text) a → NumberIs (take (length text - (i + 1)) (drop (i + 1) text)) b → PairIs text a b
    unfolding is_pair
    pair_is a b left rest =
        let right : NumberIs (behind comma text) b = subst (λ t. NumberIs t b) behind_all rest in
        record {
          good = rw (comma_here.front, left.good, right.good);
          left = rw comma_here.front left.value;
          right = right.value;
        }

-- Three numbers in a text: a number before its first comma, and a pair behind it.
module _ (text : List ℕ) where
  pub no_comma_three : has comma text ≡ false → is_triple text ≡ false
  unfolding is_triple is_pair is_number before
  no_comma_three none = rw (behind_nowhere comma text none, and-false)

  module _ (i : ℕ) (comma_here : FirstAt comma text i) where
    pub first_bad_lem : is_number (take i text) ≡ false → is_triple text ≡ false
    unfolding is_triple
    first_bad_lem none = rw (comma_here.front, none)

    pub rest_bad : is_pair (take (length text - (i + 1)) (drop (i + 1) text)) ≡ false → is_triple text ≡ false
    unfolding is_triple
    rest_bad none = rw (← behind_all text i comma_here, none, and-false)

    pub triple_is : (a b c : ℕ) → NumberIs (take i text) a → PairIs (take (length text - (i + 1)) (drop (i + 1) text)) b c → TripleIs text a b c
    unfolding is_triple
    triple_is a b c left rest =
        let pair : PairIs (behind comma text) b c = subst (λ t. PairIs t b c) (behind_all text i comma_here) rest in
        record {
          good = rw (comma_here.front, left.good, pair.good);
          left = rw comma_here.front left.value;
          middle = pair.left;
          right = pair.right;
        }

-- The first bad line, as a loop over the lines finds it.
module _ (test : List ℕ → Bool) (text : List ℕ) where
  none_more : (i : ℕ) → first_bad_of test i text ≡ 0 → test (line_after i text) ≡ true → first_bad_of test (i + 1) text ≡ 0
  unfolding first_bad_of first_where
  none_more i none good = rw add-one (rw (none, good))

  bad_at : (i n : ℕ) → first_bad_of test i text ≡ 0 → test (line_after i text) ≡ false → i < n → first_bad_of test n text ≡ suc i
  unfolding first_bad_of first_where
  bad_at i zero none bad l = absurd (omega arith)
  bad_at i (suc n) none bad l =
      ⊎_elim (λ (e : i ≡ n). rw (← e, none, bad)) (λ (lt : i < n). rw (bad_at i n none bad lt)) (eq-or-lt_of_le (le_of_suc-le-suc l))

-- Going through lines of one kind: none before the one at an index is bad, and what is left stands at a position.
pub record LinesSeen (test : List ℕ → Bool) (text : List ℕ) (at count next i : ℕ) : Type 0 where
  pub few : i ≤ count
  pub within : next ≤ length text
  pub none : first_bad_of test i (drop at text) ≡ 0
  pub rest : drop next text ≡ after_lines i (drop at text)

pub lines_none : (test : List ℕ → Bool) (text : List ℕ) (at count start : ℕ) → start ≤ length text → drop start text ≡ drop at text → LinesSeen test text at count start 0
unfolding first_bad_of after_lines first_where
lines_none test text at count start l e = record { few = omega arith; within = l; none = refl; rest = e }

module _ (test : List ℕ → Bool) (text : List ℕ) (at count next i : ℕ) (p : LinesSeen test text at count next i) (l : i < count) where
  line_same : line_of (drop next text) ≡ line_after i (drop at text)
  line_same = ap line_of p.rest

  pub line_bad_here : test (line_of (drop next text)) ≡ false → LineBad test text at count (i + 1)
  line_bad_here e =
      record {
        first = bad_at test (drop at text) i count p.none (rw (← line_same) e) l ∙ sym (add-one i);
        some = omega arith;
        most = omega arith;
      }

  pub line_seen : (after : ℕ) → Passed test text next after → LinesSeen test text at count after (i + 1)
  unfolding after_lines
  line_seen after q =
      record {
        few = omega arith;
        within = q.within;
        none = none_more test (drop at text) i p.none (rw (← line_same) q.good);
        rest = q.rest ∙ rw (p.rest, add-one);
      }

  -- Where no line is bad, this one is not.
  pub never_bad : first_bad_of test count (drop at text) ≡ 0 → test (line_of (drop next text)) ≡ false → ⊥
  never_bad none e = omega (arith, none, (line_bad_here e).first)

pub lines_passed : (test : List ℕ → Bool) (text : List ℕ) (at count next i : ℕ) → LinesSeen test text at count next i → count ≤ i → LinesPassed test text at count next
lines_passed test text at count next i p l =
    let e : i ≡ count = omega arith in
    record { none = rw e at p.none; within = p.within; rest = rw e at p.rest }
