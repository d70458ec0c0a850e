-- Strings, texts and keys, digits, numbers, names and lines by their conditions.
use Prim.Native.Nat.{ℕ, zero, suc, ◌+◌, ◌-◌, ◌*◌, ◌^◌, ◌≤◌, ◌<◌}
use mathlib.Core.Path.{◌≡◌, refl, sym, ap, ◌∙◌}
use mathlib.Core.Bool.{Bool, true, false, not, ◌&&◌, ◌||◌, true≢false}
use mathlib.Core.Logic.{◌⊎◌, ◌↔◌, inl, inr}
use mathlib.Core.List.{List, [], ◌∷◌, ◌++◌}
use native.Mathlib.Omega.{arith}
use lib.ListN.{length, get_or}
use lib.Dec.{leb, ltb, eqb}
use borrow.Author.Tests.{lt-ltb, ltb-true, leb-true, le-leb, eq-eqb, ne_eqb, eqb-true}
use Rattle.runs.proofs.Search.{or_false_both}
use Rattle.text_bytes.specs.Text.{line_feed, has, before, behind, starts_with, is_text, all_of, between, is_digit, is_name_byte, is_empty, leading_zero, is_number, is_name, value_from, value_of, decimal_in, decimal}
use Rattle.text_bytes.proofs.Bytes.{and_true_both}
use Rattle.text_bytes.proofs.Split.{whole_key, before_here, behind_here}
use Rattle.text_bytes.proofs.Decimals.{has_append, decimal_value, decimal_number}
use Rattle.text_lines.specs.Lines.{line_of, after_lines}
use Rattle.sheet_writer.proofs.Reread.{key_begins, key_value}
use Rattle.demands.specs.Letters.{BytesOfLetters, TextsAreCompared, KeysAreSpelled, Digits, ValuesOfDigits, IsTextOfANumber, NumbersAreTexts, IsTapeName, NamesByTheirBytes, Without, NoFeed, TextsAreCut, LinesByTheirFeeds}
use Rattle.demands.proofs.Canonical.{decimal_step, number_text}
use Rattle.demands.proofs.Lines.{behind_none}

pub bytes_of_letters : BytesOfLetters
bytes_of_letters = record { none = refl; more = λ letter others. refl }

-- Two texts are the same exactly where the test says so.
pub text_same : (a b : List ℕ) → is_text a b ≡ true → b ≡ a
text_same a b e = let both = and_true_both (eqb (length a) (length b)) (starts_with a b) e in whole_key a b (eqb-true (length a) (length b) both.0) both.1

starts_itself : (a : List ℕ) → starts_with a a ≡ true
unfolding starts_with
starts_itself [] = refl
starts_itself (x ∷ a) = rw (eq-eqb x x refl, starts_itself a)

pub same_text : (a b : List ℕ) → b ≡ a → is_text a b ≡ true
same_text a b e = rw (e, eq-eqb (length a) (length a) refl, starts_itself a)

begins_so : (key text : List ℕ) → starts_with key text ≡ true → (rest : List ℕ) × (text ≡ key ++ rest)
unfolding starts_with
begins_so [] text e = (text, refl)
begins_so (k ∷ key) [] e = absurd (true≢false (sym e))
begins_so (k ∷ key) (b ∷ text) e =
    let both = and_true_both (eqb k b) (starts_with key text) e in
    let more = begins_so key text both.1 in
    (more.0, ap (λ t. b ∷ t) more.1 ∙ ap (λ c. c ∷ (key ++ more.0)) (sym (eqb-true k b both.0)))

-- All bytes of a kind, one by one.
all_read : (kind : ℕ → Bool) (text : List ℕ) → all_of kind text ≡ true → (i : ℕ) → i < length text → kind (get_or text i 0) ≡ true
unfolding all_of
all_read kind [] e i l = absurd (omega arith)
all_read kind (b ∷ text) e zero l = (and_true_both (kind b) (all_of kind text) e).0
all_read kind (b ∷ text) e (suc i) l = all_read kind text (and_true_both (kind b) (all_of kind text) e).1 i (omega arith)

all_told : (kind : ℕ → Bool) (text : List ℕ) → ((i : ℕ) → i < length text → kind (get_or text i 0) ≡ true) → all_of kind text ≡ true
unfolding all_of
all_told kind [] each = refl
all_told kind (b ∷ text) each = rw (each 0 (omega arith), all_told kind text (λ i l. each (suc i) (omega arith)))

lies_within : (least most b : ℕ) → (between least most b ≡ true) ↔ ((least ≤ b) × (b ≤ most))
lies_within least most b = (
  λ e. let both = and_true_both (leb least b) (leb b most) e in (leb-true least b both.0, leb-true b most both.1),
  λ h. rw (le-leb least b h.0, le-leb b most h.1),
)

pub texts_are_compared : TextsAreCompared
texts_are_compared =
    record {
      same = λ wanted text. (text_same wanted text, same_text wanted text);
      begins = λ key text. (begins_so key text, λ h. ap (starts_with key) h.1 ∙ key_begins key h.0);
      all = λ kind text. (all_read kind text, all_told kind text);
      within = lies_within;
      digit = λ b. lies_within 48 57 b;
      letter = λ b. lies_within 65 90 b;
    }

pub keys_are_spelled : KeysAreSpelled
keys_are_spelled =
    record {
      tape = refl;
      head = refl;
      turn = refl;
      rule = refl;
      files = refl;
      file = refl;
      wants = refl;
      want = refl;
      least = refl;
      sweep = refl;
      sum = refl;
      reads = refl;
      finish = refl;
      end = refl;
      detours = refl;
      detour = refl;
      time = refl;
    }

one_digit : (n : ℕ) → n < 10 → decimal n ≡ (48 + n) ∷ []
unfolding decimal_in
one_digit zero l = refl
one_digit (suc n) l = rw (lt-ltb (suc n) 10 l)

pub digits : Digits
digits = record { one = one_digit; more = λ n d some small. decimal_step n d (omega arith) small }

value_more : (n : ℕ) (text : List ℕ) (d : ℕ) → value_from n (text ++ ((48 + d) ∷ [])) ≡ value_from n text * 10 + d
unfolding value_from
value_more n [] d = omega arith
value_more n (b ∷ text) d = value_more (n * 10 + (b - 48)) text d

pub values_of_digits : ValuesOfDigits
unfolding value_from
values_of_digits = record { none = refl; more = λ text d small. value_more 0 text d }

word_value : (text : List ℕ) → is_number text ≡ true → value_of text < 2 ^ 64
unfolding is_number
word_value text e =
    ltb-true (value_of text) (2 ^ 64) (and_true_both (not (is_empty text) && not (leading_zero text) && all_of is_digit text) (ltb (value_of text) (2 ^ 64)) e).1

pub numbers_are_texts : NumbersAreTexts
numbers_are_texts =
    record {
      number = λ text. (
        λ e. record { n = value_of text; word = word_value text e; is = sym (number_text text e) },
        λ (t : IsTextOfANumber text). ap is_number t.is ∙ decimal_number t.n t.word,
      );
      value = decimal_value;
    }

-- A name, byte by byte.
abbrev InName : ℕ → Type 0
InName b = ((48 ≤ b) × (b ≤ 57)) ⊎ ((65 ≤ b) × (b ≤ 90))

byte_read : (b : ℕ) → is_name_byte b ≡ true → InName b
byte_read b e = go (is_digit b) refl
  where
    go : (d : Bool) → is_digit b ≡ d → InName b
    go true t = inl ((lies_within 48 57 b).0 t)
    go false f = inr ((lies_within 65 90 b).0 (sym (rw f) ∙ e))

byte_told : (b : ℕ) → InName b → is_name_byte b ≡ true
byte_told b (inl h) = rw (le-leb 48 b h.0, le-leb b 57 h.1)
byte_told b (inr h) = rw (le-leb 65 b h.0, le-leb b 90 h.1) (or_true_here (is_digit b))
  where
    or_true_here : (x : Bool) → (x || true) ≡ true
    or_true_here true = refl
    or_true_here false = refl

pub names_by_their_bytes : NamesByTheirBytes
unfolding is_name
names_by_their_bytes text = (
  λ e.
      let both = and_true_both (between 1 16 (length text)) (all_of is_name_byte text) e in
      let size = and_true_both (leb 1 (length text)) (leb (length text) 16) both.0 in
      record { some = leb-true 1 (length text) size.0; few = leb-true (length text) 16 size.1; each = λ i l. byte_read (get_or text i 0) (all_read is_name_byte text both.1 i l) },
  λ (n : IsTapeName text). rw (le-leb 1 (length text) n.some, le-leb (length text) 16 n.few, all_told is_name_byte text (λ i l. byte_told (get_or text i 0) (n.each i l))),
)

-- A text that is cut at a byte.
without : (b : ℕ) (text : List ℕ) → Without b text → has b text ≡ false
unfolding has
without b [] none = refl
without b (c ∷ text) none = rw (ne_eqb c b (none 0 (omega arith)), without b text (λ i l. none (suc i) (omega arith)))

pub none_fed : (text : List ℕ) → has line_feed text ≡ false → NoFeed text
unfolding has
none_fed [] e i l = absurd (omega (arith, l))
none_fed (b ∷ text) e zero l = λ (is : b ≡ 10). true≢false (sym (eq-eqb b 10 is) ∙ (or_false_both (eqb b 10) (has line_feed text) e).0)
none_fed (b ∷ text) e (suc i) l = none_fed text (or_false_both (eqb b 10) (has line_feed text) e).1 i (omega (arith, l))

before_all : (b : ℕ) (text : List ℕ) → Without b text → before b text ≡ text
unfolding before
before_all b [] none = refl
before_all b (c ∷ text) none = rw (ne_eqb c b (none 0 (omega arith))) (ap (λ t. c ∷ t) (before_all b text (λ i l. none (suc i) (omega arith))))

has_itself : (b : ℕ) (rest : List ℕ) → has b (b ∷ rest) ≡ true
unfolding has
has_itself b rest = rw (eq-eqb b b refl)

empty_text : (text : List ℕ) → (is_empty text ≡ true) ↔ (text ≡ [])
empty_text [] = (λ e. refl, λ e. refl)
empty_text (b ∷ text) = (λ e. absurd (true≢false (sym e)), λ is. absurd (let z : suc (length text) ≡ 0 = ap length is in omega (arith, z)))

pub texts_are_cut : TextsAreCut
texts_are_cut =
    record {
      found = λ b front rest none.
          let plain = without b front none in
          (has_append b front (b ∷ rest) ∙ rw (plain, has_itself b rest), (before_here b front rest plain, behind_here b front rest plain));
      missing = λ b text none. let plain = without b text none in (plain, (before_all b text none, behind_none b text plain));
      empty = empty_text;
      value = key_value;
      letters = refl;
      marks = (refl, refl);
    }

-- Lines.
pub no_feed : (text : List ℕ) → NoFeed text → has line_feed text ≡ false
no_feed text none = without line_feed text none

pub lines_by_their_feeds : LinesByTheirFeeds
unfolding after_lines line_of has
lines_by_their_feeds text =
    record {
      first = refl;
      next = λ i line rest none is.
          let plain = no_feed line none in (
            rw (is, has_append line_feed line (line_feed ∷ rest), plain) (before_here line_feed line rest plain),
            ap (behind line_feed) is ∙ behind_here line_feed line rest plain,
          );
      last = λ i none. let plain = no_feed (after_lines i text) none in (rw plain, behind_none line_feed (after_lines i text) plain);
    }
