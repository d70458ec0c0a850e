-- Texts put on a page one behind the other.
use Prim.Native.Nat.{ℕ, zero, suc, ◌+◌, ◌-◌, ◌*◌, ◌/◌, ◌%◌, ◌^◌, ◌≤◌, ◌<◌}
use mathlib.Core.Path.{◌≡◌, refl, ap, sym, ◌∙◌, subst}
use mathlib.Core.Bool.{Bool, true, false}
use mathlib.Core.List.{List, [], ◌∷◌, ◌++◌, append_assoc, append-nil}
use native.Mathlib.Omega.{arith}
use native.Mathlib.Nat.{one-le-pow, mul-le-mul_right}
use native.Mathlib.Numerals.{add-one}
use lib.ListN.{length, get_or, take, drop, set, length-append, length-drop, take-append-drop, drop_of_length-le}
use lib.Seq.{paste, paste-zero, paste-suc, length-paste, take-paste, drop-paste, take-length, length-take-le, drop-cons, drop-drop}
use native.Mathlib.Decide.{dec_lt}
use lib.Dec.{ltb}
use borrow.Author.Tests.{lt-ltb, le-ltb, ltb-true, ltb-false}
use Rattle.io.specs.Digits.{hex_digit_ascii, last_digits, IsDigitCount}
use Rattle.text_bytes.specs.Text.{comma, decimal, decimal_in}
use Rattle.text_pages.specs.Printing.{number_line, pair_text, pair_line, pair_lines, triple_line, triple_lines, Wrote, Put}

pub room_left_lem : (size end : ℕ) {b : Bool} → b ≡ ltb size end → b ≡ false → end ≤ size
room_left_lem size end is e = ltb-false size end (sym is ∙ e)

-- A page without room stays, and one with room takes the text.
module _ {page : List ℕ} {at : ℕ} {text : List ℕ} {most : ℕ} where
  pub put_none : {b : Bool} → b ≡ ltb (length page) (at + most) → b ≡ true → Put page at text most page at
  put_none {b} is e = let l = ltb-true (length page) (at + most) (sym is ∙ e) in record { room = λ r. absurd (omega arith); full = λ _. (refl, refl) }

  pub put_done : {page' : List ℕ} {next : ℕ} → at + most ≤ length page → Wrote page at text most page' next → Put page at text most page' next
  put_done r w = record { room = λ _. w; full = λ l. absurd (omega arith) }

-- What a page with a text on it is: as long as before, and the text between what stood before and behind it.
drop_more : (n m : ℕ) (a b : List ℕ) → n ≤ m → drop n a ≡ drop n b → drop m a ≡ drop m b
drop_more n m a b l e =
    let s : n + (m - n) ≡ m = omega arith in
    rw (← s, ← drop-drop (m - n) n a, ← drop-drop (m - n) n b, e)

module _ {page : List ℕ} {at : ℕ} {text : List ℕ} {most : ℕ} {page' : List ℕ} {next : ℕ} (w : Wrote page at text most page' next) where
  pub wrote_page : page' ≡ take at page ++ text ++ drop next page
  wrote_page = sym (take-append-drop next page') ∙ rw (w.bytes, w.later)

  pub wrote_long : at + most ≤ length page → length page' ≡ length page
  wrote_long r =
      ap length wrote_page
      ∙ length-append (take at page ++ text) (drop next page)
      ∙ rw (length-append (take at page) text, length-take-le at page (omega arith), length-drop next page, w.after) (omega (arith, w.after, w.within))

  -- The same in more bytes.
  pub wrote_within : (n : ℕ) → most ≤ n → Wrote page at text n page' next
  wrote_within n l = record { after = w.after; bytes = w.bytes; later = w.later; within = omega (arith, w.within) }

  -- One text behind another.
  module _ {b : List ℕ} {n : ℕ} {page'' : List ℕ} {last : ℕ} where
    pub wrote_both : Wrote page' next b n page'' last → Wrote page at (text ++ b) (most + n) page'' last
    wrote_both q =
        record {
          after = rw (length-append text b) (omega (arith, w.after, q.after));
          bytes = q.bytes ∙ rw (w.bytes, append_assoc);
          later = q.later ∙ drop_more next last page' page (omega (arith, q.after)) w.later;
          within = omega (arith, w.within, q.within);
        }

    pub wrote_on : at + (most + n) ≤ length page → Put page' next b n page'' last → Wrote page at (text ++ b) (most + n) page'' last
    wrote_on r q = wrote_both (q.room (omega (arith, w.within, wrote_long (omega arith))))

-- The contract determines the page and the answer.
pub put_determined : (page : List ℕ) (at : ℕ) (text : List ℕ) (most : ℕ) (page' page'' : List ℕ) (next last : ℕ) → Put page at text most page' next → Put page at text most page'' last
    → (page' ≡ page'') × (next ≡ last)
put_determined page at text most page' page'' next last p q =
    elim (dec_lt (length page) (at + most)) [
      | yes h ↦ ((p.full h).0 ∙ sym (q.full h).0, (p.full h).1 ∙ sym (q.full h).1)
      | no h ↦ there (p.room (omega arith)) (q.room (omega arith))
    ]
  where
    there : Wrote page at text most page' next → Wrote page at text most page'' last → (page' ≡ page'') × (next ≡ last)
    there v w = let e : next ≡ last = v.after ∙ sym w.after in (wrote_page v ∙ rw e (sym (wrote_page w)), e)

-- Three texts one behind the other, on a page with room for all of them.
pub put_three : {page : List ℕ} {at : ℕ} {a : List ℕ} {l : ℕ} {page₁ : List ℕ} {at₁ : ℕ} {b : List ℕ} {m : ℕ} {page₂ : List ℕ} {at₂ : ℕ} {c : List ℕ} {n : ℕ} {page₃ : List ℕ} {at₃ : ℕ} (most : ℕ)
    → at + most ≤ length page → l + m + n ≤ most → Put page at a l page₁ at₁ → Put page₁ at₁ b m page₂ at₂ → Put page₂ at₂ c n page₃ at₃ → Put page at (a ++ b ++ c) most page₃ at₃
put_three most r few p q s = put_done r (wrote_within (wrote_on (wrote_on (p.room (omega arith)) (omega arith) q) (omega arith) s) most few)

-- Three numbers are two of them, and a line of the third whose key is the comma.
pub put_triple : (key : List ℕ) (a b c : ℕ) {page : List ℕ} {at most : ℕ} {page' : List ℕ} {next : ℕ}
    → Put page at (key ++ pair_text a b ++ number_line (comma ∷ []) c) most page' next → Put page at (triple_line key a b c) most page' next
put_triple key a b c p = simp append_assoc (simp append_assoc at p)

-- Putting a text byte by byte.
pub record Putting (page₀ : List ℕ) (at : ℕ) (text page : List ℕ) (i : ℕ) : Type 0 where
  pub within : i ≤ length text
  pub so_far : page ≡ paste page₀ at text i

pub putting_none : (page : List ℕ) (at : ℕ) (text : List ℕ) → Putting page at text page 0
putting_none page at text = record { within = omega arith; so_far = paste-zero page at text }

module _ (page₀ : List ℕ) (at : ℕ) (text : List ℕ) (room : at + length text ≤ length page₀) (page : List ℕ) (i : ℕ) (p : Putting page₀ at text page i) where
  pub putting_long : length page ≡ length page₀
  putting_long = let w = p.within in ap length p.so_far ∙ length-paste page₀ at text i (omega arith) w

  pub byte_put : i < length text → Putting page₀ at text (set page (at + i) (get_or text i 0)) (i + 1)
  byte_put l = record { within = omega arith; so_far = rw (p.so_far, add-one) (paste-suc page₀ at text i 0 (omega arith) l) }

  module _ (l : length text ≤ i) where
    whole : page ≡ paste page₀ at text (length text)
    whole = let w = p.within in let e : i ≡ length text = omega arith in rw (← e) p.so_far

    pub text_put : Put page₀ at text (length text) page (at + length text)
    text_put =
        put_done room
        (record {
          after = refl;
          bytes = rw whole (take-paste page₀ at text (length text) (omega arith) (omega arith) ∙ rw (take-length text));
          later = rw whole (drop-paste page₀ at text (length text) (omega arith) (omega arith));
          within = omega arith;
        })

-- The fewest digits that hold a number are its decimal text.
glyph_digit : (d : ℕ) → d < 10 → hex_digit_ascii d ≡ 48 + d
glyph_digit d l = rw (lt-ltb d 10 l)

fewest_one : (n k : ℕ) → n < 10 → IsDigitCount 10 1 n k → k ≡ 1
fewest_one n zero l f = absurd (omega (arith, f.0))
fewest_one n (suc zero) l f = refl
fewest_one n (suc (suc j)) l f =
    let e : suc (suc j) - 1 ≡ suc j = omega arith in
    let g : 10 ^ suc j ≤ n = rw e at (f.2 (omega arith)) in
    absurd (omega (arith, one-le-pow j 10 (omega arith)))

fewest_more : (n k : ℕ) → 10 ≤ n → IsDigitCount 10 1 n k → (j : ℕ) × (k ≡ suc (suc j)) × IsDigitCount 10 1 (n / 10) (suc j)
fewest_more n zero l f = absurd (omega (arith, f.0))
fewest_more n (suc zero) l f = absurd (omega (arith, f.1))
fewest_more n (suc (suc j)) l f =
    let e : suc (suc j) - 1 ≡ suc j = omega arith in
    let g : 10 ^ suc j ≤ n = rw e at (f.2 (omega arith)) in
    let d : suc j - 1 ≡ j = omega arith in
    (j, refl, (omega arith, omega (arith, f.1), λ h. rw d (omega (arith, g))))

digits_one : (n : ℕ) → n < 10 → last_digits 10 1 n ≡ (48 + n) ∷ []
digits_one n l = let e : n % 10 ≡ n = omega arith in rw (e, glyph_digit n l)

digits_in : (most n k : ℕ) → n ≤ most → IsDigitCount 10 1 n k → last_digits 10 k n ≡ decimal_in most n
unfolding decimal_in
digits_in zero n k l f = rw (fewest_one n k (omega arith) f) (digits_one n (omega arith))
digits_in (suc most) n k l f =
    elim (dec_lt n 10) [
      | yes h ↦ rw (fewest_one n k h f, lt-ltb n 10 h) (digits_one n h)
      | no h ↦ longer (fewest_more n k (omega arith) f) (omega arith) (digits_in most (n / 10))
    ]
  where
    longer : (j : ℕ) × (k ≡ suc (suc j)) × IsDigitCount 10 1 (n / 10) (suc j) → 10 ≤ n → ((i : ℕ) → n / 10 ≤ most → IsDigitCount 10 1 (n / 10) i → last_digits 10 i (n / 10) ≡ decimal_in most (n / 10))
        → last_digits 10 k n ≡ decimal_in (suc most) n
    longer (j, e, g) h rest = rw (e, le-ltb n 10 h, glyph_digit (n % 10) (omega arith), rest (suc j) (omega arith) g)

pub digits_decimal : (n k : ℕ) → IsDigitCount 10 1 n k → last_digits 10 k n ≡ decimal n
digits_decimal n k f = digits_in n n k (omega arith) f

-- A number below a power of ten has no more digits than that.
decimal_below : (most n k : ℕ) → n < 10 ^ suc k → length (decimal_in most n) ≤ suc k
unfolding decimal_in
decimal_below zero n k l = omega arith
decimal_below (suc most) n k l =
    elim (dec_lt n 10) [ yes h ↦ rw (lt-ltb n 10 h) (omega arith) | no h ↦ rw (le-ltb n 10 (omega arith)) (longer k l (omega arith) (decimal_below most (n / 10))) ]
  where
    longer : (j : ℕ) → n < 10 ^ suc j → 10 ≤ n → ((i : ℕ) → n / 10 < 10 ^ suc i → length (decimal_in most (n / 10)) ≤ suc i)
        → length (decimal_in most (n / 10) ++ ((48 + n % 10) ∷ [])) ≤ suc j
    longer zero m h rest = absurd (omega arith)
    longer (suc j) m h rest = rw (length-append (decimal_in most (n / 10)) ((48 + n % 10) ∷ [])) (omega (arith, rest j (omega arith)))

pub decimal_digits : (n k : ℕ) → n < 10 ^ suc k → length (decimal n) ≤ suc k
decimal_digits n k l = decimal_below n n k l

pub decimal_short : (n : ℕ) → n < 2 ^ 64 → length (decimal n) ≤ 20
decimal_short n l = decimal_digits n 19 (omega arith)

-- A number put by its digits.
pub digits_short : (n k : ℕ) (text : List ℕ) → n < 2 ^ 64 → IsDigitCount 10 1 n k → text ≡ last_digits 10 k n → length text ≤ 20
digits_short n k text l f e = rw (e, digits_decimal n k f) (decimal_short n l)

pub put_number_lem : (page : List ℕ) (at n k : ℕ) (text page' : List ℕ) (next : ℕ) → at + 20 ≤ length page → n < 2 ^ 64 → IsDigitCount 10 1 n k → text ≡ last_digits 10 k n
    → Put page at text (length text) page' next → Put page at (decimal n) 20 page' next
put_number_lem page at n k text page' next r l f e p =
    let short = digits_short n k text l f e in
    let w = wrote_within (p.room (omega arith)) 20 short in
    put_done r (subst (λ t. Wrote page at t 20 page' next) (e ∙ digits_decimal n k f) w)

-- Lines put one behind the other, each in at most so many bytes: what stands on the page and what is left make the whole.
pub record LinesPut (page₀ : List ℕ) (at most : ℕ) (all : List ℕ) (lines : ℕ) (left page : List ℕ) (next i : ℕ) : Type 0 where
  pub few : i ≤ lines
  pub within : next ≤ at + i * most
  pub long : length page ≡ length page₀
  pub whole : take next page ++ left ≡ take at page₀ ++ all
  pub later : drop next page ≡ drop next page₀

pub lines_put_none : (page : List ℕ) (at most : ℕ) (all : List ℕ) (lines : ℕ) → LinesPut page at most all lines all page at 0
lines_put_none page at most all lines = record { few = omega arith; within = omega arith; long = refl; whole = refl; later = refl }

module _ (page₀ : List ℕ) (at most : ℕ) (all : List ℕ) (lines : ℕ) (room : at + lines * most ≤ length page₀) (left page : List ℕ) (next i : ℕ)
    (p : LinesPut page₀ at most all lines left page next i) where
  pub line_room : i < lines → next + most ≤ length page
  line_room l = omega (arith, p.within, p.long, mul-le-mul_right {m = suc i} {n = lines} most l)

  module _ (l : i < lines) (text rest : List ℕ) (e : left ≡ text ++ rest) (m : ℕ) (n : m ≤ most) (page' : List ℕ) (last : ℕ) where
    pub line_wrote : Wrote page next text m page' last → LinesPut page₀ at most all lines rest page' last (i + 1)
    line_wrote w =
        record {
          few = omega arith;
          within = omega (arith, p.within, w.within);
          long = wrote_long w (omega (arith, line_room l)) ∙ p.long;
          whole = rw (w.bytes, append_assoc, ← e) p.whole;
          later = w.later ∙ drop_more next last page page₀ (omega (arith, w.after)) p.later;
        }

    pub line_put : Put page next text m page' last → LinesPut page₀ at most all lines rest page' last (i + 1)
    line_put q = line_wrote (q.room (omega (arith, line_room l)))

  pub lines_put : lines ≤ i → left ≡ [] → Wrote page₀ at all (lines * most) page next
  lines_put l none =
      let e : i ≡ lines = omega (arith, p.few) in
      let done : take next page ≡ take at page₀ ++ all = sym (append-nil (take next page)) ∙ (rw none at p.whole) in
      let within : next ≤ at + lines * most = rw (← e) p.within in
      let size : length (take next page) ≡ next = length-take-le next page (omega (arith, p.long)) in
      let start : length (take at page₀) ≡ at = length-take-le at page₀ (omega arith) in
      record {
        after = omega (arith, ap length done ∙ length-append (take at page₀) all);
        bytes = done;
        later = p.later;
        within = within;
      }

-- The lines of pairs and of triples that are left.
module _ (key firsts seconds : List ℕ) (equal : length firsts ≡ length seconds) (i : ℕ) where
  pub pairs_left : i < length firsts
      → pair_lines key (drop i firsts) (drop i seconds) ≡ pair_line key (get_or firsts i 0) (get_or seconds i 0) ++ pair_lines key (drop (i + 1) firsts) (drop (i + 1) seconds)
  unfolding pair_lines
  pairs_left l = rw (drop-cons firsts i 0 l, drop-cons seconds i 0 (omega arith), add-one)

  pub pairs_over : length firsts ≤ i → pair_lines key (drop i firsts) (drop i seconds) ≡ []
  unfolding pair_lines
  pairs_over l = rw (drop_of_length-le firsts l)

  module _ (thirds : List ℕ) (same : length firsts ≡ length thirds) where
    pub triples_left : i < length firsts
        → triple_lines key (drop i firsts) (drop i seconds) (drop i thirds)
        ≡ triple_line key (get_or firsts i 0) (get_or seconds i 0) (get_or thirds i 0) ++ triple_lines key (drop (i + 1) firsts) (drop (i + 1) seconds) (drop (i + 1) thirds)
    unfolding triple_lines
    triples_left l = rw (drop-cons firsts i 0 l, drop-cons seconds i 0 (omega arith), drop-cons thirds i 0 (omega arith), add-one)

    pub triples_over : length firsts ≤ i → triple_lines key (drop i firsts) (drop i seconds) (drop i thirds) ≡ []
    unfolding triple_lines
    triples_over l = rw (drop_of_length-le firsts l)
