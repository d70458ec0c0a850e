-- The names of the open elements in two rows, and what each token does to them.
use Prim.Native.Nat.{ℕ, zero, suc, ◌+◌, ◌-◌, ◌≤◌, ◌<◌}
use mathlib.Core.Path.{◌≡◌, refl, ap, sym, ◌∙◌}
use mathlib.Core.Bool.{true, false, ◌&&◌}
use mathlib.Core.List.{List, [], ◌∷◌}
use native.Mathlib.Omega.{arith}
use native.Mathlib.Decide.{dec_lt}
use native.Mathlib.Numerals.{add-one}
use lib.ListN.{length, get_or, set, length-set}
use lib.Seq.{get_or-set_same, get_or-set_other}
use lib.Dec.{eqb, ltb}
use borrow.Author.Tests.{lt-ltb, le-ltb, eq-eqb, ne_eqb, eqb-true}
use Rattle.text_bytes.specs.Text.{starts_with, is_text}
use Rattle.text_bytes.proofs.Bytes.{and_true_both}
use Rattle.tape_markup.specs.declared.Place.{Place}
use Rattle.tape_markup.specs.Markup.{Token, Open, Close, Char, Broken}
use Rattle.tape_markup.specs.Tree.{most_open, closes_all, is_balanced}
use Rattle.tape_markup.specs.Places.{part, NameIn, PlaceIn, place_at, tokens_at, Begins, Passes}

-- A text that is one name is no other.
text_is : (wanted text : List ℕ) → length wanted ≡ length text → starts_with wanted text ≡ true → text ≡ wanted
unfolding starts_with
text_is [] [] l e = refl
text_is [] (b ∷ text) l e = absurd (omega arith)
text_is (k ∷ wanted) [] l e = absurd (omega arith)
text_is (k ∷ wanted) (b ∷ text) l e =
    let both = and_true_both (eqb k b) (starts_with wanted text) e in
    let h : b ≡ k = sym (eqb-true k b both.0) in
    let t : text ≡ wanted = text_is wanted text (omega arith) both.1 in
    rw (h, t)

pub text_named : (wanted text : List ℕ) → is_text wanted text ≡ true → text ≡ wanted
text_named wanted text e =
    let both = and_true_both (eqb (length wanted) (length text)) (starts_with wanted text) e in
    text_is wanted text (eqb-true (length wanted) (length text) both.0) both.1

text_begins_itself : (text : List ℕ) → starts_with text text ≡ true
unfolding starts_with
text_begins_itself [] = refl
text_begins_itself (b ∷ text) = rw (eq-eqb b b refl, text_begins_itself text)

text_names_itself : (text : List ℕ) → is_text text text ≡ true
text_names_itself text = rw (eq-eqb (length text) (length text) refl, text_begins_itself text)

-- The first names of two rows, the last of them first.
unfoldable pub names : List ℕ → List ℕ → List ℕ → ℕ → List (List ℕ)
names text froms tos zero = []
names text froms tos (suc n) = part (get_or froms n 0) (get_or tos n 0) text ∷ names text froms tos n

names_count : (text froms tos : List ℕ) (n : ℕ) → length (names text froms tos n) ≡ n
unfolding names
names_count text froms tos zero = refl
names_count text froms tos (suc n) = ap suc (names_count text froms tos n)

-- Entries from a place on do not matter for the names before it.
names_set : (text froms tos : List ℕ) (i from to n : ℕ) → n ≤ i → names text (set froms i from) (set tos i to) n ≡ names text froms tos n
unfolding names
names_set text froms tos i from to zero l = refl
names_set text froms tos i from to (suc n) l =
    let other : n ≡ i → ⊥ = omega arith in
    rw (names_set text froms tos i from to n (omega arith), get_or-set_other froms i n from 0 other, get_or-set_other tos i n to 0 other)

-- What each token asks of the open names.
pub closes_open : (opened : List (List ℕ)) (name : List ℕ) (tokens : List Token) → closes_all opened (Open name ∷ tokens) ≡ (ltb (length opened) most_open && closes_all (name ∷ opened) tokens)
unfolding closes_all
closes_open [] name tokens = refl
closes_open (first ∷ opened) name tokens = refl

pub closes_byte : (opened : List (List ℕ)) (b : ℕ) (tokens : List Token) → closes_all opened (Char b ∷ tokens) ≡ closes_all opened tokens
unfolding closes_all
closes_byte [] b tokens = refl
closes_byte (first ∷ opened) b tokens = refl

pub closes_same : (opened : List (List ℕ)) (name : List ℕ) (tokens : List Token) → closes_all (name ∷ opened) (Close name ∷ tokens) ≡ closes_all opened tokens
unfolding closes_all
closes_same opened name tokens = rw (text_names_itself name)

closes_broken : (opened : List (List ℕ)) (tokens : List Token) → closes_all opened (Broken ∷ tokens) ≡ false
unfolding closes_all
closes_broken [] tokens = refl
closes_broken (first ∷ opened) tokens = refl

-- A text is balanced if what follows a place closes the names that are open there.
pub record Balancing (text froms tos : List ℕ) (count : ℕ) (place : Place) : Type 0 where
  pub within : PlaceIn text place
  pub same : is_balanced text ≡ closes_all (names text froms tos count) (tokens_at text place)
  pub few : count ≤ most_open
  pub begins : length froms ≡ most_open
  pub ends : length tos ≡ most_open
  pub named : (i : ℕ) → i < count → NameIn text (get_or froms i 0) (get_or tos i 0)

pub balancing_none : (text froms tos : List ℕ) → length froms ≡ most_open → length tos ≡ most_open → Balancing text froms tos 0 (Place.Text 0)
unfolding is_balanced names tokens_at
balancing_none text froms tos b e =
    record { within = omega arith; same = refl; few = omega arith; begins = b; ends = e; named = λ i l. absurd (omega arith) }

module _ (text froms tos : List ℕ) (count : ℕ) (place : Place) (p : Balancing text froms tos count place) where
  pub balance_end : tokens_at text place ≡ [] → eqb count 0 ≡ is_balanced text
  unfolding closes_all names
  balance_end e = sym (p.same ∙ ap (closes_all (names text froms tos count)) e ∙ by_count count)
    where
      by_count : (n : ℕ) → closes_all (names text froms tos n) [] ≡ eqb n 0
      by_count zero = refl
      by_count (suc n) = sym (ne_eqb (suc n) 0 (omega arith))

  pub balance_broken : tokens_at text place ≡ Broken ∷ [] → false ≡ is_balanced text
  balance_broken e = sym (p.same ∙ ap (closes_all (names text froms tos count)) e ∙ closes_broken (names text froms tos count) [])

  pub balance_past : (next : Place) → Passes (tokens_at text place) text (place_at place) next → Balancing text froms tos count next
  balance_past next q =
      record {
        within = q.within;
        same = p.same ∙ ap (closes_all (names text froms tos count)) q.same;
        few = p.few;
        begins = p.begins;
        ends = p.ends;
        named = p.named;
      }

  pub balance_byte : (b : ℕ) (next : Place) → Begins (tokens_at text place) text (Char b) next → Balancing text froms tos count next
  balance_byte b next q =
      record {
        within = q.within;
        same = p.same ∙ ap (closes_all (names text froms tos count)) q.first ∙ closes_byte (names text froms tos count) b (tokens_at text next);
        few = p.few;
        begins = p.begins;
        ends = p.ends;
        named = p.named;
      }

  -- A start tag: one element too many, or its name is open too.
  opened : (name : List ℕ) (next : Place) → Begins (tokens_at text place) text (Open name) next → is_balanced text ≡ (ltb count most_open && closes_all (name ∷ names text froms tos count) (tokens_at text next))
  opened name next q =
      p.same
      ∙ ap (closes_all (names text froms tos count)) q.first
      ∙ closes_open (names text froms tos count) name (tokens_at text next)
      ∙ ap (λ (n : ℕ). ltb n most_open && closes_all (name ∷ names text froms tos count) (tokens_at text next)) (names_count text froms tos count)

  pub balance_full : (name : List ℕ) (next : Place) → Begins (tokens_at text place) text (Open name) next → count ≡ most_open → false ≡ is_balanced text
  balance_full name next q e = sym (opened name next q ∙ rw (le-ltb count most_open (omega arith)))

  pub balance_open : (from to : ℕ) (next : Place) → Begins (tokens_at text place) text (Open (part from to text)) next → NameIn text from to → (count ≡ most_open → ⊥) → Balancing text (set froms count from) (set tos count to) (count + 1) next
  unfolding names
  balance_open from to next q n c =
      let lf : length froms ≡ most_open = p.begins in
      let lt : length tos ≡ most_open = p.ends in
      let few : count ≤ most_open = p.few in
      let l : count < most_open = omega arith in
      let f : get_or (set froms count from) count 0 ≡ from = get_or-set_same froms count from 0 (omega arith) in
      let t : get_or (set tos count to) count 0 ≡ to = get_or-set_same tos count to 0 (omega arith) in
      let older = names_set text froms tos count from to count (omega arith) in
      record {
        within = q.within;
        same = opened (part from to text) next q ∙ rw (lt-ltb count most_open l, add-one count, f, t, older);
        few = omega arith;
        begins = length-set froms count from ∙ lf;
        ends = length-set tos count to ∙ lt;
        named = λ i b. elim (dec_lt i count) [
          | yes h ↦
              let other : i ≡ count → ⊥ = omega arith in
              rw (get_or-set_other froms count i from 0 other, get_or-set_other tos count i to 0 other) (p.named i h)
          | no h ↦
              let e : i ≡ count = omega arith in
              rw (e, f, t) n
        ];
      }

  -- The innermost open name.
  pub balance_name : (count ≡ 0 → ⊥) → NameIn text (get_or froms (count - 1) 0) (get_or tos (count - 1) 0)
  balance_name c = p.named (count - 1) (omega arith)

  -- An end tag: nothing is open, another name is, or that name is closed.
  module _ (name : List ℕ) (next : Place) (q : Begins (tokens_at text place) text (Close name) next) where
    pub balance_outside : count ≡ 0 → false ≡ is_balanced text
    unfolding names closes_all
    balance_outside e = sym (p.same ∙ ap (closes_all (names text froms tos count)) q.first ∙ rw e)

    closed : (count ≡ 0 → ⊥) → is_balanced text ≡ (is_text (part (get_or froms (count - 1) 0) (get_or tos (count - 1) 0) text) name && closes_all (names text froms tos (count - 1)) (tokens_at text next))
    unfolding names closes_all
    closed c = p.same ∙ ap (closes_all (names text froms tos count)) q.first ∙ by_count count c
      where
        step : (n : ℕ) → suc n - 1 ≡ n
        step n = omega arith

        by_count : (n : ℕ) → (n ≡ 0 → ⊥) → closes_all (names text froms tos n) (Close name ∷ tokens_at text next) ≡ (is_text (part (get_or froms (n - 1) 0) (get_or tos (n - 1) 0) text) name && closes_all (names text froms tos (n - 1)) (tokens_at text next))
        by_count zero d = absurd (omega arith)
        by_count (suc n) d = rw (step n)

    pub balance_other : (count ≡ 0 → ⊥) → is_text (part (get_or froms (count - 1) 0) (get_or tos (count - 1) 0) text) name ≡ false → false ≡ is_balanced text
    balance_other c e = sym (closed c ∙ rw e)

    pub balance_close : (count ≡ 0 → ⊥) → is_text (part (get_or froms (count - 1) 0) (get_or tos (count - 1) 0) text) name ≡ true → Balancing text froms tos (count - 1) next
    balance_close c e =
        let few : count ≤ most_open = p.few in
        record {
          within = q.within;
          same = closed c ∙ rw e;
          few = omega arith;
          begins = p.begins;
          ends = p.ends;
          named = λ i l. p.named i (omega arith);
        }
