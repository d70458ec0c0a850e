-- A name decoded from left to right.
use Prim.Native.Nat.{ℕ, suc}
use mathlib.Core.Path.{◌≡◌, refl, ap, sym, ◌∙◌}
use mathlib.Core.Bool.{Bool, true, false, cond, not, ◌||◌, true≢false}
use mathlib.Core.List.{List, [], ◌∷◌, ◌++◌, append_assoc, append-nil}
use lib.ListN.{length, drop}
use lib.Dec.{eqb}
use borrow.Author.Tests.{eqb-true}
use Rattle.text_bytes.specs.Text.{bytes, has, before, starts_with, is_text, all_of, is_digit}
use Rattle.text_bytes.proofs.Bytes.{and_true_both}
use Rattle.text_bytes.proofs.Split.{has_here, before_here, key_split, whole_key}
use Rattle.text_references.specs.References.{ampersand, semicolon, is_hex_digit, numbered, character_of, reference_in, decoded_behind, decoded, utf8}
use Rattle.text_references.specs.Promises.{BytesSayThemselves, Written, BegunSaysItself, said_by, EndedSaysCharacter}

or_false_both : (a b : Bool) → (a || b) ≡ false → (a ≡ false) × (b ≡ false)
or_false_both true b e = absurd (true≢false e)
or_false_both false b e = (refl, e)

has_append : (c : ℕ) (a b : List ℕ) → has c a ≡ false → has c (a ++ b) ≡ has c b
unfolding has
has_append c [] b e = refl
has_append c (x ∷ a) b e = let both = or_false_both (eqb x c) (has c a) e in rw both.0 (has_append c a b both.1)

before_append : (c : ℕ) (a b : List ℕ) → has c a ≡ false → before c (a ++ b) ≡ a ++ before c b
unfolding has before
before_append c [] b e = refl
before_append c (x ∷ a) b e = let both = or_false_both (eqb x c) (has c a) e in rw both.0 (ap (λ t. x ∷ t) (before_append c a b both.1))

-- No character is written with a `&`.
clean_kind : (kind : ℕ → Bool) → kind ampersand ≡ false → (text : List ℕ) → all_of kind text ≡ true → has ampersand text ≡ false
unfolding all_of has
clean_kind kind k [] e = refl
clean_kind kind k (b ∷ text) e = go (eqb b ampersand) refl (clean_kind kind k text)
  where
    both : (kind b ≡ true) × (all_of kind text ≡ true)
    both = and_true_both (kind b) (all_of kind text) e

    go : (t : Bool) → eqb b ampersand ≡ t → (all_of kind text ≡ true → has ampersand text ≡ false) → (t || has ampersand text) ≡ false
    go true h rest = let is : b ≡ ampersand = eqb-true b ampersand h in absurd (true≢false (sym both.0 ∙ ap kind is ∙ k))
    go false h rest = rest both.1

not_named : (key written : List ℕ) → has ampersand key ≡ false → has ampersand written ≡ true → is_text key written ≡ false
not_named key written k e = go (is_text key written) refl
  where
    go : (t : Bool) → is_text key written ≡ t → t ≡ false
    go true h =
        let both = and_true_both (eqb (length key) (length written)) (starts_with key written) h in
        let is : written ≡ key = whole_key key written (eqb-true (length key) (length written) both.0) both.1 in
        absurd (true≢false (sym e ∙ ap (has ampersand) is ∙ k))
    go false h = refl

not_numbered : (kind : ℕ → Bool) (key written : List ℕ) (n : ℕ) → kind ampersand ≡ false → has ampersand key ≡ false → has ampersand written ≡ true
    → starts_with key written ≡ true → numbered (all_of kind (drop (length key) written)) n ≡ 0
not_numbered kind key written n k f e s = go (all_of kind (drop (length key) written)) refl
  where
    go : (t : Bool) → all_of kind (drop (length key) written) ≡ t → numbered t n ≡ 0
    go true h =
        let clean : has ampersand (drop (length key) written) ≡ false = clean_kind kind k (drop (length key) written) h in
        let same : has ampersand written ≡ has ampersand (drop (length key) written) = ap (has ampersand) (key_split key written s) ∙ has_append ampersand key (drop (length key) written) f in
        absurd (true≢false (sym e ∙ same ∙ clean))
    go false h = refl

no_character : (written : List ℕ) → has ampersand written ≡ true → character_of written ≡ 0
unfolding character_of has
no_character written e =
    rw (
      not_named (bytes "amp") written refl e,
      not_named (bytes "lt") written refl e,
      not_named (bytes "gt") written refl e,
      not_named (bytes "quot") written refl e,
      not_named (bytes "apos") written refl e,
    )
    (go (starts_with (bytes "#x") written) refl (starts_with (bytes "#") written) refl)
  where
    go : (x : Bool) → starts_with (bytes "#x") written ≡ x → (h : Bool) → starts_with (bytes "#") written ≡ h
        → cond x (numbered (all_of is_hex_digit (drop 2 written)) (Rattle.text_references.specs.References.hex_from 0 (drop 2 written)))
        (cond h (numbered (all_of is_digit (drop 1 written)) (Rattle.text_bytes.specs.Text.value_of (drop 1 written))) 0)
        ≡ 0
    go true x h b = not_numbered is_hex_digit (bytes "#x") written (Rattle.text_references.specs.References.hex_from 0 (drop 2 written)) refl refl e x
    go false x true b = not_numbered is_digit (bytes "#") written (Rattle.text_bytes.specs.Text.value_of (drop 1 written)) refl refl e b
    go false x false b = refl

-- Bytes that belong to a reference are passed over, and bytes without a `&` stand for themselves.
passed_over : (c : ℕ) (written rest : List ℕ) → decoded_behind (written ++ c ∷ rest) (suc (length written)) ≡ decoded rest
unfolding decoded_behind
passed_over c [] rest = refl
passed_over c (b ∷ written) rest = passed_over c written rest

plain_bytes_lem : (text rest : List ℕ) → has ampersand text ≡ false → decoded (text ++ rest) ≡ text ++ decoded rest
unfolding decoded_behind has
plain_bytes_lem [] rest e = refl
plain_bytes_lem (b ∷ text) rest e =
    let both = or_false_both (eqb b ampersand) (has ampersand text) e in
    rw both.0 (ap (λ t. b ∷ t) (plain_bytes_lem text rest both.1))

-- A `&` that begins no reference.
stands_alone : (text : List ℕ) → reference_in text ≡ 0 → decoded (ampersand ∷ text) ≡ ampersand ∷ decoded text
unfolding decoded_behind
stands_alone text e = rw e

unended_alone : (written : List ℕ) → Written written → decoded (ampersand ∷ written) ≡ ampersand ∷ written
unfolding reference_in decoded_behind
unended_alone written w =
    stands_alone written (rw w.unended) ∙ ap (λ t. ampersand ∷ t) (ap decoded (sym (append-nil written)) ∙ plain_bytes_lem written [] w.alone ∙ append-nil written)

again_none : (written rest : List ℕ) → Written written → reference_in (written ++ ampersand ∷ rest) ≡ 0
unfolding reference_in before has
again_none written rest w =
    rw (has_append semicolon written (ampersand ∷ rest) w.unended, before_append semicolon written (ampersand ∷ rest) w.unended) (go (has semicolon rest))
  where
    go : (b : Bool) → cond b (character_of (written ++ ampersand ∷ before semicolon rest)) 0 ≡ 0
    go true = no_character (written ++ ampersand ∷ before semicolon rest) (has_here ampersand written (before semicolon rest))
    go false = refl

again_alone : (written rest : List ℕ) → Written written → decoded (ampersand ∷ written ++ ampersand ∷ rest) ≡ ampersand ∷ written ++ decoded (ampersand ∷ rest)
again_alone written rest w = stands_alone (written ++ ampersand ∷ rest) (again_none written rest w) ∙ ap (λ t. ampersand ∷ t) (plain_bytes_lem written (ampersand ∷ rest) w.alone)

pub bytes_say_themselves : BytesSayThemselves
unfolding decoded_behind
bytes_say_themselves text b p e =
    let one : decoded (b ∷ []) ≡ b ∷ [] = rw e in
    let said : decoded (text ++ b ∷ []) ≡ decoded text ++ b ∷ [] = p (b ∷ []) ∙ ap (λ t. decoded text ++ t) one in
    record {
      ended = λ rest. ap decoded (append_assoc text (b ∷ []) rest) ∙ p (b ∷ rest) ∙ sym (ap (λ t. t ++ decoded rest) said ∙ append_assoc (decoded text) (b ∷ []) (decoded rest) ∙ rw e);
      said = said;
    }

pub begun_says_itself : BegunSaysItself
begun_says_itself text written p w =
    let said : decoded (text ++ ampersand ∷ written) ≡ decoded text ++ ampersand ∷ written = p written ∙ ap (λ t. decoded text ++ t) (unended_alone written w) in
    record {
      ended = λ rest.
          ap decoded (append_assoc text (ampersand ∷ written) (ampersand ∷ rest))
          ∙ p (written ++ ampersand ∷ rest)
          ∙ ap (λ t. decoded text ++ t) (again_alone written rest w)
          ∙ sym (ap (λ t. t ++ decoded (ampersand ∷ rest)) said ∙ append_assoc (decoded text) (ampersand ∷ written) (decoded (ampersand ∷ rest)));
      said = said;
    }

-- A `;` ends what is written.
ended_here : (written rest : List ℕ) → Written written → decoded (ampersand ∷ written ++ semicolon ∷ rest) ≡ said_by written ++ decoded rest
unfolding decoded_behind reference_in
ended_here written rest w =
    rw (has_here semicolon written rest, before_here semicolon written rest w.unended) (go (eqb (character_of written) 0))
  where
    go : (b : Bool) → cond (not b) (utf8 (character_of written) ++ decoded_behind (written ++ semicolon ∷ rest) (suc (length written))) (ampersand ∷ decoded (written ++ semicolon ∷ rest))
        ≡ cond b (ampersand ∷ written ++ semicolon ∷ []) (utf8 (character_of written)) ++ decoded rest
    go true = ap (λ t. ampersand ∷ t) (plain_bytes_lem written (semicolon ∷ rest) w.alone ∙ sym (append_assoc written (semicolon ∷ []) (decoded rest)))
    go false = ap (λ t. utf8 (character_of written) ++ t) (passed_over semicolon written rest)

pub ended_says_character : EndedSaysCharacter
unfolding decoded_behind
ended_says_character text written p w =
    let said : decoded (text ++ ampersand ∷ (written ++ semicolon ∷ [])) ≡ decoded text ++ said_by written = p (written ++ semicolon ∷ []) ∙ ap (λ t. decoded text ++ t) (ended_here written [] w ∙ append-nil (said_by written)) in
    record {
      ended = λ rest.
          ap decoded (append_assoc text (ampersand ∷ (written ++ semicolon ∷ [])) rest ∙ ap (λ t. text ++ ampersand ∷ t) (append_assoc written (semicolon ∷ []) rest))
          ∙ p (written ++ semicolon ∷ rest)
          ∙ ap (λ t. decoded text ++ t) (ended_here written rest w)
          ∙ sym (ap (λ t. t ++ decoded rest) said ∙ append_assoc (decoded text) (said_by written) (decoded rest));
      said = said;
    }
