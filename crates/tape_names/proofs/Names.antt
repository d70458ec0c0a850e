-- A name from left to right: the range of what is read so far, and the one before the last `&`, say what the whole name says.
use Prim.Native.Nat.{ℕ, ◌+◌, ◌<◌}
use mathlib.Core.Path.{◌≡◌, refl, ap, sym, ◌∙◌}
use mathlib.Core.Bool.{Bool, true, false, cond}
use mathlib.Core.List.{List, [], ◌∷◌, ◌++◌, append_assoc, append-nil}
use lib.ListN.{length, get_or, take}
use lib.Seq.{append_snoc}
use lib.Dec.{eqb}
use Rattle.std.proofs.lemmas.List.{take_more}
use borrow.Author.Tests.{eqb-true}
use Rattle.text_bytes.specs.Text.{bytes, has}
use Rattle.text_bytes.proofs.Decimals.{has_append}
use Rattle.text_references.specs.declared.Reading.{Reading}
use Rattle.text_references.specs.References.{ampersand, semicolon, character_of, utf8, decoded_behind, decoded}
use Rattle.text_references.specs.Readings.{unread, read_next, read_behind, character_in}
use Rattle.text_references.specs.Promises.{Ended, EndedBy, Written}
use Rattle.text_references.proofs.Written.{readings_say_characters}
use Rattle.text_references.proofs.Streams.{bytes_say_themselves, begun_says_itself, ended_says_character}
use Rattle.tape_markup.specs.declared.Place.{Place}
use Rattle.tape_markup.specs.Places.{PlaceIn}
use Rattle.tape_markup.specs.Tree.{Forest}
use Rattle.tape_files.specs.Index.{flattened, chars_of, insides, under, values_at}
use Rattle.tape_files.specs.Elements.{inside, ByteAt, NoByte}
use Rattle.tape_files.specs.NamedFiles.{own_name}
use Rattle.text_order.specs.declared.Range.{Range}
use Rattle.text_order.specs.Order.{narrowed_in, narrowed_all}
use Rattle.text_order.proofs.Prefixes.{narrowed_append, narrowed_one}
use Rattle.tape_names.specs.declared.Naming.{Naming}
use Rattle.std.specs.Prelude.{Option, Some, None}
use Rattle.tape_names.specs.declared.Begun.{Begun}
use Rattle.tape_names.specs.Private.{no_naming, said_from, begun_by, with_byte}

-- One more byte of a text.
pub narrowed_next : (list starts ends order : List ℕ) (range one next : Range) (text : List ℕ) (i : ℕ) → one ≡ narrowed_all list starts ends order range (take i text) → i < length text
    → next ≡ narrowed_in list starts ends order one (get_or text i 0) → next ≡ narrowed_all list starts ends order range (take (i + 1) text)
narrowed_next list starts ends order range one next text i e l n = n ∙ rw (e, take_more text i 0 l) (sym (narrowed_one list starts ends order range (take i text) (get_or text i 0)))

-- One more byte behind a `&`.
read_behind_one : (reading : Reading) (written : List ℕ) (b : ℕ) → read_behind reading (written ++ b ∷ []) ≡ read_next (read_behind reading written) b
unfolding read_behind
read_behind_one reading [] b = refl
read_behind_one reading (x ∷ written) b = read_behind_one (read_next reading x) written b

written_none : Written []
unfolding has
written_none = record { unended = refl; alone = refl }

written_more : (written : List ℕ) (b : ℕ) → Written written → eqb b semicolon ≡ false → eqb b ampersand ≡ false → Written (written ++ b ∷ [])
unfolding has
written_more written b w s a = record { unended = rw (has_append semicolon written (b ∷ []), w.unended, s); alone = rw (has_append ampersand written (b ∷ []), w.alone, a) }

module _ (list starts ends order : List ℕ) (range : Range) where
  abbrev range_of : List ℕ → Range
  range_of said = narrowed_all list starts ends order range said

  -- What was read ends with a `&` and what was written behind it.
  record BegunBy (read : List ℕ) (begun : Begun) : Type 0 where
    text : List ℕ
    written : List ℕ
    is : read ≡ text ++ ampersand ∷ written
    ended : EndedBy text
    clean : Written written
    before : begun.before ≡ range_of (decoded text)
    reading : begun.reading ≡ read_behind unread written

  abbrev Standing : Option Begun → List ℕ → Type 0
  Standing (Some begun) read = BegunBy read begun
  Standing None read = Ended read

  record NameRead (read : List ℕ) (naming : Naming) : Type 0 where
    whole : naming.whole ≡ range_of (decoded read)
    standing : Standing naming.begun read

  ended_by : (begun : Option Begun) (read : List ℕ) → Standing begun read → EndedBy read
  ended_by (Some begun) read q = rw q.is (begun_says_itself q.text q.written q.ended q.clean).ended
  ended_by None read q = λ rest. q (ampersand ∷ rest)

  module _ (read : List ℕ) (naming : Naming) (p : NameRead read naming) (byte : ℕ) where
    abbrev longer : Range
    longer = narrowed_in list starts ends order naming.whole byte

    longer_is : longer ≡ range_of (decoded read ++ byte ∷ [])
    longer_is = rw p.whole (sym (narrowed_one list starts ends order range (decoded read) byte))

    -- A `&`.
    read_and : eqb byte ampersand ≡ true → NameRead (read ++ byte ∷ []) (record { whole = longer; begun = Some (record { before = naming.whole; reading = unread }) })
    unfolding read_behind
    read_and e =
        let is : byte ≡ ampersand = eqb-true byte ampersand e in
        let b : EndedBy read = ended_by naming.begun read p.standing in
        record {
          whole = longer_is ∙ rw is (ap range_of (sym (begun_says_itself read [] b written_none).said));
          standing = record { text = read; written = []; is = rw is; ended = b; clean = written_none; before = p.whole; reading = refl };
        }

    module _ (plain : eqb byte ampersand ≡ false) where
      -- A byte behind no `&`.
      read_plain : Ended read → NameRead (read ++ byte ∷ []) (record { whole = longer; begun = None })
      read_plain q =
          let d = bytes_say_themselves read byte q plain in
          record { whole = longer_is ∙ ap range_of (sym d.said); standing = d.ended }

      module _ (begun : Begun) (q : BegunBy read begun) where
        said_so_far : decoded read ++ byte ∷ [] ≡ decoded q.text ++ ampersand ∷ (q.written ++ byte ∷ [])
        said_so_far =
            ap (λ t. t ++ byte ∷ []) (ap decoded q.is ∙ (begun_says_itself q.text q.written q.ended q.clean).said)
            ∙ append_assoc (decoded q.text) (ampersand ∷ q.written) (byte ∷ [])

        read_so_far : read ++ byte ∷ [] ≡ q.text ++ ampersand ∷ (q.written ++ byte ∷ [])
        read_so_far = ap (λ t. t ++ byte ∷ []) q.is ∙ append_assoc q.text (ampersand ∷ q.written) (byte ∷ [])

        -- A byte that is no `;`.
        read_on_here : eqb byte semicolon ≡ false → NameRead (read ++ byte ∷ []) (record { whole = longer; begun = Some (record { before = begun.before; reading = read_next begun.reading byte }) })
        read_on_here e =
            let w = written_more q.written byte q.clean e plain in
            let said = (begun_says_itself q.text (q.written ++ byte ∷ []) q.ended w).said in
            record {
              whole = longer_is ∙ ap range_of (said_so_far ∙ sym (ap decoded read_so_far ∙ said));
              standing = record {
                text = q.text;
                written = q.written ++ byte ∷ [];
                is = read_so_far;
                ended = q.ended;
                clean = w;
                before = q.before;
                reading = rw q.reading (sym (read_behind_one unread q.written byte));
              };
            }

        -- A `;`: the character that was written, or all of it as it stands.
        either : (t : Bool) → byte ≡ semicolon
            → cond t longer (narrowed_all list starts ends order begun.before (utf8 (character_of q.written)))
            ≡ range_of (decoded q.text ++ cond t (ampersand ∷ (q.written ++ semicolon ∷ [])) (utf8 (character_of q.written)))
        either true is = longer_is ∙ ap range_of said_so_far ∙ rw is
        either false is = rw q.before (sym (narrowed_append list starts ends order range (decoded q.text) (utf8 (character_of q.written))))

        read_end : eqb byte semicolon ≡ true
            → NameRead (read ++ byte ∷ [])
            (record { whole = said_from list starts ends order begun.before longer begun.reading; begun = None })
        unfolding said_from
        read_end e =
            let is : byte ≡ semicolon = eqb-true byte semicolon e in
            let d = ended_says_character q.text q.written q.ended q.clean in
            let all : read ++ byte ∷ [] ≡ q.text ++ ampersand ∷ (q.written ++ semicolon ∷ []) = read_so_far ∙ rw is in
            let found : character_in begun.reading ≡ character_of q.written = ap character_in q.reading ∙ readings_say_characters q.written in
            record {
              whole = rw found (either (eqb (character_of q.written) 0) is ∙ ap range_of (sym (ap decoded all ∙ d.said)));
              standing = rw all d.ended;
            }

    read_byte : NameRead (read ++ byte ∷ []) (with_byte list starts ends order naming byte)
    unfolding with_byte
    read_byte = go (eqb byte ampersand) refl naming.begun p.standing (eqb byte semicolon) refl
      where
        go : (a : Bool) → eqb byte ampersand ≡ a → (b : Option Begun) → Standing b read → (s : Bool) → eqb byte semicolon ≡ s
            → NameRead (read ++ byte ∷ [])
            (cond a (record { whole = longer; begun = Some (record { before = naming.whole; reading = unread }) }) (begun_by list starts ends order b byte longer))
        go true a b q s e = read_and a
        go false a (Some begun) q true e = rw e (read_end a begun q e)
        go false a (Some begun) q false e = rw e (read_on_here a begun q e)
        go false a None q s e = read_plain a q

  -- The bytes of a name, one after the other.
  unfoldable pub namingFrom : Naming → List ℕ → Naming
  namingFrom naming [] = naming
  namingFrom naming (byte ∷ bytes) = namingFrom (with_byte list starts ends order naming byte) bytes

  name_read_here : (rest read : List ℕ) (naming : Naming) → NameRead read naming → (namingFrom naming rest).whole ≡ range_of (decoded (read ++ rest))
  unfolding namingFrom
  name_read_here [] read naming p = rw (append-nil read) p.whole
  name_read_here (b ∷ rest) read naming p =
      rw (← append_snoc read b rest) (name_read_here rest (read ++ b ∷ []) (with_byte list starts ends order naming b) (read_byte read naming p b))

  name_said : (name : List ℕ) → (namingFrom (no_naming range) name).whole ≡ range_of (decoded name)
  unfolding decoded_behind narrowed_all
  name_said name = name_read_here name [] (no_naming range) (record { whole = refl; standing = λ rest. refl })

  -- A reader somewhere in a name: the bytes left make of what is known what all make.
  pub record NameLeft (text : List ℕ) (place : Place) (naming : Naming) (here : Place) : Type 0 where
    pub within : PlaceIn text here
    pub same : namingFrom naming (chars_of (inside text here)) ≡ namingFrom (no_naming range) (chars_of (inside text place))

  module _ (text : List ℕ) (place : Place) (naming : Naming) (here : Place) (p : NameLeft text place naming here) where
    pub left_byte : (byte : ℕ) (next : Place) → ByteAt text here byte next → (later : Naming) → later ≡ with_byte list starts ends order naming byte → NameLeft text place later next
    unfolding namingFrom
    left_byte byte next m later e =
        record { within = m.within; same = ap (λ (n : Naming). namingFrom n (chars_of (inside text next))) e ∙ sym (ap (namingFrom naming) m.here) ∙ p.same }

    pub left_over : (next : Place) → NoByte text here next → naming.whole ≡ range_of (decoded (chars_of (inside text place)))
    unfolding namingFrom
    left_over next n = ap (λ (n : Naming). n.whole) (sym (ap (namingFrom naming) n.none) ∙ p.same) ∙ name_said (chars_of (inside text place))

  -- The first `name` in an element, or none.
  module _ (held : Forest) where
    pub name_missing : insides (bytes "name") held ≡ [] → range ≡ range_of (own_name held)
    unfolding own_name values_at under flattened decoded_behind narrowed_all
    name_missing e = rw e

    pub name_first : (first : Forest) (more : List Forest) → insides (bytes "name") held ≡ first ∷ more → (r : Range) → r ≡ range_of (decoded (chars_of first)) → r ≡ range_of (own_name held)
    unfolding own_name values_at under flattened
    name_first first more e r s = s ∙ rw e
