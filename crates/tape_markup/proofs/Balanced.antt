-- A text is balanced exactly when it spells a forest at most 32 deep, and it spells one forest at most: its tree.
use Prim.Native.Nat.{ℕ, ◌+◌, ◌≤◌}
use mathlib.Core.Path.{◌≡◌, refl, ap, sym, ◌∙◌}
use mathlib.Core.Bool.{Bool, true, ◌&&◌, true≢false}
use mathlib.Core.List.{List, [], ◌∷◌, ◌++◌, append_assoc, append-nil}
use native.Mathlib.Omega.{arith}
use lib.ListN.{length}
use lib.Dec.{ltb}
use borrow.Author.Tests.{ltb-true, lt-ltb}
use Rattle.text_bytes.specs.Text.{bytes, starts_with}
use Rattle.text_bytes.proofs.Bytes.{and_true_both}
use Rattle.tape_markup.specs.Markup.{Token, Open, Close, Char, tag_end, front_of, piece_of, tokens_behind, tokens_of}
use Rattle.tape_markup.specs.Tree.{Forest, none, char, element, most_open, closes_all, is_balanced, innermost, frame, frames, tree_of}
use Rattle.tape_markup.specs.Promises.{spelled, depth, SaysForest, BalancedExactly, SpellingIsOne, TreeIsTheForest}
use Rattle.tape_markup.proofs.Names.{closes_open, closes_byte, closes_same}
use Rattle.tape_markup.proofs.Spelled.{tree_says_all}

-- An element's spelling before other tokens.
element_before : (name : List ℕ) (inside later : Forest) (rest : List Token) → spelled (element name inside later) ++ rest ≡ Open name ∷ (spelled inside ++ (Close name ∷ (spelled later ++ rest)))
unfolding spelled
element_before name inside later rest =
    ap (λ (l : List Token). Open name ∷ l) (append_assoc (spelled inside) (Close name ∷ spelled later) rest)

-- What an element asks of the open names: room for its own, and then what stands in it and behind it.
closes_element : (names : List (List ℕ)) (name : List ℕ) (inside later : Forest) (rest : List Token) → closes_all names (spelled (element name inside later) ++ rest) ≡ (ltb (length names) most_open && closes_all (name ∷ names) (spelled inside ++ (Close name ∷ (spelled later ++ rest))))
closes_element names name inside later rest =
    ap (closes_all names) (element_before name inside later rest)
    ∙ closes_open names name (spelled inside ++ (Close name ∷ (spelled later ++ rest)))

-- A forest for which there is room leaves the open names as they were.
forest_passes : (forest : Forest) (names : List (List ℕ)) (rest : List Token) → length names + depth forest ≤ most_open → closes_all names (spelled forest ++ rest) ≡ closes_all names rest
unfolding spelled depth
forest_passes none names rest l = refl
forest_passes (char b later) names rest l = closes_byte names b (spelled later ++ rest) ∙ forest_passes later names rest l
forest_passes (element name inside later) names rest l =
    closes_element names name inside later rest
    ∙ ap (λ (t : Bool). t && closes_all (name ∷ names) (spelled inside ++ (Close name ∷ (spelled later ++ rest)))) (lt-ltb (length names) most_open (omega arith))
    ∙ forest_passes inside (name ∷ names) (Close name ∷ (spelled later ++ rest)) (omega arith)
    ∙ closes_same names name (spelled later ++ rest)
    ∙ forest_passes later names rest (omega arith)

-- A forest that passes is no deeper than there is room, and what follows it passes too.
record Passed (forest : Forest) (names : List (List ℕ)) (rest : List Token) : Type 0 where
  room : length names + depth forest ≤ most_open
  later : closes_all names rest ≡ true

forest_fits : (forest : Forest) (names : List (List ℕ)) (rest : List Token) → length names ≤ most_open → closes_all names (spelled forest ++ rest) ≡ true → Passed forest names rest
unfolding spelled depth
forest_fits none names rest l e = record { room = omega arith; later = e }
forest_fits (char b later) names rest l e =
    let p = forest_fits later names rest l (sym (closes_byte names b (spelled later ++ rest)) ∙ e) in
    record { room = p.room; later = p.later }
forest_fits (element name inside later) names rest l e =
    let both = and_true_both (ltb (length names) most_open) (closes_all (name ∷ names) (spelled inside ++ (Close name ∷ (spelled later ++ rest)))) (sym (closes_element names name inside later rest) ∙ e) in
    let less = ltb-true (length names) most_open both.0 in
    let within = forest_fits inside (name ∷ names) (Close name ∷ (spelled later ++ rest)) (omega arith) both.1 in
    let behind = forest_fits later names rest l (sym (closes_same names name (spelled later ++ rest)) ∙ within.later) in
    record { room = omega (arith, within.room, behind.room); later = behind.later }

-- From tokens that spell a forest and then close the element around it, that forest is read back.
read_before : (forest : Forest) (name : List ℕ) (rest : List Token) → frames (spelled forest ++ (Close name ∷ rest)) ≡ forest ∷ frames rest
unfolding spelled frames
read_before none name rest = refl
read_before (char b later) name rest = ap (frame (Char b)) (read_before later name rest)
read_before (element own inside later) name rest =
    ap frames (element_before own inside later (Close name ∷ rest))
    ∙ ap (frame (Open own)) (read_before inside own (spelled later ++ (Close name ∷ rest)) ∙ ap (λ (left : List Forest). inside ∷ left) (read_before later name rest))

read_back : (forest : Forest) → innermost (frames (spelled forest)) ≡ forest
unfolding spelled frames
read_back none = refl
read_back (char b later) = ap (char b) (read_back later)
read_back (element name inside later) =
    ap (λ (left : List Forest). innermost (frame (Open name) left)) (read_before inside name (spelled later))
    ∙ ap (element name inside) (read_back later)

pub spelling_is_one : SpellingIsOne
spelling_is_one one other e = cc (read_back one, read_back other)

pub tree_is_the_forest : TreeIsTheForest
unfolding tree_of
tree_is_the_forest text forest e = cc (read_back forest)

pub balanced_exactly : BalancedExactly
unfolding is_balanced closes_all
balanced_exactly text = (has_forest, by_forest)
  where
    has_forest : is_balanced text ≡ true → SaysForest text
    has_forest e =
        let says = tree_says_all text e in
        let fits = forest_fits (tree_of text) [] [] (omega arith) (ap (closes_all []) (append-nil (spelled (tree_of text)) ∙ says) ∙ e) in
        (tree_of text, omega (arith, fits.room), says)

    by_forest : SaysForest text → is_balanced text ≡ true
    by_forest f =
        ap (closes_all []) (sym (append-nil (spelled f.0) ∙ f.2)) ∙ forest_passes f.0 [] [] (omega (arith, f.1))

-- The promises speak of something: a text, and the forest by which it is balanced.
abbrev pub example_text : List ℕ
example_text = bytes "<a>7<b/></a>"

abbrev pub example_forest : Forest
example_forest = element (bytes "a") (char 55 (element (bytes "b") none none)) none

pub example_spelled : spelled example_forest ≡ tokens_of example_text
unfolding spelled tokens_behind piece_of starts_with front_of tag_end
example_spelled = refl

pub example_balanced : is_balanced example_text ≡ true
unfolding depth
example_balanced = (balanced_exactly example_text).1 (example_forest, omega arith, example_spelled)

-- And a text that no forest spells: its elements cross.
pub crossed_says_none : SaysForest (bytes "<a><b></a></b>") → ⊥
unfolding is_balanced closes_all tokens_behind piece_of starts_with front_of tag_end
crossed_says_none f = true≢false (sym ((balanced_exactly (bytes "<a><b></a></b>")).1 f))
