-- The tree of a balanced text, spelled out, is the text's tokens.
use mathlib.Core.Path.{◌≡◌, refl, ap, sym, ◌∙◌}
use mathlib.Core.Bool.{true, true≢false}
use mathlib.Core.List.{List, [], ◌∷◌, ◌++◌, append_assoc}
use Prim.Native.Nat.{ℕ}
use lib.ListN.{length}
use lib.Dec.{ltb}
use Rattle.text_bytes.specs.Text.{is_text}
use Rattle.text_bytes.proofs.Bytes.{and_true_both}
use Rattle.tape_markup.specs.Markup.{Token, Open, Close, Char, Broken, tokens_of}
use Rattle.tape_markup.specs.Tree.{Forest, most_open, closes_all, is_balanced, innermost, enclosing, frames, tree_of}
use Rattle.tape_markup.specs.Promises.{spelled, TreeSaysAll}
use Rattle.tape_markup.proofs.Names.{text_named}

-- What is left in the element around a place, its end tag, and so on outwards.
unfoldable spelled_from : List (List ℕ) → List Forest → List Token
spelled_from [] left = spelled (innermost left)
spelled_from (name ∷ names) left = spelled (innermost left) ++ (Close name ∷ spelled_from names (enclosing left))

all_spelled : (tokens : List Token) (names : List (List ℕ)) → closes_all names tokens ≡ true → spelled_from names (frames tokens) ≡ tokens
unfolding closes_all frames spelled_from spelled
all_spelled [] [] e = refl
all_spelled [] (name ∷ names) e = absurd (true≢false (sym e))
all_spelled (Open name ∷ tokens) [] e =
    ap (λ (l : List Token). Open name ∷ l) (all_spelled tokens (name ∷ []) e)
all_spelled (Open name ∷ tokens) (outer ∷ names) e =
    let left = frames tokens in
    let rest = Close outer ∷ spelled_from names (enclosing (enclosing left)) in
    ap (λ (l : List Token). Open name ∷ l)
    (append_assoc (spelled (innermost left)) (Close name ∷ spelled (innermost (enclosing left))) rest
    ∙ all_spelled tokens (name ∷ outer ∷ names) (and_true_both (ltb (length (outer ∷ names)) most_open) (closes_all (name ∷ outer ∷ names) tokens) e).1)
all_spelled (Close name ∷ tokens) [] e = absurd (true≢false (sym e))
all_spelled (Close name ∷ tokens) (opened ∷ names) e =
    let both = and_true_both (is_text opened name) (closes_all names tokens) e in
    let same : name ≡ opened = text_named opened name both.0 in
    rw same (ap (λ (l : List Token). Close opened ∷ l) (all_spelled tokens names both.1))
all_spelled (Char b ∷ tokens) [] e = ap (λ (l : List Token). Char b ∷ l) (all_spelled tokens [] e)
all_spelled (Char b ∷ tokens) (name ∷ names) e = ap (λ (l : List Token). Char b ∷ l) (all_spelled tokens (name ∷ names) e)
all_spelled (Broken ∷ tokens) [] e = absurd (true≢false (sym e))
all_spelled (Broken ∷ tokens) (name ∷ names) e = absurd (true≢false (sym e))

pub tree_says_all : TreeSaysAll
unfolding is_balanced tree_of spelled_from
tree_says_all text e = all_spelled (tokens_of text) [] e
