-- The range of what was read: of one byte more, of a name, and below an element.
use Prim.Native.Nat.{ℕ, zero, suc, ◌-◌, ◌%◌, ◌≤◌, ◌<◌}
use Prim.Native.Char.{code}
use mathlib.Core.Path.{◌≡◌, refl}
use mathlib.Core.Bool.{Bool, true, false, cond, not, false≢true}
use mathlib.Core.List.{List, [], ◌∷◌, ◌++◌}
use native.Mathlib.Omega.{arith}
use lib.Dec.{eqb, leb}
use borrow.Author.Tests.{leb-true}
use Rattle.text_bytes.specs.Text.{starts_with}
use Rattle.text_bytes.proofs.Bytes.{and_true_both}
use Rattle.text_order.specs.declared.Range.{Range}
use Rattle.text_order.specs.Order.{path_at, narrowed_all}
use Rattle.text_order.specs.Promises.{RangeHolds}
use Rattle.text_order.proofs.Prefixes.{names_narrow}
use Rattle.tape_markup.specs.Tree.{Forest}
use Rattle.tape_files.specs.Index.{Level, outside, in_index, in_directory, in_contents}
use Rattle.tape_files.specs.NamedFiles.{own_name, path_below}
use Rattle.tape_files.specs.Elements.{level_at}
use Rattle.tape_picks.specs.Private.{ListHeld, named_range, is_contents, slashed, below_range}

-- How deep means where.
pub shallow_level : (depth : ℕ) → depth < 2 → false ≡ is_contents (level_at depth)
unfolding level_at
shallow_level zero l = refl
shallow_level (suc zero) l = refl
shallow_level (suc (suc depth)) l = absurd (omega arith)

pub deep_level : (depth : ℕ) → 2 ≤ depth → not (eqb ((depth - 2) % 2) 0) ≡ is_contents (level_at depth)
unfolding level_at
deep_level zero l = absurd (omega arith)
deep_level (suc zero) l = absurd (omega arith)
deep_level (suc (suc depth)) l = let e : suc (suc depth) - 2 ≡ depth = omega arith in rw e (go (eqb (depth % 2) 0))
  where
    go : (b : Bool) → not b ≡ is_contents (cond b in_directory in_contents)
    go true = refl
    go false = refl

-- What begins with more begins with less.
begun_before : (read more path : List ℕ) → starts_with (read ++ more) path ≡ true → starts_with read path ≡ true
unfolding starts_with
begun_before [] more path e = refl
begun_before (k ∷ read) more [] e = absurd (false≢true e)
begun_before (k ∷ read) more (b ∷ path) e =
    let both = and_true_both (eqb k b) (starts_with (read ++ more) path) e in
    rw both.0 (begun_before read more path both.1)

-- A range without paths stays so.
range_stays : (path : ℕ → List ℕ) (count : ℕ) (read more : List ℕ) (range : Range) → RangeHolds path count read range → range.high ≤ range.low → RangeHolds path count (read ++ more) range
range_stays path count read more range p e =
    record {
      long = λ l. absurd (omega arith);
      ordered = p.ordered;
      within = p.within;
      exactly = λ j l. (
        (λ h. absurd (omega (arith, h.0, h.1))),
        (λ h. let q = (p.exactly j l).1 (begun_before read more (path j) h) in absurd (omega (arith, q.0, q.1))),
      );
    }

module _ (list starts ends order : List ℕ) (count : ℕ) (held : ListHeld list starts ends order count) where
  abbrev pathHere : ℕ → List ℕ
  pathHere = path_at list starts ends order

  range_slashed : (read : List ℕ) (range : Range) → RangeHolds pathHere count read range → RangeHolds pathHere count (read ++ code "/" ∷ []) (slashed list starts ends order range)
  unfolding narrowed_all
  range_slashed read range p = names_narrow list starts ends order count held.sorted held.short (code "/" ∷ []) read range p

  pub range_named : (read : List ℕ) (range : Range) → RangeHolds pathHere count read range → (inner : Forest) → RangeHolds pathHere count (read ++ own_name inner) (named_range list starts ends order range inner)
  unfolding named_range
  range_named read range p inner = go (leb range.high range.low) refl
    where
      go : (t : Bool) → leb range.high range.low ≡ t
          → RangeHolds pathHere count (read ++ own_name inner) (cond t range (narrowed_all list starts ends order range (own_name inner)))
      go true e = let l = leb-true range.high range.low e in range_stays pathHere count read (own_name inner) range p l
      go false e = names_narrow list starts ends order count held.sorted held.short (own_name inner) read range p

  pub range_below : (read : List ℕ) (range : Range) → RangeHolds pathHere count read range → (depth : ℕ) (inner : Forest)
      → RangeHolds pathHere count (path_below (level_at depth) read inner) (below_range list starts ends order range depth inner)
  unfolding below_range
  range_below read range p depth inner = go (level_at depth)
    where
      go : (level : Level) → RangeHolds pathHere count (path_below level read inner) (cond (is_contents level) (slashed list starts ends order (named_range list starts ends order range inner)) range)
      go outside = p
      go in_index = p
      go in_directory = p
      go in_contents = range_slashed (read ++ own_name inner) (named_range list starts ends order range inner) (range_named read range p inner)
