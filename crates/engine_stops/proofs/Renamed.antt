-- Lists of the joined table and lists by first files: the same rules hold of both, and each list of the one kind is one of the other.
use Prim.Native.Nat.{ℕ, zero, suc, ◌+◌, ◌-◌, ◌≤◌, ◌<◌}
use mathlib.Core.Path.{◌≡◌, refl, sym, ap, ◌∙◌}
use mathlib.Core.Bool.{true, false, not, cond, ◌||◌, true≢false, or-true}
use mathlib.Core.Logic.{⊎_elim}
use mathlib.Core.List.{List, [], ◌∷◌, map}
use native.Mathlib.Omega.{arith}
use native.Mathlib.Nat.{eq-or-lt_of_le}
use native.Mathlib.Decide.{dec_lt}
use lib.ListN.{length, length-map}
use lib.Seq.{ext_get_or}
use lib.Dec.{ltb, leb, eqb}
use borrow.Author.Tests.{eqb-true, eq-eqb}
use Rattle.runs.specs.Run.{Stop}
use Rattle.runs.specs.Rows.{stop_at}
use Rattle.runs.specs.Lists.{Detour, wanted, leftmost, bad_alone, bad_after, bad_entry, any_below, entry_of, first_bad_entry, WellFormed}
use Rattle.runs.proofs.Search.{ltb_same, leb_not_ltb, true_or_false, first_same, any_same}
use Rattle.runs.proofs.Sound.{Sound}
use Rattle.runs.proofs.Formed.{names_rise, formed_names}
use Rattle.engine_stops.specs.Private.{renumbered, name_of, entry_named, list_named}

-- A number of the joined table.
pub record Within (ss : List Stop) (a : ℕ) : Type 0 where
  pub least : 0 < a
  pub most : a ≤ length ss

-- Which numbers are wanted there: all of them.
wanted_counted : (n : ℕ) (ss : List Stop) (a : ℕ) → n ≤ a → a < n + length ss → wanted (renumbered n ss) a ≡ true
unfolding renumbered wanted
wanted_counted n [] a l h = absurd (omega arith)
wanted_counted n (s ∷ ss) a l h =
    let rest = wanted_counted (suc n) ss a in
    ⊎_elim
    (λ (e : n ≡ a). rw (eq-eqb n a e))
    (λ (lt : n < a). rw (rest lt (omega arith), or-true))
    (eq-or-lt_of_le l)

counted_wanted : (n : ℕ) (ss : List Stop) (a : ℕ) → wanted (renumbered n ss) a ≡ true → (n ≤ a) × (a < n + length ss)
unfolding renumbered wanted
counted_wanted n [] a w = absurd (true≢false (sym w))
counted_wanted n (s ∷ ss) a w =
    let rest = counted_wanted (suc n) ss a in
    ⊎_elim
    (λ (here : eqb n a ≡ true). let e = eqb-true n a here in (omega (arith, e), omega (arith, e)))
    (λ (away : eqb n a ≡ false). let later = rest (rw away at w) in (omega (arith, later.0), omega (arith, later.1)))
    (true_or_false (eqb n a))

pub within_wanted : (ss : List Stop) (a : ℕ) → wanted (renumbered 1 ss) a ≡ true → Within ss a
within_wanted ss a w = let b = counted_wanted 1 ss a w in record { least = omega (arith, b.0); most = omega (arith, b.1) }

wanted_within : (ss : List Stop) (a : ℕ) → Within ss a → wanted (renumbered 1 ss) a ≡ true
wanted_within ss a w = wanted_counted 1 ss a (omega (arith, w.least)) (omega (arith, w.most))

-- Every stop's name is wanted.
wanted_name : (ss : List Stop) (i : ℕ) → i < length ss → wanted ss (stop_at ss i).file ≡ true
unfolding wanted
wanted_name [] i l = absurd (omega arith)
wanted_name (s ∷ ss) zero l = rw (eq-eqb s.file s.file refl)
wanted_name (s ∷ ss) (suc i) l = rw (wanted_name ss i (omega arith), or-true)

-- The number of a name: where it stands.
unfoldable pub index_of : List Stop → ℕ → ℕ
index_of [] f = 0
index_of (s ∷ ss) f = cond (eqb s.file f) 1 (suc (index_of ss f))

pub record Indexed (ss : List Stop) (f : ℕ) : Type 0 where
  pub within : Within ss (index_of ss f)
  pub is : name_of ss (index_of ss f) ≡ f

step_back : (s : Stop) (ss : List Stop) (i : ℕ) → 0 < i → (stop_at (s ∷ ss) (suc i - 1)).file ≡ (stop_at ss (i - 1)).file
step_back s ss zero l = absurd (omega arith)
step_back s ss (suc i) l =
    let a : suc (suc i) - 1 ≡ suc i = omega arith in
    let b : suc i - 1 ≡ i = omega arith in
    rw (a, b) refl

pub indexed : (ss : List Stop) (f : ℕ) → wanted ss f ≡ true → Indexed ss f
unfolding wanted index_of
indexed [] f w = absurd (true≢false (sym w))
indexed (s ∷ ss) f w =
    let rest = indexed ss f in
    ⊎_elim
    (λ (here : eqb s.file f ≡ true). record { within = record { least = rw here (omega arith); most = rw here (omega arith) }; is = rw here (eqb-true _ _ here) })
    (λ (away : eqb s.file f ≡ false).
    let later = rest (rw away at w) in
    record {
      within = record { least = rw away (omega arith); most = rw away (omega (arith, later.within.most)) };
      is = rw away (step_back s ss (index_of ss f) later.within.least ∙ later.is);
    })
    (true_or_false (eqb s.file f))

abbrev entry_indexed : List Stop → Detour → Detour
entry_indexed ss d = record { from = index_of ss d.from; to = index_of ss d.to }

module _ (ss : List Stop) (m : ℕ) (ok : Sound ss m) where
  -- Names rise with the numbers, so every comparison says the same of both.
  pub numbers_name : (a b : ℕ) → Within ss a → Within ss b → a < b → name_of ss a < name_of ss b
  numbers_name a b x y l = names_rise ss m ok (a - 1) (b - 1) (omega (arith, x.least)) (omega (arith, y.least, y.most))

  names_keep : (a b : ℕ) → Within ss a → Within ss b → a ≤ b → name_of ss a ≤ name_of ss b
  names_keep a b x y l =
      ⊎_elim (λ (e : a ≡ b). rw e (omega arith)) (λ (lt : a < b). omega (arith, numbers_name a b x y lt)) (eq-or-lt_of_le l)

  less_same : (a b : ℕ) → Within ss a → Within ss b → ltb a b ≡ ltb (name_of ss a) (name_of ss b)
  less_same a b x y =
      ltb_same a b (name_of ss a) (name_of ss b) (numbers_name a b x y)
      (λ l. elim (dec_lt a b) [ yes lt ↦ lt | no n ↦ absurd (back l n) ])
    where
      back : name_of ss a < name_of ss b → ¬ (a < b) → ⊥
      back l n = omega (arith, names_keep b a y x (down n))
        where
          down : ¬ (a < b) → b ≤ a
          down k = omega arith

  at_most_same : (a b : ℕ) → Within ss a → Within ss b → leb a b ≡ leb (name_of ss a) (name_of ss b)
  at_most_same a b x y = leb_not_ltb a b ∙ ap not (less_same b a y x) ∙ sym (leb_not_ltb (name_of ss a) (name_of ss b))

  name_wanted_here : (a : ℕ) → Within ss a → wanted ss (name_of ss a) ≡ true
  name_wanted_here a x = wanted_name ss (a - 1) (omega (arith, x.least, x.most))

  leftmost_counted : 0 < length ss → (leftmost (renumbered 1 ss) ≡ 1) × (leftmost ss ≡ name_of ss 1)
  unfolding renumbered
  leftmost_counted l = first ss l
    where
      first : (ts : List Stop) → 0 < length ts → (leftmost (renumbered 1 ts) ≡ 1) × (leftmost ts ≡ name_of ts 1)
      first [] h = absurd (omega arith)
      first (t ∷ ts) h = (refl, refl)

  -- An entry by itself, and against another.
  pub record InTable (d : Detour) : Type 0 where
    pub from : Within ss d.from
    pub to : Within ss d.to

  alone_same : (d : Detour) → InTable d → bad_alone (renumbered 1 ss) d ≡ bad_alone ss (entry_named ss d)
  alone_same d x =
      let some : 0 < length ss = omega (arith, x.from.least, x.from.most) in
      let left = leftmost_counted some in
      rw (
        wanted_within ss d.from x.from,
        wanted_within ss d.to x.to,
        name_wanted_here d.from x.from,
        name_wanted_here d.to x.to,
        left.0,
        left.1,
        less_same d.to d.from x.to x.from,
        at_most_same d.from 1 x.from (record { least = omega arith; most = some }),
      )

  after_same : (e d : Detour) → InTable e → InTable d → bad_after e d ≡ bad_after (entry_named ss e) (entry_named ss d)
  after_same e d x y =
      rw (
        at_most_same e.from d.from x.from y.from,
        less_same d.to e.from y.to x.from,
        less_same e.to d.to x.to y.to,
      )

  named_entry : (list : List Detour) (i : ℕ) → i < length list → entry_of (list_named ss list) i ≡ entry_named ss (entry_of list i)
  unfolding list_named
  named_entry [] i l = absurd (omega arith)
  named_entry (d ∷ list) zero l = refl
  named_entry (d ∷ list) (suc i) l = named_entry list i (omega arith)

  named_length : (list : List Detour) → length (list_named ss list) ≡ length list
  unfolding list_named
  named_length list = length-map list (entry_named ss)

  module _ (list : List Detour) (all : (i : ℕ) → i < length list → InTable (entry_of list i)) where
    bad_same_here : (i : ℕ) → i < length list → bad_entry (renumbered 1 ss) list i ≡ bad_entry ss (list_named ss list) i
    bad_same_here i l =
        rw (
          any_same
              (λ j. bad_after (entry_of (list_named ss list) j) (entry_of (list_named ss list) i))
              (λ j. bad_after (entry_of list j) (entry_of list i))
              i
              (λ j h. rw (named_entry list j (omega arith), named_entry list i l) (sym (after_same (entry_of list j) (entry_of list i) (all j (omega arith)) (all i l)))),
          named_entry list i l,
        )
        (ap (λ b. b || any_below (λ j. bad_after (entry_of list j) (entry_of list i)) i) (alone_same (entry_of list i) (all i l)))

    pub first_bad_same : first_bad_entry (renumbered 1 ss) list ≡ first_bad_entry ss (list_named ss list)
    unfolding first_bad_entry
    first_bad_same = rw (named_length list) (first_same (bad_entry (renumbered 1 ss) list) (bad_entry ss (list_named ss list)) (length list) bad_same_here)

  pub formed_within : (list : List Detour) → WellFormed (renumbered 1 ss) list → (i : ℕ) → i < length list → InTable (entry_of list i)
  formed_within list f i l =
      let w = formed_names (renumbered 1 ss) list f i l in
      record { from = within_wanted ss _ w.0; to = within_wanted ss _ w.1 }

  -- A well-formed list of the joined table is one by first files.
  pub formed_named : (list : List Detour) → WellFormed (renumbered 1 ss) list → WellFormed ss (list_named ss list)
  formed_named list f = sym (first_bad_same list (formed_within list f)) ∙ f

  -- And every well-formed list by first files is the name of one.
  pub record Counterpart (other : List Detour) : Type 0 where
    pub list : List Detour
    pub is : other ≡ list_named ss list
    pub formed : WellFormed (renumbered 1 ss) list

  pub counterpart : (other : List Detour) → WellFormed ss other → Counterpart other
  counterpart other f = record { list = list; is = same; formed = first_bad_same list all ∙ ap (first_bad_entry ss) (sym same) ∙ f }
    where
      list : List Detour
      list = map (entry_indexed ss) other

      size : length list ≡ length other
      size = length-map other (entry_indexed ss)

      at : (ds : List Detour) (i : ℕ) → i < length ds → entry_of (map (entry_indexed ss) ds) i ≡ entry_indexed ss (entry_of ds i)
      at [] i l = absurd (omega arith)
      at (d ∷ ds) zero l = refl
      at (d ∷ ds) (suc i) l = at ds i (omega arith)

      all : (i : ℕ) → i < length list → InTable (entry_of list i)
      all i l =
          let h : i < length other = omega (arith, size) in
          let w = formed_names ss other f i h in
          rw (at other i h) (record { from = (indexed ss _ w.0).within; to = (indexed ss _ w.1).within })

      same : other ≡ list_named ss list
      same = ext_get_or (record { from = 0; to = 0 }) other (list_named ss list) (sym (named_length list ∙ size)) each
        where
          each : (i : ℕ) → i < length other → entry_of other i ≡ entry_of (list_named ss list) i
          each i l =
              let w = formed_names ss other f i l in
              sym
              (named_entry list i (omega (arith, size)) ∙ ap (entry_named ss) (at other i l)
              ∙ back (entry_of other i) (indexed ss _ w.0).is (indexed ss _ w.1).is)
            where
              back : (d : Detour) → name_of ss (index_of ss d.from) ≡ d.from → name_of ss (index_of ss d.to) ≡ d.to → entry_named ss (entry_indexed ss d) ≡ d
              back d a b = rw (a, b) refl
