-- Which detours read a file, by numbers alone: those from whose start to whose end its stop's name lies. Starts and ends rise with the number.
use Prim.Native.Nat.{ℕ, suc, ◌-◌, ◌≤◌, ◌<◌}
use mathlib.Core.Path.{◌≡◌, refl, ap, sym, ◌∙◌}
use mathlib.Core.Bool.{false, not, ◌&&◌}
use mathlib.Core.Logic.{⊎_elim}
use mathlib.Core.List.{List, [], ◌∷◌}
use native.Mathlib.Omega.{arith}
use native.Mathlib.Decide.{dec_lt}
use lib.ListN.{length, get_or}
use lib.Dec.{leb}
use Rattle.std.specs.List.{list_any, zip}
use Rattle.runs.specs.Run.{end_at, goes_on, first_member, last_member, first_file, stop_of}
use Rattle.walk.specs.Walk.{served}
use Rattle.runs.specs.Private.{SoundTable, InTable}
use Rattle.runs.specs.AnyHead.{smaller}
use Rattle.walk.specs.Private.{leg_start, right_of, detour_legs, Tabled, ListFits, RowsFit, Behind, read_by_number}
use Rattle.runs.proofs.Search.{ltb_same, leb_not_ltb}
use Rattle.runs.proofs.Members.{first_stays, first_below, first_begins, last_above, last_within_lem, member_last, same_last, same_or_apart}
use Rattle.runs.proofs.Stops.{first_file_lem}
use Rattle.runs.proofs.AnyHead.{smaller_is, smaller_above}
use Rattle.runs.proofs.Table.{table_file, ends_rise, end_before_start}

leb_same : (a b c d : ℕ) → (b < a → d < c) → (d < c → b < a) → leb a b ≡ leb c d
leb_same a b c d f g = leb_not_ltb a b ∙ ap not (ltb_same b a d c f g) ∙ sym (leb_not_ltb c d)

-- Starts and ends rise with the number.
module _ (starts lengths : List ℕ) (t : SoundTable starts lengths) where
  start_left : (i j : ℕ) → i < j → j < length starts → get_or starts i 0 < get_or starts j 0
  start_left i j l h =
      let apart = end_before_start starts lengths t i j l h in
      omega (arith, apart, (table_file starts lengths t i (omega arith)).long)

  starts_rise_here : (i j : ℕ) → i ≤ j → j < length starts → get_or starts i 0 ≤ get_or starts j 0
  starts_rise_here i j l h = elim (dec_lt i j) [ yes a ↦ omega (arith, start_left i j a h) | no n ↦ let e : i ≡ j = omega arith in rw e (omega arith) ]

  end_left : (i j : ℕ) → i < j → j < length starts → end_at starts lengths i < end_at starts lengths j
  end_left i j l h =
      let apart = end_before_start starts lengths t i j l h in
      omega (arith, apart, (table_file starts lengths t j h).long)

-- Of two first entries the left one's aggregate ends first.
module _ (aggregates : List ℕ) where
  first_again : (i : ℕ) → first_member aggregates (first_member aggregates i) ≡ first_member aggregates i
  first_again i = first_stays aggregates (first_member aggregates i) (first_begins aggregates i)

  last_again : (i : ℕ) → last_member aggregates (first_member aggregates i) ≡ last_member aggregates i
  last_again i = member_last aggregates i (first_member aggregates i) (omega arith) (omega (arith, first_below aggregates i, last_above aggregates i))

  lasts_rise : (i j : ℕ) → first_member aggregates i ≤ j → last_member aggregates i ≤ last_member aggregates j
  lasts_rise i j l =
      ⊎_elim
      (λ e. omega (arith, last_again i, same_last aggregates (first_member aggregates i) j e))
      (λ a. omega (arith, last_again i, a, first_below aggregates j, last_above aggregates j))
      (same_or_apart aggregates (first_member aggregates i) j l)

  last_left : (i j : ℕ) → goes_on aggregates i ≡ false → i < first_member aggregates j → last_member aggregates i < last_member aggregates j
  last_left i j f l =
      ⊎_elim
      (λ e. absurd (omega (arith, e, first_again j, first_stays aggregates i f)))
      (λ a. omega (arith, a, first_again j, first_below aggregates j, last_above aggregates j))
      (same_or_apart aggregates i (first_member aggregates j) (omega arith))

-- A detour between two names reads a file whose stop's name lies between them, and no other.
module _ (starts lengths aggregates : List ℕ) (t : Tabled starts lengths aggregates) (f : ℕ) (named : InTable starts f) where
  abbrev g : ℕ
  g = first_member aggregates (f - 1)

  inside : last_member aggregates (f - 1) < length starts
  inside = omega (arith, t.rows, last_within_lem aggregates (f - 1) (omega (arith, t.rows, named.least, named.most)))

  -- For a head at m, where the file's aggregate begins left of the head if its name lies left of where the detour starts.
  left_by_number : (m a : ℕ) → InTable starts a → goes_on aggregates (a - 1) ≡ false → (first_file aggregates f < a → get_or starts g 0 < m)
      → leb (leg_start m starts aggregates a) (get_or starts g 0) ≡ leb a (first_file aggregates f)
  left_by_number m a n e behind =
      rw (first_stays aggregates (a - 1) e)
      (leb_same (smaller (get_or starts (a - 1) 0) m) (get_or starts g 0) a (suc g)
      (λ l. elim (dec_lt (suc g) a) [ yes y ↦ y | no x ↦ absurd (omega (arith, l, (smaller_is (get_or starts (a - 1) 0) m).first, starts_rise_here starts lengths t.sound (a - 1) g (omega arith) (omega (arith, first_below aggregates (f - 1), named.least, named.most)))) ])
      (λ l. smaller_above (get_or starts g 0) (get_or starts (a - 1) 0) m (start_left starts lengths t.sound g (a - 1) (omega arith) (omega (arith, n.least, n.most))) (behind (omega (arith, l, first_file_lem aggregates f named.least))))
      ∙ ap (leb a) (sym (first_file_lem aggregates f named.least)))

  right_by_number : (b : ℕ) → InTable starts b → goes_on aggregates (b - 1) ≡ false → leb (end_at starts lengths (last_member aggregates (f - 1))) (right_of starts lengths aggregates b) ≡ leb (first_file aggregates f) b
  right_by_number b n e =
      leb_same (end_at starts lengths (last_member aggregates (f - 1))) (right_of starts lengths aggregates b) (suc g) b
      (λ l. elim (dec_lt b (suc g)) [ yes y ↦ y | no x ↦ absurd (omega (arith, l, ends_rise starts lengths t.sound (last_member aggregates (f - 1)) (last_member aggregates (b - 1)) (lasts_rise aggregates (f - 1) (b - 1) (omega arith)) (omega (arith, t.rows, last_within_lem aggregates (b - 1) (omega (arith, t.rows, n.least, n.most)))))) ])
      (λ l. end_left starts lengths t.sound (last_member aggregates (b - 1)) (last_member aggregates (f - 1)) (last_left aggregates (b - 1) (f - 1) e (omega (arith, n.least))) inside)
      ∙ ap (λ x. leb x b) (sym (first_file_lem aggregates f named.least))

  list_rest : (a b : ℕ) (froms tos : List ℕ) → ListFits starts lengths aggregates (a ∷ froms) (b ∷ tos) → ListFits starts lengths aggregates froms tos
  list_rest a b froms tos fits =
      record {
        table = t;
        even = omega (arith, fits.even);
        lefts = λ i l. fits.lefts (suc i) (omega arith);
        rights = λ i l. fits.rights (suc i) (omega arith);
        named = λ i l. fits.named (suc i) (omega arith);
      }

  pub by_number : (m : ℕ) (froms tos : List ℕ) → ListFits starts lengths aggregates froms tos
      → ((i : ℕ) → i < length froms → first_file aggregates f < get_or froms i 0 → get_or starts g 0 < m)
      → served (detour_legs m starts lengths aggregates froms tos) (stop_of starts lengths aggregates f 0) ≡ read_by_number froms tos (first_file aggregates f)
  unfolding served detour_legs read_by_number
  by_number m [] tos fits behind = refl
  by_number m (a ∷ froms) [] fits behind = absurd (omega (arith, fits.even))
  by_number m (a ∷ froms) (b ∷ tos) fits behind =
      let here = fits.named 0 (omega arith) in
      let rest = by_number m froms tos (list_rest a b froms tos fits) (λ i l h. behind (suc i) (omega arith) h) in
      rw (left_by_number m a (fits.lefts 0 (omega arith)) here.0 (behind 0 (omega arith)), right_by_number b (fits.rights 0 (omega arith)) here.1, rest)

-- So the numbers say which wants the detours of a list read.
pub wants_by_number : (starts lengths aggregates numbers froms tos : List ℕ) → RowsFit starts lengths aggregates numbers froms tos
    → (m : ℕ) → Behind m starts aggregates numbers froms → (j : ℕ) → j < length numbers
    → served (detour_legs m starts lengths aggregates froms tos) (stop_of starts lengths aggregates (get_or numbers j 0) 0) ≡ read_by_number froms tos (first_file aggregates (get_or numbers j 0))
wants_by_number starts lengths aggregates numbers froms tos fits m behind j l =
    by_number starts lengths aggregates fits.list.table (get_or numbers j 0) (fits.wants j l) m froms tos fits.list (λ i k h. behind i j k l h)

-- The search, as `any` has it.
pub read_by_number-list_any : (froms tos : List ℕ) (first : ℕ) → list_any (λ (p : ℕ × ℕ). leb p.0 first && leb first p.1) (zip froms tos) ≡ read_by_number froms tos first
unfolding read_by_number
read_by_number-list_any [] tos first = refl
read_by_number-list_any (a ∷ froms) [] first = refl
read_by_number-list_any (a ∷ froms) (b ∷ tos) first = rw (read_by_number-list_any froms tos first)
