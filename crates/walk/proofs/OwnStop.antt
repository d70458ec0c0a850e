-- The searches for the head's own stop and for an entry that starts right of it, as the loops have them.
use Prim.Native.Nat.{ℕ, zero, suc, ◌+◌, ◌-◌, ◌≤◌, ◌<◌}
use mathlib.Core.Path.{◌≡◌, refl, sym, ◌∙◌}
use mathlib.Core.Bool.{Bool, true, false}
use mathlib.Core.Logic.{◌⊎◌, inl, inr, ⊎_elim}
use mathlib.Core.List.{List}
use native.Mathlib.Omega.{arith}
use native.Mathlib.Numerals.{add-one}
use native.Mathlib.Nat.{eq-or-lt_of_le}
use lib.ListN.{length, get_or, drop, drop_of_length-le}
use borrow.Author.Tests.{le-leb, lt-leb}
use Rattle.refusals.specs.Refusals.{first_where, one_more}
use Rattle.runs.specs.Run.{first_member, want_stops}
use Rattle.runs.specs.Private.{earlier_of}
use Rattle.walk.specs.Private.{left_of, own_name}
use Rattle.runs.proofs.Search.{first_none, first_more, first_here, earlier_none, earlier_second, earlier_first}
use Rattle.runs.proofs.Stops.{first_file_lem, wants_length, wants_drop}

-- Looking for the own stop: what is left decides, whatever the lengths and the counts are.
pub record Looking (m : ℕ) (starts aggregates numbers : List ℕ) (i : ℕ) : Type 0 where
  pub within : i ≤ length numbers
  pub left : (l cs : List ℕ) → length cs ≡ length numbers
      → own_name m (drop i (want_stops starts l aggregates numbers cs)) ≡ own_name m (want_stops starts l aggregates numbers cs)

module _ (m : ℕ) (starts aggregates numbers : List ℕ) where
  module _ (i : ℕ) (p : Looking m starts aggregates numbers i) where
    module _ (h : i < length numbers) where
      pub own_here : 0 < get_or numbers i 0 → m ≤ left_of starts aggregates (get_or numbers i 0)
          → (l cs : List ℕ) → length cs ≡ length numbers → first_member aggregates (get_or numbers i 0 - 1) + 1 ≡ own_name m (want_stops starts l aggregates numbers cs)
      unfolding own_name
      own_here named at l cs e =
          add-one (first_member aggregates (get_or numbers i 0 - 1))
          ∙ sym (first_file_lem aggregates (get_or numbers i 0) named)
          ∙ (rw (wants_drop starts l aggregates numbers cs e i h, le-leb m (left_of starts aggregates (get_or numbers i 0)) at) at (p.left l cs e))

      pub looking_on : left_of starts aggregates (get_or numbers i 0) < m → Looking m starts aggregates numbers (i + 1)
      unfolding own_name
      looking_on past =
          record {
            within = omega arith;
            left = λ l cs e. rw add-one (rw (wants_drop starts l aggregates numbers cs e i h, lt-leb m (left_of starts aggregates (get_or numbers i 0)) past) at (p.left l cs e));
          }

    pub own_nowhere : length numbers ≤ i → (l cs : List ℕ) → length cs ≡ length numbers → 18446744073709551615 ≡ own_name m (want_stops starts l aggregates numbers cs)
    unfolding own_name
    own_nowhere h l cs e =
        let past : length (want_stops starts l aggregates numbers cs) ≤ i = omega (arith, wants_length starts l aggregates numbers cs e) in
        rw (drop_of_length-le (want_stops starts l aggregates numbers cs) past) at (p.left l cs e)

-- Looking for an entry past it, before the one found already.
pub record Passing (bad : ℕ → Bool) (n found i : ℕ) : Type 0 where
  pub within : i ≤ n
  pub none : first_where bad i ≡ 0
  pub ahead : (found ≡ 0) ⊎ (i < found)

module _ (bad : ℕ → Bool) (n found : ℕ) where
  pub passing_start : Passing bad n found 0
  passing_start = record { within = omega arith; none = first_none bad; ahead = side found }
    where
      side : (f : ℕ) → (f ≡ 0) ⊎ (0 < f)
      side zero = inl refl
      side (suc f) = inr (omega arith)

  module _ (i : ℕ) (p : Passing bad n found i) where
    step : (q : ℕ) (b : Bool) (k : ℕ) → i ≤ k → (q ≡ 0) ⊎ (i < q) → (one_more q b k ≡ 0) ⊎ (i < one_more q b k)
    step zero true k l h = inr (omega arith)
    step zero false k l h = inl refl
    step (suc q) b k l h = ⊎_elim (λ e. absurd (omega arith)) (λ later. inr later) h

    -- The first is none, or behind what has been looked at.
    after : (k : ℕ) → i ≤ k → (first_where bad k ≡ 0) ⊎ (i < first_where bad k)
    unfolding first_where
    after zero l = inl refl
    after (suc k) l =
        let before = after k in
        ⊎_elim
        (λ (e : i ≡ suc k). inl (rw e at p.none))
        (λ (h : i < suc k). step (first_where bad k) (bad k) k (omega arith) (before (omega arith)))
        (eq-or-lt_of_le l)

    pub found_first : i + 1 ≡ found → found ≡ earlier_of found (first_where bad n)
    found_first e =
        ⊎_elim
        (λ none. earlier_none found (first_where bad n) none)
        (λ later. earlier_first found (first_where bad n) (λ z. omega arith) (λ z. omega arith) (omega arith))
        (after n p.within)

    module _ (apart : i + 1 ≡ found → ⊥) where
      pub past_here : i < n → bad i ≡ true → i + 1 ≡ earlier_of found (first_where bad n)
      past_here l here =
          rw (first_here bad i n p.none here l)
          (⊎_elim
          (λ (z : found ≡ 0). rw z refl)
          (λ (h : i < found). earlier_second found (i + 1) (λ z. omega arith) (omega arith))
          p.ahead)

      pub passing_on : i < n → bad i ≡ false → Passing bad n found (i + 1)
      passing_on l here =
          record {
            within = omega arith;
            none = first_more bad i p.none here;
            ahead = ⊎_elim (λ (z : found ≡ 0). inl z) (λ (h : i < found). inr (omega arith)) p.ahead;
          }
