-- Where the last sweep ends: at the end of one of the stops. Looked for from the right, it is the first that no detour has read.
use Prim.Native.Nat.{ℕ, zero, suc, ◌-◌, ◌<◌}
use mathlib.Core.Path.{◌≡◌, refl, ap, sym, ◌∙◌}
use mathlib.Core.Bool.{true, false}
use mathlib.Core.Logic.{◌⊎◌, inl, inr, ⊎_elim}
use mathlib.Core.List.{List, [], ◌∷◌}
use native.Mathlib.Omega.{arith}
use lib.ListN.{length, get_or}
use Rattle.std.proofs.Common.{reverse}
use Rattle.std.proofs.lemmas.List.{length-reverse, get_or-reverse, get_or_default}
use Rattle.walk.specs.declared.Leg.{Leg}
use Rattle.runs.specs.Run.{Stop, first_file, stop_of, want_stops}
use Rattle.runs.specs.Rows.{stop_at}
use Rattle.walk.specs.Walk.{served}
use Rattle.walk.specs.Detours.{unread_end, sweep_end}
use Rattle.walk.specs.Private.{right_of, read_by_number}
use Rattle.runs.proofs.Search.{true_or_false}
use Rattle.runs.proofs.Stops.{wants_length, want_at_lem}
use Rattle.walk.proofs.Joins.{served_same}

module _ (gs : List Leg) where
  -- The search passes over a stop that has been read, and goes on from the end of one that has not.
  pub passed : (s : Stop) (ss : List Stop) (e : ℕ) → served gs s ≡ true → unread_end gs (s ∷ ss) e ≡ unread_end gs ss e
  unfolding unread_end
  passed s ss e t = rw t

  pub kept : (s : Stop) (ss : List Stop) (e : ℕ) → served gs s ≡ false → unread_end gs (s ∷ ss) e ≡ unread_end gs ss s.end
  unfolding unread_end
  kept s ss e f = rw f

  -- A stop that no leg has read, at whose end the search ends.
  pub record Unread (ss : List Stop) (e : ℕ) : Type 0 where
    pub index : ℕ
    pub within : index < length ss
    pub is : e ≡ (stop_at ss index).end
    pub unread : served gs (stop_at ss index) ≡ false

  later : (s : Stop) (ss : List Stop) (e e' : ℕ) → e' ≡ e → Unread ss e → Unread (s ∷ ss) e'
  later s ss e e' q u = record { index = suc u.index; within = omega (arith, u.within); is = q ∙ u.is; unread = u.unread }

  -- Either there is one, or the search ends where it began.
  pub unread_or_none : (ss : List Stop) (e : ℕ) → (unread_end gs ss e ≡ e) ⊎ Unread ss (unread_end gs ss e)
  unfolding unread_end
  unread_or_none [] e = inl refl
  unread_or_none (s ∷ ss) e =
      ⊎_elim
      (λ t. ⊎_elim (λ q. inl (passed s ss e t ∙ q)) (λ u. inr (later s ss _ _ (passed s ss e t) u)) (unread_or_none ss e))
      (λ f. inr (⊎_elim (λ q. record { index = 0; within = omega arith; is = kept s ss e f ∙ q; unread = f }) (λ u. later s ss _ _ (kept s ss e f) u) (unread_or_none ss s.end)))
      (true_or_false (served gs s))

  -- All have been read, or all right of one that has not.
  all_read : (ss : List Stop) (e : ℕ) → ((j : ℕ) → j < length ss → served gs (stop_at ss j) ≡ true) → unread_end gs ss e ≡ e
  unfolding unread_end
  all_read [] e h = refl
  all_read (s ∷ ss) e h = passed s ss e (h 0 (omega arith)) ∙ all_read ss e (λ j l. h (suc j) (omega arith))

  last_unread : (ss : List Stop) (e i : ℕ) → i < length ss → served gs (stop_at ss i) ≡ false
      → ((j : ℕ) → i < j → j < length ss → served gs (stop_at ss j) ≡ true) → unread_end gs ss e ≡ (stop_at ss i).end
  unfolding unread_end
  last_unread [] e i l f h = absurd (omega arith)
  last_unread (s ∷ ss) e zero l f h = kept s ss e f ∙ all_read ss s.end (λ j b. h (suc j) (omega arith) (omega arith))
  last_unread (s ∷ ss) e (suc i) l f h = last_unread ss _ i (omega arith) f (λ j a b. h (suc j) (omega arith) (omega arith))

  -- The sweep ends where some stop ends.
  pub record SweepsTo (stops : List Stop) : Type 0 where
    pub index : ℕ
    pub within : index < length stops
    pub is : sweep_end gs stops ≡ (stop_at stops index).end

  pub sweeps_to : (stops : List Stop) → 0 < length stops → SweepsTo stops
  unfolding sweep_end
  sweeps_to [] some = absurd (omega arith)
  sweeps_to (s ∷ ss) some =
      ⊎_elim
      (λ q. record { index = 0; within = some; is = q })
      (λ u. record { index = suc u.index; within = omega (arith, u.within); is = u.is })
      (unread_or_none ss s.end)

  -- Found from the right: all right of the i-th have been read, and it has not, or is the first.
  swept_to_unread : (stops : List Stop) (i : ℕ) → i < length stops → ((j : ℕ) → i < j → j < length stops → served gs (stop_at stops j) ≡ true)
      → served gs (stop_at stops i) ≡ false → 0 < i → (stop_at stops i).end ≡ sweep_end gs stops
  unfolding sweep_end
  swept_to_unread [] i l h f some = absurd (omega arith)
  swept_to_unread (s ∷ ss) zero l h f some = absurd (omega arith)
  swept_to_unread (s ∷ ss) (suc i) l h f some = sym (last_unread ss s.end i (omega arith) f (λ j a b. h (suc j) (omega arith) (omega arith)))

  swept_to_first : (stops : List Stop) → 0 < length stops → ((j : ℕ) → 0 < j → j < length stops → served gs (stop_at stops j) ≡ true)
      → (stop_at stops 0).end ≡ sweep_end gs stops
  unfolding sweep_end
  swept_to_first [] some h = absurd (omega arith)
  swept_to_first (s ∷ ss) some h = sym (all_read ss s.end (λ j b. h (suc j) (omega arith) (omega arith)))

-- Nothing wanted: there is no sweep.
pub no_sweep : (gs : List Leg) (starts lengths aggregates ns cs : List ℕ) → length ns ≡ 0 → 0 ≡ sweep_end gs (want_stops starts lengths aggregates ns cs)
unfolding sweep_end want_stops
no_sweep gs starts lengths aggregates [] cs e = refl
no_sweep gs starts lengths aggregates (n ∷ ns) cs e = absurd (omega arith)

-- The search, as the loop has it: all wants right of the i-th have been read, by their numbers.
pub record ReadRight (aggregates numbers froms tos : List ℕ) (i : ℕ) : Type 0 where
  pub within : i < length numbers
  pub read : (j : ℕ) → i < j → j < length numbers → read_by_number froms tos (first_file aggregates (get_or numbers j 0)) ≡ true

-- What its turn k reads of the numbers behind the first, from the right.
pub from_right : (numbers : List ℕ) (first : ℕ) (later : List ℕ) → numbers ≡ first ∷ later → (k n : ℕ) → k < length (reverse later) → n ≡ get_or (reverse later) k n
    → (0 < length numbers - 1 - k) × (n ≡ get_or numbers (length numbers - 1 - k) 0)
from_right numbers first later is k n l at =
    let within : k < length later = omega (arith, length-reverse later) in
    let index : suc (length later) - 1 - k ≡ suc (length later - 1 - k) = omega arith in
    rw (is, index) (omega arith, at ∙ get_or-reverse later k n within ∙ get_or_default later (length later - 1 - k) n 0 (omega arith))

module _ (aggregates ns froms tos : List ℕ) (i : ℕ) (p : ReadRight aggregates ns froms tos i) where
  -- Where these numbers say which wants the legs have read.
  module _ (gs : List Leg) (starts lengths cs : List ℕ) (same : length cs ≡ length ns)
      (by : (j : ℕ) → j < length ns → served gs (stop_of starts lengths aggregates (get_or ns j 0) 0) ≡ read_by_number froms tos (first_file aggregates (get_or ns j 0))) where
    stop_is : (j : ℕ) → j < length ns → stop_at (want_stops starts lengths aggregates ns cs) j ≡ stop_of starts lengths aggregates (get_or ns j 0) (get_or cs j 0)
    stop_is j b = want_at_lem starts lengths aggregates ns cs same j b

    size : length (want_stops starts lengths aggregates ns cs) ≡ length ns
    size = wants_length starts lengths aggregates ns cs same

    served_at : (j : ℕ) → j < length ns → served gs (stop_at (want_stops starts lengths aggregates ns cs) j) ≡ read_by_number froms tos (first_file aggregates (get_or ns j 0))
    served_at j b = rw (stop_is j b) (served_same gs _ _ (record { start = refl; end = refl }) ∙ by j b)

    rest_read : (j : ℕ) → i < j → j < length (want_stops starts lengths aggregates ns cs) → served gs (stop_at (want_stops starts lengths aggregates ns cs) j) ≡ true
    rest_read j a b = served_at j (omega (arith, size)) ∙ p.read j a (omega (arith, size))

    pub found_unread : read_by_number froms tos (first_file aggregates (get_or ns i 0)) ≡ false → 0 < i → right_of starts lengths aggregates (get_or ns i 0) ≡ sweep_end gs (want_stops starts lengths aggregates ns cs)
    found_unread f some =
        sym (ap (λ s. s.end) (stop_is i p.within))
        ∙ swept_to_unread gs (want_stops starts lengths aggregates ns cs) i (omega (arith, size, p.within)) rest_read (served_at i p.within ∙ f) some

    pub found_first : i ≡ 0 → right_of starts lengths aggregates (get_or ns 0 0) ≡ sweep_end gs (want_stops starts lengths aggregates ns cs)
    found_first e =
        sym (ap (λ s. s.end) (stop_is 0 (omega (arith, p.within))))
        ∙ swept_to_first gs (want_stops starts lengths aggregates ns cs) (omega (arith, size, p.within)) (λ j a b. rest_read j (omega arith) b)
