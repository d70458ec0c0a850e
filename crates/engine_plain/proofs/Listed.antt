-- The list of a window from those of the windows that its choice leaves, and how many entries it has.
use Prim.Native.Nat.{ℕ, zero, suc, ◌+◌, ◌-◌, ◌≤◌, ◌<◌}
use native.Mathlib.Omega.{arith}
use mathlib.Core.Path.{◌≡◌, refl, sym, ap, ◌∙◌}
use mathlib.Core.List.{List, [], ◌∷◌, ◌++◌, map}
use lib.ListN.{length, get_or, set, length-set}
use Rattle.runs.specs.Lists.{Detour}
use Rattle.least.specs.Recurrence.{plan_detours, best}
use Rattle.least.proofs.Plan.{listed_few}
use Rattle.least.proofs.Best.{best_none, best_skip, best_detour, best_over}
use Rattle.least.proofs.Value.{choice_first}
use Rattle.engine_plain.specs.Private.{start_at, stop_end, reads_at, name_of, chosen_at, list_at, Asked, StopRows, ListFits, ListWritten}
use Rattle.engine_plain.proofs.Sizes.{reads_within}
use Rattle.engine_plain.proofs.Overlays.{overlay_length, written_none, written_same, written_more}

abbrev pub between : List ℕ → ℕ → ℕ → Detour
between firsts c b = record { from = get_or firsts c 0; to = get_or firsts b 0 }

module _ (firsts lefts spans reads : List ℕ) (turn a : ℕ) where
  list_none_here : (b s : ℕ) → b ≤ a → list_at firsts lefts spans reads turn a b s ≡ []
  unfolding plan_detours
  list_none_here b s h = rw (best_none (start_at lefts) (stop_end lefts spans) (reads_at reads) turn a b s h)

  list_skip_here : (b s c : ℕ) → a < b → c ≡ chosen_at lefts spans reads turn a b s → c ≡ 0 → list_at firsts lefts spans reads turn a (b - 1) (s + get_or reads b 0) ≡ list_at firsts lefts spans reads turn a b s
  unfolding plan_detours
  list_skip_here zero s c h is e = absurd (omega arith)
  list_skip_here (suc b) s c h is e =
      let back : suc b - 1 ≡ b = omega arith in
      let none = sym (rw back at is) ∙ e in
      rw (back, best_skip (start_at lefts) (stop_end lefts spans) (reads_at reads) turn a b s (omega arith) none)

  list_detour_here : (b s c : ℕ) → a < b → c ≡ chosen_at lefts spans reads turn a b s → (c ≡ 0 → ⊥)
      → list_at firsts lefts spans reads turn a b s ≡ list_at firsts lefts spans reads turn c (b - 1) (s + get_or reads b 0) ++ between firsts c b ∷ list_at firsts lefts spans reads turn a (c - 1) s
  unfolding plan_detours
  list_detour_here zero s c h is some = absurd (omega arith)
  list_detour_here (suc b) s zero h is some = absurd (some refl)
  list_detour_here (suc b) s (suc d) h is some =
      let back : suc b - 1 ≡ b = omega arith in
      let down : suc d - 1 ≡ d = omega arith in
      let here = sym (rw back at is) in
      rw (back, down, best_detour (start_at lefts) (stop_end lefts spans) (reads_at reads) turn a b s d (omega arith) here)

  pub list_few : (b s : ℕ) → length (list_at firsts lefts spans reads turn a b s) ≤ b - a
  list_few b s = listed_few (name_of firsts) (best (start_at lefts) (stop_end lefts spans) (reads_at reads) turn a b s) a b (best_over (start_at lefts) (stop_end lefts spans) (reads_at reads) turn a b s)

  -- A detour starts inside the window.
  start_within_here : (b s c : ℕ) → a < b → c ≡ chosen_at lefts spans reads turn a b s → (c ≡ 0 → ⊥) → (a < c) × (c ≤ b)
  start_within_here b s c h is some =
      let w = (choice_first (start_at lefts) (stop_end lefts spans) (reads_at reads) turn a (b - 1) s (omega arith)).within (omega arith) in
      (omega (arith, w.0), omega (arith, w.1))

-- The rows have room for what each call writes, and in the end hold the window's list.
module _ (firsts lefts spans reads : List ℕ) (turn a b s : ℕ) (froms tos : List ℕ) (n : ℕ) (q : Asked lefts spans reads turn a b s) (f : ListFits firsts lefts a b n froms tos) where
  pub none_written : b ≤ a → ListWritten (list_at firsts lefts spans reads turn a b s) n n froms tos froms tos
  none_written h = written_none (list_at firsts lefts spans reads turn a b s) n froms tos (list_none_here firsts lefts spans reads turn a b s h)

module _ (firsts lefts spans reads : List ℕ) (turn a b s : ℕ) (froms tos : List ℕ) (n c : ℕ) (q : Asked lefts spans reads turn a b s) (f : ListFits firsts lefts a b n froms tos)
    (some : a < b) (is : c ≡ chosen_at lefts spans reads turn a b s) where
  pub fits_skip : ListFits firsts lefts a (b - 1) n froms tos
  fits_skip = record { named = f.named; in_froms = omega (arith, f.in_froms); in_tos = omega (arith, f.in_tos) }

  pub skip_written : c ≡ 0 → (next : ℕ) (froms' tos' : List ℕ) → ListWritten (list_at firsts lefts spans reads turn a (b - 1) (s + get_or reads b 0)) n next froms tos froms' tos'
      → ListWritten (list_at firsts lefts spans reads turn a b s) n next froms tos froms' tos'
  skip_written e next froms' tos' w =
      written_same (list_at firsts lefts spans reads turn a (b - 1) (s + get_or reads b 0)) (list_at firsts lefts spans reads turn a b s) n next froms tos froms' tos'
      (list_skip_here firsts lefts spans reads turn a b s c some is e) w

  module _ (detours : c ≡ 0 → ⊥) where
    pub inside : (a < c) × (c ≤ b)
    inside = start_within_here firsts lefts spans reads turn a b s c some is detours

    pub fits_inner : ListFits firsts lefts c (b - 1) n froms tos
    fits_inner = record { named = f.named; in_froms = omega (arith, f.in_froms, inside.0); in_tos = omega (arith, f.in_tos, inside.0) }

    module _ (at : ℕ) (froms₁ tos₁ : List ℕ) (i : ListWritten (list_at firsts lefts spans reads turn c (b - 1) (s + get_or reads b 0)) n at froms tos froms₁ tos₁) where
      inner_few_here : at + (c - 1 - a) < n + (b - a)
      inner_few_here = omega (arith, i.behind, list_few firsts lefts spans reads turn c (b - 1) (s + get_or reads b 0), inside.0, inside.1)

      pub from_in : at < length froms₁
      from_in = omega (arith, inner_few_here, f.in_froms, ap length i.starts, overlay_length n (map (λ d. d.from) (list_at firsts lefts spans reads turn c (b - 1) (s + get_or reads b 0))) froms)

      pub to_in : at < length tos₁
      to_in = omega (arith, inner_few_here, f.in_tos, ap length i.ends, overlay_length n (map (λ d. d.to) (list_at firsts lefts spans reads turn c (b - 1) (s + get_or reads b 0))) tos)

      pub fits_rest : (x y : ℕ) → ListFits firsts lefts a (c - 1) (at + 1) (set froms₁ at x) (set tos₁ at y)
      fits_rest x y =
          record {
            named = f.named;
            in_froms = omega (arith, inner_few_here, f.in_froms, length-set froms₁ at x, ap length i.starts, overlay_length n (map (λ d. d.from) (list_at firsts lefts spans reads turn c (b - 1) (s + get_or reads b 0))) froms);
            in_tos = omega (arith, inner_few_here, f.in_tos, length-set tos₁ at y, ap length i.ends, overlay_length n (map (λ d. d.to) (list_at firsts lefts spans reads turn c (b - 1) (s + get_or reads b 0))) tos);
          }

      pub detour_written : (next : ℕ) (froms' tos' : List ℕ)
          → ListWritten (list_at firsts lefts spans reads turn a (c - 1) s) (at + 1) next (set froms₁ at (get_or firsts c 0)) (set tos₁ at (get_or firsts b 0)) froms' tos'
          → ListWritten (list_at firsts lefts spans reads turn a b s) n next froms tos froms' tos'
      detour_written next froms' tos' r =
          written_more (list_at firsts lefts spans reads turn c (b - 1) (s + get_or reads b 0)) (list_at firsts lefts spans reads turn a (c - 1) s) (between firsts c b) n at next froms tos froms₁ tos₁ froms' tos' i
          (omega (arith, inner_few_here, f.in_froms)) (omega (arith, inner_few_here, f.in_tos)) (list_at firsts lefts spans reads turn a b s)
          (list_detour_here firsts lefts spans reads turn a b s c some is detours) r

-- All stops behind the first are the whole window.
module _ (firsts lefts spans reads : List ℕ) (turn : ℕ) (rows : StopRows firsts lefts spans reads turn) where
  pub whole_none : (froms tos : List ℕ) → length lefts ≡ 0 → ListWritten (list_at firsts lefts spans reads turn 0 (length lefts - 1) 0) 0 0 froms tos froms tos
  whole_none froms tos e = written_none (list_at firsts lefts spans reads turn 0 (length lefts - 1) 0) 0 froms tos (list_none_here firsts lefts spans reads turn 0 (length lefts - 1) 0 (omega arith))

  pub whole_asked : (length lefts ≡ 0 → ⊥) → Asked lefts spans reads turn 0 (length lefts - 1) 0
  whole_asked some =
      let e : length lefts - 1 + 1 ≡ length lefts = omega arith in
      record {
        laid = rows.laid;
        inside = omega arith;
        span = rw e (omega (arith, reads_within reads (length lefts) (omega (arith, rows.laid.even_reads)), rows.laid.few));
      }

  pub whole_fits : (froms tos : List ℕ) → (length lefts ≡ 0 → ⊥) → length lefts ≤ length froms + 1 → length lefts ≤ length tos + 1 → ListFits firsts lefts 0 (length lefts - 1) 0 froms tos
  whole_fits froms tos some h k = record { named = rows.named; in_froms = omega arith; in_tos = omega arith }
