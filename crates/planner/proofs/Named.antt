-- The least list of the joined table, its stops named by their first files, is the least list of the run.
use Prim.Native.Nat.{ℕ, zero, suc, ◌-◌, ◌<◌}
use mathlib.Core.Path.{◌≡◌, refl, sym, ap, ◌∙◌, subst, fun_ext}
use mathlib.Core.List.{List, [], ◌∷◌, ◌++◌, map-append}
use mathlib.Core.Bool.{false}
use native.Mathlib.Omega.{arith}
use lib.ListN.{length}
use Rattle.refusals.proofs.Verdicts.{refuses}
use Rattle.runs.specs.Run.{Run, Stop, stops_of}
use Rattle.runs.specs.Rows.{stop_at}
use Rattle.runs.specs.Judging.{judge_of}
use Rattle.runs.specs.AnyHead.{smaller, pulled, judge_any_of, lifted}
use Rattle.runs.specs.Lists.{Detour}
use Rattle.runs.proofs.Sound.{Sound}
use Rattle.runs.proofs.Stops.{accepted_sound}
use Rattle.runs.proofs.AnyHead.{judge_any_lem}
use Rattle.engine_stops.proofs.Table.{joined_stops, joined_accepted, renumbered_at, renumbered_length}
use Rattle.least.specs.AnyHead.{LeastAnyFor, LeastAny}
use Rattle.least.specs.Recurrence.{Plan, empty, skip, detour, plan_detours, file_at, left_at, right_at, count_at, best, best_plan, least_list}
use Rattle.least.proofs.Plan.{Over}
use Rattle.least.proofs.Best.{best_over}
use Rattle.least.proofs.LeastAny.{least_any, least_any_unique}
use Rattle.engine_stops.specs.Private.{joined_table, renumbered, entry_named, list_named}

-- Renumbering changes no place and no count; the stop at an index has the next number.
renumbered_by : (g : Stop → ℕ) → ((s : Stop) (n : ℕ) → g (record { file = n; start = s.start; end = s.end; count = s.count }) ≡ g s)
    → (n : ℕ) (ss : List Stop) (i : ℕ) → g (stop_at (renumbered n ss) i) ≡ g (stop_at ss i)
unfolding renumbered
renumbered_by g same n [] i = refl
renumbered_by g same n (s ∷ ss) zero = same s n
renumbered_by g same n (s ∷ ss) (suc i) = renumbered_by g same (suc n) ss i

-- The number less one is the index.
index_of : (ss : List Stop) (i : ℕ) → i < length ss → file_at (renumbered 1 ss) i - 1 ≡ i
index_of ss i l = omega (arith, ap (λ s. s.file) (renumbered_at 1 ss i l))

abbrev between : List Stop → ℕ → ℕ → Detour
between ss i j = record { from = file_at ss i; to = file_at ss j }

parts : {l l' m m' : List Detour} {d d' : Detour} → l ≡ l' → d ≡ d' → m ≡ m' → l ++ d ∷ m ≡ l' ++ d' ∷ m'
parts e f g = rw (e, f, g) refl

module _ (ss : List Stop) where
  -- So the plan of the table is the same.
  same_plan : (price n : ℕ) → best_plan price (renumbered 1 ss) n ≡ best_plan price ss n
  same_plan price n =
      let starts : left_at (renumbered 1 ss) ≡ left_at ss = fun_ext (renumbered_by (λ s. s.start) (λ s n. refl) 1 ss) in
      let ends : right_at (renumbered 1 ss) ≡ right_at ss = fun_ext (renumbered_by (λ s. s.end) (λ s n. refl) 1 ss) in
      let counts : count_at (renumbered 1 ss) ≡ count_at ss = fun_ext (renumbered_by (λ s. s.count) (λ s n. refl) 1 ss) in
      ap (λ L. best L (right_at (renumbered 1 ss)) (count_at (renumbered 1 ss)) price 0 n 0) starts
      ∙ ap (λ R. best (left_at ss) R (count_at (renumbered 1 ss)) price 0 n 0) ends
      ∙ ap (λ C. best (left_at ss) (right_at ss) C price 0 n 0) counts

  between_named : (i j : ℕ) → i < length ss → j < length ss → entry_named ss (between (renumbered 1 ss) i j) ≡ between ss i j
  between_named i j l h = ap (λ x. between ss x (file_at (renumbered 1 ss) j - 1)) (index_of ss i l) ∙ ap (between ss i) (index_of ss j h)

  -- The detours of a plan, by first files and by numbers.
  named_detours : (p : Plan) (a b : ℕ) → Over p a b → b < length ss → plan_detours (file_at ss) p b ≡ list_named ss (plan_detours (file_at (renumbered 1 ss)) p b)
  unfolding plan_detours list_named
  named_detours empty a b o l = refl
  named_detours (skip p) a zero o l = absurd o
  named_detours (skip p) a (suc b) o l = named_detours p a b o.1 (omega arith)
  named_detours (detour d inner rest) a zero o l = absurd o
  named_detours (detour d inner rest) a (suc b) o l =
      let numbered = plan_detours (file_at (renumbered 1 ss)) in
      parts (named_detours inner (suc d) b o.2 (omega arith)) (sym (between_named (suc d) (suc b) (omega arith) l)) (named_detours rest a d o.3 (omega arith))
      ∙ sym (map-append (entry_named ss) (numbered inner b) (between (renumbered 1 ss) (suc d) (suc b) ∷ numbered rest d))

named_least : (price : ℕ) (ss : List Stop) → least_list price ss ≡ list_named ss (least_list price (renumbered 1 ss))
unfolding least_list list_named renumbered
named_least price [] = refl
named_least price (s ∷ ss) =
    let size : length (renumbered 2 ss) ≡ length ss = renumbered_length 2 ss in
    named_detours (s ∷ ss) (best_plan price (s ∷ ss) (length ss)) 0 (length ss) (best_over (left_at (s ∷ ss)) (right_at (s ∷ ss)) (count_at (s ∷ ss)) price 0 (length ss) 0) (omega arith)
    ∙ ap (λ p. list_named (s ∷ ss) (plan_detours (file_at (renumbered 1 (s ∷ ss))) p (length ss))) (sym (same_plan (s ∷ ss) price (length ss)))
    ∙ ap (λ n. list_named (s ∷ ss) (plan_detours (file_at (renumbered 1 (s ∷ ss))) (best_plan price (renumbered 1 (s ∷ ss)) n) n)) (sym size)

-- Renumbered and pulled, either way round; and the names of pulled stops.
renumbered_pulled : (m n : ℕ) (ss : List Stop) → renumbered n (pulled m ss) ≡ pulled m (renumbered n ss)
unfolding renumbered pulled
renumbered_pulled m n [] = refl
renumbered_pulled m n (s ∷ ss) = ap (λ l. record { file = n; start = smaller s.start m; end = s.end; count = s.count } ∷ l) (renumbered_pulled m (suc n) ss)

name_pulled : (m : ℕ) (ss : List Stop) (i : ℕ) → (stop_at (pulled m ss) i).file ≡ (stop_at ss i).file
unfolding pulled
name_pulled m [] i = refl
name_pulled m (s ∷ ss) zero = refl
name_pulled m (s ∷ ss) (suc i) = name_pulled m ss i

list_pulled : (m : ℕ) (ss : List Stop) (list : List Detour) → list_named (pulled m ss) list ≡ list_named ss list
unfolding list_named
list_pulled m ss [] = refl
list_pulled m ss (d ∷ list) = rw (name_pulled m ss (d.from - 1), name_pulled m ss (d.to - 1)) (ap (λ l. entry_named ss d ∷ l) (list_pulled m ss list))

module _ (r : Run) (accepts : refuses (judge_any_of r) ≡ false) where
  ok : refuses (judge_of (lifted r)) ≡ false
  ok = rw (judge_any_lem r) at accepts

  top : ℕ
  top = (lifted r).head

  sound : Sound (stops_of r) top
  unfolding top
  sound = accepted_sound (lifted r) ok

  numbered_sound : Sound (renumbered 1 (stops_of r)) top
  unfolding top
  numbered_sound = subst (λ ss. Sound ss (lifted r).head) (joined_stops (lifted r) ok) (accepted_sound (joined_table (lifted r)) (joined_accepted (lifted r) ok))

  -- The list of the table by first files.
  named_any : least_list r.turn (pulled r.head (stops_of r)) ≡ list_named (stops_of r) (least_list r.turn (pulled r.head (renumbered 1 (stops_of r))))
  named_any =
      named_least r.turn (pulled r.head (stops_of r))
      ∙ list_pulled r.head (stops_of r) (least_list r.turn (renumbered 1 (pulled r.head (stops_of r))))
      ∙ ap (λ ss. list_named (stops_of r) (least_list r.turn ss)) (renumbered_pulled r.head 1 (stops_of r))

  pub least_named : (list : List Detour) → LeastAny (joined_table r) list → LeastAny r (list_named (stops_of r) list)
  least_named list least =
      let numbered = subst (λ ss. LeastAnyFor r.turn r.head ss list) (joined_stops (lifted r) ok) least in
      let one = least_any_unique r.turn r.head (renumbered 1 (stops_of r)) list (least_list r.turn (pulled r.head (renumbered 1 (stops_of r)))) numbered (least_any r.turn r.head top (renumbered 1 (stops_of r)) numbered_sound) in
      subst (LeastAnyFor r.turn r.head (stops_of r)) (named_any ∙ ap (list_named (stops_of r)) (sym one)) (least_any r.turn r.head top (stops_of r) sound)
