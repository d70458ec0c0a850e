-- Stops under other names, in one order: lists with these names are well formed, walk and are least as before.
use Prim.Native.Nat.{ℕ, zero, suc, ◌+◌, ◌≤◌, ◌<◌}
use mathlib.Core.Path.{◌≡◌, refl, sym, ap, ◌∙◌, fun_ext}
use mathlib.Core.Bool.{Bool, true, false, cond, ◌||◌, true≢false}
use mathlib.Core.Logic.{by_cases, ⊎_elim}
use mathlib.Core.List.{List, [], ◌∷◌, map, map-append}
use native.Mathlib.Omega.{arith}
use native.Mathlib.Decide.{dec_lt}
use native.Mathlib.Nat.{le_refl}
use lib.ListN.{length, get_or, length-map}
use lib.Dec.{leb, ltb, eqb}
use borrow.Author.Tests.{eqb-true, eq-eqb, ne_eqb, le-ltb, lt-ltb, le-leb, lt-leb}
use Rattle.refusals.specs.Refusals.{first_where}
use Rattle.walk.specs.declared.Head.{Head}
use Rattle.walk.specs.declared.Leg.{Leg}
use Rattle.runs.specs.Run.{Stop, join_to, joined}
use Rattle.runs.specs.Rows.{stop_at}
use Rattle.runs.specs.Judging.{right_end}
use Rattle.runs.specs.Lists.{Detour, wanted, leftmost, entry_of, bad_alone, bad_after, bad_entry, first_bad_entry}
use Rattle.runs.specs.AnyHead.{smaller, pulled, past_head, bad_entry_any, first_bad_entry_any}
use Rattle.walk.specs.Walk.{served, time_of, times_of, leg_for, legs_for, sum_of}
use Rattle.walk.specs.Detours.{start_of, end_of, leg_of, unread_end, sweep_end, last_sweep, legs_of}
use Rattle.walk.specs.AnyHead.{legs_any_of}
use Rattle.runs.proofs.Search.{true_or_false, any_same}
use Rattle.runs.proofs.Joined.{Places, by_name, join_none, join_same, join_other}
use Rattle.walk.proofs.Joins.{served_same, time_same, leg_same}
use Rattle.least.specs.Recurrence.{Plan, empty, skip, detour, plan_detours, file_at, left_at, right_at, count_at, best, best_plan, least_list}
use Rattle.least.proofs.Rising.{rises_by_steps}
use Rattle.demands.specs.Unwanted.{Renumbers, RenumbersGoOn, renamed}

either : {a a' b b' : Bool} → a ≡ a' → b ≡ b' → (a || b) ≡ (a' || b')
either p q = rw (p, q) refl

module _ (old : ℕ → ℕ) (names : Renumbers old) where
  -- Old numbers compare as the new ones do.
  pub old_up : (f g : ℕ) → f ≤ g → old f ≤ old g
  old_up f g l = by_cases (dec_lt f g) (λ h. omega (arith, names.rises f g h)) (λ h. let e : f ≡ g = omega arith in rw e (omega arith))

  pub old_back : (f g : ℕ) → old f ≤ old g → f ≤ g
  old_back f g l = by_cases (dec_lt g f) (λ h. absurd (omega (arith, names.rises g f h))) (λ h. omega arith)

  pub old_one : (f g : ℕ) → old f ≡ old g → f ≡ g
  old_one f g e = omega (arith, old_back f g (omega arith), old_back g f (omega arith))

  pub old_above : (f : ℕ) → f ≤ old f
  old_above zero = omega arith
  old_above (suc f) = omega (arith, old_above f, names.rises f (suc f) (omega arith))

  pub old_some : (f : ℕ) → 0 < f → 0 < old f
  old_some f l = omega (arith, old_above f)

  pub eqb_old : (f g : ℕ) → eqb (old f) (old g) ≡ eqb f g
  eqb_old f g =
      by_cases (dec_lt f g) (λ h. ne_eqb (old f) (old g) (λ e. omega (arith, old_one f g e)) ∙ sym (ne_eqb f g (λ e. omega arith)))
      (λ h. by_cases (dec_lt g f) (λ k. ne_eqb (old f) (old g) (λ e. omega (arith, old_one f g e)) ∙ sym (ne_eqb f g (λ e. omega arith)))
      (λ k. let e : f ≡ g = omega arith in eq-eqb (old f) (old g) (ap old e) ∙ sym (eq-eqb f g e)))

  pub ltb_old : (f g : ℕ) → ltb (old f) (old g) ≡ ltb f g
  ltb_old f g =
      by_cases (dec_lt f g) (λ h. lt-ltb (old f) (old g) (names.rises f g h) ∙ sym (lt-ltb f g h))
      (λ h. le-ltb (old f) (old g) (old_up g f (omega arith)) ∙ sym (le-ltb f g (omega arith)))

  pub leb_old : (f g : ℕ) → leb (old f) (old g) ≡ leb f g
  leb_old f g =
      by_cases (dec_lt g f) (λ h. lt-leb (old f) (old g) (names.rises g f h) ∙ sym (lt-leb f g h))
      (λ h. le-leb (old f) (old g) (old_up f g (omega arith)) ∙ sym (le-leb f g (omega arith)))

  pub old_at : (ns : List ℕ) (i : ℕ) → get_or (map old ns) i 0 ≡ old (get_or ns i 0)
  old_at [] i = sym names.none
  old_at (n ∷ ns) zero = refl
  old_at (n ∷ ns) (suc i) = old_at ns i

  -- A stop under its old name, and several.
  abbrev pub renamedStop : Stop → Stop
  renamedStop s = record { file = old s.file; start = s.start; end = s.end; count = s.count }

  abbrev pub allRenamed : List Stop → List Stop
  allRenamed ss = map renamedStop ss

  in_place : (s : Stop) → Places (renamedStop s) s
  in_place s = record { start = refl; end = refl }

  join_renamed : (s : Stop) (ts : List Stop) → join_to (renamedStop s) (allRenamed ts) ≡ allRenamed (join_to s ts)
  join_renamed s [] = rw (join_none s, join_none (renamedStop s))
  join_renamed s (t ∷ ts) =
      by_name s t
      (λ e. rw (join_same s t ts e, join_same (renamedStop s) (renamedStop t) (allRenamed ts) (ap old e)))
      (λ n. rw (join_other s t ts n, join_other (renamedStop s) (renamedStop t) (allRenamed ts) (λ e. n (old_one s.file t.file e))))

  pub joined_renamed : (ss : List Stop) → joined (allRenamed ss) ≡ allRenamed (joined ss)
  unfolding joined
  joined_renamed [] = refl
  joined_renamed (s ∷ ss) = ap (join_to (renamedStop s)) (joined_renamed ss) ∙ join_renamed s (joined ss)

  pub right_renamed : (ss : List Stop) → right_end (allRenamed ss) ≡ right_end ss
  unfolding right_end
  right_renamed [] = refl
  right_renamed (s ∷ []) = refl
  right_renamed (s ∷ t ∷ ts) = right_renamed (t ∷ ts)

  -- Names and places, and so legs.
  wanted_renamed : (ss : List Stop) (f : ℕ) → wanted (allRenamed ss) (old f) ≡ wanted ss f
  unfolding wanted
  wanted_renamed [] f = refl
  wanted_renamed (s ∷ ss) f = rw (eqb_old s.file f, wanted_renamed ss f)

  leftmost_renamed : (ss : List Stop) → leftmost (allRenamed ss) ≡ old (leftmost ss)
  leftmost_renamed [] = sym names.none
  leftmost_renamed (s ∷ ss) = refl

  start_renamed : (ss : List Stop) (f : ℕ) → start_of (allRenamed ss) (old f) ≡ start_of ss f
  unfolding start_of
  start_renamed [] f = refl
  start_renamed (s ∷ ss) f = rw (eqb_old s.file f, start_renamed ss f)

  end_renamed : (ss : List Stop) (f : ℕ) → end_of (allRenamed ss) (old f) ≡ end_of ss f
  unfolding end_of
  end_renamed [] f = refl
  end_renamed (s ∷ ss) f = rw (eqb_old s.file f, end_renamed ss f)

  detours_renamed : (ss : List Stop) (list : List Detour) → map (leg_of (allRenamed ss)) (renamed old list) ≡ map (leg_of ss) list
  detours_renamed ss [] = refl
  detours_renamed ss (d ∷ list) = rw (start_renamed ss d.from, end_renamed ss d.to, detours_renamed ss list)

  unread_renamed : (gs : List Leg) (ss : List Stop) (e : ℕ) → unread_end gs (allRenamed ss) e ≡ unread_end gs ss e
  unfolding unread_end
  unread_renamed gs [] e = refl
  unread_renamed gs (s ∷ ss) e =
      ap (λ b. unread_end gs (allRenamed ss) (cond b e s.end)) (served_same gs (renamedStop s) s (in_place s)) ∙ unread_renamed gs ss (cond (served gs s) e s.end)

  sweep_renamed : (ss : List Stop) (list : List Detour) → last_sweep (allRenamed ss) (renamed old list) ≡ last_sweep ss list
  unfolding last_sweep sweep_end
  sweep_renamed [] list = refl
  sweep_renamed (s ∷ ss) list = rw (detours_renamed (s ∷ ss) list, unread_renamed (map (leg_of (s ∷ ss)) list) ss s.end)

  pub legs_renamed : (ss : List Stop) (list : List Detour) → legs_of (allRenamed ss) (renamed old list) ≡ legs_of ss list
  unfolding legs_of
  legs_renamed ss list = rw (detours_renamed ss list, sweep_renamed ss list)

  pub pulled_renamed : (m : ℕ) (ss : List Stop) → pulled m (allRenamed ss) ≡ allRenamed (pulled m ss)
  unfolding pulled
  pulled_renamed m [] = refl
  pulled_renamed m (s ∷ ss) = ap (λ l. record { file = old s.file; start = smaller s.start m; end = s.end; count = s.count } ∷ l) (pulled_renamed m ss)

  pub legs_any_renamed : (m : ℕ) (ss : List Stop) (list : List Detour) → legs_any_of m (allRenamed ss) (renamed old list) ≡ legs_any_of m ss list
  legs_any_renamed m ss list = ap (λ l. legs_of l (renamed old list)) (pulled_renamed m ss) ∙ legs_renamed (pulled m ss) list

  -- Times, legs told and sums.
  module _ (price : ℕ) (h : Head) (gs : List Leg) where
    pub times_renamed : (ss : List Stop) → times_of price h gs (allRenamed ss) ≡ times_of price h gs ss
    unfolding times_of
    times_renamed [] = refl
    times_renamed (s ∷ ss) = rw (time_same price gs h (renamedStop s) s (in_place s)) (ap (λ ts. time_of price h gs s ∷ ts) (times_renamed ss))

    pub sum_renamed : (ss : List Stop) → sum_of price h gs (allRenamed ss) ≡ sum_of price h gs ss
    unfolding sum_of
    sum_renamed [] = refl
    sum_renamed (s ∷ ss) = rw (time_same price gs h (renamedStop s) s (in_place s), sum_renamed ss)

  pub told_renamed : (gs : List Leg) (ss : List Stop) → legs_for gs (allRenamed ss) ≡ legs_for gs ss
  unfolding legs_for
  told_renamed gs [] = refl
  told_renamed gs (s ∷ ss) = rw (leg_same 1 gs (renamedStop s) s (in_place s)) (ap (λ ns. leg_for gs s ∷ ns) (told_renamed gs ss))

  -- Well-formed lists.
  abbrev named : Detour → Detour
  named d = record { from = old d.from; to = old d.to }

  entry_renamed : (list : List Detour) (i : ℕ) → entry_of (renamed old list) i ≡ named (entry_of list i)
  entry_renamed [] i = rw names.none
  entry_renamed (d ∷ list) zero = refl
  entry_renamed (d ∷ list) (suc i) = entry_renamed list i

  alone_renamed : (ss : List Stop) (d : Detour) → bad_alone (allRenamed ss) (named d) ≡ bad_alone ss d
  alone_renamed ss d =
      rw (wanted_renamed ss d.from, wanted_renamed ss d.to, ltb_old d.to d.from, leftmost_renamed ss, leb_old d.from (leftmost ss))

  after_renamed : (e d : Detour) → bad_after (named e) (named d) ≡ bad_after e d
  after_renamed e d = rw (leb_old e.from d.from, ltb_old d.to e.from, ltb_old e.to d.to)

  entry_bad_renamed : (ss : List Stop) (list : List Detour) (i : ℕ) → bad_entry (allRenamed ss) (renamed old list) i ≡ bad_entry ss list i
  entry_bad_renamed ss list i =
      either
      (ap (bad_alone (allRenamed ss)) (entry_renamed list i) ∙ alone_renamed ss (entry_of list i))
      (any_same (λ j. bad_after (entry_of (renamed old list) j) (entry_of (renamed old list) i)) (λ j. bad_after (entry_of list j) (entry_of list i)) i
      (λ j l. rw (entry_renamed list j, entry_renamed list i) (after_renamed (entry_of list j) (entry_of list i))))

  pub bad_renamed : (ss : List Stop) (list : List Detour) → first_bad_entry (allRenamed ss) (renamed old list) ≡ first_bad_entry ss list
  unfolding first_bad_entry
  bad_renamed ss list =
      rw (length-map list named) (ap (λ t. first_where t (length list)) (fun_ext (entry_bad_renamed ss list)))

  past_renamed : (m : ℕ) (ss : List Stop) (f : ℕ) → past_head m (allRenamed ss) (old f) ≡ past_head m ss f
  unfolding past_head
  past_renamed m [] f = refl
  past_renamed m (s ∷ ss) f = rw (ltb_old s.file f, past_renamed m ss f)

  entry_any_renamed : (m : ℕ) (ss : List Stop) (list : List Detour) (i : ℕ) → bad_entry_any m (allRenamed ss) (renamed old list) i ≡ bad_entry_any m ss list i
  entry_any_renamed m ss list i =
      rw (entry_bad_renamed ss list i)
      (ap (λ b. bad_entry ss list i || b) (rw (entry_renamed list i) (past_renamed m ss (entry_of list i).from)))

  pub bad_any_renamed : (m : ℕ) (ss : List Stop) (list : List Detour) → first_bad_entry_any m (allRenamed ss) (renamed old list) ≡ first_bad_entry_any m ss list
  unfolding first_bad_entry_any
  bad_any_renamed m ss list =
      rw (length-map list named) (ap (λ t. first_where t (length list)) (fun_ext (entry_any_renamed m ss list)))

  -- The least list: one plan, and its stops by their names.
  file_renamed : (ss : List Stop) (i : ℕ) → file_at (allRenamed ss) i ≡ old (file_at ss i)
  file_renamed [] i = sym names.none
  file_renamed (s ∷ ss) zero = refl
  file_renamed (s ∷ ss) (suc i) = file_renamed ss i

  kept_by : (g : Stop → ℕ) → ((s : Stop) → g (renamedStop s) ≡ g s) → (ss : List Stop) (i : ℕ) → g (stop_at (allRenamed ss) i) ≡ g (stop_at ss i)
  kept_by g same [] i = refl
  kept_by g same (s ∷ ss) zero = same s
  kept_by g same (s ∷ ss) (suc i) = kept_by g same ss i

  plan_renamed : (price : ℕ) (ss : List Stop) (n : ℕ) → best_plan price (allRenamed ss) n ≡ best_plan price ss n
  plan_renamed price ss n =
      let starts : left_at (allRenamed ss) ≡ left_at ss = fun_ext (kept_by (λ s. s.start) (λ s. refl) ss) in
      let ends : right_at (allRenamed ss) ≡ right_at ss = fun_ext (kept_by (λ s. s.end) (λ s. refl) ss) in
      let counts : count_at (allRenamed ss) ≡ count_at ss = fun_ext (kept_by (λ s. s.count) (λ s. refl) ss) in
      ap (λ L. best L (right_at (allRenamed ss)) (count_at (allRenamed ss)) price 0 n 0) starts
      ∙ ap (λ R. best (left_at ss) R (count_at (allRenamed ss)) price 0 n 0) ends
      ∙ ap (λ C. best (left_at ss) (right_at ss) C price 0 n 0) counts

  planned_renamed : (F : ℕ → ℕ) (p : Plan) (n : ℕ) → plan_detours (λ i. old (F i)) p n ≡ renamed old (plan_detours F p n)
  unfolding plan_detours
  planned_renamed F empty n = refl
  planned_renamed F (skip p) zero = refl
  planned_renamed F (skip p) (suc n) = planned_renamed F p n
  planned_renamed F (detour d inner rest) zero = refl
  planned_renamed F (detour d inner rest) (suc n) =
      rw (planned_renamed F inner n, planned_renamed F rest d)
      (sym (map-append named (plan_detours F inner n) (record { from = F (suc d); to = F (suc n) } ∷ plan_detours F rest d)))

  pub least_renamed : (price : ℕ) (ss : List Stop) → least_list price (allRenamed ss) ≡ renamed old (least_list price ss)
  unfolding least_list
  least_renamed price [] = refl
  least_renamed price (s ∷ ss) =
      rw (length-map ss renamedStop, plan_renamed price (s ∷ ss) (length ss))
      (ap (λ F. plan_detours F (best_plan price (s ∷ ss) (length ss)) (length ss)) (fun_ext (file_renamed (s ∷ ss)))
      ∙ planned_renamed (file_at (s ∷ ss)) (best_plan price (s ∷ ss) (length ss)) (length ss))

  -- Every list of names of these stops has old numbers alone.
  pub name_found : (ss : List Stop) (g : ℕ) → wanted (allRenamed ss) g ≡ true → (f : ℕ) × (old f ≡ g)
  unfolding wanted
  name_found [] g e = absurd (true≢false (sym e))
  name_found (s ∷ ss) g e =
      ⊎_elim (λ (t : eqb (old s.file) g ≡ true). (s.file, eqb-true _ _ t)) (λ (t : eqb (old s.file) g ≡ false). name_found ss g (rw t at e)) (true_or_false (eqb (old s.file) g))

  pub list_found : (list : List Detour) → ((i : ℕ) → i < length list → ((f : ℕ) × (old f ≡ (entry_of list i).from)) × ((f : ℕ) × (old f ≡ (entry_of list i).to)))
      → (mine : List Detour) × (list ≡ renamed old mine)
  list_found [] each = ([], refl)
  list_found (d ∷ list) each =
      let rest = list_found list (λ i l. each (suc i) (omega arith)) in
      let here = each 0 (omega arith) in
      (record { from = here.0.0; to = here.1.0 } ∷ rest.0, rw (← rest.1, here.0.1, here.1.1))

-- Old numbers that rise as far as a table goes, continued past it.
abbrev continued : ℕ → (ℕ → ℕ) → ℕ → ℕ
continued files old zero = 0
continued files old (suc i) = cond (ltb i files) (old (suc i)) (old files + suc i)

module _ (files : ℕ) (old : ℕ → ℕ) (first : 0 < files → 0 < old 1) (next : (f : ℕ) → 0 < f → f < files → old f < old (suc f)) where
  one_more : (f : ℕ) → continued files old f < continued files old (suc f)
  one_more zero = by_cases (dec_lt 0 files) (λ h. rw (lt-ltb 0 files h) (first h)) (λ h. rw (le-ltb 0 files (omega arith)) (omega arith))
  one_more (suc i) =
      by_cases (dec_lt (suc i) files)
      (λ h. rw (lt-ltb i files (omega arith), lt-ltb (suc i) files h) (next (suc i) (omega arith) h))
      (λ h. by_cases (dec_lt i files)
      (λ k. let e : suc i ≡ files = omega arith in rw (lt-ltb i files k, le-ltb (suc i) files (omega arith)) (omega (arith, ap old e)))
      (λ k. rw (le-ltb i files (omega arith), le-ltb (suc i) files (omega arith)) (omega arith)))

  as_told : (f : ℕ) → 0 < f → f ≤ files → continued files old f ≡ old f
  as_told zero l h = absurd (omega arith)
  as_told (suc i) l h = rw (lt-ltb i files h)

pub renumbers_go_on : RenumbersGoOn
renumbers_go_on files old first next = (
  continued files old,
  record { none = refl; rises = λ f g l. rises_by_steps (continued files old) g (λ n a. one_more files old first next n) f g l (le_refl g) },
  as_told files old first next,
)
