-- Rows 1 to 7 and 10 of the refusal table for a head anywhere: the judging finds the first that applies, and the check of a list decides its condition.
use Prim.Native.Nat.{ℕ, zero, suc, ◌-◌, ◌≤◌, ◌<◌}
use mathlib.Core.Path.{◌≡◌, refl, sym, ap, ◌∙◌}
use mathlib.Core.Bool.{Bool, true, false, ◌||◌, ◌&&◌, true≢false, or-true}
use mathlib.Core.Logic.{◌⊎◌, inl, inr, ⊎_elim}
use mathlib.Core.List.{List, [], ◌∷◌}
use native.Mathlib.Omega.{arith}
use lib.ListN.{length, get_or}
use lib.Dec.{ltb, eqb, leb}
use borrow.Author.Tests.{eq-eqb, eqb-true, eqb-false, ltb-true, leb-true}
use Rattle.refusals.specs.declared.Refusal.{Refusal}
use Rattle.refusals.specs.declared.Refusal.TheVariants.{FileRows, BadFile, WantRows, BadWant, TooManyReads, TurnPrice, HeadPlace, BadEntry}
use Rattle.refusals.specs.declared.Verdict.{Verdict}
use Rattle.refusals.specs.Refusals.{number_of, is_refusal, accepted, refuse_if, refuse_at, first_of, first_where}
use Rattle.refusals.proofs.Verdicts.{refuses, first_passes}
use Rattle.runs.specs.Run.{Run, Stop, last_place, highest_turn, stops_of, want_stops_of}
use Rattle.runs.specs.Rows.{stop_at}
use Rattle.runs.specs.Judging.{table_checks, wants_checks}
use Rattle.runs.specs.Lists.{list_of, wanted}
use Rattle.runs.specs.AnyHead.{head_any_checks, judge_any_of, past_head, bad_entry_any, first_bad_entry_any, list_verdict_any, lifted}
use Rattle.runs.specs.Private.{row_named, row_bad}
use Rattle.runs.proofs.Search.{true_or_false, first_same}
use Rattle.runs.proofs.Members.{and_true_both}
use Rattle.runs.proofs.Stops.{run_sound, start_of_name, wanted_at}
use Rattle.runs.proofs.Formed.{place_at}
use Rattle.runs.proofs.Entries.{bad_row, length_list, entry_row, wanted_named}
use Rattle.runs.proofs.AnyHead.{GoodAnyRun}
use Rattle.walk.proofs.AnyHead.{past_each}
use Rattle.demands.specs.RefusalTable.{NamesStop, RunApplies, SomeApplies}
use Rattle.demands.specs.AnyHead.{RunAppliesAny, NothingAppliesAny, TakesWhat01Takes, StartsPast, EntryIsBadAny, ListIsBadAny}
use Rattle.demands.proofs.Tests.{Tells, tells_below, tells_holds, tells_either, tells_reworded}
use Rattle.demands.proofs.Checks.{Decides, refused, decides_if, decides_at, decides_alone, decides_reworded, Finds, finds_none, first_of_joined, both_pass, AllRefuse, refused_iff}
use Rattle.demands.specs.Judged.{run_order}
use Rattle.demands.proofs.Judged.{table_finds, wants_find, turn_finds, run_small, none_found}
use Rattle.demands.proofs.Listed.{entry_is_bad, names_stop_lem}
use Rattle.demands.proofs.AnyLifted.{names_down, names_up, entry_down, entry_up}

-- 1 to 6 are 01's.
early_other : (k : Refusal) → number_of k ≤ 6 → k ≡ HeadPlace → ⊥
early_other k l e = omega (arith, ap number_of e)

early_01 : (r : Run) (k : Refusal) (p : ℕ) → number_of k ≤ 6 → RunAppliesAny r k p → RunApplies r k p
early_01 r k p l (RunAppliesAny.as_01 n h) = h
early_01 r k p l (RunAppliesAny.head_far h) = absurd (omega arith)

head_only : (r : Run) (p : ℕ) → RunAppliesAny r HeadPlace p → (p ≡ 0) × (last_place < r.head)
head_only r p (RunAppliesAny.as_01 n h) = absurd (n refl)
head_only r p (RunAppliesAny.head_far h) = (refl, h)

pub any_small : (r : Run) {k : Refusal} {p : ℕ} → RunAppliesAny r k p → number_of k ≤ 7
any_small r (RunAppliesAny.as_01 n h) = run_small r h
any_small r (RunAppliesAny.head_far h) = omega arith

module _ (r : Run) (applies : Refusal → ℕ → Type 0) (there : (k : Refusal) (p : ℕ) → RunAppliesAny r k p → applies k p)
    (back : (k : Refusal) (p : ℕ) → number_of k ≤ 7 → applies k p → RunAppliesAny r k p) where
  sooner : (k : Refusal) (p : ℕ) → number_of k ≤ 6 → RunApplies r k p → applies k p
  sooner k p l h = there k p (RunAppliesAny.as_01 (early_other k l) h)

  sooner_back : (k : Refusal) (p : ℕ) → number_of k ≤ 6 → applies k p → RunApplies r k p
  sooner_back k p l h = early_01 r k p l (back k p (omega arith) h)

  head_decides_here : Decides HeadPlace (applies HeadPlace) (refuse_if (ltb last_place r.head) HeadPlace)
  head_decides_here =
      decides_reworded (λ p h. rw h.0 (there HeadPlace 0 (RunAppliesAny.head_far h.1))) (λ p h. head_only r p (back HeadPlace p (omega arith) h))
      (decides_if _ HeadPlace (tells_below last_place r.head))

  pub run_any_finds : (rest : List Refusal) (vs : List Verdict) → (refuses (judge_any_of r) ≡ false → Finds applies rest (first_of vs))
      → Finds applies (FileRows ∷ BadFile ∷ WantRows ∷ BadWant ∷ TooManyReads ∷ TurnPrice ∷ HeadPlace ∷ rest) (first_of (judge_any_of r ∷ vs))
  unfolding judge_any_of
  run_any_finds rest vs others =
      let table = first_of (table_checks r.starts r.lengths r.aggregates) in
      let wants = first_of (wants_checks (length r.starts) r.numbers r.counts) in
      let head = first_of (head_any_checks r.turn r.head) in
      rw
      (first_of_joined (table ∷ wants ∷ head ∷ []) vs)
      (table_finds r applies sooner sooner_back (WantRows ∷ BadWant ∷ TooManyReads ∷ TurnPrice ∷ HeadPlace ∷ rest) (wants ∷ head ∷ vs)
      (λ a. wants_find r applies sooner sooner_back (TurnPrice ∷ HeadPlace ∷ rest) (head ∷ vs)
      (λ b. turn_finds r applies sooner sooner_back (refuse_if (ltb last_place r.head) HeadPlace) rest vs head_decides_here
      (λ c. others (both_pass table (wants ∷ head ∷ []) a (both_pass wants (head ∷ []) b (both_pass head [] c refl)))))))

pub takes_what_01_takes : TakesWhat01Takes
takes_what_01_takes r n k p (RunAppliesAny.as_01 other h) = n k p h
takes_what_01_takes r n k p (RunAppliesAny.head_far h) = n HeadPlace 0 (RunApplies.head_far h)

-- A run that nothing of 1 to 7 applies to is accepted.
module _ (r : Run) where
  none_of_any : (order : List Refusal) → NothingAppliesAny r → SomeApplies (RunAppliesAny r) order → ⊥
  none_of_any [] n s = s
  none_of_any (k ∷ order) n s = ⊎_elim (λ h. n k h.0 h.1) (none_of_any order n) s

  judged_finds : Finds (RunAppliesAny r) run_order (first_of (judge_any_of r ∷ []))
  judged_finds = run_any_finds r (RunAppliesAny r) (λ k p h. h) (λ k p l h. h) [] [] (λ a. finds_none (RunAppliesAny r))

  pub nothing_judged_any : NothingAppliesAny r → refuses (judge_any_of r) ≡ false
  nothing_judged_any n = none_found (RunAppliesAny r) (judge_any_of r) judged_finds (refl, (refl, (refl, (refl, (refl, (refl, (refl, tt))))))) (none_of_any run_order n)

  some_of_01 : {k : Refusal} {p : ℕ} → (k ≡ HeadPlace → ⊥) → RunApplies r k p → SomeApplies (RunAppliesAny r) run_order
  some_of_01 n (RunApplies.file_rows h) = inl (0, RunAppliesAny.as_01 n (RunApplies.file_rows h))
  some_of_01 {p = p} n (RunApplies.bad_file h) = inr (inl (p, RunAppliesAny.as_01 n (RunApplies.bad_file h)))
  some_of_01 n (RunApplies.want_rows h) = inr (inr (inl (0, RunAppliesAny.as_01 n (RunApplies.want_rows h))))
  some_of_01 {p = p} n (RunApplies.bad_want h) = inr (inr (inr (inl (p, RunAppliesAny.as_01 n (RunApplies.bad_want h)))))
  some_of_01 n (RunApplies.many_reads h) = inr (inr (inr (inr (inl (0, RunAppliesAny.as_01 n (RunApplies.many_reads h))))))
  some_of_01 n (RunApplies.turn_price h) = inr (inr (inr (inr (inr (inl (0, RunAppliesAny.as_01 n (RunApplies.turn_price h)))))))
  some_of_01 n (RunApplies.head_far h) = absurd (n refl)
  some_of_01 n (RunApplies.head_near a w h) = absurd (n refl)

  some_of_any : {k : Refusal} {p : ℕ} → RunAppliesAny r k p → SomeApplies (RunAppliesAny r) run_order
  some_of_any (RunAppliesAny.as_01 n h) = some_of_01 n h
  some_of_any (RunAppliesAny.head_far h) = inr (inr (inr (inr (inr (inr (inl (0, RunAppliesAny.head_far h)))))))

  pub judged_nothing_any : refuses (judge_any_of r) ≡ false → NothingAppliesAny r
  judged_nothing_any e k p h =
      let found : Finds (RunAppliesAny r) run_order accepted = rw (first_passes (judge_any_of r) [] e) at judged_finds in
      (refused_iff (RunAppliesAny r) found (refl, (refl, (refl, (refl, (refl, (refl, (refl, tt)))))))).1 (some_of_any h) refl

-- A stop of a smaller name that starts at or right of the head.
record Passed (m : ℕ) (ss : List Stop) (f : ℕ) : Type 0 where
  index : ℕ
  within : index < length ss
  smaller : (stop_at ss index).file < f
  right : m ≤ (stop_at ss index).start

find_passed : (m : ℕ) (ss : List Stop) (f : ℕ) → past_head m ss f ≡ true → Passed m ss f
unfolding past_head
find_passed m [] f e = absurd (true≢false (sym e))
find_passed m (s ∷ ss) f e =
    let rest = find_passed m ss f in
    ⊎_elim
    (λ (here : (ltb s.file f && leb m s.start) ≡ true).
    let both = and_true_both _ _ here in
    record { index = 0; within = omega arith; smaller = ltb-true _ _ both.0; right = leb-true _ _ both.1 })
    (λ (away : (ltb s.file f && leb m s.start) ≡ false).
    let later = rest (rw away at e) in
    record { index = suc later.index; within = omega (arith, later.within); smaller = later.smaller; right = later.right })
    (true_or_false (ltb s.file f && leb m s.start))

name_wanted : (ss : List Stop) (i : ℕ) → i < length ss → wanted ss (stop_at ss i).file ≡ true
unfolding wanted
name_wanted [] i l = absurd (omega arith)
name_wanted (s ∷ ss) zero l = rw (eq-eqb s.file s.file refl)
name_wanted (s ∷ ss) (suc i) l = rw (name_wanted ss i (omega arith), or-true)

-- 10, for an accepted run.
module _ (r : Run) (good : GoodAnyRun r) where
  same : length r.counts ≡ length r.numbers
  same = sym good.run.wants.equal

  -- Where a stop starts, by its name.
  pub start_named : (i : ℕ) → i < length (stops_of r) → (stop_at (stops_of r) i).start ≡ get_or r.starts ((stop_at (stops_of r) i).file - 1) 0
  start_named i l =
      let w = name_wanted (stops_of r) i l in
      sym (place_at (stops_of r) (lifted r).head (run_sound (lifted r) good.run) (λ s. s.start) i l)
      ∙ start_of_name r.starts r.lengths r.aggregates r.numbers r.counts (stop_at (stops_of r) i).file w

  -- Its name is one.
  pub stop_names : (i : ℕ) → i < length (stops_of r) → NamesStop r (stop_at (stops_of r) i).file
  stop_names i l =
      let name = (stop_at (stops_of r) i).file in
      names_down r ((names_stop_lem (lifted r) good.run name).when_true (sym (wanted_named r.starts r.lengths r.aggregates r.numbers r.counts same name) ∙ name_wanted (stops_of r) i l))

  past_starts : (f : ℕ) → past_head r.head (stops_of r) f ≡ true → StartsPast r f
  past_starts f e =
      let p = find_passed r.head (stops_of r) f e in
      record {
        stop = (stop_at (stops_of r) p.index).file;
        names = stop_names p.index p.within;
        smaller = p.smaller;
        right = omega (arith, p.right, start_named p.index p.within);
      }

  not_past_starts : (f : ℕ) → past_head r.head (stops_of r) f ≡ false → StartsPast r f → ⊥
  not_past_starts f e s =
      let row = tells_holds (row_named r.aggregates r.numbers s.stop) (names_stop_lem (lifted r) good.run s.stop) (names_up r s.names) in
      let w = wanted_named r.starts r.lengths r.aggregates r.numbers r.counts same s.stop ∙ row in
      let at = wanted_at (stops_of r) s.stop w in
      let left = past_each r.head (stops_of r) f e at.index at.within (omega (arith, at.is, s.smaller)) in
      let start = start_named at.index at.within in
      omega (arith, left, start ∙ ap (λ n. get_or r.starts (n - 1) 0) at.is, s.right)

  past_tells : (f : ℕ) → Tells (past_head r.head (stops_of r) f) (StartsPast r f)
  past_tells f = record { when_true = past_starts f; when_false = not_past_starts f }

  module _ (froms tos : List ℕ) where
    row_bad_any : ℕ → Bool
    row_bad_any i = row_bad r.aggregates r.numbers froms tos i || past_head r.head (stops_of r) (get_or froms i 0)

    row_tells : (i : ℕ) → Tells (row_bad_any i) (EntryIsBadAny r froms tos i)
    unfolding row_bad_any
    row_tells i =
        tells_either (row_bad r.aggregates r.numbers froms tos i) (past_head r.head (stops_of r) (get_or froms i 0))
        (tells_reworded (entry_down r froms tos i) (entry_up r froms tos i) (entry_is_bad (lifted r) good.run froms tos i))
        (past_tells (get_or froms i 0))

    first_row_here : length froms ≡ length tos → first_bad_entry_any r.head (stops_of r) (list_of froms tos) ≡ first_where row_bad_any (length froms)
    unfolding first_bad_entry_any row_bad_any
    first_row_here even =
        rw (length_list froms tos even)
        (first_same (bad_entry_any r.head (stops_of r) (list_of froms tos)) row_bad_any (length froms)
        (λ i l. rw (bad_row r.starts r.lengths r.aggregates r.numbers r.counts same froms tos even i l, entry_row froms tos even i l)))

    decides_entries : length froms ≡ length tos → Decides BadEntry (ListIsBadAny r froms tos) (first_of (refuse_at (first_bad_entry_any r.head (stops_of r) (list_of froms tos)) BadEntry ∷ []))
    decides_entries even =
        rw
        (first_row_here even)
        (decides_alone refl
        (decides_reworded
        (λ p f. inr (even, f))
        (λ p h. ⊎_elim (λ u. absurd (u.1 even)) (λ f. f.1) h)
        (decides_at row_bad_any (EntryIsBadAny r froms tos) (length froms) row_tells BadEntry)))

    pub decides_list_any : Decides BadEntry (ListIsBadAny r froms tos) (list_verdict_any r.head (stops_of r) froms tos)
    unfolding list_verdict_any
    decides_list_any = go (eqb (length froms) (length tos)) refl
      where
        go : (b : Bool) → eqb (length froms) (length tos) ≡ b → Decides BadEntry (ListIsBadAny r froms tos) (list_verdict_any r.head (stops_of r) froms tos)
        go true e = rw e (decides_entries (eqb-true (length froms) (length tos) e))
        go false e = refused 0 (rw e) (inl (refl, eqb-false (length froms) (length tos) e))
